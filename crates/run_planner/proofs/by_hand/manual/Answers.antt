use Rattle.std.proofs.Common.{◌∙◌, ap, sym, subst, arith}
use Rattle.cron_timetable.specs.Intervals.{ManualInterval}
use Rattle.graph_file.specs.declared.graph_specs.GraphSpec.{GraphSpec}
use Rattle.run_planner.specs.Index.{has_date}
use Rattle.run_planner.proofs.ByHandLemmas.{by_hand_free}
use Rattle.run_planner.proofs.by_hand.manual.Goals as goal

pub returns : goal.returns
returns c =
    let found = subst (λ (s : GraphSpec). ManualInterval s.schedule c.args.now c.manual_interval.result) c.spec.ensures.spec c.manual_interval.ensures in
    let free = ap (has_date c.args.index.now.dates) (sym c.secs.ensures.value) ∙ sym (c.if-has_at.ensures) in
    c.ok_or.ensures.value
    ∙ by_hand_free c.args.graph.now.spec c.args.now c.args.index.now.dates c.manual_interval.result (omega (arith, c.secs.ensures.value, c.secs.ensures.bound)) free found
