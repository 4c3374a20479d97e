use Rattle.std.proofs.Common.{◌∙◌, ap, sym, List, eqb, arith}
use Rattle.std.proofs.lemmas.List.{take_all}
use Rattle.std.specs.List.{list_any}
use Rattle.cron_timetable.specs.declared.timetables.Interval.{Interval}
use Rattle.run_planner.proofs.AnewLemmas.{starts_have}
use Rattle.run_planner.proofs.replanning.index_of.Goals as goal

pub returns : goal.returns
returns c d =
    let is : List Interval = c.args.intervals.now in
    let whole = take_all c.loop-interval.interval-index is (omega (arith, c.loop-interval-test.false, c.loop-interval.auto.interval-index-end)) in
    c.loop-interval.invariant.dates d ∙ (ap (list_any (λ (i : Interval). eqb i.start d)) whole ∙ sym (starts_have is d))
