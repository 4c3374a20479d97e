use Rattle.std.proofs.Common.{◌∙◌, ap, ℕ, List, length, arith}
use Rattle.cron_timetable.specs.declared.timetables.Interval.{Interval}
use Rattle.run_planner.specs.Due.{wanted_intervals}
use Rattle.run_planner.specs.Index.{has_date}
use Rattle.run_planner.specs.Spans.{starts}
use Rattle.run_planner.proofs.AnewLemmas.{told}
use Rattle.run_planner.proofs.RiseLemmas.{wanted_rise}
use Rattle.run_planner.proofs.replanning.makes_anew.Goals as goal

pub returns : goal.returns
returns c =
    let dates : List ℕ = c.args.index.now.dates in
    let old : List Interval = wanted_intervals c.args.old.now.spec c.args.now dates in
    let new : List Interval = wanted_intervals c.args.new.now.spec c.args.now dates in
    c.lacks_some.ensures
    ∙ told c.in_ok-known.known.dates c.in_ok-owed.owed.items c.deref-2.result.now old new c.len.result (wanted_rise c.args.new.now.spec c.args.now dates) (wanted_rise c.args.old.now.spec c.args.now dates)
    c.in_ok-owed.ensures
    (λ d. c.in_ok-known.ensures d ∙ ap (λ (is : List Interval). has_date (starts is) d) c.deref.ensures.value)
    (omega (arith, c.len.ensures, c.deref.ensures.len, ap length c.deref.ensures.value))
    (c.deref-2.ensures.value ∙ c.in_ok-wanted.ensures.first)
