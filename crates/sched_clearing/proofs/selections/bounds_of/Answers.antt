use Rattle.std.proofs.Common.{◌≡◌, ◌∙◌, ap, ℕ, List, take, arith}
use Rattle.std.proofs.lemmas.List.{take_all}
use Rattle.run_planner.specs.Index.{has_date}
use Rattle.sched_clearing.proofs.selections.bounds_of.Goals as goal

pub returns : goal.returns
returns c d e =
    let ds : List ℕ = c.args.dates.now in
    let all : take c.loop-date.date-index ds ≡ ds = take_all c.loop-date.date-index ds (omega (arith, c.loop-date-test.false)) in
    c.loop-date.invariant d (ap (λ (xs : List ℕ). has_date xs d) all ∙ e)
