use Rattle.std.proofs.Common.{◌≡◌, ◌∙◌, ◌-◌, ℕ, List, ap, sym, subst, length, arith}
use Rattle.std.specs.List.{range_with_len}
use Rattle.sched_settling.specs.Marks.{IsCovered}
use Rattle.sched_settling.proofs.TouchedLemmas.{every_covers}
use Rattle.sched_settling.proofs.marking.every_run.Goals as goal

pub returns : goal.returns
returns c = λ a count.
    let over = c.loop-position-test.false in
    let first : c.loop-position.position ≡ 0 = omega arith in
    let rest : c.args.count - c.loop-position.position ≡ length a.runs = omega (arith, count) in
    let marks : c.loop-position.marks.items ≡ range_with_len 0 (length a.runs) =
    c.loop-position.invariant.marks ∙ (ap (λ i. range_with_len i (c.args.count - c.loop-position.position)) first ∙ ap (range_with_len 0) rest) in
    subst (λ (ms : List ℕ). IsCovered ms a) (sym marks) (every_covers a)
