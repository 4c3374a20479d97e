use Rattle.std.proofs.Common.{◌≡◌, ◌∙◌, ℕ, List, ap, sym, subst, drop, length, true, arith}
use Rattle.sched_settling.specs.Marks.{IsCovered, are_within}
use Rattle.sched_settling.specs.Touched.{near_marks}
use Rattle.sched_settling.proofs.TouchedLemmas.{marks_cover}
use Rattle.sched_settling.proofs.marking.marks_from.Goals as goal

pub returns : goal.returns
returns c = λ a count ds es.
    let ps : List ℕ = c.args.touched.now in
    let over = c.loop-index-test.false in
    let first : c.loop-index.index ≡ 0 = omega arith in
    let marks : c.loop-index.marks.items ≡ near_marks (length a.runs) ps =
    c.loop-index.invariant.marks ∙ (ap (λ i. near_marks c.args.count (drop i ps)) first ∙ ap (λ n. near_marks n ps) count) in
    subst (λ (ms : List ℕ). IsCovered ms a) (sym marks)
    (marks_cover a ps c.requires.rising (subst (λ (n : ℕ). are_within n ps ≡ true) count c.requires.within) ds es)
