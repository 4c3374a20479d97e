-- What a draft says of its touched runs, in the words of marks.
use Rattle.std.proofs.Common.{◌≡◌, ◌∙◌, refl, ap, subst, ℕ, suc, ◌+◌, List, [], ◌∷◌, map, None, true, arith}
use Rattle.std.specs.List.{AllByRecursion}
use Rattle.run_lists.specs.Marks as lists
use Rattle.run_lists.specs.Overlays.{AreAllTouched}
use Rattle.run_lists.proofs.PastLemmas.{rises_over}
use Rattle.sched_model.specs.Lists.{rises}
use Rattle.sched_model.specs.Schedule.{run_before}
use Rattle.sched_model.specs.Settle.{move}
use Rattle.sched_laws.specs.Stages.{IsOrdered}
use Rattle.sched_draft.specs.Drafts.{DraftValue, SameDags}
use Rattle.sched_state.specs.declared.runs.Run.{Run}
use Rattle.sched_settling.specs.Touched.{Mark, Kept, Changed, Added, Over, IsTouched, positions_of}

abbrev pub kind : lists.Mark → Mark
kind (lists.Kept r) = Kept
kind (lists.Changed r s) = Changed
kind (lists.Added s) = Added

abbrev pub kinds : List lists.Mark → List Mark
kinds ms = map kind ms

over_kinds : (ms : List lists.Mark) → AllByRecursion lists.KeepsKey ms → Over (kinds ms) (lists.base_of ms) (lists.runs_of ms)
over_kinds [] h = tt
over_kinds (lists.Kept r ∷ ms) h = (refl, over_kinds ms h.1)
over_kinds (lists.Changed r s ∷ ms) h = (h.0.0, (h.0.1, over_kinds ms h.1))
over_kinds (lists.Added s ∷ ms) h = over_kinds ms h.1

shift : (n : ℕ) (xs : List ℕ) → map (λ k. (n + 1) + k) xs ≡ map (λ k. n + k) (map suc xs)
shift n [] = refl
shift n (x ∷ xs) = let e : (n + 1) + x ≡ n + suc x = omega arith in ap (λ y. y ∷ map (λ k. (n + 1) + k) xs) e ∙ ap (λ ys. (n + suc x) ∷ ys) (shift n xs)

positions_from : (n : ℕ) (ms : List lists.Mark) → lists.touched_from n ms ≡ map (λ k. n + k) (positions_of (kinds ms))
positions_from n [] = refl
positions_from n (lists.Kept r ∷ ms) = positions_from (n + 1) ms ∙ shift n (positions_of (kinds ms))
positions_from n (lists.Changed r s ∷ ms) =
    let e : n ≡ n + 0 = omega arith in ap (λ y. y ∷ lists.touched_from (n + 1) ms) e ∙ ap (λ ys. (n + 0) ∷ ys) (positions_from (n + 1) ms ∙ shift n (positions_of (kinds ms)))
positions_from n (lists.Added s ∷ ms) =
    let e : n ≡ n + 0 = omega arith in ap (λ y. y ∷ lists.touched_from (n + 1) ms) e ∙ ap (λ ys. (n + 0) ∷ ys) (positions_from (n + 1) ms ∙ shift n (positions_of (kinds ms)))

from_zero : (xs : List ℕ) → map (λ k. 0 + k) xs ≡ xs
from_zero [] = refl
from_zero (x ∷ xs) = let e : 0 + x ≡ x = omega arith in ap (λ y. y ∷ map (λ k. 0 + k) xs) e ∙ ap (λ ys. x ∷ ys) (from_zero xs)

-- the touched runs as marks
pub record AreMarked (ps : List ℕ) (a b : List Run) : Type 0 where
  pub marks : List Mark
  pub positions : ps ≡ positions_of marks
  pub over : Over marks a b

pub marked_is : (ps ns : List ℕ) (a b : List Run) → ps ≡ ns → AreAllTouched ns a b → AreMarked ps a b
marked_is ps ns a b e t = record {
  marks = kinds t.marks;
  positions = e ∙ t.positions ∙ positions_from 0 t.marks ∙ from_zero (positions_of (kinds t.marks));
  over = subst (λ xs. Over (kinds t.marks) xs b) t.over.base (subst (λ ys. Over (kinds t.marks) (lists.base_of t.marks) ys) t.over.runs (over_kinds t.marks t.over.keys));
}

pub touched_is : (d : DraftValue) (ps : List ℕ) → ps ≡ d.touched → AreAllTouched d.touched d.base.runs d.content.runs → move d.base ≡ None → IsOrdered d.base → SameDags d.base d.content → IsTouched d.base.runs ps d.content
touched_is d ps e t still ordered dags =
    let m = marked_is ps d.touched d.base.runs d.content.runs e t in
    record { base = d.base; marks = m.marks; runs = refl; still = still; ordered = ordered; positions = m.positions; over = m.over; dags = dags }

-- the runs that were there stand in their order, too
pub base_rises : (ns : List ℕ) (a b : List Run) → AreAllTouched ns a b → rises run_before b ≡ true → rises run_before a ≡ true
base_rises ns a b t rise = rises_over t.marks a b t.over rise
