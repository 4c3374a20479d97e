-- The runs at the touched positions.
use Rattle.std.proofs.Common.{◌≡◌, ◌∙◌, refl, sym, ap, ℕ, ◌+◌, List, [], ◌∷◌, ◌++◌, true, false, cond, flat_map, slice_get, add-one}
use Rattle.std.specs.Option.{option_to_list}
use Rattle.sched_state.specs.declared.runs.Run.{Run}
use Rattle.run_lists.specs.Marks.{Mark, Kept, Changed, Added, Over, is_touched, touched_runs, runs_of, touched_from, touched_in}

abbrev pub picked : List Run → List ℕ → List Run
picked b ns = flat_map (λ n. option_to_list (slice_get b n)) ns

next_get : (r : Run) (b : List Run) (n : ℕ) → slice_get (r ∷ b) (n + 1) ≡ slice_get b n
next_get r b n = rw add-one refl

picked_next : (r : Run) (b : List Run) (n : ℕ) (ms : List Mark) → picked (r ∷ b) (touched_from (n + 1) ms) ≡ picked b (touched_from n ms)
picked_next r b n [] = refl
picked_next r b n (m ∷ ms) = elim (is_touched m) as (λ c. picked (r ∷ b) (cond c ((n + 1) ∷ touched_from ((n + 1) + 1) ms) (touched_from ((n + 1) + 1) ms)) ≡ picked b (cond c (n ∷ touched_from (n + 1) ms) (touched_from (n + 1) ms))) [
  | true ↦ ap (λ o. option_to_list o ++ picked (r ∷ b) (touched_from ((n + 1) + 1) ms)) (next_get r b n) ∙ ap (λ qs. option_to_list (slice_get b n) ++ qs) (picked_next r b (n + 1) ms)
  | false ↦ picked_next r b (n + 1) ms
]

picked_all : (ms : List Mark) → picked (runs_of ms) (touched_in ms) ≡ touched_runs ms
picked_all [] = refl
picked_all (Kept r ∷ ms) = picked_next r (runs_of ms) 0 ms ∙ picked_all ms
picked_all (Changed r s ∷ ms) = ap (λ qs. s ∷ qs) (picked_next s (runs_of ms) 0 ms ∙ picked_all ms)
picked_all (Added s ∷ ms) = ap (λ qs. s ∷ qs) (picked_next s (runs_of ms) 0 ms ∙ picked_all ms)

pub picked_over : (ms : List Mark) (a b : List Run) → Over ms a b → picked b (touched_in ms) ≡ touched_runs ms
picked_over ms a b o = ap (λ qs. picked qs (touched_in ms)) (sym o.runs) ∙ picked_all ms
