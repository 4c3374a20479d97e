-- The runs at the positions of those that are running, or of those that are queued.
use Rattle.std.proofs.Common.{◌≡◌, ◌∙◌, refl, ap, ℕ, suc, List, [], ◌∷◌, ◌++◌, Bool, true, length, filter, drop, Option, arith}
use Rattle.std.specs.Option.{option_to_list}
use Rattle.sched_state.specs.declared.runs.Run.{Run}
use Rattle.run_lists.specs.Positions.{positions_from, positions_where}
use Rattle.run_lists.proofs.GraphLemmas.{first_dropped}
use Rattle.sched_laws.proofs.DecisionLemmas.{by_bool}
use Rattle.sched_settling.specs.Marks.{are_within}
use Rattle.sched_settling.specs.Touched.{runs_at}
use Rattle.sched_settling.proofs.StandingLemmas.{within_from}

pub places_within : (p : Run → Bool) (rs : List Run) (ps : List ℕ) → ps ≡ positions_where p rs → are_within (length rs) ps ≡ true
places_within p rs ps e = ap (are_within (length rs)) e ∙ within_from p 0 (length rs) rs (omega arith)

runs_from : (p : Run → Bool) (all xs : List Run) (i : ℕ) → drop i all ≡ xs → runs_at all (positions_from p i xs) ≡ filter p xs
runs_from p all [] i d = refl
runs_from p all (x ∷ xs) i d =
    let f = first_dropped all i x xs d in
    by_bool {C = runs_at all (positions_from p i (x ∷ xs)) ≡ filter p (x ∷ xs)} (p x)
    (λ on. rw on (ap (λ (o : Option Run). option_to_list o ++ runs_at all (positions_from p (suc i) xs)) f.0 ∙ ap (λ (rs : List Run). x ∷ rs) (runs_from p all xs (suc i) f.1)))
    (λ off. rw off (runs_from p all xs (suc i) f.1))

pub runs_standing : (p : Run → Bool) (rs : List Run) (ps : List ℕ) → ps ≡ positions_where p rs → runs_at rs ps ≡ filter p rs
runs_standing p rs ps e = ap (runs_at rs) e ∙ runs_from p rs rs 0 refl
