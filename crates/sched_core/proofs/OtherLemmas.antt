-- Another graph in the place of the one with its id.
use Rattle.std.proofs.Common.{◌≡◌, ◌∙◌, refl, sym, ap, ℕ, zero, suc, List, [], ◌∷◌, true, false, cond, Option, Some, None, slice_get, slice_set}
use Rattle.std.specs.List.{list_all, list_any}
use Rattle.sched_state.specs.Lists.{same}
use Rattle.sched_state.specs.declared.graphs.LoadedGraph.{LoadedGraph}
use Rattle.sched_state.proofs.NameLemmas.{same_is, same_itself}
use Rattle.sched_state.proofs.OrderLemmas.{and_left, and_right, or_left, or_right}
use Rattle.sched_draft.specs.Parts.{replaced_with, with_other}
use Rattle.sched_model.specs.Lists.{rises}
use Rattle.sched_model.specs.Schedule.{graph_before}
use Rattle.sched_laws.proofs.GraphLemmas.{flip_same}
use Rattle.sched_laws.proofs.ListLemmas.{all_get}
use Rattle.sched_laws.proofs.LoadLemmas.{before_apart}

-- ---- one graph
-- it stands for the one with its id
pub other_named : (k g : LoadedGraph) → same g.dag.spec.dag_id k.dag.spec.dag_id ≡ true → replaced_with (Some k) g ≡ k
other_named k g named = ap (λ b. cond b k g) (ap (same k.dag.spec.dag_id) (same_is g.dag.spec.dag_id k.dag.spec.dag_id named) ∙ same_itself k.dag.spec.dag_id)

-- and for no other
pub other_apart : (k g : LoadedGraph) → same g.dag.spec.dag_id k.dag.spec.dag_id ≡ false → replaced_with (Some k) g ≡ g
other_apart k g apart = ap (λ b. cond b k g) (flip_same g.dag.spec.dag_id k.dag.spec.dag_id apart)

-- so ids stay
pub other_id : (k g : LoadedGraph) → (replaced_with (Some k) g).dag.spec.dag_id ≡ g.dag.spec.dag_id
other_id k g = elim (same k.dag.spec.dag_id g.dag.spec.dag_id) as (λ b. same k.dag.spec.dag_id g.dag.spec.dag_id ≡ b → (let h : LoadedGraph = cond b k g in h.dag.spec.dag_id ≡ g.dag.spec.dag_id)) [
  | true ↦ λ e. same_is k.dag.spec.dag_id g.dag.spec.dag_id e
  | false ↦ λ e. refl
] refl

-- ---- among graphs
-- where none has its id, all stay
pub others_stay : (k : LoadedGraph) (gs : List LoadedGraph) → list_any (λ (g : LoadedGraph). same g.dag.spec.dag_id k.dag.spec.dag_id) gs ≡ false → with_other (Some k) gs ≡ gs
others_stay k [] none = refl
others_stay k (g ∷ gs) none =
    ap (λ h. h ∷ with_other (Some k) gs) (other_apart k g (or_left (same g.dag.spec.dag_id k.dag.spec.dag_id) _ none))
    ∙ ap (λ hs. g ∷ hs) (others_stay k gs (or_right (same g.dag.spec.dag_id k.dag.spec.dag_id) _ none))

-- those after one that has its id have another
later_apart : (k g : LoadedGraph) → same g.dag.spec.dag_id k.dag.spec.dag_id ≡ true → (gs : List LoadedGraph) → list_all (graph_before g) gs ≡ true → list_any (λ (h : LoadedGraph). same h.dag.spec.dag_id k.dag.spec.dag_id) gs ≡ false
later_apart k g named [] before = refl
later_apart k g named (h ∷ gs) before =
    let here : same h.dag.spec.dag_id k.dag.spec.dag_id ≡ false =
    ap (same h.dag.spec.dag_id) (sym (same_is g.dag.spec.dag_id k.dag.spec.dag_id named)) ∙ flip_same g.dag.spec.dag_id h.dag.spec.dag_id (before_apart g h (and_left (graph_before g h) _ before)) in
    rw here (later_apart k g named gs (and_right (graph_before g h) _ before))

-- it is put at the place of the one that has its id
pub other_at : (k : LoadedGraph) (gs : List LoadedGraph) (i : ℕ) (g : LoadedGraph) → slice_get gs i ≡ Some g → same g.dag.spec.dag_id k.dag.spec.dag_id ≡ true → rises graph_before gs ≡ true
    → slice_set gs i k ≡ with_other (Some k) gs
other_at k [] i g at named order = absurd (let c : ◌≡◌ {A = Option LoadedGraph} None (Some g) = at in cc)
other_at k (h ∷ hs) zero g at named order =
    let c : ◌≡◌ {A = Option LoadedGraph} (Some h) (Some g) = at in
    let is : h ≡ g = cc in
    let here : same h.dag.spec.dag_id k.dag.spec.dag_id ≡ true = ap (λ (x : LoadedGraph). same x.dag.spec.dag_id k.dag.spec.dag_id) is ∙ named in
    sym (ap (λ x. x ∷ with_other (Some k) hs) (other_named k h here)
    ∙ ap (λ xs. k ∷ xs) (others_stay k hs (later_apart k h here hs (and_left (list_all (graph_before h) hs) _ order))))
other_at k (h ∷ hs) (suc i) g at named order =
    let before : graph_before h g ≡ true = all_get (graph_before h) hs i g (and_left (list_all (graph_before h) hs) _ order) at in
    let apart : same h.dag.spec.dag_id k.dag.spec.dag_id ≡ false = ap (same h.dag.spec.dag_id) (sym (same_is g.dag.spec.dag_id k.dag.spec.dag_id named)) ∙ before_apart h g before in
    ap (λ xs. h ∷ xs) (other_at k hs i g at named (and_right (list_all (graph_before h) hs) _ order)) ∙ ap (λ x. x ∷ with_other (Some k) hs) (sym (other_apart k h apart))
