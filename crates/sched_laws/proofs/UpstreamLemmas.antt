-- The upstreams of a place are few: they stand at lower places, each once.
use Rattle.std.proofs.Common.{◌≡◌, sym, ◌∙◌, ℕ, zero, suc, ◌+◌, ◌<◌, ◌≤◌, List, [], ◌∷◌, true, false, cond, not, ◌==◌, length, get_or, Some, option_map, unwrap_or, eqb, arith, inl, inr, nat_lt, nat_le, sum_by, ◌&&◌}
use Rattle.std.specs.List.{list_any, list_all, IsDistinct, AllByRecursion}
use Rattle.std.proofs.lemmas.Bool.{or_parts, or_cases, or_left, or_right, ne_eqb, eq-eqb, eqb-true, ltb-true, false≢true}
use Rattle.std.proofs.lemmas.Map.Steps.{length-le_from_distinct_below}
use Rattle.std.proofs.lemmas.Map.Keys.{IsDistinct-cons}
use Rattle.dag_check.specs.Orders.{is_in, repeated}
use Rattle.dag_check.specs.Names.{ids_of, repeats}
use Rattle.dag_check.specs.Graphs.{Dag, IsDag, ups}
use Rattle.dag_check.proofs.LawLemmas.{all-in}
use Rattle.sched_model.specs.sched_state.Lists.{same}
use Rattle.sched_model.specs.sched_state.declared.graphs.LoadedGraph.{LoadedGraph}
use Rattle.sched_model.proofs.sched_state.OrderLemmas.{and_left, and_right, not_false}
use Rattle.sched_model.specs.Lists.{map_places}
use Rattle.sched_model.specs.Schedule.{Schedule, graph_among, dag_among, dag_named, no_dag}
use Rattle.sched_model.specs.Sound.{IsSound, is_sound_row, is_sound_dag, is_sound_graph}

-- ---- different numbers below p
none_equal : (x : ℕ) (ys : List ℕ) → is_in ys x ≡ false → AllByRecursion (λ y. eqb x y ≡ false) ys
none_equal x [] e = tt
none_equal x (y ∷ ys) e =
    let parts = or_parts (y == x) (is_in ys x) e in
    (ne_eqb x y (λ f. false≢true (sym parts.0 ∙ eq-eqb y x (sym f))), none_equal x ys parts.1)

nothing : IsDistinct eqb []
unfolding IsDistinct
nothing = tt

pub distinct : (xs : List ℕ) → repeated xs ≡ false → IsDistinct eqb xs
distinct [] e = nothing
distinct (x ∷ xs) e = let parts = or_parts (is_in xs x) (repeated xs) e in IsDistinct-cons eqb x xs (none_equal x xs parts.0) (distinct xs parts.1)

flipped : (q : ℕ) (xs : List ℕ) → list_any (eqb q) xs ≡ true → is_in xs q ≡ true
flipped q [] e = e
flipped q (x ∷ xs) e = elim (or_cases (eqb q x) (list_any (eqb q) xs) e) [
  | inl here ↦ or_left (x == q) (is_in xs q) (eq-eqb x q (sym (eqb-true q x here)))
  | inr rest ↦ or_right (x == q) (is_in xs q) (flipped q xs rest)
]

pub short : (p : ℕ) (us : List ℕ) → ((u : ℕ) → is_in us u ≡ true → u < p) → repeated us ≡ false → length us ≤ p
short p us below once = length-le_from_distinct_below us p (distinct us once) (λ q there. below q (flipped q us there))

-- of a graph whose rows have nothing twice
pub ups_short : (g : Dag) (p : ℕ) → IsDag g → repeated (ups g p) ≡ false → length (ups g p) ≤ p
ups_short g p h once = short p (ups g p) (h.down p) once

-- ---- of a sound schedule
row_short : (p : ℕ) (us : List ℕ) → is_sound_row p us ≡ true → length us ≤ p
row_short p us e =
    short p us (λ u there. ltb-true u p (all-in (λ v. nat_lt v p) us u (and_left (list_all (λ v. nat_lt v p) us) _ e) there))
    (not_false (repeated us) (and_right (list_all (λ v. nat_lt v p) us) _ e))

rows_short : (i p : ℕ) (rows : List (List ℕ)) → list_all (λ b. b) (map_places is_sound_row i rows) ≡ true → length (get_or rows p []) ≤ i + p
rows_short i p [] e = omega arith
rows_short i zero (us ∷ rows) e = let h : length us ≤ i = row_short i us (and_left (is_sound_row i us) _ e) in omega arith
rows_short i (suc p) (us ∷ rows) e = let h : length (get_or rows p []) ≤ (i + 1) + p = rows_short (i + 1) p rows (and_right (is_sound_row i us) _ e) in omega arith

dag_short : (tasks edges : ℕ) (g : Dag) (p : ℕ) → is_sound_dag tasks edges g ≡ true → length (ups g p) ≤ p
dag_short tasks edges g p e =
    let h : length (ups g p) ≤ 0 + p = rows_short 0 p g.upstreams (and_right (length g.upstreams == length g.tasks) _ (and_right (not (repeats (ids_of g.tasks))) _ (and_right (nat_le (length g.tasks) tasks && nat_le (sum_by length g.upstreams) edges) _ e))) in
    omega arith

among_short : (a : Schedule) (id : List ℕ) (p : ℕ) (gs : List LoadedGraph) → list_all (is_sound_graph a) gs ≡ true → length (ups (dag_among gs id) p) ≤ p
among_short a id p [] e = omega arith
among_short a id p (g ∷ gs) e =
    elim (same g.dag.spec.dag_id id) as (λ b. length (ups (unwrap_or (option_map (λ (h : LoadedGraph). h.dag) (cond b (Some g) (graph_among gs id))) no_dag) p) ≤ p) [
      | true ↦ dag_short a.limits.tasks a.limits.edges g.dag p (and_left (is_sound_dag a.limits.tasks a.limits.edges g.dag) _ (and_left (is_sound_graph a g) _ e))
      | false ↦ among_short a id p gs (and_right (is_sound_graph a g) _ e)
    ]

pub sound_ups_short : (a : Schedule) (id : List ℕ) (p : ℕ) → IsSound a → length (ups (dag_named a id) p) ≤ p
sound_ups_short a id p s = among_short a id p a.graphs s.graphs
