-- What a binary search finds in a list that rises by key.
use Rattle.std.proofs.Common.{◌≡◌, refl, sym, ap, ◌∙◌, ℕ, zero, suc, ◌+◌, ◌<◌, List, [], ◌∷◌, length, Bool, true, false, cond, find, Option, None, Some, Err, slice_get, get_or, true≢false, inl, inr, arith}
use Rattle.std.specs.List.Sorted.{IsSortedBy, IsBinarySearchResult, IsPartitionPoint}
use Rattle.std.specs.Cmp.{IsTotalOrder}
use Rattle.std.specs.Ordering.{ordering_reverse, is_eq, is_lt}
use Rattle.std.specs.declared.cmp.Ordering.{Ordering}
use Rattle.std.specs.declared.cmp.Ordering.TheVariants.{Less, Equal, Greater}
use Rattle.std.proofs.lemmas.Bool.{cases_lt}
use Rattle.std.proofs.lemmas.Map.Text.{is_eq-slice_cmp}
use Rattle.std.proofs.Math.Nat.{eq-or-lt_of_le}
use Rattle.std.proofs.lemmas.List.Sorted.{searchable_from_sorted}
use Rattle.std.proofs.lemmas.Option.{slice_get_within, get_or_from_slice_get}
use Rattle.sched_state.specs.Lists.{name_cmp, is_less, same}
use Rattle.sched_state.specs.declared.graphs.LoadedGraph.{LoadedGraph}
use Rattle.sched_state.proofs.ElementLemmas.{element_at}
use Rattle.run_lists.specs.sched_model.Lists.{rises}
use Rattle.run_lists.proofs.OrderLemmas.{less_only}
use Rattle.run_lists.proofs.PastLemmas.{rises_pair}

-- ---- what is found, where one place alone passes
pub find_only : {X : Type 0} (p : X → Bool) (xs : List X) (n : ℕ) (x : X) → slice_get xs n ≡ Some x → p x ≡ true → ((m : ℕ) (z : X) → m < n → slice_get xs m ≡ Some z → p z ≡ false) → find p xs ≡ Some x
find_only {X} p [] n x e h u = absurd (let c : ◌≡◌ {A = Option X} None (Some x) = e in cc)
find_only {X} p (y ∷ ys) zero x e h u =
    let c : ◌≡◌ {A = Option X} (Some y) (Some x) = e in let q : y ≡ x = cc in
    ap (λ b. cond b (let o : Option X = Some y in o) (find p ys)) (ap p q ∙ h) ∙ e
find_only {X} p (y ∷ ys) (suc n) x e h u =
    ap (λ b. cond b (let o : Option X = Some y in o) (find p ys)) (u zero y (omega arith) refl) ∙ find_only p ys n x e h (λ m z l g. u (suc m) z (omega arith) g)

pub find_none : {X : Type 0} (p : X → Bool) (xs : List X) → ((m : ℕ) (z : X) → slice_get xs m ≡ Some z → p z ≡ false) → find p xs ≡ None
find_none p [] h = refl
find_none {X} p (y ∷ ys) h = ap (λ b. cond b (let o : Option X = Some y in o) (find p ys)) (h zero y refl) ∙ find_none p ys (λ m z g. h (suc m) z g)

-- what is not found passes nowhere
pub unfound : {X : Type 0} (p : X → Bool) (xs : List X) → find p xs ≡ None → (m : ℕ) (z : X) → slice_get xs m ≡ Some z → p z ≡ false
unfound {X} p [] e m z g = absurd (let c : ◌≡◌ {A = Option X} None (Some z) = g in cc)
unfound {X} p (y ∷ ys) e m z g = elim (p y) as (λ b. p y ≡ b → cond b (let o : Option X = Some y in o) (find p ys) ≡ None → p z ≡ false) [
  | true ↦ λ h k. absurd (let c : ◌≡◌ {A = Option X} (Some y) None = k in cc)
  | false ↦ λ h k. at_place m g h (λ n f. unfound p ys k n z f)
] refl e
  where
    at_place : (m : ℕ) → slice_get (y ∷ ys) m ≡ Some z → p y ≡ false → ((n : ℕ) → slice_get ys n ≡ Some z → p z ≡ false) → p z ≡ false
    at_place zero g h others = let c : ◌≡◌ {A = Option X} (Some y) (Some z) = g in let q : y ≡ z = cc in ap p (sym q) ∙ h
    at_place (suc m) g h others = others m g

-- ---- orders
pub eq_is : (o : Ordering) → is_eq o ≡ true → o ≡ Equal
eq_is Less e = absurd (true≢false (sym e))
eq_is Equal e = refl
eq_is Greater e = absurd (true≢false (sym e))

-- ---- a list that rises by key, and a test of its elements' keys
module _ {X K : Type 0} {R : K → K → Ordering} (total : IsTotalOrder R) (key : X → K) where
  abbrev before : X → X → Bool
  before x y = is_less (R (key x) (key y))

  sorted : (xs : List X) → rises before xs ≡ true → IsSortedBy (λ x y. is_lt (R (key x) (key y))) xs
  sorted xs h k d from below =
      let x = element_at xs k (omega arith) in
      let y = element_at xs (k + 1) below in
      let less : R (key x.0) (key y.0) ≡ Less = less_only (R (key x.0) (key y.0)) (rises_pair before xs k (k + 1) x.0 y.0 h (omega arith) x.1 y.1) in
      ap (λ z. is_lt (R (key z) (key (get_or xs k d)))) (get_or_from_slice_get xs (k + 1) y.0 d y.1)
      ∙ ap (λ z. is_lt (R (key y.0) (key z))) (get_or_from_slice_get xs k x.0 d x.1)
      ∙ ap is_lt (total.antisymm (key y.0) (key x.0) ∙ ap ordering_reverse less)

  -- what the binary search answers
  pub found_by_search : (p : X → Bool) (k : K) → ((x : X) → p x ≡ is_eq (R (key x) k)) → (xs : List X) (at : ℕ) (x : X) → rises before xs ≡ true → slice_get xs at ≡ Some x → R (key x) k ≡ Equal → find p xs ≡ Some x
  found_by_search p k tie xs at x h g e =
      find_only p xs at x g (tie x ∙ ap is_eq e)
      (λ m z l f. tie z ∙ ap is_eq (less_than z (less_only (R (key z) (key x)) (rises_pair before xs m at z x h l f g))))
    where
      less_than : (z : X) → R (key z) (key x) ≡ Less → R (key z) k ≡ Less
      less_than z l = total.antisymm (key z) k ∙ ap ordering_reverse (sym (total.congr (key x) k (key z) e)) ∙ sym (total.antisymm (key z) (key x)) ∙ l

  -- where it answers that there is none, it parts the list
  pub parted_by_search : (k : K) (xs : List X) (at : ℕ) → rises before xs ≡ true → IsBinarySearchResult (λ x. R (key x) k) xs (Err at) → IsPartitionPoint (λ y. R (key y) k ≡ Less) (λ y. R (key y) k ≡ Greater) xs at
  parted_by_search k xs at h b = b (searchable_from_sorted total key xs k (sorted xs h))

  pub missed_by_search : (p : X → Bool) (k : K) → ((x : X) → p x ≡ is_eq (R (key x) k)) → (xs : List X) (at : ℕ) → rises before xs ≡ true → IsBinarySearchResult (λ x. R (key x) k) xs (Err at) → find p xs ≡ None
  missed_by_search p k tie xs at h b = find_none p xs (λ m z g. tie z ∙ other m z g (get_or_from_slice_get xs m z z g) (slice_get_within xs m z g))
    where
      parts : IsPartitionPoint (λ y. R (key y) k ≡ Less) (λ y. R (key y) k ≡ Greater) xs at
      parts = parted_by_search k xs at h b

      other : (m : ℕ) (z : X) → slice_get xs m ≡ Some z → get_or xs m z ≡ z → m < length xs → is_eq (R (key z) k) ≡ false
      other m z g q l = elim (cases_lt m at) [
        | inl f ↦ ap (λ (y : X). is_eq (R (key y) k)) (sym q) ∙ ap is_eq (parts.0 m z (omega arith) f)
        | inr f ↦ ap (λ (y : X). is_eq (R (key y) k)) (sym q) ∙ ap is_eq (parts.1 m z f l)
      ]

  -- no element stands before one with its key
  not_before : (p : X → Bool) (k : K) → ((x : X) → p x ≡ is_eq (R (key x) k)) → (x y : X) → p x ≡ true → p y ≡ true → before x y ≡ true → ⊥
  not_before p k tie x y f g b =
      let d : R (key x) k ≡ Equal = eq_is (R (key x) k) (sym (tie x) ∙ f) in
      let e : R (key y) k ≡ Equal = eq_is (R (key y) k) (sym (tie y) ∙ g) in
      let c : R (key x) (key y) ≡ Equal = total.congr (key x) k (key y) d ∙ total.antisymm k (key y) ∙ ap ordering_reverse e in
      true≢false (sym b ∙ ap is_less c)

  -- elements with one key stand at one place
  pub one_place : (p : X → Bool) (k : K) → ((x : X) → p x ≡ is_eq (R (key x) k)) → (xs : List X) (m n : ℕ) (x y : X) → rises before xs ≡ true → slice_get xs m ≡ Some x → slice_get xs n ≡ Some y → p x ≡ true → p y ≡ true → m ≡ n
  one_place p k tie xs m n x y h e f q r = elim (cases_lt m n) [
    | inl l ↦ absurd (not_before p k tie x y q r (rises_pair before xs m n x y h l e f))
    | inr l ↦ elim (eq-or-lt_of_le l) [
      | inl c ↦ sym c
      | inr c ↦ absurd (not_before p k tie y x r q (rises_pair before xs n m y x h c f e))
    ]
  ]

-- ---- a graph by its id
abbrev pub graph_id : LoadedGraph → List ℕ
graph_id g = g.dag.spec.dag_id

pub graph_key : (id : List ℕ) (g : LoadedGraph) → same g.dag.spec.dag_id id ≡ is_eq (name_cmp g.dag.spec.dag_id id)
graph_key id g = sym (is_eq-slice_cmp g.dag.spec.dag_id id)
