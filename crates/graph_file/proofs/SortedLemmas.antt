-- Lists that rise by an order: what is put in at its place, what is searched for, and what is kept.
use Rattle.std.proofs.Common.{◌≡◌, ◌∙◌, ℕ, zero, suc, ◌+◌, ◌≤◌, List, [], ◌∷◌, length, get_or, refl, ap, sym, arith}
use Rattle.std.proofs.lemmas.List.Elements.{All-from_recursion, recursion_from_All, All-weaker}
use Rattle.std.proofs.lemmas.Map.Keys.{sorted_head, Less-from_sorted}
use Rattle.std.proofs.lemmas.Map.Views.{All-insert_key}
use Rattle.std.specs.BTreeSet.{insert_key}
use Rattle.std.specs.Cmp.{IsTotalOrder}
use Rattle.std.specs.List.{AllByRecursion, insert}
use Rattle.std.specs.List.Sorted.{IsStrictlySortedBy, IsSorted, IsPartitionPoint}
use Rattle.std.specs.Ordering.{is_lt, ordering_reverse, match_ordering}
use Rattle.std.specs.declared.cmp.Ordering.{Ordering}
use Rattle.std.specs.declared.cmp.Ordering.TheVariants.{Less, Equal, Greater}

-- what rises strictly doesn't fall
pub sorted-from_strict : {K : Type 0} {R : K → K → Ordering} (o : IsTotalOrder R) (xs : List K) → IsStrictlySortedBy R xs → IsSorted R xs
sorted-from_strict {K} {R} o xs s k d from below =
    let e : R (get_or xs (k + 1) d) (get_or xs k d) ≡ Greater =
    o.antisymm (get_or xs (k + 1) d) (get_or xs k d) ∙ ap ordering_reverse (Less-from_sorted R xs k (k + 1) d s (omega arith) below) in
    ap is_lt e

-- what is less than the first is less than all
pub below-all : {K : Type 0} {R : K → K → Ordering} (o : IsTotalOrder R) (x y : K) (ys : List K) → R x y ≡ Less → IsStrictlySortedBy R (y ∷ ys) → AllByRecursion (λ z. R x z ≡ Less) ys
below-all {K} {R} o x y ys less s =
    recursion_from_All (λ z. R x z ≡ Less) ys (All-weaker (λ z. R y z ≡ Less) (λ z. R x z ≡ Less) (λ z h. o.trans x y z less h) ys (All-from_recursion (λ z. R y z ≡ Less) ys (sorted_head R y ys s)))

-- a key that is put in at its place
pub sorted-insert_key : {K : Type 0} {R : K → K → Ordering} (o : IsTotalOrder R) (x : K) (ys : List K) → IsStrictlySortedBy R ys → IsStrictlySortedBy R (insert_key R ys x)
unfolding IsStrictlySortedBy
sorted-insert_key {K} {R} o x [] s = (tt, tt)
sorted-insert_key {K} {R} o x (y ∷ ys) s = by (R x y) refl (sorted-insert_key o x ys s.1)
  where
    by : (r : Ordering) → R x y ≡ r → IsStrictlySortedBy R (insert_key R ys x) → IsStrictlySortedBy R (match_ordering r (x ∷ y ∷ ys) (y ∷ ys) (y ∷ insert_key R ys x))
    by Less p rest = ((p, below-all o x y ys p s), s)
    by Equal p rest = s
    by Greater p rest =
        let less : R y x ≡ Less = o.antisymm y x ∙ ap ordering_reverse p in (
          recursion_from_All (λ z. R y z ≡ Less) (insert_key R ys x) (All-insert_key R x (λ z. R y z ≡ Less) ys (All-from_recursion (λ z. R y z ≡ Less) ys s.0) less),
          rest,
        )

-- a gap between what is less and what is greater is the place
pub insert-at_gap : {K : Type 0} {R : K → K → Ordering} (o : IsTotalOrder R) (x : K) (ys : List K) (i : ℕ) → i ≤ length ys → IsPartitionPoint (λ y. R y x ≡ Less) (λ y. R y x ≡ Greater) ys i → insert ys i x ≡ insert_key R ys x
insert-at_gap {K} {R} o x [] zero in' gap = refl
insert-at_gap {K} {R} o x [] (suc i) in' gap = absurd (omega arith)
insert-at_gap {K} {R} o x (y ∷ ys) zero in' gap =
    let less : R x y ≡ Less = o.antisymm x y ∙ ap ordering_reverse (gap.1 0 y (omega arith) (omega arith)) in
    sym (ap (λ r. match_ordering r (x ∷ y ∷ ys) (y ∷ ys) (y ∷ insert_key R ys x)) less)
insert-at_gap {K} {R} o x (y ∷ ys) (suc i) in' gap =
    let greater : R x y ≡ Greater = o.antisymm x y ∙ ap ordering_reverse (gap.0 0 y (omega arith) (omega arith)) in
    let rest = insert-at_gap o x ys i (omega arith) (λ k d from below. gap.0 (suc k) d (omega arith) (omega arith), λ k d from below. gap.1 (suc k) d (omega arith) (omega arith)) in
    ap (λ zs. y ∷ zs) rest ∙ sym (ap (λ r. match_ordering r (x ∷ y ∷ ys) (y ∷ ys) (y ∷ insert_key R ys x)) greater)
