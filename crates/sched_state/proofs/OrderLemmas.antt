-- Tests, orders by one key after another, and lists under a map and an insertion.
use Rattle.std.proofs.Common.{◌≡◌, refl, sym, ap, ◌∙◌, ℕ, ◌<◌, List, [], ◌∷◌, Bool, true, false, cond, not, ◌&&◌, ◌||◌, map, arith, true≢false, nat_lt, nat_eq}
use Rattle.std.specs.List.{list_any, list_all}
use Rattle.std.specs.Cmp.{IsTotalOrder}
use Rattle.std.specs.Ordering.{nat_cmp, ordering_reverse, is_eq, ordering_then}
use Rattle.std.specs.declared.cmp.Ordering.{Ordering}
use Rattle.std.specs.declared.cmp.Ordering.TheVariants.{Less, Equal, Greater}
use Rattle.std.proofs.lemmas.Bool.{ltb-true, eqb-true, false_from_ne_true}
use Rattle.graph_file.proofs.ListLemmas.{or_swap}
use Rattle.sched_state.specs.Lists.{is_less, insert_by}

-- ---- tests
pub and_left : (b c : Bool) → (b && c) ≡ true → b ≡ true
and_left true c e = refl
and_left false c e = e

pub and_right : (b c : Bool) → (b && c) ≡ true → c ≡ true
and_right true c e = e
and_right false c e = absurd (true≢false (sym e))

pub or_left : (b c : Bool) → (b || c) ≡ false → b ≡ false
or_left true c e = e
or_left false c e = refl

pub or_right : (b c : Bool) → (b || c) ≡ false → c ≡ false
or_right true c e = absurd (true≢false e)
or_right false c e = e

pub not_false : (b : Bool) → not b ≡ true → b ≡ false
not_false true e = absurd (true≢false (sym e))
not_false false e = refl

-- ---- total orders
then_reverse : (a b : Ordering) → ordering_then (ordering_reverse a) (ordering_reverse b) ≡ ordering_reverse (ordering_then a b)
then_reverse Less b = refl
then_reverse Equal b = refl
then_reverse Greater b = refl

then_equal : (a b : Ordering) → ordering_then a b ≡ Equal → (a ≡ Equal) × (b ≡ Equal)
then_equal Less b e = cc
then_equal Equal b e = (refl, e)
then_equal Greater b e = cc

-- to the right of a tie
tied_right : {X : Type 0} {R : X → X → Ordering} → IsTotalOrder R → (x y z : X) → R y z ≡ Equal → R x z ≡ R x y
tied_right {R = R} o x y z e = o.antisymm x z ∙ ap ordering_reverse (sym (o.congr y z x e)) ∙ sym (o.antisymm x y)

chain : {X : Type 0} {R : X → X → Ordering} → IsTotalOrder R → (x y z : X) (p q s : Ordering) → (p ≡ Less → q ≡ Less → s ≡ Less)
    → (k m : Ordering) → R x y ≡ k → R y z ≡ m → ordering_then k p ≡ Less → ordering_then m q ≡ Less → ordering_then (R x z) s ≡ Less
chain o x y z p q s f Less Less a b g h = rw (o.trans x y z a b) refl
chain o x y z p q s f Less Equal a b g h = rw (tied_right o x y z b ∙ a) refl
chain o x y z p q s f Equal Less a b g h = rw (o.congr x y z a ∙ b) refl
chain o x y z p q s f Equal Equal a b g h = rw (o.congr x y z a ∙ b) (f g h)
chain o x y z p q s f Greater m a b g h = cc
chain o x y z p q s f Less Greater a b g h = cc
chain o x y z p q s f Equal Greater a b g h = cc

pub then_total : {X : Type 0} {R S : X → X → Ordering} → IsTotalOrder R → IsTotalOrder S → IsTotalOrder (λ (x y : X). ordering_then (R x y) (S x y))
then_total {X} {R} {S} r s = record {
  antisymm = λ x y. ap (λ k. ordering_then k (S x y)) (r.antisymm x y) ∙ ap (ordering_then (ordering_reverse (R y x))) (s.antisymm x y) ∙ then_reverse (R y x) (S y x);
  trans = λ x y z g h. chain r x y z (S x y) (S y z) (S x z) (s.trans x y z) (R x y) (R y z) refl refl g h;
  congr = λ x y z e. let t = then_equal (R x y) (S x y) e in
      ap (λ k. ordering_then k (S x z)) (r.congr x y z t.0) ∙ ap (ordering_then (R y z)) (s.congr x y z t.1);
}

pub on_total : {X Y : Type 0} {R : Y → Y → Ordering} (f : X → Y) → IsTotalOrder R → IsTotalOrder (λ (x y : X). R (f x) (f y))
on_total f r = record { antisymm = λ x y. r.antisymm (f x) (f y); trans = λ x y z. r.trans (f x) (f y) (f z); congr = λ x y z. r.congr (f x) (f y) (f z) }

tie_nat : (b c : Bool) → (b ≡ true → c ≡ false) → is_eq (cond b Less (cond c Equal Greater)) ≡ c
tie_nat true true h = absurd (true≢false (h refl))
tie_nat true false h = refl
tie_nat false true h = refl
tie_nat false false h = refl

pub nat_tie : (x y : ℕ) → is_eq (nat_cmp x y) ≡ nat_eq x y
nat_tie x y = tie_nat (nat_lt x y) (nat_eq x y) (λ e. false_from_ne_true (nat_eq x y) (λ f. let l : x < y = ltb-true x y e in let q : x ≡ y = eqb-true x y f in omega arith))

pub tie_then : (a b : Ordering) → is_eq (ordering_then a b) ≡ (is_eq a && is_eq b)
tie_then Less b = refl
tie_then Equal b = refl
tie_then Greater b = refl

pub less_no_tie : (k : Ordering) → is_less k ≡ true → is_eq k ≡ false
less_no_tie Less e = refl
less_no_tie Equal e = absurd (true≢false (sym e))
less_no_tie Greater e = absurd (true≢false (sym e))

pub eq_flips : (k : Ordering) → is_eq (ordering_reverse k) ≡ is_eq k
eq_flips Less = refl
eq_flips Equal = refl
eq_flips Greater = refl

-- ---- lists under a map
pub all_map : {X Y : Type 0} (q : Y → Bool) (p : X → Bool) (f : Y → X) → ((y : Y) → p (f y) ≡ q y) → (ys : List Y) → list_all p (map f ys) ≡ list_all q ys
all_map q p f h [] = refl
all_map q p f h (y ∷ ys) = rw (h y, all_map q p f h ys) refl

pub any_map : {X Y : Type 0} (q : Y → Bool) (p : X → Bool) (f : Y → X) → ((y : Y) → p (f y) ≡ q y) → (ys : List Y) → list_any p (map f ys) ≡ list_any q ys
any_map q p f h [] = refl
any_map q p f h (y ∷ ys) = rw (h y, any_map q p f h ys) refl

pub map_keeps : {X Y : Type 0} (h : X → Y) (g : X → X) → ((x : X) → h (g x) ≡ h x) → (xs : List X) → map h (map g xs) ≡ map h xs
map_keeps h g k [] = refl
map_keeps h g k (x ∷ xs) = rw (k x, map_keeps h g k xs) refl

-- ---- insertion in order
pub all_insert : {X : Type 0} (before : X → X → Bool) (p : X → Bool) (x : X) (xs : List X) → p x ≡ true → list_all p xs ≡ true → list_all p (insert_by before x xs) ≡ true
all_insert before p x [] e f = rw e refl
all_insert before p x (y ∷ ys) e f = elim (before x y) as (λ b. list_all p (elim b [ true ↦ x ∷ y ∷ ys | false ↦ y ∷ insert_by before x ys ]) ≡ true) [
  | true ↦ rw e f
  | false ↦ rw (and_left (p y) (list_all p ys) f) (all_insert before p x ys e (and_right (p y) (list_all p ys) f))
]

pub any_insert : {X : Type 0} (before : X → X → Bool) (p : X → Bool) (x : X) (xs : List X) → list_any p (insert_by before x xs) ≡ (p x || list_any p xs)
any_insert before p x [] = refl
any_insert before p x (y ∷ ys) = elim (before x y) as (λ b. list_any p (elim b [ true ↦ x ∷ y ∷ ys | false ↦ y ∷ insert_by before x ys ]) ≡ (p x || (p y || list_any p ys))) [
  | true ↦ refl
  | false ↦ rw (any_insert before p x ys) (or_swap (p y) (p x) (list_any p ys))
]

-- what ties with none may be put in
