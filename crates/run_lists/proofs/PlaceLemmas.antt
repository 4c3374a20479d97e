-- Positions that rise: one is put in at its place, or taken out.
use Rattle.std.proofs.Common.{◌≡◌, ◌∙◌, refl, sym, ap, ℕ, zero, suc, ◌<◌, ◌≤◌, Bool, List, [], ◌∷◌, true, false, cond, length, insert, remove, slice_get, get_or, nat_lt, nat_eq, inl, inr, true≢false, arith}
use Rattle.std.specs.Prelude.{OnOk, OnErr, OnSome, IsSome, Option, Some, None, Result, Ok, Err}
use Rattle.std.specs.List.{list_all}
use Rattle.std.specs.List.Sorted.{IsPartitionPoint, IsPartitionedBy}
use Rattle.std.proofs.lemmas.Bool.{eqb-false, ltb-true, ltb-false, lt-ltb, and_from}
use Rattle.std.proofs.lemmas.Option.{slice_get-get_or, slice_get_within}
use Rattle.std.proofs.Math.Nat.{eq-or-lt_of_le}
use Rattle.sched_state.proofs.OrderLemmas.{and_left, and_right}
use Rattle.sched_model.specs.Lists.{rises}
use Rattle.run_lists.specs.Positions.{is_position, place_of, with_position, without_position}
use Rattle.run_lists.proofs.PastLemmas.{rises_pair}

pub by_bool : {C : Type 0} (b : Bool) → (b ≡ true → C) → (b ≡ false → C) → C
by_bool {C} b f g = elim b as (λ c. b ≡ c → C) [ true ↦ λ e. f e | false ↦ λ e. g e ] refl

pub rises_get : (xs : List ℕ) (i j : ℕ) (x y : ℕ) → rises nat_lt xs ≡ true → slice_get xs i ≡ Some x → slice_get xs j ≡ Some y → i < j → nat_lt x y ≡ true
rises_get xs i j x y e f g l = rises_pair nat_lt xs i j x y e l f g

-- ---- the order
above_with : (c d : ℕ) (ds : List ℕ) → nat_lt c d ≡ true → list_all (nat_lt c) ds ≡ true → list_all (nat_lt c) (with_position d ds) ≡ true
above_with c d [] l h = and_from (nat_lt c d) _ l refl
above_with c d (x ∷ xs) l h = by_bool {C = list_all (nat_lt c) (with_position d (x ∷ xs)) ≡ true} (nat_lt x d)
    (λ f. rw f (and_from (nat_lt c x) _ (and_left _ _ h) (above_with c d xs l (and_right (nat_lt c x) _ h))))
    (λ f. by_bool {C = list_all (nat_lt c) (with_position d (x ∷ xs)) ≡ true} (nat_eq x d)
    (λ g. rw (f, g) h)
    (λ g. rw (f, g) (and_from (nat_lt c d) _ l h)))

all_above : (d x : ℕ) (xs : List ℕ) → d < x → list_all (nat_lt x) xs ≡ true → list_all (nat_lt d) xs ≡ true
all_above d x [] l h = refl
all_above d x (y ∷ ys) l h =
    let k : x < y = ltb-true x y (and_left _ _ h) in
    let j : d < y = omega arith in
    and_from (nat_lt d y) _ (lt-ltb d y j) (all_above d x ys l (and_right (nat_lt x y) _ h))

pub rises_with : (d : ℕ) (ds : List ℕ) → rises nat_lt ds ≡ true → rises nat_lt (with_position d ds) ≡ true
rises_with d [] h = refl
rises_with d (x ∷ xs) h = by_bool {C = rises nat_lt (with_position d (x ∷ xs)) ≡ true} (nat_lt x d)
    (λ f. rw f (and_from (list_all (nat_lt x) (with_position d xs)) _ (above_with x d xs f (and_left _ _ h)) (rises_with d xs (and_right (list_all (nat_lt x) xs) _ h))))
    (λ f. by_bool {C = rises nat_lt (with_position d (x ∷ xs)) ≡ true} (nat_eq x d)
    (λ g. rw (f, g) h)
    (λ g.
    let k : d ≤ x = ltb-false x d f in
    let apart : (x ≡ d) → ⊥ = eqb-false x d g in
    let low : d < x = omega arith in
    rw (f, g) (and_from (list_all (nat_lt d) (x ∷ xs)) _ (and_from (nat_lt d x) _ (lt-ltb d x low) (all_above d x xs low (and_left _ _ h))) h)))

above_without : (c d : ℕ) (ds : List ℕ) → list_all (nat_lt c) ds ≡ true → list_all (nat_lt c) (without_position d ds) ≡ true
above_without c d [] h = refl
above_without c d (x ∷ xs) h = by_bool {C = list_all (nat_lt c) (without_position d (x ∷ xs)) ≡ true} (nat_lt x d)
    (λ f. rw f (and_from (nat_lt c x) _ (and_left _ _ h) (above_without c d xs (and_right (nat_lt c x) _ h))))
    (λ f. by_bool {C = list_all (nat_lt c) (without_position d (x ∷ xs)) ≡ true} (nat_eq x d)
    (λ g. rw (f, g) (and_right (nat_lt c x) _ h))
    (λ g. rw (f, g) h))

pub rises_without : (d : ℕ) (ds : List ℕ) → rises nat_lt ds ≡ true → rises nat_lt (without_position d ds) ≡ true
rises_without d [] h = refl
rises_without d (x ∷ xs) h = by_bool {C = rises nat_lt (without_position d (x ∷ xs)) ≡ true} (nat_lt x d)
    (λ f. rw f (and_from (list_all (nat_lt x) (without_position d xs)) _ (above_without x d xs (and_left _ _ h)) (rises_without d xs (and_right (list_all (nat_lt x) xs) _ h))))
    (λ f. by_bool {C = rises nat_lt (without_position d (x ∷ xs)) ≡ true} (nat_eq x d)
    (λ g. rw (f, g) (and_right (list_all (nat_lt x) xs) _ h))
    (λ g. rw (f, g) h))

-- ---- the place
pub take_at : (d : ℕ) (ds : List ℕ) → is_position d (slice_get ds (place_of d ds)) ≡ true → remove ds (place_of d ds) ≡ without_position d ds
take_at d [] e = absurd (true≢false (sym e))
take_at d (x ∷ xs) e = by_bool {C = remove (x ∷ xs) (place_of d (x ∷ xs)) ≡ without_position d (x ∷ xs)} (nat_lt x d)
    (λ f.
    let g : is_position d (slice_get xs (place_of d xs)) ≡ true = sym (ap (λ b. is_position d (slice_get (x ∷ xs) (cond b (suc (place_of d xs)) 0))) f) ∙ e in
    rw f (ap (λ ys. x ∷ ys) (take_at d xs g)))
    (λ f.
    let g : nat_eq x d ≡ true = sym (ap (λ b. is_position d (slice_get (x ∷ xs) (cond b (suc (place_of d xs)) 0))) f) ∙ e in
    rw (f, g) refl)

pub take_none : (d : ℕ) (ds : List ℕ) → is_position d (slice_get ds (place_of d ds)) ≡ false → without_position d ds ≡ ds
take_none d [] e = refl
take_none d (x ∷ xs) e = by_bool {C = without_position d (x ∷ xs) ≡ x ∷ xs} (nat_lt x d)
    (λ f.
    let g : is_position d (slice_get xs (place_of d xs)) ≡ false = sym (ap (λ b. is_position d (slice_get (x ∷ xs) (cond b (suc (place_of d xs)) 0))) f) ∙ e in
    rw f (ap (λ ys. x ∷ ys) (take_none d xs g)))
    (λ f.
    let g : nat_eq x d ≡ false = sym (ap (λ b. is_position d (slice_get (x ∷ xs) (cond b (suc (place_of d xs)) 0))) f) ∙ e in
    rw (f, g) refl)

-- what stands at a place stands within the list
pub position_within : (d : ℕ) (ds : List ℕ) (n : ℕ) → is_position d (slice_get ds n) ≡ true → n < length ds
position_within d ds n e = elim (slice_get ds n) as (λ o. slice_get ds n ≡ o → n < length ds) [
  | None ↦ λ f. absurd (true≢false (sym (sym (ap (is_position d) f) ∙ e)))
  | Some x ↦ λ f. slice_get_within ds n x f
] refl

pub put_at : (d : ℕ) (ds : List ℕ) → is_position d (slice_get ds (place_of d ds)) ≡ false → insert ds (place_of d ds) d ≡ with_position d ds
put_at d [] e = refl
put_at d (x ∷ xs) e = by_bool {C = insert (x ∷ xs) (place_of d (x ∷ xs)) d ≡ with_position d (x ∷ xs)} (nat_lt x d)
    (λ f.
    let g : is_position d (slice_get xs (place_of d xs)) ≡ false = sym (ap (λ b. is_position d (slice_get (x ∷ xs) (cond b (suc (place_of d xs)) 0))) f) ∙ e in
    rw f (ap (λ ys. x ∷ ys) (put_at d xs g)))
    (λ f.
    let g : nat_eq x d ≡ false = sym (ap (λ b. is_position d (slice_get (x ∷ xs) (cond b (suc (place_of d xs)) 0))) f) ∙ e in
    rw (f, g) refl)

pub put_there : (d : ℕ) (ds : List ℕ) → is_position d (slice_get ds (place_of d ds)) ≡ true → with_position d ds ≡ ds
put_there d [] e = absurd (true≢false (sym e))
put_there d (x ∷ xs) e = by_bool {C = with_position d (x ∷ xs) ≡ x ∷ xs} (nat_lt x d)
    (λ f.
    let g : is_position d (slice_get xs (place_of d xs)) ≡ true = sym (ap (λ b. is_position d (slice_get (x ∷ xs) (cond b (suc (place_of d xs)) 0))) f) ∙ e in
    rw f (ap (λ ys. x ∷ ys) (put_there d xs g)))
    (λ f.
    let g : nat_eq x d ≡ true = sym (ap (λ b. is_position d (slice_get (x ∷ xs) (cond b (suc (place_of d xs)) 0))) f) ∙ e in
    rw (f, g) refl)

-- positions that rise are parted by each number
pub positions_parted : (d : ℕ) (ds : List ℕ) → rises nat_lt ds ≡ true → IsPartitionedBy (λ x. nat_lt x d) ds
positions_parted d ds h i j e l m f = elim (eq-or-lt_of_le l) [
  | inl k ↦ ap (λ n. nat_lt (get_or ds n e) d) k ∙ f
  | inr k ↦
      let up = ltb-true _ _ (rises_get ds i j (get_or ds i e) (get_or ds j e) h (slice_get-get_or ds i e (omega arith)) (slice_get-get_or ds j e m) k) in
      let low = ltb-true _ _ f in
      lt-ltb (get_or ds i e) d (omega (arith, up, low))
]

pub place_parted : (d : ℕ) (ds : List ℕ) (i : ℕ) → i ≤ length ds → IsPartitionPoint (λ x. nat_lt x d ≡ true) (λ x. nat_lt x d ≡ false) ds i → i ≡ place_of d ds
place_parted d [] zero l h = refl
place_parted d [] (suc i) l h = absurd (omega (arith, l))
place_parted d (x ∷ xs) zero l h = let f : nat_lt x d ≡ false = h.1 0 d (omega arith) (omega arith) in rw f refl
place_parted d (x ∷ xs) (suc i) l h =
    let f : nat_lt x d ≡ true = h.0 0 d (omega arith) (omega arith) in
    rw f (ap suc (place_parted d xs i (omega (arith, l)) (λ k e a b. h.0 (suc k) e (omega arith) (omega (arith, b)), λ k e a b. h.1 (suc k) e (omega (arith, a)) (omega (arith, b)))))

-- what a look at the place says
pub looked : (n : ℕ) (ns ms ks : List ℕ) (place : ℕ) (b c : Bool) → ms ≡ ns → ks ≡ ns → place ≡ place_of n ms → b ≡ is_position n (slice_get ks place) → b ≡ c → is_position n (slice_get ns (place_of n ns)) ≡ c
looked n ns ms ks place b c m k p is e =
    ap (λ xs. is_position n (slice_get xs (place_of n ns))) (sym k) ∙ (ap (λ j. is_position n (slice_get ks j)) (ap (place_of n) (sym m) ∙ sym p) ∙ (sym is ∙ e))

-- it is put in at its place, where it isn't there
pub put_done : (n : ℕ) (ns ms then : List ℕ) (place : ℕ) (b : Bool) → ms ≡ ns → place ≡ place_of n ms → is_position n (slice_get ns (place_of n ns)) ≡ false → then ≡ cond b (insert ns place n) ns → b ≡ true → then ≡ with_position n ns
put_done n ns ms then place b m p off made ok = made ∙ (ap (λ c. cond c (insert ns place n) ns) ok ∙ (ap (λ k. insert ns k n) (p ∙ ap (place_of n) m) ∙ put_at n ns off))

-- then there is one more
one_more : (n : ℕ) (ns : List ℕ) → is_position n (slice_get ns (place_of n ns)) ≡ false → length (with_position n ns) ≡ suc (length ns)
one_more n [] e = refl
one_more n (x ∷ xs) e = by_bool {C = length (with_position n (x ∷ xs)) ≡ suc (suc (length xs))} (nat_lt x n)
    (λ f.
    let g : is_position n (slice_get xs (place_of n xs)) ≡ false = sym (ap (λ b. is_position n (slice_get (x ∷ xs) (cond b (suc (place_of n xs)) 0))) f) ∙ e in
    rw f (ap suc (one_more n xs g)))
    (λ f.
    let g : nat_eq x n ≡ false = sym (ap (λ b. is_position n (slice_get (x ∷ xs) (cond b (suc (place_of n xs)) 0))) f) ∙ e in
    rw (f, g) refl)

pub has_room : (n : ℕ) (ns : List ℕ) (room : ℕ) → is_position n (slice_get ns (place_of n ns)) ≡ false → length (with_position n ns) ≤ room → length ns < room
has_room n ns room off l = let one : length (with_position n ns) ≡ suc (length ns) = one_more n ns off in omega (arith, one, l)

-- it is taken out at its place
pub taken : (n : ℕ) (ns ms then : List ℕ) (place : ℕ) → ms ≡ ns → place ≡ place_of n ms → is_position n (slice_get ns (place_of n ns)) ≡ true → then ≡ remove ns place → then ≡ without_position n ns
taken n ns ms then place m p here made = made ∙ (ap (remove ns) (p ∙ ap (place_of n) m) ∙ take_at n ns here)
