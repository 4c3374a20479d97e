-- Positions that are one further on, from one of them on.
use Rattle.std.proofs.Common.{◌≡◌, refl, ap, ℕ, zero, suc, ◌+◌, ◌^◌, ◌<◌, ◌≤◌, ◌≢◌, List, [], ◌∷◌, true, false, cond, length, length-set, set, get_or, get_or-set_other, nat_lt, nat_le, arith}
use Rattle.std.specs.List.{list_all}
use Rattle.std.proofs.lemmas.Bool.{ltb-true, ltb-false, leb-true, lt-ltb, lt-leb, le-leb, and_from}
use Rattle.sched_state.proofs.OrderLemmas.{and_left, and_right}
use Rattle.sched_model.specs.Lists.{rises}
use Rattle.run_lists.specs.Positions.{place_of}
use Rattle.run_lists.specs.Touched.{shifted_from}
use Rattle.run_lists.proofs.PlaceLemmas.{by_bool}

-- those from a place on are one further on
abbrev pub bumped_from : ℕ → List ℕ → List ℕ
bumped_from k [] = []
bumped_from zero (x ∷ xs) = (x + 1) ∷ bumped_from zero xs
bumped_from (suc k) (x ∷ xs) = x ∷ bumped_from k xs

-- there is a position further on for each from the place on
abbrev pub AreSmallFrom : ℕ → List ℕ → Type 0
AreSmallFrom k ns = (j : ℕ) (e : ℕ) → k ≤ j → j < length ns → get_or ns j e + 1 < 2 ^ 64

pub bumped_step : (i j : ℕ) (ns : List ℕ) (d : ℕ) → j ≡ i + 1 → bumped_from j (set ns i (get_or ns i d + 1)) ≡ bumped_from i ns
bumped_step i j [] d q = refl
bumped_step i zero (x ∷ xs) d q = absurd (omega arith)
bumped_step zero (suc j) (x ∷ xs) d q = let z : j ≡ 0 = omega arith in ap (λ n. (x + 1) ∷ bumped_from n xs) z
bumped_step (suc i) (suc j) (x ∷ xs) d q = ap (λ (ys : List ℕ). x ∷ ys) (bumped_step i j xs d (omega arith))

pub bumped_past : (i : ℕ) (ns : List ℕ) → length ns ≤ i → bumped_from i ns ≡ ns
bumped_past i [] h = refl
bumped_past zero (x ∷ xs) h = absurd (omega arith)
bumped_past (suc i) (x ∷ xs) h = ap (λ (ys : List ℕ). x ∷ ys) (bumped_past i xs (omega arith))

pub small_step : (i : ℕ) (ns : List ℕ) (x : ℕ) → AreSmallFrom i ns → AreSmallFrom (i + 1) (set ns i x)
small_step i ns x h j e l m =
    let w : j < length ns = omega (arith, length-set {A = ℕ}) in
    let apart : j ≢ i = omega arith in
    let t : get_or ns j e + 1 < 2 ^ 64 = h j e (omega arith) w in
    rw get_or-set_other t

pub small_all : (k : ℕ) (ns : List ℕ) → list_all (λ n. nat_lt (n + 1) (2 ^ 64)) ns ≡ true → AreSmallFrom k ns
small_all k [] h j e l m = absurd (omega (arith, m))
small_all k (x ∷ xs) h zero e l m = ltb-true (x + 1) (2 ^ 64) (and_left _ _ h)
small_all k (x ∷ xs) h (suc j) e l m = small_all 0 xs (and_right (nat_lt (x + 1) (2 ^ 64)) _ h) j e (omega arith) (omega (arith, m))

-- all that are above a position are from it on
bumped_all : (n : ℕ) (xs : List ℕ) → list_all (nat_lt n) xs ≡ true → bumped_from zero xs ≡ shifted_from n xs
bumped_all n [] h = refl
bumped_all n (x ∷ xs) h =
    let l : n < x = ltb-true n x (and_left _ _ h) in
    let f : nat_le n x ≡ true = le-leb n x (omega (arith, l)) in
    rw f (ap (λ (ys : List ℕ). (x + 1) ∷ ys) (bumped_all n xs (and_right (nat_lt n x) _ h)))

above_more : (n x : ℕ) (xs : List ℕ) → n ≤ x → list_all (nat_lt x) xs ≡ true → list_all (nat_lt n) xs ≡ true
above_more n x [] l h = refl
above_more n x (y ∷ ys) l h =
    let k : x < y = ltb-true x y (and_left _ _ h) in
    and_from (nat_lt n y) _ (lt-ltb n y (omega (arith, k, l))) (above_more n x ys l (and_right (nat_lt x y) _ h))

pub bumped_is : (n : ℕ) (ns : List ℕ) → rises nat_lt ns ≡ true → bumped_from (place_of n ns) ns ≡ shifted_from n ns
bumped_is n [] h = refl
bumped_is n (x ∷ xs) h = by_bool {C = bumped_from (place_of n (x ∷ xs)) (x ∷ xs) ≡ shifted_from n (x ∷ xs)} (nat_lt x n)
    (λ f.
    let l : x < n = ltb-true x n f in
    let g : nat_le n x ≡ false = lt-leb n x l in
    rw (f, g) (ap (λ (ys : List ℕ). x ∷ ys) (bumped_is n xs (and_right (list_all (nat_lt x) xs) _ h))))
    (λ f.
    let l : n ≤ x = ltb-false x n f in
    let g : nat_le n x ≡ true = le-leb n x l in
    rw (f, g) (ap (λ (ys : List ℕ). (x + 1) ∷ ys) (bumped_all n xs (above_more n x xs l (and_left _ _ h)))))

-- positions that rise still do
shifted_below : (n x y : ℕ) → nat_lt x y ≡ true → nat_lt (cond (nat_le n x) (x + 1) x) (cond (nat_le n y) (y + 1) y) ≡ true
shifted_below n x y h =
    let l : x < y = ltb-true x y h in
    by_bool {C = nat_lt (cond (nat_le n x) (x + 1) x) (cond (nat_le n y) (y + 1) y) ≡ true} (nat_le n x)
    (λ f.
    let k : n ≤ x = leb-true n x f in
    let g : nat_le n y ≡ true = le-leb n y (omega (arith, k, l)) in
    rw (f, g) (lt-ltb (x + 1) (y + 1) (omega (arith, l))))
    (λ f. by_bool {C = nat_lt (cond (nat_le n x) (x + 1) x) (cond (nat_le n y) (y + 1) y) ≡ true} (nat_le n y)
    (λ g. rw (f, g) (lt-ltb x (y + 1) (omega (arith, l))))
    (λ g. rw (f, g) h))

shifted_above : (n x : ℕ) (xs : List ℕ) → list_all (nat_lt x) xs ≡ true → list_all (nat_lt (cond (nat_le n x) (x + 1) x)) (shifted_from n xs) ≡ true
shifted_above n x [] h = refl
shifted_above n x (y ∷ ys) h = and_from (nat_lt (cond (nat_le n x) (x + 1) x) (cond (nat_le n y) (y + 1) y)) _ (shifted_below n x y (and_left _ _ h)) (shifted_above n x ys (and_right (nat_lt x y) _ h))

pub shifted_rise : (n : ℕ) (ns : List ℕ) → rises nat_lt ns ≡ true → rises nat_lt (shifted_from n ns) ≡ true
shifted_rise n [] h = refl
shifted_rise n (x ∷ xs) h = and_from (list_all (nat_lt (cond (nat_le n x) (x + 1) x)) (shifted_from n xs)) _ (shifted_above n x xs (and_left _ _ h)) (shifted_rise n xs (and_right (list_all (nat_lt x) xs) _ h))
