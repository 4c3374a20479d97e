-- Lists that rise: one more element, and neighbours.
use Rattle.std.proofs.Common.{◌≡◌, refl, sym, ap, ◌∙◌, ℕ, zero, suc, ◌+◌, ◌-◌, ◌<◌, ◌≤◌, List, [], ◌∷◌, take, length, Bool, true, false, Option, Some, None, slice_get, get_or, arith, true≢false, subst}
use Rattle.std.specs.List.{list_all}
use Rattle.std.proofs.lemmas.Bool.{and_from, false_from_ne_true}
use Rattle.std.proofs.lemmas.Option.{slice_get_read}
use Rattle.sched_laws.proofs.sched_state.OrderLemmas.{and_left, and_right}
use Rattle.sched_laws.specs.sched_model.Lists.{rises}
use Rattle.record_rules.proofs.MemberLemmas.{rises_pair}

-- what stands before another stands before those after it
abbrev pub Transitive : {X : Type 0} → (X → X → Bool) → Type 0
Transitive {X} before = (x y z : X) → before x y ≡ true → before y z ≡ true → before x z ≡ true

module _ {X : Type 0} (before : X → X → Bool) (trans : Transitive before) where
  last_below : (z : X) (xs : List X) (n : ℕ) (x : X) → list_all (before z) (take (suc n) xs) ≡ true → slice_get xs n ≡ Some x → before z x ≡ true
  last_below z [] n x a e = absurd (let c : ◌≡◌ {A = Option X} None (Some x) = e in cc)
  last_below z (w ∷ ws) zero x a e = let c : ◌≡◌ {A = Option X} (Some w) (Some x) = e in let q : w ≡ x = cc in ap (before z) (sym q) ∙ and_left _ _ a
  last_below z (w ∷ ws) (suc n) x a e = last_below z ws n x (and_right (before z w) _ a) e

  all_on : (z : X) (xs : List X) (n : ℕ) (y : X) → list_all (before z) (take n xs) ≡ true → slice_get xs n ≡ Some y → before z y ≡ true → list_all (before z) (take (suc n) xs) ≡ true
  all_on z [] n y a e b = refl
  all_on z (w ∷ ws) zero y a e b = let c : ◌≡◌ {A = Option X} (Some w) (Some y) = e in let q : w ≡ y = cc in and_from _ _ (ap (before z) q ∙ b) refl
  all_on z (w ∷ ws) (suc n) y a e b = and_from _ _ (and_left _ _ a) (all_on z ws n y (and_right (before z w) _ a) e b)

  rises_on : (xs : List X) (n : ℕ) (x y : X) → rises before (take (suc n) xs) ≡ true → slice_get xs n ≡ Some x → slice_get xs (suc n) ≡ Some y → before x y ≡ true → rises before (take (suc (suc n)) xs) ≡ true
  rises_on [] n x y r e f b = refl
  rises_on (z ∷ xs) zero x y r e f b =
      let c : ◌≡◌ {A = Option X} (Some z) (Some x) = e in let q : z ≡ x = cc in
      and_from _ _ (all_on z xs zero y refl f (ap (λ w. before w y) q ∙ b)) (one xs)
    where
      one : (ws : List X) → rises before (take (suc zero) ws) ≡ true
      one [] = refl
      one (w ∷ ws) = refl
  rises_on (z ∷ xs) (suc n) x y r e f b =
      let a : list_all (before z) (take (suc n) xs) ≡ true = and_left _ _ r in
      and_from _ _ (all_on z xs (suc n) y a f (trans z x y (last_below z xs n x a e) b))
      (rises_on xs n x y (and_right (list_all (before z) (take (suc n) xs)) _ r) e f b)

  pub rises_more : (xs : List X) (n : ℕ) (x y : X) → 0 < n → rises before (take n xs) ≡ true → slice_get xs (n - 1) ≡ Some x → slice_get xs n ≡ Some y → before x y ≡ true → rises before (take (n + 1) xs) ≡ true
  rises_more xs zero x y l r e f b = absurd (omega arith)
  rises_more xs (suc n) x y l r e f b =
      let p : suc n - 1 ≡ n = omega arith in
      let q : suc n + 1 ≡ suc (suc n) = omega arith in
      subst (λ m. rises before (take m xs) ≡ true) (sym q) (rises_on xs n x y r (subst (λ m. slice_get xs m ≡ Some x) p e) f b)

-- neighbours that do not rise
pub falls : {X : Type 0} (before : X → X → Bool) (xs : List X) (n : ℕ) (x y : X) → 0 < n → slice_get xs (n - 1) ≡ Some x → slice_get xs n ≡ Some y → before x y ≡ false → rises before xs ≡ false
falls before xs n x y l e f b = false_from_ne_true (rises before xs) (λ r. true≢false (sym (rises_pair before xs (n - 1) n x y r (omega arith) e f) ∙ b))

-- ---- the same, with elements as an index gives them
pub read_at : {X : Type 0} (xs : List X) (n : ℕ) (x : X) → n < length xs → x ≡ get_or xs n x → slice_get xs n ≡ Some x
read_at xs n x l e = slice_get_read xs (length xs) n x refl l e

pub rises_step : {X : Type 0} (before : X → X → Bool) → Transitive before → (xs : List X) (n : ℕ) (x y : X) → 1 ≤ n → n < length xs → x ≡ get_or xs (n - 1) x → y ≡ get_or xs n y
    → rises before (take n xs) ≡ true → before x y ≡ true → rises before (take (n + 1) xs) ≡ true
rises_step before trans xs n x y k l e f r b = rises_more before trans xs n x y (omega arith) r (read_at xs (n - 1) x (omega arith) e) (read_at xs n y l f) b

pub falls_at : {X : Type 0} (before : X → X → Bool) (xs : List X) (n : ℕ) (x y : X) → 1 ≤ n → n < length xs → x ≡ get_or xs (n - 1) x → y ≡ get_or xs n y → before x y ≡ false → rises before xs ≡ false
falls_at before xs n x y k l e f b = falls before xs n x y (omega arith) (read_at xs (n - 1) x (omega arith) e) (read_at xs n y l f) b
