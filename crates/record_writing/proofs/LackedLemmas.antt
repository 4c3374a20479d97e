-- Which rows of a list another lacks, where a key stands once.
use Rattle.std.proofs.Common.{◌≡◌, refl, sym, ap, ◌∙◌, ℕ, zero, suc, List, [], ◌∷◌, ◌++◌, Bool, true, false, true≢false, not, ◌||◌, cond, filter, Option, None, Some, slice_get}
use Rattle.std.specs.List.{list_any}
use Rattle.record_rules.specs.Between.{lacked, Tells}
use Rattle.record_rules.proofs.MemberLemmas.{found_at}
use Rattle.record_writing.proofs.KeyLemmas.{any_get}

-- no member passes
pub no_any : {X : Type 0} (p : X → Bool) (xs : List X) → ((m : ℕ) (z : X) → slice_get xs m ≡ Some z → p z ≡ true → ⊥) → list_any p xs ≡ false
no_any p xs h = elim (list_any p xs) as (λ b. list_any p xs ≡ b → b ≡ false) [
  | true ↦ λ e. let f = found_at p xs e in absurd (h f.0 f.1 f.2 f.3)
  | false ↦ λ e. refl
] refl

-- a test that no other place passes is passed by a member where the one at this place passes it
pub any_one : {X : Type 0} (p : X → Bool) (xs : List X) (n : ℕ) (x : X) → slice_get xs n ≡ Some x → ((m : ℕ) (z : X) → slice_get xs m ≡ Some z → p z ≡ true → m ≡ n) → list_any p xs ≡ p x
any_one {X} p [] n x e u = absurd (let c : ◌≡◌ {A = Option X} None (Some x) = e in cc)
any_one {X} p (y ∷ ys) zero x e u =
    let c : ◌≡◌ {A = Option X} (Some y) (Some x) = e in let q : y ≡ x = cc in
    let others : list_any p ys ≡ false = no_any p ys (λ m z g h. let k : suc m ≡ zero = u (suc m) z g h in cc) in
    ap (λ b. p y || b) others ∙ or_none (p y) ∙ ap p q
  where
    or_none : (b : Bool) → (b || false) ≡ b
    or_none true = refl
    or_none false = refl
any_one {X} p (y ∷ ys) (suc n) x e u =
    ap (λ b. b || list_any p ys) first ∙ any_one p ys n x e (λ m z g h. let k : suc m ≡ suc n = u (suc m) z g h in cc)
  where
    first : p y ≡ false
    first = elim (p y) as (λ b. p y ≡ b → b ≡ false) [
      | true ↦ λ h. let k : zero ≡ suc n = u zero y refl h in absurd (let q : ◌≡◌ {A = ℕ} zero (suc n) = k in cc)
      | false ↦ λ h. refl
    ] refl

-- a test that only rows with a key pass is passed by a row where one of those with the key passes it
pub any_filtered : {X : Type 0} (p q : X → Bool) → ((x : X) → p x ≡ true → q x ≡ true) → (xs : List X) → list_any p xs ≡ list_any p (filter q xs)
any_filtered p q h [] = refl
any_filtered {X} p q h (x ∷ xs) = elim (q x) as (λ b. q x ≡ b → (p x || list_any p xs) ≡ list_any p (cond b (x ∷ filter q xs) (filter q xs))) [
  | true ↦ λ e. ap (λ b. p x || b) (any_filtered p q h xs)
  | false ↦ λ e. ap (λ b. b || list_any p xs) (fails e) ∙ any_filtered p q h xs
] refl
  where
    fails : q x ≡ false → p x ≡ false
    fails e = elim (p x) as (λ b. p x ≡ b → b ≡ false) [
      | true ↦ λ g. absurd (true≢false (sym (h x g) ∙ e))
      | false ↦ λ g. refl
    ] refl

-- whether a row is among others, by those with its key
pub among_keyed : {X : Type 0} (same_row : X → X → Bool) → Tells same_row → (q : X → Bool) (xs : List X) (y : X) → q y ≡ true → list_any (same_row y) xs ≡ list_any (same_row y) (filter q xs)
among_keyed same_row told q xs y e = any_filtered (same_row y) q (λ x h. ap q (sym (told y x h)) ∙ e) xs

-- one list after another
pub lacked_joined : {X : Type 0} (same_row : X → X → Bool) (xs ys zs : List X) → lacked same_row xs (ys ++ zs) ≡ lacked same_row xs ys ++ lacked same_row xs zs
lacked_joined same_row xs [] zs = refl
lacked_joined {X} same_row xs (y ∷ ys) zs = elim (not (list_any (same_row y) xs)) as (λ b. cond b (y ∷ lacked same_row xs (ys ++ zs)) (lacked same_row xs (ys ++ zs)) ≡ cond b (y ∷ lacked same_row xs ys) (lacked same_row xs ys) ++ lacked same_row xs zs) [
  | true ↦ ap (λ (ws : List X). y ∷ ws) (lacked_joined same_row xs ys zs)
  | false ↦ lacked_joined same_row xs ys zs
]

-- rows that are all there
pub lacked_held : {X : Type 0} (same_row : X → X → Bool) (xs ys : List X) → ((n : ℕ) (y : X) → slice_get ys n ≡ Some y → list_any (same_row y) xs ≡ true) → lacked same_row xs ys ≡ []
lacked_held same_row xs [] h = refl
lacked_held {X} same_row xs (y ∷ ys) h = ap (λ b. cond (not b) (y ∷ lacked same_row xs ys) (lacked same_row xs ys)) (h zero y refl) ∙ lacked_held same_row xs ys (λ n z e. h (suc n) z e)

-- a list lacks none of its own
pub lacked_itself : {X : Type 0} (same_row : X → X → Bool) → ((x : X) → same_row x x ≡ true) → (xs : List X) → lacked same_row xs xs ≡ []
lacked_itself same_row h xs = lacked_held same_row xs xs (λ n x e. any_get (same_row x) xs n x e (h x))
