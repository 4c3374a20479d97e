-- Reading one element of a list beside what comes after it.
use Rattle.std.proofs.Common.{◌≡◌, refl, ap, ℕ, zero, suc, ◌+◌, ◌<◌, ◌≤◌, List, [], ◌∷◌, length, drop, min, Bool, true, Option, Some, None, slice_get, find, arith}
use Rattle.std.proofs.lemmas.List.{drop_all}
use Rattle.std.proofs.lemmas.Slice.Zip.{length-zip}
use Rattle.std.specs.List.{zip}

drop_suc : {X : Type 0} (xs : List X) (i : ℕ) (x : X) → slice_get xs i ≡ Some x → drop i xs ≡ x ∷ drop (suc i) xs
drop_suc {X} [] i x e = absurd (let c : ◌≡◌ {A = Option X} None (Some x) = e in cc)
drop_suc {X} (y ∷ xs) zero x e = let c : ◌≡◌ {A = Option X} (Some y) (Some x) = e in let r : y ≡ x = cc in ap (λ z. z ∷ xs) r
drop_suc (y ∷ xs) (suc i) x e = drop_suc xs i x e

pub drop_at : {X : Type 0} (xs : List X) (i : ℕ) (x : X) → slice_get xs i ≡ Some x → drop i xs ≡ x ∷ drop (i + 1) xs
drop_at xs i x e = let n : i + 1 ≡ suc i = omega arith in rw n (drop_suc xs i x e)

-- an element that passes is what is found from it on
pub find_hit : {X : Type 0} (p : X → Bool) (xs : List X) (i : ℕ) (x : X) → slice_get xs i ≡ Some x → p x ≡ true → find p (drop i xs) ≡ Some x
find_hit p xs i x e f = rw (drop_at xs i x e, f) refl

-- a place within a list has an element
pub element_at : {X : Type 0} (xs : List X) (i : ℕ) → i < length xs → (x : X) × (slice_get xs i ≡ Some x)
element_at [] i b = absurd (omega arith)
element_at (x ∷ xs) zero b = (x, refl)
element_at (x ∷ xs) (suc i) b = element_at xs i (omega arith)

-- past the end of one of the two lists there are no pairs
pub zip_over : {X Y : Type 0} (xs : List X) (ys : List Y) (k : ℕ) → min (length xs) (length ys) ≤ k → drop k (zip xs ys) ≡ []
zip_over xs ys k b = let long = length-zip xs ys in drop_all k (zip xs ys) (omega (arith, long, b))
