-- A loop that writes each item of a list, from left to right.
use Rattle.std.proofs.Common.{◌≡◌, refl, ap, ◌∙◌, ℕ, zero, suc, ◌+◌, ◌<◌, ◌≤◌, List, [], ◌∷◌, ◌++◌, length, map, take, drop, set, get_or, arith}

-- the list with its first k items changed
abbrev pub written : {X : Type 0} → (X → X) → List X → ℕ → List X
written f xs k = map f (take k xs) ++ drop k xs

pub written_begins : {X : Type 0} (f : X → X) (xs : List X) → xs ≡ written f xs 0
written_begins f [] = refl
written_begins f (x ∷ xs) = refl

-- the item that is written next is still the old one
pub written_next : {X : Type 0} (f : X → X) (d : X) (xs : List X) (k : ℕ) → get_or (written f xs k) k d ≡ get_or xs k d
written_next f d [] zero = refl
written_next f d [] (suc k) = refl
written_next f d (x ∷ xs) zero = refl
written_next f d (x ∷ xs) (suc k) = written_next f d xs k

written_suc : {X : Type 0} (f : X → X) (d : X) (xs : List X) (k : ℕ) → k < length xs → set (written f xs k) k (f (get_or xs k d)) ≡ written f xs (suc k)
written_suc f d [] k b = absurd (omega arith)
written_suc f d (x ∷ xs) zero b = refl
written_suc f d (x ∷ xs) (suc k) b = ap (λ ys. f x ∷ ys) (written_suc f d xs k (omega arith))

pub written_more : {X : Type 0} (f : X → X) (d : X) (xs : List X) (k : ℕ) → k < length xs → set (written f xs k) k (f (get_or xs k d)) ≡ written f xs (k + 1)
written_more f d xs k b = let e : k + 1 ≡ suc k = omega arith in rw e (written_suc f d xs k b)

pub written_all : {X : Type 0} (f : X → X) (xs : List X) (k : ℕ) → length xs ≤ k → written f xs k ≡ map f xs
written_all f [] zero b = refl
written_all f [] (suc k) b = refl
written_all f (x ∷ xs) zero b = absurd (omega arith)
written_all f (x ∷ xs) (suc k) b = ap (λ ys. f x ∷ ys) (written_all f xs k (omega arith))

-- one turn of the loop: what stood at k was read as x, and y is written there
pub written_set : {X : Type 0} (f : X → X) (xs now : List X) (k : ℕ) (d x y : X) → now ≡ written f xs k → k < length xs → x ≡ get_or now k d → y ≡ f x
    → set now k y ≡ written f xs (k + 1)
written_set f xs now k d x y is below read value =
    let old : x ≡ get_or xs k d = read ∙ (ap (λ ys. get_or ys k d) is ∙ written_next f d xs k) in
    ap (λ ys. set ys k y) is ∙ (ap (set (written f xs k) k) (value ∙ ap f old) ∙ written_more f d xs k below)

-- the loop is over
pub written_over : {X : Type 0} (f : X → X) (xs now : List X) (k : ℕ) → now ≡ written f xs k → length xs ≤ k → now ≡ map f xs
written_over f xs now k is over = is ∙ written_all f xs k over
