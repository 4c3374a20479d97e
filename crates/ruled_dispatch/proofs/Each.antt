-- What holds of each element, by its place, when one comes behind the last or leaves at the front.
use Rattle.std.proofs.Common.{◌≡◌, ℕ, zero, suc, ◌<◌, List, [], ◌∷◌, ◌++◌, length, get_or, sym, refl, subst, arith}

module _ {A : Type 0} where
  snoc : (P : ℕ → A → Type 0) (xs : List A) (x : A) → ((k : ℕ) (d : A) → k < length xs → P k (get_or xs k d)) → P (length xs) x → (k : ℕ) (d : A) → k < length (xs ++ x ∷ []) → P k (get_or (xs ++ x ∷ []) k d)
  snoc P [] x old new zero d h = new
  snoc P [] x old new (suc k) d h = absurd (omega arith)
  snoc P (y ∷ ys) x old new zero d h = old zero d (omega arith)
  snoc P (y ∷ ys) x old new (suc k) d h = snoc (λ n. P (suc n)) ys x (λ n e below. old (suc n) e (omega arith)) new k d (omega arith)

  pub each_pushed : (P : ℕ → A → Type 0) (xs ys : List A) (x : A) → ys ≡ xs ++ x ∷ [] → ((k : ℕ) (d : A) → k < length xs → P k (get_or xs k d)) → P (length xs) x → (k : ℕ) (d : A) → k < length ys → P k (get_or ys k d)
  each_pushed P xs ys x e old new = subst (λ l. (k : ℕ) (d : A) → k < length l → P k (get_or l k d)) (sym e) (snoc P xs x old new)

  pub each_taken : (P : ℕ → A → Type 0) (xs ys : List A) (y : A) → xs ≡ y ∷ ys → ((k : ℕ) (d : A) → k < length xs → P k (get_or xs k d)) → (k : ℕ) (d : A) → k < length ys → P (suc k) (get_or ys k d)
  each_taken P xs ys y e old k d below = subst (λ l. (n : ℕ) (b : A) → n < length l → P n (get_or l n b)) e old (suc k) d (omega arith)

  pub none_left : (xs : List A) → length xs ≡ 0 → xs ≡ []
  none_left [] e = refl
  none_left (x ∷ xs) e = absurd (omega arith)
