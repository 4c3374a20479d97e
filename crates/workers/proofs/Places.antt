-- What holds of each element, by its place: in images of a list, and of what went from the front of one list behind another.
use Rattle.std.proofs.Common.{◌≡◌, ℕ, zero, suc, ◌<◌, List, [], ◌∷◌, ◌++◌, length, get_or, map, sym, ap, subst, ◌∙◌, append_assoc, arith, replicate, refl}

module _ {A : Type 0} where
  -- what holds of each at its place holds of its three images there
  pub at_images : {B C D : Type 0} (f : A → B) (g : A → C) (h : A → D) (xs : List A) (F : ℕ → B → C → D → Type 0)
      → ((i : ℕ) (x : A) → i < length xs → F i (f (get_or xs i x)) (g (get_or xs i x)) (h (get_or xs i x)))
      → (i : ℕ) (p : B) (q : C) (r : D) → i < length xs → F i (get_or (map f xs) i p) (get_or (map g xs) i q) (get_or (map h xs) i r)
  at_images f g h [] F each i p q r below = absurd (omega arith)
  at_images f g h (x ∷ xs) F each zero p q r below = each 0 x below
  at_images f g h (x ∷ xs) F each (suc i) p q r below = at_images f g h xs (λ n. F (suc n)) (λ n y b. each (suc n) y (omega arith)) i p q r (omega arith)

  pub at_image : {B : Type 0} (f : A → B) (xs : List A) (P : ℕ → B → Type 0) → ((i : ℕ) (x : A) → i < length xs → P i (f (get_or xs i x))) → (k : ℕ) (d : B) → k < length (map f xs) → P k (get_or (map f xs) k d)
  at_image f [] P each k d below = absurd (omega arith)
  at_image f (x ∷ xs) P each zero d below = each 0 x (omega arith)
  at_image f (x ∷ xs) P each (suc k) d below = at_image f xs (λ n. P (suc n)) (λ n y b. each (suc n) y (omega arith)) k d (omega arith)

  pub none_left : (xs : List A) → length xs ≡ 0 → xs ≡ []
  none_left [] e = refl
  none_left (x ∷ xs) e = absurd (omega arith)

  pub each_taken : (P : A → Type 0) (xs ys : List A) (y : A) → xs ≡ y ∷ ys → ((k : ℕ) (d : A) → k < length xs → P (get_or xs k d)) → (k : ℕ) (d : A) → k < length ys → P (get_or ys k d)
  each_taken P xs ys y e old k d below = subst (λ l. (n : ℕ) (b : A) → n < length l → P (get_or l n b)) e old (suc k) d (omega arith)

  pub first_taken : (P : A → Type 0) (xs ys : List A) (y : A) → xs ≡ y ∷ ys → ((k : ℕ) (d : A) → k < length xs → P (get_or xs k d)) → P y
  first_taken P xs ys y e old = subst (λ l. (n : ℕ) (b : A) → n < length l → P (get_or l n b)) e old 0 y (omega arith)

  pub map_snoc : {B : Type 0} (f : A → B) (xs : List A) (x : A) → map f (xs ++ x ∷ []) ≡ map f xs ++ f x ∷ []
  map_snoc f [] x = refl
  map_snoc f (y ∷ ys) x = ap (λ l. f y ∷ l) (map_snoc f ys x)

  -- one came from the front of the rest to behind the image
  pub moved : {B : Type 0} (f : A → B) (done now : List A) (a : A) (left rest all : List B) (b : B) → now ≡ done ++ a ∷ [] → left ≡ b ∷ rest → f a ≡ b → map f done ++ left ≡ all → map f now ++ rest ≡ all
  moved f done now a left rest all b grown split same was =
      ap (λ l. map f l ++ rest) grown ∙ ap (λ l. l ++ rest) (map_snoc f done a) ∙ append_assoc (map f done) (f a ∷ []) rest
      ∙ ap (λ x. map f done ++ x ∷ rest) same ∙ ap (λ l. map f done ++ l) (sym split) ∙ was

  pub replicate_snoc : (n : ℕ) (x : A) → replicate n x ++ x ∷ [] ≡ replicate (suc n) x
  replicate_snoc zero x = refl
  replicate_snoc (suc n) x = ap (λ l. x ∷ l) (replicate_snoc n x)

  -- what is at a place does not hang on what stands for a place that is not there
  pub same_at : (xs : List A) (k : ℕ) (d e : A) → k < length xs → get_or xs k d ≡ get_or xs k e
  same_at [] k d e below = absurd (omega arith)
  same_at (x ∷ xs) zero d e below = refl
  same_at (x ∷ xs) (suc k) d e below = same_at xs k d e (omega arith)
