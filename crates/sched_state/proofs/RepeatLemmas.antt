-- A function that is applied again and again until it gives none, under a number that falls.
use Rattle.std.proofs.Common.{◌≡◌, refl, sym, ap, ◌∙◌, ℕ, zero, suc, ◌+◌, ◌<◌, ◌≤◌, List, [], ◌∷◌, Option, Some, None, option_map, sum_by, arith}
use Rattle.std.proofs.lemmas.List.Sums.{sum_by-cons}
use Rattle.sched_state.specs.Lists.{change_from, repeat}

-- f makes μ fall wherever it gives something
abbrev pub Falls : {X : Type 0} → (X → ℕ) → (X → Option X) → Type 0
Falls {X} μ f = (x y : X) → f x ≡ Some y → μ y < μ x

-- what an elim on an option gives, where the option is known
pub repeat_done : {X : Type 0} (n : ℕ) (f : X → Option X) (x : X) → f x ≡ None → repeat n f x ≡ x
repeat_done zero f x e = refl
repeat_done (suc n) f x e = rw (e, repeat) refl

pub repeat_more : {X : Type 0} (n : ℕ) (f : X → Option X) (x y : X) → f x ≡ Some y → repeat (suc n) f x ≡ repeat n f y
repeat_more n f x y e = rw (e, repeat) refl

-- enough turns are enough
pub repeat_enough : {X : Type 0} (μ : X → ℕ) (f : X → Option X) → Falls μ f → (n m : ℕ) (x : X) → μ x ≤ n → μ x ≤ m → repeat n f x ≡ repeat m f x
repeat_enough {X} μ f falls zero m x hn hm =
    elim (f x) as (λ o. f x ≡ o → repeat zero f x ≡ repeat m f x) [
      | None ↦ λ e. sym (repeat_done m f x e)
      | Some y ↦ λ e. absurd (let h : μ y < μ x = falls x y e in omega arith)
    ] refl
repeat_enough μ f falls (suc n) zero x hn hm =
    elim (f x) as (λ o. f x ≡ o → repeat (suc n) f x ≡ repeat zero f x) [
      | None ↦ λ e. repeat_done (suc n) f x e
      | Some y ↦ λ e. absurd (let h : μ y < μ x = falls x y e in omega arith)
    ] refl
repeat_enough μ f falls (suc n) (suc m) x hn hm =
    elim (f x) as (λ o. f x ≡ o → repeat (suc n) f x ≡ repeat (suc m) f x) [
      | None ↦ λ e. repeat_done (suc n) f x e ∙ sym (repeat_done (suc m) f x e)
      | Some y ↦ λ e. let h : μ y < μ x = falls x y e in
          repeat_more n f x y e ∙ repeat_enough μ f falls n m y (omega arith) (omega arith) ∙ sym (repeat_more m f x y e)
    ] refl

-- after enough turns f gives none
pub repeat_ends : {X : Type 0} (μ : X → ℕ) (f : X → Option X) → Falls μ f → (n : ℕ) (x : X) → μ x ≤ n → f (repeat n f x) ≡ None
repeat_ends μ f falls zero x hn =
    elim (f x) as (λ o. f x ≡ o → f x ≡ None) [
      | None ↦ λ e. e
      | Some y ↦ λ e. absurd (let h : μ y < μ x = falls x y e in omega arith)
    ] refl
repeat_ends μ f falls (suc n) x hn =
    elim (f x) as (λ o. f x ≡ o → f (repeat (suc n) f x) ≡ None) [
      | None ↦ λ e. ap f (repeat_done (suc n) f x e) ∙ e
      | Some y ↦ λ e. let h : μ y < μ x = falls x y e in
          ap f (repeat_more n f x y e) ∙ repeat_ends μ f falls n y (omega arith)
    ] refl

-- with μ x turns from x: one turn may be made first
pub repeat_turn : {X : Type 0} (μ : X → ℕ) (f : X → Option X) → Falls μ f → (x y : X) → f x ≡ Some y → repeat (μ x) f x ≡ repeat (μ y) f y
repeat_turn μ f falls x y e =
    let h : μ y < μ x = falls x y e in
    repeat_enough μ f falls (μ x) (suc (μ x)) x (omega arith) (omega arith)
    ∙ repeat_more (μ x) f x y e
    ∙ repeat_enough μ f falls (μ x) (μ y) y (omega arith) (omega arith)

-- `change_from` at a first element of which f gives o
abbrev change_here : {X : Type 0} → (ℕ → X → Option X) → ℕ → X → List X → Option X → Option (List X)
change_here f i x xs (Some y) = Some (y ∷ xs)
change_here f i x xs None = option_map (λ ys. x ∷ ys) (change_from f (i + 1) xs)

-- changing the first element that f changes makes the sum fall
pub change_falls : {X : Type 0} (μ : X → ℕ) (f : ℕ → X → Option X) → ((i : ℕ) (x y : X) → f i x ≡ Some y → μ y < μ x)
    → (i : ℕ) (xs ys : List X) → change_from f i xs ≡ Some ys → sum_by μ ys < sum_by μ xs
change_falls μ f falls i [] ys e = cc
change_falls {X} μ f falls i (x ∷ xs) ys e =
    elim (f i x) as (λ o. f i x ≡ o → change_here f i x xs o ≡ Some ys → sum_by μ ys < sum_by μ (x ∷ xs)) [
      | Some y ↦ λ p q. let h : μ y < μ x = falls i x y p in
          let r : ys ≡ y ∷ xs = cc in
          rw (r, sum_by-cons μ, sum_by-cons μ) (omega arith)
      | None ↦ λ p q. elim (change_from f (i + 1) xs) as (λ o. change_from f (i + 1) xs ≡ o → option_map (λ zs. x ∷ zs) o ≡ Some ys → sum_by μ ys < sum_by μ (x ∷ xs)) [
        | None ↦ λ s t. absurd (let n : ◌≡◌ {A = Option (List X)} None (Some ys) = t in cc)
        | Some zs ↦ λ s t. let h : sum_by μ zs < sum_by μ xs = change_falls μ f falls (i + 1) xs zs s in
            let t' : ◌≡◌ {A = Option (List X)} (Some (x ∷ zs)) (Some ys) = t in
            let r : ys ≡ x ∷ zs = cc in
            rw (r, sum_by-cons μ, sum_by-cons μ) (omega arith)
      ] refl q
    ] refl e
