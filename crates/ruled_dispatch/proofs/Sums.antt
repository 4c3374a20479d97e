-- Sums over the views of all passes: after a step of one, and where one has all of it.
use Rattle.std.proofs.Common.{◌≡◌, ℕ, zero, suc, ◌+◌, ◌≤◌, List, [], ◌∷◌, set, sym, refl, ap, arith}
use Rattle.std.specs.Prelude.{sum_by}
use Rattle.std.proofs.lemmas.List.Sums.{sum_by-cons}
use mathlib.Core.Option.{some, some-injective, some-ne-none}
use lib.ListN.{get_elem?}

module _ {A : Type 0} where
  -- the sum after a change of one
  pub sum_set : (f : A → ℕ) (views : List A) (pass : ℕ) (v w : A) → get_elem? views pass ≡ some v → sum_by f (set views pass w) + f v ≡ sum_by f views + f w
  sum_set f [] pass v w at = absurd (some-ne-none v (sym at))
  sum_set f (x ∷ xs) zero v w at =
      let h : f x ≡ f v = ap f (some-injective x v at) in
      let before = sum_by-cons f x xs in
      let after = sum_by-cons f w xs in
      omega arith
  sum_set f (x ∷ xs) (suc pass) v w at =
      let h = sum_set f xs pass v w at in
      let before = sum_by-cons f x xs in
      let after = sum_by-cons f x (set xs pass w) in
      omega arith

  -- one of them is at most the sum
  pub sum_at : (f : A → ℕ) (views : List A) (pass : ℕ) (v : A) → get_elem? views pass ≡ some v → f v ≤ sum_by f views
  sum_at f [] pass v at = absurd (some-ne-none v (sym at))
  sum_at f (x ∷ xs) zero v at =
      let h : f x ≡ f v = ap f (some-injective x v at) in
      let all = sum_by-cons f x xs in
      omega arith
  sum_at f (x ∷ xs) (suc pass) v at =
      let h = sum_at f xs pass v at in
      let all = sum_by-cons f x xs in
      omega arith

  -- where none has any of p, and whoever has none of p has none of f, none has any of f
  pub sum_none : (p f : A → ℕ) (views : List A) → sum_by p views ≡ 0 → ((pass : ℕ) (u : A) → get_elem? views pass ≡ some u → p u ≡ 0 → f u ≡ 0) → sum_by f views ≡ 0
  sum_none p f [] e idle = refl
  sum_none p f (x ∷ xs) e idle =
      let all_p = sum_by-cons p x xs in
      let all_f = sum_by-cons f x xs in
      let here : f x ≡ 0 = idle 0 x refl (omega arith) in
      let rest : sum_by f xs ≡ 0 = sum_none p f xs (omega arith) (λ pass u at. idle (suc pass) u at) in
      omega arith

  -- where one has all of p, and whoever has none of p has none of f, it has all of f
  pub sum_alone : (p f : A → ℕ) (views : List A) (pass : ℕ) (v : A) → get_elem? views pass ≡ some v → sum_by p views ≡ p v
      → ((j : ℕ) (u : A) → get_elem? views j ≡ some u → p u ≡ 0 → f u ≡ 0) → sum_by f views ≡ f v
  sum_alone p f [] pass v at e idle = absurd (some-ne-none v (sym at))
  sum_alone p f (x ∷ xs) zero v at e idle =
      let is : p x ≡ p v = ap p (some-injective x v at) in
      let is' : f x ≡ f v = ap f (some-injective x v at) in
      let all_p = sum_by-cons p x xs in
      let all_f = sum_by-cons f x xs in
      let rest : sum_by f xs ≡ 0 = sum_none p f xs (omega arith) (λ j u a. idle (suc j) u a) in
      omega arith
  sum_alone p f (x ∷ xs) (suc pass) v at e idle =
      let all_p = sum_by-cons p x xs in
      let all_f = sum_by-cons f x xs in
      let least = sum_at p xs pass v at in
      let here : f x ≡ 0 = idle 0 x refl (omega arith) in
      let rest = sum_alone p f xs pass v at (omega arith) (λ j u a. idle (suc j) u a) in
      omega arith
