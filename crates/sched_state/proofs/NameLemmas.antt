-- Names that are the same, and what is found among elements.
use Rattle.std.proofs.Common.{◌≡◌, ◌∙◌, refl, sym, ap, ℕ, List, [], ◌∷◌, Bool, true, false, cond, ◌||◌, find, Option, Some, None, is_some}
use Rattle.std.specs.List.{list_any}
use Rattle.std.proofs.lemmas.Slice.Eq.{bytes_eq-Decides}
use Rattle.sched_state.specs.Lists.{same}

pub same_is : (x y : List ℕ) → same x y ≡ true → x ≡ y
same_is x y e = (bytes_eq-Decides x y).0 e

pub same_itself : (x : List ℕ) → same x x ≡ true
same_itself x = (bytes_eq-Decides x x).1 refl

-- something is found where some element passes
pub find_any : {X : Type 0} (p : X → Bool) (xs : List X) → is_some (find p xs) ≡ list_any p xs
find_any p [] = refl
find_any p (x ∷ xs) = elim (p x) as (λ b. is_some (cond b (Some x) (find p xs)) ≡ (b || list_any p xs)) [
  | true ↦ refl
  | false ↦ find_any p xs
]

-- what is found passes
pub find_passes : {X : Type 0} (p : X → Bool) (xs : List X) (x : X) → find p xs ≡ Some x → p x ≡ true
find_passes {X} p [] x e = absurd (let c : ◌≡◌ {A = Option X} None (Some x) = e in cc)
find_passes {X} p (y ∷ ys) x e = elim (p y) as (λ b. p y ≡ b → cond b (Some y) (find p ys) ≡ Some x → p x ≡ true) [
  | true ↦ λ h f. let c : ◌≡◌ {A = Option X} (Some y) (Some x) = f in let is : y ≡ x = cc in ap p (sym is) ∙ h
  | false ↦ λ h f. find_passes p ys x f
] refl e

pub or_assoc : (a b c : Bool) → (a || (b || c)) ≡ ((a || b) || c)
or_assoc true b c = refl
or_assoc false b c = refl
