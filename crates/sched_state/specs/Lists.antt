-- Words on lists that the definitions of the schedule share.
use Rattle.std.specs.Prelude.{ℕ, zero, suc, ◌+◌, Bool, true, false, List, [], ◌∷◌, Option, Some, None, option_map}
use Rattle.std.specs.Str.{bytes_eq}
use Rattle.std.specs.Ordering.{nat_cmp}
use Rattle.std.specs.Cmp.Lexicographic.{slice_cmp}
use Rattle.std.specs.declared.cmp.Ordering.{Ordering}
use Rattle.std.specs.declared.cmp.Ordering.TheVariants.{Less, Equal, Greater}

-- two names, as lists of bytes, are the same
abbrev pub same : List ℕ → List ℕ → Bool
same = bytes_eq

-- the order of names, by bytes
abbrev pub name_cmp : List ℕ → List ℕ → Ordering
name_cmp = slice_cmp nat_cmp

-- the order says that the first stands before the second
abbrev pub is_less : Ordering → Bool
is_less Less = true
is_less Equal = false
is_less Greater = false

-- the list in which the first element that f changes is changed, none where f changes none; f is told the element's place
abbrev pub change_from : {X : Type 0} → (ℕ → X → Option X) → ℕ → List X → Option (List X)
change_from f i [] = None
change_from f i (x ∷ xs) = elim (f i x) [ Some y ↦ Some (y ∷ xs) | None ↦ option_map (λ ys. x ∷ ys) (change_from f (i + 1) xs) ]

abbrev pub first_change : {X : Type 0} → (X → Option X) → List X → Option (List X)
first_change f xs = change_from (λ i x. f x) 0 xs

-- f is applied again and again, until it gives none, at most n times
abbrev pub repeat : {X : Type 0} → ℕ → (X → Option X) → X → X
repeat zero f x = x
repeat (suc n) f x = elim (f x) [ Some y ↦ repeat n f y | None ↦ x ]

-- x put before the first element that it stands before
abbrev pub insert_by : {X : Type 0} → (X → X → Bool) → X → List X → List X
insert_by before x [] = x ∷ []
insert_by before x (y ∷ ys) = elim (before x y) [ true ↦ x ∷ y ∷ ys | false ↦ y ∷ insert_by before x ys ]
