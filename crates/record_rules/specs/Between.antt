-- The rows of one table that another lacks, and putting rows by key.
use Rattle.std.specs.Prelude.{◌≡◌, Bool, true, not, ◌&&◌, if◌then◌else◌, List, [], ◌∷◌, filter}
use Rattle.std.specs.List.{list_all, list_any}

-- a row put by its key: in the place of the row with its key, or at its place in the order
abbrev pub put : {X : Type 0} → (X → X → Bool) → X → List X → List X
put before r [] = r ∷ []
put before r (y ∷ ys) = if before y r then y ∷ put before r ys else (if before r y then r ∷ y ∷ ys else r ∷ ys)

-- rows put one after another
abbrev pub puts : {X : Type 0} → (X → X → Bool) → List X → List X → List X
puts before [] xs = xs
puts before (r ∷ rs) xs = puts before rs (put before r xs)

-- the rows of ys that xs lacks
abbrev pub lacked : {X : Type 0} → (X → X → Bool) → List X → List X → List X
lacked same_row xs ys = filter (λ y. not (list_any (same_row y) xs)) ys

-- two rows have one key
abbrev pub are_tied : {X : Type 0} → (X → X → Bool) → X → X → Bool
are_tied before x y = not (before x y) && not (before y x)

-- each key of xs is one of ys: no row is taken away
abbrev pub keeps_keys : {X : Type 0} → (X → X → Bool) → List X → List X → Bool
keeps_keys before xs ys = list_all (λ x. list_any (are_tied before x) ys) xs

-- rows that pass a test of equal rows are equal
abbrev pub Tells : {X : Type 0} → (X → X → Bool) → Type 0
Tells {X} same_row = (x y : X) → same_row x y ≡ true → x ≡ y
