-- Words on lists that the abstract schedule adds to those of `sched_state`.
use Rattle.std.specs.Prelude.{ℕ, zero, suc, ◌+◌, Bool, true, false, cond, ◌&&◌, List, [], ◌∷◌, Option, Some, None, nat_lt}
use Rattle.std.specs.List.{list_all}
use Rattle.sched_state.specs.graph_file.Lists.{when}

-- the element at a place is changed
abbrev pub at : {X : Type 0} → (X → X) → ℕ → List X → List X
at f n [] = []
at f zero (x ∷ xs) = f x ∷ xs
at f (suc n) (x ∷ xs) = x ∷ at f n xs

-- f with each element and its place, which are counted from i
abbrev pub map_places : {X Y : Type 0} → (ℕ → X → Y) → ℕ → List X → List Y
map_places f i [] = []
map_places f i (x ∷ xs) = f i x ∷ map_places f (i + 1) xs

-- f with the elements of two lists, side by side, as far as both go
abbrev pub zip_with : {X Y Z : Type 0} → (X → Y → Z) → List X → List Y → List Z
zip_with f [] ys = []
zip_with f (x ∷ xs) [] = []
zip_with f (x ∷ xs) (y ∷ ys) = f x y ∷ zip_with f xs ys

-- the lists are of one length, and what stands side by side passes
abbrev pub all_pairs : {X Y : Type 0} → (X → Y → Bool) → List X → List Y → Bool
all_pairs p [] [] = true
all_pairs p [] (y ∷ ys) = false
all_pairs p (x ∷ xs) [] = false
all_pairs p (x ∷ xs) (y ∷ ys) = p x y && all_pairs p xs ys

-- the first, or where it is not there the second
abbrev pub or_else : {X : Type 0} → Option X → Option X → Option X
or_else (Some x) o = Some x
or_else None o = o

-- the last element that passes
abbrev pub last_passing : {X : Type 0} → (X → Bool) → List X → Option X
last_passing p [] = None
last_passing p (x ∷ xs) = or_else (last_passing p xs) (when (p x) x)

-- all elements but the last
abbrev pub but_last : {X : Type 0} → List X → List X
but_last [] = []
but_last (x ∷ []) = []
but_last (x ∷ y ∷ ys) = x ∷ but_last (y ∷ ys)

-- each element stands before all after it
abbrev pub rises : {X : Type 0} → (X → X → Bool) → List X → Bool
rises before [] = true
rises before (x ∷ xs) = list_all (before x) xs && rises before xs

-- x, or what stands before it
abbrev pub better : {X : Type 0} → (X → X → Bool) → X → Option X → Option X
better before x None = Some x
better before x (Some y) = cond (before y x) (Some y) (Some x)

-- the first of the elements before which no other stands
abbrev pub best_by : {X : Type 0} → (X → X → Bool) → List X → Option X
best_by before [] = None
best_by before (x ∷ xs) = better before x (best_by before xs)

-- the least number of a list
abbrev pub least : List ℕ → Option ℕ
least xs = best_by nat_lt xs
