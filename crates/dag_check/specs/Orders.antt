-- Orders and cycles of a graph over positions: each position is given the list of its upstreams' positions.
use Rattle.std.specs.Prelude.{◌≡◌, ◌≢◌, ℕ, zero, suc, if◌then◌else◌, ◌+◌, ◌-◌, ◌<◌, ◌≤◌, Bool, true, false, not, ◌==◌, ◌||◌, ◌&&◌, List, [], ◌∷◌, ◌++◌, length, map, take, slice_index, slice_index_or}
use Rattle.std.specs.Global.{Vec}
use Rattle.std.specs.List.{list_any, list_all}

-- a number stands in a list
abbrev pub is_in : List ℕ → ℕ → Bool
is_in ys y = list_any (λ z. z == y) ys

-- a number stands twice in a list
abbrev pub repeated : List ℕ → Bool
repeated [] = false
repeated (x ∷ xs) = is_in xs x || repeated xs

-- the lists of a table, as a graph. Past its end there are no edges
abbrev pub edges_of : List (Vec ℕ) → ℕ → List ℕ
edges_of rows i = slice_index_or (map (λ v. v.items) rows) i []

-- each upstream of a position below n is below n
abbrev pub AllBelow : (ℕ → List ℕ) → ℕ → Type 0
AllBelow up n = (i u : ℕ) → i < n → is_in (up i) u ≡ true → u < n

-- the first number that passes
pub record IsFirst (p : ℕ → Bool) (i : ℕ) : Type 0 where
  pub passes : p i ≡ true
  pub before : (j : ℕ) → j < i → p j ≡ false

-- a position may come next where it does not stand yet and all its upstreams do
abbrev pub may_come : (ℕ → List ℕ) → (ℕ → Bool) → ℕ → Bool
may_come up stands i = not (stands i) && list_all stands (up i)

-- the positions in the order of their places: at each place the first position whose upstreams
-- all stand before
pub record IsPlacement (up : ℕ → List ℕ) (n : ℕ) (order : List ℕ) : Type 0 where
  pub long : length order ≡ n
  pub within : (k : ℕ) → k < n → slice_index order k < n
  pub first : (k : ℕ) → k < n → IsFirst (may_come up (is_in (take k order))) (slice_index order k)
  pub whole : (i : ℕ) → i < n → is_in order i ≡ true

-- a closed walk of distinct positions: each is an upstream of the next, and the last of the first.
-- It starts with the least
-- restates: Airflow 2, 'DAGs'
pub record IsCycle (up : ℕ → List ℕ) (n : ℕ) (walk : List ℕ) : Type 0 where
  pub some : 0 < length walk
  pub within : (k : ℕ) → k < length walk → slice_index walk k < n
  pub distinct : (i j : ℕ) → i < j → j < length walk → slice_index walk i ≢ slice_index walk j
  pub edges : (k : ℕ) → k + 1 < length walk → is_in (up (slice_index walk (k + 1))) (slice_index walk k) ≡ true
  pub closed : is_in (up (slice_index walk 0)) (slice_index walk (length walk - 1)) ≡ true
  pub first : (k : ℕ) → k < length walk → slice_index walk 0 ≤ slice_index walk k

-- the positions can be numbered so that each edge rises
-- restates: Airflow 2, 'DAGs'
abbrev pub IsAcyclic : (ℕ → List ℕ) → ℕ → Type 0
IsAcyclic up n = (number : ℕ → ℕ) × ((i u : ℕ) → i < n → is_in (up i) u ≡ true → number u < number i)

-- where a number stands first in a list
abbrev pub place_in : List ℕ → ℕ → ℕ
place_in [] y = 0
place_in (x ∷ xs) y = if x == y then 0 else place_in xs y + 1

-- the first number from i on that passes, of k numbers
abbrev pub seek : (ℕ → Bool) → ℕ → ℕ → ℕ
seek p i zero = i
seek p i (suc k) = if p i then i else seek p (i + 1) k

-- the positions at the first k places, of n positions. It is never computed
unfoldable pub places_of : (ℕ → List ℕ) → ℕ → ℕ → List ℕ
places_of up n zero = []
places_of up n (suc k) = places_of up n k ++ (seek (may_come up (is_in (places_of up n k))) 0 n ∷ [])
