-- What a place reaches: the smallest set that has its neighbours and is closed under edges.
use Rattle.std.specs.Prelude.{◌≡◌, ℕ, zero, suc, ◌<◌, ◌==◌, ◌||◌, Bool, true, false, List, length}
use Rattle.std.specs.List.{list_any}
use Rattle.dag_check.specs.declared.graphs.Direction.{Direction}
use Rattle.dag_check.specs.declared.graphs.Direction.TheVariants.{Upstream, Downstream}
use Rattle.dag_check.specs.Orders.{is_in}
use Rattle.dag_check.specs.Graphs.{Dag, ups, downs, passing}

-- a graph gives each place the list of its neighbours in one direction. A set of places is a test.
-- A test is closed for x if x's neighbours pass it, and so do those of each place that passes
pub record IsClosed (next : ℕ → List ℕ) (x : ℕ) (p : ℕ → Bool) : Type 0 where
  pub neighbours : (y : ℕ) → is_in (next x) y ≡ true → p y ≡ true
  pub edges : (j y : ℕ) → p j ≡ true → is_in (next j) y ≡ true → p y ≡ true

-- the smallest of these is what x reaches
pub record IsReach (next : ℕ → List ℕ) (x : ℕ) (m : ℕ → Bool) : Type 0 where
  pub closed : IsClosed next x m
  pub smallest : (p : ℕ → Bool) → IsClosed next x p → (j : ℕ) → m j ≡ true → p j ≡ true

-- the neighbours of a place in a direction
abbrev pub towards : Direction → Dag → ℕ → List ℕ
towards Upstream g = ups g
towards Downstream g = downs g

-- what a place reaches in a direction, rising
pub record IsReached (g : Dag) (d : Direction) (x : ℕ) (places : List ℕ) : Type 0 where
  pub reached : ℕ → Bool
  pub reach : IsReach (towards d g) x reached
  pub places_are : places ≡ passing reached (length g.tasks)

-- a way of at least one and at most n steps leads from x to y
abbrev pub has_way : (ℕ → List ℕ) → ℕ → ℕ → ℕ → Bool
has_way next zero x y = false
has_way next (suc n) x y = list_any (λ z. z == y || has_way next n z y) (next x)

-- the places that a way leads to from a place, rising. They are what it reaches
abbrev pub reach_of : Dag → Direction → ℕ → List ℕ
reach_of g d k = passing (has_way (towards d g) (length g.tasks) k) (length g.tasks)

-- each edge leads down
abbrev pub LeadsDown : (ℕ → List ℕ) → Type 0
LeadsDown next = (j y : ℕ) → is_in (next j) y ≡ true → y < j

-- each edge leads up, to a number below n
abbrev pub LeadsUp : (ℕ → List ℕ) → ℕ → Type 0
LeadsUp next n = (j y : ℕ) → is_in (next j) y ≡ true → (j < y) × (y < n)
