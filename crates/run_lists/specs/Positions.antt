-- Where the runs stand of which something holds.
use Rattle.std.specs.Prelude.{◌≡◌, ℕ, suc, ◌≤◌, ◌&&◌, Bool, true, false, cond, List, [], ◌∷◌, length, min, Option, Some, None, nat_lt, nat_eq}
use Rattle.std.specs.List.{list_any}
use Rattle.instance_machine.specs.Instances.{InstanceValue}
use Rattle.sched_state.specs.Lists.{same}
use Rattle.sched_state.specs.declared.runs.Run.{Run}
use Rattle.sched_model.specs.Schedule.{is_queued, is_running}
use Rattle.sched_model.specs.States.{is_open}
use Rattle.run_lists.specs.declared.positions.Standing.{Standing}
use Rattle.run_lists.specs.declared.positions.Standing.TheVariants.{Running, Queued, InFlight}
use Rattle.run_lists.specs.Touched.{shifted_from}

-- their positions, where the first of these runs stands at position i
abbrev pub positions_from : (Run → Bool) → ℕ → List Run → List ℕ
positions_from p i [] = []
positions_from p i (r ∷ rs) = cond (p r) (i ∷ positions_from p (suc i) rs) (positions_from p (suc i) rs)

-- the positions of all runs of which p holds
abbrev pub positions_where : (Run → Bool) → List Run → List ℕ
positions_where p rs = positions_from p 0 rs

-- ---- among positions that rise

-- the place of the first that is not below n
abbrev pub place_of : ℕ → List ℕ → ℕ
place_of n [] = 0
place_of n (x ∷ xs) = cond (nat_lt x n) (suc (place_of n xs)) 0

abbrev pub is_position : ℕ → Option ℕ → Bool
is_position n None = false
is_position n (Some x) = nat_eq x n

-- with n at its place, unless it is there
abbrev pub with_position : ℕ → List ℕ → List ℕ
with_position n [] = n ∷ []
with_position n (x ∷ xs) = cond (nat_lt x n) (x ∷ with_position n xs) (cond (nat_eq x n) (x ∷ xs) (n ∷ x ∷ xs))

-- without n
abbrev pub without_position : ℕ → List ℕ → List ℕ
without_position n [] = []
without_position n (x ∷ xs) = cond (nat_lt x n) (x ∷ without_position n xs) (cond (nat_eq x n) xs (x ∷ xs))

-- n is one of them, or is not
abbrev pub marked : Bool → ℕ → List ℕ → List ℕ
marked true n ns = with_position n ns
marked false n ns = without_position n ns

-- a run was put in at position n, where it is new, or written over the one there: n is one of them, or is not
abbrev pub placed : Bool → Bool → ℕ → List ℕ → List ℕ
placed true holds n ns = marked holds n (shifted_from n ns)
placed false holds n ns = marked holds n ns

-- ---- those that runs keep

-- a try of the run has no end
abbrev pub has_open : Run → Bool
has_open r = list_any (λ (i : InstanceValue). list_any is_open i.tries) r.instances

-- the run is running, or is queued, or has a try in flight
abbrev pub stands : Standing → Run → Bool
stands Running r = is_running r.phase
stands Queued r = is_queued r.phase
stands InFlight r = has_open r

-- the run is one of this graph, and stands so
abbrev pub stands_in : List ℕ → Standing → Run → Bool
stands_in id standing r = same r.graph id && stands standing r

-- these are the positions of the runs of which p holds, and there is room for that of each run
pub record IsIndex (p : Run → Bool) (rs : List Run) (ns : List ℕ) (capacity : ℕ) : Type 0 where
  pub positions : ns ≡ positions_where p rs
  pub room : length rs ≤ capacity

-- the least of four rooms
abbrev pub room_of : ℕ → ℕ → ℕ → ℕ → ℕ
room_of a b c d = min a (min b (min c d))
