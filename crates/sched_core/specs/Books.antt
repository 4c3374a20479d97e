-- A schedule beside the numbers of what its tries without an end occupy, and beside its shelves.
use Rattle.std.specs.Prelude.{◌≡◌, ℕ, ◌≤◌, Bool, true, List}
use Rattle.pool_book.specs.Limits.{most_taken}
use Rattle.sched_model.specs.Schedule.{Schedule}
use Rattle.sched_model.specs.States.{occupied}
use Rattle.sched_draft.specs.Books.{pools_in}
use Rattle.sched_handout.specs.Occupied.{AreOccupied}
use Rattle.sched_creation.specs.Dates.{HaveDates}
use Rattle.sched_ready.specs.Held.{AreShelvesOf}
use Rattle.sched_handout.specs.declared.occupied.Occupied.{Occupied}
use Rattle.sched_events.specs.SettledAndSound.{IsSoundAndSaid, IsSettled}
use Rattle.sched_core.specs.declared.schedules.Schedule.TheInside.{Inside}

-- what a schedule in memory holds
abbrev pub content_inside : Inside → Schedule
content_inside s = record {
  limits = s.limits;
  graphs = s.graphs.items;
  pools = pools_in s.occupied.pools.pools;
  now = s.clock;
  lanes = s.lanes;
  next = s.next;
  runs = s.runs.runs;
}

-- of no pool more slots are taken than a book counts
abbrev pub IsCounted : Schedule → Type 0
IsCounted a = (name : List ℕ) → occupied a name ≤ most_taken

-- the schedule is sound and said by its texts, and settled where it is known to be; and these are its numbers
pub record IsHeldWith (is_settled : Bool) (a : Schedule) (t : Occupied) : Type 0 where
  pub kept : IsSoundAndSaid a
  pub settled : is_settled ≡ true → IsSettled a
  pub counted : IsCounted a
  pub occupied : AreOccupied a t

-- with these numbers it is held, and these are its shelves, and the dates of its graphs' runs
pub record IsKept (s : Inside) : Type 0 where
  pub held : IsHeldWith s.is_settled (content_inside s) s.occupied
  pub shelves : AreShelvesOf s.clock s.graphs.items s.runs.runs s.shelves.items
  pub dates : HaveDates s.graphs.items s.runs.runs s.dates.items
