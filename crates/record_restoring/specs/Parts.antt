-- The parts of a schedule in memory.
use Rattle.std.specs.Prelude.{◌≡◌, ℕ, ◌≤◌, List, None}
use Rattle.pool_book.specs.Limits.{most_taken}
use Rattle.record_rows.specs.Rows.{Rows}
use Rattle.sched_state.specs.Limits.{Bounds}
use Rattle.sched_model.specs.Schedule.{Schedule}
use Rattle.sched_model.specs.Sound.{IsSound, AllSay}
use Rattle.sched_model.specs.States.{occupied}
use Rattle.sched_model.specs.Tables.{tables}
use Rattle.sched_draft.specs.Books.{Takes, pools_in}
use Rattle.record_rules.specs.Reading.{schedule_of}
use Rattle.record_rules.specs.Faults.{record_fault}
use Rattle.record_restoring.specs.declared.parts.ScheduleParts.{ScheduleParts}

-- the schedule that they are the parts of
abbrev pub schedule_in : ScheduleParts → Schedule
schedule_in p = record {
  limits = p.limits;
  graphs = p.graphs.items;
  pools = pools_in p.pools.pools;
  now = p.clock;
  lanes = p.lanes;
  next = p.next;
  runs = p.runs.items;
}

-- no rule fails; the parts are those of the schedule that the rows are read as, whose tables are the rows; it is sound and said by its texts;
-- and the book of pools has what its tries without an end take of each pool, which is no more than a book counts
pub record IsRestored (l : Bounds) (rows : Rows) (p : ScheduleParts) : Type 0 where
  pub free : record_fault l rows ≡ None
  pub same : schedule_in p ≡ schedule_of l rows
  pub back : tables (schedule_in p) ≡ rows
  pub sound : IsSound (schedule_in p)
  pub said : AllSay (schedule_in p).graphs
  pub counted : (name : List ℕ) → occupied (schedule_in p) name ≤ most_taken
  pub taken : Takes (occupied (schedule_in p)) p.pools.pools
