-- The book of pools of the schedule that rows are read as.
use Rattle.std.proofs.Common.{◌≡◌, ap, ◌∙◌, ℕ, ◌≤◌, List, length, true, None, leb-true}
use Rattle.std.specs.List.{list_all}
use Rattle.pool_book.specs.Limits.{most_taken}
use Rattle.pool_book.specs.Pools.{Entries}
use Rattle.record_rows.specs.Rows.{Rows, PoolRow}
use Rattle.sched_state.specs.Limits.{Bounds, ceilings}
use Rattle.sched_state.specs.declared.graphs.LoadedGraph.{LoadedGraph}
use Rattle.sched_state.specs.declared.runs.Run.{Run}
use Rattle.sched_model.specs.Lists.{rises}
use Rattle.sched_model.specs.Schedule.{Schedule, graph_before}
use Rattle.sched_model.specs.States.{open_tries, occupied}
use Rattle.sched_draft.specs.Books.{Takes, pools_in}
use Rattle.record_rules.specs.Keys.{IsByKey}
use Rattle.record_rules.specs.Reading.{reads, schedule_of}
use Rattle.record_rules.specs.Faults.{is_pool_row_right, record_fault}
use Rattle.record_rules.proofs.FreeLemmas.{Rules, rules_of}
use Rattle.record_rules.proofs.ReaderLemmas.{restored, restored_said}
use Rattle.record_restoring.specs.Pools.{vacant_pools, open_among, taken_by}
use Rattle.record_restoring.proofs.CountLemmas.{counted_by_limits}
use Rattle.record_restoring.proofs.TakingLemmas.{book_pools, book_takes}

module _ (l : Bounds) (rows : Rows) (free : record_fault l rows ≡ None) where
  pub pools_right : list_all is_pool_row_right rows.pools ≡ true
  pools_right = let u : Rules (reads l) l rows = rules_of (reads l) l rows free in u.pools

  pub pools_few : length rows.pools ≤ l.pools
  pools_few = let u : Rules (reads l) l rows = rules_of (reads l) l rows free in leb-true _ _ u.few_pools

  pub graphs_by_id : IsByKey rows → (gs : List LoadedGraph) → gs ≡ (schedule_of l rows).graphs → rises graph_before gs ≡ true
  graphs_by_id k gs is = ap (rises graph_before) is ∙ (restored l rows k free).graphs_by_id

-- the tries of the schedule have taken their slots of the pools of the rows
pub book_made : (l : Bounds) (rows : Rows) (gs : List LoadedGraph) (rs : List Run) (ps : List PoolRow) (book es : Entries) → gs ≡ (schedule_of l rows).graphs → rs ≡ (schedule_of l rows).runs → ps ≡ rows.pools
    → book ≡ vacant_pools ps → es ≡ taken_by (open_among gs rs) book → es ≡ taken_by (open_tries (schedule_of l rows)) (vacant_pools rows.pools)
book_made l rows gs rs ps book es eg er ep eb made =
    let a : Schedule = schedule_of l rows in
    made
    ∙ (ap (λ (hs : List LoadedGraph). taken_by (open_among hs rs) book) eg
    ∙ (ap (λ (qs : List Run). taken_by (open_among a.graphs qs) book) er
    ∙ ap (taken_by (open_tries a)) (eb ∙ ap vacant_pools ep)))

pub has_pools : (l : Bounds) (rows : Rows) (es : Entries) → es ≡ taken_by (open_tries (schedule_of l rows)) (vacant_pools rows.pools) → pools_in es ≡ (schedule_of l rows).pools
has_pools l rows es made = book_pools rows.pools (open_tries (schedule_of l rows)) es made

pub has_counted : (l : Bounds) (rows : Rows) → IsByKey rows → record_fault l rows ≡ None → l.runs ≤ ceilings.runs → (name : List ℕ) → occupied (schedule_of l rows) name ≤ most_taken
has_counted l rows k free few = counted_by_limits (schedule_of l rows) (restored l rows k free) (restored_said l rows free) few

pub has_taken : (l : Bounds) (rows : Rows) (es : Entries) → IsByKey rows → record_fault l rows ≡ None → l.runs ≤ ceilings.runs → es ≡ taken_by (open_tries (schedule_of l rows)) (vacant_pools rows.pools) → Takes (occupied (schedule_of l rows)) es
has_taken l rows es k free few made = book_takes rows.pools (open_tries (schedule_of l rows)) es made (has_counted l rows k free few)
