-- What is kept beside a schedule is that of a draft over it.
use Rattle.std.proofs.Common.{◌≡◌, sym, subst, List, map}
use Rattle.std.specs.Global.{Vec}
use Rattle.run_lists.specs.Rooms.{RunsValue}
use Rattle.sched_state.specs.declared.graphs.LoadedGraph.{LoadedGraph}
use Rattle.sched_state.specs.declared.runs.Run.{Run}
use Rattle.sched_ready.specs.Held.{AreShelvesOf}
use Rattle.sched_ready.specs.Shelves.{ShelfValue}
use Rattle.run_planner.specs.Index.{Index}
use Rattle.sched_model.specs.Schedule.{Schedule}
use Rattle.sched_creation.specs.Dates.{HaveDates}
use Rattle.sched_core.specs.Books.{IsHeldWith, IsKept, content_inside}
use Rattle.sched_core.specs.Changes.{ScheduleValue}
use Rattle.sched_core.specs.declared.schedules.Schedule.TheInside.{Inside}
use Rattle.sched_core.proofs.DateLemmas.{same_dates}

pub draft_dates : (i : Inside) (h : ScheduleValue) (d : Schedule) (all : List Index) → content_inside i ≡ h.content → HaveDates i.graphs.items i.runs.runs i.dates.items → d ≡ h.content → all ≡ i.dates.items → HaveDates d.graphs d.runs all
draft_dates i h d all view kept draft same =
    subst (HaveDates d.graphs d.runs) (sym same) (subst (λ (s : Schedule). HaveDates s.graphs s.runs i.dates.items) (sym draft) (subst (λ (s : Schedule). HaveDates s.graphs s.runs i.dates.items) view kept))

-- where the graphs and the runs are the same, and the shelves and the dates, all is kept
pub kept_room : (i : Inside) (gs : Vec LoadedGraph) (ss : Vec ShelfValue) (xs : Vec Index) (rs : RunsValue) → gs.items ≡ i.graphs.items → ss.items ≡ i.shelves.items → map (λ (x : Index). x.dates) xs.items ≡ map (λ (x : Index). x.dates) i.dates.items → rs.runs ≡ i.runs.runs
    → IsKept i → IsKept (record i { graphs = gs; shelves = ss; dates = xs; runs = rs })
kept_room i gs ss xs rs graphs shelves dates runs kept = record {
  held = subst (λ (ks : List LoadedGraph). IsHeldWith i.is_settled (record (content_inside i) { graphs = ks; runs = rs.runs }) i.occupied) (sym graphs)
      (subst (λ (qs : List Run). IsHeldWith i.is_settled (record (content_inside i) { runs = qs }) i.occupied) (sym runs) kept.held);
  shelves = subst (λ (ks : List LoadedGraph). AreShelvesOf i.clock ks rs.runs ss.items) (sym graphs)
      (subst (λ (qs : List Run). AreShelvesOf i.clock i.graphs.items qs ss.items) (sym runs) (subst (AreShelvesOf i.clock i.graphs.items i.runs.runs) (sym shelves) kept.shelves));
  dates = subst (λ (ks : List LoadedGraph). HaveDates ks rs.runs xs.items) (sym graphs)
      (subst (λ (qs : List Run). HaveDates i.graphs.items qs xs.items) (sym runs) (same_dates i.graphs.items i.runs.runs i.dates.items xs.items dates kept.dates));
}
