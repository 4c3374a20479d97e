use Rattle.std.proofs.Common.{◌≡◌, ◌∙◌, ◌≤◌, ◌+◌, true, false, refl, sym, ap, subst, sum_by, ℕ, List, true≢false}
use Rattle.sched_state.specs.declared.graphs.LoadedGraph.{LoadedGraph}
use Rattle.sched_state.specs.declared.runs.Run.{Run}
use Rattle.sched_model.specs.Lists.{rises}
use Rattle.sched_model.specs.Schedule.{graph_before}
use Rattle.sched_model.specs.Sound.{IsSound}
use Rattle.sched_model.specs.Handout.{last_serial}
use Rattle.sched_model.specs.States.{active_tries, in_flight}
use Rattle.record_restoring.specs.Parts.{schedule_in}
use Rattle.sched_creation.specs.Dates.{HaveDates}
use Rattle.sched_ready.specs.Held.{AreShelvesOf}
use Rattle.sched_handout.specs.Active.{count_of}
use Rattle.sched_handout.specs.declared.occupied.Occupied.{Occupied}
use Rattle.sched_core.specs.Books.{IsHeldWith}
use Rattle.sched_core.specs.Inside.{open_in, open_for}
use Rattle.sched_core.proofs.BookLemmas.{read_occupied}
use Rattle.sched_core.proofs.ViewLemmas.{active_is, flight_is, flight_small}
use Rattle.sched_core.proofs.schedules.Schedule.restore.Goals as goal

pub count_open-requires : goal.count_open-requires
count_open-requires c =
    let h = c.in_ok-limits.ensures.restored in
    subst (λ (rs : List Run). sum_by open_in rs ≤ last_serial + 1) (sym c.deref.ensures.value) (flight_small (schedule_in c.in_ok-limits.field-0) h.sound)

pub invariant_of-result : goal.invariant_of-result
invariant_of-result c =
    let p = c.in_ok-limits.field-0 in
    let h = c.in_ok-limits.ensures.restored in
    let flight : c.in_ok-counted.counted.in_all ≡ in_flight (schedule_in p) = c.in_ok-counted.ensures.in_all ∙ (ap (sum_by open_in) c.deref.ensures.value ∙ sym (flight_is (schedule_in p) h.sound)) in
    let active : (id : List ℕ) → count_of id c.in_ok-counted.counted.by_graph ≡ active_tries (schedule_in p) id =
    λ id. c.in_ok-counted.ensures.by_graph id ∙ (ap (sum_by (open_for id)) c.deref.ensures.value ∙ sym (active_is (schedule_in p) id h.sound)) in
    let t : Occupied = record { in_flight = c.in_ok-counted.counted.in_all; pools = p.pools; active = c.in_ok-counted.counted.by_graph } in
    record {
      held = subst (λ (rs : List Run). IsHeldWith false (record (schedule_in p) { runs = rs }) t) (sym c.in_ok-runs.ensures)
          (record { kept = record { sound = h.sound; said = h.said }; settled = λ e. absurd (true≢false (sym e)); counted = h.counted; occupied = read_occupied (schedule_in p) t h.counted flight refl h.taken active });
      shelves = subst (λ (gs : List LoadedGraph). AreShelvesOf p.clock gs c.in_ok-runs.runs.runs c.in_ok-dates.shelves.items) c.as_slice.ensures.value c.in_ok-dates.ensures.shelves;
      dates = subst (λ (gs : List LoadedGraph). HaveDates gs c.in_ok-runs.runs.runs c.in_ok-dates.dates.items) c.as_slice.ensures.value c.in_ok-dates.ensures.dates;
    }

pub kept_beside-requires : goal.kept_beside-requires
kept_beside-requires c =
    let p = c.in_ok-limits.field-0 in
    subst (λ (rs : List Run). IsSound (record (schedule_in p) { graphs = c.as_slice.result.now; runs = rs })) (sym c.in_ok-runs.ensures)
    (subst (λ (gs : List LoadedGraph). IsSound (record (schedule_in p) { graphs = gs })) (sym c.as_slice.ensures.value) c.in_ok-limits.ensures.restored.sound)

pub invariant_of-base : goal.invariant_of-base
invariant_of-base c = ap (rises graph_before) c.as_slice.ensures.value ∙ c.in_ok-limits.ensures.restored.sound.graphs_by_id
