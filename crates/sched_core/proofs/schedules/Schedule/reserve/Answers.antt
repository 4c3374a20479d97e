use Rattle.std.proofs.Common.{◌≡◌, ◌∙◌, ◌≤◌, ◌+◌, ◌-◌, length, map, min, subst, sym, vec_len, vec_capacity, ℕ, List, Option, Some, slice_get, ap, refl}
use Rattle.run_planner.specs.Index.{Index}
use Rattle.std.proofs.lemmas.Result.{on_ok_weaker}
use Rattle.run_lists.specs.Rooms.{HasPlaces, all_added}
use Rattle.sched_state.specs.declared.graphs.LoadedGraph.{LoadedGraph}
use Rattle.sched_model.specs.Schedule.{Schedule, graph_before}
use Rattle.sched_model.specs.Lists.{rises}
use Rattle.sched_core.specs.Changes.{Planned, count_of}
use Rattle.sched_core.specs.Dates.{HaveRoomWith}
use Rattle.sched_core.specs.Effects.{with_change}
use Rattle.sched_core.specs.declared.changes.Effect.{Effect}
use Rattle.sched_core.specs.declared.changes.Rest.{Rest}
use Rattle.sched_core.proofs.EffectLemmas.{rest_graphs}
use Rattle.sched_core.proofs.RoomLemmas.{runs_fit, dates_fit}
use Rattle.sched_core.proofs.KeptLemmas.{kept_room}
use Rattle.sched_core.proofs.schedules.Schedule.reserve.Goals as goal

pub returns-in-Some-clause-room : goal.returns-in-Some-clause-room
returns-in-Some-clause-room c =
    let a : Schedule = c.change.inside.before.value.content in
    let e : Effect = c.change.inside.effect in
    let places : ℕ = min (vec_capacity c.room_for_graphs.new.graphs - vec_len c.room_for_graphs.new.graphs) (min (vec_capacity c.room_for_graphs.new.shelves - vec_len c.room_for_graphs.new.shelves) (vec_capacity c.room_for_graphs.new.dates - vec_len c.room_for_graphs.new.dates)) in
    let room : ℕ = c.reserve.new.self.room in
    let gs : List LoadedGraph = c.self.inside.graphs.items in
    let ys : List Index = c.room_for_graphs.new.dates.items in
    let made : HaveRoomWith gs e.rest c.room_for_dates.new.dates.items = subst (λ (ks : List LoadedGraph). HaveRoomWith ks e.rest c.room_for_dates.new.dates.items) c.deref.ensures.value c.in_ok-room_for_dates.ensures.room in
    on_ok_weaker c.reserve.result
    (λ (fit : HasPlaces c.in-Some.rest.edits room). record {
      graphs = subst (λ (p : Planned). length p.after.graphs ≤ length p.before.graphs + places) c.change.view_is
          (subst (λ (gs : List LoadedGraph). length gs ≤ length a.graphs + places) (sym (rest_graphs e.rest (with_change e.graphs a))) (c.in_ok-room_for_graphs.ensures.room a.graphs));
      runs = subst (λ (p : Planned). length p.after.runs ≤ length p.before.runs + room) c.change.view_is (runs_fit e a room c.change.invariant.edits (λ n q.
          let x : ◌≡◌ {A = Option Rest} (Some c.in-Some.rest) (Some n) = sym c.in-Some.is ∙ q in let i : c.in-Some.rest ≡ n = cc in subst (λ (m : Rest). all_added m.edits ≤ room) i fit));
      dates = subst (λ (ks : List LoadedGraph). (n : ℕ) (g : LoadedGraph) (more : ℕ) → slice_get ks n ≡ Some g → slice_get (map (λ (x : Index). x.room) ys) n ≡ Some more → count_of g.dag.spec.dag_id c.args.change.now.after.runs ≤ count_of g.dag.spec.dag_id c.args.change.now.before.runs + more) (sym c.room_for_graphs.ensures.graphs)
          (subst (λ (p : Planned). (n : ℕ) (g : LoadedGraph) (more : ℕ) → slice_get gs n ≡ Some g → slice_get (map (λ (x : Index). x.room) ys) n ≡ Some more → count_of g.dag.spec.dag_id p.after.runs ≤ count_of g.dag.spec.dag_id p.before.runs + more) c.change.view_is
          (dates_fit e.rest e.graphs a gs ys c.change.invariant.edits (subst (HaveRoomWith gs e.rest) (sym c.room_for_graphs.ensures.dates) made)));
    })
    c.reserve.ensures.places

pub invariant_of-self : goal.invariant_of-self
invariant_of-self c = kept_room c.self.inside c.self.inside.graphs c.self.inside.shelves c.room_for_dates.new.dates c.self.inside.runs refl refl c.room_for_dates.ensures.dates refl c.self.invariant

pub invariant_of-self-in_err-room_for_graphs : goal.invariant_of-self-in_err-room_for_graphs
invariant_of-self-in_err-room_for_graphs c =
    kept_room c.self.inside c.room_for_graphs.new.graphs c.room_for_graphs.new.shelves c.room_for_graphs.new.dates c.self.inside.runs c.room_for_graphs.ensures.graphs c.room_for_graphs.ensures.shelves
    (ap (map (λ (x : Index). x.dates)) c.room_for_graphs.ensures.dates ∙ c.room_for_dates.ensures.dates) refl c.self.invariant

pub invariant_of-self-in-None : goal.invariant_of-self-in-None
invariant_of-self-in-None c =
    kept_room c.self.inside c.room_for_graphs.new.graphs c.room_for_graphs.new.shelves c.room_for_graphs.new.dates c.self.inside.runs c.room_for_graphs.ensures.graphs c.room_for_graphs.ensures.shelves
    (ap (map (λ (x : Index). x.dates)) c.room_for_graphs.ensures.dates ∙ c.room_for_dates.ensures.dates) refl c.self.invariant

pub invariant_of-self-in-Some : goal.invariant_of-self-in-Some
invariant_of-self-in-Some c =
    kept_room c.self.inside c.room_for_graphs.new.graphs c.room_for_graphs.new.shelves c.room_for_graphs.new.dates c.reserve.new.self c.room_for_graphs.ensures.graphs c.room_for_graphs.ensures.shelves
    (ap (map (λ (x : Index). x.dates)) c.room_for_graphs.ensures.dates ∙ c.room_for_dates.ensures.dates) c.reserve.ensures.runs c.self.invariant

pub room_for_dates-requires-clause-order : goal.room_for_dates-requires-clause-order
room_for_dates-requires-clause-order c = ap (rises graph_before) c.deref.ensures.value ∙ c.self.invariant.held.kept.sound.graphs_by_id
