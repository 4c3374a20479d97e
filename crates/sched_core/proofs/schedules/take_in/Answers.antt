use Rattle.std.proofs.Common.{◌≡◌, ◌+◌, ◌≤◌, ◌∙◌, ap, subst, sym, ℕ, List, Bool, true, false, cond, insert, length, slice_set, arith}
use Rattle.std.specs.List.{list_any}
use Rattle.std.specs.Result.{is_ok}
use Rattle.graph_file.specs.declared.graph_specs.GraphSpec.{GraphSpec}
use Rattle.sched_state.specs.Lists.{same}
use Rattle.sched_model.specs.Schedule.{graph_before}
use Rattle.sched_state.specs.declared.graphs.LoadedGraph.{LoadedGraph}
use Rattle.sched_model.specs.Changes.{new_graph, with_graph}
use Rattle.sched_core.specs.Inside.{StandsAt, IsPlaceFor}
use Rattle.sched_core.proofs.TakeInLemmas.{one_there, kept_known, taken_known, taken_new, length-new}
use Rattle.run_planner.specs.Index.{Index}
use Rattle.sched_state.proofs.NameLemmas.{same_is}
use Rattle.sched_creation.specs.Dates.{HaveDates}
use Rattle.dag_check.specs.Graphs.{Dag}
use Rattle.sched_state.specs.declared.runs.Run.{Run}
use Rattle.sched_ready.specs.Held.{AreShelvesOf, FitsShelf}
use Rattle.sched_ready.specs.Shelves.{ShelfValue}
use Rattle.sched_core.proofs.DateLemmas.{dates_set, dates_insert, no_dates}
use Rattle.sched_core.proofs.ShelfLemmas.{IsShelfOf, beside, from_beside, quiet_shelf, shelves_insert, shelves_set}
use Rattle.sched_core.proofs.schedules.take_in.Goals as goal

pub returns-then-not-is_same-clause-graphs : goal.returns-then-not-is_same-clause-graphs
returns-then-not-is_same-clause-graphs c =
    let gs : List LoadedGraph = c.args.graphs.now.items in
    let stands : StandsAt c.args.dag.spec.dag_id gs c.in-Some.place =
    subst (λ (s : GraphSpec). StandsAt s.dag_id gs c.in-Some.place) c.spec.ensures.spec
    (subst (λ (ks : List LoadedGraph). StandsAt c.spec.result.now.dag_id ks c.in-Some.place) c.deref.ensures.value c.in-Some.ensures) in
    let g : LoadedGraph = c.index_mut.result.now in
    let read : c.index.result.now ≡ g = one_there gs c.in-Some.place c.index.result.now g stands.below c.index.ensures c.index_mut.ensures.value in
    let other : same g.text c.args.text ≡ false = ap (λ (k : LoadedGraph). same k.text c.args.text) (sym read) ∙ (sym c.is_same.ensures ∙ c.if-not-is_same.true) in
    ap (slice_set gs c.in-Some.place) c.take_text.ensures ∙ taken_known c.args.text c.args.dag gs c.in-Some.place g stands c.index_mut.ensures.value c.requires.order other

pub returns-else-not-is_same-clause-graphs : goal.returns-else-not-is_same-clause-graphs
returns-else-not-is_same-clause-graphs c =
    let gs : List LoadedGraph = c.args.graphs.now.items in
    let stands : StandsAt c.args.dag.spec.dag_id gs c.in-Some.place =
    subst (λ (s : GraphSpec). StandsAt s.dag_id gs c.in-Some.place) c.spec.ensures.spec
    (subst (λ (ks : List LoadedGraph). StandsAt c.spec.result.now.dag_id ks c.in-Some.place) c.deref.ensures.value c.in-Some.ensures) in
    kept_known c.args.text c.args.dag gs c.in-Some.place c.index.result.now stands c.index.ensures c.requires.order (sym c.is_same.ensures ∙ c.if-not-is_same.false)

pub returns-in-None-clause-graphs : goal.returns-in-None-clause-graphs
returns-in-None-clause-graphs c =
    let gs = c.args.graphs.now.items in
    let new : LoadedGraph = new_graph c.args.text c.args.dag in
    let unknown = subst (λ (s : GraphSpec). list_any (λ (k : LoadedGraph). same k.dag.spec.dag_id s.dag_id) gs ≡ false) c.spec.ensures.spec
    (ap (list_any (λ (k : LoadedGraph). same k.dag.spec.dag_id c.spec.result.now.dag_id)) (sym c.deref.ensures.value) ∙ c.in-None.ensures) in
    let long : length (with_graph c.args.text c.args.dag gs) ≡ length gs + 1 = length-new c.args.text c.args.dag gs unknown in
    let ok : is_ok c.insert.result ≡ true = c.insert.ensures.succeeds (omega (arith, long, c.requires.room)) in
    let placed : IsPlaceFor graph_before new gs c.place_for_graph-place.result =
    subst (λ (g : LoadedGraph). IsPlaceFor graph_before g gs c.place_for_graph-place.result) c.new_graph-graph.ensures
    (subst (λ (ks : List LoadedGraph). IsPlaceFor graph_before c.new_graph-graph.result ks c.place_for_graph-place.result) c.deref-in-None.ensures.value c.place_for_graph-place.ensures) in
    c.insert.ensures.items
    ∙ (ap (λ (b : Bool). cond b (insert gs c.place_for_graph-place.result c.new_graph-graph.result) gs) ok
    ∙ (ap (insert gs c.place_for_graph-place.result) c.new_graph-graph.ensures
    ∙ taken_new c.args.text c.args.dag gs c.place_for_graph-place.result unknown placed))

pub returns-then-not-is_same-clause-shelves : goal.returns-then-not-is_same-clause-shelves
returns-then-not-is_same-clause-shelves c a h none =
    let gs : List LoadedGraph = c.args.graphs.now.items in
    let ss : List ShelfValue = c.args.shelves.now.items in
    let stands : StandsAt c.args.dag.spec.dag_id gs c.in-Some.place =
    subst (λ (s : GraphSpec). StandsAt s.dag_id gs c.in-Some.place) c.spec.ensures.spec
    (subst (λ (ks : List LoadedGraph). StandsAt c.spec.result.now.dag_id ks c.in-Some.place) c.deref.ensures.value c.in-Some.ensures) in
    let g : LoadedGraph = c.take_text.new.graph in
    let is : g.dag ≡ c.args.dag = ap (λ (k : LoadedGraph). k.dag) c.take_text.ensures in
    let own : IsShelfOf a.now a.runs g c.args.shelf = quiet_shelf a.now a.runs g c.args.shelf (subst (λ (d : Dag). FitsShelf d c.args.shelf) (sym is) c.requires.shelf) (ap (λ (d : Dag). list_any (λ (r : Run). same r.graph d.spec.dag_id) a.runs) is ∙ none) in
    from_beside a.now (slice_set gs c.in-Some.place g) a.runs (slice_set ss c.in-Some.place c.args.shelf) (shelves_set a.now gs a.runs ss c.in-Some.place g c.args.shelf stands.below (beside a.now gs a.runs ss h) own)

pub returns-in-None-clause-shelves : goal.returns-in-None-clause-shelves
returns-in-None-clause-shelves c a h none =
    let gs : List LoadedGraph = c.args.graphs.now.items in
    let ss : List ShelfValue = c.args.shelves.now.items in
    let place : ℕ = c.place_for_graph-place.result in
    let new : LoadedGraph = new_graph c.args.text c.args.dag in
    let unknown = subst (λ (s : GraphSpec). list_any (λ (k : LoadedGraph). same k.dag.spec.dag_id s.dag_id) gs ≡ false) c.spec.ensures.spec
    (ap (list_any (λ (k : LoadedGraph). same k.dag.spec.dag_id c.spec.result.now.dag_id)) (sym c.deref.ensures.value) ∙ c.in-None.ensures) in
    let long : length (with_graph c.args.text c.args.dag gs) ≡ length gs + 1 = length-new c.args.text c.args.dag gs unknown in
    let ok : is_ok c.insert.result ≡ true = c.insert.ensures.succeeds (omega (arith, long, c.requires.room)) in
    let beside_it : is_ok c.insert-in-None.result ≡ true = c.insert-in-None.ensures.succeeds (omega (arith, long, c.requires.places, c.requires.shelves)) in
    let graphs : c.insert.new.self.items ≡ insert gs place new =
    c.insert.ensures.items ∙ (ap (λ (b : Bool). cond b (insert gs place c.new_graph-graph.result) gs) ok ∙ ap (insert gs place) c.new_graph-graph.ensures) in
    let rows : c.insert-in-None.new.self.items ≡ insert ss place c.args.shelf = c.insert-in-None.ensures.items ∙ ap (λ (b : Bool). cond b (insert ss place c.args.shelf) ss) beside_it in
    let within : place ≤ length gs = subst (λ (ks : List LoadedGraph). place ≤ length ks) c.deref-in-None.ensures.value c.place_for_graph-place.ensures.within in
    let own : IsShelfOf a.now a.runs new c.args.shelf = quiet_shelf a.now a.runs new c.args.shelf c.requires.shelf none in
    subst (λ (ks : List LoadedGraph). AreShelvesOf a.now ks a.runs c.insert-in-None.new.self.items) (sym graphs)
    (subst (AreShelvesOf a.now (insert gs place new) a.runs) (sym rows)
    (from_beside a.now (insert gs place new) a.runs (insert ss place c.args.shelf) (shelves_insert a.now gs a.runs ss place new c.args.shelf within (beside a.now gs a.runs ss h) own)))

pub returns-then-not-is_same-clause-dates : goal.returns-then-not-is_same-clause-dates
returns-then-not-is_same-clause-dates c a h none =
    let gs : List LoadedGraph = c.args.graphs.now.items in
    let stands : StandsAt c.args.dag.spec.dag_id gs c.in-Some.place =
    subst (λ (s : GraphSpec). StandsAt s.dag_id gs c.in-Some.place) c.spec.ensures.spec
    (subst (λ (ks : List LoadedGraph). StandsAt c.spec.result.now.dag_id ks c.in-Some.place) c.deref.ensures.value c.in-Some.ensures) in
    let id_is : c.take_text.new.graph.dag.spec.dag_id ≡ stands.graph.dag.spec.dag_id =
    ap (λ (k : LoadedGraph). k.dag.spec.dag_id) c.take_text.ensures ∙ sym (same_is stands.graph.dag.spec.dag_id c.args.dag.spec.dag_id stands.named) in
    dates_set gs a.runs c.args.dates.now.items c.in-Some.place c.take_text.new.graph stands.graph stands.there id_is h

pub returns-in-None-clause-dates : goal.returns-in-None-clause-dates
returns-in-None-clause-dates c a h none =
    let gs : List LoadedGraph = c.args.graphs.now.items in
    let xs : List Index = c.args.dates.now.items in
    let place : ℕ = c.place_for_graph-place.result in
    let new : LoadedGraph = new_graph c.args.text c.args.dag in
    let unknown = subst (λ (s : GraphSpec). list_any (λ (k : LoadedGraph). same k.dag.spec.dag_id s.dag_id) gs ≡ false) c.spec.ensures.spec
    (ap (list_any (λ (k : LoadedGraph). same k.dag.spec.dag_id c.spec.result.now.dag_id)) (sym c.deref.ensures.value) ∙ c.in-None.ensures) in
    let long : length (with_graph c.args.text c.args.dag gs) ≡ length gs + 1 = length-new c.args.text c.args.dag gs unknown in
    let ok : is_ok c.insert.result ≡ true = c.insert.ensures.succeeds (omega (arith, long, c.requires.room)) in
    let beside : is_ok c.insert-in-None-2.result ≡ true = c.insert-in-None-2.ensures.succeeds (omega (arith, long, c.requires.places, c.requires.long)) in
    let graphs : c.insert.new.self.items ≡ insert gs place new =
    c.insert.ensures.items ∙ (ap (λ (b : Bool). cond b (insert gs place c.new_graph-graph.result) gs) ok ∙ ap (insert gs place) c.new_graph-graph.ensures) in
    let rows : c.insert-in-None-2.new.self.items ≡ insert xs place c.args.index = c.insert-in-None-2.ensures.items ∙ ap (λ (b : Bool). cond b (insert xs place c.args.index) xs) beside in
    let within : place ≤ length gs = subst (λ (ks : List LoadedGraph). place ≤ length ks) c.deref-in-None.ensures.value c.place_for_graph-place.ensures.within in
    subst (λ (ks : List LoadedGraph). HaveDates ks a.runs c.insert-in-None-2.new.self.items) (sym graphs)
    (subst (HaveDates (insert gs place new) a.runs) (sym rows) (dates_insert gs a.runs xs place new c.args.index within h (no_dates c.args.dag.spec.dag_id a.runs c.args.index none c.requires.index)))
