use Rattle.std.proofs.Common.{◌≡◌, ◌∙◌, ◌<◌, ap, length, option_and_then, option_map, refl, slice_get, slice_set, subst, sym, true, List, Option, Some, None, arith}
use Rattle.std.specs.Option.{option_copied}
use Rattle.std.proofs.lemmas.Option.{same_Some, slice_get_read, slice_get_within}
use Rattle.std.proofs.lemmas.Result.{on_ok_weaker}
use Rattle.dag_check.specs.Graphs.{Dag}
use Rattle.sched_model.specs.Schedule.{Schedule, graph_among}
use Rattle.sched_model.specs.sched_state.Lists.{same}
use Rattle.sched_model.specs.sched_state.declared.graphs.LoadedGraph.{LoadedGraph}
use Rattle.sched_model.specs.sched_state.declared.runs.Run.{Run}
use Rattle.sched_model.proofs.sched_state.ElementLemmas.{element_at}
use Rattle.sched_model.proofs.sched_state.NameLemmas.{find_passes}
use Rattle.sched_ready.specs.Patching.{AreOfOthers, ArePlacesPatched, IsDueAsBefore, IsPatchOf}
use Rattle.sched_ready.specs.declared.patches.Patch.{Patch}
use Rattle.sched_ready.proofs.LeadLemmas.{read_at}
use Rattle.sched_ready.proofs.PatchingLemmas.{takes_run, takes_same, takes_unknown}
use Rattle.sched_ready.proofs.patching.patch_run.Goals as goal

pub returns-in_default : goal.returns-in_default
returns-in_default c r there =
    let b : Schedule = c.args.draft.now.content in
    let is : c.run-run.result.now ≡ r = same_Some c.run-run.result.now r (sym c.run-run.ensures ∙ there) in
    let none : graph_among b.graphs r.graph ≡ None = ap (λ (q : Run). graph_among b.graphs q.graph) (sym is) ∙ (sym c.position_of.ensures.position ∙ ap (option_and_then (slice_get b.graphs)) c.in_default.is) in
    takes_unknown b c.args.shelves.now c.args.position r (option_copied c.args.before) c.args.patches.now.items there none

pub returns-then-is_left_alone : goal.returns-then-is_left_alone
returns-then-is_left_alone c r there =
    let b : Schedule = c.args.draft.now.content in
    let n = c.in-Some.graph in
    let ps : List Patch = c.args.patches.now.items in
    let before = option_copied c.args.before in
    let is : c.run-run.result.now ≡ r = same_Some c.run-run.result.now r (sym c.run-run.ensures ∙ there) in
    let g = element_at b.graphs n c.in-Some.ensures.within in
    let among : graph_among b.graphs r.graph ≡ Some g.0 = ap (λ (q : Run). graph_among b.graphs q.graph) (sym is) ∙ (sym c.in-Some.ensures.position ∙ g.1) in
    let named : same g.0.dag.spec.dag_id r.graph ≡ true = find_passes (λ (l : LoadedGraph). same l.dag.spec.dag_id r.graph) b.graphs g.0 among in
    let dag : c.dag_at-dag.result.now ≡ g.0.dag = same_Some c.dag_at-dag.result.now g.0.dag (sym c.dag_at-dag.ensures ∙ ap (option_map (λ (l : LoadedGraph). l.dag)) g.1) in
    let shelf = element_at c.args.shelves.now n (omega (arith, c.in-Some.ensures.within, c.requires.long)) in
    let alone = c.is_left_alone.ensures c.if-is_left_alone.true in
    let none : AreOfOthers n ps = subst (λ (qs : List Patch). AreOfOthers n qs) c.deref.ensures.value alone.0 in
    let due : IsDueAsBefore g.0.dag before r = subst (λ (d : Dag). IsDueAsBefore d before r) dag (subst (λ (q : Run). IsDueAsBefore c.dag_at-dag.result.now before q) is alone.1) in
    takes_same b c.args.shelves.now c.args.position r before ps n g.0 shelf.0 c.requires.sound there g.1 named shelf.1 none due

pub index_mut-requires : goal.index_mut-requires
index_mut-requires c =
    let within = slice_get_within c.patch_of.new.patches.items c.in_ok-index.index c.in_ok-index.ensures.patch c.in_ok-index.ensures.there in
    omega (arith, within, c.patch_of.new.patches.ok.0)

pub returns : goal.returns
returns c = on_ok_weaker c.patch_places.result
    (λ changed. λ r there.
    let b : Schedule = c.args.draft.now.content in
    let n = c.in-Some.graph in
    let mid : List Patch = c.patch_of.new.patches.items in
    let x : Patch = c.index_mut.result.now in
    let is : c.run-run.result.now ≡ r = same_Some c.run-run.result.now r (sym c.run-run.ensures ∙ there) in
    let g = element_at b.graphs n c.in-Some.ensures.within in
    let among : graph_among b.graphs r.graph ≡ Some g.0 = ap (λ (q : Run). graph_among b.graphs q.graph) (sym is) ∙ (sym c.in-Some.ensures.position ∙ g.1) in
    let named : same g.0.dag.spec.dag_id r.graph ≡ true = find_passes (λ (l : LoadedGraph). same l.dag.spec.dag_id r.graph) b.graphs g.0 among in
    let dag : c.dag_at-dag.result.now ≡ g.0.dag = same_Some c.dag_at-dag.result.now g.0.dag (sym c.dag_at-dag.ensures ∙ ap (option_map (λ (l : LoadedGraph). l.dag)) g.1) in
    let shelf = read_at c.args.shelves.now n c.index-shelves-graph.result _ (omega (arith, c.in-Some.ensures.within, c.requires.long)) c.index-shelves-graph.is in
    let made : IsPatchOf n (length g.0.dag.tasks) c.args.patches.now.items mid c.in_ok-index.index =
    subst (λ (d : Dag). IsPatchOf n (length d.tasks) c.args.patches.now.items mid c.in_ok-index.index) dag (subst (λ k. IsPatchOf n k c.args.patches.now.items mid c.in_ok-index.index) c.len.ensures.len c.in_ok-index.ensures) in
    let within = slice_get_within mid c.in_ok-index.index c.in_ok-index.ensures.patch c.in_ok-index.ensures.there in
    let old = slice_get_read mid (length mid) c.in_ok-index.index x refl within c.index_mut.ensures.value in
    let places : ArePlacesPatched b.now g.0.dag c.index-shelves-graph.result (option_copied c.args.before) r x.queues.items c.patch_places.new.queues.items =
    subst (λ k. ArePlacesPatched k g.0.dag c.index-shelves-graph.result (option_copied c.args.before) r x.queues.items c.patch_places.new.queues.items) (c.secs-now.ensures.value ∙ c.clock.ensures)
    (subst (λ (d : Dag). ArePlacesPatched c.secs-now.result d c.index-shelves-graph.result (option_copied c.args.before) r x.queues.items c.patch_places.new.queues.items) dag
    (subst (λ (q : Run). ArePlacesPatched c.secs-now.result c.dag_at-dag.result.now c.index-shelves-graph.result (option_copied c.args.before) q x.queues.items c.patch_places.new.queues.items) is changed)) in
    takes_run b c.args.shelves.now c.args.position r (option_copied c.args.before) c.args.patches.now.items mid n c.in_ok-index.index g.0 c.index-shelves-graph.result x c.patch_places.new.queues c.requires.sound there g.1 named shelf made old places)
    c.patch_places.ensures
