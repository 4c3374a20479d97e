use Rattle.std.proofs.Common.{◌≡◌, refl, sym, ap, ◌∙◌, rules, List, ℕ, Some, length, slice_get, get_or}
use Rattle.std.proofs.lemmas.Cmp.{nat_list_cmp_total}
use Rattle.std.proofs.lemmas.Fn.{always_returns_same}
use Rattle.std.proofs.lemmas.Option.{get_or_from_slice_get, slice_get_read}
use Rattle.std.specs.declared.cmp.Ordering.TheVariants.{Equal}
use Rattle.sched_state.specs.Lists.{name_cmp, same}
use Rattle.sched_state.specs.declared.graphs.LoadedGraph.{LoadedGraph}
use Rattle.sched_draft.proofs.SearchLemmas.{graph_id, graph_key, found_by_search, missed_by_search}
use Rattle.record_restoring.proofs.finding.graph_named.Goals as goal

pub returns-in-Ok : goal.returns-in-Ok
returns-in-Ok c =
    let x : LoadedGraph = c.index-graphs-at.result in
    let id : List ℕ = c.args.id.now in
    let e : name_cmp (graph_id (get_or c.args.graphs.now c.in-Ok.at x)) id ≡ Equal = c.in-Ok.ensures.position (λ g. name_cmp (graph_id g) id) (always_returns_same _ _ _ (λ a r q k. search rules)) x in
    let g : slice_get c.args.graphs.now c.in-Ok.at ≡ Some x = slice_get_read c.args.graphs.now (length c.args.graphs.now) c.in-Ok.at x refl c.in-Ok.ensures.bound c.index-graphs-at.is in
    sym (found_by_search nat_list_cmp_total graph_id (λ (g : LoadedGraph). same g.dag.spec.dag_id id) id (graph_key id) c.args.graphs.now c.in-Ok.at x c.requires g
    (ap (λ (h : LoadedGraph). name_cmp (graph_id h) id) (sym (get_or_from_slice_get c.args.graphs.now c.in-Ok.at x x g)) ∙ e))

pub returns-in-Err : goal.returns-in-Err
returns-in-Err c =
    let id : List ℕ = c.args.id.now in
    sym (missed_by_search nat_list_cmp_total graph_id (λ (g : LoadedGraph). same g.dag.spec.dag_id id) id (graph_key id) c.args.graphs.now c.in-Err.field-0 c.requires
    (c.in-Err.ensures.position (λ g. name_cmp (graph_id g) id) (always_returns_same _ _ _ (λ a r q k. search rules))))
