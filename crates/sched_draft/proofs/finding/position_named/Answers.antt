use Rattle.std.proofs.Common.{◌≡◌, sym, ap, ◌∙◌, rules, List, ℕ, get_or}
use Rattle.std.proofs.lemmas.Cmp.{nat_list_cmp_total}
use Rattle.std.proofs.lemmas.Fn.{always_returns_same}
use Rattle.std.proofs.lemmas.Option.{get_or_from_slice_get}
use Rattle.std.specs.declared.cmp.Ordering.TheVariants.{Equal}
use Rattle.sched_state.specs.Lists.{name_cmp, same}
use Rattle.sched_state.specs.declared.graphs.LoadedGraph.{LoadedGraph}
use Rattle.sched_state.proofs.ElementLemmas.{element_at}
use Rattle.sched_draft.proofs.SearchLemmas.{graph_id, graph_key, found_by_search, missed_by_search}
use Rattle.sched_draft.proofs.finding.position_named.Goals as goal

pub returns-in-Ok-clause-position : goal.returns-in-Ok-clause-position
returns-in-Ok-clause-position c =
    let gs : List LoadedGraph = c.args.graphs.now in
    let id : List ℕ = c.args.id.now in
    let g = element_at gs c.in-Ok.position c.in-Ok.ensures.bound in
    let e : name_cmp (graph_id (get_or gs c.in-Ok.position g.0)) id ≡ Equal = c.in-Ok.ensures.position (λ g. name_cmp (graph_id g) id) (always_returns_same _ _ _ (λ a r q k. search rules)) g.0 in
    g.1 ∙ sym (found_by_search nat_list_cmp_total graph_id (λ (h : LoadedGraph). same h.dag.spec.dag_id id) id (graph_key id) gs c.in-Ok.position g.0 c.requires g.1
    (ap (λ (h : LoadedGraph). name_cmp (graph_id h) id) (sym (get_or_from_slice_get gs c.in-Ok.position g.0 g.0 g.1)) ∙ e))

pub returns-in-Err-clause-position : goal.returns-in-Err-clause-position
returns-in-Err-clause-position c =
    let id : List ℕ = c.args.id.now in
    sym (missed_by_search nat_list_cmp_total graph_id (λ (g : LoadedGraph). same g.dag.spec.dag_id id) id (graph_key id) c.args.graphs.now c.in-Err.field-0 c.requires
    (c.in-Err.ensures.position (λ g. name_cmp (graph_id g) id) (always_returns_same _ _ _ (λ a r q k. search rules))))
