use Rattle.std.proofs.Common.{◌≡◌, ◌∙◌, ap, subst, sym, List, false}
use Rattle.std.specs.List.{list_any}
use Rattle.graph_file.specs.declared.graph_specs.GraphSpec.{GraphSpec}
use Rattle.sched_state.specs.Lists.{same}
use Rattle.sched_state.specs.declared.graphs.LoadedGraph.{LoadedGraph}
use Rattle.sched_core.specs.Inside.{StandsAt}
use Rattle.sched_core.proofs.OtherLemmas.{other_at, others_stay}
use Rattle.sched_core.proofs.schedules.put_other.Goals as goal

pub returns-in-Some : goal.returns-in-Some
returns-in-Some c =
    let gs : List LoadedGraph = c.args.graphs.now.items in
    let stands : StandsAt c.args.graph.dag.spec.dag_id gs c.in-Some.place =
    subst (λ (s : GraphSpec). StandsAt s.dag_id gs c.in-Some.place) c.spec.ensures.spec
    (subst (λ (ks : List LoadedGraph). StandsAt c.spec.result.now.dag_id ks c.in-Some.place) c.deref.ensures.value c.in-Some.ensures) in
    other_at c.args.graph gs c.in-Some.place stands.graph stands.there stands.named c.requires

pub returns-in-None : goal.returns-in-None
returns-in-None c =
    let gs : List LoadedGraph = c.args.graphs.now.items in
    let none : list_any (λ (g : LoadedGraph). same g.dag.spec.dag_id c.args.graph.dag.spec.dag_id) gs ≡ false =
    subst (λ (s : GraphSpec). list_any (λ (g : LoadedGraph). same g.dag.spec.dag_id s.dag_id) gs ≡ false) c.spec.ensures.spec
    (ap (list_any (λ (g : LoadedGraph). same g.dag.spec.dag_id c.spec.result.now.dag_id)) (sym c.deref.ensures.value) ∙ c.in-None.ensures) in
    sym (others_stay c.args.graph gs none)
