use Rattle.std.proofs.Common.{◌∙◌, ap, option_map, sym}
use Rattle.std.proofs.lemmas.Option.{same_Some}
use Rattle.sched_model.specs.sched_state.declared.graphs.LoadedGraph.{LoadedGraph}
use Rattle.sched_ready.proofs.MakingLemmas.{empty_next}
use Rattle.sched_ready.proofs.making.empty_shelves.Goals as goal

pub loop-graph-preserved : goal.loop-graph-preserved
loop-graph-preserved c =
    let d = c.dag_at.result.now in
    empty_next c.loop-graph.graph c.args.draft.now.content.graphs c.loop-graph.shelves.items c.push.new.self.items d c.in_ok-shelf.shelf
    (λ g e. same_Some g.dag d (sym (ap (option_map (λ (l : LoadedGraph). l.dag)) e) ∙ c.dag_at.ensures)) c.in_ok-shelf.ensures.fits c.in_ok-shelf.ensures.empty c.in_ok-push.ensures.items c.loop-graph.invariant
