use Rattle.std.proofs.Common.{◌≡◌, ◌∙◌, sym, ap, ℕ, List, Option, Some, None, is_some, length, option_and_then, slice_get}
use Rattle.std.specs.Prelude.{◌<◌, IfSome}
use Rattle.sched_state.specs.Lists.{same}
use Rattle.sched_state.specs.declared.graphs.LoadedGraph.{LoadedGraph}
use Rattle.sched_state.proofs.ElementLemmas.{element_at}
use Rattle.sched_state.proofs.NameLemmas.{find_any, find_passes}
use Rattle.sched_model.specs.Schedule.{graph_among}
use Rattle.sched_core.specs.Inside.{IsPlaceOf}
use Rattle.sched_core.proofs.lookups.position_of.Goals as goal

-- what stands at the position that is found has the id
placed : (id : List ℕ) (gs : List LoadedGraph) (o : Option ℕ) → option_and_then (slice_get gs) o ≡ graph_among gs id → IfSome o (λ n. n < length gs) → IsPlaceOf id gs o
placed id gs None e w = sym (find_any (λ (g : LoadedGraph). same g.dag.spec.dag_id id) gs) ∙ ap is_some (sym e)
placed id gs (Some n) e w =
    let g = element_at gs n w in
    record { below = w; graph = g.0; there = g.1; named = find_passes (λ (h : LoadedGraph). same h.dag.spec.dag_id id) gs g.0 (sym e ∙ g.1) }

pub returns : goal.returns
returns c = placed c.args.id.now c.args.graphs.now c.position_named.result c.position_named.ensures.position c.position_named.ensures.within
