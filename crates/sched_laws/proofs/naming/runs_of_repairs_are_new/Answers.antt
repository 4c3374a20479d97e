use Rattle.std.proofs.Common.{◌≡◌, true, false, is_some, is_none, Option, Some, None, refl}
use Rattle.sched_model.specs.sched_state.declared.graphs.LoadedGraph.{LoadedGraph}
use Rattle.sched_model.specs.Schedule.{graph_named}
use Rattle.sched_laws.proofs.ByHandLemmas.{by_hand_new, backfill_new}
use Rattle.sched_laws.proofs.naming.runs_of_repairs_are_new.Goals as goal

there : (o : Option LoadedGraph) → is_none o ≡ false → is_some o ≡ true
there None e = absurd (let c : ◌≡◌ true false = e in cc)
there (Some g) e = refl

pub returns-clause-by_hand : goal.returns-clause-by_hand
returns-clause-by_hand c a id sound known free = by_hand_new a id sound (there (graph_named a id) known) free

pub returns-clause-backfill : goal.returns-clause-backfill
returns-clause-backfill c a id low high sound known = backfill_new a id low high sound (there (graph_named a id) known)
