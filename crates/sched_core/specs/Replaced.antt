-- Another text for a graph that is there, which has runs.
use Rattle.std.specs.Prelude.{◌≡◌, ℕ, true, List, map, Some, ◌⊎◌, slice_get}
use Rattle.dag_check.specs.Graphs.{Dag}
use Rattle.sched_state.specs.Lists.{same}
use Rattle.sched_state.specs.declared.graphs.LoadedGraph.{LoadedGraph}
use Rattle.sched_state.specs.declared.runs.Run.{Run}
use Rattle.sched_model.specs.Handout.{hand_out}
use Rattle.sched_model.specs.Jobs.{handed}
use Rattle.sched_model.specs.Replacing.{refitted}
use Rattle.sched_model.specs.Schedule.{Schedule}
use Rattle.sched_model.specs.Settle.{settle}
use Rattle.sched_model.specs.States.{active_tries, in_flight, occupied}
use Rattle.sched_draft.specs.Drafts.{DraftValue, IsOwn}
use Rattle.sched_draft.specs.Parts.{with_other}
use Rattle.sched_events.specs.Causes.{disturbed}
use Rattle.sched_events.specs.declared.refusals.Refusal.{Refusal}
use Rattle.sched_events.specs.declared.refusals.Refusal.TheVariants as refusal
use Rattle.sched_core.specs.Effects.{applied, IsEffect}
use Rattle.sched_core.specs.declared.changes.Effect.{Effect}
use Rattle.sched_core.specs.declared.changes.GraphChange.TheVariants as graphs
use Rattle.sched_core.specs.declared.replacing.Aftermath.{Aftermath}

-- the graph with the id of this one is this one, and its runs go on by it
abbrev pub with_other_graph : LoadedGraph → Schedule → Schedule
with_other_graph g a = record a { graphs = with_other (Some g) a.graphs; runs = map (refitted a g.dag) a.runs }

-- the tries without an end take the same in both
pub record TakeAlike (a b : Schedule) : Type 0 where
  pub in_flight : in_flight b ≡ in_flight a
  pub occupied : (name : List ℕ) → occupied b name ≡ occupied a name
  pub active : (id : List ℕ) → active_tries b id ≡ active_tries a id

-- memory ran out, or this is the first cause in the runs of the graph against another text for it
abbrev pub IsDisturbance : Schedule → Dag → Refusal → Type 0
IsDisturbance a dag r = (r ≡ refusal.Memory) ⊎ (disturbed a dag ≡ Some r)

-- each of these runs that is of the graph may be changed
abbrev pub OwnsRunsOf : List ℕ → List Run → DraftValue → Type 0
OwnsRunsOf id rs d = (n : ℕ) (r : Run) → slice_get rs n ≡ Some r → same r.graph id ≡ true → IsOwn n d

-- with the graph this is the effect on a schedule in which the graph is replaced, moves are made and tries are handed out
abbrev pub effect_of : LoadedGraph → Aftermath → Effect
effect_of g k = record { graphs = graphs.Replace g k.shelves; patches = k.patches; rest = Some k.rest }

pub record IsAftermath (a : Schedule) (g : LoadedGraph) (k : Aftermath) : Type 0 where
  pub effect : IsEffect (effect_of g k) k.rows a
  pub after : applied (effect_of g k) a ≡ hand_out (settle (with_other_graph g a))
  pub jobs : k.jobs ≡ handed a (hand_out (settle (with_other_graph g a)))
