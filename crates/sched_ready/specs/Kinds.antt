-- The kinds of the tasks of a graph.
use Rattle.std.specs.Prelude.{◌≡◌, ℕ, ◌+◌, ◌<◌, ◌++◌, ◌⊎◌, List, [], ◌∷◌, length, Some, slice_get}
use Rattle.graph_file.specs.declared.task_specs.TaskSpec.{TaskSpec}
use Rattle.dag_check.specs.Graphs.{Dag}

-- the sample of the kind is a place of the graph, whose task has the pool and the slots of this one
pub record IsKindOf (g : Dag) (samples : List ℕ) (t : TaskSpec) (kind : ℕ) : Type 0 where
  pub place : ℕ
  pub sample : TaskSpec
  pub place_is : slice_get samples kind ≡ Some place
  pub sample_is : slice_get g.tasks place ≡ Some sample
  pub pool : sample.pool ≡ t.pool
  pub slots : sample.pool_slots ≡ t.pool_slots

-- the samples are places of the graph
abbrev pub AreSamples : Dag → List ℕ → Type 0
AreSamples g samples = (k p : ℕ) → slice_get samples k ≡ Some p → p < length g.tasks

-- the kinds of the first places of a graph
pub record AreKinds (g : Dag) (places : ℕ) (kinds samples : List ℕ) : Type 0 where
  pub long : length kinds ≡ places
  pub each : (p k : ℕ) (t : TaskSpec) → slice_get kinds p ≡ Some k → slice_get g.tasks p ≡ Some t → IsKindOf g samples t k
  pub within : (p k : ℕ) → slice_get kinds p ≡ Some k → k < length samples
  pub sampled : AreSamples g samples

-- the kind of a place, after which the samples are these: it is one that was there, or a new one, whose sample is this place
pub record HasJoined (g : Dag) (place : ℕ) (old new : List ℕ) (kind : ℕ) : Type 0 where
  pub kind_is : (t : TaskSpec) → slice_get g.tasks place ≡ Some t → IsKindOf g new t kind
  pub within : kind < length new
  pub from : (new ≡ old) ⊎ (new ≡ old ++ place ∷ [])
