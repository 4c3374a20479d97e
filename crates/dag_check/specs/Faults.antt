-- Where a fault stands in a file.
use Rattle.std.specs.Prelude.{◌≡◌, ℕ, zero, suc, Bool, List, [], ◌∷◌, length, map, Option, Some, None, option_map}
use Rattle.graph_file.specs.Lists.{when, first_some}
use Rattle.graph_file.specs.declared.task_specs.TaskSpec.{TaskSpec}
use Rattle.graph_file.specs.declared.graph_specs.GraphSpec.{GraphSpec}
use Rattle.dag_check.specs.declared.faults.DagFault.{DagFault}
use Rattle.dag_check.specs.declared.faults.DagFault.TheVariants.{DoubleTask, UnknownUpstream, DoubleEdge, Cycle, Memory}
use Rattle.dag_check.specs.Orders.{IsCycle, IsAcyclic}
use Rattle.dag_check.specs.Names.{Name, up_of, IsPlain, NoneBelow, FirstBelow, is_double, is_unknown, is_double_edge}
use Rattle.dag_check.specs.Graphs.{id_at}
use Rattle.dag_check.specs.Reach.{has_way}

-- a closed walk of tasks of a file, by their names
pub record IsCycleOf (file : List TaskSpec) (names : List Name) : Type 0 where
  pub plain : IsPlain file
  pub walk : List ℕ
  pub cycle : IsCycle (up_of file) (length file) walk
  pub names_are : names ≡ map (id_at file) walk
  pub not_acyclic : IsAcyclic (up_of file) (length file) → ⊥

-- a fault stands in a file, and none of a class before its own does
abbrev pub Stands : List TaskSpec → DagFault → Type 0
Stands file (DoubleTask i) = FirstBelow (is_double file) (length file) i
Stands file (UnknownUpstream i) = NoneBelow (is_double file) (length file) × FirstBelow (is_unknown file) (length file) i
Stands file (DoubleEdge i) =
    NoneBelow (is_double file) (length file) × NoneBelow (is_unknown file) (length file) × FirstBelow (is_double_edge file) (length file) i
Stands file (Cycle names) = IsCycleOf file names
Stands file Memory = Unit {0}

-- a fault, and of a cycle that there is one
abbrev pub without_names : DagFault → DagFault
without_names (DoubleTask i) = DoubleTask i
without_names (UnknownUpstream i) = UnknownUpstream i
without_names (DoubleEdge i) = DoubleEdge i
without_names (Cycle names) = Cycle []
without_names Memory = Memory

-- the first number below n that passes
abbrev pub first_below : (ℕ → Bool) → ℕ → Option ℕ
first_below p zero = None
first_below p (suc n) = elim (first_below p n) [ Some i ↦ Some i | None ↦ when (p n) n ]

-- a way leads from task i back to it
abbrev pub is_on_cycle : List TaskSpec → ℕ → Bool
is_on_cycle file i = has_way (up_of file) (length file) i i

-- the first fault of a file in the order of their classes, of a cycle that there is one. It is never computed
abbrev pub first_fault : List TaskSpec → Option DagFault
first_fault file = first_some (
    option_map DoubleTask (first_below (is_double file) (length file))
    ∷ option_map UnknownUpstream (first_below (is_unknown file) (length file))
    ∷ option_map DoubleEdge (first_below (is_double_edge file) (length file))
    ∷ option_map (λ i. Cycle []) (first_below (is_on_cycle file) (length file))
    ∷ [])

-- two faults are the same. Which of several cycles is answered is open, and memory may run out at any file
abbrev pub Agree : DagFault → DagFault → Type 0
Agree (DoubleTask i) (DoubleTask j) = i ≡ j
Agree (UnknownUpstream i) (UnknownUpstream j) = i ≡ j
Agree (DoubleEdge i) (DoubleEdge j) = i ≡ j
Agree (Cycle names) (Cycle others) = Unit {0}
Agree Memory f = Unit {0}
Agree e Memory = Unit {0}
Agree e f = ⊥

-- a file is handed back, with a fault that stands in it
abbrev pub IsRefused : GraphSpec → GraphSpec × DagFault → Type 0
IsRefused spec r = (r.0 ≡ spec) × Stands spec.tasks r.1
