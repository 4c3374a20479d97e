-- A file has one answer: two faults that stand in it agree, and what has a graph has none.
use Rattle.std.proofs.Common.{◌≡◌, ◌∙◌, ℕ, Bool, List, refl, sym, arith, inl, inr}
use Rattle.std.proofs.lemmas.Bool.{cases_lt, false≢true}
use Rattle.graph_file.specs.declared.task_specs.TaskSpec.{TaskSpec}
use Rattle.graph_file.specs.declared.graph_specs.GraphSpec.{GraphSpec}
use Rattle.dag_check.specs.declared.faults.DagFault.{DagFault}
use Rattle.dag_check.specs.declared.faults.DagFault.TheVariants.{DoubleTask, UnknownUpstream, DoubleEdge, Cycle, Memory}
use Rattle.dag_check.specs.Names.{NoneBelow, FirstBelow}
use Rattle.dag_check.specs.Graphs.{Dag, IsGraphOf}
use Rattle.dag_check.specs.Faults.{Stands, Agree}

first-one : (p : ℕ → Bool) (n i j : ℕ) → FirstBelow p n i → FirstBelow p n j → i ≡ j
first-one p n i j a b =
    elim (cases_lt i j) [
      | inl less ↦ absurd (false≢true (sym (b.1.before i less) ∙ a.1.passes))
      | inr from ↦
          elim (cases_lt j i) [
            | inl less ↦ absurd (false≢true (sym (a.1.before j less) ∙ b.1.passes))
            | inr to ↦ omega arith
          ]
    ]

no-first : (p : ℕ → Bool) (n i : ℕ) → NoneBelow p n → FirstBelow p n i → ⊥
no-first p n i none first = false≢true (sym (none i first.0) ∙ first.1.passes)

pub never-both : (spec : GraphSpec) (g : Dag) (f : DagFault) → IsGraphOf spec g → Stands spec.tasks f → f ≡ Memory
never-both spec g (DoubleTask i) h s = absurd (no-first _ _ i h.plain.names s)
never-both spec g (UnknownUpstream i) h s = absurd (no-first _ _ i h.plain.known s.1)
never-both spec g (DoubleEdge i) h s = absurd (no-first _ _ i h.plain.edges s.2)
never-both spec g (Cycle names) h s = absurd (s.not_acyclic h.acyclic)
never-both spec g Memory h s = refl

pub one-fault : (file : List TaskSpec) (e f : DagFault) → Stands file e → Stands file f → Agree e f
one-fault file (DoubleTask i) (DoubleTask j) a b = first-one _ _ i j a b
one-fault file (DoubleTask i) (UnknownUpstream j) a b = no-first _ _ i b.0 a
one-fault file (DoubleTask i) (DoubleEdge j) a b = no-first _ _ i b.0 a
one-fault file (DoubleTask i) (Cycle names) a b = no-first _ _ i b.plain.names a
one-fault file (DoubleTask i) Memory a b = tt
one-fault file (UnknownUpstream i) (DoubleTask j) a b = no-first _ _ j a.0 b
one-fault file (UnknownUpstream i) (UnknownUpstream j) a b = first-one _ _ i j a.1 b.1
one-fault file (UnknownUpstream i) (DoubleEdge j) a b = no-first _ _ i b.1 a.1
one-fault file (UnknownUpstream i) (Cycle names) a b = no-first _ _ i b.plain.known a.1
one-fault file (UnknownUpstream i) Memory a b = tt
one-fault file (DoubleEdge i) (DoubleTask j) a b = no-first _ _ j a.0 b
one-fault file (DoubleEdge i) (UnknownUpstream j) a b = no-first _ _ j a.1 b.1
one-fault file (DoubleEdge i) (DoubleEdge j) a b = first-one _ _ i j a.2 b.2
one-fault file (DoubleEdge i) (Cycle names) a b = no-first _ _ i b.plain.edges a.2
one-fault file (DoubleEdge i) Memory a b = tt
one-fault file (Cycle names) (DoubleTask j) a b = no-first _ _ j a.plain.names b
one-fault file (Cycle names) (UnknownUpstream j) a b = no-first _ _ j a.plain.known b.1
one-fault file (Cycle names) (DoubleEdge j) a b = no-first _ _ j a.plain.edges b.2
one-fault file (Cycle names) (Cycle others) a b = tt
one-fault file (Cycle names) Memory a b = tt
one-fault file Memory f a b = tt
