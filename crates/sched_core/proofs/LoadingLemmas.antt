-- What reading and checking a text gives.
use Rattle.std.proofs.Common.{◌≡◌, ◌∙◌, refl, sym, ap, subst, inl, inr, ℕ, List, [], ◌∷◌, Bool, cond, not, find, Option, option_map, Some, None, Ok, false}
use Rattle.graph_file.specs.declared.graph_specs.GraphSpec.{GraphSpec}
use Rattle.dag_check.specs.declared.faults.DagFault.{DagFault}
use Rattle.dag_check.specs.declared.faults.DagFault.TheVariants.{DoubleTask, UnknownUpstream, DoubleEdge, Cycle, Memory}
use Rattle.dag_check.specs.Faults.{Stands}
use Rattle.dag_check.proofs.FirstLemmas.{first-stands}
use Rattle.graph_file.specs.Graphs.{graph_of}
use Rattle.graph_file.specs.declared.task_specs.TaskSpec.{TaskSpec}
use Rattle.dag_check.specs.Graphs.{Dag, IsGraphOf}
use Rattle.pool_book.specs.Pools.{Entries, has_pool as is_known}
use Rattle.sched_model.specs.Schedule.{Schedule, has_pool}
use Rattle.sched_model.specs.Sound.{Says}
use Rattle.sched_events.specs.Causes.{exceeds, unknown_pool}
use Rattle.sched_draft.specs.Books.{pools_in}
use Rattle.sched_draft.proofs.BookLemmas.{has_is}
use Rattle.sched_core.specs.Inside.{IsTaken, IsChecked, IsCheckFault, unfit_text}
use Rattle.sched_events.specs.Outcomes.{refusal_of}
use Rattle.sched_events.specs.declared.refusals.Refusal.TheVariants as refusal
use Rattle.sched_core.proofs.PlanLemmas.{unfit_pool}

-- the fault that stands is the first
pub fault_is : (spec : GraphSpec) (fault : DagFault) → Stands spec.tasks fault → IsCheckFault spec (refusal_of fault)
fault_is spec (DoubleTask i) s = elim (first-stands spec.tasks (DoubleTask i) s) [
  | inl memory ↦ absurd cc
  | inr first ↦ inr (DoubleTask i, refl, record { stands = s; first = first })
]
fault_is spec (UnknownUpstream i) s = elim (first-stands spec.tasks (UnknownUpstream i) s) [
  | inl memory ↦ absurd cc
  | inr first ↦ inr (UnknownUpstream i, refl, record { stands = s; first = first })
]
fault_is spec (DoubleEdge i) s = elim (first-stands spec.tasks (DoubleEdge i) s) [
  | inl memory ↦ absurd cc
  | inr first ↦ inr (DoubleEdge i, refl, record { stands = s; first = first })
]
fault_is spec (Cycle names) s = elim (first-stands spec.tasks (Cycle names) s) [
  | inl memory ↦ absurd cc
  | inr first ↦ inr (Cycle names, refl, record { stands = s; first = first })
]
fault_is spec Memory s = inl refl

-- what was read and checked is said by the text
says_is : (text : List ℕ) (spec : GraphSpec) (dag : Dag) → graph_of text ≡ Ok spec → IsChecked spec dag → Says text dag
says_is text spec dag read checked = record {
  read = read ∙ ap (λ s. Ok s) (sym checked.spec_is);
  checked = subst (λ (s : GraphSpec). IsGraphOf s dag) (sym checked.spec_is) checked.graph;
}

-- the first pool that is not in the book, by the tasks that were looked at
abbrev first_pool : Entries → List TaskSpec → Option (List ℕ)
first_pool es tasks = option_map (λ (t : TaskSpec). t.pool) (find (λ (t : TaskSpec). not (is_known t.pool es)) tasks)

find_same : {X : Type 0} (p q : X → Bool) → ((x : X) → p x ≡ q x) → (xs : List X) → find p xs ≡ find q xs
find_same p q h [] = refl
find_same p q h (x ∷ xs) = ap (λ b. cond b (Some x) (find p xs)) (h x) ∙ ap (λ o. cond (q x) (Some x) o) (find_same p q h xs)

unknown_is : (a : Schedule) (es : Entries) (spec : GraphSpec) → pools_in es ≡ a.pools → unknown_pool a spec ≡ first_pool es spec.tasks
unknown_is a es spec pools =
    ap (option_map (λ (t : TaskSpec). t.pool))
    (find_same (λ (t : TaskSpec). not (has_pool a t.pool)) (λ (t : TaskSpec). not (is_known t.pool es)) (λ t. ap not (has_is a es t.pool pools)) spec.tasks)

pub taken_is : (a : Schedule) (es : Entries) (text : List ℕ) (spec : GraphSpec) (dag : Dag) (tasks : List TaskSpec) → pools_in es ≡ a.pools → graph_of text ≡ Ok spec → exceeds a.limits spec ≡ false → IsChecked spec dag
    → tasks ≡ dag.spec.tasks → None ≡ option_map (λ (t : TaskSpec). t.pool) (find (λ (t : TaskSpec). not (is_known t.pool es)) tasks) → IsTaken a text dag
taken_is a es text spec dag tasks pools read fits checked tasks_are none = record {
  says = says_is text spec dag read checked;
  fits = ap (exceeds a.limits) checked.spec_is ∙ fits;
  pools = unknown_is a es dag.spec pools ∙ (ap (first_pool es) (sym tasks_are) ∙ sym none);
}

pub pool_is : (a : Schedule) (es : Entries) (text : List ℕ) (spec : GraphSpec) (dag : Dag) (tasks : List TaskSpec) (pool : List ℕ) → pools_in es ≡ a.pools → graph_of text ≡ Ok spec → exceeds a.limits spec ≡ false → IsChecked spec dag
    → tasks ≡ dag.spec.tasks → Some pool ≡ option_map (λ (t : TaskSpec). t.pool) (find (λ (t : TaskSpec). not (is_known t.pool es)) tasks)
    → unfit_text a (graph_of text) ≡ Some (refusal.UnknownPool pool)
pool_is a es text spec dag tasks pool pools read fits checked tasks_are some =
    unfit_pool a text dag pool (says_is text spec dag read checked) (ap (exceeds a.limits) checked.spec_is ∙ fits) (unknown_is a es dag.spec pools ∙ (ap (first_pool es) (sym tasks_are) ∙ sym some))
