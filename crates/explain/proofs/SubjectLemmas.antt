-- The subject that is found is one of the schedule.
use Rattle.std.proofs.Common.{◌≡◌, ◌∙◌, refl, ap, subst, ℕ, ◌<◌, true, List, length, find, slice_get, Option, Some, None, option_map, unwrap_or, Result, Ok, Err}
use Rattle.std.specs.List.{position}
use Rattle.std.proofs.lemmas.Bool.{eqb-true}
use Rattle.std.proofs.lemmas.List.Quantifiers.{position-Some}
use Rattle.graph_file.specs.declared.task_specs.TaskSpec.{TaskSpec}
use Rattle.dag_check.specs.Graphs.{task_of, no_task}
use Rattle.instance_machine.specs.Instances.{InstanceValue}
use Rattle.sched_state.specs.Lists.{same}
use Rattle.sched_state.proofs.NameLemmas.{same_is, find_passes}
use Rattle.sched_state.proofs.OrderLemmas.{and_left, and_right}
use Rattle.sched_state.specs.declared.graphs.LoadedGraph.{LoadedGraph}
use Rattle.sched_state.specs.declared.runs.Run.{Run}
use Rattle.sched_model.specs.Schedule.{Schedule, dag_named, graph_named, is_at, no_dag}
use Rattle.explain.specs.Subjects.{SubjectValue, IsSubjectOf, subject_of, with_instance, with_place, with_run, with_graph}
use Rattle.explain.specs.declared.reasons.ExplainFault.{ExplainFault}
use Rattle.explain.specs.declared.reasons.ExplainFault.TheVariants.{UnknownGraph, UnknownRun, UnknownTask}

-- the subject at a place
abbrev subject_at : LoadedGraph → Run → ℕ → InstanceValue → SubjectValue
subject_at g r p i = record { graph = g; run = r; place = p; task = task_of g.dag p; instance = i }

is_fault : (fault : ExplainFault) (s : SubjectValue) → ◌≡◌ {A = Result SubjectValue ExplainFault} (Err fault) (Ok s) → ⊥
is_fault fault s e = cc

inside : (g : LoadedGraph) (r : Run) (p : ℕ) (o : Option InstanceValue) (s : SubjectValue) → with_instance g r p o ≡ Ok s → (i : InstanceValue) × (o ≡ Some i) × (subject_at g r p i ≡ s)
inside g r p None s e = absurd (is_fault UnknownTask s e)
inside g r p (Some i) s e = let f : ◌≡◌ {A = Result SubjectValue ExplainFault} (Ok (subject_at g r p i)) (Ok s) = e in (i, refl, cc)

module _ (a : Schedule) (graph : List ℕ) (date : ℕ) (task : List ℕ) where
  stands : (g : LoadedGraph) (r : Run) (p : ℕ) (i : InstanceValue) → graph_named a graph ≡ Some g → find (is_at graph date) a.runs ≡ Some r → p < length g.dag.tasks → slice_get r.instances p ≡ Some i
      → IsSubjectOf a (subject_at g r p i)
  stands g r p i loaded made within there =
      let at : is_at graph date r ≡ true = find_passes (is_at graph date) a.runs r made in
      let named : r.graph ≡ graph = same_is r.graph graph (and_left _ _ at) in
      let dated : r.logical ≡ date = eqb-true r.logical date (and_right (same r.graph graph) _ at) in
      record {
        run = ap (λ (id : List ℕ). find (is_at id r.logical) a.runs) named ∙ (ap (λ (d : ℕ). find (is_at graph d) a.runs) dated ∙ made);
        graph = ap (graph_named a) named ∙ loaded;
        place = within;
        task = refl;
        instance = there;
      }

  at_place : (g : LoadedGraph) (r : Run) (o : Option ℕ) (s : SubjectValue) → graph_named a graph ≡ Some g → find (is_at graph date) a.runs ≡ Some r → position (λ (t : TaskSpec). same t.task_id task) g.dag.tasks ≡ o
      → with_place g r o ≡ Ok s → IsSubjectOf a s
  at_place g r None s loaded made placed e = absurd (is_fault UnknownTask s e)
  at_place g r (Some p) s loaded made placed e =
      let t = inside g r p (slice_get r.instances p) s e in
      let within : p < length g.dag.tasks = (position-Some (λ (t : TaskSpec). same t.task_id task) g.dag.tasks p no_task placed).0 in
      subst (IsSubjectOf a) t.2 (stands g r p t.0 loaded made within t.1)

  in_run : (g : LoadedGraph) (o : Option Run) (s : SubjectValue) → graph_named a graph ≡ Some g → find (is_at graph date) a.runs ≡ o → with_run g task o ≡ Ok s → IsSubjectOf a s
  in_run g None s loaded made e = absurd (is_fault UnknownRun s e)
  in_run g (Some r) s loaded made e = at_place g r _ s loaded made refl e

  in_graph : (o : Option LoadedGraph) (s : SubjectValue) → graph_named a graph ≡ o → with_graph a graph date task o ≡ Ok s → IsSubjectOf a s
  in_graph None s loaded e = absurd (is_fault UnknownGraph s e)
  in_graph (Some g) s loaded e = in_run g _ s loaded refl e

pub is_found : (a : Schedule) (graph : List ℕ) (date : ℕ) (task : List ℕ) (s : SubjectValue) → subject_of a graph date task ≡ Ok s → IsSubjectOf a s
is_found a graph date task s e = in_graph a graph date task (graph_named a graph) s refl e

-- the tasks and edges of the graph of a subject's run are those of its graph
pub dag_is : (a : Schedule) (s : SubjectValue) → IsSubjectOf a s → dag_named a s.run.graph ≡ s.graph.dag
dag_is a s found = ap (λ (o : Option LoadedGraph). unwrap_or (option_map (λ (g : LoadedGraph). g.dag) o) no_dag) found.graph
