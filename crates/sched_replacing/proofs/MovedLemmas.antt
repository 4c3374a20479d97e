-- The instances at the marked places are those whose task would take slots of another pool.
use Rattle.std.proofs.Common.{◌≡◌, ◌∙◌, refl, sym, ap, ℕ, suc, ◌+◌, List, [], ◌∷◌, ◌++◌, Bool, true, false, cond, ◌&&◌, map, filter, flat_map, Option, Some, option_map, slice_get, unwrap_or, arith, zip}
use Rattle.std.specs.List.{enumerate_from}
use Rattle.std.proofs.lemmas.Option.{slice_get-map}
use Rattle.graph_file.specs.declared.task_specs.TaskSpec.{TaskSpec}
use Rattle.dag_check.specs.Graphs.{Dag}
use Rattle.instance_machine.specs.Instances.{InstanceValue}
use Rattle.sched_state.specs.Lists.{same}
use Rattle.sched_state.specs.declared.runs.Run.{Run}
use Rattle.sched_state.proofs.NameLemmas.{same_is}
use Rattle.sched_model.specs.Causes.{least_in_flight, least_moved, moved_by, open_serials, takes_another_pool}
use Rattle.sched_model.specs.Clearing.{Selection, named_in, pairs_of}
use Rattle.sched_model.specs.Lists.{least}
use Rattle.sched_model.specs.Schedule.{Schedule, dag_named}
use Rattle.sched_laws.proofs.FittedLemmas.{Pair}
use Rattle.sched_clearing.specs.Selections.{placed_by}
use Rattle.sched_clearing.specs.Passing.{passing_from}

-- those of a run that pass, by the marks of their places or by their tasks
abbrev marked_at : List Bool → ℕ → Pair → Bool
marked_at marks p e = unwrap_or (slice_get marks p) false

-- both are the same, where each mark is that of its task
marks_pass : (f : TaskSpec → Bool) (all : List TaskSpec) (i : ℕ) (ts : List TaskSpec) (hs : List InstanceValue) → ((k : ℕ) → slice_get all (i + k) ≡ slice_get ts k)
    → passing_from (marked_at (map f all)) i (zip ts hs) ≡ passing_from (λ p (e : Pair). f e.0) i (zip ts hs)
marks_pass f all i [] hs e = refl
marks_pass f all i (t ∷ ts) [] e = refl
marks_pass f all i (t ∷ ts) (h ∷ hs) e =
    let first : slice_get all i ≡ Some t = (let z : i ≡ i + 0 = omega arith in ap (slice_get all) z ∙ e 0) in
    let mark : unwrap_or (slice_get (map f all) i) false ≡ f t = ap (λ (o : Option Bool). unwrap_or o false) (slice_get-map f all i ∙ ap (option_map f) first) in
    let rest = marks_pass f all (i + 1) ts hs (λ k. let z : (i + 1) + k ≡ i + suc k = omega arith in ap (slice_get all) z ∙ e (suc k)) in
    let one : List (ℕ × Pair) → List Pair = map (λ (x : ℕ × Pair). x.1) in
    let marked : List (ℕ × Pair) = filter (λ (x : ℕ × Pair). marked_at (map f all) x.0 x.1) (enumerate_from (i + 1) (zip ts hs)) in
    let passed : List (ℕ × Pair) = filter (λ (x : ℕ × Pair). f x.1.0) (enumerate_from (i + 1) (zip ts hs)) in
    ap (λ b. one (cond b ((i, (t, h)) ∷ marked) marked)) mark
    ∙ elim (f t) as (λ b. one (cond b ((i, (t, h)) ∷ marked) marked) ≡ one (cond b ((i, (t, h)) ∷ passed) passed)) [
      | true ↦ ap (λ (es : List Pair). (t, h) ∷ es) rest
      | false ↦ rest
    ]

-- of each run the same instances are named
run_named : (a : Schedule) (old new : Dag) (r : Run) → dag_named a new.spec.dag_id ≡ old → named_in a (placed_by new.spec.dag_id (map (takes_another_pool new) old.tasks)) r ≡ named_in a (moved_by new) r
run_named a old new r is = elim (same r.graph new.spec.dag_id) as (λ b. same r.graph new.spec.dag_id ≡ b
    → passing_from (λ p e. b && marked_at (map (takes_another_pool new) old.tasks) p e) 0 (pairs_of a r) ≡ passing_from (λ p e. b && takes_another_pool new e.0) 0 (pairs_of a r)) [
      | true ↦ λ e.
          let graph : old ≡ dag_named a r.graph = sym is ∙ ap (dag_named a) (sym (same_is r.graph new.spec.dag_id e)) in
          ap (λ (g : Dag). passing_from (marked_at (map (takes_another_pool new) g.tasks)) 0 (pairs_of a r)) graph
          ∙ marks_pass (takes_another_pool new) (dag_named a r.graph).tasks 0 (dag_named a r.graph).tasks r.instances (λ k. let z : 0 + k ≡ k = omega arith in ap (slice_get (dag_named a r.graph).tasks) z)
      | false ↦ λ e. refl
    ] refl

-- so of all runs
runs_named : (a : Schedule) (f g : Selection) (rs : List Run) → ((r : Run) → named_in a f r ≡ named_in a g r) → flat_map (named_in a f) rs ≡ flat_map (named_in a g) rs
runs_named a f g [] h = refl
runs_named a f g (r ∷ rs) h = ap (λ (es : List Pair). es ++ flat_map (named_in a f) rs) (h r) ∙ ap (λ (es : List Pair). named_in a g r ++ es) (runs_named a f g rs h)

-- the least serial among them is that of the model
pub moved_is : (a : Schedule) (old new : Dag) → dag_named a new.spec.dag_id ≡ old → least_in_flight a (placed_by new.spec.dag_id (map (takes_another_pool new) old.tasks)) ≡ least_moved a new
moved_is a old new is =
    ap (λ (es : List Pair). least (open_serials (flat_map (λ (e : Pair). e.1.tries) es)))
    (runs_named a (placed_by new.spec.dag_id (map (takes_another_pool new) old.tasks)) (moved_by new) a.runs (λ r. run_named a old new r is))
