-- The new task with the id of an old one, as its place says, and the first old task that has none.
use Rattle.std.proofs.Common.{◌≡◌, ◌∙◌, refl, sym, ap, ℕ, ◌+◌, ◌<◌, ◌≤◌, ◌==◌, Bool, true, false, not, drop, find, length, Option, Some, None, option_map, is_none, is_some, slice_get, true≢false, position}
use Rattle.std.proofs.lemmas.Option.{slice_get-get_or}
use Rattle.graph_file.specs.Lists.{holds_at}
use Rattle.graph_file.specs.declared.task_specs.TaskSpec.{TaskSpec}
use Rattle.dag_check.specs.Graphs.{Dag, no_task, task_of}
use Rattle.sched_state.specs.Lists.{same}
use Rattle.sched_state.proofs.ElementLemmas.{find_hit}
use Rattle.sched_model.specs.Causes.{lost_task, takes_another_number, takes_another_pool, task_named}
use Rattle.sched_model.specs.Schedule.{Schedule, dag_named}
use Rattle.sched_replacing.proofs.ListLemmas.{find_next, find_over, place_found, place_missing, place_none}

-- ---- by its place
abbrev place_of : Dag → TaskSpec → Option ℕ
place_of dag t = position (λ (u : TaskSpec). same u.task_id t.task_id) dag.tasks

-- the place is one of the new graph
pub task_within : (dag : Dag) (t : TaskSpec) (n : ℕ) → place_of dag t ≡ Some n → n < length dag.tasks
task_within dag t n e = (place_found (λ (u : TaskSpec). same u.task_id t.task_id) dag.tasks n no_task e).0

-- whether the task there passes a test
found_holds : (p : TaskSpec → Bool) (dag : Dag) (t u : TaskSpec) (n : ℕ) → place_of dag t ≡ Some n → u ≡ task_of dag n → holds_at p (task_named dag.tasks t.task_id) ≡ p u
found_holds p dag t u n e read = ap (holds_at p) (place_found (λ (v : TaskSpec). same v.task_id t.task_id) dag.tasks n no_task e).1 ∙ ap p (sym read)

-- and without a place there is none that does
missing_holds : (p : TaskSpec → Bool) (dag : Dag) (t : TaskSpec) → place_of dag t ≡ None → false ≡ holds_at p (task_named dag.tasks t.task_id)
missing_holds p dag t e = sym (ap (holds_at p) (place_missing (λ (v : TaskSpec). same v.task_id t.task_id) dag.tasks e))

-- whether it takes another number of slots
pub number_found : (dag : Dag) (t u : TaskSpec) (n : ℕ) → place_of dag t ≡ Some n → u ≡ task_of dag n → takes_another_number dag t ≡ not (u.pool_slots == t.pool_slots)
number_found dag t u n e read = found_holds (λ (v : TaskSpec). not (v.pool_slots == t.pool_slots)) dag t u n e read

pub number_missing : (dag : Dag) (t : TaskSpec) → place_of dag t ≡ None → false ≡ takes_another_number dag t
number_missing dag t e = missing_holds (λ (v : TaskSpec). not (v.pool_slots == t.pool_slots)) dag t e

-- whether it takes slots of another pool
pub pool_found : (dag : Dag) (t u : TaskSpec) (n : ℕ) → place_of dag t ≡ Some n → u ≡ task_of dag n → takes_another_pool dag t ≡ not (same u.pool t.pool)
pool_found dag t u n e read = found_holds (λ (v : TaskSpec). not (same v.pool t.pool)) dag t u n e read

pub pool_missing : (dag : Dag) (t : TaskSpec) → place_of dag t ≡ None → false ≡ takes_another_pool dag t
pool_missing dag t e = missing_holds (λ (v : TaskSpec). not (same v.pool t.pool)) dag t e

-- ---- the first that is lost
abbrev pub is_lost : Dag → TaskSpec → Bool
is_lost dag t = is_none (task_named dag.tasks t.task_id)

abbrev pub lost_from : Dag → Dag → ℕ → Option TaskSpec
lost_from old new n = find (is_lost new) (drop n old.tasks)

-- a test for none, by the test for some
none_by : (o : Option ℕ) (b : Bool) → is_some o ≡ not b → b ≡ is_none o
none_by None true e = refl
none_by None false e = absurd (true≢false (sym e))
none_by (Some n) true e = absurd (true≢false e)
none_by (Some n) false e = refl

-- a task is lost exactly if its id has no place
lost_by : (new : Dag) (t : TaskSpec) (o : Option ℕ) (b : Bool) → o ≡ place_of new t → is_some o ≡ not b → is_lost new t ≡ b
lost_by new t o b place is = sym (none_by o b is ∙ place_none (λ (u : TaskSpec). same u.task_id t.task_id) new.tasks o no_task (sym place))

-- what was read is the task of the place
task_there : (dag : Dag) (n : ℕ) (t : TaskSpec) → n < length dag.tasks → t ≡ task_of dag n → slice_get dag.tasks n ≡ Some t
task_there dag n t inside read = slice_get-get_or dag.tasks n no_task inside ∙ ap (λ (u : TaskSpec). Some u) (sym read)

-- one that is not lost is passed over
pub lost_next : (old new : Dag) (n : ℕ) (t : TaskSpec) (o : Option ℕ) (b : Bool) → n < length old.tasks → t ≡ task_of old n → o ≡ place_of new t → is_some o ≡ not b → b ≡ false → lost_from old new n ≡ lost_from old new (n + 1)
lost_next old new n t o b inside read place is there = find_next (is_lost new) old.tasks n t (task_there old n t inside read) (lost_by new t o b place is ∙ there)

-- one that is lost is the first
lost_hit : (old new : Dag) (n : ℕ) (t : TaskSpec) (o : Option ℕ) (b : Bool) → n < length old.tasks → t ≡ task_of old n → o ≡ place_of new t → is_some o ≡ not b → b ≡ true → lost_from old new n ≡ Some t
lost_hit old new n t o b inside read place is there = find_hit (is_lost new) old.tasks n t (task_there old n t inside read) (lost_by new t o b place is ∙ there)

-- as the model has it
lost_is : (a : Schedule) (old new : Dag) (o : Option TaskSpec) → dag_named a new.spec.dag_id ≡ old → find (is_lost new) old.tasks ≡ o → option_map (λ (t : TaskSpec). t.task_id) o ≡ lost_task a new
lost_is a old new o is found = sym (ap (λ (g : Dag). option_map (λ (t : TaskSpec). t.task_id) (find (is_lost new) g.tasks)) is ∙ ap (option_map (λ (t : TaskSpec). t.task_id)) found)

-- the first that is lost ends the search
pub lost_there : (a : Schedule) (old new : Dag) (n : ℕ) (t : TaskSpec) (o : Option ℕ) (b : Bool) → dag_named a new.spec.dag_id ≡ old → n < length old.tasks → t ≡ task_of old n → o ≡ place_of new t → is_some o ≡ not b → b ≡ true
    → lost_from old new n ≡ lost_from old new 0 → Some t.task_id ≡ lost_task a new
lost_there a old new n t o b is inside read place none there so = lost_is a old new (Some t) is (sym so ∙ lost_hit old new n t o b inside read place none there)

-- past the last task none is lost
pub lost_none : (a : Schedule) (old new : Dag) (n : ℕ) → dag_named a new.spec.dag_id ≡ old → length old.tasks ≤ n → lost_from old new n ≡ lost_from old new 0 → None ≡ lost_task a new
lost_none a old new n is over so = lost_is a old new None is (sym so ∙ find_over (is_lost new) old.tasks n over)
