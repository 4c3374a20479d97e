-- A task of one run that is passed over, and what failed after it.
use Rattle.std.proofs.Common.{◌≡◌, ◌∙◌, refl, sym, ap, ℕ, ◌+◌, List, [], ◌∷◌, Bool, true, false, cond, ◌&&◌, filter, flat_map, is_none, is_some, map, Option, Some, None, option_and_then, slice_get, true≢false}
use Rattle.std.specs.List.{list_all, zip, enumerate_from}
use Rattle.std.proofs.lemmas.Bool.{and_from}
use Rattle.graph_file.specs.declared.task_specs.TaskSpec.{TaskSpec}
use Rattle.sched_model.specs.instance_machine.Instances.{InstanceValue}
use Rattle.sched_model.specs.instance_machine.States.{state_of}
use Rattle.sched_model.specs.instance_machine.declared.tries.End.{End}
use Rattle.sched_model.specs.instance_machine.declared.tries.Try.{Try}
use Rattle.sched_model.specs.trigger_rules.States.{is_bad, is_finished}
use Rattle.sched_model.specs.trigger_rules.declared.states.State.{State}
use Rattle.sched_model.specs.trigger_rules.declared.states.State.TheVariants as state
use Rattle.sched_model.specs.trigger_rules.declared.verdicts.Verdict.{Verdict}
use Rattle.sched_model.specs.trigger_rules.declared.verdicts.Verdict.TheVariants as verdict
use Rattle.sched_model.specs.sched_state.declared.clearings.Clearing.{Clearing}
use Rattle.sched_model.specs.sched_state.declared.runs.Run.{Run}
use Rattle.sched_model.specs.sched_state.declared.runs.RunPhase.{RunPhase}
use Rattle.sched_model.proofs.sched_state.OrderLemmas.{and_left, and_right}
use Rattle.sched_model.specs.Lists.{all_pairs, least}
use Rattle.sched_model.specs.Schedule.{Schedule, dag_among, dag_named, has_run_at, tasks_of}
use Rattle.sched_model.specs.States.{is_open, open_tries}
use Rattle.sched_model.specs.Causes.{least_in_flight, open_serials}
use Rattle.sched_model.specs.Clearing.{Selection, cleared, cleared_by, in_span, named_in, named_pairs, names_place, set_if, set_named, set_run}
use Rattle.sched_model.specs.Marking.{failed_after, mark, one_of, pass_over, passed_over}
use Rattle.sched_model.specs.Sound.{IsSound, has_end, is_sound_in, is_sound_instance, is_sound_run}
use Rattle.sched_laws.specs.Repairs.{instance_at}
use Rattle.sched_laws.specs.Runs.{runs_named}
use Rattle.sched_laws.proofs.InstanceLemmas.{finished_ended}
use Rattle.sched_laws.proofs.RunLemmas.{pairs_of_run}
use Rattle.sched_laws.proofs.RuleLemmas.{flat_all}
use Rattle.sched_laws.proofs.ClearLemmas.{all_over, chosen, clear_sound, set_named_sound}
use Rattle.sched_laws.proofs.KeyLemmas.{by_keys, clear_names, set_names}
use Rattle.sched_laws.proofs.GoingLemmas.{AllGoOn, all_further, clear_goes, set_goes}
use Rattle.sched_laws.proofs.OccupyingLemmas.{open_cleared, open_set}
use Rattle.sched_laws.proofs.SetBackLemmas.{left_alone, run_at, set_state, set_there}

-- ---- what failed has no try without an end
bad_finished : (s : State) → is_bad s ≡ true → is_finished s ≡ true
bad_finished state.None e = absurd (true≢false (sym e))
bad_finished state.Scheduled e = absurd (true≢false (sym e))
bad_finished state.Queued e = absurd (true≢false (sym e))
bad_finished state.Running e = absurd (true≢false (sym e))
bad_finished state.Success e = absurd (true≢false (sym e))
bad_finished state.Failed e = refl
bad_finished state.Skipped e = absurd (true≢false (sym e))
bad_finished state.UpForRetry e = absurd (true≢false (sym e))
bad_finished state.UpstreamFailed e = refl

-- a test that only what failed passes
abbrev OnlyFailed : (ℕ → TaskSpec × InstanceValue → Bool) → Type 0
OnlyFailed named = (p : ℕ) (e : TaskSpec × InstanceValue) → named p e ≡ true → is_bad (state_of e.0 e.1) ≡ true

bad_over : (named : ℕ → TaskSpec × InstanceValue → Bool) → OnlyFailed named → (ph : RunPhase) (k : ℕ) (ts : List TaskSpec) (is : List InstanceValue) → all_pairs (is_sound_in ph) ts is ≡ true
    → all_over (chosen named (enumerate_from k (zip ts is))) ≡ true
bad_over named h ph k [] is e = refl
bad_over named h ph k (t ∷ ts) [] e = refl
bad_over named h ph k (t ∷ ts) (i ∷ is) e =
    let rest : all_over (chosen named (enumerate_from (k + 1) (zip ts is))) ≡ true = bad_over named h ph (k + 1) ts is (and_right (is_sound_in ph t i) _ e) in
    let sound : is_sound_instance t i ≡ true = and_left _ _ (and_left _ _ e) in
    elim (named k (t, i)) as (λ b. named k (t, i) ≡ b → all_over (map (λ (x : ℕ × (TaskSpec × InstanceValue)). x.1) (cond b ((k, (t, i)) ∷ filter (λ (x : ℕ × (TaskSpec × InstanceValue)). named x.0 x.1) (enumerate_from (k + 1) (zip ts is))) (filter (λ (x : ℕ × (TaskSpec × InstanceValue)). named x.0 x.1) (enumerate_from (k + 1) (zip ts is))))) ≡ true) [
      | true ↦ λ q. and_from _ _ (finished_ended t i sound (bad_finished (state_of t i) (h k (t, i) q))) rest
      | false ↦ λ q. rest
    ] refl

runs_over : (a : Schedule) (named : Selection) → ((r : Run) → OnlyFailed (named r)) → (rs : List Run) → list_all (is_sound_run a.graphs) rs ≡ true → list_all (λ r. all_over (named_in a named r)) rs ≡ true
runs_over a named h [] e = refl
runs_over a named h (r ∷ rs) e =
    and_from _ _ (bad_over (named r) (h r) r.phase 0 (dag_among a.graphs r.graph).tasks r.instances (pairs_of_run a.graphs r (and_left _ _ e)))
    (runs_over a named h rs (and_right (is_sound_run a.graphs r) _ e))

ended_closed : (o : Option End) → is_some o ≡ true → is_none o ≡ false
ended_closed None e = absurd (true≢false (sym e))
ended_closed (Some x) e = refl

none_open : (ts : List Try) → list_all has_end ts ≡ true → open_serials ts ≡ []
none_open [] e = refl
none_open (t ∷ ts) e =
    let closed : is_open t ≡ false = ended_closed t.ended (and_left _ _ e) in
    rw closed (none_open ts (and_right (has_end t) _ e))

over_none : (a : Schedule) (named : Selection) → ((r : Run) → OnlyFailed (named r)) → IsSound a → least_in_flight a named ≡ None
over_none a named h s =
    let over : list_all has_end (flat_map (λ (e : TaskSpec × InstanceValue). e.1.tries) (named_pairs a named)) ≡ true =
    flat_all has_end (λ (e : TaskSpec × InstanceValue). e.1.tries) (named_pairs a named)
    (flat_all (λ (e : TaskSpec × InstanceValue). list_all has_end e.1.tries) (named_in a named) a.runs (runs_over a named h a.runs s.runs)) in
    ap least (none_open (flat_map (λ (e : TaskSpec × InstanceValue). e.1.tries) (named_pairs a named)) over)

failed_only : (a : Schedule) (id : List ℕ) (date : ℕ) (task : List ℕ) (r : Run) → OnlyFailed (cleared_by a (failed_after id date task) r)
failed_only a id date task r p e h =
    let c : Clearing = failed_after id date task in
    and_right (names_place c (dag_named a r.graph) c.task p) _ (and_right (in_span c r) _ h)

pub failed_not_open : (a : Schedule) (id : List ℕ) (date : ℕ) (task : List ℕ) → IsSound a → least_in_flight a (cleared_by a (failed_after id date task)) ≡ None
failed_not_open a id date task s = over_none a (cleared_by a (failed_after id date task)) (failed_only a id date task) s

-- ---- what a mark keeps
passed_sound : (id : List ℕ) (date : ℕ) (task : List ℕ) (a : Schedule) → least_in_flight a (cleared_by a (one_of id date task)) ≡ None → IsSound a → IsSound (pass_over id date task a)
passed_sound id date task a n s = set_named_sound (Some verdict.Skip) refl (cleared_by a (one_of id date task)) a n s

pub mark_sound : (id : List ℕ) (date : ℕ) (task : List ℕ) (a : Schedule) → least_in_flight a (cleared_by a (one_of id date task)) ≡ None → IsSound a → IsSound (mark id date task a)
mark_sound id date task a n s =
    let b : Schedule = pass_over id date task a in
    let sound : IsSound b = passed_sound id date task a n s in
    clear_sound (cleared_by b (failed_after id date task)) b (failed_not_open b id date task sound) sound

pub mark_names : (id : List ℕ) (date : ℕ) (task : List ℕ) (a : Schedule) → runs_named (mark id date task a) ≡ runs_named a
mark_names id date task a =
    let b : Schedule = pass_over id date task a in
    clear_names (cleared_by b (failed_after id date task)) b ∙ set_names (Some verdict.Skip) (cleared_by a (one_of id date task)) a

pub mark_keys : (id : List ℕ) (date : ℕ) (task : List ℕ) (a : Schedule) (other : List ℕ) (day : ℕ) → has_run_at (mark id date task a) other day ≡ has_run_at a other day
mark_keys id date task a other day = by_keys a (mark id date task a) (mark_names id date task a) other day

pub mark_open : (id : List ℕ) (date : ℕ) (task : List ℕ) (a : Schedule) → open_tries (mark id date task a) ≡ open_tries a
mark_open id date task a =
    let b : Schedule = pass_over id date task a in
    open_cleared (cleared_by b (failed_after id date task)) b ∙ open_set (Some verdict.Skip) (cleared_by a (one_of id date task)) a

pub mark_goes : (id : List ℕ) (date : ℕ) (task : List ℕ) (a : Schedule) → least_in_flight a (cleared_by a (one_of id date task)) ≡ None → IsSound a → AllGoOn a.runs (mark id date task a).runs
mark_goes id date task a n s =
    let b : Schedule = pass_over id date task a in
    all_further a.runs b.runs (mark id date task a).runs (set_goes (Some verdict.Skip) (cleared_by a (one_of id date task)) a s)
    (clear_goes (cleared_by b (failed_after id date task)) b (passed_sound id date task a n s))

-- ---- one instance
pub passed_state : (t : TaskSpec) (i : InstanceValue) → state_of t (passed_over i) ≡ state.Skipped
passed_state t i = set_state (Some verdict.Skip) t i

-- what a clear asks of a run, and the tasks of it, are as they were
same_asked : (v : Option Verdict) (a : Schedule) (named : Selection) (c : Clearing) (r : Run) (es : List (TaskSpec × InstanceValue)) (p : ℕ) (e : TaskSpec × InstanceValue)
    → cleared_by (set_named v named a) c (set_if v a named r es) p e ≡ cleared_by a c r p e
same_asked v a named c r [] p e = refl
same_asked v a named c r (x ∷ es) p e = refl

same_tasks : (v : Option Verdict) (a : Schedule) (named : Selection) (r : Run) (es : List (TaskSpec × InstanceValue)) → tasks_of (set_named v named a) (set_if v a named r es) ≡ tasks_of a r
same_tasks v a named r [] = refl
same_tasks v a named r (x ∷ es) = refl

no_third : (x y b : Bool) → b ≡ false → (x && (y && b)) ≡ false
no_third false y b e = refl
no_third true false b e = refl
no_third true true b e = e

-- the instance at a place after the first of the two changes, by its run
in_run : (a : Schedule) (n p : ℕ) (r : Run) (i : InstanceValue) → slice_get a.runs n ≡ Some r → instance_at a n p ≡ Some i → slice_get r.instances p ≡ Some i
in_run a n p r i there is = sym (ap (option_and_then (λ (q : Run). slice_get q.instances p)) there) ∙ is

-- what a clear makes of it after that
record Passed (a : Schedule) (id : List ℕ) (date : ℕ) (task : List ℕ) (n p : ℕ) (r : Run) (t : TaskSpec) (i : InstanceValue) : Type 0 where
  run : Run
  run_is : slice_get (pass_over id date task a).runs n ≡ Some run
  task_is : slice_get (tasks_of (pass_over id date task a) run) p ≡ Some t
  instance_is : slice_get run.instances p ≡ Some i
  asked : (e : TaskSpec × InstanceValue) → cleared_by (pass_over id date task a) (failed_after id date task) run p e ≡ cleared_by a (failed_after id date task) r p e

passed : (a : Schedule) (id : List ℕ) (date : ℕ) (task : List ℕ) (n p : ℕ) (r : Run) (t : TaskSpec) (i : InstanceValue) → slice_get a.runs n ≡ Some r → slice_get (tasks_of a r) p ≡ Some t
    → instance_at (pass_over id date task a) n p ≡ Some i → Passed a id date task n p r t i
passed a id date task n p r t i there of_task is =
    let named : Selection = cleared_by a (one_of id date task) in
    let q : Run = set_run (Some verdict.Skip) a named r in
    let run_is : slice_get (pass_over id date task a).runs n ≡ Some q = run_at (Some verdict.Skip) a named n r there in
    record {
      run = q;
      run_is = run_is;
      task_is = ap (λ (ts : List TaskSpec). slice_get ts p) (same_tasks (Some verdict.Skip) a named r (named_in a named r)) ∙ of_task;
      instance_is = in_run (pass_over id date task a) n p q i run_is is;
      asked = λ e. same_asked (Some verdict.Skip) a named (failed_after id date task) r (named_in a named r) p e;
    }

pub marked_is : (id : List ℕ) (date : ℕ) (task : List ℕ) (a : Schedule) (n p : ℕ) (r : Run) (t : TaskSpec) (i : InstanceValue) → slice_get a.runs n ≡ Some r → slice_get (tasks_of a r) p ≡ Some t
    → slice_get r.instances p ≡ Some i → cleared_by a (one_of id date task) r p (t, i) ≡ true → instance_at (mark id date task a) n p ≡ Some (passed_over i)
marked_is id date task a n p r t i there of_task is named =
    let b : Schedule = pass_over id date task a in
    let c : Clearing = failed_after id date task in
    let one = passed a id date task n p r t (passed_over i) there of_task (set_there (Some verdict.Skip) (cleared_by a (one_of id date task)) a n p r t i there of_task is named) in
    let spared : cleared_by b c one.run p (t, passed_over i) ≡ false = no_third (in_span c one.run) (names_place c (dag_named b one.run.graph) c.task p) _ (ap is_bad (passed_state t i)) in
    left_alone None (cleared_by b c) b n p one.run t (passed_over i) one.run_is one.task_is one.instance_is spared

pub after_is : (id : List ℕ) (date : ℕ) (task : List ℕ) (a : Schedule) (n p : ℕ) (r : Run) (t : TaskSpec) (i : InstanceValue) → slice_get a.runs n ≡ Some r → slice_get (tasks_of a r) p ≡ Some t
    → slice_get r.instances p ≡ Some i → cleared_by a (one_of id date task) r p (t, i) ≡ false → cleared_by a (failed_after id date task) r p (t, i) ≡ true → instance_at (mark id date task a) n p ≡ Some (cleared i)
after_is id date task a n p r t i there of_task is other failed =
    let b : Schedule = pass_over id date task a in
    let one = passed a id date task n p r t i there of_task (left_alone (Some verdict.Skip) (cleared_by a (one_of id date task)) a n p r t i there of_task is other) in
    set_there None (cleared_by b (failed_after id date task)) b n p one.run t i one.run_is one.task_is one.instance_is (one.asked (t, i) ∙ failed)

pub others_are : (id : List ℕ) (date : ℕ) (task : List ℕ) (a : Schedule) (n p : ℕ) (r : Run) (t : TaskSpec) (i : InstanceValue) → slice_get a.runs n ≡ Some r → slice_get (tasks_of a r) p ≡ Some t
    → slice_get r.instances p ≡ Some i → cleared_by a (one_of id date task) r p (t, i) ≡ false → cleared_by a (failed_after id date task) r p (t, i) ≡ false → instance_at (mark id date task a) n p ≡ Some i
others_are id date task a n p r t i there of_task is other spared =
    let b : Schedule = pass_over id date task a in
    let one = passed a id date task n p r t i there of_task (left_alone (Some verdict.Skip) (cleared_by a (one_of id date task)) a n p r t i there of_task is other) in
    left_alone None (cleared_by b (failed_after id date task)) b n p one.run t i one.run_is one.task_is one.instance_is (one.asked (t, i) ∙ spared)
