-- Who waits in a settled schedule has a reason, and so has each instance that is there.
use Rattle.std.proofs.Common.{if◌then◌else◌, ◌≡◌, ◌≢◌, ◌∙◌, refl, sym, ap, inl, inr, arith, ℕ, ◌+◌, pos, int_lt, ◌-ℤ◌, Bool, true, false, ◌&&◌, ◌||◌, List, [], find, slice_get, Option, Some, None, option_map, option_and_then, unwrap_or, nat_lt, nat_le, Result, Ok, Err}
use Rattle.std.specs.List.{list_all}
use Rattle.std.proofs.lemmas.Bool.Decides.{nat_tests}
use Rattle.std.proofs.lemmas.Int.{ints}
use Rattle.std.proofs.lemmas.Option.{slice_get-get_or}
use Rattle.graph_file.specs.Lists.{when}
use Rattle.graph_file.specs.declared.task_specs.TaskSpec.{TaskSpec}
use Rattle.dag_check.specs.Graphs.{Dag, no_task, ups}
use Rattle.trigger_rules.specs.Rules.{rule_verdict}
use Rattle.trigger_rules.specs.States.{is_finished}
use Rattle.trigger_rules.specs.declared.states.State.{State}
use Rattle.trigger_rules.specs.declared.states.State.TheVariants as state
use Rattle.trigger_rules.specs.declared.verdicts.Verdict.{Verdict}
use Rattle.trigger_rules.specs.declared.verdicts.Verdict.TheVariants as verdict
use Rattle.instance_machine.specs.Instances.{InstanceValue, recent, last_of}
use Rattle.instance_machine.specs.States.{has_retry, is_up_for_retry, retry_at, opens_gate}
use Rattle.sched_state.specs.Lists.{same}
use Rattle.sched_state.proofs.NameLemmas.{same_is, find_passes}
use Rattle.sched_state.proofs.OrderLemmas.{and_left, and_right, or_left, or_right, not_false}
use Rattle.sched_state.specs.declared.graphs.LoadedGraph.{LoadedGraph}
use Rattle.sched_state.specs.declared.runs.Run.{Run}
use Rattle.sched_model.specs.Schedule.{Schedule, Pool, dag_named, tasks_of, is_paused, is_running, bound_of, has_pool, size_of}
use Rattle.sched_model.specs.States.{occupied, in_flight, active_tries, previous, past_is_open, state_at}
use Rattle.sched_model.specs.Settle.{decides, decided_verdict, decide_task, decide_instance, upstream_states}
use Rattle.sched_model.specs.Handout.{is_ready, is_scheduled, has_come, fits, offer_of, last_serial}
use Rattle.sched_model.specs.Sound.{is_sound_run, is_sound_graph, is_sound_dag, is_sound_in, has_pools}
use Rattle.sched_laws.specs.Offered.{IsEligible}
use Rattle.sched_laws.specs.Sweep.{decision, decision_in}
use Rattle.sched_laws.proofs.HandLemmas.{none_fits}
use Rattle.sched_laws.proofs.InstanceLemmas.{Parts, parts_of}
use Rattle.sched_laws.proofs.ListLemmas.{pairs_get, all_get}
use Rattle.sched_laws.proofs.RunLemmas.{pairs_of_run}
use Rattle.sched_laws.proofs.StageLemmas.{no_decision_at}
use Rattle.sched_core.specs.sched_events.Rows.{PoolLine}
use Rattle.sched_core.specs.sched_events.SettledAndSound.{IsSettledAndSound}
use Rattle.sched_core.specs.Views.{pool_row, pool_rows}
use Rattle.explain.specs.Reasons as reason
use Rattle.explain.specs.Reasons.{reasons, reasons_if, explained, is_waiting, is_handed_out, is_undecided, rule_waits, upstreams_if}
use Rattle.explain.specs.Subjects.{SubjectValue, IsSubjectOf, state_of_subject, subject_of}
use Rattle.explain.specs.declared.reasons.Reason.{Reason}
use Rattle.explain.specs.declared.reasons.Reason.TheVariants.{RetryAt}
use Rattle.explain.specs.declared.reasons.ExplainFault.{ExplainFault}
use Rattle.explain.proofs.ListLemmas.{both, and-not, and-made, not_or, or_first, or_second, not-not, first_none, map_was_none, when-none, find_there, find_of, find-map, filter-none, map-none, all-map}
use Rattle.explain.proofs.RuleLemmas.{finished_decides}
use Rattle.explain.proofs.SilenceLemmas.{IsSilent, silent, if_so-none}
use Rattle.explain.proofs.StateLemmas.{running, no_verdict, retry_moment, split, kinds, has_try}
use Rattle.explain.proofs.SubjectLemmas.{dag_is, is_found}

-- ---- options and numbers
guard : {X : Type 0} (c : Bool) (o : Option X) → c ≡ true → (let x : Option X = elim c [ true ↦ o | false ↦ None ] in x) ≡ o
guard true o e = refl
guard false o e = absurd (let f : false ≡ true = e in cc)

no_guard : {X : Type 0} (v : Option Verdict) (o : Option X) → v ≡ None → (let x : Option X = elim v [ Some w ↦ None | None ↦ o ] in x) ≡ o
no_guard None o e = refl
no_guard (Some w) o e = absurd (let f : ◌≡◌ {A = Option Verdict} (Some w) None = e in cc)

-- no run before lets a task run, or one that is a success or skipped
past_silent : (f : Run → State) (g : Run → Option Reason) (o : Option Run) → ((r : Run) → g r ≡ None → opens_gate (Some (f r)) ≡ true) → option_and_then g o ≡ None
    → opens_gate (option_map f o) ≡ true
past_silent f g None h e = refl
past_silent f g (Some r) h e = h r e

if-true : {X : Type 0} (b : Bool) (x y : X) → b ≡ true → (if b then x else y) ≡ x
if-true true x y e = refl
if-true false x y e = absurd (let f : false ≡ true = e in cc)

lt_from : (m n : ℕ) → nat_le n m ≡ false → nat_lt m n ≡ true
lt_from m n e = grind (arith, nat_tests)

le_from : (m n : ℕ) → nat_lt n m ≡ false → nat_le m n ≡ true
le_from m n e = grind (arith, nat_tests)

-- what is taken and what is asked for have room
room_is : (taken slots size : ℕ) → int_lt (pos size -ℤ pos taken) (pos slots) ≡ false → nat_le (taken + slots) size ≡ true
room_is taken slots size e = grind (arith, ints, nat_tests)

module _ (a : Schedule) (s : SubjectValue) (ok : IsSettledAndSound a) (found : IsSubjectOf a s) (q : IsSilent a s) (waiting : is_waiting (state_of_subject s) ≡ true) where
  runs_on : is_running s.run.phase ≡ true
  runs_on = running s.run.phase (and-not _ _ (when-none _ _ q.queued) waiting) (when-none _ _ q.ended)

  there : (n : ℕ) × (slice_get a.runs n ≡ Some s.run)
  there = find_there _ a.runs s.run found.run

  task_there : slice_get (tasks_of a s.run) s.place ≡ Some s.task
  task_there =
      ap (λ (g : Dag). slice_get g.tasks s.place) (dag_is a s found)
      ∙ (slice_get-get_or s.graph.dag.tasks s.place no_task found.place ∙ ap (λ (t : TaskSpec). Some t) (sym found.task))

  is_sound : Parts s.task s.instance
  is_sound =
      parts_of s.task s.instance
      (and_left _ _ (pairs_get (is_sound_in s.run.phase) s.place _ _ s.task s.instance task_there found.instance
      (pairs_of_run a.graphs s.run (all_get (is_sound_run a.graphs) a.runs there.0 s.run ok.sound.runs there.1))))

  -- ---- an instance without a verdict
  decided : s.instance.verdict ≡ None → decided_verdict a s.run s.place s.task ≡ None
  decided v =
      let p : ℕ = s.place in
      let r : Run = s.run in
      let i : InstanceValue = s.instance in
      let none : decision a there.0 p ≡ None = no_decision_at a (ap (option_map (λ (rs : List Run). record a { runs = rs })) (first_none _ _ (map_was_none _ _ ok.settled))) there.0 p in
      let here : decision_in a p r ≡ None = sym (ap (option_and_then (decision_in a p)) there.1) ∙ none in
      let run : option_and_then (decide_instance a r p) (slice_get r.instances p) ≡ None = sym (guard (is_running r.phase) _ runs_on) ∙ here in
      let one : decide_instance a r p i ≡ None = sym (ap (option_and_then (decide_instance a r p)) found.instance) ∙ run in
      let task : option_and_then (decide_task a r p i) (slice_get (tasks_of a r) p) ≡ None = sym (no_guard i.verdict _ v) ∙ one in
      map_was_none _ _ (sym (ap (option_and_then (decide_task a r p i)) task_there) ∙ task)

  no_wait : state_of_subject s ≡ state.None → rule_verdict s.task.trigger_rule (upstream_states a s.run s.place) ≡ verdict.Wait → ⊥
  no_wait none w =
      let waits : rule_waits a s ≡ true = ap (λ (x : State). is_undecided x && reason.is_wait (rule_verdict s.task.trigger_rule (upstream_states a s.run s.place))) none ∙ ap reason.is_wait w in
      let left : upstreams_if true a s ≡ [] = sym (ap (λ (b : Bool). upstreams_if b a s) waits) ∙ q.upstreams in
      let all : list_all (λ (p : ℕ). is_finished (state_at a s.run p)) (ups s.graph.dag s.place) ≡ true = filter-none (λ (p : ℕ). is_finished (state_at a s.run p)) (ups s.graph.dag s.place) (map-none _ _ left) in
      let states : list_all is_finished (upstream_states a s.run s.place) ≡ true =
      all-map (state_at a s.run) is_finished (ups (dag_named a s.run.graph) s.place)
      ∙ (ap (λ (g : Dag). list_all (λ (p : ℕ). is_finished (state_at a s.run p)) (ups g s.place)) (dag_is a s found) ∙ all) in
      finished_decides s.task.trigger_rule (upstream_states a s.run s.place) states w

  past_open : state_of_subject s ≡ state.None → past_is_open a s.run s.task s.place ≡ false → ⊥
  past_open none closed =
      let parts = not_or s.task.depends_on_past _ closed in
      let asked : (is_undecided (state_of_subject s) && s.task.depends_on_past) ≡ true = ap (λ (x : State). is_undecided x && s.task.depends_on_past) none ∙ parts.0 in
      let quiet : option_and_then (reason.past_in a s) (previous a s.run) ≡ None = if_so-none _ _ q.past asked in
      both (past_silent (λ (r : Run). state_at a r s.place) (reason.past_in a s) (previous a s.run) (λ r e. not-not _ (when-none _ _ e)) quiet) parts.1

  by_verdict : state_of_subject s ≡ state.None → (w : Verdict) → rule_verdict s.task.trigger_rule (upstream_states a s.run s.place) ≡ w → decides (past_is_open a s.run s.task s.place) w ≡ None → ⊥
  by_verdict none verdict.Wait e d = no_wait none e
  by_verdict none verdict.Run e d = past_open none (when-none _ _ d)
  by_verdict none verdict.Skip e d = let f : ◌≡◌ {A = Option Verdict} (Some verdict.Skip) None = d in cc
  by_verdict none verdict.UpstreamFailed e d = let f : ◌≡◌ {A = Option Verdict} (Some verdict.UpstreamFailed) None = d in cc

  undecided : state_of_subject s ≡ state.None → ⊥
  undecided none =
      let v : s.instance.verdict ≡ None = no_verdict s.instance.verdict (has_retry s.task s.instance) (last_of (recent s.instance)) none (not_false _ is_sound.decided) in
      by_verdict none _ refl (decided v)

  -- ---- an instance that could be handed out
  offer_fits_not : (r : is_ready a.now s.task s.instance ≡ true) → fits a (offer_of a there.0 s.run s.place s.task) ≡ false
  offer_fits_not r =
      let open_graph : is_paused a s.run.graph ≡ s.graph.paused = ap (λ (o : Option LoadedGraph). unwrap_or (option_map (λ (g : LoadedGraph). g.paused) o) false) found.graph in
      let x : IsEligible a (offer_of a there.0 s.run s.place s.task) = record {
        run = s.run;
        task = s.task;
        instance = s.instance;
        run_is = there.1;
        task_is = task_there;
        instance_is = found.instance;
        running = runs_on;
        unpaused = open_graph ∙ and-not _ _ (when-none _ _ q.paused) waiting;
        ready = r;
        offer_is = refl;
      } in
      none_fits a ok.handed _ x

  -- the pool of the task is there
  pool_there : (p : Pool) × (find (λ (x : Pool). same x.name s.task.pool) a.pools ≡ Some p)
  pool_there =
      let g : (n : ℕ) × (slice_get a.graphs n ≡ Some s.graph) = find_there _ a.graphs s.graph found.graph in
      let sound : is_sound_graph a s.graph ≡ true = all_get (is_sound_graph a) a.graphs g.0 s.graph ok.sound.graphs g.1 in
      let pools : has_pools a s.graph.dag ≡ true = and_right (is_sound_dag a.limits.tasks a.limits.edges s.graph.dag) _ sound in
      let task : slice_get s.graph.dag.tasks s.place ≡ Some s.task = slice_get-get_or s.graph.dag.tasks s.place no_task found.place ∙ ap (λ (t : TaskSpec). Some t) (sym found.task) in
      let has : has_pool a s.task.pool ≡ true = all_get (λ (t : TaskSpec). has_pool a t.pool) s.graph.dag.tasks s.place s.task pools task in
      find_of (λ (x : Pool). same x.name s.task.pool) a.pools has

  pool_fits : is_ready a.now s.task s.instance ≡ true → nat_le (occupied a s.task.pool + s.task.pool_slots) (size_of a s.task.pool) ≡ true
  pool_fits r =
      let p : Pool = pool_there.0 in
      let name : p.name ≡ s.task.pool = same_is p.name s.task.pool (find_passes (λ (x : Pool). same x.name s.task.pool) a.pools p pool_there.1) in
      let row : find (λ (x : PoolLine). same x.name s.task.pool) (pool_rows a) ≡ Some (pool_row a p) =
      find-map (pool_row a) (λ (x : PoolLine). same x.name s.task.pool) a.pools ∙ ap (option_map (pool_row a)) pool_there.1 in
      let quiet : option_and_then (reason.pool_in s) (find (λ (x : PoolLine). same x.name s.task.pool) (pool_rows a)) ≡ None = if_so-none _ _ q.pool r in
      let few : int_lt (pos p.size -ℤ pos (occupied a p.name)) (pos s.task.pool_slots) ≡ false = when-none _ _ (sym (ap (option_and_then (reason.pool_in s)) row) ∙ quiet) in
      let size : size_of a s.task.pool ≡ p.size = ap (λ (o : Option Pool). unwrap_or (option_map (λ (x : Pool). x.size) o) 0) pool_there.1 in
      room_is (occupied a s.task.pool) s.task.pool_slots (size_of a s.task.pool)
      (ap (λ (n : ℕ). int_lt (pos n -ℤ pos (occupied a s.task.pool)) (pos s.task.pool_slots)) size
      ∙ (ap (λ (n : List ℕ). int_lt (pos p.size -ℤ pos (occupied a n)) (pos s.task.pool_slots)) (sym name) ∙ few))

  lanes_fit : is_ready a.now s.task s.instance ≡ true → (nat_lt (in_flight a) a.lanes && nat_le a.next last_serial) ≡ true
  lanes_fit r =
      let none : (nat_le a.lanes (in_flight a) || nat_lt last_serial a.next) ≡ false = and-not _ _ (when-none _ _ q.lanes) r in
      and-made _ _ (lt_from (in_flight a) a.lanes (or_left _ _ none)) (le_from a.next last_serial (or_right _ _ none))

  graph_fits : is_ready a.now s.task s.instance ≡ true → nat_lt (active_tries a s.run.graph) (bound_of a s.run.graph) ≡ true
  graph_fits r =
      let bound : bound_of a s.run.graph ≡ s.graph.max_active_tasks = ap (λ (o : Option LoadedGraph). unwrap_or (option_map (λ (g : LoadedGraph). g.max_active_tasks) o) 0) found.graph in
      let few : nat_le s.graph.max_active_tasks (active_tries a s.run.graph) ≡ false = and-not _ _ (when-none _ _ q.full) r in
      ap (nat_lt (active_tries a s.run.graph)) bound ∙ lt_from (active_tries a s.run.graph) s.graph.max_active_tasks few

  not_ready : is_ready a.now s.task s.instance ≡ true → ⊥
  not_ready r = both (and-made _ _ (pool_fits r) (and-made _ _ (lanes_fit r) (graph_fits r))) (offer_fits_not r)

  up_for_retry : is_up_for_retry (state_of_subject s) ≡ true → ⊥
  up_for_retry up =
      let m = retry_moment s.instance.verdict (has_retry s.task s.instance) (last_of (recent s.instance)) s.task.retry_delay up in
      let at : retry_at s.task s.instance ≡ Some m.0 = if-true _ _ _ up ∙ m.1 in
      let come : nat_lt a.now m.0 ≡ false = when-none _ _ (sym (ap (option_and_then (λ (n : ℕ). when (nat_lt a.now n) (RetryAt n))) at) ∙ q.retry) in
      not_ready (or_second (is_scheduled (state_of_subject s)) _ (ap (has_come a.now) at ∙ le_from m.0 a.now come))

  speaks : ⊥
  speaks = elim (split (state_of_subject s) waiting) [
    | inl none ↦ undecided none
    | inr later ↦ elim later [
      | inl scheduled ↦ not_ready (or_first (is_scheduled (state_of_subject s)) _ scheduled)
      | inr up ↦ up_for_retry up
    ]
  ]

pub has_reason : (a : Schedule) (s : SubjectValue) → IsSettledAndSound a → IsSubjectOf a s → is_waiting (state_of_subject s) ≡ true → reasons a s ≢ []
has_reason a s ok found waiting e = speaks a s ok found (silent a s e) waiting

-- ---- all instances
no_reason : (a : Schedule) (s : SubjectValue) → IsSettledAndSound a → IsSubjectOf a s → reasons a s ≢ []
no_reason a s ok found e =
    let q : IsSilent a s = silent a s e in
    let unfinished : is_finished (state_of_subject s) ≡ false = when-none _ _ q.finished in
    elim (is_handed_out (state_of_subject s)) as (λ b. is_handed_out (state_of_subject s) ≡ b → ⊥) [
      | true ↦ λ h. has_try s.task s.instance h (map_was_none _ _ (if_so-none _ _ q.handed h))
      | false ↦ λ h. has_reason a s ok found (kinds (state_of_subject s) unfinished h) e
    ] refl

ok_there : (a : Schedule) (o : Result SubjectValue ExplainFault) → reasons_if a o ≡ Ok [] → (s : SubjectValue) × (o ≡ Ok s) × (reasons a s ≡ [])
ok_there a (Ok s) e = let f : ◌≡◌ {A = Result (List Reason) ExplainFault} (Ok (reasons a s)) (Ok []) = e in (s, refl, cc)
ok_there a (Err fault) e = absurd (let f : ◌≡◌ {A = Result (List Reason) ExplainFault} (Err fault) (Ok []) = e in cc)

pub explained_has : (a : Schedule) (graph : List ℕ) (date : ℕ) (task : List ℕ) → IsSettledAndSound a → explained a graph date task ≢ Ok []
explained_has a graph date task ok e =
    let t = ok_there a (subject_of a graph date task) e in
    no_reason a t.0 ok (is_found a graph date task t.0 t.1) t.2
