-- A new run enables no decision in the runs that are there.
use Rattle.std.proofs.Common.{◌≡◌, refl, sym, ap, ◌∙◌, ℕ, zero, suc, List, [], ◌∷◌, Bool, true, false, not, ◌||◌, ◌⊎◌, inl, inr, replicate, length, Option, Some, None, option_map, option_and_then, unwrap_or, slice_get, true≢false}
use Rattle.sched_model.specs.trigger_rules.declared.verdicts.Verdict.{Verdict}
use Rattle.sched_model.specs.trigger_rules.declared.verdicts.Verdict.TheVariants as verdict
use Rattle.sched_model.specs.trigger_rules.declared.states.State.TheVariants as state
use Rattle.sched_model.specs.sched_state.Lists.{insert_by}
use Rattle.sched_model.specs.Lists.{zip_with, last_passing, or_else}
use Rattle.graph_file.specs.Lists.{when}
use Rattle.graph_file.specs.declared.task_specs.TaskSpec.{TaskSpec}
use Rattle.sched_model.specs.trigger_rules.Rules.{rule_verdict}
use Rattle.sched_model.specs.instance_machine.Instances.{InstanceValue, new_instance}
use Rattle.sched_model.specs.Schedule.{Schedule, tasks_of, is_running, run_before, dag_named}
use Rattle.sched_model.specs.sched_state.declared.runs.Run.{Run}
use Rattle.sched_model.specs.instance_machine.declared.tries.Try.{Try}
use Rattle.sched_model.specs.instance_machine.States.{state_of, opens_gate}
use Rattle.sched_model.specs.States.{state_at, past_is_open, previous, is_earlier}
use Rattle.sched_model.specs.Settle.{decides, decide_task, decide_instance, upstream_states, decided_verdict}
use Rattle.sched_model.specs.NamedRuns.{NamedRun, queued_run, add_runs}
use Rattle.sched_laws.specs.Sweep.{decision_in}
use Rattle.sched_laws.proofs.SettleLemmas.{map_some, and_then_some}

-- the schedule with this run put in
abbrev pub with_new : Run → Schedule → Schedule
with_new x a = record a { runs = insert_by run_before x a.runs }

else_first : {X : Type 0} (o u w : Option X) (x : X) → (o ≡ Some x) ⊎ (o ≡ w) → (or_else o u ≡ Some x) ⊎ (or_else o u ≡ or_else w u)
else_first o u w x (inl e) = inl (ap (λ z. or_else z u) e)
else_first o u w x (inr e) = inr (ap (λ z. or_else z u) e)

else_when : {X : Type 0} (o : Option X) (b : Bool) (x : X) → (or_else o (when b x) ≡ Some x) ⊎ (or_else o (when b x) ≡ o)
else_when None true x = inl refl
else_when None false x = inr refl
else_when (Some y) b x = inr refl

-- the last that passes is the new one, or the same as before
inserted_last : {X : Type 0} (before : X → X → Bool) (test : X → Bool) (x : X) (xs : List X)
    → (last_passing test (insert_by before x xs) ≡ Some x) ⊎ (last_passing test (insert_by before x xs) ≡ last_passing test xs)
inserted_last before test x [] = else_when None (test x) x
inserted_last {X} before test x (y ∷ ys) = elim (before x y) as (λ b. (last_passing test (elim b as (λ c. List X) [ true ↦ x ∷ y ∷ ys | false ↦ y ∷ insert_by before x ys ]) ≡ Some x) ⊎ (last_passing test (elim b as (λ c. List X) [ true ↦ x ∷ y ∷ ys | false ↦ y ∷ insert_by before x ys ]) ≡ last_passing test (y ∷ ys))) [
  | true ↦ else_when (last_passing test (y ∷ ys)) (test x) x
  | false ↦ else_first (last_passing test (insert_by before x ys)) (when (test y) y) (last_passing test ys) x (inserted_last before test x ys)
]

previous_with : (a : Schedule) (x r : Run) → (previous (with_new x a) r ≡ Some x) ⊎ (previous (with_new x a) r ≡ previous a r)
previous_with a x r = inserted_last run_before (is_earlier r) x a.runs

-- what a gate lets through with the run it let through without it
gate_with : (a : Schedule) (x r : Run) (t : TaskSpec) (q : ℕ) → opens_gate (Some (state_at a x q)) ≡ false → past_is_open (with_new x a) r t q ≡ true → past_is_open a r t q ≡ true
gate_with a x r t q n e = elim t.depends_on_past as (λ b. (not b || opens_gate (option_map (λ w. state_at a w q) (previous (with_new x a) r))) ≡ true → (not b || opens_gate (option_map (λ w. state_at a w q) (previous a r))) ≡ true) [
  | false ↦ λ f. refl
  | true ↦ λ f. elim (previous_with a x r) [
    | inl p ↦ absurd (true≢false (sym (sym (ap (λ o. opens_gate (option_map (λ w. state_at a w q) o)) p) ∙ f) ∙ n))
    | inr p ↦ sym (ap (λ o. opens_gate (option_map (λ w. state_at a w q) o)) p) ∙ f
  ]
] e

given_more : (b c : Bool) (v w : Verdict) → (b ≡ true → c ≡ true) → decides b v ≡ Some w → decides c v ≡ Some w
given_more b c verdict.Wait w h e = e
given_more true c verdict.Run w h e = ap (λ d. when d verdict.Run) (h refl) ∙ e
given_more false c verdict.Run w h e = absurd (let n : ◌≡◌ {A = Option Verdict} None (Some w) = e in cc)
given_more b c verdict.Skip w h e = e
given_more b c verdict.UpstreamFailed w h e = e

abbrev made_of : Option Verdict → ℕ → List Try → InstanceValue
made_of v s ts = record { verdict = v; since = s; tries = ts }

decided_with : (a : Schedule) (x r : Run) (q : ℕ) (v : Option Verdict) (s : ℕ) (ts : List Try) (j : InstanceValue) → opens_gate (Some (state_at a x q)) ≡ false
    → decide_instance (with_new x a) r q (made_of v s ts) ≡ Some j → decide_instance a r q (made_of v s ts) ≡ Some j
decided_with a x r q (Some v) s ts j n e = e
decided_with a x r q None s ts j n e =
    let t = and_then_some (decide_task (with_new x a) r q (made_of None s ts)) (slice_get (tasks_of a r) q) j e in
    let u = map_some (λ w. made_of (Some w) s ts) (decided_verdict (with_new x a) r q t.0) j t.2 in
    let g : decided_verdict a r q t.0 ≡ Some u.0 =
    given_more (past_is_open (with_new x a) r t.0 q) (past_is_open a r t.0 q) (rule_verdict t.0.trigger_rule (upstream_states a r q)) u.0 (gate_with a x r t.0 q n) u.1 in
    ap (option_and_then (decide_task a r q (made_of None s ts))) t.1 ∙ ap (option_map (λ w. made_of (Some w) s ts)) g ∙ ap (λ z. Some z) u.2

guard_more : (c : Bool) (o u : Option InstanceValue) (j : InstanceValue) → (o ≡ Some j → u ≡ Some j) → (◌≡◌ {A = Option InstanceValue} (elim c [ true ↦ o | false ↦ None ]) (Some j)) → (◌≡◌ {A = Option InstanceValue} (elim c [ true ↦ u | false ↦ None ]) (Some j))
guard_more true o u j h e = h e
guard_more false o u j h e = e

at_more : (f g : InstanceValue → Option InstanceValue) (o : Option InstanceValue) (j : InstanceValue) → ((i : InstanceValue) → f i ≡ Some j → g i ≡ Some j) → option_and_then f o ≡ Some j → option_and_then g o ≡ Some j
at_more f g None j h e = e
at_more f g (Some i) j h e = h i e

pub decision_with : (a : Schedule) (x r : Run) (q : ℕ) (j : InstanceValue) → opens_gate (Some (state_at a x q)) ≡ false → decision_in (with_new x a) q r ≡ Some j → decision_in a q r ≡ Some j
decision_with a x r q j n e = guard_more (is_running r.phase) (option_and_then (decide_instance (with_new x a) r q) (slice_get r.instances q)) (option_and_then (decide_instance a r q) (slice_get r.instances q)) j
    (at_more (decide_instance (with_new x a) r q) (decide_instance a r q) (slice_get r.instances q) j (λ i. decided_with a x r q i.verdict i.since i.tries j n)) e

blank_states : (ts : List TaskSpec) (n q : ℕ) → opens_gate (Some (unwrap_or (slice_get (zip_with state_of ts (replicate n new_instance)) q) state.None)) ≡ false
blank_states [] n q = refl
blank_states (t ∷ ts) zero q = refl
blank_states (t ∷ ts) (suc n) zero = refl
blank_states (t ∷ ts) (suc n) (suc q) = blank_states ts n q

pub new_with : (a : Schedule) (n : NamedRun) (r : Run) (q : ℕ) (j : InstanceValue) → decision_in (with_new (queued_run a n) a) q r ≡ Some j → decision_in a q r ≡ Some j
new_with a n r q j e = decision_with a (queued_run a n) r q j
    (blank_states (tasks_of a (queued_run a n)) (length (dag_named a n.graph).tasks) q) e

pub runs_with : (ns : List NamedRun) (a : Schedule) (r : Run) (q : ℕ) (j : InstanceValue) → decision_in (add_runs ns a) q r ≡ Some j → decision_in a q r ≡ Some j
runs_with [] a r q j e = e
runs_with (n ∷ ns) a r q j e = runs_with ns a r q j (new_with (add_runs ns a) n r q j e)
