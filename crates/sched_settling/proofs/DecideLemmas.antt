-- What a decision looks at, and one sweep of decisions.
use Rattle.std.proofs.Common.{◌≡◌, ◌∙◌, refl, sym, ap, ℕ, zero, suc, ◌+◌, List, [], ◌∷◌, Bool, true, false, map, length, slice_get, Option, Some, None, option_map, option_and_then, unwrap_or}
use Rattle.graph_file.specs.declared.task_specs.TaskSpec.{TaskSpec}
use Rattle.graph_file.specs.Lists.{when}
use Rattle.dag_check.specs.Graphs.{Dag, ups}
use Rattle.std.proofs.lemmas.List.{length-map}
use Rattle.std.proofs.lemmas.Option.{slice_get-map}
use Rattle.trigger_rules.specs.Rules.{rule_verdict}
use Rattle.trigger_rules.specs.declared.verdicts.Verdict.{Verdict}
use Rattle.instance_machine.specs.Instances.{InstanceValue}
use Rattle.sched_state.specs.declared.runs.Run.{Run}
use Rattle.sched_model.specs.Lists.{at, last_passing, or_else}
use Rattle.sched_model.specs.Schedule.{Schedule, dag_named, graph_named, tasks_of, is_running, no_dag}
use Rattle.sched_model.specs.States.{past_is_open}
use Rattle.sched_model.specs.Settle.{decided_verdict, decides, upstream_states, decide_instance, decide_task}
use Rattle.sched_model.specs.Handout.{in_instance}
use Rattle.sched_laws.specs.Sweep.{decision_in, decision, decide_at, put, sweep_places}
use Rattle.sched_laws.proofs.DecisionLemmas.{at_known, none_guard}
use Rattle.sched_laws.proofs.LookLemmas.{get_at}
use Rattle.instance_machine.specs.declared.tries.Try.{Try}
use Rattle.sched_state.specs.declared.graphs.LoadedGraph.{LoadedGraph}
use Rattle.sched_settling.specs.Marks.{dag_at}
use Rattle.sched_laws.proofs.SweepLemmas.{lens, put_lens}
use Rattle.sched_draft.specs.Parts.{decided_as, instances_at}
use Rattle.sched_settling.specs.States.{state_in, Decides}

-- ---- the past
when_passes : {X : Type 0} (p : X → Bool) (b : Bool) (y x : X) → p y ≡ b → when b y ≡ Some x → p x ≡ true
when_passes {X} p true y x f g = let c : ◌≡◌ {A = Option X} (Some y) (Some x) = g in let i : y ≡ x = cc in ap p (sym i) ∙ f
when_passes {X} p false y x f g = absurd (let c : ◌≡◌ {A = Option X} None (Some x) = g in cc)

pub last_passes : {X : Type 0} (p : X → Bool) (xs : List X) (x : X) → last_passing p xs ≡ Some x → p x ≡ true
last_passes {X} p [] x e = absurd (let c : ◌≡◌ {A = Option X} None (Some x) = e in cc)
last_passes {X} p (y ∷ xs) x e = elim (last_passing p xs) as (λ o. last_passing p xs ≡ o → or_else o (when (p y) y) ≡ Some x → p x ≡ true) [
  | Some z ↦ λ f g. let c : ◌≡◌ {A = Option X} (Some z) (Some x) = g in let i : z ≡ x = cc in last_passes p xs x (f ∙ ap (λ w. Some w) i)
  | None ↦ λ f g. when_passes p (p y) y x refl g
] refl e

-- ---- the verdict
pub verdict_is : (a : Schedule) (r : Run) (g : Dag) (t : TaskSpec) (p : ℕ) (v : Verdict) (b : Bool) → dag_named a r.graph ≡ g → v ≡ rule_verdict t.trigger_rule (map (state_in g r) (ups g p))
    → b ≡ past_is_open a r t p → decides b v ≡ decided_verdict a r p t
verdict_is a r g t p v b is verdict past =
    let rule : v ≡ rule_verdict t.trigger_rule (upstream_states a r p) =
    verdict ∙ ap (λ (h : Dag). rule_verdict t.trigger_rule (map (state_in h r) (ups h p))) (sym is) in
    ap (λ c. decides c v) past ∙ ap (decides (past_is_open a r t p)) rule

-- ---- one decision
pub decided_some : (a : Schedule) (n p : ℕ) (r : Run) (v : Verdict) → slice_get a.runs n ≡ Some r → Decides a r p v
    → record a { runs = at (in_instance (decided_as v) p) n a.runs } ≡ decide_at n p a
decided_some a n p r v there d =
    let j : InstanceValue = decided_as v d.instance in
    let is : decision a n p ≡ Some j = ap (option_and_then (decision_in a p)) there ∙ d.decided in
    let inside : at (λ i. j) p r.instances ≡ at (decided_as v) p r.instances = at_known (decided_as v) p r.instances d.instance d.there in
    let runs : at (in_instance (λ i. j) p) n a.runs ≡ at (in_instance (decided_as v) p) n a.runs =
    sym (at_known (in_instance (λ i. j) p) n a.runs r there)
    ∙ (ap (λ (is : List InstanceValue). at (λ (z : Run). record r { instances = is }) n a.runs) inside ∙ at_known (in_instance (decided_as v) p) n a.runs r there) in
    let put_is : put j n p a ≡ record a { runs = at (in_instance (decided_as v) p) n a.runs } = ap (λ rs. record a { runs = rs }) runs in
    sym (rw (is, decide_at) put_is)

pub decided_none : (a : Schedule) (n p : ℕ) (r : Run) → slice_get a.runs n ≡ Some r → decision_in a p r ≡ None → a ≡ decide_at n p a
decided_none a n p r there none =
    let is : decision a n p ≡ None = ap (option_and_then (decision_in a p)) there ∙ none in
    rw (is, decide_at) refl

-- ---- one run
pub decide_lens : (a : Schedule) (n p : ℕ) → lens (decide_at n p a) ≡ lens a
decide_lens a n p = elim (decision a n p) as (λ o. decision a n p ≡ o → lens (decide_at n p a) ≡ lens a) [
  | Some j ↦ λ e. rw (e, decide_at) (put_lens a j n p)
  | None ↦ λ e. rw (e, decide_at) refl
] refl

pub decide_long : (a : Schedule) (n p : ℕ) → length (decide_at n p a).runs ≡ length a.runs
decide_long a n p =
    let before = length-map (decide_at n p a).runs (λ (r : Run). length r.instances) in
    let after = length-map a.runs (λ (r : Run). length r.instances) in
    sym before ∙ (ap length (decide_lens a n p) ∙ after)

pub place_step : (k m n p : ℕ) (a b : Schedule) → k ≡ suc m → b ≡ decide_at n p a → sweep_places m n (p + 1) b ≡ sweep_places k n p a
place_step k m n p a b e is = ap (sweep_places m n (p + 1)) is ∙ ap (λ (i : ℕ). sweep_places i n p a) (sym e)

pub places_over : (k n p : ℕ) (a : Schedule) → k ≡ 0 → a ≡ sweep_places k n p a
places_over k n p a e = ap (λ (i : ℕ). sweep_places i n p a) (sym e)

pub places_lens : (k n p : ℕ) (a : Schedule) → lens (sweep_places k n p a) ≡ lens a
places_lens zero n p a = refl
places_lens (suc k) n p a = places_lens k n (p + 1) (decide_at n p a) ∙ decide_lens a n p

-- ---- all runs
pub long_at : (n : ℕ) (a : Schedule) → instances_at n a ≡ unwrap_or (slice_get (lens a) n) 0
long_at n a = ap (λ o. unwrap_or o 0) (sym (slice_get-map (λ (r : Run). length r.instances) a.runs n))

-- ---- the graph of a run
dag_in : (a : Schedule) (g : Run → Run) (o : Option Run) → ((r : Run) → (g r).graph ≡ r.graph) → option_map (λ (r : Run). dag_named a r.graph) (option_map g o) ≡ option_map (λ (r : Run). dag_named a r.graph) o
dag_in a g None h = refl
dag_in a g (Some r) h = ap (λ id. Some (dag_named a id)) (h r)

pub decide_dag : (a : Schedule) (n p : ℕ) → dag_at n (decide_at n p a) ≡ dag_at n a
decide_dag a n p = elim (decision a n p) as (λ o. decision a n p ≡ o → dag_at n (decide_at n p a) ≡ dag_at n a) [
  | Some j ↦ λ e. rw (e, decide_at) (ap (option_map (λ (r : Run). dag_named a r.graph)) (get_at (in_instance (λ i. j) p) n a.runs) ∙ dag_in a (in_instance (λ i. j) p) (slice_get a.runs n) (λ r. refl))
  | None ↦ λ e. rw (e, decide_at) refl
] refl

pub dag_there : (a : Schedule) (n : ℕ) (r : Run) (g : Dag) → slice_get a.runs n ≡ Some r → dag_at n a ≡ Some g → dag_named a r.graph ≡ g
dag_there a n r g e f = let c : ◌≡◌ {A = Option Dag} (Some (dag_named a r.graph)) (Some g) = sym (ap (option_map (λ (x : Run). dag_named a x.graph)) e) ∙ f in cc

-- a run whose graph is not there is decided nowhere
no_task : (a : Schedule) (r : Run) (q : ℕ) (v : Option Verdict) (s : ℕ) (ts : List Try) → tasks_of a r ≡ [] → decide_instance a r q (record { verdict = v; since = s; tries = ts }) ≡ None
no_task a r q (Some v) s ts e = refl
no_task a r q None s ts e = ap (λ xs. option_and_then (decide_task a r q (record { verdict = None; since = s; tries = ts })) (slice_get xs q)) e

no_decisions : (a : Schedule) (r : Run) (q : ℕ) (o : Option InstanceValue) → tasks_of a r ≡ [] → option_and_then (decide_instance a r q) o ≡ None
no_decisions a r q None e = refl
no_decisions a r q (Some i) e = no_task a r q i.verdict i.since i.tries e

not_decided : (a : Schedule) (n q : ℕ) (r : Run) → slice_get a.runs n ≡ Some r → dag_named a r.graph ≡ no_dag → decision a n q ≡ None
not_decided a n q r e d =
    ap (option_and_then (decision_in a q)) e
    ∙ none_guard (is_running r.phase) (option_and_then (decide_instance a r q) (slice_get r.instances q)) (no_decisions a r q (slice_get r.instances q) (ap (λ (g : Dag). g.tasks) d))

places_still : (k n p : ℕ) (a : Schedule) → ((q : ℕ) → decision a n q ≡ None) → a ≡ sweep_places k n p a
places_still zero n p a h = refl
places_still (suc k) n p a h =
    let e : decision a n p ≡ None = h p in
    let same : decide_at n p a ≡ a = rw (e, decide_at) refl in
    places_still k n (p + 1) a h ∙ ap (sweep_places k n (p + 1)) (sym same)

pub no_graph : (a : Schedule) (n : ℕ) (r : Run) → slice_get a.runs n ≡ Some r → graph_named a r.graph ≡ None → a ≡ sweep_places (instances_at n a) n 0 a
no_graph a n r e f =
    places_still (instances_at n a) n 0 a (λ q. not_decided a n q r e (ap (λ (o : Option LoadedGraph). unwrap_or (option_map (λ (g : LoadedGraph). g.dag) o) no_dag) f))

pub found_dag : (a : Schedule) (n : ℕ) (r : Run) (d : Dag) → slice_get a.runs n ≡ Some r → option_map (λ (g : LoadedGraph). g.dag) (graph_named a r.graph) ≡ Some d → dag_at n a ≡ Some d
found_dag a n r d e f = ap (option_map (λ (x : Run). dag_named a x.graph)) e ∙ ap (λ (o : Option Dag). Some (unwrap_or o no_dag)) f
