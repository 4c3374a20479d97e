-- Whether a move is possible, by what is seen of the schedule.
use Rattle.dag_check.specs.Graphs.{ups}
use Rattle.sched_model.specs.instance_machine.States.{opens_gate}
use Rattle.sched_model.specs.Lists.{last_passing, or_else}
use Rattle.std.proofs.Common.{◌≡◌, refl, sym, ap, ◌∙◌, ℕ, ◌+◌, List, [], ◌∷◌, Bool, true, false, cond, not, ◌&&◌, ◌||◌, map, Option, Some, None, option_map, option_and_then, unwrap_or, slice_get, is_some, is_none, count_by, nat_lt}
use Rattle.std.specs.List.{list_any, fold}
use Rattle.std.proofs.lemmas.Option.{slice_get-map}
use Rattle.sched_model.specs.trigger_rules.declared.verdicts.Verdict.{Verdict}
use Rattle.sched_model.specs.sched_state.declared.runs.RunPhase.{RunPhase}
use Rattle.graph_file.specs.declared.rules.Rule.{Rule}
use Rattle.graph_file.specs.declared.rules.Rule.TheVariants.{AllSuccess, AllFailed, AllDone, AllSkipped, OneFailed, OneSuccess, OneDone, NoneFailed, NoneFailedMinOneSuccess, NoneSkipped, Always}
use Rattle.sched_model.specs.trigger_rules.declared.states.State.{State}
use Rattle.sched_model.specs.trigger_rules.declared.states.State.TheVariants as state
use Rattle.sched_model.specs.sched_state.Lists.{same, change_from, first_change}
use Rattle.sched_model.specs.instance_machine.Instances.{InstanceValue}
use Rattle.graph_file.specs.Lists.{when, first_some}
use Rattle.graph_file.specs.declared.task_specs.TaskSpec.{TaskSpec}
use Rattle.sched_model.specs.trigger_rules.Rules.{rule_verdict, row_of}
use Rattle.sched_model.specs.trigger_rules.States.{is_finished, is_bad, is_success, is_skipped, is_failed}
use Rattle.sched_model.specs.Settle.{decides, decide_task, decide_instance, decide_run, finish_run, start_run, move_runs, move, upstream_states, is_undecided, decided_verdict}
use Rattle.sched_model.specs.Schedule.{Schedule, is_running, is_queued, tasks_of, is_paused, max_active_runs_of, dag_named}
use Rattle.sched_model.specs.sched_state.declared.runs.Run.{Run}
use Rattle.sched_model.specs.instance_machine.declared.tries.Try.{Try}
use Rattle.sched_model.specs.sched_state.declared.graphs.LoadedGraph.{LoadedGraph}
use Rattle.sched_model.specs.States.{states, state_at, past_is_open, previous, is_earlier}
use Rattle.sched_laws.specs.Seen.{seen, Sight, sight_of, sights, seen_at, seen_before, seen_past, seen_verdict, has_verdict, any_from, can_decide, can_decide_in, can_finish, can_move, can_start_seen, is_seen_earlier}
use Rattle.sched_laws.proofs.ListLemmas.{change_here}
use Rattle.sched_model.proofs.sched_state.OrderLemmas.{all_map, any_map}

-- ---- lists

pub any_same : {Y : Type 0} (q p : Y → Bool) → ((y : Y) → p y ≡ q y) → (ys : List Y) → list_any p ys ≡ list_any q ys
any_same q p h [] = refl
any_same q p h (y ∷ ys) = rw (h y, any_same q p h ys) refl

when_map : {X Y : Type 0} (f : Y → X) (b : Bool) (y : Y) → when b (f y) ≡ option_map f (when b y)
when_map f true y = refl
when_map f false y = refl

pub map_else : {X Y : Type 0} (h : X → Y) (o u : Option X) → option_map h (or_else o u) ≡ or_else (option_map h o) (option_map h u)
map_else h None u = refl
map_else h (Some x) u = refl

pub last_map : {X Y : Type 0} (q : Y → Bool) (p : X → Bool) (f : Y → X) → ((y : Y) → p (f y) ≡ q y) → (ys : List Y) → last_passing p (map f ys) ≡ option_map f (last_passing q ys)
last_map q p f h [] = refl
last_map q p f h (y ∷ ys) =
    rw (last_map q p f h ys, h y)
    (ap (or_else (option_map f (last_passing q ys))) (when_map f (q y) y) ∙ sym (map_else f (last_passing q ys) (when (q y) y)))

-- ---- the rules see only what is seen

success_seen : (s : State) → is_success (seen s) ≡ is_success s
success_seen state.None = refl
success_seen state.Scheduled = refl
success_seen state.Queued = refl
success_seen state.Running = refl
success_seen state.UpForRetry = refl
success_seen state.Success = refl
success_seen state.Failed = refl
success_seen state.Skipped = refl
success_seen state.UpstreamFailed = refl

pub skipped_seen : (s : State) → is_skipped (seen s) ≡ is_skipped s
skipped_seen state.None = refl
skipped_seen state.Scheduled = refl
skipped_seen state.Queued = refl
skipped_seen state.Running = refl
skipped_seen state.UpForRetry = refl
skipped_seen state.Success = refl
skipped_seen state.Failed = refl
skipped_seen state.Skipped = refl
skipped_seen state.UpstreamFailed = refl

pub failed_seen : (s : State) → is_failed (seen s) ≡ is_failed s
failed_seen state.None = refl
failed_seen state.Scheduled = refl
failed_seen state.Queued = refl
failed_seen state.Running = refl
failed_seen state.UpForRetry = refl
failed_seen state.Success = refl
failed_seen state.Failed = refl
failed_seen state.Skipped = refl
failed_seen state.UpstreamFailed = refl

pub bad_seen : (s : State) → is_bad (seen s) ≡ is_bad s
bad_seen state.None = refl
bad_seen state.Scheduled = refl
bad_seen state.Queued = refl
bad_seen state.Running = refl
bad_seen state.UpForRetry = refl
bad_seen state.Success = refl
bad_seen state.Failed = refl
bad_seen state.Skipped = refl
bad_seen state.UpstreamFailed = refl

pub finished_seen : (s : State) → is_finished (seen s) ≡ is_finished s
finished_seen state.None = refl
finished_seen state.Scheduled = refl
finished_seen state.Queued = refl
finished_seen state.Running = refl
finished_seen state.UpForRetry = refl
finished_seen state.Success = refl
finished_seen state.Failed = refl
finished_seen state.Skipped = refl
finished_seen state.UpstreamFailed = refl

or_ : {a b c d : Bool} → a ≡ b → c ≡ d → (a || c) ≡ (b || d)
or_ e f = rw (e, f) refl

same_row : (r : Rule) (ss : List State) → row_of r (map seen ss) ≡ row_of r ss
same_row AllSuccess ss = rw (all_map is_success is_success seen success_seen ss, any_map is_bad is_bad seen bad_seen ss, any_map is_skipped is_skipped seen skipped_seen ss) refl
same_row AllFailed ss = rw (all_map is_bad is_bad seen bad_seen ss, any_map (λ x. is_success x || is_skipped x) (λ x. is_success x || is_skipped x) seen (λ s. or_ (success_seen s) (skipped_seen s)) ss) refl
same_row AllDone ss = rw (all_map is_finished is_finished seen finished_seen ss) refl
same_row AllSkipped ss = rw (all_map is_skipped is_skipped seen skipped_seen ss, any_map (λ x. is_success x || is_bad x) (λ x. is_success x || is_bad x) seen (λ s. or_ (success_seen s) (bad_seen s)) ss) refl
same_row OneFailed ss = rw (any_map is_bad is_bad seen bad_seen ss, all_map is_finished is_finished seen finished_seen ss) refl
same_row OneSuccess ss = rw (any_map is_success is_success seen success_seen ss, all_map is_finished is_finished seen finished_seen ss, all_map is_skipped is_skipped seen skipped_seen ss) refl
same_row OneDone ss = rw (all_map is_finished is_finished seen finished_seen ss, any_map (λ x. is_success x || is_failed x) (λ x. is_success x || is_failed x) seen (λ s. or_ (success_seen s) (failed_seen s)) ss) refl
same_row NoneFailed ss = rw (all_map (λ x. is_success x || is_skipped x) (λ x. is_success x || is_skipped x) seen (λ s. or_ (success_seen s) (skipped_seen s)) ss, any_map is_bad is_bad seen bad_seen ss) refl
same_row NoneFailedMinOneSuccess ss = rw (all_map is_finished is_finished seen finished_seen ss, any_map is_bad is_bad seen bad_seen ss, any_map is_success is_success seen success_seen ss, all_map is_skipped is_skipped seen skipped_seen ss) refl
same_row NoneSkipped ss = rw (all_map (λ x. is_success x || is_bad x) (λ x. is_success x || is_bad x) seen (λ s. or_ (success_seen s) (bad_seen s)) ss, any_map is_skipped is_skipped seen skipped_seen ss) refl
same_row Always ss = refl

pub same_verdict : (r : Rule) (ss : List State) → rule_verdict r (map seen ss) ≡ rule_verdict r ss
same_verdict r [] = refl
same_verdict r (s ∷ ss) = same_row r (s ∷ ss)

gate_seen : (o : Option State) → opens_gate (option_map seen o) ≡ opens_gate o
gate_seen None = refl
gate_seen (Some s) = or_ (success_seen s) (skipped_seen s)

-- ---- what is seen of a run

seen_default : (o : Option State) → unwrap_or (option_map seen o) state.None ≡ seen (unwrap_or o state.None)
seen_default None = refl
seen_default (Some s) = refl

pub seen_at_of : (a : Schedule) (r : Run) (p : ℕ) → seen_at (sight_of a.graphs r) p ≡ seen (state_at a r p)
seen_at_of a r p = ap (λ o. unwrap_or o state.None) (slice_get-map seen (states a r) p) ∙ seen_default (slice_get (states a r) p)

before_of : (a : Schedule) (r : Run) → seen_before (sights a) (sight_of a.graphs r) ≡ option_map (sight_of a.graphs) (previous a r)
before_of a r = last_map (is_earlier r) (is_seen_earlier (sight_of a.graphs r)) (sight_of a.graphs) (λ q. refl) a.runs

gate_of : (a : Schedule) (p : ℕ) (o : Option Run)
    → opens_gate (option_map (λ w. seen_at w p) (option_map (sight_of a.graphs) o)) ≡ opens_gate (option_map (λ q. state_at a q p) o)
gate_of a p None = refl
gate_of a p (Some q) = ap (λ s. opens_gate (Some s)) (seen_at_of a q p) ∙ gate_seen (Some (state_at a q p))

past_of : (a : Schedule) (r : Run) (t : TaskSpec) (p : ℕ) → seen_past (sights a) (sight_of a.graphs r) t p ≡ past_is_open a r t p
past_of a r t p = ap (λ b. not t.depends_on_past || b) (ap (λ o. opens_gate (option_map (λ w. seen_at w p) o)) (before_of a r) ∙ gate_of a p (previous a r))

upstream_of : (a : Schedule) (r : Run) (us : List ℕ) → map (seen_at (sight_of a.graphs r)) us ≡ map seen (map (state_at a r) us)
upstream_of a r [] = refl
upstream_of a r (u ∷ us) = rw (seen_at_of a r u, upstream_of a r us) refl

pub verdict_seen : (a : Schedule) (r : Run) (p : ℕ) (t : TaskSpec)
    → seen_verdict a.graphs (sights a) (sight_of a.graphs r) p t ≡ decided_verdict a r p t
verdict_seen a r p t =
    ap (λ b. decides b (rule_verdict t.trigger_rule (map (seen_at (sight_of a.graphs r)) (ups (dag_named a r.graph) p)))) (past_of a r t p)
    ∙ ap (decides (past_is_open a r t p)) (ap (rule_verdict t.trigger_rule) (upstream_of a r (ups (dag_named a r.graph) p)) ∙ same_verdict t.trigger_rule (upstream_states a r p))

-- ---- the moves

pub is_some_map : {A B : Type 0} (f : A → B) (o : Option A) → is_some (option_map f o) ≡ is_some o
is_some_map f None = refl
is_some_map f (Some x) = refl

is_some_when : {A : Type 0} (b : Bool) (x : A) → is_some (when b x) ≡ b
is_some_when true x = refl
is_some_when false x = refl

abbrev made_of : Option Verdict → ℕ → List Try → InstanceValue
made_of v s ts = record { verdict = v; since = s; tries = ts }

has_verdict_of : (a : Schedule) (r : Run) (p : ℕ) (i : InstanceValue) (o : Option TaskSpec)
    → is_some (option_and_then (decide_task a r p i) o) ≡ has_verdict a.graphs (sights a) (sight_of a.graphs r) p o
has_verdict_of a r p i None = refl
has_verdict_of a r p i (Some t) = is_some_map _ (decided_verdict a r p t) ∙ ap is_some (sym (verdict_seen a r p t))

undecided_seen : (a : Schedule) (r : Run) (p : ℕ) (v : Option Verdict) (s : ℕ) (ts : List Try)
    → is_some (decide_instance a r p (made_of v s ts)) ≡ can_decide a.graphs (sights a) (sight_of a.graphs r) p (is_none v)
undecided_seen a r p (Some v) s ts = refl
undecided_seen a r p None s ts = has_verdict_of a r p (made_of None s ts) (slice_get (tasks_of a r) p)

pub decide_seen : (a : Schedule) (r : Run) (p : ℕ) (i : InstanceValue) → is_some (decide_instance a r p i) ≡ can_decide a.graphs (sights a) (sight_of a.graphs r) p (is_none i.verdict)
decide_seen a r p i = undecided_seen a r p i.verdict i.since i.tries

-- a change is possible where f changes some element
here_some : {X : Type 0} (f : ℕ → X → Option X) (i : ℕ) (x : X) (xs : List X) (o : Option X) → is_some (change_here f i x xs o) ≡ (is_some o || is_some (change_from f (i + 1) xs))
here_some f i x xs (Some y) = refl
here_some f i x xs None = is_some_map (λ ys. x ∷ ys) (change_from f (i + 1) xs)

pub change_seen : {X Y : Type 0} (f : ℕ → X → Option X) (g : ℕ → Y → Bool) (v : X → Y) → ((i : ℕ) (x : X) → is_some (f i x) ≡ g i (v x))
    → (i : ℕ) (xs : List X) → is_some (change_from f i xs) ≡ any_from g i (map v xs)
change_seen f g v h i [] = refl
change_seen f g v h i (x ∷ xs) = here_some f i x xs (f i x) ∙ or_ (h i x) (change_seen f g v h (i + 1) xs)

any_from_any : {Y : Type 0} (g : Y → Bool) (i : ℕ) (ys : List Y) → any_from (λ j y. g y) i ys ≡ list_any g ys
any_from_any g i [] = refl
any_from_any g i (y ∷ ys) = rw (any_from_any g (i + 1) ys) refl

pub first_change_seen : {X Y : Type 0} (f : X → Option X) (g : Y → Bool) (v : X → Y) → ((x : X) → is_some (f x) ≡ g (v x))
    → (xs : List X) → is_some (first_change f xs) ≡ list_any g (map v xs)
first_change_seen f g v h xs = change_seen (λ i x. f x) (λ i y. g y) v (λ i x. h x) 0 xs ∙ any_from_any g 0 (map v xs)

in_phase : Run → RunPhase → Run
in_phase r ph = record r { phase = ph }

guarded : (a : Schedule) (r : Run) (b : Bool)
    → is_some (elim b [ true ↦ option_map (λ is. record r { instances = is }) (change_from (decide_instance a r) 0 r.instances) | false ↦ None ])
    ≡ (b && any_from (can_decide a.graphs (sights a) (sight_of a.graphs r)) 0 (map is_undecided r.instances))
guarded a r false = refl
guarded a r true = is_some_map _ (change_from (decide_instance a r) 0 r.instances) ∙ change_seen (decide_instance a r) (can_decide a.graphs (sights a) (sight_of a.graphs r)) is_undecided (decide_seen a r) 0 r.instances

pub decide_run_seen : (a : Schedule) (r : Run) → is_some (decide_run a r) ≡ can_decide_in a.graphs (sights a) (sight_of a.graphs r)
decide_run_seen a r = guarded a r (is_running r.phase)

pub finish_run_seen : (a : Schedule) (r : Run) → is_some (finish_run a r) ≡ can_finish (sight_of a.graphs r)
finish_run_seen a r = is_some_when _ _ ∙ ap (λ b. is_running r.phase && b) (sym (all_map is_finished is_finished seen finished_seen (states a r)))

fold_map : {X Y : Type 0} (p : Y → Bool) (v : X → Y) (n : ℕ) (xs : List X) → fold (λ k y. k + cond (p y) 1 0) n (map v xs) ≡ fold (λ k x. k + cond (p (v x)) 1 0) n xs
fold_map p v n [] = refl
fold_map p v n (x ∷ xs) = fold_map p v (n + cond (p (v x)) 1 0) xs

count_map : {X Y : Type 0} (p : Y → Bool) (v : X → Y) (xs : List X) → count_by p (map v xs) ≡ count_by (λ x. p (v x)) xs
count_map p v xs = fold_map p v 0 xs

pub start_run_seen : (a : Schedule) (r : Run) → is_some (start_run a r) ≡ can_start_seen a.graphs (sights a) (sight_of a.graphs r)
start_run_seen a r = is_some_when _ _ ∙ ap (λ n. is_queued r.phase && (not (is_paused a r.graph) && nat_lt n (max_active_runs_of a r.graph))) (sym (count_map (λ (w : Sight). same w.graph r.graph && is_running w.phase) (sight_of a.graphs) a.runs))

first_of_three : {A : Type 0} (x y z : Option A) → is_some (first_some (x ∷ y ∷ z ∷ [])) ≡ (is_some x || (is_some y || is_some z))
first_of_three (Some x) y z = refl
first_of_three None (Some y) z = refl
first_of_three None None (Some z) = refl
first_of_three None None None = refl

-- whether a move is possible is seen
pub move_seen : (a : Schedule) → is_some (move a) ≡ can_move a.graphs (sights a)
move_seen a =
    is_some_map _ (move_runs a)
    ∙ first_of_three (first_change (decide_run a) a.runs) (first_change (finish_run a) a.runs) (first_change (start_run a) a.runs)
    ∙ or_ (first_change_seen (decide_run a) (can_decide_in a.graphs (sights a)) (sight_of a.graphs) (decide_run_seen a) a.runs)
    (or_ (first_change_seen (finish_run a) can_finish (sight_of a.graphs) (finish_run_seen a) a.runs)
    (first_change_seen (start_run a) (can_start_seen a.graphs (sights a)) (sight_of a.graphs) (start_run_seen a) a.runs))

pub none_from : {A : Type 0} (o : Option A) → is_some o ≡ false → o ≡ None
none_from None e = refl
none_from (Some x) e = cc

same_moves : (g h : List LoadedGraph) (v w : List Sight) → g ≡ h → v ≡ w → can_move g v ≡ can_move h w
same_moves g h v w e f = rw (e, f) refl

-- what is seen decides whether a move is possible
pub still_seen : (a b : Schedule) → a.graphs ≡ b.graphs → sights a ≡ sights b → move a ≡ None → move b ≡ None
still_seen a b g v e = none_from (move b) (move_seen b ∙ sym (same_moves a.graphs b.graphs (sights a) (sights b) g v) ∙ sym (move_seen a) ∙ ap is_some e)
