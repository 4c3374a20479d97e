-- What has finished stays so: each instance when its graph takes another text, and when moves and hand-outs are made.
use Rattle.std.proofs.Common.{◌≡◌, ◌∙◌, refl, sym, ap, subst, ℕ, suc, List, [], ◌∷◌, Bool, true, false, cond, ◌&&◌, ◌||◌, inl, inr, Option, Some, None, option_map, option_and_then, slice_get, is_some, nat_eq, true≢false, zip}
use Rattle.std.proofs.lemmas.Bool.{and_from, eqb-true, false_from_ne_true}
use Rattle.graph_file.specs.declared.task_specs.TaskSpec.{TaskSpec}
use Rattle.dag_check.specs.Graphs.{Dag}
use Rattle.sched_model.specs.instance_machine.Instances.{InstanceValue, recent, last_of}
use Rattle.sched_model.specs.instance_machine.States.{state_of, state_by, has_retry, is_up_for_retry}
use Rattle.sched_model.specs.instance_machine.declared.tries.Try.{Try}
use Rattle.sched_model.specs.trigger_rules.States.{is_failed, is_finished}
use Rattle.sched_model.specs.trigger_rules.declared.states.State.{State}
use Rattle.sched_model.specs.trigger_rules.declared.states.State.TheVariants as state
use Rattle.sched_model.specs.trigger_rules.declared.verdicts.Verdict.{Verdict}
use Rattle.sched_model.specs.sched_state.Lists.{same, change_from, first_change}
use Rattle.sched_model.specs.sched_state.declared.graphs.LoadedGraph.{LoadedGraph}
use Rattle.sched_model.specs.sched_state.declared.runs.Run.{Run}
use Rattle.sched_model.specs.sched_state.declared.runs.RunPhase.{RunPhase}
use Rattle.sched_model.proofs.sched_state.NameLemmas.{same_is, find_passes}
use Rattle.sched_model.proofs.sched_state.OrderLemmas.{and_left, and_right}
use Rattle.sched_model.specs.Causes.{lost_task}
use Rattle.sched_model.specs.Changes.{new_graph, load_graph, advance}
use Rattle.sched_model.specs.Clearing.{pairs_of}
use Rattle.sched_model.specs.Handout.{Offer, is_ready, is_scheduled, new_try, with_try, in_instance, hand, hand_one, best_offer, serials_left}
use Rattle.sched_model.specs.Lists.{at}
use Rattle.sched_model.specs.NamedRuns.{NamedRun, add_runs}
use Rattle.sched_model.specs.Replacing.{pair_of, kept_as, would_wake, replace_graph}
use Rattle.sched_model.specs.Schedule.{Schedule, dag_among, tasks_of, is_at, is_running, has_runs}
use Rattle.sched_model.specs.Settle.{decide_instance, decide_run, finish_run, start_run, move, move_runs, with_runs, settle, moves_left}
use Rattle.sched_model.specs.Sound.{IsSound, is_sound_graph, is_sound_run, is_sound_in, is_sound_instance, is_empty, is_run, are_new}
use Rattle.sched_laws.specs.Instances.{instance_of, state_of_task, IsStillFinished}
use Rattle.sched_laws.specs.Offered.{IsEligible}
use Rattle.sched_laws.specs.Runs.{named_as}
use Rattle.sched_laws.specs.Tries.{run_at}
use Rattle.sched_laws.proofs.FittedLemmas.{Pair, all_member, find_member, zip_none, zip_passes}
use Rattle.sched_laws.proofs.GoingLemmas.{run_there}
use Rattle.sched_laws.proofs.HandLemmas.{best_eligible, ready_cases}
use Rattle.sched_laws.proofs.InstanceLemmas.{parts_of}
use Rattle.sched_laws.proofs.KeptLemmas.{failed_is, failed_stays, good_stays, set_aside_state}
use Rattle.sched_laws.proofs.ListLemmas.{change_leaves}
use Rattle.sched_laws.proofs.LookLemmas.{get_apart}
use Rattle.sched_laws.proofs.OnwardLemmas.{IsOnward, AllBy, by_further, by_at, by_change, by_turns, by_added}
use Rattle.sched_laws.proofs.RefitLemmas.{instance_stays, other_after}
use Rattle.sched_laws.proofs.ReplaceLemmas.{IsTakenIn}
use Rattle.sched_laws.proofs.RunLemmas.{first_cases, pairs_of_run}
use Rattle.sched_laws.proofs.SettleLemmas.{map_some, when_some}

-- ---- another text
still_finished : (old new : TaskSpec) (i : InstanceValue) → is_finished (state_of old i) ≡ true → IsStillFinished (state_of old i) (Some (state_of new (kept_as old new i)))
still_finished old new i e = elim (would_wake old new i) as (λ b. would_wake old new i ≡ b → IsStillFinished (state_of old i) (Some (state_of new (kept_as old new i)))) [
  | true ↦ λ f. inr (failed_is (state_of old i) (and_left _ _ f), ap (λ (s : State). Some s) (set_aside_state old new i f))
  | false ↦ λ f. elim (is_failed (state_of old i)) as (λ b. is_failed (state_of old i) ≡ b → IsStillFinished (state_of old i) (Some (state_of new (kept_as old new i)))) [
    | true ↦ λ g. inl (ap (λ (s : State). Some s) (failed_stays old new i f g ∙ sym (failed_is (state_of old i) g)))
    | false ↦ λ g. inl (ap (λ (s : State). Some s) (good_stays old new i e g))
  ] refl
] refl

-- an instance in this state
state_there : (a : Schedule) (id : List ℕ) (date : ℕ) (task : List ℕ) (s : State) → state_of_task a id date task ≡ Some s → (e : Pair) × (instance_of a id date task ≡ Some e) × (state_of e.0 e.1 ≡ s)
state_there a id date task s e = map_some (λ (x : Pair). state_of x.0 x.1) (instance_of a id date task) s e

pub replaced_stays : (text : List ℕ) (dag : Dag) (a : Schedule) → IsTakenIn text dag a → (id : List ℕ) (date : ℕ) (task : List ℕ) (s : State) → is_sound_graph a (new_graph text dag) ≡ true → lost_task a dag ≡ None → IsSound a
    → state_of_task a id date task ≡ Some s → is_finished s ≡ true → IsStillFinished s (state_of_task (replace_graph text dag a) id date task)
replaced_stays text dag a taken id date task s new lost sound e over =
    let x = state_there a id date task s e in
    let p = instance_stays text dag a taken id date task x.0 new lost sound x.1 in
    let now : state_of_task (replace_graph text dag a) id date task ≡ Some (state_of p.0 (kept_as x.0.0 p.0 x.0.1)) = ap (option_map (λ (y : Pair). state_of y.0 y.1)) p.1 in
    subst (λ (t : State). IsStillFinished t (state_of_task (replace_graph text dag a) id date task)) x.2
    (subst (IsStillFinished (state_of x.0.0 x.0.1)) (sym now) (still_finished x.0.0 p.0 x.0.1 (ap is_finished x.2 ∙ over)))

-- a graph without runs may have other tasks
pub loaded_instance : (text : List ℕ) (dag : Dag) (a : Schedule) (id : List ℕ) (date : ℕ) (task : List ℕ) → has_runs a dag.spec.dag_id ≡ false → instance_of (load_graph text dag a) id date task ≡ instance_of a id date task
loaded_instance text dag a id date task none =
    elim (run_at id date a.runs) as (λ o. run_at id date a.runs ≡ o
    → option_and_then (λ (r : Run). pair_of task (pairs_of (load_graph text dag a) r)) o ≡ option_and_then (λ (r : Run). pair_of task (pairs_of a r)) o) [
      | None ↦ λ f. refl
      | Some r ↦ λ f.
          let graph : r.graph ≡ id = same_is r.graph id (and_left _ _ (find_passes (is_at id date) a.runs r f)) in
          let apart : same r.graph dag.spec.dag_id ≡ false =
          false_from_ne_true _ (λ is. true≢false (sym (run_there id date a.runs r f) ∙ (ap (has_runs a) (sym graph ∙ same_is r.graph dag.spec.dag_id is) ∙ none))) in
          ap (λ (d : Dag). pair_of task (zip d.tasks r.instances)) (other_after text dag a r.graph apart)
    ] refl

-- ---- moves and hand-outs
-- it has finished, and was decided
abbrev is_over : TaskSpec → InstanceValue → Bool
is_over t i = is_finished (state_of t i) && is_some i.verdict

-- q stands where r stood, and what is over is as it was
record Rests (gs : List LoadedGraph) (r q : Run) : Type 0 where
  named : named_as q ≡ named_as r
  rests : (p : ℕ) (t : TaskSpec) (i : InstanceValue) → slice_get (dag_among gs r.graph).tasks p ≡ Some t → slice_get r.instances p ≡ Some i → is_over t i ≡ true → slice_get q.instances p ≡ Some i

same_tasks : (gs : List LoadedGraph) (r q : Run) → named_as q ≡ named_as r → (dag_among gs q.graph).tasks ≡ (dag_among gs r.graph).tasks
same_tasks gs r q e = ap (λ (n : NamedRun). (dag_among gs n.graph).tasks) e

onward : (gs : List LoadedGraph) → IsOnward (Rests gs)
onward gs = record {
  still = λ r. record { named = refl; rests = λ p t i e f over. f };
  further = λ r q w f g. record {
    named = g.named ∙ f.named;
    rests = λ p t i e h over. g.rests p t i (ap (λ (ts : List TaskSpec). slice_get ts p) (same_tasks gs r q f.named) ∙ e) (f.rests p t i e h over) over;
  };
  named = λ r q f. f.named;
}

-- what is decided is decided no more
decided_rests : (a : Schedule) (r : Run) (k : ℕ) (i : InstanceValue) → is_some i.verdict ≡ true → decide_instance a r k i ≡ None
decided_rests a r k i e = by_verdict i.verdict i.since i.tries e
  where
    by_verdict : (v : Option Verdict) (n : ℕ) (ts : List Try) → is_some v ≡ true → decide_instance a r k (record { verdict = v; since = n; tries = ts }) ≡ None
    by_verdict None n ts f = absurd (true≢false (sym f))
    by_verdict (Some v) n ts f = refl

decide_rests : (a : Schedule) (r q : Run) (b : Bool)
    → (elim b [ true ↦ option_map (λ is. record r { instances = is }) (change_from (decide_instance a r) 0 r.instances) | false ↦ None ]) ≡ Some q → Rests a.graphs r q
decide_rests a r q false e = absurd (let n : ◌≡◌ {A = Option Run} None (Some q) = e in cc)
decide_rests a r q true e =
    let t = map_some (λ is. record r { instances = is }) (change_from (decide_instance a r) 0 r.instances) q e in
    subst (λ (x : Run). Rests a.graphs r x) t.2 (record {
      named = refl;
      rests = λ p u i f g over. leaves t.0 t.1 p u i g over;
    })
  where
    leaves : (is : List InstanceValue) → change_from (decide_instance a r) 0 r.instances ≡ Some is → (p : ℕ) (u : TaskSpec) (i : InstanceValue) → slice_get r.instances p ≡ Some i → is_over u i ≡ true → slice_get is p ≡ Some i
    leaves is f p u i g over = change_leaves (decide_instance a r) 0 r.instances is p i f g (λ k. decided_rests a r k i (and_right (is_finished (state_of u i)) _ over))

phase_rests : (gs : List LoadedGraph) (r q : Run) (ph : RunPhase) → record r { phase = ph } ≡ q → Rests gs r q
phase_rests gs r q ph e = subst (λ (x : Run). Rests gs r x) e (record { named = refl; rests = λ p t i f g over. g })

moved_rests : (a : Schedule) (rs : List Run) → move_runs a ≡ Some rs → AllBy (Rests a.graphs) a.runs rs
moved_rests a rs e = elim (first_cases (first_change (decide_run a) a.runs) (first_change (finish_run a) a.runs) (first_change (start_run a) a.runs) rs e) [
  | inl p ↦ by_change (Rests a.graphs) (onward a.graphs) (λ i r. decide_run a r) (λ i r q f. decide_rests a r q (is_running r.phase) f) 0 a.runs rs p
  | inr q ↦ elim q [
    | inl p ↦ by_change (Rests a.graphs) (onward a.graphs) (λ i r. finish_run a r) (λ i r q f. let t = when_some _ _ q f in phase_rests a.graphs r q _ t.1) 0 a.runs rs p
    | inr p ↦ by_change (Rests a.graphs) (onward a.graphs) (λ i r. start_run a r) (λ i r q f. let t = when_some _ _ q f in phase_rests a.graphs r q _ t.1) 0 a.runs rs p
  ]
]

-- what is handed out has not finished
scheduled_open : (s : State) → is_scheduled s ≡ true → is_finished s ≡ true → ⊥
scheduled_open state.Scheduled e f = true≢false (sym f)
scheduled_open s e f = true≢false (sym e)

retry_open : (s : State) → is_up_for_retry s ≡ true → is_finished s ≡ true → ⊥
retry_open state.UpForRetry e f = true≢false (sym f)
retry_open s e f = true≢false (sym e)

ready_open : (now : ℕ) (t : TaskSpec) (i : InstanceValue) → is_ready now t i ≡ true → is_finished (state_of t i) ≡ true → ⊥
ready_open now t i e f = elim (ready_cases now t i e) [ inl s ↦ scheduled_open (state_of t i) s f | inr s ↦ retry_open (state_of t i) s f ]

one_there : {X : Type 0} (o : Option X) (x y : X) → o ≡ Some x → o ≡ Some y → x ≡ y
one_there {X} o x y e f = let c : ◌≡◌ {A = Option X} (Some x) (Some y) = sym e ∙ f in cc

handed_rests : (a : Schedule) (o : Offer) (v : Try) → IsEligible a o → (r : Run) → slice_get a.runs o.run ≡ Some r → Rests a.graphs r (in_instance (with_try v) o.place r)
handed_rests a o v h r there = record { named = refl; rests = stays }
  where
    stays : (p : ℕ) (t : TaskSpec) (i : InstanceValue) → slice_get (dag_among a.graphs r.graph).tasks p ≡ Some t → slice_get r.instances p ≡ Some i → is_over t i ≡ true → slice_get (at (with_try v) o.place r.instances) p ≡ Some i
    stays p t i e f over = elim (nat_eq p o.place) as (λ b. nat_eq p o.place ≡ b → slice_get (at (with_try v) o.place r.instances) p ≡ Some i) [
      | false ↦ λ g. get_apart (with_try v) o.place p r.instances g ∙ f
      | true ↦ λ g.
          let place : p ≡ o.place = eqb-true p o.place g in
          let run : h.run ≡ r = one_there (slice_get a.runs o.run) h.run r h.run_is there in
          let task : h.task ≡ t = one_there (slice_get (tasks_of a r) p) h.task t
          (ap (slice_get (tasks_of a r)) place ∙ (ap (λ (q : Run). slice_get (tasks_of a q) o.place) (sym run) ∙ h.task_is)) e in
          let instance : h.instance ≡ i = one_there (slice_get r.instances p) h.instance i
          (ap (slice_get r.instances) place ∙ (ap (λ (q : Run). slice_get q.instances o.place) (sym run) ∙ h.instance_is)) f in
          let ready : is_ready a.now t i ≡ true = ap (λ (u : TaskSpec). is_ready a.now u i) (sym task) ∙ (ap (is_ready a.now h.task) (sym instance) ∙ h.ready) in
          absurd (ready_open a.now t i ready (and_left _ _ over))
    ] refl

-- one after another, over the same graphs
abbrev Over : List LoadedGraph → Schedule → Type 0
Over gs a = a.graphs ≡ gs

move_rests : (gs : List LoadedGraph) (a b : Schedule) → Over gs a → move a ≡ Some b → Over gs b × AllBy (Rests gs) a.runs b.runs
move_rests gs a b over e =
    let t = map_some (with_runs a) (move_runs a) b e in
    let all : AllBy (Rests gs) a.runs t.0 = subst (λ (hs : List LoadedGraph). AllBy (Rests hs) a.runs t.0) over (moved_rests a t.0 t.1) in
    (subst (Over gs) t.2 over, subst (λ (c : Schedule). AllBy (Rests gs) a.runs c.runs) t.2 all)

hand_rests : (gs : List LoadedGraph) (a b : Schedule) → Over gs a → hand_one a ≡ Some b → Over gs b × AllBy (Rests gs) a.runs b.runs
hand_rests gs a b over e =
    let t = map_some (hand a) (best_offer a) b e in
    let o : Offer = t.0 in
    let v : Try = new_try a.next o.slots in
    let one = handed_rests a o v (best_eligible a o t.1).0 in
    let all : AllBy (Rests gs) a.runs (hand a o).runs =
    subst (λ (hs : List LoadedGraph). AllBy (Rests hs) a.runs (hand a o).runs) over (by_at (Rests a.graphs) (onward a.graphs) (in_instance (with_try v) o.place) o.run a.runs one) in
    (subst (Over gs) t.2 over, subst (λ (c : Schedule). AllBy (Rests gs) a.runs c.runs) t.2 all)

record Advanced (a b : Schedule) : Type 0 where
  graphs : b.graphs ≡ a.graphs
  runs : AllBy (Rests a.graphs) a.runs b.runs

advanced : (ns : List NamedRun) (a : Schedule) → are_new a ns ≡ true → Advanced a (advance ns a)
advanced ns a e =
    let gs : List LoadedGraph = a.graphs in
    let b : Schedule = add_runs ns a in
    let moved = by_turns (Rests gs) (onward gs) (Over gs) move (move_rests gs) (moves_left b) b refl in
    let handed = by_turns (Rests gs) (onward gs) (Over gs) hand_one (hand_rests gs) (serials_left (settle b)) (settle b) moved.0 in
    record {
      graphs = handed.0;
      runs = by_further (Rests gs) (onward gs) a.runs b.runs (advance ns a).runs (by_added (Rests gs) (onward gs) ns a e)
          (by_further (Rests gs) (onward gs) b.runs (settle b).runs (advance ns a).runs moved.1 handed.1);
    }

-- ---- by the id of a task
pair_rests : (ts : List TaskSpec) (is js : List InstanceValue) (task : List ℕ) (e : Pair) → ((p : ℕ) (t : TaskSpec) (i : InstanceValue) → slice_get ts p ≡ Some t → slice_get is p ≡ Some i → is_over t i ≡ true → slice_get js p ≡ Some i)
    → pair_of task (zip ts is) ≡ Some e → is_over e.0 e.1 ≡ true → pair_of task (zip ts js) ≡ Some e
pair_rests [] is js task e h found over = found
pair_rests (t ∷ ts) [] js task e h found over = absurd (let c : ◌≡◌ {A = Option Pair} None (Some e) = found in cc)
pair_rests (t ∷ ts) (i ∷ is) [] task e h found over = elim (same t.task_id task) as (λ b. cond b (Some (t, i)) (pair_of task (zip ts is)) ≡ Some e → ◌≡◌ {A = Option Pair} None (Some e)) [
  | true ↦ λ f.
      let c : ◌≡◌ {A = Option Pair} (Some (t, i)) (Some e) = f in
      let is_e : (t, i) ≡ e = cc in
      let d : ◌≡◌ {A = Option InstanceValue} None (Some i) = h 0 t i refl refl (ap (λ (x : Pair). is_over x.0 x.1) is_e ∙ over) in absurd (cc)
  | false ↦ λ f. sym (ap (pair_of task) (zip_none ts)) ∙ pair_rests ts is [] task e (λ p u k a b o. h (suc p) u k a b o) f over
] found
pair_rests (t ∷ ts) (i ∷ is) (j ∷ js) task e h found over = elim (same t.task_id task) as (λ b. cond b (Some (t, i)) (pair_of task (zip ts is)) ≡ Some e → cond b (Some (t, j)) (pair_of task (zip ts js)) ≡ Some e) [
  | true ↦ λ f.
      let c : ◌≡◌ {A = Option Pair} (Some (t, i)) (Some e) = f in
      let is_e : (t, i) ≡ e = cc in
      let d : ◌≡◌ {A = Option InstanceValue} (Some j) (Some i) = h 0 t i refl refl (ap (λ (x : Pair). is_over x.0 x.1) is_e ∙ over) in
      let is_i : j ≡ i = cc in
      ap (λ (k : InstanceValue). let o : Option Pair = Some (t, k) in o) is_i ∙ f
  | false ↦ λ f. pair_rests ts is js task e (λ p u k a b o. h (suc p) u k a b o) f over
] found

found_rests : (a b : Schedule) → Advanced a b → (id : List ℕ) (date : ℕ) (task : List ℕ) (e : Pair) → instance_of a id date task ≡ Some e → is_over e.0 e.1 ≡ true → instance_of b id date task ≡ Some e
found_rests a b h id date task e found over = elim (run_at id date a.runs) as (λ o. run_at id date a.runs ≡ o → option_and_then (λ (r : Run). pair_of task (pairs_of a r)) o ≡ Some e → instance_of b id date task ≡ Some e) [
  | None ↦ λ f g. absurd (let c : ◌≡◌ {A = Option Pair} None (Some e) = g in cc)
  | Some r ↦ λ f g.
      let q = h.runs id date r f in
      let kept = q.2 in
      let tasks : tasks_of b q.0 ≡ tasks_of a r = ap (λ (gs : List LoadedGraph). (dag_among gs q.0.graph).tasks) h.graphs ∙ same_tasks a.graphs r q.0 kept.named in
      ap (option_and_then (λ (w : Run). pair_of task (pairs_of b w))) q.1
      ∙ (ap (λ (ts : List TaskSpec). pair_of task (zip ts q.0.instances)) tasks ∙ pair_rests (tasks_of a r) r.instances q.0.instances task e kept.rests g over)
] refl found

-- ---- of a sound schedule
instance_sound : (a : Schedule) (id : List ℕ) (date : ℕ) (task : List ℕ) (e : Pair) → IsSound a → instance_of a id date task ≡ Some e → is_sound_instance e.0 e.1 ≡ true
instance_sound a id date task e s found = elim (run_at id date a.runs) as (λ o. run_at id date a.runs ≡ o → option_and_then (λ (r : Run). pair_of task (pairs_of a r)) o ≡ Some e → is_sound_instance e.0 e.1 ≡ true) [
  | None ↦ λ f g. absurd (let c : ◌≡◌ {A = Option Pair} None (Some e) = g in cc)
  | Some r ↦ λ f g.
      let sound : is_sound_run a.graphs r ≡ true = all_member (is_sound_run a.graphs) a.runs r s.runs (find_member (is_at id date) a.runs r f) in
      let pairs = zip_passes (is_sound_in r.phase) (tasks_of a r) r.instances (pairs_of_run a.graphs r sound) in
      and_left _ _ (all_member (λ (y : Pair). is_sound_in r.phase y.0 y.1) (pairs_of a r) e pairs (find_member (λ (y : Pair). same y.0.task_id task) (pairs_of a r) e g))
] refl found

-- what has finished was decided
was_decided : (v : Option Verdict) (b : Bool) (ts : List Try) → (is_empty ts || is_run v) ≡ true → is_finished (state_by v b (last_of ts)) ≡ true → is_some v ≡ true
was_decided (Some v) b ts e f = refl
was_decided None b [] e f = absurd (true≢false (sym f))
was_decided None b (t ∷ ts) e f = absurd (true≢false (sym e))

sound_over : (t : TaskSpec) (i : InstanceValue) → is_sound_instance t i ≡ true → is_finished (state_of t i) ≡ true → is_over t i ≡ true
sound_over t i e f = let p = parts_of t i e in and_from _ _ f (was_decided i.verdict (has_retry t i) (recent i) p.let_run f)

pub advance_leaves : (ns : List NamedRun) (a : Schedule) (id : List ℕ) (date : ℕ) (task : List ℕ) (e : Pair) → are_new a ns ≡ true → IsSound a → instance_of a id date task ≡ Some e → is_finished (state_of e.0 e.1) ≡ true
    → instance_of (advance ns a) id date task ≡ Some e
advance_leaves ns a id date task e new s found over =
    found_rests a (advance ns a) (advanced ns a new) id date task e found (sound_over e.0 e.1 (instance_sound a id date task e s found) over)

-- so it is with states
advance_keeps : (ns : List NamedRun) (a : Schedule) (id : List ℕ) (date : ℕ) (task : List ℕ) (s : State) → are_new a ns ≡ true → IsSound a → state_of_task a id date task ≡ Some s → is_finished s ≡ true
    → state_of_task (advance ns a) id date task ≡ Some s
advance_keeps ns a id date task s new sound e over =
    let x = state_there a id date task s e in
    ap (option_map (λ (y : Pair). state_of y.0 y.1)) (advance_leaves ns a id date task x.0 new sound x.1 (ap is_finished x.2 ∙ over)) ∙ ap (λ (t : State). Some t) x.2

pub advance_still : (ns : List NamedRun) (a : Schedule) (id : List ℕ) (date : ℕ) (task : List ℕ) (s : State) → are_new a ns ≡ true → IsSound a → is_finished s ≡ true → IsStillFinished s (state_of_task a id date task)
    → IsStillFinished s (state_of_task (advance ns a) id date task)
advance_still ns a id date task s new sound over h = elim h [
  | inl e ↦ inl (advance_keeps ns a id date task s new sound e over)
  | inr f ↦ inr (f.0, advance_keeps ns a id date task state.UpstreamFailed new sound f.1 refl)
]
