-- Settling ends, and a move made first changes nothing.
use Rattle.std.proofs.Common.{◌≡◌, refl, sym, subst, ◌∙◌, ℕ, zero, suc, ◌+◌, ◌<◌, ◌≤◌, List, [], ◌∷◌, Bool, true, false, cond, Option, Some, None, option_map, option_and_then, sum_by, slice_get, arith, true≢false}
use Rattle.sched_model.specs.trigger_rules.declared.verdicts.Verdict.{Verdict}
use Rattle.sched_model.specs.sched_state.declared.runs.RunPhase.{RunPhase}
use Rattle.sched_model.specs.sched_state.declared.runs.RunPhase.TheVariants as phase
use Rattle.graph_file.specs.Lists.{when, first_some}
use Rattle.sched_model.specs.sched_state.Lists.{change_from, first_change, repeat}
use Rattle.sched_model.specs.instance_machine.Instances.{InstanceValue}
use Rattle.sched_model.specs.Schedule.{Schedule, tasks_of, is_running, is_queued}
use Rattle.sched_model.specs.sched_state.declared.runs.Run.{Run}
use Rattle.sched_model.specs.instance_machine.declared.tries.Try.{Try}
use Rattle.sched_model.specs.Settle.{decide_task, decide_instance, decide_run, finish_run, start_run, move_runs, move, settle, Settles, still, moved, moves_left, moves_left_of, decisions_left, has_bad_leaf, moves_left_in}
use Rattle.sched_model.proofs.sched_state.RepeatLemmas.{Falls, repeat_done, repeat_ends, repeat_enough, repeat_more, repeat_turn, change_falls}
use Rattle.sched_model.proofs.sched_state.OrderLemmas.{and_left}

pub map_some : {A B : Type 0} (f : A → B) (o : Option A) (y : B) → option_map f o ≡ Some y → (x : A) × (o ≡ Some x) × (f x ≡ y)
map_some f None y e = cc
map_some f (Some x) y e = (x, refl, cc)

pub and_then_some : {A B : Type 0} (f : A → Option B) (o : Option A) (y : B) → option_and_then f o ≡ Some y → (x : A) × (o ≡ Some x) × (f x ≡ Some y)
and_then_some f None y e = cc
and_then_some f (Some x) y e = (x, refl, e)

-- an instance with these parts
abbrev made_of : Option Verdict → ℕ → List Try → InstanceValue
made_of v s ts = record { verdict = v; since = s; tries = ts }

decided : (a : Schedule) (r : Run) (p : ℕ) (v : Option Verdict) (s : ℕ) (ts : List Try) (j : InstanceValue)
    → decide_instance a r p (made_of v s ts) ≡ Some j → decisions_left j < decisions_left (made_of v s ts)
decided a r p (Some v) s ts j e = absurd (let n : ◌≡◌ {A = Option InstanceValue} None (Some j) = e in cc)
decided a r p None s ts j e =
    let t = and_then_some (decide_task a r p (made_of None s ts)) (slice_get (tasks_of a r) p) j e in
    let u = map_some (λ w. made_of (Some w) s ts) _ j t.2 in
    subst (λ (k : InstanceValue). decisions_left k < 1) u.2 (omega arith)

pub decide_instance_falls : (a : Schedule) (r : Run) (p : ℕ) (i j : InstanceValue) → decide_instance a r p i ≡ Some j → decisions_left j < decisions_left i
decide_instance_falls a r p i j e = decided a r p i.verdict i.since i.tries j e

in_phase : Run → RunPhase → Run
in_phase r ph = record r { phase = ph }

with_instances : Run → List InstanceValue → Run
with_instances r is = record r { instances = is }

decided_run : (a : Schedule) (r q : Run) (ph : RunPhase) → decide_run a (in_phase r ph) ≡ Some q → moves_left_of q < moves_left_of (in_phase r ph)
unfolding in_phase with_instances
decided_run a r q phase.Running e =
    let t = map_some (with_instances (in_phase r phase.Running)) (change_from (decide_instance a (in_phase r phase.Running)) 0 r.instances) q e in
    let h : sum_by decisions_left t.0 < sum_by decisions_left r.instances = change_falls decisions_left (decide_instance a (in_phase r phase.Running)) (decide_instance_falls a (in_phase r phase.Running)) 0 r.instances t.0 t.1 in
    subst (λ (k : Run). moves_left_of k < 1 + sum_by decisions_left r.instances) t.2 (omega arith)
decided_run a r q phase.Queued e = absurd (let n : ◌≡◌ {A = Option Run} None (Some q) = e in cc)
decided_run a r q phase.Success e = absurd (let n : ◌≡◌ {A = Option Run} None (Some q) = e in cc)
decided_run a r q phase.Failed e = absurd (let n : ◌≡◌ {A = Option Run} None (Some q) = e in cc)

pub decide_run_falls : (a : Schedule) (r q : Run) → decide_run a r ≡ Some q → moves_left_of q < moves_left_of r
unfolding in_phase
decide_run_falls a r q e = decided_run a r q r.phase e

pub when_some : {A : Type 0} (b : Bool) (x y : A) → when b x ≡ Some y → (b ≡ true) × (x ≡ y)
when_some true x y e = (refl, cc)
when_some {A} false x y e = absurd (let n : ◌≡◌ {A = Option A} None (Some y) = e in cc)

running_work : (ph : RunPhase) → is_running ph ≡ true → moves_left_in ph ≡ 1
running_work phase.Running e = refl
running_work phase.Queued e = absurd (true≢false (sym e))
running_work phase.Success e = absurd (true≢false (sym e))
running_work phase.Failed e = absurd (true≢false (sym e))

queued_work : (ph : RunPhase) → is_queued ph ≡ true → moves_left_in ph ≡ 2
queued_work phase.Queued e = refl
queued_work phase.Running e = absurd (true≢false (sym e))
queued_work phase.Success e = absurd (true≢false (sym e))
queued_work phase.Failed e = absurd (true≢false (sym e))

-- one of the two ends
ended_work : (b : Bool) → moves_left_in (cond b phase.Failed phase.Success) ≡ 0
ended_work true = refl
ended_work false = refl

pub finish_run_falls : (a : Schedule) (r q : Run) → finish_run a r ≡ Some q → moves_left_of q < moves_left_of r
finish_run_falls a r q e =
    let t = when_some _ _ q e in
    let w : moves_left_in r.phase ≡ 1 = running_work r.phase (and_left _ _ t.0) in
    let z : moves_left_in (cond (has_bad_leaf a r) phase.Failed phase.Success) ≡ 0 = ended_work (has_bad_leaf a r) in
    subst (λ (k : Run). moves_left_of k < moves_left_of r) t.1 (omega arith)

pub start_run_falls : (a : Schedule) (r q : Run) → start_run a r ≡ Some q → moves_left_of q < moves_left_of r
start_run_falls a r q e =
    let t = when_some _ _ q e in
    let w : moves_left_in r.phase ≡ 2 = queued_work r.phase (and_left _ _ t.0) in
    subst (λ (k : Run). moves_left_of k < moves_left_of r) t.1 (omega arith)

runs_fall : (a : Schedule) (rs : List Run) → move_runs a ≡ Some rs → sum_by moves_left_of rs < sum_by moves_left_of a.runs
runs_fall a rs e =
    elim (first_change (decide_run a) a.runs) as (λ o. first_change (decide_run a) a.runs ≡ o → first_some (o ∷ first_change (finish_run a) a.runs ∷ first_change (start_run a) a.runs ∷ []) ≡ Some rs → sum_by moves_left_of rs < sum_by moves_left_of a.runs) [
      | Some xs ↦ λ p q. let r : rs ≡ xs = cc in rw r (change_falls moves_left_of (λ i x. decide_run a x) (λ i. decide_run_falls a) 0 a.runs xs p)
      | None ↦ λ p. elim (first_change (finish_run a) a.runs) as (λ o. first_change (finish_run a) a.runs ≡ o → first_some (o ∷ first_change (start_run a) a.runs ∷ []) ≡ Some rs → sum_by moves_left_of rs < sum_by moves_left_of a.runs) [
        | Some xs ↦ λ s q. let r : rs ≡ xs = cc in rw r (change_falls moves_left_of (λ i x. finish_run a x) (λ i. finish_run_falls a) 0 a.runs xs s)
        | None ↦ λ s. elim (first_change (start_run a) a.runs) as (λ o. first_change (start_run a) a.runs ≡ o → first_some (o ∷ []) ≡ Some rs → sum_by moves_left_of rs < sum_by moves_left_of a.runs) [
          | Some xs ↦ λ u q. let r : rs ≡ xs = cc in rw r (change_falls moves_left_of (λ i x. start_run a x) (λ i. start_run_falls a) 0 a.runs xs u)
          | None ↦ λ u q. absurd (let n : ◌≡◌ {A = Option (List Run)} None (Some rs) = q in cc)
        ] refl
      ] refl
    ] refl e

pub move_falls : Falls moves_left move
move_falls a b e =
    let t = map_some (λ rs. record a { runs = rs }) (move_runs a) b e in
    subst (λ (k : Schedule). moves_left k < moves_left a) t.2 (runs_fall a t.0 t.1)

pub settle_ends : (a : Schedule) → move (settle a) ≡ None
settle_ends a = repeat_ends moves_left move move_falls (moves_left a) a (omega arith)

pub settle_still : (a : Schedule) → move a ≡ None → settle a ≡ a
settle_still a e = repeat_done (moves_left a) move a e

pub settle_moved : (a b : Schedule) → move a ≡ Some b → settle a ≡ settle b
settle_moved a b e = repeat_turn moves_left move move_falls a b e

pub settle_enough : (a : Schedule) (n : ℕ) → moves_left a ≤ n → repeat n move a ≡ settle a
settle_enough a n h = repeat_enough moves_left move move_falls n (moves_left a) a h (omega arith)

-- what is reached by first moves and is still is what settling gives
pub settle_unique : (a b : Schedule) → Settles a b → settle a ≡ b
settle_unique a b (still e) = settle_still a e
settle_unique a b (moved {b = m} e s) = settle_moved a m e ∙ settle_unique m b s

reached_in : (n : ℕ) (a : Schedule) → moves_left a ≤ n → Settles a (repeat n move a)
reached_in zero a h =
    elim (move a) as (λ o. move a ≡ o → Settles a (repeat zero move a)) [
      | None ↦ λ e. still e
      | Some b ↦ λ e. absurd (let f : moves_left b < moves_left a = move_falls a b e in omega arith)
    ] refl
reached_in (suc n) a h =
    elim (move a) as (λ o. move a ≡ o → Settles a (repeat (suc n) move a)) [
      | None ↦ λ e. subst (Settles a) (sym (repeat_done (suc n) move a e)) (still e)
      | Some b ↦ λ e. let f : moves_left b < moves_left a = move_falls a b e in
          subst (Settles a) (sym (repeat_more n move a b e)) (moved e (reached_in n b (omega arith)))
    ] refl

pub settle_reached : (a : Schedule) → Settles a (settle a)
settle_reached a = reached_in (moves_left a) a (omega arith)
