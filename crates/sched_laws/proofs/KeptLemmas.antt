-- What another text makes of one instance: it keeps its tries, what has finished stays finished, and what is sound stays so.
use Rattle.std.proofs.Common.{◌≡◌, refl, sym, ap, ◌∙◌, ℕ, zero, suc, ◌+◌, ◌-◌, ◌<◌, ◌≤◌, List, [], ◌∷◌, ◌++◌, Bool, true, false, cond, not, ◌&&◌, ◌||◌, length, take, drop, max, Option, Some, None, arith, true≢false, leb-true, leb-false, nat_le}
use Rattle.std.specs.List.{list_all}
use Rattle.std.proofs.lemmas.Bool.{and_from, or_right}
use Rattle.std.proofs.lemmas.List.{length-drop, drop-drop}
use Rattle.std.proofs.Common.{take-add}
use Rattle.std.proofs.Math.Nat.{max-eq_left, max-eq_right}
use Rattle.std.proofs.Math.Seq.{drop-length, drop-nil}
use Rattle.graph_file.specs.declared.task_specs.TaskSpec.{TaskSpec}
use Rattle.sched_model.specs.trigger_rules.States.{is_failed, is_finished}
use Rattle.sched_model.specs.trigger_rules.declared.states.State.{State}
use Rattle.sched_model.specs.trigger_rules.declared.states.State.TheVariants as state
use Rattle.sched_model.specs.trigger_rules.declared.verdicts.Verdict.{Verdict}
use Rattle.sched_model.specs.trigger_rules.declared.verdicts.Verdict.TheVariants as verdict
use Rattle.sched_model.specs.instance_machine.Instances.{InstanceValue, recent, last_of, new_instance}
use Rattle.sched_model.specs.instance_machine.States.{state_of, state_by, state_of_end, ended_as, has_retry, is_up_for_retry}
use Rattle.sched_model.specs.instance_machine.declared.tries.Try.{Try}
use Rattle.sched_model.specs.instance_machine.declared.tries.End.{End}
use Rattle.sched_model.specs.instance_machine.declared.tries.Outcome.{Outcome}
use Rattle.sched_model.specs.instance_machine.declared.tries.Outcome.TheVariants as outcome
use Rattle.sched_model.specs.sched_state.declared.runs.RunPhase.{RunPhase}
use Rattle.sched_model.specs.sched_state.declared.runs.RunPhase.TheVariants as phase
use Rattle.sched_model.proofs.sched_state.OrderLemmas.{and_left, and_right}
use Rattle.sched_model.specs.Lists.{but_last}
use Rattle.sched_model.specs.Replacing.{bounded_to, set_aside, would_wake, kept_as, newcomer}
use Rattle.sched_model.specs.Schedule.{is_ended}
use Rattle.sched_model.specs.Sound.{is_sound_try, is_sound_instance, is_sound_in, has_end, has_failed, is_run, is_empty, earlier}
use Rattle.sched_laws.proofs.ListLemmas.{all_impl, all_join, last_more}
use Rattle.sched_laws.proofs.InstanceLemmas.{parts_of, of_parts, failed_end, finished_ended, over_sound}
use Rattle.sched_laws.proofs.RunLemmas.{goes_on}
use Rattle.sched_laws.proofs.SoundLemmas.{or_under}

-- ---- tries
pub kept_tries : (old new : TaskSpec) (i : InstanceValue) → (kept_as old new i).tries ≡ i.tries
kept_tries old new i = chosen (would_wake old new i)
  where
    chosen : (b : Bool) → (cond b (set_aside i) (bounded_to new.retries i)).tries ≡ i.tries
    chosen true = refl
    chosen false = refl

pub newcomer_tries : (ph : RunPhase) → (newcomer ph).tries ≡ []
newcomer_tries ph = refl

-- what is dropped before the last element leaves it
last_dropped : {X : Type 0} (n : ℕ) (xs : List X) → n < length xs → last_of (drop n xs) ≡ last_of xs
last_dropped zero xs l = refl
last_dropped (suc n) [] l = absurd (omega arith)
last_dropped (suc n) (x ∷ []) l = absurd (omega arith)
last_dropped (suc n) (x ∷ y ∷ ys) l = last_dropped n (y ∷ ys) (omega arith) ∙ sym (last_more x y ys)

-- so another number of retries leaves the last try
bounded_last : (retries : ℕ) (i : InstanceValue) → last_of (recent (bounded_to retries i)) ≡ last_of (recent i)
bounded_last retries i = elim (nat_le (length i.tries - (1 + retries)) i.since) as (λ b. nat_le (length i.tries - (1 + retries)) i.since ≡ b → last_of (recent (bounded_to retries i)) ≡ last_of (recent i)) [
  | true ↦ λ e. ap (λ n. last_of (drop n i.tries)) (max-eq_left (leb-true (length i.tries - (1 + retries)) i.since e))
  | false ↦ λ e.
      let more : i.since < length i.tries - (1 + retries) = leb-false (length i.tries - (1 + retries)) i.since e in
      let most : max i.since (length i.tries - (1 + retries)) ≡ length i.tries - (1 + retries) = max-eq_right (omega arith) in
      ap (λ n. last_of (drop n i.tries)) most ∙ (last_dropped (length i.tries - (1 + retries)) i.tries (omega arith) ∙ sym (last_dropped i.since i.tries (omega arith)))
] refl

-- ---- states
outcome_steady : (b c : Bool) (o : Outcome) → is_failed (ended_as b o) ≡ false → is_up_for_retry (ended_as b o) ≡ false → ended_as c o ≡ ended_as b o
outcome_steady b c outcome.Success e f = refl
outcome_steady b c outcome.Skipped e f = refl
outcome_steady true c outcome.Failed e f = absurd (true≢false f)
outcome_steady false c outcome.Failed e f = absurd (true≢false e)
outcome_steady true c outcome.Lost e f = absurd (true≢false f)
outcome_steady false c outcome.Lost e f = absurd (true≢false e)

end_steady : (b c : Bool) (s : Option ℕ) (o : Option End) → is_failed (state_of_end b s o) ≡ false → is_up_for_retry (state_of_end b s o) ≡ false → state_of_end c s o ≡ state_of_end b s o
end_steady b c s None e f = refl
end_steady b c s (Some x) e f = outcome_steady b c x.outcome e f

-- whether there is a further try changes only what failed
steady : (v : Option Verdict) (b c : Bool) (o : Option Try) → is_failed (state_by v b o) ≡ false → is_up_for_retry (state_by v b o) ≡ false → state_by v c o ≡ state_by v b o
steady v b c None e f = refl
steady v b c (Some t) e f = end_steady b c t.started t.ended e f

finished_rests : (s : State) → is_finished s ≡ true → is_up_for_retry s ≡ false
finished_rests state.UpForRetry e = absurd (true≢false (sym e))
finished_rests s e = refl

pub failed_is : (s : State) → is_failed s ≡ true → s ≡ state.Failed
failed_is state.Failed e = refl
failed_is s e = absurd (true≢false (sym e))

aside_state : (t : TaskSpec) (i : InstanceValue) → state_of t (set_aside i) ≡ state.UpstreamFailed
aside_state t i = ap (λ (ts : List Try). state_by (Some verdict.UpstreamFailed) (nat_le (length ts) t.retries) (last_of ts)) (drop-length i.tries)

-- by whether it would be tried again
pub set_aside_state : (old new : TaskSpec) (i : InstanceValue) → would_wake old new i ≡ true → state_of new (kept_as old new i) ≡ state.UpstreamFailed
set_aside_state old new i e = ap (λ b. state_of new (cond b (set_aside i) (bounded_to new.retries i))) e ∙ aside_state new i

bounded_state : (old new : TaskSpec) (i : InstanceValue) → would_wake old new i ≡ false → state_of new (kept_as old new i) ≡ state_of new (bounded_to new.retries i)
bounded_state old new i e = ap (λ b. state_of new (cond b (set_aside i) (bounded_to new.retries i))) e

-- neither failed nor up for retry
state_stays : (old new : TaskSpec) (i : InstanceValue) → is_failed (state_of old i) ≡ false → is_up_for_retry (state_of old i) ≡ false → state_of new (kept_as old new i) ≡ state_of old i
state_stays old new i e f =
    bounded_state old new i (ap (λ b. b && not (is_failed (state_of new (bounded_to new.retries i)))) e)
    ∙ (ap (state_by i.verdict (has_retry new (bounded_to new.retries i))) (bounded_last new.retries i)
    ∙ steady i.verdict (has_retry old i) (has_retry new (bounded_to new.retries i)) (last_of (recent i)) e f)

pub good_stays : (old new : TaskSpec) (i : InstanceValue) → is_finished (state_of old i) ≡ true → is_failed (state_of old i) ≡ false → state_of new (kept_as old new i) ≡ state_of old i
good_stays old new i e f = state_stays old new i f (finished_rests (state_of old i) e)

pub queued_stays : (old new : TaskSpec) (i : InstanceValue) → state_of old i ≡ state.Queued → state_of new (kept_as old new i) ≡ state.Queued
queued_stays old new i e = state_stays old new i (ap is_failed e) (ap is_up_for_retry e) ∙ e

pub running_stays : (old new : TaskSpec) (i : InstanceValue) → state_of old i ≡ state.Running → state_of new (kept_as old new i) ≡ state.Running
running_stays old new i e = state_stays old new i (ap is_failed e) (ap is_up_for_retry e) ∙ e

still_failed : (b : Bool) → not b ≡ false → b ≡ true
still_failed true e = refl
still_failed false e = absurd (true≢false e)

pub failed_stays : (old new : TaskSpec) (i : InstanceValue) → would_wake old new i ≡ false → is_failed (state_of old i) ≡ true → state_of new (kept_as old new i) ≡ state.Failed
failed_stays old new i e f =
    let again : Bool = is_failed (state_of new (bounded_to new.retries i)) in
    bounded_state old new i e ∙ failed_is (state_of new (bounded_to new.retries i)) (still_failed again (ap (λ b. b && not again) (sym f) ∙ e))

pub finished_stays : (old new : TaskSpec) (i : InstanceValue) → is_finished (state_of old i) ≡ true → is_finished (state_of new (kept_as old new i)) ≡ true
finished_stays old new i e = elim (would_wake old new i) as (λ b. would_wake old new i ≡ b → is_finished (state_of new (kept_as old new i)) ≡ true) [
  | true ↦ λ f. ap is_finished (set_aside_state old new i f)
  | false ↦ λ f. elim (is_failed (state_of old i)) as (λ b. is_failed (state_of old i) ≡ b → is_finished (state_of new (kept_as old new i)) ≡ true) [
    | true ↦ λ g. ap is_finished (failed_stays old new i f g)
    | false ↦ λ g. ap is_finished (good_stays old new i e g) ∙ e
  ] refl
] refl

-- ---- soundness
-- where all but the last element pass, those before a place pass, and so do all but the last from there on
all_taken : {X : Type 0} (p : X → Bool) (d : ℕ) (xs : List X) → d ≤ length xs - 1 → list_all p (but_last xs) ≡ true → list_all p (take d xs) ≡ true
all_taken p zero xs l e = refl
all_taken p (suc d) [] l e = refl
all_taken p (suc d) (x ∷ []) l e = absurd (omega arith)
all_taken p (suc d) (x ∷ y ∷ ys) l e = and_from _ _ (and_left _ _ e) (all_taken p d (y ∷ ys) (omega arith) (and_right (p x) _ e))

all_dropped : {X : Type 0} (p : X → Bool) (d : ℕ) (xs : List X) → list_all p (but_last xs) ≡ true → list_all p (but_last (drop d xs)) ≡ true
all_dropped p zero xs e = e
all_dropped p (suc d) [] e = refl
all_dropped p (suc d) (x ∷ []) e = ap (λ zs. list_all p (but_last zs)) (drop-nil d)
all_dropped p (suc d) (x ∷ y ∷ ys) e = all_dropped p d (y ∷ ys) (and_right (p x) _ e)

still_let : {X : Type 0} (d : ℕ) (xs : List X) (b : Bool) → (is_empty xs || b) ≡ true → (is_empty (drop d xs) || b) ≡ true
still_let d [] b e = ap (λ zs. is_empty zs || b) (drop-nil d)
still_let d (x ∷ xs) b e = or_right _ _ e

bounded_sound : (old new : TaskSpec) (i : InstanceValue) → is_sound_instance old i ≡ true → list_all (is_sound_try new.pool_slots) i.tries ≡ true → is_sound_instance new (bounded_to new.retries i) ≡ true
bounded_sound old new i e sound = by_bound (max i.since (length i.tries - (1 + new.retries))) (omega arith) (omega arith)
  where
    by_bound : (n : ℕ) → i.since ≤ n → n ≡ max i.since (length i.tries - (1 + new.retries)) → is_sound_instance new (record i { since = n }) ≡ true
    by_bound n above is =
        let p = parts_of old i e in
        let d : ℕ = n - i.since in
        let within : i.since ≤ length i.tries = p.within in
        let long : length (recent i) ≡ length i.tries - i.since = length-drop i.since i.tries in
        let short : length (drop n i.tries) ≡ length i.tries - n = length-drop n i.tries in
        let from : n ≡ i.since + d = omega arith in
        let rest : drop n i.tries ≡ drop d (recent i) = ap (λ k. drop k i.tries) from ∙ sym (drop-drop d i.since i.tries) in
        let front : take n i.tries ≡ earlier i ++ take d (recent i) = ap (λ k. take k i.tries) from ∙ take-add i.since d i.tries in
        let ends : list_all has_end (but_last (recent i)) ≡ true = all_impl has_failed has_end failed_end (but_last (recent i)) p.failed in
        of_parts new (record i { since = n }) (record {
          decided = p.decided;
          within = omega arith;
          tries = sound;
          over = ap (list_all has_end) front ∙ all_join has_end (earlier i) (take d (recent i)) p.over (all_taken has_end d (recent i) (omega arith) ends);
          let_run = ap (λ (ts : List Try). is_empty ts || is_run i.verdict) rest ∙ still_let d (recent i) (is_run i.verdict) p.let_run;
          few = omega arith;
          failed = ap (λ (ts : List Try). list_all has_failed (but_last ts)) rest ∙ all_dropped has_failed d (recent i) p.failed;
        })

-- what failed has no try without an end
aside_sound : (old new : TaskSpec) (i : InstanceValue) → is_failed (state_of old i) ≡ true → is_sound_instance old i ≡ true → list_all (is_sound_try new.pool_slots) i.tries ≡ true → is_sound_instance new (set_aside i) ≡ true
aside_sound old new i failed e sound =
    over_sound new (Some verdict.UpstreamFailed) i.tries refl sound (finished_ended old i e (ap is_finished (failed_is (state_of old i) failed)))

kept_sound : (old new : TaskSpec) (i : InstanceValue) → is_sound_instance old i ≡ true → list_all (is_sound_try new.pool_slots) i.tries ≡ true → is_sound_instance new (kept_as old new i) ≡ true
kept_sound old new i e sound = elim (would_wake old new i) as (λ b. would_wake old new i ≡ b → is_sound_instance new (cond b (set_aside i) (bounded_to new.retries i)) ≡ true) [
  | true ↦ λ f. aside_sound old new i (and_left _ _ f) e sound
  | false ↦ λ f. bounded_sound old new i e sound
] refl

-- a task that takes the slots of its tries
pub kept_sound_in : (ph : RunPhase) (old new : TaskSpec) (i : InstanceValue) → is_sound_in ph old i ≡ true → list_all (is_sound_try new.pool_slots) i.tries ≡ true → is_sound_in ph new (kept_as old new i) ≡ true
kept_sound_in ph old new i e sound =
    and_from _ _ (kept_sound old new i (and_left _ _ e) sound)
    (or_under (not (is_ended ph)) (is_finished (state_of old i)) (is_finished (state_of new (kept_as old new i))) (finished_stays old new i) (and_right (is_sound_instance old i) _ e))

-- what a verdict has ended, without a try
decided_sound : (ph : RunPhase) (t : TaskSpec) (v : Verdict) → is_sound_instance t (record new_instance { verdict = Some v }) ≡ true → is_finished (state_of t (record new_instance { verdict = Some v })) ≡ true
    → is_sound_in ph t (record new_instance { verdict = Some v }) ≡ true
decided_sound ph t v sound ended = and_from _ _ sound (or_right (not (is_ended ph)) _ ended)

pub newcomer_sound : (ph : RunPhase) (t : TaskSpec) → is_sound_in ph t (newcomer ph) ≡ true
newcomer_sound phase.Queued t = goes_on phase.Queued t new_instance refl (over_sound t None [] refl refl refl)
newcomer_sound phase.Running t = goes_on phase.Running t new_instance refl (over_sound t None [] refl refl refl)
newcomer_sound phase.Success t = decided_sound phase.Success t verdict.Skip (over_sound t (Some verdict.Skip) [] refl refl refl) refl
newcomer_sound phase.Failed t = decided_sound phase.Failed t verdict.UpstreamFailed (over_sound t (Some verdict.UpstreamFailed) [] refl refl refl) refl

-- ---- the same task
no_both : (b : Bool) → (b && not b) ≡ false
no_both true = refl
no_both false = refl

pub kept_itself : (t : TaskSpec) (i : InstanceValue) → is_sound_instance t i ≡ true → kept_as t t i ≡ i
kept_itself t i e =
    let p = parts_of t i e in
    let few : length (recent i) ≤ 1 + t.retries = p.few in
    let long : length (recent i) ≡ length i.tries - i.since = length-drop i.since i.tries in
    let least : max i.since (length i.tries - (1 + t.retries)) ≡ i.since = max-eq_left (omega arith) in
    let stays : bounded_to t.retries i ≡ i = ap (λ (n : ℕ). let j : InstanceValue = record i { since = n } in j) least in
    let sleeps : would_wake t t i ≡ false = ap (λ (j : InstanceValue). is_failed (state_of t i) && not (is_failed (state_of t j))) stays ∙ no_both (is_failed (state_of t i)) in
    ap (λ b. cond b (set_aside i) (bounded_to t.retries i)) sleeps ∙ stays
