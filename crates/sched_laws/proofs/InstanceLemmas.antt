-- A sound instance stays so: when it is decided, handed out, reported of, lost or set.
use Rattle.std.proofs.Common.{◌≡◌, refl, sym, ap, subst, ◌∙◌, ℕ, ◌+◌, ◌≤◌, List, [], ◌∷◌, ◌++◌, Bool, true, false, cond, not, ◌||◌, inl, inr, map, length, drop, Option, Some, None, arith, true≢false, leb-true, is_some, nat_le}
use Rattle.std.specs.List.{list_all}
use Rattle.std.proofs.lemmas.Bool.{le-leb, eq-eqb, and_from, or_left, or_right}
use Rattle.std.proofs.lemmas.List.{length-append, length-map, take-append-drop, take-append-le, drop-append-le, take-map, drop-map}
use Rattle.std.proofs.Math.Seq.{take-length, drop-length}
use Rattle.graph_file.specs.declared.task_specs.TaskSpec.{TaskSpec}
use Rattle.sched_model.specs.trigger_rules.States.{is_finished}
use Rattle.sched_model.specs.trigger_rules.declared.states.State.TheVariants as state
use Rattle.sched_model.specs.trigger_rules.declared.verdicts.Verdict.{Verdict}
use Rattle.sched_model.specs.trigger_rules.declared.verdicts.Verdict.TheVariants as verdict
use Rattle.sched_model.specs.instance_machine.Instances.{InstanceValue, recent, last_of}
use Rattle.sched_model.specs.instance_machine.States.{state_of, state_by, state_of_end, state_of_verdict, ended_as, is_up_for_retry}
use Rattle.sched_model.specs.instance_machine.declared.tries.Try.{Try}
use Rattle.sched_model.specs.instance_machine.declared.tries.End.{End}
use Rattle.sched_model.specs.instance_machine.declared.tries.Outcome.{Outcome}
use Rattle.sched_model.specs.instance_machine.declared.tries.Outcome.TheVariants as outcome
use Rattle.sched_model.proofs.sched_state.OrderLemmas.{and_left, and_right}
use Rattle.sched_model.specs.Lists.{but_last}
use Rattle.sched_model.specs.Handout.{is_ready, is_scheduled, new_try, with_try}
use Rattle.sched_model.specs.instance_machine.Instances.{map_tries}
use Rattle.sched_model.specs.Clearing.{set_to}
use Rattle.sched_model.specs.Sound.{is_sound_try, is_sound_instance, has_end, has_failed, is_failure, is_failure_if, is_run, is_wait, is_empty, earlier}
use Rattle.sched_laws.proofs.ListLemmas.{all_impl, all_under, all_join, but_last_snoc, but_last_map, last_split, last_none}
use Rattle.sched_laws.proofs.HandLemmas.{ready_cases}

-- ---- the parts of soundness
pub record Parts (t : TaskSpec) (i : InstanceValue) : Type 0 where
  pub decided : not (is_wait i.verdict) ≡ true
  pub within : i.since ≤ length i.tries
  pub tries : list_all (is_sound_try t.pool_slots) i.tries ≡ true
  pub over : list_all has_end (earlier i) ≡ true
  pub let_run : (is_empty (recent i) || is_run i.verdict) ≡ true
  pub few : length (recent i) ≤ 1 + t.retries
  pub failed : list_all has_failed (but_last (recent i)) ≡ true

pub parts_of : (t : TaskSpec) (i : InstanceValue) → is_sound_instance t i ≡ true → Parts t i
parts_of t i e =
    let e1 = and_right (not (is_wait i.verdict)) _ e in
    let e2 = and_right (nat_le i.since (length i.tries)) _ e1 in
    let e3 = and_right (list_all (is_sound_try t.pool_slots) i.tries) _ e2 in
    let e4 = and_right (list_all has_end (earlier i)) _ e3 in
    let e5 = and_right (is_empty (recent i) || is_run i.verdict) _ e4 in
    record {
      decided = and_left _ _ e;
      within = leb-true _ _ (and_left _ _ e1);
      tries = and_left _ _ e2;
      over = and_left _ _ e3;
      let_run = and_left _ _ e4;
      few = leb-true _ _ (and_left _ _ e5);
      failed = and_right (nat_le (length (recent i)) (1 + t.retries)) _ e5;
    }

pub of_parts : (t : TaskSpec) (i : InstanceValue) → Parts t i → is_sound_instance t i ≡ true
of_parts t i p = and_from _ _ p.decided (and_from _ _ (le-leb _ _ p.within) (and_from _ _ p.tries (and_from _ _ p.over (and_from _ _ p.let_run (and_from _ _ (le-leb _ _ p.few) p.failed)))))

-- ---- decided
empty_is : {X : Type 0} (xs : List X) → (is_empty xs || false) ≡ true → is_empty xs ≡ true
empty_is [] e = refl
empty_is (x ∷ xs) e = e

pub decided_sound : (t : TaskSpec) (s : ℕ) (ts : List Try) (v : Verdict) → is_wait (Some v) ≡ false
    → is_sound_instance t (record { verdict = None; since = s; tries = ts }) ≡ true → is_sound_instance t (record { verdict = Some v; since = s; tries = ts }) ≡ true
decided_sound t s ts v w e =
    let p = parts_of t (record { verdict = None; since = s; tries = ts }) e in
    of_parts t (record { verdict = Some v; since = s; tries = ts }) (record {
      decided = ap not w;
      within = p.within;
      tries = p.tries;
      over = p.over;
      let_run = or_left _ _ (empty_is (drop s ts) p.let_run);
      few = p.few;
      failed = p.failed;
    })

-- ---- handed out
pub failed_end : (t : Try) → has_failed t ≡ true → has_end t ≡ true
failed_end t e = ended_of t.ended e
  where
    ended_of : (o : Option End) → is_failure_if o ≡ true → is_some o ≡ true
    ended_of None e = absurd (true≢false (sym e))
    ended_of (Some x) e = refl

-- a ready instance may run, has a further try, and all its tries since the last clearing failed
record Waits (t : TaskSpec) (i : InstanceValue) : Type 0 where
  let_run : is_run i.verdict ≡ true
  room : length (recent i) ≤ t.retries
  failed : list_all has_failed (recent i) ≡ true

scheduled_verdict : (v : Option Verdict) → is_scheduled (state_of_verdict v) ≡ true → is_run v ≡ true
scheduled_verdict None e = absurd (true≢false (sym e))
scheduled_verdict (Some verdict.Wait) e = absurd (true≢false (sym e))
scheduled_verdict (Some verdict.Run) e = refl
scheduled_verdict (Some verdict.Skip) e = absurd (true≢false (sym e))
scheduled_verdict (Some verdict.UpstreamFailed) e = absurd (true≢false (sym e))

begun_scheduled : (b : Bool) → is_scheduled (cond b state.Running state.Queued) ≡ true → ⊥
begun_scheduled true e = true≢false (sym e)
begun_scheduled false e = true≢false (sym e)

retry_scheduled : (b : Bool) → is_scheduled (cond b state.UpForRetry state.Failed) ≡ true → ⊥
retry_scheduled true e = true≢false (sym e)
retry_scheduled false e = true≢false (sym e)

ended_scheduled : (left : Bool) (o : Outcome) → is_scheduled (ended_as left o) ≡ true → ⊥
ended_scheduled left outcome.Success e = true≢false (sym e)
ended_scheduled left outcome.Skipped e = true≢false (sym e)
ended_scheduled left outcome.Failed e = retry_scheduled left e
ended_scheduled left outcome.Lost e = retry_scheduled left e

try_scheduled : (left : Bool) (s : Option ℕ) (o : Option End) → is_scheduled (state_of_end left s o) ≡ true → ⊥
try_scheduled left s None e = begun_scheduled (is_some s) e
try_scheduled left s (Some x) e = ended_scheduled left x.outcome e

begun_retry : (b : Bool) → is_up_for_retry (cond b state.Running state.Queued) ≡ true → ⊥
begun_retry true e = true≢false (sym e)
begun_retry false e = true≢false (sym e)

chosen_retry : (b : Bool) → is_up_for_retry (cond b state.UpForRetry state.Failed) ≡ true → b ≡ true
chosen_retry true e = refl
chosen_retry false e = absurd (true≢false (sym e))

ended_retry : (left : Bool) (o : Outcome) → is_up_for_retry (ended_as left o) ≡ true → (left ≡ true) × (is_failure o ≡ true)
ended_retry left outcome.Success e = absurd (true≢false (sym e))
ended_retry left outcome.Skipped e = absurd (true≢false (sym e))
ended_retry left outcome.Failed e = (chosen_retry left e, refl)
ended_retry left outcome.Lost e = (chosen_retry left e, refl)

try_retry : (left : Bool) (s : Option ℕ) (o : Option End) → is_up_for_retry (state_of_end left s o) ≡ true → (left ≡ true) × (is_failure_if o ≡ true)
try_retry left s None e = absurd (begun_retry (is_some s) e)
try_retry left s (Some x) e = ended_retry left x.outcome e

verdict_retry : (v : Option Verdict) → is_up_for_retry (state_of_verdict v) ≡ true → ⊥
verdict_retry None e = true≢false (sym e)
verdict_retry (Some verdict.Wait) e = true≢false (sym e)
verdict_retry (Some verdict.Run) e = true≢false (sym e)
verdict_retry (Some verdict.Skip) e = true≢false (sym e)
verdict_retry (Some verdict.UpstreamFailed) e = true≢false (sym e)

not_empty_runs : {X : Type 0} (xs : List X) (x : X) (b : Bool) → (is_empty (xs ++ x ∷ []) || b) ≡ true → b ≡ true
not_empty_runs [] x b e = e
not_empty_runs (y ∷ ys) x b e = e

scheduled_waits : (t : TaskSpec) (i : InstanceValue) → is_scheduled (state_of t i) ≡ true → Waits t i
scheduled_waits t i e = elim (last_of (recent i)) as (λ o. last_of (recent i) ≡ o → is_scheduled (state_by i.verdict (nat_le (length (recent i)) t.retries) o) ≡ true → Waits t i) [
  | None ↦ λ q f.
      let z : recent i ≡ [] = last_none (recent i) q in
      let n : length (recent i) ≡ 0 = ap length z in
      record { let_run = scheduled_verdict i.verdict f; room = omega arith; failed = ap (list_all has_failed) z }
  | Some u ↦ λ q f. absurd (try_scheduled (nat_le (length (recent i)) t.retries) u.started u.ended f)
] refl e

retry_waits : (t : TaskSpec) (i : InstanceValue) → Parts t i → is_up_for_retry (state_of t i) ≡ true → Waits t i
retry_waits t i p e = elim (last_of (recent i)) as (λ o. last_of (recent i) ≡ o → is_up_for_retry (state_by i.verdict (nat_le (length (recent i)) t.retries) o) ≡ true → Waits t i) [
  | None ↦ λ q f. absurd (verdict_retry i.verdict f)
  | Some u ↦ λ q f.
      let g = try_retry (nat_le (length (recent i)) t.retries) u.started u.ended f in
      let z : recent i ≡ but_last (recent i) ++ u ∷ [] = last_split (recent i) u q in
      record {
        let_run = not_empty_runs (but_last (recent i)) u (is_run i.verdict) (subst (λ (ts : List Try). (is_empty ts || is_run i.verdict) ≡ true) z p.let_run);
        room = leb-true _ _ g.0;
        failed = ap (list_all has_failed) z ∙ all_join has_failed (but_last (recent i)) (u ∷ []) p.failed (and_from _ _ g.1 refl);
      }
] refl e

pub handed_sound : (now : ℕ) (t : TaskSpec) (i : InstanceValue) (n : ℕ) → is_ready now t i ≡ true → is_sound_instance t i ≡ true → is_sound_instance t (with_try (new_try n t.pool_slots) i) ≡ true
handed_sound now t i n r e =
    let p = parts_of t i e in
    let w : Waits t i = elim (ready_cases now t i r) [ inl f ↦ scheduled_waits t i f | inr f ↦ retry_waits t i p f ] in
    let u : Try = new_try n t.pool_slots in
    let k : recent (with_try u i) ≡ recent i ++ u ∷ [] = drop-append-le i.since i.tries (u ∷ []) p.within in
    let l : length (i.tries ++ u ∷ []) ≡ length i.tries + 1 = length-append i.tries (u ∷ []) in
    let m : length (recent i ++ u ∷ []) ≡ length (recent i) + 1 = length-append (recent i) (u ∷ []) in
    let m' : length (recent (with_try u i)) ≡ length (recent i) + 1 = ap length k ∙ m in
    let wi : i.since ≤ length i.tries = p.within in
    let ro : length (recent i) ≤ t.retries = w.room in
    of_parts t (with_try u i) (record {
      decided = p.decided;
      within = omega arith;
      tries = all_join (is_sound_try t.pool_slots) i.tries (u ∷ []) p.tries (and_from _ _ (and_from _ _ (eq-eqb t.pool_slots t.pool_slots refl) refl) refl);
      over = ap (list_all has_end) (take-append-le i.since i.tries (u ∷ []) p.within) ∙ p.over;
      let_run = or_right _ _ w.let_run;
      few = omega arith;
      failed = ap (λ ts. list_all has_failed (but_last ts)) k ∙ ap (list_all has_failed) (but_last_snoc (recent i) u) ∙ w.failed;
    })

-- ---- tries changed
-- f changes open tries alone, and leaves serials
pub record IsQuiet (f : Try → Try) : Type 0 where
  pub over : (u : Try) → has_end u ≡ true → f u ≡ u
  pub sound : (k : ℕ) (u : Try) → is_sound_try k u ≡ true → is_sound_try k (f u) ≡ true
  pub serial : (u : Try) → (f u).serial ≡ u.serial

map_over : (f : Try → Try) → IsQuiet f → (ts : List Try) → list_all has_end ts ≡ true → map f ts ≡ ts
map_over f q [] e = refl
map_over f q (u ∷ ts) e = ap (λ v. v ∷ map f ts) (q.over u (and_left _ _ e)) ∙ ap (λ vs. u ∷ vs) (map_over f q ts (and_right (has_end u) _ e))

empty_map : {X Y : Type 0} (f : X → Y) (xs : List X) → is_empty (map f xs) ≡ is_empty xs
empty_map f [] = refl
empty_map f (x ∷ xs) = refl

pub changed_sound : (f : Try → Try) → IsQuiet f → (t : TaskSpec) (i : InstanceValue) → is_sound_instance t i ≡ true → is_sound_instance t (map_tries f i) ≡ true
changed_sound f q t i e =
    let p = parts_of t i e in
    let r : recent (map_tries f i) ≡ map f (recent i) = drop-map f i.since i.tries in
    let l : length (map f i.tries) ≡ length i.tries = length-map i.tries f in
    let m : length (recent (map_tries f i)) ≡ length (recent i) = ap length r ∙ length-map (recent i) f in
    let wi : i.since ≤ length i.tries = p.within in
    let fe : length (recent i) ≤ 1 + t.retries = p.few in
    let ends : list_all has_end (but_last (recent i)) ≡ true = all_impl has_failed has_end failed_end (but_last (recent i)) p.failed in
    let b : but_last (recent (map_tries f i)) ≡ but_last (recent i) = ap but_last r ∙ but_last_map f (recent i) ∙ map_over f q (but_last (recent i)) ends in
    let o : earlier (map_tries f i) ≡ earlier i = take-map f i.since i.tries ∙ map_over f q (earlier i) p.over in
    of_parts t (map_tries f i) (record {
      decided = p.decided;
      within = omega arith;
      tries = all_under (is_sound_try t.pool_slots) (is_sound_try t.pool_slots) f (q.sound t.pool_slots) i.tries p.tries;
      over = ap (list_all has_end) o ∙ p.over;
      let_run = ap (λ ts. is_empty ts || is_run i.verdict) r ∙ ap (λ c. c || is_run i.verdict) (empty_map f (recent i)) ∙ p.let_run;
      few = omega arith;
      failed = ap (list_all has_failed) b ∙ p.failed;
    })

-- ---- finished
begun_finished : (b : Bool) → is_finished (cond b state.Running state.Queued) ≡ true → ⊥
begun_finished true e = true≢false (sym e)
begun_finished false e = true≢false (sym e)

try_finished : (left : Bool) (s : Option ℕ) (o : Option End) → is_finished (state_of_end left s o) ≡ true → is_some o ≡ true
try_finished left s None e = absurd (begun_finished (is_some s) e)
try_finished left s (Some x) e = refl

-- a finished instance has no try without an end
pub finished_over : (t : TaskSpec) (i : InstanceValue) → Parts t i → is_finished (state_of t i) ≡ true → list_all has_end (recent i) ≡ true
finished_over t i p e = elim (last_of (recent i)) as (λ o. last_of (recent i) ≡ o → is_finished (state_by i.verdict (nat_le (length (recent i)) t.retries) o) ≡ true → list_all has_end (recent i) ≡ true) [
  | None ↦ λ q f. ap (list_all has_end) (last_none (recent i) q)
  | Some u ↦ λ q f.
      let g : has_end u ≡ true = try_finished (nat_le (length (recent i)) t.retries) u.started u.ended f in
      ap (list_all has_end) (last_split (recent i) u q)
      ∙ all_join has_end (but_last (recent i)) (u ∷ []) (all_impl has_failed has_end failed_end (but_last (recent i)) p.failed) (and_from _ _ g refl)
] refl e

-- nor has one of its tries before the last clearing
pub finished_ended : (t : TaskSpec) (i : InstanceValue) → is_sound_instance t i ≡ true → is_finished (state_of t i) ≡ true → list_all has_end i.tries ≡ true
finished_ended t i e f =
    let p = parts_of t i e in
    ap (list_all has_end) (sym (take-append-drop i.since i.tries)) ∙ all_join has_end (earlier i) (recent i) p.over (finished_over t i p f)

pub changed_finished : (f : Try → Try) → IsQuiet f → (t : TaskSpec) (i : InstanceValue) → is_sound_instance t i ≡ true → is_finished (state_of t i) ≡ true → is_finished (state_of t (map_tries f i)) ≡ true
changed_finished f q t i s e =
    let r : recent (map_tries f i) ≡ recent i = drop-map f i.since i.tries ∙ map_over f q (recent i) (finished_over t i (parts_of t i s) e) in
    ap (λ (ts : List Try). is_finished (state_by i.verdict (nat_le (length ts) t.retries) (last_of ts))) r ∙ e

-- ---- set
-- all tries have an end, and none of them counts
pub over_sound : (t : TaskSpec) (v : Option Verdict) (ts : List Try) → not (is_wait v) ≡ true → list_all (is_sound_try t.pool_slots) ts ≡ true → list_all has_end ts ≡ true
    → is_sound_instance t (record { verdict = v; since = length ts; tries = ts }) ≡ true
over_sound t v ts decided sound o =
    let r : drop (length ts) ts ≡ [] = drop-length ts in
    let m : length (drop (length ts) ts) ≡ 0 = ap length r in
    of_parts t (record { verdict = v; since = length ts; tries = ts }) (record {
      decided = decided;
      within = omega arith;
      tries = sound;
      over = ap (list_all has_end) (take-length ts) ∙ o;
      let_run = or_left _ _ (ap is_empty r);
      few = omega arith;
      failed = ap (λ us. list_all has_failed (but_last us)) r;
    })

pub set_sound : (v : Option Verdict) → not (is_wait v) ≡ true → (t : TaskSpec) (i : InstanceValue) → is_sound_instance t i ≡ true → list_all has_end i.tries ≡ true → is_sound_instance t (set_to v i) ≡ true
set_sound v w t i e o = let p = parts_of t i e in over_sound t v i.tries w p.tries o
