-- The stages of settling.
use Rattle.sched_model.specs.instance_machine.States.{opens_gate}
use Rattle.std.proofs.Common.{◌≡◌, refl, sym, ap, subst, ◌∙◌, ℕ, zero, suc, ◌+◌, ◌<◌, ◌≤◌, List, [], ◌∷◌, Bool, true, false, cond, not, ◌&&◌, ◌||◌, inr, map, Option, Some, None, option_map, option_and_then, unwrap_or, slice_get, arith, true≢false, nat_eq, nat_lt}
use Rattle.std.specs.List.{list_all, fold}
use Rattle.std.specs.Ordering.{is_eq}
use Rattle.std.proofs.lemmas.Cmp.{nat_list_cmp_total, tied_itself}
use Rattle.std.proofs.lemmas.Map.Text.{is_eq-slice_cmp}
use Rattle.std.proofs.lemmas.Bool.{eqb-true, or_left, or_right}
use Rattle.sched_model.specs.sched_state.declared.runs.RunPhase.{RunPhase}
use Rattle.sched_model.specs.sched_state.declared.runs.RunPhase.TheVariants as phase
use Rattle.sched_model.specs.Handout.{in_instance}
use Rattle.sched_model.specs.sched_state.Lists.{same, change_from, first_change, repeat}
use Rattle.sched_model.specs.Lists.{at}
use Rattle.graph_file.specs.Lists.{when, first_some}
use Rattle.sched_model.specs.instance_machine.Instances.{InstanceValue}
use Rattle.sched_model.specs.Schedule.{Schedule, is_running, is_queued, is_paused, max_active_runs_of}
use Rattle.sched_model.specs.sched_state.declared.runs.Run.{Run}
use Rattle.sched_model.specs.States.{states, active_runs, previous, state_at, is_earlier}
use Rattle.sched_model.specs.trigger_rules.States.{is_finished}
use Rattle.sched_model.specs.Settle.{decide_instance, decide_run, finish_run, start_run, move, settle, moves_left, has_bad_leaf}
use Rattle.sched_laws.specs.Sweep.{decide_one, decide_all, decision_in, decision, change_at, sweep}
use Rattle.sched_laws.specs.Stages.{finish_one, start_one, ended_run, finish_every, in_phase, phase_at, AllEnded, Started, CoversEnds, CoversStarts, also_run, IsOrdered}
use Rattle.sched_laws.specs.Stages.{also_graph}
use Rattle.sched_laws.proofs.SettleLemmas.{settle_still, settle_moved, move_falls, map_some, when_some}
use Rattle.sched_model.proofs.sched_state.RepeatLemmas.{repeat_done, repeat_more, repeat_ends}
use Rattle.sched_laws.proofs.ListLemmas.{change_keeps, change_here}
use Rattle.sched_laws.proofs.LookLemmas.{get_at, get_apart, in_same, given_run, decide_same, same_given, gated_same, same_last}
use Rattle.sched_laws.proofs.DecisionLemmas.{decided, no_decision, at_known, guarded_run, by_decision, by_bool, one_falls}
use Rattle.sched_laws.proofs.SweepLemmas.{sweep_all, sound_ordered}
use Rattle.sched_model.specs.Sound.{IsSound}
use Rattle.graph_file.proofs.ListLemmas.{mapped_none}

-- ---- a move is the first of the three

three : {A B : Type 0} (f : A → B) (x y z : Option A) → option_map f (first_some (x ∷ y ∷ z ∷ [])) ≡ first_some (option_map f x ∷ option_map f y ∷ option_map f z ∷ [])
three f (Some x) y z = refl
three f None (Some y) z = refl
three f None None (Some z) = refl
three f None None None = refl

pub move_of : (a : Schedule) → move a ≡ first_some (decide_one a ∷ finish_one a ∷ start_one a ∷ [])
move_of a = three (λ rs. record a { runs = rs }) (first_change (decide_run a) a.runs) (first_change (finish_run a) a.runs) (first_change (start_run a) a.runs)

abbrev three_of : Option Schedule → Option Schedule → Option Schedule → Option Schedule
three_of x y z = first_some (x ∷ y ∷ z ∷ [])

pub move_decides : (a b : Schedule) → decide_one a ≡ Some b → move a ≡ Some b
move_decides a b e = move_of a ∙ ap (λ o. three_of o (finish_one a) (start_one a)) e

pub move_finishes : (a b : Schedule) → decide_one a ≡ None → finish_one a ≡ Some b → move a ≡ Some b
move_finishes a b e f = move_of a ∙ ap (λ o. three_of o (finish_one a) (start_one a)) e ∙ ap (λ o. three_of None o (start_one a)) f

pub move_starts : (a b : Schedule) → decide_one a ≡ None → finish_one a ≡ None → start_one a ≡ Some b → move a ≡ Some b
move_starts a b e f g = move_of a ∙ ap (λ o. three_of o (finish_one a) (start_one a)) e ∙ ap (λ o. three_of None o (start_one a)) f ∙ ap (λ o. three_of None None o) g

pub no_move : (a : Schedule) → decide_one a ≡ None → finish_one a ≡ None → start_one a ≡ None → move a ≡ None
no_move a e f g = move_of a ∙ ap (λ o. three_of o (finish_one a) (start_one a)) e ∙ ap (λ o. three_of None o (start_one a)) f ∙ ap (λ o. three_of None None o) g

-- ---- decisions first

turns_settle : (n : ℕ) (a : Schedule) → settle a ≡ settle (repeat n decide_one a)
turns_settle zero a = refl
turns_settle (suc n) a = elim (decide_one a) as (λ o. decide_one a ≡ o → settle a ≡ settle (repeat (suc n) decide_one a)) [
  | None ↦ λ e. ap settle (sym (repeat_done (suc n) decide_one a e))
  | Some b ↦ λ e. settle_moved a b (move_decides a b e) ∙ turns_settle n b ∙ ap settle (sym (repeat_more n decide_one a b e))
] refl

pub decide_settles : (a : Schedule) → settle a ≡ settle (decide_all a)
decide_settles a = turns_settle (moves_left a) a

-- ---- phases

gate : (a : Schedule) (ph : RunPhase) (n q : ℕ) (r : Run) → option_map (λ (w : Run). state_at a w q) (previous (phase_at ph n a) r) ≡ option_map (λ (w : Run). state_at a w q) (previous a r)
gate a ph n q r =
    same_last (λ (w : Run). state_at a w q) (is_earlier r) (in_phase ph) (λ w. refl) (λ w. refl) n a.runs

not_running : (c : Bool) (o : Option InstanceValue) → c ≡ false → (◌≡◌ {A = Option InstanceValue} (elim c [ true ↦ o | false ↦ None ]) None)
not_running true o e = absurd (true≢false e)
not_running false o e = refl

quiet_in : (a : Schedule) (ph : RunPhase) (n q : ℕ) (o : Option Run) → is_running ph ≡ false → option_and_then (decision_in (phase_at ph n a) q) (option_map (in_phase ph) o) ≡ None
quiet_in a ph n q None e = refl
quiet_in a ph n q (Some r) e = not_running (is_running ph) (option_and_then (decide_instance (phase_at ph n a) (in_phase ph r) q) (slice_get r.instances q)) e

-- a run's phase is looked at by no decision in another run
pub other_phase : (a : Schedule) (ph : RunPhase) (n m q : ℕ) → nat_eq m n ≡ false → decision (phase_at ph n a) m q ≡ decision a m q
other_phase a ph n m q e =
    ap (option_and_then (decision_in (phase_at ph n a) q)) (get_apart (in_phase ph) n m a.runs e)
    ∙ given_run (decision_in (phase_at ph n a) q) (decision_in a q) (slice_get a.runs m)
    (λ r k. in_same a (phase_at ph n a) q r r (is_running r.phase)
    (λ i. decide_same a (phase_at ph n a) r r q i refl
    (λ t f. same_given a (phase_at ph n a) r r q t (gated_same t.depends_on_past _ _ (inr (ap opens_gate (gate a ph n q r)))) refl))
    refl)

pub ended_quiet : (a : Schedule) (ph : RunPhase) (n q : ℕ) → is_running ph ≡ false → decision (phase_at ph n a) n q ≡ None
ended_quiet a ph n q e =
    ap (option_and_then (decision_in (phase_at ph n a) q)) (get_at (in_phase ph) n a.runs) ∙ quiet_in a ph n q (slice_get a.runs n) e

-- ---- quiet schedules

head_quiet : {X : Type 0} (f : ℕ → X → Option X) (i : ℕ) (x : X) (xs : List X) → change_from f i (x ∷ xs) ≡ None → (f i x ≡ None) × (change_from f (i + 1) xs ≡ None)
head_quiet {X} f i x xs e = elim (f i x) as (λ o. f i x ≡ o → change_here f i x xs o ≡ None → (f i x ≡ None) × (change_from f (i + 1) xs ≡ None)) [
  | Some y ↦ λ p q. absurd (let c : ◌≡◌ {A = Option (List X)} (Some (y ∷ xs)) None = q in cc)
  | None ↦ λ p q. (p, mapped_none (λ ys. x ∷ ys) (change_from f (i + 1) xs) q)
] refl e

-- where no element is changed, f changes none
quiet_each : {X : Type 0} (f : ℕ → X → Option X) (i m : ℕ) (xs : List X) (z : X) → change_from f i xs ≡ None → slice_get xs m ≡ Some z → f (i + m) z ≡ None
quiet_each {X} f i m [] z e g = absurd (let c : ◌≡◌ {A = Option X} None (Some z) = g in cc)
quiet_each {X} f i zero (x ∷ xs) z e g =
    let c : ◌≡◌ {A = Option X} (Some x) (Some z) = g in let r : x ≡ z = cc in
    let s : i ≡ i + 0 = omega arith in
    subst (λ (j : ℕ). f j z ≡ None) s (subst (λ (w : X). f i w ≡ None) r (head_quiet f i x xs e).0)
quiet_each f i (suc m) (x ∷ xs) z e g =
    let s : (i + 1) + m ≡ i + suc m = omega arith in
    subst (λ (j : ℕ). f j z ≡ None) s (quiet_each f (i + 1) m xs z (head_quiet f i x xs e).1 g)

pub no_decision_at : (a : Schedule) → decide_one a ≡ None → (n p : ℕ) → decision a n p ≡ None
no_decision_at a e n p = by_decision {C = decision a n p ≡ None} a n p (λ f. f) (λ j f.
    let d = decided a n p j f in
    let zn : 0 + n ≡ n = omega arith in
    let zp : 0 + p ≡ p = omega arith in
    let r : decide_run a d.run ≡ None = quiet_each (λ i x. decide_run a x) 0 n a.runs d.run (mapped_none (λ rs. record a { runs = rs }) (first_change (decide_run a) a.runs) e) d.run_is in
    let c : change_from (decide_instance a d.run) 0 d.run.instances ≡ None =
    mapped_none (λ is. record d.run { instances = is }) (change_from (decide_instance a d.run) 0 d.run.instances)
    (sym (guarded_run (is_running d.run.phase) (option_map (λ is. record d.run { instances = is }) (change_from (decide_instance a d.run) 0 d.run.instances)) d.running) ∙ r) in
    let q : decide_instance a d.run p d.instance ≡ None = subst (λ (y : ℕ). decide_instance a d.run y d.instance ≡ None) zp (quiet_each (decide_instance a d.run) 0 p d.run.instances d.instance c d.instance_is) in
    absurd (let u : ◌≡◌ {A = Option InstanceValue} None (Some j) = sym q ∙ d.decided in cc))

-- after a change of phase, decisions are possible in that run alone
pub phase_covers : (a : Schedule) (ph : RunPhase) (n m q : ℕ) (j : InstanceValue) → decide_one a ≡ None → decision (phase_at ph n a) m q ≡ Some j → m ≡ n
phase_covers a ph n m q j e f = by_bool {C = m ≡ n} (nat_eq m n) (λ g. eqb-true m n g)
    (λ g. absurd (let u : ◌≡◌ {A = Option InstanceValue} None (Some j) = sym (no_decision_at a e m q) ∙ sym (other_phase a ph n m q g) ∙ f in cc))

-- an end enables no decision
pub end_quiet : (a : Schedule) (ph : RunPhase) (n : ℕ) → is_running ph ≡ false → decide_one a ≡ None → decide_one (phase_at ph n a) ≡ None
end_quiet a ph n r e = no_decision (phase_at ph n a) (λ m q. by_bool {C = decision (phase_at ph n a) m q ≡ None} (nat_eq m n)
    (λ g. let k : m ≡ n = eqb-true m n g in ap (λ y. decision (phase_at ph n a) y q) k ∙ ended_quiet a ph n q r)
    (λ g. other_phase a ph n m q g ∙ no_decision_at a e m q))

-- ---- ends

-- the element that was changed
change_found : {X : Type 0} (f : X → Option X) (i : ℕ) (xs ys : List X) → change_from (λ k x. f x) i xs ≡ Some ys → (m : ℕ) × (x : X) × (y : X) × (slice_get xs m ≡ Some x) × (f x ≡ Some y) × (ys ≡ at (λ z. y) m xs)
change_found {X} f i [] ys e = absurd (let c : ◌≡◌ {A = Option (List X)} None (Some ys) = e in cc)
change_found {X} f i (x ∷ xs) ys e = elim (f x) as (λ o. f x ≡ o → change_here (λ k z. f z) i x xs o ≡ Some ys → (m : ℕ) × (z : X) × (y : X) × (slice_get (x ∷ xs) m ≡ Some z) × (f z ≡ Some y) × (ys ≡ at (λ w. y) m (x ∷ xs))) [
  | Some y ↦ λ p q. let c : ◌≡◌ {A = Option (List X)} (Some (y ∷ xs)) (Some ys) = q in let r : ys ≡ y ∷ xs = cc in (0, x, y, refl, p, r)
  | None ↦ λ p q.
      let t = map_some (λ zs. x ∷ zs) (change_from (λ k z. f z) (i + 1) xs) ys q in
      let u = change_found f (i + 1) xs t.0 t.1 in
      (suc u.0, u.1, u.2, u.3, u.4, sym t.2 ∙ ap (λ zs. x ∷ zs) u.5)
] refl e

ended_phase : (b : Bool) → is_running (cond b phase.Failed phase.Success) ≡ false
ended_phase true = refl
ended_phase false = refl

when_false : {A : Type 0} (b c : Bool) (x : A) → b ≡ false → when (b && c) x ≡ None
when_false true c x e = absurd (true≢false e)
when_false false c x e = refl

-- an end is a change of phase
end_phase : (a b : Schedule) → finish_one a ≡ Some b → (ph : RunPhase) × (n : ℕ) × (is_running ph ≡ false) × (b ≡ phase_at ph n a)
end_phase a b e =
    let t = map_some (λ rs. record a { runs = rs }) (first_change (finish_run a) a.runs) b e in
    let u = change_found (finish_run a) 0 a.runs t.0 t.1 in
    let r : Run = u.1 in
    let ph : RunPhase = cond (has_bad_leaf a r) phase.Failed phase.Success in
    let w = when_some (is_running r.phase && list_all is_finished (states a r)) (in_phase ph r) u.2 u.4 in
    let rs : t.0 ≡ at (in_phase ph) u.0 a.runs = u.5 ∙ ap (λ y. at (λ z. y) u.0 a.runs) (sym w.1) ∙ at_known (in_phase ph) u.0 a.runs r u.3 in
    (ph, u.0, ended_phase (has_bad_leaf a r), sym t.2 ∙ ap (λ xs. record a { runs = xs }) rs)

ended_once : (a : Schedule) (r q : Run) → finish_run a r ≡ Some q → finish_run a q ≡ None
ended_once a r q e =
    let w = when_some (is_running r.phase && list_all is_finished (states a r)) (in_phase (cond (has_bad_leaf a r) phase.Failed phase.Success) r) q e in
    let h : is_running q.phase ≡ false = ap (λ (x : Run). is_running x.phase) (sym w.1) ∙ ended_phase (has_bad_leaf a r) in
    when_false (is_running q.phase) (list_all is_finished (states a q)) (in_phase (cond (has_bad_leaf a q) phase.Failed phase.Success) q) h

same_end : (a : Schedule) (r q : Run) → finish_run a r ≡ Some q → ended_run a q ≡ ended_run a r
same_end a r q e = ap (λ o. unwrap_or o q) (ended_once a r q e) ∙ ap (λ o. unwrap_or o r) (sym e)

all_ended : (a : Schedule) (i : ℕ) (rs : List Run) → change_from (λ k r. finish_run a r) i rs ≡ None → map (ended_run a) rs ≡ rs
all_ended a i [] e = refl
all_ended a i (r ∷ rs) e =
    let t = head_quiet (λ k r. finish_run a r) i r rs e in
    let h : ended_run a r ≡ r = ap (λ o. unwrap_or o r) t.0 in
    let ih : map (ended_run a) rs ≡ rs = all_ended a (i + 1) rs t.1 in
    rw (h, ih) refl

ends_none : (a : Schedule) → decide_one a ≡ None → finish_one a ≡ None → AllEnded a (finish_every a)
ends_none a d f =
    let h : finish_every a ≡ a = ap (λ rs. record a { runs = rs }) (all_ended a 0 a.runs (mapped_none (λ rs. record a { runs = rs }) (first_change (finish_run a) a.runs) f)) in
    subst (AllEnded a) (sym h) (record { settles = refl; decided = d; ended = f })

ends_same : (a b : Schedule) → finish_one a ≡ Some b → finish_every b ≡ finish_every a
ends_same a b f =
    let t = map_some (λ rs. record a { runs = rs }) (first_change (finish_run a) a.runs) b f in
    subst (λ (x : Schedule). finish_every x ≡ finish_every a) t.2
    (ap (λ rs. record a { runs = rs }) (change_keeps (ended_run a) (λ i r. finish_run a r) (λ i. same_end a) 0 a.runs t.0 t.1))

end_decided : (a b : Schedule) → decide_one a ≡ None → finish_one a ≡ Some b → decide_one b ≡ None
end_decided a b d f = let t = end_phase a b f in subst (λ (x : Schedule). decide_one x ≡ None) (sym t.3) (end_quiet a t.0 t.1 t.2 d)

ends_more : (a b : Schedule) → decide_one a ≡ None → finish_one a ≡ Some b → AllEnded b (finish_every b) → AllEnded a (finish_every a)
ends_more a b d f h = subst (AllEnded a) (ends_same a b f) (record { settles = settle_moved a b (move_finishes a b d f) ∙ h.settles; decided = h.decided; ended = h.ended })

ends_in : (k : ℕ) (a : Schedule) → moves_left a ≤ k → decide_one a ≡ None → AllEnded a (finish_every a)
ends_in zero a l d = elim (finish_one a) as (λ o. finish_one a ≡ o → AllEnded a (finish_every a)) [
  | None ↦ λ f. ends_none a d f
  | Some b ↦ λ f. absurd (let h : moves_left b < moves_left a = move_falls a b (move_finishes a b d f) in omega arith)
] refl
ends_in (suc k) a l d = elim (finish_one a) as (λ o. finish_one a ≡ o → AllEnded a (finish_every a)) [
  | None ↦ λ f. ends_none a d f
  | Some b ↦ λ f. let h : moves_left b < moves_left a = move_falls a b (move_finishes a b d f) in ends_more a b d f (ends_in k b (omega arith) (end_decided a b d f))
] refl

-- where no decision is possible, all ends can be made at once, and none of them enables a decision
pub all_ends : (a : Schedule) → decide_one a ≡ None → AllEnded a (finish_every a)
all_ends a d = ends_in (moves_left a) a (omega arith) d

-- all ends after one sweep
pub ordered_ends : (a : Schedule) → IsOrdered a → AllEnded a (finish_every (sweep a))
ordered_ends a s =
    let e : sweep a ≡ decide_all a = sweep_all a s in
    let d : decide_one (decide_all a) ≡ None = repeat_ends moves_left decide_one one_falls (moves_left a) a (omega arith) in
    let h = all_ends (sweep a) (subst (λ (x : Schedule). decide_one x ≡ None) (sym e) d) in
    record { settles = decide_settles a ∙ ap settle (sym e) ∙ h.settles; decided = h.decided; ended = h.ended }

pub swept_ends : (a : Schedule) → IsSound a → AllEnded a (finish_every (sweep a))
swept_ends a s = ordered_ends a (sound_ordered a s)

-- ---- starts

-- the element that was changed is the first that f changes
before_tail : {X : Type 0} (f : X → Option X) (x : X) (xs : List X) (m : ℕ) → f x ≡ None → ((k : ℕ) (z : X) → k < m → slice_get xs k ≡ Some z → f z ≡ None)
    → (k : ℕ) (w : X) → k < suc m → slice_get (x ∷ xs) k ≡ Some w → f w ≡ None
before_tail {X} f x xs m p h zero w l g = let c : ◌≡◌ {A = Option X} (Some x) (Some w) = g in let r : x ≡ w = cc in ap f (sym r) ∙ p
before_tail f x xs m p h (suc k) w l g = h k w (omega arith) g

first_found : {X : Type 0} (f : X → Option X) (i : ℕ) (xs ys : List X) → change_from (λ k x. f x) i xs ≡ Some ys
    → (m : ℕ) × (x : X) × (y : X) × (slice_get xs m ≡ Some x) × (f x ≡ Some y) × (ys ≡ at (λ z. y) m xs) × ((k : ℕ) (z : X) → k < m → slice_get xs k ≡ Some z → f z ≡ None)
first_found {X} f i [] ys e = absurd (let c : ◌≡◌ {A = Option (List X)} None (Some ys) = e in cc)
first_found {X} f i (x ∷ xs) ys e = elim (f x) as (λ o. f x ≡ o → change_here (λ k z. f z) i x xs o ≡ Some ys
    → (m : ℕ) × (z : X) × (y : X) × (slice_get (x ∷ xs) m ≡ Some z) × (f z ≡ Some y) × (ys ≡ at (λ w. y) m (x ∷ xs)) × ((k : ℕ) (w : X) → k < m → slice_get (x ∷ xs) k ≡ Some w → f w ≡ None)) [
      | Some y ↦ λ p q. let c : ◌≡◌ {A = Option (List X)} (Some (y ∷ xs)) (Some ys) = q in let r : ys ≡ y ∷ xs = cc in (0, x, y, refl, p, r, λ k w l g. absurd (omega arith))
      | None ↦ λ p q.
          let t = map_some (λ zs. x ∷ zs) (change_from (λ k z. f z) (i + 1) xs) ys q in
          let u = first_found f (i + 1) xs t.0 t.1 in
          (suc u.0, u.1, u.2, u.3, u.4, sym t.2 ∙ ap (λ zs. x ∷ zs) u.5, before_tail f x xs u.0 p u.6)
    ] refl e

pub started : (a b : Schedule) → start_one a ≡ Some b → (n : ℕ) × Started a n b
started a b e =
    let t = map_some (λ rs. record a { runs = rs }) (first_change (start_run a) a.runs) b e in
    let u = first_found (start_run a) 0 a.runs t.0 t.1 in
    let r : Run = u.1 in
    let w = when_some (is_queued r.phase && (not (is_paused a r.graph) && nat_lt (active_runs a r.graph) (max_active_runs_of a r.graph))) (in_phase phase.Running r) u.2 u.4 in
    let rs : t.0 ≡ at (in_phase phase.Running) u.0 a.runs = u.5 ∙ ap (λ y. at (λ z. y) u.0 a.runs) (sym w.1) ∙ at_known (in_phase phase.Running) u.0 a.runs r u.3 in (
      u.0,
      record {
        run = r;
        run_is = u.3;
        starts = u.4 ∙ ap (λ y. Some y) (sym w.1);
        first = u.6;
        after = sym t.2 ∙ ap (λ xs. record a { runs = xs }) rs;
      },
    )

pub start_settles : (a b : Schedule) → decide_one a ≡ None → finish_one a ≡ None → start_one a ≡ Some b → settle a ≡ settle b
start_settles a b d f g = settle_moved a b (move_starts a b d f g)

pub still_settles : (a : Schedule) → decide_one a ≡ None → finish_one a ≡ None → start_one a ≡ None → settle a ≡ a
still_settles a d f g = settle_still a (no_move a d f g)

-- an end looks at its run alone
pub end_alone : (a b : Schedule) (r : Run) → a.graphs ≡ b.graphs → finish_run a r ≡ finish_run b r
end_alone a b r e = ap (λ gs. finish_run (record a { graphs = gs }) r) e

-- ---- what ends and starts look at

-- a change of an instance marks its run's end
pub change_ends : (marked : ℕ → Bool) (a : Schedule) (g : InstanceValue → InstanceValue) (n p : ℕ) → CoversEnds marked a → CoversEnds (also_run n marked) (change_at g n p a)
change_ends marked a g n p c m r q e f = by_bool {C = (marked m || nat_eq m n) ≡ true} (nat_eq m n)
    (λ k. or_right (marked m) (nat_eq m n) k)
    (λ k. or_left (marked m) (nat_eq m n) (c m r q (sym (get_apart (in_instance g p) n m a.runs k) ∙ e) f))

-- a change of phase marks its run's end
pub phase_ends : (marked : ℕ → Bool) (a : Schedule) (ph : RunPhase) (n : ℕ) → CoversEnds marked a → CoversEnds (also_run n marked) (phase_at ph n a)
phase_ends marked a ph n c m r q e f = by_bool {C = (marked m || nat_eq m n) ≡ true} (nat_eq m n)
    (λ k. or_right (marked m) (nat_eq m n) k)
    (λ k. or_left (marked m) (nat_eq m n) (c m r q (sym (get_apart (in_phase ph) n m a.runs k) ∙ e) f))

-- counting over a list of which one element is changed
count_at : {X : Type 0} (test : X → Bool) (g : X → X) (k n : ℕ) (xs : List X) → ((x : X) → slice_get xs n ≡ Some x → test (g x) ≡ test x)
    → fold (λ c x. c + cond (test x) 1 0) k (at g n xs) ≡ fold (λ c x. c + cond (test x) 1 0) k xs
count_at test g k n [] e = refl
count_at test g k zero (x ∷ xs) e = ap (λ b. fold (λ c y. c + cond (test y) 1 0) (k + cond b 1 0) xs) (e x refl)
count_at test g k (suc n) (x ∷ xs) e = count_at test g (k + cond (test x) 1 0) n xs e

starts_with : (a : Schedule) (rs : List Run) (r : Run) → active_runs a r.graph ≡ active_runs (record a { runs = rs }) r.graph → start_run (record a { runs = rs }) r ≡ start_run a r
starts_with a rs r f = ap (λ k. when (is_queued r.phase && (not (is_paused a r.graph) && nat_lt k (max_active_runs_of a r.graph))) (in_phase phase.Running r)) (sym f)

-- a change of an instance enables no start
pub change_starts : (a : Schedule) (g : InstanceValue → InstanceValue) (n p : ℕ) (r : Run) → start_run (change_at g n p a) r ≡ start_run a r
change_starts a g n p r = starts_with a (at (in_instance g p) n a.runs) r
    (sym (count_at (λ (w : Run). same w.graph r.graph && is_running w.phase) (in_instance g p) 0 n a.runs (λ w e. refl)))

false_and : (b c : Bool) → b ≡ false → (b && c) ≡ false
false_and b c e = rw e refl

-- a change of phase enables starts in its graph alone
pub phase_starts : (a : Schedule) (ph : RunPhase) (n : ℕ) (w r : Run) → slice_get a.runs n ≡ Some w → same w.graph r.graph ≡ false → start_run (phase_at ph n a) r ≡ start_run a r
phase_starts a ph n w r e f = starts_with a (at (in_phase ph) n a.runs) r
    (sym (count_at (λ (v : Run). same v.graph r.graph && is_running v.phase) (in_phase ph) 0 n a.runs
    (λ v k.
    let c : ◌≡◌ {A = Option Run} (Some w) (Some v) = sym e ∙ k in let u : w ≡ v = cc in
    let h : same v.graph r.graph ≡ false = subst (λ (z : Run). same z.graph r.graph ≡ false) u f in
    false_and (same v.graph r.graph) (is_running ph) h ∙ sym (false_and (same v.graph r.graph) (is_running v.phase) h))))

-- a run of another graph stands elsewhere
other_graph : (a : Schedule) (ph : RunPhase) (n m : ℕ) (w r : Run) → slice_get a.runs n ≡ Some w → slice_get (phase_at ph n a).runs m ≡ Some r → same w.graph r.graph ≡ false → nat_eq m n ≡ false
other_graph a ph n m w r e k s = by_bool {C = nat_eq m n ≡ false} (nat_eq m n)
    (λ g.
    let u : m ≡ n = eqb-true m n g in
    let c : ◌≡◌ {A = Option Run} (Some (in_phase ph w)) (Some r) = sym (get_at (in_phase ph) n a.runs ∙ ap (option_map (in_phase ph)) e) ∙ subst (λ (y : ℕ). slice_get (phase_at ph n a).runs y ≡ Some r) u k in
    let d : in_phase ph w ≡ r = cc in
    let h : same w.graph w.graph ≡ false = subst (λ (z : Run). same w.graph z.graph ≡ false) (sym d) s in
    absurd (true≢false (sym (sym (is_eq-slice_cmp w.graph w.graph) ∙ ap is_eq (tied_itself nat_list_cmp_total w.graph)) ∙ h)))
    (λ g. g)

-- a change of the phase of run n, which is w, marks its graph
pub phase_covers_starts : (marked : List ℕ → Bool) (a : Schedule) (ph : RunPhase) (n : ℕ) (w : Run) → slice_get a.runs n ≡ Some w → CoversStarts marked a → CoversStarts (also_graph w.graph marked) (phase_at ph n a)
phase_covers_starts marked a ph n w e c m r q k f = by_bool {C = (marked r.graph || same w.graph r.graph) ≡ true} (same w.graph r.graph)
    (λ s. or_right (marked r.graph) (same w.graph r.graph) s)
    (λ s. or_left (marked r.graph) (same w.graph r.graph)
    (c m r q (sym (get_apart (in_phase ph) n m a.runs (other_graph a ph n m w r e k s)) ∙ k) (sym (phase_starts a ph n w r e s) ∙ f)))
