-- Where settling is between two starts, and that it ends.
use Rattle.std.proofs.Common.{◌≡◌, ◌∙◌, refl, sym, ap, subst, ℕ, zero, suc, ◌+◌, ◌<◌, ◌≤◌, List, [], ◌∷◌, true, false, ◌&&◌, cond, length, map, Option, Some, None, sum_by, unwrap_or, slice_get, nat_lt, nat_eq, arith}
use Rattle.std.specs.List.{list_all}
use Rattle.std.proofs.lemmas.List.Sums.{sum_by-cons}
use Rattle.graph_file.specs.Lists.{when}
use Rattle.trigger_rules.specs.States.{is_finished}
use Rattle.sched_model.specs.States.{states}
use Rattle.sched_state.specs.declared.runs.RunPhase.TheVariants as phase
use Rattle.sched_state.specs.Lists.{repeat}
use Rattle.sched_state.specs.declared.graphs.LoadedGraph.{LoadedGraph}
use Rattle.sched_state.specs.declared.runs.Run.{Run}
use Rattle.sched_state.specs.declared.runs.RunPhase.TheVariants.{Running}
use Rattle.sched_state.proofs.RepeatLemmas.{Falls}
use Rattle.instance_machine.specs.Instances.{InstanceValue}
use Rattle.sched_model.specs.Lists.{rises}
use Rattle.sched_model.specs.Schedule.{Schedule, is_running, graph_before, run_before}
use Rattle.sched_model.specs.Settle.{settle, moves_left, moves_left_of, finish_run, has_bad_leaf}
use Rattle.sched_model.specs.Handout.{in_instance}
use Rattle.sched_laws.specs.Sweep.{decide_one, decision, decide_at, put, sweep_places, sweep_runs, sweep}
use Rattle.sched_laws.specs.Stages.{IsOrdered, leads_down, finish_one, finish_every, start_one, ended_run, in_phase, phase_at}
use Rattle.sched_state.specs.declared.runs.RunPhase.{RunPhase}
use Rattle.std.proofs.lemmas.Bool.{eqb-true, eq-eqb, lt-ltb, and_from, or_left}
use Rattle.graph_file.proofs.ListLemmas.{mapped_none}
use Rattle.dag_check.specs.Orders.{is_in}
use Rattle.sched_state.specs.Lists.{change_from, first_change}
use Rattle.sched_laws.proofs.ListLemmas.{change_here}
use Rattle.sched_laws.proofs.LookLemmas.{get_apart}
use Rattle.sched_laws.proofs.DecisionLemmas.{by_bool}
use Rattle.sched_laws.proofs.SweepLemmas.{length_at}
use Rattle.sched_laws.proofs.StageLemmas.{phase_covers}
use Rattle.sched_settling.specs.Marks.{IsKeyed, IsCovered, IsStartAt}
use Rattle.sched_laws.proofs.RunLemmas.{Key, key, key_before, rises_map}
use Rattle.sched_laws.proofs.SoundLemmas.{same_order}
use Rattle.sched_laws.proofs.HandLemmas.{map_at}
use Rattle.sched_laws.proofs.DecisionLemmas.{one_falls}
use Rattle.sched_laws.proofs.SweepLemmas.{sweep_all}
use Rattle.sched_laws.proofs.SettleLemmas.{move_falls, finish_run_falls}
use Rattle.sched_laws.proofs.StageLemmas.{ordered_ends, move_starts, start_settles, started}

-- ---- what the stages leave as it is
pub record Frame : Type 0 where
  pub graphs : List LoadedGraph
  pub keys : List Key

frame : Schedule → Frame
frame a = record { graphs = a.graphs; keys = map key a.runs }

ordered_by : (a b : Schedule) → frame b ≡ frame a → IsOrdered a → IsOrdered b
unfolding frame
ordered_by a b e h = record {
  runs = same_order a.runs b.runs (ap (λ (f : Frame). f.keys) e) h.runs;
  graphs = subst (λ (gs : List LoadedGraph). list_all (λ (g : LoadedGraph). leads_down g.dag) gs ≡ true) (sym (ap (λ (f : Frame). f.graphs) e)) h.graphs;
}

framed : (a b : Schedule) → frame b ≡ frame a → IsKeyed a → IsKeyed b
unfolding frame
framed a b e h = record {
  ordered = ordered_by a b e h.ordered;
  graphs = subst (λ (gs : List LoadedGraph). rises graph_before gs ≡ true) (sym (ap (λ (f : Frame). f.graphs) e)) h.graphs;
}

put_frame : (a : Schedule) (j : InstanceValue) (n p : ℕ) → frame (put j n p a) ≡ frame a
unfolding frame
put_frame a j n p = ap (λ ks. record { graphs = a.graphs; keys = ks }) (map_at key (in_instance (λ i. j) p) n a.runs (λ r e. refl))

decide_frame : (a : Schedule) (n p : ℕ) → frame (decide_at n p a) ≡ frame a
decide_frame a n p = elim (decision a n p) as (λ o. decision a n p ≡ o → frame (decide_at n p a) ≡ frame a) [
  | Some j ↦ λ e. rw (e, decide_at) (put_frame a j n p)
  | None ↦ λ e. rw (e, decide_at) refl
] refl

pub decide_rises : (a : Schedule) (n p : ℕ) → rises run_before (decide_at n p a).runs ≡ rises run_before a.runs
unfolding frame
decide_rises a n p =
    sym (rises_map key_before key (decide_at n p a).runs) ∙ (ap (rises key_before) (ap (λ (f : Frame). f.keys) (decide_frame a n p)) ∙ rises_map key_before key a.runs)

places_frame : (k n p : ℕ) (a : Schedule) → frame (sweep_places k n p a) ≡ frame a
places_frame zero n p a = refl
places_frame (suc k) n p a = places_frame k n (p + 1) (decide_at n p a) ∙ decide_frame a n p

runs_frame : (rs : List Run) (n : ℕ) (a : Schedule) → frame (sweep_runs rs n a) ≡ frame a
runs_frame [] n a = refl
runs_frame (r ∷ rs) n a = runs_frame rs (n + 1) (sweep_places (length r.instances) n 0 a) ∙ places_frame (length r.instances) n 0 a

-- a run that ends keeps its key
end_key : (a : Schedule) (r : Run) → key (ended_run a r) ≡ key r
end_key a r = elim (is_running r.phase && list_all is_finished (states a r)) as (λ b. key (unwrap_or (when b (record r { phase = cond (has_bad_leaf a r) phase.Failed phase.Success })) r) ≡ key r) [
  | true ↦ refl
  | false ↦ refl
]

end_keys : (a : Schedule) (rs : List Run) → map key (map (ended_run a) rs) ≡ map key rs
end_keys a [] = refl
end_keys a (r ∷ rs) = ap (λ k. k ∷ map key (map (ended_run a) rs)) (end_key a r) ∙ ap (λ ks. key r ∷ ks) (end_keys a rs)

finish_frame : (a : Schedule) → frame (finish_every a) ≡ frame a
unfolding frame
finish_frame a = ap (λ ks. record { graphs = a.graphs; keys = ks }) (end_keys a a.runs)

pub sweep_keyed : (a : Schedule) → IsKeyed a → IsKeyed (sweep a)
sweep_keyed a h = framed a (sweep a) (runs_frame a.runs 0 a) h

pub finish_keyed : (a : Schedule) → IsKeyed a → IsKeyed (finish_every a)
finish_keyed a h = framed a (finish_every a) (finish_frame a) h

phase_frame : (ph : RunPhase) (n : ℕ) (a : Schedule) → frame (phase_at ph n a) ≡ frame a
unfolding frame
phase_frame ph n a = ap (λ ks. record { graphs = a.graphs; keys = ks }) (map_at key (in_phase ph) n a.runs (λ r e. refl))

start_frame : (a b : Schedule) → start_one a ≡ Some b → frame b ≡ frame a
unfolding frame
start_frame a b e =
    let t = started a b e in
    let s = t.1 in
    ap frame s.after ∙ ap (λ ks. record { graphs = a.graphs; keys = ks }) (map_at key (in_phase Running) t.0 a.runs (λ r f. refl))

pub start_keyed : (a b : Schedule) → IsKeyed a → start_one a ≡ Some b → IsKeyed b
start_keyed a b h e = framed a b (start_frame a b e) h

pub phase_keyed : (ph : RunPhase) (n : ℕ) (a : Schedule) → IsKeyed a → IsKeyed (phase_at ph n a)
phase_keyed ph n a h = framed a (phase_at ph n a) (phase_frame ph n a) h

-- ---- between two starts
-- settling from start leads on from w, in which neither a decision nor an end is possible
pub record IsStaged (start w : Schedule) : Type 0 where
  pub settles : settle start ≡ settle w
  pub decided : decide_one w ≡ None
  pub ended : finish_one w ≡ None
  pub keyed : IsKeyed w

pub stage_first : (a b : Schedule) → IsKeyed a → b ≡ finish_every (sweep a) → IsStaged a b
stage_first a b h is =
    let e = ordered_ends a h.ordered in
    subst (IsStaged a) (sym is) (record { settles = e.settles; decided = e.decided; ended = e.ended; keyed = finish_keyed (sweep a) (sweep_keyed a h) })

pub stage_next : (start w b c : Schedule) → IsStaged start w → start_one w ≡ Some b → c ≡ finish_every (sweep b) → IsStaged start c
stage_next start w b c s e is =
    let n = stage_first b c (start_keyed w b s.keyed e) is in
    record { settles = s.settles ∙ (start_settles w b s.decided s.ended e ∙ n.settles); decided = n.decided; ended = n.ended; keyed = n.keyed }

-- ---- it ends
repeat_low : {X : Type 0} (μ : X → ℕ) (f : X → Option X) → Falls μ f → (n : ℕ) (x : X) → μ (repeat n f x) ≤ μ x
repeat_low μ f falls zero x = omega arith
repeat_low μ f falls (suc n) x = elim (f x) as (λ o. f x ≡ o → μ (repeat (suc n) f x) ≤ μ x) [
  | Some y ↦ λ e. let l : μ y < μ x = falls x y e in let h : μ (repeat n f y) ≤ μ y = repeat_low μ f falls n y in rw (e, repeat) (omega arith)
  | None ↦ λ e. rw (e, repeat) (omega arith)
] refl

end_low : (a : Schedule) (r : Run) → moves_left_of (ended_run a r) ≤ moves_left_of r
end_low a r = elim (finish_run a r) as (λ o. finish_run a r ≡ o → moves_left_of (unwrap_or o r) ≤ moves_left_of r) [
  | Some q ↦ λ e. let h = finish_run_falls a r q e in omega arith
  | None ↦ λ e. omega arith
] refl

ends_low : (a : Schedule) (rs : List Run) → sum_by moves_left_of (map (ended_run a) rs) ≤ sum_by moves_left_of rs
ends_low a [] = omega arith
ends_low a (r ∷ rs) =
    let one = end_low a r in
    let rest = ends_low a rs in
    let left = sum_by-cons moves_left_of (ended_run a r) (map (ended_run a) rs) in
    let right = sum_by-cons moves_left_of r rs in
    omega (arith, one, rest, left, right)

pub stage_falls : (start w b c : Schedule) → IsStaged start w → start_one w ≡ Some b → c ≡ finish_every (sweep b) → moves_left c < moves_left w
stage_falls start w b c s e is =
    let h : IsOrdered b = (start_keyed w b s.keyed e).ordered in
    let first : moves_left b < moves_left w = move_falls w b (move_starts w b s.decided s.ended e) in
    let swept : moves_left (sweep b) ≤ moves_left b = subst (λ (x : Schedule). moves_left x ≤ moves_left b) (sym (sweep_all b h)) (repeat_low moves_left decide_one one_falls (moves_left b) b) in
    let ended : moves_left (finish_every (sweep b)) ≤ moves_left (sweep b) = ends_low (sweep b) (sweep b).runs in
    subst (λ (x : Schedule). moves_left x < moves_left w) (sym is) (omega arith)

-- ---- the run that started is all that is to be looked at
head_quiet : {X : Type 0} (f : X → Option X) (i : ℕ) (x : X) (xs : List X) → change_from (λ k y. f y) i (x ∷ xs) ≡ None → (f x ≡ None) × (change_from (λ k y. f y) (i + 1) xs ≡ None)
head_quiet {X} f i x xs e = elim (f x) as (λ o. f x ≡ o → change_here (λ k y. f y) i x xs o ≡ None → (f x ≡ None) × (change_from (λ k y. f y) (i + 1) xs ≡ None)) [
  | Some y ↦ λ p q. absurd (let c : ◌≡◌ {A = Option (List X)} (Some (y ∷ xs)) None = q in cc)
  | None ↦ λ p q. (p, mapped_none (λ ys. x ∷ ys) (change_from (λ k y. f y) (i + 1) xs) q)
] refl e

pub quiet_each : {X : Type 0} (f : X → Option X) (i m : ℕ) (xs : List X) (z : X) → change_from (λ k y. f y) i xs ≡ None → slice_get xs m ≡ Some z → f z ≡ None
quiet_each {X} f i m [] z e g = absurd (let c : ◌≡◌ {A = Option X} None (Some z) = g in cc)
quiet_each {X} f i zero (x ∷ xs) z e g =
    let c : ◌≡◌ {A = Option X} (Some x) (Some z) = g in
    let r : x ≡ z = cc in
    ap f (sym r) ∙ (head_quiet f i x xs e).0
quiet_each f i (suc m) (x ∷ xs) z e g = quiet_each f (i + 1) m xs z (head_quiet f i x xs e).1 g

pub started_covered : (start w b : Schedule) (n : ℕ) → IsStaged start w → IsStartAt w b n → IsCovered (n ∷ []) b
started_covered start w b n s t =
    let long : length (phase_at phase.Running n w).runs ≡ length w.runs = length_at (in_phase phase.Running) n w.runs in
    subst (IsCovered (n ∷ [])) (sym t.after) (record {
      rising = refl;
      within = and_from (nat_lt n (length (phase_at phase.Running n w).runs)) true (lt-ltb n (length (phase_at phase.Running n w).runs) (subst (λ (i : ℕ). n < i) (sym long) t.inside)) refl;
      decisions = λ m q j e. let i : m ≡ n = phase_covers w phase.Running n m q j s.decided e in or_left (nat_eq n m) false (eq-eqb n m (sym i));
      endings = λ m r q e f. by_bool {C = is_in (n ∷ []) m ≡ true} (nat_eq m n)
          (λ g. or_left (nat_eq n m) false (eq-eqb n m (sym (eqb-true m n g))))
          (λ g. absurd (
          let none : finish_run w r ≡ None = quiet_each (finish_run w) 0 m w.runs r (mapped_none (λ rs. record w { runs = rs }) (first_change (finish_run w) w.runs) s.ended) (sym (get_apart (in_phase phase.Running) n m w.runs g) ∙ e) in
          let c : ◌≡◌ {A = Option Run} None (Some q) = sym none ∙ f in
          cc));
    })
