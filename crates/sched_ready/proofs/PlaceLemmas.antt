-- Runs that are not touched, and what is kept on its side of the clock.
use Rattle.std.proofs.Common.{◌≡◌, ◌∙◌, inl, inr, refl, sym, ap, ℕ, zero, suc, ◌+◌, ◌<◌, ◌≤◌, List, [], ◌∷◌, Bool, true, false, cond, ◌&&◌, ◌||◌, length, map, Contains, true≢false, Some, slice_get, nat_le, nat_eq, arith}
use Rattle.std.proofs.lemmas.Bool.{and_from, eqb-true, eq-eqb, false_from_ne_true, le-leb, leb-true, or_cases, or_right}
use Rattle.std.proofs.lemmas.Bool.Decides.{nat_tests}
use Rattle.std.proofs.lemmas.Option.{slice_get_read}
use Rattle.std.specs.List.{list_any}
use Rattle.graph_file.specs.declared.task_specs.TaskSpec.{TaskSpec}
use Rattle.dag_check.specs.Orders.{is_in}
use Rattle.sched_draft.specs.run_lists.Marks.{Mark, is_touched, is_touched_at, runs_of, touched_from, touched_in}
use Rattle.sched_draft.specs.run_lists.Overlays.{AreAllTouched}
use Rattle.sched_draft.proofs.run_lists.LawLemmas.{there_over}
use Rattle.sched_model.specs.Schedule.{Schedule, is_at}
use Rattle.sched_model.specs.Sound.{IsSound}
use Rattle.sched_model.specs.instance_machine.Instances.{InstanceValue}
use Rattle.sched_model.specs.sched_state.Lists.{same}
use Rattle.sched_model.specs.sched_state.declared.runs.Run.{Run}
use Rattle.sched_model.proofs.sched_state.NameLemmas.{same_is, same_itself}
use Rattle.sched_model.proofs.sched_state.OrderLemmas.{and_left, and_right}
use Rattle.sched_laws.proofs.DecisionLemmas.{by_bool}
use Rattle.sched_laws.proofs.KeyLemmas.{date_once}
use Rattle.sched_ready.specs.Due.{is_kept, waits_for}
use Rattle.sched_ready.specs.Leading.{moments_of}
use Rattle.sched_ready.specs.Patching.{IsAhead}
use Rattle.sched_ready.specs.declared.queues.Queue.{Queue}

-- a position that is none of them is not touched
touched_there : (k n : ℕ) (ms : List Mark) → is_touched_at n ms ≡ true → is_in (touched_from k ms) (k + n) ≡ true
touched_there k n [] e = absurd (true≢false (sym e))
touched_there k zero (m ∷ ms) e =
    let z : k ≡ k + 0 = omega arith in
    ap (λ b. is_in (cond b (k ∷ touched_from (k + 1) ms) (touched_from (k + 1) ms)) (k + 0)) e ∙ ap (λ b. b || is_in (touched_from (k + 1) ms) (k + 0)) (eq-eqb k (k + 0) z)
touched_there k (suc n) (m ∷ ms) e =
    let z : (k + 1) + n ≡ k + suc n = omega arith in
    let rest : is_in (touched_from (k + 1) ms) (k + suc n) ≡ true = ap (is_in (touched_from (k + 1) ms)) (sym z) ∙ touched_there (k + 1) n ms e in
    by (is_touched m) rest
  where
    by : (b : Bool) → is_in (touched_from (k + 1) ms) (k + suc n) ≡ true → is_in (cond b (k ∷ touched_from (k + 1) ms) (touched_from (k + 1) ms)) (k + suc n) ≡ true
    by true f = or_right (nat_eq k (k + suc n)) _ f
    by false f = f

-- a run that is not touched was there
pub untouched_was : (ns : List ℕ) (a b : List Run) (n : ℕ) (r : Run) → AreAllTouched ns a b → is_in ns n ≡ false → slice_get b n ≡ Some r → Contains a r
untouched_was ns a b n r h out there = there_over h.marks a b n r h.over there (false_from_ne_true (is_touched_at n h.marks) (λ e.
    true≢false (sym (touched_there 0 n h.marks e) ∙ (ap (is_in (touched_in h.marks)) (zero_plus n) ∙ (ap (λ ms. is_in ms n) (sym h.positions) ∙ out)))))
  where
    zero_plus : (m : ℕ) → 0 + m ≡ m
    zero_plus m = omega arith

-- touched positions stand among the runs
length_from : (k n : ℕ) (ms : List Mark) → is_in (touched_from k ms) n ≡ true → n < k + length ms
length_from k n [] e = absurd (true≢false (sym e))
length_from k n (m ∷ ms) e = by (is_touched m) (λ f. let l = length_from (k + 1) n ms f in omega (arith, l)) e
  where
    by : (b : Bool) → (is_in (touched_from (k + 1) ms) n ≡ true → n < k + suc (length ms)) → is_in (cond b (k ∷ touched_from (k + 1) ms) (touched_from (k + 1) ms)) n ≡ true → n < k + suc (length ms)
    by true later f = by_bool {C = n < k + suc (length ms)} (nat_eq k n) (λ g. let i = eqb-true k n g in omega (arith, i)) (λ g. later (sym (ap (λ b. b || is_in (touched_from (k + 1) ms) n) g) ∙ f))
    by false later f = later f

runs_long : (ms : List Mark) → length (runs_of ms) ≡ length ms
runs_long [] = refl
runs_long (m ∷ ms) = ap suc (runs_long ms)

pub touched_within : (ns : List ℕ) (a b : List Run) (n : ℕ) → AreAllTouched ns a b → is_in ns n ≡ true → n < length b
touched_within ns a b n h i =
    let l = length_from 0 n h.marks (ap (λ ms. is_in ms n) (sym h.positions) ∙ i) in
    let k = ap (λ (rs : List Run). length rs) (sym h.over.runs) ∙ runs_long h.marks in
    omega (arith, l, k)

-- where it was
pub was_at : (ns : List ℕ) (a b : List Run) (n : ℕ) (r : Run) → AreAllTouched ns a b → is_in ns n ≡ false → slice_get b n ≡ Some r → (k : ℕ) × (slice_get a k ≡ Some r)
was_at ns a b n r h out there = let w = untouched_was ns a b n r h out there in (w.0, slice_get_read a (length a) w.0 r refl w.1 (sym w.2))

pub own_key : (r : Run) → is_at r.graph r.logical r ≡ true
own_key r = and_from (same r.graph r.graph) _ (same_itself r.graph) (eq-eqb r.logical r.logical refl)

-- a date that waits for a moment
waits_moment : (m d : ℕ) (ws : List (ℕ × ℕ)) → list_any (λ (w : ℕ × ℕ). nat_eq w.0 m && nat_eq w.1 d) ws ≡ true → is_in (map (λ (w : ℕ × ℕ). w.0) ws) m ≡ true
waits_moment m d [] h = h
waits_moment m d (w ∷ ws) h = elim (or_cases (nat_eq w.0 m && nat_eq w.1 d) _ h) as (λ _. (nat_eq w.0 m || is_in (map (λ (v : ℕ × ℕ). v.0) ws) m) ≡ true) [
  | inl i ↦ ap (λ b. b || is_in (map (λ (v : ℕ × ℕ). v.0) ws) m) (and_left _ _ i)
  | inr i ↦ or_right (nat_eq w.0 m) _ (waits_moment m d ws i)
]

-- what is kept stays on its side of the clock, where no moment that waits has come
pub side : (a b : ℕ) (q : Queue) (d m : ℕ) → a ≤ b → is_kept a q d m ≡ true → IsAhead b q → nat_le m a ≡ nat_le m b
side a b q d m l h ahead = by_bool {C = nat_le m a ≡ nat_le m b} (nat_le m a)
    (λ e. let k = leb-true m a e in e ∙ sym (le-leb m b (omega (arith, k, l))))
    (λ e.
    let w : waits_for q m d ≡ true = sym (ap (λ c. cond c (is_in q.ready.keys d) (waits_for q m d)) e) ∙ h in
    let k = ahead m (waits_moment m d q.waiting.keys w) in
    e ∙ sym (above m b k))
  where
    above : (x y : ℕ) → y < x → nat_le x y ≡ false
    above x y k = grind (arith, nat_tests)
