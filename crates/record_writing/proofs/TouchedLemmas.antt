-- The rows that a draft has and the schedule under it lacks go by the touched runs.
use Rattle.std.proofs.Common.{◌≡◌, refl, sym, ap, ◌∙◌, ℕ, zero, suc, ◌+◌, ◌-◌, ◌<◌, List, [], ◌∷◌, ◌++◌, Bool, true, false, cond, ◌||◌, ◌==◌, subst, length, inl, inr, map, flat_map, take, drop, Option, Some, None, slice_get, arith}
use Rattle.std.specs.List.{zip}
use Rattle.std.specs.Option.{option_to_list}
use Rattle.std.proofs.lemmas.Grind.{flat_map-append}
use Rattle.std.proofs.lemmas.List.{length-map}
use Rattle.std.proofs.lemmas.List.Concat.{flat_map_single}
use Rattle.dag_check.specs.Graphs.{Dag}
use Rattle.record_rows.specs.Rows.{RunRow, InstanceRow, AttemptRow}
use Rattle.sched_draft.specs.run_lists.Marks.{Mark, Kept, Changed, Added, now_of, runs_of, base_of, is_touched, touched_from, touched_in}
use Rattle.sched_draft.specs.run_lists.Overlays.{AreAllTouched}
use Rattle.sched_draft.proofs.run_lists.LawLemmas.{flat_over}
use Rattle.sched_draft.proofs.run_lists.PickLemmas.{picked, picked_over}
use Rattle.dag_check.specs.Orders.{is_in}
use Rattle.std.proofs.lemmas.Bool.{ne_eqb}
use Rattle.record_writing.specs.Before.{KeepDags}
use Rattle.sched_state.specs.declared.runs.Run.{Run}
use Rattle.sched_model.specs.Lists.{rises}
use Rattle.sched_model.specs.Schedule.{Schedule}
use Rattle.sched_model.specs.Tables.{tables, run_row, instance_row, instance_rows, attempt_rows, serial_before, sort_by, task_before}
use Rattle.record_rules.specs.Between.{lacked}
use Rattle.record_rules.proofs.ListLemmas.{append_none}
use Rattle.record_rules.proofs.MemberLemmas.{has_cases, map_get}
use Rattle.record_rules.specs.Changes.{same_run_row, same_instance_row, same_attempt_row}
use Rattle.record_writing.specs.Places.{put_each}
use Rattle.record_writing.proofs.CollectLemmas.{from_place, put_joined}
use Rattle.record_writing.proofs.KeptLemmas.{run_was, instances_were, tries_were}
use Rattle.record_writing.proofs.LackedLemmas.{lacked_joined}
use Rattle.record_writing.proofs.WholeLemmas.{tries_of_run, attempts_whole, flat_next}

-- ---- lists that are made of the runs
-- what is lacked of all runs together is what is lacked of each
lacked_flat : {X Y : Type 0} (same_row : X → X → Bool) (xs : List X) (f : Y → List X) (rs : List Y) → lacked same_row xs (flat_map f rs) ≡ flat_map (λ r. lacked same_row xs (f r)) rs
lacked_flat same_row xs f [] = refl
lacked_flat same_row xs f (r ∷ rs) = lacked_joined same_row xs (f r) (flat_map f rs) ∙ ap (λ ys. lacked same_row xs (f r) ++ ys) (lacked_flat same_row xs f rs)

-- ---- marks
-- a run that is not touched was there
kept_there : (ms : List Mark) (n : ℕ) (r : Run) → slice_get ms n ≡ Some (Kept r) → (m : ℕ) × (slice_get (base_of ms) m ≡ Some r)
kept_there [] n r e = absurd (let c : ◌≡◌ {A = Option Mark} None (Some (Kept r)) = e in cc)
kept_there (Kept q ∷ ms) zero r e = let c : ◌≡◌ {A = Option Mark} (Some (Kept q)) (Some (Kept r)) = e in let i : q ≡ r = cc in (zero, ap (λ (x : Run). let o : Option Run = Some x in o) i)
kept_there (Changed q s ∷ ms) zero r e = absurd (let c : ◌≡◌ {A = Option Mark} (Some (Changed q s)) (Some (Kept r)) = e in cc)
kept_there (Added s ∷ ms) zero r e = absurd (let c : ◌≡◌ {A = Option Mark} (Some (Added s)) (Some (Kept r)) = e in cc)
kept_there (Kept q ∷ ms) (suc n) r e = let k = kept_there ms n r e in (suc k.0, k.1)
kept_there (Changed q s ∷ ms) (suc n) r e = let k = kept_there ms n r e in (suc k.0, k.1)
kept_there (Added s ∷ ms) (suc n) r e = kept_there ms n r e

-- positions from one on are none below it
none_below : (k : ℕ) (ms : List Mark) (n : ℕ) → n < k → is_in (touched_from k ms) n ≡ false
none_below k [] n l = refl
none_below k (m ∷ ms) n l = elim (is_touched m) as (λ b. is_in (cond b (k ∷ touched_from (k + 1) ms) (touched_from (k + 1) ms)) n ≡ false) [
  | true ↦ let other : (k == n) ≡ false = ne_eqb k n (λ e. omega arith) in ap (λ b. b || is_in (touched_from (k + 1) ms) n) other ∙ none_below (k + 1) ms n (omega arith)
  | false ↦ none_below (k + 1) ms n (omega arith)
]

none_first : (k n : ℕ) (ns : List ℕ) → k < n → is_in ns n ≡ false → is_in (k ∷ ns) n ≡ false
none_first k n ns l e = let other : (k == n) ≡ false = ne_eqb k n (λ e. omega arith) in ap (λ b. b || is_in ns n) other ∙ e

-- the position of a run that is as it was is none of the touched
untouched : (k : ℕ) (ms : List Mark) (n : ℕ) (r : Run) → slice_get ms n ≡ Some (Kept r) → is_in (touched_from k ms) (k + n) ≡ false
untouched k [] n r e = absurd (let c : ◌≡◌ {A = Option Mark} None (Some (Kept r)) = e in cc)
untouched k (m ∷ ms) zero r e =
    let c : ◌≡◌ {A = Option Mark} (Some m) (Some (Kept r)) = e in let is : m ≡ Kept r = cc in
    ap (λ (w : Mark). is_in (cond (is_touched w) (k ∷ touched_from (k + 1) ms) (touched_from (k + 1) ms)) (k + 0)) is
    ∙ none_below (k + 1) ms (k + 0) (omega arith)
untouched k (m ∷ ms) (suc n) r e =
    let z : (k + 1) + n ≡ k + suc n = omega arith in
    let rest : is_in (touched_from (k + 1) ms) (k + suc n) ≡ false = subst (λ j. is_in (touched_from (k + 1) ms) j ≡ false) z (untouched (k + 1) ms n r e) in
    elim (is_touched m) as (λ b. is_in (cond b (k ∷ touched_from (k + 1) ms) (touched_from (k + 1) ms)) (k + suc n) ≡ false) [
      | true ↦ none_first k (k + suc n) (touched_from (k + 1) ms) (omega arith) rest
      | false ↦ rest
    ]

-- a touched position is one of a run
touched_below : (n : ℕ) (ms : List Mark) (k p : ℕ) → slice_get (touched_from n ms) k ≡ Some p → p < n + length ms
touched_below n [] k p e = absurd (let c : ◌≡◌ {A = Option ℕ} None (Some p) = e in cc)
touched_below n (m ∷ ms) k p e = elim (is_touched m) as (λ b. slice_get (cond b (n ∷ touched_from (n + 1) ms) (touched_from (n + 1) ms)) k ≡ Some p → p < n + suc (length ms)) [
  | true ↦ λ g. elim (has_cases n (touched_from (n + 1) ms) p (record { at = k; is = g })) [
    | inl i ↦ omega (arith, i)
    | inr h ↦ let l = touched_below (n + 1) ms h.at p h.is in omega (arith, l)
  ]
  | false ↦ λ g. let l = touched_below (n + 1) ms k p g in omega (arith, l)
] e

pub touched_within : (ns : List ℕ) (a b : List Run) (k p : ℕ) → AreAllTouched ns a b → slice_get ns k ≡ Some p → p < length b
touched_within ns a b k p t e =
    let l = touched_below 0 t.marks k p (ap (λ xs. slice_get xs k) (sym t.positions) ∙ e) in
    let long : length (runs_of t.marks) ≡ length b = ap (λ (rs : List Run). length rs) t.over.runs in
    omega (arith, l, long, length-map t.marks now_of)

-- ---- from the first touched run to the last, and back
picked_one : {X : Type 0} (f : Run → List X) (b : List Run) (p : ℕ) (r : Run) → slice_get b p ≡ Some r → flat_map f (option_to_list (slice_get b p)) ≡ f r
picked_one f b p r e = ap (λ o. flat_map f (option_to_list o)) e ∙ append_none (f r)

pub touched_next : {X : Type 0} (f : Run → List X) (b : List Run) (ns : List ℕ) (k p : ℕ) (r : Run) → slice_get ns k ≡ Some p → slice_get b p ≡ Some r
    → flat_map f (picked b (take (k + 1) ns)) ≡ flat_map f (picked b (take k ns)) ++ f r
touched_next f b ns k p r e g =
    ap (flat_map f) (flat_next (λ n. option_to_list (slice_get b n)) ns k p e)
    ∙ flat_map-append f (picked b (take k ns)) (option_to_list (slice_get b p))
    ∙ ap (λ ys. flat_map f (picked b (take k ns)) ++ ys) (picked_one f b p r g)

pub touched_from_place : {X : Type 0} (f : Run → List X) (b : List Run) (ns : List ℕ) (k p : ℕ) (r : Run) → 0 < k → slice_get ns (k - 1) ≡ Some p → slice_get b p ≡ Some r
    → flat_map f (picked b (drop (k - 1) ns)) ≡ f r ++ flat_map f (picked b (drop k ns))
touched_from_place f b ns k p r some e g =
    ap (λ xs. flat_map f (picked b xs)) (from_place ns k p some e)
    ∙ flat_map-append f (option_to_list (slice_get b p)) (picked b (drop k ns))
    ∙ ap (λ ys. ys ++ flat_map f (picked b (drop k ns))) (picked_one f b p r g)

-- ---- what is lacked goes by the touched runs
-- a run that is not touched: it is there as it was
record IsUntouched (ns : List ℕ) (a b : List Run) (r : Run) : Type 0 where
  was : ℕ
  was_at : slice_get a was ≡ Some r
  is : ℕ
  is_at : slice_get b is ≡ Some r
  other : is_in ns is ≡ false

kept_is : (ns : List ℕ) (a b : List Run) (t : AreAllTouched ns a b) (n : ℕ) (r : Run) → slice_get t.marks n ≡ Some (Kept r) → IsUntouched ns a b r
kept_is ns a b t n r e =
    let k = kept_there t.marks n r e in
    let z : 0 + n ≡ n = omega arith in
    record {
      was = k.0;
      was_at = ap (λ (rs : List Run). slice_get rs k.0) (sym t.over.base) ∙ k.1;
      is = n;
      is_at = ap (λ (rs : List Run). slice_get rs n) (sym t.over.runs) ∙ map_get now_of t.marks n (Kept r) e;
      other = ap (λ (ps : List ℕ). is_in ps n) t.positions ∙ subst (λ j. is_in (touched_in t.marks) j ≡ false) z (untouched 0 t.marks n r e);
    }

by_touched : {X : Type 0} (same_row : X → X → Bool) (xs : List X) (f : Run → List X) (ns : List ℕ) (a b : List Run) → AreAllTouched ns a b
    → ((r : Run) → IsUntouched ns a b r → lacked same_row xs (f r) ≡ []) → flat_map (λ r. lacked same_row xs (f r)) (picked b ns) ≡ lacked same_row xs (flat_map f b)
by_touched {X} same_row xs f ns a b t kept =
    let each : Run → List X = λ r. lacked same_row xs (f r) in
    ap (λ ps. flat_map each (picked b ps)) t.positions
    ∙ ap (flat_map each) (picked_over t.marks a b t.over)
    ∙ sym (flat_over each t.marks a b t.over (λ n r e. kept r (kept_is ns a b t n r e)))
    ∙ sym (lacked_flat same_row xs f b)

-- the rows of one run that a schedule lacks
abbrev pub run_lacked : List Run → Run → List RunRow
run_lacked rs r = lacked same_run_row (map run_row rs) (run_row r ∷ [])

abbrev pub instances_lacked : Schedule → Schedule → Run → List InstanceRow
instances_lacked a b r = lacked same_instance_row (tables a).instances (instance_rows b r)

abbrev pub tries_lacked : Schedule → Schedule → Run → List AttemptRow
tries_lacked a b r = lacked same_attempt_row (tables a).attempts (tries_of_run b r)

pub runs_by_touched : (ns : List ℕ) (a b : List Run) → AreAllTouched ns a b → flat_map (run_lacked a) (picked b ns) ≡ lacked same_run_row (map run_row a) (map run_row b)
runs_by_touched ns a b t =
    by_touched same_run_row (map run_row a) (λ r. run_row r ∷ []) ns a b t (λ r u. run_was a u.was r u.was_at)
    ∙ ap (lacked same_run_row (map run_row a)) (flat_map_single run_row b)

pub instances_by_touched : (ns : List ℕ) (a b : Schedule) → AreAllTouched ns a.runs b.runs → KeepDags ns a b
    → flat_map (instances_lacked a b) (picked b.runs ns) ≡ lacked same_instance_row (tables a).instances (tables b).instances
instances_by_touched ns a b t dags =
    by_touched same_instance_row (tables a).instances (instance_rows b) ns a.runs b.runs t
    (λ r u. ap (λ (d : Dag). lacked same_instance_row (tables a).instances (sort_by task_before (map (instance_row r) (zip d.tasks r.instances)))) (dags u.is r u.is_at u.other) ∙ instances_were a u.was r u.was_at)

pub attempts_by_touched : (ns : List ℕ) (a b : Schedule) → AreAllTouched ns a.runs b.runs → KeepDags ns a b → rises serial_before (tables b).attempts ≡ true
    → put_each serial_before (flat_map (tries_lacked a b) (picked b.runs ns)) [] ≡ lacked same_attempt_row (tables a).attempts (tables b).attempts
attempts_by_touched ns a b t dags rise =
    ap (λ (xs : List AttemptRow). put_each serial_before xs [])
    (by_touched same_attempt_row (tables a).attempts (tries_of_run b) ns a.runs b.runs t
    (λ r u. ap (λ (d : Dag). lacked same_attempt_row (tables a).attempts (flat_map (attempt_rows r) (zip d.tasks r.instances))) (dags u.is r u.is_at u.other) ∙ tries_were a u.was r u.was_at))
    ∙ attempts_whole (tables a).attempts b rise

-- the rows of the tries of one touched run more, put at their places
pub tries_from_place : (a s : Schedule) (b : List Run) (ns : List ℕ) (k p : ℕ) (r : Run) → 0 < k → slice_get ns (k - 1) ≡ Some p → slice_get b p ≡ Some r
    → put_each serial_before (flat_map (tries_lacked a s) (picked b (drop (k - 1) ns))) [] ≡ put_each serial_before (tries_lacked a s r) (put_each serial_before (flat_map (tries_lacked a s) (picked b (drop k ns))) [])
tries_from_place a s b ns k p r some e g =
    ap (λ (xs : List AttemptRow). put_each serial_before xs []) (touched_from_place (tries_lacked a s) b ns k p r some e g)
    ∙ put_joined serial_before (tries_lacked a s r) (flat_map (tries_lacked a s) (picked b (drop k ns))) []
