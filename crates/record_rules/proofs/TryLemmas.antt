-- The tries of a sound instance pass as rows.
use Rattle.std.proofs.Common.{◌≡◌, refl, sym, ap, subst, ◌∙◌, ℕ, zero, suc, ◌+◌, ◌-◌, ◌<◌, ◌≤◌, List, [], ◌∷◌, Bool, true, false, not, ◌&&◌, ◌||◌, ◌==◌, if◌then◌else◌, map, filter, length, take, drop, Option, Some, None, option_map, slice_get, arith, true≢false, nat_lt, nat_le, leb-true, is_some, pos, int_lt, int_eq}
use Rattle.std.specs.List.{list_all, list_any, enumerate_from}
use Rattle.std.proofs.lemmas.Bool.{and_from, le-leb, ltb-true, ltb-false, leb-false, false_from_ne_true}
use Rattle.std.proofs.lemmas.List.{length-drop}
use Rattle.graph_file.specs.declared.task_specs.TaskSpec.{TaskSpec}
use Rattle.sched_laws.specs.trigger_rules.declared.verdicts.Verdict.{Verdict}
use Rattle.sched_laws.specs.trigger_rules.declared.verdicts.Verdict.TheVariants as verdict
use Rattle.sched_laws.specs.instance_machine.Instances.{InstanceValue, recent}
use Rattle.sched_laws.specs.instance_machine.declared.tries.Try.{Try}
use Rattle.sched_laws.specs.instance_machine.declared.tries.End.{End}
use Rattle.sched_laws.specs.instance_machine.declared.tries.Outcome.{Outcome}
use Rattle.sched_laws.specs.instance_machine.declared.tries.Outcome.TheVariants as outcome
use Rattle.record_rows.specs.Rows.{AttemptRow}
use Rattle.sched_laws.specs.sched_state.declared.runs.Run.{Run}
use Rattle.sched_laws.proofs.sched_state.OrderLemmas.{and_left, and_right}
use Rattle.sched_laws.specs.sched_model.Lists.{rises, but_last}
use Rattle.sched_laws.specs.sched_model.Sound.{is_sound_try, is_sound_end, is_sound_instance, is_moment, is_moment_if, may_end, has_end, has_failed, is_failure_if, is_run, is_empty, is_used, try_before}
use Rattle.sched_laws.specs.sched_model.Tables.{instance_row, attempt_row, attempt_rows, verdict_code, outcome_code}
use Rattle.sched_laws.proofs.ListLemmas.{all_get}
use Rattle.sched_laws.proofs.InstanceLemmas.{Parts, parts_of}
use Rattle.record_rules.specs.Faults.{is_attempt_of, is_end_row_right, is_turn_row_right, has_later, is_failure_code}
use Rattle.record_rules.proofs.NumberLemmas.{same_naturals, equal_naturals, moment_up_to, moments_up_to}
use Rattle.record_rules.proofs.ListLemmas.{filter_yes, filter_no}

-- ---- elements of lists
pub at_below : {X : Type 0} (xs : List X) (n : ℕ) (x : X) → slice_get xs n ≡ Some x → n < length xs
at_below {X} [] n x e = absurd (let c : ◌≡◌ {A = Option X} None (Some x) = e in cc)
at_below (y ∷ ys) zero x e = omega arith
at_below (y ∷ ys) (suc n) x e = let l : n < length ys = at_below ys n x e in omega arith

taken_all : {X : Type 0} (p : X → Bool) (s : ℕ) (xs : List X) (n : ℕ) (x : X) → list_all p (take s xs) ≡ true → slice_get xs n ≡ Some x → n < s → p x ≡ true
taken_all {X} p s [] n x a e l = absurd (let c : ◌≡◌ {A = Option X} None (Some x) = e in cc)
taken_all p zero (y ∷ ys) n x a e l = absurd (omega arith)
taken_all {X} p (suc s) (y ∷ ys) zero x a e l = let c : ◌≡◌ {A = Option X} (Some y) (Some x) = e in let r : y ≡ x = cc in ap p (sym r) ∙ and_left _ _ a
taken_all p (suc s) (y ∷ ys) (suc n) x a e l = taken_all p s ys n x (and_right (p y) _ a) e (omega arith)

inner_all : {X : Type 0} (p : X → Bool) (xs : List X) (n : ℕ) (x : X) → list_all p (but_last xs) ≡ true → slice_get xs n ≡ Some x → n + 1 < length xs → p x ≡ true
inner_all {X} p [] n x a e l = absurd (let c : ◌≡◌ {A = Option X} None (Some x) = e in cc)
inner_all p (y ∷ []) n x a e l = absurd (let k : n + 1 < 1 = l in omega arith)
inner_all {X} p (y ∷ z ∷ xs) zero x a e l = let c : ◌≡◌ {A = Option X} (Some y) (Some x) = e in let r : y ≡ x = cc in ap p (sym r) ∙ and_left _ _ a
inner_all p (y ∷ z ∷ xs) (suc n) x a e l = inner_all p (z ∷ xs) n x (and_right (p y) _ a) e (let k : suc n + 1 < suc (length (z ∷ xs)) = l in omega arith)

dropped_all : {X : Type 0} (p : X → Bool) (s : ℕ) (xs : List X) (n : ℕ) (x : X) → list_all p (but_last (drop s xs)) ≡ true → slice_get xs n ≡ Some x → s ≤ n → n + 1 < length xs → p x ≡ true
dropped_all {X} p s [] n x a e l m = absurd (let c : ◌≡◌ {A = Option X} None (Some x) = e in cc)
dropped_all p zero (y ∷ ys) n x a e l m = inner_all p (y ∷ ys) n x a e m
dropped_all p (suc s) (y ∷ ys) zero x a e l m = absurd (omega arith)
dropped_all p (suc s) (y ∷ ys) (suc n) x a e l m = dropped_all p s ys n x a e (omega arith) (let k : suc n + 1 < suc (length ys) = m in omega arith)

some_left : {X : Type 0} (s : ℕ) (xs : List X) (b : Bool) → s < length xs → (is_empty (drop s xs) || b) ≡ true → b ≡ true
some_left s [] b l e = absurd (omega arith)
some_left zero (y ∷ ys) b l e = e
some_left (suc s) (y ∷ ys) b l e = some_left s ys b (omega arith) e

-- ---- rows of tries
pub rows_all : (p : AttemptRow → Bool) (r : Run) (t : TaskSpec) (k : ℕ) (ts : List Try) → ((n : ℕ) (y : Try) → slice_get ts n ≡ Some y → p (attempt_row r t (k + n, y)) ≡ true)
    → list_all p (map (attempt_row r t) (enumerate_from k ts)) ≡ true
rows_all p r t k [] h = refl
rows_all p r t k (y ∷ ts) h =
    let here : k + 0 ≡ k = omega arith in
    and_from _ _ (subst (λ (m : ℕ). p (attempt_row r t (m, y)) ≡ true) here (h zero y refl))
    (rows_all p r t (k + 1) ts (λ n z e. let there : k + suc n ≡ (k + 1) + n = omega arith in subst (λ (m : ℕ). p (attempt_row r t (m, z)) ≡ true) there (h (suc n) z e)))

pub rows_count : (r : Run) (t : TaskSpec) (k : ℕ) (ts : List Try) → length (map (attempt_row r t) (enumerate_from k ts)) ≡ length ts
rows_count r t k [] = refl
rows_count r t k (y ∷ ts) = ap suc (rows_count r t (k + 1) ts)

-- none of those after comes before
none_before : (r : Run) (t : TaskSpec) (s k : ℕ) (ts : List Try) → list_all (λ (w : Try). nat_lt s w.serial) ts ≡ true → filter (λ (x : AttemptRow). int_lt x.serial (pos s)) (map (attempt_row r t) (enumerate_from k ts)) ≡ []
none_before r t s k [] e = refl
none_before r t s k (y ∷ ts) e =
    let l : s < y.serial = ltb-true s y.serial (and_left _ _ e) in
    filter_no (λ (x : AttemptRow). int_lt x.serial (pos s)) (attempt_row r t (k, y)) (map (attempt_row r t) (enumerate_from (k + 1) ts)) (not_lt y.serial s (omega arith))
    ∙ none_before r t s (k + 1) ts (and_right (nat_lt s y.serial) _ e)
  where
    not_lt : (m n : ℕ) → n ≤ m → nat_lt m n ≡ false
    not_lt m n l = false_from_ne_true (nat_lt m n) (λ e. let k : m < n = ltb-true m n e in omega arith)

pub not_below : (m n : ℕ) → n ≤ m → nat_lt m n ≡ false
not_below m n l = false_from_ne_true (nat_lt m n) (λ e. let k : m < n = ltb-true m n e in omega arith)

count_before : (r : Run) (t : TaskSpec) (k : ℕ) (ts : List Try) (n : ℕ) (y : Try) → rises try_before ts ≡ true → slice_get ts n ≡ Some y
    → length (filter (λ (x : AttemptRow). int_lt x.serial (pos y.serial)) (map (attempt_row r t) (enumerate_from k ts))) ≡ n
count_before r t k [] n y e f = absurd (let c : ◌≡◌ {A = Option Try} None (Some y) = f in cc)
count_before r t k (w ∷ ts) zero y e f =
    let c : ◌≡◌ {A = Option Try} (Some w) (Some y) = f in let q : w ≡ y = cc in
    subst (λ (z : Try). length (filter (λ (x : AttemptRow). int_lt x.serial (pos z.serial)) (map (attempt_row r t) (enumerate_from k (w ∷ ts)))) ≡ 0) q
    (ap length (filter_no (λ (x : AttemptRow). int_lt x.serial (pos w.serial)) (attempt_row r t (k, w)) (map (attempt_row r t) (enumerate_from (k + 1) ts)) (not_below w.serial w.serial (omega arith))
    ∙ none_before r t w.serial (k + 1) ts (and_left _ _ e)))
count_before r t k (w ∷ ts) (suc n) y e f =
    ap length (filter_yes (λ (x : AttemptRow). int_lt x.serial (pos y.serial)) (attempt_row r t (k, w)) (map (attempt_row r t) (enumerate_from (k + 1) ts)) (all_get (try_before w) ts n y (and_left _ _ e) f))
    ∙ ap suc (count_before r t (k + 1) ts n y (and_right (list_all (try_before w) ts) _ e) f)

-- after the last of them comes none
none_later : (r : Run) (t : TaskSpec) (k : ℕ) (ts : List Try) (n : ℕ) (y : Try) → rises try_before ts ≡ true → slice_get ts n ≡ Some y → length ts ≤ n + 1
    → list_any (λ (x : AttemptRow). int_lt (pos y.serial) x.serial) (map (attempt_row r t) (enumerate_from k ts)) ≡ false
none_later r t k [] n y e f l = absurd (let c : ◌≡◌ {A = Option Try} None (Some y) = f in cc)
none_later r t k (w ∷ []) zero y e f l =
    let c : ◌≡◌ {A = Option Try} (Some w) (Some y) = f in let q : w ≡ y = cc in
    subst (λ (z : Try). list_any (λ (x : AttemptRow). int_lt (pos z.serial) x.serial) (map (attempt_row r t) (enumerate_from k (w ∷ []))) ≡ false) q
    (ap (λ b. b || false) (not_below w.serial w.serial (omega arith)))
none_later r t k (w ∷ v ∷ ts) zero y e f l = absurd (let m : suc (suc (length ts)) ≤ 1 = l in omega arith)
none_later r t k (w ∷ ts) (suc n) y e f l =
    let b : w.serial < y.serial = ltb-true w.serial y.serial (all_get (try_before w) ts n y (and_left _ _ e) f) in
    ap (λ c. c || list_any (λ (x : AttemptRow). int_lt (pos y.serial) x.serial) (map (attempt_row r t) (enumerate_from (k + 1) ts))) (not_below y.serial w.serial (omega arith))
    ∙ none_later r t (k + 1) ts n y (and_right (list_all (try_before w) ts) _ e) f (let m : suc (length ts) ≤ suc n + 1 = l in omega arith)

-- ---- the fields
begun : (o : Option ℕ) → is_some o ≡ true → is_some (option_map (λ (m : ℕ). pos m) o) ≡ true
begun None e = e
begun (Some m) e = refl

end_right : (started : Option ℕ) (o : Option End) → is_moment_if started ≡ true → is_sound_end started o ≡ true
    → is_end_row_right (option_map (λ (m : ℕ). pos m) started) (option_map (λ (x : End). pos x.moment) o) (option_map (λ (x : End). pos (outcome_code x.outcome)) o) ≡ true
end_right started None e f = and_from _ _ (and_from _ _ (moments_up_to started e) refl) refl
end_right started (Some x) e f = by_outcome x.moment x.outcome (and_left _ _ f) (and_right (is_moment x.moment) _ f)
  where
    by_outcome : (m : ℕ) (o : Outcome) → is_moment m ≡ true → may_end started o ≡ true → is_end_row_right (option_map (λ (n : ℕ). pos n) started) (Some (pos m)) (Some (pos (outcome_code o))) ≡ true
    by_outcome m outcome.Success g h = and_from _ _ (and_from _ _ (moments_up_to started e) (and_from _ _ (moment_up_to m g) refl)) (begun started h)
    by_outcome m outcome.Failed g h = and_from _ _ (and_from _ _ (moments_up_to started e) (and_from _ _ (moment_up_to m g) refl)) (begun started h)
    by_outcome m outcome.Skipped g h = and_from _ _ (and_from _ _ (moments_up_to started e) (and_from _ _ (moment_up_to m g) refl)) (begun started h)
    by_outcome m outcome.Lost g h = and_from _ _ (and_from _ _ (moments_up_to started e) (and_from _ _ (moment_up_to m g) refl)) refl

ended_row : (o : Option End) → is_some o ≡ true → is_some (option_map (λ (x : End). pos x.moment) o) ≡ true
ended_row None e = e
ended_row (Some x) e = refl

failed_row : (o : Option End) → is_failure_if o ≡ true → is_failure_code (option_map (λ (x : End). pos (outcome_code x.outcome)) o) ≡ true
failed_row None e = e
failed_row (Some x) e = by_outcome x.outcome e
  where
    by_outcome : (u : Outcome) → is_failure_if (Some (record { moment = 0; outcome = u })) ≡ true → is_failure_code (Some (pos (outcome_code u))) ≡ true
    by_outcome outcome.Success e = e
    by_outcome outcome.Failed e = refl
    by_outcome outcome.Skipped e = e
    by_outcome outcome.Lost e = refl

run_row_code : (v : Option Verdict) → is_run v ≡ true → int_eq (pos (verdict_code v)) (pos 1) ≡ true
run_row_code None e = absurd (true≢false (sym e))
run_row_code (Some verdict.Wait) e = absurd (true≢false (sym e))
run_row_code (Some verdict.Run) e = refl
run_row_code (Some verdict.Skip) e = absurd (true≢false (sym e))
run_row_code (Some verdict.UpstreamFailed) e = absurd (true≢false (sym e))

or_here : (b c : Bool) → b ≡ false → (not b || c) ≡ true
or_here true c e = absurd (true≢false e)
or_here false c e = refl

or_there : (b c : Bool) → c ≡ true → (not b || c) ≡ true
or_there true c e = e
or_there false c e = refl

failed_end : (t : Try) → has_failed t ≡ true → has_end t ≡ true
failed_end t e = ended_of t.ended e
  where
    ended_of : (o : Option End) → is_failure_if o ≡ true → is_some o ≡ true
    ended_of None e = absurd (true≢false (sym e))
    ended_of (Some x) e = refl

-- ---- a turn
turn_right : (r : Run) (t : TaskSpec) (i : InstanceValue) (n : ℕ) (y : Try) → is_sound_instance t i ≡ true → rises try_before i.tries ≡ true → slice_get i.tries n ≡ Some y
    → is_turn_row_right (instance_row r (t, i)) t (attempt_rows r (t, i)) (attempt_row r t (1 + n, y)) ≡ true
turn_right r t i n y s o e =
    let p : Parts t i = parts_of t i s in
    let x : AttemptRow = attempt_row r t (1 + n, y) in
    let within : n < length i.tries = at_below i.tries n y e in
    let later : Bool = has_later (attempt_rows r (t, i)) x in
    let drops : length (recent i) ≡ length i.tries - i.since = length-drop i.since i.tries in
    elim (nat_lt (n + 1) (length i.tries)) as (λ b. nat_lt (n + 1) (length i.tries) ≡ b → is_turn_row_right (instance_row r (t, i)) t (attempt_rows r (t, i)) (attempt_row r t (1 + n, y)) ≡ true) [
      | true ↦ λ g. let l : n + 1 < length i.tries = ltb-true (n + 1) (length i.tries) g in
          elim (nat_le (1 + n) i.since) as (λ b. nat_le (1 + n) i.since ≡ b → ((not later || is_some x.ended) && (if b then is_some x.ended else (int_eq (pos (verdict_code i.verdict)) (pos 1) && (nat_le (1 + n) (i.since + (1 + t.retries)) && (not later || is_failure_code x.outcome))))) ≡ true) [
            | true ↦ λ h. let m : 1 + n ≤ i.since = leb-true (1 + n) i.since h in
                let w : is_some x.ended ≡ true = ended_row y.ended (taken_all has_end i.since i.tries n y p.over e (omega arith)) in
                and_from _ _ (or_there later (is_some x.ended) w) w
            | false ↦ λ h. let m : i.since ≤ n = under n i.since h in
                let few : length i.tries - i.since ≤ 1 + t.retries = subst (λ (k : ℕ). k ≤ 1 + t.retries) drops p.few in
                let v : has_failed y ≡ true = dropped_all has_failed i.since i.tries n y p.failed e m l in
                and_from _ _ (or_there later (is_some x.ended) (ended_row y.ended (failed_end y v)))
                (and_from _ _ (run_row_code i.verdict (some_left i.since i.tries (is_run i.verdict) (omega arith) p.let_run))
                (and_from _ _ (le-leb (1 + n) (i.since + (1 + t.retries)) (omega arith)) (or_there later (is_failure_code x.outcome) (failed_row y.ended v))))
          ] refl
      | false ↦ λ g. let l : length i.tries ≤ n + 1 = ltb-false (n + 1) (length i.tries) g in
          let none : later ≡ false = none_later r t 1 i.tries n y o e l in
          elim (nat_le (1 + n) i.since) as (λ b. nat_le (1 + n) i.since ≡ b → ((not later || is_some x.ended) && (if b then is_some x.ended else (int_eq (pos (verdict_code i.verdict)) (pos 1) && (nat_le (1 + n) (i.since + (1 + t.retries)) && (not later || is_failure_code x.outcome))))) ≡ true) [
            | true ↦ λ h. let m : 1 + n ≤ i.since = leb-true (1 + n) i.since h in
                let w : is_some x.ended ≡ true = ended_row y.ended (taken_all has_end i.since i.tries n y p.over e (omega arith)) in
                and_from _ _ (or_there later (is_some x.ended) w) w
            | false ↦ λ h. let m : i.since ≤ n = under n i.since h in
                let few : length i.tries - i.since ≤ 1 + t.retries = subst (λ (k : ℕ). k ≤ 1 + t.retries) drops p.few in
                and_from _ _ (or_here later (is_some x.ended) none)
                (and_from _ _ (run_row_code i.verdict (some_left i.since i.tries (is_run i.verdict) (omega arith) p.let_run))
                (and_from _ _ (le-leb (1 + n) (i.since + (1 + t.retries)) (omega arith)) (or_here later (is_failure_code x.outcome) none)))
          ] refl
    ] refl
  where
    under : (m k : ℕ) → nat_le (1 + m) k ≡ false → k ≤ m
    under m k h = let l : k < 1 + m = leb-false (1 + m) k h in omega arith

pub attempt_of : (next : ℕ) (r : Run) (t : TaskSpec) (i : InstanceValue) (n : ℕ) (y : Try) → is_sound_instance t i ≡ true → rises try_before i.tries ≡ true → slice_get i.tries n ≡ Some y → is_used next y.serial ≡ true
    → is_attempt_of (pos next) (instance_row r (t, i)) t (attempt_rows r (t, i)) (attempt_row r t (1 + n, y)) ≡ true
attempt_of next r t i n y s o e u =
    let p : Parts t i = parts_of t i s in
    let w : is_sound_try t.pool_slots y ≡ true = all_get (is_sound_try t.pool_slots) i.tries n y p.tries e in
    let w2 : (is_moment_if y.started && is_sound_end y.started y.ended) ≡ true = and_right (y.slots == t.pool_slots) _ w in
    let c : length (filter (λ (x : AttemptRow). int_lt x.serial (pos y.serial)) (attempt_rows r (t, i))) ≡ n = count_before r t 1 i.tries n y o e in
    and_from _ _ u
    (and_from _ _ (end_right y.started y.ended (and_left _ _ w2) (and_right (is_moment_if y.started) _ w2))
    (and_from _ _ (equal_naturals (1 + n) (1 + length (filter (λ (x : AttemptRow). int_lt x.serial (pos y.serial)) (attempt_rows r (t, i)))) (ap (λ k. 1 + k) (sym c)))
    (and_from _ _ (same_naturals y.slots t.pool_slots ∙ and_left _ _ w) (turn_right r t i n y s o e))))
