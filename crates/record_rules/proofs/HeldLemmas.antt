-- An instance whose rows break no rule is sound, and its tries rise.
use Rattle.std.proofs.Common.{◌≡◌, refl, sym, ap, subst, ◌∙◌, ℕ, zero, suc, ◌+◌, ◌-◌, ◌<◌, ◌≤◌, List, [], ◌∷◌, Bool, true, false, not, ◌&&◌, ◌||◌, if◌then◌else◌, map, filter, length, take, drop, Option, Some, None, slice_get, arith, true≢false, nat_lt, nat_le, leb-true, is_some, option_map, ℤ, pos, negsuc, ◌+ℤ◌, int_lt, int_eq}
use Rattle.std.specs.Prelude.{int_le}
use Rattle.std.specs.List.{list_all, list_any}
use Rattle.std.proofs.lemmas.Bool.{and_from, eq-eqb, le-leb, ltb-true, ltb-false, false_from_ne_true}
use Rattle.std.proofs.lemmas.List.{length-drop, length-map}
use Rattle.graph_file.specs.declared.task_specs.TaskSpec.{TaskSpec}
use Rattle.sched_laws.specs.instance_machine.Instances.{InstanceValue}
use Rattle.sched_laws.specs.instance_machine.declared.tries.Try.{Try}
use Rattle.record_rows.specs.Rows.{InstanceRow, AttemptRow}
use Rattle.sched_laws.proofs.sched_state.OrderLemmas.{and_left, and_right}
use Rattle.sched_laws.proofs.sched_state.ElementLemmas.{element_at}
use Rattle.sched_laws.specs.sched_model.Lists.{rises, but_last}
use Rattle.sched_laws.specs.sched_model.Sound.{is_sound_try, is_sound_end, is_sound_instance, may_end, has_end, has_failed, is_failure_if, is_run, is_wait, is_empty, try_before}
use Rattle.sched_laws.proofs.ListLemmas.{all_get}
use Rattle.sched_laws.proofs.RunLemmas.{rises_map}
use Rattle.sched_laws.proofs.InstanceLemmas.{of_parts}
use Rattle.record_rules.specs.Reading.{verdict_of, outcome_of, end_of, try_of}
use Rattle.record_rules.specs.Keys.{attempt_row_before}
use Rattle.record_rules.specs.Faults.{is_attempt_of, is_end_row_right, is_lost, is_number_right, is_turn_row_right, has_later, is_failure_code}
use Rattle.record_rules.proofs.ListLemmas.{filter_yes, filter_no}
use Rattle.record_rules.specs.Numbers.{is_between, is_moment_column, passes_if, natural}
use Rattle.record_rules.proofs.NumberLemmas.{less_itself, less_back, same_number, natural_moment, natural_moments}
use Rattle.record_rules.proofs.MemberLemmas.{mapped_at}

-- ---- elements of lists
take_each : {X : Type 0} (p : X → Bool) (s : ℕ) (xs : List X) → ((n : ℕ) (x : X) → slice_get xs n ≡ Some x → n < s → p x ≡ true) → list_all p (take s xs) ≡ true
take_each p zero [] h = refl
take_each p zero (x ∷ xs) h = refl
take_each p (suc s) [] h = refl
take_each p (suc s) (x ∷ xs) h = and_from _ _ (h zero x refl (omega arith)) (take_each p s xs (λ n y e l. h (suc n) y e (omega arith)))

inner_each : {X : Type 0} (p : X → Bool) (xs : List X) → ((n : ℕ) (x : X) → slice_get xs n ≡ Some x → n + 1 < length xs → p x ≡ true) → list_all p (but_last xs) ≡ true
inner_each p [] h = refl
inner_each p (y ∷ []) h = refl
inner_each p (y ∷ z ∷ xs) h =
    and_from _ _ (h zero y refl (let k : 0 + 1 < suc (suc (length xs)) = omega arith in k))
    (inner_each p (z ∷ xs) (λ n x e l. h (suc n) x e (let k : n + 1 < suc (length xs) = l in let m : suc n + 1 < suc (suc (length xs)) = omega arith in m)))

drop_each : {X : Type 0} (p : X → Bool) (s : ℕ) (xs : List X) → ((n : ℕ) (x : X) → slice_get xs n ≡ Some x → s ≤ n → n + 1 < length xs → p x ≡ true) → list_all p (but_last (drop s xs)) ≡ true
drop_each p zero [] h = refl
drop_each p zero (y ∷ ys) h = inner_each p (y ∷ ys) (λ n x e l. h n x e (omega arith) l)
drop_each p (suc s) [] h = refl
drop_each p (suc s) (y ∷ ys) h = drop_each p s ys (λ n x e m l. h (suc n) x e (omega arith) (let k : suc n + 1 < suc (length ys) = omega arith in k))

any_more : (b c : Bool) → c ≡ true → (b || c) ≡ true
any_more true c f = refl
any_more false c f = f

-- ---- positions
none_of_later : (w : AttemptRow) (ws : List AttemptRow) → list_all (attempt_row_before w) ws ≡ true → filter (λ y. attempt_row_before y w) ws ≡ []
none_of_later w [] e = refl
none_of_later w (v ∷ ws) e =
    filter_no (λ y. attempt_row_before y w) v ws (less_back w.serial v.serial (and_left _ _ e)) ∙ none_of_later w ws (and_right (attempt_row_before w v) _ e)

pub count_at : (ws : List AttemptRow) (n : ℕ) (w : AttemptRow) → rises attempt_row_before ws ≡ true → slice_get ws n ≡ Some w → length (filter (λ y. attempt_row_before y w) ws) ≡ n
count_at [] n w o e = absurd (let c : ◌≡◌ {A = Option AttemptRow} None (Some w) = e in cc)
count_at (v ∷ ws) zero w o e =
    let c : ◌≡◌ {A = Option AttemptRow} (Some v) (Some w) = e in let r : v ≡ w = cc in
    subst (λ (z : AttemptRow). length (filter (λ y. attempt_row_before y z) (v ∷ ws)) ≡ 0) r
    (ap length (filter_no (λ y. attempt_row_before y v) v ws (less_itself v.serial) ∙ none_of_later v ws (and_left _ _ o)))
count_at (v ∷ ws) (suc n) w o e =
    ap length (filter_yes (λ y. attempt_row_before y w) v ws (all_get (attempt_row_before v) ws n w (and_left _ _ o) e))
    ∙ ap suc (count_at ws n w (and_right (list_all (attempt_row_before v) ws) _ o) e)

later_at : (ws : List AttemptRow) (n : ℕ) (w : AttemptRow) → rises attempt_row_before ws ≡ true → slice_get ws n ≡ Some w → n + 1 < length ws → has_later ws w ≡ true
later_at [] n w o e l = absurd (let c : ◌≡◌ {A = Option AttemptRow} None (Some w) = e in cc)
later_at (v ∷ []) zero w o e l = absurd (let k : 0 + 1 < 1 = l in omega arith)
later_at (v ∷ u ∷ ws) zero w o e l =
    let c : ◌≡◌ {A = Option AttemptRow} (Some v) (Some w) = e in let r : v ≡ w = cc in
    let b : attempt_row_before w u ≡ true = ap (λ (z : AttemptRow). attempt_row_before z u) (sym r) ∙ and_left (attempt_row_before v u) _ (and_left (list_all (attempt_row_before v) (u ∷ ws)) _ o) in
    any_more (attempt_row_before w v) (attempt_row_before w u || list_any (attempt_row_before w) ws) (ap (λ c. c || list_any (attempt_row_before w) ws) b)
later_at (v ∷ ws) (suc n) w o e l =
    any_more (attempt_row_before w v) (list_any (attempt_row_before w) ws) (later_at ws n w (and_right (list_all (attempt_row_before v) ws) _ o) e (let k : suc n + 1 < suc (length ws) = l in omega arith))

-- ---- ends
end_sound : (started ended outcome : Option ℤ) → is_end_row_right started ended outcome ≡ true → is_sound_end (option_map natural started) (end_of ended outcome) ≡ true
end_sound started None o e = refl
end_sound started (Some m) None e = refl
end_sound started (Some m) (Some c) e =
    let dates = and_left (passes_if is_moment_column started && (is_moment_column m && is_between 0 3 c)) _ e in
    and_from _ _ (natural_moment m (and_left _ _ (and_right (passes_if is_moment_column started) _ dates)))
    (begun c (and_right true _ (and_right (passes_if is_moment_column started && (is_moment_column m && is_between 0 3 c)) _ e)))
  where
    there : (o : Option ℤ) → is_some o ≡ true → is_some (option_map natural o) ≡ true
    there None e = e
    there (Some z) e = refl

    begun : (c : ℤ) → (false || (is_lost (Some c) || is_some started)) ≡ true → may_end (option_map natural started) (outcome_of (natural c)) ≡ true
    begun (pos zero) e = there started e
    begun (pos (suc zero)) e = there started e
    begun (pos (suc (suc zero))) e = there started e
    begun (pos (suc (suc (suc n)))) e = refl
    begun (negsuc n) e = there started e

both_there : (started ended outcome : Option ℤ) → is_end_row_right started ended outcome ≡ true → is_some ended ≡ true → is_some (end_of ended outcome) ≡ true
both_there started None o e f = absurd (true≢false (sym f))
both_there started (Some m) None e f = absurd (true≢false (sym (and_right (passes_if is_moment_column started && (is_moment_column m && true)) false e)))
both_there started (Some m) (Some c) e f = refl

failed_there : (started ended outcome : Option ℤ) → is_end_row_right started ended outcome ≡ true → is_some ended ≡ true → is_failure_code outcome ≡ true → is_failure_if (end_of ended outcome) ≡ true
failed_there started None o e f g = absurd (true≢false (sym f))
failed_there started (Some m) None e f g = absurd (true≢false (sym g))
failed_there started (Some m) (Some c) e f g = by_code c g
  where
    by_code : (c : ℤ) → is_failure_code (Some c) ≡ true → is_failure_if (end_of (Some m) (Some c)) ≡ true
    by_code (pos zero) g = absurd (true≢false (sym g))
    by_code (pos (suc zero)) g = refl
    by_code (pos (suc (suc zero))) g = absurd (true≢false (sym g))
    by_code (pos (suc (suc (suc n)))) g = refl
    by_code (negsuc n) g = absurd (true≢false (sym g))

not_waiting : (n : ℕ) → not (is_wait (verdict_of n)) ≡ true
not_waiting zero = refl
not_waiting (suc zero) = refl
not_waiting (suc (suc zero)) = refl
not_waiting (suc (suc (suc n))) = refl

-- ---- the parts of a try's row
record Right (next : ℤ) (x : InstanceRow) (t : TaskSpec) (ws : List AttemptRow) (w : AttemptRow) (n : ℕ) : Type 0 where
  ended : is_end_row_right w.started w.ended w.outcome ≡ true
  slots : int_eq w.slots (pos t.pool_slots) ≡ true
  followed : (not (has_later ws w) || is_some w.ended) ≡ true
  left : n < natural x.since → is_some w.ended ≡ true
  turn : natural x.since ≤ n → (int_eq x.verdict (pos 1) && (nat_le (1 + n) (natural x.since + (1 + t.retries)) && (not (has_later ws w) || is_failure_code w.outcome))) ≡ true

right_at : (next : ℤ) (x : InstanceRow) (t : TaskSpec) (ws : List AttemptRow) (n : ℕ) (w : AttemptRow) → rises attempt_row_before ws ≡ true → list_all (is_attempt_of next x t ws) ws ≡ true → pos (natural x.since) ≡ x.since
    → slice_get ws n ≡ Some w → Right next x t ws w n
right_at next x t ws n w o a z e =
    let h : is_attempt_of next x t ws w ≡ true = all_get (is_attempt_of next x t ws) ws n w a e in
    let h1 = and_right (int_le (pos 1) w.serial && int_lt w.serial next) _ h in
    let h2 = and_right (is_end_row_right w.started w.ended w.outcome) _ h1 in
    let h3 = and_right (is_number_right ws w) _ h2 in
    let h4 : is_turn_row_right x t ws w ≡ true = and_right (int_eq w.slots (pos t.pool_slots)) _ h3 in
    let number : w.try_number ≡ pos (1 + n) = same_number w.try_number (pos (1 + length (filter (λ y. attempt_row_before y w) ws))) (and_left (is_number_right ws w) _ h2) ∙ ap (λ k. pos (1 + k)) (count_at ws n w o e) in
    let turn : ℤ → ℤ → Bool = λ k s. if int_le k s then is_some w.ended else (int_eq x.verdict (pos 1) && (int_le k (s +ℤ pos (1 + t.retries)) && (not (has_later ws w) || is_failure_code w.outcome))) in
    let h5 : turn (pos (1 + n)) (pos (natural x.since)) ≡ true = ap (λ k. turn k (pos (natural x.since))) (sym number) ∙ ap (turn w.try_number) z ∙ and_right (not (has_later ws w) || is_some w.ended) _ h4 in
    record {
      ended = and_left _ _ h1;
      slots = and_left _ _ h3;
      followed = and_left (not (has_later ws w) || is_some w.ended) _ h4;
      left = λ l. let b : nat_le (1 + n) (natural x.since) ≡ true = le-leb (1 + n) (natural x.since) (omega arith) in
          sym (ap (λ c. if c then is_some w.ended else (int_eq x.verdict (pos 1) && (nat_le (1 + n) (natural x.since + (1 + t.retries)) && (not (has_later ws w) || is_failure_code w.outcome)))) b) ∙ h5;
      turn = λ l. let b : nat_le (1 + n) (natural x.since) ≡ false = false_from_ne_true (nat_le (1 + n) (natural x.since)) (λ f. let k : 1 + n ≤ natural x.since = leb-true (1 + n) (natural x.since) f in omega arith) in
          sym (ap (λ c. if c then is_some w.ended else (int_eq x.verdict (pos 1) && (nat_le (1 + n) (natural x.since + (1 + t.retries)) && (not (has_later ws w) || is_failure_code w.outcome)))) b) ∙ h5;
    }

not_or : (b c : Bool) → b ≡ true → (not b || c) ≡ true → c ≡ true
not_or true c e f = f
not_or false c e f = absurd (true≢false (sym e))

abbrev pub held_by : InstanceRow → List AttemptRow → InstanceValue
held_by x ys = record { verdict = verdict_of (natural x.verdict); since = natural x.since; tries = map try_of ys }

running_code : (z : ℤ) → int_eq z (pos 1) ≡ true → is_run (verdict_of (natural z)) ≡ true
running_code z e = ap (λ y. is_run (verdict_of (natural y))) (same_number z (pos 1) e)

empty_or : {X : Type 0} (s : ℕ) (xs : List X) (b : Bool) → (s < length xs → b ≡ true) → (is_empty (drop s xs) || b) ≡ true
empty_or zero [] b h = refl
empty_or zero (x ∷ xs) b h = h (omega arith)
empty_or (suc s) [] b h = refl
empty_or (suc s) (x ∷ xs) b h = empty_or s xs b (λ l. h (omega arith))

pub held_is_sound : (next : ℤ) (x : InstanceRow) (t : TaskSpec) (ws : List AttemptRow) → rises attempt_row_before ws ≡ true → list_all (is_attempt_of next x t ws) ws ≡ true → pos (natural x.since) ≡ x.since → natural x.since ≤ length ws
    → is_sound_instance t (held_by x ws) ≡ true
held_is_sound next x t ws o a z s =
    let ts : List Try = map try_of ws in
    let count : length ts ≡ length ws = length-map ws try_of in
    of_parts t (held_by x ws) (record {
      decided = not_waiting (natural x.verdict);
      within = omega (arith, count, s);
      tries = all_tries;
      over = take_each has_end (natural x.since) ts (λ n y e l.
          let m = mapped_at try_of ws n y e in
          let r : Right next x t ws m.0 n = right_at next x t ws n m.0 o a z m.1 in
          ap has_end m.2 ∙ both_there m.0.started m.0.ended m.0.outcome r.ended (r.left l));
      let_run = empty_or (natural x.since) ts (is_run (verdict_of (natural x.verdict))) (λ l.
          let q = element_at ws (natural x.since) (omega (arith, count, l)) in
          let r : Right next x t ws q.0 (natural x.since) = right_at next x t ws (natural x.since) q.0 o a z q.1 in
          running_code x.verdict (and_left _ _ (r.turn (omega arith))));
      few = few_left;
      failed = drop_each has_failed (natural x.since) ts (λ n y e m l.
          let k = mapped_at try_of ws n y e in
          let r : Right next x t ws k.0 n = right_at next x t ws n k.0 o a z k.1 in
          let b : n + 1 < length ws = omega (arith, count, l) in
          let later : has_later ws k.0 ≡ true = later_at ws n k.0 o k.1 b in
          ap has_failed k.2 ∙ failed_there k.0.started k.0.ended k.0.outcome r.ended
          (not_or (has_later ws k.0) (is_some k.0.ended) later r.followed)
          (not_or (has_later ws k.0) (is_failure_code k.0.outcome) later (and_right (nat_le (1 + n) ((natural x.since) + (1 + t.retries))) _ (and_right (int_eq x.verdict (pos 1)) _ (r.turn m)))));
    })
  where
    all_tries : list_all (is_sound_try t.pool_slots) (map try_of ws) ≡ true
    all_tries = each (map try_of ws) (λ n y e.
        let m = mapped_at try_of ws n y e in
        let r : Right next x t ws m.0 n = right_at next x t ws n m.0 o a z m.1 in
        ap (is_sound_try t.pool_slots) m.2 ∙ and_from _ _ (eq-eqb (natural m.0.slots) t.pool_slots (ap natural (same_number m.0.slots (pos t.pool_slots) r.slots))) (and_from _ _ (natural_moments m.0.started (and_left _ _ (and_left _ _ r.ended))) (end_sound m.0.started m.0.ended m.0.outcome r.ended)))
      where
        each : (ys : List Try) → ((n : ℕ) (y : Try) → slice_get ys n ≡ Some y → is_sound_try t.pool_slots y ≡ true) → list_all (is_sound_try t.pool_slots) ys ≡ true
        each [] h = refl
        each (y ∷ ys) h = and_from _ _ (h zero y refl) (each ys (λ n z e. h (suc n) z e))

    few_left : length (drop (natural x.since) (map try_of ws)) ≤ 1 + t.retries
    few_left = elim (nat_lt (natural x.since) (length ws)) as (λ b. nat_lt (natural x.since) (length ws) ≡ b → length (drop (natural x.since) (map try_of ws)) ≤ 1 + t.retries) [
      | true ↦ λ g.
          let l : (natural x.since) < length ws = ltb-true (natural x.since) (length ws) g in
          let n : ℕ = length ws - 1 in
          let q = element_at ws n (omega arith) in
          let r : Right next x t ws q.0 n = right_at next x t ws n q.0 o a z q.1 in
          let m : 1 + n ≤ (natural x.since) + (1 + t.retries) = leb-true (1 + n) ((natural x.since) + (1 + t.retries)) (and_left _ _ (and_right (int_eq x.verdict (pos 1)) _ (r.turn (omega arith)))) in
          let d : length (drop (natural x.since) (map try_of ws)) ≡ length (map try_of ws) - (natural x.since) = length-drop (natural x.since) (map try_of ws) in
          let c : length (map try_of ws) ≡ length ws = length-map ws try_of in
          omega (arith, d, c, m, l)
      | false ↦ λ g.
          let l : length ws ≤ (natural x.since) = ltb-false (natural x.since) (length ws) g in
          let d : length (drop (natural x.since) (map try_of ws)) ≡ length (map try_of ws) - (natural x.since) = length-drop (natural x.since) (map try_of ws) in
          let c : length (map try_of ws) ≡ length ws = length-map ws try_of in
          omega (arith, d, c, l)
    ] refl

-- the serials as natural numbers
abbrev pub natural_before : AttemptRow → AttemptRow → Bool
natural_before x y = nat_lt (natural x.serial) (natural y.serial)

pub held_rises : (ws : List AttemptRow) → rises natural_before ws ≡ true → rises try_before (map try_of ws) ≡ true
held_rises ws o = rises_map try_before try_of ws ∙ o
