-- The place of a row among the tries of its instance.
use Rattle.std.proofs.Common.{◌≡◌, refl, sym, ap, subst, ◌∙◌, ℕ, zero, suc, ◌-◌, ◌<◌, ◌≤◌, List, [], ◌∷◌, length, filter, find, unwrap_or, Bool, true, false, cond, ◌&&◌, Option, Some, None, slice_get, get_or, arith, true≢false, ℤ, int_lt, int_eq, inl, inr}
use Rattle.std.specs.List.{list_all, list_any}
use Rattle.std.specs.List.Sorted.{IsPartitionPoint, IsPartitionedBy}
use Rattle.std.proofs.lemmas.Bool.{false_from_ne_true, cases_lt}
use Rattle.std.proofs.lemmas.Option.{get_or_from_slice_get, slice_get_within}
use Rattle.std.proofs.Math.Nat.{eq-or-lt_of_le}
use Rattle.graph_file.specs.declared.task_specs.TaskSpec.{TaskSpec}
use Rattle.record_rows.specs.Rows.{Rows, InstanceRow, AttemptRow}
use Rattle.sched_state.specs.Lists.{same}
use Rattle.sched_state.specs.declared.graphs.LoadedGraph.{LoadedGraph}
use Rattle.sched_state.proofs.ElementLemmas.{element_at}
use Rattle.sched_state.proofs.NameLemmas.{same_is}
use Rattle.sched_state.proofs.OrderLemmas.{and_left, and_right}
use Rattle.sched_model.specs.Lists.{rises}
use Rattle.sched_model.specs.Schedule.{dag_among}
use Rattle.record_rules.proofs.sched_laws.ListLemmas.{all_get}
use Rattle.dag_check.specs.Graphs.{no_task}
use Rattle.record_rules.specs.Keys.{IsByKey, attempt_row_before}
use Rattle.record_rules.specs.Reading.{is_of, is_try_of, tries_in, instance_row_in, no_instance}
use Rattle.record_rules.specs.Faults.{has_instance_row, has_run_row, has_task, task_named, is_attempt_of, is_attempt_row_right, is_instance_row_right}
use Rattle.record_rules.proofs.KeyedLemmas.{instance_cmp}
use Rattle.record_rules.proofs.MemberLemmas.{rises_pair}
use Rattle.record_rules.proofs.NumberLemmas.{less_more, same_number}
use Rattle.record_rules.proofs.FreeLemmas.{rises_kept}
use Rattle.record_restoring.specs.Dealing.{tries_among}
use Rattle.record_restoring.specs.Places.{StandsAt}
use Rattle.sched_draft.proofs.SearchLemmas.{find_only, one_place}
use Rattle.record_restoring.proofs.SearchLemmas.{any_at, any_nowhere, instance_like, instance_key}
use Rattle.record_restoring.proofs.DealLemmas.{none_by}

-- ---- counting
count_split : {X : Type 0} (p : X → Bool) (xs : List X) (n : ℕ) → n ≤ length xs → ((m : ℕ) (z : X) → slice_get xs m ≡ Some z → m < n → p z ≡ true) → ((m : ℕ) (z : X) → slice_get xs m ≡ Some z → n ≤ m → p z ≡ false) → length (filter p xs) ≡ n
count_split p [] n l f g = omega arith
count_split p (x ∷ xs) zero l f g =
    ap (λ b. length (cond b (x ∷ filter p xs) (filter p xs))) (g zero x refl (omega arith))
    ∙ count_split p xs zero (omega arith) (λ m z e k. absurd (omega arith)) (λ m z e k. g (suc m) z e (omega arith))
count_split p (x ∷ xs) (suc n) l f g =
    ap (λ b. length (cond b (x ∷ filter p xs) (filter p xs))) (f zero x refl (omega arith))
    ∙ ap suc (count_split p xs n (omega arith) (λ m z e k. f (suc m) z e (omega arith)) (λ m z e k. g (suc m) z e (omega arith)))

pub counted : {X : Type 0} (p : X → Bool) (xs : List X) (n : ℕ) → n ≤ length xs → IsPartitionPoint (λ y. p y ≡ true) (λ y. p y ≡ false) xs n → n ≡ length (filter p xs)
counted p xs n l h = sym (count_split p xs n l
    (λ m z e k. subst (λ y. p y ≡ true) (get_or_from_slice_get xs m z z e) (h.0 m z (omega arith) k))
    (λ m z e k. subst (λ y. p y ≡ false) (get_or_from_slice_get xs m z z e) (h.1 m z k (slice_get_within xs m z e))))

-- the rows below a serial come first
pub parted : (ws : List AttemptRow) (s : ℤ) → rises attempt_row_before ws ≡ true → IsPartitionedBy (λ (y : AttemptRow). int_lt y.serial s) ws
parted ws s r i j d l k e = elim (eq-or-lt_of_le l) [
  | inl q ↦ subst (λ (m : ℕ). int_lt (get_or ws m d).serial s ≡ true) (sym q) e
  | inr f ↦
      let x = element_at ws i (omega arith) in
      let y = element_at ws j k in
      let a : get_or ws i d ≡ x.0 = get_or_from_slice_get ws i x.0 d x.1 in
      let b : get_or ws j d ≡ y.0 = get_or_from_slice_get ws j y.0 d y.1 in
      let lt : int_lt x.0.serial y.0.serial ≡ true = rises_pair attempt_row_before ws i j x.0 y.0 r f x.1 y.1 in
      ap (λ (z : AttemptRow). int_lt z.serial s) a ∙ less_more x.0.serial y.0.serial s lt (ap (λ (z : AttemptRow). int_lt z.serial s) (sym b) ∙ e)
]

-- a row comes after a serial exactly where the last one does
pub after_last : (ws : List AttemptRow) (s : ℤ) (w : AttemptRow) → rises attempt_row_before ws ≡ true → slice_get ws (length ws - 1) ≡ Some w → int_lt s w.serial ≡ list_any (λ (y : AttemptRow). int_lt s y.serial) ws
after_last ws s w r e = elim (int_lt s w.serial) as (λ b. int_lt s w.serial ≡ b → b ≡ list_any (λ (y : AttemptRow). int_lt s y.serial) ws) [
  | true ↦ λ f. sym (any_at (λ (y : AttemptRow). int_lt s y.serial) ws {n = length ws - 1} (record { within = slice_get_within ws (length ws - 1) w e; of = w; there = e; passes = f }))
  | false ↦ λ f. sym (none_by (λ (y : AttemptRow). int_lt s y.serial) ws (λ m z g h. elim (cases_lt m (length ws - 1)) [
    | inl l ↦ true≢false (sym (less_more s z.serial w.serial h (rises_pair attempt_row_before ws m (length ws - 1) z w r l g e)) ∙ f)
    | inr l ↦
        let within : m < length ws = slice_get_within ws m z g in
        let q : m ≡ length ws - 1 = omega arith in
        let c : ◌≡◌ {A = Option AttemptRow} (Some z) (Some w) = sym g ∙ ap (slice_get ws) q ∙ e in
        let k : z ≡ w = cc in
        true≢false (sym h ∙ ap (λ (y : AttemptRow). int_lt s y.serial) k ∙ f)
  ]))
] refl

-- ---- the instance of a try
pub record Own (rows : Rows) (w : AttemptRow) (x : InstanceRow) : Type 0 where
  pub there : has_instance_row rows w.dag_id w.logical w.task_id ≡ true
  pub row : instance_row_in rows w.dag_id w.logical w.task_id ≡ x
  pub tries : tries_in rows w.dag_id w.logical w.task_id ≡ tries_among rows.attempts x
  pub dag : x.dag_id ≡ w.dag_id
  pub task : x.task_id ≡ w.task_id

pub own : (rows : Rows) (w : AttemptRow) {n : ℕ} → IsByKey rows → (s : StandsAt (is_of w.dag_id w.logical w.task_id) rows.instances n) → Own rows w s.of
own rows w {n} k s =
    let p : InstanceRow → Bool = is_of w.dag_id w.logical w.task_id in
    let x : InstanceRow = s.of in
    let found : find p rows.instances ≡ Some x = find_only p rows.instances n x s.there s.passes (λ m z l g. false_from_ne_true (p z) (λ h.
    let c : m ≡ n = one_place instance_cmp (λ (y : InstanceRow). y) p (instance_like w.dag_id w.logical w.task_id) (instance_key w.dag_id w.logical w.task_id) rows.instances m n z x k.instances g s.there h s.passes in omega arith)) in
    let k1 = and_right (same x.dag_id w.dag_id) _ s.passes in
    let d : x.dag_id ≡ w.dag_id = same_is x.dag_id w.dag_id (and_left _ _ s.passes) in
    let l : x.logical ≡ w.logical = same_number x.logical w.logical (and_left _ _ k1) in
    let t : x.task_id ≡ w.task_id = same_is x.task_id w.task_id (and_right (int_eq x.logical w.logical) _ k1) in
    record {
      there = any_at p rows.instances s;
      row = ap (λ o. unwrap_or o no_instance) found;
      tries = ap (λ a. tries_in rows a w.logical w.task_id) (sym d) ∙ ap (λ a. tries_in rows x.dag_id a w.task_id) (sym l) ∙ ap (tries_in rows x.dag_id x.logical) (sym t);
      dag = d;
      task = t;
    }

pub attempt_test : (gs : List LoadedGraph) (next : ℤ) (rows : Rows) (w : AttemptRow) (x : InstanceRow) (t : TaskSpec) (b : List AttemptRow) → Own rows w x → b ≡ tries_among rows.attempts x
    → find (λ (u : TaskSpec). same u.task_id w.task_id) (dag_among gs w.dag_id).tasks ≡ Some t → is_attempt_row_right gs next rows w ≡ is_attempt_of next x t b w
attempt_test gs next rows w x t b o e f =
    ap (λ c. c && is_attempt_of next (instance_row_in rows w.dag_id w.logical w.task_id) (task_named (dag_among gs w.dag_id).tasks w.task_id) (tries_in rows w.dag_id w.logical w.task_id) w) o.there
    ∙ ap (λ (y : InstanceRow). is_attempt_of next y (task_named (dag_among gs w.dag_id).tasks w.task_id) (tries_in rows w.dag_id w.logical w.task_id) w) o.row
    ∙ ap (λ (u : Option TaskSpec). is_attempt_of next x (unwrap_or u no_task) (tries_in rows w.dag_id w.logical w.task_id) w) f
    ∙ ap (λ (c : List AttemptRow). is_attempt_of next x t c w) (o.tries ∙ sym e)

-- the task of a right row of an instance is there
pub task_there : (gs : List LoadedGraph) (rows : Rows) (w : AttemptRow) (x : InstanceRow) (n : ℕ) → Own rows w x → slice_get rows.instances n ≡ Some x → list_all (is_instance_row_right gs rows) rows.instances ≡ true
    → find (λ (u : TaskSpec). same u.task_id w.task_id) (dag_among gs w.dag_id).tasks ≡ None → ⊥
task_there gs rows w x n o e a f =
    let h : is_instance_row_right gs rows x ≡ true = all_get (is_instance_row_right gs rows) rows.instances n x a e in
    let t : has_task (dag_among gs x.dag_id).tasks x.task_id ≡ true = and_right (has_run_row rows x.dag_id x.logical) _ (and_left _ _ h) in
    true≢false (sym t ∙ ap (λ d. has_task (dag_among gs d).tasks x.task_id) o.dag ∙ ap (has_task (dag_among gs w.dag_id).tasks) o.task
    ∙ any_nowhere (λ (u : TaskSpec). same u.task_id w.task_id) (dag_among gs w.dag_id).tasks f)

pub tries_rise : (rows : Rows) (x : InstanceRow) (b : List AttemptRow) → IsByKey rows → b ≡ tries_among rows.attempts x → rises attempt_row_before b ≡ true
tries_rise rows x b k e = ap (rises attempt_row_before) e ∙ rises_kept attempt_row_before (is_try_of x.dag_id x.logical x.task_id) rows.attempts k.attempts
