-- A run that is as it was has its rows already.
use Rattle.std.proofs.Common.{◌≡◌, refl, sym, subst, ℕ, zero, suc, ℤ, List, [], ◌∷◌, ◌++◌, Bool, true, false, inl, inr, map, flat_map, Option, Some, None, slice_get}
use Rattle.std.proofs.lemmas.Bool.{and_from}
use Rattle.record_rows.specs.Rows.{RunRow, InstanceRow, AttemptRow}
use Rattle.sched_state.specs.Lists.{insert_by}
use Rattle.sched_state.specs.declared.runs.Run.{Run}
use Rattle.sched_state.proofs.NameLemmas.{same_itself}
use Rattle.sched_model.specs.Schedule.{Schedule}
use Rattle.sched_model.specs.Tables.{tables, run_row, instance_rows, serial_before, sort_by}
use Rattle.record_rules.specs.Between.{lacked}
use Rattle.record_rules.proofs.MemberLemmas.{Has, has_none, has_cases, has_head, has_more, map_get}
use Rattle.record_rules.proofs.NumberLemmas.{number_itself}
use Rattle.record_rules.specs.Changes.{same_run_row, same_instance_row, same_attempt_row}
use Rattle.record_rules.specs.Cells.{same_if}
use Rattle.record_writing.proofs.KeyLemmas.{any_get}
use Rattle.record_writing.proofs.LackedLemmas.{lacked_held}
use Rattle.record_writing.proofs.WholeLemmas.{tries_of_run}

-- ---- rows are the same as themselves
run_itself : (x : RunRow) → same_run_row x x ≡ true
run_itself x = and_from _ _ (same_itself x.dag_id) (and_from _ _ (number_itself x.logical) (and_from _ _ (number_itself x.data_start) (and_from _ _ (number_itself x.data_end) (and_from _ _ (number_itself x.kind) (number_itself x.phase)))))

instance_itself : (x : InstanceRow) → same_instance_row x x ≡ true
instance_itself x = and_from _ _ (same_itself x.dag_id) (and_from _ _ (number_itself x.logical) (and_from _ _ (same_itself x.task_id) (and_from _ _ (number_itself x.verdict) (number_itself x.since))))

if_itself : (o : Option ℤ) → same_if o o ≡ true
if_itself None = refl
if_itself (Some x) = number_itself x

attempt_itself : (x : AttemptRow) → same_attempt_row x x ≡ true
attempt_itself x = and_from _ _ (number_itself x.serial) (and_from _ _ (same_itself x.dag_id) (and_from _ _ (number_itself x.logical) (and_from _ _ (same_itself x.task_id) (and_from _ _ (number_itself x.try_number)
    (and_from _ _ (number_itself x.slots) (and_from _ _ (if_itself x.started) (and_from _ _ (if_itself x.ended) (if_itself x.outcome))))))))

-- ---- members of joined and of sorted lists
in_left : {X : Type 0} (xs ys : List X) (z : X) → Has xs z → Has (xs ++ ys) z
in_left [] ys z h = absurd (has_none z h)
in_left (x ∷ xs) ys z h = elim (has_cases x xs z h) [ inl e ↦ has_head x (xs ++ ys) z e | inr k ↦ has_more x (xs ++ ys) z (in_left xs ys z k) ]

in_right : {X : Type 0} (xs ys : List X) (z : X) → Has ys z → Has (xs ++ ys) z
in_right [] ys z h = h
in_right (x ∷ xs) ys z h = has_more x (xs ++ ys) z (in_right xs ys z h)

in_flat : {X Y : Type 0} (f : X → List Y) (xs : List X) (n : ℕ) (x : X) (z : Y) → slice_get xs n ≡ Some x → Has (f x) z → Has (flat_map f xs) z
in_flat {X} f [] n x z e h = absurd (let c : ◌≡◌ {A = Option X} None (Some x) = e in cc)
in_flat {X} f (y ∷ xs) zero x z e h =
    let c : ◌≡◌ {A = Option X} (Some y) (Some x) = e in let r : y ≡ x = cc in
    in_left (f y) (flat_map f xs) z (subst (λ w. Has (f w) z) (sym r) h)
in_flat f (y ∷ xs) (suc n) x z e h = in_right (f y) (flat_map f xs) z (in_flat f xs n x z e h)

in_put : {X : Type 0} (before : X → X → Bool) (x : X) (ys : List X) (z : X) → Has (x ∷ ys) z → Has (insert_by before x ys) z
in_put before x [] z h = h
in_put {X} before x (y ∷ ys) z h = elim (before x y) as (λ b. Has (elim b as (λ c. List X) [ true ↦ x ∷ y ∷ ys | false ↦ y ∷ insert_by before x ys ]) z) [
  | true ↦ h
  | false ↦ elim (has_cases x (y ∷ ys) z h) [
    | inl e ↦ has_more y (insert_by before x ys) z (in_put before x ys z (has_head x ys z e))
    | inr k ↦ elim (has_cases y ys z k) [
      | inl e ↦ has_head y (insert_by before x ys) z e
      | inr m ↦ has_more y (insert_by before x ys) z (in_put before x ys z (has_more x ys z m))
    ]
  ]
]

in_sorted : {X : Type 0} (before : X → X → Bool) (xs : List X) (z : X) → Has xs z → Has (sort_by before xs) z
in_sorted before [] z h = h
in_sorted before (x ∷ xs) z h = elim (has_cases x xs z h) [
  | inl e ↦ in_put before x (sort_by before xs) z (has_head x (sort_by before xs) z e)
  | inr k ↦ in_put before x (sort_by before xs) z (has_more x (sort_by before xs) z (in_sorted before xs z k))
]

-- rows of which each is one of theirs are not lacked
none_lacked : {X : Type 0} (same_row : X → X → Bool) → ((x : X) → same_row x x ≡ true) → (xs ys : List X) → ((z : X) → Has ys z → Has xs z) → lacked same_row xs ys ≡ []
none_lacked same_row itself xs ys h = lacked_held same_row xs ys (λ n y e.
    let k = h y (record { at = n; is = e }) in any_get (same_row y) xs k.at y k.is (itself y))

-- ---- the rows of a run that is there
pub run_was : (rs : List Run) (n : ℕ) (r : Run) → slice_get rs n ≡ Some r → lacked same_run_row (map run_row rs) (run_row r ∷ []) ≡ []
run_was rs n r e = none_lacked same_run_row run_itself (map run_row rs) (run_row r ∷ []) (λ z h. elim (has_cases (run_row r) [] z h) [
  | inl q ↦ subst (λ w. Has (map run_row rs) w) q (record { at = n; is = map_get run_row rs n r e })
  | inr k ↦ absurd (has_none z k)
])

pub instances_were : (a : Schedule) (n : ℕ) (r : Run) → slice_get a.runs n ≡ Some r → lacked same_instance_row (tables a).instances (instance_rows a r) ≡ []
instances_were a n r e = none_lacked same_instance_row instance_itself (tables a).instances (instance_rows a r) (λ z h. in_flat (instance_rows a) a.runs n r z e h)

pub tries_were : (a : Schedule) (n : ℕ) (r : Run) → slice_get a.runs n ≡ Some r → lacked same_attempt_row (tables a).attempts (tries_of_run a r) ≡ []
tries_were a n r e = none_lacked same_attempt_row attempt_itself (tables a).attempts (tries_of_run a r)
    (λ z h. in_sorted serial_before (flat_map (tries_of_run a) a.runs) z (in_flat (tries_of_run a) a.runs n r z e h))
