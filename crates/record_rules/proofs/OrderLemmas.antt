-- Rows put by key: they rise still, and they are the row that is put and those of other keys.
use Rattle.std.proofs.Common.{◌≡◌, refl, sym, ap, ap₂, subst, ◌∙◌, ℤ, int_lt, int_eq, int_cmp, List, [], ◌∷◌, ◌++◌, filter, cond, not, ◌&&◌, Bool, true, false, true≢false, arith}
use Rattle.std.specs.List.{list_all}
use Rattle.std.specs.List.Sorted.{IsPermutation}
use Rattle.std.specs.Str.{bytes_eq}
use Rattle.std.specs.Ordering.{ordering_then, ordering_reverse, is_eq}
use Rattle.std.specs.declared.cmp.Ordering.{Ordering}
use Rattle.std.specs.declared.cmp.Ordering.TheVariants.{Less, Equal, Greater}
use Rattle.std.specs.Cmp.{IsTotalOrder}
use Rattle.std.proofs.lemmas.Bool.{and_from}
use Rattle.std.proofs.lemmas.Cmp.{nat_list_cmp_total}
use Rattle.std.proofs.lemmas.Int.{ints}
use Rattle.std.proofs.lemmas.List.Sorted.{IsPermutation-refl, IsPermutation-trans, IsPermutation-cons, IsPermutation-middle}
use Rattle.std.proofs.lemmas.Map.Text.{is_eq-slice_cmp}
use Rattle.record_rows.specs.Rows.{MetaRow, PoolRow, DagRow, DagLimitRow, RunRow, InstanceRow, AttemptRow}
use Rattle.sched_laws.specs.sched_state.Lists.{name_cmp, is_less}
use Rattle.sched_laws.proofs.sched_state.OrderLemmas.{and_left, and_right, on_total}
use Rattle.sched_laws.specs.sched_model.Lists.{rises}
use Rattle.sched_laws.proofs.ListLemmas.{all_impl}
use Rattle.record_rules.specs.Keys.{IsOrdered, meta_row_before, pool_row_before, dag_row_before, dag_limit_row_before, run_row_before, instance_row_before, attempt_row_before}
use Rattle.record_rules.specs.Between.{put, puts, are_tied}
use Rattle.record_rules.proofs.NumberLemmas.{less_itself, less_more, less_alike}
use Rattle.record_rules.proofs.KeyedLemmas.{itself, run_cmp, instance_cmp}

module _ {X : Type 0} {before : X → X → Bool} (order : IsOrdered before) where
  behind_all : (r y : X) (ys : List X) → before r y ≡ true → list_all (before y) ys ≡ true → list_all (before r) ys ≡ true
  behind_all r y ys e all = all_impl (before y) (before r) (λ z h. order.transitive r y z e h) ys all

  tied_all : (r y : X) (ys : List X) → before y r ≡ false → before r y ≡ false → list_all (before y) ys ≡ true → list_all (before r) ys ≡ true
  tied_all r y ys e f all = all_impl (before y) (before r) (λ z h. order.alike y r z e f h) ys all

  all_put : (p : X → Bool) (r : X) (ys : List X) → p r ≡ true → list_all p ys ≡ true → list_all p (put before r ys) ≡ true
  all_put p r [] e all = and_from _ _ e refl
  all_put p r (y ∷ ys) e all =
      elim (before y r) as (λ b. list_all p (cond b (y ∷ put before r ys) (cond (before r y) (r ∷ y ∷ ys) (r ∷ ys))) ≡ true) [
        | true ↦ and_from _ _ (and_left _ _ all) (all_put p r ys e (and_right (p y) _ all))
        | false ↦ elim (before r y) as (λ b. list_all p (cond b (r ∷ y ∷ ys) (r ∷ ys)) ≡ true) [ true ↦ and_from _ _ e all | false ↦ and_from _ _ e (and_right (p y) _ all) ]
      ]

  -- rows that rise still rise
  pub put_rises : (r : X) (xs : List X) → rises before xs ≡ true → rises before (put before r xs) ≡ true
  put_rises r [] up = refl
  put_rises r (y ∷ ys) up =
      elim (before y r) as (λ b. before y r ≡ b → rises before (cond b (y ∷ put before r ys) (cond (before r y) (r ∷ y ∷ ys) (r ∷ ys))) ≡ true) [
        | true ↦ λ e. and_from _ _ (all_put (before y) r ys e (and_left _ _ up)) (put_rises r ys (and_right (list_all (before y) ys) _ up))
        | false ↦ λ e. elim (before r y) as (λ b. before r y ≡ b → rises before (cond b (r ∷ y ∷ ys) (r ∷ ys)) ≡ true) [
          | true ↦ λ f. and_from _ _ (and_from _ _ f (behind_all r y ys f (and_left _ _ up))) up
          | false ↦ λ f. and_from _ _ (tied_all r y ys e f (and_left _ _ up)) (and_right (list_all (before y) ys) _ up)
        ] refl
      ] refl

  -- rows that stand behind another are not of its key
  others : (r : X) (ys : List X) → list_all (before r) ys ≡ true → filter (λ y. not (are_tied before y r)) ys ≡ ys
  others r [] all = refl
  others r (y ∷ ys) all =
      ap (λ b. cond (not (not (before y r) && not b)) (y ∷ filter (λ y. not (are_tied before y r)) ys) (filter (λ y. not (are_tied before y r)) ys)) (and_left _ _ all)
      ∙ go (before y r) (others r ys (and_right (before r y) _ all))
    where
      go : (b : Bool) → filter (λ y. not (are_tied before y r)) ys ≡ ys
          → cond (not (not b && false)) (y ∷ filter (λ y. not (are_tied before y r)) ys) (filter (λ y. not (are_tied before y r)) ys) ≡ y ∷ ys
      go true h = ap (λ l. y ∷ l) h
      go false h = ap (λ l. y ∷ l) h

  -- they are the row that is put, and those of other keys
  pub put_is : (r : X) (xs : List X) → rises before xs ≡ true → IsPermutation (r ∷ filter (λ y. not (are_tied before y r)) xs) (put before r xs)
  put_is r [] up = IsPermutation-refl (r ∷ [])
  put_is r (y ∷ ys) up =
      elim (before y r) as (λ b. before y r ≡ b → IsPermutation (r ∷ cond (not (not b && not (before r y))) (y ∷ left) left) (cond b (y ∷ put before r ys) (cond (before r y) (r ∷ y ∷ ys) (r ∷ ys)))) [
        | true ↦ λ e. IsPermutation-trans _ _ _ (IsPermutation-middle (r ∷ []) y left) (IsPermutation-cons y _ _ (put_is r ys (and_right (list_all (before y) ys) _ up)))
        | false ↦ λ e. elim (before r y) as (λ b. before r y ≡ b → IsPermutation (r ∷ cond (not (not b)) (y ∷ left) left) (cond b (r ∷ y ∷ ys) (r ∷ ys))) [
          | true ↦ λ f. subst (λ l. IsPermutation (r ∷ y ∷ left) (r ∷ y ∷ l)) (others r ys (behind_all r y ys f (and_left _ _ up))) (IsPermutation-refl (r ∷ y ∷ left))
          | false ↦ λ f. subst (λ l. IsPermutation (r ∷ left) (r ∷ l)) (others r ys (tied_all r y ys e f (and_left _ _ up))) (IsPermutation-refl (r ∷ left))
        ] refl
      ] refl
    where
      left : List X
      left = filter (λ y. not (are_tied before y r)) ys

-- rows that are put one after another
pub puts_more : {X : Type 0} (before : X → X → Bool) (rs ss xs : List X) → puts before (rs ++ ss) xs ≡ puts before ss (puts before rs xs)
puts_more before [] ss xs = refl
puts_more before (r ∷ rs) ss xs = puts_more before rs ss (put before r xs)

-- ---- by one number
by_number : {X : Type 0} (f : X → ℤ) → IsOrdered (λ x y. int_lt (f x) (f y))
by_number f = record { irreflexive = λ x. less_itself (f x); transitive = λ x y z. less_more (f x) (f y) (f z); alike = λ x y z. less_alike (f x) (f y) (f z) }

numbers_tied : (m n : ℤ) → (not (int_lt m n) && not (int_lt n m)) ≡ int_eq m n
numbers_tied m n = grind (arith, ints)

-- ---- by an order of keys
less_is : (k : Ordering) → is_less k ≡ true → k ≡ Less
less_is Less e = refl
less_is Equal e = absurd (true≢false (sym e))
less_is Greater e = absurd (true≢false (sym e))

tied : (k m : Ordering) → m ≡ ordering_reverse k → is_less k ≡ false → is_less m ≡ false → k ≡ Equal
tied Less m e f g = absurd (true≢false f)
tied Equal m e f g = refl
tied Greater m e f g = absurd (true≢false (ap is_less (sym e) ∙ g))

by_order : {X : Type 0} (R : X → X → Ordering) → IsTotalOrder R → IsOrdered (λ x y. is_less (R x y))
by_order R total = record {
  irreflexive = λ x. itself (R x x) (total.antisymm x x);
  transitive = λ x y z e f. ap is_less (total.trans x y z (less_is (R x y) e) (less_is (R y z) f));
  alike = λ x y z e f g. ap is_less (sym (total.congr x y z (tied (R x y) (R y x) (total.antisymm y x) e f))) ∙ g;
}

neither : (k : Ordering) → (not (is_less k) && not (is_less (ordering_reverse k))) ≡ is_eq k
neither Less = refl
neither Equal = refl
neither Greater = refl

order_tied : {X : Type 0} (R : X → X → Ordering) → IsTotalOrder R → (x y : X) → are_tied (λ x y. is_less (R x y)) x y ≡ is_eq (R x y)
order_tied R total x y = ap (λ k. not (is_less (R x y)) && not (is_less k)) (total.antisymm y x) ∙ neither (R x y)

both_eq : (a b : Ordering) → is_eq (ordering_then a b) ≡ (is_eq a && is_eq b)
both_eq Less b = refl
both_eq Equal b = refl
both_eq Greater b = refl

-- ---- the seven orders
pool_cmp : IsTotalOrder (λ (x y : PoolRow). name_cmp x.name y.name)
pool_cmp = on_total (λ (x : PoolRow). x.name) nat_list_cmp_total

dag_cmp : IsTotalOrder (λ (x y : DagRow). name_cmp x.dag_id y.dag_id)
dag_cmp = on_total (λ (x : DagRow). x.dag_id) nat_list_cmp_total

dag_limit_cmp : IsTotalOrder (λ (x y : DagLimitRow). name_cmp x.dag_id y.dag_id)
dag_limit_cmp = on_total (λ (x : DagLimitRow). x.dag_id) nat_list_cmp_total

pub meta_order : IsOrdered meta_row_before
meta_order = by_number (λ (x : MetaRow). x.one)

pub pool_order : IsOrdered pool_row_before
pool_order = by_order _ pool_cmp

pub dag_order : IsOrdered dag_row_before
dag_order = by_order _ dag_cmp

pub dag_limit_order : IsOrdered dag_limit_row_before
dag_limit_order = by_order _ dag_limit_cmp

pub run_order : IsOrdered run_row_before
run_order = by_order _ run_cmp

pub instance_order : IsOrdered instance_row_before
instance_order = by_order _ instance_cmp

pub attempt_order : IsOrdered attempt_row_before
attempt_order = by_number (λ (x : AttemptRow). x.serial)

-- ---- two rows have one key where its columns are equal
pub meta_tied : (x y : MetaRow) → are_tied meta_row_before x y ≡ int_eq x.one y.one
meta_tied x y = numbers_tied x.one y.one

pub pool_tied : (x y : PoolRow) → are_tied pool_row_before x y ≡ bytes_eq x.name y.name
pool_tied x y = order_tied _ pool_cmp x y ∙ is_eq-slice_cmp x.name y.name

pub dag_tied : (x y : DagRow) → are_tied dag_row_before x y ≡ bytes_eq x.dag_id y.dag_id
dag_tied x y = order_tied _ dag_cmp x y ∙ is_eq-slice_cmp x.dag_id y.dag_id

pub dag_limit_tied : (x y : DagLimitRow) → are_tied dag_limit_row_before x y ≡ bytes_eq x.dag_id y.dag_id
dag_limit_tied x y = order_tied _ dag_limit_cmp x y ∙ is_eq-slice_cmp x.dag_id y.dag_id

pub run_tied : (x y : RunRow) → are_tied run_row_before x y ≡ (bytes_eq x.dag_id y.dag_id && int_eq x.logical y.logical)
run_tied x y = order_tied _ run_cmp x y ∙ both_eq (name_cmp x.dag_id y.dag_id) (int_cmp x.logical y.logical) ∙ ap (λ b. b && int_eq x.logical y.logical) (is_eq-slice_cmp x.dag_id y.dag_id)

pub instance_tied : (x y : InstanceRow) → are_tied instance_row_before x y ≡ (bytes_eq x.dag_id y.dag_id && (int_eq x.logical y.logical && bytes_eq x.task_id y.task_id))
instance_tied x y =
    order_tied _ instance_cmp x y
    ∙ both_eq (name_cmp x.dag_id y.dag_id) (ordering_then (int_cmp x.logical y.logical) (name_cmp x.task_id y.task_id))
    ∙ ap₂ (λ a b. a && b) (is_eq-slice_cmp x.dag_id y.dag_id) (both_eq (int_cmp x.logical y.logical) (name_cmp x.task_id y.task_id) ∙ ap (λ b. int_eq x.logical y.logical && b) (is_eq-slice_cmp x.task_id y.task_id))

pub attempt_tied : (x y : AttemptRow) → are_tied attempt_row_before x y ≡ int_eq x.serial y.serial
attempt_tied x y = numbers_tied x.serial y.serial
