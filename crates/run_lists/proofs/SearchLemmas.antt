-- What stands where a search among runs in their order ends.
use Rattle.std.proofs.Common.{◌≡◌, ◌∙◌, refl, sym, ap, ℕ, zero, suc, ◌-◌, ◌<◌, ◌≤◌, ◌&&◌, Bool, true, false, cond, not, List, [], ◌∷◌, length, find, get_or, Option, Some, None, slice_get, nat_lt, true≢false, inl, inr, arith}
use Rattle.std.specs.List.{list_any}
use Rattle.std.specs.Ordering.{nat_cmp, ordering_then}
use Rattle.std.proofs.lemmas.Bool.{and_from, cases_lt, false_from_ne_true}
use Rattle.std.proofs.lemmas.List.Folds.{list_any_at}
use Rattle.std.proofs.lemmas.Option.{slice_get_within, slice_get-get_or, get_or_from_slice_get}
use Rattle.std.proofs.Math.Nat.{eq-or-lt_of_le}
use Rattle.graph_file.specs.Lists.{when}
use Rattle.sched_state.specs.Lists.{is_less, name_cmp, same}
use Rattle.sched_state.specs.declared.runs.Run.{Run}
use Rattle.sched_state.proofs.OrderLemmas.{and_left, and_right}
use Rattle.sched_model.specs.Lists.{last_passing, or_else, rises}
use Rattle.sched_model.specs.Schedule.{run_before, is_at}
use Rattle.run_lists.specs.Orders.{IsFirstOf, IsPositionFrom, stands_before}
use Rattle.run_lists.proofs.BeforeLemmas.{find_only}
use Rattle.run_lists.proofs.GraphLemmas.{below_other, here_same, up_to_before}
use Rattle.run_lists.proofs.OrderLemmas.{any_none, rise_pair}
use Rattle.run_lists.proofs.PastLemmas.{between, nat_less, none_passes}
use Rattle.run_lists.proofs.SpanLemmas.{before_itself, before_same, tie, tie_back}

passed_by : (id : List ℕ) (date : ℕ) (r : Run) → stands_before id date r ≡ true → is_at id date r ≡ false
passed_by id date r e = false_from_ne_true (is_at id date r) (λ t. true≢false (sym e ∙ before_itself id date r t))

find_nothing : {X : Type 0} (p : X → Bool) (xs : List X) → ((n : ℕ) (x : X) → slice_get xs n ≡ Some x → p x ≡ false) → find p xs ≡ None
find_nothing p [] h = refl
find_nothing {X} p (x ∷ xs) h = ap (λ b. cond b (let o : Option X = Some x in o) (find p xs)) (h zero x refl) ∙ find_nothing p xs (λ n y g. h (suc n) y g)

-- ---- a run by its key
pub run_there : (id : List ℕ) (date : ℕ) (rs : List Run) (p : ℕ) (r : Run) → IsPositionFrom id date rs p → slice_get rs p ≡ Some r → is_at id date r ≡ true → Some r ≡ find (is_at id date) rs
run_there id date rs p r from g t = sym (find_only (is_at id date) rs p r g t (λ m z l f. passed_by id date z (from.passed m z l f)))

pub run_nowhere : (id : List ℕ) (date : ℕ) (rs : List Run) (p : ℕ) → rises run_before rs ≡ true → IsPositionFrom id date rs p → ((r : Run) → slice_get rs p ≡ Some r → is_at id date r ≡ false) → None ≡ find (is_at id date) rs
run_nowhere id date rs p rise from other = sym (find_nothing (is_at id date) rs each)
  where
    away : (n : ℕ) (q : Run) → p < n → slice_get rs n ≡ Some q → is_at id date q ≡ true → ⊥
    away n q l g t =
        let within : n < length rs = slice_get_within rs n q g in
        let there : slice_get rs p ≡ Some (get_or rs p q) = slice_get-get_or rs p q (omega (arith, l, within)) in
        true≢false (sym (before_same id date q (get_or rs p q) t ∙ rise_pair rs p n (get_or rs p q) q rise l there g) ∙ from.reached p (get_or rs p q) (omega arith) there)

    each : (n : ℕ) (q : Run) → slice_get rs n ≡ Some q → is_at id date q ≡ false
    each n q g = elim (cases_lt n p) [
      | inl l ↦ passed_by id date q (from.passed n q l g)
      | inr l ↦ elim (eq-or-lt_of_le l) [
        | inl e ↦ other q (ap (slice_get rs) e ∙ g)
        | inr w ↦ false_from_ne_true (is_at id date q) (away n q w g)
      ]
    ]

-- two looks at one position see one run
pub one_read : (p : Run → Bool) (o : Option Run) (q r : Run) (b : Bool) → o ≡ Some q → o ≡ Some r → p q ≡ b → p r ≡ b
one_read p o q r b e f t = let c : ◌≡◌ {A = Option Run} (Some r) (Some q) = sym f ∙ e in let is : r ≡ q = cc in ap p is ∙ t

-- ---- the last of a graph before a date
abbrev pub of_before : List ℕ → ℕ → Run → Bool
of_before id date q = same q.graph id && nat_lt q.logical date

-- of two runs of a graph the dates tell which stands before
by_date : (id : List ℕ) (date : ℕ) (r : Run) → same r.graph id ≡ true → stands_before id date r ≡ nat_lt r.logical date
by_date id date r e = ap (λ o. is_less (ordering_then o (nat_cmp r.logical date))) (tie id r e) ∙ nat_less r.logical date

not_late : (id : List ℕ) (date : ℕ) (r : Run) → stands_before id date r ≡ false → of_before id date r ≡ false
not_late id date r e = false_from_ne_true (of_before id date r) (λ t. true≢false (sym (by_date id date r (and_left _ _ t) ∙ and_right (same r.graph id) _ t) ∙ e))

last_only : {X : Type 0} (p : X → Bool) (xs : List X) (n : ℕ) (x : X) → slice_get xs n ≡ Some x → p x ≡ true → ((m : ℕ) (z : X) → n < m → slice_get xs m ≡ Some z → p z ≡ false) → last_passing p xs ≡ Some x
last_only {X} p [] n x g t h = absurd (let c : ◌≡◌ {A = Option X} None (Some x) = g in cc)
last_only {X} p (y ∷ ys) zero x g t h =
    let c : ◌≡◌ {A = Option X} (Some y) (Some x) = g in let e : y ≡ x = cc in
    ap (λ o. or_else o (when (p y) y)) (none_passes p ys (λ m z f. h (suc m) z (omega arith) f)) ∙ (ap (λ b. when b y) (ap p e ∙ t) ∙ g)
last_only p (y ∷ ys) (suc n) x g t h = ap (λ o. or_else o (when (p y) y)) (last_only p ys n x g t (λ m z l f. h (suc m) z (omega (arith, l)) f))

pub last_there : (id : List ℕ) (date : ℕ) (rs : List Run) (p : ℕ) (r : Run) → IsPositionFrom id date rs p → 0 < p → slice_get rs (p - 1) ≡ Some r → same r.graph id ≡ true → Some r ≡ last_passing (of_before id date) rs
last_there id date rs p r from some g e =
    sym (last_only (of_before id date) rs (p - 1) r g (and_from (same r.graph id) _ e (sym (by_date id date r e) ∙ from.passed (p - 1) r (omega (arith, some)) g))
    (λ m z l f. not_late id date z (from.reached m z (omega (arith, l)) f)))

pub last_nowhere : (id : List ℕ) (date : ℕ) (rs : List Run) (p : ℕ) → rises run_before rs ≡ true → IsPositionFrom id date rs p → ((r : Run) → 0 < p → slice_get rs (p - 1) ≡ Some r → same r.graph id ≡ false)
    → None ≡ last_passing (of_before id date) rs
last_nowhere id date rs p rise from last = sym (none_passes (of_before id date) rs each)
  where
    away : (n : ℕ) (q : Run) → n < p → slice_get rs n ≡ Some q → same q.graph id ≡ true → ⊥
    away n q l g t =
        let x : Run = get_or rs (p - 1) q in
        let there : slice_get rs (p - 1) ≡ Some x = slice_get-get_or rs (p - 1) q (omega (arith, l, from.within)) in
        let other : same x.graph id ≡ false = last x (omega (arith, l)) there in
        elim (eq-or-lt_of_le (let b : n ≤ p - 1 = omega (arith, l) in b)) [
          | inl e ↦ true≢false (sym t ∙ one_read (λ (y : Run). same y.graph id) (slice_get rs n) x q false (ap (slice_get rs) e ∙ there) g other)
          | inr w ↦
              true≢false (sym (between q x (record x { graph = id; logical = date }) (rise_pair rs n (p - 1) q x rise w g there) (from.passed (p - 1) x (omega (arith, l)) there) t) ∙ other)
        ]

    each : (n : ℕ) (q : Run) → slice_get rs n ≡ Some q → of_before id date q ≡ false
    each n q g = elim (cases_lt n p) [
      | inl l ↦ ap (λ b. b && nat_lt q.logical date) (false_from_ne_true (same q.graph id) (away n q l g))
      | inr l ↦ not_late id date q (from.reached n q l g)
    ]

-- ---- the first of a graph
up_to : (id : List ℕ) (q : Run) → same q.graph id ≡ true → not (is_less (name_cmp id q.graph)) ≡ true
up_to id q e = ap (λ o. not (is_less o)) (tie_back id q e)

pub graph_there : (id : List ℕ) (rs : List Run) (n : ℕ) (r : Run) (b : Bool) → rises run_before rs ≡ true → IsFirstOf id rs n → slice_get rs n ≡ Some r → b ≡ same r.graph id → b ≡ list_any (λ (q : Run). same q.graph id) rs
graph_there id rs n r true rise first g e =
    sym (list_any_at (λ (q : Run). same q.graph id) rs n r (slice_get_within rs n r g) (ap (λ (q : Run). same q.graph id) (get_or_from_slice_get rs n r r g) ∙ sym e))
graph_there id rs n r false rise first g e = sym (any_none (λ (q : Run). same q.graph id) rs each)
  where
    away : (m : ℕ) (q : Run) → n ≤ m → slice_get rs m ≡ Some q → same q.graph id ≡ true → ⊥
    away m q l f t = elim (eq-or-lt_of_le l) [
      | inl k ↦ true≢false (sym t ∙ one_read (λ (y : Run). same y.graph id) (slice_get rs n) r q false g (ap (slice_get rs) k ∙ f) (sym e))
      | inr w ↦
          true≢false (sym (here_same id (Some r) (first.reached n r (omega arith) g) (up_to_before id r q (rise_pair rs n m r q rise w g f) (up_to id q t))) ∙ sym e)
    ]

    each : (m : ℕ) (q : Run) → slice_get rs m ≡ Some q → same q.graph id ≡ false
    each m q f = elim (cases_lt m n) [
      | inl l ↦ below_other id (Some q) (first.before m q l f)
      | inr l ↦ false_from_ne_true (same q.graph id) (away m q l f)
    ]

-- where no run stands
pub graph_past : (id : List ℕ) (rs : List Run) (n : ℕ) → IsFirstOf id rs n → length rs ≤ n → list_any (λ (q : Run). same q.graph id) rs ≡ false
graph_past id rs n first l = any_none (λ (q : Run). same q.graph id) rs (λ m q f. below_other id (Some q) (first.before m q (let w : m < length rs = slice_get_within rs m q f in omega (arith, l)) f))
