-- Where a key stands among runs in their order.
use Rattle.std.proofs.Common.{◌≡◌, ◌∙◌, refl, sym, ap, ℕ, zero, suc, ◌+◌, ◌<◌, ◌≤◌, Bool, true, false, cond, not, ◌||◌, List, [], ◌∷◌, length, ◌-◌, insert, get_or, Option, Some, None, slice_get, true≢false, inl, inr, arith}
use Rattle.std.specs.List.{list_any, list_all}
use Rattle.std.specs.Cmp.{IsTotalOrder}
use Rattle.std.specs.Ordering.{nat_cmp, ordering_then, ordering_reverse}
use Rattle.std.specs.declared.cmp.Ordering.{Ordering}
use Rattle.std.specs.declared.cmp.Ordering.TheVariants.{Less, Equal, Greater}
use Rattle.std.proofs.lemmas.Bool.{cases_lt, eqb-true, false_from_ne_true}
use Rattle.std.proofs.lemmas.Cmp.{nat_list_cmp_total, nat_cmp_total}
use Rattle.std.proofs.lemmas.List.Sums.{sum_by-cons}
use Rattle.std.proofs.lemmas.Option.{slice_get_within, slice_get-get_or}
use Rattle.std.proofs.Math.Nat.{eq-or-lt_of_le}
use Rattle.sched_state.specs.Lists.{same, name_cmp, is_less, insert_by}
use Rattle.sched_state.specs.declared.runs.Run.{Run}
use Rattle.sched_state.proofs.NameLemmas.{same_is}
use Rattle.sched_state.proofs.OrderLemmas.{and_left, and_right, on_total, then_total}
use Rattle.sched_model.specs.Lists.{rises}
use Rattle.sched_model.specs.Schedule.{run_before, is_at}
use Rattle.run_lists.specs.Orders.{key_before, IsPositionFor, position_in_order}
use Rattle.run_lists.proofs.PastLemmas.{rises_pair}

-- ---- the order of keys
pub key_total : IsTotalOrder (λ (k l : List ℕ × ℕ). ordering_then (name_cmp k.0 l.0) (nat_cmp k.1 l.1))
key_total = then_total (on_total (λ (k : List ℕ × ℕ). k.0) nat_list_cmp_total) (on_total (λ (k : List ℕ × ℕ). k.1) nat_cmp_total)

pub less_only : (o : Ordering) → is_less o ≡ true → o ≡ Less
less_only Less e = refl
less_only Equal e = absurd (true≢false (sym e))
less_only Greater e = absurd (true≢false (sym e))

-- what stands after a run that the key stands before
key_on : (id : List ℕ) (date : ℕ) (r q : Run) → key_before id date r ≡ true → run_before r q ≡ true → key_before id date q ≡ true
key_on id date r q h g = ap is_less (key_total.trans (id, date) (r.graph, r.logical) (q.graph, q.logical) (less_only _ h) (less_only _ g))

pub rise_pair : (rs : List Run) (m n : ℕ) (r q : Run) → rises run_before rs ≡ true → m < n → slice_get rs m ≡ Some r → slice_get rs n ≡ Some q → run_before r q ≡ true
rise_pair rs m n r q h l e f = rises_pair run_before rs m n r q h l e f

-- ---- a search that is under way: what was passed, and what was reached
pub record IsBetween (id : List ℕ) (date : ℕ) (rs : List Run) (low high : ℕ) : Type 0 where
  pub order : low ≤ high
  pub within : high ≤ length rs
  pub passed : (n : ℕ) (r : Run) → n < low → slice_get rs n ≡ Some r → key_before id date r ≡ false
  pub reached : (n : ℕ) (r : Run) → high ≤ n → slice_get rs n ≡ Some r → key_before id date r ≡ true

pub between_all : (id : List ℕ) (date : ℕ) (rs : List Run) (n : ℕ) → n ≡ length rs → IsBetween id date rs 0 n
between_all id date rs n e = record {
  order = omega arith;
  within = omega arith;
  passed = λ m r l g. absurd (omega (arith, l));
  reached = λ m r l g. absurd (let w : m < length rs = slice_get_within rs m r g in omega (arith, l));
}

pub between_lower : (id : List ℕ) (date : ℕ) (rs : List Run) (low high middle : ℕ) (r : Run) → IsBetween id date rs low high → rises run_before rs ≡ true → low ≤ middle → middle < high → slice_get rs middle ≡ Some r → key_before id date r ≡ true
    → IsBetween id date rs low middle
between_lower id date rs low high middle r h rise l m g k = record {
  order = l;
  within = omega (arith, h.within);
  passed = h.passed;
  reached = λ n q a f. elim (eq-or-lt_of_le a) [
    | inl same ↦ let is : r ≡ q = at_one n q f same in ap (key_before id date) (sym is) ∙ k
    | inr past ↦ key_on id date r q k (rise_pair rs middle n r q rise past g f)
  ];
}
  where
    at_one : (n : ℕ) (q : Run) → slice_get rs n ≡ Some q → middle ≡ n → r ≡ q
    at_one n q f same = let c : ◌≡◌ {A = Option Run} (Some r) (Some q) = sym g ∙ ap (slice_get rs) same ∙ f in cc

pub between_upper : (id : List ℕ) (date : ℕ) (rs : List Run) (low high middle : ℕ) (r : Run) → IsBetween id date rs low high → rises run_before rs ≡ true → middle < high → slice_get rs middle ≡ Some r → key_before id date r ≡ false
    → IsBetween id date rs (middle + 1) high
between_upper id date rs low high middle r h rise m g k = record {
  order = omega arith;
  within = h.within;
  passed = λ n q a f. elim (eq-or-lt_of_le (let b : n ≤ middle = omega (arith, a) in b)) [
    | inl same ↦ let is : r ≡ q = at_one n q f same in ap (key_before id date) (sym is) ∙ k
    | inr past ↦ false_from_ne_true (key_before id date q) (λ t. true≢false (sym (key_on id date q r t (rise_pair rs n middle q r rise past f g)) ∙ k))
  ];
  reached = h.reached;
}
  where
    at_one : (n : ℕ) (q : Run) → slice_get rs n ≡ Some q → n ≡ middle → r ≡ q
    at_one n q f same = let c : ◌≡◌ {A = Option Run} (Some r) (Some q) = sym g ∙ ap (slice_get rs) (sym same) ∙ f in cc

pub between_none : (id : List ℕ) (date : ℕ) (rs : List Run) (low high : ℕ) → IsBetween id date rs low high → high ≤ low → IsPositionFor id date rs low
between_none id date rs low high h l = record { within = omega (arith, h.order, h.within); passed = h.passed; reached = λ n r a f. h.reached n r (omega (arith, a, h.order)) f }

pub turned : (b : Bool) → not b ≡ false → b ≡ true
turned true e = refl
turned false e = absurd (true≢false e)

-- ---- a run is put in there
pub insert_ordered : (r : Run) (rs : List Run) (n : ℕ) → IsPositionFor r.graph r.logical rs n → insert rs n r ≡ insert_by run_before r rs
insert_ordered r [] zero h = refl
insert_ordered r [] (suc n) h = absurd (omega (arith, h.within))
insert_ordered r (q ∷ qs) zero h = let here : run_before r q ≡ true = h.reached 0 q (omega arith) refl in rw (here, insert_by) refl
insert_ordered r (q ∷ qs) (suc n) h =
    let here : run_before r q ≡ false = h.passed 0 q (omega arith) refl in
    let rest : insert qs n r ≡ insert_by run_before r qs =
    insert_ordered r qs n (record { within = omega (arith, h.within); passed = λ m p l f. h.passed (suc m) p (omega (arith, l)) f; reached = λ m p l f. h.reached (suc m) p (omega (arith, l)) f }) in
    rw (here, insert_by) (ap (λ zs. q ∷ zs) rest)

-- as many runs as are not after it stand before it
pub position_counted : (r : Run) (rs : List Run) (n : ℕ) → IsPositionFor r.graph r.logical rs n → n ≡ position_in_order r rs
position_counted r [] zero h = refl
position_counted r [] (suc n) h = absurd (omega (arith, h.within))
position_counted r (q ∷ qs) zero h =
    let here : run_before r q ≡ true = h.reached 0 q (omega arith) refl in
    let one : ◌≡◌ {A = ℕ} (cond (not (run_before r q)) 1 0) 0 = ap (λ (b : Bool). cond (not b) 1 0) here in
    let rest : 0 ≡ position_in_order r qs =
    position_counted r qs zero (record { within = omega arith; passed = λ m p l f. absurd (omega (arith, l)); reached = λ m p l f. h.reached (suc m) p (omega arith) f }) in
    let all : position_in_order r (q ∷ qs) ≡ cond (not (run_before r q)) 1 0 + position_in_order r qs = sum_by-cons (λ (x : Run). cond (not (run_before r x)) 1 0) q qs in
    omega (arith, all, one, rest)
position_counted r (q ∷ qs) (suc n) h =
    let here : run_before r q ≡ false = h.passed 0 q (omega arith) refl in
    let one : ◌≡◌ {A = ℕ} (cond (not (run_before r q)) 1 0) 1 = ap (λ (b : Bool). cond (not b) 1 0) here in
    let rest : n ≡ position_in_order r qs =
    position_counted r qs n (record { within = omega (arith, h.within); passed = λ m p l f. h.passed (suc m) p (omega (arith, l)) f; reached = λ m p l f. h.reached (suc m) p (omega (arith, l)) f }) in
    let all : position_in_order r (q ∷ qs) ≡ cond (not (run_before r q)) 1 0 + position_in_order r qs = sum_by-cons (λ (x : Run). cond (not (run_before r x)) 1 0) q qs in
    omega (arith, all, one, rest)

-- ---- a run with the key
pub any_none : {X : Type 0} (p : X → Bool) (xs : List X) → ((n : ℕ) (x : X) → slice_get xs n ≡ Some x → p x ≡ false) → list_any p xs ≡ false
any_none p [] h = refl
any_none p (x ∷ xs) h = ap (λ b. b || list_any p xs) (h zero x refl) ∙ any_none p xs (λ n y g. h (suc n) y g)

pub never : (o : Ordering) → o ≡ ordering_reverse o → is_less o ≡ false
never Less e = cc
never Equal e = refl
never Greater e = refl

pub key_same : (id : List ℕ) (date : ℕ) (q x : Run) → is_at id date q ≡ true → key_before id date x ≡ run_before q x
key_same id date q x t =
    let graph : q.graph ≡ id = same_is q.graph id (and_left _ _ t) in
    let logical : q.logical ≡ date = eqb-true q.logical date (and_right (same q.graph id) _ t) in
    ap (λ g. is_less (ordering_then (name_cmp g x.graph) (nat_cmp date x.logical))) (sym graph) ∙ ap (λ l. is_less (ordering_then (name_cmp q.graph x.graph) (nat_cmp l x.logical))) (sym logical)

pub key_itself : (id : List ℕ) (date : ℕ) (q : Run) → is_at id date q ≡ true → key_before id date q ≡ false
key_itself id date q t = key_same id date q q t ∙ never (ordering_then (name_cmp q.graph q.graph) (nat_cmp q.logical q.logical)) (key_total.antisymm (q.graph, q.logical) (q.graph, q.logical))

-- it stands right before where one would be put in
pub key_nowhere : (id : List ℕ) (date : ℕ) (rs : List Run) (n : ℕ) → rises run_before rs ≡ true → IsPositionFor id date rs n → ((m : ℕ) (q : Run) → n ≡ m + 1 → slice_get rs m ≡ Some q → is_at id date q ≡ false)
    → list_any (is_at id date) rs ≡ false
key_nowhere id date rs n rise h last = any_none (is_at id date) rs (λ m q g. false_from_ne_true (is_at id date q) (λ t. away m q g t))
  where
    away : (m : ℕ) (q : Run) → slice_get rs m ≡ Some q → is_at id date q ≡ true → ⊥
    away m q g t = elim (cases_lt m n) [
      | inr l ↦ true≢false (sym (h.reached m q l g) ∙ key_itself id date q t)
      | inl l ↦ elim (eq-or-lt_of_le (let b : m + 1 ≤ n = omega (arith, l) in b)) [
        | inl e ↦ true≢false (sym t ∙ last m q (sym e) g)
        | inr f ↦
            let x : slice_get rs (n - 1) ≡ Some (get_or rs (n - 1) q) = slice_get-get_or rs (n - 1) q (omega (arith, h.within)) in
            true≢false (sym (key_same id date q (get_or rs (n - 1) q) t ∙ rise_pair rs m (n - 1) q (get_or rs (n - 1) q) rise (omega (arith, f)) g x) ∙ h.passed (n - 1) (get_or rs (n - 1) q) (omega (arith, f)) x)
      ]
    ]

-- where the run there has another key
pub last_apart : (id : List ℕ) (date : ℕ) (rs : List Run) (n : ℕ) (r : Run) → slice_get rs (n - 1) ≡ Some r → is_at id date r ≡ false → (m : ℕ) (q : Run) → n ≡ m + 1 → slice_get rs m ≡ Some q → is_at id date q ≡ false
last_apart id date rs n r f h m q e g =
    let before : n - 1 ≡ m = omega arith in
    let same : q ≡ r = (let c : ◌≡◌ {A = Option Run} (Some q) (Some r) = sym g ∙ ap (slice_get rs) (sym before) ∙ f in cc) in
    ap (is_at id date) same ∙ h
