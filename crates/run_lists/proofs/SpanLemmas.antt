-- Where the runs of a graph with dates from one to another stand.
use Rattle.std.proofs.Common.{◌≡◌, ◌∙◌, refl, sym, ap, ℕ, ◌+◌, ◌-◌, ◌<◌, ◌≤◌, ◌&&◌, Bool, true, false, List, get_or, Option, Some, slice_get, nat_le, nat_lt, true≢false, inl, inr, arith}
use Rattle.std.specs.Cmp.{ranked}
use Rattle.std.specs.Ordering.{is_eq, nat_cmp, ordering_reverse, ordering_then}
use Rattle.std.specs.declared.cmp.Ordering.{Ordering}
use Rattle.std.specs.declared.cmp.Ordering.TheVariants.{Less, Equal, Greater}
use Rattle.std.proofs.lemmas.Bool.{and_from, eq-eqb, eqb-true, false_from_ne_true}
use Rattle.std.proofs.lemmas.Bool.Decides.{nat_tests}
use Rattle.std.proofs.lemmas.Cmp.{nat_list_cmp_total}
use Rattle.std.proofs.lemmas.Map.Text.{is_eq-slice_cmp}
use Rattle.std.proofs.lemmas.Option.{slice_get-get_or}
use Rattle.std.proofs.Math.Nat.{eq-or-lt_of_le}
use Rattle.sched_state.specs.Lists.{is_less, name_cmp, same}
use Rattle.sched_state.specs.declared.runs.Run.{Run}
use Rattle.sched_state.proofs.NameLemmas.{same_is}
use Rattle.sched_state.proofs.OrderLemmas.{and_left, and_right}
use Rattle.sched_model.specs.Lists.{rises}
use Rattle.sched_model.specs.Schedule.{is_at, run_before}
use Rattle.run_lists.specs.Orders.{IsFirstOf, IsPositionFor, IsPositionFrom, IsSpanOf, graph_below, is_in_span, key_before, stands_before}
use Rattle.run_lists.proofs.OrderLemmas.{key_same, key_total, less_only, never, rise_pair}
use Rattle.run_lists.proofs.PlaceLemmas.{by_bool}

-- ---- a run and a key, seen from either side
abbrev cmp_key : List ℕ → ℕ → Run → Ordering
cmp_key id date r = ordering_then (name_cmp id r.graph) (nat_cmp date r.logical)

turned : (id : List ℕ) (date : ℕ) (r : Run) (o : Ordering) → cmp_key id date r ≡ o → stands_before id date r ≡ is_less (ordering_reverse o)
turned id date r o e = ap is_less (key_total.antisymm (r.graph, r.logical) (id, date) ∙ ap ordering_reverse e)

not_before : (id : List ℕ) (date : ℕ) (r : Run) → key_before id date r ≡ true → stands_before id date r ≡ false
not_before id date r e = elim (cmp_key id date r) as (λ o. cmp_key id date r ≡ o → stands_before id date r ≡ false) [
  | Less ↦ λ q. turned id date r Less q
  | Equal ↦ λ q. turned id date r Equal q
  | Greater ↦ λ q. absurd (true≢false (sym e ∙ ap is_less q))
] refl

both_equal : (o p : Ordering) → ordering_then o p ≡ Equal → (is_eq o ≡ true) × (p ≡ Equal)
both_equal Less p e = cc
both_equal Equal p e = (refl, e)
both_equal Greater p e = cc

key_at : (id : List ℕ) (date : ℕ) (r : Run) → cmp_key id date r ≡ Equal → is_at id date r ≡ true
key_at id date r e =
    let t = both_equal (name_cmp id r.graph) (nat_cmp date r.logical) e in
    let d : date ≡ r.logical = ranked date r.logical Equal (sym t.1) in
    let g : same r.graph id ≡ true = sym (is_eq-slice_cmp r.graph id) ∙ (ap is_eq (nat_name r.graph id) ∙ turned_eq (name_cmp id r.graph) t.0) in
    and_from (same r.graph id) _ g (eq-eqb r.logical date (sym d))
  where
    nat_name : (xs ys : List ℕ) → name_cmp xs ys ≡ ordering_reverse (name_cmp ys xs)
    nat_name xs ys = nat_list_cmp_total.antisymm xs ys

    turned_eq : (o : Ordering) → is_eq o ≡ true → is_eq (ordering_reverse o) ≡ true
    turned_eq Less f = absurd (true≢false (sym f))
    turned_eq Equal f = refl
    turned_eq Greater f = absurd (true≢false (sym f))

before_by : (id : List ℕ) (date : ℕ) (r : Run) → key_before id date r ≡ false → is_at id date r ≡ false → stands_before id date r ≡ true
before_by id date r e f = elim (cmp_key id date r) as (λ o. cmp_key id date r ≡ o → stands_before id date r ≡ true) [
  | Less ↦ λ q. absurd (true≢false (sym (ap is_less q) ∙ e))
  | Equal ↦ λ q. absurd (true≢false (sym (key_at id date r q) ∙ f))
  | Greater ↦ λ q. turned id date r Greater q
] refl

-- a run with the key stands in its place
pub before_same : (id : List ℕ) (date : ℕ) (q x : Run) → is_at id date q ≡ true → stands_before id date x ≡ run_before x q
before_same id date q x t =
    let graph : q.graph ≡ id = same_is q.graph id (and_left _ _ t) in
    let logical : q.logical ≡ date = eqb-true q.logical date (and_right (same q.graph id) _ t) in
    ap (λ g. is_less (ordering_then (name_cmp x.graph g) (nat_cmp x.logical date))) (sym graph) ∙ ap (λ l. is_less (ordering_then (name_cmp x.graph q.graph) (nat_cmp x.logical l))) (sym logical)

pub before_itself : (id : List ℕ) (date : ℕ) (q : Run) → is_at id date q ≡ true → stands_before id date q ≡ false
before_itself id date q t = before_same id date q q t ∙ never (ordering_then (name_cmp q.graph q.graph) (nat_cmp q.logical q.logical)) (key_total.antisymm (q.graph, q.logical) (q.graph, q.logical))

-- ---- the position from which on they stand
-- a run before the last one before that position has another key
apart_below : (id : List ℕ) (date : ℕ) (rs : List Run) (p n : ℕ) (r : Run) → rises run_before rs ≡ true → IsPositionFor id date rs p → n + 1 < p → slice_get rs n ≡ Some r → is_at id date r ≡ false
apart_below id date rs p n r rise h l g = false_from_ne_true (is_at id date r) (λ t.
    let last : slice_get rs (p - 1) ≡ Some (get_or rs (p - 1) r) = slice_get-get_or rs (p - 1) r (omega (arith, h.within, l)) in
    true≢false (sym (key_same id date r (get_or rs (p - 1) r) t ∙ rise_pair rs n (p - 1) r (get_or rs (p - 1) r) rise (omega (arith, l)) g last) ∙ h.passed (p - 1) (get_or rs (p - 1) r) (omega (arith, l)) last))

pub from_there : (id : List ℕ) (date : ℕ) (rs : List Run) (p : ℕ) (r : Run) → rises run_before rs ≡ true → IsPositionFor id date rs p → 0 < p → slice_get rs (p - 1) ≡ Some r → is_at id date r ≡ true → IsPositionFrom id date rs (p - 1)
from_there id date rs p r rise h l g t = record {
  within = omega (arith, h.within);
  passed = λ n q m f. before_by id date q (h.passed n q (omega (arith, m)) f) (apart_below id date rs p n q rise h (omega (arith, m)) f);
  reached = λ n q m f. elim (eq-or-lt_of_le m) [
    | inl same_place ↦
        let is : q ≡ r = (let c : ◌≡◌ {A = Option Run} (Some q) (Some r) = sym f ∙ ap (slice_get rs) (sym same_place) ∙ g in cc) in
        ap (stands_before id date) is ∙ before_itself id date r t
    | inr past ↦ not_before id date q (h.reached n q (omega (arith, past)) f)
  ];
}

pub from_after : (id : List ℕ) (date : ℕ) (rs : List Run) (p : ℕ) → rises run_before rs ≡ true → IsPositionFor id date rs p → ((m : ℕ) (q : Run) → p ≡ m + 1 → slice_get rs m ≡ Some q → is_at id date q ≡ false) → IsPositionFrom id date rs p
from_after id date rs p rise h last = record {
  within = h.within;
  passed = λ n q m f. before_by id date q (h.passed n q m f) (elim (eq-or-lt_of_le (let b : n + 1 ≤ p = omega (arith, m) in b)) [
    | inl e ↦ last n q (sym e) f
    | inr less ↦ apart_below id date rs p n q rise h less f
  ]);
  reached = λ n q m f. not_before id date q (h.reached n q m f);
}

-- ---- the span between two positions
equal_only : (o : Ordering) → is_eq o ≡ true → o ≡ Equal
equal_only Less e = absurd (true≢false (sym e))
equal_only Equal e = refl
equal_only Greater e = absurd (true≢false (sym e))

-- the names are the same
pub tie : (id : List ℕ) (r : Run) → same r.graph id ≡ true → name_cmp r.graph id ≡ Equal
tie id r e = equal_only (name_cmp r.graph id) (is_eq-slice_cmp r.graph id ∙ e)

pub tie_back : (id : List ℕ) (r : Run) → same r.graph id ≡ true → name_cmp id r.graph ≡ Equal
tie_back id r e = nat_list_cmp_total.antisymm id r.graph ∙ ap ordering_reverse (tie id r e)

below : (a b : ℕ) → is_less (nat_cmp a b) ≡ true → a < b
below a b e = ranked a b Less (sym (less_only (nat_cmp a b) e))

not_below : (a b : ℕ) → is_less (nat_cmp a b) ≡ false → b ≤ a
not_below a b e = elim (nat_cmp a b) as (λ o. o ≡ nat_cmp a b → b ≤ a) [
  | Less ↦ λ q. absurd (true≢false (ap is_less q ∙ e))
  | Equal ↦ λ q. let h : a ≡ b = ranked a b Equal q in omega (arith, h)
  | Greater ↦ λ q. let h : b < a = ranked a b Greater q in omega (arith, h)
] refl

-- before the span, behind it and within
out_before : (id : List ℕ) (first last : ℕ) (r : Run) → stands_before id first r ≡ true → is_in_span id first last r ≡ false
out_before id first last r e = false_from_ne_true (is_in_span id first last r) (λ t.
    let low : nat_le first r.logical ≡ true = and_left _ _ (and_right (same r.graph id) _ t) in
    let less : r.logical < first = below r.logical first (ap (λ o. is_less (ordering_then o (nat_cmp r.logical first))) (sym (tie id r (and_left _ _ t))) ∙ e) in
    grind (arith, nat_tests, low, less))

out_behind : (id : List ℕ) (first last : ℕ) (r : Run) → key_before id last r ≡ true → is_in_span id first last r ≡ false
out_behind id first last r e = false_from_ne_true (is_in_span id first last r) (λ t.
    let high : nat_le r.logical last ≡ true = and_right (nat_le first r.logical) _ (and_right (same r.graph id) _ t) in
    let less : last < r.logical = below last r.logical (ap (λ o. is_less (ordering_then o (nat_cmp last r.logical))) (sym (tie_back id r (and_left _ _ t))) ∙ e) in
    grind (arith, nat_tests, high, less))

within : (id : List ℕ) (first last : ℕ) (r : Run) → stands_before id first r ≡ false → key_before id last r ≡ false → is_in_span id first last r ≡ true
within id first last r e f = elim (name_cmp id r.graph) as (λ o. name_cmp id r.graph ≡ o → is_in_span id first last r ≡ true) [
  | Less ↦ λ q. absurd (true≢false (sym (ap (λ o. is_less (ordering_then o (nat_cmp last r.logical))) q) ∙ f))
  | Equal ↦ λ q.
      let back : name_cmp r.graph id ≡ Equal = nat_list_cmp_total.antisymm r.graph id ∙ ap ordering_reverse q in
      let g : same r.graph id ≡ true = sym (is_eq-slice_cmp r.graph id) ∙ ap is_eq back in
      let low : first ≤ r.logical = not_below r.logical first (ap (λ o. is_less (ordering_then o (nat_cmp r.logical first))) (sym back) ∙ e) in
      let high : r.logical ≤ last = not_below last r.logical (ap (λ o. is_less (ordering_then o (nat_cmp last r.logical))) (sym q) ∙ f) in
      let at_low : nat_le first r.logical ≡ true = grind (arith, nat_tests, low) in
      let at_high : nat_le r.logical last ≡ true = grind (arith, nat_tests, high) in
      and_from (same r.graph id) _ g (and_from (nat_le first r.logical) _ at_low at_high)
  | Greater ↦ λ q.
      let back : name_cmp r.graph id ≡ Less = nat_list_cmp_total.antisymm r.graph id ∙ ap ordering_reverse q in
      absurd (true≢false (sym (ap (λ o. is_less (ordering_then o (nat_cmp r.logical first))) back) ∙ e))
] refl

pub span_is : (id : List ℕ) (first last : ℕ) (rs : List Run) (p q : ℕ) → IsPositionFrom id first rs p → IsPositionFor id last rs q → IsSpanOf id first last rs p q
span_is id first last rs p q from for = record {
  within = for.within;
  inside = λ n r g. by_bool {C = is_in_span id first last r ≡ (nat_le p n && nat_lt n q)} (nat_le p n)
      (λ e. by_bool {C = is_in_span id first last r ≡ (nat_le p n && nat_lt n q)} (nat_lt n q)
      (λ f. let here : p ≤ n = grind (arith, nat_tests, e) in let there : n < q = grind (arith, nat_tests, f) in
      within id first last r (from.reached n r here g) (for.passed n r there g) ∙ sym (and_from (nat_le p n) _ e f))
      (λ f. let there : q ≤ n = grind (arith, nat_tests, f) in
      out_behind id first last r (for.reached n r there g) ∙ sym (ap (λ b. nat_le p n && b) f ∙ and_false (nat_le p n))))
      (λ e. let here : n < p = grind (arith, nat_tests, e) in
      out_before id first last r (from.passed n r here g) ∙ sym (ap (λ b. b && nat_lt n q) e));
}
  where
    and_false : (b : Bool) → (b && false) ≡ false
    and_false true = refl
    and_false false = refl

-- ---- where the runs of a graph begin
below_by : (id : List ℕ) (r : Run) → stands_before id 0 r ≡ true → graph_below id r ≡ true
below_by id r e = elim (name_cmp r.graph id) as (λ o. is_less (ordering_then o (nat_cmp r.logical 0)) ≡ true → is_less o ≡ true) [
  | Less ↦ λ f. refl
  | Equal ↦ λ f. let l : r.logical < 0 = below r.logical 0 f in absurd (omega (arith, l))
  | Greater ↦ λ f. f
] e

not_below_by : (id : List ℕ) (r : Run) → stands_before id 0 r ≡ false → graph_below id r ≡ false
not_below_by id r e = elim (name_cmp r.graph id) as (λ o. is_less (ordering_then o (nat_cmp r.logical 0)) ≡ false → is_less o ≡ false) [
  | Less ↦ λ f. f
  | Equal ↦ λ f. refl
  | Greater ↦ λ f. refl
] e

pub first_is : (id : List ℕ) (rs : List Run) (p : ℕ) → IsPositionFrom id 0 rs p → IsFirstOf id rs p
first_is id rs p from = record {
  within = from.within;
  before = λ n r l g. below_by id r (from.passed n r l g);
  reached = λ n r l g. not_below_by id r (from.reached n r l g);
}
