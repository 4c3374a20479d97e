-- The dates of a graph's runs, which stand one after another.
use Rattle.std.proofs.Common.{◌≡◌, ◌∙◌, refl, sym, ap, ℕ, zero, suc, ◌<◌, ◌≤◌, List, [], ◌∷◌, Bool, true, false, not, cond, filter, map, take, Option, None, Some, slice_get, true≢false, inl, inr, arith}
use Rattle.std.specs.List.{list_all}
use Rattle.std.specs.Ordering.{is_eq, nat_cmp, ordering_then}
use Rattle.std.specs.declared.cmp.Ordering.{Ordering}
use Rattle.std.specs.declared.cmp.Ordering.TheVariants.{Less, Equal, Greater}
use Rattle.std.proofs.lemmas.Bool.{false_from_ne_true}
use Rattle.std.proofs.lemmas.Map.Text.{is_eq-slice_cmp}
use Rattle.std.proofs.Math.Nat.{eq-or-lt_of_le}
use Rattle.run_planner.specs.Index.{has_date}
use Rattle.sched_state.specs.Lists.{is_less, name_cmp, same}
use Rattle.sched_state.specs.declared.runs.Run.{Run}
use Rattle.sched_state.proofs.NameLemmas.{same_is}
use Rattle.sched_state.proofs.OrderLemmas.{and_left, and_right}
use Rattle.sched_model.specs.Lists.{rises}
use Rattle.sched_model.specs.Schedule.{Schedule, dates_of, run_before}
use Rattle.sched_laws.proofs.ListLemmas.{all_get}
use Rattle.sched_draft.specs.Parts.{IsFirstOf, graph_below}

-- ---- runs of other graphs
less_only : (o : Ordering) → is_less o ≡ true → is_eq o ≡ false
less_only Less e = refl
less_only Equal e = absurd (true≢false (sym e))
less_only Greater e = absurd (true≢false (sym e))

below_apart : (id : List ℕ) (r : Run) → graph_below id r ≡ true → same r.graph id ≡ false
below_apart id r e = sym (is_eq-slice_cmp r.graph id) ∙ less_only (name_cmp r.graph id) e

rise_pair : (rs : List Run) (m n : ℕ) (r q : Run) → rises run_before rs ≡ true → m < n → slice_get rs m ≡ Some r → slice_get rs n ≡ Some q → run_before r q ≡ true
rise_pair [] m n r q h l e f = absurd (let c : ◌≡◌ {A = Option Run} None (Some r) = e in cc)
rise_pair (z ∷ zs) m zero r q h l e f = absurd (omega (arith, l))
rise_pair (z ∷ zs) zero (suc n) r q h l e f = let is : z ≡ r = cc in ap (λ (x : Run). run_before x q) (sym is) ∙ all_get (run_before z) zs n q (and_left _ _ h) f
rise_pair (z ∷ zs) (suc m) (suc n) r q h l e f = rise_pair zs m n r q (and_right (list_all (run_before z) zs) _ h) (omega (arith, l)) e f

-- a run behind one of a later graph is of no earlier one
later_by : (o p : Ordering) → is_less (ordering_then o p) ≡ true → is_less o ≡ false → is_eq o ≡ true
later_by Less p e f = absurd (true≢false f)
later_by Equal p e f = refl
later_by Greater p e f = absurd (true≢false (sym e))

later_apart : (id : List ℕ) (r q : Run) → run_before r q ≡ true → graph_below id r ≡ false → same r.graph id ≡ false → same q.graph id ≡ false
later_apart id r q before above apart = false_from_ne_true (same q.graph id) (λ e.
    let is : q.graph ≡ id = same_is q.graph id e in
    let here : is_less (name_cmp r.graph q.graph) ≡ false = ap (λ g. is_less (name_cmp r.graph g)) is ∙ above in
    let tie : is_eq (name_cmp r.graph q.graph) ≡ true = later_by (name_cmp r.graph q.graph) (nat_cmp r.logical q.logical) before here in
    true≢false (sym (ap (λ g. same r.graph g) (sym is) ∙ (sym (is_eq-slice_cmp r.graph q.graph) ∙ tie)) ∙ apart))

-- ---- the first runs, and those behind others
none_first : (id : List ℕ) (rs : List Run) (n : ℕ) → ((m : ℕ) (r : Run) → m < n → slice_get rs m ≡ Some r → same r.graph id ≡ false) → filter (λ (r : Run). same r.graph id) (take n rs) ≡ []
none_first id [] zero h = refl
none_first id [] (suc n) h = refl
none_first id (r ∷ rs) zero h = refl
none_first id (r ∷ rs) (suc n) h = rw (h 0 r (omega arith) refl) (none_first id rs n (λ m q l e. h (suc m) q (omega (arith, l)) e))

none_behind : (id : List ℕ) (rs : List Run) (n : ℕ) → ((m : ℕ) (r : Run) → n ≤ m → slice_get rs m ≡ Some r → same r.graph id ≡ false) → filter (λ (r : Run). same r.graph id) (take n rs) ≡ filter (λ (r : Run). same r.graph id) rs
none_behind id [] zero h = refl
none_behind id [] (suc n) h = refl
none_behind id (r ∷ rs) zero h = rw (h 0 r (omega arith) refl) (none_behind id rs zero (λ m q l e. h (suc m) q (omega arith) e))
none_behind id (r ∷ rs) (suc n) h = ap (λ (qs : List Run). cond (same r.graph id) (r ∷ qs) qs) (none_behind id rs n (λ m q l e. h (suc m) q (omega (arith, l)) e))

-- ---- the dates
pub dates_begin : (a : Schedule) (id : List ℕ) (n : ℕ) → IsFirstOf id a.runs n → (d : ℕ) → has_date [] d ≡ has_date (dates_of (record a { runs = take n a.runs }) id) d
dates_begin a id n h d = ap (λ (rs : List Run). has_date (map (λ (r : Run). r.logical) rs) d) (sym (none_first id a.runs n (λ m r l e. below_apart id r (h.before m r l e))))

pub dates_end : (a : Schedule) (id : List ℕ) (first k : ℕ) (r : Run) (dates : List ℕ) → rises run_before a.runs ≡ true → IsFirstOf id a.runs first → first ≤ k → slice_get a.runs k ≡ Some r → same r.graph id ≡ false
    → ((d : ℕ) → has_date dates d ≡ has_date (dates_of (record a { runs = take k a.runs }) id) d) → (d : ℕ) → has_date dates d ≡ has_date (dates_of a id) d
dates_end a id first k r dates rise h low there apart so_far d =
    so_far d ∙ ap (λ (rs : List Run). has_date (map (λ (q : Run). q.logical) rs) d) (none_behind id a.runs k (λ m q l e. elim (eq-or-lt_of_le l) [
      | inl here ↦ let is : q ≡ r = (let c : ◌≡◌ {A = Option Run} (Some q) (Some r) = sym e ∙ ap (slice_get a.runs) (sym here) ∙ there in cc) in ap (λ (x : Run). same x.graph id) is ∙ apart
      | inr later ↦ later_apart id r q (rise_pair a.runs k m r q rise later there e) (h.reached k r low there) apart
    ]))

-- ---- the test of a graph
pub equal_by : (b c : Bool) → b ≡ not c → b ≡ false → c ≡ true
equal_by b true e f = refl
equal_by b false e f = absurd (true≢false (sym e ∙ f))

pub other_by : (b c : Bool) → b ≡ not c → b ≡ true → c ≡ false
other_by b true e f = absurd (true≢false (sym f ∙ e))
other_by b false e f = refl
