-- Of two lists of intervals by start one has a start that the other lacks if it is longer, and then among its first ones.
use Rattle.std.proofs.Common.{◌≡◌, refl, ap, sym, ◌∙◌, subst, ℕ, ◌+◌, ◌≤◌, Bool, true, false, cond, not, ◌&&◌, ◌||◌, List, [], ◌∷◌, length, filter, take, zero, suc, eqb, nat_lt, inl, inr, arith}
use Rattle.std.proofs.lemmas.Bool.{cases_lt, and_parts, and_from, eqb-true, false≢true, lt-ltb, ltb-true}
use Rattle.std.proofs.lemmas.List.{length-take-le, take_all}
use Rattle.std.specs.List.{list_all, list_any}
use Rattle.cron_timetable.specs.declared.timetables.Interval.{Interval}
use Rattle.run_planner.specs.Index.{Index, has_date}
use Rattle.run_planner.specs.Due.{starts_rise}
use Rattle.run_planner.specs.Spans.{starts}
use Rattle.run_planner.proofs.RiseLemmas.{take_starts}

abbrev pub has_start : List Interval → Interval → Bool
has_start owed i = has_date (starts owed) i.start

-- ---- what lies above the first start
-- a start that is above the first is one of the others
others : (o : ℕ) (ds : List ℕ) (x : ℕ) → nat_lt o x ≡ true → has_date (o ∷ ds) x ≡ true → has_date ds x ≡ true
others o ds x above e = elim (eqb o x) as (λ b. eqb o x ≡ b → (b || has_date ds x) ≡ true → has_date ds x ≡ true) [
  | true ↦ λ same has. let less = ltb-true o x above in absurd (omega (arith, less, eqb-true o x same))
  | false ↦ λ apart has. has
] refl e

all_others : (o : Interval) (owed wanted : List Interval) → list_all (λ (j : Interval). nat_lt o.start j.start) wanted ≡ true → list_all (has_start (o ∷ owed)) wanted ≡ true → list_all (has_start owed) wanted ≡ true
all_others o owed [] above e = refl
all_others o owed (w ∷ ws) above e =
    and_from (has_start owed w) _ (others o.start (starts owed) w.start (and_parts _ _ above).0 (and_parts _ _ e).0)
    (all_others o owed ws (and_parts (nat_lt o.start w.start) _ above).1 (and_parts (has_start (o ∷ owed) w) _ e).1)

-- what is found among starts above o is above o
found_above : (o x : ℕ) (owed : List Interval) → list_all (λ (j : Interval). nat_lt o j.start) owed ≡ true → has_date (starts owed) x ≡ true → nat_lt o x ≡ true
found_above o x [] above e = absurd (false≢true e)
found_above o x (i ∷ is) above e = elim (eqb i.start x) as (λ b. eqb i.start x ≡ b → (b || has_date (starts is) x) ≡ true → nat_lt o x ≡ true) [
  | true ↦ λ same has. ap (nat_lt o) (sym (eqb-true i.start x same)) ∙ (and_parts _ _ above).0
  | false ↦ λ apart has. found_above o x is (and_parts (nat_lt o i.start) _ above).1 has
] refl e

above_too : (o w : ℕ) (is : List Interval) → nat_lt o w ≡ true → list_all (λ (j : Interval). nat_lt w j.start) is ≡ true → list_all (λ (j : Interval). nat_lt o j.start) is ≡ true
above_too o w [] less above = refl
above_too o w (i ∷ is) less above =
    let first = ltb-true o w less in
    let second = ltb-true w i.start (and_parts _ _ above).0 in
    and_from (nat_lt o i.start) _ (lt-ltb o i.start (omega (arith, first, second))) (above_too o w is less (and_parts (nat_lt w i.start) _ above).1)

-- ---- a list of which each start is found is no longer
pub no_longer : (wanted owed : List Interval) → starts_rise wanted ≡ true → starts_rise owed ≡ true → list_all (has_start owed) wanted ≡ true → length wanted ≤ length owed
no_longer [] owed rises held e = omega arith
no_longer (w ∷ ws) [] rises held e = absurd (false≢true (and_parts (has_start [] w) (list_all (has_start []) ws) e).0)
no_longer (w ∷ ws) (o ∷ os) rises held e =
    let above_w = (and_parts (list_all (λ (j : Interval). nat_lt w.start j.start) ws) _ rises).0 in
    let rest = (and_parts (list_all (λ (j : Interval). nat_lt w.start j.start) ws) _ rises).1 in
    let above_o = (and_parts (list_all (λ (j : Interval). nat_lt o.start j.start) os) _ held).0 in
    let others_held = (and_parts (list_all (λ (j : Interval). nat_lt o.start j.start) os) _ held).1 in
    elim (eqb o.start w.start) as (λ b. eqb o.start w.start ≡ b → (b || has_date (starts os) w.start) ≡ true → length (w ∷ ws) ≤ length (o ∷ os)) [
      | true ↦ λ same has.
          let above = subst (λ (x : ℕ). list_all (λ (j : Interval). nat_lt x j.start) ws ≡ true) (sym (eqb-true o.start w.start same)) above_w in
          let shorter = no_longer ws os rest others_held (all_others o os ws above (and_parts (has_start (o ∷ os) w) _ e).1) in
          omega (arith, shorter)
      | false ↦ λ apart has.
          let above = found_above o.start w.start os above_o has in
          let shorter = no_longer (w ∷ ws) os rises others_held
          (all_others o os (w ∷ ws) (and_from (nat_lt o.start w.start) _ above (above_too o.start w.start ws above above_w)) e) in
          omega (arith, shorter)
    ] refl (and_parts (has_start (o ∷ os) w) _ e).0

-- ---- one more than there are in the other list are enough to look at
lacks : List Interval → Interval → Bool
lacks owed i = not (has_date (starts owed) i.start)

none_lacks : (owed is : List Interval) → list_any (lacks owed) is ≡ false → list_all (has_start owed) is ≡ true
unfolding lacks
none_lacks owed [] e = refl
none_lacks owed (i ∷ is) e = elim (has_start owed i) as (λ b. (not b || list_any (lacks owed) is) ≡ false → (b && list_all (has_start owed) is) ≡ true) [
  | true ↦ λ f. none_lacks owed is f
  | false ↦ λ f. absurd (false≢true (sym f))
] e

any_of_first : {X : Type 0} (p : X → Bool) (n : ℕ) (xs : List X) → list_any p (take n xs) ≡ true → list_any p xs ≡ true
any_of_first p zero xs e = absurd (false≢true e)
any_of_first p (suc n) [] e = absurd (false≢true e)
any_of_first p (suc n) (x ∷ xs) e = elim (p x) as (λ b. (b || list_any p (take n xs)) ≡ true → (b || list_any p xs) ≡ true) [
  | true ↦ λ f. refl
  | false ↦ λ f. any_of_first p n xs f
] e

any_filtered : {X : Type 0} (p : X → Bool) (xs : List X) → list_any p xs ≡ nat_lt 0 (length (filter p xs))
any_filtered p [] = refl
any_filtered p (x ∷ xs) = elim (p x) as (λ b. (b || list_any p xs) ≡ nat_lt 0 (length (cond b (x ∷ filter p xs) (filter p xs)))) [
  | true ↦ sym (lt-ltb 0 (length (x ∷ filter p xs)) (omega arith))
  | false ↦ any_filtered p xs
]

first_enough : (owed all : List Interval) → starts_rise all ≡ true → starts_rise owed ≡ true → list_any (lacks owed) (take (length owed + 1) all) ≡ list_any (lacks owed) all
first_enough owed all rises held =
    let n : ℕ = length owed + 1 in
    elim (list_any (lacks owed) (take n all)) as (λ b. list_any (lacks owed) (take n all) ≡ b → b ≡ list_any (lacks owed) all) [
      | true ↦ λ e. sym (any_of_first (lacks owed) n all e)
      | false ↦ λ e.
          let few = no_longer (take n all) owed (take_starts n all rises) held (none_lacks owed (take n all) e) in
          let whole : length all ≤ n = elim (cases_lt (length all) n) [
            | inl short ↦ omega (arith, short)
            | inr long ↦ absurd (omega (arith, few, length-take-le n all long))
          ] in
          sym e ∙ ap (list_any (lacks owed)) (take_all n all whole)
    ] refl

pub looked_at : (owed all : List Interval) → starts_rise all ≡ true → starts_rise owed ≡ true
    → list_any (λ (i : Interval). not (has_date (starts owed) i.start)) (take (length owed + 1) all) ≡ nat_lt 0 (length (filter (λ (i : Interval). not (has_date (starts owed) i.start)) all))
unfolding lacks
looked_at owed all rises held = first_enough owed all rises held ∙ any_filtered (lacks owed) all

-- ---- the starts of the first n intervals, as an index with room for those of the others
pub record IsIndexOf (is : List Interval) (n : ℕ) (x : Index) : Type 0 where
  pub dates : (d : ℕ) → has_date x.dates d ≡ list_any (λ (i : Interval). eqb i.start d) (take n is)
  pub room : length is ≤ n + x.room

pub starts_have : (is : List Interval) (d : ℕ) → has_date (starts is) d ≡ list_any (λ (i : Interval). eqb i.start d) is
starts_have [] d = refl
starts_have (i ∷ is) d = ap (λ b. eqb i.start d || b) (starts_have is d)

any_alike : {X : Type 0} (p q : X → Bool) → ((x : X) → p x ≡ q x) → (xs : List X) → list_any p xs ≡ list_any q xs
any_alike p q same [] = refl
any_alike p q same (x ∷ xs) = ap (λ b. b || list_any p xs) (same x) ∙ ap (λ b. q x || b) (any_alike p q same xs)

-- what is told by an index of the old starts, of the first of the new intervals
pub told : (known : List ℕ) (owed taken old new : List Interval) (n : ℕ) → starts_rise new ≡ true → starts_rise old ≡ true → owed ≡ old
    → ((d : ℕ) → has_date known d ≡ has_date (starts owed) d) → n ≡ length owed → taken ≡ take (n + 1) new
    → list_any (λ (i : Interval). not (has_date known i.start)) taken ≡ nat_lt 0 (length (filter (λ (i : Interval). not (has_date (starts old) i.start)) new))
told known owed taken old new n rises held same has count first =
    any_alike (λ (i : Interval). not (has_date known i.start)) (λ (i : Interval). not (has_date (starts old) i.start))
    (λ i. ap not (has i.start ∙ ap (λ (is : List Interval). has_date (starts is) i.start) same)) taken
    ∙ (ap (list_any (λ (i : Interval). not (has_date (starts old) i.start))) (first ∙ ap (λ m. take (m + 1) new) (count ∙ ap length same))
    ∙ looked_at old new rises held)
