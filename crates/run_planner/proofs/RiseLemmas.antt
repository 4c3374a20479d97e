-- The intervals of a timetable are listed by start, each start once.
use Rattle.std.proofs.Common.{◌≡◌, refl, ℕ, zero, suc, ◌+◌, ◌-◌, ◌<◌, List, [], ◌∷◌, Bool, true, false, cond, not, ◌&&◌, map, filter, take, nat_lt, nat_le, Option, arith}
use Rattle.std.specs.List.{list_all, range_with_len}
use Rattle.std.proofs.lemmas.Bool.{lt-ltb, and_parts, and_from}
use Rattle.cron_timetable.specs.Fields.{fires}
use Rattle.cron_timetable.specs.Intervals.{empty_at}
use Rattle.cron_timetable.specs.declared.timetables.Interval.{Interval}
use Rattle.cron_timetable.specs.declared.timetables.Timetable.{Timetable}
use Rattle.cron_timetable.specs.declared.timetables.Timetable.TheVariants.{Cron, Trigger, Once, Never}
use Rattle.graph_file.specs.declared.graph_specs.GraphSpec.{GraphSpec}
use Rattle.run_planner.specs.Index.{has_date}
use Rattle.run_planner.specs.Due.{ticks_between, pairs_from, neighbours, is_up_to, due_intervals, last_alone, considered, wanted_intervals, starts_rise}

all_filter : {X : Type 0} (p q : X → Bool) (xs : List X) → list_all q xs ≡ true → list_all q (filter p xs) ≡ true
all_filter p q [] e = refl
all_filter p q (x ∷ xs) e =
    elim (p x) as (λ b. list_all q (cond b (x ∷ filter p xs) (filter p xs)) ≡ true) [
      | true ↦ and_from (q x) _ (and_parts (q x) _ e).0 (all_filter p q xs (and_parts (q x) _ e).1)
      | false ↦ all_filter p q xs (and_parts (q x) _ e).1
    ]

-- what a filter keeps passes it
pub all_filtered : {X : Type 0} (p : X → Bool) (xs : List X) → list_all p (filter p xs) ≡ true
all_filtered p [] = refl
all_filtered p (x ∷ xs) = elim (p x) as (λ b. p x ≡ b → list_all p (cond b (x ∷ filter p xs) (filter p xs)) ≡ true) [
  | true ↦ λ e. and_from (p x) _ e (all_filtered p xs)
  | false ↦ λ e. all_filtered p xs
] refl

pub all_take : {X : Type 0} (q : X → Bool) (n : ℕ) (xs : List X) → list_all q xs ≡ true → list_all q (take n xs) ≡ true
all_take q zero xs e = refl
all_take q (suc n) [] e = refl
all_take q (suc n) (x ∷ xs) e = and_from (q x) _ (and_parts (q x) _ e).0 (all_take q n xs (and_parts (q x) _ e).1)

-- ---- rising numbers
rise : List ℕ → Bool
rise [] = true
rise (x ∷ xs) = list_all (nat_lt x) xs && rise xs

range_above : (x low n : ℕ) → x < low → list_all (nat_lt x) (range_with_len low n) ≡ true
range_above x low zero h = refl
range_above x low (suc n) h = and_from (nat_lt x low) _ (lt-ltb x low h) (range_above x (low + 1) n (omega arith))

range_rises : (low n : ℕ) → rise (range_with_len low n) ≡ true
unfolding rise
range_rises low zero = refl
range_rises low (suc n) = and_from (list_all (nat_lt low) (range_with_len (low + 1) n)) _ (range_above low (low + 1) n (omega arith)) (range_rises (low + 1) n)

filter_rises : (p : ℕ → Bool) (xs : List ℕ) → rise xs ≡ true → rise (filter p xs) ≡ true
unfolding rise
filter_rises p [] e = refl
filter_rises p (x ∷ xs) e =
    elim (p x) as (λ b. rise (cond b (x ∷ filter p xs) (filter p xs)) ≡ true) [
      | true ↦ and_from (list_all (nat_lt x) (filter p xs)) _ (all_filter p (nat_lt x) xs (and_parts _ _ e).0) (filter_rises p xs (and_parts (list_all (nat_lt x) xs) _ e).1)
      | false ↦ filter_rises p xs (and_parts (list_all (nat_lt x) xs) _ e).1
    ]

-- ---- rising starts
pairs_above : (b a : ℕ) (ts : List ℕ) → nat_lt b a ≡ true → list_all (nat_lt b) ts ≡ true → list_all (λ (j : Interval). nat_lt b j.start) (pairs_from a ts) ≡ true
pairs_above b a [] e f = refl
pairs_above b a (t ∷ ts) e f = and_from (nat_lt b a) _ e (pairs_above b t ts (and_parts (nat_lt b t) _ f).0 (and_parts (nat_lt b t) _ f).1)

pairs_rise : (a : ℕ) (ts : List ℕ) → rise (a ∷ ts) ≡ true → starts_rise (pairs_from a ts) ≡ true
unfolding rise
pairs_rise a [] e = refl
pairs_rise a (t ∷ ts) e =
    let above = (and_parts (list_all (nat_lt a) (t ∷ ts)) _ e).0 in
    and_from (list_all (λ (j : Interval). nat_lt a j.start) (pairs_from t ts)) _
    (pairs_above a t ts (and_parts (nat_lt a t) _ above).0 (and_parts (nat_lt a t) _ above).1)
    (pairs_rise t ts (and_parts (list_all (nat_lt a) (t ∷ ts)) _ e).1)

neighbours_rise : (ts : List ℕ) → rise ts ≡ true → starts_rise (neighbours ts) ≡ true
neighbours_rise [] e = refl
neighbours_rise (a ∷ ts) e = pairs_rise a ts e

empties_above : (b : ℕ) (ts : List ℕ) → list_all (nat_lt b) ts ≡ true → list_all (λ (j : Interval). nat_lt b j.start) (map empty_at ts) ≡ true
empties_above b [] e = refl
empties_above b (t ∷ ts) e = and_from (nat_lt b t) _ (and_parts (nat_lt b t) _ e).0 (empties_above b ts (and_parts (nat_lt b t) _ e).1)

empties_rise : (ts : List ℕ) → rise ts ≡ true → starts_rise (map empty_at ts) ≡ true
unfolding rise
empties_rise [] e = refl
empties_rise (a ∷ ts) e =
    and_from (list_all (λ (j : Interval). nat_lt a j.start) (map empty_at ts)) _ (empties_above a ts (and_parts (list_all (nat_lt a) ts) _ e).0) (empties_rise ts (and_parts (list_all (nat_lt a) ts) _ e).1)

pub filter_starts : (p : Interval → Bool) (is : List Interval) → starts_rise is ≡ true → starts_rise (filter p is) ≡ true
filter_starts p [] e = refl
filter_starts p (i ∷ is) e =
    elim (p i) as (λ b. starts_rise (cond b (i ∷ filter p is) (filter p is)) ≡ true) [
      | true ↦ and_from (list_all (λ (j : Interval). nat_lt i.start j.start) (filter p is)) _ (all_filter p (λ (j : Interval). nat_lt i.start j.start) is (and_parts _ _ e).0) (filter_starts p is (and_parts (list_all (λ (j : Interval). nat_lt i.start j.start) is) _ e).1)
      | false ↦ filter_starts p is (and_parts (list_all (λ (j : Interval). nat_lt i.start j.start) is) _ e).1
    ]

pub take_starts : (n : ℕ) (is : List Interval) → starts_rise is ≡ true → starts_rise (take n is) ≡ true
take_starts zero is e = refl
take_starts (suc n) [] e = refl
take_starts (suc n) (i ∷ is) e =
    and_from (list_all (λ (j : Interval). nat_lt i.start j.start) (take n is)) _ (all_take (λ (j : Interval). nat_lt i.start j.start) n is (and_parts _ _ e).0)
    (take_starts n is (and_parts (list_all (λ (j : Interval). nat_lt i.start j.start) is) _ e).1)

last_starts : (is : List Interval) → starts_rise (last_alone is) ≡ true
last_starts [] = refl
last_starts (i ∷ []) = refl
last_starts (i ∷ j ∷ is) = last_starts (j ∷ is)

pub due_rise : (timetable : Timetable) (first : ℕ) (last : Option ℕ) (t : ℕ) → starts_rise (due_intervals timetable first last t) ≡ true
unfolding due_intervals ticks_between
due_rise (Cron c) first last t =
    filter_starts (λ i. is_up_to last i.start) (neighbours (filter (fires c) (range_with_len first (t + 1 - first))))
    (neighbours_rise _ (filter_rises (fires c) (range_with_len first (t + 1 - first)) (range_rises first (t + 1 - first))))
due_rise (Trigger c) first last t =
    filter_starts (λ i. is_up_to last i.start) (map empty_at (filter (fires c) (range_with_len first (t + 1 - first))))
    (empties_rise _ (filter_rises (fires c) (range_with_len first (t + 1 - first)) (range_rises first (t + 1 - first))))
due_rise Once first last t = filter_starts (λ i. is_up_to last i.start && nat_le i.end t) (empty_at first ∷ []) refl
due_rise Never first last t = refl

considered_rise : (catchup : Bool) (is : List Interval) → starts_rise is ≡ true → starts_rise (considered catchup is) ≡ true
considered_rise true is e = e
considered_rise false is e = last_starts is

pub wanted_rise : (g : GraphSpec) (t : ℕ) (dates : List ℕ) → starts_rise (wanted_intervals g t dates) ≡ true
wanted_rise g t dates =
    filter_starts (λ i. not (has_date dates i.start)) (considered g.catchup (due_intervals g.schedule g.start_date g.end_date t))
    (considered_rise g.catchup _ (due_rise g.schedule g.start_date g.end_date t))
