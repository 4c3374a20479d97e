-- There is one answer to each question: the least tick, the greatest one, an interval, a reading.
use Rattle.std.proofs.Common.{◌≡◌, ℕ, ◌+◌, ◌<◌, ◌≤◌, true, Option, None, Some, List, arith, inl, inr, refl, ap, sym, ◌∙◌}
use Rattle.std.proofs.lemmas.Bool.{cases_lt, false≢true}
use Rattle.moment_core.specs.Moments.{seconds_end}
use Rattle.cron_timetable.specs.Fields.{Fields, fires}
use Rattle.cron_timetable.specs.Ticks.{NoneBetween, IsNextTick, IsLastTick}
use Rattle.cron_timetable.specs.Intervals.{IsInterval, IsFirstIntervalFrom, IsLastIntervalTo, IsFirstTriggerFrom, IntervalFrom, ManualInterval}
use Rattle.cron_timetable.specs.Grammar.{IsRead, FaultOf}
use Rattle.cron_timetable.specs.declared.faults.CronFault.{CronFault}
use Rattle.cron_timetable.specs.declared.timetables.Interval.{Interval}
use Rattle.cron_timetable.specs.declared.timetables.Timetable.{Timetable}
use Rattle.cron_timetable.specs.declared.timetables.Timetable.TheVariants.{Cron, Trigger, Once, Never}

-- a moment that fires lies in no range where none does
pub clash : (c : Fields) (low high m : ℕ) → NoneBetween c low high → low ≤ m → m < high → fires c m ≡ true → ⊥
clash c low high m none from below on = false≢true (sym (none m from below) ∙ on)

-- two firing moments before which nothing fires from a on are the same
same_least : (c : Fields) (a m n : ℕ) → a ≤ m → a ≤ n → NoneBetween c a m → NoneBetween c a n → fires c m ≡ true → fires c n ≡ true → m ≡ n
same_least c a m n am an none_m none_n on_m on_n =
    elim (cases_lt m n) [
      | inl less ↦ absurd (clash c a n m none_n am less on_m)
      | inr at_least ↦ elim (cases_lt n m) [
        | inl less ↦ absurd (clash c a m n none_m an less on_n)
        | inr at_most ↦ omega arith
      ]
    ]

-- and so are two after which nothing fires up to b
same_greatest : (c : Fields) (b m n : ℕ) → m < b → n < b → NoneBetween c (m + 1) b → NoneBetween c (n + 1) b → fires c m ≡ true → fires c n ≡ true → m ≡ n
same_greatest c b m n mb nb none_m none_n on_m on_n =
    elim (cases_lt m n) [
      | inl less ↦ absurd (clash c (m + 1) b n none_m (omega arith) nb on_n)
      | inr at_least ↦ elim (cases_lt n m) [
        | inl less ↦ absurd (clash c (n + 1) b m none_n (omega arith) mb on_m)
        | inr at_most ↦ omega arith
      ]
    ]

pub same_next : (c : Fields) (t : ℕ) (r s : Option ℕ) → IsNextTick c t r → IsNextTick c t s → r ≡ s
same_next c t None None p q = refl
same_next c t None (Some n) p q = absurd (clash c t seconds_end n p q.from q.tick.0 q.tick.1)
same_next c t (Some m) None p q = absurd (clash c t seconds_end m q p.from p.tick.0 p.tick.1)
same_next c t (Some m) (Some n) p q =
    ap (λ (k : ℕ). Some k) (same_least c t m n p.from q.from p.least q.least p.tick.1 q.tick.1)

pub same_last : (c : Fields) (t : ℕ) (r s : Option ℕ) → IsLastTick c t r → IsLastTick c t s → r ≡ s
same_last c t None None p q = refl
same_last c t None (Some n) p q = absurd (clash c 0 t n p (omega arith) q.below q.tick.1)
same_last c t (Some m) None p q = absurd (clash c 0 t m q (omega arith) p.below p.tick.1)
same_last c t (Some m) (Some n) p q =
    ap (λ (k : ℕ). Some k) (same_greatest c t m n p.below q.below p.greatest q.greatest p.tick.1 q.tick.1)

abbrev interval : ℕ → ℕ → Interval
interval a b = record { start = a; end = b }

same_interval : (i j : Interval) → i.start ≡ j.start → i.end ≡ j.end → i ≡ j
same_interval i j starts ends = ap (λ (a : ℕ). interval a i.end) starts ∙ ap (interval j.start) ends

-- an interval is known by its start
same_end : (c : Fields) (a b d : ℕ) → IsInterval c a b → IsInterval c a d → b ≡ d
same_end c a b d p q =
    same_least c (a + 1) b d (omega (arith, p.rising)) (omega (arith, q.rising)) p.between q.between p.end.1 q.end.1

-- and by its end
same_start : (c : Fields) (a b d : ℕ) → IsInterval c a d → IsInterval c b d → a ≡ b
same_start c a b d p q = same_greatest c d a b p.rising q.rising p.between q.between p.start.1 q.start.1

same_first : (c : Fields) (t : ℕ) (i j : Interval) → IsFirstIntervalFrom c t i → IsFirstIntervalFrom c t j → i ≡ j
same_first c t i j p q =
    let starts : i.start ≡ j.start = same_least c t i.start j.start p.from q.from p.first q.first p.interval.start.1 q.interval.start.1 in
    let moved : IsInterval c i.start j.end = rw starts q.interval in
    same_interval i j starts (same_end c i.start i.end j.end p.interval moved)

same_ended : (c : Fields) (t : ℕ) (i j : Interval) → IsLastIntervalTo c t i → IsLastIntervalTo c t j → i ≡ j
same_ended c t i j p q =
    let ends : i.end ≡ j.end = same_greatest c (t + 1) i.end j.end (omega (arith, p.to)) (omega (arith, q.to)) p.last q.last p.interval.end.1 q.interval.end.1 in
    let moved : IsInterval c j.start i.end = rw ends q.interval in
    same_interval i j (same_start c i.start j.start i.end p.interval moved) ends

same_trigger : (c : Fields) (t : ℕ) (i j : Interval) → IsFirstTriggerFrom c t i → IsFirstTriggerFrom c t j → i ≡ j
same_trigger c t i j p q =
    let starts : i.start ≡ j.start = same_least c t i.start j.start p.tick.from q.tick.from p.tick.least q.tick.least p.tick.tick.1 q.tick.tick.1 in
    same_interval i j starts (p.empty ∙ (starts ∙ sym q.empty))

pub same_interval_from : (x : Timetable) (t : ℕ) (r s : Option Interval) → IntervalFrom x t r → IntervalFrom x t s → r ≡ s
same_interval_from (Cron c) t None None p q = refl
same_interval_from (Cron c) t None (Some j) p q = absurd (p j.start j.end q.interval q.from)
same_interval_from (Cron c) t (Some i) None p q = absurd (q i.start i.end p.interval p.from)
same_interval_from (Cron c) t (Some i) (Some j) p q = ap (λ (k : Interval). Some k) (same_first c t i j p q)
same_interval_from (Trigger c) t None None p q = refl
same_interval_from (Trigger c) t None (Some j) p q = absurd (clash c t seconds_end j.start p q.tick.from q.tick.tick.0 q.tick.tick.1)
same_interval_from (Trigger c) t (Some i) None p q = absurd (clash c t seconds_end i.start q p.tick.from p.tick.tick.0 p.tick.tick.1)
same_interval_from (Trigger c) t (Some i) (Some j) p q = ap (λ (k : Interval). Some k) (same_trigger c t i j p q)
same_interval_from Once t r s p q = p ∙ sym q
same_interval_from Never t r s p q = p ∙ sym q

pub same_manual_interval : (x : Timetable) (t : ℕ) (r s : Option Interval) → ManualInterval x t r → ManualInterval x t s → r ≡ s
same_manual_interval (Cron c) t None None p q = refl
same_manual_interval (Cron c) t None (Some j) p q = absurd (p j.start j.end q.interval q.to)
same_manual_interval (Cron c) t (Some i) None p q = absurd (q i.start i.end p.interval p.to)
same_manual_interval (Cron c) t (Some i) (Some j) p q = ap (λ (k : Interval). Some k) (same_ended c t i j p q)
same_manual_interval (Trigger c) t r s p q = p ∙ sym q
same_manual_interval Once t r s p q = p ∙ sym q
same_manual_interval Never t r s p q = p ∙ sym q

pub same_reading : (text : List ℕ) (c d : Fields) → IsRead text c → IsRead text d → c ≡ d
same_reading text c d p q = let e = sym p.fields ∙ q.fields in cc

pub never_both : (text : List ℕ) (c : Fields) (e : CronFault) → IsRead text c → FaultOf text e → ⊥
never_both text c e p (inl fault) = let clash = sym p.fields ∙ fault in cc
never_both text c e p (inr (never, (d, sets, none))) =
    let same : c ≡ d = let e = sym p.fields ∙ sets in cc in
    let tick = p.has_tick in
    let on : fires d tick.0 ≡ true = rw (← same) tick.1.1 in
    clash d 0 seconds_end tick.0 none (omega arith) tick.1.0 on

pub same_fault : (text : List ℕ) (e f : CronFault) → FaultOf text e → FaultOf text f → e ≡ f
same_fault text e f (inl p) (inl q) = let same = sym p ∙ q in cc
same_fault text e f (inl p) (inr (never, (d, sets, none))) = let clash = sym p ∙ sets in absurd cc
same_fault text e f (inr (never, (d, sets, none))) (inl q) = let clash = sym q ∙ sets in absurd cc
same_fault text e f (inr p) (inr q) = p.0 ∙ sym q.0
