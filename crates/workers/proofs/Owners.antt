-- Where each serial stands in one log at most, each report belongs to the one log in which its serial stands.
use Rattle.std.proofs.Common.{◌≡◌, ◌≢◌, ◌⊎◌, inl, inr, ⊎_elim, ℕ, zero, suc, ◌+◌, ◌<◌, ◌≤◌, ◌==◌, ◌||◌, Bool, true, false, List, [], ◌∷◌, length, get_or, map, cond, sym, refl, ap, ◌∙◌, arith, eq-eqb, ne_eqb}
use Rattle.std.specs.Prelude.{sum_by, filter}
use Rattle.std.proofs.lemmas.List.Sums.{sum_by-cons}
use Rattle.instance_machine.specs.declared.tries.Stage.TheVariants as stages
use Rattle.ruled_dispatch.specs.declared.items.Report.{Report}
use Rattle.ruled_dispatch.specs.declared.items.WorkerReport.{WorkerReport}
use Rattle.ruled_dispatch.specs.ReportsRule.{told_by}
use Rattle.workers.specs.declared.logs.Logged.{Logged}
use Rattle.workers.specs.declared.crews.WorkerEnd.{WorkerEnd}
use Rattle.workers.specs.Logs.{reports_of}
use Rattle.workers.specs.Accounted.{AreHeard, has_serial, times, reports_about}

abbrev pub one : Bool → ℕ
one b = cond b 1 0

-- how often it stands among the reports
abbrev count : ℕ → List Report → ℕ
count s rs = sum_by (λ r. one (r.serial == s)) rs

pub below_or : (n m : ℕ) → (n < m) ⊎ (m ≤ n)
below_or n zero = inr (omega arith)
below_or zero (suc m) = inl (omega arith)
below_or (suc n) (suc m) = ⊎_elim (λ (h : n < m). inl (omega arith)) (λ (h : m ≤ n). inr (omega arith)) (below_or n m)

pub same_or : (n m : ℕ) → (n ≡ m) ⊎ (n ≢ m)
same_or n m = ⊎_elim (λ (h : n < m). inr (λ e. absurd (omega arith))) (λ (h : m ≤ n). ⊎_elim (λ (k : m < n). inr (λ e. absurd (omega arith))) (λ (k : n ≤ m). inl (omega arith)) (below_or m n)) (below_or n m)

reports_times : (s : ℕ) (log : List Logged) → count s (reports_of log) ≡ times s log + times s log
reports_times s [] = refl
reports_times s (e ∷ es) =
    let h = reports_times s es in
    let started : Report = record { serial = e.job.serial; stage = stages.Started } in
    let ended : Report = record { serial = e.job.serial; stage = stages.Ended e.outcome } in
    let a = sum_by-cons (λ (x : Logged). one (x.job.serial == s)) e es in
    let b = sum_by-cons (λ (x : Report). one (x.serial == s)) started (ended ∷ reports_of es) in
    let c = sum_by-cons (λ (x : Report). one (x.serial == s)) ended (reports_of es) in
    omega arith

or_true : (b c : Bool) (n : ℕ) → (0 < n → c ≡ true) → 0 < one b + n → (b || c) ≡ true
or_true true c n h some = refl
or_true false c n h some = h (omega arith)

or_false : (b c : Bool) (n : ℕ) → (n ≡ 0 → c ≡ false) → one b + n ≡ 0 → (b || c) ≡ false
or_false true c n h none = absurd (omega arith)
or_false false c n h none = h (omega arith)

stands_true : (s : ℕ) (log : List Logged) → 0 < times s log → has_serial s log ≡ true
stands_true s [] some = absurd (omega arith)
stands_true s (e ∷ es) some =
    let a = sum_by-cons (λ (x : Logged). one (x.job.serial == s)) e es in
    or_true (e.job.serial == s) (has_serial s es) (times s es) (λ h. stands_true s es h) (omega arith)

stands_false : (s : ℕ) (log : List Logged) → times s log ≡ 0 → has_serial s log ≡ false
stands_false s [] none = refl
stands_false s (e ∷ es) none =
    let a = sum_by-cons (λ (x : Logged). one (x.job.serial == s)) e es in
    or_false (e.job.serial == s) (has_serial s es) (times s es) (λ h. stands_false s es h) (omega arith)

at_most : {A : Type 0} (f : A → ℕ) (xs : List A) (i : ℕ) (d : A) → i < length xs → f (get_or xs i d) ≤ sum_by f xs
at_most f [] i d below = absurd (omega arith)
at_most f (x ∷ xs) zero d below = let a = sum_by-cons f x xs in omega arith
at_most f (x ∷ xs) (suc i) d below = let a = sum_by-cons f x xs in let h = at_most f xs i d (omega arith) in omega arith

two_at : {A : Type 0} (f : A → ℕ) (xs : List A) (i j : ℕ) (d : A) → i < length xs → j < length xs → i ≢ j → f (get_or xs i d) + f (get_or xs j d) ≤ sum_by f xs
two_at f [] i j d below below' ne = absurd (omega arith)
two_at f (x ∷ xs) zero zero d below below' ne = absurd (ne refl)
two_at f (x ∷ xs) zero (suc j) d below below' ne = let a = sum_by-cons f x xs in let h = at_most f xs j d (omega arith) in omega arith
two_at f (x ∷ xs) (suc i) zero d below below' ne = let a = sum_by-cons f x xs in let h = at_most f xs i d (omega arith) in omega arith
two_at f (x ∷ xs) (suc i) (suc j) d below below' ne = let a = sum_by-cons f x xs in let h = two_at f xs i j d (omega arith) (omega arith) (λ e. ne (ap suc e)) in omega arith

abbrev reports : List WorkerReport → List Report
reports xs = map (λ r. r.report) xs

kept_count : (s : ℕ) (b : Bool) (x : WorkerReport) (xs : List WorkerReport) → count s (reports xs) ≤ count s (reports (cond b (x ∷ xs) xs))
kept_count s true x xs = let a = sum_by-cons (λ (r : Report). one (r.serial == s)) x.report (reports xs) in omega arith
kept_count s false x xs = omega arith

-- what was heard was heard of its worker
has : (xs : List WorkerReport) (i : ℕ) (d : WorkerReport) → i < length xs → 0 < count (get_or xs i d).report.serial (told_by (get_or xs i d).worker xs)
has [] i d below = absurd (omega arith)
has (x ∷ xs) zero d below =
    let rest = filter (λ (r : WorkerReport). r.worker == x.worker) xs in
    let own : one (x.report.serial == x.report.serial) ≡ 1 = ap one (eq-eqb x.report.serial x.report.serial refl) in
    let kept : count x.report.serial (reports (cond (x.worker == x.worker) (x ∷ rest) rest)) ≡ count x.report.serial (reports (x ∷ rest)) = ap (λ b. count x.report.serial (reports (cond b (x ∷ rest) rest))) (eq-eqb x.worker x.worker refl) in
    let a = sum_by-cons (λ (r : Report). one (r.serial == x.report.serial)) x.report (reports rest) in
    omega arith
has (x ∷ xs) (suc i) d below =
    let t = get_or xs i d in
    let h = has xs i d (omega arith) in
    let m = kept_count t.report.serial (x.worker == t.worker) x (filter (λ (r : WorkerReport). r.worker == t.worker) xs) in
    omega arith

filter_same : {A : Type 0} (p q : A → Bool) (xs : List A) → ((i : ℕ) (d : A) → i < length xs → p (get_or xs i d) ≡ q (get_or xs i d)) → filter p xs ≡ filter q xs
filter_same p q [] each = refl
filter_same p q (x ∷ xs) each =
    ap (λ b. cond b (x ∷ filter p xs) (filter p xs)) (each 0 x (omega arith))
    ∙ ap (λ l. cond (q x) (x ∷ l) l) (filter_same p q xs (λ i d b. each (suc i) d (omega arith)))

-- where what was heard of each worker is what its log says, the reports whose serial stands in a log are its own
pub owned : {G O : Type 0} (ends : List (WorkerEnd G O)) (heard : List WorkerReport) → AreHeard heard ends → ((s : ℕ) → sum_by (λ e. times s e.log.items) ends ≤ 1)
    → (k : ℕ) (d : WorkerEnd G O) → k < length ends → reports_about (get_or ends k d).log.items heard ≡ reports_of (get_or ends k d).log.items
owned {G} {O} ends heard told once k d below = ap reports (filter_same (λ r. has_serial r.report.serial (get_or ends k d).log.items) (λ r. r.worker == k) heard each) ∙ told.0 k d below
  where
    each : (i : ℕ) (t : WorkerReport) → i < length heard → has_serial (get_or heard i t).report.serial (get_or ends k d).log.items ≡ ((get_or heard i t).worker == k)
    each i t b =
        let w = (get_or heard i t).worker in
        let s = (get_or heard i t).report.serial in
        let some = has heard i t b in
        ⊎_elim
        (λ (in_logs : w < length ends).
        let its : count s (told_by w heard) ≡ count s (reports_of (get_or ends w d).log.items) = ap (count s) (told.0 w d in_logs) in
        let twice = reports_times s (get_or ends w d).log.items in
        ⊎_elim
        (λ (e : w ≡ k).
        let moved : times s (get_or ends w d).log.items ≡ times s (get_or ends k d).log.items = ap (λ n. times s (get_or ends n d).log.items) e in
        stands_true s (get_or ends k d).log.items (omega arith) ∙ sym (eq-eqb w k e))
        (λ (ne : w ≢ k).
        let both = two_at (λ (e : WorkerEnd G O). times s e.log.items) ends w k d in_logs below ne in
        let most = once s in
        stands_false s (get_or ends k d).log.items (omega arith) ∙ sym (ne_eqb w k ne))
        (same_or w k))
        (λ (late : length ends ≤ w). let none : count s (told_by w heard) ≡ 0 = ap (count s) (told.1 w late) in absurd (omega arith))
        (below_or w (length ends))
