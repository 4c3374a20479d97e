-- Each serial is handed out once, and so each report is of the one worker in whose log its serial stands.
use Rattle.std.proofs.Common.{◌≡◌, ◌≢◌, ◌⊎◌, ◌∙◌, inl, inr, ⊎_elim, ℕ, zero, suc, ◌+◌, ◌<◌, ◌≤◌, ◌==◌, ◌&&◌, ◌||◌, Bool, true, false, true≢false, cond, List, [], ◌∷◌, length, get_or, map, filter, sum_by, sym, refl, ap, subst, arith, eq-eqb, ne_eqb, eqb-true}
use Rattle.std.specs.List.{list_all, range_with_len}
use Rattle.std.proofs.lemmas.List.Sums.{sum_by-cons}
use Rattle.ruled_dispatch.specs.ReportsRule.{told_by}
use Rattle.ruled_dispatch.specs.declared.items.Report.{Report}
use Rattle.ruled_dispatch.specs.declared.items.WorkerReport.{WorkerReport}
use Rattle.sched_events.specs.Promises.{serials_in}
use Rattle.sched_events.specs.Steps.{handed_along}
use Rattle.sched_events.specs.declared.events.Event.{Event}
use Rattle.sched_model.specs.Schedule.{Schedule}
use Rattle.sched_state.specs.declared.jobs.Job.{Job}
use Rattle.minutes.specs.Logs.{times, AreLogs}
use Rattle.minutes.specs.Minutes.{is_among, of_worker}

one : Bool → ℕ
one b = cond b 1 0

same_or : (n m : ℕ) → (n ≡ m) ⊎ (n ≢ m)
same_or n m = elim (n == m) as (λ b. (n == m) ≡ b → (n ≡ m) ⊎ (n ≢ m)) [
  | true ↦ λ e. inl (eqb-true n m e)
  | false ↦ λ e. inr (λ same. true≢false (sym (eq-eqb n m same) ∙ e))
] refl

below_or : (n m : ℕ) → (n < m) ⊎ (m ≤ n)
below_or n zero = inr (omega arith)
below_or zero (suc m) = inl (omega arith)
below_or (suc n) (suc m) = ⊎_elim (λ (h : n < m). inl (omega arith)) (λ (h : m ≤ n). inr (omega arith)) (below_or n m)

-- ---- how often a number stands in a list
times_first : (s x : ℕ) (xs : List ℕ) → times s (x ∷ xs) ≡ one (x == s) + times s xs
unfolding one
times_first s x xs = sum_by-cons (λ (y : ℕ). cond (y == s) 1 0) x xs

one_same : (x s : ℕ) → x ≡ s → one (x == s) ≡ 1
unfolding one
one_same x s e = ap (λ b. cond b 1 0) (eq-eqb x s e)

one_other : (x s : ℕ) → x ≢ s → one (x == s) ≡ 0
unfolding one
one_other x s e = ap (λ b. cond b 1 0) (ne_eqb x s e)

one_most : (b : Bool) → one b ≤ 1
unfolding one
one_most true = omega arith
one_most false = omega arith

-- a number below a range does not stand in it
range_low : (n from s : ℕ) → s < from → times s (range_with_len from n) ≡ 0
range_low zero from s low = refl
range_low (suc n) from s low =
    let all = times_first s from (range_with_len (from + 1) n) in
    let here = one_other from s (λ e. absurd (omega arith)) in
    let rest = range_low n (from + 1) s (omega arith) in
    omega arith

-- each number stands in it at most once
range_once : (n from s : ℕ) → times s (range_with_len from n) ≤ 1
range_once zero from s = omega arith
range_once (suc n) from s =
    let all = times_first s from (range_with_len (from + 1) n) in
    ⊎_elim (λ (e : from ≡ s). let here = one_same from s e in let rest = range_low n (from + 1) s (omega arith) in omega arith)
    (λ (e : from ≢ s). let here = one_other from s e in let rest = range_once n (from + 1) s in omega arith)
    (same_or from s)

-- so no serial is handed out twice
pub handed_once : (es : List Event) (a : Schedule) (from n s : ℕ) → serials_in (handed_along es a) ≡ range_with_len from n → times s (serials_in (handed_along es a)) ≤ 1
handed_once es a from n s is = subst (λ l. times s l ≤ 1) (sym is) (range_once n from s)

among_true : (s : ℕ) (xs : List ℕ) → 0 < times s xs → is_among xs s ≡ true
among_true s [] some = absurd (omega arith)
among_true s (x ∷ xs) some =
    let all = times_first s x xs in
    ⊎_elim (λ (e : x ≡ s). ap (λ b. b || is_among xs s) (eq-eqb x s e))
    (λ (e : x ≢ s). let here = one_other x s e in ap (λ b. b || is_among xs s) (ne_eqb x s e) ∙ among_true s xs (omega arith))
    (same_or x s)

among_false : (s : ℕ) (xs : List ℕ) → times s xs ≡ 0 → is_among xs s ≡ false
among_false s [] none = refl
among_false s (x ∷ xs) none =
    let all = times_first s x xs in
    ⊎_elim (λ (e : x ≡ s). let here = one_same x s e in absurd (omega arith))
    (λ (e : x ≢ s). ap (λ b. b || is_among xs s) (ne_eqb x s e) ∙ among_false s xs (omega arith))
    (same_or x s)

among_some : (s : ℕ) (xs : List ℕ) → is_among xs s ≡ true → 0 < times s xs
among_some s [] is = absurd (true≢false (sym is))
among_some s (x ∷ xs) is =
    let all = times_first s x xs in
    ⊎_elim (λ (e : x ≡ s). let here = one_same x s e in omega arith)
    (λ (e : x ≢ s). let rest = among_some s xs (ap (λ b. b || is_among xs s) (sym (ne_eqb x s e)) ∙ is) in omega arith)
    (same_or x s)

-- ---- jobs by their serials
-- one for a job with this serial
abbrev of_serial : ℕ → Job → ℕ
of_serial s j = one (j.serial == s)

times_serials : (s : ℕ) (jobs : List Job) → sum_by (of_serial s) jobs ≡ times s (serials_in jobs)
times_serials s [] = refl
times_serials s (j ∷ js) =
    let all = sum_by-cons (of_serial s) j js in
    let these = times_first s j.serial (serials_in js) in
    let rest = times_serials s js in
    omega arith

sum_same : {A : Type 0} (f g : A → ℕ) (xs : List A) → ((x : A) → f x ≡ g x) → sum_by f xs ≡ sum_by g xs
sum_same f g [] same = refl
sum_same f g (x ∷ xs) same =
    let here = same x in
    let rest = sum_same f g xs same in
    let left = sum_by-cons f x xs in
    let right = sum_by-cons g x xs in
    omega arith

-- a number stands as often in all logs as it was handed out
times_logs : (es : List Event) (a : Schedule) (logs : List (List Job)) (heard : List WorkerReport) (s : ℕ) → AreLogs es a logs heard → times s (serials_in (handed_along es a)) ≡ sum_by (λ log. times s (serials_in log)) logs
times_logs es a logs heard s are =
    sym (times_serials s (handed_along es a)) ∙ are.once (of_serial s)
    ∙ sum_same (λ (log : List Job). sum_by (of_serial s) log) (λ (log : List Job). times s (serials_in log)) logs (λ log. times_serials s log)

-- ---- two places of a list
module _ {A : Type 0} (f : A → ℕ) where
  at_most : (xs : List A) (i : ℕ) (d : A) → i < length xs → f (get_or xs i d) ≤ sum_by f xs
  at_most [] i d below = absurd (omega arith)
  at_most (x ∷ xs) zero d below = let all = sum_by-cons f x xs in omega arith
  at_most (x ∷ xs) (suc i) d below = let all = sum_by-cons f x xs in let rest = at_most xs i d (omega arith) in omega arith

  two_at : (xs : List A) (i j : ℕ) (d : A) → i < length xs → j < length xs → i ≢ j → f (get_or xs i d) + f (get_or xs j d) ≤ sum_by f xs
  two_at [] i j d below below' ne = absurd (omega arith)
  two_at (x ∷ xs) zero zero d below below' ne = absurd (ne refl)
  two_at (x ∷ xs) zero (suc j) d below below' ne = let all = sum_by-cons f x xs in let rest = at_most xs j d (omega arith) in omega arith
  two_at (x ∷ xs) (suc i) zero d below below' ne = let all = sum_by-cons f x xs in let rest = at_most xs i d (omega arith) in omega arith
  two_at (x ∷ xs) (suc i) (suc j) d below below' ne = let all = sum_by-cons f x xs in let rest = two_at xs i j d (omega arith) (omega arith) (λ e. ne (ap suc e)) in omega arith

-- ---- what was heard
and_left : (b c : Bool) → (b && c) ≡ true → b ≡ true
and_left true c e = refl
and_left false c e = e

and_right : (b c : Bool) → (b && c) ≡ true → c ≡ true
and_right true c e = e
and_right false c e = absurd (true≢false (sym e))

list_of : ℕ → WorkerReport → List WorkerReport → List Report
list_of k x xs = map (λ (r : WorkerReport). r.report) (cond (x.worker == k) (x ∷ filter (λ (r : WorkerReport). r.worker == k) xs) (filter (λ (r : WorkerReport). r.worker == k) xs))

passed_on : (p : Report → Bool) (b : Bool) (x : WorkerReport) (g : List WorkerReport) → list_all p (map (λ (r : WorkerReport). r.report) (cond b (x ∷ g) g)) ≡ true → list_all p (map (λ (r : WorkerReport). r.report) g) ≡ true
passed_on p true x g e = and_right (p x.report) (list_all p (map (λ (r : WorkerReport). r.report) g)) e
passed_on p false x g e = e

-- a report that was heard passes each test that all that was heard of its worker pass
heard_passes : (p : Report → Bool) (xs : List WorkerReport) (i : ℕ) (d : WorkerReport) → i < length xs → list_all p (told_by (get_or xs i d).worker xs) ≡ true → p (get_or xs i d).report ≡ true
heard_passes p [] i d below all = absurd (omega arith)
heard_passes p (x ∷ xs) zero d below all =
    let g : List WorkerReport = filter (λ (r : WorkerReport). r.worker == x.worker) xs in
    let first : list_all p (map (λ (r : WorkerReport). r.report) (cond true (x ∷ g) g)) ≡ true =
    ap (λ b. list_all p (map (λ (r : WorkerReport). r.report) (cond b (x ∷ g) g))) (sym (eq-eqb x.worker x.worker refl)) ∙ all in
    and_left (p x.report) (list_all p (map (λ (r : WorkerReport). r.report) g)) first
heard_passes p (x ∷ xs) (suc i) d below all =
    let k : ℕ = (get_or xs i d).worker in
    heard_passes p xs i d (omega arith) (passed_on p (x.worker == k) x (filter (λ (r : WorkerReport). r.worker == k) xs) all)

picked_by : (b : Bool) (x : WorkerReport) (g : List WorkerReport) → cond b (x.report ∷ map (λ (r : WorkerReport). r.report) g) (map (λ (r : WorkerReport). r.report) g) ≡ map (λ (r : WorkerReport). r.report) (cond b (x ∷ g) g)
picked_by true x g = refl
picked_by false x g = refl

-- a test that passes just the reports of a worker picks what was heard of it
picks : (q : Report → Bool) (k : ℕ) (xs : List WorkerReport) → ((i : ℕ) (d : WorkerReport) → i < length xs → q (get_or xs i d).report ≡ ((get_or xs i d).worker == k)) → filter q (map (λ (r : WorkerReport). r.report) xs) ≡ told_by k xs
picks q k [] each = refl
picks q k (x ∷ xs) each =
    let rest : filter q (map (λ (r : WorkerReport). r.report) xs) ≡ told_by k xs = picks q k xs (λ i d below. each (suc i) d (omega arith)) in
    let g : List WorkerReport = filter (λ (r : WorkerReport). r.worker == k) xs in
    ap (λ b. cond b (x.report ∷ filter q (map (λ (r : WorkerReport). r.report) xs)) (filter q (map (λ (r : WorkerReport). r.report) xs))) (each 0 x (omega arith))
    ∙ ap (λ (l : List Report). cond (x.worker == k) (x.report ∷ l) l) rest
    ∙ picked_by (x.worker == k) x g

-- ---- the reports of a worker
module _ (es : List Event) (a : Schedule) (logs : List (List Job)) (heard : List WorkerReport) (are : AreLogs es a logs heard) (once : (s : ℕ) → times s (serials_in (handed_along es a)) ≤ 1) where
  -- a serial in two logs would be handed out twice
  not_both : (k w s : ℕ) → k < length logs → w < length logs → k ≢ w → 0 < times s (serials_in (get_or logs w [])) → times s (serials_in (get_or logs k [])) ≡ 0
  not_both k w s below below' ne some =
      let both = two_at (λ (log : List Job). times s (serials_in log)) logs k w [] below below' ne in
      let all = times_logs es a logs heard s are in
      let most = once s in
      omega arith

  is_own : (k : ℕ) (i : ℕ) (d : WorkerReport) → k < length logs → i < length heard → is_among (serials_in (get_or logs k [])) (get_or heard i d).report.serial ≡ ((get_or heard i d).worker == k)
  is_own k i d below inside =
      let t : WorkerReport = get_or heard i d in
      let w : ℕ = t.worker in
      let s : ℕ = t.report.serial in
      ⊎_elim
      (λ (here : w < length logs).
      let some : 0 < times s (serials_in (get_or logs w [])) = among_some s (serials_in (get_or logs w [])) (heard_passes (λ (r : Report). is_among (serials_in (get_or logs w [])) r.serial) heard i d inside (are.own w here)) in
      ⊎_elim
      (λ (e : w ≡ k). ap (λ n. is_among (serials_in (get_or logs n [])) s) (sym e) ∙ (among_true s (serials_in (get_or logs w [])) some ∙ sym (eq-eqb w k e)))
      (λ (ne : w ≢ k). among_false s (serials_in (get_or logs k [])) (not_both k w s below here (λ e. ne (sym e)) some) ∙ sym (ne_eqb w k ne))
      (same_or w k))
      (λ (late : length logs ≤ w).
      let none : list_all (λ (r : Report). false) (told_by w heard) ≡ true = ap (list_all (λ (r : Report). false)) (are.others w late) in
      absurd (true≢false (sym (heard_passes (λ (r : Report). false) heard i d inside none))))
      (below_or w (length logs))

  pub owned : (k : ℕ) → k < length logs → of_worker (serials_in (get_or logs k [])) es ≡ told_by k heard
  owned k below =
      ap (filter (λ (r : Report). is_among (serials_in (get_or logs k [])) r.serial)) (sym are.reported)
      ∙ picks (λ (r : Report). is_among (serials_in (get_or logs k [])) r.serial) k heard (λ i d inside. is_own k i d below inside)
