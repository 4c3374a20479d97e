-- The line of a graph in the schedule under a draft: its runs by the positions of the running ones and of the queued ones.
use Rattle.std.proofs.Common.{◌≡◌, None, subst, ◌++◌, ◌∙◌, refl, ap, ℕ, zero, suc, ◌+◌, ◌≤◌, List, [], ◌∷◌, Bool, true, cond, length, map, filter, drop, count_by, Option, Some, slice_get, nat_lt, ◌||◌, arith}
use Rattle.std.proofs.lemmas.Bool.{lt-ltb, and_from, or_left}
use Rattle.std.proofs.lemmas.List.Sums.{sum_by-cons}
use Rattle.dag_check.specs.Orders.{is_in}
use Rattle.sched_state.specs.Lists.{same}
use Rattle.sched_state.specs.declared.runs.Run.{Run}
use Rattle.sched_model.specs.Lists.{rises}
use Rattle.sched_model.specs.Schedule.{Schedule, is_queued, run_before}
use Rattle.run_lists.specs.Positions.{positions_from, positions_where, stands_in}
use Rattle.run_lists.specs.declared.positions.Standing.TheVariants.{Running, Queued}
use Rattle.run_lists.proofs.GraphLemmas.{first_dropped}
use Rattle.sched_laws.proofs.DecisionLemmas.{by_bool}
use Rattle.sched_settling.specs.Marks.{IsLine, are_within, date_at, date_in, dates_from}
use Rattle.sched_settling.specs.Touched.{dates_queued}
use Rattle.sched_settling.specs.declared.lines.GraphRuns.{GraphRuns}
use Rattle.sched_settling.proofs.CarryLemmas.{dates_rise_too, in_at}
use Rattle.sched_settling.proofs.LineLemmas.{queued_run, run_date}

-- ---- the positions of the runs of which something holds
pub within_from : (p : Run → Bool) (i n : ℕ) (rs : List Run) → i + length rs ≤ n → are_within n (positions_from p i rs) ≡ true
within_from p i n [] l = refl
within_from p i n (r ∷ rs) l = by_bool {C = are_within n (positions_from p i (r ∷ rs)) ≡ true} (p r)
    (λ f. rw f (and_from (nat_lt i n) _ (lt-ltb i n (omega (arith, l))) (within_from p (suc i) n rs (omega (arith, l)))))
    (λ f. rw f (within_from p (suc i) n rs (omega (arith, l))))

-- there are as many as such runs
pub count_from : (p : Run → Bool) (i : ℕ) (rs : List Run) → length (positions_from p i rs) ≡ count_by p rs
count_from p i [] = refl
count_from p i (r ∷ rs) =
    let ks : List ℕ = positions_from p (suc i) rs in
    let t : length ks ≡ count_by p rs = count_from p (suc i) rs in
    let all : count_by p (r ∷ rs) ≡ cond (p r) 1 0 + count_by p rs = sum_by-cons (λ (x : Run). cond (p x) 1 0) r rs in
    by_bool {C = length (positions_from p i (r ∷ rs)) ≡ count_by p (r ∷ rs)} (p r)
    (λ f.
    let one : cond {A = ℕ} (p r) 1 0 ≡ 1 = ap (λ b. cond {A = ℕ} b 1 0) f in
    let more : length (i ∷ ks) ≡ count_by p (r ∷ rs) = omega (arith, t, all, one) in
    ap (λ b. length (cond b (i ∷ ks) ks)) f ∙ more)
    (λ f.
    let none : cond {A = ℕ} (p r) 1 0 ≡ 0 = ap (λ b. cond {A = ℕ} b 1 0) f in
    let same : length ks ≡ count_by p (r ∷ rs) = omega (arith, t, all, none) in
    ap (λ b. length (cond b (i ∷ ks) ks)) f ∙ same)

date_there : (rs : List Run) (n : ℕ) (r : Run) → slice_get rs n ≡ Some r → date_in rs n ≡ r.logical
date_there rs n r e = let c : ◌≡◌ {A = Option Run} (slice_get rs n) (Some r) = e in rw c refl

-- and their dates are those of such runs
dates_there : (p : Run → Bool) (all xs : List Run) (i : ℕ) → drop i all ≡ xs → map (date_in all) (positions_from p i xs) ≡ map (λ (r : Run). r.logical) (filter p xs)
dates_there p all [] i d = refl
dates_there p all (x ∷ xs) i d =
    let f = first_dropped all i x xs d in
    let t : map (date_in all) (positions_from p (suc i) xs) ≡ map (λ (r : Run). r.logical) (filter p xs) = dates_there p all xs (suc i) f.1 in
    by_bool {C = map (date_in all) (positions_from p i (x ∷ xs)) ≡ map (λ (r : Run). r.logical) (filter p (x ∷ xs))} (p x)
    (λ on. rw on (ap (λ k. k ∷ map (date_in all) (positions_from p (suc i) xs)) (date_there all i x f.0) ∙ ap (λ ks. x.logical ∷ ks) t))
    (λ off. rw off t)

-- ---- the line
pub line_is : (a : Schedule) (id : List ℕ) (l : GraphRuns) → rises run_before a.runs ≡ true → l.runs.now.runs ≡ a.runs → l.active ≡ length (positions_where (stands_in id Running) a.runs)
    → l.kept.now ≡ positions_where (stands_in id Queued) a.runs → l.from ≡ 0 → l.touched.items ≡ [] → IsLine a id l
line_is a id l rise runs active kept from fresh =
    let left : drop l.from l.kept.now ≡ positions_where (stands_in id Queued) a.runs = ap (λ (i : ℕ). drop i l.kept.now) from ∙ kept in
    let dates : dates_from l l.from ≡ dates_queued id a.runs =
    ap (λ (rs : List Run). map (date_in rs) (drop l.from l.kept.now)) runs ∙ (ap (map (date_in a.runs)) left ∙ dates_there (stands_in id Queued) a.runs a.runs 0 refl) in
    record {
      active = active ∙ count_from (stands_in id Running) 0 a.runs;
      queue = record {
        rise = record {
          within =
              ap (λ (rs : List Run). are_within (length rs) (drop l.from l.kept.now)) runs
              ∙ (ap (are_within (length a.runs)) left ∙ within_from (stands_in id Queued) 0 (length a.runs) a.runs (omega arith));
          kept = ap (rises nat_lt) dates ∙ dates_rise_too id a.runs rise;
          touched = ap (rises nat_lt) fresh;
        };
        queued = λ n f.
            let v = queued_run a id n f in
            ap (λ ds. is_in ds (date_at a n) || is_in l.touched.items (date_at a n)) dates
            ∙ or_left (is_in (dates_queued id a.runs) (date_at a n)) _
            (ap (is_in (dates_queued id a.runs)) (run_date a n v.run v.there) ∙ in_at id a.runs n v.run v.there (and_from (same (v.run).graph id) (is_queued (v.run).phase) v.of v.queued));
      };
    }

-- ---- lines that are made one after another
pub pushed_at : (P : ℕ → GraphRuns → Type 0) (xs : List GraphRuns) (x : GraphRuns) → ((g : ℕ) (k : GraphRuns) → slice_get xs g ≡ Some k → P g k) → P (length xs) x → (g : ℕ) (k : GraphRuns) → slice_get (xs ++ x ∷ []) g ≡ Some k → P g k
pushed_at P [] x h p zero k e = let c : ◌≡◌ {A = Option GraphRuns} (Some x) (Some k) = e in let is : x ≡ k = cc in subst (P 0) is p
pushed_at P [] x h p (suc g) k e = absurd (let c : ◌≡◌ {A = Option GraphRuns} None (Some k) = e in cc)
pushed_at P (y ∷ xs) x h p zero k e = h 0 k e
pushed_at P (y ∷ xs) x h p (suc g) k e = pushed_at (λ j m. P (suc j) m) xs x (λ j m f. h (suc j) m f) p g k e
