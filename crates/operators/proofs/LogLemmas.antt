-- Logs tell tries apart: no part of a path has a slash.
use Rattle.std.proofs.Common.{◌≡◌, ◌∙◌, ℕ, ◌+◌, ◌/◌, ◌%◌, ◌<◌, ◌==◌, Bool, true, false, not, ◌⊎◌, ◌≢◌, ◌&&◌, List, [], ◌∷◌, ◌++◌, codes, length, inl, inr, refl, sym, ap, ap₂, subst, arith, Ok}
use Rattle.std.specs.List.{list_all}
use Rattle.std.specs.Fmt.{decimal}
use Rattle.std.proofs.Math.Dec.{eqb}
use Rattle.std.proofs.lemmas.Bool.{and_parts, eqb-true}
use Rattle.std.proofs.lemmas.Bool.Decides.{eqb_tells}
use Rattle.std.proofs.lemmas.Fmt.{decimal_injective}
use Rattle.std.proofs.lemmas.List.{append_cancel_left, append_cancel_right}
use Rattle.graph_file.specs.Names.{is_name, is_name_byte}
use Rattle.moment_core.specs.Moments.{seconds_end}
use Rattle.moment_core.specs.Calendar.{date_of, day_of}
use Rattle.moment_core.specs.Printing.{two_digits_of as two, text_of}
use Rattle.moment_core.specs.Reading.{read_of}
use Rattle.moment_core.proofs.PrintLemmas.{read_back}
use Rattle.sched_state.specs.RunIds.{run_id_text}
use Rattle.sched_state.specs.declared.jobs.Job.{Job}
use Rattle.sched_state.specs.declared.runs.RunKind.{RunKind}
use Rattle.sched_state.specs.declared.runs.RunKind.TheVariants.{Scheduled, Manual, Backfill}
use Rattle.operators.specs.Logs.{log_path, IsNamed, IsSameTry}

abbrev no_slash : ℕ → Bool
no_slash b = not (b == 47)

both : {a b : Bool} → a ≡ true → b ≡ true → (a && b) ≡ true
both e f = rw (e, f) refl

slash : (b : ℕ) → no_slash b ≡ true → 47 ≡ b → ⊥
slash b h e = absurd (let c : false ≡ true = subst (λ z. no_slash z ≡ true) (sym e) h in cc)

-- what stands before the first slash, and what after it
cut : (xs ys us vs : List ℕ) → list_all no_slash xs ≡ true → list_all no_slash ys ≡ true → xs ++ 47 ∷ us ≡ ys ++ 47 ∷ vs → (xs ≡ ys) × (us ≡ vs)
cut [] [] us vs p q e = (refl, cc)
cut [] (y ∷ ys) us vs p q e = absurd (slash y (and_parts (no_slash y) (list_all no_slash ys) q).0 (cc))
cut (x ∷ xs) [] us vs p q e = absurd (slash x (and_parts (no_slash x) (list_all no_slash xs) p).0 (cc))
cut (x ∷ xs) (y ∷ ys) us vs p q e =
    let it = cut xs ys us vs (and_parts (no_slash x) (list_all no_slash xs) p).1 (and_parts (no_slash y) (list_all no_slash ys) q).1 (cc) in
    (ap₂ (λ a l. a ∷ l) (cc) it.0, it.1)

byte_of_name : (b : ℕ) → is_name_byte b ≡ true → no_slash b ≡ true
byte_of_name b h = by (b == 47) refl
  where
    by : (c : Bool) → (b == 47) ≡ c → not c ≡ true
    by false e = refl
    by true e = absurd (let c : false ≡ true = subst (λ z. is_name_byte z ≡ true) (eqb-true b 47 e) h in cc)

bytes_of_name : (xs : List ℕ) → list_all is_name_byte xs ≡ true → list_all no_slash xs ≡ true
bytes_of_name [] h = refl
bytes_of_name (x ∷ xs) h =
    let it = and_parts (is_name_byte x) (list_all is_name_byte xs) h in
    both (byte_of_name x it.0) (bytes_of_name xs it.1)

name : (xs : List ℕ) → is_name xs ≡ true → list_all no_slash xs ≡ true
name xs h = bytes_of_name xs (and_parts _ (list_all is_name_byte xs) h).1

digit : (n : ℕ) → no_slash (48 + n) ≡ true
digit n = by (eqb_tells (48 + n) 47)
  where
    by : ((eqb (48 + n) 47 ≡ true) × (48 + n ≡ 47)) ⊎ ((eqb (48 + n) 47 ≡ false) × (48 + n ≢ 47)) → no_slash (48 + n) ≡ true
    by (inl p) = absurd (omega (arith, p.1))
    by (inr p) = ap not p.0

-- of numbers of two digits each
abbrev text : ℕ → ℕ → ℕ → ℕ → ℕ → ℕ → ℕ → List ℕ
text c y m d h n s = two c ++ (two y ++ (45 ∷ two m ++ 45 ∷ two d)) ++ (84 ∷ (two h ++ (58 ∷ two n ++ 58 ∷ two s)) ++ codes "+00:00")

digits : (c y m d h n s : ℕ) → list_all no_slash (text c y m d h n s) ≡ true
digits c y m d h n s =
    both (digit (c / 10)) (both (digit (c % 10)) (both (digit (y / 10)) (both (digit (y % 10)) (both refl (both (digit (m / 10)) (both (digit (m % 10)) (both refl
    (both (digit (d / 10)) (both (digit (d % 10)) (both refl (both (digit (h / 10)) (both (digit (h % 10)) (both refl (both (digit (n / 10)) (both (digit (n % 10)) (both refl
    (both (digit (s / 10)) (both (digit (s % 10)) refl))))))))))))))))))

date : (m : ℕ) → list_all no_slash (text_of m) ≡ true
date m =
    let d = date_of (day_of m) in
    digits (d.year / 100) (d.year % 100) d.month d.day (m % 86400 / 3600) (m % 86400 % 3600 / 60) (m % 86400 % 60)

run : (kind : RunKind) (m : ℕ) → list_all no_slash (run_id_text kind m) ≡ true
run Scheduled m = date m
run Manual m = date m
run Backfill m = date m

same_date : (m n : ℕ) → m < seconds_end → n < seconds_end → text_of m ≡ text_of n → m ≡ n
same_date m n hm hn e =
    let it : Ok m ≡ Ok n = sym (read_back m hm) ∙ (ap read_of e ∙ read_back n hn) in
    cc

same_run : (k l : RunKind) (m n : ℕ) → m < seconds_end → n < seconds_end → run_id_text k m ≡ run_id_text l n → m ≡ n
same_run Scheduled Scheduled m n hm hn e = same_date m n hm hn (append_cancel_left (codes "scheduled__") (text_of m) (text_of n) e)
same_run Manual Manual m n hm hn e = same_date m n hm hn (append_cancel_left (codes "manual__") (text_of m) (text_of n) e)
same_run Backfill Backfill m n hm hn e = same_date m n hm hn (append_cancel_left (codes "backfill__") (text_of m) (text_of n) e)
same_run Scheduled Manual m n hm hn e = absurd (omega (arith, ap length e))
same_run Scheduled Backfill m n hm hn e = absurd (omega (arith, ap length e))
same_run Manual Scheduled m n hm hn e = absurd (omega (arith, ap length e))
same_run Manual Backfill m n hm hn e = absurd (omega (arith, ap length e))
same_run Backfill Scheduled m n hm hn e = absurd (omega (arith, ap length e))
same_run Backfill Manual m n hm hn e = absurd (omega (arith, ap length e))

-- a path after the base folder and `/dag_id=`
abbrev after_run : Job → List ℕ
after_run job = job.task ++ (codes "/attempt=" ++ (decimal job.try_number ++ codes ".log"))

abbrev after_graph : Job → List ℕ
after_graph job = run_id_text job.kind job.logical ++ (codes "/task_id=" ++ after_run job)

pub same_try : (base : List ℕ) (a b : Job) → IsNamed a → IsNamed b → log_path base a ≡ log_path base b → IsSameTry a b
same_try base a b na nb e =
    let graphs = cut a.graph b.graph (codes "run_id=" ++ after_graph a) (codes "run_id=" ++ after_graph b) (name a.graph na.graph) (name b.graph nb.graph) (append_cancel_left (codes "/dag_id=") _ _ (append_cancel_left base _ _ e)) in
    let runs =
    cut (run_id_text a.kind a.logical) (run_id_text b.kind b.logical) (codes "task_id=" ++ after_run a) (codes "task_id=" ++ after_run b) (run a.kind a.logical) (run b.kind b.logical)
    (append_cancel_left (codes "run_id=") (after_graph a) (after_graph b) graphs.1) in
    let tasks =
    cut a.task b.task (codes "attempt=" ++ (decimal a.try_number ++ codes ".log")) (codes "attempt=" ++ (decimal b.try_number ++ codes ".log")) (name a.task na.task) (name b.task nb.task)
    (append_cancel_left (codes "task_id=") (after_run a) (after_run b) runs.1) in
    record {
      graph = graphs.0;
      run = same_run a.kind b.kind a.logical b.logical na.date nb.date runs.0;
      task = tasks.0;
      number = decimal_injective a.try_number b.try_number na.number nb.number
          (append_cancel_right (decimal a.try_number) (decimal b.try_number) (codes ".log") (append_cancel_left (codes "attempt=") _ _ tasks.1));
    }
