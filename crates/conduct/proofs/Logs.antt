-- The jobs in the logs, where stops are left out, and the reports of each log.
use Rattle.std.proofs.Common.{◌≡◌, ℕ, zero, suc, ◌<◌, ◌≤◌, ◌==◌, List, [], ◌∷◌, ◌++◌, length, get_or, map, replicate, refl, sym, ap, ◌∙◌, subst, arith, eq-eqb, ◌&&◌, true, Result, Ok, Err, IfOk, OnOk}
use Rattle.std.specs.Prelude.{sum_by}
use Rattle.std.specs.List.{list_all}
use Rattle.std.proofs.lemmas.List.{length-map}
use Rattle.std.proofs.lemmas.List.Sums.{sum_by-cons, sum_by-append}
use Rattle.sched_state.specs.declared.jobs.Job.{Job}
use Rattle.sched_events.specs.Promises.{serials_in}
use Rattle.sched_events.specs.Steps.{handed_along}
use Rattle.sched_events.specs.declared.events.Event.{Event}
use Rattle.sched_model.specs.Schedule.{Schedule}
use Rattle.ruled_dispatch.specs.declared.items.JobOrStop.{JobOrStop}
use Rattle.ruled_dispatch.specs.declared.items.JobOrStop.TheVariants as items
use Rattle.ruled_dispatch.specs.declared.items.Report.{Report}
use Rattle.ruled_dispatch.specs.declared.items.WorkerReport.{WorkerReport}
use Rattle.ruled_dispatch.specs.ReportsRule.{told_by}
use Rattle.workers.specs.declared.crews.WorkerEnd.{WorkerEnd}
use Rattle.workers.specs.declared.logs.Logged.{Logged}
use Rattle.workers.specs.Logs.{jobs_of, reports_of, both_reports}
use Rattle.workers.specs.Accounted.{StandInLogs, AreAmongSent, AreHeard}
use Rattle.minutes.specs.Minutes.{of_worker, reports_in}
use Rattle.minutes.specs.Logs.{AreLogs, are_of}
use Rattle.minutes.proofs.LogLemmas.{log_is_own}
use Rattle.conduct.specs.Ends.{logged, serials_of, EachStandsInALog, EachToldItsOwn}

-- a weight of jobs, by which a stop weighs nothing
abbrev item_weight : (Job → ℕ) → JobOrStop → ℕ
item_weight weight (items.Job job) = weight job
item_weight weight items.Stop = 0

weigh_jobs : (weight : Job → ℕ) (jobs : List Job) → sum_by (item_weight weight) (map (λ j. items.Job j) jobs) ≡ sum_by weight jobs
weigh_jobs weight [] = refl
weigh_jobs weight (j ∷ js) =
    let rest = weigh_jobs weight js in
    let left = sum_by-cons (item_weight weight) (items.Job j) (map (λ i. items.Job i) js) in
    let right = sum_by-cons weight j js in
    omega arith

weigh_log : (weight : Job → ℕ) (log : List Logged) → sum_by (item_weight weight) (jobs_of log) ≡ sum_by weight (logged log)
weigh_log weight [] = refl
weigh_log weight (e ∷ es) =
    let rest = weigh_log weight es in
    let left = sum_by-cons (item_weight weight) (items.Job e.job) (jobs_of es) in
    let right = sum_by-cons weight e.job (logged es) in
    omega arith

weigh_stops : (weight : Job → ℕ) (n : ℕ) → sum_by (item_weight weight) (replicate n items.Stop) ≡ 0
weigh_stops weight zero = refl
weigh_stops weight (suc n) =
    let rest = weigh_stops weight n in
    let all = sum_by-cons (item_weight weight) items.Stop (replicate n items.Stop) in
    omega arith

module _ {G O : Type 0} where
  weigh_logs : (weight : Job → ℕ) (ends : List (WorkerEnd G O)) → sum_by (λ e. sum_by (item_weight weight) (jobs_of e.log.items)) ends ≡ sum_by (λ e. sum_by weight (logged e.log.items)) ends
  weigh_logs weight [] = refl
  weigh_logs weight (e ∷ es) =
      let here = weigh_log weight e.log.items in
      let rest = weigh_logs weight es in
      let left = sum_by-cons (λ (x : WorkerEnd G O). sum_by (item_weight weight) (jobs_of x.log.items)) e es in
      let right = sum_by-cons (λ (x : WorkerEnd G O). sum_by weight (logged x.log.items)) e es in
      omega arith

  -- what stands in the logs as often as it was sent, but for the stops, are the jobs
  pub jobs_stand : (ends : List (WorkerEnd G O)) (sent : List JobOrStop) (jobs : List Job) (stops : ℕ) → sent ≡ map (λ j. items.Job j) jobs ++ replicate stops items.Stop
      → StandInLogs sent ends → EachStandsInALog jobs ends
  jobs_stand ends sent jobs stops is stand weight =
      let all = stand (item_weight weight) in
      let split = ap (sum_by (item_weight weight)) is ∙ sum_by-append (item_weight weight) (map (λ (j : Job). items.Job j) jobs) (replicate stops items.Stop) in
      let of_jobs = weigh_jobs weight jobs in
      let of_stops = weigh_stops weight stops in
      let of_others = weigh_stops weight (length ends) in
      let of_logs = weigh_logs weight ends in
      omega arith

  -- what does not stand in the logs more often than it was sent, beside the stops, are the jobs
  pub jobs_among : (ends : List (WorkerEnd G O)) (sent : List JobOrStop) (jobs : List Job) (stops : ℕ) → sent ≡ map (λ j. items.Job j) jobs ++ replicate stops items.Stop
      → AreAmongSent sent ends → (weight : Job → ℕ) → sum_by (λ e. sum_by weight (logged e.log.items)) ends ≤ sum_by weight jobs
  jobs_among ends sent jobs stops is among weight =
      let all = among (item_weight weight) in
      let split = ap (sum_by (item_weight weight)) is ∙ sum_by-append (item_weight weight) (map (λ (j : Job). items.Job j) jobs) (replicate stops items.Stop) in
      let of_jobs = weigh_jobs weight jobs in
      let of_stops = weigh_stops weight stops in
      let of_logs = weigh_logs weight ends in
      omega arith

  log_at : (ends : List (WorkerEnd G O)) (k : ℕ) (d : WorkerEnd G O) → k < length ends → get_or (map (λ e. logged e.log.items) ends) k [] ≡ logged (get_or ends k d).log.items
  log_at [] k d below = absurd (omega arith)
  log_at (e ∷ es) zero d below = refl
  log_at (e ∷ es) (suc k) d below = log_at es k d (omega arith)

  weigh_lists : (weight : Job → ℕ) (ends : List (WorkerEnd G O)) → sum_by (λ log. sum_by weight log) (map (λ e. logged e.log.items) ends) ≡ sum_by (λ e. sum_by weight (logged e.log.items)) ends
  weigh_lists weight [] = refl
  weigh_lists weight (e ∷ es) =
      let rest = weigh_lists weight es in
      let left = sum_by-cons (λ (log : List Job). sum_by weight log) (logged e.log.items) (map (λ (x : WorkerEnd G O). logged x.log.items) es) in
      let right = sum_by-cons (λ (x : WorkerEnd G O). sum_by weight (logged x.log.items)) e es in
      omega arith

map_twice : (log : List Logged) → serials_of log ≡ map (λ e. e.job.serial) log
map_twice [] = refl
map_twice (e ∷ es) = ap (λ (l : List ℕ). e.job.serial ∷ l) (map_twice es)

one_serial : (e : Logged) → list_all (λ (r : Report). r.serial == e.job.serial) (both_reports e) ≡ true
one_serial e = ap (λ b. b && (b && true)) (eq-eqb e.job.serial e.job.serial refl)

reports_are_own : (log : List Logged) → are_of (serials_of log) (reports_of log) ≡ true
reports_are_own log = ap (λ s. are_of s (reports_of log)) (map_twice log) ∙ log_is_own (λ (e : Logged). e.job.serial) both_reports log one_serial

module _ {G O : Type 0} where
  -- the logs of the ends, beside what was heard of the workers
  pub are_logs : (ends : List (WorkerEnd G O)) (heard : List WorkerReport) (es : List Event) (a : Schedule)
      → EachStandsInALog (handed_along es a) ends → AreHeard heard ends → map (λ t. t.report) heard ≡ reports_in es
      → AreLogs es a (map (λ e. logged e.log.items) ends) heard
  are_logs [] heard es a stand told reported = record {
    once = λ weight. stand weight;
    own = λ k below. absurd (omega arith);
    others = λ k late. told.1 k late;
    reported = reported;
  }
  are_logs (d ∷ ds) heard es a stand told reported =
      let ends = d ∷ ds in
      let same = length-map ends (λ (e : WorkerEnd G O). logged e.log.items) in
      record {
        once = λ weight. stand weight ∙ sym (weigh_lists weight ends);
        own = λ k below.
            let here : k < length ends = omega arith in
            ap (λ (l : List Job). are_of (serials_in l) (told_by k heard)) (log_at ends k d here)
            ∙ ap (are_of (serials_of (get_or ends k d).log.items)) (told.0 k d here)
            ∙ reports_are_own (get_or ends k d).log.items;
        others = λ k late. told.1 k (omega arith);
        reported = reported;
      }

  -- by the law of the logs each worker's reports are its own
  pub told_own : (ends : List (WorkerEnd G O)) (heard : List WorkerReport) (es : List Event) → AreHeard heard ends
      → ((k : ℕ) → k < length (map (λ (e : WorkerEnd G O). logged e.log.items) ends) → of_worker (serials_in (get_or (map (λ (e : WorkerEnd G O). logged e.log.items) ends) k [])) es ≡ told_by k heard)
      → EachToldItsOwn es ends
  told_own ends heard es told law k d below =
      let same = length-map ends (λ (e : WorkerEnd G O). logged e.log.items) in
      ap (λ (l : List Job). of_worker (serials_in l) es) (sym (log_at ends k d below)) ∙ law k (omega arith) ∙ told.0 k d below

-- ---- what holds where a result that was passed on is Ok
module _ {A E F : Type 0} (desk : Result A E) where
  pub passed_on : {P Q : Type 0} (r : Result A F) → IfOk r (λ d. desk ≡ Ok d) → OnOk desk P → (P → Q) → OnOk r Q
  passed_on {P} (Ok d) same p f = f (subst (λ (x : Result A E). OnOk x P) same p)
  passed_on (Err e) same p f = tt

  pub both_passed_on : {X P Q S : Type 0} (r : Result A F) → IfOk r (λ d. desk ≡ Ok d) → OnOk r X → OnOk desk P → OnOk desk Q → (X → P → Q → S) → OnOk r S
  both_passed_on {P = P} {Q = Q} (Ok d) same x p q f = f x (subst (λ (y : Result A E). OnOk y P) same p) (subst (λ (y : Result A E). OnOk y Q) same q)
  both_passed_on (Err e) same x p q f = tt

  pub counted : (P Q : A → Type 0) (r : Result A F) → IfOk r (λ d. desk ≡ Ok d) → IfOk desk P → IfOk desk Q → IfOk r (λ d. P d × Q d)
  counted P Q (Ok d) same p q = (subst (λ (x : Result A E). IfOk x P) same p, subst (λ (x : Result A E). IfOk x Q) same q)
  counted P Q (Err e) same p q = tt
