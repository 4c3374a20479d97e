-- What a run promises, from what its session and its threads leave.
use Rattle.std.proofs.Common.{◌≡◌, ◌++◌, ◌+◌, ℕ, ◌<◌, ◌≤◌, ◌==◌, Bool, true, false, true≢false, not, List, All, [], ◌∷◌, length, map, take, replicate, Option, None, inl, inr, Result, Ok, Err, MatchResult, OnOk, IfOk, IfErr, IsOk, refl, sym, ap, ◌∙◌, subst, arith, ne_eqb}
use Rattle.std.specs.Prelude.{sum_by}
use Rattle.std.proofs.lemmas.List.{length-map}
use Rattle.std.proofs.lemmas.List.Elements.{All-append, All-nil}
use Rattle.std.proofs.Math.Seq.{take-length}
use Rattle.sqlite.specs.Held.{Held}
use Rattle.sqlite.specs.State.{State}
use Rattle.sched_state.specs.declared.jobs.Job.{Job}
use Rattle.operators.specs.Kits.{IsKit}
use Rattle.operators.specs.declared.kits.Kit.{Kit}
use Rattle.ruled_dispatch.specs.Lanes.{sent_of, heard_of}
use Rattle.ruled_dispatch.specs.declared.items.JobOrStop.{JobOrStop}
use Rattle.ruled_dispatch.specs.declared.items.JobOrStop.TheVariants as items
use Rattle.ruled_dispatch.specs.declared.items.Report.{Report}
use Rattle.ruled_dispatch.specs.declared.items.WorkerReport.{WorkerReport}
use Rattle.ruled_dispatch.specs.declared.lanes.Lanes.{Lanes}
use Rattle.ruled_dispatch.specs.declared.passes.DirectorPass.{DirectorPass}
use Rattle.sched_events.specs.SettledAndSound.{IsSoundAndSaid}
use Rattle.sched_events.specs.Steps.{steps, handed_along, AreAccepted}
use Rattle.sched_events.specs.declared.events.Event.{Event}
use Rattle.sched_model.specs.Schedule.{Schedule}
use Rattle.sched_model.specs.States.{in_flight}
use Rattle.minutes.specs.Minutes.{BeginWithRestart, reports_in}
use Rattle.sessions.specs.director.Leaves.{Leaves}
use Rattle.sessions.specs.History.{accepted, heard_in, is_reported, is_restarted, missed_in, tried_at_end, AreRight, Step}
use Rattle.sessions.specs.Runs.{DirectorValue, Follows}
use Rattle.sessions.proofs.HistoryLemmas.{reported_later}
use Rattle.sessions.proofs.LawLemmas.{right_accepted, right_begun, right_heard}
use Rattle.sessions.proofs.director.LeaveLemmas.{leaves_none}
use Rattle.sessions.proofs.director.ListLemmas.{follows_itself}
use Rattle.sessions.specs.declared.faults.ConductFault.{ConductFault}
use Rattle.sessions.specs.declared.faults.ConductFault.TheVariants as fault
use Rattle.sessions.specs.declared.line_reading.Line.{Line}
use Rattle.sessions.specs.declared.line_reading.LineFault.{LineFault}
use Rattle.sessions.specs.declared.state.Parted.{Parted}
use Rattle.workers.specs.declared.crews.WorkerEnd.{WorkerEnd}
use Rattle.workers.specs.Accounted.{AreAccounts, AreAmongSent, AreAmongTold}
use Rattle.workers.specs.Ends.{AreInOrder}
use Rattle.workers.specs.Logs.{reports_of}
use Rattle.workers.specs.Shows.{Shows}
use Rattle.conduct.specs.declared.conducting.Conducted.{Conducted}
use Rattle.conduct.specs.Ends.{logged, EachStandsInALog, EachToldItsOwn, HaveWorkedFor}
use Rattle.conduct.specs.Faults.{EndsInside, EndsRun, all_started, came_to_its_end, is_no_worker, is_unstarted}
use Rattle.conduct.specs.Served.{IsHistory, IsServed}
use Rattle.conduct.specs.Run.{IsConducted}
use Rattle.conduct.proofs.Logs.{jobs_among}
use Rattle.kept.specs.declared.lists.Keep.{Keep}

-- ---- why it ended
ends_run : (f : ConductFault) (o : Option LineFault) → EndsInside f o → EndsRun f o
ends_run fault.NoWorker o e = absurd e
ends_run fault.SpawnRefused o e = e
ends_run (fault.StoreThrice error) o e = e
ends_run fault.ReadFault o e = e
ends_run fault.Memory o e = e
ends_run fault.Unequal o e = absurd e

has_workers : (f : ConductFault) (o : Option LineFault) → EndsInside f o → is_no_worker f ≡ false
has_workers fault.NoWorker o e = absurd e
has_workers fault.SpawnRefused o e = refl
has_workers (fault.StoreThrice error) o e = refl
has_workers fault.ReadFault o e = refl
has_workers fault.Memory o e = refl
has_workers fault.Unequal o e = absurd e

broke_off : (A : Type 0) (f : ConductFault) (o : Option LineFault) → EndsInside f o → came_to_its_end {A = A} (Err f) ≡ false
broke_off A fault.NoWorker o e = refl
broke_off A fault.SpawnRefused o e = refl
broke_off A (fault.StoreThrice error) o e = refl
broke_off A fault.ReadFault o e = refl
broke_off A fault.Memory o e = refl
broke_off A fault.Unequal o e = absurd e

-- a fault is passed on, and a run that came to its end may be found unequal
abbrev pub PassesOn : {A B : Type 0} → Result A ConductFault → Result B ConductFault → Type 0
PassesOn r q = IfErr r (λ f. MatchResult q (λ _. f ≡ fault.Unequal) (λ g. f ≡ g))

of_ok : {B P : Type 0} (q : Result B ConductFault) → IsOk q → OnOk q P → P
of_ok (Ok w) ok p = p
of_ok (Err g) ok p = absurd (true≢false (sym ok))

module _ {A B : Type 0} where
  whole_by : (P : Type 0) (r : Result A ConductFault) (q : Result B ConductFault) (o : Option LineFault) → OnOk r (IsOk q) → PassesOn r q → MatchResult q (λ _. o ≡ None) (λ f. EndsInside f o) → OnOk q P → came_to_its_end r ≡ true → P
  whole_by P (Ok v) q o ok pass why p is = of_ok q ok p
  whole_by P (Err f) (Ok w) o ok pass why p is = p
  whole_by P (Err f) (Err g) o ok pass why p is = absurd (true≢false (sym is ∙ ap (λ (h : ConductFault). came_to_its_end {A = A} (Err h)) pass ∙ broke_off A g o why))

  why_by : (r : Result A ConductFault) (q : Result B ConductFault) (o : Option LineFault) → OnOk r (IsOk q) → PassesOn r q → MatchResult q (λ _. o ≡ None) (λ f. EndsInside f o) → MatchResult r (λ _. o ≡ None) (λ f. EndsRun f o)
  why_by (Ok v) (Ok w) o ok pass why = why
  why_by (Ok v) (Err g) o ok pass why = absurd (true≢false (sym ok))
  why_by (Err f) (Ok w) o ok pass why = subst (λ h. EndsRun h o) (sym pass) why
  why_by (Err f) (Err g) o ok pass why = subst (λ h. EndsRun h o) (sym pass) (ends_run g o why)

  workers_by : (r : Result A ConductFault) (q : Result B ConductFault) (o : Option LineFault) (n : ℕ) → 0 < n → PassesOn r q → MatchResult q (λ _. o ≡ None) (λ f. EndsInside f o) → MatchResult r (λ _. 0 < n) (λ f. is_no_worker f ≡ (n == 0))
  workers_by (Ok v) q o n some pass why = some
  workers_by (Err f) (Ok w) o n some pass why = ap is_no_worker pass ∙ sym (ne_eqb n 0 (λ e. absurd (omega arith)))
  workers_by (Err f) (Err g) o n some pass why = ap is_no_worker pass ∙ has_workers g o why ∙ sym (ne_eqb n 0 (λ e. absurd (omega arith)))

  unstarted_by : (P Q : Type 0) (r : Result A ConductFault) (q : Result B ConductFault) → PassesOn r q → IfErr q (λ f. is_unstarted f ≡ true → P) → (P → Q) → IfErr r (λ f. is_unstarted f ≡ true → Q)
  unstarted_by P Q (Ok v) q pass was to = tt
  unstarted_by P Q (Err f) (Ok w) pass was to = λ u. absurd (true≢false (sym u ∙ ap is_unstarted pass))
  unstarted_by P Q (Err f) (Err g) pass was to = λ u. to (was (ap is_unstarted (sym pass) ∙ u))

  -- what holds where the first is Ok, from what holds of both
  pub both_ok : {X : Type 0} {P Q : A → Type 0} (r : Result A ConductFault) (q : Result B ConductFault) → OnOk r (IsOk q) → OnOk q X → IfOk r P → ((v : A) → X → P v → Q v) → IfOk r Q
  both_ok (Ok v) q ok x p f = f v (of_ok q ok x) p
  both_ok (Err e) q ok x p f = tt

if_ok : {A F : Type 0} {P Q : A → Type 0} (r : Result A F) → IfOk r P → ((v : A) → P v → Q v) → IfOk r Q
if_ok (Ok v) p f = f v p
if_ok (Err e) p f = tt

pub also_ok : {A F P Q : Type 0} (r : Result A F) → OnOk r P → (P → Q) → OnOk r Q
also_ok (Ok v) p f = f p
also_ok (Err e) p f = tt

pub take_all : {A : Type 0} (n : ℕ) (xs : List A) → n ≡ length xs → take n xs ≡ xs
take_all n xs same = ap (λ k. take k xs) same ∙ take-length xs

empty_list : {A : Type 0} (xs : List A) → length xs ≤ 0 → xs ≡ []
empty_list [] le = refl
empty_list (x ∷ xs) le = absurd (omega arith)

-- ---- whether each worker was started
pub on_ok : {A P : Type 0} (q : Result A ConductFault) → (all_started q ≡ true → P) → OnOk q P
on_ok (Ok v) h = h refl
on_ok (Err f) h = tt

by_cases : {P : Type 0} (b : Bool) → (b ≡ true → P) → (b ≡ false → P) → P
by_cases true t f = t refl
by_cases false t f = f refl

-- a fault that came although each was started
pub started_err : (f : ConductFault) → not (is_unstarted f) ≡ true → is_unstarted f ≡ false
started_err f started = by_cases (is_unstarted f) (λ is. absurd (true≢false (sym started ∙ ap not is))) (λ is. is)

-- a fault that came since one was not
pub refused_err : (f : ConductFault) → not (is_unstarted f) ≡ false → is_unstarted f ≡ true
refused_err f refused = by_cases (is_unstarted f) (λ is. is) (λ is. absurd (true≢false (sym (ap not is) ∙ refused)))

started_or : {A P Q : Type 0} (q : Result A ConductFault) → IfErr q (λ f. is_unstarted f ≡ true → P) → (all_started q ≡ true → Q) → (all_started q ≡ false → P → Q) → Q
started_or (Ok v) refused started none = started refl
started_or (Err f) refused started none = by_cases (is_unstarted f) (λ is. none (ap not is) (refused is)) (λ is. started (ap not is))

module _ {G O : Type 0} (shows : Shows O) (kits : List (Kit O)) where
  -- each end is its worker's own: it stands at its number, its log is an account of its kit, and the kit is whole
  abbrev pub AreOwn : List (WorkerEnd G O) → Type 0
  AreOwn ends = AreInOrder ends × AreAccounts shows kits ends × All (λ e. IsKit shows.kind_of e.kit) ends

  -- no worker reported
  nobody_worked : (minutes : List Event) (a : Schedule) → minutes ≡ [] → HaveWorkedFor {G = G} shows kits [] minutes a
  nobody_worked minutes a none = record {
    back = inr (refl, none);
    numbered = λ k e below. absurd (omega arith);
    accounts = λ k kit e below. absurd (omega arith);
    whole = λ k e below. absurd (omega arith);
    handed = λ weight. omega arith;
    told = λ weight. subst (λ (l : List Event). sum_by weight (reports_in l) ≤ sum_by (λ (e : WorkerEnd G O). sum_by weight (reports_of e.log.items)) []) (sym none) (omega arith);
  }

  none_worked : (ends : List (WorkerEnd G O)) (minutes : List Event) (a : Schedule) → ends ≡ [] → minutes ≡ [] → HaveWorkedFor shows kits ends minutes a
  none_worked ends minutes a nobody none =
      subst (λ (es : List (WorkerEnd G O)). HaveWorkedFor shows kits es minutes a) (sym nobody) (nobody_worked minutes a none)

  -- each log is back
  all_worked : (ends : List (WorkerEnd G O)) (minutes now : List Event) (a : Schedule) (sent : List JobOrStop) (heard : List WorkerReport) (stops : ℕ)
      → minutes ≡ now → length ends ≡ length kits → AreOwn ends
      → sent ≡ map (λ j. items.Job j) (handed_along now a) ++ replicate stops items.Stop → AreAmongSent sent ends
      → ((weight : Report → ℕ) → sum_by weight (reports_in now) ≤ sum_by weight (map (λ t. t.report) heard)) → AreAmongTold heard ends
      → HaveWorkedFor shows kits ends minutes a
  all_worked ends minutes now a sent heard stops same all own is among each told = record {
    back = inl all;
    numbered = own.0;
    accounts = own.1;
    whole = own.2;
    handed = subst (λ (l : List Event). (weight : Job → ℕ) → sum_by (λ (e : WorkerEnd G O). sum_by weight (logged e.log.items)) ends ≤ sum_by weight (handed_along l a)) (sym same)
        (jobs_among ends sent (handed_along now a) stops is among);
    told = λ weight.
        let one : sum_by weight (reports_in minutes) ≡ sum_by weight (reports_in now) = ap (λ (l : List Event). sum_by weight (reports_in l)) same in
        let two : sum_by weight (reports_in now) ≤ sum_by weight (map (λ (t : WorkerReport). t.report) heard) = each weight in
        let three : sum_by weight (map (λ (t : WorkerReport). t.report) heard) ≤ sum_by (λ (e : WorkerEnd G O). sum_by weight (reports_of e.log.items)) ends = told weight in
        omega arith;
  }

-- ---- what is kept
module _ {G O : Type 0} (keep : Keep) where
  -- where there is no end, each log is kept so
  pub none_kept : (ends : List (WorkerEnd G O)) → ends ≡ [] → All (λ (e : WorkerEnd G O). e.log.keep ≡ keep) ends
  none_kept ends none = subst (All (λ (e : WorkerEnd G O). e.log.keep ≡ keep)) (sym none) (All-nil (λ (e : WorkerEnd G O). e.log.keep ≡ keep))

  -- the ends are all, or none
  pub ends_kept : (b : Bool) (all ends : List (WorkerEnd G O)) → (b ≡ true → ends ≡ all) → (b ≡ false → ends ≡ []) → All (λ (e : WorkerEnd G O). e.log.keep ≡ keep) all → All (λ (e : WorkerEnd G O). e.log.keep ≡ keep) ends
  ends_kept true all ends same none each = subst (All (λ (e : WorkerEnd G O). e.log.keep ≡ keep)) (sym (same refl)) each
  ends_kept false all ends same none each = none_kept ends (none refl)

-- ---- a history that is right
-- its first event is the restart, and no other is one
begins : (lane_count : ℕ) (h told last : List Step) (a : Schedule) → IsHistory lane_count h told last → AreRight h a → BeginWithRestart lane_count (accepted h)
begins lane_count h told last a parts right = elim parts.first [
  | inl none ↦ subst (λ (k : List Step). BeginWithRestart lane_count (accepted k)) (sym none.0) tt
  | inr begun ↦
      subst (λ (k : List Step). BeginWithRestart lane_count (accepted k)) (sym begun.2)
      (right_begun lane_count begun.0 begun.1 (told ++ last) a (subst (λ (k : List Step). AreRight k a) begun.2 right) begun.3
      (All-append (λ (x : Step). is_restarted x ≡ false) told last parts.once (reported_later last parts.behind)))
]

-- no report stands among its events more often than it was heard
each_heard : (h : List Step) (a : Schedule) (heard : List WorkerReport) → AreRight h a → heard ≡ heard_in h → (weight : Report → ℕ) → sum_by weight (reports_in (accepted h)) ≤ sum_by weight (map (λ t. t.report) heard)
each_heard h a heard right is weight =
    let all : sum_by weight (map (λ (t : WorkerReport). t.report) (heard_in h)) ≡ sum_by weight (reports_in (accepted h)) + sum_by weight (missed_in h) = right_heard h a weight right in
    let same : sum_by weight (map (λ (t : WorkerReport). t.report) heard) ≡ sum_by weight (map (λ (t : WorkerReport). t.report) (heard_in h)) =
    ap (λ (l : List WorkerReport). sum_by weight (map (λ (t : WorkerReport). t.report) l)) is in
    omega arith

module _ {S G O : Type 0} where
  -- nothing was stepped, and no thread was started
  pub unstarted_run : (look : Held S → State) (shows : Shows O) (lane_count : ℕ) (kits : List (Kit O)) (old : DirectorValue S) (run : Conducted S G O) (are_told : List Step → Option Line → Type 0) (untouched : Type 0) (failed : Option LineFault) (is_over : Bool) (f : ConductFault)
      → IsSoundAndSaid old.schedule.content → run.director ≡ old → run.minutes.items ≡ [] → run.ends.items ≡ [] → run.outcome ≡ Err f → are_told [] None → untouched
      → came_to_its_end run.outcome ≡ false → EndsRun f failed → is_no_worker f ≡ (length kits == 0)
      → IsConducted look shows lane_count kits old run are_told untouched failed is_over
  unstarted_run look shows lane_count kits old run are_told untouched failed is_over f sound d e nobody o nothing same short ends none =
      let a = old.schedule.content in
      record {
        sound = sound;
        history = [];
        steps_told = [];
        last = [];
        waits = None;
        parts = record { first = inl (refl, refl, refl); once = All-nil (λ (x : Step). is_restarted x ≡ false); behind = All-nil (λ (x : Step). is_reported x ≡ true) };
        right = tt;
        told = nothing;
        minutes = e;
        stepped = ap (λ (x : DirectorValue S). x.schedule.content) d ∙ ap (λ (l : List Event). steps l a) (sym e);
        accepted = subst (λ (l : List Event). AreAccepted l a) (sym e) tt;
        followed = subst (λ (x : DirectorValue S). Follows a (look old.store) x.schedule.content (look x.store)) (sym d) (follows_itself a (look old.store));
        left =
            subst (λ (l : List Event). Leaves l [] a (look old.store) (look run.director.store)) (sym e)
            (subst (λ (x : DirectorValue S). Leaves [] [] a (look old.store) (look x.store)) (sym d) (leaves_none a (look old.store)));
        opened = ap (λ (x : DirectorValue S). x.opened) d;
        begun = subst (λ (l : List Event). BeginWithRestart lane_count l) (sym e) tt;
        whole = λ is. absurd (true≢false (sym is ∙ short));
        fault = subst (λ r. MatchResult r (λ _. failed ≡ None) (λ g. EndsRun g failed)) (sym o) ends;
        workers = subst (λ r. MatchResult r (λ _. 0 < length kits) (λ g. is_no_worker g ≡ (length kits == 0))) (sym o) none;
        unstarted = subst (λ r. IfErr r (λ g. is_unstarted g ≡ true → (◌≡◌ {A = List Step} [] []) × untouched)) (sym o) (λ _. (refl, same));
        worked = none_worked shows kits run.ends.items run.minutes.items a nobody e;
        heard = λ weight. omega arith;
        once = subst (λ r. OnOk r (EachStandsInALog (handed_along run.minutes.items a) run.ends.items)) (sym o) tt;
        own = subst (λ r. OnOk r (EachToldItsOwn run.minutes.items run.ends.items)) (sym o) tt;
        desk = subst (λ r. IfOk r (λ d. (d.slots ≡ 0) × (d.holds.items ≡ []))) (sym o) tt;
      }

  -- a session was served while the workers ran, and what the workers did was counted
  pub conducted : {W R : Type 0} (look : Held S → State) (shows : Shows O) (lanes : Lanes) (lane_count stops : ℕ) (kits : List (Kit O)) (old : DirectorValue S) (before : DirectorPass) (now : Parted S) (outcome : Result W ConductFault)
      (results : List R) (end_of : R → WorkerEnd G O) (run : Conducted S G O) (are_told : List Step → Option Line → Type 0) (untouched : Type 0) (failed : Option LineFault) (is_over : Bool)
      → IsSoundAndSaid old.schedule.content
      → 0 < length kits
      → IsServed look lanes lane_count stops old before now outcome are_told untouched failed is_over
      → run.director ≡ now.director → run.minutes.items ≡ now.minutes.items
      → OnOk run.outcome (IsOk outcome) → PassesOn run.outcome outcome
      → (all_started outcome ≡ true → length results ≡ length kits)
      → (all_started outcome ≡ true → run.ends.items ≡ map end_of results)
      → (all_started outcome ≡ false → run.ends.items ≡ [])
      → OnOk run.outcome (EachStandsInALog (handed_along now.minutes.items old.schedule.content) run.ends.items)
      → OnOk run.outcome (EachToldItsOwn now.minutes.items run.ends.items)
      → (all_started outcome ≡ true → AreOwn shows kits (map end_of results))
      → IfOk run.outcome (λ d. (d.slots ≡ 0) × (length d.holds.items ≤ d.slots))
      → (all_started outcome ≡ true → AreAmongSent (sent_of now.pass) run.ends.items)
      → (all_started outcome ≡ true → AreAmongTold (heard_of now.pass) run.ends.items)
      → IsConducted look shows lane_count kits old run are_told untouched failed is_over
  conducted {W} {R} look shows lanes lane_count stops kits old before now outcome results end_of run are_told untouched failed is_over sound some served dir min ok pass all ends nobody once own owned desk sent told =
      let a = old.schedule.content in
      let stop = served.run in
      let h = served.history in
      let same : run.minutes.items ≡ accepted h = min ∙ stop.minutes in
      let are : AreAccepted (accepted h) a = right_accepted h a stop.right in
      record {
        sound = sound;
        history = h;
        steps_told = served.steps_told;
        last = served.last;
        waits = served.waits;
        parts = served.parts;
        right = stop.right;
        told = served.told;
        minutes = same;
        stepped = ap (λ (x : DirectorValue S). x.schedule.content) dir ∙ stop.stepped ∙ ap (λ (l : List Event). steps l a) (sym same);
        accepted = subst (λ (l : List Event). AreAccepted l a) (sym same) are;
        followed = subst (λ (x : DirectorValue S). Follows a (look old.store) x.schedule.content (look x.store)) (sym dir) stop.followed;
        left =
            subst (λ (l : List Event). Leaves l (tried_at_end h) a (look old.store) (look run.director.store)) (sym same)
            (subst (λ (x : DirectorValue S). Leaves (accepted h) (tried_at_end h) a (look old.store) (look x.store)) (sym dir) stop.left);
        opened = ap (λ (x : DirectorValue S). x.opened) dir ∙ stop.opened;
        begun = subst (λ (l : List Event). BeginWithRestart lane_count l) (sym same) (begins lane_count h served.steps_told served.last a served.parts stop.right);
        whole = λ is. (
          whole_by _ run.outcome outcome failed ok pass served.fault served.over is,
          whole_by _ run.outcome outcome failed ok pass served.fault served.none is,
          subst (λ (l : List Event). 0 < length l) (sym same) (whole_by _ run.outcome outcome failed ok pass served.fault served.begun is),
          ap (λ (x : DirectorValue S). in_flight x.schedule.content) dir ∙ whole_by _ run.outcome outcome failed ok pass served.fault served.idle is,
        );
        fault = why_by run.outcome outcome failed ok pass served.fault;
        workers = workers_by run.outcome outcome failed (length kits) some pass served.fault;
        unstarted = unstarted_by _ _ run.outcome outcome pass served.unstarted (λ p. p);
        worked =
            started_or outcome served.unstarted
            (λ is.
            all_worked shows kits run.ends.items run.minutes.items (accepted h) a (sent_of now.pass) (heard_of now.pass) stops
            same (ap length (ends is) ∙ length-map results end_of ∙ all is) (subst (λ (l : List (WorkerEnd G O)). AreOwn shows kits l) (sym (ends is)) (owned is))
            stop.sent (sent is) (each_heard h a (heard_of now.pass) stop.right stop.heard) (told is))
            (λ is none. none_worked shows kits run.ends.items run.minutes.items a (nobody is) (same ∙ ap accepted none.0));
        heard =
            started_or outcome served.unstarted (λ is. subst (λ (l : List WorkerReport). AreAmongTold l run.ends.items) stop.heard (told is))
            (λ is none. subst (λ (k : List Step). AreAmongTold (heard_in k) run.ends.items) (sym none.0) (λ weight. omega arith));
        once = also_ok run.outcome once (λ each. subst (λ (l : List Event). EachStandsInALog (handed_along l a) run.ends.items) (sym min) each);
        own = also_ok run.outcome own (λ each. subst (λ (l : List Event). EachToldItsOwn l run.ends.items) (sym min) each);
        desk = if_ok run.outcome desk (λ d held. (held.0, empty_list d.holds.items (subst (λ n. length d.holds.items ≤ n) held.0 held.1)));
      }
