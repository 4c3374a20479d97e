-- A session that was served, and one that was not, with the stops sent after it.
use Rattle.std.proofs.Common.{◌≡◌, ℕ, ◌<◌, ◌||◌, Bool, true, false, true≢false, inl, inr, List, [], ◌∷◌, ◌++◌, length, replicate, is_ok, Option, None, Result, Ok, Err, MatchBool, MatchResult, OnOk, IfErr, refl, sym, ap, ◌∙◌, subst, arith}
use Rattle.std.proofs.lemmas.List.Elements.{All-nil}
use Rattle.sqlite.specs.Held.{Held}
use Rattle.sqlite.specs.State.{State}
use Rattle.ruled_dispatch.specs.Lanes.{sent_of, heard_of, IsDirectorOf, HasWorkers}
use Rattle.ruled_dispatch.specs.declared.items.JobOrStop.TheVariants as item
use Rattle.ruled_dispatch.specs.declared.lanes.Lanes.{Lanes}
use Rattle.ruled_dispatch.specs.declared.passes.DirectorPass.{DirectorPass}
use Rattle.ruled_dispatch.specs.declared.passes.WorkerPass.{WorkerPass}
use Rattle.sched_events.specs.Steps.{steps, handed_along}
use Rattle.sched_events.specs.declared.answers.Answer.{Answer}
use Rattle.sched_events.specs.declared.events.Event.{Event}
use Rattle.sched_model.specs.Schedule.{Schedule}
use Rattle.sched_model.specs.States.{in_flight}
use Rattle.sessions.specs.director.Leaves.{Leaves}
use Rattle.sessions.specs.Executors.{AsksNothing, ExecutorValue, has_heard, has_sent, IsSameExecutor}
use Rattle.sessions.specs.Faults.{EndsBy, Fault}
use Rattle.sessions.specs.History.{accepted, any_missed, heard_in, is_reported, is_restarted, readings_in, tried_at_end, AreRight, Restarted, Step}
use Rattle.sessions.specs.Readings.{Reading}
use Rattle.sessions.specs.Runs.{as_sent, now_of, DirectorValue, Follows, Goes}
use Rattle.sessions.specs.declared.faults.ConductFault.{ConductFault}
use Rattle.sessions.specs.declared.faults.ConductFault.TheVariants as fault
use Rattle.sessions.specs.declared.line_reading.Line.{Line}
use Rattle.sessions.specs.declared.line_reading.LineFault.{LineFault}
use Rattle.sessions.specs.declared.state.Parted.{Parted}
use Rattle.sessions.specs.declared.state.Session.{Session}
use Rattle.sessions.specs.declared.steppers.Stepper.{Stepper}
use Rattle.sessions.proofs.GoesLemmas.{goes_nowhere}
use Rattle.kept.specs.Lists.{KeptValue}
use Rattle.slot_desk.specs.declared.holds.Hold.{Hold}
use Rattle.operators.specs.declared.kits.Kit.{Kit}
use Rattle.workers.specs.declared.crews.WorkerEnd.{WorkerEnd}
use Rattle.workers.specs.Shows.{Shows}
use Rattle.workers.specs.Threads.{HaveWorked}
use Rattle.conduct.specs.Faults.{EndsInside, all_started, is_unstarted}
use Rattle.conduct.specs.Served.{IsFollowed, IsStopped, IsServed}

inside : (f : ConductFault) (o : Option LineFault) → EndsBy f o → EndsInside f o
inside fault.NoWorker o e = e
inside fault.SpawnRefused o e = absurd e
inside (fault.StoreThrice error) o e = e
inside fault.ReadFault o e = e
inside fault.Memory o e = e
inside fault.Unequal o e = e

stepped_some : (f : ConductFault) (o : Option LineFault) → EndsBy f o → is_unstarted f ≡ false
stepped_some fault.NoWorker o e = absurd e
stepped_some fault.SpawnRefused o e = absurd e
stepped_some (fault.StoreThrice error) o e = refl
stepped_some fault.ReadFault o e = refl
stepped_some fault.Memory o e = refl
stepped_some fault.Unequal o e = absurd e

ends_inside : {W : Type 0} (r : Result W ConductFault) (o : Option LineFault) → MatchResult r (λ _. o ≡ None) (λ f. EndsBy f o) → MatchResult r (λ _. o ≡ None) (λ f. EndsInside f o)
ends_inside (Ok w) o e = e
ends_inside (Err f) o e = inside f o e

never_unstarted : {W : Type 0} (P : Type 0) (r : Result W ConductFault) (o : Option LineFault) → MatchResult r (λ _. o ≡ None) (λ f. EndsBy f o) → IfErr r (λ f. is_unstarted f ≡ true → P)
never_unstarted P (Ok w) o e = tt
never_unstarted P (Err f) o e = λ is. absurd (true≢false (sym is ∙ stepped_some f o e))

-- ---- a session of a director that had stepped nothing
-- so many stops were sent at its end, and it was taken apart
pub record Ends {S : Type 0} (stops : ℕ) (now last : Session S) (p : Parted S) : Type 0 where
  pub sent : has_sent last.executor ≡ has_sent now.executor ++ replicate stops item.Stop
  pub asks : AsksNothing now.executor last.executor
  pub same : IsSameExecutor now.executor last.executor
  pub stepper : last.stepper ≡ now.stepper
  pub missed : last.missed ≡ now.missed
  pub director : p.director ≡ last.stepper.director
  pub minutes : p.minutes ≡ last.stepper.minutes
  pub by : p.pass ≡ last.executor.pass
  pub of : IsDirectorOf last.executor.lanes p.pass
  pub mark : p.missed ≡ last.missed

-- it had this director and this pass, on these lanes, and nothing was done by them
pub record Begins {S : Type 0} (lanes : Lanes) (old : DirectorValue S) (pass : DirectorPass) (first : Session S) : Type 0 where
  pub director : first.stepper.director ≡ old
  pub minutes : first.stepper.minutes.items ≡ []
  pub executor : first.executor ≡ record { lanes = lanes; pass = pass; nones = 0; waits = 0 }
  pub missed : first.missed ≡ false
  pub unsent : sent_of pass ≡ []
  pub unheard : heard_of pass ≡ []

some_accepted : (lane_count : ℕ) (faults : List Fault) (restart : Result Answer Fault) (h : List Step) → is_ok restart ≡ true → 0 < length (accepted (Restarted lane_count faults restart ∷ h))
some_accepted lane_count faults (Ok answer) h is = omega arith
some_accepted lane_count faults (Err fault) h is = absurd (true≢false (sym is))

where_both : {W : Type 0} (P Q : Type 0) (r : Result W ConductFault) → OnOk r (P × Q) → OnOk r Q
where_both P Q (Ok w) both = both.1
where_both P Q (Err f) both = tt

where_first : {W P R : Type 0} (Q : Type 0) (r : Result W ConductFault) → OnOk r (P × Q) → (P → R) → OnOk r R
where_first Q (Ok w) both f = f both.0
where_first Q (Err e) both f = tt

along : {W P Q : Type 0} (r : Result W ConductFault) → OnOk r P → (P → Q) → OnOk r Q
along (Ok w) p f = f p
along (Err e) p f = tt

module _ {S : Type 0} (look : Held S → State) where
  -- by these steps, and then so many stops
  stopped : {h : List Step} (stops : ℕ) {lanes : Lanes} {old : DirectorValue S} {pass : DirectorPass} (first now last : Session S) (p : Parted S) → Begins lanes old pass first → Goes look h first now → Ends stops now last p
      → IsStopped look stops h old p
  stopped {h} stops {lanes} {old} {pass} first now last p begun went ended =
      let here : DirectorValue S = now.stepper.director in
      let there : p.director ≡ here = ended.director ∙ ap (λ (x : Stepper S). x.director) ended.stepper in
      let a : Schedule = now_of first in
      let start : a ≡ old.schedule.content = ap (λ (d : DirectorValue S). d.schedule.content) begun.director in
      let quiet : has_sent first.executor ≡ [] = ap has_sent begun.executor ∙ begun.unsent in
      let silent : has_heard first.executor ≡ [] = ap has_heard begun.executor ∙ begun.unheard in
      record {
        right = subst (λ (b : Schedule). AreRight h b) start went.right;
        minutes = ap (λ (m : KeptValue Event). m.items) ended.minutes ∙ ap (λ (x : Stepper S). x.minutes.items) ended.stepper ∙ went.minutes ∙ ap (λ (l : List Event). l ++ accepted h) begun.minutes;
        stepped = ap (λ (d : DirectorValue S). d.schedule.content) there ∙ went.stepped ∙ ap (steps (accepted h)) start;
        sent =
            ap sent_of ended.by ∙ ended.sent ∙ ap (λ l. l ++ replicate stops item.Stop) (went.works.sent ∙ ap (λ l. l ++ as_sent (handed_along (accepted h) a)) quiet)
            ∙ ap (λ b. as_sent (handed_along (accepted h) b) ++ replicate stops item.Stop) start;
        heard = ap heard_of ended.by ∙ ended.asks.heard ∙ went.works.heard ∙ ap (λ l. l ++ heard_in h) silent;
        missed = ended.mark ∙ ended.missed ∙ went.missed ∙ ap (λ b. b || any_missed h) begun.missed;
        opened = ap (λ (d : DirectorValue S). d.opened) there ∙ went.opened ∙ ap (λ (d : DirectorValue S). d.opened) begun.director;
        followed =
            subst (λ (d : DirectorValue S). Follows old.schedule.content (look old.store) d.schedule.content (look d.store)) (sym there)
            (subst (λ (d : DirectorValue S). Follows d.schedule.content (look d.store) here.schedule.content (look here.store)) begun.director went.followed);
        left =
            subst (λ (d : DirectorValue S). Leaves (accepted h) (tried_at_end h) old.schedule.content (look old.store) (look d.store)) (sym there)
            (subst (λ (d : DirectorValue S). Leaves (accepted h) (tried_at_end h) d.schedule.content (look d.store) (look here.store)) begun.director went.left);
      }

  -- its pass is that of the lanes, and lacks no worker
  still_of : {lanes : Lanes} {old : DirectorValue S} {pass : DirectorPass} {h : List Step} {stops : ℕ} (first now last : Session S) (p : Parted S) → Begins lanes old pass first → Goes look h first now → Ends stops now last p → IsDirectorOf lanes p.pass
  still_of {lanes} first now last p begun went ended =
      subst (λ (l : Lanes). IsDirectorOf l p.pass) (ended.same.lanes ∙ went.works.same.lanes ∙ ap (λ (x : ExecutorValue). x.lanes) begun.executor) ended.of

  still_has : {lanes : Lanes} {old : DirectorValue S} {pass : DirectorPass} {h : List Step} {stops : ℕ} (first now last : Session S) (p : Parted S) → Begins lanes old pass first → Goes look h first now → Ends stops now last p
      → (count : ℕ) → HasWorkers pass count → HasWorkers p.pass count
  still_has {pass = pass} first now last p begun went ended count has =
      subst (λ (q : DirectorPass). HasWorkers q count) (sym ended.by)
      (ended.same.workers count (went.works.same.workers count (subst (λ (x : ExecutorValue). HasWorkers x.pass count) (sym begun.executor) has)))

  module _ {L C W : Type 0} (tell : L → List Step → Option Line → L → Type 0) (give : C → List (Schedule × Reading) → C → Type 0) where
    -- it was served
    pub served : {lane_count stops : ℕ} {lanes : Lanes} {old : DirectorValue S} {pass : DirectorPass} (first now last : Session S) (p : Parted S) (outcome : Result W ConductFault) {l later : L} {c then : C} {untouched : Type 0}
        {failed : Option LineFault} {is_over : Bool} → Begins lanes old pass first → IsFollowed look lane_count tell give first now l later c then failed is_over outcome → Ends stops now last p
        → IsServed look lanes lane_count stops old pass p outcome (λ told waits. tell l told waits later × give c (readings_in told) then) untouched failed is_over
    served {lane_count} {stops} first now last p outcome {failed = failed} begun follows ended =
        let s = follows.served in
        let went = s.went in
        record {
          pass = still_of first now last p begun went ended;
          workers = still_has first now last p begun went ended;
          history = Restarted lane_count s.faults s.restart ∷ (s.told ++ s.last);
          steps_told = s.told;
          last = s.last;
          waits = s.waits;
          parts = record { first = inr (s.faults, s.restart, refl, s.unbegun); once = s.once; behind = s.behind };
          run = stopped stops first now last p begun went ended;
          told = (s.tells, s.gives);
          none = where_both _ _ outcome s.known;
          fault = ends_inside outcome failed follows.fault;
          over = follows.over;
          begun = where_first _ outcome s.known (some_accepted lane_count s.faults s.restart (s.told ++ s.last));
          idle = along outcome follows.idle
              (λ idle. ap (λ (d : DirectorValue S). in_flight d.schedule.content) (ended.director ∙ ap (λ (x : Stepper S). x.director) ended.stepper) ∙ idle);
          unstarted = never_unstarted _ outcome failed follows.fault;
        }

    -- it was not, since a thread was refused
    pub unserved : {lane_count stops : ℕ} {lanes : Lanes} {old : DirectorValue S} {pass : DirectorPass} (first now last : Session S) (p : Parted S) (outcome : Result W ConductFault) {l later : L} {c then : C}
        {failed : Option LineFault} {is_over : Bool} → Begins lanes old pass first → now ≡ first → later ≡ l → then ≡ c → outcome ≡ Err fault.SpawnRefused → failed ≡ None → tell l [] None l → give c [] c → Ends stops now last p
        → IsServed look lanes lane_count stops old pass p outcome (λ told waits. tell l told waits later × give c (readings_in told) then) ((later ≡ l) × (then ≡ c)) failed is_over
    unserved {stops = stops} first now last p outcome {l} {later} {c} {then} {failed} {is_over} begun still at that is none nothing ungiven ended =
        let went : Goes look [] first now = subst (λ (x : Session S). Goes look [] first x) (sym still) (goes_nowhere first) in
        record {
          pass = still_of first now last p begun went ended;
          workers = still_has first now last p begun went ended;
          history = [];
          steps_told = [];
          last = [];
          waits = None;
          parts = record { first = inl (refl, refl, refl); once = All-nil (λ (x : Step). is_restarted x ≡ false); behind = All-nil (λ (x : Step). is_reported x ≡ true) };
          run = stopped stops first now last p begun went ended;
          told = (subst (λ (m : L). tell l [] None m) (sym at) nothing, subst (λ (d : C). give c [] d) (sym that) ungiven);
          none = subst (λ (r : Result W ConductFault). OnOk r (◌≡◌ {A = Option Line} None None)) (sym is) tt;
          fault = subst (λ (r : Result W ConductFault). MatchResult r (λ _. failed ≡ None) (λ f. EndsInside f failed)) (sym is) none;
          over = subst (λ (r : Result W ConductFault). OnOk r (is_over ≡ true)) (sym is) tt;
          begun = subst (λ (r : Result W ConductFault). OnOk r (0 < length (accepted []))) (sym is) tt;
          idle = subst (λ (r : Result W ConductFault). OnOk r (in_flight p.director.schedule.content ≡ 0)) (sym is) tt;
          unstarted = subst (λ (r : Result W ConductFault). IfErr r (λ f. is_unstarted f ≡ true → (◌≡◌ {A = List Step} [] []) × ((later ≡ l) × (then ≡ c)))) (sym is) (λ _. (refl, (at, that)));
        }

    -- one or the other
    pub served_or : {lane_count stops : ℕ} {lanes : Lanes} {old : DirectorValue S} {pass : DirectorPass} (fails : L → Option LineFault) (ends : L → Bool) (are_all : Bool) (first now last : Session S) (p : Parted S)
        (outcome : Result W ConductFault) {l later : L} {c then : C} → Begins lanes old pass first
        → MatchBool are_all (IsFollowed look lane_count tell give first now l later c then (fails later) (ends later) outcome) ((now ≡ first) × (later ≡ l) × (then ≡ c) × (outcome ≡ Err fault.SpawnRefused))
        → fails l ≡ None → tell l [] None l → give c [] c → Ends stops now last p
        → IsServed look lanes lane_count stops old pass p outcome (λ told waits. tell l told waits later × give c (readings_in told) then) ((later ≡ l) × (then ≡ c)) (fails later) (ends later)
    served_or fails ends true first now last p outcome begun followed sound nothing ungiven ended = served first now last p outcome begun followed ended
    served_or fails ends false first now last p outcome begun refused sound nothing ungiven ended =
        unserved first now last p outcome begun refused.0 refused.1 refused.2 refused.3 (ap fails refused.1 ∙ sound) nothing ungiven ended

-- it was served, so all were started; else a thread was refused
pub all_or : {W : Type 0} (P A B C : Type 0) (are_all : Bool) (outcome : Result W ConductFault) → MatchBool are_all P (A × B × C × (outcome ≡ Err fault.SpawnRefused)) → all_started outcome ≡ true → are_all ≡ true
all_or P A B C true outcome followed started = refl
all_or P A B C false outcome refused started = absurd (true≢false (sym started ∙ ap all_started refused.3))

module _ {S : Type 0} where
  -- served or not, of the minutes is kept what was kept, if it is so where it was served
  pub keeps_or : (P A B C : Type 0) (are_all : Bool) (first now : Session S) → MatchBool are_all P ((now ≡ first) × A × B × C)
      → (P → now.stepper.minutes.keep ≡ first.stepper.minutes.keep) → now.stepper.minutes.keep ≡ first.stepper.minutes.keep
  keeps_or P A B C true first now followed keep = keep followed
  keeps_or P A B C false first now refused keep = ap (λ (s : Session S). s.stepper.minutes.keep) refused.0

  pub same_stops : {W : Type 0} {look : Held S → State} {lanes : Lanes} {lane_count : ℕ} {old : DirectorValue S} {pass : DirectorPass} {now : Parted S} {outcome : Result W ConductFault} {are_told : List Step → Option Line → Type 0}
      {untouched : Type 0} {failed : Option LineFault} {is_over : Bool} (n m : ℕ) → n ≡ m
      → IsServed look lanes lane_count n old pass now outcome are_told untouched failed is_over → IsServed look lanes lane_count m old pass now outcome are_told untouched failed is_over
  same_stops {W} {look} {lanes} {lane_count} {old} {pass} {now} {outcome} {are_told} {untouched} {failed} {is_over} n m same =
      subst (λ k. IsServed look lanes lane_count k old pass now outcome are_told untouched failed is_over) same

-- workers that worked from what their handles say worked from what they were given
pub worked_from : {G O : Type 0} (shows : Shows O) (ps ps' : List WorkerPass) (ss ss' : List (List Hold)) (ks ks' : List (Kit O)) (results : List (WorkerEnd G O × WorkerPass × List Hold))
    → ps ≡ ps' → ss ≡ ss' → ks ≡ ks' → HaveWorked shows ps ss ks results → HaveWorked shows ps' ss' ks' results
worked_from {G = G} {O = O} shows ps ps' ss ss' ks ks' results a b d h =
    subst (λ (p : List WorkerPass). HaveWorked shows p ss' ks' results) a
    (subst (λ (s : List (List Hold)). HaveWorked shows ps s ks' results) b
    (subst (λ (k : List (Kit O)). HaveWorked shows ps ss k results) d h))

-- each was started
pub each_started : {W : Type 0} (r : Result W ConductFault) (b : Bool) (n m k : ℕ) → (all_started r ≡ true → b ≡ true) → MatchBool b (n ≡ m) (n < m) → k ≡ n → all_started r ≡ true → k ≡ m
each_started r true n m k is all same started = same ∙ all
each_started r false n m k is all same started = absurd (true≢false (sym (is started)))
