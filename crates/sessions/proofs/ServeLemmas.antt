-- A session, its lines and its clock.
use Rattle.std.proofs.Common.{◌≡◌, ◌∙◌, ℕ, Bool, true, false, List, [], ◌∷◌, ◌++◌, All, Option, Some, None, Result, Ok, Err, is_ok, true≢false, OnErr, OnOk, refl, sym, ap, subst, append_assoc, append-nil}
use Rattle.std.proofs.lemmas.List.Elements.{All-append, All-cons, All-nil}
use Rattle.sqlite.specs.Held.{Held}
use Rattle.sqlite.specs.State.{State}
use Rattle.sched_events.specs.declared.answers.Answer.{Answer}
use Rattle.sched_events.specs.declared.events.Event.{Event}
use Rattle.sched_events.specs.declared.events.Event.TheVariants.{Tick}
use Rattle.sched_model.specs.Schedule.{Schedule}
use Rattle.director.specs.declared.faults.Fault.{Fault}
use Rattle.sessions.specs.History.{is_reported, is_restarted, looks, readings_in, ArePolled, AreReported, Asked, Looked, Step, Told}
use Rattle.sessions.specs.Lines.{Tells, TellsOn}
use Rattle.sessions.specs.Readings.{Reading}
use Rattle.sessions.specs.Runs.{now_of, Goes, GoesBy}
use Rattle.sessions.specs.Told.{Gives, IsAnswered, Rests, Serves}
use Rattle.sessions.specs.declared.clocks.ClockFault.{ClockFault}
use Rattle.sessions.specs.declared.line_reading.Line.{Line}
use Rattle.sessions.specs.declared.line_reading.Line.TheVariants as Says
use Rattle.sessions.specs.declared.state.Session.{Session}
use Rattle.sessions.proofs.HistoryLemmas.{later_more, looks_later, looks_unread, polls_later, polls_unread, readings_append, reported_later, reported_unread, works_idle}
use Rattle.sessions.proofs.GoesLemmas.{goes_looking, goes_nowhere, goes_quietly, goes_then}

-- the clock was asked after reports, and the tick of its moment was told, or not
asked_unread : (polled : List Step) (b : Schedule) (reading : Reading) → ArePolled polled → readings_in (polled ++ Asked b reading ∷ []) ≡ (b, reading) ∷ []
asked_unread polled b reading are = readings_append polled (Asked b reading ∷ []) ∙ ap (λ l. l ++ readings_in (Asked b reading ∷ [])) (polls_unread polled are)

tick_read : (polled : List Step) (b : Schedule) (reading : Reading) (e : Event) (came : Result Answer Fault) → ArePolled polled → readings_in ((polled ++ Asked b reading ∷ []) ++ Told e came ∷ []) ≡ (b, reading) ∷ []
tick_read polled b reading e came are = readings_append (polled ++ Asked b reading ∷ []) (Told e came ∷ []) ∙ ap (λ l. l ++ readings_in (Told e came ∷ [])) (asked_unread polled b reading are)

heard_unread : (heard : List Step) (b : Schedule) → AreReported heard → readings_in (heard ++ Looked b ∷ []) ≡ []
heard_unread heard b are = readings_append heard (Looked b ∷ []) ∙ ap (λ l. l ++ readings_in (Looked b ∷ [])) (reported_unread heard are)

pub on_err_none : (P : Type 0) (r : Result Answer Fault) → is_ok r ≡ true → OnErr r P
on_err_none P (Ok x) is = tt
on_err_none P (Err f) is = absurd (true≢false (sym is))

pub on_err_any : (P : Type 0) (r : Result Answer Fault) → P → OnErr r P
on_err_any P (Ok x) h = tt
on_err_any P (Err f) h = h

-- the clock gave nothing
ungiven : {C : Type 0} (give : C → List (Schedule × Reading) → C → Type 0) (c : C) (h : List Step) → readings_in h ≡ [] → Gives give (readings_in h) c c
ungiven give c h none = λ k given was. subst (λ (l : List (Schedule × Reading)). give k l c) (sym (ap (λ l. given ++ l) none ∙ append-nil given)) was

module _ {S : Type 0} {look : Held S → State} where
  asked_goes : (b : Schedule) (reading : Reading) (s t : Session S) (polled : GoesBy look ArePolled s t) → b ≡ now_of t → Goes look (polled.0 ++ Asked b reading ∷ []) s t
  asked_goes b reading s t polled same =
      goes_then polled.2 (goes_quietly (Asked b reading) t refl refl refl refl same (works_idle t.executor))

module _ {S L C : Type 0} {look : Held S → State} {tell : L → List Step → Option Line → L → Type 0} {give : C → List (Schedule × Reading) → C → Type 0} where
  -- nothing took place
  pub serves_nothing : {w : Option Line} {s : Session S} {l : L} {c : C} → Serves look tell give w (Rests w) s s l l c c
  serves_nothing {w} {s} {l} {c} = record {
    told = [];
    last = [];
    waits = w;
    went = goes_nowhere s;
    once = All-nil (λ (x : Step). is_restarted x ≡ false);
    behind = All-nil (λ (x : Step). is_reported x ≡ true);
    known = (refl, refl);
    tells = λ x before h. subst (λ (y : List Step). tell x y w l) (sym (append-nil before)) h;
    gives = ungiven give c [] refl;
  }

  -- reports were heard of which the lines were not told
  pub serves_unsaid : {w : Option Line} {allowed : List Step → Option Line → Type 0} {s u : Session S} (l later : L) {c : C} (went : GoesBy look AreReported s u) → TellsOn tell l later → allowed went.0 w
      → Serves look tell give w allowed s u l later c c
  serves_unsaid {w} {allowed} {s} {u} l later {c} went on known = record {
    told = [];
    last = went.0;
    waits = w;
    went = went.2;
    once = All-nil (λ (x : Step). is_restarted x ≡ false);
    behind = went.1;
    known = known;
    tells = λ x before h. subst (λ (y : List Step). tell x y w later) (sym (append-nil before)) (on x before w h);
    gives = ungiven give c [] refl;
  }

  -- steps that were all told
  pub serves_all : (w v : Option Line) (allowed : List Step → Option Line → Type 0) (h : List Step) (s u : Session S) (l later : L) (c then : C) → Goes look h s u → All (λ x. is_restarted x ≡ false) h → allowed [] v
      → Tells tell w h v l later → Gives give (readings_in h) c then → Serves look tell give w allowed s u l later c then
  serves_all w v allowed h s u l later c then went once known tells gives = record {
    told = h;
    last = [];
    waits = v;
    went = subst (λ (x : List Step). Goes look x s u) (sym (append-nil h)) went;
    once = once;
    behind = All-nil (λ (x : Step). is_reported x ≡ true);
    known = known;
    tells = tells;
    gives = gives;
  }

  -- the event of a line
  pub serves_event : {e : Event} {came : Result Answer Fault} {allowed : List Step → Option Line → Type 0} {s u : Session S} (l later : L) {c : C} → IsAnswered tell e came l later → Goes look (Told e came ∷ []) s u → allowed [] None
      → Serves look tell give (Some (Says.Event e)) allowed s u l later c c
  serves_event {e} {came} {allowed} {s} {u} l later {c} answered went known =
      serves_all (Some (Says.Event e)) None allowed (Told e came ∷ []) s u l later c c went
      (All-cons (λ (x : Step). is_restarted x ≡ false) (Told e came) [] refl (All-nil (λ (x : Step). is_restarted x ≡ false))) known (answered [] (Says.Event e) (refl, refl)) (ungiven give c (Told e came ∷ []) refl)

  -- a line that says to tick now: the clock gave a moment
  pub serves_tick : {b : Schedule} {moment : ℕ} {came : Result Answer Fault} {allowed : List Step → Option Line → Type 0} {s t u : Session S} (l later : L) (c then : C) → GoesBy look ArePolled s t → b ≡ now_of t
      → Gives give ((b, Ok moment) ∷ []) c then → IsAnswered tell (Tick moment) came l later → Goes look (Told (Tick moment) came ∷ []) t u → allowed [] None
      → Serves look tell give (Some Says.TickNow) allowed s u l later c then
  serves_tick {b} {moment} {came} {allowed} {s} {t} {u} l later c then polled same gave answered went known =
      let since : List Step = polled.0 ++ Asked b (Ok moment) ∷ [] in
      serves_all (Some Says.TickNow) None allowed (since ++ Told (Tick moment) came ∷ []) s u l later c then
      (goes_then (asked_goes b (Ok moment) s t polled same) went)
      (later_more since (Told (Tick moment) came) refl (later_more polled.0 (Asked b (Ok moment)) refl (polls_later polled.0 polled.1)))
      known
      (answered since Says.TickNow (moment, b, polled.0, refl, polled.1, refl))
      (subst (λ (rs : List (Schedule × Reading)). Gives give rs c then) (sym (tick_read polled.0 b (Ok moment) (Tick moment) came polled.1)) gave)

  -- it gave none
  pub serves_no_clock : {b : Schedule} (fault : ClockFault) {allowed : List Step → Option Line → Type 0} {s t : Session S} (l later : L) (c then : C) → GoesBy look ArePolled s t → b ≡ now_of t
      → Gives give ((b, Err fault) ∷ []) c then
      → ((x : L) (before polled : List Step) → ArePolled polled → tell x before (Some Says.TickNow) l → tell x (before ++ (polled ++ Asked b (Err fault) ∷ [])) None later) → allowed [] None
      → Serves look tell give (Some Says.TickNow) allowed s t l later c then
  serves_no_clock {b} fault {allowed} {s} {t} l later c then polled same gave told known =
      serves_all (Some Says.TickNow) None allowed (polled.0 ++ Asked b (Err fault) ∷ []) s t l later c then
      (asked_goes b (Err fault) s t polled same)
      (later_more polled.0 (Asked b (Err fault)) refl (polls_later polled.0 polled.1))
      known
      (λ x before h. told x before polled.0 polled.1 h)
      (subst (λ (rs : List (Schedule × Reading)). Gives give rs c then) (sym (asked_unread polled.0 b (Err fault) polled.1)) gave)

  -- a line that says to drain
  pub serves_drain : {b : Schedule} {allowed : List Step → Option Line → Type 0} {s t : Session S} (l middle later : L) {c : C} → GoesBy look AreReported s t → b ≡ now_of t
      → TellsOn tell l middle → ((x : L) (before heard : List Step) → AreReported heard → tell x before (Some Says.Drain) middle → tell x (before ++ (heard ++ Looked b ∷ [])) None later) → allowed [] None
      → Serves look tell give (Some Says.Drain) allowed s t l later c c
  serves_drain {b} {allowed} {s} {t} l middle later {c} heard same on told known =
      serves_all (Some Says.Drain) None allowed (heard.0 ++ Looked b ∷ []) s t l later c c
      (goes_then heard.2 (goes_quietly (Looked b) t refl refl refl refl same (works_idle t.executor)))
      (later_more heard.0 (Looked b) refl (reported_later heard.0 heard.1))
      known
      (λ x before h. told x before heard.0 heard.1 (on x before (Some Says.Drain) h))
      (ungiven give c (heard.0 ++ Looked b ∷ []) (heard_unread heard.0 b heard.1))

  -- the next line was read
  pub serves_next : {b : Schedule} {read v : Option Line} {s : Session S} (l later : L) {c : C} → read ≡ v → b ≡ now_of s
      → (times : ℕ) × Tells tell None (looks times b) read l later → Serves look tell give None (Rests v) s s l later c c
  serves_next {b} {read} {v} {s} l later {c} is same told =
      subst (λ (w : Option Line). Serves look tell give None (Rests w) s s l later c c) is
      (serves_all None read (Rests read) (looks told.0 b) s s l later c c (goes_looking told.0 b s same) (looks_later told.0 b) (refl, refl) told.1 (ungiven give c (looks told.0 b) (looks_unread told.0 b)))

  -- one after another
  pub serves_then : {w v : Option Line} {allowed : List Step → Option Line → Type 0} {s t u : Session S} {l m n : L} {c d e : C} → Serves look tell give w (Rests v) s t l m c d → Serves look tell give v allowed t u m n d e
      → Serves look tell give w allowed s u l n c e
  serves_then {w} {v} {allowed} {s} {t} {u} {l} {m} {n} {c} {d} {e} one two =
      let first : Goes look one.told s t = subst (λ (x : List Step). Goes look x s t) (ap (λ x. one.told ++ x) one.known.0 ∙ append-nil one.told) one.went in
      record {
        told = one.told ++ two.told;
        last = two.last;
        waits = two.waits;
        went = subst (λ (x : List Step). Goes look x s u) (sym (append_assoc one.told two.told two.last)) (goes_then first two.went);
        once = All-append (λ (x : Step). is_restarted x ≡ false) one.told two.told one.once two.once;
        behind = two.behind;
        known = two.known;
        tells = λ x before h.
            subst (λ (y : List Step). tell x y two.waits n) (append_assoc before one.told two.told)
            (two.tells x (before ++ one.told) (subst (λ (y : Option Line). tell x (before ++ one.told) y m) one.known.1 (one.tells x before h)));
        gives = λ k given h.
            subst (λ (y : List (Schedule × Reading)). give k (given ++ y) e) (sym (readings_append one.told two.told))
            (subst (λ (y : List (Schedule × Reading)). give k y e) (append_assoc given (readings_in one.told) (readings_in two.told)) (two.gives k (given ++ readings_in one.told) (one.gives k given h)));
      }

  -- the same where less is asked of what rests
  pub serves_weaker : {w : Option Line} {P Q : List Step → Option Line → Type 0} {s u : Session S} {l later : L} {c then : C} → ((last : List Step) (v : Option Line) → P last v → Q last v) → Serves look tell give w P s u l later c then
      → Serves look tell give w Q s u l later c then
  serves_weaker {w} {P} {Q} {s} {u} {l} {later} {c} {then} weaker one = record {
    told = one.told;
    last = one.last;
    waits = one.waits;
    went = one.went;
    once = one.once;
    behind = one.behind;
    known = weaker one.last one.waits one.known;
    tells = one.tells;
    gives = one.gives;
  }

-- what holds anyway holds where it ends well
pub where_ok : {A F P : Type 0} (r : Result A F) → P → OnOk r P
where_ok (Ok v) p = p
where_ok (Err f) p = tt

pub with_restart : {A F P : Type 0} (Q : Type 0) (r : Result A F) → P → OnOk r Q → OnOk r (P × Q)
with_restart Q (Ok v) p q = (p, q)
with_restart Q (Err f) p q = tt
