-- What steps do to a session.
use Rattle.std.proofs.Common.{◌≡◌, ◌∙◌, ℕ, ◌+◌, zero, suc, Bool, true, false, ◌||◌, List, [], ◌∷◌, ◌++◌, length, None, Result, Ok, Err, is_ok, true≢false, IfOk, IfErr, OnOk, All, replicate, refl, sym, ap, subst, arith, append_assoc, append-nil}
use Rattle.std.specs.Prelude.{◌<◌}
use Rattle.std.proofs.lemmas.List.{map-append}
use Rattle.std.proofs.lemmas.List.Sums.{sum_by-append}
use Rattle.std.proofs.lemmas.List.Elements.{All-append, All-cons, All-nil}
use Rattle.std.proofs.lemmas.List.Folds.{list_any-append}
use Rattle.std.proofs.lemmas.Grind.{flat_map-append}
use Rattle.sqlite.specs.Held.{Held}
use Rattle.sqlite.specs.State.{State}
use Rattle.ruled_dispatch.specs.declared.items.JobOrStop.TheVariants as item
use Rattle.ruled_dispatch.specs.declared.items.WorkerReport.{WorkerReport}
use Rattle.sched_state.specs.declared.jobs.Job.{Job}
use Rattle.sched_events.specs.Outcomes.{IsStepped}
use Rattle.sched_events.specs.Steps.{steps, answer_to, handed_along}
use Rattle.sched_events.specs.declared.answers.Answer.{Answer}
use Rattle.sched_events.specs.declared.events.Event.{Event}
use Rattle.sched_events.specs.declared.events.Event.TheVariants.{Restart}
use Rattle.sched_events.proofs.StepLemmas.{steps_parts}
use Rattle.sched_model.specs.Schedule.{Schedule}
use Rattle.director.specs.Directors.{DirectorValue, Follows}
use Rattle.director.specs.Faults.{IsFaultOf, IsFaultOfStore}
use Rattle.director.specs.Lists.{IsOutcome}
use Rattle.director.specs.declared.faults.Fault.{Fault}
use Rattle.director.specs.declared.faults.Fault.TheVariants.{Refused, Store, Memory}
use Rattle.director.specs.Leaves.{accepted_in, Leaves, tried_behind, tried_in}
use Rattle.director.specs.Written.{came_of, WrittenEvent}
use Rattle.director.proofs.LeaveLemmas.{leaves_none, leaves_step, leaves_then}
use Rattle.director.proofs.ListLemmas.{follows_itself, follows_then, survives_itself}
use Rattle.minutes.specs.Minutes.{is_of_line}
use Rattle.sessions.specs.History.{accepted, any_missed, events_in, heard_by, heard_in, is_missed, looks, nones_by, nones_in, tried_at_end, tried_by, tried_part, tries_by, tries_in, waits_by, waits_in, is_lost, is_polled, is_reported, report_of, ArePolled, AreReported, AreRight, AreTries, CameTo, IsRight, Looked, Reported, Restarted, Step, Told}
use Rattle.sessions.specs.Lines.{IsCome}
use Rattle.sessions.specs.Runs.{as_sent, jobs_of, more, now_of, Goes, GoesBy, IsDone, IsPut, IsTried, Works}
use Rattle.sessions.specs.Told.{IsPoll, IsReport}
use Rattle.sessions.specs.Executors.{ExecutorValue}
use Rattle.sessions.specs.declared.state.Session.{Session}
use Rattle.sessions.specs.declared.steppers.Stepper.{Stepper}
use Rattle.sessions.proofs.HistoryLemmas.{accepted_append, handed_append, more_then, or_assoc, or_false, polled_reported, right_append, same_more, tried_append, works_idle, works_same, works_then}
use Rattle.sessions.proofs.Places.{replicate_snoc}

-- the session with another executor
abbrev pub with_executor : {S : Type 0} → ExecutorValue → Session S → Session S
with_executor x s = record { stepper = s.stepper; executor = x; missed = s.missed }

-- the session with another stepper
abbrev pub with_stepper : {S : Type 0} → Stepper S → Session S → Session S
with_stepper x s = record { stepper = x; executor = s.executor; missed = s.missed }

-- what came of an event is what its outcome says
pub outcome_came : (a b : Schedule) (e : Event) (came : Result Answer Fault) → IsOutcome a e came b → CameTo a e came
outcome_came a b e (Ok answer) stepped = (stepped.ranged, stepped.accepted, stepped.answer)
outcome_came a b e (Err fault) refused = refused.0

outcome_steps : (a b : Schedule) (e : Event) (came : Result Answer Fault) → IsOutcome a e came b → b ≡ steps (accepted_in e came) a
outcome_steps a b e (Ok answer) stepped = stepped.after
outcome_steps a b e (Err fault) refused = refused.1

outcome_jobs : (a b : Schedule) (e : Event) (came : Result Answer Fault) → IsOutcome a e came b → as_sent (jobs_of came) ≡ as_sent (handed_along (accepted_in e came) a)
outcome_jobs a b e (Ok answer) stepped = ap (λ (w : Answer). as_sent w.jobs) stepped.answer ∙ ap as_sent (sym (append-nil (answer_to e a).jobs))
outcome_jobs a b e (Err fault) refused = refl

or_true : (a : Bool) → (a || true) ≡ true
or_true true = refl
or_true false = refl

module _ {S : Type 0} where
  -- an event was put, or there is none to put
  pub put_ok : {e : Event} {came : Result WrittenEvent Fault} {w : WrittenEvent} (s u : Session S) → came ≡ Ok w → u.stepper.minutes.items ≡ s.stepper.minutes.items ++ e ∷ [] → u.stepper.minutes.keep ≡ s.stepper.minutes.keep → u.stepper.director ≡ s.stepper.director
      → u.stepper.tries ≡ s.stepper.tries → Works (as_sent w.answer.jobs) [] 0 0 s.executor u.executor → u.missed ≡ s.missed → IsPut e (came_of came) s u
  put_ok {e} {came} {w} s u is minutes keep director tries works missed =
      subst (λ (r : Result WrittenEvent Fault). IsPut e (came_of r) s u) (sym is) (record { minutes = minutes; keep = keep; director = director; tries = tries; works = works; missed = missed })

  pub put_err : {e : Event} {came : Result WrittenEvent Fault} {fault : Fault} (s : Session S) → came ≡ Err fault → IsPut e (came_of came) s s
  put_err {e} {came} {fault} s is =
      subst (λ (r : Result WrittenEvent Fault). IsPut e (came_of r) s s) (sym is) (record { minutes = sym (append-nil s.stepper.minutes.items); keep = refl; director = refl; tries = refl; works = works_idle s.executor; missed = refl })

-- what two stretches leave
leaves_both : {S : Type 0} (look : Held S → State) (h k : List Step) (s t u : Session S) → now_of t ≡ steps (accepted h) (now_of s) → Follows (now_of s) (look s.stepper.director.store) (now_of t) (look t.stepper.director.store)
    → Leaves (accepted h) (tried_at_end h) (now_of s) (look s.stepper.director.store) (look t.stepper.director.store)
    → Leaves (accepted k) (tried_at_end k) (now_of t) (look t.stepper.director.store) (look u.stepper.director.store)
    → Leaves (accepted (h ++ k)) (tried_at_end (h ++ k)) (now_of s) (look s.stepper.director.store) (look u.stepper.director.store)
leaves_both look h k s t u stepped followed one two =
    subst (λ (xs : List Event). Leaves xs (tried_at_end (h ++ k)) (now_of s) (look s.stepper.director.store) (look u.stepper.director.store)) (sym (accepted_append h k))
    (subst (λ (xs : List Event). Leaves (accepted h ++ accepted k) xs (now_of s) (look s.stepper.director.store) (look u.stepper.director.store)) (sym (tried_append h k))
    (leaves_then (accepted h) (accepted k) (tried_at_end h) (tried_at_end k) (now_of s) (now_of t) (look s.stepper.director.store) (look t.stepper.director.store) (look u.stepper.director.store) stepped followed one two))

module _ {S : Type 0} {look : Held S → State} where
  -- ---- steps that follow each other
  pub goes_then : {h k : List Step} {s t u : Session S} → Goes look h s t → Goes look k t u → Goes look (h ++ k) s u
  goes_then {h} {k} {s} {t} {u} one two =
      let a : Schedule = now_of s in
      record {
        right = right_append h k a one.right (subst (AreRight k) one.stepped two.right);
        stepped = two.stepped ∙ ap (steps (accepted k)) one.stepped ∙ sym (steps_parts (accepted h) (accepted k) a) ∙ ap (λ l. steps l a) (sym (accepted_append h k));
        minutes = two.minutes ∙ ap (λ l. l ++ accepted k) one.minutes ∙ append_assoc s.stepper.minutes.items (accepted h) (accepted k) ∙ ap (λ l. s.stepper.minutes.items ++ l) (sym (accepted_append h k));
        tries = two.tries ∙ ap (more (tries_in k)) one.tries ∙ more_then (tries_in h) (tries_in k) s.stepper.tries ∙ same_more (tries_in h + tries_in k) (tries_in (h ++ k)) s.stepper.tries (sym (sum_by-append tries_by h k));
        works =
            works_same (as_sent (handed_along (accepted h) a) ++ as_sent (handed_along (accepted k) (now_of t))) (as_sent (handed_along (accepted (h ++ k)) a))
            (heard_in h ++ heard_in k) (heard_in (h ++ k)) (nones_in h + nones_in k) (nones_in (h ++ k)) (waits_in h + waits_in k) (waits_in (h ++ k)) s.executor u.executor
            (ap (λ b. as_sent (handed_along (accepted h) a) ++ as_sent (handed_along (accepted k) b)) one.stepped
            ∙ sym (map-append (λ (j : Job). item.Job j) (handed_along (accepted h) a) (handed_along (accepted k) (steps (accepted h) a)))
            ∙ ap as_sent (sym (handed_append (accepted h) (accepted k) a) ∙ ap (λ l. handed_along l a) (sym (accepted_append h k))))
            (sym (flat_map-append heard_by h k)) (sym (sum_by-append nones_by h k)) (sym (sum_by-append waits_by h k))
            (works_then (as_sent (handed_along (accepted h) a)) (as_sent (handed_along (accepted k) (now_of t))) (heard_in h) (heard_in k) (nones_in h) (nones_in k) (waits_in h) (waits_in k) s.executor t.executor u.executor one.works two.works);
        missed = two.missed ∙ ap (λ b. b || any_missed k) one.missed ∙ or_assoc s.missed (any_missed h) (any_missed k) ∙ ap (λ b. s.missed || b) (sym (list_any-append is_missed h k));
        keep = two.keep ∙ one.keep;
        opened = two.opened ∙ one.opened;
        followed = follows_then _ _ _ _ _ _ one.followed two.followed;
        left = leaves_both look h k s t u one.stepped one.followed one.left two.left;
      }

  -- nothing takes place
  pub goes_nowhere : (s : Session S) → Goes look [] s s
  goes_nowhere s = record {
    right = tt;
    stepped = refl;
    minutes = sym (append-nil s.stepper.minutes.items);
    tries = refl;
    works = works_idle s.executor;
    missed = or_false s.missed;
    keep = refl;
    opened = refl;
    followed = follows_itself (now_of s) (look s.stepper.director.store);
    left = leaves_none (now_of s) (look s.stepper.director.store);
  }

  -- a step in which no event is tried
  pub goes_quietly : (x : Step) (s : Session S) {y : ExecutorValue} → events_in x ≡ [] → tries_by x ≡ 0 → tried_by x ≡ [] → is_missed x ≡ false → IsRight x (now_of s)
      → Works [] (heard_by x) (nones_by x) (waits_by x) s.executor y → Goes look (x ∷ []) s (with_executor y s)
  goes_quietly x s {y} none untried unleft unmissed right works =
      let nothing : accepted (x ∷ []) ≡ [] = append-nil (events_in x) ∙ none in
      record {
        right = (right, tt);
        stepped = ap (λ l. steps l (now_of s)) (sym nothing);
        minutes = sym (append-nil s.stepper.minutes.items) ∙ ap (λ l. s.stepper.minutes.items ++ l) (sym nothing);
        tries = same_more 0 (tries_in (x ∷ [])) s.stepper.tries (omega (arith, untried));
        works =
            works_same [] (as_sent (handed_along (accepted (x ∷ [])) (now_of s))) (heard_by x) (heard_in (x ∷ [])) (nones_by x) (nones_in (x ∷ [])) (waits_by x) (waits_in (x ∷ [])) s.executor y
            (ap (λ l. as_sent (handed_along l (now_of s))) (sym nothing)) (sym (append-nil (heard_by x))) (omega arith) (omega arith) works;
        missed = or_false s.missed ∙ ap (λ b. s.missed || b) (sym unmissed ∙ or_false (is_missed x));
        keep = refl;
        opened = refl;
        followed = follows_itself (now_of s) (look s.stepper.director.store);
        left =
            subst (λ (xs : List Event). Leaves xs (tried_at_end (x ∷ [])) (now_of s) (look s.stepper.director.store) (look s.stepper.director.store)) (sym nothing)
            (subst (λ (xs : List Event). Leaves [] xs (now_of s) (look s.stepper.director.store) (look s.stepper.director.store)) (sym (append-nil (tried_by x) ∙ unleft))
            (leaves_none (now_of s) (look s.stepper.director.store)));
      }

  -- the schedule is looked at
  pub goes_looking : (times : ℕ) (b : Schedule) (s : Session S) → b ≡ now_of s → Goes look (looks times b) s s
  goes_looking zero b s same = goes_nowhere s
  goes_looking (suc n) b s same = goes_then (goes_quietly (Looked b) s refl refl refl refl same (works_idle s.executor)) (goes_looking n b s same)

  -- ---- an event
  -- it was tried, and put
  pub tried_put : {e : Event} {n : ℕ} {came : Result Answer Fault} (s : Session S) {u : Session S} {t : Stepper S} → IsTried look e n s.stepper came t → IsPut e came (with_stepper t s) u → IsDone look e n came false s u
  tried_put {e} {n} {came} s {u} {t} tried put = record {
    came = outcome_came (now_of s) t.director.schedule.content e came tried.outcome;
    stepped = ap (λ (d : DirectorValue S). d.schedule.content) put.director ∙ outcome_steps (now_of s) t.director.schedule.content e came tried.outcome;
    minutes = put.minutes ∙ ap (λ l. l ++ accepted_in e came) tried.minutes;
    tries = put.tries ∙ tried.tries;
    works =
        works_same (as_sent (jobs_of came)) (as_sent (handed_along (accepted_in e came) (now_of s))) [] [] 0 0 0 0 s.executor u.executor
        (outcome_jobs (now_of s) t.director.schedule.content e came tried.outcome) refl refl refl put.works;
    missed = put.missed ∙ or_false s.missed;
    keep = put.keep ∙ tried.keep;
    opened = ap (λ (d : DirectorValue S). d.opened) put.director ∙ tried.opened;
    followed = subst (λ (d : DirectorValue S). Follows (now_of s) (look s.stepper.director.store) d.schedule.content (look d.store)) (sym put.director) tried.followed;
    left = subst (λ (d : DirectorValue S). Leaves (accepted_in e came) (tried_part e n came) (now_of s) (look s.stepper.director.store) (look d.store)) (sym put.director) tried.left;
  }

  -- it is this step, in which a report was heard before, or none
  pub done_goes : (x : Step) (e : Event) (n : ℕ) (came : Result Answer Fault) (s u : Session S) (y : ExecutorValue) → events_in x ≡ accepted_in e came → tries_by x ≡ suc n → tried_by x ≡ tried_part e n came → (CameTo (now_of s) e came → IsRight x (now_of s))
      → Works [] (heard_by x) (nones_by x) (waits_by x) s.executor y → IsDone look e n came (is_missed x) (with_executor y s) u → Goes look (x ∷ []) s u
  done_goes x e n came s u y same times tried right heard done =
      let one : accepted (x ∷ []) ≡ accepted_in e came = append-nil (events_in x) ∙ same in
      record {
        right = (right done.came, tt);
        stepped = done.stepped ∙ ap (λ l. steps l (now_of s)) (sym one);
        minutes = done.minutes ∙ ap (λ l. s.stepper.minutes.items ++ l) (sym one);
        tries = done.tries ∙ same_more (suc n) (tries_in (x ∷ [])) s.stepper.tries (omega (arith, times));
        works =
            works_same ([] ++ as_sent (handed_along (accepted_in e came) (now_of s))) (as_sent (handed_along (accepted (x ∷ [])) (now_of s))) (heard_by x ++ []) (heard_in (x ∷ []))
            (nones_by x + 0) (nones_in (x ∷ [])) (waits_by x + 0) (waits_in (x ∷ [])) s.executor u.executor
            (ap (λ l. as_sent (handed_along l (now_of s))) (sym one)) refl (omega arith) (omega arith)
            (works_then [] (as_sent (handed_along (accepted_in e came) (now_of s))) (heard_by x) [] (nones_by x) 0 (waits_by x) 0 s.executor y u.executor heard done.works);
        missed = done.missed ∙ ap (λ b. s.missed || b) (or_false (is_missed x));
        keep = done.keep;
        opened = done.opened;
        followed = done.followed;
        left =
            subst (λ (xs : List Event). Leaves xs (tried_at_end (x ∷ [])) (now_of s) (look s.stepper.director.store) (look u.stepper.director.store)) (sym one)
            (subst (λ (xs : List Event). Leaves (accepted_in e came) xs (now_of s) (look s.stepper.director.store) (look u.stepper.director.store)) (sym (append-nil (tried_by x) ∙ tried))
            done.left);
      }

  -- one of a line
  pub goes_told : {e : Event} {came : Result Answer Fault} (s : Session S) {u : Session S} {t : Stepper S} → is_of_line e ≡ true → IsTried look e 0 s.stepper came t
      → IsPut e came (with_stepper t s) u → Goes look (Told e came ∷ []) s u
  goes_told {e} {came} s {u} {t} line tried put = done_goes (Told e came) e 0 came s u s.executor refl refl refl (λ h. (line, h)) (works_idle s.executor) (tried_put s tried put)

  -- the restart
  pub goes_restarted : {n : ℕ} {faults : List Fault} {came : Result Answer Fault} (s : Session S) {u : Session S} {t : Stepper S} → AreTries faults came
      → IsTried look (Restart n) (length faults) s.stepper came t → IsPut (Restart n) came (with_stepper t s) u → Goes look (Restarted n faults came ∷ []) s u
  goes_restarted {n} {faults} {came} s {u} {t} tries tried put =
      done_goes (Restarted n faults came) (Restart n) (length faults) came s u s.executor refl refl refl (λ h. (h, tries)) (works_idle s.executor) (tried_put s tried put)

  -- a report that was heard before
  pub goes_reported : (waited : Bool) {told : WorkerReport} {faults : List Fault} {came : Result Answer Fault} (s : Session S) {u : Session S} {y : ExecutorValue} → AreTries faults came
      → Works [] (told ∷ []) 0 (waits_by (Reported waited told faults came)) s.executor y
      → IsDone look (report_of told) (length faults) came (is_lost came) (with_executor y s) u → Goes look (Reported waited told faults came ∷ []) s u
  goes_reported waited {told} {faults} {came} s {u} {y} tries heard done =
      done_goes (Reported waited told faults came) (report_of told) (length faults) came s u y refl refl refl (λ h. (h, tries)) heard done

  -- reports that were polled: one more, none more, or one at which the run ends
  pub polls_more : (b : Bool) {s t u : Session S} → b ≡ true → GoesBy look (All (λ x. is_polled x ≡ true)) s t → GoesBy look (IsPoll b) t u → GoesBy look (All (λ x. is_polled x ≡ true)) s u
  polls_more true is was one = (
    was.0 ++ one.0,
    All-append (λ (x : Step). is_polled x ≡ true) was.0 one.0 was.1
        (subst (All (λ x. is_polled x ≡ true)) (sym one.1.3) (All-cons (λ (x : Step). is_polled x ≡ true) (Reported false one.1.0 one.1.1 one.1.2) [] refl (All-nil (λ (x : Step). is_polled x ≡ true)))),
    goes_then was.2 one.2,
  )
  polls_more false is was one = absurd (true≢false (sym is))

  pub polls_end : (b : Bool) {s t u : Session S} → b ≡ false → GoesBy look (All (λ x. is_polled x ≡ true)) s t → GoesBy look (IsPoll b) t u → GoesBy look ArePolled s u
  polls_end false is was one = (was.0 ++ one.0, (was.0, was.1, ap (λ l. was.0 ++ l) one.1), goes_then was.2 one.2)
  polls_end true is was one = absurd (true≢false is)

  pub reports_more : (waited : Bool) {s t u : Session S} → GoesBy look AreReported s t → GoesBy look (IsReport waited) t u → GoesBy look AreReported s u
  reports_more waited {s} {t} {u} was one = (
    was.0 ++ one.0,
    All-append (λ (x : Step). is_reported x ≡ true) was.0 one.0 was.1
        (subst AreReported (sym one.1.3) (All-cons (λ (x : Step). is_reported x ≡ true) (Reported waited one.1.0 one.1.1 one.1.2) [] refl (All-nil (λ (x : Step). is_reported x ≡ true)))),
    goes_then was.2 one.2,
  )

  pub polls_fault : {s t u : Session S} → GoesBy look (All (λ x. is_polled x ≡ true)) s t → GoesBy look (IsReport false) t u → GoesBy look AreReported s u
  polls_fault {s} {t} {u} was one = reports_more false (was.0, polled_reported was.0 was.1, was.2) one

  pub none_yet : (P : Step → Type 0) (s : Session S) → GoesBy look (All P) s s
  none_yet P s = ([], All-nil P, goes_nowhere s)

  -- a report that was done counts as missed where it came to nothing
  pub done_kept : {e : Event} {n : ℕ} (came : Result Answer Fault) {s u : Session S} → is_ok came ≡ true → IsDone look e n came false s u → IsDone look e n came (is_lost came) s u
  done_kept (Ok answer) ok done = done
  done_kept (Err fault) ok done = absurd (true≢false (sym ok))

  pub done_lost : {e : Event} {n : ℕ} {came : Result Answer Fault} {fault : Fault} {s u : Session S} → came ≡ Err fault → IsDone look e n came false s u
      → IsDone look e n came (is_lost came) s (record { stepper = u.stepper; executor = u.executor; missed = true })
  done_lost {e} {n} {came} {fault} {s} {u} is done = record {
    came = done.came;
    stepped = done.stepped;
    minutes = done.minutes;
    tries = done.tries;
    works = done.works;
    missed = sym (or_true s.missed) ∙ ap (λ (r : Result Answer Fault). s.missed || is_lost r) (sym is);
    keep = done.keep;
    opened = done.opened;
    followed = done.followed;
    left = done.left;
  }

-- ---- tries of one event, one after another
-- one try behind those in vain
once_behind : (e : Event) (n : ℕ) (q : Result Answer Fault) → tried_behind (accepted_in e q) (replicate n e) (tried_part e 0 q) ≡ tried_part e n q
once_behind e n (Ok answer) = refl
once_behind e n (Err fault) = refl

tried_alone : (e : Event) (q : Result Answer Fault) → tried_in e q ≡ tried_part e 0 q
tried_alone e (Ok answer) = refl
tried_alone e (Err fault) = refl

where_came : {P : Type 0} (r : Result WrittenEvent Fault) → P → OnOk (came_of r) P
where_came (Ok w) p = p
where_came (Err fault) p = tt

-- one that the store or want of memory stood against
tried_stores : (e : Event) (fault : Fault) → IsFaultOfStore fault → tried_part e 0 (Err fault) ≡ e ∷ []
tried_stores e (Refused r) stores = absurd stores
tried_stores e (Store f) stores = refl
tried_stores e Memory stores = refl

-- what came of an event is that of the token, or of none
pub is_come : (a b : Schedule) (e : Event) (r : Result WrittenEvent Fault) → IfOk r (λ (w : WrittenEvent). (w.event ≡ e) × (w.before ≡ a)) → IsOutcome a e (came_of r) b → IsCome e r b
is_come a b e (Ok w) of out = (of.0, subst (λ (x : Schedule). IsStepped x e b w.answer) (sym of.1) out)
is_come a b e (Err fault) of out = subst (λ (x : Schedule). IsFaultOf x e fault) (sym out.1) out.0

module _ {S : Type 0} (look : Held S → State) where
  -- ---- one try
  -- it was put to the director, with room for it in the minutes
  pub tried_once : (e : Event) (r : Result WrittenEvent Fault) (s u : Stepper S) → 0 < u.minutes.room → u.minutes.items ≡ s.minutes.items → u.minutes.keep ≡ s.minutes.keep → u.tries ≡ more 1 s.tries → u.director.opened ≡ s.director.opened
      → IsOutcome s.director.schedule.content e (came_of r) u.director.schedule.content
      → Follows s.director.schedule.content (look s.director.store) u.director.schedule.content (look u.director.store)
      → Leaves (accepted_in e (came_of r)) (tried_in e (came_of r)) s.director.schedule.content (look s.director.store) (look u.director.store)
      → IsTried look e 0 s (came_of r) u
  tried_once e r s u room minutes keep tries opened outcome followed left = record {
    outcome = outcome;
    room = where_came r room;
    minutes = minutes;
    keep = keep;
    tries = tries;
    opened = opened;
    followed = followed;
    left = subst (λ (xs : List Event). Leaves (accepted_in e (came_of r)) xs s.director.schedule.content (look s.director.store) (look u.director.store)) (tried_alone e (came_of r)) left;
  }

  -- there was no room, so it was not put to the director
  pub untried : {e : Event} (s u : Stepper S) → u.minutes.items ≡ s.minutes.items → u.minutes.keep ≡ s.minutes.keep → u.tries ≡ more 1 s.tries → u.director ≡ s.director → IsTried look e 0 s (Err Memory) u
  untried {e} s u minutes keep tries same = record {
    outcome = (tt, ap (λ (d : DirectorValue S). d.schedule.content) same);
    room = tt;
    minutes = minutes;
    tries = tries;
    keep = keep;
    opened = ap (λ (d : DirectorValue S). d.opened) same;
    followed = subst (λ (d : DirectorValue S). Follows s.director.schedule.content (look s.director.store) d.schedule.content (look d.store)) (sym same) (follows_itself s.director.schedule.content (look s.director.store));
    left =
        subst (λ (d : DirectorValue S). Leaves [] (e ∷ []) s.director.schedule.content (look s.director.store) (look d.store)) (sym same)
        (leaves_step {T = Answer} look s.director.schedule.content e (Err Memory) s.director.store s.director.store (record { kept = λ _ _. (refl, refl); was_open = λ _ h. h; crash = survives_itself (look s.director.store) }) (λ never. absurd never));
  }

  -- ---- tries of an event that came to nothing
  pub record AreVain (e : Event) (n : ℕ) (s t : Stepper S) : Type 0 where
    pub same : t.director.schedule.content ≡ s.director.schedule.content
    pub minutes : t.minutes.items ≡ s.minutes.items
    pub keep : t.minutes.keep ≡ s.minutes.keep
    pub tries : t.tries ≡ more n s.tries
    pub opened : t.director.opened ≡ s.director.opened
    pub followed : Follows s.director.schedule.content (look s.director.store) t.director.schedule.content (look t.director.store)
    pub left : Leaves [] (replicate n e) s.director.schedule.content (look s.director.store) (look t.director.store)

  pub not_yet : (e : Event) (s : Stepper S) → AreVain e 0 s s
  not_yet e s = record {
    same = refl;
    minutes = refl;
    tries = refl;
    keep = refl;
    opened = refl;
    followed = follows_itself s.director.schedule.content (look s.director.store);
    left = leaves_none s.director.schedule.content (look s.director.store);
  }

  -- what is left behind them and one try more
  left_behind : {e : Event} {n : ℕ} {s t u : Stepper S} {q : Result Answer Fault} → AreVain e n s t → IsTried look e 0 t q u
      → Leaves (accepted_in e q) (tried_behind (accepted_in e q) (replicate n e) (tried_part e 0 q)) s.director.schedule.content (look s.director.store) (look u.director.store)
  left_behind {e} {n} {s} {t} {u} {q} was tried =
      leaves_then [] (accepted_in e q) (replicate n e) (tried_part e 0 q) s.director.schedule.content t.director.schedule.content (look s.director.store) (look t.director.store) (look u.director.store) was.same was.followed
      was.left tried.left

  pub tried_again : {e : Event} {n : ℕ} {s t u : Stepper S} {r q : Result Answer Fault} → AreVain e n s t → IsTried look e 0 t r u → r ≡ q → IsTried look e n s q u
  tried_again {e} {n} {s} {t} {u} {r} {q} was tried is =
      let h : IsTried look e 0 t q u = subst (λ (x : Result Answer Fault). IsTried look e 0 t x u) is tried in
      record {
        outcome = subst (λ (b : Schedule). IsOutcome b e q u.director.schedule.content) was.same h.outcome;
        room = h.room;
        minutes = h.minutes ∙ was.minutes;
        tries = h.tries ∙ ap (more 1) was.tries ∙ more_then n 1 s.tries ∙ same_more (n + 1) (suc n) s.tries (omega arith);
        keep = h.keep ∙ was.keep;
        opened = h.opened ∙ was.opened;
        followed = follows_then _ _ _ _ _ _ was.followed h.followed;
        left = subst (λ (xs : List Event). Leaves (accepted_in e q) xs s.director.schedule.content (look s.director.store) (look u.director.store)) (once_behind e n q) (left_behind was h);
      }

  pub vain_then : {e : Event} {n m : ℕ} {s t u : Stepper S} {r : Result Answer Fault} {fault : Fault} → AreVain e n s t → IsTried look e 0 t r u → r ≡ Err fault → IsFaultOfStore fault → m ≡ suc n → AreVain e m s u
  vain_then {e} {n} {m} {s} {t} {u} {r} {fault} was tried is stores count =
      let h : IsTried look e 0 t (Err fault) u = subst (λ (x : Result Answer Fault). IsTried look e 0 t x u) is tried in
      record {
        same = h.outcome.1 ∙ was.same;
        minutes = h.minutes ∙ was.minutes;
        tries = h.tries ∙ ap (more 1) was.tries ∙ more_then n 1 s.tries ∙ same_more (n + 1) m s.tries (omega (arith, count));
        keep = h.keep ∙ was.keep;
        opened = h.opened ∙ was.opened;
        followed = follows_then _ _ _ _ _ _ was.followed h.followed;
        left =
            subst (λ (xs : List Event). Leaves [] xs s.director.schedule.content (look s.director.store) (look u.director.store))
            (ap (λ (xs : List Event). replicate n e ++ xs) (tried_stores e fault stores) ∙ replicate_snoc n e ∙ ap (λ (k : ℕ). replicate k e) (sym count)) (left_behind {q = Err fault} was h);
      }

-- what stands against an event, where it is no refusal
pub is_stores : (a b : Schedule) (e : Event) (fault : Fault) → IsOutcome a e (Err fault) b → ((r : _) → fault ≡ Refused r → ⊥) → IsFaultOfStore fault
is_stores a b e (Refused r) out not = absurd (not r refl)
is_stores a b e (Store f) out not = out.0.1
is_stores a b e Memory out not = tt

pub if_err_all : (r : Result Answer Fault) (P : Fault → Type 0) → ((f : Fault) → P f) → IfErr r P
if_err_all (Ok x) P h = tt
if_err_all (Err f) P h = h f

pub err_is : (r : Result Answer Fault) (f g : Fault) → r ≡ Err f → f ≡ g → r ≡ Err g
err_is r f g is same = subst (λ (h : Fault). r ≡ Err h) same is

pub not_ok : (r : Result Answer Fault) (f : Fault) → r ≡ Err f → is_ok r ≡ false
not_ok r f is = ap (λ (x : Result Answer Fault). is_ok x) is

-- the answer of a token, or why there is none
pub came_ok : {r : Result WrittenEvent Fault} {w : WrittenEvent} → r ≡ Ok w → came_of r ≡ Ok w.answer
came_ok is = ap came_of is

pub came_err : {r : Result WrittenEvent Fault} {f : Fault} → r ≡ Err f → came_of r ≡ Err f
came_err is = ap came_of is
