-- What the run of a script promises, from what the conductor promises.
use Rattle.std.proofs.Common.{◌≡◌, ◌≢◌, ◌∙◌, ◌∷◌, ◌++◌, ℕ, Bool, true, false, true≢false, not, ◌&&◌, List, [], flat_map, Option, None, is_some, Result, Ok, Err, is_ok, IsTrue, MatchResult, IfErr, OnOk, append-nil, refl, sym, ap, subst, inl, inr, arith, ◌≤◌}
use Rattle.std.proofs.lemmas.Grind.{flat_map-append}
use Rattle.std.proofs.lemmas.List.Elements.{All-head, All-tail}
use Rattle.std.specs.Io.KnownBytes.{Appends}
use Rattle.sqlite.specs.Held.{Held}
use Rattle.sqlite.specs.Effect.{Database}
use Rattle.sqlite.specs.State.{State, HasCleanDisk}
use Rattle.sqlite.specs.Tree.{Trees}
use Rattle.operators.specs.declared.kits.Kit.{Kit}
use Rattle.sched_state.specs.Limits.{ceilings}
use Rattle.sched_model.specs.Schedule.{Schedule}
use Rattle.sched_model.specs.States.{in_flight}
use Rattle.sched_events.specs.SettledAndSound.{IsSoundAndSaid}
use Rattle.sched_events.specs.Steps.{steps}
use Rattle.sched_events.specs.declared.events.Event.{Event}
use Rattle.conduct.specs.sessions.director.Directors.{DirectorValue, Keeps, Opens, RestartsIn}
use Rattle.conduct.proofs.sessions.director.ListLemmas.{stays_open, was_clean}
use Rattle.minutes.specs.Minutes.{answered}
use Rattle.conduct.specs.sessions.director.Leaves.{IsOneOf, Leaves, LeavesBy}
use Rattle.workers.specs.Accounted.{AreAmongTold}
use Rattle.conduct.specs.sessions.History.{accepted, heard_in, is_reported, readings_in, told_by, told_in, tried_at_end, AreReported, AreRight, Asked, Looked, NoneThere, Reported, Restarted, Step, Told}
use Rattle.conduct.specs.sessions.Readings.{Reading}
use Rattle.conduct.proofs.sessions.LawLemmas.{right_answered}
use Rattle.conduct.specs.sessions.declared.faults.ConductFault.{ConductFault}
use Rattle.conduct.specs.sessions.declared.faults.ConductFault.TheVariants as fault
use Rattle.conduct.specs.sessions.declared.line_reading.Line.{Line}
use Rattle.conduct.specs.sessions.declared.line_reading.LineFault.{LineFault}
use Rattle.conduct.specs.Faults.{came_to_its_end, is_unstarted}
use Rattle.conduct.specs.Run.{IsConducted}
use Rattle.conduct.specs.Served.{IsHistory}
use Rattle.conduct.specs.declared.conducting.Conducted.{Conducted}
use Rattle.script_reader.specs.Done.{FileAnswer, Done, IsOpen, greatest_status}
use Rattle.script_reader.specs.Ends.{end_status, last_text}
use Rattle.script_reader.proofs.ShownLemmas.{appends_then}
use Rattle.script_reader.proofs.StatusLemmas.{all_whole}
use Rattle.slot_desk.specs.declared.desk.Total.{Total}
use Rattle.workers.specs.declared.crews.WorkerEnd.{WorkerEnd}
use Rattle.workers.specs.Shows.{Shows}
use Rattle.script_reader.specs.Readers.{Tells}
use Rattle.script_reader.specs.declared.reader.ScriptReader.{ScriptReader}
use Rattle.script_runner.specs.Named.{AreNamed}
use Rattle.script_runner.specs.Runs.{IsRun}

-- ---- the status
ends_well : {T : Type 0} (told : Bool) (answers status : ℕ) (outcome : Result T ConductFault) → status ≡ end_status told answers outcome → status ≡ 0 → (is_ok outcome ≡ true) × (answers ≡ 0)
ends_well false answers status outcome is z = absurd (omega (arith, is, z))
ends_well true answers status (Ok v) is z = (refl, sym is ∙ z)
ends_well true answers status (Err (fault.StoreThrice e)) is z = absurd (omega (arith, is, z))
ends_well true answers status (Err fault.NoWorker) is z = absurd (omega (arith, is, z))
ends_well true answers status (Err fault.SpawnRefused) is z = absurd (omega (arith, is, z))
ends_well true answers status (Err fault.ReadFault) is z = absurd (omega (arith, is, z))
ends_well true answers status (Err fault.Memory) is z = absurd (omega (arith, is, z))
ends_well true answers status (Err fault.Unequal) is z = absurd (omega (arith, is, z))

-- ---- what lines were told of a history
untold : (x : Step) → is_reported x ≡ true → told_by x ≡ []
untold (Reported waited t faults came) is = refl
untold NoneThere is = refl
untold (Looked b) is = refl
untold (Restarted lanes faults came) is = refl
untold (Asked b reading) is = refl
untold (Told e came) is = absurd (true≢false (sym is))

reported_untold : (h : List Step) → AreReported h → told_in h ≡ []
reported_untold [] are = refl
reported_untold (x ∷ xs) are =
    ap (λ l. l ++ told_in xs) (untold x (All-head (λ (y : Step). is_reported y ≡ true) x xs are)) ∙ reported_untold xs (All-tail (λ (y : Step). is_reported y ≡ true) x xs are)

-- as accepted they were told no more than the steps that they were told
told_of_parts : (lanes : ℕ) (h told last : List Step) → IsHistory lanes h told last → told_in h ≡ told_in told
told_of_parts lanes h told last parts =
    let behind : told_in (told ++ last) ≡ told_in told = flat_map-append told_by told last ∙ ap (λ l. told_in told ++ l) (reported_untold last parts.behind) ∙ append-nil (told_in told) in
    elim parts.first [
      | inl none ↦ ap told_in none.0 ∙ ap told_in (sym none.1)
      | inr begun ↦ ap told_in begun.2 ∙ behind
    ]

told_of_each : {D : Type 0} (f : D → List Step) (ds : List D) → told_in (flat_map f ds) ≡ flat_map (λ d. told_in (f d)) ds
told_of_each f [] = refl
told_of_each f (d ∷ ds) = flat_map-append told_by (f d) (flat_map f ds) ∙ ap (λ l. told_in (f d) ++ l) (told_of_each f ds)

-- ---- what the files may hold
from_made : (es tried : List Event) (a : Schedule) (s : State) (trees : Trees) → Keeps a s.now → LeavesBy es tried a s trees → (one : List Event) × IsOneOf one tried × (db : Database) × Keeps (steps (es ++ one) a) db × (trees ≡ db.trees)
from_made es tried a s trees keeps (one, among, (is_open, (db, holds, same))) = (one, among, db, holds keeps, same)

left_files : (es tried : List Event) (a : Schedule) (s t : State) → Leaves es tried a s t → HasCleanDisk t → Keeps a s.now → ((trees : Trees) → s.may_leave trees → trees ≡ s.now.trees) → (trees : Trees) → t.may_leave trees
    → (one : List Event) × IsOneOf one tried × (db : Database) × Keeps (steps (es ++ one) a) db × (trees ≡ db.trees)
left_files [] tried a s t left clean keeps only trees may = elim (left.survives.crash clean trees may) [
  | inl still ↦ ([], inl refl, s.now, keeps, only trees still)
  | inr made ↦ from_made [] tried a s trees keeps made
]
left_files (e ∷ es) tried a s t left clean keeps only trees may = from_made (e ∷ es) tried a s trees keeps (left.gone (λ none. absurd (let n : e ∷ es ≡ [] = none in cc)) clean trees may)

-- ---- the events of the minutes beside the script's lines
-- a reader of which nothing is read yet
pub record IsFresh {R W F P : Type 0} (first : ScriptReader R W F P) : Type 0 where
  pub over : first.is_over ≡ false
  pub status : first.answers.status ≡ 0
  pub written : first.answers.is_written ≡ true

module _ {R W F P : Type 0} (remaining : R → Option (List ℕ)) (contents : W → Option (List ℕ)) (gives : F → List FileAnswer → F → Type 0) where
  pub named : {T : Type 0} (first last : ScriptReader R W F P) (clock : List (Schedule × Reading) → Type 0) (output : W) (steps_told : List Step) (start : Schedule) (minutes : List Event) (waits : Option Line) (told : Bool) (status lanes : ℕ) (outcome : Result T ConductFault)
      → IsFresh first → Tells remaining contents gives first steps_told waits last
      → (told ≡ true → (last.answers.is_written ≡ true) × Appends (contents last.answers.output) (contents output) (last_text outcome))
      → (is_ok outcome ≡ true → (told ≡ last.answers.is_written) × (is_some last.failed ≡ false)) → status ≡ end_status told last.answers.status outcome
      → (history behind : List Step) → IsHistory lanes history steps_told behind → AreRight history start → minutes ≡ accepted history → clock (readings_in steps_told)
      → (came_to_its_end outcome ≡ true → (last.is_over ≡ true) × (waits ≡ None))
      → (n : AreNamed (remaining first.commands.input) (λ given. gives first.sources given last.sources) clock (λ shown. Appends (contents first.answers.output) (contents output) shown) lanes start minutes outcome told status) × (n.history ≡ history)
  named first last clock output steps_told start minutes waits told status lanes outcome fresh h closes well is history behind parts right made given whole =
      let greatest : last.answers.status ≡ greatest_status h.done = omega (arith, h.status_is, fresh.status) in
      let ends : came_to_its_end outcome ≡ true → (last.is_over && not first.is_over) ≡ true = λ came. ap (λ b. b && not first.is_over) (whole came).0 ∙ ap not fresh.over in (
        record {
          done = h.done;
          each = h.each;
          waits = waits;
          open_asked = h.open_asked;
          open_texts = h.open_texts;
          opens = h.opens;
          none_waits = λ came. (whole came).1;
          texts = h.texts;
          readings = subst (λ (xs : List Step). clock (readings_in xs)) h.stepped given;
          history = history;
          last = behind;
          parts = subst (λ (xs : List Step). IsHistory lanes history xs behind) h.stepped parts;
          right = right;
          made = made;
          answers_are =
              ap (λ (es : List Event). answered es start) made ∙ right_answered history start right ∙ told_of_parts lanes history steps_told behind parts ∙ ap told_in h.stepped ∙ told_of_each (λ (d : Done). d.steps) h.done;
          shown = λ all.
              let end = closes all in
              appends_then (contents first.answers.output) (contents last.answers.output) (contents output) (flat_map (λ (d : Done). d.shown) h.done) (last_text outcome) (h.output end.0) end.1;
          all_told = λ ok. let all = well ok in all.0 ∙ h.kept all.1 ∙ fresh.written;
          read = λ known e.
              let r = h.read known e in (
                r.0,
                r.1,
                λ came.
                    let none : IsOpen None h.open_asked h.open_texts = subst (λ (w : Option Line). IsOpen w h.open_asked h.open_texts) (whole came).1 h.opens in
                    (none.0, r.2 (ends came)),
              );
          ended = subst (λ n. status ≡ end_status told n outcome) greatest is;
          whole = λ z. all_whole h.done h.each (sym greatest ∙ (ends_well told last.answers.status status outcome is z).1);
        },
        refl,
      )

-- ---- the whole run
where_well : {A : Type 0} (P : Type 0) (r : Result A ConductFault) → (came_to_its_end r ≡ true → P) → OnOk r P
where_well P (Ok v) h = h refl
where_well P (Err f) h = tt

pub still : {A : Type 0} (none untouched still' : Type 0) (r : Result A ConductFault) → (untouched → still') → IfErr r (λ f. is_unstarted f ≡ true → none × untouched) → IfErr r (λ f. is_unstarted f ≡ true → none × still')
still none untouched still' (Ok v) to was = tt
still none untouched still' (Err f) to was = λ is. let both = was is in (both.0, to both.1)

none_made : {A : Type 0} (none made untouched : Type 0) (r : Result A ConductFault) → (none → made) → IfErr r (λ f. is_unstarted f ≡ true → none × untouched) → IfErr r (λ f. is_unstarted f ≡ true → made × untouched)
none_made none made untouched (Ok v) to was = tt
none_made none made untouched (Err f) to was = λ is. let both = was is in (to both.0, both.1)

module _ {S G O : Type 0} (look : Held S → State) (shows : Shows O) where
  pub is_run : (bytes : Option (List ℕ)) (gives : List FileAnswer → Type 0) (clock : List (Schedule × Reading) → Type 0) (output : List ℕ → Type 0) (lanes : ℕ) (kits : List (Kit O)) (before : State) (d : DirectorValue S) (conducted : Conducted S G O) (told : Bool) (status : ℕ)
      (are_told : List Step → Option Line → Type 0) (untouched quiet : Type 0) (failed : Option LineFault) (over : Bool)
      → (c : IsConducted look shows lanes kits d conducted are_told untouched failed over) → (untouched → quiet)
      → IsSoundAndSaid d.schedule.content
      → (HasCleanDisk (look d.store) → Opens ceilings 0 before.now d.schedule.content d.opened)
      → (HasCleanDisk (look d.store) → RestartsIn ceilings 0 before.now (look d.store).now)
      → (HasCleanDisk (look d.store) → HasCleanDisk before)
      → (before.faults ≤ (look d.store).faults) × (HasCleanDisk (look d.store) → IsTrue (look d.store).is_open)
      → (HasCleanDisk (look d.store) → (trees : Trees) → (look d.store).may_leave trees → trees ≡ (look d.store).now.trees)
      → (named : AreNamed bytes gives clock output lanes d.schedule.content conducted.minutes.items conducted.outcome told status) → named.history ≡ c.history
      → IsRun look shows bytes gives clock output quiet lanes kits before conducted.director.store conducted.minutes.items conducted.ends.items conducted.outcome told status
  is_run bytes gives clock output lanes kits before d conducted told status are_told untouched quiet failed over c to sound opened restarted clean_before is_open only named same =
      let a = d.schedule.content in
      let es = conducted.minutes.items in
      record {
        first = a;
        given = d.opened;
        opened = λ clean. opened (was_clean _ _ _ _ c.followed clean);
        sound = sound;
        accepted = c.accepted;
        begun = c.begun;
        started = λ came. (c.whole came).2;
        was_clean = λ clean. clean_before (was_clean _ _ _ _ c.followed clean);
        stays = stays_open _ _ before _ _ is_open.0 is_open.1 c.followed;
        stored = λ clean is_open rows has.
            let first = was_clean _ _ _ _ c.followed clean in
            let keeps : Keeps a (look d.store).now = subst (λ (x : Schedule). Keeps x (look d.store).now) (sym (opened first rows has).stepped.after) (restarted first rows has).0 in
            subst (λ (x : Schedule). Keeps x (look conducted.director.store).now) c.stepped (c.followed.stored clean is_open keeps);
        named = named;
        left = λ clean rows has.
            let first = was_clean _ _ _ _ c.followed clean in
            let keeps : Keeps a (look d.store).now = subst (λ (x : Schedule). Keeps x (look d.store).now) (sym (opened first rows has).stepped.after) (restarted first rows has).0 in
            left_files es (tried_at_end named.history) a (look d.store) (look conducted.director.store)
            (subst (λ (h : List Step). Leaves es (tried_at_end h) a (look d.store) (look conducted.director.store)) (sym same) c.left) clean keeps (only first);
        well = λ z. (ends_well told _ status conducted.outcome named.ended z).0;
        failed = failed;
        fault = c.fault;
        workers = c.workers;
        unstarted = still (es ≡ []) untouched quiet conducted.outcome to (none_made (c.history ≡ []) (es ≡ []) untouched conducted.outcome (λ none. c.minutes ∙ ap accepted none) c.unstarted);
        worked = c.worked;
        heard = subst (λ (h : List Step). AreAmongTold (heard_in h) conducted.ends.items) (sym same) c.heard;
        idle = where_well (in_flight (steps es a) ≡ 0) conducted.outcome (λ well. ap in_flight (sym c.stepped) ∙ (c.whole well).3);
        once = c.once;
        own = c.own;
        desk = c.desk;
      }

ok_sound : {A : Type 0} (Q : ConductFault → Type 0) (failed : Option LineFault) (r : Result A ConductFault) → MatchResult r (λ _. failed ≡ None) Q → is_ok r ≡ true → is_some failed ≡ false
ok_sound Q failed (Ok v) none well = ap is_some none
ok_sound Q failed (Err f) fault well = absurd (true≢false (sym well))

ok_so : {A : Type 0} (P : Type 0) (r : Result A ConductFault) → OnOk r P → is_ok r ≡ true → P
ok_so P (Ok v) p well = p
ok_so P (Err f) p well = absurd (true≢false (sym well))

module _ {S G O R W F P C : Type 0} (look : Held S → State) (shows : Shows O) (remaining : R → Option (List ℕ)) (contents : W → Option (List ℕ)) (gives : F → List FileAnswer → F → Type 0) (ticks : C → List (Schedule × Reading) → C → Type 0) where
  -- what comes back of what was conducted, with the last state of the reader
  pub record ComesBack (conducted : Conducted S G O) (last : ScriptReader R W F P) (store : Held S) (minutes : List Event) (ends : List (WorkerEnd G O)) (outcome : Result Total ConductFault) (told : Bool) (status : ℕ) (sources : F) (output : W) : Type 0 where
    pub store_is : store ≡ conducted.director.store
    pub minutes_are : minutes ≡ conducted.minutes.items
    pub ends_are : ends ≡ conducted.ends.items
    pub outcome_is : outcome ≡ conducted.outcome
    pub told_is : told ≡ true → (last.answers.is_written ≡ true) × Appends (contents last.answers.output) (contents output) (last_text conducted.outcome)
    pub well_is : OnOk conducted.outcome (told ≡ last.answers.is_written)
    pub status_is : status ≡ end_status told last.answers.status conducted.outcome
    pub sources_are : sources ≡ last.sources

  pub ran : (lanes : ℕ) (kits : List (Kit O)) (before : State) (d : DirectorValue S) (conducted : Conducted S G O) (first last : ScriptReader R W F P) (clock later : C)
      → IsConducted look shows lanes kits d conducted (λ told waits. Tells remaining contents gives first told waits last × ticks clock (readings_in told) later) ((last ≡ first) × (later ≡ clock)) last.failed last.is_over
      → IsSoundAndSaid d.schedule.content
      → (HasCleanDisk (look d.store) → Opens ceilings 0 before.now d.schedule.content d.opened)
      → (HasCleanDisk (look d.store) → RestartsIn ceilings 0 before.now (look d.store).now)
      → (HasCleanDisk (look d.store) → HasCleanDisk before)
      → (before.faults ≤ (look d.store).faults) × (HasCleanDisk (look d.store) → IsTrue (look d.store).is_open)
      → (HasCleanDisk (look d.store) → (trees : Trees) → (look d.store).may_leave trees → trees ≡ (look d.store).now.trees)
      → IsFresh first
      → (store : Held S) (minutes : List Event) (ends : List (WorkerEnd G O)) (outcome : Result Total ConductFault) (told : Bool) (status : ℕ) (sources : F) (output : W) → ComesBack conducted last store minutes ends outcome told status sources output
      → IsRun look shows (remaining first.commands.input) (λ given. gives first.sources given sources) (λ moments. ticks clock moments later) (λ shown. Appends (contents first.answers.output) (contents output) shown) ((sources ≡ first.sources) × (later ≡ clock)) lanes kits before store minutes ends outcome told status
  ran lanes kits before d conducted first last clock later c sound opened restarted clean_before is_open only fresh store minutes ends outcome told status sources output back =
      let es = conducted.minutes.items in
      let t = c.told in
      let bytes = remaining first.commands.input in
      let files : List FileAnswer → Type 0 = λ given. gives first.sources given last.sources in
      let times : List (Schedule × Reading) → Type 0 = λ moments. ticks clock moments later in
      let text : List ℕ → Type 0 = λ shown. Appends (contents first.answers.output) (contents output) shown in
      let quiet : Type 0 = (last.sources ≡ first.sources) × (later ≡ clock) in
      let named_here : (n : AreNamed bytes files times text lanes d.schedule.content es conducted.outcome told status) × (n.history ≡ c.history) =
      named remaining contents gives first last times output c.steps_told d.schedule.content es c.waits told status lanes conducted.outcome
      fresh t.0 back.told_is (λ well. (ok_so (told ≡ last.answers.is_written) conducted.outcome back.well_is well, ok_sound _ last.failed conducted.outcome c.fault well)) back.status_is
      c.history c.last c.parts c.right c.minutes t.1 (λ came. let end = c.whole came in (end.0, end.1))
      in
      let here = is_run look shows bytes files times text lanes kits before d conducted told status _ ((last ≡ first) × (later ≡ clock)) quiet last.failed last.is_over c (λ same. (ap (λ (r : ScriptReader R W F P). r.sources) same.0, same.1)) sound opened restarted clean_before is_open only named_here.0 named_here.1 in
      subst (λ (f : F). IsRun look shows bytes (λ given. gives first.sources given f) times text ((f ≡ first.sources) × (later ≡ clock)) lanes kits before store minutes ends outcome told status) (sym back.sources_are)
      (subst (λ (s : Held S). IsRun look shows bytes files times text quiet lanes kits before s minutes ends outcome told status) (sym back.store_is)
      (subst (λ (l : List Event). IsRun look shows bytes files times text quiet lanes kits before conducted.director.store l ends outcome told status) (sym back.minutes_are)
      (subst (λ (l : List (WorkerEnd G O)). IsRun look shows bytes files times text quiet lanes kits before conducted.director.store es l outcome told status) (sym back.ends_are)
      (subst (λ (o : Result Total ConductFault). IsRun look shows bytes files times text quiet lanes kits before conducted.director.store es conducted.ends.items o told status) (sym back.outcome_is) here))))
