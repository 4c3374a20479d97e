-- What is promised of a run, where less is known of its streams, its sources and its clock.
use Rattle.std.proofs.Common.{◌≡◌, ◌++◌, ℕ, Bool, List, length, All, Option, Some, Result, refl, sym, subst}
use Rattle.sqlite.specs.Held.{Held}
use Rattle.sqlite.specs.Effect.{Database}
use Rattle.sqlite.specs.State.{State}
use Rattle.sched_model.specs.Schedule.{Schedule}
use Rattle.sched_events.specs.Steps.{steps}
use Rattle.sched_events.specs.declared.events.Event.{Event}
use Rattle.operators.specs.declared.kits.Kit.{Kit}
use Rattle.operators.specs.declared.operators.Operator as operator
use Rattle.slot_desk.specs.declared.desk.Total.{Total}
use Rattle.workers.specs.declared.crews.OpenGate.{OpenGate}
use Rattle.workers.specs.declared.crews.WorkerEnd.{WorkerEnd}
use Rattle.workers.specs.Accounted.{AreAmongTold}
use Rattle.workers.specs.Shows.{Shows, shows}
use Rattle.conduct.specs.sessions.director.Directors.{Keeps}
use Rattle.conduct.specs.sessions.director.Leaves.{IsOneOf}
use Rattle.conduct.specs.sessions.History.{heard_in, tried_at_end, Step}
use Rattle.conduct.specs.sessions.Readings.{Reading}
use Rattle.conduct.specs.sessions.declared.faults.ConductFault.{ConductFault}
use Rattle.script_reader.specs.Done.{FileAnswer}
use Rattle.script_runner.specs.Named.{AreNamed}
use Rattle.script_runner.specs.Runs.{IsRun}
use Rattle.script_runner.specs.TaskOperators.{IsFresh}
use Rattle.script_runner.specs.Teams.{IsRunByTeam, IsTeamRun, IsWhole}
use Rattle.script_runner.proofs.RunLemmas.{still}

-- what is known of the bytes (read), the sources, the clock and the output becomes this (known, files, times, text)
module _ (read known : Option (List ℕ)) (sources files : List FileAnswer → Type 0) (clock times : List (Schedule × Reading) → Type 0) (output text : List ℕ → Type 0)
    (to_bytes : (bytes : List ℕ) → known ≡ Some bytes → read ≡ Some bytes) (to_files : (given : List FileAnswer) → sources given → files given)
    (to_times : (moments : List (Schedule × Reading)) → clock moments → times moments) (to_text : (shown : List ℕ) → output shown → text shown) where
  named_less : {T : Type 0} (lanes : ℕ) (first : Schedule) (minutes : List Event) (outcome : Result T ConductFault) (told : Bool) (status : ℕ) → (n : AreNamed read sources clock output lanes first minutes outcome told status)
      → (m : AreNamed known files times text lanes first minutes outcome told status) × (m.history ≡ n.history)
  named_less lanes first minutes outcome told status n = (
    record {
      done = n.done;
      each = n.each;
      waits = n.waits;
      open_asked = n.open_asked;
      open_texts = n.open_texts;
      opens = n.opens;
      none_waits = n.none_waits;
      texts = to_files _ n.texts;
      readings = to_times _ n.readings;
      history = n.history;
      last = n.last;
      parts = n.parts;
      right = n.right;
      made = n.made;
      answers_are = n.answers_are;
      shown = λ all. to_text _ (n.shown all);
      all_told = n.all_told;
      read = λ bytes is. n.read bytes (to_bytes bytes is);
      ended = n.ended;
      whole = n.whole;
    },
    refl,
  )

  module _ {S G O : Type 0} (look : Held S → State) (untouched quiet : Type 0) (to_quiet : untouched → quiet) (lanes : ℕ) (before : State) (store : Held S) (minutes : List Event) (ends : List (WorkerEnd G O)) (outcome : Result Total ConductFault) (told : Bool) (status : ℕ) where
    run_less : (shows : Shows O) (kits : List (Kit O))
        → IsRun look shows read sources clock output untouched lanes kits before store minutes ends outcome told status
        → IsRun look shows known files times text quiet lanes kits before store minutes ends outcome told status
    run_less shows kits r =
        let (named, same) = named_less lanes r.first minutes outcome told status r.named in
        record {
          first = r.first;
          given = r.given;
          opened = r.opened;
          sound = r.sound;
          accepted = r.accepted;
          begun = r.begun;
          started = r.started;
          was_clean = r.was_clean;
          stays = r.stays;
          stored = r.stored;
          named = named;
          left = λ clean rows has trees may.
              subst (λ (h : List Step). (one : List Event) × IsOneOf one (tried_at_end h) × (db : Database) × Keeps (steps (minutes ++ one) r.first) db × (trees ≡ db.trees)) (sym same) (r.left clean rows has trees may);
          well = r.well;
          failed = r.failed;
          fault = r.fault;
          workers = r.workers;
          unstarted = still _ untouched quiet outcome to_quiet r.unstarted;
          worked = r.worked;
          heard = subst (λ (h : List Step). AreAmongTold (heard_in h) ends) (sym same) r.heard;
          idle = r.idle;
          once = r.once;
          own = r.own;
          desk = r.desk;
        }

  module _ {S O : Type 0} (look : Held S → State) (o : operator.Ghosts O) (untouched quiet : Type 0) (to_quiet : untouched → quiet) (workers lanes : ℕ) (before : State) (store : Held S) (status : ℕ) where
    -- what `run_team` promises of a team as `operators_for` makes it
    pub by_team : (operators : List (List O)) (minutes : List Event) (ends : List (WorkerEnd OpenGate O)) (outcome : Result Total ConductFault) (told : Bool)
        → length operators ≡ workers → All (IsWhole o.kind_of) operators → All (All (IsFresh o.runs_of o.refused_of o.taken)) operators
        → IsTeamRun look (shows o.kind_of o.runs_of o.refused_of o.taken) read sources clock output untouched lanes operators before store minutes ends outcome told status
        → IsRunByTeam look o known files times text quiet workers lanes before store status
    by_team operators minutes ends outcome told count whole fresh team = record {
      operators = operators;
      count = count;
      whole = whole;
      fresh = fresh;
      minutes = minutes;
      ends = ends;
      outcome = outcome;
      told = told;
      run = record {
        kits = team.kits;
        made = team.made;
        run = run_less look untouched quiet to_quiet lanes before store minutes ends outcome told status (shows o.kind_of o.runs_of o.refused_of o.taken) team.kits team.run;
      };
    }

    -- what a team's run promises, where less is known
    pub by_team_less : IsRunByTeam look o read sources clock output untouched workers lanes before store status → IsRunByTeam look o known files times text quiet workers lanes before store status
    by_team_less r = by_team r.operators r.minutes r.ends r.outcome r.told r.count r.whole r.fresh r.run
