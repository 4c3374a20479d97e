-- An event in a record that was opened for it.
use Rattle.std.proofs.Common.{◌≡◌, ◌∷◌, ◌++◌, List, [], Ok, Err, Result, IfErr, IsTrue, refl, sym, subst, inl, inr, arith}
use Rattle.sqlite.specs.Effect.{Database}
use Rattle.sqlite.specs.Held.{Held}
use Rattle.sqlite.specs.State.{State, HasCleanDisk}
use Rattle.sqlite.specs.Tree.{Trees}
use Rattle.record_rows.specs.Rows.{Rows}
use Rattle.sched_state.specs.Limits.{ceilings}
use Rattle.sched_model.specs.Schedule.{Schedule}
use Rattle.sched_events.specs.SettledAndSound.{IsSoundAndSaid}
use Rattle.sched_events.specs.Steps.{steps}
use Rattle.sched_events.specs.declared.answers.Answer.{Answer}
use Rattle.sched_events.specs.declared.events.Event.{Event}
use Rattle.director.specs.Directors.{DirectorValue, Follows, Keeps, Opens, RestartsIn}
use Rattle.director.specs.Leaves.{IsOneOf, Leaves, LeavesBy, accepted_in, tried_in}
use Rattle.director.specs.meta_store.Stores.{CommitsBy, HasRows, OpensBy}
use Rattle.director.specs.meta_store.Transactions.{Commits}
use Rattle.director.specs.Lists.{IsOutcome}
use Rattle.director.specs.Faults.{IsGivenFault}
use Rattle.director.specs.Written.{WrittenEvent, came_of}
use Rattle.director.specs.declared.faults.Fault.{Fault}
use Rattle.director.proofs.GivenLemmas.{told_later}
use Rattle.director.proofs.ListLemmas.{stays_open, was_clean}
use Rattle.command_runner.specs.Events.{IsStepped}

-- ---- what the files may hold
from_made : (es tried : List Event) (a : Schedule) (s : State) (trees : Trees) → Keeps a s.now → LeavesBy es tried a s trees → (one : List Event) × IsOneOf one tried × (db : Database) × Keeps (steps (es ++ one) a) db × (trees ≡ db.trees)
from_made es tried a s trees keeps (one, among, (is_open, (db, holds, same))) = (one, among, db, holds keeps, same)

left_files : (es tried : List Event) (a : Schedule) (s t : State) → Leaves es tried a s t → HasCleanDisk t → Keeps a s.now → ((trees : Trees) → s.may_leave trees → trees ≡ s.now.trees) → (trees : Trees) → t.may_leave trees
    → (one : List Event) × IsOneOf one tried × (db : Database) × Keeps (steps (es ++ one) a) db × (trees ≡ db.trees)
left_files [] tried a s t left clean keeps only trees may = elim (left.survives.crash clean trees may) [
  | inl still ↦ ([], inl refl, s.now, keeps, only trees still)
  | inr made ↦ from_made [] tried a s trees keeps made
]
left_files (e ∷ es) tried a s t left clean keeps only trees may = from_made (e ∷ es) tried a s trees keeps (left.gone (λ none. absurd (let n : e ∷ es ≡ [] = none in cc)) clean trees may)

-- ---- what came of the event
pub stepped : {S : Type 0} (look : Held S → State) (before : State) (d left : DirectorValue S) (e : Event) (came : Result Answer Fault)
    → (HasCleanDisk (look d.store) → Opens ceilings 0 before.now d.schedule.content d.opened)
    → Commits (RestartsIn ceilings 0) (CommitsBy (OpensBy (RestartsIn ceilings 0)) before) before (look d.store)
    → IsSoundAndSaid d.schedule.content
    → IsOutcome d.schedule.content e came left.schedule.content
    → Follows d.schedule.content (look d.store) left.schedule.content (look left.store)
    → Leaves (accepted_in e came) (tried_in e came) d.schedule.content (look d.store) (look left.store)
    → (HasCleanDisk (look left.store) → IfErr came (IsGivenFault (look d.store) (look left.store)))
    → IsStepped look before e came left.schedule.content left.store
stepped look before d left e came opened restarted sound outcome followed leaves given =
    let a = d.schedule.content in
    let earlier : HasCleanDisk (look d.store) → HasCleanDisk before = λ clean. omega (arith, restarted.crash.clean, clean) in
    let keeps : HasCleanDisk (look d.store) → (rows : Rows) → HasRows before.now rows → Keeps a (look d.store).now =
    λ clean rows has. subst (λ (x : Schedule). Keeps x (look d.store).now) (sym (opened clean rows has).stepped.after) (restarted.stored clean rows has).0 in
    record {
      first = a;
      given = d.opened;
      opened = λ clean. opened (was_clean _ _ _ _ followed clean);
      sound = sound;
      outcome = outcome;
      error = λ clean. told_later before (look d.store) (look left.store) came restarted.crash followed.survives (was_clean _ _ _ _ followed clean) (given clean);
      was_clean = λ clean. earlier (was_clean _ _ _ _ followed clean);
      stays = stays_open _ _ before _ _ restarted.crash.counts (λ clean. (restarted.is_open clean).1) followed;
      stored = λ clean is_open rows has. followed.stored clean is_open (keeps (was_clean _ _ _ _ followed clean) rows has);
      left = λ clean rows has.
          let first = was_clean _ _ _ _ followed clean in
          left_files (accepted_in e came) (tried_in e came) a (look d.store) (look left.store) leaves clean (keeps first rows has) (restarted.only first);
    }

-- why it is not written is why it is not answered
pub came_given : (P : Fault → Type 0) (r : Result WrittenEvent Fault) → IfErr r P → IfErr (came_of r) P
came_given P (Ok w) h = tt
came_given P (Err f) h = h

-- the record that is given back
pub given_back : {S : Type 0} (look : Held S → State) (before : State) (e : Event) (came : Result Answer Fault) (after : Schedule) (kept store : Held S) → store ≡ kept → IsStepped look before e came after kept
    → IsStepped look before e came after store
given_back {S} look before e came after kept store same = subst (λ (s : Held S). IsStepped look before e came after s) (sym same)
