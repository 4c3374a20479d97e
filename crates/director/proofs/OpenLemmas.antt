-- A record that is migrated, read and restarted.
use Rattle.std.proofs.Common.{◌≡◌, ◌⊎◌, ◌∙◌, ℕ, Bool, true, false, true≢false, Result, Ok, Err, IfErr, inl, inr, refl, sym, subst, arith, IsTrue}
use Rattle.std.specs.Result.{IsErrAnd}
use Rattle.std.proofs.lemmas.Result.{err_from_is_err_and}
use Rattle.sqlite.specs.Effect.{Database}
use Rattle.sqlite.specs.State.{State, HasCleanDisk, Survives}
use Rattle.sqlite.specs.Tree.{Trees}
use Rattle.sqlite.proofs.StateLemmas.{survives_then}
use Rattle.record_rows.specs.Rows.{Rows}
use Rattle.record_rules.specs.Reading.{schedule_of}
use Rattle.meta_store.specs.record_tables.Holds.{Stores}
use Rattle.meta_store.specs.record_tables.Puts.{LeavesOthers}
use Rattle.sched_model.specs.Schedule.{Schedule}
use Rattle.sched_state.specs.Limits.{Bounds}
use Rattle.sched_events.specs.Outcomes.{IsStepped, IsCause}
use Rattle.sched_events.specs.Steps.{step}
use Rattle.sched_events.specs.declared.answers.Answer.{Answer}
use Rattle.sched_events.specs.declared.events.Event.TheVariants.{Restart}
use Rattle.meta_store.specs.Faults.{IsOfSqlite}
use Rattle.meta_store.specs.Loads.{IsReadAs, ReadsAs, IsLoadFault}
use Rattle.meta_store.specs.Schedules.{has_limits}
use Rattle.meta_store.specs.Stores.{CommitsBy, HasRows, IsAsBefore, IsKeptOrMigrated, IsNoRecord, Migrates, OpensBy}
use Rattle.meta_store.specs.Transactions.{Commits, Looks, Undone}
use Rattle.meta_store.specs.declared.faults.StoreFault.{StoreFault}
use Rattle.meta_store.specs.declared.faults.StoreFault.TheVariants as store
use Rattle.meta_store.proofs.BackLemmas.{no_record_back, second_rows}
use Rattle.meta_store.proofs.MigrateLemmas.{Answered, no_second, only_migrated, rows_kept}
use Rattle.director.specs.Directors.{Keeps, StepsIn, IsMigrated, RestartsIn, Opens}
use Rattle.director.specs.Faults.{IsOfStore, IsFaultOf, IsOpenFault, IsRefused, StandsAgainst}
use Rattle.director.specs.declared.faults.Fault.{Fault}
use Rattle.director.specs.declared.faults.Fault.TheVariants.{Refused, Store, Memory}

-- ---- the migration
-- a record that lacks the table of version 2 was migrated, where it answered at all
pub did_migrate : (did : Bool) (a b : State) → has_limits a.now.schema ≡ false → (did ≡ false → has_limits a.now.schema ≡ true) → Answered did a b → HasCleanDisk b → Migrates a.now b.now
did_migrate true a b lacks which h clean = h.stored clean
did_migrate false a b lacks which h clean = absurd (true≢false (sym (which refl) ∙ lacks))

pub did_settle : (did : Bool) (a b : State) → has_limits a.now.schema ≡ false → (did ≡ false → has_limits a.now.schema ≡ true) → Answered did a b → Undone IsKeptOrMigrated (CommitsBy Migrates a) a b
did_settle true a b lacks which h = record { kept = λ clean is_open. inr (h.stored clean, h.settled clean); was_open = λ clean is_open. (h.is_open clean).0; crash = h.crash }
did_settle false a b lacks which h = absurd (true≢false (sym (which refl) ∙ lacks))

-- what the store says against a migration stands against each opening
of_migration : (l : Bounds) (lanes : ℕ) (db : Database) (s : StoreFault) (f : Fault) → IsOfSqlite s ⊎ ((s ≡ store.NotOurs) × IsNoRecord db) → IsOfStore s f → IsOpenFault l lanes db f
of_migration l lanes db s f h (inl (memory, is)) = subst (IsOpenFault l lanes db) (sym is) tt
of_migration l lanes db s f (inl (inl memory)) (inr (other, is)) = absurd (other memory)
of_migration l lanes db s f (inl (inr (error, not_memory, refused))) (inr (other, is)) =
    subst (IsOpenFault l lanes db) (sym is) (other, subst (StandsAgainst l db) (sym refused) not_memory)
of_migration l lanes db s f (inr (not_ours, none)) (inr (other, is)) =
    subst (IsOpenFault l lanes db) (sym is) (other, subst (StandsAgainst l db) (sym not_ours) none)

pub migration_fails : {T : Type 0} (db : Database) (s : StoreFault) (r : Result T Fault) → IsOfSqlite s ⊎ ((s ≡ store.NotOurs) × IsNoRecord db) → IsErrAnd r (IsOfStore s)
    → IfErr r (λ f. (l : Bounds) (lanes : ℕ) → IsOpenFault l lanes db f)
migration_fails {T} db s r h told =
    let p = err_from_is_err_and r told in
    subst (λ (x : Result T Fault). IfErr x (λ f. (l : Bounds) (lanes : ℕ) → IsOpenFault l lanes db f)) (sym p.1) (λ l lanes. of_migration l lanes db s p.0 h p.2)

-- a fault that is handed on
pub handed_on : {T : Type 0} (P : Fault → Type 0) (f : Fault) (r : Result T Fault) → P f → IsErrAnd r (λ e. e ≡ f) → IfErr r P
handed_on {T} P f r h told =
    let p = err_from_is_err_and r told in
    subst (λ (x : Result T Fault). IfErr x P) (sym p.1) (subst P (sym p.2) h)

pub if_refused : {T : Type 0} (r : Result T Fault) (P : Type 0) → P → IfErr r (λ f. IsRefused f → P)
if_refused (Ok x) P h = tt
if_refused (Err f) P h = λ _. h

-- ---- the rows after the migration
pub rows_after : (old mid : Database) (rows : Rows) → IsMigrated old mid → HasRows old rows → Stores mid rows
rows_after old mid rows (inl (limits, same)) has = subst (λ (d : Database). Stores d rows) (sym same) (second_rows old rows limits has)
rows_after old mid rows (inr migrates) has = rows_kept old mid rows has migrates

-- a record of version 2 is as it was
second_stays : (old mid : Database) (rows : Rows) → IsMigrated old mid → Stores old rows → mid ≡ old
second_stays old mid rows (inl (limits, same)) stored = same
second_stays old mid rows (inr migrates) stored = absurd (no_second old rows migrates.was stored)

left_beside : {old : Database} (here new : Database) → here ≡ old → LeavesOthers here new → LeavesOthers old new
left_beside here new same leaves = subst (λ (d : Database). LeavesOthers d new) same leaves

-- a database that is no record after it was none before
none_before : (old mid : Database) → IsMigrated old mid → IsNoRecord mid → IsNoRecord old
none_before old mid (inl (limits, same)) none = subst IsNoRecord same none
none_before old mid (inr migrates) none = no_record_back old mid migrates none

-- what is left as it was after a migration
kept_after : (a b c : State) → IsKeptOrMigrated a b → IsAsBefore b c → IsKeptOrMigrated a c
kept_after a b c (inl same) kept = inl (kept.0 ∙ same.0, kept.1 ∙ same.1)
kept_after a b c (inr (migrates, settled)) kept = inr (subst (λ (d : Database). Migrates a.now d) (sym kept.0) migrates, kept.1 ∙ settled ∙ sym kept.0)

-- a migration, or none, and then a call that changes nothing
pub looked_after : (a b c : State) → Undone IsKeptOrMigrated (CommitsBy Migrates a) a b → Looks b c → Undone IsKeptOrMigrated (CommitsBy Migrates a) a c
looked_after a b c one two = record {
  kept = λ clean is_open.
      let before : HasCleanDisk b = omega (arith, two.crash.clean) in
      kept_after a b c (one.kept before (two.was_open clean is_open)) (two.kept clean is_open);
  was_open = λ clean is_open. let before : HasCleanDisk b = omega (arith, two.crash.clean) in one.was_open before (two.was_open clean is_open);
  crash = survives_then a b c (CommitsBy Migrates a) (λ _. ⊥) (CommitsBy Migrates a) (λ _ db h. h) (λ _ db none. absurd none) one.crash two.crash;
}

-- what was migrated and no more may be found of an opening
pub unopened : (R : Database → Database → Type 0) (a b : State) → Undone IsKeptOrMigrated (CommitsBy Migrates a) a b → Undone IsKeptOrMigrated (CommitsBy (OpensBy R) a) a b
unopened R a b h = record { kept = h.kept; was_open = h.was_open; crash = only_migrated R a b h.crash }

-- as it was, or migrated
pub perhaps_migrated : (C : Trees → Type 0) (a b : State) → Undone IsAsBefore C a b → Undone IsKeptOrMigrated C a b
perhaps_migrated C a b h = record { kept = λ clean is_open. inl (h.kept clean is_open); was_open = h.was_open; crash = h.crash }

-- ---- the load after it
module _ (l : Bounds) (lanes : ℕ) where
  of_load : (old mid : Database) (s : StoreFault) → IsMigrated old mid → IsLoadFault l mid s → StandsAgainst l old s
  of_load old mid (store.Refused error) migrated h = h
  of_load old mid store.NotOurs migrated none = none_before old mid migrated none
  of_load old mid (store.Inconsistent t n) migrated h = λ rows has. h.0 rows (rows_after old mid rows migrated has)
  of_load old mid store.Memory migrated h = tt

  load_fails : (old mid : Database) (s : StoreFault) (f : Fault) → IsMigrated old mid → IsLoadFault l mid s → IsOfStore s f → IsOpenFault l lanes old f
  load_fails old mid s f migrated h (inl (memory, is)) = subst (IsOpenFault l lanes old) (sym is) tt
  load_fails old mid s f migrated h (inr (other, is)) = subst (IsOpenFault l lanes old) (sym is) (other, of_load old mid s migrated h)

  pub load_told : {T : Type 0} (old mid : Database) (s : StoreFault) (r : Result T Fault) → IsMigrated old mid → IsLoadFault l mid s → IsErrAnd r (IsOfStore s) → IfErr r (IsOpenFault l lanes old)
  load_told {T} old mid s r migrated h told =
      let p = err_from_is_err_and r told in
      subst (λ (x : Result T Fault). IfErr x (IsOpenFault l lanes old)) (sym p.1) (load_fails old mid s p.0 migrated h p.2)

  -- ---- what is read after the migration, and restarted
  module _ (old mid : Database) (a : Schedule) (migrated : IsMigrated old mid) (read : ReadsAs l mid a) where
    reads : (rows : Rows) → HasRows old rows → IsReadAs l rows a
    reads rows has = read.read rows (inl (rows_after old mid rows migrated has))

    -- it is read as a schedule
    is_read : (rows : Rows) → HasRows old rows → IsReadAs l rows (schedule_of l rows)
    is_read rows has = let h = reads rows has in subst (IsReadAs l rows) h.is h

    -- its restart is not stepped
    pub restart_fails : (f : Fault) → IsFaultOf a (Restart lanes) f → IsOpenFault l lanes old f
    restart_fails (Refused r) cause = λ rows has. (is_read rows has, subst (λ (x : Schedule). IsCause x (Restart lanes) r) (reads rows has).is cause)
    restart_fails (Store s) of =
        ((λ memory. absurd (let g : store.Refused of.1.0 ≡ store.Memory = sym of.1.2 ∙ memory in cc)), subst (StandsAgainst l old) (sym of.1.2) of.1.1)
    restart_fails Memory of = tt

    pub opens : (b : Schedule) (given : Answer) → IsStepped a (Restart lanes) b given → Opens l lanes old b given
    opens b given stepped = λ rows has. record {
      read = is_read rows has;
      stepped = subst (λ (x : Schedule). IsStepped x (Restart lanes) b given) (reads rows has).is stepped;
    }

    -- the schedule that is read is stored after the migration
    keeps : (rows : Rows) → HasRows old rows → Keeps a mid
    keeps rows has = subst (Stores mid) (sym (reads rows has).same) (rows_after old mid rows migrated has)

    pub restarts : (here new : Database) → here ≡ mid → StepsIn (Restart lanes) a here new → RestartsIn l lanes old new
    restarts here new same steps = λ rows has.
        let h = steps (subst (Keeps a) (sym same) (keeps rows has)) in
        (subst (λ (x : Schedule). Keeps (step (Restart lanes) x) new) (reads rows has).is h.0, (λ stored. left_beside here new (same ∙ second_stays old mid rows migrated stored) h.1))

  -- ---- the same of the states before the migration, after it, after the load, and after the step
  module _ (b s t u : State) (a : Schedule) (migrated : HasCleanDisk s → IsMigrated b.now s.now) (read : HasCleanDisk t → ReadsAs l s.now a) (two : Survives s t (λ _. ⊥)) where
    after_migration : HasCleanDisk t → HasCleanDisk s
    after_migration clean = omega (arith, two.clean)

    pub restart_told : {P : Trees → Type 0} (f : Fault) → Survives t u P → IsFaultOf a (Restart lanes) f → HasCleanDisk u → IsOpenFault l lanes b.now f
    restart_told {P} f three of clean =
        let before : HasCleanDisk t = omega (arith, three.clean) in
        restart_fails b.now s.now a (migrated (after_migration before)) (read before) f of

    pub opens_told : {P : Trees → Type 0} (c : Schedule) (given : Answer) → Survives t u P → IsStepped a (Restart lanes) c given → HasCleanDisk u → Opens l lanes b.now c given
    opens_told {P} c given three stepped clean =
        let before : HasCleanDisk t = omega (arith, three.clean) in
        opens b.now s.now a (migrated (after_migration before)) (read before) c given stepped

    -- a crash leaves what it could leave before, a record that was migrated, or the schedule that was read, restarted
    restarts_survive : Undone IsKeptOrMigrated (CommitsBy Migrates b) b t → (HasCleanDisk t → IsTrue t.is_open → IsAsBefore s t) → Survives t u (CommitsBy (StepsIn (Restart lanes) a) t) → Survives b u (CommitsBy (OpensBy (RestartsIn l lanes)) b)
    restarts_survive one same three =
        survives_then b t u (CommitsBy Migrates b) (CommitsBy (StepsIn (Restart lanes) a) t) (CommitsBy (OpensBy (RestartsIn l lanes)) b)
        (λ clean db may. (may.0, (may.1.0, inl may.1.1, may.1.2)))
        (λ clean db may.
        let before : HasCleanDisk t = omega (arith, three.clean) in
        let restarted : RestartsIn l lanes b.now may.1.0 = restarts b.now s.now a (migrated (after_migration before)) (read before) t.now may.1.0 (same before may.0).0 may.1.1 in
        (one.was_open before may.0, (may.1.0, inr (b.now, inl refl, restarted), may.1.2)))
        one.crash three

    pub committed_by : Undone IsKeptOrMigrated (CommitsBy Migrates b) b t → (HasCleanDisk t → IsTrue t.is_open → IsAsBefore s t) → Commits (StepsIn (Restart lanes) a) (CommitsBy (StepsIn (Restart lanes) a) t) t u
        → Commits (RestartsIn l lanes) (CommitsBy (OpensBy (RestartsIn l lanes)) b) b u
    committed_by one same three = record {
      stored = λ clean.
          let before : HasCleanDisk t = omega (arith, three.crash.clean) in
          restarts b.now s.now a (migrated (after_migration before)) (read before) t.now u.now (same before (three.is_open clean).0).0 (three.stored clean);
      settled = three.settled;
      only = three.only;
      is_open = λ clean. let before : HasCleanDisk t = omega (arith, three.crash.clean) in (one.was_open before (three.is_open clean).0, (three.is_open clean).1);
      crash = restarts_survive one same three.crash;
    }

    pub undone_by : Undone IsKeptOrMigrated (CommitsBy Migrates b) b t → (HasCleanDisk t → IsTrue t.is_open → IsAsBefore s t) → Undone IsAsBefore (CommitsBy (StepsIn (Restart lanes) a) t) t u
        → Undone IsKeptOrMigrated (CommitsBy (OpensBy (RestartsIn l lanes)) b) b u
    undone_by one same three = record {
      kept = λ clean is_open.
          let before : HasCleanDisk t = omega (arith, three.crash.clean) in
          kept_after b t u (one.kept before (three.was_open clean is_open)) (three.kept clean is_open);
      was_open = λ clean is_open. let before : HasCleanDisk t = omega (arith, three.crash.clean) in one.was_open before (three.was_open clean is_open);
      crash = restarts_survive one same three.crash;
    }

-- ---- what a record is after an opening, also one that is stopped
pub either : (l : Bounds) (lanes : ℕ) (old new : Database) (rows : Rows) → HasRows old rows → OpensBy (RestartsIn l lanes) old new → Stores new rows ⊎ Keeps (step (Restart lanes) (schedule_of l rows)) new
either l lanes old new rows has (inl migrates) = inl (rows_kept old new rows has migrates)
either l lanes old new rows has (inr (mid, inl same, restarts)) = inr (restarts rows (subst (λ (d : Database). HasRows d rows) (sym same) has)).0
either l lanes old new rows has (inr (mid, inr migrates, restarts)) = inr (restarts rows (inl (rows_kept old mid rows has migrates))).0

pub unmigrated : (old new : Database) (rows : Rows) → Stores old rows → Migrates old new → ⊥
unmigrated old new rows stored migrates = no_second old rows migrates.was stored

pub second_restarts : (l : Bounds) (lanes : ℕ) (old new : Database) (rows : Rows) → Stores old rows → OpensBy (RestartsIn l lanes) old new → Keeps (step (Restart lanes) (schedule_of l rows)) new
second_restarts l lanes old new rows stored (inl migrates) = absurd (unmigrated old new rows stored migrates)
second_restarts l lanes old new rows stored (inr (mid, inl same, restarts)) = (restarts rows (inl (subst (λ (d : Database). Stores d rows) (sym same) stored))).0
second_restarts l lanes old new rows stored (inr (mid, inr migrates, restarts)) = absurd (unmigrated old mid rows stored migrates)
