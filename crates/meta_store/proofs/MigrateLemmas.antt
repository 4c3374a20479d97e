-- Which version a record is of, and what an opening makes of one of version 1.
use Rattle.std.proofs.Common.{◌≡◌, sym, ap, ◌∙◌, subst, inl, inr, pos, true, false, true≢false, Bool, ◌⊎◌, refl, List, [], ◌∷◌, map, int_eq, Ok, Err, Result, OnOk, OnErr, IfOk, IfErr, IsTrue, MatchBool, arith}
use Rattle.std.specs.List.{AllByRecursion}
use Rattle.std.proofs.lemmas.Bool.{and_from}
use Rattle.sqlite.specs.Effect.{Database}
use Rattle.sqlite.specs.State.{State, HasCleanDisk, Survives}
use Rattle.sqlite.proofs.StateLemmas.{survives_weaker, survives_then}
use Rattle.record_rows.specs.Rows.{Rows, MetaRow, DagRow}
use Rattle.sched_state.proofs.OrderLemmas.{and_left}
use Rattle.record_tables.specs.Holds.{Stores, StoresFirst, AddsLimits}
use Rattle.record_tables.specs.Puts.{GoesBy, Stops}
use Rattle.record_tables.proofs.StepLemmas.{by_then, stops_then}
use Rattle.record_tables.proofs.StoredLemmas.{stores_once, first_once}
use Rattle.record_tables.specs.Ours.{has_limits, is_ours}
use Rattle.record_rules.specs.Cells.{AreText, AreTexts, meta_cells}
use Rattle.record_tables.specs.Loads.{Anyhow, Stays, is_version}
use Rattle.record_tables.specs.declared.faults.LoadFault.{LoadFault}
use Rattle.record_tables.specs.declared.faults.LoadFault.TheVariants as unread
use Rattle.record_tables.proofs.OursLemmas.{ours, limits, no_limits}
use Rattle.meta_store.specs.Faults.{IsOfSqlite, fault_of_load}
use Rattle.meta_store.specs.Stores.{CommitsBy, HasRows, IsKeptOrMigrated, IsNoRecord, IsOfVersion, Migrates, OpensBy, Upgrades}
use Rattle.meta_store.specs.Transactions.{Commits, Looks}
use Rattle.meta_store.specs.Upgraded.{old_limit, second, upgraded}
use Rattle.meta_store.specs.declared.faults.StoreFault.{StoreFault}
use Rattle.meta_store.specs.declared.faults.StoreFault.TheVariants.{NotOurs}
use Rattle.meta_store.proofs.FaultLemmas.{of_sqlite}

-- a record of one version is none of the other
pub no_first : (db : Database) (rows : Rows) → has_limits db.schema ≡ true → StoresFirst db rows → ⊥
no_first db rows has stored = true≢false (sym has ∙ ap has_limits stored.schema ∙ no_limits)

pub no_second : (db : Database) (rows : Rows) → has_limits db.schema ≡ false → Stores db rows → ⊥
no_second db rows lacks stored = true≢false (sym (ap has_limits stored.schema.0 ∙ limits stored.beside) ∙ lacks)

-- ---- a call after another one, inside a transaction
pub anyhow_after : {A E : Type 0} (P Q : Database → Database → Type 0) (a b c : State) (r : Result A E) → GoesBy P a b → OnOk r (GoesBy Q b c) → OnOk r (GoesBy Anyhow a c)
anyhow_after P Q a b c (Err e) p q = tt
anyhow_after P Q a b c (Ok x) p q = by_then P Q Anyhow (λ x y z h k. tt) a b c p q

pub stops_after : {A E : Type 0} (P : Database → Database → Type 0) (a b c : State) (r : Result A E) → GoesBy P a b → OnErr r (Stops b c) → OnErr r (Stops a c)
stops_after P a b c (Ok x) p q = tt
stops_after P a b c (Err e) p q = stops_then P a b c p q

pub on_err : {A E : Type 0} (r : Result A E) (P : Type 0) → P → OnErr r P
on_err (Ok x) P h = tt
on_err (Err e) P h = h

-- a load leaves the table that was added
pub adds_stay : (a b c : State) → GoesBy AddsLimits a b → GoesBy Stays b c → GoesBy AddsLimits a c
adds_stay = by_then AddsLimits Stays AddsLimits (λ x y z p q rows stored. subst (λ (d : Database). Stores d rows) (sym (q rows (p rows stored))) (p rows stored))

-- ---- what is read of a record, whose version the schema tells
has_second : (db : Database) (loaded : Rows) → has_limits db.schema ≡ true → ((rows : Rows) → Stores db rows → loaded ≡ rows) → (rows : Rows) → HasRows db rows → loaded ≡ rows
has_second db loaded has list rows (inl stored) = list rows stored
has_second db loaded has list rows (inr first) = absurd (no_first db first.0 has first.1)

has_first : (db : Database) (loaded : Rows) → has_limits db.schema ≡ false → ((rows : Rows) → StoresFirst db rows → loaded ≡ upgraded rows) → (rows : Rows) → HasRows db rows → loaded ≡ rows
has_first db loaded lacks list rows (inl stored) = absurd (no_second db rows lacks stored)
has_first db loaded lacks list rows (inr first) = list first.0 first.1 ∙ sym first.2

pub list_second : {E : Type 0} (db : Database) (r : Result Rows E) → has_limits db.schema ≡ true → IfOk r (λ loaded. (rows : Rows) → Stores db rows → loaded ≡ rows) → IfOk r (λ loaded. (rows : Rows) → HasRows db rows → loaded ≡ rows)
list_second db (Ok loaded) has list = has_second db loaded has list
list_second db (Err e) has list = tt

pub list_first : {E : Type 0} (db : Database) (r : Result Rows E) → has_limits db.schema ≡ false → IfOk r (λ loaded. (rows : Rows) → StoresFirst db rows → loaded ≡ upgraded rows) → IfOk r (λ loaded. (rows : Rows) → HasRows db rows → loaded ≡ rows)
list_first db (Ok loaded) lacks list = has_first db loaded lacks list
list_first db (Err e) lacks list = tt

pub found_second : {E : Type 0} (db : Database) (r : Result Rows E) → has_limits db.schema ≡ true → IfOk r (λ loaded. (rows : Rows) → Stores db rows → loaded ≡ rows) → IfOk r (λ loaded. is_version (pos 2) loaded.metas ≡ true) → OnOk r (IsOfVersion db)
found_second db (Err e) has list version = tt
found_second db (Ok loaded) has list version = record {
  second = λ rows stored. subst (λ (r : Rows). is_version (pos 2) r.metas ≡ true) (list rows stored) version;
  first = λ rows stored. absurd (no_first db rows has stored);
}

pub found_first : {A E : Type 0} (db : Database) (r : Result A E) → has_limits db.schema ≡ false → OnOk r ((rows : Rows) → StoresFirst db rows → is_version (pos 1) rows.metas ≡ true) → OnOk r (IsOfVersion db)
found_first db (Err e) lacks version = tt
found_first db (Ok x) lacks version = record { second = λ rows stored. absurd (no_second db rows lacks stored); first = version }

-- ---- why it is no record
abbrev pub IsFault : (Database → Type 0) → Database → StoreFault → Type 0
IsFault P db e = IsOfSqlite e ⊎ ((e ≡ NotOurs) × P db)

abbrev pub IsNoSecond : Database → Type 0
IsNoSecond db = (rows : Rows) → Stores db rows → AreTexts rows → is_version (pos 2) rows.metas ≡ false

abbrev pub IsNoFirst : Database → Type 0
IsNoFirst db = (rows : Rows) → StoresFirst db rows → AreTexts rows → is_version (pos 1) rows.metas ≡ false

no_record_second : (db : Database) → has_limits db.schema ≡ true → IsNoSecond db → IsNoRecord db
no_record_second db has none = inr (record { second = none; first = λ rows stored texts. absurd (no_first db rows has stored) })

no_record_first : (db : Database) → has_limits db.schema ≡ false → IsNoFirst db → IsNoRecord db
no_record_first db lacks none = inr (record { second = λ rows stored texts. absurd (no_second db rows lacks stored); first = none })

pub fault_second : (db : Database) (e : StoreFault) → has_limits db.schema ≡ true → IsFault IsNoSecond db e → IsFault IsNoRecord db e
fault_second db e has (inl h) = inl h
fault_second db e has (inr h) = inr (h.0, no_record_second db has h.1)

fault_first : (db : Database) (e : StoreFault) → has_limits db.schema ≡ false → IsFault IsNoFirst db e → IsFault IsNoRecord db e
fault_first db e lacks (inl h) = inl h
fault_first db e lacks (inr h) = inr (h.0, no_record_first db lacks h.1)

pub if_fault_second : {A : Type 0} (db : Database) (r : Result A StoreFault) → has_limits db.schema ≡ true → IfErr r (IsFault IsNoSecond db) → IfErr r (IsFault IsNoRecord db)
if_fault_second db (Ok x) has h = tt
if_fault_second db (Err e) has h = fault_second db e has h

pub if_fault_first : {A : Type 0} (db : Database) (r : Result A StoreFault) → has_limits db.schema ≡ false → IfErr r (IsFault IsNoFirst db) → IfErr r (IsFault IsNoRecord db)
if_fault_first db (Ok x) lacks h = tt
if_fault_first db (Err e) lacks h = fault_first db e lacks h

-- the fault of an upgrade
pub upgrade_fault : (db : Database) (why : LoadFault) (e : StoreFault) → has_limits db.schema ≡ false → e ≡ fault_of_load why → (why ≡ unread.NotOurs → IsNoFirst db) → IsFault IsNoRecord db e
upgrade_fault db (unread.Refused error) e lacks is h = inl (of_sqlite error e is)
upgrade_fault db unread.NotOurs e lacks is h = inr (is, no_record_first db lacks (h refl))
upgrade_fault db unread.Memory e lacks is h = inl (inl is)

-- ---- the rows of a record of either version
pub rows_kept : (old new : Database) (rows : Rows) → HasRows old rows → Migrates old new → Stores new rows
rows_kept old new rows (inl stored) m = absurd (no_second old rows m.was stored)
rows_kept old new rows (inr first) m = subst (λ (r : Rows). Stores new r) (sym first.2) (m.stored first.0 first.1).1

pub rows_once : (db : Database) (s t : Rows) → HasRows db s → HasRows db t → s ≡ t
rows_once db s t (inl a) (inl b) = stores_once db s t a b
rows_once db s t (inl a) (inr b) = absurd (no_second db s (ap has_limits b.1.schema ∙ no_limits) a)
rows_once db s t (inr a) (inl b) = absurd (no_second db t (ap has_limits a.1.schema ∙ no_limits) b)
rows_once db s t (inr a) (inr b) = a.2 ∙ ap upgraded (first_once db a.0 b.0 a.1 b.1) ∙ sym b.2

-- a migration and nothing more is an opening
pub only_migrated : (R : Database → Database → Type 0) (a b : State) → Survives a b (CommitsBy Migrates a) → Survives a b (CommitsBy (OpensBy R) a)
only_migrated R a b s = survives_weaker a b (CommitsBy Migrates a) (CommitsBy (OpensBy R) a) (λ clean db may. (may.0, (may.1.0, inl may.1.1, may.1.2))) s

-- what `migrate` did
abbrev pub Answered : Bool → State → State → Type 0
Answered did a b = MatchBool did (Commits Migrates (CommitsBy Migrates a) a b) (Looks a b)

-- ---- the rows of `meta`, which have no texts
pub meta_texts : (ms : List MetaRow) → AllByRecursion AreText (map meta_cells ms)
meta_texts [] = tt
meta_texts (m ∷ ms) = ((tt, (tt, (tt, (tt, (tt, tt))))), meta_texts ms)

pub none_read : {A : Type 0} (db : Database) (r : Result A LoadFault) → IfErr r (λ e. e ≡ unread.NotOurs → (rows : Rows) → Stores db rows → AllByRecursion AreText (map meta_cells rows.metas) → ⊥)
    → IfErr r (λ e. e ≡ unread.NotOurs → (rows : Rows) → Stores db rows → ⊥)
none_read db (Ok x) h = tt
none_read db (Err e) h = λ is rows stored. h is rows stored (meta_texts rows.metas)
