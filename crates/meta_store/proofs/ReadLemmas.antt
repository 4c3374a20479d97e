-- What a read inside a transaction tells of the database before it.
use Rattle.std.proofs.Common.{◌≡◌, ◌∙◌, ◌⊎◌, inl, inr, refl, cond, sym, ap, subst, pos, true, false, Bool, List, Ok, Err, Result, IfOk, IfErr, IsErrAnd, IsTrue, arith}
use Rattle.std.specs.List.{AllByRecursion}
use Rattle.sqlite.specs.declared.error.Error.{Error}
use Rattle.sqlite.specs.Effect.{Database}
use Rattle.sqlite.specs.Held.{Held, state}
use Rattle.sqlite.specs.State.{State, HasCleanDisk, Survives}
use Rattle.sqlite_trees.specs.declared.store.Store as store
use Rattle.record_rows.specs.Rows.{Rows, MetaRow, DagRow}
use Rattle.record_rows.specs.declared.tables.Table.{Table}
use Rattle.record_rules.specs.Cells.{AreText, AreTexts, cells_in}
use Rattle.record_tables.specs.Errors.{is_memory}
use Rattle.record_tables.specs.Holds.{Stores, StoresFirst, AddsLimits}
use Rattle.record_tables.specs.Loads.{Stays, is_version}
use Rattle.record_tables.specs.Puts.{GoesBy, Stops}
use Rattle.record_tables.specs.declared.faults.LoadFault.{LoadFault}
use Rattle.record_tables.specs.declared.faults.LoadFault.TheVariants as unread
use Rattle.meta_store.specs.Faults.{IsOfSqlite, fault_of_load}
use Rattle.meta_store.specs.Upgraded.{second_rows}
use Rattle.meta_store.specs.declared.faults.StoreFault.{StoreFault}
use Rattle.meta_store.specs.declared.faults.StoreFault.TheVariants.{NotOurs}
use Rattle.meta_store.proofs.FaultLemmas.{of_sqlite}
use Rattle.meta_store.proofs.MigrateLemmas.{IsFault, adds_stay}

-- what is told in a transaction that began of the database then is so of the database before
pub told_before : {S : Type 0} (g : store.Ghosts S) (old begun last end : Held S) → begun ≡ record old { in_transaction = true } → Survives (state g last) (state g end) (λ _. ⊥) → (P : Database → Type 0)
    → (HasCleanDisk (state g last) → IsTrue (state g begun).in_transaction → P (state g begun).now) → HasCleanDisk (state g end) → P (state g old).now
told_before {S} g old begun last end begins survives P told clean =
    let before : HasCleanDisk (state g last) = omega (arith, survives.clean) in
    let at : Held S = record old { in_transaction = true } in
    let here : IsTrue (state g at).in_transaction → P (state g at).now = subst (λ (h : Held S). IsTrue (state g h).in_transaction → P (state g h).now) begins (told before) in
    here refl

-- the fault of a load, where one of them says so much of the database
pub load_fault : (P : Type 0) (why : LoadFault) (e : StoreFault) → e ≡ fault_of_load why → (why ≡ unread.NotOurs → P) → IsOfSqlite e ⊎ ((e ≡ NotOurs) × P)
load_fault P (unread.Refused error) e is h = inl (of_sqlite error e is)
load_fault P unread.NotOurs e is h = inr (is, h refl)
load_fault P unread.Memory e is h = inl (inl is)

-- an error of a query is not that the database is no record
pub not_ours : (error : Error) (why : LoadFault) → why ≡ cond (is_memory error) unread.Memory (unread.Refused error) → why ≡ unread.NotOurs → ⊥
not_ours error why is told = go (is_memory error) is
  where
    go : (b : Bool) → why ≡ cond b unread.Memory (unread.Refused error) → ⊥
    go true h = let no : unread.Memory ≡ unread.NotOurs = sym h ∙ told in cc
    go false h = let no : unread.Refused error ≡ unread.NotOurs = sym h ∙ told in cc

-- a fault that is handed on
pub handed_on : {T E : Type 0} (P : E → Type 0) (f : E) (r : Result T E) → P f → IsErrAnd r (λ e. e ≡ f) → IfErr r P
handed_on P f (Ok x) h told = absurd told
handed_on P f (Err e) h told = subst P (sym told) h

-- ---- the version that `meta` says
pub of_version : (v : _) (b : Bool) (loaded : Rows) (S : Rows → Type 0) → ((rows : Rows) → S rows → loaded ≡ rows) → is_version v loaded.metas ≡ b → (rows : Rows) → S rows → is_version v rows.metas ≡ b
of_version v b loaded S list test rows stored = subst (λ (r : Rows). is_version v r.metas ≡ b) (list rows stored) test

pub metas_of_version : (v : _) (b : Bool) (ms : List MetaRow) (S : Rows → Type 0) → ((rows : Rows) → S rows → ms ≡ rows.metas) → is_version v ms ≡ b → (rows : Rows) → S rows → is_version v rows.metas ≡ b
metas_of_version v b ms S list test rows stored = subst (λ (l : List MetaRow). is_version v l ≡ b) (list rows stored) test

-- ---- reads after the table is added
module _ (a b c : State) (adds : GoesBy AddsLimits a b) where
  before_read : Stops b c → HasCleanDisk c → HasCleanDisk b
  before_read stops clean = omega (arith, stops.survives.clean)

  pub list_after : {E : Type 0} (r : Result Rows E) → Stops b c → (HasCleanDisk c → IsTrue b.in_transaction → IfOk r (λ loaded. (rows : Rows) → Stores b.now rows → loaded ≡ rows))
      → HasCleanDisk c → IsTrue a.in_transaction → IfOk r (λ loaded. (rows : Rows) → StoresFirst a.now rows → loaded ≡ rows)
  list_after (Err e) stops list clean inside = tt
  list_after (Ok loaded) stops list clean inside = λ rows stored.
      let before : HasCleanDisk b = before_read stops clean in
      list clean (adds.inside before inside) rows (adds.changed before inside rows stored)

  pub fault_after : {A : Type 0} (r : Result A LoadFault) → Stops b c → (HasCleanDisk c → IsTrue b.in_transaction → IfErr r (λ e. e ≡ unread.NotOurs → (rows : Rows) → Stores b.now rows → AreTexts rows → ⊥))
      → HasCleanDisk c → IsTrue a.in_transaction → IfErr r (λ e. e ≡ unread.NotOurs → (rows : Rows) → StoresFirst a.now rows → AreTexts rows → ⊥)
  fault_after (Ok x) stops fault clean inside = tt
  fault_after (Err e) stops fault clean inside = λ is rows stored.
      let before : HasCleanDisk b = before_read stops clean in
      fault clean (adds.inside before inside) is rows (adds.changed before inside rows stored)

  -- a table was not read
  pub table_fault : (t : Table) (e : LoadFault) → Stops b c → (HasCleanDisk c → e ≡ unread.NotOurs → (rows : Rows) → Stores b.now rows → AllByRecursion AreText (cells_in t rows) → ⊥)
      → HasCleanDisk c → IsTrue a.in_transaction → e ≡ unread.NotOurs → (rows : Rows) → StoresFirst a.now rows → AreTexts rows → is_version (pos 1) rows.metas ≡ false
  table_fault t e stops fault clean inside is rows stored texts =
      let before : HasCleanDisk b = before_read stops clean in
      absurd (fault clean is rows (adds.changed before inside rows stored) (texts t))

  -- `meta` was read
  pub version_after : (v : Bool) (ms : List MetaRow) → GoesBy Stays b c → (HasCleanDisk c → (rows : Rows) → Stores b.now rows → ms ≡ rows.metas) → is_version (pos 1) ms ≡ v
      → HasCleanDisk c → IsTrue a.in_transaction → (rows : Rows) → StoresFirst a.now rows → is_version (pos 1) rows.metas ≡ v
  version_after v ms stays list test clean inside =
      let before : HasCleanDisk b = omega (arith, stays.survives.clean) in
      metas_of_version (pos 1) v ms (StoresFirst a.now) (λ rows stored. list clean rows (adds.changed before inside rows stored)) test

-- both tables were read, of which the rows are made
pub prepared : (a b c d : State) → GoesBy AddsLimits a b → GoesBy Stays b c → GoesBy Stays c d → (ms : List MetaRow) (ds : List DagRow) (made : Rows) → (HasCleanDisk c → (rows : Rows) → Stores b.now rows → ms ≡ rows.metas)
    → (HasCleanDisk d → (rows : Rows) → Stores c.now rows → ds ≡ rows.dags) → is_version (pos 1) ms ≡ true → made ≡ second_rows ms ds
    → HasCleanDisk d → IsTrue a.in_transaction → (rows : Rows) → StoresFirst a.now rows → (is_version (pos 1) rows.metas ≡ true) × (made ≡ second_rows rows.metas rows.dags)
prepared a b c d adds one two ms ds made metas dags test is clean inside rows stored =
    let third : HasCleanDisk c = omega (arith, two.survives.clean) in
    let second : HasCleanDisk b = omega (arith, one.survives.clean) in
    let both : GoesBy AddsLimits a c = adds_stay a b c adds one in
    let same : ms ≡ rows.metas = metas third rows (adds.changed second inside rows stored) in
    let graphs : ds ≡ rows.dags = dags clean rows (both.changed third inside rows stored) in
    (subst (λ (l : List MetaRow). is_version (pos 1) l ≡ true) same test, subst (λ (l : List DagRow). made ≡ second_rows rows.metas l) graphs (subst (λ (l : List MetaRow). made ≡ second_rows l ds) same is))
