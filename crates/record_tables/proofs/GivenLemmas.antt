-- The errors of statements, queries and commits are those that SQLite gives.
use Rattle.std.proofs.Common.{◌≡◌, ◌∙◌, ◌⊎◌, inl, inr, refl, sym, subst, List, ℕ, zero, suc, Bool, true, false, true≢false, Some, None, Option, Ok, Err, Result, OnErr, IsTrue, cond, arith}
use Rattle.std.specs.Prelude.{MatchBool}
use Rattle.sqlite_disk.specs.Disk.{MoreFaults}
use Rattle.sqlite_trees.specs.Tree.{Trees}
use Rattle.sqlite_trees.specs.declared.error.StoreError.{StoreError}
use Rattle.sqlite_trees.specs.declared.error.StoreError.TheVariants.{OutOfMemory, Io, Corrupt, Full, Broken, Unstorable}
use Rattle.sqlite_schema.specs.declared.command.Returning.{Returning}
use Rattle.sqlite_resolve.specs.declared.compiled.Compiled.{Compiled}
use Rattle.sqlite.specs.declared.error.Error.{Error}
use Rattle.sqlite.specs.declared.error.Error.TheVariants.{ExecuteReturnedResults}
use Rattle.sqlite.specs.Effect.{Database}
use Rattle.sqlite.specs.Order.{Row}
use Rattle.sqlite.specs.State.{State, HasCleanDisk, Survives, mode_of, is_disk_error, store_error, Fails, IsNotRun, IsNoStatement, IsStatement, IsUnchanged, ExecutesInside, ExecutesIn, RunsCommand, FailsToQuery, FailsToShow, IsTooLate, shows_rows}
use Rattle.sqlite.specs.Steps.{FailsToCommit}
use Rattle.record_rows.specs.declared.tables.Table.TheVariants.{Meta, Pool, Dag, DagLimit, Run, Instance, Attempt}
use Rattle.record_tables.specs.Errors.{is_memory}
use Rattle.record_tables.specs.Given.{IsGiven, OfMemory, OfDisk, OfShut, OfText, IsGivenLoadFault, Tells, TellsLoad, Refuses, Unknown, Unfit, Misplaced, Shows, Breaks, Exceeds, Unread, IsRecordText, Makes, Indexes}
use Rattle.record_tables.specs.Puts.{GoesBy, Stops}
use Rattle.record_tables.specs.Schema.{text_at}
use Rattle.record_tables.specs.declared.faults.LoadFault.{LoadFault}
use Rattle.record_tables.specs.declared.faults.LoadFault.TheVariants as fault

-- ---- the store failed
is_disk : (cause : StoreError) (e : Error) → e ≡ store_error cause → IsTrue (is_disk_error (store_error cause)) → IsTrue (is_disk_error e)
is_disk cause e is disk = subst (λ (x : Error). IsTrue (is_disk_error x)) (sym is) disk

of_store : (too_big : Type 0) (old new : State) (e : Error) → (too_big → e ≡ store_error Unstorable → IsGiven old new e) → Fails old new too_big e → IsGiven old new e
of_store too_big old new e big (OutOfMemory, is, has, back, told) = OfMemory is
of_store too_big old new e big (Io, is, has, back, told) = OfDisk (is_disk Io e is refl) has
of_store too_big old new e big (Corrupt, is, has, back, told) = OfDisk (is_disk Corrupt e is refl) has
of_store too_big old new e big (Full, is, has, back, told) = OfDisk (is_disk Full e is refl) has
of_store too_big old new e big (Broken, is, has, back, told) = OfShut is (inl has)
of_store too_big old new e big (Unstorable, is, has, back, told) = big has is

-- ---- a text of the record
module _ (sql : List ℕ) (ours : IsRecordText sql) (old new : State) (e : Error) where
  of_text : Refuses sql old.now e → IsGiven old new e
  of_text h = OfText sql ours old.now h

  no_statement : (params : Row) → IsNoStatement old sql params e → Refuses sql old.now e
  no_statement params (inl h) = Unknown h.0 h.1 h.2
  no_statement params (inr h) = Unfit h.0 h.1 params h.2

  pub given_not_run : (params : Row) → IsNotRun old new sql params e → IsGiven old new e
  unfolding IsNotRun
  given_not_run params (inl h) = of_text (no_statement params h.0)
  given_not_run params (inr h) = of_store ⊥ old new e (λ none. absurd none) h

  ran : (params given : Row) (c : Compiled) → IsStatement old sql params c → RunsCommand old new sql c given (Err e) → IsGiven old new e
  ran params given c it (inl (inl (inl h), same)) = of_text (Misplaced (inl h.0))
  ran params given c it (inl (inl (inr h), same)) = of_text (Misplaced (inr h.0))
  ran params given c it (inl (inr h, same)) = of_text (Breaks c it.is old.step_limit (mode_of old) given h.1)
  ran params given c it (inr h) = of_store _ old new e (λ big is. of_text (Exceeds c it.is old.step_limit (mode_of old) given big is)) h

  alone : (params given : Row) (c : Compiled) → IsStatement old sql params c → (b : Bool) → MatchBool b ((◌≡◌ {A = Result ℕ Error} (Err e) (Err ExecuteReturnedResults)) × IsUnchanged old new) (RunsCommand old new sql c given (Err e)) → IsGiven old new e
  alone params given c it true h = of_text (Shows (let same = h.0 in cc))
  alone params given c it false h = ran params given c it h

  executed : (params : Row) → ExecutesIn false sql params old new (Err e) → IsGiven old new e
  unfolding ExecutesIn
  executed params (inl h) = given_not_run params h
  executed params (inr h) = alone params _ h.0 h.1 (shows_rows false h.0) h.2

  given_executes : (params : Row) → ExecutesInside 0 sql params old new (Err e) → IsGiven old new e
  given_executes params (inl h) = executed params h.0
  given_executes params (inr h) = of_text (Misplaced (inl h.1))

  shown : (params given : Row) (c : Compiled) (o : Option Returning) → IsStatement old sql params c → FailsToShow old new sql c given e o → IsGiven old new e
  shown params given c None it h = of_text (Unread c it.is old.step_limit given h.0 h.1 h.2)
  shown params given c (Some what) it h = ran params given c it h

  -- a query inside a transaction
  pub given_queries : (params : Row) → FailsToQuery sql params old new e ⊎ IsTooLate sql params old new e → IsGiven old new e
  unfolding FailsToQuery
  given_queries params (inl (inl h)) = given_not_run params h
  given_queries params (inl (inr h)) = shown params _ h.0 h.0.returning h.1 h.2
  given_queries params (inr h) = of_text (Misplaced (inl h.4))

-- a statement inside a transaction
pub tells : (sql : List ℕ) → IsRecordText sql → (params : Row) (old new : State) (r : Result ℕ Error) → (HasCleanDisk new → IsTrue old.in_transaction → ExecutesInside 0 sql params old new r) → Tells old new r
tells sql ours params old new (Ok count) runs clean inside = tt
tells sql ours params old new (Err e) runs clean inside = given_executes sql ours old new e params (runs clean inside)

-- a commit
pub given_commits : (old new : State) (e : Error) → IsTrue old.in_transaction → FailsToCommit old new e → IsGiven old new e
given_commits old new e inside (inl h) = of_store ⊥ old new e (λ none. absurd none) h
given_commits old new e inside (inr h) = absurd (true≢false (sym inside ∙ h.1))

-- ---- what was given until an earlier state, or since a later one
pub given_until : {Q : Trees → Type 0} (a b c : State) (e : Error) → Survives b c Q → IsGiven a b e → IsGiven a c e
given_until a b c e two (OfMemory is) = OfMemory is
given_until a b c e two (OfDisk is fault) = OfDisk is (omega (arith, two.counts, fault))
given_until a b c e two (OfShut is (inl shut)) = OfShut is (inl shut)
given_until a b c e two (OfShut is (inr fault)) = OfShut is (inr (omega (arith, two.counts, fault)))
given_until a b c e two (OfText sql ours db refuses) = OfText sql ours db refuses

module _ {P Q : Trees → Type 0} (a b c : State) (e : Error) (one : Survives a b P) (two : Survives b c Q) (clean : HasCleanDisk b) where
  shut_since : (was : Bool) → a.is_open ≡ was → b.is_open ≡ false → (a.is_open ≡ false) ⊎ MoreFaults a.faults c.faults
  shut_since false is shut = inl is
  shut_since true is shut = elim (one.closes clean is) [
    | inl still ↦ absurd (true≢false (sym still ∙ shut))
    | inr fault ↦ inr (omega (arith, two.counts, fault))
  ]

  pub given_since : IsGiven b c e → IsGiven a c e
  given_since (OfMemory is) = OfMemory is
  given_since (OfDisk is fault) = OfDisk is (omega (arith, one.counts, fault))
  given_since (OfShut is (inl shut)) = OfShut is (shut_since a.is_open refl shut)
  given_since (OfShut is (inr fault)) = OfShut is (inr (omega (arith, one.counts, fault)))
  given_since (OfText sql ours db refuses) = OfText sql ours db refuses

-- ---- after a call that went
module _ (R : Database → Database → Type 0) (a b c : State) (went : GoesBy R a b) (stopped : Stops b c) where
  went_before : HasCleanDisk c → HasCleanDisk b
  went_before clean = omega (arith, stopped.survives.clean)

  pub given_then : (e : Error) → (HasCleanDisk c → IsTrue b.in_transaction → IsGiven b c e) → HasCleanDisk c → IsTrue a.in_transaction → IsGiven a c e
  given_then e given clean inside =
      let before : HasCleanDisk b = went_before clean in
      given_since a b c e went.survives stopped.survives before (given clean (went.inside before inside))

  pub load_then : (f : LoadFault) → (HasCleanDisk c → IsTrue b.in_transaction → IsGivenLoadFault b c f) → HasCleanDisk c → IsTrue a.in_transaction → IsGivenLoadFault a c f
  load_then (fault.Refused e) given clean inside = given_then e given clean inside
  load_then fault.NotOurs given clean inside = tt
  load_then fault.Memory given clean inside = tt

-- where the result is of a call that may have failed
pub tells_last : {A : Type 0} (R : Database → Database → Type 0) (a b c : State) (r : Result A Error) → GoesBy R a b → OnErr r (Stops b c) → Tells b c r → Tells a c r
tells_last R a b c (Ok x) went stopped given clean inside = tt
tells_last R a b c (Err e) went stopped given clean inside = given_then R a b c went stopped e given clean inside

pub tells_load_last : {A : Type 0} (R : Database → Database → Type 0) (a b c : State) (r : Result A LoadFault) → GoesBy R a b → OnErr r (Stops b c) → TellsLoad b c r → TellsLoad a c r
tells_load_last R a b c (Ok x) went stopped given clean inside = tt
tells_load_last R a b c (Err f) went stopped given clean inside = load_then R a b c went stopped f given clean inside

-- ---- faults of a load
pub given_refused : (old new : State) (error : Error) (f : LoadFault) → f ≡ cond (is_memory error) fault.Memory (fault.Refused error) → IsGiven old new error → IsGivenLoadFault old new f
given_refused old new error f is given = go (is_memory error) is
  where
    go : (b : Bool) → f ≡ cond b fault.Memory (fault.Refused error) → IsGivenLoadFault old new f
    go true h = subst (IsGivenLoadFault old new) (sym h) tt
    go false h = subst (IsGivenLoadFault old new) (sym h) given

pub given_unasked : (old new : State) (f : LoadFault) → ((error : Error) → f ≡ fault.Refused error → ⊥) → IsGivenLoadFault old new f
given_unasked old new (fault.Refused error) none = absurd (none error refl)
given_unasked old new fault.NotOurs none = tt
given_unasked old new fault.Memory none = tt

pub unasked : (error : Error) (f : LoadFault) → f ≡ cond (is_memory error) fault.Memory fault.NotOurs → (other : Error) → f ≡ fault.Refused other → ⊥
unasked error f is other refused = go (is_memory error) is
  where
    go : (b : Bool) → f ≡ cond b fault.Memory fault.NotOurs → ⊥
    go true h = let no : fault.Memory ≡ fault.Refused other = sym h ∙ refused in cc
    go false h = let no : fault.NotOurs ≡ fault.Refused other = sym h ∙ refused in cc

-- ---- the texts that make the tables are the record's
pub text_made : (at : ℕ) → IsRecordText (text_at at)
text_made zero = Makes Meta refl
text_made (suc zero) = Makes Pool refl
text_made (suc (suc zero)) = Makes Dag refl
text_made (suc (suc (suc zero))) = Makes Run refl
text_made (suc (suc (suc (suc zero)))) = Makes Instance refl
text_made (suc (suc (suc (suc (suc zero))))) = Makes Attempt refl
text_made (suc (suc (suc (suc (suc (suc zero)))))) = Indexes refl
text_made (suc (suc (suc (suc (suc (suc (suc n))))))) = Makes DagLimit refl
