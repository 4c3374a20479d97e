-- The errors of transactions on a record are those that SQLite gives.
use Rattle.std.proofs.Common.{◌≡◌, sym, subst, refl, cond, Bool, true, false, ℕ, Option, Ok, Err, Result, IfErr, IsTrue, arith}
use Rattle.sqlite.specs.declared.error.Error.{Error}
use Rattle.sqlite.specs.Effect.{Database}
use Rattle.sqlite.specs.Held.{Held, state}
use Rattle.sqlite.specs.State.{State, HasCleanDisk, Survives}
use Rattle.sqlite.specs.Steps.{FailsToCommit}
use Rattle.sqlite.specs.Tree.{Trees}
use Rattle.sqlite_trees.specs.declared.store.Store as store
use Rattle.record_rows.specs.declared.tables.Table.{Table}
use Rattle.record_tables.specs.Errors.{is_memory}
use Rattle.record_tables.specs.Given.{IsGiven, OfMemory, OfDisk, OfShut, OfText, IsGivenLoadFault, TellsLoad}
use Rattle.record_tables.specs.Puts.{GoesBy}
use Rattle.record_tables.specs.declared.faults.LoadFault.{LoadFault}
use Rattle.record_tables.specs.declared.faults.LoadFault.TheVariants as unread
use Rattle.record_tables.proofs.GivenLemmas.{given_commits, given_since, given_until}
use Rattle.meta_store.specs.Faults.{IsGivenStoreFault, fault_of_load}
use Rattle.meta_store.specs.Loads.{IsRuleFault}
use Rattle.meta_store.specs.Transactions.{Looks, TransactsTo}
use Rattle.meta_store.specs.declared.faults.StoreFault.{StoreFault}
use Rattle.meta_store.specs.declared.faults.StoreFault.TheVariants.{Refused, NotOurs, Inconsistent, Memory}

-- ---- the fault that an error is
module _ (old new : State) where
  pub fault_given : (error : Error) (f : StoreFault) → f ≡ cond (is_memory error) Memory (Refused error) → IsGiven old new error → IsGivenStoreFault old new f
  fault_given error f is given = go (is_memory error) is
    where
      go : (b : Bool) → f ≡ cond b Memory (Refused error) → IsGivenStoreFault old new f
      go true h = subst (IsGivenStoreFault old new) (sym h) tt
      go false h = subst (IsGivenStoreFault old new) (sym h) given

  pub load_given : (why : LoadFault) (f : StoreFault) → f ≡ fault_of_load why → IsGivenLoadFault old new why → IsGivenStoreFault old new f
  load_given (unread.Refused error) f is given = fault_given error f is given
  load_given unread.NotOurs f is given = subst (IsGivenStoreFault old new) (sym is) tt
  load_given unread.Memory f is given = subst (IsGivenStoreFault old new) (sym is) tt

  -- a rule that fails is no error
  pub rule_given : {A : Type 0} (first : Option (Table × ℕ)) (r : Result A StoreFault) → IfErr r (IsRuleFault first) → IfErr r (IsGivenStoreFault old new)
  rule_given first (Ok x) h = tt
  rule_given first (Err (Refused error)) h = absurd h
  rule_given first (Err NotOurs) h = tt
  rule_given first (Err (Inconsistent t n)) h = tt
  rule_given first (Err Memory) h = tt

-- ---- a transaction that began, and what it tells once it is dropped or committed
module _ {S : Type 0} (g : store.Ghosts S) (old begun last end : Held S) (begins : begun ≡ record old { in_transaction = true }) where
  abbrev begun_of : Held S
  begun_of = record old { in_transaction = true }

  as_begun : (s : State) (e : Error) → IsGiven (state g begun_of) s e → IsGiven (state g old) s e
  as_begun s e (OfMemory is) = OfMemory is
  as_begun s e (OfDisk is fault) = OfDisk is fault
  as_begun s e (OfShut is shut) = OfShut is shut
  as_begun s e (OfText sql ours db refuses) = OfText sql ours db refuses

  pub given_dropped : (e : Error) → (HasCleanDisk (state g last) → IsTrue (state g begun).in_transaction → IsGiven (state g begun) (state g last) e) → Survives (state g last) (state g end) (λ _. ⊥) → HasCleanDisk (state g end) → IsGiven (state g old) (state g end) e
  given_dropped e told survives clean =
      let before : HasCleanDisk (state g last) = omega (arith, survives.clean) in
      let here : IsTrue (state g begun_of).in_transaction → IsGiven (state g begun_of) (state g last) e = subst (λ (h : Held S). IsTrue (state g h).in_transaction → IsGiven (state g h) (state g last) e) begins (told before) in
      given_until (state g old) (state g last) (state g end) e survives (as_begun (state g last) e (here refl))

  pub load_dropped : {A : Type 0} (r : Result A LoadFault) → TellsLoad (state g begun) (state g last) r → Survives (state g last) (state g end) (λ _. ⊥) → HasCleanDisk (state g end) → IfErr r (IsGivenLoadFault (state g old) (state g end))
  load_dropped (Ok x) told survives clean = tt
  load_dropped (Err (unread.Refused e)) told survives clean = given_dropped e told survives clean
  load_dropped (Err unread.NotOurs) told survives clean = tt
  load_dropped (Err unread.Memory) told survives clean = tt

  pub given_ended : {A : Type 0} {P : Trees → Type 0} (R : Database → Database → Type 0) → GoesBy R (state g begun) (state g last) → Survives (state g last) (state g end) P → (r : Result A Error)
      → (HasCleanDisk (state g end) → IfErr r (FailsToCommit (state g last) (state g end))) → HasCleanDisk (state g end) → IfErr r (IsGiven (state g old) (state g end))
  given_ended R went survives (Ok x) fails clean = tt
  given_ended R went survives (Err e) fails clean =
      let before : HasCleanDisk (state g last) = omega (arith, survives.clean) in
      let start : GoesBy R (state g begun_of) (state g last) = subst (λ (h : Held S). GoesBy R (state g h) (state g last)) begins went in
      as_begun (state g end) e (given_since (state g begun_of) (state g last) (state g end) e start.survives survives before (given_commits (state g last) (state g end) e (start.inside before refl) (fails clean)))

-- ---- a call after a look
module _ {A : Type 0} (R : Database → Database → Type 0) (C : Trees → Type 0) (a b c : State) (looks : Looks a b) where
  pub given_asked : (r : Result A Error) → TransactsTo R C b c r → (HasCleanDisk c → IfErr r (IsGiven b c)) → HasCleanDisk c → IfErr r (IsGiven a c)
  given_asked (Ok x) two given clean = tt
  given_asked (Err e) two given clean = let before : HasCleanDisk b = omega (arith, two.crash.clean) in given_since a b c e looks.crash two.crash before (given clean)

  pub load_asked : (r : Result A LoadFault) → TransactsTo R C b c r → (HasCleanDisk c → IfErr r (IsGivenLoadFault b c)) → HasCleanDisk c → IfErr r (IsGivenLoadFault a c)
  load_asked (Ok x) two given clean = tt
  load_asked (Err (unread.Refused e)) two given clean = let before : HasCleanDisk b = omega (arith, two.crash.clean) in given_since a b c e looks.crash two.crash before (given clean)
  load_asked (Err unread.NotOurs) two given clean = tt
  load_asked (Err unread.Memory) two given clean = tt

-- ---- a fault of a later call, since an earlier state
pub fault_since : {P Q : Trees → Type 0} (a b c : State) (f : StoreFault) → Survives a b P → Survives b c Q → HasCleanDisk b → IsGivenStoreFault b c f → IsGivenStoreFault a c f
fault_since a b c (Refused e) one two clean given = given_since a b c e one two clean given
fault_since a b c NotOurs one two clean given = tt
fault_since a b c (Inconsistent t n) one two clean given = tt
fault_since a b c Memory one two clean given = tt
