-- The errors of the record that a director tells are those that SQLite gave.
use Rattle.std.proofs.Common.{sym, subst, inl, inr, Result, Ok, Err, IfErr}
use Rattle.std.specs.Result.{IsErrAnd}
use Rattle.std.proofs.lemmas.Result.{err_from_is_err_and}
use Rattle.sqlite.specs.State.{State, HasCleanDisk, Survives}
use Rattle.sqlite.specs.Tree.{Trees}
use Rattle.sched_events.specs.declared.refusals.Refusal.{Refusal as Cause}
use Rattle.meta_store.specs.Faults.{IsGivenStoreFault}
use Rattle.meta_store.specs.declared.faults.StoreFault.{StoreFault}
use Rattle.meta_store.proofs.GivenLemmas.{fault_since}
use Rattle.director.specs.Faults.{IsGivenFault, IsOfRefusal, IsOfStore}
use Rattle.director.specs.declared.faults.Fault.{Fault}
use Rattle.director.specs.declared.faults.Fault.TheVariants.{Refused, Store, Memory}

module _ (old new : State) where
  -- the fault that a fault of the store is
  pub fault_given : (s : StoreFault) (f : Fault) → IsGivenStoreFault old new s → IsOfStore s f → IsGivenFault old new f
  fault_given s f given (inl (m, is)) = subst (IsGivenFault old new) (sym is) tt
  fault_given s f given (inr (other, is)) = subst (IsGivenFault old new) (sym is) given

  pub store_given : {T : Type 0} (s : StoreFault) (r : Result T Fault) → IsGivenStoreFault old new s → IsErrAnd r (IsOfStore s) → IfErr r (IsGivenFault old new)
  store_given {T} s r given told =
      let p = err_from_is_err_and r told in
      subst (λ (x : Result T Fault). IfErr x (IsGivenFault old new)) (sym p.1) (fault_given s p.0 given p.2)

  of_refusal : (why : Cause) (f : Fault) → IsOfRefusal why f → IsGivenFault old new f
  of_refusal why f (inl (m, is)) = subst (IsGivenFault old new) (sym is) tt
  of_refusal why f (inr (other, is)) = subst (IsGivenFault old new) (sym is) tt

  -- a refusal is no error
  pub refusal_given : {T : Type 0} (why : Cause) (r : Result T Fault) → IsErrAnd r (IsOfRefusal why) → IfErr r (IsGivenFault old new)
  refusal_given {T} why r told =
      let p = err_from_is_err_and r told in
      subst (λ (x : Result T Fault). IfErr x (IsGivenFault old new)) (sym p.1) (of_refusal why p.0 p.2)

-- a fault of a later call, since an earlier state
pub given_later : {P Q : Trees → Type 0} (a b c : State) (f : Fault) → Survives a b P → Survives b c Q → HasCleanDisk b → IsGivenFault b c f → IsGivenFault a c f
given_later a b c (Refused r) one two clean given = tt
given_later a b c (Store s) one two clean given = fault_since a b c s one two clean given
given_later a b c Memory one two clean given = tt

pub told_later : {A : Type 0} {P Q : Trees → Type 0} (a b c : State) (r : Result A Fault) → Survives a b P → Survives b c Q → HasCleanDisk b → IfErr r (IsGivenFault b c) → IfErr r (IsGivenFault a c)
told_later a b c (Ok x) one two clean given = tt
told_later a b c (Err f) one two clean given = given_later a b c f one two clean given
