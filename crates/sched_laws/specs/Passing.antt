-- Hand-out as one pass over the eligible in the order of their ranks.
use Rattle.std.specs.Prelude.{◌≡◌, ℕ, ◌≤◌, ◌⊎◌, true, false, List, [], ◌∷◌, length, Some, slice_get}
use Rattle.sched_model.specs.instance_machine.Instances.{InstanceValue}
use Rattle.sched_model.specs.Schedule.{Schedule}
use Rattle.sched_model.specs.sched_state.declared.runs.Run.{Run}
use Rattle.sched_laws.specs.Offered.{IsEligible}
use Rattle.sched_model.specs.Handout.{Offer, fits, ranks_before, hand}
use Rattle.sched_model.specs.Lists.{rises}

abbrev pub In : {X : Type 0} → X → List X → Type 0
In x [] = ⊥
In x (y ∷ ys) = (y ≡ x) ⊎ In x ys

-- the ready list: in the order of ranks, all of them eligible, and each eligible that fits among them
pub record IsReadyList (a : Schedule) (os : List Offer) : Type 0 where
  pub ranked : rises ranks_before os ≡ true
  pub eligible : (x : Offer) → In x os → IsEligible a x
  pub whole : (x : Offer) → IsEligible a x → fits a x ≡ true → In x os

-- no clearing stands past the tries
abbrev pub IsWithin : Schedule → Type 0
IsWithin a = (n p : ℕ) (r : Run) (i : InstanceValue) → slice_get a.runs n ≡ Some r → slice_get r.instances p ≡ Some i → i.since ≤ length i.tries

-- each offer is handed out where it fits, and passed over where not
abbrev pub pass : List Offer → Schedule → Schedule
pass [] a = a
pass (o ∷ os) a = elim (fits a o) [ true ↦ pass os (hand a o) | false ↦ pass os a ]
