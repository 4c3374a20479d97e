use Rattle.std.proofs.Common.{◌≡◌, List, length, All}
use Rattle.sqlite.specs.Held.{state}
use Rattle.director.specs.Faults.{IsFaultOfStore}
use Rattle.director.specs.declared.faults.Fault.{Fault}
use Rattle.sessions.proofs.GoesLemmas.{AreVain}
use Rattle.sessions.proofs.steppers.Stepper.try_thrice.Given as goal

abbrev pub invariant-loop : goal.invariant-loop
invariant-loop g l = (before : List Fault) × All IsFaultOfStore before × (length before ≡ l.counter) × AreVain (state g.S.Store) l.event (length before) l.initial.self l.self
