-- Loads one after another.
use Rattle.std.proofs.Common.{◌∙◌, sym, subst, IsTrue, arith}
use Rattle.sqlite.specs.Effect.{Database}
use Rattle.sqlite.specs.State.{State, HasCleanDisk}
use Rattle.record_rows.specs.Rows.{Rows}
use Rattle.record_tables.specs.Holds.{Stores}
use Rattle.record_tables.specs.Puts.{GoesBy, Stops}
use Rattle.record_tables.proofs.StepLemmas.{by_then}
use Rattle.record_tables.specs.Loads.{Stays}

stays_on : (x y z : Database) → Stays x y → Stays y z → Stays x z
stays_on x y z p q rows stored =
    let same = p rows stored in
    q rows (subst (λ (d : Database). Stores d rows) (sym same) stored) ∙ same

pub stays_then : (a b c : State) → GoesBy Stays a b → GoesBy Stays b c → GoesBy Stays a c
stays_then = by_then Stays Stays Stays stays_on

module _ (a b : State) (went : GoesBy Stays a b) (clean : HasCleanDisk b) where
  pub before : HasCleanDisk a
  before = omega (arith, went.survives.clean)

  pub still : IsTrue a.in_transaction → (rows : Rows) → Stores a.now rows → Stores b.now rows
  still inside rows stored = subst (λ (d : Database). Stores d rows) (sym (went.changed clean inside rows stored)) stored

pub clean_before : (a b : State) → Stops a b → HasCleanDisk b → HasCleanDisk a
clean_before a b stopped clean = omega (arith, stopped.survives.clean)
