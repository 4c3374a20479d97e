use Rattle.std.proofs.Common.{subst}
use Rattle.std.specs.Prelude.{IfOk, IfErr}
use Rattle.record_rows.specs.Rows.{Rows}
use Rattle.record_rules.specs.Faults.{record_fault}
use Rattle.record_restoring.specs.Parts.{IsRestored}
use Rattle.record_restoring.specs.Results.{IsFault}
use Rattle.record_restoring.proofs.restoring.restore_parts.Goals as goal

pub returns-clause-restored : goal.returns-clause-restored
returns-clause-restored c = subst (λ (r : Rows). IfOk c.parts_of.result (IsRestored c.args.limits r)) c.rows.ensures.rows c.parts_of.ensures.restored

pub returns-clause-fault : goal.returns-clause-fault
returns-clause-fault c = subst (λ (r : Rows). IfErr c.parts_of.result (IsFault (record_fault c.args.limits r))) c.rows.ensures.rows c.parts_of.ensures.fault
