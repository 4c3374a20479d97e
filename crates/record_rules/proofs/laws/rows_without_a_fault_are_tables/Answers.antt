use Rattle.record_rules.proofs.ReaderLemmas.{restored, restored_said}
use Rattle.record_rules.proofs.WholeLemmas.{written_back}
use Rattle.record_rules.proofs.laws.rows_without_a_fault_are_tables.Goals as goal

pub returns : goal.returns
returns c = record { same = written_back; sound = restored; said = restored_said }
