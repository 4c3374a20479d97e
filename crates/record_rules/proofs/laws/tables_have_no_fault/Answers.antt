use Rattle.record_rules.specs.Reading.{reads}
use Rattle.record_rules.proofs.FoundLemmas.{schedule_back}
use Rattle.record_rules.proofs.RisingLemmas.{tables_by_key}
use Rattle.record_rules.proofs.RuleLemmas.{all_read, sound_is_free}
use Rattle.record_rules.proofs.laws.tables_have_no_fault.Goals as goal

pub returns : goal.returns
returns c = record { key = tables_by_key; free = sound_is_free; back = λ a h s. schedule_back (reads a.limits) a (all_read a h s) s }
