use Rattle.record_rules.proofs.ReaderLemmas.{counted_by_file}
use Rattle.record_rules.proofs.laws.limits_count_the_file.Goals as goal

pub returns : goal.returns
returns c = counted_by_file
