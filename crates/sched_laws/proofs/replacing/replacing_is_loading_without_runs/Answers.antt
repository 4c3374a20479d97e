use Rattle.sched_laws.proofs.ReplaceLemmas.{replace_loads, replace_again}
use Rattle.sched_laws.proofs.replacing.replacing_is_loading_without_runs.Goals as goal

pub returns : goal.returns
returns c = record { loaded = replace_loads; again = replace_again }
