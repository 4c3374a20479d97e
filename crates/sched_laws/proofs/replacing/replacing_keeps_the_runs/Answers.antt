use Rattle.sched_laws.proofs.ReplaceLemmas.{replace_names, refitted_phase, replace_dates}
use Rattle.sched_laws.proofs.replacing.replacing_keeps_the_runs.Goals as goal

pub returns : goal.returns
returns c = record { runs = replace_names; phase = refitted_phase; dates = replace_dates }
