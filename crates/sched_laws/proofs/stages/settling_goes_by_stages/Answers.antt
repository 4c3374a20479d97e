use Rattle.sched_laws.proofs.StageLemmas.{decide_settles, all_ends, swept_ends, start_settles, still_settles, started}
use Rattle.sched_laws.proofs.stages.settling_goes_by_stages.Goals as goal

pub returns : goal.returns
returns c = record { decides = decide_settles; ends = all_ends; swept = swept_ends; starts = start_settles; still = still_settles; first = started }
