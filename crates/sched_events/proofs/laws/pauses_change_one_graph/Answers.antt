use Rattle.sched_events.proofs.StepLemmas.{pause_step, same_pause, same_unpause}
use Rattle.sched_events.proofs.laws.pauses_change_one_graph.Goals as goal

pub returns-clause-pause : goal.returns-clause-pause
returns-clause-pause c = pause_step

pub returns-clause-paused : goal.returns-clause-paused
returns-clause-paused c = same_pause

pub returns-clause-unpaused : goal.returns-clause-unpaused
returns-clause-unpaused c = same_unpause
