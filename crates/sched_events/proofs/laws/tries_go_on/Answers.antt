use Rattle.sched_events.proofs.PromiseLemmas.{step_try, steps_try}
use Rattle.sched_events.proofs.laws.tries_go_on.Goals as goal

pub returns : goal.returns
returns c = record {
  step = λ e a id date task n t ranged accepted kept. step_try e a ranged accepted kept id date task n t;
  steps = λ es a id date task n t accepted kept. steps_try es a accepted kept id date task n t;
}
