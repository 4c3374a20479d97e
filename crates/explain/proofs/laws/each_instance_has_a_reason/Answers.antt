use Rattle.sched_core.proofs.sched_events.StepLemmas.{step_kept}
use Rattle.sched_core.specs.sched_events.Steps.{step}
use Rattle.explain.proofs.WaitLemmas.{explained_has}
use Rattle.explain.proofs.laws.each_instance_has_a_reason.Goals as goal

pub returns : goal.returns
returns c = record {
  settled = explained_has;
  stepped = λ e a graph date task ranged accepted kept. explained_has (step e a) graph date task (step_kept e a ranged accepted kept);
}
