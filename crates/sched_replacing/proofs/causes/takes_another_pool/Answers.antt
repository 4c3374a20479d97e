use Rattle.std.proofs.Common.{◌∙◌, sym}
use Rattle.sched_replacing.proofs.TaskLemmas.{pool_found, pool_missing, task_within}
use Rattle.sched_replacing.proofs.causes.takes_another_pool.Goals as goal

pub task-requires : goal.task-requires
task-requires c = task_within c.args.new.now c.args.task.now c.in-Some.place (sym c.place.ensures ∙ c.in-Some.is)

pub returns-in-Some : goal.returns-in-Some
returns-in-Some c = c.ne.ensures ∙ sym (pool_found c.args.new.now c.args.task.now c.task.result.now c.in-Some.place (sym c.place.ensures ∙ c.in-Some.is) c.task.ensures)

pub returns-in-None : goal.returns-in-None
returns-in-None c = pool_missing c.args.new.now c.args.task.now (sym c.place.ensures ∙ c.in-None.is)
