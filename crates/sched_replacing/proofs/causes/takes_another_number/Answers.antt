use Rattle.std.proofs.Common.{◌∙◌, ◌==◌, sym, ap, not, ℕ}
use Rattle.sched_replacing.proofs.TaskLemmas.{number_found, number_missing, task_within}
use Rattle.sched_replacing.proofs.causes.takes_another_number.Goals as goal

pub task-requires : goal.task-requires
task-requires c = task_within c.args.new.now c.args.task.now c.in-Some.place (sym c.place.ensures ∙ c.in-Some.is)

pub returns-in-Some : goal.returns-in-Some
returns-in-Some c =
    ap (λ (n : ℕ). not (n == c.get-in-Some.result)) c.get.ensures.value
    ∙ (ap (λ (n : ℕ). not (c.task.result.now.pool_slots == n)) c.get-in-Some.ensures.value ∙ sym (number_found c.args.new.now c.args.task.now c.task.result.now c.in-Some.place (sym c.place.ensures ∙ c.in-Some.is) c.task.ensures))

pub returns-in-None : goal.returns-in-None
returns-in-None c = number_missing c.args.new.now c.args.task.now (sym c.place.ensures ∙ c.in-None.is)
