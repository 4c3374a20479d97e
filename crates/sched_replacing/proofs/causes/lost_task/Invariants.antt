use Rattle.std.proofs.Common.{◌≡◌, drop, find, is_none}
use Rattle.sched_model.specs.Causes.{task_named}
use Rattle.sched_replacing.proofs.causes.lost_task.Given as goal

abbrev pub invariant-loop-place : goal.invariant-loop-place
invariant-loop-place l = find (λ t. is_none (task_named l.new.tasks t.task_id)) (drop l.place l.old.tasks) ≡ find (λ t. is_none (task_named l.new.tasks t.task_id)) l.old.tasks
