-- When an instance may be handed out, and where a queue keeps that.
use Rattle.std.specs.Prelude.{ℕ, ◌==◌, Bool, ◌&&◌, ◌||◌, cond, Option, Some, None, nat_le, slice_get}
use Rattle.std.specs.List.{list_any}
use Rattle.graph_file.specs.declared.task_specs.TaskSpec.{TaskSpec}
use Rattle.dag_check.specs.Orders.{is_in}
use Rattle.sched_model.specs.Handout.{is_scheduled}
use Rattle.sched_model.specs.Schedule.{is_running}
use Rattle.sched_model.specs.instance_machine.Instances.{InstanceValue}
use Rattle.sched_model.specs.instance_machine.States.{state_of, retry_at}
use Rattle.sched_model.specs.sched_state.declared.runs.Run.{Run}
use Rattle.sched_ready.specs.declared.queues.Queue.{Queue}

-- from which moment on an instance may be handed out: at once where it is scheduled, after its delay where it is up for retry
abbrev pub due_of : TaskSpec → InstanceValue → Option ℕ
due_of t i = cond (is_scheduled (state_of t i)) (Some 0) (retry_at t i)

-- the same, where the run is running
abbrev pub due_in : Run → TaskSpec → InstanceValue → Option ℕ
due_in r t i = cond (is_running r.phase) (due_of t i) None

-- the same, where there is an instance
abbrev pub due_if : Run → TaskSpec → Option InstanceValue → Option ℕ
due_if r t None = None
due_if r t (Some i) = due_in r t i

-- the same of the instance at a place of a run
abbrev pub due_at : Run → TaskSpec → ℕ → Option ℕ
due_at r t p = due_if r t (slice_get r.instances p)

-- the date waits for the moment
abbrev pub waits_for : Queue → ℕ → ℕ → Bool
waits_for q m date = list_any (λ (w : ℕ × ℕ). w.0 == m && w.1 == date) q.waiting.keys

-- the date stands where it has to: among the ready ones once its moment has come, else among those that wait
abbrev pub is_kept : ℕ → Queue → ℕ → ℕ → Bool
is_kept now q date m = cond (nat_le m now) (is_in q.ready.keys date) (waits_for q m date)

-- the date waits for a moment that has come
abbrev pub has_waited : ℕ → Queue → ℕ → Bool
has_waited now q date = list_any (λ (w : ℕ × ℕ). nat_le w.0 now && w.1 == date) q.waiting.keys

-- it is ready, or waits for a moment that has come
abbrev pub is_found : ℕ → Queue → ℕ → Bool
is_found now q date = is_in q.ready.keys date || has_waited now q date
