-- The lines of what is printed at once.
-- restates: this project's own profile
use Rattle.std.specs.Prelude.{ℕ, List, codes}
use Rattle.answer_lines.specs.Answers.{answer_text}
use Rattle.answer_lines.specs.CommandFaults.{command_fault_text}
use Rattle.answer_lines.specs.Pools.{pool_line}
use Rattle.answer_lines.specs.Reasons.{explain_fault_text, reason_line}
use Rattle.answer_lines.specs.RecordFaults.{failure_text}
use Rattle.answer_lines.specs.RunFaults.{clock_text, end_text}
use Rattle.answer_lines.specs.Runs.{run_line}
use Rattle.answer_lines.specs.Tasks.{task_line}
use Rattle.answer_lines.specs.declared.shown.Shown.{Shown}
use Rattle.answer_lines.specs.declared.shown.Shown.TheVariants as shows

-- the lines of what is printed at once
abbrev pub shown_text : Shown → List ℕ
shown_text (shows.Answer event answer) = answer_text event.now answer.now
shown_text (shows.Failure fault) = failure_text fault.now
shown_text shows.Unopened = codes "store 1 Refused\n"
shown_text (shows.NoCommand fault) = command_fault_text fault
shown_text (shows.NoMoment fault) = clock_text fault
shown_text (shows.EndedBy fault) = end_text fault.now
shown_text (shows.Run run) = run_line run.now
shown_text (shows.Task row) = task_line row.now
shown_text (shows.Pool row) = pool_line row.now
shown_text (shows.Reason reason) = reason_line reason.now
shown_text (shows.Unexplained fault) = explain_fault_text fault
shown_text shows.Done = codes "ok\n"
