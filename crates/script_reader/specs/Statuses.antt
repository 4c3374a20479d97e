-- The statuses of what is not done.
-- restates: this project's own profile
use Rattle.std.specs.Prelude.{ℕ, List, Result, Ok, Err}
use Rattle.sched_events.specs.declared.answers.Answer.{Answer}
use Rattle.sched_events.specs.declared.refusals.Refusal.{Refusal}
use Rattle.sched_events.specs.declared.refusals.Refusal.TheVariants as refusal
use Rattle.script_commands.specs.declared.commands.CommandFault.{CommandFault}
use Rattle.script_commands.specs.declared.commands.CommandFault.TheVariants.{Usage, Source}
use Rattle.command_words.specs.declared.commands.UsageFault.{UsageFault}
use Rattle.command_words.specs.declared.commands.UsageFault.TheVariants as usage
use Rattle.answer_lines.specs.explain.declared.reasons.ExplainFault.{ExplainFault}
use Rattle.answer_lines.specs.explain.declared.reasons.ExplainFault.TheVariants as unexplained
use Rattle.sched_events.specs.declared.events.Event.{Event}
use Rattle.answer_lines.specs.Answers.{answer_text}
use Rattle.answer_lines.specs.RecordFaults.{failure_text}
use Rattle.answer_lines.specs.sessions.Faults.{Fault}
use Rattle.answer_lines.specs.sessions.Faults.failed

-- the status of a refusal: 1, and 4 for want of memory
abbrev pub refusal_status : Refusal → ℕ
refusal_status refusal.Memory = 4
refusal_status _ = 1

-- the status of an event that is not stepped: that of its refusal, 3 for a fault of the record, and 4 for want of memory
abbrev pub failure_status : Fault → ℕ
failure_status (failed.Refused r) = refusal_status r
failure_status (failed.Store fault) = 3
failure_status failed.Memory = 4

-- the status of an event that is answered so
abbrev pub status_of : Result Answer Fault → ℕ
status_of (Ok answer) = 0
status_of (Err fault) = failure_status fault

-- the status of what is no command: 2, and 4 for a text that could not be had and for want of memory
abbrev pub usage_status : UsageFault → ℕ
usage_status usage.Memory = 4
usage_status _ = 2

abbrev pub command_status : CommandFault → ℕ
command_status (Usage fault) = usage_status fault
command_status (Source fault) = 4

-- the status of a question without an answer: 1, and 4 for want of memory
abbrev pub explain_status : ExplainFault → ℕ
explain_status unexplained.Memory = 4
explain_status _ = 1

-- what is shown of an event: its answer, or why it is not stepped
abbrev pub shown_for : Event → Result Answer Fault → List ℕ
shown_for e (Ok answer) = answer_text e answer
shown_for e (Err fault) = failure_text fault
