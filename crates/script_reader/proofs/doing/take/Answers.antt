use Rattle.std.proofs.Common.{◌∙◌, rules, [], ◌∷◌, Ok, Err, refl, ap, string_bytes}
use Rattle.sched_events.specs.declared.events.Event.{Event}
use Rattle.answer_lines.specs.CommandFaults.{source_text}
use Rattle.answer_lines.specs.sessions.Lines.{may_be_read}
use Rattle.answer_lines.specs.sessions.declared.line_reading.Line.TheVariants as Says
use Rattle.command_words.specs.Commands.{taken}
use Rattle.script_commands.specs.declared.commands.ScriptCommand.TheVariants.{TakeFile}
use Rattle.script_reader.proofs.DoneLemmas.{taken_may_be_read}
use Rattle.script_reader.proofs.ShownLemmas.{done_so}
use Rattle.script_reader.proofs.doing.take.Goals as goal

-- the sources gave a text
pub returns-in-Ok-clause-does : goal.returns-in-Ok-clause-does
returns-in-Ok-clause-does g c = (
  (c.args.path.now, Ok (string_bytes c.in-Ok.text)) ∷ [],
  search rules,
  λ a. ((string_bytes c.in-Ok.text, refl, ap (λ (e : Event). Says.Event e) (c.event-event.ensures ∙ ap (taken c.args.taking) c.from_string.ensures)), refl),
)

pub returns-in-Ok-clause-line : goal.returns-in-Ok-clause-line
returns-in-Ok-clause-line g c = ap (λ (e : Event). may_be_read (Says.Event e)) c.event-event.ensures ∙ taken_may_be_read c.args.taking _

-- they gave a fault
pub returns-in-Err-clause-does : goal.returns-in-Err-clause-does
returns-in-Err-clause-does g c = (
  (c.args.path.now, Err c.in-Err.fault) ∷ [],
  search rules,
  λ a. done_so g.W.Write.contents a (Ok (TakeFile c.args.taking c.args.path.now)) ((c.args.path.now, Err c.in-Err.fault) ∷ []) c.refuse.result c.done.result _ _ c.done.ensures
      (4, source_text c.in-Err.fault, (c.in-Err.fault, (c.in-Err.ensures.file, refl), refl, refl), c.refuse.ensures),
)
