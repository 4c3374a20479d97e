use Rattle.std.proofs.Common.{◌∙◌, ap}
use Rattle.sched_events.specs.declared.events.Event.{Event}
use Rattle.script_commands.specs.Meanings.{is_of_script}
use Rattle.script_commands.specs.declared.commands.ScriptCommand.TheVariants.{Step}
use Rattle.script_commands.proofs.ScriptLemmas.{good_text}
use Rattle.script_commands.proofs.graph_texts.Gathered.take.Goals as goal

pub returns-in-Text-clause-asked : goal.returns-in-Text-clause-asked
returns-in-Text-clause-asked c = ap (λ (e : Event). is_of_script (Step e)) c.event-event.ensures ∙ good_text c.args.taking _
