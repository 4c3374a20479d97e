use Rattle.sched_events.proofs.StepLemmas.{same_text, same_replaced, replaced_without_runs}
use Rattle.sched_events.proofs.laws.the_same_text_changes_nothing.Goals as goal

pub returns : goal.returns
returns c = record { loaded = same_text; replaced = same_replaced; without_runs = replaced_without_runs }
