use Rattle.minutes.proofs.GrowthLemmas.{answered_lines}
use Rattle.minutes.proofs.laws.answered_events_are_those_of_lines.Goals as goal

pub returns : goal.returns
returns c = answered_lines
