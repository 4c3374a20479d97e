use Rattle.minutes.proofs.GrowthLemmas.{steps_more, accepted_more, along_more, handed_more, reports_more, begun_more}
use Rattle.minutes.specs.Minutes.{answered_part}
use Rattle.minutes.proofs.laws.minutes_grow_by_an_event.Goals as goal

pub returns : goal.returns
returns c = record {
  schedule = steps_more;
  accepted = accepted_more;
  handed = handed_more;
  answered = along_more answered_part;
  reports = reports_more;
  begun = begun_more;
}
