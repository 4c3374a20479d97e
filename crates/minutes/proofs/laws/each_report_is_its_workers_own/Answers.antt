use Rattle.minutes.proofs.OwnerLemmas.{owned}
use Rattle.minutes.proofs.laws.each_report_is_its_workers_own.Goals as goal

pub returns : goal.returns
returns c es a logs heard accepted sound are k below = owned es a logs heard are (λ s. c.serials_of_the_minutes_are_handed_out_once.ensures es a s accepted sound) k below
