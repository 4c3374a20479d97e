use Rattle.sched_laws.proofs.KeptLemmas.{kept_tries, finished_stays, good_stays, failed_stays, set_aside_state, queued_stays, running_stays}
use Rattle.sched_laws.proofs.replacing.what_has_finished_stays_finished.Goals as goal

pub returns : goal.returns
returns c = record { tries = kept_tries; finished = finished_stays; good = good_stays; failed = failed_stays; set_aside = set_aside_state; queued = queued_stays; running = running_stays }
