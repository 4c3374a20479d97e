use Rattle.sched_events.proofs.StepLemmas.{backfill_dates}
use Rattle.sched_events.proofs.laws.backfills_fill_their_span.Goals as goal

pub returns : goal.returns
returns c = backfill_dates
