use Rattle.sched_settling.proofs.LineLemmas.{queued_first}
use Rattle.sched_settling.proofs.starting.take_queued.Goals as goal

pub returns-in-Some-queued_on-clause-found : goal.returns-in-Some-queued_on-clause-found
returns-in-Some-queued_on-clause-found c =
    queued_first c.args.draft.now.content c.args.line.now.id.now c.loop-date.line c.take_date.new.line c.in-Some.date c.in-Some-queued_on.position c.requires.ordered c.loop-date.invariant.queue c.in-Some.ensures.next c.in-Some-queued_on.ensures
