use Rattle.sched_ready.proofs.LeadLemmas.{IsLeastTo}
use Rattle.sched_ready.proofs.leading.least_of.Given as goal

abbrev pub invariant-loop-kind : goal.invariant-loop-kind
invariant-loop-kind l = IsLeastTo l.kind l.firsts.items l.least
