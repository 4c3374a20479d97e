use Rattle.run_planner.proofs.AnewLemmas.{IsIndexOf}
use Rattle.run_planner.proofs.replanning.index_of.Given as goal

abbrev pub invariant-loop-interval : goal.invariant-loop-interval
invariant-loop-interval l = IsIndexOf l.intervals l.interval-index l.index
