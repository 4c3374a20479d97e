use Rattle.sched_ready.proofs.MakingLemmas.{fits_empty}
use Rattle.sched_ready.proofs.making.shelf_of.Goals as goal

pub returns-clause-fits : goal.returns-clause-fits
returns-clause-fits c =
    fits_empty c.args.dag.now c.in_ok-shelf.shelf c.in_ok-kinds.kinds.kinds.items c.in_ok-kinds.kinds.samples.items c.in_ok-weights.weights.items c.in_ok-weights.ensures c.in_ok-kinds.ensures
    c.in_ok-shelf.ensures.weights c.in_ok-shelf.ensures.kinds c.in_ok-shelf.ensures.samples c.in_ok-shelf.ensures.long
