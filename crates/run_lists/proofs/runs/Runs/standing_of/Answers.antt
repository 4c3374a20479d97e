use Rattle.std.proofs.Common.{◌∙◌, ap, nat_lt}
use Rattle.sched_model.specs.Lists.{rises}
use Rattle.run_lists.specs.Positions.{stands}
use Rattle.run_lists.proofs.GraphLemmas.{stand_in}
use Rattle.run_lists.proofs.HoldLemmas.{places_rise}
use Rattle.run_lists.proofs.runs.Runs.standing_of.Goals as goal

pub positions_of-requires-clause-rising : goal.positions_of-requires-clause-rising
positions_of-requires-clause-rising c = ap (rises nat_lt) c.standing.ensures ∙ places_rise (stands c.args.standing) c.args.self.now.runs

pub returns : goal.returns
returns c = c.positions_of.ensures ∙ stand_in c.args.graph.now c.args.standing c.args.self.now.runs c.standing.result.now c.standing.ensures
