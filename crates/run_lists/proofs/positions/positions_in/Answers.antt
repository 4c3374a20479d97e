use Rattle.std.proofs.Common.{◌+◌, ◌++◌, ap, arith}
use Rattle.run_lists.specs.Positions.{positions_from, stands}
use Rattle.run_lists.proofs.HoldLemmas.{found_all, found_more}
use Rattle.run_lists.proofs.positions.positions_in.Goals as goal

pub loop-position-init : goal.loop-position-init
loop-position-init c = (ap (λ ns. ns ++ positions_from (stands c.args.standing) 0 c.args.runs.now) c.in_ok-positions.ensures.items, c.in_ok-positions.ensures.capacity)

pub loop-position-preserved : goal.loop-position-preserved
loop-position-preserved c = (
  found_more (stands c.args.standing) c.loop-position.position (c.loop-position.position + 1) c.args.runs.now c.loop-position.positions.items c.push_if.new.positions.items _ c.index-runs-position.result c.stands-holds.result
      (omega arith) c.loop-position-test.true c.index-runs-position.is c.in_ok-push_if.ensures.items c.stands-holds.ensures c.loop-position.invariant.0,
  omega (arith, c.loop-position.invariant.1, c.in_ok-push_if.ensures.room),
)

pub returns-clause-positions : goal.returns-clause-positions
returns-clause-positions c = found_all (stands c.args.standing) c.loop-position.position c.args.runs.now c.loop-position.positions.items _ c.loop-position-test.false c.loop-position.invariant.0

pub returns-clause-room : goal.returns-clause-room
returns-clause-room c = c.loop-position.invariant.1
