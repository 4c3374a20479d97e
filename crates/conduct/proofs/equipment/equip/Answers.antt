use Rattle.std.proofs.Common.{refl, arith}
use Rattle.conduct.proofs.equipment.equip.Goals as goal

pub returns-clause-queues : goal.returns-clause-queues
returns-clause-queues g c = (c.in_ok-lanes.ensures.room, c.in_ok-lanes.ensures.report_room)

pub returns-clause-all : goal.returns-clause-all
returns-clause-all g c = c.in_ok-lanes.ensures.all

pub returns-clause-numbers : goal.returns-clause-numbers
returns-clause-numbers g c = c.in_ok-lanes.ensures.numbers

pub returns-clause-unused : goal.returns-clause-unused
returns-clause-unused g c = (c.in_ok-lanes.ensures.sent, c.in_ok-lanes.ensures.heard)

pub returns-clause-new : goal.returns-clause-new
returns-clause-new g c = (c.in_ok-lanes.ensures.taken, c.in_ok-lanes.ensures.told)

pub returns-clause-none : goal.returns-clause-none
returns-clause-none g c = c.in_ok-desk.ensures.none

pub returns-clause-room : goal.returns-clause-room
returns-clause-room g c = (c.in_ok-handles.ensures.items, omega (arith, c.in_ok-handles.ensures.exact), c.in_ok-room.ensures)

pub returns-clause-keep : goal.returns-clause-keep
returns-clause-keep g c = refl
