use Rattle.sched_handout.proofs.ShelfLemmas.{graph_within, room_read}
use Rattle.sched_handout.proofs.kinds.may_have_more.Goals as goal

pub has_room-requires-clause-graph : goal.has_room-requires-clause-graph
has_room-requires-clause-graph c = graph_within c.args.draft.now.content c.args.graph c.args.dag.now c.requires.graph

pub returns : goal.returns
returns c = room_read c.args.draft.now.content c.args.graph c.args.dag.now c.has_room.result c.requires.graph c.has_room.ensures
