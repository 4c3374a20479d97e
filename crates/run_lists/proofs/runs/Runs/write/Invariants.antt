use Rattle.std.proofs.Common.{◌-◌}
use Rattle.std.specs.Vec.Iter.{into_iter_items}
use Rattle.run_lists.specs.Edits.{edited}
use Rattle.run_lists.specs.Rooms.{all_added}
use Rattle.run_lists.proofs.WriteLemmas.{IsWriting}
use Rattle.run_lists.proofs.runs.Runs.write.Given as goal

abbrev pub invariant-loop-edit : goal.invariant-loop-edit
invariant-loop-edit l = IsWriting l.fn.self.runs (edited l.fn.edits l.fn.self.runs) (into_iter_items l.edit-iterator) l.self.runs l.self.room (l.fn.self.room - all_added l.fn.edits)
