use Rattle.std.proofs.Common.{◌≡◌, ◌+◌, vec_len, length}
use Rattle.std.specs.Vec.Iter.{into_iter_items}
use Rattle.worked_workers.proofs.desk_rounds.ended.Given as goal

abbrev pub invariant-loop-visitor : goal.invariant-loop-visitor
invariant-loop-visitor g l = vec_len l.shares + length (into_iter_items l.visitor-iterator) ≡ vec_len l.fn.visitors
