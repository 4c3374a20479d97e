use Rattle.std.proofs.Common.{◌≡◌, ◌+◌, vec_len, length}
use Rattle.std.specs.Vec.Iter.{into_iter_items}
use Rattle.worked_workers.proofs.desk_rounds.visitors_of.Given as goal

abbrev pub invariant-loop-share : goal.invariant-loop-share
invariant-loop-share g l = vec_len l.visitors + length (into_iter_items l.share-iterator) ≡ vec_len l.fn.shares
