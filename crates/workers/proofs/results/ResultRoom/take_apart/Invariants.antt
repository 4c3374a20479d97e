use Rattle.std.proofs.Common.{◌≡◌, ◌++◌, ◌+◌, ◌≤◌, length, map, vec_len, vec_items}
use Rattle.std.specs.Vec.{vec_capacity}
use Rattle.std.specs.Vec.Iter.{into_iter_items}
use Rattle.workers.proofs.results.ResultRoom.take_apart.Given as goal

abbrev pub invariant-loop-end : goal.invariant-loop-end
invariant-loop-end g l =
    let rest = into_iter_items l.end-iterator in
    record {
      ends : vec_items l.ends ++ map (λ r. r.0) rest ≡ map (λ r. r.0) (vec_items l.fn.results);
      passes : vec_items l.passes ++ map (λ r. r.1) rest ≡ map (λ r. r.1) (vec_items l.fn.results);
      shares : vec_items l.shares ++ map (λ r. r.2) rest ≡ map (λ r. r.2) (vec_items l.fn.results);
      ends_room : vec_len l.ends + length rest ≤ vec_capacity l.ends;
      passes_room : vec_len l.passes + length rest ≤ vec_capacity l.passes;
      shares_room : vec_len l.shares + length rest ≤ vec_capacity l.shares;
    }
