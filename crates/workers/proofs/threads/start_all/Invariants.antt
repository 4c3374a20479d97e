use Rattle.std.proofs.Common.{◌≡◌, ◌++◌, ◌≤◌, All, length, map, vec_len, vec_items, ◌+◌}
use Rattle.std.specs.Vec.{vec_capacity}
use Rattle.std.specs.Vec.Iter.{into_iter_items}
use Rattle.ruled_dispatch.specs.Lanes.{IsWorkerOf}
use Rattle.operators.specs.Kits.{IsKit}
use Rattle.workers.proofs.threads.start_all.Given as goal

abbrev pub invariant-loop-crew : goal.invariant-loop-crew
invariant-loop-crew g l =
    let passes_left = into_iter_items l.passes in
    let shares_left = into_iter_items l.shares in
    let rest = into_iter_items l.crew-iterator in
    record {
      of : All (IsWorkerOf l.lanes) passes_left;
      whole : All (λ c. IsKit g.O.Operator.kind_of c.kit) rest;
      pass_each : length passes_left ≡ length rest;
      share_each : length shares_left ≡ length rest;
      count : vec_len l.handles + length rest ≡ length (vec_items l.fn.crews);
      room : vec_len l.handles + length rest ≤ vec_capacity l.handles;
      passes : map (λ h. h.promise.pass.value) (vec_items l.handles) ++ passes_left ≡ vec_items l.fn.passes;
      shares : map (λ h. h.promise.share.value) (vec_items l.handles) ++ shares_left ≡ vec_items l.fn.shares;
      kits : map (λ h. h.promise.kit.value) (vec_items l.handles) ++ map (λ c. c.kit) rest ≡ map (λ c. c.kit) (vec_items l.fn.crews);
      keep : All (λ h. h.promise.keep ≡ l.fn.keep) (vec_items l.handles);
    }
