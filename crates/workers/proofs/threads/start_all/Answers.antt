use Rattle.std.proofs.Common.{rules, suc, ◌≡◌, ◌++◌, ◌∷◌, [], ◌+◌, All, length, map, vec_items, vec_len, ap, arith, subst, sym}
use Rattle.std.proofs.lemmas.List.Elements.{All-push}
use Rattle.std.specs.Vec.Iter.{into_iter_items}
use Rattle.ruled_dispatch.specs.declared.passes.WorkerPass.{WorkerPass}
use Rattle.ruled_dispatch.specs.Lanes.{IsWorkerOf}
use Rattle.operators.specs.Kits.{IsKit}
use Rattle.workers.proofs.Places.{each_taken, first_taken, moved}
use Rattle.workers.proofs.threads.start_all.Goals as goal

pub start-requires-clause-pass : goal.start-requires-clause-pass
start-requires-clause-pass g c κs within =
    first_taken (λ (w : WorkerPass). IsWorkerOf c.args.lanes.now w) (into_iter_items c.loop-crew.passes) (into_iter_items c.next-in-loop-crew.new.self) c.in-Some-next.pass (search rules) c.loop-crew.invariant.of

pub loop-crew-preserved : goal.loop-crew-preserved
loop-crew-preserved g c =
    let was = c.loop-crew.invariant in
    let pass = c.in-Some-next.pass in
    let share = c.in-Some-next-2.share in
    let crew = c.in-Some.crew in
    let handle = c.in-Some-start.handle in
    let before = vec_items c.loop-crew.handles in
    let now = vec_items c.push_reserved.new.self in
    let passes_left = into_iter_items c.loop-crew.passes in
    let passes_rest = into_iter_items c.next-in-loop-crew.new.self in
    let shares_left = into_iter_items c.loop-crew.shares in
    let shares_rest = into_iter_items c.next-in-loop-crew-2.new.self in
    let left = into_iter_items c.loop-crew.crew-iterator in
    let rest = into_iter_items c.next.new.self in
    let e : passes_left ≡ pass ∷ passes_rest = search rules in
    let f : shares_left ≡ share ∷ shares_rest = search rules in
    let h : left ≡ crew ∷ rest = c.in-Some.ensures.steps.0 in
    let passes_len : length passes_left ≡ suc (length passes_rest) = ap length e in
    let shares_len : length shares_left ≡ suc (length shares_rest) = ap length f in
    let left_len : length left ≡ suc (length rest) = ap length h in
    let grown : now ≡ before ++ handle ∷ [] = c.push_reserved.ensures.items in
    let pass_is : handle.promise.pass.value ≡ pass = search rules in
    let share_is : handle.promise.share.value ≡ share = search rules in
    let kit_is : handle.promise.kit.value ≡ crew.kit = search rules in
    let keep_is : handle.promise.keep ≡ c.args.keep = search rules in
    let one_more : vec_len c.push_reserved.new.self ≡ vec_len c.loop-crew.handles + 1 = search rules in
    record {
      of = each_taken (λ (w : WorkerPass). IsWorkerOf c.args.lanes.now w) passes_left passes_rest pass e was.of;
      whole = each_taken (λ x. IsKit g.O.Operator.kind_of x.kit) left rest crew h was.whole;
      pass_each = let s = was.pass_each in omega arith;
      share_each = let s = was.share_each in omega arith;
      count = let s = was.count in omega arith;
      room = let r = was.room in let k = c.push_reserved.ensures.capacity in omega arith;
      passes = moved (λ x. x.promise.pass.value) before now handle passes_left passes_rest (vec_items c.args.passes) pass grown e pass_is was.passes;
      shares = moved (λ x. x.promise.share.value) before now handle shares_left shares_rest (vec_items c.args.shares) share grown f share_is was.shares;
      kits = moved (λ x. x.promise.kit.value) before now handle (map (λ x. x.kit) left) (map (λ x. x.kit) rest) (map (λ x. x.kit) (vec_items c.args.crews)) crew.kit grown (ap (map (λ x. x.kit)) h) kit_is was.kits;
      keep = subst (All (λ x. x.promise.keep ≡ c.args.keep)) (sym grown) (All-push (λ x. x.promise.keep ≡ c.args.keep) before handle was.keep keep_is);
    }
