use Rattle.std.proofs.Common.{◌≡◌, ◌∙◌, ◌≤◌, ap, length, sym, List, Option, arith}
use Rattle.std.specs.Vec.Iter.{into_iter_items}
use Rattle.sched_ready.specs.Shelves.{ShelfValue}
use Rattle.sched_ready.specs.declared.queues.Queue.{Queue}
use Rattle.sched_ready.proofs.PutLemmas.{put_behind, put_first, put_from}
use Rattle.sched_ready.proofs.patches.put_queues.Goals as goal

pub loop-queue-init : goal.loop-queue-init
loop-queue-init c =
    let s : ShelfValue = c.args.shelf.now in
    ap (λ (qs : List Queue). record s { queues = qs }) (ap (λ (os : List (Option Queue)). put_from 0 os s.queues) c.into_iter-queue-iterator.ensures.into_iter_gives.0 ∙ put_first c.args.queues.items s.queues)

pub loop-queue-preserved-else-place-len : goal.loop-queue-preserved-else-place-len
loop-queue-preserved-else-place-len c =
    let s : ShelfValue = c.loop-queue.shelf in
    let behind : length s.queues ≤ c.loop-queue.place = omega (arith, c.if-place-len.false, c.len.ensures) in
    ap (λ (qs : List Queue). record s { queues = qs })
    (put_behind c.loop-queue.place (into_iter_items c.next.new.self) s.queues behind ∙ sym (put_behind c.loop-queue.place (into_iter_items c.loop-queue.queue-iterator) s.queues behind)) ∙ c.loop-queue.invariant

pub loop-queue-preserved : goal.loop-queue-preserved
loop-queue-preserved c =
    let s : ShelfValue = c.loop-queue.shelf in
    let behind : length s.queues ≤ c.loop-queue.place = omega (arith, c.if-place-len.false, c.len.ensures) in
    ap (λ (qs : List Queue). record s { queues = qs })
    (put_behind c.loop-queue.place (into_iter_items c.next.new.self) s.queues behind ∙ sym (put_behind c.loop-queue.place (into_iter_items c.loop-queue.queue-iterator) s.queues behind)) ∙ c.loop-queue.invariant
