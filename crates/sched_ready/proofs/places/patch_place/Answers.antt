use Rattle.std.proofs.Common.{refl, subst, sym, Option}
use Rattle.sched_ready.specs.Patching.{IsPlacePatched}
use Rattle.sched_ready.specs.declared.queues.Queue.{Queue}
use Rattle.sched_ready.proofs.places.patch_place.Goals as goal

pub returns-then-not-is_changing : goal.returns-then-not-is_changing
returns-then-not-is_changing c =
    let kept = c.is_changing.ensures c.if-not-is_changing.true in
    subst (λ (o : Option Queue). IsPlacePatched c.args.now c.args.old.now c.args.was c.args.due c.args.date o o) (sym kept.0) (refl, kept.1)

pub returns : goal.returns
returns c =
    subst (λ (o : Option Queue). IsPlacePatched c.args.now c.args.old.now c.args.was c.args.due c.args.date o c.in_ok-slot.field-0) c.take-queue.ensures.value c.in_ok-slot.ensures
