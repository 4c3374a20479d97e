use Rattle.std.proofs.Common.{◌∙◌, ap, refl, subst, sym, arith, List}
use Rattle.sched_ready.specs.Patching.{AreOfOthers, IsOfGraph}
use Rattle.sched_ready.specs.declared.patches.Patch.{Patch}
use Rattle.sched_ready.proofs.PatchingLemmas.{patch_made, patch_there}
use Rattle.sched_ready.proofs.patching.patch_of.Goals as goal

pub returns-in-Some : goal.returns-in-Some
returns-in-Some c =
    patch_there c.args.graph c.args.places c.in-Some.index c.args.patches.now.items c.args.patches.now.items (subst (λ (ps : List Patch). IsOfGraph c.args.graph ps c.in-Some.index) c.deref.ensures.value c.in-Some.ensures) refl

pub returns : goal.returns
returns c =
    patch_made c.args.graph c.args.places c.len-index.result c.args.patches.now.items c.push.new.self.items (record { graph = c.args.graph; queues = c.in_ok-queues.queues })
    (subst (λ (ps : List Patch). AreOfOthers c.args.graph ps) c.deref.ensures.value c.in_default.ensures) (omega (arith, c.len-index.ensures, c.args.patches.now.ok.0)) refl c.in_ok-queues.ensures.long c.in_ok-queues.ensures.none c.in_ok-push.ensures.items
