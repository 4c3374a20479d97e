use Rattle.std.proofs.Common.{◌≡◌, ◌+◌, ◌<◌, length, refl, slice_get, subst, sym, Some, arith}
use Rattle.std.specs.Global.{Vec}
use Rattle.sched_ready.specs.declared.patches.Patch.{Patch}
use Rattle.sched_ready.proofs.LeadLemmas.{read_at}
use Rattle.sched_ready.proofs.PlacesLemmas.{AreFirstTo, first_all, first_more, first_over}
use Rattle.sched_ready.proofs.patching.moved_patches.Goals.{then-has_come+in_ok-queues+in_ok-push, else-has_come}
use Rattle.sched_ready.proofs.patching.moved_patches.Goals as goal

pub loop-graph-preserved : goal.loop-graph-preserved
loop-graph-preserved c =
    let ss = c.args.shelves.now in
    let n = c.loop-graph.graph in
    let there : slice_get ss n ≡ Some c.index-shelves-graph.result = read_at ss n c.index-shelves-graph.result _ (omega (arith, c.loop-graph-test.true)) c.index-shelves-graph.is in
    elim c.if-has_come.branch [
      | then-has_come+in_ok-queues+in_ok-push w ↦ subst (λ (ps : Vec Patch). AreFirstTo (n + 1) c.args.now ss ps.items) (sym w.patches-is)
          (first_more n c.args.now ss c.loop-graph.patches.items w.push.new.self.items (record { graph = n; queues = w.in_ok-queues.queues }) c.index-shelves-graph.result there refl w.in_ok-queues.ensures w.in_ok-push.ensures.items c.loop-graph.invariant)
      | else-has_come w ↦ subst (λ (ps : Vec Patch). AreFirstTo (n + 1) c.args.now ss ps.items) (sym w.patches-is)
          (first_over n c.args.now ss c.loop-graph.patches.items c.index-shelves-graph.result there (c.has_come.ensures w.if-has_come.false) c.loop-graph.invariant)
    ]

pub returns : goal.returns
returns c = first_all c.loop-graph.graph c.args.now c.args.shelves.now c.loop-graph.patches.items (omega (arith, c.loop-graph-test.false)) c.loop-graph.invariant
