use Rattle.std.proofs.Common.{◌∙◌, sym}
use Rattle.sched_ready.proofs.PatchingLemmas.{patch_at, patch_found}
use Rattle.sched_ready.proofs.patching.find.Goals as goal

pub returns-then-is_patch_at : goal.returns-then-is_patch_at
returns-then-is_patch_at c = patch_at c.args.graph c.saturating_sub-last.result c.args.patches.now (sym c.is_patch_at.ensures ∙ c.if-is_patch_at.true)

pub returns : goal.returns
returns c = patch_found c.args.graph c.args.patches.now c.find_first.result c.find_first.ensures
