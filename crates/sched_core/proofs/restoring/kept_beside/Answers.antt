use Rattle.std.proofs.Common.{ap, subst, sym}
use Rattle.sched_model.specs.Sound.{IsSound}
use Rattle.sched_draft.specs.Drafts.{DraftValue}
use Rattle.sched_core.proofs.restoring.kept_beside.Goals as goal

pub shelves_of-requires : goal.shelves_of-requires
shelves_of-requires c = subst IsSound (sym (ap (λ (v : DraftValue). v.content) c.over-draft.ensures)) c.requires
