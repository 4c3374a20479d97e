use Rattle.run_lists.specs.sched_model.Clearing.{set_to}
use Rattle.run_lists.specs.sched_model.Handout.{in_instance}
use Rattle.run_lists.specs.sched_model.Lists.{at}
use Rattle.run_lists.proofs.OverlayLemmas.{lent_changed}
use Rattle.sched_draft.proofs.DraftLemmas.{drafted}
use Rattle.sched_draft.proofs.drafts.Draft.set.Goals as goal

pub returns : goal.returns
returns c =
    drafted (λ s. at (in_instance (set_to c.args.verdict) c.args.place) c.args.position) _ c.args.self.now _ c.self.view_is
    (lent_changed (set_to c.args.verdict) c.args.position c.args.place c.self.inside.runs.runs c.instance_mut.result.now c.set.new.instance c.instance_mut.ensures.value c.set.ensures)
