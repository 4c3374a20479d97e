use Rattle.std.proofs.Common.{ap}
use Rattle.sched_draft.specs.Drafts.{DraftValue}
use Rattle.sched_model.specs.Schedule.{Schedule}
use Rattle.sched_replacing.proofs.FitLemmas.{refit_one}
use Rattle.sched_replacing.proofs.fitting.refit_run.Goals as goal

pub returns-clause-draft : goal.returns-clause-draft
returns-clause-draft c =
    let a : Schedule = c.args.draft.now.content in
    refit_one c.args.old.now c.args.new.now a _ _ c.args.position c.run.result.now c.in_ok-instances.instances c.run.ensures c.in_ok-instances.ensures (ap (λ (d : DraftValue). d.content) c.in_ok-own.ensures.ok)
    (ap (λ (d : DraftValue). d.content) c.set_instances.ensures)
