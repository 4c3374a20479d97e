use Rattle.std.proofs.Common.{◌≡◌, ◌∙◌, ap, slice_get, Some}
use Rattle.sched_state.specs.declared.runs.Run.{Run}
use Rattle.sched_model.specs.Lists.{at}
use Rattle.sched_model.specs.Handout.{in_instance}
use Rattle.sched_draft.specs.Parts.{decided_as}
use Rattle.sched_model.specs.Schedule.{Schedule}
use Rattle.sched_draft.specs.Drafts.{DraftValue}
use Rattle.sched_settling.proofs.BeforeLemmas.{before_is}
use Rattle.sched_settling.proofs.DecideLemmas.{dag_there, decided_some, decided_none}
use Rattle.sched_settling.proofs.deciding.decide_at.Goals as goal

pub decision-requires : goal.decision-requires
decision-requires c =
    let a : Schedule = c.args.draft.now.content in
    let r : Run = c.run.result.now in
    let there : slice_get a.runs c.args.position ≡ Some r =
    c.run.ensures in
    record { within = c.requires.within; graph = dag_there a c.args.position r c.args.dag.now there c.requires.dag; previous = before_is a.runs c.args.position r c.requires.ordered there }

pub returns-in_ok-own-in-Some-clause-decided : goal.returns-in_ok-own-in-Some-clause-decided
returns-in_ok-own-in-Some-clause-decided c =
    let a : Schedule = c.args.draft.now.content in
    let r : Run = c.run.result.now in
    let there : slice_get a.runs c.args.position ≡ Some r =
    c.run.ensures in
    ap (λ (d : DraftValue). d.content) c.decide.ensures ∙ (ap (λ (x : Schedule). record x { runs = at (in_instance (decided_as c.in-Some.verdict) c.args.place) c.args.position x.runs }) (ap (λ (d : DraftValue). d.content) c.in_ok-own-in-Some.ensures.ok)
    ∙ decided_some a c.args.position c.args.place r c.in-Some.verdict there c.in-Some.ensures)

pub returns-in-None-clause-decided : goal.returns-in-None-clause-decided
returns-in-None-clause-decided c =
    let a : Schedule = c.args.draft.now.content in
    let r : Run = c.run.result.now in
    let there : slice_get a.runs c.args.position ≡ Some r =
    c.run.ensures in
    decided_none a c.args.position c.args.place r there c.in-None.ensures
