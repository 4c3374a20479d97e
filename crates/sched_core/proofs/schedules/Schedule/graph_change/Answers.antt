use Rattle.std.proofs.Common.{◌≡◌, ap, sym, subst}
use Rattle.std.proofs.lemmas.Result.{IfOk-weaker}
use Rattle.sched_model.specs.Handout.{hand_out}
use Rattle.sched_model.specs.Schedule.{Schedule}
use Rattle.sched_model.specs.Settle.{settle}
use Rattle.sched_draft.specs.Drafts.{DraftValue}
use Rattle.sched_events.specs.SettledAndSound.{IsSettled, IsSettledAndSound}
use Rattle.sched_events.proofs.StepLemmas.{finished_kept}
use Rattle.sched_core.specs.Changes.{ScheduleValue, Planned}
use Rattle.sched_model.specs.Jobs.{handed}
use Rattle.sched_core.specs.Plans.{no_runs}
use Rattle.sched_core.specs.Effects.{with_change}
use Rattle.sched_core.specs.Inside.{completed}
use Rattle.sched_core.proofs.EffectLemmas.{quiet_leaves, quiet_whole, last_whole, made_last}
use Rattle.sched_core.proofs.schedules.Schedule.graph_change.Goals as goal

pub returns-then-self : goal.returns-then-self
returns-then-self c =
    let a : Schedule = c.args.self.now.content in
    let g = c.args.graphs in
    let b : Schedule = with_change g a in
    let still : IsSettled a = subst (λ (h : ScheduleValue). IsSettled h.content) c.self.view_is (c.self.invariant.held.settled c.if-self.true) in
    IfOk-weaker c.quiet_change.result
    (λ (change : Planned). change ≡ record { before = a; after = b; answer = no_runs })
    (λ (change : Planned). change ≡ record { before = a; after = hand_out (settle b); answer = record no_runs { jobs = handed a (hand_out (settle b)) } })
    (λ change. quiet_whole g a change c.requires.quiet still)
    c.quiet_change.ensures

pub finish-requires-clause-leaves : goal.finish-requires-clause-leaves
finish-requires-clause-leaves c = quiet_leaves c.args.graphs c.args.self.now.content c.requires.quiet

pub finish-requires-clause-kept : goal.finish-requires-clause-kept
finish-requires-clause-kept c =
    let a : Schedule = c.args.self.now.content in
    subst (λ (d : Schedule). IsSettledAndSound (completed c.args.graphs (hand_out (settle d)))) (sym (ap (λ (v : DraftValue). v.content) c.draft-draft.ensures))
    (subst IsSettledAndSound (sym (made_last c.args.graphs a c.requires.quiet c.requires.over)) (finished_kept (with_change c.args.graphs a) c.requires.sound.sound c.requires.sound.said))

pub returns : goal.returns
returns c =
    let a : Schedule = c.args.self.now.content in
    let g = c.args.graphs in
    let d : Schedule = c.draft-draft.result.content in
    let b : Schedule = with_change g a in
    IfOk-weaker c.finish.result
    (λ (change : Planned). change ≡ record { before = a; after = completed g (hand_out (settle d)); answer = record c.quiet_answer.result { jobs = handed a (hand_out (settle d)) } })
    (λ (change : Planned). change ≡ record { before = a; after = hand_out (settle b); answer = record no_runs { jobs = handed a (hand_out (settle b)) } })
    (λ change. last_whole g a d c.quiet_answer.result change c.requires.quiet c.requires.over (ap (λ (v : DraftValue). v.content) c.draft-draft.ensures) c.quiet_answer.ensures)
    c.finish.ensures
