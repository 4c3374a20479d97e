use Rattle.std.proofs.Common.{◌≡◌, sym, subst, None}
use Rattle.sched_model.specs.Schedule.{Schedule}
use Rattle.sched_model.specs.Settle.{move}
use Rattle.sched_laws.proofs.SweepLemmas.{sound_ordered}
use Rattle.sched_laws.specs.Stages.{IsOrdered}
use Rattle.sched_core.specs.Changes.{ScheduleValue}
use Rattle.sched_core.proofs.schedules.Schedule.settle_draft.Goals as goal

pub settle_touched-requires-clause-keyed : goal.settle_touched-requires-clause-keyed
settle_touched-requires-clause-keyed c = record { ordered = sound_ordered c.args.draft.now.content c.requires.sound; graphs = c.requires.sound.graphs_by_id }

pub settle_touched-requires-clause-still : goal.settle_touched-requires-clause-still
settle_touched-requires-clause-still c =
    subst (λ (s : Schedule). move s ≡ None) (sym c.requires.based) (subst (λ (h : ScheduleValue). move h.content ≡ None) c.self.view_is (c.self.invariant.held.settled c.if-self.true).settled)

pub settle_touched-requires-clause-ordered : goal.settle_touched-requires-clause-ordered
settle_touched-requires-clause-ordered c =
    subst IsOrdered (sym c.requires.based) (subst (λ (h : ScheduleValue). IsOrdered h.content) c.self.view_is (sound_ordered _ c.self.invariant.held.kept.sound))

pub settle_touched-requires-clause-dags : goal.settle_touched-requires-clause-dags
settle_touched-requires-clause-dags c = c.requires.dags

pub returns-then-self-clause-base : goal.returns-then-self-clause-base
returns-then-self-clause-base c = c.settle_touched.ensures.base

pub returns-then-self-clause-settled : goal.returns-then-self-clause-settled
returns-then-self-clause-settled c = c.settle_touched.ensures.settled

pub settle-requires : goal.settle-requires
settle-requires c = record { ordered = sound_ordered c.args.draft.now.content c.requires.sound; graphs = c.requires.sound.graphs_by_id }

pub returns-clause-base : goal.returns-clause-base
returns-clause-base c = c.settle.ensures.base

pub returns-clause-settled : goal.returns-clause-settled
returns-clause-settled c = c.settle.ensures.settled
