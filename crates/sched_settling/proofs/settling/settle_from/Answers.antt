use Rattle.std.proofs.Common.{◌∙◌, subst, is_some}
use Rattle.std.specs.Prelude.{IfSome}
use Rattle.sched_settling.specs.States.{IsFirstStart}
use Rattle.sched_settling.specs.Marks.{IsStartAt}
use Rattle.sched_settling.proofs.StageLemmas.{stage_first, stage_next, stage_falls, start_keyed, started_covered}
use Rattle.sched_settling.proofs.settling.settle_from.Goals as goal

pub loop-position-init : goal.loop-position-init
loop-position-init c = record {
  base = c.in_ok-decide_and_end.ensures.base;
  staged = stage_first c.args.draft.now.content c.decide_and_end.new.draft.content c.requires.keyed c.in_ok-decide_and_end.ensures.ended;
  lines = c.in_ok-decide_and_end.ensures.lines;
}

pub decide_and_end_at-requires-clause-keyed : goal.decide_and_end_at-requires-clause-keyed
decide_and_end_at-requires-clause-keyed c =
    let first = subst (λ o. IsFirstStart c.loop-position.draft.content c.start_first.new.draft.content (is_some o)) c.in-Some.is c.in_ok-position.ensures.first in
    start_keyed c.loop-position.draft.content c.start_first.new.draft.content c.loop-position.invariant.staged.keyed first

pub decide_and_end_at-requires-clause-covered : goal.decide_and_end_at-requires-clause-covered
decide_and_end_at-requires-clause-covered c =
    let started = subst (λ o. IfSome o (IsStartAt c.loop-position.draft.content c.start_first.new.draft.content)) c.in-Some.is c.in_ok-position.ensures.started in
    started_covered c.args.draft.now.content c.loop-position.draft.content c.start_first.new.draft.content c.in-Some.position c.loop-position.invariant.staged started

pub loop-position-smaller : goal.loop-position-smaller
loop-position-smaller c =
    let first = subst (λ o. IsFirstStart c.loop-position.draft.content c.start_first.new.draft.content (is_some o)) c.in-Some.is c.in_ok-position.ensures.first in
    stage_falls c.args.draft.now.content c.loop-position.draft.content c.start_first.new.draft.content c.decide_and_end_at.new.draft.content c.loop-position.invariant.staged first c.in_ok-decide_and_end_at.ensures.ended

pub loop-position-preserved : goal.loop-position-preserved
loop-position-preserved c =
    let first = subst (λ o. IsFirstStart c.loop-position.draft.content c.start_first.new.draft.content (is_some o)) c.in-Some.is c.in_ok-position.ensures.first in
    record {
      base = c.in_ok-decide_and_end_at.ensures.base ∙ c.in_ok-position.ensures.base ∙ c.loop-position.invariant.base;
      staged = stage_next c.args.draft.now.content c.loop-position.draft.content c.start_first.new.draft.content c.decide_and_end_at.new.draft.content c.loop-position.invariant.staged first c.in_ok-decide_and_end_at.ensures.ended;
      lines = c.in_ok-decide_and_end_at.ensures.lines;
    }

pub returns-clause-base : goal.returns-clause-base
returns-clause-base c = c.in_ok-position.ensures.base ∙ c.loop-position.invariant.base
