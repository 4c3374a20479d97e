use Rattle.std.proofs.Common.{◌∙◌, refl, sym, ap, length, arith}
use Rattle.sched_draft.specs.Drafts.{DraftValue}
use Rattle.sched_core.proofs.LoseLemmas.{losing_long, losing_turn, losing_pass, losing_over}
use Rattle.sched_core.proofs.losing.lose_all.Goals.{then-has_open+in_ok-own, else-has_open}
use Rattle.sched_core.proofs.losing.lose_all.Goals as goal

pub loop-position-init : goal.loop-position-init
loop-position-init c = record { base = refl; content = refl }

pub run-requires : goal.run-requires
run-requires c =
    let long = losing_long c.loop-position.position c.args.draft.now.content c.loop-position.draft.content c.loop-position.invariant.content in
    let count = c.run_count-position-end.ensures in
    omega (arith, long, count, c.loop-position-test.true)

pub own-requires : goal.own-requires
own-requires c =
    let long = losing_long c.loop-position.position c.args.draft.now.content c.loop-position.draft.content c.loop-position.invariant.content in
    let count = c.run_count-position-end.ensures in
    omega (arith, long, count, c.loop-position-test.true)

pub lose_in-requires-clause-within : goal.lose_in-requires-clause-within
lose_in-requires-clause-within c =
    let long = losing_long c.loop-position.position c.args.draft.now.content c.loop-position.draft.content c.loop-position.invariant.content in
    let count = c.run_count-position-end.ensures in
    let same = ap (λ (v : DraftValue). length v.content.runs) c.in_ok-own.ensures.ok in
    omega (arith, long, count, same, c.loop-position-test.true)

pub loop-position-preserved : goal.loop-position-preserved
loop-position-preserved c =
    elim c.if-has_open.branch [
      | then-has_open+in_ok-own w ↦ record {
        base = ap (λ (v : DraftValue). v.base) w.draft-is ∙ (w.lose_in.ensures.base ∙ ap (λ (v : DraftValue). v.base) w.in_ok-own.ensures.ok ∙ c.loop-position.invariant.base);
        content = losing_turn c.loop-position.position c.args.draft.now.content w.own.new.self.content c.if-has_open.draft.content (ap (λ (v : DraftValue). v.content) w.in_ok-own.ensures.ok ∙ c.loop-position.invariant.content) (ap (λ (v : DraftValue). v.content) w.draft-is ∙ w.lose_in.ensures.draft);
      }
      | else-has_open w ↦ record {
        base = ap (λ (v : DraftValue). v.base) w.draft-is ∙ c.loop-position.invariant.base;
        content = ap (λ (v : DraftValue). v.content) w.draft-is ∙ losing_pass c.loop-position.position c.args.draft.now.content c.loop-position.draft.content c.run.result.now c.run.ensures (sym w.if-has_open.ensures) c.loop-position.invariant.content;
      }
    ]

pub returns-clause-draft : goal.returns-clause-draft
returns-clause-draft c =
    let count = c.run_count-position-end.ensures in
    losing_over c.loop-position.position c.args.draft.now.content c.loop-position.draft.content (omega (arith, count, c.loop-position-test.false)) c.loop-position.invariant.content

pub returns-clause-base : goal.returns-clause-base
returns-clause-base c = c.loop-position.invariant.base
