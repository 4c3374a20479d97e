use Rattle.std.proofs.Common.{◌∙◌, refl, ap, arith}
use Rattle.sched_draft.specs.Drafts.{DraftValue}
use Rattle.dag_check.specs.Orders.{is_in}
use Rattle.sched_core.proofs.LoseLemmas.{lose_begins, lose_turn, lose_count, lose_over}
use Rattle.sched_core.proofs.losing.lose_in.Goals as goal

pub loop-place-init : goal.loop-place-init
loop-place-init c = record { base = refl; own = c.requires.own; content = lose_begins c.args.position c.args.draft.now.content }

pub lose_at-requires-clause-own : goal.lose_at-requires-clause-own
lose_at-requires-clause-own c = c.loop-place.invariant.own

pub lose_at-requires-clause-instance : goal.lose_at-requires-clause-instance
lose_at-requires-clause-instance c =
    let n = lose_count c.args.position c.loop-place.place c.args.draft.now.content c.loop-place.draft.content c.run.result.now c.run.ensures c.loop-place.invariant.content in
    omega (arith, n, c.loop-place-test.true)

pub loop-place-preserved : goal.loop-place-preserved
loop-place-preserved c = record {
  base = ap (λ (v : DraftValue). v.base) c.lose_at.ensures ∙ c.loop-place.invariant.base;
  own = ap (λ (v : DraftValue). is_in v.touched c.args.position) c.lose_at.ensures ∙ c.loop-place.invariant.own;
  content = lose_turn c.args.position c.loop-place.place c.args.draft.now.content c.loop-place.draft.content c.lose_at.new.self.content c.loop-place.invariant.content (ap (λ (v : DraftValue). v.content) c.lose_at.ensures);
}

pub returns-clause-draft : goal.returns-clause-draft
returns-clause-draft c =
    lose_over c.args.position c.loop-place.place c.args.draft.now.content c.loop-place.draft.content c.run.result.now c.run.ensures (omega (arith, c.loop-place-test.false)) c.loop-place.invariant.content

pub returns-clause-base : goal.returns-clause-base
returns-clause-base c = c.loop-place.invariant.base
