use Rattle.std.proofs.Common.{◌≡◌, ◌∙◌, refl, sym, ap, ℕ, List, Bool, true, false, ◌||◌, ◌==◌, inl, inr, below_more, length, slice_get, Some, true≢false, arith}
use Rattle.std.specs.BTreeSet.{insert_key}
use Rattle.std.specs.Ordering.{nat_cmp}
use Rattle.std.proofs.lemmas.Bool.{cases_lt}
use Rattle.dag_check.specs.Orders.{is_in}
use Rattle.run_lists.proofs.PositionLemmas.{in_more}
use Rattle.sched_clearing.proofs.SpanLemmas.{other_before, other_behind}
use Rattle.sched_draft.specs.Drafts.{DraftValue, IsOwn}
use Rattle.sched_state.specs.Lists.{same}
use Rattle.sched_state.specs.declared.runs.Run.{Run}
use Rattle.sched_model.specs.Schedule.{Schedule}
use Rattle.sched_core.proofs.replacing.own_runs_of.Goals as goal

or_true : (b : Bool) → (b || true) ≡ true
or_true true = refl
or_true false = refl

-- what may be changed still may
still_owned : (n m : ℕ) (ns : List ℕ) → is_in ns n ≡ true → is_in (insert_key nat_cmp ns m) n ≡ true
still_owned n m ns e = in_more n m ns ∙ (ap (λ b. m == n || b) e ∙ or_true (m == n))

-- before its span no run is of the graph
pub loop-position-init : goal.loop-position-init
loop-position-init c = record {
  base = refl;
  content = refl;
  own = λ n below r there named.
      absurd (true≢false (sym named ∙ other_before c.args.id.now c.args.draft.now.content.runs c.span_of_all-span.result.start c.span_of_all-span.result.end n r c.span_of_all-span.ensures below there));
}

pub own-requires : goal.own-requires
own-requires c =
    let long = ap (λ (s : Schedule). length s.runs) c.loop-position.invariant.content in
    omega (arith, long, c.span_of_all-span.ensures.within, c.loop-position-test.true)

pub loop-position-preserved : goal.loop-position-preserved
loop-position-preserved c = record {
  base = ap (λ (d : DraftValue). d.base) c.in_ok-own.ensures.ok ∙ c.loop-position.invariant.base;
  content = ap (λ (d : DraftValue). d.content) c.in_ok-own.ensures.ok ∙ c.loop-position.invariant.content;
  own = below_more (λ (n : ℕ). (r : Run) → slice_get c.args.draft.now.content.runs n ≡ Some r → same r.graph c.args.id.now ≡ true → IsOwn n c.own.new.self) c.loop-position.position
      (λ n below r there named.
      ap (λ (d : DraftValue). is_in d.touched n) c.in_ok-own.ensures.ok ∙ still_owned n c.loop-position.position c.loop-position.draft.touched (c.loop-position.invariant.own n below r there named))
      (λ r there named. c.in_ok-own.ensures.own);
}

-- and behind it none
pub returns-clause-own : goal.returns-clause-own
returns-clause-own c n r there named = elim (cases_lt n c.loop-position.position) [
  | inl below ↦ c.loop-position.invariant.own n below r there named
  | inr over ↦
      absurd (true≢false (sym named ∙ other_behind c.args.id.now c.args.draft.now.content.runs c.span_of_all-span.result.start c.span_of_all-span.result.end n r c.span_of_all-span.ensures (omega (arith, over, c.loop-position-test.false)) there))
]
