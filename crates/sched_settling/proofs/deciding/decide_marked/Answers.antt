use Rattle.std.proofs.Common.{◌≡◌, ◌∙◌, ◌<◌, ◌+◌, ◌∷◌, List, ℕ, sym, ap, subst, refl, length, arith}
use Rattle.sched_model.specs.Schedule.{Schedule}
use Rattle.sched_settling.specs.Marks.{with_next}
use Rattle.sched_settling.proofs.MarkLemmas.{IsDeciding, IsDecided, left_of, no_length, deciding_first, deciding_last, visit_same, visit_next, same_falls, next_falls, next_inside}
use Rattle.sched_settling.proofs.deciding.decide_marked.Goals as goal

pub loop-position-init : goal.loop-position-init
loop-position-init c =
    record {
      deciding = subst (λ (seen : List ℕ). IsDeciding c.args.draft.now.content c.args.draft.now.content c.args.marks.items seen) (sym c.new-seen.ensures.items)
          (deciding_first c.args.draft.now.content c.args.marks.items c.requires.ordered c.requires.covered);
      base = refl;
    }

pub mark_next-requires : goal.mark_next-requires
mark_next-requires c =
    let w : Schedule = c.loop-position.draft.content in
    let v : Schedule = c.decide_run.new.draft.content in
    let n : ℕ = c.in-Some.position in
    let rest : List ℕ = c.pop_front.new.self.items in
    let seen : List ℕ = c.loop-position.seen.items in
    let s = subst (λ (ms : List ℕ). IsDeciding c.args.draft.now.content w ms seen) c.in-Some.ensures.items c.loop-position.invariant.deciding in
    subst (λ (k : ℕ). n < k) (sym c.run_count.ensures) (next_inside c.args.draft.now.content w v n rest seen s c.in_ok-decide_run.ensures.decided)

pub loop-position-smaller-in-Continue-branch-3 : goal.loop-position-smaller-in-Continue-branch-3
loop-position-smaller-in-Continue-branch-3 c =
    let w : Schedule = c.loop-position.draft.content in
    let v : Schedule = c.decide_run.new.draft.content in
    let n : ℕ = c.in-Some.position in
    let rest : List ℕ = c.pop_front.new.self.items in
    let seen : List ℕ = c.loop-position.seen.items in
    let s = subst (λ (ms : List ℕ). IsDeciding c.args.draft.now.content w ms seen) c.in-Some.ensures.items c.loop-position.invariant.deciding in
    let marks : c.mark_next.new.marks.items ≡ with_next (length v.runs) (n + 1) rest = c.in_ok-mark_next.ensures ∙ ap (λ (k : ℕ). with_next k (n + 1) rest) c.run_count.ensures in
    subst (λ (ms : List ℕ). left_of (length v.runs) c.mark_next.new.marks.items < left_of (length w.runs) ms) (sym c.in-Some.ensures.items)
    (subst (λ (ms : List ℕ). left_of (length v.runs) ms < left_of (length w.runs) (n ∷ rest)) (sym marks) (next_falls c.args.draft.now.content w v n rest seen s c.in_ok-decide_run.ensures.decided))

pub loop-position-preserved-in-Continue-branch-3 : goal.loop-position-preserved-in-Continue-branch-3
loop-position-preserved-in-Continue-branch-3 c =
    let w : Schedule = c.loop-position.draft.content in
    let v : Schedule = c.decide_run.new.draft.content in
    let n : ℕ = c.in-Some.position in
    let rest : List ℕ = c.pop_front.new.self.items in
    let seen : List ℕ = c.loop-position.seen.items in
    let s = subst (λ (ms : List ℕ). IsDeciding c.args.draft.now.content w ms seen) c.in-Some.ensures.items c.loop-position.invariant.deciding in
    let marks : c.mark_next.new.marks.items ≡ with_next (length v.runs) (n + 1) rest = c.in_ok-mark_next.ensures ∙ ap (λ (k : ℕ). with_next k (n + 1) rest) c.run_count.ensures in
    record {
      deciding = subst (λ (ms : List ℕ). IsDeciding c.args.draft.now.content v ms c.push.new.self.items) (sym marks)
          (subst (λ (ns : List ℕ). IsDeciding c.args.draft.now.content v (with_next (length v.runs) (n + 1) rest) ns) (sym c.in_ok-push.ensures.items)
          (visit_next c.args.draft.now.content w v n rest seen s c.in_ok-decide_run.ensures.decided));
      base = c.in_ok-decide_run.ensures.base ∙ c.loop-position.invariant.base;
    }

pub loop-position-preserved : goal.loop-position-preserved
loop-position-preserved c =
    let w : Schedule = c.loop-position.draft.content in
    let v : Schedule = c.decide_run.new.draft.content in
    let n : ℕ = c.in-Some.position in
    let rest : List ℕ = c.pop_front.new.self.items in
    let seen : List ℕ = c.loop-position.seen.items in
    let s = subst (λ (ms : List ℕ). IsDeciding c.args.draft.now.content w ms seen) c.in-Some.ensures.items c.loop-position.invariant.deciding in
    record {
      deciding = subst (λ (ns : List ℕ). IsDeciding c.args.draft.now.content v rest ns) (sym c.in_ok-push.ensures.items)
          (visit_same c.args.draft.now.content w v n rest seen s c.in_ok-decide_run.ensures.decided (c.in_ok-decide_run.ensures.same c.if-branch.false));
      base = c.in_ok-decide_run.ensures.base ∙ c.loop-position.invariant.base;
    }

pub loop-position-smaller : goal.loop-position-smaller
loop-position-smaller c =
    let w : Schedule = c.loop-position.draft.content in
    let v : Schedule = c.decide_run.new.draft.content in
    let n : ℕ = c.in-Some.position in
    let rest : List ℕ = c.pop_front.new.self.items in
    let seen : List ℕ = c.loop-position.seen.items in
    let s = subst (λ (ms : List ℕ). IsDeciding c.args.draft.now.content w ms seen) c.in-Some.ensures.items c.loop-position.invariant.deciding in
    subst (λ (ms : List ℕ). left_of (length v.runs) rest < left_of (length w.runs) ms) (sym c.in-Some.ensures.items)
    (same_falls c.args.draft.now.content w v n rest seen s (c.in_ok-decide_run.ensures.same c.if-branch.false))

decided : (c : goal.After-drop-marks-2) → IsDecided c.args.draft.now.content c.loop-position.draft.content c.loop-position.seen.items
decided c =
    let e = c.in_default.ensures.cases.0 in
    let long : length c.loop-position.marks.items ≡ 0 = omega (arith, e) in
    deciding_last c.args.draft.now.content c.loop-position.draft.content c.loop-position.seen.items c.requires.ordered
    (subst (λ (ms : List ℕ). IsDeciding c.args.draft.now.content c.loop-position.draft.content ms c.loop-position.seen.items) (no_length c.loop-position.marks.items long) c.loop-position.invariant.deciding)

pub returns-clause-swept : goal.returns-clause-swept
returns-clause-swept c = (decided c).swept

pub returns-clause-within : goal.returns-clause-within
returns-clause-within c = (decided c).within

pub returns-clause-endings : goal.returns-clause-endings
returns-clause-endings c = (decided c).endings

pub returns-clause-base : goal.returns-clause-base
returns-clause-base c = c.loop-position.invariant.base
