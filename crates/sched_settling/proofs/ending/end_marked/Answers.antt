use Rattle.std.proofs.Common.{◌≡◌, ◌∙◌, ◌+◌, ◌<◌, ◌∷◌, ℕ, List, subst, refl, length, drop, get_or, add-one, drop-cons, arith}
use Rattle.std.proofs.lemmas.List.{drop_all}
use Rattle.sched_model.specs.Schedule.{Schedule}
use Rattle.sched_settling.proofs.PhaseLemmas.{IsEnding, ending_next, ending_last}
use Rattle.sched_settling.proofs.MarkLemmas.{within_at}
use Rattle.sched_settling.proofs.ending.end_marked.Goals as goal

pub end_at-requires-clause-within : goal.end_at-requires-clause-within
end_at-requires-clause-within c =
    let long : length c.loop-position.draft.content.runs ≡ length c.args.draft.now.content.runs = c.loop-position.invariant.ending.long in
    let w = within_at (length c.args.draft.now.content.runs) c.args.marks.now c.loop-position.position-index c.requires.within c.loop-position-test.true in
    omega arith

pub loop-position-preserved : goal.loop-position-preserved
loop-position-preserved c =
    let i : ℕ = c.loop-position.position-index in
    let marks : List ℕ = c.args.marks.now in
    let d : Schedule = c.loop-position.draft.content in
    let inside : i < length marks = c.loop-position-test.true in
    let rest : drop i marks ≡ get_or marks i 0 ∷ drop (i + 1) marks = rw (add-one, drop-cons marks i 0) refl in
    record {
      ending = ending_next c.args.draft.now.content d c.end_at.new.draft.content (get_or marks i 0) (drop (i + 1) marks) c.loop-position.lines.items c.end_at.new.lines.items
          (subst (λ (ms : List ℕ). IsEnding c.args.draft.now.content d ms c.loop-position.lines.items) rest c.loop-position.invariant.ending) c.in_ok-end_at.ensures.ended c.in_ok-end_at.ensures.lines;
      base = c.in_ok-end_at.ensures.base ∙ c.loop-position.invariant.base;
    }

pub returns-clause-ended : goal.returns-clause-ended
returns-clause-ended c =
    let i : ℕ = c.loop-position.position-index in
    let marks : List ℕ = c.args.marks.now in
    ending_last c.args.draft.now.content c.loop-position.draft.content c.loop-position.lines.items
    (subst (λ (ms : List ℕ). IsEnding c.args.draft.now.content c.loop-position.draft.content ms c.loop-position.lines.items) (drop_all i marks c.loop-position-test.false) c.loop-position.invariant.ending)
