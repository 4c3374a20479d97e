use Rattle.std.proofs.Common.{◌≡◌, ◌∙◌, ◌-◌, ap, sym, subst, List, arith}
use Rattle.run_lists.specs.declared.edits.Edit.{Edit}
use Rattle.run_lists.specs.Edits.{AreEditsOf, edited}
use Rattle.run_lists.specs.Rooms.{all_added}
use Rattle.run_lists.proofs.WriteLemmas.{IsWriting, at_within, has_place, written_is, written_one}
use Rattle.run_lists.proofs.runs.Runs.write.Goals as goal

pub loop-edit-init : goal.loop-edit-init
loop-edit-init c =
    let es : c.edits.inside.edits.items ≡ c.args.edits = c.edits.view_is in
    let count : all_added c.edits.inside.edits.items ≡ all_added c.args.edits = ap all_added es in
    let fit : AreEditsOf c.args.self.now.runs c.edits.inside.edits.items = subst (AreEditsOf c.args.self.now.runs) (sym es) c.requires.edits in
    subst (λ (xs : List Edit). IsWriting c.args.self.now.runs (edited c.args.edits c.args.self.now.runs) xs c.args.self.now.runs c.args.self.now.room (c.args.self.now.room - all_added c.args.edits)) (sym c.into_iter-edit-iterator.ensures.into_iter_gives.0)
    (record {
      more = 0;
      from = 0;
      edits = fit;
      rest = written_is c.edits.inside.edits.items c.args.self.now.runs fit ∙ ap (λ (xs : List Edit). edited xs c.args.self.now.runs) es;
      long = omega arith;
      places = omega (arith, c.requires.places, count);
    })

pub put-requires-clause-within : goal.put-requires-clause-within
put-requires-clause-within c = at_within _ _ c.in-Some.edit _ _ _ _ _ c.loop-edit.invariant c.in-Some.ensures.steps.0

pub put-requires-clause-place : goal.put-requires-clause-place
put-requires-clause-place c = has_place _ _ c.in-Some.edit _ _ _ _ _ c.loop-edit.invariant c.in-Some.ensures.steps.0

pub loop-edit-preserved : goal.loop-edit-preserved
loop-edit-preserved c = written_one _ _ c.in-Some.edit _ _ _ _ _ _ _ c.loop-edit.invariant c.in-Some.ensures.steps.0 c.put.ensures.runs c.put.ensures.room
