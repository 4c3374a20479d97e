use Rattle.std.proofs.Common.{◌∙◌, sym, subst, Ok, Err}
use Rattle.sched_state.specs.declared.clearings.Clearing.{Clearing}
use Rattle.sched_model.specs.Schedule.{Schedule}
use Rattle.sched_clearing.specs.Selections.{SelectionParts, IsClear}
use Rattle.sched_clearing.specs.Marking.{IsPassedOver}
use Rattle.sched_clearing.proofs.MarkingLemmas.{names_nothing, no_run, passed, run_there, still_open}
use Rattle.sched_clearing.proofs.marking.pass_over.Goals as goal

pub returns-in-Err-clause-passed : goal.returns-in-Err-clause-passed
returns-in-Err-clause-passed c =
    let a : Schedule = c.args.draft.now.content in
    let x : Clearing = c.args.one.now in
    let h : IsClear a x (Err c.in-Err.fault) = subst (IsClear a x) c.in-Err.is c.named_by_clear.ensures in
    subst (λ f. IsPassedOver a x a (Err f)) (sym c.fault_of.ensures) (names_nothing a a x c.in-Err.fault h)

pub returns-in-Some-clause-passed : goal.returns-in-Some-clause-passed
returns-in-Some-clause-passed c =
    let a : Schedule = c.args.draft.now.content in
    let x : Clearing = c.args.one.now in
    let n : SelectionParts = c.in-Ok.selection in
    let h : IsClear a x (Ok n) = subst (IsClear a x) c.in-Ok.is c.named_by_clear.ensures in
    still_open a a x n c.in-Some.serial h (sym c.in-Some.is ∙ c.least_in_flight.ensures)

pub returns-in_default-find-clause-passed : goal.returns-in_default-find-clause-passed
returns-in_default-find-clause-passed c =
    let a : Schedule = c.args.draft.now.content in
    let x : Clearing = c.args.one.now in
    let n : SelectionParts = c.in-Ok.selection in
    let h : IsClear a x (Ok n) = subst (IsClear a x) c.in-Ok.is c.named_by_clear.ensures in
    no_run a a x n h (sym c.in_default.is ∙ c.least_in_flight.ensures) c.in_default-find.ensures

pub returns-clause-passed : goal.returns-clause-passed
returns-clause-passed c =
    let a : Schedule = c.args.draft.now.content in
    let x : Clearing = c.args.one.now in
    let n : SelectionParts = c.in-Ok.selection in
    let h : IsClear a x (Ok n) = subst (IsClear a x) c.in-Ok.is c.named_by_clear.ensures in
    passed a c.set.new.draft.content x n h (sym c.in_default.is ∙ c.least_in_flight.ensures) (run_there a x.graph x.from c.in-Some-find._position c.in-Some-find.ensures) (c.in_ok-_count.ensures.draft c.requires)
