use Rattle.std.proofs.Common.{◌∙◌, ap, position, refl}
use Rattle.graph_file.specs.Classes.{task_has_fault}
use Rattle.graph_file.proofs.TableLemmas.{position-view}
use Rattle.graph_file.proofs.finding.first_place.Goals as goal

pub returns-in-Some : goal.returns-in-Some
returns-in-Some c =
    let f = rw c.in-Some.is at c.faulty_task.ensures in
    let g = f ∙ position-view (task_has_fault c.args.class) c.tasks.result.now ∙ ap (position (task_has_fault c.args.class)) c.tasks.ensures in
    rw (← c.has_fault.ensures, c.if-has_fault.false, ← g) refl

pub returns-in-None : goal.returns-in-None
returns-in-None c =
    let f = rw c.in-None.is at c.faulty_task.ensures in
    let g = f ∙ position-view (task_has_fault c.args.class) c.tasks.result.now ∙ ap (position (task_has_fault c.args.class)) c.tasks.ensures in
    rw (← c.has_fault.ensures, c.if-has_fault.false, ← g) refl
