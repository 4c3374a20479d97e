use Rattle.std.proofs.Common.{◌≡◌, ap, subst, sym, ℕ, List, Ok, Err}
use Rattle.sched_model.specs.Schedule.{Schedule}
use Rattle.sched_clearing.specs.Marking.{IsMarkedAs}
use Rattle.sched_core.specs.Repairs.{IsMark}
use Rattle.sched_core.proofs.MarkLemmas.{mark_made, mark_waits}
use Rattle.sched_core.proofs.marking.pass_over.Goals as goal

pub returns-in-Ok-clause-marked : goal.returns-in-Ok-clause-marked
returns-in-Ok-clause-marked c =
    let a : Schedule = c.args.draft.now.content in
    let id : List ℕ = c.args.graph.now in
    let task : List ℕ = c.args.task.now in
    mark_made a c.mark.new.draft.content id c.args.logical task (subst (IsMarkedAs a id c.args.logical task c.mark.new.draft.content) c.in-Ok.is c.mark.ensures.marked)

pub returns-in-Err-clause-marked : goal.returns-in-Err-clause-marked
returns-in-Err-clause-marked c =
    let a : Schedule = c.args.draft.now.content in
    let id : List ℕ = c.args.graph.now in
    let task : List ℕ = c.args.task.now in
    let waits = mark_waits a c.mark.new.draft.content id c.args.logical task c.in-Err.fault (subst (IsMarkedAs a id c.args.logical task c.mark.new.draft.content) c.in-Err.is c.mark.ensures.marked) in
    subst (λ r. IsMark a id c.args.logical task c.mark.new.draft.content (Err r)) (sym c.refusal_of.ensures) waits
