use Rattle.std.proofs.Common.{◌≡◌, ◌∙◌, ◌<◌, ap, length, slice_get, sym, true≢false, Some, arith}
use Rattle.std.specs.Option.{option_copied}
use Rattle.std.proofs.lemmas.Option.{slice_get-get_or, slice_get_within}
use Rattle.dag_check.specs.Graphs.{no_task}
use Rattle.sched_ready.proofs.PlacesLemmas.{due_more}
use Rattle.sched_ready.proofs.places.is_due_as_before.Goals as goal

pub loop-place-init : goal.loop-place-init
loop-place-init c p t l e = absurd (omega (arith, l))

pub loop-place-preserved : goal.loop-place-preserved
loop-place-preserved c =
    let n = c.loop-place.place in
    let g = c.args.dag.now in
    let t = c.task-task.result.now in
    let placed : n < length g.tasks = omega (arith, c.loop-place-test.true, c.len-place-end.ensures.len) in
    let task : slice_get g.tasks n ≡ Some t = slice_get-get_or g.tasks n no_task placed ∙ ap (λ u. Some u) (sym c.task-task.ensures) in
    due_more n g (option_copied c.args.before) c.args.run.now t task (sym c.due_before-was.ensures ∙ (c.is_same.ensures c.if-not-is_same.false ∙ c.due_at-due.ensures)) c.loop-place.invariant

pub returns-then-not-is_same : goal.returns-then-not-is_same
returns-then-not-is_same c e = absurd (true≢false (sym e))

pub returns : goal.returns
returns c e p t there = let within = slice_get_within c.args.dag.now.tasks p t there in c.loop-place.invariant p t (omega (arith, within, c.loop-place-test.false, c.len-place-end.ensures.len)) there
