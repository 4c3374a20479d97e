use Rattle.std.proofs.Common.{◌≡◌, ◌∙◌, ◌<◌, ap, length, refl, slice_get, subst, sym, ℕ, List, Option, Some, arith}
use Rattle.std.specs.Option.{option_copied}
use Rattle.std.proofs.lemmas.Option.{slice_get-get_or, slice_get_read}
use Rattle.dag_check.specs.Graphs.{no_task}
use Rattle.sched_ready.specs.Due.{due_at}
use Rattle.sched_ready.specs.Patching.{IsPlacePatched, due_before}
use Rattle.sched_ready.specs.declared.queues.Queue.{Queue}
use Rattle.sched_ready.proofs.PlacesLemmas.{patched_all, patched_more}
use Rattle.sched_ready.proofs.places.patch_places.Goals as goal

pub loop-place-preserved : goal.loop-place-preserved
loop-place-preserved c =
    let n = c.loop-place.place in
    let g = c.args.dag.now in
    let s = c.args.shelf.now in
    let r = c.args.run.now in
    let before = option_copied c.args.before in
    let mid : List (Option Queue) = c.loop-place.queues.items in
    let t = c.task-task.result.now in
    let within : n < length mid = omega (arith, c.loop-place-test.true, c.min-places.ensures, c.min.ensures, c.len-3.ensures, c.args.queues.now.ok.0, c.loop-place.invariant.long) in
    let placed : n < length g.tasks = omega (arith, c.loop-place-test.true, c.min-places.ensures, c.min.ensures, c.len.ensures.len) in
    let task : slice_get g.tasks n ≡ Some t = slice_get-get_or g.tasks n no_task placed ∙ ap (λ u. Some u) (sym c.task-task.ensures) in
    let x : Option Queue = c.index_mut.result.now in
    let slot : slice_get mid n ≡ Some x = slice_get_read mid (length mid) n x refl within c.index_mut.ensures.value in
    let y : Option Queue = c.patch_place.new.slot in
    let q = c.queue-old.result.now in
    let made : IsPlacePatched c.args.now q (due_before before t n) (due_at r t n) r.logical x y =
    subst (λ (d : Option ℕ). IsPlacePatched c.args.now q (due_before before t n) d r.logical x y) c.due_at-due.ensures
    (subst (λ (w : Option ℕ). IsPlacePatched c.args.now q w c.due_at-due.result r.logical x y) c.due_before-was.ensures c.in_ok-patch_place.ensures) in
    patched_more n c.args.now g s before r c.args.queues.now.items mid x y t q within task c.queue-old.ensures slot made c.loop-place.invariant

pub returns : goal.returns
returns c =
    patched_all c.loop-place.place c.args.now c.args.dag.now c.args.shelf.now (option_copied c.args.before) c.args.run.now c.args.queues.now.items c.loop-place.queues.items
    (λ p a b d. omega (arith, a, b, d, c.loop-place-test.false, c.min-places.ensures, c.min.ensures, c.len.ensures.len, c.len-2.ensures, c.len-3.ensures, c.args.queues.now.ok.0, c.loop-place.invariant.long)) c.loop-place.invariant
