use Rattle.std.proofs.Common.{◌∙◌, ◌<◌, refl, sym, ap, arith, ℕ, List, Bool, length}
use Rattle.std.proofs.lemmas.Option.{slice_get-get_or, slice_get_read}
use Rattle.instance_machine.specs.Instances.{InstanceValue}
use Rattle.sched_replacing.specs.Marking.{first_tried}
use Rattle.sched_replacing.proofs.TriedLemmas.{tried_hit, tried_next, tried_over}
use Rattle.sched_replacing.proofs.causes.first_tried.Goals as goal

pub loop-place-preserved : goal.loop-place-preserved
loop-place-preserved c =
    let ms : List Bool = c.args.marks.now in
    let hs : List InstanceValue = c.as_slice-instances.result.now in
    let n : ℕ = c.loop-place.place in
    let marked : n < length ms = omega (arith, c.min-place-end.ensures, c.loop-place-test.true) in
    let inside : n < length hs = omega (arith, c.min-place-end.ensures, c.loop-place-test.true) in
    sym (tried_next ms hs n _ c.index-instances-place.result (slice_get-get_or ms n _ marked) (slice_get_read hs _ n c.index-instances-place.result refl inside c.index-instances-place.is) (sym c.has_marked_try.ensures ∙ c.if-has_marked_try.false))
    ∙ c.loop-place.invariant

pub returns-then-has_marked_try : goal.returns-then-has_marked_try
returns-then-has_marked_try c =
    let ms : List Bool = c.args.marks.now in
    let hs : List InstanceValue = c.as_slice-instances.result.now in
    let n : ℕ = c.loop-place.place in
    let marked : n < length ms = omega (arith, c.min-place-end.ensures, c.loop-place-test.true) in
    let inside : n < length hs = omega (arith, c.min-place-end.ensures, c.loop-place-test.true) in
    sym (tried_hit ms hs n _ c.index-instances-place.result (slice_get-get_or ms n _ marked) (slice_get_read hs _ n c.index-instances-place.result refl inside c.index-instances-place.is) (sym c.has_marked_try.ensures ∙ c.if-has_marked_try.true))
    ∙ (c.loop-place.invariant ∙ ap (first_tried ms) c.as_slice-instances.ensures)

pub returns : goal.returns
returns c =
    let ms : List Bool = c.args.marks.now in
    let hs : List InstanceValue = c.as_slice-instances.result.now in
    sym (tried_over ms hs c.loop-place.place (omega (arith, c.min-place-end.ensures, c.loop-place-test.false))) ∙ (c.loop-place.invariant ∙ ap (first_tried ms) c.as_slice-instances.ensures)
