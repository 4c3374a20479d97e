use Rattle.std.proofs.Common.{◌∙◌, Ok, Err, sym}
use Rattle.std.proofs.lemmas.Result.{err_from_is_err_and}
use Rattle.cron_timetable.proofs.UnionLemmas.{field_of-start, joined-first, joined-last}
use Rattle.cron_timetable.proofs.reading.field_set.Goals as goal

pub elements-init : goal.elements-init
elements-init c = rw c.of_bits-set.ensures (field_of-start c.args.field c.args.text.now)

pub elements-preserved : goal.elements-preserved
elements-preserved c =
    let cut = c.in-Some.ensures in
    let step = joined-first c.args.field c.elements.set c.elements.rest.now c.in-Some.first.now c.in-Some.more.now (Ok c.in_ok-span-in-Some.span) cut.0 cut.1 cut.2 c.in_ok-span-in-Some.ensures.value in
    rw (c.union-set.ensures, c.set.ensures) (c.elements.invariant ∙ step)

pub returns-in_err-span-in-Some : goal.returns-in_err-span-in-Some
returns-in_err-span-in-Some c =
    let cut = c.in-Some.ensures in
    let step = joined-first c.args.field c.elements.set c.elements.rest.now c.in-Some.first.now c.in-Some.more.now (Err c.in_err-span-in-Some.field-0.0) cut.0 cut.1 cut.2 c.in_err-span-in-Some.ensures.value in
    let p = err_from_is_err_and c.from_residual.result c.from_residual.ensures.1 in
    rw (p.1, p.2) (sym (c.elements.invariant ∙ step))

pub returns-in_err-span-in-None : goal.returns-in_err-span-in-None
returns-in_err-span-in-None c =
    let step = joined-last c.args.field c.elements.set c.elements.rest.now (Err c.in_err-span-in-None.field-0.0) c.in-None.ensures c.in_err-span-in-None.ensures.value in
    let p = err_from_is_err_and c.from_residual-in_err-span-in-None.result c.from_residual-in_err-span-in-None.ensures.1 in
    rw (p.1, p.2) (sym (c.elements.invariant ∙ step))

pub returns-in-None : goal.returns-in-None
returns-in-None c =
    let step = joined-last c.args.field c.elements.set c.elements.rest.now (Ok c.in_ok-span-in-None.span) c.in-None.ensures c.in_ok-span-in-None.ensures.value in
    rw (c.union.ensures, c.set-in-None.ensures) (sym (c.elements.invariant ∙ step))
