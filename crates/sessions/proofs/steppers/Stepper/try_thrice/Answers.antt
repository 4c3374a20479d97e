use Rattle.std.proofs.Common.{[], ◌∷◌, ◌++◌, refl, arith, length-append}
use Rattle.std.proofs.lemmas.List.Elements.{All-append, All-cons, All-nil}
use Rattle.sqlite.specs.Held.{state}
use Rattle.director.specs.Faults.{IsFaultOfStore}
use Rattle.director.specs.Written.{came_of}
use Rattle.director.specs.declared.faults.Fault.TheVariants.{Refused}
use Rattle.sessions.proofs.GoesLemmas.{came_err, came_ok, err_is, if_err_all, is_stores, not_yet, tried_again, vain_then}
use Rattle.sessions.proofs.steppers.Stepper.try_thrice.Goals as goal

pub loop-init : goal.loop-init
loop-init g c = ([], All-nil IsFaultOfStore, refl, not_yet (state g.S.Store) c.args.event.now c.args.self.now)

pub returns-in-Ok : goal.returns-in-Ok
returns-in-Ok g c =
    let was = c.loop.invariant in
    (was.0, (was.1, omega arith, tt), tried_again (state g.S.Store) was.3 c.try_step.ensures.tried (came_ok c.in-Ok.is))

pub returns-in-Refused : goal.returns-in-Refused
returns-in-Refused g c =
    let was = c.loop.invariant in (
      was.0,
      (was.1, omega arith, λ h. absurd h),
      tried_again (state g.S.Store) was.3 c.try_step.ensures.tried
          (err_is (came_of c.try_step.result) c.in-Err.fault (Refused c.in-Refused.refusal) (came_err c.in-Err.is) c.in-Refused.is),
    )

pub loop-preserved : goal.loop-preserved
loop-preserved g c =
    let was = c.loop.invariant in
    let count = length-append was.0 (c.in-Err.fault ∷ []) in
    let stores : IsFaultOfStore c.in-Err.fault = is_stores c.loop.self.director.schedule.content c.try_step.new.self.director.schedule.content c.args.event.now c.in-Err.fault c.in-Err.ensures.tried.outcome c.in_default.not-Refused in (
      was.0 ++ c.in-Err.fault ∷ [],
      All-append IsFaultOfStore was.0 (c.in-Err.fault ∷ []) was.1 (All-cons IsFaultOfStore c.in-Err.fault [] stores (All-nil IsFaultOfStore)),
      omega (arith, count, was.2),
      vain_then (state g.S.Store) was.3 c.try_step.ensures.tried (came_err c.in-Err.is) stores (omega (arith, count)),
    )

pub returns : goal.returns
returns g c =
    let was = c.loop.invariant in (
      was.0,
      (was.1, omega arith, if_err_all (came_of c.try_step-last.result) _ (λ f h. omega arith)),
      tried_again (state g.S.Store) was.3 c.try_step-last.ensures.tried refl,
    )
