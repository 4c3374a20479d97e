-- A restart leaves the limits of a schedule as they are.
use Rattle.std.proofs.Common.{◌≡◌, ◌∙◌, ℕ, zero, suc, [], Option, Some, None, option_map, refl, sym, ap}
use Rattle.sched_state.specs.Lists.{repeat}
use Rattle.sched_state.specs.Limits.{Bounds}
use Rattle.sched_model.specs.Schedule.{Schedule}
use Rattle.sched_model.specs.Settle.{move, move_runs, settle, moves_left, with_runs}
use Rattle.sched_model.specs.Handout.{hand, hand_one, best_offer, serials_left}
use Rattle.sched_model.specs.Changes.{restart}
use Rattle.sched_model.specs.NamedRuns.{add_runs}
use Rattle.sched_events.specs.Steps.{step}
use Rattle.sched_events.specs.declared.events.Event.TheVariants.{Restart}

-- what each turn keeps is kept
repeat_keeps : {A B : Type 0} (g : A → B) (f : A → Option A) → ((a b : A) → f a ≡ Some b → g b ≡ g a) → (n : ℕ) (a : A) → g (repeat n f a) ≡ g a
repeat_keeps g f keeps zero a = refl
repeat_keeps g f keeps (suc n) a = elim (f a) as (λ o. f a ≡ o → g (repeat (suc n) f a) ≡ g a) [
  | Some b ↦ λ is. ap (λ o. g (elim o [ Some y ↦ repeat n f y | None ↦ a ])) is ∙ repeat_keeps g f keeps n b ∙ keeps a b is
  | None ↦ λ is. ap (λ o. g (elim o [ Some y ↦ repeat n f y | None ↦ a ])) is
] refl

abbrev limits_of : Schedule → Bounds
limits_of a = a.limits

-- what a change makes of something keeps the limits, if each does that it may make
made : {X : Type 0} (a b : Schedule) (f : X → Schedule) (o : Option X) → ((x : X) → limits_of (f x) ≡ limits_of a) → option_map f o ≡ Some b → limits_of b ≡ limits_of a
made a b f (Some x) each is = ap (λ o. elim o [ Some y ↦ limits_of y | None ↦ limits_of a ]) (sym is) ∙ each x
made a b f None each is = ap (λ o. elim o [ Some y ↦ limits_of y | None ↦ limits_of a ]) (sym is)

pub restarted : (lanes : ℕ) (a : Schedule) → (step (Restart lanes) a).limits ≡ a.limits
unfolding step
restarted lanes a =
    let b : Schedule = add_runs [] (restart lanes a) in
    repeat_keeps limits_of hand_one (λ x y. made x y (hand x) (best_offer x) (λ o. refl)) (serials_left (settle b)) (settle b)
    ∙ repeat_keeps limits_of move (λ x y. made x y (with_runs x) (move_runs x) (λ rs. refl)) (moves_left b) b
