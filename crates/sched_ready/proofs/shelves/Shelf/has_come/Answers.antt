use Rattle.std.proofs.Common.{◌≡◌, ◌∙◌, ◌<◌, ◌≤◌, true, true≢false, Some, refl, ap, subst, sym, slice_get, arith}
use Rattle.std.proofs.lemmas.Bool.{leb-true}
use Rattle.sched_ready.specs.Leading.{is_reached}
use Rattle.sched_ready.specs.Shelves.{ShelfValue}
use Rattle.sched_ready.proofs.FillLemmas.{come_later}
use Rattle.sched_ready.proofs.shelves.Shelf.has_come.Goals as goal

pub returns-in-None : goal.returns-in-None
returns-in-None c e p q there m waits =
    let at : slice_get c.self.inside.queues.items p ≡ Some q = subst (λ (s : ShelfValue). slice_get s.queues p ≡ Some q) (sym c.self.view_is) there in
    let reached : is_reached m c.self.inside.soonest ≡ true = c.self.invariant.bounds.soon p m q refl at waits in
    absurd (true≢false (sym reached ∙ ap (is_reached m) c.in-None.is))

pub returns-in-Some : goal.returns-in-Some
returns-in-Some c e p q there m waits =
    let at : slice_get c.self.inside.queues.items p ≡ Some q = subst (λ (s : ShelfValue). slice_get s.queues p ≡ Some q) (sym c.self.view_is) there in
    let reached : is_reached m c.self.inside.soonest ≡ true = c.self.invariant.bounds.soon p m q refl at waits in
    let first : c.in-Some.moment ≤ m = leb-true c.in-Some.moment m (sym (ap (is_reached m) c.in-Some.is) ∙ reached) in
    let later : c.args.now < c.in-Some.moment = come_later c.in-Some.moment c.args.now e in
    omega (arith, first, later)
