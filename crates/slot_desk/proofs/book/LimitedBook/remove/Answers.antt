use Rattle.std.proofs.Common.{◌≡◌, ◌<◌, length, get_or, ap, ◌∙◌, rules}
use Rattle.slot_desk.specs.declared.holds.Hold.{Hold}
use Rattle.slot_desk.specs.Holds.{have_distinct_serials, without}
use Rattle.slot_desk.proofs.Distinct.{distinct_less, remove_is_without}
use Rattle.slot_desk.proofs.book.LimitedBook.remove.Goals as goal

pub invariant_of-self : goal.invariant_of-self
invariant_of-self g c =
    (ap have_distinct_serials c.remove.ensures.items ∙ distinct_less c.self.inside.holds.items c.in_ok-place.place c.self.invariant.0, search rules)

pub returns-clause-rest : goal.returns-clause-rest
returns-clause-rest g c =
    let old = c.self.inside.holds.items in
    let place = c.in_ok-place.place in
    let hold = c.args.hold.now in
    let below : place < length old = search rules in
    let is : get_or old place hold ≡ hold = search rules in
    let left = remove_is_without hold.serial old place hold below (ap (λ (h : Hold). h.serial) is) c.self.invariant.0 in
    c.remove.ensures.items ∙ (left ∙ ap (without hold.serial) c.self.view_is)
