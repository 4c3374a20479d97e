use Rattle.std.proofs.Common.{◌≡◌, ◌+◌, ◌<◌, length, get_or, ap, ◌∙◌, rules, arith}
use Rattle.std.specs.List.{remove}
use Rattle.std.proofs.lemmas.List.Sums.{sum_by-remove}
use Rattle.slot_desk.specs.declared.holds.Hold.{Hold}
use Rattle.slot_desk.specs.Holds.{have_distinct_serials, without, slots_of}
use Rattle.slot_desk.proofs.Distinct.{distinct_less, remove_is_without}
use Rattle.slot_desk.proofs.locked.LockedBook.leave.Goals as goal

pub invariant_of-self-2 : goal.invariant_of-self-2
invariant_of-self-2 g c =
    let hold = c.in-Some-remove.hold in
    let counted : c.sub.new.self.total + hold.slots ≡ c.self.inside.total.total = search rules in
    let slots : slots_of c.remove.new.self + hold.slots ≡ slots_of c.self.inside.book = search rules in
    let had : c.self.inside.total.total ≡ slots_of c.self.inside.book = c.self.invariant in
    omega arith

pub invariant_of-share-2 : goal.invariant_of-share-2
invariant_of-share-2 g c =
    let old = c.share.inside.holds.items in
    let place = c.in-Some.place in
    let hold = c.in-Some-remove.hold in
    let below : place < length old = search rules in
    let is : hold ≡ get_or old place hold = search rules in
    let slots : hold.slots ≡ (get_or old place hold).slots = ap (λ (h : Hold). h.slots) is in
    let gone = sum_by-remove (λ (h : Hold). h.slots) old place hold below in
    let rest : slots_of c.remove-2.new.self.items ≡ slots_of (remove old place) = ap slots_of c.remove-2.ensures.items in
    let counted : c.sub.new.share.amount + hold.slots ≡ c.share.inside.counted.amount = search rules in
    let had = c.share.invariant.2 in
    (ap have_distinct_serials c.remove-2.ensures.items ∙ distinct_less old place c.share.invariant.0, search rules, omega arith)

pub returns-clause-left : goal.returns-clause-left
returns-clause-left g c =
    let old = c.share.inside.holds.items in
    let place = c.in-Some.place in
    let hold = c.in-Some-remove.hold in
    let below : place < length old = search rules in
    let is : (get_or old place hold).serial ≡ c.args.serial = search rules in
    let left = remove_is_without c.args.serial old place hold below is c.share.invariant.0 in
    let asked : c.index.result.now ≡ get_or old place hold = search rules in
    let rest : c.remove.new.self ≡ without c.index.result.now.serial c.self.inside.book = search rules in (
      rest
          ∙ (ap (λ s. without s c.self.inside.book) (ap (λ (h : Hold). h.serial) asked ∙ is) ∙ ap (without c.args.serial) c.self.view_is),
      c.remove-2.ensures.items ∙ (left ∙ ap (without c.args.serial) c.share.view_is),
    )
