use Rattle.std.proofs.Common.{◌≡◌, false, ◌+◌, ◌++◌, ◌∷◌, [], ap, ◌∙◌, rules, arith}
use Rattle.std.proofs.lemmas.List.Sums.{sum_by-append}
use Rattle.slot_desk.specs.declared.holds.Hold.{Hold}
use Rattle.slot_desk.specs.Holds.{has_serial, have_distinct_serials, slots_of}
use Rattle.slot_desk.proofs.Distinct.{distinct_snoc}
use Rattle.slot_desk.proofs.locked.LockedBook.enter.Goals as goal

pub invariant_of-share-2 : goal.invariant_of-share-2
invariant_of-share-2 g c =
    let old = c.share.inside.holds.items in
    let hold = c.args.hold in
    let new : has_serial hold.serial old ≡ false = search rules in
    let e : c.push_reserved.new.self.items ≡ old ++ hold ∷ [] = search rules in
    let all : slots_of c.push_reserved.new.self.items ≡ slots_of (old ++ hold ∷ []) = ap slots_of e in
    let more = sum_by-append (λ (h : Hold). h.slots) old (hold ∷ []) in
    let counted : c.add-2.new.share.amount ≡ c.share.inside.counted.amount + hold.slots = search rules in
    let had = c.share.invariant.2 in
    (ap have_distinct_serials e ∙ distinct_snoc old hold c.share.invariant.0 new, search rules, omega arith)
