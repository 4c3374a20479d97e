use Rattle.std.proofs.Common.{◌≡◌, false, ◌<◌, ◌++◌, ◌∷◌, [], length, ap, ◌∙◌, rules, arith, length-append}
use Rattle.slot_desk.specs.Holds.{has_serial, have_distinct_serials}
use Rattle.slot_desk.proofs.Distinct.{distinct_snoc}
use Rattle.slot_desk.proofs.book.LimitedBook.add.Goals as goal

pub invariant_of-self-2 : goal.invariant_of-self-2
invariant_of-self-2 g c =
    let old = c.self.inside.holds.items in
    let hold = c.args.hold in
    let new : has_serial hold.serial old ≡ false = search rules in
    let room : length old < g.row.LIMIT = search rules in
    let e : c.push_reserved.new.self.items ≡ old ++ hold ∷ [] = search rules in
    let n = ap length e in
    let m = length-append old (hold ∷ []) in
    (ap have_distinct_serials e ∙ distinct_snoc old hold c.self.invariant.0 new, omega arith)
