use Rattle.std.proofs.Common.{◌≡◌, ◌+◌, [], All, vec_len, vec_items}
use Rattle.slot_desk.proofs.desk.SlotDesk.open.Given as goal

abbrev pub invariant-loop-made : goal.invariant-loop-made
invariant-loop-made g l =
    (l.rest.parts + l._made ≡ l.shares)
    × (l.rest.amount ≡ 0)
    × (vec_len l.all ≡ l._made)
    × All (λ share. share ≡ []) (vec_items l.all)
