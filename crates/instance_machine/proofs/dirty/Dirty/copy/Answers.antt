use Rattle.std.proofs.Common.{◌≡◌, ◌∙◌, List, sym, subst, arith}
use Rattle.std.specs.List.Sorted.{IsStrictlySortedBy}
use Rattle.instance_machine.proofs.MarkLemmas.{take_all}
use Rattle.instance_machine.proofs.dirty.Dirty.copy.Goals as goal

pub invariant_of-result : goal.invariant_of-result
invariant_of-result g c =
    let all = take_all c.self.inside.keys.items c.loop-at.at (omega (arith, c.loop-at-test.false, c.len-at-end.ensures, c.self.inside.keys.ok.0)) in
    let same : c.reserve.new.self.items ≡ c.self.inside.keys.items = c.reserve.ensures.items ∙ (c.loop-at.invariant ∙ all) in
    subst (λ (ks : List g.row.K.Denot). IsStrictlySortedBy g.K.Ord.cmp ks) (sym same) c.self.invariant
