use Rattle.std.proofs.Common.{List, sym, subst}
use Rattle.std.specs.List.Sorted.{IsStrictlySortedBy}
use Rattle.instance_machine.proofs.dirty.Dirty.new.Goals as goal

pub invariant_of-result : goal.invariant_of-result
unfolding IsStrictlySortedBy
invariant_of-result g c = subst (λ (ks : List g.row.K.Denot). IsStrictlySortedBy g.K.Ord.cmp ks) (sym c.new.ensures.items) tt
