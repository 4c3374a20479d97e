use Rattle.std.proofs.Common.{List, sym, subst}
use Rattle.std.specs.List.Sorted.{IsStrictlySortedBy}
use Rattle.instance_machine.proofs.MarkLemmas.{rises-without_first}
use Rattle.instance_machine.proofs.dirty.Dirty.take_first.Goals as goal

pub invariant_of-self : goal.invariant_of-self
invariant_of-self g c = subst (λ (ks : List g.row.K.Denot). IsStrictlySortedBy g.K.Ord.cmp ks) (sym c.pop_front.ensures.rest) (rises-without_first g.K.Ord.cmp c.self.inside.keys.items c.self.invariant)
