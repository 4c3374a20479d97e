use Rattle.std.proofs.Common.{◌≡◌, ◌∙◌, List, ap, not, filter, sym, subst, arith, Option, None, Some, OnSome, Result, ℕ}
use Rattle.std.proofs.lemmas.Option.{none-some}
use Rattle.std.proofs.lemmas.List.Kept.{IsStrictlySortedBy-filter}
use Rattle.std.specs.List.Sorted.{IsStrictlySortedBy, IsBinarySearchResult}
use Rattle.std.specs.Ordering.{eq_by_cmp}
use Rattle.instance_machine.specs.Marks.{Marked}
use Rattle.instance_machine.proofs.MarkLemmas.{unmarked-none, unmarked-there}
use Rattle.instance_machine.proofs.dirty.Dirty.unmark.Goals as goal

-- a removal that succeeds
removed : {X P : Type 0} (r : Option X) (x : X) → r ≡ Some x → OnSome r P → P
removed None x e h = absurd (none-some x e)
removed (Some y) x e h = h

pub returns-in-Ok-clause-keys : goal.returns-in-Ok-clause-keys
returns-in-Ok-clause-keys g c =
    let items = c.self.inside.keys.items in
    let there = c.remove.ensures.succeeds c.args.key.now c.in-Ok.ensures.bound in
    removed c.remove.result _ there c.remove.ensures.items
    ∙ (unmarked-there g.met.K.Ord.total c.args.key.now items c.in-Ok.at c.self.invariant (omega (arith, c.in-Ok.ensures.bound, c.self.inside.keys.ok.0)) c.in-Ok.ensures.ok
    ∙ ap (λ (v : Marked g.row.K.Denot). filter (λ k. not (eq_by_cmp g.K.Ord.cmp c.args.key.now k)) v.keys) c.self.view_is)

pub invariant_of-self : goal.invariant_of-self
invariant_of-self g c =
    let keys = returns-in-Ok-clause-keys g c in
    let s = subst (λ (v : Marked g.row.K.Denot). IsStrictlySortedBy g.K.Ord.cmp v.keys) c.self.view_is c.self.invariant in
    subst (λ (ks : List g.row.K.Denot). IsStrictlySortedBy g.K.Ord.cmp ks) (sym keys) (IsStrictlySortedBy-filter g.K.Ord.cmp (λ k. not (eq_by_cmp g.K.Ord.cmp c.args.key.now k)) c.args.self.now.keys s)

pub returns-in_default-clause-keys : goal.returns-in_default-clause-keys
returns-in_default-clause-keys g c =
    let found = subst (λ (r : Result ℕ ℕ). IsBinarySearchResult (λ y. g.K.Ord.cmp y c.args.key.now) c.self.inside.keys.items r) c.in_default.is c.binary_search.ensures.position in
    subst (λ (v : Marked g.row.K.Denot). v.keys ≡ filter (λ k. not (eq_by_cmp g.K.Ord.cmp c.args.key.now k)) v.keys) c.self.view_is
    (unmarked-none g.met.K.Ord.total c.args.key.now c.self.inside.keys.items c.in_default.field-0 c.self.invariant found)
