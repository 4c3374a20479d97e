use Rattle.std.proofs.Common.{◌≡◌, ◌∙◌, ◌<◌, ◌≤◌, ◌-◌, ℕ, List, length, ap, sym, subst, arith, Result, Ok, Err, OnOk, OnErr}
use Rattle.std.specs.BTreeSet.{insert_key}
use Rattle.std.specs.List.Sorted.{IsStrictlySortedBy, IsSearchInRange}
use Rattle.graph_file.proofs.SortedLemmas.{sorted-insert_key}
use Rattle.instance_machine.specs.Marks.{Marked}
use Rattle.instance_machine.proofs.MarkLemmas.{marked-there, marked-new}
use Rattle.instance_machine.proofs.dirty.Dirty.mark.Goals as goal

pub returns-in-Ok-clause-keys : goal.returns-in-Ok-clause-keys
returns-in-Ok-clause-keys g c =
    let items = c.self.inside.keys.items in
    let count = c.self.inside.keys.ok.0 in
    subst (λ (v : Marked g.row.K.Denot). v.keys ≡ insert_key g.K.Ord.cmp v.keys c.args.key) c.self.view_is
    (marked-there g.met.K.Ord.total c.args.key items c.in-Ok.field-0 c.self.invariant (omega (arith, c.in-Ok.ensures.bound, count)) c.in-Ok.ensures.ok)

-- with room it is not refused
put : {X Y P : Type 0} (r : Result X Y) (room len : ℕ) → 0 < room - len → OnErr r (room ≤ len) → OnOk r P → P
put (Ok x) room len free full done = done
put (Err y) room len free full done = absurd (omega (arith, free, full))

pub returns-in-Err-clause-keys : goal.returns-in-Err-clause-keys
returns-in-Err-clause-keys g c =
    let items = c.self.inside.keys.items in
    let free = subst (λ (v : Marked g.row.K.Denot). 0 < v.room) (sym c.self.view_is) c.requires in
    let bound : IsSearchInRange (Err c.in-Err.at) (length items) = omega (arith, c.in-Err.ensures.bound, c.self.inside.keys.ok.0) in
    put c.insert.result _ _ free c.insert.ensures.full c.insert.ensures.items
    ∙ (marked-new g.met.K.Ord.total c.args.key items c.in-Err.at c.self.invariant bound c.in-Err.ensures.position
    ∙ ap (λ (v : Marked g.row.K.Denot). insert_key g.K.Ord.cmp v.keys c.args.key) c.self.view_is)

pub invariant_of-self : goal.invariant_of-self
invariant_of-self g c =
    let keys = returns-in-Err-clause-keys g c in
    subst (λ (ks : List g.row.K.Denot). IsStrictlySortedBy g.K.Ord.cmp ks) (sym keys)
    (sorted-insert_key g.met.K.Ord.total c.args.key c.args.self.now.keys (subst (λ (v : Marked g.row.K.Denot). IsStrictlySortedBy g.K.Ord.cmp v.keys) c.self.view_is c.self.invariant))
