use Rattle.std.proofs.Common.{◌≡◌, ◌∙◌, ◌≤◌, ap, sym, subst, arith, Bool, true, false, cond, is_some, HashMap, BuildHasherDefault, FoldHasher, None, option_map, unwrap_or}
use Rattle.std.specs.BTreeMap.{insert_entry}
use Rattle.std.specs.Option.{option_copied_mut}
use Rattle.pool_book.specs.Pools.{Name, PoolUse, Entries, IsInOrder, name_cmp, pool_of}
use Rattle.pool_book.proofs.PoolLemmas.{put-written, in_order-inserted, put-inserted}
use Rattle.pool_book.proofs.pools.Pools.resize.Goals as goal
use Rattle.pool_book.proofs.pools.Pools.resize.Goals.{in-Ok, in-Err}

abbrev Pools : Type 0
Pools = HashMap Name PoolUse (BuildHasherDefault FoldHasher)

at-most_one : (b : Bool) → cond b 0 1 ≤ 1
at-most_one true = omega arith
at-most_one false = omega arith

pub returns-in-Some-clause-pools : goal.returns-in-Some-clause-pools
returns-in-Some-clause-pools c =
    let k = c.args.name in
    let m = c.self.inside.pools in
    let there = c.in-Some.ensures.value in
    let put = put-written k m _ c.resize.new.self (c.get_mut.follows.holds c.resize.new.self) c.in-Some.pool.now c.self.invariant.0 there in
    let kept : c.resize.new.self ≡ record { size = c.args.size; occupied = unwrap_or (option_map (λ (p : PoolUse). p.occupied) (pool_of k m.entries)) 0 } =
    c.resize.ensures ∙ ap (λ o. record { size = c.args.size; occupied = unwrap_or (option_map (λ (p : PoolUse). p.occupied) o) 0 }) there in
    rw (← c.self.view_is) (put ∙ ap (λ v. insert_entry name_cmp m.entries k v) kept)

pub invariant_of-self-2 : goal.invariant_of-self-2
invariant_of-self-2 c =
    let m = c.get_mut.follows.lender-at-none in
    let n = c.insert_sorted.new.self in
    let before = ap (λ (m : Pools). m.entries) c.get_mut.follows.holds-at-none in
    let s = subst IsInOrder (sym before) c.self.invariant.0 in
    elim c.match-insert_sorted.branch [
      | in-Ok w ↦ (
        in_order-inserted c.args.name m n s w.in-Ok.ensures.sorted c.insert_sorted.ensures.unique,
        let one = at-most_one (is_some w.in-Ok.field-0.1) in
            let grown = w.in-Ok.ensures.len in
            let few = c.if-len-ge-MOST_POOLS.false in
            let counted = c.len.ensures.len in
            omega (arith, one, grown, few, counted),
      )
      | in-Err w ↦ let kept : n.entries ≡ c.self.inside.pools.entries = w.in-Err.ensures.err ∙ before in (subst IsInOrder (sym kept) c.self.invariant.0, rw kept c.self.invariant.1)
    ]

pub returns-clause-pools : goal.returns-clause-pools
returns-clause-pools c =
    let m = c.get_mut.follows.lender-at-none in
    let k = c.args.name in
    let before = ap (λ (m : Pools). m.entries) c.get_mut.follows.holds-at-none in
    let s = subst IsInOrder (sym before) c.self.invariant.0 in
    let none : None ≡ pool_of k c.self.inside.pools.entries = ap option_copied_mut (sym c.in_default.is) ∙ c.get_mut.ensures.value in
    let new : c.new.result ≡ record { size = c.args.size; occupied = unwrap_or (option_map (λ (p : PoolUse). p.occupied) (pool_of k c.self.inside.pools.entries)) 0 } =
    c.new.ensures ∙ ap (λ o. record { size = c.args.size; occupied = unwrap_or (option_map (λ (p : PoolUse). p.occupied) o) 0 }) none in
    elim c.match-insert_sorted.branch [
      | in-Ok w ↦
          rw (w.result-is, ← c.self.view_is)
          (put-inserted k m c.insert_sorted.new.self s w.in-Ok.ensures.sorted c.insert_sorted.ensures.unique c.new.result w.in-Ok.ensures.updates
          ∙ (ap (λ (es : Entries). insert_entry name_cmp es k c.new.result) before ∙ ap (λ v. insert_entry name_cmp c.self.inside.pools.entries k v) new))
      | in-Err w ↦ rw w.result-is tt
    ]
