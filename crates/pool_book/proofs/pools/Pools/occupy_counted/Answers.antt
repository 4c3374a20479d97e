use Rattle.std.proofs.Common.{◌∙◌, ap, sym}
use Rattle.std.specs.Option.{option_copied_mut}
use Rattle.pool_book.specs.Pools.{Book, take_counted, pool_of}
use Rattle.pool_book.proofs.PoolLemmas.{with-written, with-none}
use Rattle.pool_book.proofs.pools.Pools.occupy_counted.Goals as goal
use Rattle.pool_book.proofs.pools.Pools.occupy_counted.Goals.{in-Some, in_default}

pub returns-clause-pools : goal.returns-clause-pools
returns-clause-pools c =
    let k = c.args.name.now in
    let f = take_counted c.args.slots in
    let there = ap (λ (v : Book). pool_of k v.pools) c.self.view_is in
    rw (← c.self.view_is)
    (elim c.match-get_mut.branch [
      | in-Some w ↦
          rw w.self-inside-is
          (with-written k c.self.inside.pools _ w.occupy_counted.new.self (c.get_mut.follows.holds w.occupy_counted.new.self) f w.in-Some.pool.now c.self.invariant.0 w.in-Some.ensures.value w.occupy_counted.ensures)
      | in_default w ↦ rw w.self-inside-is (ap (λ m. m.entries) c.get_mut.follows.holds-at-none ∙ sym (with-none k f c.self.inside.pools.entries (ap option_copied_mut (sym w.in_default.is) ∙ c.get_mut.ensures.value)))
    ])
