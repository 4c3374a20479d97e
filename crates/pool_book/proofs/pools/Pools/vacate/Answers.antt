use Rattle.std.proofs.Common.{◌∙◌, ap, sym}
use Rattle.std.specs.Option.{option_copied_mut}
use Rattle.pool_book.specs.Pools.{Book, give_back, pool_of}
use Rattle.pool_book.proofs.PoolLemmas.{with-written, not-there}
use Rattle.pool_book.proofs.pools.Pools.vacate.Goals as goal
use Rattle.pool_book.proofs.pools.Pools.vacate.Goals.{in-Some, in_default}

pub returns-clause-pools : goal.returns-clause-pools
returns-clause-pools c =
    let k = c.args.name.now in
    let there = ap (λ (v : Book). pool_of k v.pools) c.self.view_is in
    rw (← c.self.view_is)
    (elim c.match-get_mut.branch [
      | in-Some w ↦
          rw w.self-inside-is
          (with-written k c.self.inside.pools _ w.vacate.new.self (c.get_mut.follows.holds w.vacate.new.self) (give_back c.args.slots) w.in-Some.pool.now c.self.invariant.0 w.in-Some.ensures.value w.vacate.ensures)
      | in_default w ↦ absurd (not-there _ c.requires.there (ap option_copied_mut (sym w.in_default.is) ∙ (c.get_mut.ensures.value ∙ there)))
    ])
