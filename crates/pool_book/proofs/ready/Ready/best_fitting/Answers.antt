use Rattle.std.proofs.Common.{◌≡◌, ◌∙◌, List, ap, sym, subst}
use Rattle.pool_book.specs.Keys.{Offered, IsInRank, IsFirstInRank, fits, fitting}
use Rattle.pool_book.specs.declared.keys.Key.{Key}
use Rattle.pool_book.proofs.RankLemmas.{first-fitting}
use Rattle.pool_book.proofs.ready.Ready.best_fitting.Goals as goal

pub returns-then-fits-clause-best : goal.returns-then-fits-clause-best
returns-then-fits-clause-best c =
    let items = c.deref-key-items.result.now in
    let pools = c.args.pools.now.pools in
    let rooms = c.args.rooms.now in
    let s = subst IsInRank (sym c.deref-key-items.ensures.value) c.self.invariant in
    let same : items ≡ c.args.self.now.keys = c.deref-key-items.ensures.value ∙ ap (λ (v : Offered). v.keys) c.self.view_is in
    let first = first-fitting (fits pools rooms) items c.loop-key.key-index c.key-item.result s c.loop-key-test.true c.loop-key.invariant c.key-item.is (sym c.fits.ensures ∙ c.if-fits.true) in
    subst (λ (ks : List Key). IsFirstInRank (fitting pools rooms ks) c.key-item.result) same first
