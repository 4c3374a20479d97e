use Rattle.std.proofs.Common.{◌≡◌, ◌∙◌, ◌∷◌, ◌++◌, ap, sym, subst, append-nil}
use Rattle.pool_book.specs.Pools.{Book, Entries, PoolUse, IsInOrder, vacated}
use Rattle.pool_book.proofs.PoolLemmas.{copied-more, in_order-vacated, length-vacated}
use Rattle.pool_book.proofs.pools.Pools.vacant_copy.Goals as goal

pub loop-name-init : goal.loop-name-init
loop-name-init c =
    rw c.in_ok-pools.ensures.empty (ap vacated (c.into_iter-name-iterator.ensures.into_iter_gives ∙ (c.iter-name-items.ensures.rest ∙ ap (λ (v : Book). v.pools) c.self.view_is)))

pub loop-name-preserved : goal.loop-name-preserved
loop-name-preserved c =
    let s = in_order-vacated c.args.self.now.pools (subst (λ (v : Book). IsInOrder v.pools) c.self.view_is c.self.invariant.0) in
    let empty : c.new.result ≡ record { size = c.in-Some.pool.now.size; occupied = 0 } = c.new.ensures ∙ ap (λ n. record { size = n; occupied = 0 }) c.size.ensures in
    copied-more (vacated c.args.self.now.pools) c.loop-name.pools.entries c.insert.new.self.entries (vacated c.loop-name.name-iterator) (vacated c.next.new.self) c.in-Some.name.now c.in_ok-copy.field-0 c.new.result s
    c.loop-name.invariant (ap vacated c.in-Some.ensures.steps ∙ ap (λ (v : PoolUse). (c.in-Some.name.now, v) ∷ vacated c.next.new.self) (sym empty)) c.in_ok-copy.ensures c.in_ok-insert.ensures.entries

pub invariant_of-result : goal.invariant_of-result
invariant_of-result c =
    let all : c.loop-name.pools.entries ≡ vacated c.self.inside.pools.entries =
    sym (append-nil c.loop-name.pools.entries) ∙ (ap (λ (es : Entries). c.loop-name.pools.entries ++ vacated es) (sym c.in-None.ensures.steps.0) ∙ (c.loop-name.invariant ∙ ap (λ (v : Book). vacated v.pools) (sym c.self.view_is))) in
    (subst IsInOrder (sym all) (in_order-vacated c.self.inside.pools.entries c.self.invariant.0), rw (all, length-vacated c.self.inside.pools.entries) c.self.invariant.1)

pub returns : goal.returns
returns c =
    sym (append-nil c.loop-name.pools.entries) ∙ (ap (λ (es : Entries). c.loop-name.pools.entries ++ vacated es) (sym c.in-None.ensures.steps.0) ∙ c.loop-name.invariant)
