use Rattle.std.proofs.Common.{◌≡◌, ◌∙◌, ◌++◌, ap, sym, subst, append-nil}
use Rattle.pool_book.specs.Pools.{Book, Entries, IsInOrder}
use Rattle.pool_book.proofs.PoolLemmas.{copied-more}
use Rattle.pool_book.proofs.pools.Pools.copy.Goals as goal

pub loop-name-init : goal.loop-name-init
loop-name-init c =
    rw c.in_ok-pools.ensures.empty (c.into_iter-name-iterator.ensures.into_iter_gives ∙ (c.iter-name-items.ensures.rest ∙ ap (λ (v : Book). v.pools) c.self.view_is))

pub loop-name-preserved : goal.loop-name-preserved
loop-name-preserved c =
    let s = subst (λ (v : Book). IsInOrder v.pools) c.self.view_is c.self.invariant.0 in
    copied-more c.args.self.now.pools c.loop-name.pools.entries c.insert.new.self.entries c.loop-name.name-iterator c.next.new.self c.in-Some.name.now c.in_ok-copy.field-0 c.in-Some.pool.now s c.loop-name.invariant c.in-Some.ensures.steps c.in_ok-copy.ensures c.in_ok-insert.ensures.entries

pub invariant_of-result : goal.invariant_of-result
invariant_of-result c =
    let all : c.loop-name.pools.entries ≡ c.self.inside.pools.entries =
    sym (append-nil c.loop-name.pools.entries) ∙ (ap (λ (es : Entries). c.loop-name.pools.entries ++ es) (sym c.in-None.ensures.steps.0) ∙ (c.loop-name.invariant ∙ ap (λ (v : Book). v.pools) (sym c.self.view_is))) in
    (subst IsInOrder (sym all) c.self.invariant.0, rw all c.self.invariant.1)

pub returns : goal.returns
returns c =
    sym (append-nil c.loop-name.pools.entries) ∙ (ap (λ (es : Entries). c.loop-name.pools.entries ++ es) (sym c.in-None.ensures.steps.0) ∙ c.loop-name.invariant)
