use Rattle.std.proofs.Common.{◌≡◌, ◌∙◌, ap, subst, sym}
use Rattle.std.specs.Ordering.{nat_cmp, ordering_then}
use Rattle.std.specs.declared.cmp.Ordering.TheVariants.{Less, Greater}
use Rattle.pool_book.specs.Ranks.{RankParts, rank_cmp}
use Rattle.sched_handout.proofs.OrderLemmas.{numbers_first, numbers_last}
use Rattle.sched_handout.proofs.ranking.compare.Goals as goal

pub returns-in-Less : goal.returns-in-Less
returns-in-Less c =
    let weights = nat_cmp c.other.inside.weight c.one.inside.weight in
    let dates = nat_cmp c.one.inside.logical c.other.inside.logical in
    let one : RankParts = record { weight = c.one.inside.weight; logical = c.one.inside.logical; graph = c.one.inside.graph.now; task = c.one.inside.task.now } in
    subst (λ (x : RankParts). Less ≡ rank_cmp x c.args.other.now) c.one.view_is
    (subst (λ (y : RankParts). Less ≡ rank_cmp one y) c.other.view_is
    (numbers_first weights dates _ (sym (c.then.ensures ∙ (ap (λ w. ordering_then w c.cmp.result) c.cmp-weights.ensures ∙ ap (ordering_then weights) c.cmp.ensures)) ∙ c.in-Less.is)))

pub returns-in-Greater : goal.returns-in-Greater
returns-in-Greater c =
    let weights = nat_cmp c.other.inside.weight c.one.inside.weight in
    let dates = nat_cmp c.one.inside.logical c.other.inside.logical in
    let one : RankParts = record { weight = c.one.inside.weight; logical = c.one.inside.logical; graph = c.one.inside.graph.now; task = c.one.inside.task.now } in
    subst (λ (x : RankParts). Greater ≡ rank_cmp x c.args.other.now) c.one.view_is
    (subst (λ (y : RankParts). Greater ≡ rank_cmp one y) c.other.view_is
    (numbers_last weights dates _ (sym (c.then.ensures ∙ (ap (λ w. ordering_then w c.cmp.result) c.cmp-weights.ensures ∙ ap (ordering_then weights) c.cmp.ensures)) ∙ c.in-Greater.is)))
