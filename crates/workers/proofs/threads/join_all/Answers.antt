use Rattle.std.proofs.Common.{rules, ◌≡◌, length, vec_items, vec_len, get_or, ap, sym, ◌∙◌, subst, arith}
use Rattle.std.proofs.lemmas.List.{length-map}
use Rattle.workers.specs.Shows.{shows}
use Rattle.workers.specs.Threads.{HasWorked}
use Rattle.workers.proofs.Places.{at_images, same_at}
use Rattle.workers.proofs.threads.join_all.Goals as goal

pub returns-in-Ok-clause-worked : goal.returns-in-Ok-clause-worked
returns-in-Ok-clause-worked g c =
    let hs = vec_items c.args.handles in
    let results = vec_items c.in-Ok.results in
    let same : c.loop.handles ≡ c.args.handles = c.loop.invariant in
    let len : length results ≡ length hs = search rules in
    let before : vec_len c.loop.handles ≡ length hs = search rules in (
      len ∙ sym (length-map hs (λ h. h.promise.pass.value)),
      λ i p s k r below.
          at_images (λ h. h.promise.pass.value) (λ h. h.promise.share.value) (λ h. h.promise.kit.value) hs
          (λ n a b d. HasWorked (shows g.O.Operator.kind_of g.O.Operator.runs_of g.O.Operator.refused_of g.O.Operator.taken) a b d (get_or results n r).0 (get_or results n r).1 (get_or results n r).2)
          (λ n h b.
          let kept = (c.in-Ok.ensures.each n r (omega arith)).1 in
          subst (λ x. HasWorked (shows g.O.Operator.kind_of g.O.Operator.runs_of g.O.Operator.refused_of g.O.Operator.taken) x.promise.pass.value x.promise.share.value x.promise.kit.value (get_or results n r).0 (get_or results n r).1 (get_or results n r).2)
          (kept.handle_is ∙ ap (λ v. get_or (vec_items v) n kept.handle) same ∙ same_at hs n kept.handle h b) kept.kept.0)
          i p s k (let l = length-map hs (λ h. h.promise.pass.value) in omega arith),
    )

pub returns-in-Ok-clause-keep : goal.returns-in-Ok-clause-keep
returns-in-Ok-clause-keep g c = λ keep each n r below.
    let hs = vec_items c.args.handles in
    let results = vec_items c.in-Ok.results in
    let same : c.loop.handles ≡ c.args.handles = c.loop.invariant in
    let len : length results ≡ length hs = search rules in
    let before : vec_len c.loop.handles ≡ length hs = search rules in
    let kept = (c.in-Ok.ensures.each n r (omega arith)).1 in
    subst (λ x. (get_or results n r).0.log.keep ≡ x.promise.keep) (kept.handle_is ∙ ap (λ v. get_or (vec_items v) n kept.handle) same) kept.kept.1
    ∙ each n kept.handle (omega arith)
