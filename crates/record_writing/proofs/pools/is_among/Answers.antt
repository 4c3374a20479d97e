use Rattle.std.proofs.Common.{sym, ap, ◌∙◌, ℕ, ◌==◌}
use Rattle.record_writing.proofs.PoolLemmas.{is_size, pool_among}
use Rattle.record_writing.proofs.pools.is_among.Goals as goal

pub returns-in-Some : goal.returns-in-Some
returns-in-Some c =
    ap (λ (n : ℕ). n == c.get-in-Some.result) c.get.ensures.value
    ∙ ap (λ (n : ℕ). c.args.size == n) c.get-in-Some.ensures.value
    ∙ ap (is_size c.args.size) (sym c.in-Some.is ∙ c.size.ensures)
    ∙ sym (pool_among c.args.pools.now.pools c.args.name.now c.args.size c.requires)

pub returns-in-None : goal.returns-in-None
returns-in-None c =
    ap (is_size c.args.size) (sym c.in-None.is ∙ c.size.ensures)
    ∙ sym (pool_among c.args.pools.now.pools c.args.name.now c.args.size c.requires)
