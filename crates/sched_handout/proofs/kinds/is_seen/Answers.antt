use Rattle.std.proofs.Common.{◌∙◌, ap, sym, true≢false, Some}
use Rattle.std.proofs.lemmas.Bool.{eqb-true}
use Rattle.sched_handout.proofs.kinds.is_seen.Goals as goal

pub returns-in-None : goal.returns-in-None
returns-in-None c e = absurd (true≢false (sym e))

pub returns-in-Some : goal.returns-in-Some
returns-in-Some c e = c.in-Some.is ∙ ap (λ k. Some k) (eqb-true c.in-Some.seen c.args.graph e)
