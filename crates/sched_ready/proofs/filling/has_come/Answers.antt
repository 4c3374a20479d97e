use Rattle.std.proofs.Common.{◌∙◌, ℕ, ◌<◌, subst, sym}
use Rattle.std.proofs.lemmas.Option.{none-some, same_Some}
use Rattle.sched_ready.proofs.FillLemmas.{come_later, none_come}
use Rattle.sched_ready.proofs.filling.has_come.Goals as goal

pub returns-in-None : goal.returns-in-None
returns-in-None c e = none_come c.args.now c.args.queue.now c.get.result c.get.ensures.key c.get.ensures.rises (λ w f. absurd (none-some w (sym c.in-None.is ∙ f)))

pub returns-in-Some : goal.returns-in-Some
returns-in-Some c e = none_come c.args.now c.args.queue.now c.get.result c.get.ensures.key c.get.ensures.rises
    (λ w f. subst (λ (v : ℕ × ℕ). c.args.now < v.0) (same_Some c.in-Some.waiting w (sym c.in-Some.is ∙ f)) (come_later c.in-Some.waiting.0 c.args.now e))
