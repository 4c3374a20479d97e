use Rattle.std.proofs.Common.{◌≡◌, ◌∙◌, true, subst, sym}
use Rattle.std.proofs.lemmas.Option.{none-some, same_Some}
use Rattle.sched_ready.specs.Due.{is_kept}
use Rattle.sched_ready.proofs.filling.turned.Goals as goal

pub returns-in_default : goal.returns-in_default
returns-in_default c = record {
  kept = λ d m apart h. c.take_date.ensures c.args.now d m apart h;
  now_due = λ m e. absurd (none-some m (sym c.in_default.is ∙ e));
}

pub returns : goal.returns
returns c = record {
  kept = λ d m apart h. c.in_ok-put_date.ensures.kept d m (c.take_date.ensures c.args.now d m apart h);
  now_due = λ m e. subst (λ k. is_kept c.args.now c.put_date.new.queue c.args.date k ≡ true) (same_Some c.in-Some.moment m (sym c.in-Some.is ∙ e)) c.in_ok-put_date.ensures.marked;
}
