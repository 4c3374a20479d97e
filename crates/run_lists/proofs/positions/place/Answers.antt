use Rattle.std.proofs.Common.{◌∙◌, ℕ, Vec, ap, nat_lt}
use Rattle.std.specs.Global.{Global}
use Rattle.sched_model.specs.Lists.{rises}
use Rattle.run_lists.proofs.ShiftLemmas.{shifted_rise}
use Rattle.run_lists.proofs.positions.place.Goals as goal
use Rattle.run_lists.proofs.positions.place.Goals.{then-is_new, else-is_new}

pub put_in-requires-clause-rising : goal.put_in-requires-clause-rising
put_in-requires-clause-rising c = elim c.if-is_new.branch [
  | then-is_new w ↦ ap (λ (v : Vec ℕ Global). rises nat_lt v.items) w.positions-is ∙ (ap (rises nat_lt) w.shift.ensures.items ∙ shifted_rise c.args.position c.args.positions.now.items c.requires.rising)
  | else-is_new w ↦ ap (λ (v : Vec ℕ Global). rises nat_lt v.items) w.positions-is ∙ c.requires.rising
]

pub take_out-requires : goal.take_out-requires
take_out-requires c = elim c.if-is_new.branch [
  | then-is_new w ↦ ap (λ (v : Vec ℕ Global). rises nat_lt v.items) w.positions-is ∙ (ap (rises nat_lt) w.shift.ensures.items ∙ shifted_rise c.args.position c.args.positions.now.items c.requires.rising)
  | else-is_new w ↦ ap (λ (v : Vec ℕ Global). rises nat_lt v.items) w.positions-is ∙ c.requires.rising
]
