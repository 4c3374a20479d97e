use Rattle.std.proofs.Common.{ℕ, Vec, Global}
use Rattle.std.proofs.lemmas.Result.{IfOk-weaker}
use Rattle.sched_ready.proofs.WeighLemmas.{are_weights}
use Rattle.sched_ready.proofs.weighing.weigh_tasks.Goals as goal

pub returns : goal.returns
returns c = IfOk-weaker _ _ _ (λ (v : Vec ℕ Global) h. are_weights c.args.dag.now v.items c.len-count.ensures.dag h) c.effective.ensures
