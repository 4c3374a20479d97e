use Rattle.std.proofs.Common.{sym, subst}
use Rattle.sched_core.specs.Inside.{IsCheckFault}
use Rattle.sched_core.proofs.LoadingLemmas.{fault_is}
use Rattle.sched_core.proofs.loading.checked.Goals as goal

pub returns : goal.returns
returns c = subst (IsCheckFault c.args.spec) (sym c.from.ensures) (fault_is c.args.spec c.in-Err.fault c.in-Err.ensures.refused.1)
