use Rattle.std.proofs.Common.{sym, true≢false}
use Rattle.sched_ready.proofs.patching.is_left_alone.Goals as goal

pub returns-in-Some : goal.returns-in-Some
returns-in-Some c e = absurd (true≢false (sym e))

pub returns : goal.returns
returns c e = (c.in_default.ensures, c.is_due_as_before.ensures e)
