use Rattle.std.proofs.Common.{◌∙◌, sym}
use Rattle.sched_ready.proofs.PlacesLemmas.{none_put}
use Rattle.sched_ready.proofs.places.is_changing.Goals as goal

pub returns-then-is_same : goal.returns-then-is_same
returns-then-is_same c e = (none_put c.args.slot.now (sym c.is_some.ensures ∙ e), c.is_same.ensures c.if-is_same.true)
