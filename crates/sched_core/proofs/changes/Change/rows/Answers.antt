use Rattle.std.proofs.Common.{◌∙◌, ap}
use Rattle.record_writing.specs.record_rules.Changes.{rows_between}
use Rattle.sched_core.specs.Changes.{Planned}
use Rattle.sched_core.proofs.changes.Change.rows.Goals as goal

pub returns : goal.returns
returns c = c.self.invariant.rows_are ∙ ap (λ (p : Planned). rows_between p.before p.after) c.self.view_is
