use Rattle.std.proofs.Common.{◌∙◌, ap, ℕ, List}
use Rattle.std.proofs.lemmas.Result.{IfOk-equal}
use Rattle.sched_state.specs.Lists.{insert_by}
use Rattle.sched_state.specs.declared.runs.Run.{Run}
use Rattle.sched_model.specs.Schedule.{run_before}
use Rattle.run_lists.specs.Overlays.{OverlayValue}
use Rattle.run_lists.specs.Touched.{touched_with}
use Rattle.run_lists.proofs.OrderLemmas.{insert_ordered, position_counted}
use Rattle.run_lists.proofs.overlays.Overlay.add.Goals as goal

pub returns-clause-ok : goal.returns-clause-ok
returns-clause-ok c =
    let n = c.position_for-position.result in
    IfOk-equal c.insert.result _ _ _ c.insert.ensures.ok
    (ap (λ (rs : List Run). let v : OverlayValue = record c.args.self.now { runs = rs; touched = touched_with n c.args.self.now.touched } in v) (insert_ordered c.args.run c.args.self.now.runs n c.position_for-position.ensures)
    ∙ ap (λ (m : ℕ). let v : OverlayValue = record c.args.self.now { runs = insert_by run_before c.args.run c.args.self.now.runs; touched = touched_with m c.args.self.now.touched } in v)
    (position_counted c.args.run c.args.self.now.runs n c.position_for-position.ensures))
