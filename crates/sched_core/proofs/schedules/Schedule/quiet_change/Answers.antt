use Rattle.std.proofs.Common.{List, subst, sym}
use Rattle.sched_model.specs.Schedule.{Schedule}
use Rattle.sched_ready.specs.Patched.{patched}
use Rattle.sched_ready.specs.declared.patches.Patch.{Patch}
use Rattle.sched_core.specs.Effects.{HoldsAfter}
use Rattle.sched_core.proofs.ChangedRowLemmas.{alike_dags}
use Rattle.sched_core.proofs.EffectLemmas.{quiet_after, quiet_keeps, quiet_leaves}
use Rattle.sched_core.proofs.ShelfLemmas.{holds_after}
use Rattle.sched_core.proofs.schedules.Schedule.quiet_change.Goals as goal

pub rows_of_graphs-requires : goal.rows_of_graphs-requires
rows_of_graphs-requires c = alike_dags c.args.graphs c.args.self.now.content.graphs c.args.self.now.content c.requires.quiet

pub change_of-requires : goal.change_of-requires
change_of-requires c =
    let a : Schedule = c.args.self.now.content in
    record {
      keeps = quiet_keeps c.args.graphs c.new-patches.result a c.requires.sound c.requires.quiet c.requires.settled;
      shelves = λ ss h. subst (λ (ps : List Patch). HoldsAfter c.args.graphs a.now a.graphs a.runs (patched ps ss)) (sym c.new-patches.ensures.items)
          (holds_after c.args.graphs a.now a.graphs a.runs ss (quiet_leaves c.args.graphs a c.requires.quiet) h);
      fitted = c.requires.fitted;
      last = quiet_after c.args.graphs a c.requires.quiet;
      edits = tt;
      rows_are = c.in_ok-rows.ensures;
    }
