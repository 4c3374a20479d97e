use Rattle.std.proofs.Common.{◌∙◌, true, ℕ, List, length, ap}
use Rattle.run_lists.specs.Positions.{stands_in}
use Rattle.run_lists.specs.declared.positions.Standing.TheVariants.{Running}
use Rattle.sched_model.specs.States.{active_runs}
use Rattle.sched_settling.proofs.StandingLemmas.{count_from}
use Rattle.sched_core.specs.Changes.{ScheduleValue}
use Rattle.sched_core.proofs.schedules.Schedule.active_runs.Goals as goal

pub running_of-requires : goal.running_of-requires
running_of-requires c = c.self.invariant.held.kept.sound.runs_by_key

pub returns : goal.returns
returns c =
    ap (λ (ns : List ℕ). length ns) c.running_of.ensures
    ∙ (count_from (stands_in c.args.id.now Running) 0 c.self.inside.runs.runs ∙ ap (λ (h : ScheduleValue). active_runs h.content c.args.id.now) c.self.view_is)
