use Rattle.std.proofs.Common.{◌∙◌, List, ap, refl, sym, length}
use Rattle.sched_state.specs.declared.runs.Run.{Run}
use Rattle.run_lists.specs.Positions.{positions_where, stands_in}
use Rattle.run_lists.specs.declared.positions.Standing.TheVariants.{Running, Queued}
use Rattle.sched_model.specs.Lists.{rises}
use Rattle.sched_model.specs.Schedule.{run_before}
use Rattle.sched_settling.proofs.StandingLemmas.{line_is}
use Rattle.sched_settling.proofs.counting.line_in.Goals as goal

pub returns-clause-line : goal.returns-clause-line
returns-clause-line c = λ a is.
    line_is a c.args.id.now _ (ap (rises run_before) (sym is) ∙ c.requires) is
    (ap length c.running_of.ensures ∙ ap (λ (rs : List Run). length (positions_where (stands_in c.args.id.now Running) rs)) is)
    (c.queued_of.ensures ∙ ap (positions_where (stands_in c.args.id.now Queued)) is) refl c.new.ensures.items
