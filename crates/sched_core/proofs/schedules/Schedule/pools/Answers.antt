use Rattle.std.proofs.Common.{◌∙◌, ap, map}
use Rattle.sched_core.specs.Books.{content_inside}
use Rattle.sched_core.specs.Changes.{ScheduleValue}
use Rattle.sched_core.specs.Inside.{row_in}
use Rattle.sched_core.specs.Views.{pool_rows}
use Rattle.sched_core.proofs.BookLemmas.{rows_held}
use Rattle.sched_core.proofs.schedules.Schedule.pools.Goals as goal

pub returns : goal.returns
returns c =
    ap (map row_in) c.iter.ensures.rest ∙ (rows_held c.self.inside.is_settled (content_inside c.self.inside) c.self.inside.occupied c.self.invariant.held ∙ ap (λ (h : ScheduleValue). pool_rows h.content) c.self.view_is)
