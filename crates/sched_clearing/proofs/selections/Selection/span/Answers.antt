use Rattle.sched_clearing.proofs.SelectionLemmas.{names_within}
use Rattle.sched_clearing.proofs.selections.Selection.span.Goals as goal

pub returns-in-Some : goal.returns-in-Some
returns-in-Some c = rw (← c.self.view_is) (names_within _ c.args.draft.now.content.runs c.in-Some.bounds _ _ c.in-Some.ensures c.span_of.ensures)
