use Rattle.std.proofs.Common.{sym}
use Rattle.explain.proofs.SubjectLemmas.{is_found}
use Rattle.explain.proofs.explaining.explain.Goals as goal

pub reasons_of-requires : goal.reasons_of-requires
reasons_of-requires c = is_found c.args.schedule.now.content c.args.graph.now c.args.logical c.args.task.now c.in_ok-subject.subject (sym c.in_ok-subject.ensures)
