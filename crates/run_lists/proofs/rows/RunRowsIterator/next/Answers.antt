use Rattle.std.proofs.Common.{◌∙◌, sym}
use Rattle.sched_state.proofs.ElementLemmas.{drop_at}
use Rattle.run_lists.proofs.rows.RunRowsIterator.next.Goals as goal

pub returns-clause-steps : goal.returns-clause-steps
returns-clause-steps c =
    let i = c.self.inside in
    sym c.self.view_is ∙ drop_at i.runs.now.runs i.position c.get-run.result.now c.get-run.ensures
