use Rattle.answer_lines.specs.Dags.{dag_line}
use Rattle.answer_lines.proofs.AppendLemmas.{appends_more}
use Rattle.answer_lines.proofs.listing.put_dag_rows.Goals as goal

pub loop-graph-preserved : goal.loop-graph-preserved
loop-graph-preserved g c =
    appends_more (dag_line c.args.schedule.now.content) _ _ c.graph-item.result _ _ _ c.loop-graph-test.true c.graph-item.is c.loop-graph.invariant c.in_ok-put_dag.ensures
