use Rattle.answer_lines.specs.Runs.{after_blank}
use Rattle.answer_lines.proofs.AppendLemmas.{appends_more}
use Rattle.answer_lines.proofs.dag_faults.put_names.Goals as goal

pub loop-name-preserved : goal.loop-name-preserved
loop-name-preserved g c = appends_more after_blank _ _ c.name-item.result _ _ _ c.loop-name-test.true c.name-item.is c.loop-name.invariant c.in_ok-put_name.ensures
