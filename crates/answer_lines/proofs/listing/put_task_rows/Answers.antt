use Rattle.std.proofs.Common.{◌∙◌, sym, ap}
use Rattle.std.specs.List.{flat_map}
use Rattle.answer_lines.specs.Tasks.{task_line}
use Rattle.answer_lines.proofs.AppendLemmas.{appends_both, appends_none, appends_same}
use Rattle.answer_lines.proofs.listing.put_task_rows.Goals as goal

pub loop-row-init : goal.loop-row-init
loop-row-init g c = λ end h.
    appends_same _ end _ _ (ap (flat_map task_line) (c.into_iter-row-iterator.ensures.into_iter_gives ∙ c.instances-row-items.ensures)) h

pub loop-row-preserved : goal.loop-row-preserved
loop-row-preserved g c = λ end h.
    c.loop-row.invariant end
    (appends_same _ end _ _ (sym (ap (flat_map task_line) c.in-Some.ensures.steps)) (appends_both _ _ end _ _ c.in_ok-put_task.ensures h))

pub returns : goal.returns
returns g c =
    c.loop-row.invariant _
    (appends_same _ _ _ _ (sym (ap (flat_map task_line) c.in-None.ensures.steps.0)) (appends_none (g.W.Write.contents c.loop-row.output)))
