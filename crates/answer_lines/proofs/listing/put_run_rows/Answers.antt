use Rattle.std.proofs.Common.{◌∙◌, sym, ap}
use Rattle.std.specs.List.{flat_map}
use Rattle.answer_lines.specs.Runs.{run_line}
use Rattle.answer_lines.proofs.AppendLemmas.{appends_both, appends_none, appends_same}
use Rattle.answer_lines.proofs.listing.put_run_rows.Goals as goal

pub loop-run-init : goal.loop-run-init
loop-run-init g c = λ end h.
    appends_same _ end _ _ (ap (flat_map run_line) (c.into_iter-run-iterator.ensures.into_iter_gives ∙ c.runs-run-items.ensures.runs)) h

pub loop-run-preserved : goal.loop-run-preserved
loop-run-preserved g c = λ end h.
    c.loop-run.invariant end
    (appends_same _ end _ _ (sym (ap (flat_map run_line) c.in-Some.ensures.steps)) (appends_both _ _ end _ _ c.in_ok-put_run.ensures h))

pub returns : goal.returns
returns g c =
    c.loop-run.invariant _
    (appends_same _ _ _ _ (sym (ap (flat_map run_line) c.in-None.ensures.steps.0)) (appends_none (g.W.Write.contents c.loop-run.output)))
