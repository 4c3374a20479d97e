use Rattle.std.proofs.Common.{sym, ap, ◌∙◌, Option}
use Rattle.graph_file.specs.Lists.{when}
use Rattle.dag_check.specs.Graphs.{Dag}
use Rattle.record_restoring.proofs.BodyLemmas.{unchecked, read_if}
use Rattle.record_restoring.proofs.dags.read_body.Goals as goal

pub returns-then-is_within : goal.returns-then-is_within
returns-then-is_within c = sym (
    read_if c.args.limits c.args.text.now c.in-Ok.spec c.in-Ok-check.graph c.in-Ok.ensures.ok c.in-Ok-check.ensures.ok
    ∙ ap (λ b. let o : Option Dag = when b c.in-Ok-check.graph in o) (sym c.is_within-is_within.ensures ∙ c.if-is_within.true))

pub returns-in-Ok-check : goal.returns-in-Ok-check
returns-in-Ok-check c = sym (
    read_if c.args.limits c.args.text.now c.in-Ok.spec c.in-Ok-check.graph c.in-Ok.ensures.ok c.in-Ok-check.ensures.ok
    ∙ ap (λ b. let o : Option Dag = when b c.in-Ok-check.graph in o) (sym c.is_within-is_within.ensures ∙ c.if-is_within.false))

pub returns : goal.returns
returns c = sym (unchecked c.args.limits c.args.text.now c.in-Ok.spec c.in-Err-check.fault c.in-Ok.ensures.ok c.in-Err-check.ensures.refused.1 (sym c.is_memory.ensures ∙ c.if-is_memory.false))
