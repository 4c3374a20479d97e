use Rattle.std.proofs.Common.{◌∙◌, ap, ◌++◌, ◌∷◌, []}
use Rattle.toml.specs.View.{view}
use Rattle.graph_file.specs.Classes.{is_faultless_task}
use Rattle.graph_file.specs.Graphs.{task_of}
use Rattle.graph_file.proofs.TableLemmas.{item_of, mapped_more}
use Rattle.graph_file.proofs.building.tasks_in.Goals as goal

pub task_of-requires : goal.task_of-requires
task_of-requires c =
    rw c.value-item.is (item_of is_faultless_task c.args.values.now c.loop-value.value-index c.value-item.result c.requires c.loop-value-test.true)

pub loop-value-preserved : goal.loop-value-preserved
loop-value-preserved c =
    c.in_ok-push.ensures.items ∙ ap (λ xs. xs ++ (c.in_ok-task_of.field-0 ∷ [])) c.loop-value.invariant ∙ mapped_more task_of c.args.values.now c.loop-value.value-index c.in_ok-task_of.field-0 c.value-item.result c.loop-value-test.true (c.in_ok-task_of.ensures ∙ ap (λ v. task_of (view v)) c.value-item.is)
