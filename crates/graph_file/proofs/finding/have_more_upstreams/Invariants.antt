use Rattle.std.proofs.Common.{◌≡◌, ◌+◌, take, sum_by}
use Rattle.toml.specs.View.{view}
use Rattle.graph_file.specs.Faults.{upstream_count}
use Rattle.graph_file.proofs.finding.have_more_upstreams.Given as goal

abbrev pub invariant-loop-task : goal.invariant-loop-task
invariant-loop-task l = l.left + sum_by (λ v. upstream_count (view v)) (take l.task-index l.tasks) ≡ l.most
