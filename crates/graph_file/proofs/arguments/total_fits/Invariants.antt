use Rattle.std.proofs.Common.{◌≡◌, ◌+◌, take, length, sum_by}
use Rattle.toml.specs.View.{view}
use Rattle.graph_file.specs.Values.{text_of}
use Rattle.graph_file.proofs.arguments.total_fits.Given as goal

abbrev pub invariant-loop-argument : goal.invariant-loop-argument
invariant-loop-argument l = l.left + sum_by (λ v. length (text_of (view v))) (take l.argument-index l.argv) ≡ l.most
