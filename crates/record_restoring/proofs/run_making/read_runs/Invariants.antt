use Rattle.std.proofs.Common.{◌≡◌, take, map}
use Rattle.record_rules.specs.Reading.{run_of}
use Rattle.record_restoring.proofs.run_making.read_runs.Given as goal

abbrev pub invariant-loop-row : goal.invariant-loop-row
invariant-loop-row l = l.made.items ≡ map (run_of l.rows l.graphs) (take l.row-index l.runs)
