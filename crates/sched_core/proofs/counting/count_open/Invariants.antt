use Rattle.std.proofs.Common.{◌≡◌, ℕ, List, take, sum_by}
use Rattle.sched_handout.specs.Active.{count_of}
use Rattle.sched_core.specs.Inside.{open_in, open_for}
use Rattle.sched_core.proofs.counting.count_open.Given as goal

abbrev pub invariant-loop-run : goal.invariant-loop-run
invariant-loop-run l = (l.in_all ≡ sum_by open_in (take l.run-index l.runs)) × ((id : List ℕ) → count_of id l.by_graph ≡ sum_by (open_for id) (take l.run-index l.runs))
