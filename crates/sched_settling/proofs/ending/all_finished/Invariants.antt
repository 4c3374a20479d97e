use Rattle.std.proofs.Common.{◌≡◌, ℕ, ◌<◌, true}
use Rattle.trigger_rules.specs.States.{is_finished}
use Rattle.sched_settling.specs.States.{state_in}
use Rattle.sched_settling.proofs.ending.all_finished.Given as goal

abbrev pub invariant-loop-place : goal.invariant-loop-place
invariant-loop-place l = (k : ℕ) → k < l.place → is_finished (state_in l.dag l.run k) ≡ true
