use Rattle.std.proofs.Common.{◌≡◌, ℕ, ◌<◌, ◌&&◌, false}
use Rattle.trigger_rules.specs.States.{is_bad}
use Rattle.sched_model.specs.Settle.{is_leaf}
use Rattle.sched_settling.specs.States.{state_in}
use Rattle.sched_settling.proofs.ending.has_bad_leaf.Given as goal

abbrev pub invariant-loop-place : goal.invariant-loop-place
invariant-loop-place l = (k : ℕ) → k < l.place → (is_bad (state_in l.dag l.run k) && is_leaf l.dag k) ≡ false
