-- How many of some states are which.
use Rattle.std.specs.Prelude.{ℕ, ◌+◌, not, List, count_by}
use Rattle.trigger_rules.specs.States.{is_success, is_failed, is_upstream_failed, is_skipped, is_finished}
use Rattle.trigger_rules.specs.declared.states.State.{State}
use Rattle.trigger_rules.specs.declared.states.State.TheVariants as state

-- how many of some states are which
pub record Tally : Type 0 where
  pub success : ℕ
  pub failed : ℕ
  pub upstream_failed : ℕ
  pub skipped : ℕ
  pub unfinished : ℕ

-- how many of these states are which
abbrev pub counts_of : List State → Tally
counts_of s = record {
  success = count_by is_success s;
  failed = count_by is_failed s;
  upstream_failed = count_by is_upstream_failed s;
  skipped = count_by is_skipped s;
  unfinished = count_by (λ x. not (is_finished x)) s;
}

-- how many there are
abbrev pub total : Tally → ℕ
total t = t.success + (t.failed + (t.upstream_failed + (t.skipped + t.unfinished)))

-- how many are in a state, where those of none of the four ends count as one
abbrev pub counted_as : State → Tally → ℕ
counted_as state.Success t = t.success
counted_as state.Failed t = t.failed
counted_as state.UpstreamFailed t = t.upstream_failed
counted_as state.Skipped t = t.skipped
counted_as _ t = t.unfinished
