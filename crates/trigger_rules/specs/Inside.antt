-- The table read off counts, as the code does.
use Rattle.std.specs.Prelude.{ℕ, ◌+◌, ◌==◌, false, ◌&&◌, nat_lt}
use Rattle.graph_file.specs.declared.rules.Rule.{Rule}
use Rattle.graph_file.specs.declared.rules.Rule.TheVariants as rule
use Rattle.trigger_rules.specs.Counts.{Tally}
use Rattle.trigger_rules.specs.Rules.{decide}
use Rattle.trigger_rules.specs.declared.verdicts.Verdict.{Verdict}
use Rattle.trigger_rules.specs.declared.verdicts.Verdict.TheVariants.{Run}

abbrev pub bad : Tally → ℕ
bad t = t.failed + t.upstream_failed

abbrev pub done : Tally → ℕ
done t = t.success + t.failed

abbrev pub by_counts : Rule → Tally → Verdict
by_counts rule.AllSuccess t = decide (bad t + t.skipped + t.unfinished == 0) (nat_lt 0 (bad t)) (nat_lt 0 t.skipped)
by_counts rule.AllFailed t = decide (t.success + t.skipped + t.unfinished == 0) false (nat_lt 0 (t.success + t.skipped))
by_counts rule.AllDone t = decide (t.unfinished == 0) false false
by_counts rule.AllSkipped t = decide (t.success + bad t + t.unfinished == 0) false (nat_lt 0 (t.success + bad t))
by_counts rule.OneFailed t = decide (nat_lt 0 (bad t)) false ((t.unfinished == 0) && (bad t == 0))
by_counts rule.OneSuccess t =
    decide (nat_lt 0 t.success) ((t.unfinished == 0) && (t.success == 0) && nat_lt 0 (bad t)) (t.success + bad t + t.unfinished == 0)
by_counts rule.OneDone t = decide (nat_lt 0 (done t)) false ((t.unfinished == 0) && (done t == 0))
by_counts rule.NoneFailed t = decide (bad t + t.unfinished == 0) (nat_lt 0 (bad t)) false
by_counts rule.NoneFailedMinOneSuccess t =
    decide ((t.unfinished == 0) && (bad t == 0) && nat_lt 0 t.success) (nat_lt 0 (bad t)) (t.success + bad t + t.unfinished == 0)
by_counts rule.NoneSkipped t = decide (t.skipped + t.unfinished == 0) false (nat_lt 0 t.skipped)
by_counts rule.Always t = Run
