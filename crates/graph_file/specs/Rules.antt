-- The trigger rules and the weight rules, and how each is spelled.
-- restates: Airflow 2, 'DAGs' and 'Priority Weights'
use Rattle.std.specs.Prelude.{ℕ, List, [], ◌∷◌, Option, bytes_eq, codes}
use Rattle.graph_file.specs.Lists.{when, first_some}
use Rattle.graph_file.specs.declared.rules.Rule.{Rule}
use Rattle.graph_file.specs.declared.rules.Rule.TheVariants as rule
use Rattle.graph_file.specs.declared.rules.WeightRule.{WeightRule}
use Rattle.graph_file.specs.declared.rules.WeightRule.TheVariants as weight

-- the trigger rule of a word
abbrev pub rule_of : List ℕ → Option Rule
rule_of s = first_some (
    when (bytes_eq s (codes "all_success")) rule.AllSuccess
    ∷ when (bytes_eq s (codes "all_failed")) rule.AllFailed
    ∷ when (bytes_eq s (codes "all_done")) rule.AllDone
    ∷ when (bytes_eq s (codes "all_skipped")) rule.AllSkipped
    ∷ when (bytes_eq s (codes "one_failed")) rule.OneFailed
    ∷ when (bytes_eq s (codes "one_success")) rule.OneSuccess
    ∷ when (bytes_eq s (codes "one_done")) rule.OneDone
    ∷ when (bytes_eq s (codes "none_failed")) rule.NoneFailed
    ∷ when (bytes_eq s (codes "none_failed_min_one_success")) rule.NoneFailedMinOneSuccess
    ∷ when (bytes_eq s (codes "none_skipped")) rule.NoneSkipped
    ∷ when (bytes_eq s (codes "always")) rule.Always
    ∷ [])

-- the weight rule of a word
abbrev pub weight_rule_of : List ℕ → Option WeightRule
weight_rule_of s = first_some (
    when (bytes_eq s (codes "downstream")) weight.Downstream
    ∷ when (bytes_eq s (codes "upstream")) weight.Upstream
    ∷ when (bytes_eq s (codes "absolute")) weight.Absolute
    ∷ [])
