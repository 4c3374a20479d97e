-- What each trigger rule makes of the states of a task's upstreams.
-- restates: Airflow 2, 'DAGs': trigger rules, for when a task runs; the other columns are this project's own
use Rattle.std.specs.Prelude.{Bool, true, false, not, ◌&&◌, ◌||◌, List, [], ◌∷◌}
use Rattle.std.specs.List.{list_any, list_all}
use Rattle.graph_file.specs.declared.rules.Rule.{Rule}
use Rattle.graph_file.specs.declared.rules.Rule.TheVariants as rule
use Rattle.trigger_rules.specs.States.{is_success, is_failed, is_skipped, is_bad, is_finished}
use Rattle.trigger_rules.specs.declared.states.State.{State}
use Rattle.trigger_rules.specs.declared.verdicts.Verdict.{Verdict}
use Rattle.trigger_rules.specs.declared.verdicts.Verdict.TheVariants.{Wait, Run, Skip, UpstreamFailed}

-- a row of the table: the first column that holds decides, in the order Run, UpstreamFailed, Skip
abbrev pub decide : Bool → Bool → Bool → Verdict
decide true fails skips = Run
decide false true skips = UpstreamFailed
decide false false true = Skip
decide false false false = Wait

-- a success, or a failure of the upstream itself
abbrev pub is_done : State → Bool
is_done x = is_success x || is_failed x

abbrev pub is_success_or_skipped : State → Bool
is_success_or_skipped x = is_success x || is_skipped x

abbrev pub is_success_or_bad : State → Bool
is_success_or_bad x = is_success x || is_bad x

-- the table: when the task runs, when it is upstream_failed, when it is skipped
abbrev pub row_of : Rule → List State → Verdict
row_of rule.AllSuccess s = decide (list_all is_success s) (list_any is_bad s) (list_any is_skipped s)
row_of rule.AllFailed s = decide (list_all is_bad s) false (list_any is_success_or_skipped s)
row_of rule.AllDone s = decide (list_all is_finished s) false false
row_of rule.AllSkipped s = decide (list_all is_skipped s) false (list_any is_success_or_bad s)
row_of rule.OneFailed s = decide (list_any is_bad s) false (list_all is_finished s && not (list_any is_bad s))
row_of rule.OneSuccess s =
    decide (list_any is_success s) (list_all is_finished s && not (list_any is_success s) && not (list_all is_skipped s)) (list_all is_skipped s)
row_of rule.OneDone s = decide (list_any is_done s) false (list_all is_finished s && not (list_any is_done s))
row_of rule.NoneFailed s = decide (list_all is_success_or_skipped s) (list_any is_bad s) false
row_of rule.NoneFailedMinOneSuccess s =
    decide (list_all is_finished s && not (list_any is_bad s) && list_any is_success s) (list_any is_bad s) (list_all is_skipped s)
row_of rule.NoneSkipped s = decide (list_all is_success_or_bad s) false (list_any is_skipped s)
row_of rule.Always s = Run

-- a task without upstreams runs under each rule
abbrev pub rule_verdict : Rule → List State → Verdict
rule_verdict r [] = Run
rule_verdict r (x ∷ xs) = row_of r (x ∷ xs)
