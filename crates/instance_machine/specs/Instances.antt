-- A task instance as contracts see it.
use Rattle.std.specs.Prelude.{ℕ, ◌-◌, List, [], length, map, drop, slice_get, slice_set, Option, None}
use Rattle.trigger_rules.specs.declared.verdicts.Verdict.{Verdict}
use Rattle.instance_machine.specs.declared.tries.Try.{Try}

-- what its rule decided, its tries, and how many were before a clear
-- restates: Airflow 2, 'Tasks': task instances
pub record InstanceValue : Type 0 where
  pub verdict : Option Verdict
  -- how many tries were before the last clearing
  pub since : ℕ
  pub tries : List Try

-- one without a verdict and without tries
-- restates: Airflow 2, 'Tasks': task instances
abbrev pub new_instance : InstanceValue
new_instance = record { verdict = None; since = 0; tries = [] }

-- the tries since the last clearing
abbrev pub recent : InstanceValue → List Try
recent i = drop i.since i.tries

-- the last element, if there is one
abbrev pub last_of : {X : Type 0} → List X → Option X
last_of xs = slice_get xs (length xs - 1)

-- the list with its last element changed
abbrev pub with_last : {X : Type 0} → X → List X → List X
with_last x xs = slice_set xs (length xs - 1) x

-- every try is changed
abbrev pub map_tries : (Try → Try) → InstanceValue → InstanceValue
map_tries f i = record i { tries = map f i.tries }
