-- The state after a try that failed.
use Rattle.std.proofs.Common.{◌≡◌, ◌<◌, ◌≤◌, ◌∙◌, ◌⊎◌, Bool, true, false, length, Some, refl, ap, inl, inr}
use Rattle.std.proofs.lemmas.Bool.{le-leb, lt-leb}
use Rattle.graph_file.specs.declared.task_specs.TaskSpec.{TaskSpec}
use Rattle.trigger_rules.specs.declared.states.State.{State}
use Rattle.trigger_rules.specs.declared.states.State.TheVariants as state
use Rattle.instance_machine.specs.Instances.{InstanceValue, last_of, recent}
use Rattle.instance_machine.specs.States.{state_by, state_of_end, ended_as, has_retry, state_of}
use Rattle.instance_machine.specs.declared.tries.Try.{Try}
use Rattle.instance_machine.specs.declared.tries.End.{End}
use Rattle.instance_machine.specs.declared.tries.Outcome.{Outcome}
use Rattle.instance_machine.specs.declared.tries.Outcome.TheVariants as outcome

-- by the last try's end
ended : (t : TaskSpec) (i : InstanceValue) (last : Try) (e : End) (o : Outcome) (v : Bool) → last_of (recent i) ≡ Some last → last.ended ≡ Some e → e.outcome ≡ o → has_retry t i ≡ v → state_of t i ≡ ended_as v o
ended t i last e o v h k l m =
    ap (state_by i.verdict (has_retry t i)) h
    ∙ (ap (state_of_end (has_retry t i) last.started) k
    ∙ (ap (ended_as (has_retry t i)) l ∙ ap (λ w. ended_as w o) m))

failed : (t : TaskSpec) (i : InstanceValue) (last : Try) (e : End) (v : Bool) (s : State) → last_of (recent i) ≡ Some last → last.ended ≡ Some e → (e.outcome ≡ outcome.Failed) ⊎ (e.outcome ≡ outcome.Lost)
    → has_retry t i ≡ v → ended_as v outcome.Failed ≡ s → ended_as v outcome.Lost ≡ s → state_of t i ≡ s
failed t i last e v s h k (inl l) m a b = ended t i last e outcome.Failed v h k l m ∙ a
failed t i last e v s h k (inr l) m a b = ended t i last e outcome.Lost v h k l m ∙ b

pub again : (t : TaskSpec) (i : InstanceValue) (last : Try) (e : End) → last_of (recent i) ≡ Some last → last.ended ≡ Some e → (e.outcome ≡ outcome.Failed) ⊎ (e.outcome ≡ outcome.Lost)
    → length (recent i) ≤ t.retries → state_of t i ≡ state.UpForRetry
again t i last e h k l m = failed t i last e true state.UpForRetry h k l (le-leb (length (recent i)) t.retries m) refl refl

pub never : (t : TaskSpec) (i : InstanceValue) (last : Try) (e : End) → last_of (recent i) ≡ Some last → last.ended ≡ Some e → (e.outcome ≡ outcome.Failed) ⊎ (e.outcome ≡ outcome.Lost)
    → t.retries < length (recent i) → state_of t i ≡ state.Failed
never t i last e h k l m = failed t i last e false state.Failed h k l (lt-leb (length (recent i)) t.retries m) refl refl
