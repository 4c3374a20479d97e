-- What an instance that waits, or that is handed out, has.
use Rattle.std.proofs.Common.{◌≡◌, ◌⊎◌, ◌∙◌, refl, sym, ap, inl, inr, arith, ℕ, ◌+◌, Bool, true, false, cond, [], drop, Option, Some, None, option_map}
use Rattle.std.proofs.lemmas.List.{drop_all}
use Rattle.trigger_rules.specs.States.{is_finished}
use Rattle.trigger_rules.specs.declared.states.State.{State}
use Rattle.trigger_rules.specs.declared.states.State.TheVariants as state
use Rattle.trigger_rules.specs.declared.verdicts.Verdict.{Verdict}
use Rattle.trigger_rules.specs.declared.verdicts.Verdict.TheVariants as verdict
use Rattle.graph_file.specs.declared.task_specs.TaskSpec.{TaskSpec}
use Rattle.instance_machine.specs.Instances.{InstanceValue, recent, last_of}
use Rattle.instance_machine.specs.States.{state_of, state_by, state_of_end, state_of_verdict, ended_as, has_retry, is_up_for_retry, retry_of}
use Rattle.instance_machine.specs.declared.tries.Try.{Try}
use Rattle.instance_machine.specs.declared.tries.End.{End}
use Rattle.instance_machine.specs.declared.tries.Outcome.{Outcome}
use Rattle.instance_machine.specs.declared.tries.Outcome.TheVariants as outcome
use Rattle.sched_state.specs.declared.runs.RunPhase.{RunPhase}
use Rattle.sched_state.specs.declared.runs.RunPhase.TheVariants as phase
use Rattle.sched_model.specs.Schedule.{is_queued, is_running, is_ended}
use Rattle.sched_model.specs.Handout.{is_scheduled}
use Rattle.sched_model.specs.Sound.{is_wait}
use Rattle.sched_laws.proofs.ListLemmas.{last_none}
use Rattle.explain.specs.Reasons.{is_waiting, is_handed_out}

-- ---- the run is running
pub running : (ph : RunPhase) → is_queued ph ≡ false → is_ended ph ≡ false → is_running ph ≡ true
running phase.Running q e = refl
running _ q e = cc

-- ---- states
ended_none : (left : Bool) (o : Outcome) → ended_as left o ≡ state.None → ⊥
ended_none left outcome.Success e = cc
ended_none left outcome.Skipped e = cc
ended_none true outcome.Failed e = cc
ended_none false outcome.Failed e = cc
ended_none true outcome.Lost e = cc
ended_none false outcome.Lost e = cc

open_none : (b : Bool) → cond b state.Running state.Queued ≡ state.None → ⊥
open_none true e = cc
open_none false e = cc

end_none : (left : Bool) (started : Option ℕ) (ended : Option End) → state_of_end left started ended ≡ state.None → ⊥
end_none left started None e = open_none _ e
end_none left started (Some x) e = ended_none left x.outcome e

verdict_none : (v : Option Verdict) → state_of_verdict v ≡ state.None → is_wait v ≡ false → v ≡ None
verdict_none None e w = refl
verdict_none (Some verdict.Wait) e w = absurd (let f : true ≡ false = w in cc)
verdict_none (Some verdict.Run) e w = absurd (let f : state.Scheduled ≡ state.None = e in cc)
verdict_none (Some verdict.Skip) e w = absurd (let f : state.Skipped ≡ state.None = e in cc)
verdict_none (Some verdict.UpstreamFailed) e w = absurd (let f : state.UpstreamFailed ≡ state.None = e in cc)

pub no_verdict : (v : Option Verdict) (left : Bool) (o : Option Try) → state_by v left o ≡ state.None → is_wait v ≡ false → v ≡ None
no_verdict v left None e w = verdict_none v e w
no_verdict v left (Some t) e w = absurd (end_none left t.started t.ended e)

-- ---- retries
ended_retry : (left : Bool) (started : Option ℕ) (ended : Option End) → is_up_for_retry (state_of_end left started ended) ≡ true → (e : End) × (ended ≡ Some e)
ended_retry left started (Some e) h = (e, refl)
ended_retry left None None h = absurd (let f : false ≡ true = h in cc)
ended_retry left (Some m) None h = absurd (let f : false ≡ true = h in cc)

verdict_retry : (v : Option Verdict) → is_up_for_retry (state_of_verdict v) ≡ true → ⊥
verdict_retry None h = cc
verdict_retry (Some verdict.Wait) h = cc
verdict_retry (Some verdict.Run) h = cc
verdict_retry (Some verdict.Skip) h = cc
verdict_retry (Some verdict.UpstreamFailed) h = cc

pub retry_moment : (v : Option Verdict) (left : Bool) (o : Option Try) (delay : ℕ) → is_up_for_retry (state_by v left o) ≡ true → (m : ℕ) × (retry_of o delay ≡ Some m)
retry_moment v left None delay h = absurd (verdict_retry v h)
retry_moment v left (Some t) delay h =
    let x = ended_retry left t.started t.ended h in
    (x.0.moment + delay, ap (λ (o : Option End). option_map (λ (e : End). e.moment + delay) o) x.1)

-- ---- the three kinds of states that are not finished and not handed out, and all of them
pub split : (x : State) → is_waiting x ≡ true → (x ≡ state.None) ⊎ ((is_scheduled x ≡ true) ⊎ (is_up_for_retry x ≡ true))
split state.None e = inl refl
split state.Scheduled e = inr (inl refl)
split state.UpForRetry e = inr (inr refl)
split _ e = absurd (let f : false ≡ true = e in cc)

pub kinds : (x : State) → is_finished x ≡ false → is_handed_out x ≡ false → is_waiting x ≡ true
kinds state.None f h = refl
kinds state.Scheduled f h = refl
kinds state.UpForRetry f h = refl
kinds _ f h = cc

-- ---- tries in flight
verdict_handed : (v : Option Verdict) → is_handed_out (state_of_verdict v) ≡ true → ⊥
verdict_handed None h = cc
verdict_handed (Some verdict.Wait) h = cc
verdict_handed (Some verdict.Run) h = cc
verdict_handed (Some verdict.Skip) h = cc
verdict_handed (Some verdict.UpstreamFailed) h = cc

-- what is queued or running has a try
pub has_try : (t : TaskSpec) (i : InstanceValue) → is_handed_out (state_of t i) ≡ true → last_of i.tries ≡ None → ⊥
has_try t i h none =
    let empty : recent i ≡ [] = ap (drop i.since) (last_none i.tries none) ∙ drop_all i.since [] (omega arith) in
    verdict_handed i.verdict (sym (ap (λ (o : Option Try). is_handed_out (state_by i.verdict (has_retry t i) o)) (ap last_of empty)) ∙ h)
