use Rattle.std.proofs.Common.{◌≡◌, ◌∙◌, ◌+◌, ◌-◌, sym, ap, arith, true≢false, ℕ, length, slice_get, Some, Option, option_map, unwrap_or}
use Rattle.sched_state.specs.declared.runs.Run.{Run}
use Rattle.sched_model.specs.Lists.{rises}
use Rattle.sched_model.specs.Schedule.{Schedule, run_before}
use Rattle.sched_laws.specs.Sweep.{sweep_places}
use Rattle.sched_settling.specs.Marks.{dag_at}
use Rattle.sched_settling.proofs.DecideLemmas.{decide_dag, decide_long, place_step, places_over}
use Rattle.sched_settling.proofs.StageLemmas.{decide_rises}
use Rattle.sched_settling.proofs.deciding.decide_places.Goals as goal
use Rattle.sched_settling.proofs.deciding.decide_places.Goals.{then-branch, else-branch}

pub loop-place-preserved : goal.loop-place-preserved
loop-place-preserved c =
    let n = c.args.position in
    let p = c.loop-place.place in
    let d : Schedule = c.loop-place.draft.content in
    record {
      rest = place_step (c.len-place-end.result - p) (c.len-place-end.result - (p + 1)) n p d _ (omega arith) c.in_ok-decide_at.ensures.decided ∙ c.loop-place.invariant.rest;
      long = ap (λ (b : Schedule). length b.runs) c.in_ok-decide_at.ensures.decided ∙ (decide_long d n p ∙ c.loop-place.invariant.long);
      ordered = ap (λ (b : Schedule). rises run_before b.runs) c.in_ok-decide_at.ensures.decided ∙ (decide_rises d n p ∙ c.loop-place.invariant.ordered);
      dag = ap (dag_at n) c.in_ok-decide_at.ensures.decided ∙ (decide_dag d n p ∙ c.loop-place.invariant.dag);
      base = c.in_ok-decide_at.ensures.base ∙ c.loop-place.invariant.base;
      same = elim c.if-branch.branch [
        | then-branch w ↦ λ e. absurd (true≢false (sym w.changed-is ∙ e))
        | else-branch w ↦ λ e. c.in_ok-decide_at.ensures.same w.if-branch.false ∙ c.loop-place.invariant.same (sym w.changed-is ∙ e)
      ];
    }

pub returns-clause-decided : goal.returns-clause-decided
returns-clause-decided c =
    let a : Schedule = c.args.draft.now.content in
    let n : ℕ = c.args.position in
    let r : Run = c.run.result.now in
    let there : slice_get a.runs n ≡ Some r =
    c.run.ensures in
    places_over (c.len-place-end.result - c.loop-place.place) n c.loop-place.place c.loop-place.draft.content (omega arith) ∙ c.loop-place.invariant.rest
    ∙ ap (λ (k : ℕ). sweep_places k n 0 a) (c.len-place-end.ensures ∙ ap (λ (o : Option Run). unwrap_or (option_map (λ (q : Run). length q.instances) o) 0) (sym there))
