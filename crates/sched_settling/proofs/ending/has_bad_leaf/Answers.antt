use Rattle.std.proofs.Common.{◌≡◌, ◌∙◌, ◌<◌, ◌≤◌, ◌&&◌, ℕ, true, sym, ap, arith, length}
use Rattle.trigger_rules.specs.States.{is_bad}
use Rattle.instance_machine.specs.States.{state_of}
use Rattle.sched_state.specs.declared.runs.Run.{Run}
use Rattle.dag_check.specs.Graphs.{Dag}
use Rattle.sched_model.specs.Settle.{is_leaf}
use Rattle.sched_settling.specs.States.{states_in, state_in}
use Rattle.sched_settling.proofs.StateLemmas.{zip_inside, zip_short, zip_shorter}
use Rattle.sched_settling.proofs.EndLemmas.{none_bad, one_bad}
use Rattle.sched_settling.proofs.ending.has_bad_leaf.Goals as goal

pub returns-then-is_leaf : goal.returns-then-is_leaf
returns-then-is_leaf c =
    let g : Dag = c.args.dag.now in
    let r : Run = c.args.run.now in
    let p : ℕ = c.loop-place.place in
    let inside : p < length (states_in g r) =
    zip_inside state_of g.tasks r.instances p (omega (arith, c.len.ensures.len, c.min-place-end.ensures)) (omega (arith, c.len-2.ensures, c.min-place-end.ensures)) in
    let bad : is_bad (state_in g r p) ≡ true = ap is_bad (sym c.state_in.ensures) ∙ sym c.if-is_bad.ensures in
    sym (one_bad (λ q s. is_bad s && is_leaf g q) (states_in g r) p inside (ap (λ b. b && is_leaf g p) bad ∙ sym c.if-is_leaf.ensures))

pub returns : goal.returns
returns c =
    let g : Dag = c.args.dag.now in
    let r : Run = c.args.run.now in
    let p : ℕ = c.loop-place.place in
    let short : length (states_in g r) ≤ length g.tasks = zip_short state_of g.tasks r.instances in
    let shorter : length (states_in g r) ≤ length r.instances = zip_shorter state_of g.tasks r.instances in
    sym (none_bad (λ q s. is_bad s && is_leaf g q) (states_in g r) p c.loop-place.invariant (omega (arith, short, shorter, c.len.ensures.len, c.len-2.ensures, c.min-place-end.ensures)))
