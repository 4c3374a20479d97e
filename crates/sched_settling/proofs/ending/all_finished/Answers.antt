use Rattle.std.proofs.Common.{◌∙◌, ◌<◌, ◌≤◌, sym, ap, arith, length}
use Rattle.trigger_rules.specs.States.{is_finished}
use Rattle.instance_machine.specs.States.{state_of}
use Rattle.sched_state.specs.declared.runs.Run.{Run}
use Rattle.dag_check.specs.Graphs.{Dag}
use Rattle.sched_settling.specs.States.{states_in}
use Rattle.sched_settling.proofs.StateLemmas.{zip_inside, zip_short, zip_shorter}
use Rattle.sched_settling.proofs.EndLemmas.{all_states, not_all}
use Rattle.sched_settling.proofs.ending.all_finished.Goals as goal

pub returns-then-not-is_finished : goal.returns-then-not-is_finished
returns-then-not-is_finished c =
    let g : Dag = c.args.dag.now in
    let r : Run = c.args.run.now in
    let p = c.loop-place.place in
    let inside : p < length (states_in g r) =
    zip_inside state_of g.tasks r.instances p (omega (arith, c.len.ensures.len, c.min-place-end.ensures)) (omega (arith, c.len-2.ensures, c.min-place-end.ensures)) in
    sym (not_all is_finished (states_in g r) p inside (ap is_finished (sym c.state_in.ensures) ∙ sym c.if-not-is_finished.ensures))

pub returns : goal.returns
returns c =
    let g : Dag = c.args.dag.now in
    let r : Run = c.args.run.now in
    let p = c.loop-place.place in
    let short : length (states_in g r) ≤ length g.tasks = zip_short state_of g.tasks r.instances in
    let shorter : length (states_in g r) ≤ length r.instances = zip_shorter state_of g.tasks r.instances in
    sym (all_states is_finished (states_in g r) p c.loop-place.invariant (omega (arith, short, shorter, c.len.ensures.len, c.len-2.ensures, c.min-place-end.ensures)))
