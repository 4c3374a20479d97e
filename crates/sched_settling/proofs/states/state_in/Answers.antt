use Rattle.std.proofs.Common.{◌∙◌, sym, ap, arith, length, is_some}
use Rattle.instance_machine.specs.Instances.{InstanceValue}
use Rattle.sched_settling.proofs.StateLemmas.{read_at, past_end, state_there, state_past, state_without}
use Rattle.sched_settling.proofs.states.state_in.Goals as goal

pub returns-in-Some : goal.returns-in-Some
returns-in-Some c =
    let i : InstanceValue = c.in-Some.instance.now in
    let there = read_at c.as_slice.result.now c.args.place i i c.in-Some.ensures.lookup.3.0 c.in-Some.ensures.lookup.1 in
    c.state.ensures
    ∙ state_there c.args.dag.now c.args.run.now c.args.place c.task.result.now i (omega (arith, c.len.ensures.len, c.if-place-len.true)) c.task.ensures
    (rw c.as_slice.ensures at there)

pub returns-in_default : goal.returns-in_default
returns-in_default c = state_past c.args.dag.now c.args.run.now c.args.place (omega (arith, c.len.ensures.len, c.if-place-len.false))

pub returns-in_default-2 : goal.returns-in_default-2
returns-in_default-2 c =
    let over = past_end c.args.place (length c.as_slice.result.now) (sym (ap is_some c.in_default.is) ∙ c.get.ensures.lookup.0) in
    let long = ap length c.as_slice.ensures in
    state_without c.args.dag.now c.args.run.now c.args.place (omega (arith, over, long))
