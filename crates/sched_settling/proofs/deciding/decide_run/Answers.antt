use Rattle.std.proofs.Common.{◌≡◌, slice_get, Some}
use Rattle.sched_state.specs.declared.runs.Run.{Run}
use Rattle.sched_model.specs.Schedule.{Schedule}
use Rattle.sched_settling.proofs.DecideLemmas.{no_graph, found_dag}
use Rattle.sched_settling.proofs.deciding.decide_run.Goals as goal

pub decide_places-requires-clause-dag : goal.decide_places-requires-clause-dag
decide_places-requires-clause-dag c =
    let a : Schedule = c.args.draft.now.content in
    let r : Run = c.run.result.now in
    let there : slice_get a.runs c.args.position ≡ Some r =
    c.run.ensures in
    found_dag a c.args.position r c.in-Some.dag.now there
    c.in-Some.ensures

pub returns-in-None-clause-decided : goal.returns-in-None-clause-decided
returns-in-None-clause-decided c =
    let a : Schedule = c.args.draft.now.content in
    let r : Run = c.run.result.now in
    let there : slice_get a.runs c.args.position ≡ Some r =
    c.run.ensures in
    no_graph a c.args.position r there c.in-None.ensures
