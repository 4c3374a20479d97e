use Rattle.std.proofs.Common.{◌≡◌, ◌∙◌, ◌<◌, ◌≤◌, ◌+◌, ℕ, refl, ap, sym, subst, cond, is_some, true, List, length, find, Some, None, slice_get, arith}
use Rattle.std.specs.Prelude.{IfSome}
use Rattle.std.specs.Option.{option_copied}
use Rattle.dag_check.specs.Graphs.{task_of}
use Rattle.graph_file.specs.declared.task_specs.TaskSpec.{TaskSpec}
use Rattle.instance_machine.specs.Reports.{report_try}
use Rattle.instance_machine.specs.declared.tries.Stage.{Stage}
use Rattle.instance_machine.specs.declared.tries.Stage.TheVariants.{Ended}
use Rattle.pool_book.specs.Pools.{give_back, pool_of, with_pool}
use Rattle.sched_state.specs.Lists.{same}
use Rattle.sched_state.specs.declared.graphs.LoadedGraph.{LoadedGraph}
use Rattle.sched_state.specs.declared.runs.Run.{Run}
use Rattle.sched_model.specs.Changes.{report}
use Rattle.sched_model.specs.Schedule.{Schedule, graph_named, tasks_of, graph_before}
use Rattle.sched_model.specs.Sound.{IsSound}
use Rattle.sched_events.specs.SettledAndSound.{IsSoundAndSaid}
use Rattle.sched_handout.specs.Active.{count_of}
use Rattle.sched_handout.specs.Occupied.{AreOccupied}
use Rattle.sched_handout.specs.declared.occupied.Occupied.{Occupied}
use Rattle.sched_model.specs.Lists.{rises}
use Rattle.sched_core.specs.Books.{IsCounted}
use Rattle.sched_core.specs.Changes.{ScheduleValue}
use Rattle.sched_core.proofs.BookLemmas.{occupied_as}
use Rattle.sched_core.proofs.EndedLemmas.{CanGiveBack, can_give_back, ended_occupied, started_occupied, found_graph, known_task, graph_there}
use Rattle.sched_core.proofs.ReportLemmas.{found_run}
use Rattle.sched_core.proofs.schedules.Schedule.occupied_after.Goals.{In_ok-occupied, After-get-run, In-Some, After-task-task}
use Rattle.sched_core.proofs.schedules.Schedule.occupied_after.Goals as goal

pub get-run-requires : goal.get-run-requires
get-run-requires c =
    let a : Schedule = c.args.self.now.content in
    subst (λ (rs : List Run). c.args.found.now.position < length rs) (sym (ap (λ (h : ScheduleValue). h.content.runs) c.self.view_is)) (found_run c.args.serial a.runs c.args.found.now c.requires.found)

-- what was copied are the numbers of the schedule
copied : (c : In_ok-occupied) → AreOccupied c.args.self.now.content c.in_ok-occupied.occupied
copied c =
    let a : Schedule = c.args.self.now.content in
    occupied_as a a c.self.inside.occupied c.in_ok-occupied.occupied refl refl c.in_ok-occupied.ensures.in_flight c.in_ok-occupied.ensures.pools c.in_ok-occupied.ensures.active
    (subst (λ (h : ScheduleValue). AreOccupied h.content c.self.inside.occupied) c.self.view_is c.self.invariant.held.occupied)

pub returns-in_default : goal.returns-in_default
returns-in_default c =
    let a : Schedule = c.args.self.now.content in
    let t : Occupied = c.in_ok-occupied.occupied in
    subst (λ (s : Stage). AreOccupied (report c.args.serial s a) t) (sym c.in_default.is)
    (started_occupied c.args.serial a t t (copied (goal.at.returns-in_default c).In_ok-occupied) refl refl refl)

-- the run of the try
run_is : (c : After-get-run) → slice_get c.args.self.now.content.runs c.args.found.now.position ≡ Some c.get-run.result.now
run_is c = ap (λ (h : ScheduleValue). slice_get h.content.runs c.args.found.now.position) (sym c.self.view_is) ∙ c.get-run.ensures

pub returns-in_default-graph_named : goal.returns-in_default-graph_named
returns-in_default-graph_named c =
    let a : Schedule = c.args.self.now.content in
    let r : Run = c.get-run.result.now in
    let sound : IsSound a = (subst (λ (h : ScheduleValue). IsSoundAndSaid h.content) c.self.view_is c.self.invariant.held.kept).sound in
    let none : graph_named a r.graph ≡ None =
    ap (λ (h : ScheduleValue). graph_named h.content r.graph) (sym c.self.view_is) ∙ (ap (λ (gs : List LoadedGraph). find (λ (g : LoadedGraph). same g.dag.spec.dag_id r.graph) gs) (sym c.as_slice.ensures.value) ∙ (sym c.graph_named.ensures ∙ ap option_copied c.in_default-graph_named.is)) in
    absurd (graph_there c.args.serial a c.args.found.now r sound c.requires.found (run_is (goal.at.returns-in_default-graph_named c).After-get-run) none)

-- the task of the try
task_is : (c : In-Some) → slice_get c.args.self.now.content.runs c.args.found.now.position ≡ Some c.get-run.result.now
    → (c.args.found.now.place < length c.in-Some.graph.now.dag.tasks) × (slice_get (tasks_of c.args.self.now.content c.requires.found.run) c.args.found.now.place ≡ Some (task_of c.in-Some.graph.now.dag c.args.found.now.place))
task_is c run =
    let a : Schedule = c.args.self.now.content in
    let r : Run = c.get-run.result.now in
    let sound : IsSound a = (subst (λ (h : ScheduleValue). IsSoundAndSaid h.content) c.self.view_is c.self.invariant.held.kept).sound in
    let graph : graph_named a r.graph ≡ Some c.in-Some.graph.now =
    ap (λ (h : ScheduleValue). graph_named h.content r.graph) (sym c.self.view_is) ∙ (ap (λ (gs : List LoadedGraph). find (λ (g : LoadedGraph). same g.dag.spec.dag_id r.graph) gs) (sym c.as_slice.ensures.value) ∙ (sym c.graph_named.ensures ∙ ap option_copied c.in-Some.is)) in
    known_task c.args.serial a c.args.found.now r c.in-Some.graph.now sound c.requires.found run graph

pub task-task-requires : goal.task-task-requires
task-task-requires c = (let at = goal.at.task-task-requires c in task_is at.In-Some (run_is at.After-get-run)).0

-- it can give back
ready : (c : After-task-task) → slice_get (tasks_of c.args.self.now.content c.requires.found.run) c.args.found.now.place ≡ Some (task_of c.in-Some.graph.now.dag c.args.found.now.place) → 1 ≤ c.args.found.now.one.slots → AreOccupied c.args.self.now.content c.in_ok-occupied.occupied
    → CanGiveBack c.requires.found.run.graph c.task-task.result.now.pool c.args.found.now.one.slots c.in_ok-occupied.occupied
ready c task some numbers =
    let a : Schedule = c.args.self.now.content in
    let kept : IsSoundAndSaid a = subst (λ (h : ScheduleValue). IsSoundAndSaid h.content) c.self.view_is c.self.invariant.held.kept in
    let counted : IsCounted a = subst (λ (h : ScheduleValue). IsCounted h.content) c.self.view_is c.self.invariant.held.counted in
    let turn : is_some (report_try (Ended c.in-Ended.field-0) a.now c.args.found.now.one) ≡ true = subst (λ (s : Stage). is_some (report_try s a.now c.args.found.now.one) ≡ true) c.in-Ended.is c.requires.turn in
    subst (λ (t : TaskSpec). CanGiveBack c.requires.found.run.graph t.pool c.args.found.now.one.slots c.in_ok-occupied.occupied) (sym c.task-task.ensures)
    (can_give_back c.args.serial c.in-Ended.field-0 a c.args.found.now (task_of c.in-Some.graph.now.dag c.args.found.now.place) c.in_ok-occupied.occupied kept.sound c.requires.found turn task counted numbers some)

pub give_back-requires-clause-in_flight : goal.give_back-requires-clause-in_flight
give_back-requires-clause-in_flight c =
    let at = goal.at.give_back-requires-clause-in_flight c in
    (ready at.After-task-task (task_is at.In-Some (run_is at.After-get-run)).1 (omega (arith, c.get.ensures.low, c.get.ensures.value)) (copied at.In_ok-occupied)).flight

pub give_back-requires-clause-there : goal.give_back-requires-clause-there
give_back-requires-clause-there c =
    let at = goal.at.give_back-requires-clause-there c in
    (ready at.After-task-task (task_is at.In-Some (run_is at.After-get-run)).1 (omega (arith, c.get.ensures.low, c.get.ensures.value)) (copied at.In_ok-occupied)).there

pub give_back-requires-clause-enough : goal.give_back-requires-clause-enough
give_back-requires-clause-enough c =
    let at = goal.at.give_back-requires-clause-enough c in
    subst (λ n. IfSome (pool_of c.task-task.result.now.pool c.in_ok-occupied.occupied.pools.pools) (λ p. n ≤ p.occupied)) (sym (c.of.ensures ∙ c.get.ensures.value))
    (ready at.After-task-task (task_is at.In-Some (run_is at.After-get-run)).1 (omega (arith, c.get.ensures.low, c.get.ensures.value)) (copied at.In_ok-occupied)).enough

pub give_back-requires-clause-active : goal.give_back-requires-clause-active
give_back-requires-clause-active c =
    let at = goal.at.give_back-requires-clause-active c in
    let a : Schedule = c.args.self.now.content in
    subst (λ (id : List ℕ). 1 ≤ count_of id c.in_ok-occupied.occupied.active) (found_graph c.args.serial a c.args.found.now c.get-run.result.now c.requires.found (run_is at.After-get-run))
    (ready at.After-task-task (task_is at.In-Some (run_is at.After-get-run)).1 (omega (arith, c.get.ensures.low, c.get.ensures.value)) (copied at.In_ok-occupied)).active

pub returns : goal.returns
returns c =
    let at = goal.at.returns c in
    let a : Schedule = c.args.self.now.content in
    let t : TaskSpec = task_of c.in-Some.graph.now.dag c.args.found.now.place in
    let kept : IsSoundAndSaid a = subst (λ (h : ScheduleValue). IsSoundAndSaid h.content) c.self.view_is c.self.invariant.held.kept in
    let counted : IsCounted a = subst (λ (h : ScheduleValue). IsCounted h.content) c.self.view_is c.self.invariant.held.counted in
    let turn : is_some (report_try (Ended c.in-Ended.field-0) a.now c.args.found.now.one) ≡ true = subst (λ (s : Stage). is_some (report_try s a.now c.args.found.now.one) ≡ true) c.in-Ended.is c.requires.turn in
    let book : c.give_back.new.self.pools.pools ≡ with_pool t.pool (give_back c.args.found.now.one.slots) c.in_ok-occupied.occupied.pools.pools =
    c.give_back.ensures.pools ∙ (ap (λ n. with_pool c.task-task.result.now.pool (give_back n) c.in_ok-occupied.occupied.pools.pools) (c.of.ensures ∙ c.get.ensures.value)
    ∙ ap (λ (u : TaskSpec). with_pool u.pool (give_back c.args.found.now.one.slots) c.in_ok-occupied.occupied.pools.pools) c.task-task.ensures) in
    let active : (id : List ℕ) → count_of id c.give_back.new.self.active + cond (same c.requires.found.run.graph id) 1 0 ≡ count_of id c.in_ok-occupied.occupied.active =
    λ id. ap (λ (g : List ℕ). count_of id c.give_back.new.self.active + cond (same g id) 1 0) (found_graph c.args.serial a c.args.found.now c.get-run.result.now c.requires.found (run_is at.After-get-run)) ∙ c.give_back.ensures.active id in
    subst (λ (s : Stage). AreOccupied (report c.args.serial s a) c.give_back.new.self) (sym c.in-Ended.is)
    (ended_occupied c.args.serial c.in-Ended.field-0 a c.args.found.now t c.in_ok-occupied.occupied c.give_back.new.self kept.sound c.requires.found turn (task_is at.In-Some (run_is at.After-get-run)).1 counted (copied at.In_ok-occupied) c.give_back.ensures.in_flight book active)

pub graph_named-requires : goal.graph_named-requires
graph_named-requires c = ap (rises graph_before) c.as_slice.ensures.value ∙ c.self.invariant.held.kept.sound.graphs_by_id
