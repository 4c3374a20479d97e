use Rattle.std.proofs.Common.{◌≡◌, ◌∙◌, List, Some, None, sym, ap, find, slice_get}
use Rattle.std.specs.Option.{option_copied}
use Rattle.instance_machine.specs.Instances.{InstanceValue as Instance}
use Rattle.sched_model.specs.Schedule.{Schedule, is_at, graph_named}
use Rattle.sched_draft.specs.Books.{pools_in}
use Rattle.sched_core.specs.Changes.{ScheduleValue}
use Rattle.sched_core.proofs.ViewLemmas.{found_of, no_graph, at_place}
use Rattle.sched_core.proofs.schedules.Schedule.instance_of.Goals as goal

pub run_of-requires : goal.run_of-requires
run_of-requires c = c.self.invariant.held.kept.sound.runs_by_key

pub returns-in_err-graph_of : goal.returns-in_err-graph_of
returns-in_err-graph_of c =
    let a : Schedule = record { limits = c.self.inside.limits; graphs = c.self.inside.graphs.items; pools = pools_in c.self.inside.occupied.pools.pools; now = c.self.inside.clock; lanes = c.self.inside.lanes; next = c.self.inside.next; runs = c.self.inside.runs.runs } in
    let run : find (is_at c.args.graph.now c.args.logical) a.runs ≡ Some c.in_ok-run.run'.now = sym c.in_ok-run.ensures in
    let none : graph_named a c.args.graph.now ≡ None = ap (λ (h : ScheduleValue). graph_named h.content c.args.graph.now) c.self.view_is ∙ sym c.in_err-graph_of.ensures in
    ap option_copied c.from_residual-in_err-graph_of.ensures
    ∙ (sym (no_graph a c.args.graph.now c.args.logical c.args.task.now c.in_ok-run.run'.now run none)
    ∙ ap (λ (h : ScheduleValue). found_of h.content c.args.graph.now c.args.logical c.args.task.now) c.self.view_is)

pub returns-in_err-place : goal.returns-in_err-place
returns-in_err-place c =
    let a : Schedule = record { limits = c.self.inside.limits; graphs = c.self.inside.graphs.items; pools = pools_in c.self.inside.occupied.pools.pools; now = c.self.inside.clock; lanes = c.self.inside.lanes; next = c.self.inside.next; runs = c.self.inside.runs.runs } in
    let run : find (is_at c.args.graph.now c.args.logical) a.runs ≡ Some c.in_ok-run.run'.now = sym c.in_ok-run.ensures in
    let graph : graph_named a c.args.graph.now ≡ Some c.in_ok-graph_of.field-0.now = ap (λ (h : ScheduleValue). graph_named h.content c.args.graph.now) c.self.view_is ∙ sym c.in_ok-graph_of.ensures in
    ap option_copied c.from_residual-in_err-place.ensures
    ∙ (sym (at_place a c.args.graph.now c.args.logical c.args.task.now c.in_ok-run.run'.now c.in_ok-graph_of.field-0.now None run graph c.in_err-place.ensures)
    ∙ ap (λ (h : ScheduleValue). found_of h.content c.args.graph.now c.args.logical c.args.task.now) c.self.view_is)

pub returns : goal.returns
returns c =
    let a : Schedule = record { limits = c.self.inside.limits; graphs = c.self.inside.graphs.items; pools = pools_in c.self.inside.occupied.pools.pools; now = c.self.inside.clock; lanes = c.self.inside.lanes; next = c.self.inside.next; runs = c.self.inside.runs.runs } in
    let run : find (is_at c.args.graph.now c.args.logical) a.runs ≡ Some c.in_ok-run.run'.now = sym c.in_ok-run.ensures in
    let graph : graph_named a c.args.graph.now ≡ Some c.in_ok-graph_of.field-0.now = ap (λ (h : ScheduleValue). graph_named h.content c.args.graph.now) c.self.view_is ∙ sym c.in_ok-graph_of.ensures in
    let found = at_place a c.args.graph.now c.args.logical c.args.task.now c.in_ok-run.run'.now c.in_ok-graph_of.field-0.now (Some c.in_ok-place.place) run graph c.in_ok-place.ensures in
    c.instance_at.ensures
    ∙ (ap (λ (is : List Instance). slice_get is c.in_ok-place.place) c.as_slice.ensures
    ∙ (sym found ∙ ap (λ (h : ScheduleValue). found_of h.content c.args.graph.now c.args.logical c.args.task.now) c.self.view_is))
