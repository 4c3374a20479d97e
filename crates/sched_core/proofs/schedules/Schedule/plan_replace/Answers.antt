use Rattle.std.proofs.Common.{◌≡◌, ◌∙◌, ap, subst, sym, inr, List, false}
use Rattle.std.specs.List.{list_any}
use Rattle.std.proofs.lemmas.Result.{err_from_is_err_and}
use Rattle.graph_file.specs.declared.graph_specs.GraphSpec.{GraphSpec}
use Rattle.sched_state.specs.Lists.{same}
use Rattle.sched_state.specs.declared.graphs.LoadedGraph.{LoadedGraph}
use Rattle.sched_model.specs.Lists.{rises}
use Rattle.sched_model.specs.Schedule.{Schedule, graph_before}
use Rattle.sched_events.specs.Causes.{refused}
use Rattle.sched_events.specs.Outcomes.{IsRefusal}
use Rattle.sched_events.specs.declared.events.Event.TheVariants.{Replace}
use Rattle.sched_core.specs.Changes.{ScheduleValue}
use Rattle.sched_core.specs.Inside.{StandsAt}
use Rattle.sched_core.proofs.PlanLemmas.{refused_unknown, unfit_replace}
use Rattle.sched_core.proofs.schedules.Schedule.plan_replace.Goals as goal

pub returns-in_err-dag-clause-refused : goal.returns-in_err-dag-clause-refused
returns-in_err-dag-clause-refused c =
    let a : Schedule = c.args.self.now.content in
    let waits : IsRefusal a (Replace c.args.text.now) c.in_err-dag.field-0.0 = unfit_replace a c.args.text.now c.in_err-dag.field-0.0 c.in_err-dag.ensures.refused in
    let shown = err_from_is_err_and c.from_residual.result c.from_residual.ensures.1 in
    rw shown.1 (subst (IsRefusal a (Replace c.args.text.now)) (sym shown.2) waits)

pub returns-in-None-clause-refused : goal.returns-in-None-clause-refused
returns-in-None-clause-refused c =
    let a : Schedule = c.args.self.now.content in
    let gs : List LoadedGraph = c.self.inside.graphs.items in
    let dag = c.in_ok-dag.dag in
    let none : list_any (λ (g : LoadedGraph). same g.dag.spec.dag_id dag.spec.dag_id) gs ≡ false = subst (λ (s : GraphSpec). list_any (λ (g : LoadedGraph). same g.dag.spec.dag_id s.dag_id) gs ≡ false) c.spec.ensures.spec
    (ap (list_any (λ (g : LoadedGraph). same g.dag.spec.dag_id c.spec.result.now.dag_id)) (sym c.deref.ensures.value) ∙ c.in-None.ensures) in
    let unknown = subst (λ (h : ScheduleValue). list_any (λ (g : LoadedGraph). same g.dag.spec.dag_id dag.spec.dag_id) h.content.graphs ≡ false) c.self.view_is none in
    inr (record { first = refused_unknown a c.args.text.now dag c.in_ok-dag.ensures.taken unknown; shown = tt })

pub plan_replace_at-requires-clause-stands : goal.plan_replace_at-requires-clause-stands
plan_replace_at-requires-clause-stands c =
    let dag = c.in_ok-dag.dag in
    let stands : StandsAt dag.spec.dag_id c.self.inside.graphs.items c.in-Some.place = subst (λ (s : GraphSpec). StandsAt s.dag_id c.self.inside.graphs.items c.in-Some.place) c.spec.ensures.spec
    (subst (λ (gs : List LoadedGraph). StandsAt c.spec.result.now.dag_id gs c.in-Some.place) c.deref.ensures.value c.in-Some.ensures) in
    subst (λ (h : ScheduleValue). StandsAt dag.spec.dag_id h.content.graphs c.in-Some.place) c.self.view_is stands

pub position_of-requires : goal.position_of-requires
position_of-requires c = ap (rises graph_before) c.deref.ensures.value ∙ c.self.invariant.held.kept.sound.graphs_by_id
