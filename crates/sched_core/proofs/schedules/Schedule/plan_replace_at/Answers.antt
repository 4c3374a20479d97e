use Rattle.std.proofs.Common.{arith, ◌≡◌, ◌∙◌, ◌<◌, refl, ap, subst, sym, length, true, false, get_or, Option, Some}
use Rattle.std.proofs.lemmas.Result.{err_from_is_err_and}
use Rattle.graph_file.specs.declared.graph_specs.GraphSpec.{GraphSpec}
use Rattle.sched_state.specs.Lists.{same}
use Rattle.sched_state.specs.declared.graphs.LoadedGraph.{LoadedGraph}
use Rattle.sched_model.specs.Changes.{load_graph}
use Rattle.sched_model.specs.Schedule.{Schedule, has_runs}
use Rattle.sched_events.specs.Outcomes.{IsRefusal}
use Rattle.sched_events.specs.SettledAndSound.{IsSoundAndSaid}
use Rattle.sched_events.specs.declared.events.Event.TheVariants.{Replace}
use Rattle.sched_core.specs.Books.{content_inside}
use Rattle.sched_core.specs.Changes.{ScheduleValue}
use Rattle.sched_core.specs.Plans.{no_runs}
use Rattle.sched_core.proofs.PlanLemmas.{change_held, draft_planned, known_is, IsDraftOf}
use Rattle.sched_core.proofs.ReplacingLemmas.{disturbance_is, disturbs, quiet_draft, same_draft}
use Rattle.sched_core.proofs.schedules.Schedule.plan_replace_at.Goals.{After-index}
use Rattle.sched_core.proofs.schedules.Schedule.plan_replace_at.Goals as goal

pub has_runs-requires : goal.has_runs-requires
has_runs-requires c = c.self.invariant.held.kept.sound.runs_by_key

pub index-requires : goal.index-requires
index-requires c =
    let below : c.args.place < length c.self.inside.graphs.items = subst (λ (h : ScheduleValue). c.args.place < length h.content.graphs) (sym c.self.view_is) c.requires.stands.below in
    omega (arith, below, c.self.inside.graphs.ok.0)

pub graph_change-requires-clause-sound : goal.graph_change-requires-clause-sound
graph_change-requires-clause-sound c = subst (λ (h : ScheduleValue). IsSoundAndSaid h.content) c.self.view_is c.self.invariant.held.kept

pub returns-then-is_same-clause-accepted : goal.returns-then-is_same-clause-accepted
returns-then-is_same-clause-accepted c =
    let a : Schedule = c.args.self.now.content in
    let g : LoadedGraph = c.index.result.now in
    let kept : IsSoundAndSaid a = subst (λ (h : ScheduleValue). IsSoundAndSaid h.content) c.self.view_is c.self.invariant.held.kept in
    let read : g ≡ get_or a.graphs c.args.place g = subst (λ (h : ScheduleValue). g ≡ get_or h.content.graphs c.args.place g) c.self.view_is c.index.ensures in
    draft_planned no_runs c.in_ok-graph_change.field-0 (same_draft a c.args.text.now c.args.dag c.args.place g kept c.requires.taken c.requires.stands read (sym c.if-is_same.ensures)) refl c.in_ok-graph_change.ensures

-- the graph that is there has another text
read : (c : After-index) → c.index.result.now ≡ get_or c.args.self.now.content.graphs c.args.place c.index.result.now
read c = subst (λ (h : ScheduleValue). c.index.result.now ≡ get_or h.content.graphs c.args.place c.index.result.now) c.self.view_is c.index.ensures

pub look_at_runs-requires : goal.look_at_runs-requires
look_at_runs-requires c = c.requires.stands

pub returns-in_err-look_at_runs-clause-refused : goal.returns-in_err-look_at_runs-clause-refused
returns-in_err-look_at_runs-clause-refused c =
    let a : Schedule = c.args.self.now.content in
    let g : LoadedGraph = c.index.result.now in
    let kept : IsSoundAndSaid a = subst (λ (h : ScheduleValue). IsSoundAndSaid h.content) c.self.view_is c.self.invariant.held.kept in
    let runs : has_runs a c.args.dag.spec.dag_id ≡ true = subst (λ (h : ScheduleValue). has_runs h.content c.args.dag.spec.dag_id ≡ true) c.self.view_is
    (subst (λ (s : GraphSpec). has_runs (content_inside c.self.inside) s.dag_id ≡ true) c.spec.ensures.spec (sym c.if-has_runs.ensures)) in
    let is = disturbs a c.args.text.now c.args.dag c.args.place g kept c.requires.taken c.requires.stands (read (goal.at.returns-in_err-look_at_runs-clause-refused c).After-index) (sym c.if-is_same.ensures) runs in
    let waits : IsRefusal a (Replace c.args.text.now) c.in_err-look_at_runs.field-0.0 = disturbance_is a c.args.text.now c.args.dag c.in_err-look_at_runs.field-0.0 is c.in_err-look_at_runs.ensures in
    let shown = err_from_is_err_and c.from_residual-in_err-look_at_runs.result c.from_residual-in_err-look_at_runs.ensures.1 in
    rw shown.1 (subst (IsRefusal a (Replace c.args.text.now)) (sym shown.2) waits)

pub changed_to-requires-clause-other : goal.changed_to-requires-clause-other
changed_to-requires-clause-other c g there =
    let h : LoadedGraph = c.index.result.now in
    let known = known_is c.args.self.now.content.graphs c.args.dag.spec.dag_id c.args.place h c.requires.stands (read (goal.at.changed_to-requires-clause-other c).After-index) in
    let same_graph : ◌≡◌ {A = Option LoadedGraph} (Some h) (Some g) = sym known.0 ∙ there in
    let is : h ≡ g = cc in
    ap (λ (k : LoadedGraph). same k.text c.args.text.now) (sym is) ∙ sym c.if-is_same.ensures

pub changed_to-requires-clause-accepted : goal.changed_to-requires-clause-accepted
changed_to-requires-clause-accepted c =
    let a : Schedule = c.args.self.now.content in
    let g : LoadedGraph = c.index.result.now in
    let kept : IsSoundAndSaid a = subst (λ (h : ScheduleValue). IsSoundAndSaid h.content) c.self.view_is c.self.invariant.held.kept in
    let runs : has_runs a c.args.dag.spec.dag_id ≡ true = subst (λ (h : ScheduleValue). has_runs h.content c.args.dag.spec.dag_id ≡ true) c.self.view_is
    (subst (λ (s : GraphSpec). has_runs (content_inside c.self.inside) s.dag_id ≡ true) c.spec.ensures.spec (sym c.if-has_runs.ensures)) in
    disturbs a c.args.text.now c.args.dag c.args.place g kept c.requires.taken c.requires.stands (read (goal.at.changed_to-requires-clause-accepted c).After-index) (sym c.if-is_same.ensures) runs ∙ c.in_ok-look_at_runs.ensures

-- without runs it is a load
loaded : (c : After-index) → same c.index.result.now.text c.args.text.now ≡ false → has_runs c.args.self.now.content c.args.dag.spec.dag_id ≡ false
    → IsDraftOf (Replace c.args.text.now) c.args.self.now.content (load_graph c.args.text.now c.args.dag c.args.self.now.content)
loaded c other none =
    let a : Schedule = c.args.self.now.content in
    let kept : IsSoundAndSaid a = subst (λ (h : ScheduleValue). IsSoundAndSaid h.content) c.self.view_is c.self.invariant.held.kept in
    quiet_draft a c.args.text.now c.args.dag c.args.place c.index.result.now kept c.requires.taken c.requires.stands (read c) other none

pub taken_in-requires-clause-quiet : goal.taken_in-requires-clause-quiet
taken_in-requires-clause-quiet c = subst (λ (h : ScheduleValue). has_runs h.content c.args.dag.spec.dag_id ≡ false) c.self.view_is
    (subst (λ (s : GraphSpec). has_runs (content_inside c.self.inside) s.dag_id ≡ false) c.spec.ensures.spec (sym c.if-has_runs.ensures))

pub taken_in-requires-clause-sound : goal.taken_in-requires-clause-sound
taken_in-requires-clause-sound c =
    let a : Schedule = c.args.self.now.content in
    let none : has_runs a c.args.dag.spec.dag_id ≡ false = subst (λ (h : ScheduleValue). has_runs h.content c.args.dag.spec.dag_id ≡ false) c.self.view_is
    (subst (λ (s : GraphSpec). has_runs (content_inside c.self.inside) s.dag_id ≡ false) c.spec.ensures.spec (sym c.if-has_runs.ensures)) in
    let d = loaded (goal.at.taken_in-requires-clause-sound c).After-index (sym c.if-is_same.ensures) none in
    change_held (Replace c.args.text.now) a (load_graph c.args.text.now c.args.dag a) tt d.accepted d.kept d.is

pub returns-clause-accepted : goal.returns-clause-accepted
returns-clause-accepted c =
    let a : Schedule = c.args.self.now.content in
    let none : has_runs a c.args.dag.spec.dag_id ≡ false = subst (λ (h : ScheduleValue). has_runs h.content c.args.dag.spec.dag_id ≡ false) c.self.view_is
    (subst (λ (s : GraphSpec). has_runs (content_inside c.self.inside) s.dag_id ≡ false) c.spec.ensures.spec (sym c.if-has_runs.ensures)) in
    draft_planned no_runs c.in_ok-taken_in.field-0 (loaded (goal.at.returns-clause-accepted c).After-index (sym c.if-is_same.ensures) none) refl c.in_ok-taken_in.ensures
