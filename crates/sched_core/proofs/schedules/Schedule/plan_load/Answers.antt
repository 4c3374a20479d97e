use Rattle.std.proofs.Common.{◌≡◌, ◌∙◌, refl, true, false, List, length, nat_le, ap, sym, subst, arith, inr, Some}
use Rattle.std.specs.List.{list_any}
use Rattle.std.proofs.lemmas.Bool.Decides.{nat_tests}
use Rattle.std.proofs.lemmas.Result.{err_from_is_err_and}
use Rattle.graph_file.specs.declared.graph_specs.GraphSpec.{GraphSpec}
use Rattle.sched_state.specs.Lists.{same}
use Rattle.sched_model.specs.Changes.{load_graph}
use Rattle.sched_model.specs.Schedule.{has_runs, graph_before}
use Rattle.sched_model.specs.Schedule.{Schedule}
use Rattle.sched_state.specs.declared.graphs.LoadedGraph.{LoadedGraph}
use Rattle.sched_model.specs.Lists.{rises}
use Rattle.sched_core.proofs.GraphLemmas.{unknown_no_runs}
use Rattle.sched_draft.specs.Books.{pools_in}
use Rattle.sched_core.specs.Changes.{ScheduleValue}
use Rattle.sched_events.specs.Causes.{refused}
use Rattle.sched_events.specs.Outcomes.{IsRefusal}
use Rattle.sched_core.specs.Inside.{StandsAt, IsTaken}
use Rattle.sched_events.specs.SettledAndSound.{IsSoundAndSaid}
use Rattle.sched_core.specs.Plans.{no_runs}
use Rattle.sched_events.specs.declared.events.Event.TheVariants.{Load}
use Rattle.sched_events.specs.declared.refusals.Refusal.TheVariants as refusal
use Rattle.sched_core.proofs.PlanLemmas.{known_is, refused_full, accepted_new, accepted_same, refused_differs, accepted_other, again_change, IsDraftOf, draft_planned, draft_said, load_draft, unfit_load}
use Rattle.sched_core.proofs.schedules.Schedule.plan_load.Goals as goal

pub returns-in_err-dag-clause-refused : goal.returns-in_err-dag-clause-refused
returns-in_err-dag-clause-refused c =
    let a : Schedule = c.args.self.now.content in
    let waits : IsRefusal a (Load c.args.text.now) c.in_err-dag.field-0.0 = unfit_load a c.args.text.now c.in_err-dag.field-0.0 c.in_err-dag.ensures.refused in
    let shown = err_from_is_err_and c.from_residual.result c.from_residual.ensures.1 in
    rw shown.1 (subst (IsRefusal a (Load c.args.text.now)) (sym shown.2) waits)

pub returns-then-graphs-len-clause-refused : goal.returns-then-graphs-len-clause-refused
returns-then-graphs-len-clause-refused c =
    let a : Schedule = record { limits = c.self.inside.limits; graphs = c.self.inside.graphs.items; pools = pools_in c.self.inside.occupied.pools.pools; now = c.self.inside.clock; lanes = c.self.inside.lanes; next = c.self.inside.next; runs = c.self.inside.runs.runs } in
    let dag = c.in_ok-dag.dag in
    let taken = subst (λ (h : ScheduleValue). IsTaken h.content c.args.text.now dag) (sym c.self.view_is) c.in_ok-dag.ensures.taken in
    let unknown = subst (λ (s : GraphSpec). list_any (λ (g : LoadedGraph). same g.dag.spec.dag_id s.dag_id) a.graphs ≡ false) c.spec.ensures.spec
    (ap (list_any (λ (g : LoadedGraph). same g.dag.spec.dag_id c.spec.result.now.dag_id)) (sym c.deref.ensures.value) ∙ c.in-None.ensures) in
    inr (record { first = subst (λ (h : ScheduleValue). refused h.content (Load c.args.text.now) ≡ Some refusal.TooManyGraphs) c.self.view_is (refused_full a c.args.text.now dag taken unknown (omega (arith, c.graphs.ensures, c.len.ensures, c.if-graphs-len.true))); shown = tt })

pub taken_in-requires-clause-quiet : goal.taken_in-requires-clause-quiet
taken_in-requires-clause-quiet c =
    let a : Schedule = record { limits = c.self.inside.limits; graphs = c.self.inside.graphs.items; pools = pools_in c.self.inside.occupied.pools.pools; now = c.self.inside.clock; lanes = c.self.inside.lanes; next = c.self.inside.next; runs = c.self.inside.runs.runs } in
    let dag = c.in_ok-dag.dag in
    let taken = subst (λ (h : ScheduleValue). IsTaken h.content c.args.text.now dag) (sym c.self.view_is) c.in_ok-dag.ensures.taken in
    let unknown = subst (λ (s : GraphSpec). list_any (λ (g : LoadedGraph). same g.dag.spec.dag_id s.dag_id) a.graphs ≡ false) c.spec.ensures.spec
    (ap (list_any (λ (g : LoadedGraph). same g.dag.spec.dag_id c.spec.result.now.dag_id)) (sym c.deref.ensures.value) ∙ c.in-None.ensures) in
    subst (λ (h : ScheduleValue). has_runs h.content dag.spec.dag_id ≡ false) c.self.view_is (unknown_no_runs a dag.spec.dag_id c.self.invariant.held.kept.sound unknown)

pub taken_in-requires-clause-sound : goal.taken_in-requires-clause-sound
taken_in-requires-clause-sound c =
    let a : Schedule = record { limits = c.self.inside.limits; graphs = c.self.inside.graphs.items; pools = pools_in c.self.inside.occupied.pools.pools; now = c.self.inside.clock; lanes = c.self.inside.lanes; next = c.self.inside.next; runs = c.self.inside.runs.runs } in
    let dag = c.in_ok-dag.dag in
    let taken = subst (λ (h : ScheduleValue). IsTaken h.content c.args.text.now dag) (sym c.self.view_is) c.in_ok-dag.ensures.taken in
    let unknown = subst (λ (s : GraphSpec). list_any (λ (g : LoadedGraph). same g.dag.spec.dag_id s.dag_id) a.graphs ≡ false) c.spec.ensures.spec
    (ap (list_any (λ (g : LoadedGraph). same g.dag.spec.dag_id c.spec.result.now.dag_id)) (sym c.deref.ensures.value) ∙ c.in-None.ensures) in
    let room : nat_le a.limits.graphs (length a.graphs) ≡ false = grind (arith, nat_tests, c.graphs.ensures, c.len.ensures) in
    let accepted = accepted_new a c.args.text.now dag taken unknown room in
    subst (λ (h : ScheduleValue). IsSoundAndSaid (load_graph c.args.text.now dag h.content)) c.self.view_is (draft_said (load_draft a c.args.text.now dag c.self.invariant.held.kept taken accepted))

pub returns-in_ok-taken_in-in-None-clause-accepted : goal.returns-in_ok-taken_in-in-None-clause-accepted
returns-in_ok-taken_in-in-None-clause-accepted c =
    let a : Schedule = record { limits = c.self.inside.limits; graphs = c.self.inside.graphs.items; pools = pools_in c.self.inside.occupied.pools.pools; now = c.self.inside.clock; lanes = c.self.inside.lanes; next = c.self.inside.next; runs = c.self.inside.runs.runs } in
    let dag = c.in_ok-dag.dag in
    let taken = subst (λ (h : ScheduleValue). IsTaken h.content c.args.text.now dag) (sym c.self.view_is) c.in_ok-dag.ensures.taken in
    let unknown = subst (λ (s : GraphSpec). list_any (λ (g : LoadedGraph). same g.dag.spec.dag_id s.dag_id) a.graphs ≡ false) c.spec.ensures.spec
    (ap (list_any (λ (g : LoadedGraph). same g.dag.spec.dag_id c.spec.result.now.dag_id)) (sym c.deref.ensures.value) ∙ c.in-None.ensures) in
    let room : nat_le a.limits.graphs (length a.graphs) ≡ false = grind (arith, nat_tests, c.graphs.ensures, c.len.ensures) in
    let accepted = accepted_new a c.args.text.now dag taken unknown room in
    draft_planned no_runs c.in_ok-taken_in-in-None.field-0 (subst (λ (h : ScheduleValue). IsDraftOf (Load c.args.text.now) h.content (load_graph c.args.text.now dag h.content)) c.self.view_is (load_draft a c.args.text.now dag c.self.invariant.held.kept taken accepted))
    refl c.in_ok-taken_in-in-None.ensures

pub graph_change-requires-clause-sound : goal.graph_change-requires-clause-sound
graph_change-requires-clause-sound c = subst (λ (h : ScheduleValue). IsSoundAndSaid h.content) c.self.view_is c.self.invariant.held.kept

pub returns-then-is_same-clause-accepted : goal.returns-then-is_same-clause-accepted
returns-then-is_same-clause-accepted c =
    let a : Schedule = record { limits = c.self.inside.limits; graphs = c.self.inside.graphs.items; pools = pools_in c.self.inside.occupied.pools.pools; now = c.self.inside.clock; lanes = c.self.inside.lanes; next = c.self.inside.next; runs = c.self.inside.runs.runs } in
    let dag = c.in_ok-dag.dag in
    let taken = subst (λ (h : ScheduleValue). IsTaken h.content c.args.text.now dag) (sym c.self.view_is) c.in_ok-dag.ensures.taken in
    let g = c.index.result.now in
    let stands = subst (λ (s : GraphSpec). StandsAt s.dag_id a.graphs c.in-Some.place) c.spec.ensures.spec
    (subst (λ (gs : List LoadedGraph). StandsAt c.spec.result.now.dag_id gs c.in-Some.place) c.deref.ensures.value c.in-Some.ensures) in
    let known = known_is a.graphs dag.spec.dag_id c.in-Some.place g stands c.index.ensures in
    let text_is : same g.text c.args.text.now ≡ true = sym c.if-is_same.ensures in
    let accepted = accepted_same a c.args.text.now dag c.in-Some.place g c.self.invariant.held.kept taken known.0 known.1 text_is in
    let is = again_change a c.args.text.now dag c.in-Some.place g c.self.invariant.held.kept taken.says known.0 known.1 text_is in
    let made : IsDraftOf (Load c.args.text.now) a a = record { ranged = tt; accepted = accepted; kept = c.self.invariant.held.kept; is = is } in
    draft_planned no_runs c.in_ok-graph_change-in-Some.field-0 (subst (λ (h : ScheduleValue). IsDraftOf (Load c.args.text.now) h.content h.content) c.self.view_is made)
    refl c.in_ok-graph_change-in-Some.ensures

pub has_runs-requires : goal.has_runs-requires
has_runs-requires c = c.self.invariant.held.kept.sound.runs_by_key

pub returns-then-has_runs-clause-refused : goal.returns-then-has_runs-clause-refused
returns-then-has_runs-clause-refused c =
    let a : Schedule = record { limits = c.self.inside.limits; graphs = c.self.inside.graphs.items; pools = pools_in c.self.inside.occupied.pools.pools; now = c.self.inside.clock; lanes = c.self.inside.lanes; next = c.self.inside.next; runs = c.self.inside.runs.runs } in
    let dag = c.in_ok-dag.dag in
    let taken = subst (λ (h : ScheduleValue). IsTaken h.content c.args.text.now dag) (sym c.self.view_is) c.in_ok-dag.ensures.taken in
    let g = c.index.result.now in
    let stands = subst (λ (s : GraphSpec). StandsAt s.dag_id a.graphs c.in-Some.place) c.spec.ensures.spec
    (subst (λ (gs : List LoadedGraph). StandsAt c.spec.result.now.dag_id gs c.in-Some.place) c.deref.ensures.value c.in-Some.ensures) in
    let known = known_is a.graphs dag.spec.dag_id c.in-Some.place g stands c.index.ensures in
    let other : same g.text c.args.text.now ≡ false = sym c.if-is_same.ensures in
    let runs = subst (λ (s : GraphSpec). has_runs a s.dag_id ≡ true) c.spec.ensures.spec (sym c.if-has_runs.ensures) in
    inr (record { first = subst (λ (h : ScheduleValue). refused h.content (Load c.args.text.now) ≡ Some refusal.GraphDiffers) c.self.view_is (refused_differs a c.args.text.now dag c.in-Some.place g c.self.invariant.held.kept taken known.0 known.1 other runs); shown = tt })

pub taken_in-requires-in-Some-clause-sound : goal.taken_in-requires-in-Some-clause-sound
taken_in-requires-in-Some-clause-sound c =
    let a : Schedule = record { limits = c.self.inside.limits; graphs = c.self.inside.graphs.items; pools = pools_in c.self.inside.occupied.pools.pools; now = c.self.inside.clock; lanes = c.self.inside.lanes; next = c.self.inside.next; runs = c.self.inside.runs.runs } in
    let dag = c.in_ok-dag.dag in
    let taken = subst (λ (h : ScheduleValue). IsTaken h.content c.args.text.now dag) (sym c.self.view_is) c.in_ok-dag.ensures.taken in
    let g = c.index.result.now in
    let stands = subst (λ (s : GraphSpec). StandsAt s.dag_id a.graphs c.in-Some.place) c.spec.ensures.spec
    (subst (λ (gs : List LoadedGraph). StandsAt c.spec.result.now.dag_id gs c.in-Some.place) c.deref.ensures.value c.in-Some.ensures) in
    let known = known_is a.graphs dag.spec.dag_id c.in-Some.place g stands c.index.ensures in
    let other : same g.text c.args.text.now ≡ false = sym c.if-is_same.ensures in
    let runs = subst (λ (s : GraphSpec). has_runs a s.dag_id ≡ false) c.spec.ensures.spec (sym c.if-has_runs.ensures) in
    let accepted = accepted_other a c.args.text.now dag c.in-Some.place g c.self.invariant.held.kept taken known.0 known.1 other runs in
    subst (λ (h : ScheduleValue). IsSoundAndSaid (load_graph c.args.text.now dag h.content)) c.self.view_is (draft_said (load_draft a c.args.text.now dag c.self.invariant.held.kept taken accepted))

pub returns-in_ok-taken_in-in-Some-clause-accepted : goal.returns-in_ok-taken_in-in-Some-clause-accepted
returns-in_ok-taken_in-in-Some-clause-accepted c =
    let a : Schedule = record { limits = c.self.inside.limits; graphs = c.self.inside.graphs.items; pools = pools_in c.self.inside.occupied.pools.pools; now = c.self.inside.clock; lanes = c.self.inside.lanes; next = c.self.inside.next; runs = c.self.inside.runs.runs } in
    let dag = c.in_ok-dag.dag in
    let taken = subst (λ (h : ScheduleValue). IsTaken h.content c.args.text.now dag) (sym c.self.view_is) c.in_ok-dag.ensures.taken in
    let g = c.index.result.now in
    let stands = subst (λ (s : GraphSpec). StandsAt s.dag_id a.graphs c.in-Some.place) c.spec.ensures.spec
    (subst (λ (gs : List LoadedGraph). StandsAt c.spec.result.now.dag_id gs c.in-Some.place) c.deref.ensures.value c.in-Some.ensures) in
    let known = known_is a.graphs dag.spec.dag_id c.in-Some.place g stands c.index.ensures in
    let other : same g.text c.args.text.now ≡ false = sym c.if-is_same.ensures in
    let runs = subst (λ (s : GraphSpec). has_runs a s.dag_id ≡ false) c.spec.ensures.spec (sym c.if-has_runs.ensures) in
    let accepted = accepted_other a c.args.text.now dag c.in-Some.place g c.self.invariant.held.kept taken known.0 known.1 other runs in
    draft_planned no_runs c.in_ok-taken_in-in-Some.field-0 (subst (λ (h : ScheduleValue). IsDraftOf (Load c.args.text.now) h.content (load_graph c.args.text.now dag h.content)) c.self.view_is (load_draft a c.args.text.now dag c.self.invariant.held.kept taken accepted))
    refl c.in_ok-taken_in-in-Some.ensures

pub taken_in-requires-in-Some-clause-quiet : goal.taken_in-requires-in-Some-clause-quiet
taken_in-requires-in-Some-clause-quiet c =
    let a : Schedule = record { limits = c.self.inside.limits; graphs = c.self.inside.graphs.items; pools = pools_in c.self.inside.occupied.pools.pools; now = c.self.inside.clock; lanes = c.self.inside.lanes; next = c.self.inside.next; runs = c.self.inside.runs.runs } in
    let dag = c.in_ok-dag.dag in
    let taken = subst (λ (h : ScheduleValue). IsTaken h.content c.args.text.now dag) (sym c.self.view_is) c.in_ok-dag.ensures.taken in
    let runs = subst (λ (s : GraphSpec). has_runs a s.dag_id ≡ false) c.spec.ensures.spec (sym c.if-has_runs.ensures) in
    subst (λ (h : ScheduleValue). has_runs h.content dag.spec.dag_id ≡ false) c.self.view_is runs

pub position_of-requires : goal.position_of-requires
position_of-requires c = ap (rises graph_before) c.deref.ensures.value ∙ c.self.invariant.held.kept.sound.graphs_by_id
