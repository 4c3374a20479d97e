use Rattle.std.proofs.Common.{arith, ◌≡◌, ◌∙◌, ◌<◌, ap, subst, sym, List, ℕ, length, get_or}
use Rattle.sched_state.specs.declared.graphs.LoadedGraph.{LoadedGraph}
use Rattle.sched_model.specs.Changes.{taken_in}
use Rattle.sched_model.specs.Handout.{hand_out}
use Rattle.sched_model.specs.Jobs.{handed}
use Rattle.sched_model.specs.Schedule.{Schedule}
use Rattle.sched_model.specs.Settle.{settle}
use Rattle.sched_events.specs.SettledAndSound.{IsSoundAndSaid}
use Rattle.sched_events.specs.declared.events.Event.TheVariants.{Replace}
use Rattle.sched_core.specs.Changes.{Planned, ScheduleValue}
use Rattle.sched_core.specs.Inside.{StandsAt}
use Rattle.sched_core.specs.Replaced.{TakeAlike, with_other_graph}
use Rattle.sched_core.proofs.PlanLemmas.{IsDraftOf, draft_kept, draft_planned, draft_sound}
use Rattle.sched_core.proofs.ReplacingLemmas.{replaced_alike, replaced_draft}
use Rattle.sched_core.proofs.schedules.Schedule.changed_to.Goals.{After-with_text_of-graph}
use Rattle.sched_core.proofs.schedules.Schedule.changed_to.Goals as goal

-- the graph is the one that has taken the text in
graph_is : (c : After-with_text_of-graph) → c.with_text_of-graph.result ≡ taken_in c.args.text.now c.args.dag c.index.result.now
graph_is c = c.with_text_of-graph.ensures ∙ ap (λ (t : List ℕ). taken_in t c.args.dag c.index.result.now) c.in_ok-copy.ensures

drafted : (c : After-with_text_of-graph) → IsDraftOf (Replace c.args.text.now) c.args.self.now.content (with_other_graph c.with_text_of-graph.result c.args.self.now.content)
drafted c =
    let a : Schedule = c.args.self.now.content in
    let g : LoadedGraph = c.index.result.now in
    let kept : IsSoundAndSaid a = subst (λ (h : ScheduleValue). IsSoundAndSaid h.content) c.self.view_is c.self.invariant.held.kept in
    let read : g ≡ get_or a.graphs c.args.place g = subst (λ (h : ScheduleValue). g ≡ get_or h.content.graphs c.args.place g) c.self.view_is c.index.ensures in
    subst (λ (k : LoadedGraph). IsDraftOf (Replace c.args.text.now) a (with_other_graph k a)) (sym (graph_is c))
    (replaced_draft a c.args.text.now c.args.dag c.args.place g kept c.requires.taken c.requires.stands read c.requires.other c.requires.accepted)

pub index-requires : goal.index-requires
index-requires c =
    let below : c.args.place < length c.self.inside.graphs.items = subst (λ (h : ScheduleValue). c.args.place < length h.content.graphs) (sym c.self.view_is) c.requires.stands.below in
    omega (arith, below, c.self.inside.graphs.ok.0)

pub aftermath-requires-clause-stands : goal.aftermath-requires-clause-stands
aftermath-requires-clause-stands c =
    subst (λ (k : LoadedGraph). StandsAt k.dag.spec.dag_id c.args.self.now.content.graphs c.args.place) (sym (graph_is (goal.at.aftermath-requires-clause-stands c).After-with_text_of-graph)) c.requires.stands

pub aftermath-requires-clause-sound : goal.aftermath-requires-clause-sound
aftermath-requires-clause-sound c = draft_sound (drafted (goal.at.aftermath-requires-clause-sound c).After-with_text_of-graph)

pub aftermath-requires-clause-kept : goal.aftermath-requires-clause-kept
aftermath-requires-clause-kept c = draft_kept (drafted (goal.at.aftermath-requires-clause-kept c).After-with_text_of-graph)

pub aftermath-requires-clause-taken : goal.aftermath-requires-clause-taken
aftermath-requires-clause-taken c =
    let a : Schedule = c.args.self.now.content in
    let g : LoadedGraph = c.index.result.now in
    let kept : IsSoundAndSaid a = subst (λ (h : ScheduleValue). IsSoundAndSaid h.content) c.self.view_is c.self.invariant.held.kept in
    let read : g ≡ get_or a.graphs c.args.place g = subst (λ (h : ScheduleValue). g ≡ get_or h.content.graphs c.args.place g) c.self.view_is c.index.ensures in
    subst (λ (k : LoadedGraph). TakeAlike a (with_other_graph k a)) (sym (graph_is (goal.at.aftermath-requires-clause-taken c).After-with_text_of-graph))
    (replaced_alike a c.args.text.now c.args.dag c.args.place g kept c.requires.taken c.requires.stands read c.requires.other c.requires.quiet)

pub change_of-requires : goal.change_of-requires
change_of-requires c = c.in_ok-aftermath.ensures.effect

pub returns : goal.returns
returns c =
    let a : Schedule = c.args.self.now.content in
    let b : Schedule = with_other_graph c.with_text_of-graph.result a in
    let is : c.change_of.result ≡ record { before = a; after = hand_out (settle b); answer = record c.quiet_answer.result { jobs = handed a (hand_out (settle b)) } } =
    c.change_of.ensures
    ∙ (ap (λ (s : Schedule). let p : Planned = record { before = a; after = s; answer = record c.quiet_answer.result { jobs = c.in_ok-aftermath.aftermath.jobs } } in p) c.in_ok-aftermath.ensures.after
    ∙ ap (λ js. let p : Planned = record { before = a; after = hand_out (settle b); answer = record c.quiet_answer.result { jobs = js } } in p) c.in_ok-aftermath.ensures.jobs) in
    draft_planned c.quiet_answer.result c.change_of.result (drafted (goal.at.returns c).After-with_text_of-graph) c.quiet_answer.ensures is
