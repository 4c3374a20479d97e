use Rattle.std.proofs.Common.{arith, ◌≡◌, ◌∙◌, ◌<◌, ap, subst, sym, length, map, get_or, true, Some}
use Rattle.sched_draft.specs.Drafts.{DraftValue}
use Rattle.sched_draft.specs.Parts.{with_other}
use Rattle.sched_model.specs.Replacing.{refitted}
use Rattle.sched_state.specs.declared.graphs.LoadedGraph.{LoadedGraph}
use Rattle.sched_model.specs.Lists.{rises}
use Rattle.sched_model.specs.Schedule.{Schedule, dag_named, run_before}
use Rattle.sched_events.specs.SettledAndSound.{IsSoundAndSaid}
use Rattle.sched_core.specs.Changes.{ScheduleValue}
use Rattle.sched_core.proofs.ReplacingLemmas.{dag_there}
use Rattle.sched_core.proofs.schedules.Schedule.refitted.Goals as goal

pub index-requires : goal.index-requires
index-requires c =
    let below : c.args.place < length c.self.inside.graphs.items = subst (λ (h : ScheduleValue). c.args.place < length h.content.graphs) (sym c.self.view_is) c.requires.below in
    omega (arith, below, c.self.inside.graphs.ok.0)

pub refit-requires : goal.refit-requires
refit-requires c =
    let kept : IsSoundAndSaid c.args.self.now.content = subst (λ (h : ScheduleValue). IsSoundAndSaid h.content) c.self.view_is c.self.invariant.held.kept in
    subst (λ (v : DraftValue). rises run_before v.content.runs ≡ true) (sym c.over_with-draft.ensures) (subst (λ (s : Schedule). rises run_before s.runs ≡ true) (sym c.base.ensures) kept.sound.runs_by_key)

pub returns-clause-content : goal.returns-clause-content
returns-clause-content c =
    let a : Schedule = c.args.self.now.content in
    let g : LoadedGraph = c.index.result.now in
    let k : LoadedGraph = c.args.graph.now in
    let kept : IsSoundAndSaid a = subst (λ (h : ScheduleValue). IsSoundAndSaid h.content) c.self.view_is c.self.invariant.held.kept in
    let read : g ≡ get_or a.graphs c.args.place g = subst (λ (h : ScheduleValue). g ≡ get_or h.content.graphs c.args.place g) c.self.view_is c.index.ensures in
    let there : dag_named a k.dag.spec.dag_id ≡ g.dag = dag_there a k.dag.spec.dag_id c.args.place g kept c.requires read in
    let start : c.over_with-draft.result.content ≡ record a { graphs = with_other (Some k) a.graphs } =
    ap (λ (v : DraftValue). v.content) c.over_with-draft.ensures ∙ ap (λ (s : Schedule). record s { graphs = with_other (Some k) s.graphs }) c.base.ensures in
    c.in_ok-refit.ensures.model a there ∙ ap (λ (s : Schedule). record s { runs = map (refitted a k.dag) s.runs }) start

pub returns-clause-base : goal.returns-clause-base
returns-clause-base c = c.in_ok-refit.ensures.base ∙ (ap (λ (v : DraftValue). v.base) c.over_with-draft.ensures ∙ c.base.ensures)
