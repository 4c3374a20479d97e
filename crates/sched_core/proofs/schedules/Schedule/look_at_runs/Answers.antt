use Rattle.std.proofs.Common.{◌≡◌, ◌∙◌, ◌<◌, ap, subst, sym, inr, ℕ, List, Some, None, length, true, get_or, slice_get, arith}
use Rattle.std.specs.Option.{option_copied}
use Rattle.std.proofs.lemmas.Option.{slice_get-get_or}
use Rattle.graph_file.specs.declared.graph_specs.GraphSpec.{GraphSpec}
use Rattle.dag_check.specs.Graphs.{Dag}
use Rattle.run_planner.specs.Index.{Index}
use Rattle.sched_state.specs.Lists.{same}
use Rattle.sched_state.specs.declared.graphs.LoadedGraph.{LoadedGraph}
use Rattle.sched_state.specs.declared.runs.Run.{Run}
use Rattle.sched_state.proofs.NameLemmas.{same_is}
use Rattle.sched_model.specs.Causes.{least_moved, lost_task, reached, resized_task}
use Rattle.sched_model.specs.Schedule.{Schedule, dag_named}
use Rattle.sched_creation.specs.Dates.{HasDates, HaveDates}
use Rattle.sched_draft.specs.Drafts.{DraftValue}
use Rattle.sched_events.specs.SettledAndSound.{IsSoundAndSaid}
use Rattle.sched_events.specs.declared.refusals.Refusal.TheVariants as refusal
use Rattle.sched_core.specs.Changes.{ScheduleValue}
use Rattle.sched_core.proofs.PlanLemmas.{known_is}
use Rattle.sched_core.proofs.ReplacingLemmas.{anew_is, dag_there, first_lost, first_redone, first_resized, is_anew, no_cause_left}
use Rattle.sched_core.proofs.schedules.Schedule.look_at_runs.Goals.{After-draft-draft, In_default, In_default-lost_task, In_default-2, In_ok-makes_anew}
use Rattle.sched_core.proofs.schedules.Schedule.look_at_runs.Goals as goal

-- the dates of the graph at a place are those of its runs
has_dates : (gs : List LoadedGraph) (rs : List Run) (xs : List Index) (i : ℕ) (id : List ℕ) (g : LoadedGraph) (x : Index) → HaveDates gs rs xs → slice_get gs i ≡ Some g → same g.dag.spec.dag_id id ≡ true → i < length gs → x ≡ get_or xs i x
    → HasDates id rs x
has_dates gs rs xs i id g x h at named below read =
    let there : slice_get xs i ≡ Some x = slice_get-get_or xs i x (omega (arith, below, h.long)) ∙ ap (λ y. Some y) (sym read) in
    subst (λ (n : List ℕ). HasDates n rs x) (same_is g.dag.spec.dag_id id named) (h.each i g x at there)

-- the draft is the schedule, and its graph the one at the place
draft_is : (c : After-draft-draft) → c.draft-draft.result.content ≡ c.args.self.now.content
draft_is c = ap (λ (v : DraftValue). v.content) c.draft-draft.ensures

read : (c : After-draft-draft) → c.index.result.now ≡ get_or c.args.self.now.content.graphs c.args.place c.index.result.now
read c = subst (λ (h : ScheduleValue). c.index.result.now ≡ get_or h.content.graphs c.args.place c.index.result.now) c.self.view_is c.index.ensures

there : (c : After-draft-draft) → dag_named c.args.self.now.content c.args.new.now.spec.dag_id ≡ c.index.result.now.dag
there c =
    let kept : IsSoundAndSaid c.args.self.now.content = subst (λ (h : ScheduleValue). IsSoundAndSaid h.content) c.self.view_is c.self.invariant.held.kept in
    dag_there c.args.self.now.content c.args.new.now.spec.dag_id c.args.place c.index.result.now kept c.requires (read c)

-- what is not there
no_moved : (c : In_default) → c.draft-draft.result.content ≡ c.args.self.now.content → least_moved c.args.self.now.content c.args.new.now ≡ None
no_moved c is = ap (λ (s : Schedule). least_moved s c.args.new.now) (sym is) ∙ (sym c.in_ok-serial.ensures ∙ c.in_default.is)

no_lost : (c : In_default-lost_task) → dag_named c.args.self.now.content c.args.new.now.spec.dag_id ≡ c.index.result.now.dag → lost_task c.args.self.now.content c.args.new.now ≡ None
no_lost c is = sym (c.lost_task.ensures c.args.self.now.content is) ∙ ap option_copied c.in_default-lost_task.is

no_resized : (c : In_default-2) → c.draft-draft.result.content ≡ c.args.self.now.content → resized_task c.args.self.now.content c.args.new.now ≡ None
no_resized c is = ap (λ (s : Schedule). resized_task s c.args.new.now) (sym is) ∙ (sym c.in_ok-task.ensures ∙ ap option_copied c.in_default-2.is)

until : (c : In_ok-makes_anew) → c.draft-draft.result.content ≡ c.args.self.now.content → c.reached-reached.result ≡ reached c.args.self.now.content c.args.new.now.spec.dag_id
until c is =
    c.reached-reached.ensures
    ∙ (ap (λ (s : Schedule). reached s c.spec.result.now.dag_id) is ∙ ap (λ (s : GraphSpec). reached c.args.self.now.content s.dag_id) c.spec.ensures.spec)

anew : (c : In_ok-makes_anew) → c.draft-draft.result.content ≡ c.args.self.now.content → c.index.result.now ≡ get_or c.args.self.now.content.graphs c.args.place c.index.result.now
    → dag_named c.args.self.now.content c.args.new.now.spec.dag_id ≡ c.index.result.now.dag → is_anew c.args.self.now.content c.args.new.now.spec ≡ c.in_ok-makes_anew.field-0
anew c is at dag =
    let a : Schedule = c.args.self.now.content in
    let new : Dag = c.args.new.now in
    let g : LoadedGraph = c.index.result.now in
    let known = known_is a.graphs new.spec.dag_id c.args.place g c.requires at in
    let all : HaveDates a.graphs a.runs c.self.inside.dates.items = subst (λ (h : ScheduleValue). HaveDates h.content.graphs h.content.runs c.self.inside.dates.items) c.self.view_is c.self.invariant.dates in
    let dates = has_dates a.graphs a.runs c.self.inside.dates.items c.args.place new.spec.dag_id g c.index-2.result.now all known.0 known.1 c.requires.below c.index-2.ensures in
    anew_is a new g.dag c.index-2.result.now c.reached-reached.result c.in_ok-makes_anew.field-0 dag dates (until c is) c.in_ok-makes_anew.ensures

pub least_moved-requires-clause-old : goal.least_moved-requires-clause-old
least_moved-requires-clause-old c =
    let at = (goal.at.least_moved-requires-clause-old c).After-draft-draft in
    ap (λ (s : Schedule). dag_named s c.args.new.now.spec.dag_id) (draft_is at) ∙ there at

pub resized_task-requires-clause-old : goal.resized_task-requires-clause-old
resized_task-requires-clause-old c =
    let at = (goal.at.resized_task-requires-clause-old c).After-draft-draft in
    ap (λ (s : Schedule). dag_named s c.args.new.now.spec.dag_id) (draft_is at) ∙ there at

pub returns-in-Some-lost_task : goal.returns-in-Some-lost_task
returns-in-Some-lost_task c =
    let at = goal.at.returns-in-Some-lost_task c in
    let lost : lost_task c.args.self.now.content c.args.new.now ≡ Some c.in_ok-copy.field-0 =
    sym (c.lost_task.ensures c.args.self.now.content (there at.After-draft-draft)) ∙ (ap option_copied c.in-Some-lost_task.is ∙ ap (λ (t : List ℕ). Some t) (sym c.in_ok-copy.ensures)) in
    inr (first_lost c.args.self.now.content c.args.new.now c.in_ok-copy.field-0 (no_moved at.In_default (draft_is at.After-draft-draft)) lost)

pub returns-in-Some-2 : goal.returns-in-Some-2
returns-in-Some-2 c =
    let at = goal.at.returns-in-Some-2 c in
    let is = draft_is at.After-draft-draft in
    let resized : resized_task c.args.self.now.content c.args.new.now ≡ Some c.in_ok-copy-2.field-0 =
    ap (λ (s : Schedule). resized_task s c.args.new.now) (sym is) ∙ (sym c.in_ok-task.ensures ∙ (ap option_copied c.in-Some-2.is ∙ ap (λ (t : List ℕ). Some t) (sym c.in_ok-copy-2.ensures))) in
    inr (first_resized c.args.self.now.content c.args.new.now c.in_ok-copy-2.field-0 (no_moved at.In_default is) (no_lost at.In_default-lost_task (there at.After-draft-draft)) resized)

pub returns-then-branch : goal.returns-then-branch
returns-then-branch c =
    let at = goal.at.returns-then-branch c in
    let is = draft_is at.After-draft-draft in
    let dag = there at.After-draft-draft in
    let again = anew at.In_ok-makes_anew is (read at.After-draft-draft) dag ∙ c.if-branch.true in
    inr (first_redone c.args.self.now.content c.args.new.now (no_moved at.In_default is) (no_lost at.In_default-lost_task dag) (no_resized at.In_default-2 is) again
    ∙ ap (λ (t : ℕ). Some (refusal.Redoes t)) (sym (until at.In_ok-makes_anew is)))

pub returns : goal.returns
returns c =
    let at = goal.at.returns c in
    let is = draft_is at.After-draft-draft in
    let dag = there at.After-draft-draft in
    no_cause_left c.args.self.now.content c.args.new.now (no_moved at.In_default is) (no_lost at.In_default-lost_task dag) (no_resized at.In_default-2 is) (anew at.In_ok-makes_anew is (read at.After-draft-draft) dag ∙ c.if-branch.false)
