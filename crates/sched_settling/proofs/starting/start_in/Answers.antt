use Rattle.std.proofs.Common.{◌≡◌, ◌∙◌, ◌≤◌, ◌<◌, ◌+◌, ℕ, List, ap, sym, subst, refl, true, false, length, arith}
use Rattle.std.proofs.lemmas.Option.{slice_get_within}
use Rattle.dag_check.specs.Graphs.{Dag}
use Rattle.sched_state.specs.declared.graphs.LoadedGraph.{LoadedGraph}
use Rattle.sched_model.specs.Schedule.{Schedule}
use Rattle.sched_model.specs.States.{active_runs}
use Rattle.sched_state.specs.declared.runs.RunPhase.TheVariants as phase
use Rattle.sched_laws.specs.Stages.{phase_at}
use Rattle.sched_draft.specs.Drafts.{DraftValue}
use Rattle.sched_settling.specs.Marks.{IsFirstQueued, IsLine, IsStartIn, NoneBefore}
use Rattle.sched_settling.specs.declared.lines.GraphRuns.{GraphRuns}
use Rattle.sched_settling.proofs.LineLemmas.{graph_at, none_paused, none_full, none_unknown, paused_at, dag_at, not_below, queued_run, started_in, not_started}
use Rattle.sched_settling.proofs.starting.start_in.Goals as goal
use Rattle.sched_settling.proofs.starting.start_in.Goals.{then-is_paused_at-via-then-is_paused_at, then-is_paused_at-via-else-is_paused_at+then-most-line}

pub returns-in_default-clause-started : goal.returns-in_default-clause-started
returns-in_default-clause-started c =
    let a : Schedule = c.args.draft.now.content in
    record { none = none_unknown a c.args.line.now.id.now (length a.runs) (sym c.in_default.ensures.position); same = refl; line = c.requires.line }

pub returns-then-is_paused_at-clause-started : goal.returns-then-is_paused_at-clause-started
returns-then-is_paused_at-clause-started c =
    let a : Schedule = c.args.draft.now.content in
    let id : List ℕ = c.args.line.now.id.now in
    let p : ℕ = c.in-Some.graph in
    let g = graph_at a id p c.in-Some.ensures.within c.in-Some.ensures.position in
    let h : LoadedGraph = g.graph in
    let active : c.args.line.now.active ≡ active_runs a h.dag.spec.dag_id = c.requires.line.active ∙ ap (active_runs a) (sym g.named) in
    record {
      none = subst (λ (i : List ℕ). NoneBefore a i (length a.runs)) g.named (elim c.then-is_paused_at.branch [
        | then-is_paused_at-via-then-is_paused_at w ↦ none_paused a p (length a.runs) h c.requires.keyed.graphs g.there (paused_at a.graphs p h true g.there w.if-is_paused_at.ensures)
        | then-is_paused_at-via-else-is_paused_at+then-most-line w ↦
            let d : c.dag_at.result.now ≡ h.dag = sym (dag_at a.graphs p h c.dag_at.result.now g.there c.dag_at.ensures) in
            let most : c.get-most.result ≡ h.dag.spec.max_active_runs = c.get-most.ensures.value ∙ (ap (λ s. s.max_active_runs) c.spec.ensures.spec ∙ ap (λ (k : Dag). k.spec.max_active_runs) d) in
            let full : c.get-most.result ≤ c.args.line.now.active = w.if-most-line.true in
            none_full a p (length a.runs) h c.requires.keyed.graphs g.there (not_below (active_runs a h.dag.spec.dag_id) h.dag.spec.max_active_runs (omega arith))
      ]);
      same = refl;
      line = c.requires.line;
    }

pub own-requires : goal.own-requires
own-requires c =
    let t = queued_run c.args.draft.now.content _ c.in-Some-take_queued.position c.in-Some-take_queued.ensures.found.here in
    slice_get_within c.args.draft.now.content.runs c.in-Some-take_queued.position t.run t.there

pub returns-clause-started : goal.returns-clause-started
returns-clause-started c =
    let a : Schedule = c.args.draft.now.content in
    let id : List ℕ = c.args.line.now.id.now in
    let p : ℕ = c.in-Some.graph in
    let g = graph_at a id p c.in-Some.ensures.within c.in-Some.ensures.position in
    let h : LoadedGraph = g.graph in
    let d : c.dag_at.result.now ≡ h.dag = sym (dag_at a.graphs p h c.dag_at.result.now g.there c.dag_at.ensures) in
    let most : c.get-most.result ≡ h.dag.spec.max_active_runs = c.get-most.ensures.value ∙ (ap (λ s. s.max_active_runs) c.spec.ensures.spec ∙ ap (λ (k : Dag). k.spec.max_active_runs) d) in
    let n : ℕ = c.in-Some-take_queued.position in
    let took = c.in-Some-take_queued.ensures in
    let m : GraphRuns = c.take_queued.new.line in
    let l : GraphRuns = record m { active = m.active + 1 } in
    let more : m.active + 1 ≡ c.args.line.now.active + 1 = ap (λ k. k + 1) took.active in
    let first : IsFirstQueued a h.dag.spec.dag_id m n = subst (λ (i : List ℕ). IsFirstQueued a i m n) (sym g.named) took.found in
    let kept : IsLine a h.dag.spec.dag_id c.args.line.now = subst (λ (i : List ℕ). IsLine a i c.args.line.now) (sym g.named) c.requires.line in
    let active : c.args.line.now.active ≡ active_runs a h.dag.spec.dag_id = kept.active in
    let room : c.args.line.now.active < c.get-most.result = c.if-most-line.false in
    subst (λ (i : List ℕ). IsStartIn i l a c.set_phase.new.self.content n) g.named
    (started_in a c.set_phase.new.self.content p n h c.args.line.now l c.requires.keyed.graphs g.there kept (record { here = first.here; before = first.before; others = first.others }) (record { within = took.rise.within; kept = took.rise.kept; touched = took.rise.touched }) more
    (paused_at a.graphs p h false g.there c.if-is_paused_at.ensures) (omega arith)
    (ap (λ (d : DraftValue). d.content) c.set_phase.ensures ∙ ap (phase_at phase.Running n) (ap (λ (d : DraftValue). d.content) c.in_ok-own.ensures.ok)))

pub returns-in_default-take_queued-clause-started : goal.returns-in_default-take_queued-clause-started
returns-in_default-take_queued-clause-started c =
    let none = c.in_default-take_queued.ensures in
    not_started c.args.draft.now.content c.args.line.now.id.now c.args.line.now c.take_queued.new.line c.requires.line none.active none.found none.rise
