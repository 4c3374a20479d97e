use Rattle.std.proofs.Common.{◌≡◌, ◌∙◌, sym, ap, subst, ℕ, ◌<◌, List, find, length, get_or, Option, Some, None, slice_get}
use Rattle.std.specs.Option.{option_copied, MatchOption}
use Rattle.sched_state.specs.declared.graphs.LoadedGraph.{LoadedGraph}
use Rattle.sched_state.specs.declared.runs.Run.{Run}
use Rattle.sched_model.specs.Schedule.{Schedule, dag_among, graph_among, is_at, no_dag}
use Rattle.record_writing.specs.Before.{AreNamedAlike, earlier_of}
use Rattle.record_writing.proofs.NamedLemmas.{dag_alike, dag_here, no_dag_alike, same_earlier}
use Rattle.record_writing.proofs.earlier.touched_run.Goals as goal

-- the run at a place is one
one_run : (r q : Run) (o : Option Run) → o ≡ Some q → o ≡ Some r → q ≡ r
one_run r q o e f = let c : ◌≡◌ {A = Option Run} (Some q) (Some r) = sym e ∙ f in cc

alike : (a s b : Schedule) → a ≡ s → AreNamedAlike s.graphs b.graphs → AreNamedAlike a.graphs b.graphs
alike a s b is e = subst (λ (t : Schedule). AreNamedAlike t.graphs b.graphs) (sym is) e

-- a position in the list of the graphs
at_place : (gs hs : List LoadedGraph) (id other : List ℕ) (n : ℕ) → gs ≡ hs → other ≡ id → slice_get gs n ≡ graph_among gs other → slice_get hs n ≡ graph_among hs id
at_place gs hs id other n is named e = subst (λ (ks : List LoadedGraph). slice_get ks n ≡ graph_among ks id) is (subst (λ k. slice_get gs n ≡ graph_among gs k) named e)

pub returns-in_err-graph : goal.returns-in_err-graph
returns-in_err-graph c r e =
    let a : Schedule = c.args.before.now in
    let b : Schedule = c.args.draft.now.content in
    let gs : List LoadedGraph = c.before-2.inside.graphs.now in
    let graphs : gs ≡ a.graphs = ap (λ (s : Schedule). s.graphs) c.before-2.view_is in
    let own : c.run-run.result.now ≡ r = one_run r c.run-run.result.now (slice_get b.runs c.args.position) c.run-run.ensures e in
    let none : graph_among a.graphs r.graph ≡ None =
    subst (λ (q : Run). graph_among a.graphs q.graph ≡ None) own (subst (λ (ks : List LoadedGraph). graph_among ks c.run-run.result.now.graph ≡ None) graphs (sym c.in_err-graph.ensures.position)) in
    subst (λ o. MatchOption o (dag_among b.graphs r.graph ≡ no_dag) (λ found. (found.run.now ≡ r) × (dag_among b.graphs r.graph ≡ found.dag.now) × (found.was ≡ earlier_of a r))) (sym c.from_residual.ensures)
    (no_dag_alike a.graphs b.graphs r.graph (alike a c.args.draft.now.base b c.requires.base c.requires.graphs) none)

pub returns : goal.returns
returns c r e =
    let a : Schedule = c.args.before.now in
    let b : Schedule = c.args.draft.now.content in
    let n : ℕ = c.in_ok-graph.graph in
    let x : LoadedGraph = c.index-before-graph.result in
    let gs : List LoadedGraph = c.before-2.inside.graphs.now in
    let graphs : gs ≡ a.graphs = ap (λ (s : Schedule). s.graphs) c.before-2.view_is in
    let own : c.run-run.result.now ≡ r = one_run r c.run-run.result.now (slice_get b.runs c.args.position) c.run-run.ensures e in
    let id : c.run-run.result.now.graph ≡ r.graph = ap (λ (q : Run). q.graph) own in
    let there : slice_get a.graphs n ≡ graph_among a.graphs r.graph = at_place gs a.graphs r.graph c.run-run.result.now.graph n graphs id c.in_ok-graph.ensures.position in
    let below : n < length a.graphs = subst (λ (ks : List LoadedGraph). n < length ks) graphs c.in_ok-graph.ensures.within in
    let tasks : (get_or gs n x).dag.tasks ≡ (dag_among a.graphs r.graph).tasks =
    ap (λ (ks : List LoadedGraph). (get_or ks n x).dag.tasks) graphs ∙ ap (λ d. d.tasks) (dag_here a.graphs r.graph n x there below) in
    let was : option_copied c.before-3.result ≡ find (is_at r.graph r.logical) a.runs = c.before-3.ensures r e ∙ ap (λ (s : Schedule). find (is_at r.graph r.logical) s.runs) (sym c.requires.base) in
    (own, dag_alike a.graphs b.graphs r.graph n c.dag_at.result.now c.requires.sound.graphs_by_id (alike a c.args.draft.now.base b c.requires.base c.requires.graphs) there below c.dag_at.ensures, c.new.ensures ∙ same_earlier (option_copied c.before-3.result) (find (is_at r.graph r.logical) a.runs) (get_or gs n x).dag.tasks (dag_among a.graphs r.graph).tasks was tasks)
