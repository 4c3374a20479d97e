use Rattle.std.proofs.Common.{◌≡◌, ◌∙◌, List, ℕ, ap, sym, slice_get, nat_eq, true, arith}
use Rattle.std.proofs.lemmas.Bool.{eqb-false, eqb-true, or_left, or_right}
use Rattle.std.proofs.lemmas.Option.{slice_get_within}
use Rattle.dag_check.specs.Graphs.{Dag}
use Rattle.sched_state.specs.Lists.{same}
use Rattle.sched_state.proofs.NameLemmas.{same_itself}
use Rattle.sched_laws.proofs.DecisionLemmas.{by_bool}
use Rattle.sched_model.specs.Schedule.{Schedule}
use Rattle.sched_model.specs.Lists.{rises}
use Rattle.sched_settling.specs.Marks.{has_line, id_before, ids_of}
use Rattle.sched_settling.specs.Touched.{over_runs}
use Rattle.sched_settling.specs.declared.lines.GraphRuns.{GraphRuns}
use Rattle.sched_settling.proofs.LineLemmas.{dag_at}
use Rattle.sched_settling.proofs.StartLemmas.{none_fresh}
use Rattle.sched_settling.proofs.counting.lines_below.Goals as goal

pub loop-graph-init : goal.loop-graph-init
loop-graph-init c = record {
  rising = ap (λ (ls : List GraphRuns). rises id_before (ids_of ls)) c.new-lines.ensures.items;
  fresh = none_fresh (over_runs c.args.draft.now.content c.args.draft.now.base.runs) c.new-lines.result.items c.new-lines.ensures.items;
  all = λ n g low there. absurd (omega (arith, low));
}

pub loop-graph-preserved : goal.loop-graph-preserved
loop-graph-preserved c =
    let b : Schedule = c.args.draft.now.content in
    let p : ℕ = c.loop-graph.graph in
    let ms : List GraphRuns = c.add_line.new.lines.items in
    let added = c.in_ok-add_line.ensures in
    record {
      rising = added.rising;
      fresh = added.fresh (over_runs b c.args.draft.now.base.runs) c.runs_below-runs.ensures c.loop-graph.invariant.fresh;
      all = λ n g low there. by_bool {C = has_line ms g.dag.spec.dag_id ≡ true} (nat_eq n p)
          (λ u.
          let is : n ≡ p = eqb-true n p u in
          let d : c.dag_at.result.now ≡ g.dag = sym (dag_at b.graphs p g c.dag_at.result.now (ap (slice_get b.graphs) (sym is) ∙ there) c.dag_at.ensures) in
          let id : c.spec-spec.result.now.dag_id ≡ g.dag.spec.dag_id = ap (λ s. s.dag_id) c.spec-spec.ensures.spec ∙ ap (λ (k : Dag). k.spec.dag_id) d in
          added.has g.dag.spec.dag_id ∙ or_left (same c.spec-spec.result.now.dag_id g.dag.spec.dag_id) _ (ap (λ (i : List ℕ). same i g.dag.spec.dag_id) id ∙ same_itself g.dag.spec.dag_id))
          (λ u.
          let apart : (n ≡ p) → ⊥ = eqb-false n p u in
          added.has g.dag.spec.dag_id ∙ or_right (same c.spec-spec.result.now.dag_id g.dag.spec.dag_id) _ (c.loop-graph.invariant.all n g (omega (arith, low)) there));
    }

pub returns-clause-all : goal.returns-clause-all
returns-clause-all c = λ n g there.
    let inside = slice_get_within c.args.draft.now.content.graphs n g there in
    c.loop-graph.invariant.all n g (let over = c.loop-graph-test.false in let end = c.graph_count-graph-end.ensures in omega (arith, inside, over, end)) there
