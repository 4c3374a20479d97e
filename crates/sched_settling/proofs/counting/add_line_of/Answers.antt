use Rattle.std.proofs.Common.{◌≡◌, ◌∙◌, List, ℕ, ap, sym, Option, Some, None, option_map}
use Rattle.std.proofs.lemmas.Bool.{or_left, or_right}
use Rattle.std.proofs.lemmas.Result.{on_ok_weaker}
use Rattle.dag_check.specs.Graphs.{Dag}
use Rattle.sched_state.specs.Lists.{same}
use Rattle.sched_state.specs.declared.graphs.LoadedGraph.{LoadedGraph}
use Rattle.sched_state.proofs.NameLemmas.{find_passes}
use Rattle.sched_model.specs.Schedule.{Schedule}
use Rattle.sched_settling.specs.Marks.{has_line}
use Rattle.sched_settling.specs.Touched.{IsLineAdded, over_runs}
use Rattle.sched_settling.proofs.counting.add_line_of.Goals as goal

pub returns-in-Some : goal.returns-in-Some
returns-in-Some c =
    let a : Schedule = c.args.draft.now.content in
    let id : List ℕ = c.args.id.now in
    let mine : List ℕ = c.spec.result.now.dag_id in
    on_ok_weaker c.add_line.result
    (λ (added : IsLineAdded c.runs_below.result.now.runs mine c.args.lines.now.items c.add_line.new.lines.items). record {
      rising = added.rising;
      fresh = added.fresh (over_runs a c.args.draft.now.base.runs) c.runs_below.ensures;
      kept = λ i h. added.has i ∙ or_right (same mine i) (has_line c.args.lines.now.items i) h;
      there = λ g e.
          let d : ◌≡◌ {A = Option Dag} (Some g.dag) (Some c.in-Some.dag.now) = sym (ap (option_map (λ (k : LoadedGraph). k.dag)) e) ∙ c.in-Some.ensures in
          let is : c.in-Some.dag.now ≡ g.dag = cc in
          let named : mine ≡ g.dag.spec.dag_id = ap (λ s. s.dag_id) c.spec.ensures.spec ∙ ap (λ (k : Dag). k.spec.dag_id) is in
          added.has id ∙ or_left (same mine id) _ (ap (λ (i : List ℕ). same i id) named ∙ find_passes (λ (k : LoadedGraph). same k.dag.spec.dag_id id) a.graphs g e);
    })
    c.add_line.ensures

pub returns-in-None : goal.returns-in-None
returns-in-None c = record {
  rising = c.requires.rising;
  fresh = λ f. f;
  kept = λ i h. h;
  there = λ g e. absurd (let d : ◌≡◌ {A = Option LoadedGraph} None (Some g) = sym c.in-None.ensures ∙ e in cc);
}
