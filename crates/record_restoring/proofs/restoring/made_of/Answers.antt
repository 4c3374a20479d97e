use Rattle.std.proofs.Common.{◌≡◌, List, sym, ap, ◌∙◌, rules, map}
use Rattle.std.specs.List.{list_all}
use Rattle.record_rows.specs.Rows.{Rows, RunRow}
use Rattle.record_rows.specs.declared.tables.Table.TheVariants as table
use Rattle.sched_state.specs.declared.graphs.LoadedGraph.{LoadedGraph}
use Rattle.sched_model.specs.Lists.{rises}
use Rattle.sched_model.specs.Schedule.{graph_before}
use Rattle.record_rules.specs.Reading.{reads, graphs_of, run_of}
use Rattle.record_rules.specs.Faults.{is_run_row_right, is_instance_row_right, has_all_instances, is_end_of_run, first_bad, past_limit, in_table}
use Rattle.record_restoring.proofs.RuleLemmas.{graphs_rise, all_right, none_missing, ends_last}
use Rattle.record_restoring.proofs.restoring.made_of.Goals as goal

pub read_runs-requires-clause-right : goal.read_runs-requires-clause-right
read_runs-requires-clause-right c =
    let gs : List LoadedGraph = graphs_of (reads c.args.limits) c.args.rows.now in
    let g : c.deref-2.result.now ≡ gs = search (rules, c.deref-2.ensures.value, c.in_ok-graphs.ensures.graphs, c.in_ok-graphs.graphs-is) in
    let r : c.deref-3.result.now ≡ c.args.rows.now.runs = search (rules, c.deref-3.ensures.value, c.rows.view_is) in
    ap (λ (hs : List LoadedGraph). list_all (is_run_row_right hs) c.deref-3.result.now) g
    ∙ ap (λ (rs : List RunRow). list_all (is_run_row_right gs) rs) r
    ∙ all_right (is_run_row_right gs) c.args.rows.now.runs (past_limit c.args.limits.runs c.args.rows.now.runs) c.in_ok-graphs.ensures.rules.runs

pub read_runs-requires-clause-whole : goal.read_runs-requires-clause-whole
read_runs-requires-clause-whole c =
    let rows : Rows = c.args.rows.now in
    let gs : List LoadedGraph = graphs_of (reads c.args.limits) rows in
    let g : c.deref-2.result.now ≡ gs = search (rules, c.deref-2.ensures.value, c.in_ok-graphs.ensures.graphs, c.in_ok-graphs.graphs-is) in
    let r : c.deref-3.result.now ≡ rows.runs = search (rules, c.deref-3.ensures.value, c.rows.view_is) in
    ap (λ (hs : List LoadedGraph). list_all (has_all_instances hs rows) c.deref-3.result.now) g
    ∙ ap (λ (rs : List RunRow). list_all (has_all_instances gs rows) rs) r
    ∙ none_missing (list_all (has_all_instances gs rows) rows.runs) rows.instances (first_bad (is_instance_row_right gs rows) rows.instances) c.in_ok-graphs.ensures.rules.instances

pub end_fault-requires-clause-order : goal.end_fault-requires-clause-order
end_fault-requires-clause-order c =
    let gs : List LoadedGraph = graphs_of (reads c.args.limits) c.args.rows.now in
    let g : c.deref-4.result.now ≡ gs = search (rules, c.deref-4.ensures.value, c.in_ok-graphs.ensures.graphs, c.in_ok-graphs.graphs-is) in
    ap (rises graph_before) g ∙ graphs_rise c.args.limits c.args.rows.now c.requires c.in_ok-graphs.ensures.rules.dags

pub returns-in-Some-clause-fault : goal.returns-in-Some-clause-fault
returns-in-Some-clause-fault c =
    let gs : List LoadedGraph = graphs_of (reads c.args.limits) c.args.rows.now in
    let g : c.deref-4.result.now ≡ gs = search (rules, c.deref-4.ensures.value, c.in_ok-graphs.ensures.graphs, c.in_ok-graphs.graphs-is) in
    let r : c.deref-5.result.now ≡ c.args.rows.now.runs = search (rules, c.deref-5.ensures.value, c.rows.view_is) in
    let told : c.end_fault.result ≡ first_bad (is_end_of_run gs c.args.rows.now) c.args.rows.now.runs =
    c.end_fault.ensures ∙ ap (λ (hs : List LoadedGraph). first_bad (is_end_of_run hs c.args.rows.now) c.deref-5.result.now) g ∙ ap (first_bad (is_end_of_run gs c.args.rows.now)) r in
    ends_last c.args.limits c.args.rows.now c.in_ok-graphs.ensures.rules ∙ ap (in_table table.Run) (sym told ∙ c.in-Some.is)

pub returns-in-None-clause-free : goal.returns-in-None-clause-free
returns-in-None-clause-free c =
    let gs : List LoadedGraph = graphs_of (reads c.args.limits) c.args.rows.now in
    let g : c.deref-4.result.now ≡ gs = search (rules, c.deref-4.ensures.value, c.in_ok-graphs.ensures.graphs, c.in_ok-graphs.graphs-is) in
    let r : c.deref-5.result.now ≡ c.args.rows.now.runs = search (rules, c.deref-5.ensures.value, c.rows.view_is) in
    let told : c.end_fault.result ≡ first_bad (is_end_of_run gs c.args.rows.now) c.args.rows.now.runs =
    c.end_fault.ensures ∙ ap (λ (hs : List LoadedGraph). first_bad (is_end_of_run hs c.args.rows.now) c.deref-5.result.now) g ∙ ap (first_bad (is_end_of_run gs c.args.rows.now)) r in
    ends_last c.args.limits c.args.rows.now c.in_ok-graphs.ensures.rules ∙ ap (in_table table.Run) (sym told ∙ c.in-None.is)

pub returns-in-None-clause-runs : goal.returns-in-None-clause-runs
returns-in-None-clause-runs c =
    let gs : List LoadedGraph = graphs_of (reads c.args.limits) c.args.rows.now in
    let g : c.deref-2.result.now ≡ gs = search (rules, c.deref-2.ensures.value, c.in_ok-graphs.ensures.graphs, c.in_ok-graphs.graphs-is) in
    let r : c.deref-3.result.now ≡ c.args.rows.now.runs = search (rules, c.deref-3.ensures.value, c.rows.view_is) in
    c.in_ok-runs.ensures ∙ ap (λ (hs : List LoadedGraph). map (run_of c.args.rows.now hs) c.deref-3.result.now) g ∙ ap (map (run_of c.args.rows.now gs)) r
