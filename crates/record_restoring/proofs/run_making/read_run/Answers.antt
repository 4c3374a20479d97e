use Rattle.std.proofs.Common.{◌≡◌, sym, ap, ◌∙◌, rules, None, Some}
use Rattle.record_rows.specs.Rows.{RunRow}
use Rattle.sched_state.specs.declared.graphs.LoadedGraph.{LoadedGraph}
use Rattle.sched_model.specs.Lists.{rises}
use Rattle.sched_model.specs.Schedule.{graph_before, graph_among}
use Rattle.record_restoring.proofs.ColumnLemmas.{when_some}
use Rattle.record_restoring.proofs.RuleLemmas.{graphs_rise}
use Rattle.record_restoring.proofs.RunLemmas.{graph_there, each_there, run_made}
use Rattle.record_restoring.proofs.run_making.read_run.Goals as goal

pub graph_named-requires : goal.graph_named-requires
graph_named-requires c = ap (rises graph_before) c.requires.graphs ∙ graphs_rise c.args.limits c.args.rows.now c.requires.keyed c.requires.rules.dags

pub unreachable-requires : goal.unreachable-requires
unreachable-requires c =
    let none : graph_among c.args.graphs.now c.args.row.now.dag_id ≡ None = search (rules, c.graph_named.ensures, c.in_default.is, c.as_str.ensures.value, c.row.view_is) in
    graph_there c.args.graphs.now c.args.row.now c.requires.right none

pub read_instances-requires-clause-whole : goal.read_instances-requires-clause-whole
read_instances-requires-clause-whole c =
    let r : RunRow = c.args.row.now in
    let l : LoadedGraph = c.in-Some.graph.now in
    let found : graph_among c.args.graphs.now r.dag_id ≡ Some l = search (rules, c.graph_named.ensures, c.in-Some.is, c.as_str.ensures.value, c.row.view_is) in
    each_there c.args.rows.now c.args.graphs.now r l found c.requires.whole

pub returns : goal.returns
returns c =
    let r : RunRow = c.args.row.now in
    let l : LoadedGraph = c.in-Some.graph.now in
    let found : graph_among c.args.graphs.now r.dag_id ≡ Some l = search (rules, c.graph_named.ensures, c.in-Some.is, c.as_str.ensures.value, c.row.view_is) in
    run_made c.args.rows.now c.args.graphs.now r l c.in_ok-copy.field-0 c.in-Some-columns_of.columns c.new.result found
    (search (rules, c.in_ok-copy.ensures, c.spec.ensures.spec)) (when_some _ _ c.in-Some-columns_of.columns (sym c.columns_of.ensures ∙ c.in-Some-columns_of.is))
    (search (rules, c.new.ensures, c.in_ok-instances.ensures))
