use Rattle.std.proofs.Common.{sym, ap, ◌∙◌, None, pos}
use Rattle.std.specs.Option.{option_copied}
use Rattle.sched_model.specs.Tables.{flag_code}
use Rattle.record_writing.proofs.SearchLemmas.{dag_row_there, dag_among_rows}
use Rattle.record_writing.proofs.dags.is_among.Goals as goal

pub returns-in-Some : goal.returns-in-Some
returns-in-Some c = c.is_same.ensures
    ∙ sym (dag_row_there c.args.graphs.now c.args.id.now c.args.text.now (pos (flag_code c.args.paused)) c.in-Some.graph.now c.requires (sym c.graph_named.ensures ∙ ap option_copied c.in-Some.is))

pub returns-in-None : goal.returns-in-None
returns-in-None c =
    sym (dag_among_rows c.args.graphs.now (record { dag_id = c.args.id.now; body = c.args.text.now; paused = pos (flag_code c.args.paused) }) None c.requires (sym c.graph_named.ensures ∙ ap option_copied c.in-None.is))
