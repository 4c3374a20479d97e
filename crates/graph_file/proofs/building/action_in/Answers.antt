use Rattle.std.proofs.Common.{◌≡◌, ◌∙◌, ap, sym, map, None, unwrap_or, lit<}
use Rattle.toml.specs.View.{table_view}
use Rattle.graph_file.specs.Keys.{task_keys}
use Rattle.graph_file.specs.Tables.{member_at}
use Rattle.graph_file.specs.Values.{value_of, text_in, text_of, texts_of}
use Rattle.graph_file.specs.declared.keys.Key.TheVariants as key
use Rattle.graph_file.specs.declared.operators.Operator.TheVariants.{Noop}
use Rattle.graph_file.proofs.KeyLemmas.{met, number_within, timed_there, word_there, taken_there}
use Rattle.graph_file.specs.Operators.{operator_of}
use Rattle.graph_file.proofs.building.action_in.Goals as goal

pub unwrap-operator-requires : goal.unwrap-operator-requires
unwrap-operator-requires c =
    let m = met task_keys (table_view c.args.table.now) 1 c.requires (lit< tt) in
    rw (c.read.ensures, c.text_at.ensures) (word_there operator_of _ _ m.right m.there m.good)

pub new-requires-2-clause-taken : goal.new-requires-2-clause-taken
new-requires-2-clause-taken c =
    let t = table_view c.args.table.now in
    let m = met task_keys t 1 c.requires (lit< tt) in
    let n = met task_keys t 2 c.requires (lit< tt) in
    let read : unwrap_or (operator_of (text_in (value_of key.Operator t))) Noop ≡ c.unwrap-operator.result =
    ap (λ o. unwrap_or o Noop) (ap operator_of (sym c.text_at.ensures) ∙ sym c.read.ensures ∙ c.unwrap-operator.ensures) in
    let argv : c.new.result ≡ texts_of key.Argv t = c.new.ensures ∙ c.in_ok-argv.ensures ∙ ap (map text_of) c.items_at.ensures in
    rw (argv, ← read) (taken_there (member_at key.Operator t) None (texts_of key.Argv t) m.right m.there m.good n.fit)

pub bounded_if-timeout-requires : goal.bounded_if-timeout-requires
bounded_if-timeout-requires c =
    let m = met task_keys (table_view c.args.table.now) 12 c.requires (lit< tt) in
    (lit< tt, number_within 1 31536000 (member_at key.ExecutionTimeout (table_view c.args.table.now)) m.right m.good)

pub new-requires-2-clause-timed : goal.new-requires-2-clause-timed
new-requires-2-clause-timed c =
    let t = table_view c.args.table.now in
    let m = met task_keys t 1 c.requires (lit< tt) in
    let n = met task_keys t 12 c.requires (lit< tt) in
    let read : unwrap_or (operator_of (text_in (value_of key.Operator t))) Noop ≡ c.unwrap-operator.result =
    ap (λ o. unwrap_or o Noop) (ap operator_of (sym c.text_at.ensures) ∙ sym c.read.ensures ∙ c.unwrap-operator.ensures) in
    rw (c.bounded_if-timeout.ensures, ← read) (timed_there (member_at key.Operator t) None (member_at key.ExecutionTimeout t) m.right m.there m.good n.fit)
