use Rattle.std.proofs.Common.{◌∙◌, not, Some, option_map, string_bytes, ap}
use Rattle.graph_file.specs.Classes.{is_key}
use Rattle.graph_file.proofs.TableLemmas.{find-view}
use Rattle.graph_file.proofs.mistakes.other_name.Goals as goal

pub returns-in-Some : goal.returns-in-Some
returns-in-Some c =
    let found = rw c.in-Some.is at c.other_key.ensures in
    ap Some c.as_str.ensures.value ∙ ap (option_map string_bytes) found ∙ find-view (λ name. not (is_key c.args.keys.now name)) c.args.table.now.entries

pub returns-in-None : goal.returns-in-None
returns-in-None c =
    let found = rw c.in-None.is at c.other_key.ensures in
    ap (option_map string_bytes) found ∙ find-view (λ name. not (is_key c.args.keys.now name)) c.args.table.now.entries
