use Rattle.std.proofs.Common.{◌∙◌, not}
use Rattle.graph_file.specs.Classes.{is_key}
use Rattle.graph_file.proofs.TableLemmas.{keys_in-view}
use Rattle.graph_file.proofs.classes.has_unknown_key.Goals as goal

pub returns : goal.returns
returns c = c.has_other_name.ensures ∙ keys_in-view (λ name. not (is_key c.args.keys.now name)) c.args.table.now.entries
