use Rattle.std.proofs.Common.{◌∙◌, ap, unwrap_or}
use Rattle.toml.specs.Data.{no_items}
use Rattle.graph_file.specs.Tables.{list_of}
use Rattle.graph_file.proofs.TableLemmas.{list_of-view}
use Rattle.graph_file.proofs.tables.items_at.Goals as goal

pub returns-in-Some : goal.returns-in-Some
returns-in-Some c =
    let found = rw c.in-Some.is at c.array_at.ensures in
    rw c.as_slice.ensures.value (list_of-view c.in-Some.items.now.items ∙ ap (λ o. list_of (unwrap_or o no_items)) found)
