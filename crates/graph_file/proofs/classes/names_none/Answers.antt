use Rattle.std.proofs.Common.{◌≡◌, ◌∙◌, ap}
use Rattle.std.specs.List.{list_any}
use Rattle.toml.specs.View.{view, items_view}
use Rattle.graph_file.specs.Lists.{holds_at}
use Rattle.graph_file.specs.Tables.{some_item}
use Rattle.graph_file.specs.Classes.{is_no_name}
use Rattle.graph_file.proofs.TableLemmas.{some_item-view}
use Rattle.graph_file.proofs.classes.names_none.Goals as goal

pub returns-in-Some : goal.returns-in-Some
returns-in-Some c =
    let found = rw c.in-Some.is at c.as_array.ensures in
    let here : list_any (λ v. is_no_name (view v)) c.as_slice.result.now ≡ some_item is_no_name (items_view c.in-Some.items.now.items) = rw c.as_slice.ensures.value (some_item-view is_no_name _) in
    rw c.in-Names.is (c.has_no_name.ensures ∙ here ∙ ap (holds_at (some_item is_no_name)) found)
