use Rattle.std.proofs.Common.{◌≡◌, ◌∙◌, ap}
use Rattle.std.specs.List.{list_all}
use Rattle.toml.specs.View.{view, items_view}
use Rattle.graph_file.specs.Lists.{holds_at}
use Rattle.graph_file.specs.Tables.{each_item}
use Rattle.graph_file.specs.Classes.{is_text, is_table}
use Rattle.graph_file.proofs.TableLemmas.{each_item-view}
use Rattle.graph_file.proofs.classes.is_kind.Goals as goal

pub returns-in-Some : goal.returns-in-Some
returns-in-Some c =
    let found = rw c.in-Some.is at c.as_array.ensures in
    let here : list_all (λ v. is_text (view v)) c.as_slice.result.now ≡ each_item is_text (items_view c.in-Some.items.now.items) = rw c.as_slice.ensures.value (each_item-view is_text _) in
    rw c.in-Texts.is (c.are_texts.ensures ∙ here ∙ ap (holds_at (each_item is_text)) found)

pub returns-in-Some-as_array : goal.returns-in-Some-as_array
returns-in-Some-as_array c =
    let found = rw c.in-Some-as_array.is at c.as_array-in-Tables.ensures in
    let here : list_all (λ v. is_table (view v)) c.as_slice-in-Some-as_array.result.now ≡ each_item is_table (items_view c.in-Some-as_array.items.now.items) = rw c.as_slice-in-Some-as_array.ensures.value (each_item-view is_table _) in
    rw c.in-Tables.is (c.are_tables.ensures ∙ here ∙ ap (holds_at (each_item is_table)) found)
