use Rattle.std.proofs.Common.{lit<, lit≤, refl}
use Rattle.toml.specs.View.{table_view}
use Rattle.graph_file.specs.Keys.{task_keys}
use Rattle.graph_file.specs.Tables.{member_at}
use Rattle.graph_file.specs.declared.keys.Key.TheVariants as key
use Rattle.graph_file.specs.Rules.{rule_of, weight_rule_of}
use Rattle.graph_file.proofs.KeyLemmas.{met, name_there, name_or, names_there, word_or, number_there}
use Rattle.graph_file.proofs.building.task_in.Goals as goal

pub name_at-requires : goal.name_at-requires
name_at-requires c =
    let m = met task_keys (table_view c.args.table.now) 0 c.requires (lit< tt) in
    name_there _ _ m.right m.there m.named

pub names_of-requires : goal.names_of-requires
names_of-requires c =
    let m = met task_keys (table_view c.args.table.now) 3 c.requires (lit< tt) in
    rw c.items_at.ensures (names_there (member_at key.Upstream (table_view c.args.table.now)) m.right m.named)

pub name_at-requires-2 : goal.name_at-requires-2
name_at-requires-2 c =
    let m = met task_keys (table_view c.args.table.now) 7 c.requires (lit< tt) in
    name_or _ _ m.right m.named refl

pub unwrap-requires : goal.unwrap-requires
unwrap-requires c =
    let m = met task_keys (table_view c.args.table.now) 4 c.requires (lit< tt) in
    rw (c.read.ensures, c.text_at.ensures) (word_or rule_of _ _ m.right m.good refl)

pub bounded_at-requires : goal.bounded_at-requires
bounded_at-requires c =
    let m = met task_keys (table_view c.args.table.now) 5 c.requires (lit< tt) in
    let within = number_there 0 1000 0 _ m.right m.good (record { above = lit≤ tt; below = lit≤ tt }) in
    (lit< tt, (within.above, within.below))

pub bounded_at-requires-2 : goal.bounded_at-requires-2
bounded_at-requires-2 c =
    let m = met task_keys (table_view c.args.table.now) 6 c.requires (lit< tt) in
    let within = number_there 0 31536000 300 _ m.right m.good (record { above = lit≤ tt; below = lit≤ tt }) in
    (lit< tt, (within.above, within.below))

pub bounded_at-requires-3 : goal.bounded_at-requires-3
bounded_at-requires-3 c =
    let m = met task_keys (table_view c.args.table.now) 8 c.requires (lit< tt) in
    let within = number_there 1 1000 1 _ m.right m.good (record { above = lit≤ tt; below = lit≤ tt }) in
    (lit< tt, (within.above, within.below))

pub bounded_at-requires-4 : goal.bounded_at-requires-4
bounded_at-requires-4 c =
    let m = met task_keys (table_view c.args.table.now) 9 c.requires (lit< tt) in
    let within = number_there 0 1000000 1 _ m.right m.good (record { above = lit≤ tt; below = lit≤ tt }) in
    (lit< tt, (within.above, within.below))

pub unwrap-requires-2 : goal.unwrap-requires-2
unwrap-requires-2 c =
    let m = met task_keys (table_view c.args.table.now) 10 c.requires (lit< tt) in
    rw (c.read-2.ensures, c.text_at-2.ensures) (word_or weight_rule_of _ _ m.right m.good refl)
