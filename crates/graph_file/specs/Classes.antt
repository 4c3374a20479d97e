-- The classes of faults that have a place: what each says of a table that may have the given keys.
use Rattle.std.specs.Prelude.{ℕ, ℤ, ◌&&◌, ◌||◌, not, Bool, true, false, List, [], ◌∷◌, Option, option_and_then, is_none, is_some, is_err, bytes_eq, int_lt}
use Rattle.std.specs.List.{list_all, list_any}
use Rattle.toml.specs.Data.{Data, Members, as_str, as_bool, as_integer, as_array, as_table}
use Rattle.moment_core.specs.Reading.{read_of}
use Rattle.graph_file.specs.Lists.{holds_at}
use Rattle.graph_file.specs.Names.{is_name}
use Rattle.graph_file.specs.Operators.{operator_of, takes, takes_timeout}
use Rattle.graph_file.specs.Rules.{rule_of, weight_rule_of}
use Rattle.graph_file.specs.Keys.{row_of, task_keys}
use Rattle.graph_file.specs.Tables.{each_item, some_item, keys_in, member_at}
use Rattle.graph_file.specs.Values.{value_of, text_in, texts_of}
use Rattle.graph_file.specs.Schedules.{cron_timetable_of, lacks_ticks}
use Rattle.graph_file.specs.declared.operators.Operator.{Operator}
use Rattle.graph_file.specs.declared.keys.Key.{Key}
use Rattle.graph_file.specs.declared.keys.Key.TheVariants as key
use Rattle.graph_file.specs.declared.keys.Kind.{Kind}
use Rattle.graph_file.specs.declared.keys.Kind.TheVariants.{Text, Flag, Whole, Texts, Tables}
use Rattle.graph_file.specs.declared.keys.Role.{Role}
use Rattle.graph_file.specs.declared.keys.Role.TheVariants as role
use Rattle.graph_file.specs.declared.keys.Absent.{Absent}
use Rattle.graph_file.specs.declared.keys.Absent.TheVariants.{Refused}
use Rattle.graph_file.specs.declared.classes.Class.{Class}
use Rattle.graph_file.specs.declared.classes.Class.TheVariants as class

-- the classes, in the order in which they are answered
abbrev pub classes : List Class
classes = class.UnknownKey ∷ class.WrongType ∷ class.MissingKey ∷ class.BadName ∷ class.BadValue ∷ []

-- the name is one of these keys
abbrev pub is_key : List Key → List ℕ → Bool
is_key keys name = list_any (λ k. bytes_eq (row_of k).name name) keys

abbrev pub is_text : Data → Bool
is_text d = is_some (as_str d)

abbrev pub is_table : Data → Bool
is_table d = is_some (as_table d)

-- the value is of the kind
abbrev pub is_kind : Kind → Data → Bool
is_kind Text d = is_text d
is_kind Flag d = is_some (as_bool d)
is_kind Whole d = is_some (as_integer d)
is_kind Texts d = holds_at (each_item is_text) (as_array d)
is_kind Tables d = holds_at (each_item is_table) (as_array d)

-- the value at the key is of another kind than the key's
abbrev pub is_wrong : Key → Members → Bool
is_wrong k t = holds_at (λ d. not (is_kind (row_of k).kind d)) (member_at k t)

abbrev pub is_required : Absent → Bool
is_required Refused = true
is_required _ = false

-- the key is required and absent
abbrev pub is_missing : Key → Members → Bool
is_missing k t = is_required (row_of k).absent && is_none (member_at k t)

-- a text that is no name
abbrev pub is_no_name : Data → Bool
is_no_name d = holds_at (λ s. not (is_name s)) (as_str d)

-- a name is wanted, and the text, or one of the texts, is none
abbrev pub names_none : Role → Data → Bool
names_none role.Name d = is_no_name d
names_none role.Names d = holds_at (some_item is_no_name) (as_array d)
names_none _ d = false

abbrev pub is_misnamed : Key → Members → Bool
is_misnamed k t = holds_at (names_none (row_of k).role) (member_at k t)

-- a number that is less than the first or more than the second
abbrev pub is_past : ℤ → ℤ → Data → Bool
is_past low high d = holds_at (λ z. int_lt z low || int_lt high z) (as_integer d)

-- the value is none of those that the role has
abbrev pub is_outside : Role → Data → Bool
is_outside role.Moment d = holds_at (λ s. is_err (read_of s)) (as_str d)
is_outside (role.Range low high) d = is_past low high d
is_outside (role.Timeout low high) d = is_past low high d
is_outside role.Operator d = holds_at (λ s. is_none (operator_of s)) (as_str d)
is_outside role.Rule d = holds_at (λ s. is_none (rule_of s)) (as_str d)
is_outside role.WeightRule d = holds_at (λ s. is_none (weight_rule_of s)) (as_str d)
is_outside role.Timetable d = holds_at (λ s. is_none (cron_timetable_of s)) (as_str d)
is_outside _ d = false

-- the operator of a task, if its word is one
abbrev pub operator_at : Members → Option Operator
operator_at t = option_and_then (λ d. option_and_then operator_of (as_str d)) (member_at key.Operator t)

-- arguments are wanted, and those of the table, which may be none, the operator beside them does not take; or how long a try may take is
-- said of an operator that does not take it; or a run at each tick is wanted, and the schedule of the table has no ticks
abbrev pub is_unfit : Role → Members → Bool
is_unfit role.Arguments t = holds_at (λ o. not (takes o (texts_of key.Argv t))) (operator_at t)
is_unfit (role.Timeout low high) t = holds_at (λ o. not (takes_timeout o (is_some (member_at key.ExecutionTimeout t)))) (operator_at t)
is_unfit role.Timetable t = lacks_ticks (cron_timetable_of (text_in (value_of key.Timetable t))) (text_in (value_of key.Schedule t))
is_unfit _ t = false

-- the value at the key is none that the key takes, or does not fit what stands beside it
abbrev pub is_bad : Key → Members → Bool
is_bad k t = holds_at (is_outside (row_of k).role) (member_at k t) || is_unfit (row_of k).role t

-- the class is that of unknown keys, and the table has one
abbrev pub has_unknown : Class → List Key → Members → Bool
has_unknown class.UnknownKey keys t = list_any (λ name. not (is_key keys name)) (keys_in t)
has_unknown _ keys t = false

-- a fault of the class stands at the key; an unknown key is none of these
abbrev pub is_faulty : Class → Key → Members → Bool
is_faulty class.UnknownKey k t = false
is_faulty class.WrongType k t = is_wrong k t
is_faulty class.MissingKey k t = is_missing k t
is_faulty class.BadName k t = is_misnamed k t
is_faulty class.BadValue k t = is_bad k t

-- the table has a fault of the class
abbrev pub has_fault : Class → List Key → Members → Bool
has_fault c keys t = has_unknown c keys t || list_any (λ k. is_faulty c k t) keys

-- the table has a fault of no class
abbrev pub is_faultless : List Key → Members → Bool
is_faultless keys t = list_all (λ c. not (has_fault c keys t)) classes

-- the task is a table with a fault of the class, or one with none of any class
abbrev pub task_has_fault : Class → Data → Bool
task_has_fault c d = holds_at (has_fault c task_keys) (as_table d)

abbrev pub is_faultless_task : Data → Bool
is_faultless_task d = holds_at (is_faultless task_keys) (as_table d)
