-- A table without fault has none at the top, and none in a task.
use Rattle.std.proofs.Common.{◌≡◌, ℕ, zero, suc, ◌+◌, ◌≤◌, ◌==◌, ◌||◌, Bool, true, false, not, List, [], ◌∷◌, map, length, sum_by, position, Option, Some, None, option_map, option_and_then, is_some, unwrap_or, nat_lt, refl, sym, ap, ◌∙◌, arith, lit<}
use Rattle.std.proofs.lemmas.Bool.{and_parts, or_parts, not-false, ltb-false}
use Rattle.std.proofs.lemmas.List.{length-map}
use Rattle.std.proofs.lemmas.List.Sums.{sum_by-cons}
use Rattle.std.specs.List.{list_any, list_all}
use Rattle.toml.specs.Data.{Data, Items, no_items, Members, as_array, as_table}
use Rattle.graph_file.specs.Lists.{when, first_some, holds_at}
use Rattle.graph_file.specs.Keys.{top_keys, task_keys}
use Rattle.graph_file.specs.Tables.{list_of, each_item, member_at, items_of, tasks_of, table_of}
use Rattle.graph_file.specs.Values.{text_of}
use Rattle.graph_file.specs.TaskLists.{task_limit, upstream_limit, IsTaskList}
use Rattle.graph_file.specs.Graphs.{task_of}
use Rattle.graph_file.specs.declared.task_specs.TaskSpec.{TaskSpec}
use Rattle.graph_file.specs.Classes.{classes, is_table, is_kind, has_fault, task_has_fault, is_faultless, is_faultless_task}
use Rattle.graph_file.specs.Faults.{place_limit, upstream_count, first_place, fault_at, fault_in, fault_of}
use Rattle.graph_file.specs.declared.classes.Class.{Class}
use Rattle.graph_file.specs.declared.classes.Class.TheVariants as class
use Rattle.graph_file.specs.declared.keys.Kind.TheVariants as kind
use Rattle.graph_file.specs.declared.keys.Key.TheVariants as key
use Rattle.graph_file.specs.declared.faults.Place.TheVariants.{Top, Task}
use Rattle.graph_file.specs.declared.faults.GraphFault.TheVariants.{Cron, NoTask, TooMany}
use Rattle.graph_file.specs.Schedules.{cron_fault}
use Rattle.graph_file.proofs.ListLemmas.{first_none, mapped_none, when_none, each_none, none_placed}
use Rattle.graph_file.proofs.KeyLemmas.{met}

-- a class stands nowhere
record IsAbsent (t : Members) (c : Class) : Type 0 where
  top : has_fault c top_keys t ≡ false
  tasks : list_any (task_has_fault c) (tasks_of t) ≡ false

absent : (t : Members) (c : Class) → fault_in t c ≡ None → IsAbsent t c
absent t c h =
    let place = mapped_none (fault_at c) (first_place c t) h in
    let both = first_none (when (has_fault c top_keys t) Top) (option_map Task (position (task_has_fault c) (tasks_of t)) ∷ []) place in
    let rest = first_none (option_map Task (position (task_has_fault c) (tasks_of t))) [] both.1 in
    record { top = when_none _ _ both.0; tasks = none_placed (task_has_fault c) (tasks_of t) (mapped_none Task _ rest.0) }

each_absent : (t : Members) → first_some (map (fault_in t) classes) ≡ None → (c : Class) → IsAbsent t c
each_absent t h class.UnknownKey = absent t class.UnknownKey (each_none (fault_in t) classes 0 class.BadValue (lit< tt) h)
each_absent t h class.WrongType = absent t class.WrongType (each_none (fault_in t) classes 1 class.BadValue (lit< tt) h)
each_absent t h class.MissingKey = absent t class.MissingKey (each_none (fault_in t) classes 2 class.BadValue (lit< tt) h)
each_absent t h class.BadName = absent t class.BadName (each_none (fault_in t) classes 3 class.BadValue (lit< tt) h)
each_absent t h class.BadValue = absent t class.BadValue (each_none (fault_in t) classes 4 class.BadValue (lit< tt) h)

-- what stands where each part of the fault is none
record HasNone (t : Members) : Type 0 where
  placed : first_some (map (fault_in t) classes) ≡ None
  cron : option_map Cron (cron_fault top_keys t) ≡ None
  some : (length (tasks_of t) == 0) ≡ false
  few : (nat_lt task_limit (length (tasks_of t)) || nat_lt upstream_limit (sum_by upstream_count (tasks_of t))) ≡ false

none : (t : Members) → fault_of t ≡ None → HasNone t
none t h =
    let count = length (tasks_of t) in
    let small = first_none (when (nat_lt place_limit count) TooMany) _ h in
    let placed = first_none (first_some (map (fault_in t) classes)) _ small.1 in
    let cron = first_none (option_map Cron (cron_fault top_keys t)) _ placed.1 in
    let some = first_none (when (count == 0) NoTask) _ cron.1 in
    let few = first_none (when (nat_lt task_limit count || nat_lt upstream_limit (sum_by upstream_count (tasks_of t))) TooMany) [] some.1 in
    record { placed = placed.0; cron = cron.0; some = when_none _ _ some.0; few = when_none _ _ few.0 }

clear : (t : Members) → fault_of t ≡ None → (c : Class) → IsAbsent t c
clear t h = each_absent t (none t h).placed

pub faultless_schedule : (t : Members) → fault_of t ≡ None → cron_fault top_keys t ≡ None
faultless_schedule t h = mapped_none Cron _ (none t h).cron

none_of : (f : Class → Bool) → ((c : Class) → f c ≡ false) → (cs : List Class) → list_all (λ c. not (f c)) cs ≡ true
none_of f h [] = refl
none_of f h (c ∷ cs) = rw (h c) (none_of f h cs)

pub faultless_top : (t : Members) → fault_of t ≡ None → is_faultless top_keys t ≡ true
faultless_top t h = none_of (λ c. has_fault c top_keys t) (λ c. (clear t h c).top) classes

tables_in : (s : Option Items) → not (holds_at (each_item is_table) s) ≡ false → list_all is_table (list_of (unwrap_or s no_items)) ≡ true
tables_in None h = refl
tables_in (Some ds) h = not-false (list_all is_table (list_of ds)) h

-- the elements of an array of tables are tables
all_tables : (o : Option Data) → holds_at (λ d. not (is_kind kind.Tables d)) o ≡ false → list_all is_table (list_of (unwrap_or (option_and_then as_array o) no_items)) ≡ true
all_tables None h = refl
all_tables (Some d) h = tables_in (as_array d) h

faultless_one : (s : Option Members) → is_some s ≡ true → ((c : Class) → holds_at (has_fault c task_keys) s ≡ false) → holds_at (is_faultless task_keys) s ≡ true
faultless_one None e h = cc
faultless_one (Some t) e h = none_of (λ c. has_fault c task_keys t) h classes

faultless_each : (xs : List Data) → list_all is_table xs ≡ true → ((c : Class) → list_any (task_has_fault c) xs ≡ false) → list_all is_faultless_task xs ≡ true
faultless_each [] e h = refl
faultless_each (x ∷ xs) e h =
    let tables = and_parts (is_table x) (list_all is_table xs) e in
    let here = faultless_one (as_table x) tables.0 (λ c. (or_parts (task_has_fault c x) (list_any (task_has_fault c) xs) (h c)).0) in
    rw here (faultless_each xs tables.1 (λ c. (or_parts (task_has_fault c x) (list_any (task_has_fault c) xs) (h c)).1))

pub faultless_tasks : (t : Members) → fault_of t ≡ None → list_all is_faultless_task (tasks_of t) ≡ true
faultless_tasks t h =
    let tables = all_tables (member_at key.Task t) (met top_keys t 6 (faultless_top t h) (lit< tt)).right in
    faultless_each (tasks_of t) tables (λ c. (clear t h c).tasks)

upstreams_listed : (ds : List Data) → sum_by (λ (t : TaskSpec). length t.upstream) (map task_of ds) ≡ sum_by upstream_count ds
upstreams_listed [] = refl
upstreams_listed (d ∷ ds) =
    sum_by-cons (λ (t : TaskSpec). length t.upstream) (task_of d) (map task_of ds)
    ∙ ap (λ n. n + sum_by (λ (t : TaskSpec). length t.upstream) (map task_of ds)) (length-map (items_of key.Upstream (table_of d)) text_of)
    ∙ ap (λ n. upstream_count d + n) (upstreams_listed ds)
    ∙ sym (sum_by-cons upstream_count d ds)

some_of : (n : ℕ) → (n == 0) ≡ false → 1 ≤ n
some_of zero h = cc
some_of (suc n) h = omega arith

-- a table without fault has as many tasks as a graph may have
pub faultless_count : (t : Members) → fault_of t ≡ None → IsTaskList (map task_of (tasks_of t))
faultless_count t h =
    let both = or_parts (nat_lt task_limit (length (tasks_of t))) (nat_lt upstream_limit (sum_by upstream_count (tasks_of t))) (none t h).few in
    record {
      some = rw (length-map (tasks_of t) task_of) (some_of (length (tasks_of t)) (none t h).some);
      few = rw (length-map (tasks_of t) task_of) (ltb-false task_limit (length (tasks_of t)) both.0);
      upstreams = rw (upstreams_listed (tasks_of t)) (ltb-false upstream_limit (sum_by upstream_count (tasks_of t)) both.1);
    }
