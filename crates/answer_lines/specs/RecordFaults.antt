-- The lines of events that are not stepped, and of records that are not opened.
-- restates: this project's own profile
use Rattle.std.specs.Prelude.{ℕ, List, ◌++◌, codes}
use Rattle.std.specs.Fmt.{decimal}
use Rattle.sessions.specs.Faults.{Fault, StoreFault}
use Rattle.sessions.specs.Faults.failed
use Rattle.sessions.specs.Faults.store
use Rattle.record_rows.specs.declared.tables.Table.{Table}
use Rattle.record_rows.specs.declared.tables.Table.TheVariants as table
use Rattle.answer_lines.specs.Refusals.{refusal_text}

-- the name of a table, as SQL has it
abbrev pub table_name : Table → List ℕ
table_name table.Meta = codes "meta"
table_name table.Pool = codes "pool"
table_name table.Dag = codes "dag"
table_name table.DagLimit = codes "dag_limit"
table_name table.Run = codes "run"
table_name table.Instance = codes "instance"
table_name table.Attempt = codes "attempt"

-- the line of a rule that fails first at this row
abbrev pub inconsistent_text : Table → ℕ → List ℕ
inconsistent_text t row = codes "store 3 Inconsistent " ++ (table_name t ++ (codes " " ++ (decimal row ++ codes "\n")))

-- `store`, the fault's number and name, and the table and row of a rule that fails; want of memory is `memory`
abbrev pub store_text : StoreFault → List ℕ
store_text (store.Refused cause) = codes "store 1 Refused\n"
store_text store.NotOurs = codes "store 2 NotOurs\n"
store_text (store.Inconsistent t row) = inconsistent_text t row
store_text store.Memory = codes "memory\n"

-- the line of an event that is not stepped, or a record that is not opened
abbrev pub failure_text : Fault → List ℕ
failure_text (failed.Refused refusal) = refusal_text refusal
failure_text (failed.Store fault) = store_text fault
failure_text failed.Memory = codes "memory\n"
