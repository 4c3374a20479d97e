-- The rows of pools.
-- restates: this project's own profile
use Rattle.std.specs.Prelude.{ℕ, List, ◌++◌, codes}
use Rattle.std.specs.Fmt.{decimal, signed_decimal}
use Rattle.std.specs.List.{flat_map}
use Rattle.sched_events.specs.Rows.{PoolLine}
use Rattle.answer_lines.specs.Runs.{after_blank}

-- `NAME SIZE OCCUPIED OPEN`, as `p 1 3 -2`
abbrev pub pool_line : PoolLine → List ℕ
pool_line w = w.name ++ after_blank (decimal w.size) ++ after_blank (decimal w.occupied) ++ after_blank (signed_decimal w.open_slots) ++ codes "\n"

-- a line for each pool, and `ok`
abbrev pub pools_text : List PoolLine → List ℕ
pools_text ws = flat_map pool_line ws ++ codes "ok\n"
