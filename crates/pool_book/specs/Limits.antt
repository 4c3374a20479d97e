-- The most that there is of a thing.
-- restates: this project's own profile
use Rattle.std.specs.Prelude.{ℕ, ◌-◌, ◌^◌}

-- slots that are counted at once
abbrev pub slot_limit : ℕ
slot_limit = 1000000

-- pools
abbrev pub pool_limit : ℕ
pool_limit = 64

-- taken slots of a pool, where they are counted without knowing how many they are
-- past it the taken slots of a pool are not counted
abbrev pub most_taken : ℕ
most_taken = 2 ^ 62 - 1
