-- Pools by name: how many slots each has, and how many of them are taken.
use Rattle.std.specs.Prelude.{ℕ, ◌+◌, ◌-◌, Bool, not, ◌&&◌, ◌||◌, cond, List, map, length, Option, option_map, is_some, unwrap_or, min, nat_le, nat_lt, bytes_eq}
use Rattle.std.specs.BTreeMap.{insert_entry}
use Rattle.std.specs.Cmp.Lexicographic.{slice_cmp}
use Rattle.std.specs.List.Sorted.{IsStrictlySortedBy}
use Rattle.std.specs.Map.{keys_of, lookup}
use Rattle.std.specs.Ordering.{nat_cmp}
use Rattle.std.specs.declared.cmp.Ordering.{Ordering}
use Rattle.pool_book.specs.Limits.{pool_limit, most_taken}

-- a name is its bytes, and names stand in the order of these
-- restates: Airflow 2, 'Pools'
abbrev pub Name : Type 0
Name = List ℕ

abbrev pub name_cmp : Name → Name → Ordering
name_cmp = slice_cmp nat_cmp

-- how many slots a pool has, and how many of them are taken
-- restates: Airflow 2, 'Pools'
pub record PoolUse : Type 0 where
  pub size : ℕ
  pub occupied : ℕ

-- the pools by name
-- restates: Airflow 2, 'Pools'
abbrev pub Entries : Type 0
Entries = List (Name × PoolUse)

-- the pools by name, and how many more there is memory for
-- restates: Airflow 2, 'Pools'
pub record Book : Type 0 where
  pub pools : List (List ℕ × PoolUse)
  pub room : ℕ

-- names rise, so that each is there once
-- restates: Airflow 2, 'Pools'
abbrev pub IsInOrder : Entries → Type 0
IsInOrder pools = IsStrictlySortedBy name_cmp (keys_of pools)

-- the pool of a name
abbrev pub pool_of : Name → Entries → Option PoolUse
pool_of name pools = lookup (bytes_eq name) pools

-- there is a pool of this name
abbrev pub has_pool : Name → Entries → Bool
has_pool name pools = is_some (pool_of name pools)

-- a pool of this name would be one too many
abbrev pub is_one_too_many : Name → Entries → Bool
is_one_too_many name pools = not (has_pool name pools) && nat_le pool_limit (length pools)

-- a pool of this name takes no memory: it is there, or there is room for one more
abbrev pub has_place : Name → Book → Bool
has_place name book = has_pool name book.pools || nat_lt 0 book.room

-- the slots that are taken of a pool, which are none where there is no such pool
abbrev pub occupied_of : Name → Entries → ℕ
occupied_of name pools = unwrap_or (option_map (λ p. p.occupied) (pool_of name pools)) 0

-- the pool of this name has this size; a new one stands at its place in the order, and nothing of it is taken
-- restates: Airflow 2, 'Pools'
abbrev pub resized : Name → ℕ → Entries → Entries
resized name size pools = insert_entry name_cmp pools name (record { size = size; occupied = occupied_of name pools })

-- the pool of this name is changed
-- restates: Airflow 2, 'Pools'
abbrev pub with_pool : Name → (PoolUse → PoolUse) → Entries → Entries
with_pool name f pools = map (λ e. (e.0, cond (bytes_eq name e.0) (f e.1) e.1)) pools

-- slots are taken
-- restates: Airflow 2, 'Pools'
abbrev pub take_slots : ℕ → PoolUse → PoolUse
take_slots slots p = record p { occupied = p.occupied + slots }

-- slots are given back
-- restates: Airflow 2, 'Pools'
abbrev pub give_back : ℕ → PoolUse → PoolUse
give_back slots p = record p { occupied = p.occupied - slots }

-- so many more slots are taken, of which no more than the most are counted
-- restates: Airflow 2, 'Pools'
abbrev pub take_counted : ℕ → PoolUse → PoolUse
take_counted slots p = record p { occupied = min (p.occupied + slots) most_taken }

-- the same pools, and nothing of them is taken
-- restates: Airflow 2, 'Pools'
abbrev pub vacated : Entries → Entries
vacated pools = map (λ e. (e.0, record e.1 { occupied = 0 })) pools
