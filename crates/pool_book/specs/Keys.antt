-- What is ready to be handed out: keys, their rank, and which of them fits.
use Rattle.std.specs.Prelude.{◌≡◌, ◌⊎◌, ℕ, ◌+◌, ◌<◌, ◌≤◌, Bool, true, false, ◌&&◌, ◌==◌, not, List, length, Option, Some, None, Result, Ok, Err, Contains, HoldsAt, filter, nat_le, bytes_eq}
use Rattle.std.specs.BTreeSet.{insert_key}
use Rattle.std.specs.List.{list_any}
use Rattle.std.specs.List.Sorted.{IsStrictlySortedBy, IsPartitionPoint}
use Rattle.std.specs.declared.cmp.Ordering.{Ordering}
use Rattle.std.specs.Ordering.{is_lt}
use Rattle.std.specs.declared.cmp.Ordering.TheVariants.{Less, Equal, Greater}
use Rattle.pool_book.specs.Ranks.{RankParts, rank_cmp}
use Rattle.pool_book.specs.declared.keys.Key.{Key}
use Rattle.pool_book.specs.Pools.{Entries, PoolUse, pool_of}
use Rattle.pool_book.specs.Rooms.{has_room}

-- the keys that are offered, in the order of their rank, and how many more there is memory for
pub record Offered : Type 0 where
  pub keys : List Key
  pub room : ℕ

-- the greater weight first, then the earlier logical date, then the graph's name, then the task's
-- restates: Airflow 2, 'Priority Weights'; what comes after the weight is this project's own profile
abbrev pub parts_of : Key → RankParts
parts_of k = record { weight = k.weight; logical = k.logical; graph = k.graph; task = k.task }

-- restates: Airflow 2, 'Priority Weights'; what comes after the weight is this project's own profile
abbrev pub rank : Key → Key → Ordering
rank x y = rank_cmp (parts_of x) (parts_of y)

-- restates: Airflow 2, 'Priority Weights'; what comes after the weight is this project's own profile
abbrev pub ranks_before : Key → Key → Bool
ranks_before x y = is_lt (rank x y)

-- each key ranks before those after it
-- restates: Airflow 2, 'Priority Weights'; what comes after the weight is this project's own profile
abbrev pub IsInRank : List Key → Type 0
IsInRank keys = IsStrictlySortedBy rank keys

-- the key of this rank is at the place; or there is none, and those that rank before it end there
abbrev pub IsRankAt : List Key → Key → Result ℕ ℕ → Type 0
IsRankAt keys key (Ok at) = (at < length keys) × HoldsAt (λ k. rank k key ≡ Equal) keys at
IsRankAt keys key (Err at) = (at ≤ length keys) × IsPartitionPoint (λ k. rank k key ≡ Less) (λ k. rank k key ≡ Greater) keys at

-- the keys are of one task instance
abbrev pub same_instance : Key → Key → Bool
same_instance x y = (x.logical == y.logical) && (bytes_eq x.graph y.graph && bytes_eq x.task y.task)

-- a key of the same task instance is there
abbrev pub has_instance : Key → List Key → Bool
has_instance key keys = list_any (same_instance key) keys

-- the keys are the same
abbrev pub same_key : Key → Key → Bool
same_key x y = (x.weight == y.weight) && (same_instance x y && (bytes_eq x.pool y.pool && ((x.slots == y.slots) && (x.room == y.room))))

-- the key stands at its rank
abbrev pub with_key : Key → List Key → List Key
with_key key keys = insert_key rank keys key

-- the keys but for this one
abbrev pub without_key : Key → List Key → List Key
without_key key keys = filter (λ k. not (same_key key k)) keys

-- so many slots are open in a pool
-- restates: Airflow 2, 'Pools'
abbrev pub fits_in : ℕ → Option PoolUse → Bool
fits_in slots None = false
fits_in slots (Some p) = nat_le (p.occupied + slots) p.size

-- the key's slots are open in its pool; where there is no such pool they aren't
-- restates: Airflow 2, 'Pools'
abbrev pub fits_pool : Entries → Key → Bool
fits_pool pools key = fits_in key.slots (pool_of key.pool pools)

-- the key fits its pool, and its graph has room
-- restates: Airflow 2, 'Pools'
abbrev pub fits : Entries → List Bool → Key → Bool
fits pools rooms key = fits_pool pools key && has_room rooms key.room

-- the keys that fit
-- restates: Airflow 2, 'Pools'
abbrev pub fitting : Entries → List Bool → List Key → List Key
fitting pools rooms keys = filter (fits pools rooms) keys

-- it is one of the keys, and ranks before each other of them
-- restates: Airflow 2, 'Pools'
abbrev pub IsFirstInRank : List Key → Key → Type 0
IsFirstInRank keys key = Contains keys key × ((other : Key) → Contains keys other → (other ≡ key) ⊎ (ranks_before key other ≡ true))
