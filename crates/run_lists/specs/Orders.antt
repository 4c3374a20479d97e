-- Where a key stands among runs in their order.
use Rattle.std.specs.Prelude.{◌≡◌, ℕ, ◌<◌, ◌≤◌, Bool, true, false, not, ◌&&◌, List, length, count_by, Option, None, Some, slice_get, nat_le, nat_lt}
use Rattle.std.specs.Ordering.{nat_cmp, ordering_then}
use Rattle.sched_state.specs.Lists.{name_cmp, is_less, same}
use Rattle.sched_state.specs.declared.runs.Run.{Run}
use Rattle.sched_model.specs.Schedule.{is_at, run_before}

-- a run of this graph and date would stand before the run
abbrev pub key_before : List ℕ → ℕ → Run → Bool
key_before id date r = is_less (ordering_then (name_cmp id r.graph) (nat_cmp date r.logical))

-- where a run of this graph and date would be put in: before the first that it stands before
pub record IsPositionFor (id : List ℕ) (date : ℕ) (rs : List Run) (position : ℕ) : Type 0 where
  pub within : position ≤ length rs
  pub passed : (n : ℕ) (r : Run) → n < position → slice_get rs n ≡ Some r → key_before id date r ≡ false
  pub reached : (n : ℕ) (r : Run) → position ≤ n → slice_get rs n ≡ Some r → key_before id date r ≡ true

-- the run at the position is of this graph and date
pub record IsRunAt (id : List ℕ) (date : ℕ) (rs : List Run) (position : ℕ) : Type 0 where
  pub run : Run
  pub there : slice_get rs position ≡ Some run
  pub key : is_at id date run ≡ true

-- the position of a run among others in their order: how many of them are not after it
abbrev pub position_in_order : Run → List Run → ℕ
position_in_order r rs = count_by (λ (q : Run). not (run_before r q)) rs

-- the run stands before one of this graph and date
abbrev pub stands_before : List ℕ → ℕ → Run → Bool
stands_before id date r = is_less (ordering_then (name_cmp r.graph id) (nat_cmp r.logical date))

-- where the runs that do not stand before one of this graph and date begin
pub record IsPositionFrom (id : List ℕ) (date : ℕ) (rs : List Run) (position : ℕ) : Type 0 where
  pub within : position ≤ length rs
  pub passed : (n : ℕ) (r : Run) → n < position → slice_get rs n ≡ Some r → stands_before id date r ≡ true
  pub reached : (n : ℕ) (r : Run) → position ≤ n → slice_get rs n ≡ Some r → stands_before id date r ≡ false

-- the run is of this graph, with a date from the first to the last, both among them
abbrev pub is_in_span : List ℕ → ℕ → ℕ → Run → Bool
is_in_span id first last r = same r.graph id && (nat_le first r.logical && nat_le r.logical last)

-- these runs stand from one position on and before another, and no others
pub record IsSpanOf (id : List ℕ) (first last : ℕ) (rs : List Run) (low high : ℕ) : Type 0 where
  pub within : high ≤ length rs
  pub inside : (n : ℕ) (r : Run) → slice_get rs n ≡ Some r → is_in_span id first last r ≡ (nat_le low n && nat_lt n high)

-- the run is of a graph that stands before this one
abbrev pub graph_below : List ℕ → Run → Bool
graph_below id r = is_less (name_cmp r.graph id)

-- where the runs of the graph begin, or would: all before are of graphs before it, and none from there on is
pub record IsFirstOf (id : List ℕ) (rs : List Run) (position : ℕ) : Type 0 where
  pub within : position ≤ length rs
  pub before : (n : ℕ) (r : Run) → n < position → slice_get rs n ≡ Some r → graph_below id r ≡ true
  pub reached : (n : ℕ) (r : Run) → position ≤ n → slice_get rs n ≡ Some r → graph_below id r ≡ false

-- the run is of no graph that stands behind this one
abbrev pub graph_up_to : List ℕ → Run → Bool
graph_up_to id r = not (is_less (name_cmp id r.graph))

-- there is a run, and this holds of it
abbrev pub holds_of : (Run → Bool) → Option Run → Bool
holds_of p None = false
holds_of p (Some r) = p r

-- a run stands at the position, and this holds of it
abbrev pub holds_at : (Run → Bool) → List Run → ℕ → Bool
holds_at p rs n = holds_of p (slice_get rs n)
