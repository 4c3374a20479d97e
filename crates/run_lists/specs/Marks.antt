-- What became of each run, in the order of the runs that there are now.
use Rattle.std.specs.Prelude.{◌≡◌, ℕ, zero, suc, ◌+◌, if◌then◌else◌, Bool, true, false, List, [], ◌∷◌, map}
use Rattle.std.specs.List.{AllByRecursion}
use Rattle.sched_state.specs.declared.runs.Run.{Run}

-- what became of a run
pub data Mark : Type 0 where
  -- the run is as it was
  Kept : Run → Mark
  -- a run as it was, and as it is
  Changed : Run → Run → Mark
  -- a run that was not there
  Added : Run → Mark

-- the run as it is
abbrev pub now_of : Mark → Run
now_of (Kept r) = r
now_of (Changed r s) = s
now_of (Added s) = s

-- the runs as they are, and as they were
abbrev pub runs_of : List Mark → List Run
runs_of ms = map now_of ms

-- the runs as they were
abbrev pub base_of : List Mark → List Run
base_of [] = []
base_of (Kept r ∷ ms) = r ∷ base_of ms
base_of (Changed r s ∷ ms) = r ∷ base_of ms
base_of (Added s ∷ ms) = base_of ms

-- a run is changed or new
abbrev pub is_touched : Mark → Bool
is_touched (Kept r) = false
is_touched (Changed r s) = true
is_touched (Added s) = true

-- the touched runs as they are, and as they were
abbrev pub touched_runs : List Mark → List Run
touched_runs [] = []
touched_runs (Kept r ∷ ms) = touched_runs ms
touched_runs (Changed r s ∷ ms) = s ∷ touched_runs ms
touched_runs (Added s ∷ ms) = s ∷ touched_runs ms

-- the touched runs that were there, as they were
abbrev pub replaced_runs : List Mark → List Run
replaced_runs [] = []
replaced_runs (Kept r ∷ ms) = replaced_runs ms
replaced_runs (Changed r s ∷ ms) = r ∷ replaced_runs ms
replaced_runs (Added s ∷ ms) = replaced_runs ms

-- whether the run at the position is touched
abbrev pub is_touched_at : ℕ → List Mark → Bool
is_touched_at n [] = false
is_touched_at zero (m ∷ ms) = is_touched m
is_touched_at (suc n) (m ∷ ms) = is_touched_at n ms

-- the positions of the touched runs
abbrev pub touched_from : ℕ → List Mark → List ℕ
touched_from n [] = []
touched_from n (m ∷ ms) = if is_touched m then n ∷ touched_from (n + 1) ms else touched_from (n + 1) ms

-- the positions of the touched runs
abbrev pub touched_in : List Mark → List ℕ
touched_in ms = touched_from 0 ms

-- s has the key of r
abbrev pub HasKeyOf : Run → Run → Type 0
HasKeyOf r s = (s.graph ≡ r.graph) × (s.logical ≡ r.logical)

-- a run that was there keeps its key
abbrev pub KeepsKey : Mark → Type 0
KeepsKey (Kept r) = Unit {0}
KeepsKey (Changed r s) = HasKeyOf r s
KeepsKey (Added s) = Unit {0}

-- b is a with the runs changed, each under its key, and added that the marks say
pub record Over (ms : List Mark) (a b : List Run) : Type 0 where
  pub base : base_of ms ≡ a
  pub runs : runs_of ms ≡ b
  pub keys : AllByRecursion KeepsKey ms
