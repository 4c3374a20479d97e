-- The edits that make the runs after an event of those before: which they are, and where each run stands.
use Rattle.std.specs.Prelude.{◌≡◌, ℕ, zero, suc, ◌+◌, ◌^◌, ◌<◌, ◌≤◌, Bool, true, false, ◌&&◌, List, [], ◌∷◌, length, map, Option, Some, Result, Ok, Err, slice_get, slice_index_or}
use Rattle.std.specs.List.{insert}
use Rattle.std.specs.List.Sorted.{IsNonDecreasingBy}
use Rattle.sched_state.specs.declared.runs.Run.{Run}
use Rattle.graph_file.specs.Lists.{when}
use Rattle.sched_model.specs.Lists.{at}
use Rattle.sched_model.specs.Schedule.{is_at}
use Rattle.run_lists.specs.declared.edits.Edit.{Edit}
use Rattle.run_lists.specs.Marks.{HasKeyOf}

-- at a place of a list, x is put in, where it is new, or else what stands there is changed
abbrev pub put_in : {X : Type 0} → Bool → ℕ → X → (X → X) → List X → List X
put_in true n x f xs = insert xs n x
put_in false n x f xs = at f n xs

-- the edits are made, the last one first, so that each finds its place as the runs before it have it
abbrev pub puts : {X : Type 0} → (Run → X) → (Run → X → X) → List Edit → List X → List X
puts new old [] xs = xs
puts new old (e ∷ es) xs = put_in e.is_new e.from (new e.run) (old e.run) (puts new old es xs)

-- the runs that edits make of runs
abbrev pub edited : List Edit → List Run → List Run
edited es rs = puts (λ r. r) (λ r _. r) es rs

-- the run that an edit adds, where it adds one
abbrev pub added_run : Edit → Option Run
added_run e = when e.is_new e.run

-- whether it adds a run of this graph and date
abbrev pub adds : List ℕ → ℕ → Edit → Bool
adds id date e = e.is_new && is_at id date e.run

-- how many runs an edit adds, and how many it hides
abbrev pub added : Bool → ℕ
added true = 1
added false = 0

abbrev pub hidden : Bool → ℕ
hidden true = 0
hidden false = 1

-- a new run stands before one of the runs or at their end, another hides one with its key
abbrev pub FitsAt : Bool → ℕ → Run → List Run → Type 0
FitsAt true n s rs = n ≤ length rs
FitsAt false n s rs = (r : Run) × (slice_get rs n ≡ Some r) × HasKeyOf r s

-- the edits rise from the run i on, s runs were added before them
abbrev pub RiseFrom : ℕ → ℕ → List Edit → List Run → Type 0
RiseFrom s i [] rs = Unit {0}
RiseFrom s i (e ∷ es) rs =
    (e.at ≡ e.from + s) × (i ≤ e.from) × FitsAt e.is_new e.from e.run rs × RiseFrom (s + added e.is_new) (e.from + hidden e.is_new) es rs

-- these are edits of the runs
abbrev pub AreEditsOf : List Run → List Edit → Type 0
AreEditsOf rs es = RiseFrom 0 0 es rs

-- the positions of the edits
abbrev pub positions_in : List Edit → List ℕ
positions_in es = map (λ (e : Edit). e.at) es

-- the edits stand by their positions
abbrev pub AreInOrder : List Edit → Type 0
AreInOrder es = IsNonDecreasingBy (λ (e : Edit). e.at) es

-- each edit knows how many runs the edits before it add, where s were added before all of them
abbrev pub AreCounted : ℕ → List Edit → Type 0
AreCounted s [] = Unit {0}
AreCounted s (e ∷ es) = (e.at ≡ e.from + s) × AreCounted (s + added e.is_new) es

-- how many runs the first k edits add
abbrev pub added_by : ℕ → List Edit → ℕ
added_by zero es = 0
added_by (suc k) [] = 0
added_by (suc k) (e ∷ es) = added e.is_new + added_by k es

-- the first k edits are of positions below n
abbrev pub AreBelow : ℕ → ℕ → List Edit → Type 0
AreBelow zero n es = Unit {0}
AreBelow (suc k) n [] = ⊥
AreBelow (suc k) n (e ∷ es) = (e.at < n) × AreBelow k n es

-- and from the k-th on the edits are of position n or above
abbrev pub AreFrom : ℕ → ℕ → List Edit → Type 0
AreFrom zero n [] = Unit {0}
AreFrom zero n (e ∷ es) = n ≤ e.at
AreFrom (suc k) n [] = Unit {0}
AreFrom (suc k) n (e ∷ es) = AreFrom k n es

-- the k-th edit is of position n
abbrev pub IsEditOf : ℕ → ℕ → List Edit → Type 0
IsEditOf k n es = (e : Edit) × (slice_get es k ≡ Some e) × (e.at ≡ n)

-- where the edit of a position is, or where it would be
abbrev pub IsFound : ℕ → List Edit → Result ℕ ℕ → Type 0
IsFound n es (Ok k) = AreBelow k n es × IsEditOf k n es
IsFound n es (Err k) = AreBelow k n es × AreFrom k (n + 1) es

-- an edit stands one position further on, and so do all from the k-th on
abbrev pub moved_up : Edit → Edit
moved_up e = record e { at = e.at + 1 }

abbrev pub moved_from : ℕ → List Edit → List Edit
moved_from k [] = []
moved_from zero (e ∷ es) = moved_up e ∷ moved_from zero es
moved_from (suc k) (e ∷ es) = e ∷ moved_from k es

-- there is a position further on for each from the k-th on
abbrev pub AreFewFrom : ℕ → List Edit → Type 0
AreFewFrom k es = (j : ℕ) (e : Edit) → k ≤ j → j < length es → (slice_index_or es j e).at + 1 < 2 ^ 64
