-- Whose ends these are.
use Rattle.std.specs.Prelude.{◌≡◌, ℕ, ◌<◌, List, length, slice_index_or}
use Rattle.workers.specs.declared.crews.WorkerEnd.{WorkerEnd}

module _ {G O : Type 0} where
  -- the number of the worker whose end it is
  abbrev pub number_of : WorkerEnd G O → ℕ
  number_of e = e.pass.value.number

  -- each is the end of the worker whose number is its place
  abbrev pub AreInOrder : List (WorkerEnd G O) → Type 0
  AreInOrder ends = (k : ℕ) (e : WorkerEnd G O) → k < length ends → number_of (slice_index_or ends k e) ≡ k
