-- What the thread of a worker has done, of what it got.
use Rattle.std.specs.Prelude.{◌≡◌, ℕ, ◌<◌, List, [], ◌∷◌, ◌++◌, length, slice_index_or}
use Rattle.ruled_dispatch.specs.declared.items.JobOrStop.TheVariants as items
use Rattle.ruled_dispatch.specs.declared.passes.WorkerPass.{WorkerPass}
use Rattle.ruled_dispatch.specs.Lanes.{taken_of, told_of}
use Rattle.slot_desk.specs.declared.holds.Hold.{Hold}
use Rattle.operators.specs.declared.kits.Kit.{Kit}
use Rattle.operators.specs.Kits.{IsKit}
use Rattle.workers.specs.declared.crews.WorkerEnd.{WorkerEnd}
use Rattle.workers.specs.Accounts.{IsAccount}
use Rattle.workers.specs.Ends.{number_of}
use Rattle.workers.specs.Logs.{jobs_of, reports_of}
use Rattle.workers.specs.Passes.{StaysWith}
use Rattle.workers.specs.Shows.{Shows}

module _ {G O : Type 0} (shows : Shows O) where
  -- From this pass, share and kit a worker came to this end, pass and share: the log says which jobs it took, before one stop, and what it
  -- told, and is an account of the kit; the end has the number of the pass; and the pass and the share are what they were.
  pub record HasWorked (pass : WorkerPass) (share : List Hold) (kit : Kit O) (end : WorkerEnd G O) (now : WorkerPass) (back : List Hold) : Type 0 where
    pub took : taken_of now ≡ (taken_of pass ++ jobs_of end.log.items) ++ items.Stop ∷ []
    pub told : told_of now ≡ told_of pass ++ reports_of end.log.items
    pub account : IsAccount shows kit end.kit end.log.items
    pub whole : IsKit shows.kind_of end.kit
    pub number : number_of end ≡ pass.number
    pub stays : StaysWith pass now
    pub same : back ≡ share

  -- each worker did, from the pass, the share and the kit at its place
  abbrev pub HaveWorked : List WorkerPass → List (List Hold) → List (Kit O) → List (WorkerEnd G O × WorkerPass × List Hold) → Type 0
  HaveWorked passes shares kits results =
      (length results ≡ length passes)
      × ((i : ℕ) (p : WorkerPass) (s : List Hold) (k : Kit O) (r : WorkerEnd G O × WorkerPass × List Hold) → i < length passes
      → HasWorked (slice_index_or passes i p) (slice_index_or shares i s) (slice_index_or kits i k)
      (slice_index_or results i r).0 (slice_index_or results i r).1 (slice_index_or results i r).2)
