-- What is known of workers that began with new passes and with shares without a hold.
use Rattle.std.proofs.Common.{◌≡◌, ℕ, suc, ◌+◌, ◌<◌, List, [], ◌∷◌, ◌++◌, length, get_or, map, All, Result, Ok, Err, IfOk, IfErr, OnOk, refl, sym, ap, ◌∙◌, subst, arith, replicate}
use Rattle.std.specs.Prelude.{sum_by}
use Rattle.std.proofs.lemmas.List.{length-map}
use Rattle.std.proofs.lemmas.List.Sums.{sum_by-cons, sum_by-append}
use Rattle.ruled_dispatch.specs.declared.items.JobOrStop.{JobOrStop}
use Rattle.ruled_dispatch.specs.declared.items.JobOrStop.TheVariants as items
use Rattle.ruled_dispatch.specs.declared.lanes.Lanes.{Lanes}
use Rattle.ruled_dispatch.specs.declared.passes.DirectorPass.{DirectorPass}
use Rattle.ruled_dispatch.specs.declared.passes.WorkerPass.{WorkerPass}
use Rattle.ruled_dispatch.specs.Lanes.{sent_of, taken_of, told_of, IsWorkerOf, AreNumbered, IsSettledBut}
use Rattle.slot_desk.specs.declared.holds.Hold.{Hold}
use Rattle.slot_desk.specs.Holds.{in_hand, slots_of}
use Rattle.operators.specs.declared.kits.Kit.{Kit}
use Rattle.operators.specs.Kits.{IsKit}
use Rattle.workers.specs.declared.crews.WorkerEnd.{WorkerEnd}
use Rattle.workers.specs.Logs.{jobs_of, reports_of}
use Rattle.workers.specs.Accounts.{IsAccount}
use Rattle.workers.specs.Ends.{number_of, AreInOrder}
use Rattle.workers.specs.Shows.{Shows}
use Rattle.workers.specs.Threads.{HaveWorked}
use Rattle.workers.specs.Accounted.{AreBack, AreAccounts, AreAmongSent}
use Rattle.workers.proofs.Places.{at_image}

-- what all passes took is what the logs say, and a stop each
pub took_all : {G O : Type 0} (weight : JobOrStop → ℕ) (rs : List (WorkerEnd G O × WorkerPass × List Hold))
    → ((i : ℕ) (r : WorkerEnd G O × WorkerPass × List Hold) → i < length rs → taken_of (get_or rs i r).1 ≡ jobs_of (get_or rs i r).0.log.items ++ items.Stop ∷ [])
    → sum_by (λ w. sum_by weight (taken_of w)) (map (λ r. r.1) rs) ≡ sum_by (λ e. sum_by weight (jobs_of e.log.items)) (map (λ r. r.0) rs) + sum_by weight (replicate (length rs) items.Stop)
took_all weight [] each = refl
took_all weight (r ∷ rs) each =
    let here : sum_by weight (taken_of r.1) ≡ sum_by weight (jobs_of r.0.log.items ++ items.Stop ∷ []) = ap (sum_by weight) (each 0 r (omega arith)) in
    let parts = sum_by-append weight (jobs_of r.0.log.items) (items.Stop ∷ []) in
    let rest = took_all weight rs (λ i s below. each (suc i) s (omega arith)) in
    let left = sum_by-cons (λ w. sum_by weight (taken_of w)) r.1 (map (λ s. s.1) rs) in
    let right = sum_by-cons (λ e. sum_by weight (jobs_of e.log.items)) r.0 (map (λ s. s.0) rs) in
    let one = sum_by-cons weight items.Stop [] in
    let stops = sum_by-cons weight items.Stop (replicate (length rs) items.Stop) in
    omega arith

-- where all passes are back, what was sent is what the logs say, a stop each, and what is left
pub back_are_sent : {G O : Type 0} (lanes : Lanes) (director : DirectorPass) (rs : List (WorkerEnd G O × WorkerPass × List Hold)) (passes : List WorkerPass) (count : ℕ)
    → passes ≡ map (λ r. r.1) rs → AreBack lanes rs → IsSettledBut director passes count
    → AreAmongSent (sent_of director) (map (λ r. r.0) rs)
back_are_sent lanes director rs passes count are back tallied weight =
    let all = tallied.2 weight in
    let same = ap (sum_by (λ (w : WorkerPass). sum_by weight (taken_of w))) are in
    let took = took_all weight rs (λ i r b. (back i r b).took) in
    let stops = ap (λ m. sum_by weight (replicate m items.Stop)) (length-map rs (λ r. r.0)) in
    omega arith

-- ---- what the desk held, unless something is left in a queue
module _ {A T Q : Type 0} where
  pub where_none_is_left : {P : Type 0} (total : A) (r : Result A T) → IfOk r (λ d. (d ≡ total) × Q) → (Q → P) → OnOk r P
  where_none_is_left total (Ok d) none p = p none.1
  where_none_is_left total (Err t) none p = tt

  pub of_the_total : (P : A → Type 0) (total : A) (r : Result A T) → IfOk r (λ d. (d ≡ total) × Q) → (Q → P total) → IfOk r P
  of_the_total P total (Ok d) same p = subst P (sym same.0) (p same.1)
  of_the_total P total (Err t) same p = tt

  pub of_what_is_left : (P : T → Type 0) (left : T) (r : Result A T) → IfErr r (λ t. (t ≡ left) × Q) → (Q → P left) → IfErr r P
  of_what_is_left P left (Ok d) same p = tt
  of_what_is_left P left (Err t) same p = subst P (sym same.0) (p same.1)

nothing_held : {R : Type 0} (share : R → List Hold) (rs : List R) → ((i : ℕ) (r : R) → i < length rs → share (get_or rs i r) ≡ []) → in_hand (map share rs) ≡ 0
nothing_held share [] each = refl
nothing_held share (r ∷ rs) each =
    let here : slots_of (share r) ≡ 0 = ap slots_of (each 0 r (omega arith)) in
    let rest = nothing_held share rs (λ i s below. each (suc i) s (omega arith)) in
    let all = sum_by-cons slots_of (share r) (map share rs) in
    omega arith

module _ {G O : Type 0} (shows : Shows O)
    (passes : List WorkerPass) (shares : List (List Hold)) (kits : List (Kit O)) (results : List (WorkerEnd G O × WorkerPass × List Hold))
    (worked : HaveWorked {G = G} {O = O} shows passes shares kits results) where
  -- workers that began with new passes are back
  pub are_back : (lanes : Lanes) → All (IsWorkerOf lanes) passes → AreNumbered passes → All (λ w. taken_of w ≡ []) passes → All (λ w. told_of w ≡ []) passes → AreBack lanes results
  are_back lanes of numbered fresh quiet i r below =
      let b : i < length passes = (let n = worked.0 in omega arith) in
      let w = worked.1 i r.1 [] r.0.kit r b in
      record {
        of = w.stays.0 lanes (of i r.1 b);
        number = w.stays.1 ∙ numbered i r.1 b;
        took = w.took ∙ ap (λ l. (l ++ jobs_of (get_or results i r).0.log.items) ++ items.Stop ∷ []) (fresh i r.1 b);
        told = w.told ∙ ap (λ l. l ++ reports_of (get_or results i r).0.log.items) (quiet i r.1 b);
      }

  -- workers whose shares had no hold hold nothing
  pub none_in_hand : length shares ≡ length passes → All (λ s. s ≡ []) shares → in_hand (map (λ r. r.2) results) ≡ 0
  none_in_hand same none =
      nothing_held (λ r. r.2) results
      (λ i r below.
      let n = worked.0 in
      let b : i < length passes = omega arith in
      let c : i < length shares = omega arith in
      (worked.1 i r.1 [] r.0.kit r b).same ∙ none i [] c)

  -- their logs are accounts of their kits
  pub are_accounts : AreAccounts shows kits (map (λ r. r.0) results)
  are_accounts k kit e below =
      at_image (λ r. r.0) results (λ n x. IsAccount shows (get_or kits n kit) x.kit x.log.items)
      (λ i r b. (let n = worked.0 in (worked.1 i r.1 [] kit r (omega arith)).account)) k e below

  -- and their kits are whole
  pub are_kits : All (λ e. IsKit shows.kind_of e.kit) (map (λ r. r.0) results)
  are_kits k e below =
      at_image (λ r. r.0) results (λ n x. IsKit shows.kind_of x.kit)
      (λ i r b. (let n = worked.0 in (worked.1 i r.1 [] r.0.kit r (omega arith)).whole)) k e below

  -- each end is the one of the worker whose number is its place
  pub are_in_order : AreNumbered passes → AreInOrder (map (λ r. r.0) results)
  are_in_order numbered k e below =
      at_image (λ r. r.0) results (λ n x. number_of x ≡ n)
      (λ i r b.
      let n = worked.0 in
      let p : i < length passes = omega arith in
      (worked.1 i r.1 [] r.0.kit r p).number ∙ numbered i r.1 p) k e below
