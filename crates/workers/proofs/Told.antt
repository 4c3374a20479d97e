-- What was heard, put together of what was heard of each worker, is among what the logs tell.
use Rattle.std.proofs.Common.{◌≡◌, ◌≢◌, ⊎_elim, ℕ, zero, suc, ◌+◌, ◌<◌, ◌≤◌, ◌==◌, List, [], ◌∷◌, ◌++◌, length, get_or, map, cond, refl, sym, ap, ◌∙◌, arith, eq-eqb, ne_eqb}
use Rattle.std.specs.Prelude.{sum_by, filter}
use Rattle.std.proofs.lemmas.List.{length-map, get_or-map}
use Rattle.std.proofs.lemmas.List.Sums.{sum_by-cons, sum_by-append}
use Rattle.ruled_dispatch.specs.declared.items.Report.{Report}
use Rattle.ruled_dispatch.specs.declared.items.WorkerReport.{WorkerReport}
use Rattle.ruled_dispatch.specs.declared.lanes.Lanes.{Lanes}
use Rattle.ruled_dispatch.specs.declared.passes.DirectorPass.{DirectorPass}
use Rattle.ruled_dispatch.specs.declared.passes.WorkerPass.{WorkerPass}
use Rattle.ruled_dispatch.specs.ReportsRule.{told_by}
use Rattle.ruled_dispatch.specs.Lanes.{told_of, heard_of, IsHeardBut}
use Rattle.slot_desk.specs.declared.holds.Hold.{Hold}
use Rattle.workers.specs.declared.crews.WorkerEnd.{WorkerEnd}
use Rattle.workers.specs.Logs.{reports_of}
use Rattle.workers.specs.Accounted.{AreAmongTold, AreBack}
use Rattle.workers.proofs.Owners.{below_or, same_or}
use Rattle.workers.proofs.Places.{at_image}

abbrev reports : List WorkerReport → List Report
reports xs = map (λ r. r.report) xs

told_own : (k : ℕ) (x : WorkerReport) (xs : List WorkerReport) → x.worker ≡ k → told_by k (x ∷ xs) ≡ x.report ∷ told_by k xs
told_own k x xs same =
    let rest : List WorkerReport = filter (λ (r : WorkerReport). r.worker == k) xs in
    ap (λ b. reports (cond b (x ∷ rest) rest)) (eq-eqb x.worker k same)

told_other : (k : ℕ) (x : WorkerReport) (xs : List WorkerReport) → x.worker ≢ k → told_by k (x ∷ xs) ≡ told_by k xs
told_other k x xs other =
    let rest : List WorkerReport = filter (λ (r : WorkerReport). r.worker == k) xs in
    ap (λ b. reports (cond b (x ∷ rest) rest)) (ne_eqb x.worker k other)

module _ (weight : Report → ℕ) where
  -- what so many workers, from this one on, told of these
  abbrev sums : ℕ → ℕ → List WorkerReport → ℕ
  sums zero i heard = 0
  sums (suc n) i heard = sum_by weight (told_by i heard) + sums n (suc i) heard

  none_told : (n i : ℕ) → sums n i [] ≡ 0
  none_told zero i = refl
  none_told (suc n) i =
      let here : sum_by weight (told_by i []) ≡ 0 = refl in
      let rest : sums n (suc i) [] ≡ 0 = none_told n (suc i) in
      let all : sum_by weight (told_by i []) + sums n (suc i) [] ≡ 0 = omega arith in
      all

  -- a report of a worker before them
  passed : (n i : ℕ) (x : WorkerReport) (xs : List WorkerReport) → x.worker < i → sums n i (x ∷ xs) ≡ sums n i xs
  passed zero i x xs less = refl
  passed (suc n) i x xs less =
      ap (λ k. sum_by weight k + sums n (suc i) (x ∷ xs)) (told_other i x xs (λ e. absurd (omega arith)))
      ∙ ap (λ k. sum_by weight (told_by i xs) + k) (passed n (suc i) x xs (omega arith))

  -- a report of one of them
  counted : (n i : ℕ) (x : WorkerReport) (xs : List WorkerReport) → i ≤ x.worker → x.worker < i + n → sums n i (x ∷ xs) ≡ weight x.report + sums n i xs
  counted zero i x xs low high = absurd (omega arith)
  counted (suc n) i x xs low high =
      let more : sum_by weight (x.report ∷ told_by i xs) ≡ weight x.report + sum_by weight (told_by i xs) = sum_by-cons weight x.report (told_by i xs) in
      ⊎_elim
      (λ (e : x.worker ≡ i).
      let here : sum_by weight (told_by i (x ∷ xs)) ≡ sum_by weight (x.report ∷ told_by i xs) = ap (sum_by weight) (told_own i x xs e) in
      let rest : sums n (suc i) (x ∷ xs) ≡ sums n (suc i) xs = passed n (suc i) x xs (omega arith) in
      let all : sum_by weight (told_by i (x ∷ xs)) + sums n (suc i) (x ∷ xs) ≡ weight x.report + (sum_by weight (told_by i xs) + sums n (suc i) xs) = omega arith in
      all)
      (λ (ne : x.worker ≢ i).
      let here : sum_by weight (told_by i (x ∷ xs)) ≡ sum_by weight (told_by i xs) = ap (sum_by weight) (told_other i x xs ne) in
      let above : suc i ≤ x.worker = ⊎_elim (λ (l : x.worker < i). absurd (omega arith)) (λ (l : i ≤ x.worker). ⊎_elim (λ (m : i < x.worker). omega arith) (λ (m : x.worker ≤ i). absurd (ne (omega arith))) (below_or i x.worker)) (below_or x.worker i) in
      let rest : sums n (suc i) (x ∷ xs) ≡ weight x.report + sums n (suc i) xs = counted n (suc i) x xs above (omega arith) in
      let all : sum_by weight (told_by i (x ∷ xs)) + sums n (suc i) (x ∷ xs) ≡ weight x.report + (sum_by weight (told_by i xs) + sums n (suc i) xs) = omega arith in
      all)
      (same_or x.worker i)

  -- where nothing was heard of any other, each report is of one of them
  told_in_all : (n : ℕ) (heard : List WorkerReport) → ((k : ℕ) → n ≤ k → told_by k heard ≡ []) → sum_by weight (reports heard) ≡ sums n 0 heard
  told_in_all n [] none = sym (none_told n 0)
  told_in_all n (x ∷ xs) none =
      ⊎_elim
      (λ (inside : x.worker < n).
      let rest = told_in_all n xs (λ k late. sym (told_other k x xs (λ e. absurd (omega arith))) ∙ none k late) in
      let all = sum_by-cons weight x.report (reports xs) in
      let one = counted n 0 x xs (omega arith) (omega arith) in
      omega arith)
      (λ (late : n ≤ x.worker).
      let some : length (x.report ∷ told_by x.worker xs) ≡ 0 = ap length (sym (told_own x.worker x xs refl) ∙ none x.worker late) in
      absurd (omega arith))
      (below_or x.worker n)

  -- what was heard of each is a part of what its log tells
  told_in_logs : {G O : Type 0} (ends : List (WorkerEnd G O)) (i : ℕ) (heard left : List WorkerReport)
      → ((k : ℕ) (d : WorkerEnd G O) → k < length ends → (n : ℕ) → n ≡ i + k → told_by n heard ++ told_by n left ≡ reports_of (get_or ends k d).log.items)
      → sums (length ends) i heard ≤ sum_by (λ e. sum_by weight (reports_of e.log.items)) ends
  told_in_logs [] i heard left each = omega arith
  told_in_logs {G} {O} (e ∷ es) i heard left each =
      let here : sum_by weight (told_by i heard) + sum_by weight (told_by i left) ≡ sum_by weight (reports_of e.log.items) =
      sym (sum_by-append weight (told_by i heard) (told_by i left)) ∙ ap (sum_by weight) (each 0 e (omega arith) i (omega arith)) in
      let rest : sums (length es) (suc i) heard ≤ sum_by (λ (x : WorkerEnd G O). sum_by weight (reports_of x.log.items)) es =
      told_in_logs es (suc i) heard left (λ k d below n same. each (suc k) d (omega arith) n (omega arith)) in
      let all = sum_by-cons (λ (x : WorkerEnd G O). sum_by weight (reports_of x.log.items)) e es in
      let whole : sum_by weight (told_by i heard) + sums (length es) (suc i) heard ≤ sum_by (λ (x : WorkerEnd G O). sum_by weight (reports_of x.log.items)) (e ∷ es) = omega arith in
      whole

module _ {G O : Type 0} where
  are_told : (ends : List (WorkerEnd G O)) (heard left : List WorkerReport)
      → ((k : ℕ) (d : WorkerEnd G O) → k < length ends → told_by k heard ++ told_by k left ≡ reports_of (get_or ends k d).log.items)
      → ((k : ℕ) → length ends ≤ k → told_by k heard ≡ [])
      → AreAmongTold heard ends
  are_told ends heard left each none weight =
      let all = told_in_all weight (length ends) heard none in
      let less = told_in_logs weight ends 0 heard left (λ k d below n same. let is : n ≡ k = omega arith in ap (λ m. told_by m heard ++ told_by m left) is ∙ each k d below) in
      omega arith

  -- where all passes are back, what was heard and what is left are what the logs tell
  pub back_are_told : (lanes : Lanes) (director : DirectorPass) (results : List (WorkerEnd G O × WorkerPass × List Hold)) (passes : List WorkerPass) (count : ℕ)
      → passes ≡ map (λ r. r.1) results → AreBack lanes results → IsHeardBut director passes count
      → AreAmongTold (heard_of director) (map (λ r. r.0) results)
  back_are_told lanes director results passes count are back tallied =
      let heard = heard_of director in
      let left = tallied.0 in
      let len : length passes ≡ length results = ap length are ∙ length-map results (λ r. r.1) in
      let len_ends : length (map (λ r. r.0) results) ≡ length results = length-map results (λ r. r.0) in
      are_told (map (λ r. r.0) results) heard left
      (at_image (λ r. r.0) results (λ k e. told_by k heard ++ told_by k left ≡ reports_of e.log.items)
      (λ i r b.
      let its = back i r b in
      let at : get_or passes i r.1 ≡ (get_or results i r).1 = ap (λ l. get_or l i r.1) are ∙ get_or-map (λ x. x.1) results i r r.1 b in
      let number : (get_or passes i r.1).number ≡ i = ap (λ (w : WorkerPass). w.number) at ∙ its.number in
      ap (λ n. told_by n heard ++ told_by n left) (sym number) ∙ sym (tallied.2 i r.1 (omega arith)) ∙ ap told_of at ∙ its.told))
      (λ k late. (tallied.3 k (omega arith)).0)
