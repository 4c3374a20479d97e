-- Sums, lists and membership go by the touched runs.
use Rattle.std.proofs.Common.{◌≡◌, ◌∙◌, refl, sym, ap, subst, ℕ, zero, suc, ◌+◌, false, List, [], ◌∷◌, ◌++◌, Option, Some, None, slice_get, sum_by, flat_map, Contains, true≢false, arith}
use Rattle.std.specs.List.{AllByRecursion}
use Rattle.std.proofs.lemmas.List.Sums.{sum_by-cons}
use Rattle.sched_state.specs.declared.runs.Run.{Run}
use Rattle.run_lists.specs.Marks.{Mark, Kept, Changed, Added, runs_of, base_of, replaced_runs, touched_runs, is_touched_at, HasKeyOf, KeepsKey, Over}

-- ---- a sum
pub sums : (f : Run → ℕ) (ms : List Mark) → sum_by f (runs_of ms) + sum_by f (replaced_runs ms) ≡ sum_by f (base_of ms) + sum_by f (touched_runs ms)
sums f [] = refl
sums f (Kept r ∷ ms) =
    let t : sum_by f (runs_of ms) + sum_by f (replaced_runs ms) ≡ sum_by f (base_of ms) + sum_by f (touched_runs ms) = sums f ms in
    omega (arith, sum_by-cons f r (runs_of ms), sum_by-cons f r (base_of ms))
sums f (Changed r s ∷ ms) =
    let t : sum_by f (runs_of ms) + sum_by f (replaced_runs ms) ≡ sum_by f (base_of ms) + sum_by f (touched_runs ms) = sums f ms in
    omega (arith, sum_by-cons f s (runs_of ms), sum_by-cons f r (replaced_runs ms), sum_by-cons f r (base_of ms), sum_by-cons f s (touched_runs ms))
sums f (Added s ∷ ms) =
    let t : sum_by f (runs_of ms) + sum_by f (replaced_runs ms) ≡ sum_by f (base_of ms) + sum_by f (touched_runs ms) = sums f ms in
    omega (arith, sum_by-cons f s (runs_of ms), sum_by-cons f s (touched_runs ms))

pub sums_over : (f : Run → ℕ) (ms : List Mark) (a b : List Run) → Over ms a b → sum_by f b + sum_by f (replaced_runs ms) ≡ sum_by f a + sum_by f (touched_runs ms)
sums_over f ms a b h = ap (λ rs. sum_by f rs + sum_by f (replaced_runs ms)) (sym h.runs) ∙ sums f ms ∙ ap (λ rs. sum_by f rs + sum_by f (touched_runs ms)) h.base

-- ---- a run that was there
later : (rs : List Run) (q r : Run) → Contains rs r → Contains (q ∷ rs) r
later rs q r c = (suc c.0, omega (arith, c.1), c.2)

there : (ms : List Mark) (n : ℕ) (r : Run) → slice_get (runs_of ms) n ≡ Some r → is_touched_at n ms ≡ false → Contains (base_of ms) r
there [] n r g u = absurd (let c : ◌≡◌ {A = Option Run} None (Some r) = g in cc)
there (Kept q ∷ ms) zero r g u = let e : q ≡ r = cc in (0, omega arith, e)
there (Changed q s ∷ ms) zero r g u = absurd (true≢false u)
there (Added s ∷ ms) zero r g u = absurd (true≢false u)
there (Kept q ∷ ms) (suc n) r g u = later (base_of ms) q r (there ms n r g u)
there (Changed q s ∷ ms) (suc n) r g u = later (base_of ms) q r (there ms n r g u)
there (Added s ∷ ms) (suc n) r g u = there ms n r g u

pub there_over : (ms : List Mark) (a b : List Run) (n : ℕ) (r : Run) → Over ms a b → slice_get b n ≡ Some r → is_touched_at n ms ≡ false → Contains a r
there_over ms a b n r h g u = subst (λ rs. Contains rs r) h.base (there ms n r (ap (λ rs. slice_get rs n) h.runs ∙ g) u)

-- ---- no run is lost
here : (rs : List Run) (q : Run) → Contains (q ∷ rs) q
here rs q = (0, omega arith, refl)

still : (ms : List Mark) (r : Run) → AllByRecursion KeepsKey ms → Contains (base_of ms) r → (s : Run) × Contains (runs_of ms) s × HasKeyOf r s
still [] r k c = absurd (omega (arith, c.1))
still (Added t ∷ ms) r k c = let w = still ms r k.1 c in (w.0, later (runs_of ms) t w.0 w.1, w.2)
still (Kept q ∷ ms) r k (zero, l, e) = (q, here (runs_of ms) q, (ap (λ (x : Run). x.graph) e, ap (λ (x : Run). x.logical) e))
still (Kept q ∷ ms) r k (suc n, l, e) = let w = still ms r k.1 (n, omega (arith, l), e) in (w.0, later (runs_of ms) q w.0 w.1, w.2)
still (Changed q t ∷ ms) r k (zero, l, e) = (t, here (runs_of ms) t, (k.0.0 ∙ ap (λ (x : Run). x.graph) e, k.0.1 ∙ ap (λ (x : Run). x.logical) e))
still (Changed q t ∷ ms) r k (suc n, l, e) = let w = still ms r k.1 (n, omega (arith, l), e) in (w.0, later (runs_of ms) t w.0 w.1, w.2)

pub still_over : (ms : List Mark) (a b : List Run) (r : Run) → Over ms a b → Contains a r → (s : Run) × Contains b s × HasKeyOf r s
still_over ms a b r h c = subst (λ rs. (s : Run) × Contains rs s × HasKeyOf r s) h.runs (still ms r h.keys (subst (λ rs. Contains rs r) (sym h.base) c))

-- ---- a list made of the runs
pub flat : {X : Type 0} (f : Run → List X) (ms : List Mark) → ((n : ℕ) (r : Run) → slice_get ms n ≡ Some (Kept r) → f r ≡ []) → flat_map f (runs_of ms) ≡ flat_map f (touched_runs ms)
flat f [] h = refl
flat f (Kept r ∷ ms) h = ap (λ xs. xs ++ flat_map f (runs_of ms)) (h zero r refl) ∙ flat f ms (λ n q g. h (suc n) q g)
flat f (Changed r s ∷ ms) h = ap (λ xs. f s ++ xs) (flat f ms (λ n q g. h (suc n) q g))
flat f (Added s ∷ ms) h = ap (λ xs. f s ++ xs) (flat f ms (λ n q g. h (suc n) q g))

pub flat_over : {X : Type 0} (f : Run → List X) (ms : List Mark) (a b : List Run) → Over ms a b → ((n : ℕ) (r : Run) → slice_get ms n ≡ Some (Kept r) → f r ≡ []) → flat_map f b ≡ flat_map f (touched_runs ms)
flat_over f ms a b h k = ap (flat_map f) (sym h.runs) ∙ flat f ms k
