-- Where the old task of each new one stands, and what instance the new one gets.
use Rattle.std.proofs.Common.{◌≡◌, ◌∙◌, refl, sym, ap, ℕ, suc, ◌+◌, ◌≤◌, List, [], ◌∷◌, Bool, true, false, cond, find, length, min, Option, Some, None, option_and_then, option_map, slice_get, arith, zip}
use Rattle.std.specs.List.{position_from}
use Rattle.std.proofs.lemmas.Iterator.Adapters.{position_from-zero}
use Rattle.std.proofs.lemmas.Option.{slice_get-map, slice_get_past}
use Rattle.std.proofs.lemmas.Slice.Zip.{length-zip}
use Rattle.indexmap.proofs.ReorderLemmas.{slice_get-zip_some}
use Rattle.graph_file.specs.declared.task_specs.TaskSpec.{TaskSpec}
use Rattle.instance_machine.specs.Instances.{InstanceValue}
use Rattle.sched_state.specs.Lists.{same}
use Rattle.sched_state.specs.declared.runs.Run.{Run}
use Rattle.sched_model.specs.Replacing.{fitted, fitted_if, kept_as, newcomer}
use Rattle.sched_laws.proofs.FittedLemmas.{Pair, zip_none}
use Rattle.sched_replacing.specs.Fitting.{instance_from, old_place_of, sources_of}

-- the pair at the place of the first task that passes is the first whose task passes
placed_from : (p : TaskSpec → Bool) (i : ℕ) (ts : List TaskSpec) (hs : List InstanceValue) (es : List Pair) → ((k : ℕ) → slice_get es (i + k) ≡ slice_get (zip ts hs) k)
    → option_and_then (slice_get es) (position_from p i ts) ≡ find (λ (x : Pair). p x.0) (zip ts hs)
placed_from p i [] hs es e = refl
placed_from p i (t ∷ ts) [] es e = elim (p t) as (λ b. option_and_then (slice_get es) (cond b (Some i) (position_from p (i + 1) ts)) ≡ None) [
  | true ↦ let z : i ≡ i + 0 = omega arith in ap (slice_get es) z ∙ e 0
  | false ↦
      placed_from p (i + 1) ts [] es (λ k. let z : (i + 1) + k ≡ i + suc k = omega arith in ap (slice_get es) z ∙ (e (suc k) ∙ sym (ap (λ (zs : List Pair). slice_get zs k) (zip_none ts))))
      ∙ ap (find (λ (x : Pair). p x.0)) (zip_none ts)
]
placed_from p i (t ∷ ts) (h ∷ hs) es e = elim (p t) as (λ b. option_and_then (slice_get es) (cond b (Some i) (position_from p (i + 1) ts)) ≡ cond b (Some (t, h)) (find (λ (x : Pair). p x.0) (zip ts hs))) [
  | true ↦ let z : i ≡ i + 0 = omega arith in ap (slice_get es) z ∙ e 0
  | false ↦ placed_from p (i + 1) ts hs es (λ k. let z : (i + 1) + k ≡ i + suc k = omega arith in ap (slice_get es) z ∙ e (suc k))
]

-- so by the place of its source a task gets what it gets by its id
pub source_fits : (r : Run) (old : List TaskSpec) (u : TaskSpec) → instance_from r old (old_place_of old u) u ≡ fitted r.phase (zip old r.instances) u
source_fits r old u =
    let own : TaskSpec → Bool = λ t. same t.task_id u.task_id in
    let es : List Pair = zip old r.instances in
    ap (λ (o : Option Pair). fitted_if r.phase o u)
    (ap (option_and_then (slice_get es)) (position_from-zero own old) ∙ placed_from own 0 old r.instances es (λ k. let z : 0 + k ≡ k = omega arith in ap (slice_get es) z))

-- ---- as it is read
-- the pair at the place goes on by the new task
pub source_kept : (r : Run) (old : List TaskSpec) (n : ℕ) (t u : TaskSpec) (h : InstanceValue) → slice_get old n ≡ Some t → slice_get r.instances n ≡ Some h → instance_from r old (Some n) u ≡ kept_as t u h
source_kept r old n t u h task item = ap (λ (o : Option Pair). fitted_if r.phase o u) (slice_get-zip_some old r.instances n t h task item)

-- a place past the pairs gives what a new task gets
pub source_over : (r : Run) (old : List TaskSpec) (n : ℕ) (u : TaskSpec) → min (length old) (length r.instances) ≤ n → instance_from r old (Some n) u ≡ newcomer r.phase
source_over r old n u over =
    let long = length-zip old r.instances in
    ap (λ (o : Option Pair). fitted_if r.phase o u) (slice_get_past (zip old r.instances) n (omega (arith, long, over)))

-- what is read of the places is the place of the task
pub source_read : (old news : List TaskSpec) (sources : List (Option ℕ)) (n : ℕ) (o : Option ℕ) (u : TaskSpec) → sources ≡ sources_of old news → slice_get sources n ≡ Some o → slice_get news n ≡ Some u → o ≡ old_place_of old u
source_read old news sources n o u is source task =
    let c : ◌≡◌ {A = Option (Option ℕ)} (Some o) (Some (old_place_of old u)) =
    sym source ∙ (ap (λ (xs : List (Option ℕ)). slice_get xs n) is ∙ (slice_get-map (old_place_of old) news n ∙ ap (option_map (old_place_of old)) task)) in cc

-- so what is made by it is what the task gets
pub source_gives : (r : Run) (old news : List TaskSpec) (sources : List (Option ℕ)) (n : ℕ) (o : Option ℕ) (u : TaskSpec) (i : InstanceValue) → sources ≡ sources_of old news → slice_get sources n ≡ Some o → slice_get news n ≡ Some u
    → i ≡ instance_from r old o u → i ≡ fitted r.phase (zip old r.instances) u
source_gives r old news sources n o u i is source task made = made ∙ (ap (λ (s : Option ℕ). instance_from r old s u) (source_read old news sources n o u is source task) ∙ source_fits r old u)
