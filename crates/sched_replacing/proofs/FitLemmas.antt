-- One run of the graph after another gets its instances.
use Rattle.std.proofs.Common.{◌≡◌, ◌∙◌, refl, sym, ap, ℕ, suc, ◌+◌, ◌<◌, ◌≤◌, List, [], ◌∷◌, true, false, if◌then◌else◌, cond, map, length, Some, slice_get, arith, zip}
use Rattle.graph_file.proofs.WriteLemmas.{written, written_begins, written_all}
use Rattle.dag_check.specs.Graphs.{Dag}
use Rattle.instance_machine.specs.Instances.{InstanceValue}
use Rattle.sched_state.specs.Lists.{same}
use Rattle.sched_state.specs.declared.runs.Run.{Run}
use Rattle.sched_state.proofs.NameLemmas.{same_is}
use Rattle.sched_model.specs.Lists.{at}
use Rattle.sched_model.specs.Replacing.{fitted, refitted, with_fitted}
use Rattle.sched_model.specs.Schedule.{Schedule, dag_named}
use Rattle.sched_draft.specs.Parts.{with_instances}
use Rattle.sched_clearing.specs.Spans.{AreRunsOf}
use Rattle.sched_clearing.proofs.ClearLemmas.{written_at, written_get, written_long, written_passed}
use Rattle.sched_clearing.proofs.SettingLemmas.{at_same}
use Rattle.sched_clearing.proofs.SpanLemmas.{other_before, other_behind, own_inside}
use Rattle.sched_replacing.specs.Fitting.{with_fitted_from}

-- ---- one run
-- a run of the graph gets the instances of the new tasks; another stays
abbrev pub refitted_from : Dag → Dag → Run → Run
refitted_from old new r = if same r.graph new.spec.dag_id then with_fitted_from old new r else r

own_fits : (old new : Dag) (r : Run) → same r.graph new.spec.dag_id ≡ true → with_fitted_from old new r ≡ refitted_from old new r
own_fits old new r own = ap (λ b. cond b (with_fitted_from old new r) r) (sym own)

-- one of another graph stays
other_stays : (old new : Dag) (r : Run) → same r.graph new.spec.dag_id ≡ false → refitted_from old new r ≡ r
other_stays old new r other = ap (λ b. cond b (with_fitted_from old new r) r) other

-- the run at a position gets its instances
pub refit_one : (old new : Dag) (a d b : Schedule) (n : ℕ) (r : Run) (hs : List InstanceValue) → slice_get a.runs n ≡ Some r → hs ≡ map (fitted r.phase (zip old.tasks r.instances)) new.tasks → d ≡ a
    → b ≡ record d { runs = at (with_instances hs) n d.runs } → b ≡ record a { runs = at (with_fitted_from old new) n a.runs }
refit_one old new a d b n r hs there made is set_is =
    set_is ∙ (ap (λ (x : Schedule). record x { runs = at (with_instances hs) n x.runs }) is
    ∙ ap (λ qs. record a { runs = qs }) (at_same (with_instances hs) (with_fitted_from old new) a.runs n r there (ap (λ is. record r { instances = is }) made)))

-- ---- the schedule whose first n runs have their instances
abbrev pub refitted_to : Dag → Dag → ℕ → Schedule → Schedule
refitted_to old new n a = record a { runs = written (refitted_from old new) a.runs n }

-- the runs before those of the graph stay
pub refit_begins : (old new : Dag) (a : Schedule) (low high : ℕ) → AreRunsOf new.spec.dag_id a.runs low high → a ≡ refitted_to old new low a
refit_begins old new a low high span =
    let f : Run → Run = refitted_from old new in
    ap (λ rs. record a { runs = rs }) (written_begins f a.runs ∙ written_passed f a.runs 0 low (omega arith) (λ j r x y there. other_stays old new r (other_before new.spec.dag_id a.runs low high j r span y there)))

-- no run comes or goes
pub refit_long : (old new : Dag) (a d : Schedule) (n : ℕ) → d ≡ refitted_to old new n a → length d.runs ≡ length a.runs
refit_long old new a d n is = ap (λ (x : Schedule). length x.runs) is ∙ written_long (refitted_from old new) a.runs n

-- one run more
pub refit_turn : (old new : Dag) (a d b : Schedule) (low high n : ℕ) (r : Run) → AreRunsOf new.spec.dag_id a.runs low high → low ≤ n → n < high → slice_get a.runs n ≡ Some r → d ≡ refitted_to old new n a
    → b ≡ record d { runs = at (with_fitted_from old new) n d.runs } → b ≡ refitted_to old new (n + 1) a
refit_turn old new a d b low high n r span behind before there is set_is =
    let f : Run → Run = refitted_from old new in
    let rs : List Run = written f a.runs n in
    let s : suc n ≡ n + 1 = omega arith in
    let inside : n < length a.runs = omega (arith, before, span.within) in
    set_is ∙ (ap (λ (x : Schedule). record x { runs = at (with_fitted_from old new) n x.runs }) is
    ∙ ap (λ qs. record a { runs = qs }) (at_same (with_fitted_from old new) f rs n r (written_get f a.runs n ∙ there) (own_fits old new r (own_inside new.spec.dag_id a.runs low high n r span behind before there))
    ∙ (written_at f a.runs n inside ∙ ap (written f a.runs) s)))

-- the runs behind those of the graph stay
pub refit_over : (old new : Dag) (a d : Schedule) (low high n : ℕ) → AreRunsOf new.spec.dag_id a.runs low high → high ≤ n → d ≡ refitted_to old new n a → d ≡ record a { runs = map (refitted_from old new) a.runs }
refit_over old new a d low high n span over is =
    let f : Run → Run = refitted_from old new in
    let m : ℕ = n + length a.runs in
    is ∙ ap (λ rs. record a { runs = rs }) (written_passed f a.runs n m (omega arith) (λ j r x y there. other_stays old new r (other_behind new.spec.dag_id a.runs low high j r span (omega (arith, over, x)) there))
    ∙ written_all f a.runs m (omega arith))

-- ---- as the model has it
-- one run
run_is : (a : Schedule) (old new : Dag) (r : Run) → dag_named a new.spec.dag_id ≡ old → refitted_from old new r ≡ refitted a new r
run_is a old new r is = elim (same r.graph new.spec.dag_id) as (λ b. same r.graph new.spec.dag_id ≡ b → cond b (with_fitted_from old new r) r ≡ cond b (with_fitted a new r) r) [
  | true ↦ λ e.
      let graph : old ≡ dag_named a r.graph = sym is ∙ ap (dag_named a) (sym (same_is r.graph new.spec.dag_id e)) in
      ap (λ (g : Dag). record r { instances = map (fitted r.phase (zip g.tasks r.instances)) new.tasks }) graph
  | false ↦ λ e. refl
] refl

-- one run after another
pub runs_are : (a : Schedule) (old new : Dag) (rs : List Run) → dag_named a new.spec.dag_id ≡ old → map (refitted_from old new) rs ≡ map (refitted a new) rs
runs_are a old new [] is = refl
runs_are a old new (r ∷ rs) is = ap (λ q. q ∷ map (refitted_from old new) rs) (run_is a old new r is) ∙ ap (λ qs. refitted a new r ∷ qs) (runs_are a old new rs is)
