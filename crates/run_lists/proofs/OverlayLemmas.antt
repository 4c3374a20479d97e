-- What the functions of an overlay do with its edits.
use Rattle.std.proofs.Common.{◌≡◌, ◌∙◌, refl, sym, ap, subst, ℕ, zero, suc, ◌+◌, ◌<◌, ◌≤◌, true, false, List, [], ◌∷◌, length, Option, Some, None, option_map, unwrap_or, slice_get, get_or, set, insert, inl, inr, arith}
use Rattle.std.proofs.lemmas.Bool.{cases_lt}
use Rattle.std.proofs.lemmas.Option.{slice_get_within, slice_get_past, slice_get_read, get_or_from_slice_get}
use Rattle.instance_machine.specs.Instances.{InstanceValue}
use Rattle.sched_model.specs.Lists.{at}
use Rattle.sched_model.specs.Handout.{in_instance}
use Rattle.sched_state.specs.declared.runs.Run.{Run}
use Rattle.run_lists.specs.declared.edits.Edit.{Edit}
use Rattle.run_lists.specs.Changes.{instances_at}
use Rattle.run_lists.specs.Edits.{edited, positions_in, added, hidden, RiseFrom, AreEditsOf, AreBelow, AreFrom, IsEditOf, added_by, moved_from}
use Rattle.run_lists.specs.Overlays.{OverlayValue, IsOwned, IsAdded, IsInstanceAt}
use Rattle.run_lists.proofs.PutLemmas.{get_put, set_at, at_same, at_nothing}
use Rattle.run_lists.proofs.EditLemmas.{with_run, IsUnderKey, length_all, edited_there, fits_within, get_missed, puts_one, puts_changed, puts_moved}
use Rattle.run_lists.proofs.RiseLemmas.{rise_old, rise_new, rise_changed, below_within, below_one}
use Rattle.run_lists.proofs.PositionLemmas.{positions_there, positions_made, positions_added}

-- ---- where a run is read
none_within : {X : Type 0} (xs : List X) (n : ℕ) → n < length xs → slice_get xs n ≡ None → ⊥
none_within [] n l e = omega arith
none_within {X} (x ∷ xs) zero l e = let c : ◌≡◌ {A = Option X} (Some x) None = e in cc
none_within (x ∷ xs) (suc n) l e = none_within xs n (omega arith) e

-- what is read of runs that are there, where no edit is of the position
pub read_missed : (n k p : ℕ) (es : List Edit) (rs : List Run) → AreEditsOf rs es → AreBelow k n es → AreFrom k (n + 1) es → p + added_by k es ≡ n → slice_get (edited es rs) n ≡ slice_get rs p
read_missed n k p es rs h b f e = get_missed (λ r. r) (λ r _. r) k n 0 0 n p es rs rs h (omega arith) b f (omega arith) (sym e)

-- which is there
pub base_within : (n k p : ℕ) (es : List Edit) (rs : List Run) → AreEditsOf rs es → AreBelow k n es → AreFrom k (n + 1) es → p + added_by k es ≡ n → n < length (edited es rs) → p < length rs
base_within n k p es rs h b f e l = elim (cases_lt p (length rs)) [
  | inl w ↦ w
  | inr w ↦ absurd (none_within (edited es rs) n l (read_missed n k p es rs h b f e ∙ slice_get_past rs p w))
]

-- what is read of the edit of the position
pub read_there : (n k : ℕ) (es : List Edit) (rs : List Run) (x : Edit) → AreEditsOf rs es → AreBelow k n es → IsEditOf k n es → x ≡ get_or es k x → slice_get (edited es rs) n ≡ Some x.run
read_there n k es rs x h b t g = edited_there k n 0 0 n t.0 es rs h b t.1 t.2 (omega arith) ∙ ap (λ (d : Edit). Some d.run) (sym (get_or_from_slice_get es k t.0 x t.1) ∙ sym g)

-- ---- a run's own edit
-- it is there
pub owned_there : (n k : ℕ) (es : List Edit) (rs : List Run) → AreEditsOf rs es → AreBelow k n es → IsEditOf k n es → IsOwned n k es es rs
owned_there n k es rs h b t = record { edits = h; below = b; there = t; same = refl; positions = positions_there k n es b t }

-- it is made, with a copy of the run
pub owned_made : (n k p : ℕ) (r : Run) (es : List Edit) (rs : List Run) → AreEditsOf rs es → AreBelow k n es → AreFrom k (n + 1) es → p + added_by k es ≡ n → slice_get rs p ≡ Some r
    → IsOwned n k es (insert es k (record { at = n; from = p; is_new = false; run = r })) rs
owned_made n k p r es rs h b f e g =
    let l : p < length rs = slice_get_within rs p r g in
    record {
      edits = rise_old k n 0 0 n p r es rs h b f (omega arith) (sym e) (omega arith) (r, g, (refl, refl));
      below = below_one k n (record { at = n; from = p; is_new = false; run = r }) es b;
      there = (
        record { at = n; from = p; is_new = false; run = r },
        get_put true k (record { at = n; from = p; is_new = false; run = r }) es (let w : k ≤ length es = below_within k n es b in omega arith),
        refl,
      );
      same =
          puts_one (λ q. q) (λ q _. q) k n 0 0 n (record { at = n; from = p; is_new = false; run = r }) es rs rs h (omega arith) b (omega arith) (omega arith) (sym e)
          ∙ at_same (λ _. r) (λ q. q) n r (edited es rs) (read_missed n k p es rs h b f e ∙ g) refl
          ∙ at_nothing (λ q. q) n (edited es rs) (λ _. refl);
      positions = positions_made k n (record { at = n; from = p; is_new = false; run = r }) es b f refl;
    }

pub owned_within : (n k : ℕ) (old new : List Edit) (rs : List Run) → IsOwned n k old new rs → k < length new
owned_within n k old new rs h = slice_get_within new k h.there.0 h.there.1

-- it holds the run at the position
pub owned_read : (n k : ℕ) (old new : List Edit) (rs : List Run) (d : Edit) → IsOwned n k old new rs → d ≡ get_or new k d → slice_get (edited old rs) n ≡ Some d.run
owned_read n k old new rs d h g = ap (λ qs. slice_get qs n) (sym h.same) ∙ read_there n k new rs d h.edits h.below h.there g

pub owned_instances : (n k : ℕ) (old new : List Edit) (rs : List Run) (d : Edit) → IsOwned n k old new rs → d ≡ get_or new k d → instances_at n (edited old rs) ≡ length d.run.instances
owned_instances n k old new rs d h g = ap (λ (o : Option Run). unwrap_or (option_map (λ (r : Run). length r.instances) o) 0) (owned_read n k old new rs d h g)

-- and each of its instances
pub owned_item : (n k p : ℕ) (old new : List Edit) (rs : List Run) (d : Edit) (i : InstanceValue) → IsOwned n k old new rs → d ≡ get_or new k d → i ≡ get_or d.run.instances p i → p < length d.run.instances → IsInstanceAt n p i (edited old rs)
owned_item n k p old new rs d i h g item l r e =
    let is : d.run ≡ r = let c : ◌≡◌ {A = Option Run} (Some d.run) (Some r) = sym (owned_read n k old new rs d h g) ∙ e in cc in
    ap (λ (x : Run). slice_get x.instances p) (sym is) ∙ slice_get_read d.run.instances (length d.run.instances) p i refl l item

-- its run is changed
pub owned_written : (f : Run → Run) → IsUnderKey f → (n k : ℕ) (old new : List Edit) (rs : List Run) (d : Edit) → IsOwned n k old new rs → d ≡ get_or new k d
    → AreEditsOf rs (set new k (with_run f d)) × (edited (set new k (with_run f d)) rs ≡ at f n (edited old rs))
owned_written f key n k old new rs d h g =
    let is : set new k (with_run f d) ≡ at (with_run f) k new = set_at (with_run f) new k d d g in (
      subst (AreEditsOf rs) (sym is) (rise_changed f key k 0 0 new rs h.edits),
      ap (λ (es : List Edit). edited es rs) is
          ∙ puts_changed (λ r. r) (λ r _. r) f f (λ _. refl) (λ _ _. refl) k n 0 0 n h.there.0 new rs rs h.edits (omega arith) h.below h.there.1 h.there.2 (omega arith)
          ∙ ap (at f n) h.same,
    )

-- an instance of its run is changed
pub owned_instance : (g : InstanceValue → InstanceValue) (n k p : ℕ) (old new : List Edit) (rs : List Run) (d : Edit) (i j : InstanceValue) → IsOwned n k old new rs → d ≡ get_or new k d → i ≡ get_or d.run.instances p i → j ≡ g i
    → AreEditsOf rs (set new k (record d { run = record d.run { instances = set d.run.instances p j } })) × (edited (set new k (record d { run = record d.run { instances = set d.run.instances p j } })) rs ≡ at (in_instance g p) n (edited old rs))
owned_instance g n k p old new rs d i j h q item value =
    let inside : set d.run.instances p j ≡ at g p d.run.instances = ap (set d.run.instances p) value ∙ set_at g d.run.instances p i i item in
    let t = owned_written (in_instance g p) (λ r. (refl, refl)) n k old new rs d h q in (
      subst (λ is. AreEditsOf rs (set new k (record d { run = record d.run { instances = is } }))) (sym inside) t.0,
      ap (λ is. edited (set new k (record d { run = record d.run { instances = is } })) rs) inside ∙ t.1,
    )

-- ---- a run is added
-- the place among them of a run that is added
pub gap_within : (k n s i m p : ℕ) (es : List Edit) (rs : List Run) → RiseFrom s i es rs → AreFrom k n es → n ≡ m + s → m ≡ p + added_by k es → m ≤ length rs + added_by (length es) es → p ≤ length rs
gap_within zero n s i m p [] rs h f e g l = omega arith
gap_within zero n s i m p (d ∷ ds) rs h f e g l =
    let fits : d.from + hidden d.is_new ≤ length rs = fits_within d.is_new d.from d.run rs h.2 in omega (arith, h.0, f)
gap_within (suc k) n s i m p [] rs h f e g l = omega arith
gap_within (suc k) n s i m p (d ∷ ds) rs h f e g l =
    gap_within k n (s + added d.is_new) (d.from + hidden d.is_new) (p + added_by k ds) p ds rs h.3 f (omega arith) refl (omega arith)

pub added_one : (n k p : ℕ) (r : Run) (es : List Edit) (rs : List Run) → AreEditsOf rs es → AreBelow k n es → AreFrom k n es → p + added_by k es ≡ n → p ≤ length rs
    → IsAdded n r es (moved_from (k + 1) (insert es k (record { at = n; from = p; is_new = true; run = r }))) rs
added_one n k p r es rs h b f e l = subst (λ j. IsAdded n r es (moved_from j (insert es k (record { at = n; from = p; is_new = true; run = r }))) rs) (omega arith) made
  where
    made : IsAdded n r es (moved_from (suc k) (insert es k (record { at = n; from = p; is_new = true; run = r }))) rs
    made = record {
      edits = rise_new k n 0 0 n p r es rs h b f (omega arith) (sym e) (omega arith) l;
      runs =
          puts_moved (λ q. q) (λ q _. q) (suc k) (insert es k (record { at = n; from = p; is_new = true; run = r })) rs
          ∙ puts_one (λ q. q) (λ q _. q) k n 0 0 n (record { at = n; from = p; is_new = true; run = r }) es rs rs h (omega arith) b l (omega arith) (sym e);
      positions = positions_added k n 0 0 (record { at = n; from = p; is_new = true; run = r }) es rs h b f refl;
    }

-- ---- how many runs there are
pub edited_long : (es : List Edit) (rs : List Run) → AreEditsOf rs es → length (edited es rs) ≡ length rs + added_by (length es) es
edited_long es rs h = length_all (λ r. r) (λ r _. r) 0 0 es rs rs h (omega arith)

-- ---- what contracts see of it
-- where the runs are changed as g does, and the touched positions as f does
pub viewed : (g : List Run → List Run) (f : List ℕ → List ℕ) (rs xs ys : List Run) (ts us : List ℕ) (v : OverlayValue) → ◌≡◌ {A = OverlayValue} (record { base = rs; runs = xs; touched = ts }) v → ys ≡ g xs → us ≡ f ts
    → ◌≡◌ {A = OverlayValue} (record { base = rs; runs = ys; touched = us }) (record v { runs = g v.runs; touched = f v.touched })
viewed g f rs xs ys ts us v is e q =
    ap (λ zs. let w : OverlayValue = record { base = rs; runs = zs; touched = us } in w) e ∙ ap (λ zs. let w : OverlayValue = record { base = rs; runs = g xs; touched = zs } in w) q
    ∙ ap (λ (w : OverlayValue). record w { runs = g w.runs; touched = f w.touched }) is

-- an edit is changed, but not its position
pub positions_set : (k : ℕ) (es : List Edit) (d x : Edit) → d ≡ get_or es k d → x.at ≡ d.at → positions_in (set es k x) ≡ positions_in es
positions_set k [] d x g q = refl
positions_set zero (e ∷ es) d x g q = let c : d ≡ e = g in ap (λ n. n ∷ positions_in es) (q ∙ ap (λ (y : Edit). y.at) c)
positions_set (suc k) (e ∷ es) d x g q = ap (λ ns. e.at ∷ ns) (positions_set k es d x g q)

-- ---- an instance that was lent
-- where the last value behind it is made of the first
pub lent_changed : (g : InstanceValue → InstanceValue) (n p : ℕ) (rs : List Run) (i j : InstanceValue) → IsInstanceAt n p i rs → j ≡ g i → at (in_instance (λ _. j) p) n rs ≡ at (in_instance g p) n rs
lent_changed g n p [] i j h e = refl
lent_changed g zero p (r ∷ rs) i j h e = ap (λ is. let q : Run = record r { instances = is } in q ∷ rs) (at_same (λ _. j) g p i r.instances (h r refl) e)
lent_changed g (suc n) p (r ∷ rs) i j h e = ap (λ qs. r ∷ qs) (lent_changed g n p rs i j (λ q f. h q f) e)
