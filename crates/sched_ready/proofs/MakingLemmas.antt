-- Shelves from nothing.
use Rattle.std.proofs.Common.{◌≡◌, ◌∙◌, ◌⊎◌, inl, inr, refl, sym, ap, subst, ℕ, zero, suc, ◌+◌, ◌<◌, ◌≤◌, List, [], ◌∷◌, ◌++◌, Bool, true, false, cond, not, ◌||◌, length, map, true≢false, Option, Some, None, slice_get, nat_eq, arith}
use Rattle.std.proofs.lemmas.Bool.{eq-eqb, eqb-true}
use Rattle.std.proofs.lemmas.Option.{none-some, same_Some, slice_get_within}
use Rattle.graph_file.specs.declared.task_specs.TaskSpec.{TaskSpec}
use Rattle.dag_check.specs.Graphs.{Dag}
use Rattle.dag_check.specs.Orders.{is_in}
use Rattle.sched_draft.specs.Parts.{positions_from, positions_where, stands}
use Rattle.sched_draft.specs.run_lists.declared.positions.Standing.TheVariants.{Running}
use Rattle.sched_model.specs.Schedule.{Schedule, is_running}
use Rattle.sched_model.specs.sched_state.declared.graphs.LoadedGraph.{LoadedGraph}
use Rattle.sched_model.specs.sched_state.declared.runs.Run.{Run}
use Rattle.sched_model.proofs.sched_state.ElementLemmas.{element_at}
use Rattle.sched_model.proofs.sched_state.OrderLemmas.{not_false}
use Rattle.sched_model.specs.instance_machine.Instances.{InstanceValue}
use Rattle.sched_laws.proofs.DecisionLemmas.{by_bool}
use Rattle.sched_ready.specs.Due.{due_at, due_if, due_of}
use Rattle.sched_ready.specs.Held.{AreShelvesOf, FitShelves, FitsShelf, IsLater, WeighTasks}
use Rattle.sched_ready.specs.Kinds.{AreKinds, AreSamples, HasJoined, IsKindOf}
use Rattle.sched_ready.specs.Patched.{ArePatches, patched}
use Rattle.sched_ready.specs.Patching.{ArePatchesOn, AreShelvesBefore, IsStillOn}
use Rattle.sched_ready.specs.Shelves.{AreAllEmpty, AreEmpty, IsEmpty, ShelfValue}
use Rattle.sched_ready.specs.declared.patches.Patch.{Patch}
use Rattle.sched_ready.specs.declared.queues.Queue.{Queue}
use Rattle.sched_ready.proofs.PatchLemmas.{patched_shelves}
use Rattle.sched_ready.proofs.PatchingLemmas.{IsPatching}
use Rattle.sched_ready.proofs.LeadLemmas.{get_first, get_last, one_longer}

-- ---- nothing stands on a shelf
-- one queue more
pub empty_more : (qs rs : List Queue) (q : Queue) → IsEmpty q → rs ≡ qs ++ q ∷ [] → AreEmpty qs → AreEmpty rs
empty_more qs rs q is e h p w f = elim (get_last qs q w p (ap (λ xs. slice_get xs p) (sym e) ∙ f)) as (λ _. IsEmpty w) [
  | inl i ↦ h p w i
  | inr i ↦ subst IsEmpty i.1 is
]

-- ---- kinds
kept_kind : (g : Dag) (old new : List ℕ) (place kind : ℕ) (t : TaskSpec) → (new ≡ old) ⊎ (new ≡ old ++ place ∷ []) → IsKindOf g old t kind → IsKindOf g new t kind
kept_kind g old new place kind t (inl e) h = subst (λ ss. IsKindOf g ss t kind) (sym e) h
kept_kind g old new place kind t (inr e) h = record { place = h.place; sample = h.sample; place_is = ap (λ ss. slice_get ss kind) e ∙ get_first old (place ∷ []) h.place kind h.place_is; sample_is = h.sample_is; pool = h.pool; slots = h.slots }

kept_long : (old new : List ℕ) (place : ℕ) → (new ≡ old) ⊎ (new ≡ old ++ place ∷ []) → length old ≤ length new
kept_long old new place (inl e) = let l = ap (λ (xs : List ℕ). length xs) e in omega (arith, l)
kept_long old new place (inr e) = let l = ap (λ (xs : List ℕ). length xs) e ∙ one_longer old place in omega (arith, l)

kept_samples : (g : Dag) (old new : List ℕ) (place : ℕ) → place < length g.tasks → (new ≡ old) ⊎ (new ≡ old ++ place ∷ []) → AreSamples g old → AreSamples g new
kept_samples g old new place l (inl e) h = subst (AreSamples g) (sym e) h
kept_samples g old new place l (inr e) h = λ k p f. elim (get_last old place p k (ap (λ (xs : List ℕ). slice_get xs k) (sym e) ∙ f)) as (λ _. p < length g.tasks) [
  | inl i ↦ h k p i
  | inr i ↦ (let j = i.1 in omega (arith, l, j))
]

-- one place more
pub kinds_more : (g : Dag) (place : ℕ) (ks ms old new : List ℕ) (kind : ℕ) → place < length g.tasks → HasJoined g place old new kind → ms ≡ ks ++ kind ∷ [] → AreKinds g place ks old → AreKinds g (place + 1) ms new
kinds_more g place ks ms old new kind l joined e h = subst (λ xs. AreKinds g (place + 1) xs new) (sym e) (record {
  long = one_longer ks kind ∙ ap (λ n. n + 1) h.long;
  each = λ p k t a b. elim (get_last ks kind k p a) as (λ _. IsKindOf g new t k) [
    | inl i ↦ kept_kind g old new place k t joined.from (h.each p k t i b)
    | inr i ↦ subst (IsKindOf g new t) i.1 (joined.kind_is t (ap (slice_get g.tasks) (sym (i.0 ∙ h.long)) ∙ b))
  ];
  within = λ p k a. elim (get_last ks kind k p a) as (λ _. k < length new) [
    | inl i ↦ (let m = h.within p k i in let n = kept_long old new place joined.from in omega (arith, m, n))
    | inr i ↦ (let m = joined.within in let n = i.1 in omega (arith, m, n))
  ];
  sampled = kept_samples g old new place l joined.from h.sampled;
})

pub fits_empty : (g : Dag) (s : ShelfValue) (ks ss ws : List ℕ) → WeighTasks g ws → AreKinds g (length g.tasks) ks ss → s.weights ≡ ws → s.kinds ≡ ks → s.samples ≡ ss → length s.queues ≡ length ws → FitsShelf g s
fits_empty g s ks ss ws weighed h a b c d = record {
  weights = subst (WeighTasks g) (sym a) weighed;
  long = d ∙ weighed.long;
  kinds = λ p t e.
      let within = slice_get_within g.tasks p t e in
      let k = element_at ks p (omega (arith, within, h.long)) in
      let i = h.each p k.0 t k.1 e in
      record {
        kind = k.0;
        place = i.place;
        sample = i.sample;
        kind_is = ap (λ xs. slice_get xs p) b ∙ k.1;
        place_is = ap (λ xs. slice_get xs k.0) c ∙ i.place_is;
        sample_is = i.sample_is;
        pool = i.pool;
        slots = i.slots;
      };
  samples = λ k p e. h.sampled k p (ap (λ xs. slice_get xs k) (sym c) ∙ e);
}

-- ---- the shelves of the first graphs
pub record AreEmptyTo (n : ℕ) (gs : List LoadedGraph) (ss : List ShelfValue) : Type 0 where
  pub long : length ss ≡ n
  pub fits : (m : ℕ) (g : LoadedGraph) (s : ShelfValue) → slice_get gs m ≡ Some g → slice_get ss m ≡ Some s → FitsShelf g.dag s
  pub empty : AreAllEmpty ss

pub empty_next : (n : ℕ) (gs : List LoadedGraph) (ss ts : List ShelfValue) (d : Dag) (s : ShelfValue) → ((g : LoadedGraph) → slice_get gs n ≡ Some g → g.dag ≡ d) → FitsShelf d s → AreEmpty s.queues → ts ≡ ss ++ s ∷ [] → AreEmptyTo n gs ss → AreEmptyTo (n + 1) gs ts
empty_next n gs ss ts d s dag fits empty e h = subst (AreEmptyTo (n + 1) gs) (sym e) (record {
  long = one_longer ss s ∙ ap (λ k. k + 1) h.long;
  fits = λ m g u a b. elim (get_last ss s u m b) as (λ _. FitsShelf g.dag u) [
    | inl i ↦ h.fits m g u a i
    | inr i ↦ subst (FitsShelf g.dag) i.1 (subst (λ (x : Dag). FitsShelf x s) (sym (dag g (ap (slice_get gs) (sym (i.0 ∙ h.long)) ∙ a))) fits)
  ];
  empty = λ m u a. elim (get_last ss s u m a) as (λ _. AreEmpty u.queues) [
    | inl i ↦ h.empty m u i
    | inr i ↦ subst (λ (x : ShelfValue). AreEmpty x.queues) i.1 empty
  ];
})

-- ---- the runs that are running
pub running_in : (i : ℕ) (rs : List Run) (n : ℕ) (r : Run) → slice_get rs n ≡ Some r → is_running r.phase ≡ true → is_in (positions_from (stands Running) i rs) (i + n) ≡ true
running_in i [] n r e on = absurd (none-some r e)
running_in i (x ∷ rs) zero r e on =
    let same : x ≡ r = same_Some x r e in
    let runs : is_running x.phase ≡ true = ap (λ (q : Run). is_running q.phase) same ∙ on in
    let z : i ≡ i + 0 = omega arith in
    ap (λ b. is_in (cond b (i ∷ positions_from (stands Running) (suc i) rs) (positions_from (stands Running) (suc i) rs)) (i + 0)) runs ∙ ap (λ b. b || is_in (positions_from (stands Running) (suc i) rs) (i + 0)) (eq-eqb i (i + 0) z)
running_in i (x ∷ rs) (suc n) r e on =
    let z : suc i + n ≡ i + suc n = omega arith in
    let rest : is_in (positions_from (stands Running) (suc i) rs) (i + suc n) ≡ true = ap (is_in (positions_from (stands Running) (suc i) rs)) (sym z) ∙ running_in (suc i) rs n r e on in
    by (is_running x.phase) rest
  where
    either : (c d : Bool) → d ≡ true → (c || d) ≡ true
    either true d j = refl
    either false d j = j

    by : (b : Bool) → is_in (positions_from (stands Running) (suc i) rs) (i + suc n) ≡ true → is_in (cond b (i ∷ positions_from (stands Running) (suc i) rs) (positions_from (stands Running) (suc i) rs)) (i + suc n) ≡ true
    by true f = either (nat_eq i (i + suc n)) _ f
    by false f = f

running_within : (i : ℕ) (rs : List Run) (n : ℕ) → is_in (positions_from (stands Running) i rs) n ≡ true → n < i + length rs
running_within i [] n e = absurd (true≢false (sym e))
running_within i (x ∷ rs) n e = by (is_running x.phase) (λ f. let l = running_within (suc i) rs n f in omega (arith, l)) e
  where
    by : (b : Bool) → (is_in (positions_from (stands Running) (suc i) rs) n ≡ true → n < i + suc (length rs)) → is_in (cond b (i ∷ positions_from (stands Running) (suc i) rs) (positions_from (stands Running) (suc i) rs)) n ≡ true → n < i + suc (length rs)
    by true later f = by_bool {C = n < i + suc (length rs)} (nat_eq i n) (λ g. let j = eqb-true i n g in omega (arith, j)) (λ g. later (sym (ap (λ b. b || is_in (positions_from (stands Running) (suc i) rs) n) g) ∙ f))
    by false later f = later f

-- what is due is due in a running run
due_runs : (r : Run) (t : TaskSpec) (p m : ℕ) → due_at r t p ≡ Some m → is_running r.phase ≡ true
due_runs r t p m e = by_bool {C = is_running r.phase ≡ true} (is_running r.phase) (λ f. f) (λ f. absurd (none-some m (sym (idle f (slice_get r.instances p)) ∙ e)))
  where
    idle : is_running r.phase ≡ false → (o : Option InstanceValue) → due_if r t o ≡ None
    idle f None = refl
    idle f (Some i) = ap (λ b. cond b (due_of t i) None) f

abbrev pub without_runs : Schedule → Schedule
without_runs a = record a { runs = [] }

pub before_all : (a : Schedule) (ss : List ShelfValue) → FitShelves a.graphs ss → AreShelvesBefore (without_runs a) a ss
before_all a ss fit = record {
  shelves = record { fit = fit; held = λ n p g s t q e f i j k m r there of_it d. absurd (none-some r there) };
  later = record { clock = (let l : a.now ≤ a.now = omega arith in l); long = refl; graphs = λ n g h e f. ap (λ (l : LoadedGraph). l.dag) (sym (same_Some g h (sym e ∙ f))) };
}

pub running_first : (a : Schedule) (ss : List ShelfValue) (left : List ℕ) (ps : List Patch) → left ≡ positions_where (stands Running) a.runs → ps ≡ [] → AreAllEmpty ss → IsPatching (without_runs a) a ss left ps
running_first a ss left ps e none empty = subst (IsPatching (without_runs a) a ss left) (sym none) (record {
  done = λ n. not (is_in left n);
  rest = λ n f. negated (is_in left n) f;
  within = λ n f. let l = running_within 0 a.runs n (ap (λ ns. is_in ns n) (sym e) ∙ f) in omega (arith, l);
  on = record {
    once = λ k l x y i j same. absurd (none-some x i);
    each = λ k x g s i f j. absurd (none-some x i);
    rest = λ n g s others f i p t q task queue. record {
      due = λ k m r out there of_it d.
          let z : 0 + k ≡ k = omega arith in
          let there_in : is_in left k ≡ true = ap (λ ns. is_in ns k) e ∙ (ap (is_in (positions_where (stands Running) a.runs)) (sym z) ∙ running_in 0 a.runs k r there (due_runs r t p m d)) in
          absurd (true≢false (sym there_in ∙ not_false (is_in left k) out));
      ahead = λ m h. absurd (true≢false (sym h ∙ ap (λ (xs : List (ℕ × ℕ)). is_in (map (λ (w : ℕ × ℕ). w.0) xs) m) (empty n s i p q queue).waiting));
    };
  };
})
  where
    negated : (c : Bool) → not c ≡ false → c ≡ true
    negated true f = refl
    negated false f = absurd (true≢false f)

pub shelves_made : (a : Schedule) (ss ts : List ShelfValue) (ps : List Patch) → FitShelves a.graphs ss → ArePatches (without_runs a) a ps → ts ≡ patched ps ss → AreShelvesOf a.now a.graphs a.runs ts
shelves_made a ss ts ps fit made e =
    let before = before_all a ss fit in
    subst (AreShelvesOf a.now a.graphs a.runs) (sym e) (patched_shelves (without_runs a) a ps ss before.shelves made before.later)
