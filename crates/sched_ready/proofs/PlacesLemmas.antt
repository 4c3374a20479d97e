-- New queues of the places of a graph, one place after another.
use Rattle.std.proofs.Common.{◌≡◌, ◌≢◌, ◌∙◌, ◌⊎◌, inl, inr, refl, sym, ap, subst, ℕ, zero, suc, ◌+◌, ◌<◌, ◌≤◌, List, [], ◌∷◌, ◌++◌, Bool, true, false, length, true≢false, Option, Some, None, is_some, slice_get, slice_set, nat_le, nat_lt, nat_eq, arith}
use Rattle.std.proofs.lemmas.Bool.{eqb-true, eq-eqb, ltb-true, ltb-false}
use Rattle.std.proofs.lemmas.List.{length-set}
use Rattle.std.proofs.lemmas.Option.{none-some, same_Some, slice_get_within}
use Rattle.graph_file.specs.declared.task_specs.TaskSpec.{TaskSpec}
use Rattle.dag_check.specs.Graphs.{Dag}
use Rattle.sched_model.specs.sched_state.declared.runs.Run.{Run}
use Rattle.sched_laws.proofs.DecisionLemmas.{by_bool}
use Rattle.sched_ready.specs.Due.{due_at}
use Rattle.sched_ready.specs.Patching.{AreAhead, AreFirstPatches, AreMoved, AreNone, AreOfOthers, ArePlacesPatched, IsChanging, IsMoved, IsPlacePatched, KeepsAll, due_before}
use Rattle.sched_ready.specs.Shelves.{ShelfValue}
use Rattle.sched_ready.specs.declared.patches.Patch.{Patch}
use Rattle.sched_ready.specs.declared.queues.Queue.{Queue}
use Rattle.sched_ready.proofs.LeadLemmas.{get_last, get_set_other, get_set_same}
use Rattle.sched_ready.proofs.PatchingLemmas.{once_last, others_first}

-- ---- the places before one
pub record ArePatchedTo (n now : ℕ) (g : Dag) (s : ShelfValue) (before : Option Run) (r : Run) (old new : List (Option Queue)) : Type 0 where
  pub long : length new ≡ length old
  pub each : (p : ℕ) (t : TaskSpec) (q : Queue) (o m : Option Queue) → p < n → slice_get g.tasks p ≡ Some t → slice_get s.queues p ≡ Some q → slice_get old p ≡ Some o → slice_get new p ≡ Some m
      → IsPlacePatched now q (due_before before t p) (due_at r t p) r.logical o m
  pub rest : (p : ℕ) → n ≤ p → slice_get new p ≡ slice_get old p

pub patched_more : (n now : ℕ) (g : Dag) (s : ShelfValue) (before : Option Run) (r : Run) (old mid : List (Option Queue)) (x y : Option Queue) (t : TaskSpec) (q : Queue) → n < length mid → slice_get g.tasks n ≡ Some t → slice_get s.queues n ≡ Some q → slice_get mid n ≡ Some x
    → IsPlacePatched now q (due_before before t n) (due_at r t n) r.logical x y → ArePatchedTo n now g s before r old mid → ArePatchedTo (n + 1) now g s before r old (slice_set mid n y)
patched_more n now g s before r old mid x y t q within task queue slot made h = record {
  long = length-set mid n y ∙ h.long;
  each = λ p u w o m l a b c d. by_bool {C = IsPlacePatched now w (due_before before u p) (due_at r u p) r.logical o m} (nat_eq p n)
      (λ e.
      let i : p ≡ n = eqb-true p n e in
      let is_task : t ≡ u = same_Some t u (sym task ∙ (ap (slice_get g.tasks) (sym i) ∙ a)) in
      let is_queue : q ≡ w = same_Some q w (sym queue ∙ (ap (slice_get s.queues) (sym i) ∙ b)) in
      let is_old : x ≡ o = same_Some x o (sym slot ∙ (h.rest n (omega arith) ∙ (ap (slice_get old) (sym i) ∙ c))) in
      let is_new : y ≡ m = same_Some y m (sym (get_set_same mid n y within) ∙ (ap (slice_get (slice_set mid n y)) (sym i) ∙ d)) in
      subst (λ k. IsPlacePatched now w (due_before before u k) (due_at r u k) r.logical o m) (sym i)
      (subst (λ (v : TaskSpec). IsPlacePatched now w (due_before before v n) (due_at r v n) r.logical o m) is_task
      (subst (λ (v : Queue). IsPlacePatched now v (due_before before t n) (due_at r t n) r.logical o m) is_queue
      (subst (λ (v : Option Queue). IsPlacePatched now q (due_before before t n) (due_at r t n) r.logical v m) is_old
      (subst (λ (v : Option Queue). IsPlacePatched now q (due_before before t n) (due_at r t n) r.logical x v) is_new made)))))
      (λ e.
      let apart : p ≢ n = λ i. true≢false (sym (eq-eqb p n i) ∙ e) in
      h.each p u w o m (below p n l apart) a b c (sym (get_set_other mid n p y apart) ∙ d));
  rest = λ p l. get_set_other mid n p y (λ i. above p n l i) ∙ h.rest p (omega (arith, l));
}
  where
    below : (p m : ℕ) → p < m + 1 → p ≢ m → p < m
    below p m l apart = by_bool {C = p < m} (nat_lt p m) (λ e. ltb-true p m e) (λ e. let k = ltb-false p m e in absurd (apart (omega (arith, k, l))))

    above : (p m : ℕ) → m + 1 ≤ p → p ≡ m → ⊥
    above p m l i = omega (arith, l, i)

pub patched_all : (n now : ℕ) (g : Dag) (s : ShelfValue) (before : Option Run) (r : Run) (old new : List (Option Queue)) → ((p : ℕ) → p < length g.tasks → p < length s.queues → p < length new → p < n) → ArePatchedTo n now g s before r old new → ArePlacesPatched now g s before r old new
patched_all n now g s before r old new all h = record {
  long = h.long;
  each = λ p t q o m a b c d. h.each p t q o m (all p (slice_get_within g.tasks p t a) (slice_get_within s.queues p q b) (slice_get_within new p m d)) a b c d;
}

-- ---- where nothing is to change
pub none_put : (o : Option Queue) → is_some o ≡ false → o ≡ None
none_put None e = refl
none_put (Some q) e = absurd (true≢false e)

-- at the places before one
abbrev pub IsDueTo : ℕ → Dag → Option Run → Run → Type 0
IsDueTo n g before r = (p : ℕ) (t : TaskSpec) → p < n → slice_get g.tasks p ≡ Some t → due_before before t p ≡ due_at r t p

pub due_more : (n : ℕ) (g : Dag) (before : Option Run) (r : Run) (t : TaskSpec) → slice_get g.tasks n ≡ Some t → due_before before t n ≡ due_at r t n → IsDueTo n g before r → IsDueTo (n + 1) g before r
due_more n g before r t there same h p u l task = by_bool {C = due_before before u p ≡ due_at r u p} (nat_eq p n)
    (λ e.
    let i : p ≡ n = eqb-true p n e in
    let is : t ≡ u = same_Some t u (sym there ∙ (ap (slice_get g.tasks) (sym i) ∙ task)) in
    subst (λ k. due_before before u k ≡ due_at r u k) (sym i) (subst (λ (v : TaskSpec). due_before before v n ≡ due_at r v n) is same))
    (λ e. h p u (below l (λ i. true≢false (sym (eq-eqb p n i) ∙ e))) task)
  where
    below : p < n + 1 → p ≢ n → p < n
    below m apart = by_bool {C = p < n} (nat_lt p n) (λ e. ltb-true p n e) (λ e. let k = ltb-false p n e in absurd (apart (omega (arith, k, m))))

-- ---- moments that have come
pub record AreMovedTo (n now : ℕ) (old : List Queue) (new : List (Option Queue)) : Type 0 where
  pub long : length new ≡ n
  pub each : (p : ℕ) (q : Queue) (o : Option Queue) → slice_get old p ≡ Some q → slice_get new p ≡ Some o → IsMoved now q o

-- ---- the first patches
pub record AreFirstTo (n now : ℕ) (ss : List ShelfValue) (ps : List Patch) : Type 0 where
  pub below : (k : ℕ) (x : Patch) → slice_get ps k ≡ Some x → x.graph < n
  pub once : (k l : ℕ) (x y : Patch) → slice_get ps k ≡ Some x → slice_get ps l ≡ Some y → x.graph ≡ y.graph → k ≡ l
  pub each : (k : ℕ) (x : Patch) (s : ShelfValue) → slice_get ps k ≡ Some x → slice_get ss x.graph ≡ Some s → AreMoved now s.queues x.queues.items
  pub rest : (m : ℕ) (s : ShelfValue) → m < n → AreOfOthers m ps → slice_get ss m ≡ Some s → AreAhead now s.queues

at_or_below : (m n : ℕ) → m < n + 1 → (m < n) ⊎ (m ≡ n)
at_or_below m n l = by_bool {C = (m < n) ⊎ (m ≡ n)} (nat_lt m n) (λ e. inl (ltb-true m n e)) (λ e. let k = ltb-false m n e in inr (omega (arith, k, l)))

-- a graph in which no moment has come
pub first_over : (n now : ℕ) (ss : List ShelfValue) (ps : List Patch) (s : ShelfValue) → slice_get ss n ≡ Some s → AreAhead now s.queues → AreFirstTo n now ss ps → AreFirstTo (n + 1) now ss ps
first_over n now ss ps s there ahead h = record {
  below = λ k x e. let l = h.below k x e in omega (arith, l);
  once = h.once;
  each = h.each;
  rest = λ m u l o e. elim (at_or_below m n l) as (λ _. AreAhead now u.queues) [
    | inl i ↦ h.rest m u i o e
    | inr i ↦ subst (λ (v : ShelfValue). AreAhead now v.queues) (same_Some s u (sym there ∙ (ap (slice_get ss) (sym i) ∙ e))) ahead
  ];
}

-- a graph that has a patch
pub first_more : (n now : ℕ) (ss : List ShelfValue) (ps qs : List Patch) (x : Patch) (s : ShelfValue) → slice_get ss n ≡ Some s → x.graph ≡ n → AreMoved now s.queues x.queues.items → qs ≡ ps ++ x ∷ [] → AreFirstTo n now ss ps → AreFirstTo (n + 1) now ss qs
first_more n now ss ps qs x s there own moved e h = subst (AreFirstTo (n + 1) now ss) (sym e) (record {
  below = λ k y f. elim (get_last ps x y k f) as (λ _. y.graph < n + 1) [
    | inl i ↦ (let l = h.below k y i in omega (arith, l))
    | inr i ↦ (let l = ap (λ (v : Patch). v.graph) i.1 in omega (arith, l, own))
  ];
  once = once_last ps x apart h.once;
  each = λ k y u f g. elim (get_last ps x y k f) as (λ _. AreMoved now u.queues y.queues.items) [
    | inl i ↦ h.each k y u i g
    | inr i ↦
        let at : y.graph ≡ n = ap (λ (v : Patch). v.graph) (sym i.1) ∙ own in
        let is : s ≡ u = same_Some s u (sym there ∙ (ap (slice_get ss) (sym at) ∙ g)) in
        subst (λ (v : Patch). AreMoved now u.queues v.queues.items) i.1 (subst (λ (v : ShelfValue). AreMoved now v.queues x.queues.items) is moved)
  ];
  rest = λ m u l o f. elim (at_or_below m n l) as (λ _. AreAhead now u.queues) [
    | inl i ↦ h.rest m u i (others_first m ps x o) f
    | inr i ↦ absurd (o (length ps) x (behind ps) (own ∙ sym i))
  ];
})
  where
    apart : AreOfOthers x.graph ps
    apart k y f g = let l = h.below k y f in omega (arith, l, g, own)

    behind : (ys : List Patch) → slice_get (ys ++ x ∷ []) (length ys) ≡ Some x
    behind [] = refl
    behind (y ∷ ys) = behind ys

pub first_all : (n now : ℕ) (ss : List ShelfValue) (ps : List Patch) → length ss ≤ n → AreFirstTo n now ss ps → AreFirstPatches now ss ps
first_all n now ss ps l h = record {
  once = h.once;
  each = h.each;
  rest = λ m s o e. let k = slice_get_within ss m s e in h.rest m s (omega (arith, k, l)) o e;
}
