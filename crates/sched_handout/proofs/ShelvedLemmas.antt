-- The choice among what stands on shelves, one graph after another.
use Rattle.std.proofs.Common.{◌≡◌, ◌∙◌, ◌⊎◌, inl, inr, refl, sym, ap, subst, ℕ, zero, suc, ◌+◌, ◌<◌, ◌≤◌, List, [], ◌∷◌, Bool, true, false, cond, ◌&&◌, ◌||◌, length, true≢false, Option, Some, None, IfSome, option_map, unwrap_or, slice_get, nat_lt, nat_eq, arith}
use Rattle.std.proofs.lemmas.Bool.{and_from, eq-eqb, lt-ltb, ltb-false, ltb-true}
use Rattle.std.proofs.lemmas.Cmp.{nat_list_cmp_total, tied_itself}
use Rattle.std.proofs.lemmas.Option.{none-some, same_Some, slice_get-get_or, slice_get_within}
use Rattle.std.specs.List.{list_all}
use Rattle.dag_check.specs.Graphs.{Dag}
use Rattle.sched_state.specs.Lists.{is_less, name_cmp, same}
use Rattle.sched_state.specs.declared.graphs.LoadedGraph.{LoadedGraph}
use Rattle.sched_state.proofs.NameLemmas.{same_is, same_itself}
use Rattle.sched_state.proofs.OrderLemmas.{and_left, and_right}
use Rattle.sched_model.specs.Handout.{Offer}
use Rattle.sched_model.specs.Lists.{rises}
use Rattle.sched_model.specs.Schedule.{Schedule, graph_among, graph_before, is_paused, no_dag}
use Rattle.sched_model.specs.Sound.{IsSound}
use Rattle.sched_laws.specs.Offered.{IsEligible}
use Rattle.sched_laws.proofs.DecisionLemmas.{by_bool}
use Rattle.sched_laws.proofs.ListLemmas.{all_get}
use Rattle.sched_ready.specs.Held.{FitsShelf}
use Rattle.sched_ready.specs.Shelves.{HasKinds, IsLed, IsSoonest, ShelfValue}
use Rattle.sched_ready.specs.declared.leading.First.{First}
use Rattle.sched_handout.specs.Shelving.{IsBestOf, IsLoaded, is_ahead, is_first_behind, is_kind, is_kind_before, stands_at, stands_of, stands_of_first, stands_on, stands_on_first, stands_there}
use Rattle.sched_handout.specs.declared.shelving.Best.{Best}
use Rattle.sched_handout.proofs.KindLemmas.{behind_by, found_parts, join, led_there, less}
use Rattle.sched_handout.proofs.ShelfLemmas.{fewer, two_steps, widen_none}

-- ---- the graph at a position is that with its id
before_apart : (g h : LoadedGraph) → graph_before g h ≡ true → same g.dag.spec.dag_id h.dag.spec.dag_id ≡ false
before_apart g h b = by_bool {C = same g.dag.spec.dag_id h.dag.spec.dag_id ≡ false} (same g.dag.spec.dag_id h.dag.spec.dag_id)
    (λ s. absurd (true≢false (sym b ∙ (ap (λ i. is_less (name_cmp g.dag.spec.dag_id i)) (sym (same_is g.dag.spec.dag_id h.dag.spec.dag_id s)) ∙ ap is_less (tied_itself nat_list_cmp_total g.dag.spec.dag_id)))))
    (λ s. s)

found_at : (gs : List LoadedGraph) (i : ℕ) (g : LoadedGraph) → rises graph_before gs ≡ true → slice_get gs i ≡ Some g → graph_among gs g.dag.spec.dag_id ≡ Some g
found_at [] i g r e = absurd (none-some g e)
found_at (h ∷ gs) zero g r e =
    subst (λ (x : LoadedGraph). graph_among (h ∷ gs) x.dag.spec.dag_id ≡ Some x) (same_Some h g e)
    (ap (λ b. cond b (Some h) (graph_among gs h.dag.spec.dag_id)) (same_itself h.dag.spec.dag_id))
found_at (h ∷ gs) (suc i) g r e =
    ap (λ b. cond b (Some h) (graph_among gs g.dag.spec.dag_id)) (before_apart h g (all_get (graph_before h) gs i g (and_left _ _ r) e)) ∙ found_at gs i g (and_right (list_all (graph_before h) gs) _ r) e

pub loaded_at : (a : Schedule) (n : ℕ) (l : LoadedGraph) (g : Dag) (ws : List ℕ) (s : ShelfValue) → IsSound a → slice_get a.graphs n ≡ Some l → l.dag ≡ g → l.paused ≡ false → FitsShelf l.dag s → ws ≡ s.weights → IsLoaded a n g ws
loaded_at a n l g ws s sound there dag unpaused f weights =
    subst (λ d. IsLoaded a n d ws) dag (subst (λ us. IsLoaded a n l.dag us) (sym weights) (record {
      at = record {
        loaded = record { loaded = l; there = there; named = same_itself l.dag.spec.dag_id };
        bound = ap (λ (o : Option LoadedGraph). unwrap_or (option_map (λ (x : LoadedGraph). x.max_active_tasks) o) 0) found;
      };
      dag = sym (ap (λ (o : Option LoadedGraph). unwrap_or (option_map (λ (x : LoadedGraph). x.dag) o) no_dag) found);
      unpaused = ap (λ (o : Option LoadedGraph). unwrap_or (option_map (λ (x : LoadedGraph). x.paused) o) false) found ∙ unpaused;
      weights = f.weights;
    }))
  where
    found : graph_among a.graphs l.dag.spec.dag_id ≡ Some l
    found = found_at a.graphs n l sound.graphs_by_id there

-- what is read of the graph at a position
pub dag_read : (o : Option LoadedGraph) (l : LoadedGraph) (g : Dag) → o ≡ Some l → option_map (λ (x : LoadedGraph). x.dag) o ≡ Some g → l.dag ≡ g
dag_read o l g e f = same_Some l.dag g (sym (ap (option_map (λ (x : LoadedGraph). x.dag)) e) ∙ f)

pub pause_read : (o : Option LoadedGraph) (l : LoadedGraph) (b p : Bool) → o ≡ Some l → option_map (λ (x : LoadedGraph). x.paused) o ≡ Some p → p ≡ b → l.paused ≡ b
pause_read o l b p e f i = same_Some l.paused p (sym (ap (option_map (λ (x : LoadedGraph). x.paused)) e) ∙ f) ∙ i

-- ---- a paused graph offers nothing
pub paused_none : (P : Offer → Bool) (a : Schedule) (n : ℕ) (l : LoadedGraph) (s : ShelfValue) (best : Option Best) → IsSound a → slice_get a.graphs n ≡ Some l → l.paused ≡ true → IsBestOf P a best
    → IsBestOf (λ x. P x || stands_at a.now (slice_get a.graphs n) (Some s) x) a best
paused_none P a n l s best sound there paused h =
    subst (λ o. IsBestOf (λ x. P x || stands_at a.now o (Some s) x) a best) (sym there)
    (widen_none P (stands_on a.now l.dag.spec.dag_id s) a best (λ x e. by_bool {C = stands_on a.now l.dag.spec.dag_id s x ≡ false} (stands_on a.now l.dag.spec.dag_id s x)
    (λ on.
    let w = found_parts a.now l.dag.spec.dag_id s x on in
    let graph : e.run.graph ≡ l.dag.spec.dag_id = sym (ap (λ (o : Offer). o.graph) e.offer_is) ∙ w.graph in
    let found : graph_among a.graphs l.dag.spec.dag_id ≡ Some l = found_at a.graphs n l sound.graphs_by_id there in
    let is : is_paused a l.dag.spec.dag_id ≡ true = ap (λ (o : Option LoadedGraph). unwrap_or (option_map (λ (y : LoadedGraph). y.paused) o) false) found ∙ paused in
    absurd (true≢false (sym is ∙ (ap (is_paused a) (sym graph) ∙ e.unpaused))))
    (λ off. off)) h)

-- what was chosen ranks before all that stands on the shelf
pub shelf_behind : (P : Offer → Bool) (a : Schedule) (n : ℕ) (l : LoadedGraph) (s : ShelfValue) (first : Option First) (soonest : Option ℕ) (best : Option Best) → IsSound a → slice_get a.graphs n ≡ Some l → FitsShelf l.dag s → IsLed s first → IsSoonest s soonest
    → is_first_behind first n best ≡ true → is_ahead a.now soonest ≡ true → IsBestOf P a best → IsBestOf (λ x. P x || stands_at a.now (slice_get a.graphs n) (Some s) x) a best
shelf_behind P a n l s first soonest best sound there fit led soon behind ahead h =
    subst (λ o. IsBestOf (λ x. P x || stands_at a.now o (Some s) x) a best) (sym there)
    (behind_by P (stands_on a.now l.dag.spec.dag_id s) a n l first best sound there
    (λ x e on. led_there a n l.dag s soonest first x (loaded x e on) soon ahead e on (λ q w c i. led x.place x.weight x.logical q w c i)) behind h)
  where
    -- what is offered is of a graph that is not paused
    loaded : (x : Offer) → IsEligible a x → stands_on a.now l.dag.spec.dag_id s x ≡ true → IsLoaded a n l.dag s.weights
    loaded x e on =
        let w = found_parts a.now l.dag.spec.dag_id s x on in
        let graph : e.run.graph ≡ l.dag.spec.dag_id = sym (ap (λ (o : Offer). o.graph) e.offer_is) ∙ w.graph in
        let found : graph_among a.graphs l.dag.spec.dag_id ≡ Some l = found_at a.graphs n l sound.graphs_by_id there in
        let is : is_paused a l.dag.spec.dag_id ≡ l.paused = ap (λ (o : Option LoadedGraph). unwrap_or (option_map (λ (y : LoadedGraph). y.paused) o) false) found in
        loaded_at a n l l.dag s.weights s sound there refl (sym is ∙ (ap (is_paused a) (sym graph) ∙ e.unpaused)) fit refl

-- ---- kinds of a shelf
pub kinds_first : (P : Offer → Bool) (a : Schedule) (id : List ℕ) (s : ShelfValue) (best : Option Best) → IsBestOf P a best → IsBestOf (λ x. P x || stands_of_first a.now id s 0 x) a best
kinds_first P a id s best h = fewer P (λ x. P x || stands_of_first a.now id s 0 x) a best (λ x e on. by_bool {C = P x ≡ true} (P x) (λ i. i) (λ i. absurd (none (slice_get s.kinds x.place) (and_left _ _ (sym (ap (λ q. q || stands_of_first a.now id s 0 x) i) ∙ on))))) h
  where
    none : (o : Option ℕ) → is_kind_before 0 o ≡ true → ⊥
    none None i = true≢false (sym i)
    none (Some k) i = let l = ltb-true k 0 i in omega (arith, l)

pub kind_chosen : (P : Offer → Bool) (a : Schedule) (id : List ℕ) (s : ShelfValue) (kind : ℕ) (best : Option Best) → IsBestOf (λ x. (P x || stands_of_first a.now id s kind x) || stands_of a.now id s kind x) a best
    → IsBestOf (λ x. P x || stands_of_first a.now id s (kind + 1) x) a best
kind_chosen P a id s kind best h = join P (stands_of_first a.now id s kind) (stands_of a.now id s kind) (stands_of_first a.now id s (kind + 1)) a best
    (λ x e on. by (slice_get s.kinds x.place) (stands_on a.now id s x) on) h
  where
    by : (o : Option ℕ) (b : Bool) → (is_kind_before (kind + 1) o && b) ≡ true → ((is_kind_before kind o && b) ≡ true) ⊎ ((is_kind kind o && b) ≡ true)
    by None b on = absurd (true≢false (sym on))
    by (Some k) b on = by_bool {C = ((nat_lt k kind && b) ≡ true) ⊎ ((nat_eq k kind && b) ≡ true)} (nat_lt k kind)
        (λ t. inl (and_from (nat_lt k kind) b t (and_right (nat_lt k (kind + 1)) b on)))
        (λ t. let low = ltb-true k (kind + 1) (and_left _ _ on) in let high = ltb-false k kind t in inr (and_from (nat_eq k kind) b (eq-eqb k kind (omega (arith, low, high))) (and_right (nat_lt k (kind + 1)) b on)))

pub kinds_over : (P : Offer → Bool) (a : Schedule) (n : ℕ) (l : LoadedGraph) (g : Dag) (s : ShelfValue) (kind : ℕ) (best : Option Best) → HasKinds s → length s.samples ≤ kind → slice_get a.graphs n ≡ Some l → l.dag ≡ g
    → IsBestOf (λ x. P x || stands_of_first a.now g.spec.dag_id s kind x) a best → IsBestOf (λ x. P x || stands_at a.now (slice_get a.graphs n) (Some s) x) a best
kinds_over P a n l g s kind best k more there dag h =
    subst (λ o. IsBestOf (λ x. P x || stands_at a.now o (Some s) x) a best) (sym there)
    (less P (stands_of_first a.now l.dag.spec.dag_id s kind) (stands_on a.now l.dag.spec.dag_id s) a best
    (λ x e on.
    let w = found_parts a.now l.dag.spec.dag_id s x on in
    let within = slice_get_within s.queues x.place w.queue w.queue_is in
    let there = slice_get-get_or s.kinds x.place 0 (omega (arith, within, k.kinds)) in
    let low = k.each x.place _ there in
    and_from (is_kind_before kind (slice_get s.kinds x.place)) _ (ap (is_kind_before kind) there ∙ lt-ltb _ kind (omega (arith, low, more))) on)
    (subst (λ (d : Dag). IsBestOf (λ x. P x || stands_of_first a.now d.spec.dag_id s kind x) a best) (sym dag) h))

-- ---- shelves
-- a position that is there
pub inside : (ss : List ShelfValue) (o : Option ℕ) (n : ℕ) → o ≡ Some n → IfSome o (λ k. k < length ss) → n < length ss
inside ss o n e h = subst (λ (p : Option ℕ). IfSome p (λ k. k < length ss)) e h

-- the shelf of the graph at the position is looked at
pub shelf_there : (a : Schedule) (ss : List ShelfValue) (n : ℕ) (s : ShelfValue) (best : Option Best) → slice_get ss n ≡ Some s
    → IsBestOf (λ x. false || stands_at a.now (slice_get a.graphs n) (Some s) x) a best → IsBestOf (stands_there a.now a.graphs ss (Some n)) a best
shelf_there a ss n s best there h = subst (λ o. IsBestOf (λ x. stands_at a.now (slice_get a.graphs n) o x) a best) (sym there) h

or_none : (b : Bool) → (b || false) ≡ true → b ≡ true
or_none true i = refl
or_none false i = i

pub shelves_first : (P : Offer → Bool) (a : Schedule) (ss : List ShelfValue) (best : Option Best) → IsBestOf P a best → IsBestOf (λ x. P x || stands_on_first a.now a.graphs ss 0 x) a best
shelves_first P a ss best h = fewer P (λ x. P x || stands_on_first a.now a.graphs ss 0 x) a best (λ x e on. or_none (P x) on) h

pub shelf_chosen : (P : Offer → Bool) (a : Schedule) (ss : List ShelfValue) (n : ℕ) (s : ShelfValue) (best : Option Best) → slice_get ss n ≡ Some s
    → IsBestOf (λ x. (P x || stands_on_first a.now a.graphs ss n x) || stands_at a.now (slice_get a.graphs n) (Some s) x) a best → IsBestOf (λ x. P x || stands_on_first a.now a.graphs ss (n + 1) x) a best
shelf_chosen P a ss n s best there h =
    subst (λ k. IsBestOf (λ x. P x || stands_on_first a.now a.graphs ss k x) a best) one
    (two_steps P (stands_on_first a.now a.graphs ss n) (stands_at a.now (slice_get a.graphs n) (slice_get ss n)) a best
    (subst (λ o. IsBestOf (λ x. (P x || stands_on_first a.now a.graphs ss n x) || stands_at a.now (slice_get a.graphs n) o x) a best) (sym there) h))
  where
    one : suc n ≡ n + 1
    one = omega arith

-- one that was looked at is passed over
pub shelf_passed : (a : Schedule) (ss : List ShelfValue) (seen : Option ℕ) (n : ℕ) (best : Option Best) → seen ≡ Some n → IsBestOf (λ x. stands_there a.now a.graphs ss seen x || stands_on_first a.now a.graphs ss n x) a best
    → IsBestOf (λ x. stands_there a.now a.graphs ss seen x || stands_on_first a.now a.graphs ss (n + 1) x) a best
shelf_passed a ss seen n best is h =
    subst (λ k. IsBestOf (λ x. stands_there a.now a.graphs ss seen x || stands_on_first a.now a.graphs ss k x) a best) one
    (subst (λ o. IsBestOf (λ x. stands_there a.now a.graphs ss o x || stands_on_first a.now a.graphs ss (suc n) x) a best) (sym is)
    (fewer (λ x. stands_there a.now a.graphs ss (Some n) x || stands_on_first a.now a.graphs ss n x) (λ x. stands_there a.now a.graphs ss (Some n) x || stands_on_first a.now a.graphs ss (suc n) x) a best
    (λ x e on. twice (stands_there a.now a.graphs ss (Some n) x) (stands_on_first a.now a.graphs ss n x) on)
    (subst (λ o. IsBestOf (λ x. stands_there a.now a.graphs ss o x || stands_on_first a.now a.graphs ss n x) a best) is h)))
  where
    one : suc n ≡ n + 1
    one = omega arith

    twice : (p q : Bool) → (p || (q || p)) ≡ true → (p || q) ≡ true
    twice true q i = refl
    twice false q i = or_none q i

pub shelves_over : (P : Offer → Bool) (a : Schedule) (ss : List ShelfValue) (best : Option Best) → IsBestOf (λ x. P x || stands_on_first a.now a.graphs ss (length ss) x) a best → IsBestOf (stands_on_first a.now a.graphs ss (length ss)) a best
shelves_over P a ss best h = fewer (λ x. P x || stands_on_first a.now a.graphs ss (length ss) x) (stands_on_first a.now a.graphs ss (length ss)) a best (λ x e on. either (P x) _ on) h
  where
    either : (p q : Bool) → q ≡ true → (p || q) ≡ true
    either true q i = refl
    either false q i = i
