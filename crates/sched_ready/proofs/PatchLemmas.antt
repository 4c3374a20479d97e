-- Shelves with patches hold what is due in the schedule for which these were made.
use Rattle.std.proofs.Common.{◌≡◌, ◌∙◌, ◌⊎◌, inl, inr, refl, sym, ap, subst, ℕ, zero, suc, ◌<◌, List, [], ◌∷◌, Bool, true, false, cond, ◌&&◌, ◌||◌, length, true≢false, Option, Some, None, option_map, slice_get, nat_le, nat_eq, arith}
use Rattle.std.proofs.lemmas.Bool.{eqb-true, eq-eqb}
use Rattle.std.proofs.lemmas.Option.{none-some, same_Some, slice_get_within}
use Rattle.graph_file.specs.declared.task_specs.TaskSpec.{TaskSpec}
use Rattle.dag_check.specs.Graphs.{Dag}
use Rattle.dag_check.specs.Orders.{is_in}
use Rattle.sched_model.specs.Lists.{at}
use Rattle.sched_model.specs.Schedule.{Schedule}
use Rattle.sched_model.specs.sched_state.Lists.{same}
use Rattle.sched_model.specs.sched_state.declared.graphs.LoadedGraph.{LoadedGraph}
use Rattle.sched_model.proofs.sched_state.ElementLemmas.{element_at}
use Rattle.sched_model.proofs.sched_state.NameLemmas.{same_is}
use Rattle.sched_model.proofs.sched_state.OrderLemmas.{and_left, and_right}
use Rattle.sched_laws.proofs.DecisionLemmas.{by_bool}
use Rattle.sched_laws.proofs.LookLemmas.{get_at, get_apart}
use Rattle.sched_ready.specs.Due.{is_kept, waits_for}
use Rattle.sched_ready.specs.Held.{AreShelvesOf, FitsShelf, HoldsPlace, IsLater}
use Rattle.sched_ready.specs.Patched.{ArePatches, is_patched, is_put, patched, put_queues, with_queues}
use Rattle.sched_ready.specs.Shelves.{ShelfValue}
use Rattle.sched_ready.specs.declared.patches.Patch.{Patch}
use Rattle.sched_ready.specs.declared.queues.Queue.{Queue}

-- ---- what a patch leaves
put_long : (os : List (Option Queue)) (qs : List Queue) → length (put_queues os qs) ≡ length qs
put_long [] qs = refl
put_long (o ∷ os) [] = refl
put_long (o ∷ os) (q ∷ qs) = ap suc (put_long os qs)

-- the queue at a place is one that is put there, or the one that was there
pub put_get : (os : List (Option Queue)) (qs : List Queue) (p : ℕ) (q : Queue) → slice_get (put_queues os qs) p ≡ Some q → (slice_get os p ≡ Some (Some q)) ⊎ ((is_put (slice_get os p) ≡ false) × (slice_get qs p ≡ Some q))
put_get [] qs p q e = inr (refl, e)
put_get (o ∷ os) [] p q e = absurd (none-some q e)
put_get (o ∷ os) (r ∷ qs) (suc p) q e = put_get os qs p q e
put_get (None ∷ os) (r ∷ qs) zero q e = inr (refl, e)
put_get (Some n ∷ os) (r ∷ qs) zero q e = inl (ap (λ (x : Queue). Some (let o : Option Queue = Some x in o)) (same_Some n q e))

length_at : {X : Type 0} (f : X → X) (n : ℕ) (xs : List X) → length (at f n xs) ≡ length xs
length_at f n [] = refl
length_at f zero (x ∷ xs) = refl
length_at f (suc n) (x ∷ xs) = ap suc (length_at f n xs)

pub patched_long : (ps : List Patch) (ss : List ShelfValue) → length (patched ps ss) ≡ length ss
patched_long [] ss = refl
patched_long (x ∷ ps) ss = patched_long ps (at (with_queues x.queues.items) x.graph ss) ∙ length_at (with_queues x.queues.items) x.graph ss

-- the shelf is as the other but for its queues
record IsLike (s u : ShelfValue) : Type 0 where
  weights : u.weights ≡ s.weights
  kinds : u.kinds ≡ s.kinds
  samples : u.samples ≡ s.samples
  long : length u.queues ≡ length s.queues

-- a shelf after one patch, and what it was
record WasLike (ss : List ShelfValue) (n : ℕ) (u : ShelfValue) : Type 0 where
  shelf : ShelfValue
  there : slice_get ss n ≡ Some shelf
  like : IsLike shelf u

was_one : (x : Patch) (ss : List ShelfValue) (n : ℕ) (u : ShelfValue) → slice_get (at (with_queues x.queues.items) x.graph ss) n ≡ Some u → WasLike ss n u
was_one x ss n u e = by_bool {C = WasLike ss n u} (nat_eq n x.graph)
    (λ s.
    let i : n ≡ x.graph = eqb-true n x.graph s in
    let f : option_map (with_queues x.queues.items) (slice_get ss n) ≡ Some u =
    ap (λ k. option_map (with_queues x.queues.items) (slice_get ss k)) i ∙ (sym (get_at (with_queues x.queues.items) x.graph ss) ∙ (ap (slice_get (at (with_queues x.queues.items) x.graph ss)) (sym i) ∙ e)) in
    by (slice_get ss n) refl f)
    (λ s. record { shelf = u; there = sym (get_apart (with_queues x.queues.items) x.graph n ss s) ∙ e; like = record { weights = refl; kinds = refl; samples = refl; long = refl } })
  where
    by : (o : Option ShelfValue) → slice_get ss n ≡ o → option_map (with_queues x.queues.items) o ≡ Some u → WasLike ss n u
    by None g f = absurd (let c : ◌≡◌ {A = Option ShelfValue} None (Some u) = f in cc)
    by (Some s) g f =
        let i : with_queues x.queues.items s ≡ u = same_Some (with_queues x.queues.items s) u f in
        record {
          shelf = s;
          there = g;
          like = subst (IsLike s) i (record { weights = refl; kinds = refl; samples = refl; long = put_long x.queues.items s.queues });
        }

was_like : (ps : List Patch) (ss : List ShelfValue) (n : ℕ) (u : ShelfValue) → slice_get (patched ps ss) n ≡ Some u → WasLike ss n u
was_like [] ss n u e = record { shelf = u; there = e; like = record { weights = refl; kinds = refl; samples = refl; long = refl } }
was_like (x ∷ ps) ss n u e =
    let later = was_like ps (at (with_queues x.queues.items) x.graph ss) n u e in
    let one = was_one x ss n later.shelf later.there in
    record {
      shelf = one.shelf;
      there = one.there;
      like = record {
        weights = later.like.weights ∙ one.like.weights;
        kinds = later.like.kinds ∙ one.like.kinds;
        samples = later.like.samples ∙ one.like.samples;
        long = later.like.long ∙ one.like.long;
      };
    }

fits_like : (g : Dag) (s u : ShelfValue) → IsLike s u → FitsShelf g s → FitsShelf g u
fits_like g s u l f = record {
  weights = rw l.weights f.weights;
  long = l.long ∙ f.long;
  kinds = λ p t e. let k = f.kinds p t e in record {
    kind = k.kind;
    place = k.place;
    sample = k.sample;
    kind_is = ap (λ ks. slice_get ks p) l.kinds ∙ k.kind_is;
    place_is = ap (λ ks. slice_get ks k.kind) l.samples ∙ k.place_is;
    sample_is = k.sample_is;
    pool = k.pool;
    slots = k.slots;
  };
  samples = λ k p e. f.samples k p (ap (λ ks. slice_get ks k) (sym l.samples) ∙ e);
}

-- ---- where the queue at a place comes from
-- from a patch
record IsPut (ps : List Patch) (n p : ℕ) (q : Queue) : Type 0 where
  index : ℕ
  patch : Patch
  there : slice_get ps index ≡ Some patch
  graph : patch.graph ≡ n
  queue : slice_get patch.queues.items p ≡ Some (Some q)

-- or it was there
record IsLeft (ps : List Patch) (ss : List ShelfValue) (n p : ℕ) (q : Queue) : Type 0 where
  shelf : ShelfValue
  unpatched : is_patched n p ps ≡ false
  there : slice_get ss n ≡ Some shelf
  queue : slice_get shelf.queues p ≡ Some q

both_false : (b c : Bool) → c ≡ false → ((b && c) || false) ≡ false
both_false true c e = ap (λ d. d || false) e
both_false false c e = refl

-- after one patch
from_one : (x : Patch) (ss : List ShelfValue) (n p : ℕ) (u : ShelfValue) (q : Queue) → slice_get (at (with_queues x.queues.items) x.graph ss) n ≡ Some u → slice_get u.queues p ≡ Some q
    → ((x.graph ≡ n) × (slice_get x.queues.items p ≡ Some (Some q))) ⊎ IsLeft (x ∷ []) ss n p q
from_one x ss n p u q e f = by_bool {C = ((x.graph ≡ n) × (slice_get x.queues.items p ≡ Some (Some q))) ⊎ IsLeft (x ∷ []) ss n p q} (nat_eq n x.graph)
    (λ s.
    let i : n ≡ x.graph = eqb-true n x.graph s in
    let g : option_map (with_queues x.queues.items) (slice_get ss n) ≡ Some u =
    ap (λ k. option_map (with_queues x.queues.items) (slice_get ss k)) i ∙ (sym (get_at (with_queues x.queues.items) x.graph ss) ∙ (ap (slice_get (at (with_queues x.queues.items) x.graph ss)) (sym i) ∙ e)) in
    by i (slice_get ss n) refl g)
    (λ s. inr (record { shelf = u; unpatched = apart_graph s; there = sym (get_apart (with_queues x.queues.items) x.graph n ss s) ∙ e; queue = f }))
  where
    apart_graph : nat_eq n x.graph ≡ false → is_patched n p (x ∷ []) ≡ false
    apart_graph s = by_bool {C = ((nat_eq x.graph n && is_put (slice_get x.queues.items p)) || false) ≡ false} (nat_eq x.graph n)
        (λ t. absurd (true≢false (sym (eq-eqb n x.graph (sym (eqb-true x.graph n t))) ∙ s)))
        (λ t. ap (λ b. (b && is_put (slice_get x.queues.items p)) || false) t)

    none_put : is_put (slice_get x.queues.items p) ≡ false → is_patched n p (x ∷ []) ≡ false
    none_put t = both_false (nat_eq x.graph n) (is_put (slice_get x.queues.items p)) t

    by : n ≡ x.graph → (o : Option ShelfValue) → slice_get ss n ≡ o → option_map (with_queues x.queues.items) o ≡ Some u → ((x.graph ≡ n) × (slice_get x.queues.items p ≡ Some (Some q))) ⊎ IsLeft (x ∷ []) ss n p q
    by i None g h = absurd (let c : ◌≡◌ {A = Option ShelfValue} None (Some u) = h in cc)
    by i (Some s) g h =
        let k : with_queues x.queues.items s ≡ u = same_Some (with_queues x.queues.items s) u h in
        let at_place : slice_get (put_queues x.queues.items s.queues) p ≡ Some q = ap (λ (v : ShelfValue). slice_get v.queues p) k ∙ f in
        elim (put_get x.queues.items s.queues p q at_place) [
          | inl t ↦ inl (sym i, t)
          | inr t ↦ inr (record { shelf = s; unpatched = none_put t.0; there = g; queue = t.1 })
        ]

first_or : (b c : Bool) → (b || false) ≡ false → c ≡ false → (b || c) ≡ false
first_or true c h k = absurd (true≢false h)
first_or false c h k = k

queue_from : (ps : List Patch) (ss : List ShelfValue) (n p : ℕ) (u : ShelfValue) (q : Queue) → slice_get (patched ps ss) n ≡ Some u → slice_get u.queues p ≡ Some q → IsPut ps n p q ⊎ IsLeft ps ss n p q
queue_from [] ss n p u q e f = inr (record { shelf = u; unpatched = refl; there = e; queue = f })
queue_from (x ∷ ps) ss n p u q e f = elim (queue_from ps (at (with_queues x.queues.items) x.graph ss) n p u q e f) [
  | inl h ↦ inl (record { index = suc h.index; patch = h.patch; there = h.there; graph = h.graph; queue = h.queue })
  | inr h ↦ elim (from_one x ss n p h.shelf q h.there h.queue) [
    | inl k ↦ inl (record { index = 0; patch = x; there = refl; graph = k.0; queue = k.1 })
    | inr k ↦ inr (record { shelf = k.shelf; unpatched = first_or _ _ k.unpatched h.unpatched; there = k.there; queue = k.queue })
  ]
]

-- ---- the law
-- what was due on the same side of the clock is kept by the same queue
still_kept : (now later : ℕ) (q : Queue) (date m : ℕ) → nat_le m now ≡ nat_le m later → is_kept now q date m ≡ true → is_kept later q date m ≡ true
still_kept now later q date m e h = ap (λ b. cond b (is_in q.ready.keys date) (waits_for q m date)) (sym e) ∙ h

pub patched_shelves : (a b : Schedule) (ps : List Patch) (ss : List ShelfValue) → AreShelvesOf a.now a.graphs a.runs ss → ArePatches a b ps → IsLater a b → AreShelvesOf b.now a.graphs b.runs (patched ps ss)
patched_shelves a b ps ss h made later = record {
  fit = record {
    long = patched_long ps ss ∙ h.fit.long;
    fits = λ n g u graph shelf. let was = was_like ps ss n u shelf in fits_like g.dag was.shelf u was.like (h.fit.fits n g was.shelf graph was.there);
  };
  held = held;
}
  where
    held : (n p : ℕ) (g : LoadedGraph) (u : ShelfValue) (t : TaskSpec) (q : Queue) → slice_get a.graphs n ≡ Some g → slice_get (patched ps ss) n ≡ Some u → slice_get g.dag.tasks p ≡ Some t → slice_get u.queues p ≡ Some q
        → HoldsPlace b.now b.runs g.dag.spec.dag_id t p q
    held n p g u t q graph shelf task queue j m r run_is of_graph due =
        let within : n < length a.graphs = slice_get_within a.graphs n g graph in
        let k = element_at b.graphs n (omega (arith, within, later.long)) in
        let dag : k.0.dag ≡ g.dag = later.graphs n g k.0 graph k.1 in
        let task_there : slice_get k.0.dag.tasks p ≡ Some t = ap (λ (d : Dag). slice_get d.tasks p) dag ∙ task in
        let named : same r.graph k.0.dag.spec.dag_id ≡ true = ap (λ (d : Dag). same r.graph d.spec.dag_id) dag ∙ of_graph in
        elim (queue_from ps ss n p u q shelf queue) as (λ _. is_kept b.now q r.logical m ≡ true) [
          | inl w ↦
              let graph_there : slice_get b.graphs w.patch.graph ≡ Some k.0 = ap (slice_get b.graphs) w.graph ∙ k.1 in
              made.each w.index p w.patch k.0 t q w.there graph_there task_there w.queue j m r run_is named due
          | inr w ↦
              let was = made.others n p j m k.0 t r k.1 task_there w.unpatched run_is named due in
              let of_it : r.graph ≡ g.dag.spec.dag_id = same_is r.graph g.dag.spec.dag_id of_graph in
              let its : same was.0.run.graph g.dag.spec.dag_id ≡ true = ap (same was.0.run.graph) (sym of_it) ∙ and_left _ _ was.0.key in
              let date : was.0.run.logical ≡ r.logical = eqb-true was.0.run.logical r.logical (and_right (same was.0.run.graph r.graph) _ was.0.key) in
              let kept : is_kept a.now q was.0.run.logical m ≡ true = h.held n p g w.shelf t q graph w.there task w.queue was.0.position m was.0.run was.0.run_is its was.0.due in
              still_kept a.now b.now q r.logical m was.1 (ap (λ d. is_kept a.now q d m) (sym date) ∙ kept)
        ]
