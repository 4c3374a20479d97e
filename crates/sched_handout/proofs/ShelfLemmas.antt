-- The choice among what stands on shelves, one place after another.
use Rattle.std.proofs.Common.{◌≡◌, ◌≢◌, ◌∙◌, ◌⊎◌, inl, inr, refl, sym, ap, subst, ℕ, zero, suc, ◌+◌, ◌<◌, ◌≤◌, List, [], ◌∷◌, Bool, true, false, ◌&&◌, ◌||◌, length, take, true≢false, Option, Some, None, option_map, slice_get, nat_le, nat_lt, nat_eq, arith}
use Rattle.std.proofs.lemmas.Bool.{and_from, eqb-true, eq-eqb, false_from_ne_true, leb-true}
use Rattle.std.proofs.lemmas.Bool.Decides.{nat_tests}
use Rattle.std.proofs.lemmas.Map.Keys.{any_passes_from_place}
use Rattle.std.proofs.lemmas.Option.{get_or_from_slice_get, none-some, same_Some, slice_get-get_or, slice_get_within}
use Rattle.std.specs.List.{AllByRecursion, list_any}
use Rattle.std.specs.List.Sorted.{IsStrictlySortedBy}
use Rattle.std.specs.Ordering.{nat_cmp, ordering_then}
use Rattle.std.specs.declared.cmp.Ordering.TheVariants.{Less, Equal, Greater}
use Rattle.graph_file.specs.Lists.{when}
use Rattle.graph_file.specs.declared.task_specs.TaskSpec.{TaskSpec}
use Rattle.dag_check.specs.Graphs.{Dag, no_task, task_of}
use Rattle.dag_check.specs.Orders.{is_in}
use Rattle.instance_machine.specs.Instances.{InstanceValue}
use Rattle.pool_book.specs.Ranks.{RankParts, rank_cmp}
use Rattle.priority_weights.specs.Weights.{effective_weight}
use Rattle.sched_state.specs.Lists.{is_less, name_cmp, same}
use Rattle.sched_state.specs.declared.graphs.LoadedGraph.{LoadedGraph}
use Rattle.sched_state.specs.declared.runs.Run.{Run}
use Rattle.sched_state.proofs.NameLemmas.{same_is, same_itself}
use Rattle.sched_state.proofs.OrderLemmas.{and_left, and_right}
use Rattle.sched_model.specs.Handout.{Offer, fits, is_ready, last_serial, rank_parts, ranks_before}
use Rattle.sched_model.specs.Schedule.{Schedule, bound_of, dag_named, is_at, is_paused, is_running, size_of, tasks_of}
use Rattle.sched_model.specs.States.{active_tries, in_flight, occupied}
use Rattle.sched_model.specs.Sound.{IsSound}
use Rattle.sched_draft.specs.run_lists.Orders.{IsRunAt}
use Rattle.sched_laws.specs.Offered.{IsEligible}
use Rattle.sched_laws.proofs.DecisionLemmas.{by_bool}
use Rattle.sched_laws.proofs.KeyLemmas.{date_once}
use Rattle.sched_laws.proofs.RankLemmas.{not_both, not_itself, not_less_through, rank_total}
use Rattle.sched_ready.proofs.LeadLemmas.{least_date, pair_cmp, pair_less}
use Rattle.sched_handout.specs.Choices.{offer_if_ready}
use Rattle.sched_handout.specs.Rooms.{HasRoom}
use Rattle.sched_handout.specs.Shelving.{IsBest, IsBestOf, IsBoundAt, IsFitting, IsLoaded, IsOfferOf, NoneAmong, fits_with, is_behind, stands_among, stands_waiting}
use Rattle.sched_handout.specs.declared.shelving.Best.{Best}

-- ---- dates
-- a date is one of those before a place, or not before the one there
pub date_cases : (keys : List ℕ) (at d e : ℕ) → IsStrictlySortedBy nat_cmp keys → slice_get keys at ≡ Some d → is_in keys e ≡ true → (is_in (take at keys) e ≡ true) ⊎ (d ≤ e)
unfolding IsStrictlySortedBy
date_cases [] at d e s h i = absurd (true≢false (sym i))
date_cases (k ∷ ks) zero d e s h i =
    let same : k ≡ d = same_Some k d h in
    by_bool {C = (is_in [] e ≡ true) ⊎ (d ≤ e)} (nat_eq k e)
    (λ f. let is : k ≡ e = eqb-true k e f in inr (omega arith))
    (λ f. let l = least_date k e ks s.0 (sym (ap (λ b. b || is_in ks e) f) ∙ i) in inr (omega arith))
date_cases (k ∷ ks) (suc at) d e s h i = by_bool {C = ((nat_eq k e || is_in (take at ks) e) ≡ true) ⊎ (d ≤ e)} (nat_eq k e)
    (λ f. inl (ap (λ b. b || is_in (take at ks) e) f))
    (λ f. elim (date_cases ks at d e s.1 h (sym (ap (λ b. b || is_in ks e) f) ∙ i)) [
      | inl l ↦ inl (ap (λ b. b || is_in (take at ks) e) f ∙ l)
      | inr l ↦ inr l
    ])

pub taken_next : (keys : List ℕ) (at d e : ℕ) → slice_get keys at ≡ Some d → is_in (take (at + 1) keys) e ≡ true → (is_in (take at keys) e ≡ true) ⊎ (is_in (d ∷ []) e ≡ true)
taken_next keys at d e h i = by keys at h (ap (λ n. is_in (take n keys) e) one ∙ i)
  where
    one : suc at ≡ at + 1
    one = omega arith

    by : (ks : List ℕ) (n : ℕ) → slice_get ks n ≡ Some d → is_in (take (suc n) ks) e ≡ true → (is_in (take n ks) e ≡ true) ⊎ (is_in (d ∷ []) e ≡ true)
    by [] n f j = absurd (none-some d f)
    by (k ∷ ks) zero f j = inr (ap (λ m. nat_eq m e || false) (sym (same_Some k d f)) ∙ j)
    by (k ∷ ks) (suc n) f j = by_bool {C = ((nat_eq k e || is_in (take n ks) e) ≡ true) ⊎ (is_in (d ∷ []) e ≡ true)} (nat_eq k e)
        (λ g. inl (ap (λ b. b || is_in (take n ks) e) g))
        (λ g. elim (by ks n f (sym (ap (λ b. b || is_in (take (suc n) ks) e) g) ∙ j)) [
          | inl l ↦ inl (ap (λ b. b || is_in (take n ks) e) g ∙ l)
          | inr l ↦ inr l
        ])

one_date : (d e : ℕ) → is_in (d ∷ []) e ≡ true → e ≡ d
one_date d e h = by_bool {C = e ≡ d} (nat_eq d e) (λ f. sym (eqb-true d e f)) (λ f. absurd (true≢false (sym h ∙ ap (λ b. b || false) f)))

-- ---- what stands at a place
record StandsAt (id : List ℕ) (p : ℕ) (dates : List ℕ) (x : Offer) : Type 0 where
  graph : x.graph ≡ id
  place : x.place ≡ p
  date : is_in dates x.logical ≡ true

stands_parts : (id : List ℕ) (p : ℕ) (dates : List ℕ) (x : Offer) → stands_among id p dates x ≡ true → StandsAt id p dates x
stands_parts id p dates x h =
    let rest = and_right (same x.graph id) _ h in
    record { graph = same_is x.graph id (and_left _ _ h); place = eqb-true x.place p (and_left _ _ rest); date = and_right (nat_eq x.place p) _ rest }

stands_from : (id : List ℕ) (p : ℕ) (dates : List ℕ) (x : Offer) → StandsAt id p dates x → stands_among id p dates x ≡ true
stands_from id p dates x h = and_from (same x.graph id) _ (ap (λ g. same g id) h.graph ∙ same_itself id) (and_from (nat_eq x.place p) _ (eq-eqb x.place p h.place) h.date)

-- other dates, at the same place
stands_other : (id : List ℕ) (p : ℕ) (dates others : List ℕ) (x : Offer) → stands_among id p dates x ≡ true → is_in others x.logical ≡ true → stands_among id p others x ≡ true
stands_other id p dates others x h i = let s = stands_parts id p dates x h in stands_from id p others x (record { graph = s.graph; place = s.place; date = i })

-- none before the place and none there: none before the next
pub none_next : (a : Schedule) (id : List ℕ) (p at d : ℕ) (keys : List ℕ) → slice_get keys at ≡ Some d → NoneAmong a id p (take at keys) → NoneAmong a id p (d ∷ []) → NoneAmong a id p (take (at + 1) keys)
none_next a id p at d keys e before here x el = false_from_ne_true (stands_among id p (take (at + 1) keys) x) (λ h.
    elim (taken_next keys at d x.logical e (stands_parts id p (take (at + 1) keys) x h).date) [
      | inl i ↦ true≢false (sym (stands_other id p (take (at + 1) keys) (take at keys) x h i) ∙ before x el)
      | inr i ↦ true≢false (sym (stands_other id p (take (at + 1) keys) (d ∷ []) x h i) ∙ here x el)
    ])

pub none_first : (a : Schedule) (id : List ℕ) (p : ℕ) → NoneAmong a id p []
none_first a id p x el = false_from_ne_true (stands_among id p [] x) (λ h. true≢false (sym (stands_parts id p [] x h).date))

-- what an offer at the place ranks by and fits by
pub record IsTaskOffer (a : Schedule) (g : Dag) (p : ℕ) (x : Offer) : Type 0 where
  pub weight : x.weight ≡ effective_weight g p
  pub graph : x.graph ≡ g.spec.dag_id
  pub task : x.task ≡ (task_of g p).task_id
  pub pool : x.pool ≡ (task_of g p).pool
  pub slots : x.slots ≡ (task_of g p).pool_slots
  pub bound : x.bound ≡ bound_of a g.spec.dag_id

task_there : (a : Schedule) (g : Dag) (p : ℕ) (dates : List ℕ) (x : Offer) → g ≡ dag_named a g.spec.dag_id → (e : IsEligible a x) → stands_among g.spec.dag_id p dates x ≡ true → e.task ≡ task_of g p
task_there a g p dates x dag e h =
    let s = stands_parts g.spec.dag_id p dates x h in
    let graph : e.run.graph ≡ g.spec.dag_id = sym (ap (λ (o : Offer). o.graph) e.offer_is) ∙ s.graph in
    let same_dag : dag_named a e.run.graph ≡ g = ap (dag_named a) graph ∙ sym dag in
    let there : slice_get g.tasks p ≡ Some e.task = ap (λ (d : Dag). slice_get d.tasks p) (sym same_dag) ∙ (ap (slice_get (tasks_of a e.run)) (sym s.place) ∙ e.task_is) in
    sym (get_or_from_slice_get g.tasks p e.task no_task there)

pub task_offer : (a : Schedule) (g : Dag) (p : ℕ) (dates : List ℕ) (x : Offer) → g ≡ dag_named a g.spec.dag_id → IsEligible a x → stands_among g.spec.dag_id p dates x ≡ true → IsTaskOffer a g p x
task_offer a g p dates x dag e h =
    let s = stands_parts g.spec.dag_id p dates x h in
    let graph : e.run.graph ≡ g.spec.dag_id = sym (ap (λ (o : Offer). o.graph) e.offer_is) ∙ s.graph in
    let same_dag : dag_named a e.run.graph ≡ g = ap (dag_named a) graph ∙ sym dag in
    let task = task_there a g p dates x dag e h in
    record {
      weight = ap (λ (o : Offer). o.weight) e.offer_is ∙ (ap (λ (d : Dag). effective_weight d x.place) same_dag ∙ ap (effective_weight g) s.place);
      graph = s.graph;
      task = ap (λ (o : Offer). o.task) e.offer_is ∙ ap (λ (t : TaskSpec). t.task_id) task;
      pool = ap (λ (o : Offer). o.pool) e.offer_is ∙ ap (λ (t : TaskSpec). t.pool) task;
      slots = ap (λ (o : Offer). o.slots) e.offer_is ∙ ap (λ (t : TaskSpec). t.pool_slots) task;
      bound = ap (λ (o : Offer). o.bound) e.offer_is ∙ ap (bound_of a) graph;
    }

-- the bound that is read at the position
pub graph_within : (a : Schedule) (n : ℕ) (g : Dag) → IsBoundAt a n g → n < length a.graphs
graph_within a n g h = slice_get_within a.graphs n h.loaded.loaded h.loaded.there

pub bound_read : (a : Schedule) (n : ℕ) (g : Dag) (bound : ℕ) → IsBoundAt a n g → option_map (λ (l : LoadedGraph). l.max_active_tasks) (slice_get a.graphs n) ≡ Some bound → bound ≡ bound_of a g.spec.dag_id
bound_read a n g bound h e = same_Some bound h.loaded.loaded.max_active_tasks (sym e ∙ ap (option_map (λ (l : LoadedGraph). l.max_active_tasks)) h.loaded.there) ∙ sym h.bound

-- whether there is room for one more try, by what is known at the position
pub room_read : (a : Schedule) (n : ℕ) (g : Dag) (left : Bool) → IsBoundAt a n g → HasRoom a n left → left ≡ nat_lt (active_tries a g.spec.dag_id) (bound_of a g.spec.dag_id)
room_read a n g left h known =
    known h.loaded.loaded h.loaded.there
    ∙ (ap (λ (i : List ℕ). nat_lt (active_tries a i) h.loaded.loaded.max_active_tasks) (same_is h.loaded.loaded.dag.spec.dag_id g.spec.dag_id h.loaded.named)
    ∙ ap (nat_lt (active_tries a g.spec.dag_id)) (sym h.bound))

-- an offer fits as its task does
pub task_fits_with : (a : Schedule) (g : Dag) (p : ℕ) (x : Offer) → IsTaskOffer a g p x → fits a x ≡ fits_with a g.spec.dag_id (task_of g p).pool (task_of g p).pool_slots
task_fits_with a g p x o =
    ap (λ n. nat_le (occupied a x.pool + x.slots) (size_of a x.pool) && ((nat_lt (in_flight a) a.lanes && nat_le a.next last_serial) && nat_lt (active_tries a x.graph) n)) o.bound
    ∙ (ap (λ (i : List ℕ). nat_le (occupied a x.pool + x.slots) (size_of a x.pool) && ((nat_lt (in_flight a) a.lanes && nat_le a.next last_serial) && nat_lt (active_tries a i) (bound_of a g.spec.dag_id))) o.graph
    ∙ (ap (λ q. fits_with a g.spec.dag_id q x.slots) o.pool ∙ ap (fits_with a g.spec.dag_id (task_of g p).pool) o.slots))

-- offers of a place that fits fit
task_fits : (a : Schedule) (g : Dag) (p : ℕ) (x : Offer) → IsFitting a g p → IsTaskOffer a g p x → fits a x ≡ true
task_fits a g p x f o = task_fits_with a g p x o ∙ f.fits

-- ---- the offer of a run
-- the run of an offer at the place and date is the one with the key
record IsThatRun (a : Schedule) (p n : ℕ) (r : Run) (x : Offer) (e : IsEligible a x) : Type 0 where
  position : x.run ≡ n
  run : e.run ≡ r
  place : x.place ≡ p

that_run : (a : Schedule) (id : List ℕ) (p date n : ℕ) (r : Run) (x : Offer) → IsSound a → slice_get a.runs n ≡ Some r → is_at id date r ≡ true → (e : IsEligible a x) → stands_among id p (date ∷ []) x ≡ true → IsThatRun a p n r x e
that_run a id p date n r x sound there key e h =
    let s = stands_parts id p (date ∷ []) x h in
    let graph : e.run.graph ≡ r.graph = sym (ap (λ (o : Offer). o.graph) e.offer_is) ∙ (s.graph ∙ sym (same_is r.graph id (and_left _ _ key))) in
    let logical : e.run.logical ≡ r.logical = sym (ap (λ (o : Offer). o.logical) e.offer_is) ∙ (one_date date x.logical s.date ∙ sym (eqb-true r.logical date (and_right (same r.graph id) _ key))) in
    let position : x.run ≡ n = date_once a x.run n e.run r sound e.run_is there graph logical in
    record { position = position; run = same_Some e.run r (sym e.run_is ∙ (ap (slice_get a.runs) position ∙ there)); place = s.place }

pub no_run : (a : Schedule) (id : List ℕ) (p date : ℕ) → list_any (is_at id date) a.runs ≡ false → NoneAmong a id p (date ∷ [])
no_run a id p date none x e = false_from_ne_true (stands_among id p (date ∷ []) x) (λ h.
    let s = stands_parts id p (date ∷ []) x h in
    let graph : e.run.graph ≡ id = sym (ap (λ (o : Offer). o.graph) e.offer_is) ∙ s.graph in
    let logical : e.run.logical ≡ date = sym (ap (λ (o : Offer). o.logical) e.offer_is) ∙ one_date date x.logical s.date in
    let key : is_at id date e.run ≡ true = and_from (same e.run.graph id) _ (ap (λ g. same g id) graph ∙ same_itself id) (eq-eqb e.run.logical date logical) in
    true≢false (sym (any_passes_from_place (is_at id date) a.runs x.run e.run e.run_is key) ∙ none))

pub not_running : (a : Schedule) (id : List ℕ) (p date n : ℕ) (r : Run) → IsSound a → slice_get a.runs n ≡ Some r → is_at id date r ≡ true → is_running r.phase ≡ false → NoneAmong a id p (date ∷ [])
not_running a id p date n r sound there key idle x e = false_from_ne_true (stands_among id p (date ∷ []) x) (λ h.
    let t = that_run a id p date n r x sound there key e h in
    true≢false (sym e.running ∙ (ap (λ (q : Run). is_running q.phase) t.run ∙ idle)))

pub no_instance : (a : Schedule) (id : List ℕ) (p date n : ℕ) (r : Run) → IsSound a → slice_get a.runs n ≡ Some r → is_at id date r ≡ true → length r.instances ≤ p → NoneAmong a id p (date ∷ [])
no_instance a id p date n r sound there key short x e = false_from_ne_true (stands_among id p (date ∷ []) x) (λ h.
    let t = that_run a id p date n r x sound there key e h in
    let at : slice_get r.instances p ≡ Some e.instance = ap (λ (q : Run). slice_get q.instances p) (sym t.run) ∙ (ap (slice_get e.run.instances) (sym t.place) ∙ e.instance_is) in
    let l = slice_get_within r.instances p e.instance at in
    omega (arith, l, short))

-- what the instance at the place offers
pub offered_of : (a : Schedule) (n p date clock bound : ℕ) (r : Run) (g : Dag) (i : InstanceValue) (got : Option Offer) → bound ≡ bound_of a g.spec.dag_id → IsSound a → slice_get a.runs n ≡ Some r → is_at g.spec.dag_id date r ≡ true
    → g ≡ dag_named a g.spec.dag_id → is_paused a g.spec.dag_id ≡ false → p < length g.tasks → slice_get r.instances p ≡ Some i → is_running r.phase ≡ true → clock ≡ a.now
    → got ≡ offer_if_ready clock n r g bound p (task_of g p) i → IsOfferOf a g.spec.dag_id p date got
offered_of a n p date clock bound r g i got bounded sound there key dag unpaused within instance_is running now is = by (is_ready a.now (task_of g p) i) refl got (is ∙ (ap (λ k. offer_if_ready k n r g bound p (task_of g p) i) now ∙ ap (λ k. offer_if_ready a.now n r g k p (task_of g p) i) bounded))
  where
    graph : r.graph ≡ g.spec.dag_id
    graph = same_is r.graph g.spec.dag_id (and_left _ _ key)

    logical : r.logical ≡ date
    logical = eqb-true r.logical date (and_right (same r.graph g.spec.dag_id) _ key)

    same_dag : dag_named a r.graph ≡ g
    same_dag = ap (dag_named a) graph ∙ sym dag

    o : Offer
    o = record { run = n; place = p; weight = effective_weight g p; logical = r.logical; graph = r.graph; task = (task_of g p).task_id; pool = (task_of g p).pool; slots = (task_of g p).pool_slots; bound = bound_of a g.spec.dag_id }

    eligible : is_ready a.now (task_of g p) i ≡ true → IsEligible a o
    eligible ready = record {
      run = r;
      task = task_of g p;
      instance = i;
      run_is = there;
      task_is = ap (λ (d : Dag). slice_get d.tasks p) same_dag ∙ slice_get-get_or g.tasks p no_task within;
      instance_is = instance_is;
      running = running;
      unpaused = ap (is_paused a) graph ∙ unpaused;
      ready = ready;
      offer_is = ap (λ (d : Dag). record { run = n; place = p; weight = effective_weight d p; logical = r.logical; graph = r.graph; task = (task_of g p).task_id; pool = (task_of g p).pool; slots = (task_of g p).pool_slots; bound = bound_of a g.spec.dag_id }) (sym same_dag)
          ∙ ap (λ k. record { run = n; place = p; weight = effective_weight (dag_named a r.graph) p; logical = r.logical; graph = r.graph; task = (task_of g p).task_id; pool = (task_of g p).pool; slots = (task_of g p).pool_slots; bound = k }) (ap (bound_of a) (sym graph));
    }

    stands : stands_among g.spec.dag_id p (date ∷ []) o ≡ true
    stands = stands_from g.spec.dag_id p (date ∷ []) o (record { graph = graph; place = refl; date = ap (λ b. b || false) (eq-eqb date r.logical (sym logical)) })

    none : is_ready a.now (task_of g p) i ≡ false → NoneAmong a g.spec.dag_id p (date ∷ [])
    none idle x e = false_from_ne_true (stands_among g.spec.dag_id p (date ∷ []) x) (λ h.
        let t = that_run a g.spec.dag_id p date n r x sound there key e h in
        let at : slice_get r.instances p ≡ Some e.instance = ap (λ (q : Run). slice_get q.instances p) (sym t.run) ∙ (ap (slice_get e.run.instances) (sym t.place) ∙ e.instance_is) in
        let same_instance : e.instance ≡ i = same_Some e.instance i (sym at ∙ instance_is) in
        let same_task = task_there a g p (date ∷ []) x dag e h in
        true≢false (sym e.ready ∙ (ap (λ (u : TaskSpec). is_ready a.now u e.instance) same_task ∙ (ap (is_ready a.now (task_of g p)) same_instance ∙ idle))))

    by : (b : Bool) → is_ready a.now (task_of g p) i ≡ b → (out : Option Offer) → out ≡ offer_if_ready a.now n r g (bound_of a g.spec.dag_id) p (task_of g p) i → IsOfferOf a g.spec.dag_id p date out
    by true e out f = subst (IsOfferOf a g.spec.dag_id p date) (sym (f ∙ ap (λ b. when b o) e)) (eligible e, stands)
    by false e out f = subst (IsOfferOf a g.spec.dag_id p date) (sym (f ∙ ap (λ b. when b o) e)) (none e)

-- what was found by a key has it
pub key_of : (rs : List Run) (n date : ℕ) (id name : List ℕ) (r : Run) → IsRunAt name date rs n → name ≡ id → slice_get rs n ≡ Some r → is_at id date r ≡ true
key_of rs n date id name r h same there = ap (λ (q : Run). is_at id date q) (same_Some r h.run (sym there ∙ h.there)) ∙ (ap (λ i. is_at i date h.run) (sym same) ∙ h.key)

pub run_within : (rs : List Run) (n date : ℕ) (name : List ℕ) → IsRunAt name date rs n → n < length rs
run_within rs n date name h = slice_get_within rs n h.run h.there

-- a place that is there has something
pub none_there : {X : Type 0} (xs : List X) (i : ℕ) → slice_get xs i ≡ None → i < length xs → ⊥
none_there [] i e l = omega arith
none_there {X} (x ∷ xs) zero e l = let c : ◌≡◌ {A = Option X} (Some x) None = e in cc
none_there (x ∷ xs) (suc i) e l = none_there xs i e (omega arith)

-- ---- ranks
greater_is : (m n : ℕ) → n < m → nat_cmp m n ≡ Greater
greater_is m n l = grind (arith, nat_tests)

-- of the same task a date that is not earlier does not rank before
not_before : (x : Offer) (w d : ℕ) (id task : List ℕ) → x.weight ≡ w → x.graph ≡ id → x.task ≡ task → d ≤ x.logical
    → is_less (rank_cmp (rank_parts x) (record { weight = w; logical = d; graph = id; task = task })) ≡ false
not_before x w d id task weight graph named l = by_bool {C = is_less (rank_cmp (rank_parts x) (record { weight = w; logical = d; graph = id; task = task })) ≡ false} (nat_eq x.logical d)
    (λ e.
    let same_date : x.logical ≡ d = eqb-true x.logical d e in
    let parts : rank_parts x ≡ record { weight = w; logical = d; graph = id; task = task } = cc in
    ap (λ (q : RankParts). is_less (rank_cmp (rank_parts x) q)) (sym parts) ∙ not_itself rank_total x)
    (λ e.
    let differ : x.logical ≢ d = λ i. true≢false (sym (eq-eqb x.logical d i) ∙ e) in
    let first : nat_cmp w x.weight ≡ Equal = equal_is w x.weight (sym weight) in
    let second : nat_cmp x.logical d ≡ Greater = greater_is x.logical d (omega arith) in
    ap (λ c. is_less (ordering_then c (ordering_then (nat_cmp x.logical d) (ordering_then (name_cmp x.graph id) (name_cmp x.task task))))) first
    ∙ ap (λ c. is_less (ordering_then c (ordering_then (name_cmp x.graph id) (name_cmp x.task task)))) second)
  where
    equal_is : (m n : ℕ) → m ≡ n → nat_cmp m n ≡ Equal
    equal_is m n e = grind (arith, nat_tests)

parts_same : (x : Offer) (w d : ℕ) (id task : List ℕ) → x.weight ≡ w → x.logical ≡ d → x.graph ≡ id → x.task ≡ task → rank_parts x ≡ record { weight = w; logical = d; graph = id; task = task }
parts_same x w d id task a b e f = cc

-- the parts as they are read
pub parts_read : (w v d : ℕ) (id name task other : List ℕ) → w ≡ v → id ≡ name → task ≡ other → ◌≡◌ {A = RankParts} (record { weight = w; logical = d; graph = id; task = task }) (record { weight = v; logical = d; graph = name; task = other })
parts_read w v d id name task other a b c = cc

-- an offer with these parts
abbrev with_parts : RankParts → Offer
with_parts q = record { run = 0; place = 0; weight = q.weight; logical = q.logical; graph = q.graph; task = q.task; pool = []; slots = 0; bound = 0 }

-- ---- the choice
pub widen : (P Q : Offer → Bool) (a : Schedule) (b : Best) → IsBest P a b → ((x : Offer) → IsEligible a x → Q x ≡ true → fits a x ≡ true → ranks_before x b.offer ≡ false) → IsBest (λ x. P x || Q x) a b
widen P Q a b h more = record {
  eligible = h.eligible;
  fitting = h.fitting;
  first = λ x e on f. by_bool {C = ranks_before x b.offer ≡ false} (P x) (λ i. h.first x e i f) (λ i. more x e (sym (ap (λ c. c || Q x) i) ∙ on) f);
  placed = h.placed;
}

-- where nothing is offered there what was chosen stays
pub widen_none : (P Q : Offer → Bool) (a : Schedule) (best : Option Best) → ((x : Offer) → IsEligible a x → Q x ≡ false) → IsBestOf P a best → IsBestOf (λ x. P x || Q x) a best
widen_none P Q a None none h = λ x e on. by_bool {C = fits a x ≡ false} (P x) (λ i. h x e i) (λ i. absurd (true≢false (sym (sym (ap (λ c. c || Q x) i) ∙ on) ∙ none x e)))
widen_none P Q a (Some b) none h = widen P Q a b h (λ x e on f. absurd (true≢false (sym on ∙ none x e)))

-- what was chosen ranks before this date, and so before all later ones
pub behind_stays : (P : Offer → Bool) (a : Schedule) (n : ℕ) (g : Dag) (ws : List ℕ) (p at d : ℕ) (keys : List ℕ) (best : Option Best) → IsLoaded a n g ws → IsStrictlySortedBy nat_cmp keys → slice_get keys at ≡ Some d
    → NoneAmong a g.spec.dag_id p (take at keys) → is_behind (record { weight = effective_weight g p; logical = d; graph = g.spec.dag_id; task = (task_of g p).task_id }) best ≡ true
    → IsBestOf P a best → IsBestOf (λ x. P x || stands_among g.spec.dag_id p keys x) a best
behind_stays P a n g ws p at d keys None loaded sorted there none behind h = absurd (true≢false (sym behind))
behind_stays P a n g ws p at d keys (Some b) loaded sorted there none behind h = widen P (stands_among g.spec.dag_id p keys) a b h (λ x e on f.
    let parts : RankParts = record { weight = effective_weight g p; logical = d; graph = g.spec.dag_id; task = (task_of g p).task_id } in
    let s = stands_parts g.spec.dag_id p keys x on in
    let t = task_offer a g p keys x loaded.dag e on in
    elim (date_cases keys at d x.logical sorted there s.date) as (λ _. ranks_before x b.offer ≡ false) [
      | inl i ↦ absurd (true≢false (sym (stands_other g.spec.dag_id p keys (take at keys) x on i) ∙ none x e))
      | inr l ↦ not_less_through rank_total b.offer (with_parts parts) x (not_before x (effective_weight g p) d g.spec.dag_id (task_of g p).task_id t.weight t.graph t.task l) (not_both rank_total b.offer (with_parts parts) behind)
    ])

-- the offer of the first date that is ready is chosen, where what was chosen does not rank before it
pub chosen_there : (P : Offer → Bool) (a : Schedule) (n : ℕ) (g : Dag) (ws : List ℕ) (p at d : ℕ) (keys : List ℕ) (best : Option Best) (o : Offer) → IsSound a → IsLoaded a n g ws → IsFitting a g p → IsStrictlySortedBy nat_cmp keys
    → slice_get keys at ≡ Some d → NoneAmong a g.spec.dag_id p (take at keys)
    → is_behind (record { weight = effective_weight g p; logical = d; graph = g.spec.dag_id; task = (task_of g p).task_id }) best ≡ false
    → IsOfferOf a g.spec.dag_id p d (Some o)
    → IsBestOf P a best → IsBestOf (λ x. P x || stands_among g.spec.dag_id p keys x) a (Some (record { offer = o; graph = n }))
chosen_there P a n g ws p at d keys best o sound loaded fitting sorted there none behind is h = record {
  eligible = is.0;
  fitting = task_fits a g p o fitting own;
  first = λ x e on f. by_bool {C = ranks_before x o ≡ false} (P x)
      (λ i. old best behind h x e i f)
      (λ i. here x e (sym (ap (λ c. c || stands_among g.spec.dag_id p keys x) i) ∙ on));
  placed = record { loaded = loaded.at.loaded.loaded; there = loaded.at.loaded.there; named = ap (same loaded.at.loaded.loaded.dag.spec.dag_id) own.graph ∙ loaded.at.loaded.named };
}
  where
    own : IsTaskOffer a g p o
    own = task_offer a g p (d ∷ []) o loaded.dag is.0 is.1

    parts : RankParts
    parts = record { weight = effective_weight g p; logical = d; graph = g.spec.dag_id; task = (task_of g p).task_id }

    date : o.logical ≡ d
    date = one_date d o.logical (stands_parts g.spec.dag_id p (d ∷ []) o is.1).date

    parts_are : rank_parts o ≡ record { weight = effective_weight g p; logical = d; graph = g.spec.dag_id; task = (task_of g p).task_id }
    parts_are = parts_same o (effective_weight g p) d g.spec.dag_id (task_of g p).task_id own.weight date own.graph own.task

    old : (chosen : Option Best) → is_behind (record { weight = effective_weight g p; logical = d; graph = g.spec.dag_id; task = (task_of g p).task_id }) chosen ≡ false → IsBestOf P a chosen
        → (x : Offer) → IsEligible a x → P x ≡ true → fits a x ≡ true → ranks_before x o ≡ false
    old None b k x e i f = absurd (true≢false (sym f ∙ k x e i))
    old (Some c) b k x e i f = not_less_through rank_total o c.offer x (k.first x e i f) (ap (λ (q : RankParts). is_less (rank_cmp (rank_parts c.offer) q)) parts_are ∙ b)

    here : (x : Offer) → IsEligible a x → stands_among g.spec.dag_id p keys x ≡ true → ranks_before x o ≡ false
    here x e on =
        let s = stands_parts g.spec.dag_id p keys x on in
        let t = task_offer a g p keys x loaded.dag e on in
        elim (date_cases keys at d x.logical sorted there s.date) as (λ _. ranks_before x o ≡ false) [
          | inl i ↦ absurd (true≢false (sym (stands_other g.spec.dag_id p keys (take at keys) x on i) ∙ none x e))
          | inr l ↦ ap (λ (q : RankParts). is_less (rank_cmp (rank_parts x) q)) parts_are ∙ not_before x (effective_weight g p) d g.spec.dag_id (task_of g p).task_id t.weight t.graph t.task l
        ]

-- of fewer it is the best too
pub fewer : (P Q : Offer → Bool) (a : Schedule) (best : Option Best) → ((x : Offer) → IsEligible a x → Q x ≡ true → P x ≡ true) → IsBestOf P a best → IsBestOf Q a best
fewer P Q a None h k = λ x e on. k x e (h x e on)
fewer P Q a (Some b) h k = record { eligible = k.eligible; fitting = k.fitting; first = λ x e on f. k.first x e (h x e on) f; placed = k.placed }

-- two steps
or_three : (a b c : Bool) → (a || (b || c)) ≡ true → ((a || b) || c) ≡ true
or_three true b c h = refl
or_three false b c h = h

pub two_steps : (P Q R : Offer → Bool) (a : Schedule) (best : Option Best) → IsBestOf (λ x. (P x || Q x) || R x) a best → IsBestOf (λ x. P x || (Q x || R x)) a best
two_steps P Q R a best h = fewer (λ x. (P x || Q x) || R x) (λ x. P x || (Q x || R x)) a best (λ x e on. or_three (P x) (Q x) (R x) on) h

-- ---- what waits
-- one pair more
pub pair_next : (now : ℕ) (id : List ℕ) (p at : ℕ) (pairs : List (ℕ × ℕ)) (w : ℕ × ℕ) (x : Offer) → slice_get pairs at ≡ Some w → stands_waiting now id p (take (at + 1) pairs) x ≡ true
    → (stands_waiting now id p (take at pairs) x || stands_among id p (w.1 ∷ []) x) ≡ true
pair_next now id p at pairs w x there h =
    let rest = and_right (same x.graph id) _ h in
    let any = and_right (nat_eq x.place p) _ rest in
    elim (by pairs at there (ap (λ n. list_any (λ (v : ℕ × ℕ). nat_le v.0 now && nat_eq v.1 x.logical) (take n pairs)) one ∙ any)) as (λ _. (stands_waiting now id p (take at pairs) x || stands_among id p (w.1 ∷ []) x) ≡ true) [
      | inl i ↦ ap (λ b. b || stands_among id p (w.1 ∷ []) x) (and_from (same x.graph id) _ (and_left _ _ h) (and_from (nat_eq x.place p) _ (and_left _ _ rest) i))
      | inr i ↦ or_right (stands_waiting now id p (take at pairs) x) (stands_among id p (w.1 ∷ []) x) (and_from (same x.graph id) _ (and_left _ _ h) (and_from (nat_eq x.place p) _ (and_left _ _ rest) (ap (λ b. b || false) i)))
    ]
  where
    one : suc at ≡ at + 1
    one = omega arith

    or_right : (b c : Bool) → c ≡ true → (b || c) ≡ true
    or_right true c i = refl
    or_right false c i = i

    by : (ws : List (ℕ × ℕ)) (n : ℕ) → slice_get ws n ≡ Some w → list_any (λ (v : ℕ × ℕ). nat_le v.0 now && nat_eq v.1 x.logical) (take (suc n) ws) ≡ true
        → (list_any (λ (v : ℕ × ℕ). nat_le v.0 now && nat_eq v.1 x.logical) (take n ws) ≡ true) ⊎ (nat_eq w.1 x.logical ≡ true)
    by [] n f j = absurd (none-some w f)
    by (v ∷ vs) zero f j = by_bool {C = (false ≡ true) ⊎ (nat_eq w.1 x.logical ≡ true)} (nat_le v.0 now && nat_eq v.1 x.logical)
        (λ t. inr (ap (λ (u : ℕ × ℕ). nat_eq u.1 x.logical) (sym (same_Some v w f)) ∙ and_right (nat_le v.0 now) _ t))
        (λ t. absurd (true≢false (sym j ∙ ap (λ b. b || false) t)))
    by (v ∷ vs) (suc n) f j = by_bool {C = (((nat_le v.0 now && nat_eq v.1 x.logical) || list_any (λ (u : ℕ × ℕ). nat_le u.0 now && nat_eq u.1 x.logical) (take n vs)) ≡ true) ⊎ (nat_eq w.1 x.logical ≡ true)} (nat_le v.0 now && nat_eq v.1 x.logical)
        (λ t. inl (ap (λ b. b || list_any (λ (u : ℕ × ℕ). nat_le u.0 now && nat_eq u.1 x.logical) (take n vs)) t))
        (λ t. elim (by vs n f (sym (ap (λ b. b || list_any (λ (u : ℕ × ℕ). nat_le u.0 now && nat_eq u.1 x.logical) (take (suc n) vs)) t) ∙ j)) [
          | inl l ↦ inl (ap (λ b. b || list_any (λ (u : ℕ × ℕ). nat_le u.0 now && nat_eq u.1 x.logical) (take n vs)) t ∙ l)
          | inr l ↦ inr l
        ])

-- from a moment on that has not come nothing waits for one that has
pub not_yet : (now : ℕ) (id : List ℕ) (p at : ℕ) (pairs : List (ℕ × ℕ)) (w : ℕ × ℕ) (x : Offer) → IsStrictlySortedBy pair_cmp pairs → slice_get pairs at ≡ Some w → now < w.0
    → stands_waiting now id p pairs x ≡ true → stands_waiting now id p (take at pairs) x ≡ true
unfolding IsStrictlySortedBy
not_yet now id p at pairs w x sorted there later h =
    let rest = and_right (same x.graph id) _ h in
    and_from (same x.graph id) _ (and_left _ _ h) (and_from (nat_eq x.place p) _ (and_left _ _ rest) (by pairs at sorted there (and_right (nat_eq x.place p) _ rest)))
  where
    above : (vs : List (ℕ × ℕ)) → AllByRecursion (λ v. pair_cmp w v ≡ Less) vs → list_any (λ (v : ℕ × ℕ). nat_le v.0 now && nat_eq v.1 x.logical) vs ≡ false
    above [] s = refl
    above (v ∷ vs) s =
        let l = pair_less w v s.0 in
        let no : nat_le v.0 now ≡ false = lt-leb-false now v.0 (omega (arith, l, later)) in
        ap (λ b. (b && nat_eq v.1 x.logical) || list_any (λ (u : ℕ × ℕ). nat_le u.0 now && nat_eq u.1 x.logical) vs) no ∙ above vs s.1
      where
        lt-leb-false : (m n : ℕ) → m < n → nat_le n m ≡ false
        lt-leb-false m n l = grind (arith, nat_tests)

    by : (vs : List (ℕ × ℕ)) (n : ℕ) → IsStrictlySortedBy pair_cmp vs → slice_get vs n ≡ Some w → list_any (λ (v : ℕ × ℕ). nat_le v.0 now && nat_eq v.1 x.logical) vs ≡ true → list_any (λ (v : ℕ × ℕ). nat_le v.0 now && nat_eq v.1 x.logical) (take n vs) ≡ true
    by [] n s f j = absurd (none-some w f)
    by (v ∷ vs) zero s f j =
        let is : v ≡ w = same_Some v w f in
        let no : nat_le v.0 now ≡ false = by_bool {C = nat_le v.0 now ≡ false} (nat_le v.0 now) (λ t. let l : v.0 ≤ now = leb-true v.0 now t in let k = ap (λ (u : ℕ × ℕ). u.0) is in absurd (omega (arith, l, k, later))) (λ t. t) in
        let none = above vs (subst (λ (u : ℕ × ℕ). AllByRecursion (λ z. pair_cmp u z ≡ Less) vs) is s.0) in
        absurd (true≢false (sym j ∙ (ap (λ b. (b && nat_eq v.1 x.logical) || list_any (λ (u : ℕ × ℕ). nat_le u.0 now && nat_eq u.1 x.logical) vs) no ∙ none)))
    by (v ∷ vs) (suc n) s f j = by_bool {C = ((nat_le v.0 now && nat_eq v.1 x.logical) || list_any (λ (u : ℕ × ℕ). nat_le u.0 now && nat_eq u.1 x.logical) (take n vs)) ≡ true} (nat_le v.0 now && nat_eq v.1 x.logical)
        (λ t. ap (λ b. b || list_any (λ (u : ℕ × ℕ). nat_le u.0 now && nat_eq u.1 x.logical) (take n vs)) t)
        (λ t. ap (λ b. b || list_any (λ (u : ℕ × ℕ). nat_le u.0 now && nat_eq u.1 x.logical) (take n vs)) t ∙ by vs n s.1 f (sym (ap (λ b. b || list_any (λ (u : ℕ × ℕ). nat_le u.0 now && nat_eq u.1 x.logical) vs) t) ∙ j))

-- a step of the loop over pairs
pub wait_step : (P : Offer → Bool) (a : Schedule) (id : List ℕ) (p at : ℕ) (pairs : List (ℕ × ℕ)) (w : ℕ × ℕ) (best : Option Best) → slice_get pairs at ≡ Some w
    → IsBestOf (λ x. (P x || stands_waiting a.now id p (take at pairs) x) || stands_among id p (w.1 ∷ []) x) a best → IsBestOf (λ x. P x || stands_waiting a.now id p (take (at + 1) pairs) x) a best
wait_step P a id p at pairs w best there h = fewer (λ x. (P x || stands_waiting a.now id p (take at pairs) x) || stands_among id p (w.1 ∷ []) x) (λ x. P x || stands_waiting a.now id p (take (at + 1) pairs) x) a best
    (λ x e on. by (P x) (stands_waiting a.now id p (take at pairs) x) (stands_among id p (w.1 ∷ []) x) (λ i. pair_next a.now id p at pairs w x there i) on) h
  where
    by : (b c d : Bool) {e : Bool} → (e ≡ true → (c || d) ≡ true) → (b || e) ≡ true → ((b || c) || d) ≡ true
    by true c d f on = refl
    by false c d f on = f on

-- nothing waits at first
pub wait_first : (P : Offer → Bool) (a : Schedule) (id : List ℕ) (p : ℕ) (best : Option Best) → IsBestOf P a best → IsBestOf (λ x. P x || stands_waiting a.now id p [] x) a best
wait_first P a id p best h = widen_none P (stands_waiting a.now id p []) a best (λ x e. false_from_ne_true (stands_waiting a.now id p [] x) (λ i. true≢false (sym (and_right (nat_eq x.place p) _ (and_right (same x.graph id) _ i))))) h

-- at a moment that has not come the loop is over
pub wait_over : (P : Offer → Bool) (a : Schedule) (id : List ℕ) (p at : ℕ) (pairs : List (ℕ × ℕ)) (w : ℕ × ℕ) (best : Option Best) → IsStrictlySortedBy pair_cmp pairs → slice_get pairs at ≡ Some w → a.now < w.0
    → IsBestOf (λ x. P x || stands_waiting a.now id p (take at pairs) x) a best → IsBestOf (λ x. P x || stands_waiting a.now id p pairs x) a best
wait_over P a id p at pairs w best sorted there later h = fewer (λ x. P x || stands_waiting a.now id p (take at pairs) x) (λ x. P x || stands_waiting a.now id p pairs x) a best
    (λ x e on. by (P x) (λ i. not_yet a.now id p at pairs w x sorted there later i) on) h
  where
    by : (b : Bool) {c d : Bool} → (d ≡ true → c ≡ true) → (b || d) ≡ true → (b || c) ≡ true
    by true f on = refl
    by false f on = f on

pub one_sorted : (d : ℕ) → IsStrictlySortedBy nat_cmp (d ∷ [])
unfolding IsStrictlySortedBy
one_sorted d = (tt, tt)
