-- The choice among what stands on shelves, one kind of task after another.
use Rattle.std.proofs.Common.{◌≡◌, ◌≢◌, ◌∙◌, ◌⊎◌, inl, inr, refl, sym, ap, ℕ, zero, suc, ◌+◌, ◌<◌, ◌≤◌, List, [], ◌∷◌, Bool, true, false, not, ◌&&◌, ◌||◌, length, map, get_or, true≢false, Option, Some, None, slice_get, nat_le, nat_lt, nat_eq, arith}
use Rattle.std.proofs.lemmas.Bool.{and_from, eqb-true, eq-eqb, leb-true, lt-ltb, ltb-false, ltb-true, or_cases}
use Rattle.std.proofs.lemmas.Bool.Decides.{nat_tests}
use Rattle.std.proofs.lemmas.Cmp.{nat_list_cmp_total}
use Rattle.std.proofs.lemmas.Option.{get_or_from_slice_get, none-some, same_Some, slice_get-get_or, slice_get_within}
use Rattle.std.specs.List.{list_all, list_any}
use Rattle.std.specs.Ordering.{nat_cmp, ordering_reverse, ordering_then}
use Rattle.std.specs.declared.cmp.Ordering.TheVariants.{Less, Equal, Greater}
use Rattle.graph_file.specs.declared.task_specs.TaskSpec.{TaskSpec}
use Rattle.dag_check.specs.Graphs.{Dag, no_task, task_of}
use Rattle.dag_check.specs.Orders.{is_in}
use Rattle.sched_state.specs.Lists.{is_less, name_cmp, same}
use Rattle.sched_state.specs.declared.graphs.LoadedGraph.{LoadedGraph}
use Rattle.sched_state.proofs.NameLemmas.{same_is, same_itself}
use Rattle.sched_state.proofs.OrderLemmas.{and_left, and_right}
use Rattle.sched_model.specs.Handout.{Offer, fits, ranks_before}
use Rattle.sched_model.specs.Lists.{rises}
use Rattle.sched_model.specs.Schedule.{Schedule, dag_named, graph_before}
use Rattle.sched_model.specs.Sound.{IsSound}
use Rattle.sched_laws.specs.Offered.{IsEligible}
use Rattle.sched_laws.proofs.DecisionLemmas.{by_bool}
use Rattle.sched_laws.proofs.ListLemmas.{all_get}
use Rattle.sched_laws.proofs.RankLemmas.{less_is}
use Rattle.sched_ready.specs.Due.{has_waited, is_found}
use Rattle.sched_ready.specs.Held.{FitsShelf}
use Rattle.sched_ready.specs.Leading.{comes_first, is_led, is_reached}
use Rattle.sched_ready.specs.Shelves.{IsLedBy, IsSoonest, ShelfValue}
use Rattle.sched_ready.specs.declared.leading.First.{First}
use Rattle.sched_ready.specs.declared.queues.Queue.{Queue}
use Rattle.sched_ready.proofs.LeadLemmas.{not_first}
use Rattle.sched_handout.specs.Shelving.{IsBestOf, IsFitting, IsGraphAt, IsLoaded, fits_with, is_ahead, is_first_behind, is_found_if, is_kind, stands_among, stands_before, stands_found, stands_of, stands_on, stands_waiting}
use Rattle.sched_handout.specs.declared.shelving.Best.{Best}
use Rattle.sched_handout.proofs.ShelfLemmas.{fewer, task_fits_with, task_offer, widen}

-- ---- steps of a loop
-- what holds of more is one of two
pub join : (P A B C : Offer → Bool) (a : Schedule) (best : Option Best) → ((x : Offer) → IsEligible a x → C x ≡ true → (A x ≡ true) ⊎ (B x ≡ true)) → IsBestOf (λ x. (P x || A x) || B x) a best → IsBestOf (λ x. P x || C x) a best
join P A B C a best split h = fewer (λ x. (P x || A x) || B x) (λ x. P x || C x) a best (λ x e on. by (P x) (A x) (B x) (split x e) on) h
  where
    by : (p q r : Bool) {s : Bool} → (s ≡ true → (q ≡ true) ⊎ (r ≡ true)) → (p || s) ≡ true → ((p || q) || r) ≡ true
    by true q r f on = refl
    by false q r f on = elim (f on) [ inl i ↦ ap (λ b. b || r) i | inr i ↦ either q r i ]
      where
        either : (q r : Bool) → r ≡ true → (q || r) ≡ true
        either true r i = refl
        either false r i = i

pub less : (P A C : Offer → Bool) (a : Schedule) (best : Option Best) → ((x : Offer) → IsEligible a x → C x ≡ true → A x ≡ true) → IsBestOf (λ x. P x || A x) a best → IsBestOf (λ x. P x || C x) a best
less P A C a best f h = fewer (λ x. P x || A x) (λ x. P x || C x) a best (λ x e on. by (P x) (A x) (f x e) on) h
  where
    by : (p q : Bool) {s : Bool} → (s ≡ true → q ≡ true) → (p || s) ≡ true → (p || q) ≡ true
    by true q f on = refl
    by false q f on = f on

-- ---- what stands at a place of a shelf
pub record IsFoundAt (now : ℕ) (id : List ℕ) (s : ShelfValue) (x : Offer) : Type 0 where
  pub queue : Queue
  pub queue_is : slice_get s.queues x.place ≡ Some queue
  pub graph : x.graph ≡ id
  pub found : is_found now queue x.logical ≡ true

pub found_parts : (now : ℕ) (id : List ℕ) (s : ShelfValue) (x : Offer) → stands_on now id s x ≡ true → IsFoundAt now id s x
found_parts now id s x h = by (slice_get s.queues x.place) refl (and_right (same x.graph id) _ h)
  where
    by : (o : Option Queue) → slice_get s.queues x.place ≡ o → is_found_if now o x.logical ≡ true → IsFoundAt now id s x
    by None e f = absurd (true≢false (sym f))
    by (Some q) e f = record { queue = q; queue_is = e; graph = same_is x.graph id (and_left _ _ h); found = f }

kind_there : (kind : ℕ) (o : Option ℕ) → is_kind kind o ≡ true → o ≡ Some kind
kind_there kind None h = absurd (true≢false (sym h))
kind_there kind (Some k) h = ap (λ n. Some n) (eqb-true k kind h)

-- it stands at its own place and date
own_place : (id : List ℕ) (x : Offer) → x.graph ≡ id → stands_among id x.place (x.logical ∷ []) x ≡ true
own_place id x e =
    and_from (same x.graph id) _ (ap (λ g. same g id) e ∙ same_itself id) (and_from (nat_eq x.place x.place) _ (eq-eqb x.place x.place refl) (ap (λ b. b || false) (eq-eqb x.logical x.logical refl)))

-- ---- kinds are alike
place_there : (a : Schedule) (g : Dag) (x : Offer) → g ≡ dag_named a g.spec.dag_id → x.graph ≡ g.spec.dag_id → IsEligible a x → x.place < length g.tasks
place_there a g x dag graph e =
    let of_run : e.run.graph ≡ g.spec.dag_id = sym (ap (λ (o : Offer). o.graph) e.offer_is) ∙ graph in
    let same_dag : dag_named a e.run.graph ≡ g = ap (dag_named a) of_run ∙ sym dag in
    slice_get_within g.tasks x.place e.task (ap (λ (d : Dag). slice_get d.tasks x.place) (sym same_dag) ∙ e.task_is)

pub kind_alike : (a : Schedule) (g : Dag) (s : ShelfValue) (p kind sample : ℕ) → FitsShelf g s → p < length g.tasks → slice_get s.kinds p ≡ Some kind → slice_get s.samples kind ≡ Some sample
    → fits_with a g.spec.dag_id (task_of g p).pool (task_of g p).pool_slots ≡ fits_with a g.spec.dag_id (task_of g sample).pool (task_of g sample).pool_slots
kind_alike a g s p kind sample f within kind_is sample_is =
    let k = f.kinds p (task_of g p) (slice_get-get_or g.tasks p no_task within) in
    let same_kind : k.kind ≡ kind = same_Some k.kind kind (sym k.kind_is ∙ kind_is) in
    let same_place : k.place ≡ sample = same_Some k.place sample (sym k.place_is ∙ (ap (slice_get s.samples) same_kind ∙ sample_is)) in
    let task : task_of g sample ≡ k.sample = get_or_from_slice_get g.tasks sample k.sample no_task (ap (slice_get g.tasks) (sym same_place) ∙ k.sample_is) in
    sym (ap (λ (t : TaskSpec). fits_with a g.spec.dag_id t.pool t.pool_slots) task ∙ (ap (λ q. fits_with a g.spec.dag_id q k.sample.pool_slots) k.pool ∙ ap (fits_with a g.spec.dag_id (task_of g p).pool) k.slots))

-- where the sample does not fit nothing of the kind does
pub kind_full : (P : Offer → Bool) (a : Schedule) (n : ℕ) (g : Dag) (s : ShelfValue) (kind sample : ℕ) (best : Option Best) → IsLoaded a n g s.weights → FitsShelf g s → slice_get s.samples kind ≡ Some sample
    → fits_with a g.spec.dag_id (task_of g sample).pool (task_of g sample).pool_slots ≡ false → IsBestOf P a best → IsBestOf (λ x. P x || stands_of a.now g.spec.dag_id s kind x) a best
kind_full P a n g s kind sample best loaded f sample_is full h = by best h
  where
    no : (x : Offer) → IsEligible a x → stands_of a.now g.spec.dag_id s kind x ≡ true → fits a x ≡ false
    no x e on =
        let w = found_parts a.now g.spec.dag_id s x (and_right (is_kind kind (slice_get s.kinds x.place)) _ on) in
        let k = kind_there kind (slice_get s.kinds x.place) (and_left _ _ on) in
        let t = task_offer a g x.place (x.logical ∷ []) x loaded.dag e (own_place g.spec.dag_id x w.graph) in
        task_fits_with a g x.place x t ∙ (kind_alike a g s x.place kind sample f (place_there a g x loaded.dag w.graph e) k sample_is ∙ full)

    by : (b : Option Best) → IsBestOf P a b → IsBestOf (λ x. P x || stands_of a.now g.spec.dag_id s kind x) a b
    by None k = λ x e on. by_bool {C = fits a x ≡ false} (P x) (λ i. k x e i) (λ i. no x e (sym (ap (λ c. c || stands_of a.now g.spec.dag_id s kind x) i) ∙ on))
    by (Some b) k = widen P (stands_of a.now g.spec.dag_id s kind) a b k (λ x e on fit. absurd (true≢false (sym fit ∙ no x e on)))

-- ---- the order of graphs
pub graphs_rise : (gs : List LoadedGraph) (i j : ℕ) (g h : LoadedGraph) → rises graph_before gs ≡ true → slice_get gs i ≡ Some g → slice_get gs j ≡ Some h → i < j → graph_before g h ≡ true
graphs_rise [] i j g h r e f l = absurd (none-some g e)
graphs_rise (k ∷ gs) zero zero g h r e f l = absurd (omega arith)
graphs_rise (k ∷ gs) zero (suc j) g h r e f l = ap (λ (x : LoadedGraph). graph_before x h) (sym (same_Some k g e)) ∙ all_get (graph_before k) gs j h (and_left _ _ r) f
graphs_rise (k ∷ gs) (suc i) zero g h r e f l = absurd (omega arith)
graphs_rise (k ∷ gs) (suc i) (suc j) g h r e f l = graphs_rise gs i j g h (and_right (list_all (graph_before k) gs) _ r) e f (omega arith)

-- ---- ranks
not_after : (x b : Offer) → (x.weight < b.weight) ⊎ ((x.weight ≡ b.weight) × ((b.logical < x.logical) ⊎ ((b.logical ≡ x.logical) × (name_cmp b.graph x.graph ≡ Less)))) → ranks_before x b ≡ false
not_after x b (inl l) = ap (λ c. is_less (ordering_then c (ordering_then (nat_cmp x.logical b.logical) (ordering_then (name_cmp x.graph b.graph) (name_cmp x.task b.task))))) (greater b.weight x.weight l)
  where
    greater : (m n : ℕ) → n < m → nat_cmp m n ≡ Greater
    greater m n k = grind (arith, nat_tests)
not_after x b (inr (w, inl l)) =
    ap (λ c. is_less (ordering_then c (ordering_then (nat_cmp x.logical b.logical) (ordering_then (name_cmp x.graph b.graph) (name_cmp x.task b.task))))) (equal b.weight x.weight (sym w))
    ∙ ap (λ c. is_less (ordering_then c (ordering_then (name_cmp x.graph b.graph) (name_cmp x.task b.task)))) (greater x.logical b.logical l)
  where
    greater : (m n : ℕ) → n < m → nat_cmp m n ≡ Greater
    greater m n k = grind (arith, nat_tests)

    equal : (m n : ℕ) → m ≡ n → nat_cmp m n ≡ Equal
    equal m n k = grind (arith, nat_tests)
not_after x b (inr (w, inr (l, g))) =
    ap (λ c. is_less (ordering_then c (ordering_then (nat_cmp x.logical b.logical) (ordering_then (name_cmp x.graph b.graph) (name_cmp x.task b.task))))) (equal b.weight x.weight (sym w))
    ∙ (ap (λ c. is_less (ordering_then c (ordering_then (name_cmp x.graph b.graph) (name_cmp x.task b.task)))) (equal x.logical b.logical (sym l))
    ∙ ap (λ c. is_less (ordering_then c (name_cmp x.task b.task))) (nat_list_cmp_total.antisymm x.graph b.graph ∙ ap ordering_reverse g))
  where
    equal : (m n : ℕ) → m ≡ n → nat_cmp m n ≡ Equal
    equal m n k = grind (arith, nat_tests)

-- by the bound
behind_cases : (f : First) (n : ℕ) (b : Best) → is_first_behind (Some f) n (Some b) ≡ true
    → (f.weight < b.offer.weight) ⊎ ((f.weight ≡ b.offer.weight) × ((b.offer.logical < f.logical) ⊎ ((b.offer.logical ≡ f.logical) × (b.graph < n))))
behind_cases f n b h = by f.weight b.offer.weight b.offer.logical f.logical b.graph n h
  where
    by : (fw bw bl fl bg m : ℕ) → (nat_lt fw bw || (nat_eq fw bw && (nat_lt bl fl || (nat_eq bl fl && nat_lt bg m)))) ≡ true → (fw < bw) ⊎ ((fw ≡ bw) × ((bl < fl) ⊎ ((bl ≡ fl) × (bg < m))))
    by fw bw bl fl bg m k = elim (or_cases (nat_lt fw bw) _ k) [
      | inl i ↦ inl (ltb-true fw bw i)
      | inr i ↦ elim (or_cases (nat_lt bl fl) _ (and_right (nat_eq fw bw) _ i)) [
        | inl j ↦ inr (eqb-true fw bw (and_left _ _ i), inl (ltb-true bl fl j))
        | inr j ↦ inr (eqb-true fw bw (and_left _ _ i), inr (eqb-true bl fl (and_left _ _ j), ltb-true bg m (and_right (nat_eq bl fl) _ j)))
      ]
    ]

-- of a waiting date that is found a moment has come
waited_moment : (now d : ℕ) (pairs : List (ℕ × ℕ)) → list_any (λ (w : ℕ × ℕ). nat_le w.0 now && nat_eq w.1 d) pairs ≡ true → (m : ℕ) × ((is_in (map (λ (w : ℕ × ℕ). w.0) pairs) m ≡ true) × (m ≤ now))
waited_moment now d [] h = absurd (true≢false (sym h))
waited_moment now d (w ∷ ws) h = by_bool {C = (m : ℕ) × ((is_in (map (λ (v : ℕ × ℕ). v.0) (w ∷ ws)) m ≡ true) × (m ≤ now))} (nat_le w.0 now && nat_eq w.1 d)
    (λ t. (w.0, (ap (λ b. b || is_in (map (λ (v : ℕ × ℕ). v.0) ws) w.0) (eq-eqb w.0 w.0 refl), leb-true w.0 now (and_left _ _ t))))
    (λ t.
    let r = waited_moment now d ws (sym (ap (λ b. b || list_any (λ (v : ℕ × ℕ). nat_le v.0 now && nat_eq v.1 d) ws) t) ∙ h) in
    (r.0, (either (nat_eq w.0 r.0) _ r.1.0, r.1.1)))
  where
    either : (q r : Bool) → r ≡ true → (q || r) ≡ true
    either true r i = refl
    either false r i = i

none_waits : (now m : ℕ) (soonest : Option ℕ) → is_ahead now soonest ≡ true → is_reached m soonest ≡ true → m ≤ now → ⊥
none_waits now m None ahead reached l = true≢false (sym reached)
none_waits now m (Some s) ahead reached l = let i = ltb-true now s ahead in let j = leb-true s m reached in omega (arith, i, j, l)

-- what was chosen ranks before all that the bound leads, of the graph at a position
pub behind_by : (P Q : Offer → Bool) (a : Schedule) (n : ℕ) (l : LoadedGraph) (first : Option First) (best : Option Best) → IsSound a → slice_get a.graphs n ≡ Some l
    → ((x : Offer) → IsEligible a x → Q x ≡ true → (is_led x.weight x.logical first ≡ true) × (x.graph ≡ l.dag.spec.dag_id))
    → is_first_behind first n best ≡ true → IsBestOf P a best → IsBestOf (λ x. P x || Q x) a best
behind_by P Q a n l first best sound there led behind h = by first best led behind h
  where
    negated : (q : Bool) → not q ≡ true → q ≡ false
    negated true i = sym i
    negated false i = refl

    behind_all : (f : First) (b : Best) → IsGraphAt a.graphs b.graph b.offer.graph → is_first_behind (Some f) n (Some b) ≡ true
        → (x : Offer) → is_led x.weight x.logical (Some f) ≡ true → x.graph ≡ l.dag.spec.dag_id → ranks_before x b.offer ≡ false
    behind_all f b placed c x ready graph =
        let no : comes_first x.weight x.logical f ≡ false = negated (comes_first x.weight x.logical f) ready in
        not_after x b.offer (cases (not_first x.weight x.logical f.weight f.logical no) (behind_cases f n b c))
      where
        names : b.graph < n → name_cmp b.offer.graph x.graph ≡ Less
        names lower =
            let before : graph_before placed.loaded l ≡ true = graphs_rise a.graphs b.graph n placed.loaded l sound.graphs_by_id placed.there there lower in
            let left : placed.loaded.dag.spec.dag_id ≡ b.offer.graph = same_is placed.loaded.dag.spec.dag_id b.offer.graph placed.named in
            ap (λ i. name_cmp i x.graph) (sym left) ∙ (ap (name_cmp placed.loaded.dag.spec.dag_id) graph ∙ less_is (name_cmp placed.loaded.dag.spec.dag_id l.dag.spec.dag_id) before)

        cases : (x.weight < f.weight) ⊎ ((x.weight ≡ f.weight) × (f.logical ≤ x.logical)) → (f.weight < b.offer.weight) ⊎ ((f.weight ≡ b.offer.weight) × ((b.offer.logical < f.logical) ⊎ ((b.offer.logical ≡ f.logical) × (b.graph < n))))
            → (x.weight < b.offer.weight) ⊎ ((x.weight ≡ b.offer.weight) × ((b.offer.logical < x.logical) ⊎ ((b.offer.logical ≡ x.logical) × (name_cmp b.offer.graph x.graph ≡ Less))))
        cases (inl i) (inl j) = inl (omega (arith, i, j))
        cases (inl i) (inr j) = inl (omega (arith, i, j.0))
        cases (inr i) (inl j) = inl (omega (arith, i.0, j))
        cases (inr i) (inr (j, inl k)) = inr (i.0 ∙ j, inl (omega (arith, i.1, k)))
        cases (inr i) (inr (j, inr k)) = by_bool {C = (x.weight < b.offer.weight) ⊎ ((x.weight ≡ b.offer.weight) × ((b.offer.logical < x.logical) ⊎ ((b.offer.logical ≡ x.logical) × (name_cmp b.offer.graph x.graph ≡ Less))))} (nat_lt b.offer.logical x.logical)
            (λ t. inr (i.0 ∙ j, inl (ltb-true b.offer.logical x.logical t)))
            (λ t. let u = ltb-false b.offer.logical x.logical t in inr (i.0 ∙ j, inr (omega (arith, u, i.1, k.0), names k.1)))

    by : (f : Option First) (b : Option Best) → ((x : Offer) → IsEligible a x → Q x ≡ true → (is_led x.weight x.logical f ≡ true) × (x.graph ≡ l.dag.spec.dag_id)) → is_first_behind f n b ≡ true → IsBestOf P a b → IsBestOf (λ x. P x || Q x) a b
    by None None l c k = λ x e on. by_bool {C = fits a x ≡ false} (P x) (λ i. k x e i) (λ i. absurd (true≢false (sym ((l x e (sym (ap (λ q. q || Q x) i) ∙ on)).0))))
    by None (Some b) l c k = widen P Q a b k (λ x e on fit. absurd (true≢false (sym ((l x e on).0))))
    by (Some f) None l c k = absurd (true≢false (sym c))
    by (Some f) (Some b) l c k = widen P Q a b k (λ x e on fit. behind_all f b k.placed c x (l x e on).0 (l x e on).1)

-- what stands at its place is ready, where no moment has come, so what leads the place leads it
pub led_there : (a : Schedule) (n : ℕ) (g : Dag) (s : ShelfValue) (soonest : Option ℕ) (first : Option First) (x : Offer) → IsLoaded a n g s.weights → IsSoonest s soonest → is_ahead a.now soonest ≡ true → IsEligible a x → stands_on a.now g.spec.dag_id s x ≡ true
    → ((q : Queue) → slice_get s.weights x.place ≡ Some x.weight → slice_get s.queues x.place ≡ Some q → is_in q.ready.keys x.logical ≡ true → is_led x.weight x.logical first ≡ true)
    → (is_led x.weight x.logical first ≡ true) × (x.graph ≡ g.spec.dag_id)
led_there a n g s soonest first x loaded soon ahead e on lead =
    let w = found_parts a.now g.spec.dag_id s x on in
    let t = task_offer a g x.place (x.logical ∷ []) x loaded.dag e (own_place g.spec.dag_id x w.graph) in
    let within = place_there a g x loaded.dag w.graph e in
    let weight : slice_get s.weights x.place ≡ Some (get_or s.weights x.place 0) = slice_get-get_or s.weights x.place 0 (omega (arith, within, loaded.weights.long)) in
    let is : get_or s.weights x.place 0 ≡ x.weight = loaded.weights.each x.place within ∙ sym t.weight in (
      elim (or_cases (is_in w.queue.ready.keys x.logical) (has_waited a.now w.queue x.logical) w.found) as (λ _. is_led x.weight x.logical first ≡ true) [
        | inl i ↦ lead w.queue (weight ∙ ap (λ v. Some v) is) w.queue_is i
        | inr i ↦ let r = waited_moment a.now x.logical w.queue.waiting.keys i in absurd (none_waits a.now r.0 soonest ahead (soon x.place r.0 w.queue refl w.queue_is r.1.0) r.1.1)
      ],
      w.graph,
    )

-- what was chosen ranks before all of the kind
pub kind_behind : (P : Offer → Bool) (a : Schedule) (n : ℕ) (g : Dag) (s : ShelfValue) (kind : ℕ) (first : Option First) (soonest : Option ℕ) (best : Option Best) → IsSound a → IsLoaded a n g s.weights → IsLedBy s kind first → IsSoonest s soonest
    → is_first_behind first n best ≡ true → is_ahead a.now soonest ≡ true → IsBestOf P a best → IsBestOf (λ x. P x || stands_of a.now g.spec.dag_id s kind x) a best
kind_behind P a n g s kind first soonest best sound loaded led soon behind ahead h = behind_by P (stands_of a.now g.spec.dag_id s kind) a n loaded.at.loaded.loaded first best sound loaded.at.loaded.there
    (λ x e on.
    let k = kind_there kind (slice_get s.kinds x.place) (and_left _ _ on) in
    let l = led_there a n g s soonest first x loaded soon ahead e (and_right (is_kind kind (slice_get s.kinds x.place)) _ on) (λ q w c i. led x.place x.weight x.logical q refl k w c i) in
    (l.0, l.1 ∙ sym (same_is loaded.at.loaded.loaded.dag.spec.dag_id g.spec.dag_id loaded.at.loaded.named))) behind h

-- ---- places of a kind
pub places_first : (P : Offer → Bool) (a : Schedule) (id : List ℕ) (s : ShelfValue) (kind : ℕ) (best : Option Best) → IsBestOf P a best → IsBestOf (λ x. P x || stands_before a.now id s kind 0 x) a best
places_first P a id s kind best h = fewer P (λ x. P x || stands_before a.now id s kind 0 x) a best
    (λ x e on. by_bool {C = P x ≡ true} (P x) (λ i. i) (λ i. let l = ltb-true x.place 0 (and_left _ _ (sym (ap (λ q. q || stands_before a.now id s kind 0 x) i) ∙ on)) in absurd (omega (arith, l)))) h

-- a place of the kind
pub place_chosen : (P : Offer → Bool) (a : Schedule) (id : List ℕ) (s : ShelfValue) (kind n : ℕ) (q : Queue) (best : Option Best) → slice_get s.queues n ≡ Some q
    → IsBestOf (λ x. (P x || stands_before a.now id s kind n x) || stands_found a.now id n q x) a best → IsBestOf (λ x. P x || stands_before a.now id s kind (n + 1) x) a best
place_chosen P a id s kind n q best queue_is h = join P (stands_before a.now id s kind n) (stands_found a.now id n q) (stands_before a.now id s kind (n + 1)) a best split h
  where
    split : (x : Offer) → IsEligible a x → stands_before a.now id s kind (n + 1) x ≡ true → (stands_before a.now id s kind n x ≡ true) ⊎ (stands_found a.now id n q x ≡ true)
    split x e on = by_bool {C = (stands_before a.now id s kind n x ≡ true) ⊎ (stands_found a.now id n q x ≡ true)} (nat_lt x.place n)
        (λ t. inl (and_from (nat_lt x.place n) _ t (and_right (nat_lt x.place (n + 1)) _ on)))
        (λ t.
        let low = ltb-true x.place (n + 1) (and_left _ _ on) in
        let high = ltb-false x.place n t in
        let here : x.place ≡ n = omega (arith, low, high) in
        let w = found_parts a.now id s x (and_right (is_kind kind (slice_get s.kinds x.place)) _ (and_right (nat_lt x.place (n + 1)) _ on)) in
        let same_queue : w.queue ≡ q = same_Some w.queue q (sym w.queue_is ∙ (ap (slice_get s.queues) here ∙ queue_is)) in
        let graph : same x.graph id ≡ true = ap (λ i. same i id) w.graph ∙ same_itself id in
        let place : nat_eq x.place n ≡ true = eq-eqb x.place n here in
        elim (or_cases (is_in q.ready.keys x.logical) (has_waited a.now q x.logical) (ap (λ (z : Queue). is_found a.now z x.logical) (sym same_queue) ∙ w.found)) [
          | inl i ↦ inr (ap (λ b. b || stands_waiting a.now id n q.waiting.keys x) (and_from (same x.graph id) _ graph (and_from (nat_eq x.place n) _ place i)))
          | inr i ↦ inr (either (stands_among id n q.ready.keys x) _ (and_from (same x.graph id) _ graph (and_from (nat_eq x.place n) _ place i)))
        ])
      where
        either : (p r : Bool) → r ≡ true → (p || r) ≡ true
        either true r i = refl
        either false r i = i

-- a place of another kind
pub place_passed : (P : Offer → Bool) (a : Schedule) (id : List ℕ) (s : ShelfValue) (kind other n : ℕ) (best : Option Best) → slice_get s.kinds n ≡ Some other → other ≢ kind
    → IsBestOf (λ x. P x || stands_before a.now id s kind n x) a best → IsBestOf (λ x. P x || stands_before a.now id s kind (n + 1) x) a best
place_passed P a id s kind other n best kind_is apart h = less P (stands_before a.now id s kind n) (stands_before a.now id s kind (n + 1)) a best
    (λ x e on. by_bool {C = stands_before a.now id s kind n x ≡ true} (nat_lt x.place n)
    (λ t. and_from (nat_lt x.place n) _ t (and_right (nat_lt x.place (n + 1)) _ on))
    (λ t.
    let low = ltb-true x.place (n + 1) (and_left _ _ on) in
    let high = ltb-false x.place n t in
    let here : x.place ≡ n = omega (arith, low, high) in
    let k = kind_there kind (slice_get s.kinds x.place) (and_left _ _ (and_right (nat_lt x.place (n + 1)) _ on)) in
    absurd (apart (same_Some other kind (sym kind_is ∙ (ap (slice_get s.kinds) (sym here) ∙ k)))))) h

-- all places
pub places_over : (P : Offer → Bool) (a : Schedule) (id : List ℕ) (s : ShelfValue) (kind n : ℕ) (best : Option Best) → length s.queues ≤ n
    → IsBestOf (λ x. P x || stands_before a.now id s kind n x) a best → IsBestOf (λ x. P x || stands_of a.now id s kind x) a best
places_over P a id s kind n best l h = less P (stands_before a.now id s kind n) (stands_of a.now id s kind) a best
    (λ x e on.
    let w = found_parts a.now id s x (and_right (is_kind kind (slice_get s.kinds x.place)) _ on) in
    let within = slice_get_within s.queues x.place w.queue w.queue_is in
    and_from (nat_lt x.place n) _ (lt-ltb x.place n (omega (arith, within, l))) on) h

-- a place of a kind whose sample fits
pub kind_fitting : (a : Schedule) (g : Dag) (s : ShelfValue) (p kind sample : ℕ) → FitsShelf g s → p < length s.queues → slice_get s.kinds p ≡ Some kind → slice_get s.samples kind ≡ Some sample
    → fits_with a g.spec.dag_id (task_of g sample).pool (task_of g sample).pool_slots ≡ true → IsFitting a g p
kind_fitting a g s p kind sample f within kind_is sample_is fit =
    let l : p < length g.tasks = omega (arith, within, f.long) in
    record { within = l; fits = kind_alike a g s p kind sample f l kind_is sample_is ∙ fit }
