-- Of positions that rise, those of the runs of one graph stand one after another.
use Rattle.std.proofs.Common.{◌≡◌, ◌∙◌, refl, sym, ap, ℕ, zero, suc, ◌+◌, ◌-◌, ◌<◌, ◌≤◌, Bool, true, false, not, ◌&&◌, cond, List, [], ◌∷◌, length, filter, take, drop, get_or, slice_range, slice_get, nat_lt, Option, Some, None, true≢false, inl, inr, ◌⊎◌, arith}
use Rattle.std.specs.List.Sorted.{IsPartitionedBy, IsPartitionPoint}
use Rattle.std.specs.Ordering.{is_eq, nat_cmp, ordering_reverse, ordering_then}
use Rattle.std.specs.declared.cmp.Ordering.{Ordering}
use Rattle.std.specs.declared.cmp.Ordering.TheVariants.{Less, Equal, Greater}
use Rattle.std.proofs.lemmas.Bool.{cases_lt, ltb-true}
use Rattle.std.proofs.lemmas.Cmp.{nat_list_cmp_total}
use Rattle.std.proofs.lemmas.Map.Text.{is_eq-slice_cmp}
use Rattle.std.proofs.lemmas.Option.{slice_get_within, slice_get-get_or, get_or_from_slice_get}
use Rattle.std.proofs.Math.Nat.{eq-or-lt_of_le}
use Rattle.sched_state.specs.Lists.{is_less, name_cmp, same}
use Rattle.sched_state.specs.declared.runs.Run.{Run}
use Rattle.sched_state.proofs.ElementLemmas.{element_at}
use Rattle.sched_model.specs.Lists.{rises}
use Rattle.sched_model.specs.Schedule.{run_before}
use Rattle.run_lists.specs.Orders.{graph_below, graph_up_to, holds_of, holds_at}
use Rattle.run_lists.specs.Positions.{positions_from, positions_where, stands, stands_in}
use Rattle.run_lists.specs.declared.positions.Standing.{Standing}
use Rattle.run_lists.proofs.OrderLemmas.{less_only, rise_pair, turned}
use Rattle.run_lists.proofs.PlaceLemmas.{by_bool, rises_get}

-- ---- of the positions of runs those of which something more holds
pub first_dropped : (rs : List Run) (n : ℕ) (x : Run) (xs : List Run) → drop n rs ≡ x ∷ xs → (slice_get rs n ≡ Some x) × (drop (suc n) rs ≡ xs)
first_dropped [] zero x xs e = absurd (let c : ◌≡◌ {A = List Run} [] (x ∷ xs) = e in cc)
first_dropped [] (suc n) x xs e = absurd (let c : ◌≡◌ {A = List Run} [] (x ∷ xs) = e in cc)
first_dropped (r ∷ rs) zero x xs e = let c : ◌≡◌ {A = List Run} (r ∷ rs) (x ∷ xs) = e in (let i : r ≡ x = cc in ap (λ (q : Run). Some q) i, let j : rs ≡ xs = cc in j)
first_dropped (r ∷ rs) (suc n) x xs e = first_dropped rs n x xs e

picked : (b c : Bool) (g : ℕ → Bool) (i : ℕ) (ks js : List ℕ) → g i ≡ c → filter g ks ≡ js → filter g (cond b (i ∷ ks) ks) ≡ cond (c && b) (i ∷ js) js
picked true true g i ks js e t = ap (λ d. cond d (i ∷ filter g ks) (filter g ks)) e ∙ ap (λ ns. i ∷ ns) t
picked true false g i ks js e t = ap (λ d. cond d (i ∷ filter g ks) (filter g ks)) e ∙ t
picked false true g i ks js e t = t
picked false false g i ks js e t = t

both_from : (q p : Run → Bool) (all xs : List Run) (i : ℕ) → drop i all ≡ xs → filter (holds_at q all) (positions_from p i xs) ≡ positions_from (λ r. q r && p r) i xs
both_from q p all [] i d = refl
both_from q p all (x ∷ xs) i d =
    let f = first_dropped all i x xs d in
    picked (p x) (q x) (holds_at q all) i (positions_from p (suc i) xs) (positions_from (λ r. q r && p r) (suc i) xs) (ap (holds_of q) f.0) (both_from q p all xs (suc i) f.1)

pub stand_in : (id : List ℕ) (standing : Standing) (rs : List Run) (ps : List ℕ) → ps ≡ positions_where (stands standing) rs
    → filter (holds_at (λ (r : Run). same r.graph id) rs) ps ≡ positions_where (stands_in id standing) rs
stand_in id standing rs ps e = ap (filter (holds_at (λ (r : Run). same r.graph id) rs)) e ∙ both_from (λ (r : Run). same r.graph id) (stands standing) rs rs 0 refl

-- ---- a test that holds between two places, and nowhere else
none_passes : (p : ℕ → Bool) (ks : List ℕ) → ((i x : ℕ) → slice_get ks i ≡ Some x → p x ≡ false) → filter p ks ≡ []
none_passes p [] h = refl
none_passes p (k ∷ ks) h = ap (λ b. cond b (k ∷ filter p ks) (filter p ks)) (h 0 k refl) ∙ none_passes p ks (λ i x e. h (suc i) x e)

between : (p : ℕ → Bool) (ks : List ℕ) (low n : ℕ) → low + n ≤ length ks → ((i x : ℕ) → slice_get ks i ≡ Some x → i < low → p x ≡ false)
    → ((i x : ℕ) → slice_get ks i ≡ Some x → low ≤ i → i < low + n → p x ≡ true) → ((i x : ℕ) → slice_get ks i ≡ Some x → low + n ≤ i → p x ≡ false) → take n (drop low ks) ≡ filter p ks
between p [] zero zero l a b c = refl
between p [] zero (suc n) l a b c = absurd (omega (arith, l))
between p [] (suc low) n l a b c = absurd (omega (arith, l))
between p (k ∷ ks) zero zero l a b c = sym (none_passes p (k ∷ ks) (λ i x e. c i x e (omega arith)))
between p (k ∷ ks) zero (suc n) l a b c =
    ap (λ ns. k ∷ ns) (between p ks zero n (omega (arith, l)) (λ i x e m. absurd (omega (arith, m))) (λ i x e m o. b (suc i) x e (omega arith) (omega (arith, o))) (λ i x e m. c (suc i) x e (omega (arith, m))))
    ∙ sym (ap (λ d. cond d (k ∷ filter p ks) (filter p ks)) (b 0 k refl (omega arith) (omega arith)))
between p (k ∷ ks) (suc low) n l a b c =
    between p ks low n (omega (arith, l)) (λ i x e m. a (suc i) x e (omega (arith, m))) (λ i x e m o. b (suc i) x e (omega (arith, m)) (omega (arith, o))) (λ i x e m. c (suc i) x e (omega (arith, m)))
    ∙ sym (ap (λ d. cond d (k ∷ filter p ks) (filter p ks)) (a 0 k refl (omega arith)))

-- ---- the order of graphs
less_then : (o m : Ordering) → is_less (ordering_then o m) ≡ true → (o ≡ Less) ⊎ (o ≡ Equal)
less_then Less m e = inl refl
less_then Equal m e = inr refl
less_then Greater m e = absurd (true≢false (sym e))

equal_back : (o m : Ordering) → o ≡ ordering_reverse m → o ≡ Equal → m ≡ Equal
equal_back o Less e f = absurd (let c : Equal ≡ Greater = sym f ∙ e in cc)
equal_back o Equal e f = refl
equal_back o Greater e f = absurd (let c : Equal ≡ Less = sym f ∙ e in cc)

-- what stands before a run of a graph below is of one, too
below_before : (id : List ℕ) (r q : Run) → run_before r q ≡ true → graph_below id q ≡ true → graph_below id r ≡ true
below_before id r q e f = elim (less_then (name_cmp r.graph q.graph) (nat_cmp r.logical q.logical) e) [
  | inl l ↦ ap is_less (nat_list_cmp_total.trans r.graph q.graph id l (less_only (name_cmp q.graph id) f))
  | inr s ↦ ap is_less (nat_list_cmp_total.congr r.graph q.graph id s) ∙ f
]

-- what stands after a run of a graph above is of one, too
above_after : (id : List ℕ) (r q : Run) → run_before r q ≡ true → is_less (name_cmp id r.graph) ≡ true → is_less (name_cmp id q.graph) ≡ true
above_after id r q e f = elim (less_then (name_cmp r.graph q.graph) (nat_cmp r.logical q.logical) e) [
  | inl l ↦ ap is_less (nat_list_cmp_total.trans id r.graph q.graph (less_only (name_cmp id r.graph) f) l)
  | inr s ↦
      let back : name_cmp q.graph r.graph ≡ Equal = equal_back (name_cmp r.graph q.graph) (name_cmp q.graph r.graph) (nat_list_cmp_total.antisymm r.graph q.graph) s in
      ap is_less (nat_list_cmp_total.antisymm id q.graph ∙ (ap ordering_reverse (nat_list_cmp_total.congr q.graph r.graph id back) ∙ sym (nat_list_cmp_total.antisymm id r.graph))) ∙ f
]

pub up_to_before : (id : List ℕ) (r q : Run) → run_before r q ≡ true → graph_up_to id q ≡ true → graph_up_to id r ≡ true
up_to_before id r q e f = by_bool {C = graph_up_to id r ≡ true} (is_less (name_cmp id r.graph))
    (λ g. absurd (true≢false (sym f ∙ ap not (above_after id r q e g))))
    (λ g. ap not g)

-- ---- what a test of a position tells
pub record Held (p : Run → Bool) (rs : List Run) (n : ℕ) : Type 0 where
  pub run : Run
  pub there : slice_get rs n ≡ Some run
  pub holds : p run ≡ true

held_there : (p : Run → Bool) (rs : List Run) (n : ℕ) → holds_at p rs n ≡ true → Held p rs n
held_there p rs n e = elim (slice_get rs n) as (λ o. slice_get rs n ≡ o → Held p rs n) [
  | None ↦ λ f. absurd (true≢false (sym (sym (ap (holds_of p) f) ∙ e)))
  | Some r ↦ λ f. record { run = r; there = f; holds = sym (ap (holds_of p) f) ∙ e }
] refl

-- a test that holds before each run of which it holds parts positions that rise
held_parted : (p : Run → Bool) → ((r q : Run) → run_before r q ≡ true → p q ≡ true → p r ≡ true) → (rs : List Run) (ps : List ℕ) → rises run_before rs ≡ true → rises nat_lt ps ≡ true → IsPartitionedBy (holds_at p rs) ps
held_parted p f rs ps rise up i j d l m h = elim (eq-or-lt_of_le l) [
  | inl e ↦ ap (λ k. holds_at p rs (get_or ps k d)) e ∙ h
  | inr w ↦
      let low = ltb-true _ _ (rises_get ps i j (get_or ps i d) (get_or ps j d) up (slice_get-get_or ps i d (omega (arith, w, m))) (slice_get-get_or ps j d m) w) in
      let t = held_there p rs (get_or ps j d) h in
      let within = slice_get_within rs (get_or ps j d) t.run t.there in
      let s = element_at rs (get_or ps i d) (omega (arith, low, within)) in
      ap (holds_of p) s.1 ∙ f s.0 t.run (rise_pair rs (get_or ps i d) (get_or ps j d) s.0 t.run rise low s.1 t.there) t.holds
]

pub below_parted : (id : List ℕ) (rs : List Run) (ps : List ℕ) → rises run_before rs ≡ true → rises nat_lt ps ≡ true → IsPartitionedBy (holds_at (graph_below id) rs) ps
below_parted id rs ps rise up = held_parted (graph_below id) (below_before id) rs ps rise up

pub up_to_parted : (id : List ℕ) (rs : List Run) (ps : List ℕ) → rises run_before rs ≡ true → rises nat_lt ps ≡ true → IsPartitionedBy (holds_at (graph_up_to id) rs) ps
up_to_parted id rs ps rise up = held_parted (graph_up_to id) (up_to_before id) rs ps rise up

-- ---- before the first place, between both, and from the second on
eq_less : (o : Ordering) → is_less o ≡ true → is_eq o ≡ false
eq_less Less e = refl
eq_less Equal e = absurd (true≢false (sym e))
eq_less Greater e = absurd (true≢false (sym e))

eq_more : (o m : Ordering) → o ≡ ordering_reverse m → is_less m ≡ true → is_eq o ≡ false
eq_more o Less e f = ap is_eq e
eq_more o Equal e f = absurd (true≢false (sym f))
eq_more o Greater e f = absurd (true≢false (sym f))

eq_only : (o m : Ordering) → o ≡ ordering_reverse m → is_less o ≡ false → not (is_less m) ≡ true → is_eq o ≡ true
eq_only o Less e f g = absurd (true≢false (sym g))
eq_only o Equal e f g = ap is_eq e
eq_only o Greater e f g = absurd (true≢false (sym (ap is_less e) ∙ f))

not_above : (o m : Ordering) → o ≡ ordering_reverse m → is_less o ≡ true → not (is_less m) ≡ true
not_above o Less e f = absurd (true≢false (sym f ∙ ap is_less e))
not_above o Equal e f = refl
not_above o Greater e f = refl

pub below_other : (id : List ℕ) (o : Option Run) → holds_of (graph_below id) o ≡ true → holds_of (λ (r : Run). same r.graph id) o ≡ false
below_other id None e = refl
below_other id (Some r) e = sym (is_eq-slice_cmp r.graph id) ∙ eq_less (name_cmp r.graph id) e

up_to_below : (id : List ℕ) (o : Option Run) → holds_of (graph_below id) o ≡ true → holds_of (graph_up_to id) o ≡ true
up_to_below id None e = e
up_to_below id (Some r) e = not_above (name_cmp r.graph id) (name_cmp id r.graph) (nat_list_cmp_total.antisymm r.graph id) e

pub here_same : (id : List ℕ) (o : Option Run) → holds_of (graph_below id) o ≡ false → holds_of (graph_up_to id) o ≡ true → holds_of (λ (r : Run). same r.graph id) o ≡ true
here_same id None e f = f
here_same id (Some r) e f = sym (is_eq-slice_cmp r.graph id) ∙ eq_only (name_cmp r.graph id) (name_cmp id r.graph) (nat_list_cmp_total.antisymm r.graph id) e f

behind_other : (id : List ℕ) (o : Option Run) → holds_of (graph_up_to id) o ≡ false → holds_of (λ (r : Run). same r.graph id) o ≡ false
behind_other id None e = refl
behind_other id (Some r) e = sym (is_eq-slice_cmp r.graph id) ∙ eq_more (name_cmp r.graph id) (name_cmp id r.graph) (nat_list_cmp_total.antisymm r.graph id) (turned (is_less (name_cmp id r.graph)) e)

abbrev pub IsPlace : (ℕ → Bool) → List ℕ → ℕ → Type 0
IsPlace p ps n = IsPartitionPoint (λ k. p k ≡ true) (λ k. p k ≡ false) ps n

passed : (p : ℕ → Bool) (ps : List ℕ) (n i x : ℕ) → IsPlace p ps n → slice_get ps i ≡ Some x → i < n → p x ≡ true
passed p ps n i x h e l = ap p (sym (get_or_from_slice_get ps i x x e)) ∙ h.0 i x (omega arith) l

reached : (p : ℕ → Bool) (ps : List ℕ) (n i x : ℕ) → IsPlace p ps n → slice_get ps i ≡ Some x → n ≤ i → p x ≡ false
reached p ps n i x h e l = ap p (sym (get_or_from_slice_get ps i x x e)) ∙ h.1 i x l (slice_get_within ps i x e)

pub places_in_order : (id : List ℕ) (rs : List Run) (ps : List ℕ) (low high : ℕ) → low ≤ length ps → IsPlace (holds_at (graph_below id) rs) ps low → IsPlace (holds_at (graph_up_to id) rs) ps high → low ≤ high
places_in_order id rs ps low high l a b = elim (cases_lt high low) [
  | inr done ↦ done
  | inl less ↦
      let x : ℕ = get_or ps high 0 in
      let there : slice_get ps high ≡ Some x = slice_get-get_or ps high 0 (omega (arith, l, less)) in
      absurd (true≢false (sym (up_to_below id (slice_get rs x) (passed (holds_at (graph_below id) rs) ps low high x a there less)) ∙ reached (holds_at (graph_up_to id) rs) ps high high x b there (omega arith)))
]

pub between_places : (id : List ℕ) (rs : List Run) (ps : List ℕ) (low high : ℕ) → low ≤ length ps → high ≤ length ps → IsPlace (holds_at (graph_below id) rs) ps low → IsPlace (holds_at (graph_up_to id) rs) ps high
    → slice_range ps low high ≡ filter (holds_at (λ (r : Run). same r.graph id) rs) ps
between_places id rs ps low high l m a b =
    let order : low ≤ high = places_in_order id rs ps low high l a b in
    between (holds_at (λ (r : Run). same r.graph id) rs) ps low (high - low) (omega (arith, order, m))
    (λ i x e less. below_other id (slice_get rs x) (passed (holds_at (graph_below id) rs) ps low i x a e less))
    (λ i x e from to. here_same id (slice_get rs x) (reached (holds_at (graph_below id) rs) ps low i x a e from) (passed (holds_at (graph_up_to id) rs) ps high i x b e (omega (arith, order, to))))
    (λ i x e from. behind_other id (slice_get rs x) (reached (holds_at (graph_up_to id) rs) ps high i x b e (omega (arith, order, from))))
