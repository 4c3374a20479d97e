-- Bounds of what is ready, as queues are looked at one after another.
use Rattle.std.proofs.Common.{◌≡◌, ◌≢◌, ◌∙◌, ◌⊎◌, inl, inr, refl, sym, ap, subst, ℕ, zero, suc, ◌+◌, ◌<◌, ◌≤◌, List, [], ◌∷◌, ◌++◌, Bool, true, false, not, cond, min, ◌||◌, length, map, get_or, true≢false, Option, Some, None, slice_get, nat_lt, nat_eq, arith}
use Rattle.std.proofs.Math.ListN.{set}
use Rattle.std.proofs.lemmas.Bool.{eqb-true, eq-eqb, ltb-true, ltb-false, lt-ltb, le-leb, leb-true}
use Rattle.std.proofs.lemmas.Bool.Decides.{nat_tests}
use Rattle.std.proofs.lemmas.List.{length-set}
use Rattle.std.proofs.lemmas.Option.{none-some, same_Some, slice_get_read, slice_get_within}
use Rattle.std.specs.List.{AllByRecursion}
use Rattle.std.specs.List.Sorted.{IsStrictlySortedBy}
use Rattle.std.specs.Ordering.{nat_cmp, ordering_then}
use Rattle.std.specs.declared.cmp.Ordering.{Ordering}
use Rattle.std.specs.declared.cmp.Ordering.TheVariants.{Less}
use Rattle.dag_check.specs.Orders.{is_in}
use Rattle.sched_model.proofs.sched_state.ElementLemmas.{element_at}
use Rattle.sched_laws.proofs.DecisionLemmas.{by_bool}
use Rattle.sched_ready.specs.Leading.{IsLeast, IsLedOn, IsShaped, IsSoonestOn, LeadsOn, comes_first, everywhere, is_led, is_reached, lowered, lowered_to, moments_of}
use Rattle.sched_ready.specs.Shelves.{IsLed, Leads, ShelfValue, shelf_value}
use Rattle.sched_ready.specs.declared.leading.First.{First}
use Rattle.sched_ready.specs.declared.queues.Queue.{Queue}

-- ---- places of a list
pub get_set_same : {X : Type 0} (xs : List X) (i : ℕ) (y : X) → i < length xs → slice_get (set xs i y) i ≡ Some y
get_set_same [] i y l = absurd (omega arith)
get_set_same (x ∷ xs) zero y l = refl
get_set_same (x ∷ xs) (suc i) y l = get_set_same xs i y (omega arith)

pub get_set_other : {X : Type 0} (xs : List X) (i j : ℕ) (y : X) → j ≢ i → slice_get (set xs i y) j ≡ slice_get xs j
get_set_other [] i j y n = refl
get_set_other (x ∷ xs) zero zero y n = absurd (n refl)
get_set_other (x ∷ xs) zero (suc j) y n = refl
get_set_other (x ∷ xs) (suc i) zero y n = refl
get_set_other (x ∷ xs) (suc i) (suc j) y n = get_set_other xs i j y (λ e. n (ap suc e))

pub get_last : {X : Type 0} (xs : List X) (x y : X) (k : ℕ) → slice_get (xs ++ x ∷ []) k ≡ Some y → (slice_get xs k ≡ Some y) ⊎ ((k ≡ length xs) × (x ≡ y))
get_last [] x y zero e = inr (refl, same_Some x y e)
get_last [] x y (suc k) e = absurd (none-some y e)
get_last (z ∷ xs) x y zero e = inl e
get_last (z ∷ xs) x y (suc k) e = elim (get_last xs x y k e) [ inl i ↦ inl i | inr i ↦ inr (ap suc i.0, i.1) ]

pub get_first : {X : Type 0} (xs ys : List X) (y : X) (k : ℕ) → slice_get xs k ≡ Some y → slice_get (xs ++ ys) k ≡ Some y
get_first [] ys y k e = absurd (none-some y e)
get_first (z ∷ xs) ys y zero e = e
get_first (z ∷ xs) ys y (suc k) e = get_first xs ys y k e

pub one_longer : {X : Type 0} (xs : List X) (x : X) → length (xs ++ x ∷ []) ≡ length xs + 1
one_longer [] x = refl
one_longer (y ∷ xs) x = let l = one_longer xs x in omega (arith, l)

-- what is read at a place stands there
pub read_at : {X : Type 0} (xs : List X) (i : ℕ) (x d : X) → i < length xs → x ≡ get_or xs i d → slice_get xs i ≡ Some x
read_at [] i x d inside e = absurd (omega arith)
read_at (y ∷ xs) zero x d inside e = ap (λ z. Some z) (sym e)
read_at (y ∷ xs) (suc i) x d inside e = read_at xs i x d (omega arith) e

-- ---- one bound
-- which of two is first
first_cases : (w d v e : ℕ) → comes_first w d (record { weight = v; logical = e }) ≡ true → (v < w) ⊎ ((w ≡ v) × (d < e))
first_cases w d v e h = grind (arith, nat_tests)

pub not_first : (w d v e : ℕ) → comes_first w d (record { weight = v; logical = e }) ≡ false → (w < v) ⊎ ((w ≡ v) × (e ≤ d))
not_first w d v e h = grind (arith, nat_tests)

is_not_first : (w d v e : ℕ) → (w < v) ⊎ ((w ≡ v) × (e ≤ d)) → comes_first w d (record { weight = v; logical = e }) ≡ false
is_not_first w d v e h = grind (arith, nat_tests)

-- ---- a bound that is lowered
negated : (b : Bool) → not b ≡ true → b ≡ false
negated true e = sym e
negated false e = refl

-- what is led stays led
lowered_keeps : (w d v : ℕ) (first : Option First) (date : Option ℕ) → is_led w d first ≡ true → is_led w d (lowered first v date) ≡ true
lowered_keeps w d v first None h = h
lowered_keeps w d v None (Some e) h = absurd (true≢false (sym h))
lowered_keeps w d v (Some f) (Some e) h = by (comes_first v e f) refl
  where
    was : comes_first w d (record { weight = f.weight; logical = f.logical }) ≡ false
    was = negated (comes_first w d f) h

    by : (b : Bool) → comes_first v e f ≡ b → is_led w d (Some (cond b (record { weight = v; logical = e }) f)) ≡ true
    by false k = h
    by true k = ap not (is_not_first w d v e (later (not_first w d f.weight f.logical was) (first_cases v e f.weight f.logical k)))
      where
        later : (w < f.weight) ⊎ ((w ≡ f.weight) × (f.logical ≤ d)) → (f.weight < v) ⊎ ((v ≡ f.weight) × (e < f.logical)) → (w < v) ⊎ ((w ≡ v) × (e ≤ d))
        later (inl a) (inl b) = inl (omega arith)
        later (inl a) (inr b) = inl (omega (arith, b.0))
        later (inr a) (inl b) = inl (omega (arith, a.0))
        later (inr a) (inr b) = inr (a.0 ∙ sym b.0, omega (arith, a.1, b.1))

-- no date from the one on that it was lowered to ranks before it
lowered_leads : (w d e : ℕ) (first : Option First) → e ≤ d → is_led w d (lowered first w (Some e)) ≡ true
lowered_leads w d e None l = ap not (is_not_first w d w e (inr (refl, l)))
lowered_leads w d e (Some f) l = by (comes_first w e f) refl
  where
    by : (b : Bool) → comes_first w e f ≡ b → is_led w d (Some (cond b (record { weight = w; logical = e }) f)) ≡ true
    by true k = ap not (is_not_first w d w e (inr (refl, l)))
    by false k = ap not (is_not_first w d f.weight f.logical (later (not_first w e f.weight f.logical k)))
      where
        later : (w < f.weight) ⊎ ((w ≡ f.weight) × (f.logical ≤ e)) → (w < f.weight) ⊎ ((w ≡ f.weight) × (f.logical ≤ d))
        later (inl a) = inl a
        later (inr a) = inr (a.0, omega (arith, a.1))

-- what is led by what the bound leads is led by the bound
pub led_through : (w d : ℕ) (f : First) (o : Option First) → is_led w d (Some f) ≡ true → is_led f.weight f.logical o ≡ true → is_led w d o ≡ true
led_through w d f None h k = absurd (true≢false (sym k))
led_through w d f (Some e) h k = ap not (is_not_first w d e.weight e.logical (later (not_first w d f.weight f.logical (negated (comes_first w d f) h)) (not_first f.weight f.logical e.weight e.logical (negated (comes_first f.weight f.logical e) k))))
  where
    later : (w < f.weight) ⊎ ((w ≡ f.weight) × (f.logical ≤ d)) → (f.weight < e.weight) ⊎ ((f.weight ≡ e.weight) × (e.logical ≤ f.logical)) → (w < e.weight) ⊎ ((w ≡ e.weight) × (e.logical ≤ d))
    later (inl a) (inl b) = inl (omega (arith, a, b))
    later (inl a) (inr b) = inl (omega (arith, a, b.0))
    later (inr a) (inl b) = inl (omega (arith, a.0, b))
    later (inr a) (inr b) = inr (a.0 ∙ b.0, omega (arith, a.1, b.1))

-- ---- the least of the bounds
-- of the first ones
abbrev pub IsLeastTo : ℕ → List (Option First) → Option First → Type 0
IsLeastTo n fs least = (k : ℕ) (f : First) → k < n → slice_get fs k ≡ Some (Some f) → is_led f.weight f.logical least ≡ true

below_or_at : (k n : ℕ) → k < n + 1 → (k < n) ⊎ (k ≡ n)
below_or_at k n l = by_bool {C = (k < n) ⊎ (k ≡ n)} (nat_lt k n) (λ e. inl (ltb-true k n e)) (λ e. let m = ltb-false k n e in inr (omega (arith, m, l)))

pub least_more : (n : ℕ) (fs : List (Option First)) (first : First) (least : Option First) → slice_get fs n ≡ Some (Some first) → IsLeastTo n fs least → IsLeastTo (n + 1) fs (lowered least first.weight (Some first.logical))
least_more n fs first least there h k f l e = elim (below_or_at k n l) as (λ _. is_led f.weight f.logical (lowered least first.weight (Some first.logical)) ≡ true) [
  | inl i ↦ lowered_keeps f.weight f.logical first.weight least (Some first.logical) (h k f i e)
  | inr i ↦
      let is : first ≡ f = same_Some first f (same_Some (Some first) (Some f) (sym there ∙ (ap (slice_get fs) (sym i) ∙ e))) in
      subst (λ (g : First). is_led g.weight g.logical (lowered least first.weight (Some first.logical)) ≡ true) is (lowered_leads first.weight first.logical first.logical least (omega arith))
]

pub least_over : (n : ℕ) (fs : List (Option First)) (least : Option First) → slice_get fs n ≡ Some None → IsLeastTo n fs least → IsLeastTo (n + 1) fs least
least_over n fs least there h k f l e = elim (below_or_at k n l) as (λ _. is_led f.weight f.logical least ≡ true) [
  | inl i ↦ h k f i e
  | inr i ↦ absurd (none-some f (same_Some None (Some f) (sym there ∙ (ap (slice_get fs) (sym i) ∙ e))))
]

-- one of them is lowered, and so is the least
least_put : (fs : List (Option First)) (kind w : ℕ) (first least : Option First) (date : Option ℕ) → slice_get fs kind ≡ Some first → IsLeast fs least → IsLeast (set fs kind (lowered first w date)) (lowered least w date)
least_put fs kind w first least date there h k f e = by_bool {C = is_led f.weight f.logical (lowered least w date) ≡ true} (nat_eq k kind)
    (λ s.
    let is : lowered first w date ≡ Some f = same_Some _ (Some f) (sym (get_set_same fs kind (lowered first w date) (slice_get_within fs kind first there)) ∙ (ap (slice_get (set fs kind (lowered first w date))) (sym (eqb-true k kind s)) ∙ e)) in
    by date is)
    (λ s.
    let apart : k ≢ kind = λ i. true≢false (sym (eq-eqb k kind i) ∙ s) in
    lowered_keeps f.weight f.logical w least date (h k f (sym (get_set_other fs kind k (lowered first w date) apart) ∙ e)))
  where
    old : first ≡ Some f → is_led f.weight f.logical least ≡ true
    old i = h kind f (there ∙ ap (λ o. Some o) i)

    by : (d : Option ℕ) → lowered first w d ≡ Some f → is_led f.weight f.logical (lowered least w d) ≡ true
    by None i = old i
    by (Some d) i = low first i (λ j. old j)
      where
        low : (o : Option First) → lowered o w (Some d) ≡ Some f → (o ≡ Some f → is_led f.weight f.logical least ≡ true) → is_led f.weight f.logical (lowered least w (Some d)) ≡ true
        low None j was = subst (λ (g : First). is_led g.weight g.logical (lowered least w (Some d)) ≡ true) (same_Some _ f j) (lowered_leads w d d least (omega arith))
        low (Some g) j was = split (comes_first w d g) (same_Some _ f j)
          where
            split : (b : Bool) → cond b (record { weight = w; logical = d }) g ≡ f → is_led f.weight f.logical (lowered least w (Some d)) ≡ true
            split true c = subst (λ (z : First). is_led z.weight z.logical (lowered least w (Some d)) ≡ true) c (lowered_leads w d d least (omega arith))
            split false c = lowered_keeps f.weight f.logical w least (Some d) (was (ap (λ z. Some z) c))

sooner_keeps : (m : ℕ) (soonest : Option ℕ) (e : Option (ℕ × ℕ)) → is_reached m soonest ≡ true → is_reached m (lowered_to soonest e) ≡ true
sooner_keeps m soonest None h = h
sooner_keeps m None (Some e) h = absurd (true≢false (sym h))
sooner_keeps m (Some s) (Some e) h = let k : s ≤ m = leb-true s m h in let l : min s e.0 ≤ m = omega arith in le-leb (min s e.0) m l

sooner_reaches : (m : ℕ) (soonest : Option ℕ) (e : ℕ × ℕ) → e.0 ≤ m → is_reached m (lowered_to soonest (Some e)) ≡ true
sooner_reaches m None e l = le-leb e.0 m l
sooner_reaches m (Some s) e l = let k : min s e.0 ≤ m = omega arith in le-leb (min s e.0) m k

-- ---- the least key stands first
less_is : (x y : ℕ) → nat_cmp x y ≡ Less → x < y
less_is x y h = grind (arith, nat_tests)

pub least_date : (x y : ℕ) (xs : List ℕ) → AllByRecursion (λ z. nat_cmp x z ≡ Less) xs → is_in xs y ≡ true → x < y
least_date x y [] a h = absurd (true≢false (sym h))
least_date x y (z ∷ xs) a h = by_bool {C = x < y} (nat_eq z y)
    (λ e. let i : z ≡ y = eqb-true z y e in let l = less_is x z a.0 in omega arith)
    (λ e. least_date x y xs a.1 (sym (ap (λ b. b || is_in xs y) e) ∙ h))

-- the least date is there where one is
pub first_date : (d : ℕ) (keys : List ℕ) → IsStrictlySortedBy nat_cmp keys → is_in keys d ≡ true → (e : ℕ) × ((slice_get keys 0 ≡ Some e) × (e ≤ d))
unfolding IsStrictlySortedBy
first_date d [] s h = absurd (true≢false (sym h))
first_date d (x ∷ xs) s h = by_bool {C = (e : ℕ) × ((slice_get (x ∷ xs) 0 ≡ Some e) × (e ≤ d))} (nat_eq x d)
    (λ e. let i : x ≡ d = eqb-true x d e in (x, (refl, omega arith)))
    (λ e. let l = least_date x d xs s.0 (sym (ap (λ b. b || is_in xs d) e) ∙ h) in (x, (refl, omega (arith, l))))

-- the order of pairs
abbrev pub pair_cmp : ℕ × ℕ → ℕ × ℕ → Ordering
pair_cmp x y = ordering_then (nat_cmp x.0 y.0) (nat_cmp x.1 y.1)

pub pair_less : (x y : ℕ × ℕ) → pair_cmp x y ≡ Less → x.0 ≤ y.0
pair_less x y h = grind (arith, nat_tests)

least_moment : (x : ℕ × ℕ) (y : ℕ) (xs : List (ℕ × ℕ)) → AllByRecursion (λ z. pair_cmp x z ≡ Less) xs → is_in (map (λ (w : ℕ × ℕ). w.0) xs) y ≡ true → x.0 ≤ y
least_moment x y [] a h = absurd (true≢false (sym h))
least_moment x y (z ∷ xs) a h = by_bool {C = x.0 ≤ y} (nat_eq z.0 y)
    (λ e. let i : z.0 ≡ y = eqb-true z.0 y e in let l = pair_less x z a.0 in omega (arith, l))
    (λ e. least_moment x y xs a.1 (sym (ap (λ b. b || is_in (map (λ (w : ℕ × ℕ). w.0) xs) y) e) ∙ h))

pub first_moment : (m : ℕ) (keys : List (ℕ × ℕ)) → IsStrictlySortedBy pair_cmp keys → is_in (map (λ (w : ℕ × ℕ). w.0) keys) m ≡ true → (e : ℕ × ℕ) × ((slice_get keys 0 ≡ Some e) × (e.0 ≤ m))
unfolding IsStrictlySortedBy
first_moment m [] s h = absurd (true≢false (sym h))
first_moment m (x ∷ xs) s h = by_bool {C = (e : ℕ × ℕ) × ((slice_get (x ∷ xs) 0 ≡ Some e) × (e.0 ≤ m))} (nat_eq x.0 m)
    (λ e. let i : x.0 ≡ m = eqb-true x.0 m e in (x, (refl, omega arith)))
    (λ e. let l = least_moment x m xs s.0 (sym (ap (λ b. b || is_in (map (λ (w : ℕ × ℕ). w.0) xs) m) e) ∙ h) in (x, (refl, l)))

-- ---- a queue more
-- the bounds with those of the queue at the place
pub turn : (p q : ℕ → Bool) (ws ks : List ℕ) (qs : List Queue) (fs : List (Option First)) (soonest : Option ℕ) (n kind w : ℕ) (first : Option First) (x : Queue)
    → slice_get ks n ≡ Some kind → slice_get ws n ≡ Some w → slice_get qs n ≡ Some x → slice_get fs kind ≡ Some first
    → IsStrictlySortedBy nat_cmp x.ready.keys → IsStrictlySortedBy pair_cmp x.waiting.keys
    → ((m : ℕ) → q m ≡ true → (m ≡ n) ⊎ (p m ≡ true))
    → LeadsOn p ws ks qs fs soonest
    → LeadsOn q ws ks qs (set fs kind (lowered first w (slice_get x.ready.keys 0))) (lowered_to soonest (slice_get x.waiting.keys 0))
turn p q ws ks qs fs soonest n kind w first x kind_is weight_is queue_is first_is rise rise2 more h = record { led = led; soon = soon }
  where
    within : kind < length fs
    within = slice_get_within fs kind first first_is

    here : (v d : ℕ) (y : Queue) → slice_get ws n ≡ Some v → slice_get qs n ≡ Some y → is_in y.ready.keys d ≡ true → is_led v d (lowered first w (slice_get x.ready.keys 0)) ≡ true
    here v d y e f g =
        let i : w ≡ v = same_Some w v (sym weight_is ∙ e) in
        let j : x ≡ y = same_Some x y (sym queue_is ∙ f) in
        let t = first_date d x.ready.keys rise (ap (λ (z : Queue). is_in z.ready.keys d) j ∙ g) in
        subst (λ u. is_led u d (lowered first w (slice_get x.ready.keys 0)) ≡ true) i
        (ap (λ o. is_led w d (lowered first w o)) t.1.0 ∙ lowered_leads w d t.0 first t.1.1)

    led : (k : ℕ) (f : Option First) → slice_get (set fs kind (lowered first w (slice_get x.ready.keys 0))) k ≡ Some f → IsLedOn q ws ks qs k f
    led k f e m v d y on is_kind is_weight is_queue is_ready = by_bool {C = is_led v d f ≡ true} (nat_eq k kind)
        (λ s.
        let same : k ≡ kind = eqb-true k kind s in
        let is : lowered first w (slice_get x.ready.keys 0) ≡ f = same_Some _ f (sym (get_set_same fs kind (lowered first w (slice_get x.ready.keys 0)) within) ∙ ap (slice_get (set fs kind (lowered first w (slice_get x.ready.keys 0)))) (sym same) ∙ e) in
        subst (λ o. is_led v d o ≡ true) is
        (elim (more m on) as (λ _. is_led v d (lowered first w (slice_get x.ready.keys 0)) ≡ true) [
          | inl i ↦ here v d y (ap (slice_get ws) (sym i) ∙ is_weight) (ap (slice_get qs) (sym i) ∙ is_queue) is_ready
          | inr i ↦ lowered_keeps v d w first (slice_get x.ready.keys 0) (h.led kind first first_is m v d y i (is_kind ∙ ap (λ z. Some z) same) is_weight is_queue is_ready)
        ]))
        (λ s.
        let apart : k ≢ kind = λ i. true≢false (sym (eq-eqb k kind i) ∙ s) in
        let old : slice_get fs k ≡ Some f = sym (get_set_other fs kind k (lowered first w (slice_get x.ready.keys 0)) apart) ∙ e in
        elim (more m on) as (λ _. is_led v d f ≡ true) [
          | inl i ↦ absurd (apart (same_Some k kind (sym is_kind ∙ (ap (slice_get ks) i ∙ kind_is))))
          | inr i ↦ h.led k f old m v d y i is_kind is_weight is_queue is_ready
        ])

    soon : IsSoonestOn q qs (lowered_to soonest (slice_get x.waiting.keys 0))
    soon m at y on is_queue waits = elim (more m on) as (λ _. is_reached at (lowered_to soonest (slice_get x.waiting.keys 0)) ≡ true) [
      | inl i ↦
          let j : x ≡ y = same_Some x y (sym queue_is ∙ (ap (slice_get qs) (sym i) ∙ is_queue)) in
          let t = first_moment at x.waiting.keys rise2 (ap (λ (z : Queue). is_in (moments_of z) at) j ∙ waits) in
          ap (λ o. is_reached at (lowered_to soonest o)) t.1.0 ∙ sooner_reaches at soonest t.0 t.1.1
      | inr i ↦ sooner_keeps at soonest (slice_get x.waiting.keys 0) (h.soon m at y i is_queue waits)
    ]

-- a queue that is put in: the other places are as they were
pub others : (n : ℕ) (ws ks : List ℕ) (qs : List Queue) (fs : List (Option First)) (soonest : Option ℕ) (x : Queue) → LeadsOn everywhere ws ks qs fs soonest → LeadsOn (λ m. not (nat_eq m n)) ws ks (set qs n x) fs soonest
others n ws ks qs fs soonest x h = record {
  led = λ k f e m w d q on a b c i. h.led k f e m w d q refl a b (sym (get_set_other qs n m x (apart m on)) ∙ c) i;
  soon = λ m at q on c i. h.soon m at q refl (sym (get_set_other qs n m x (apart m on)) ∙ c) i;
}
  where
    apart : (m : ℕ) → not (nat_eq m n) ≡ true → m ≢ n
    apart m on i = true≢false (sym (eq-eqb m n i) ∙ negated (nat_eq m n) on)

pub here_or_other : (n m : ℕ) → (m ≡ n) ⊎ (not (nat_eq m n) ≡ true)
here_or_other n m = by_bool {C = (m ≡ n) ⊎ (not (nat_eq m n) ≡ true)} (nat_eq m n) (λ e. inl (eqb-true m n e)) (λ e. inr (ap not e))

pub below_next : (n m : ℕ) → nat_lt m (n + 1) ≡ true → (m ≡ n) ⊎ (nat_lt m n ≡ true)
below_next n m h = by_bool {C = (m ≡ n) ⊎ (nat_lt m n ≡ true)} (nat_lt m n) (λ e. inr e) (λ e. inl (let l : m < n + 1 = ltb-true m (n + 1) h in let k : n ≤ m = ltb-false m n e in omega arith))

-- the shape stays
pub shaped_put : (ws ks : List ℕ) (qs : List Queue) (fs : List (Option First)) (n kind : ℕ) (x : Queue) (f : Option First) → IsShaped ws ks qs fs → IsShaped ws ks (set qs n x) (set fs kind f)
shaped_put ws ks qs fs n kind x f h = record {
  weights = h.weights ∙ sym (length-set qs n x);
  kinds = h.kinds ∙ sym (length-set qs n x);
  each = λ m k e. let l = h.each m k e in omega (arith, l, length-set fs kind f);
}

-- nothing is led before the first place
nothing : (m : ℕ) → nat_lt m 0 ≡ true → ⊥
nothing m on = let l : m < 0 = ltb-true m 0 on in omega arith

pub none_below : (ws ks : List ℕ) (qs : List Queue) (fs : List (Option First)) → LeadsOn (λ m. nat_lt m 0) ws ks qs fs None
none_below ws ks qs fs = record {
  led = λ k f e m w d q on a b c i. absurd (nothing m on);
  soon = λ m at q on c i. absurd (nothing m on);
}

-- at the end all places are below
pub all_below : (ws ks : List ℕ) (qs : List Queue) (fs : List (Option First)) (soonest : Option ℕ) (n : ℕ) → length qs ≤ n → LeadsOn (λ m. nat_lt m n) ws ks qs fs soonest → LeadsOn everywhere ws ks qs fs soonest
all_below ws ks qs fs soonest n l h = record {
  led = λ k f e m w d q on a b c i. h.led k f e m w d q (below m q c) a b c i;
  soon = λ m at q on c i. h.soon m at q (below m q c) c i;
}
  where
    below : (m : ℕ) (q : Queue) → slice_get qs m ≡ Some q → nat_lt m n ≡ true
    below m q c = let k : m < length qs = slice_get_within qs m q c in lt-ltb m n (omega arith)

-- the same by what is read at the place
pub turn_at : (p q : ℕ → Bool) (ws ks : List ℕ) (qs : List Queue) (fs : List (Option First)) (soonest later : Option ℕ) (n kind w : ℕ) (first low : Option First) (x : Queue)
    → IsShaped ws ks qs fs → n < length qs → kind ≡ get_or ks n kind → w ≡ get_or ws n w → slice_get qs n ≡ Some x → first ≡ get_or fs kind first
    → IsStrictlySortedBy nat_cmp x.ready.keys → IsStrictlySortedBy pair_cmp x.waiting.keys
    → low ≡ lowered first w (slice_get x.ready.keys 0) → later ≡ lowered_to soonest (slice_get x.waiting.keys 0)
    → ((m : ℕ) → q m ≡ true → (m ≡ n) ⊎ (p m ≡ true))
    → LeadsOn p ws ks qs fs soonest
    → LeadsOn q ws ks qs (set fs kind low) later
turn_at p q ws ks qs fs soonest later n kind w first low x shape within kind_is weight_is queue_is first_is rise rise2 low_is later_is more h =
    let k : slice_get ks n ≡ Some kind = slice_get_read ks (length ks) n kind refl (omega (arith, shape.kinds)) kind_is in
    let v : slice_get ws n ≡ Some w = slice_get_read ws (length ws) n w refl (omega (arith, shape.weights)) weight_is in
    let f : slice_get fs kind ≡ Some first = slice_get_read fs (length fs) kind first refl (shape.each n kind k) first_is in
    subst (λ s. LeadsOn q ws ks qs (set fs kind low) s) (sym later_is)
    (subst (λ o. LeadsOn q ws ks qs (set fs kind o) (lowered_to soonest (slice_get x.waiting.keys 0))) (sym low_is)
    (turn p q ws ks qs fs soonest n kind w first x k v queue_is f rise rise2 more h))

-- a queue is put in
pub put_leads : (ws ks ps : List ℕ) (qs : List Queue) (fs : List (Option First)) (soonest later : Option ℕ) (n kind w : ℕ) (first low least less : Option First) (x y : Queue)
    → Leads (shelf_value ws ks ps qs) fs soonest least → n < length qs → kind ≡ get_or ks n kind → w ≡ get_or ws n w → first ≡ get_or fs kind first
    → IsStrictlySortedBy nat_cmp x.ready.keys → IsStrictlySortedBy pair_cmp x.waiting.keys
    → low ≡ lowered first w (slice_get x.ready.keys 0) → later ≡ lowered_to soonest (slice_get x.waiting.keys 0) → less ≡ lowered least w (slice_get x.ready.keys 0) → y ≡ x
    → Leads (shelf_value ws ks ps (set qs n y)) (set fs kind low) later less
put_leads ws ks ps qs fs soonest later n kind w first low least less x y h within kind_is weight_is first_is rise rise2 low_is later_is less_is same =
    let long = length-set qs n x in
    let there : slice_get (set qs n x) n ≡ Some x = get_set_same qs n x within in
    let shape : IsShaped ws ks (set qs n x) fs = record {
      weights = h.shaped.weights ∙ sym long;
      kinds = h.shaped.kinds ∙ sym long;
      each = h.shaped.each;
    } in
    let k : slice_get ks n ≡ Some kind = slice_get_read ks (length ks) n kind refl (omega (arith, within, h.shaped.kinds)) kind_is in
    let f : slice_get fs kind ≡ Some first = slice_get_read fs (length fs) kind first refl (h.shaped.each n kind k) first_is in
    subst (λ z. Leads (shelf_value ws ks ps (set qs n z)) (set fs kind low) later less) (sym same)
    (record {
      samples = h.samples ∙ sym (length-set fs kind low);
      shaped = shaped_put ws ks qs fs n kind x low h.shaped;
      bounds = turn_at (λ m. not (nat_eq m n)) everywhere ws ks (set qs n x) fs soonest later n kind w first low x shape (omega (arith, long)) kind_is weight_is there first_is rise rise2 low_is later_is
          (λ m on. here_or_other n m) (others n ws ks qs fs soonest x h.bounds);
      least = subst (λ o. IsLeast (set fs kind low) o) (sym less_is) (subst (λ o. IsLeast (set fs kind o) (lowered least w (slice_get x.ready.keys 0))) (sym low_is) (least_put fs kind w first least (slice_get x.ready.keys 0) f h.least));
    })

-- so the least leads all that is ready
pub least_leads : (s : ShelfValue) (fs : List (Option First)) (soonest : Option ℕ) (least : Option First) → Leads s fs soonest least → IsLed s least
least_leads s fs soonest least h n w d q weight queue ready =
    let within = slice_get_within s.queues n q queue in
    let k = element_at s.kinds n (omega (arith, within, h.shaped.kinds)) in
    let f = element_at fs k.0 (h.shaped.each n k.0 k.1) in
    by k.0 f.0 f.1 (h.bounds.led k.0 f.0 f.1 n w d q refl k.1 weight queue ready)
  where
    by : (kind : ℕ) (o : Option First) → slice_get fs kind ≡ Some o → is_led w d o ≡ true → is_led w d least ≡ true
    by kind None e i = absurd (true≢false (sym i))
    by kind (Some f) e i = led_through w d f least i (h.least kind f e)
