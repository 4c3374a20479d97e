-- Queues, as dates are put in and moments come.
use Rattle.std.proofs.Common.{◌≡◌, ◌≢◌, ◌∙◌, inl, inr, refl, sym, ap, subst, ℕ, zero, suc, ◌+◌, ◌<◌, ◌≤◌, List, [], ◌∷◌, Bool, true, false, cond, not, ◌&&◌, ◌||◌, filter, length, take, true≢false, Option, Some, None, slice_get, nat_le, nat_eq, arith}
use Rattle.std.proofs.lemmas.Bool.{and_from, eqb-true, eq-eqb, le-leb, leb-true, or_cases, or_right}
use Rattle.std.proofs.lemmas.Bool.Decides.{nat_tests}
use Rattle.std.proofs.lemmas.Map.Lookups.{CmpEqualImpliesEq, exact_pairs, exact_unsigned}
use Rattle.std.proofs.lemmas.Option.{none-some, same_Some}
use Rattle.std.specs.BTreeSet.{insert_key}
use Rattle.std.specs.Option.{MatchOption}
use Rattle.std.specs.List.{AllByRecursion, list_any}
use Rattle.std.specs.List.Sorted.{IsStrictlySortedBy}
use Rattle.std.specs.Ordering.{eq_by_cmp, is_eq, match_ordering, nat_cmp}
use Rattle.std.specs.declared.cmp.Ordering.{Ordering}
use Rattle.std.specs.declared.cmp.Ordering.TheVariants.{Less, Equal, Greater}
use Rattle.dag_check.specs.Orders.{is_in}
use Rattle.sched_model.proofs.sched_state.OrderLemmas.{and_left, and_right}
use Rattle.sched_laws.proofs.DecisionLemmas.{by_bool}
use Rattle.sched_ready.specs.Due.{is_kept, waits_for}
use Rattle.sched_ready.specs.Patching.{HasAll, IsAhead, KeepsAll}
use Rattle.sched_ready.specs.declared.queues.Queue.{Queue}
use Rattle.sched_ready.proofs.LeadLemmas.{first_moment, pair_cmp, pair_less}

-- ---- a key that is put in
-- what was there is there
any_old : {K : Type 0} (R : K → K → Ordering) (test : K → Bool) (x : K) (ys : List K) → list_any test ys ≡ true → list_any test (insert_key R ys x) ≡ true
any_old R test x [] h = absurd (true≢false (sym h))
any_old {K} R test x (y ∷ ys) h = by (R x y) (any_old R test x ys)
  where
    by : (r : Ordering) → (list_any test ys ≡ true → list_any test (insert_key R ys x) ≡ true) → list_any test (match_ordering r (x ∷ y ∷ ys) (y ∷ ys) (y ∷ insert_key R ys x)) ≡ true
    by Less rest = or_right (test x) _ h
    by Equal rest = h
    by Greater rest = elim (or_cases (test y) _ h) as (λ _. (test y || list_any test (insert_key R ys x)) ≡ true) [
      | inl i ↦ ap (λ b. b || list_any test (insert_key R ys x)) i
      | inr i ↦ or_right (test y) _ (rest i)
    ]

-- and the key is there
any_new : {K : Type 0} (R : K → K → Ordering) → CmpEqualImpliesEq R → (test : K → Bool) (x : K) (ys : List K) → test x ≡ true → list_any test (insert_key R ys x) ≡ true
any_new R exact test x [] h = ap (λ b. b || false) h
any_new {K} R exact test x (y ∷ ys) h = by (R x y) refl (any_new R exact test x ys h)
  where
    by : (r : Ordering) → R x y ≡ r → list_any test (insert_key R ys x) ≡ true → list_any test (match_ordering r (x ∷ y ∷ ys) (y ∷ ys) (y ∷ insert_key R ys x)) ≡ true
    by Less e rest = ap (λ b. b || list_any test (y ∷ ys)) h
    by Equal e rest = ap (λ b. b || list_any test ys) (ap test (sym (exact x y e)) ∙ h)
    by Greater e rest = or_right (test y) _ rest

pub date_old : (d date : ℕ) (ks : List ℕ) → is_in ks d ≡ true → is_in (insert_key nat_cmp ks date) d ≡ true
date_old d date ks h = any_old nat_cmp (λ z. nat_eq z d) date ks h

pub date_new : (date : ℕ) (ks : List ℕ) → is_in (insert_key nat_cmp ks date) date ≡ true
date_new date ks = any_new nat_cmp exact_unsigned (λ z. nat_eq z date) date ks (eq-eqb date date refl)

pub pair_old : (m d : ℕ) (x : ℕ × ℕ) (ks : List (ℕ × ℕ)) → list_any (λ (w : ℕ × ℕ). nat_eq w.0 m && nat_eq w.1 d) ks ≡ true → list_any (λ (w : ℕ × ℕ). nat_eq w.0 m && nat_eq w.1 d) (insert_key pair_cmp ks x) ≡ true
pair_old m d x ks h = any_old pair_cmp (λ (w : ℕ × ℕ). nat_eq w.0 m && nat_eq w.1 d) x ks h

pub pair_new : (m d : ℕ) (ks : List (ℕ × ℕ)) → list_any (λ (w : ℕ × ℕ). nat_eq w.0 m && nat_eq w.1 d) (insert_key pair_cmp ks (m, d)) ≡ true
pair_new m d ks = any_new pair_cmp (exact_pairs nat_cmp nat_cmp exact_unsigned exact_unsigned) (λ (w : ℕ × ℕ). nat_eq w.0 m && nat_eq w.1 d) (m, d) ks (and_from (nat_eq m m) _ (eq-eqb m m refl) (eq-eqb d d refl))

-- ---- dates that are put in one by one
pub has_first : (keys : List ℕ) → HasAll [] keys
has_first keys d e = absurd (true≢false (sym e))

pub has_next : (keys copy : List ℕ) (at date : ℕ) → slice_get keys at ≡ Some date → HasAll (take at keys) copy → HasAll (take (at + 1) keys) (insert_key nat_cmp copy date)
has_next keys copy at date there h d e = by keys at there (λ i. date_old d date copy (h d i)) (ap (λ n. is_in (take n keys) d) one ∙ e)
  where
    one : suc at ≡ at + 1
    one = omega arith

    by : (ks : List ℕ) (n : ℕ) → slice_get ks n ≡ Some date → (is_in (take n ks) d ≡ true → is_in (insert_key nat_cmp copy date) d ≡ true) → is_in (take (suc n) ks) d ≡ true → is_in (insert_key nat_cmp copy date) d ≡ true
    by [] n f g i = absurd (none-some date f)
    by (k ∷ ks) zero f g i = elim (or_cases (nat_eq k d) false i) as (λ _. is_in (insert_key nat_cmp copy date) d ≡ true) [
      | inl j ↦ subst (λ z. is_in (insert_key nat_cmp copy date) z ≡ true) (sym (same_Some k date f) ∙ eqb-true k d j) (date_new date copy)
      | inr j ↦ absurd (true≢false (sym j))
    ]
    by (k ∷ ks) (suc n) f g i = by_bool {C = is_in (insert_key nat_cmp copy date) d ≡ true} (nat_eq k d)
        (λ j. g (ap (λ b. b || is_in (take n ks) d) j))
        (λ j. by ks n f (λ l. g (or_right (nat_eq k d) _ l)) (sym (ap (λ b. b || is_in (take (suc n) ks) d) j) ∙ i))

-- a queue with a copy of the ready dates keeps what the queue does
pub keeps_copied : (now : ℕ) (old mid new : Queue) → HasAll old.ready.keys mid.ready.keys → mid.waiting.keys ≡ old.waiting.keys → KeepsAll now mid new → KeepsAll now old new
keeps_copied now old mid new ready waiting h before d m l k = h before d m l (by_bool {C = is_kept before mid d m ≡ true} (nat_le m before)
    (λ t. ap (λ b. cond b (is_in mid.ready.keys d) (waits_for mid m d)) t ∙ ready d (sym (ap (λ b. cond b (is_in old.ready.keys d) (waits_for old m d)) t) ∙ k))
    (λ t. ap (λ b. cond b (is_in mid.ready.keys d) (waits_for mid m d)) t
    ∙ (ap (λ (ws : List (ℕ × ℕ)). list_any (λ (w : ℕ × ℕ). nat_eq w.0 m && nat_eq w.1 d) ws) waiting ∙ (sym (ap (λ b. cond b (is_in old.ready.keys d) (waits_for old m d)) t) ∙ k))))

-- ---- a key that is taken out
-- what passes a test stays, where all that passes it is kept
any_left : {K : Type 0} (test keep : K → Bool) (ks : List K) → ((k : K) → test k ≡ true → keep k ≡ true) → list_any test ks ≡ true → list_any test (filter keep ks) ≡ true
any_left test keep [] f h = h
any_left {K} test keep (k ∷ ks) f h = by_bool {C = list_any test (filter keep (k ∷ ks)) ≡ true} (test k)
    (λ e. ap (λ b. list_any test (cond b (k ∷ filter keep ks) (filter keep ks))) (f k e) ∙ ap (λ b. b || list_any test (filter keep ks)) e)
    (λ e. rest (keep k) (any_left test keep ks f (sym (ap (λ b. b || list_any test ks) e) ∙ h)))
  where
    rest : (b : Bool) → list_any test (filter keep ks) ≡ true → list_any test (cond b (k ∷ filter keep ks) (filter keep ks)) ≡ true
    rest true i = or_right (test k) _ i
    rest false i = i

-- another key is kept
other_key : {K : Type 0} (R : K → K → Ordering) → CmpEqualImpliesEq R → (x k : K) → (x ≡ k → ⊥) → not (eq_by_cmp R x k) ≡ true
other_key {K} R exact x k apart = by (R x k) refl
  where
    by : (r : Ordering) → R x k ≡ r → not (is_eq r) ≡ true
    by Less e = refl
    by Equal e = absurd (apart (exact x k e))
    by Greater e = refl

date_left : (x d : ℕ) (ks : List ℕ) → d ≢ x → is_in ks d ≡ true → is_in (filter (λ k. not (eq_by_cmp nat_cmp x k)) ks) d ≡ true
date_left x d ks apart h = any_left (λ z. nat_eq z d) (λ k. not (eq_by_cmp nat_cmp x k)) ks (λ k e. other_key nat_cmp exact_unsigned x k (λ i. apart (sym (i ∙ eqb-true k d e)))) h

pair_left : (x : ℕ × ℕ) (m d : ℕ) (ws : List (ℕ × ℕ)) → d ≢ x.1 → list_any (λ (w : ℕ × ℕ). nat_eq w.0 m && nat_eq w.1 d) ws ≡ true → list_any (λ (w : ℕ × ℕ). nat_eq w.0 m && nat_eq w.1 d) (filter (λ k. not (eq_by_cmp pair_cmp x k)) ws) ≡ true
pair_left x m d ws apart h = any_left (λ (w : ℕ × ℕ). nat_eq w.0 m && nat_eq w.1 d) (λ k. not (eq_by_cmp pair_cmp x k)) ws
    (λ k e. other_key pair_cmp (exact_pairs nat_cmp nat_cmp exact_unsigned exact_unsigned) x k (λ i. apart (sym (ap (λ (w : ℕ × ℕ). w.1) i ∙ eqb-true k.1 d (and_right (nat_eq k.0 m) _ e))))) h

-- other dates are kept
pub taken_ready : (now d m date : ℕ) (q : Queue) (ks : List ℕ) → d ≢ date → ks ≡ filter (λ k. not (eq_by_cmp nat_cmp date k)) q.ready.keys → is_kept now q d m ≡ true → cond (nat_le m now) (is_in ks d) (waits_for q m d) ≡ true
taken_ready now d m date q ks apart e h = by_bool {C = cond (nat_le m now) (is_in ks d) (waits_for q m d) ≡ true} (nat_le m now)
    (λ t. ap (λ b. cond b (is_in ks d) (waits_for q m d)) t ∙ (ap (λ (xs : List ℕ). is_in xs d) e ∙ date_left date d q.ready.keys apart (sym (ap (λ b. cond b (is_in q.ready.keys d) (waits_for q m d)) t) ∙ h)))
    (λ t. ap (λ b. cond b (is_in ks d) (waits_for q m d)) t ∙ (sym (ap (λ b. cond b (is_in q.ready.keys d) (waits_for q m d)) t) ∙ h))

pub taken_both : (now d m date moment : ℕ) (q : Queue) (ks : List ℕ) (ws : List (ℕ × ℕ)) → d ≢ date → ks ≡ filter (λ k. not (eq_by_cmp nat_cmp date k)) q.ready.keys → ws ≡ filter (λ k. not (eq_by_cmp pair_cmp (moment, date) k)) q.waiting.keys → is_kept now q d m ≡ true
    → cond (nat_le m now) (is_in ks d) (list_any (λ (w : ℕ × ℕ). nat_eq w.0 m && nat_eq w.1 d) ws) ≡ true
taken_both now d m date moment q ks ws apart e f h =
    let g = taken_ready now d m date q ks apart e h in
    by_bool {C = cond (nat_le m now) (is_in ks d) (list_any (λ (w : ℕ × ℕ). nat_eq w.0 m && nat_eq w.1 d) ws) ≡ true} (nat_le m now)
    (λ t. ap (λ b. cond b (is_in ks d) (list_any (λ (w : ℕ × ℕ). nat_eq w.0 m && nat_eq w.1 d) ws)) t ∙ (sym (ap (λ b. cond b (is_in ks d) (waits_for q m d)) t) ∙ g))
    (λ t. ap (λ b. cond b (is_in ks d) (list_any (λ (w : ℕ × ℕ). nat_eq w.0 m && nat_eq w.1 d) ws)) t
    ∙ (ap (λ (xs : List (ℕ × ℕ)). list_any (λ (w : ℕ × ℕ). nat_eq w.0 m && nat_eq w.1 d) xs) f ∙ pair_left (moment, date) m d q.waiting.keys apart (sym (ap (λ b. cond b (is_in ks d) (waits_for q m d)) t) ∙ g)))

-- ---- a date that is due
pub put_ready : (now moment date : ℕ) (q : Queue) (ks : List ℕ) → moment ≤ now → ks ≡ insert_key nat_cmp q.ready.keys date
    → (cond (nat_le moment now) (is_in ks date) (waits_for q moment date) ≡ true) × ((d m : ℕ) → is_kept now q d m ≡ true → cond (nat_le m now) (is_in ks d) (waits_for q m d) ≡ true)
put_ready now moment date q ks l e = (
  ap (λ b. cond b (is_in ks date) (waits_for q moment date)) (le-leb moment now l) ∙ (ap (λ (xs : List ℕ). is_in xs date) e ∙ date_new date q.ready.keys),
  λ d m h. by_bool {C = cond (nat_le m now) (is_in ks d) (waits_for q m d) ≡ true} (nat_le m now)
      (λ t. ap (λ b. cond b (is_in ks d) (waits_for q m d)) t ∙ (ap (λ (xs : List ℕ). is_in xs d) e ∙ date_old d date q.ready.keys (sym (ap (λ b. cond b (is_in q.ready.keys d) (waits_for q m d)) t) ∙ h)))
      (λ t. ap (λ b. cond b (is_in ks d) (waits_for q m d)) t ∙ (sym (ap (λ b. cond b (is_in q.ready.keys d) (waits_for q m d)) t) ∙ h)),
)

above : (x y : ℕ) → y < x → nat_le x y ≡ false
above x y k = grind (arith, nat_tests)

pub put_waiting : (now moment date : ℕ) (q : Queue) (ws : List (ℕ × ℕ)) → now < moment → ws ≡ insert_key pair_cmp q.waiting.keys (moment, date)
    → (cond (nat_le moment now) (is_in q.ready.keys date) (list_any (λ (w : ℕ × ℕ). nat_eq w.0 moment && nat_eq w.1 date) ws) ≡ true)
    × ((d m : ℕ) → is_kept now q d m ≡ true → cond (nat_le m now) (is_in q.ready.keys d) (list_any (λ (w : ℕ × ℕ). nat_eq w.0 m && nat_eq w.1 d) ws) ≡ true)
put_waiting now moment date q ws l e = (
  ap (λ b. cond b (is_in q.ready.keys date) (list_any (λ (w : ℕ × ℕ). nat_eq w.0 moment && nat_eq w.1 date) ws)) (above moment now l)
      ∙ (ap (λ (xs : List (ℕ × ℕ)). list_any (λ (w : ℕ × ℕ). nat_eq w.0 moment && nat_eq w.1 date) xs) e ∙ pair_new moment date q.waiting.keys),
  λ d m h. by_bool {C = cond (nat_le m now) (is_in q.ready.keys d) (list_any (λ (w : ℕ × ℕ). nat_eq w.0 m && nat_eq w.1 d) ws) ≡ true} (nat_le m now)
      (λ t. ap (λ b. cond b (is_in q.ready.keys d) (list_any (λ (w : ℕ × ℕ). nat_eq w.0 m && nat_eq w.1 d) ws)) t ∙ (sym (ap (λ b. cond b (is_in q.ready.keys d) (waits_for q m d)) t) ∙ h))
      (λ t. ap (λ b. cond b (is_in q.ready.keys d) (list_any (λ (w : ℕ × ℕ). nat_eq w.0 m && nat_eq w.1 d) ws)) t
      ∙ (ap (λ (xs : List (ℕ × ℕ)). list_any (λ (w : ℕ × ℕ). nat_eq w.0 m && nat_eq w.1 d) xs) e ∙ pair_old m d (moment, date) q.waiting.keys (sym (ap (λ b. cond b (is_in q.ready.keys d) (waits_for q m d)) t) ∙ h))),
)

-- ---- moments that come
-- it waits, or its moment has come and it is ready
abbrev pub is_half : ℕ → List ℕ → List (ℕ × ℕ) → ℕ → ℕ → Bool
is_half now ks ws d m = list_any (λ (w : ℕ × ℕ). nat_eq w.0 m && nat_eq w.1 d) ws || (nat_le m now && is_in ks d)

pub half_first : (before now : ℕ) (q : Queue) (d m : ℕ) → before ≤ now → is_kept before q d m ≡ true → is_half now q.ready.keys q.waiting.keys d m ≡ true
half_first before now q d m l h = by_bool {C = is_half now q.ready.keys q.waiting.keys d m ≡ true} (nat_le m before)
    (λ t. let k = leb-true m before t in or_right (waits_for q m d) _ (and_from (nat_le m now) _ (le-leb m now (omega (arith, k, l))) (sym (ap (λ b. cond b (is_in q.ready.keys d) (waits_for q m d)) t) ∙ h)))
    (λ t. ap (λ b. b || (nat_le m now && is_in q.ready.keys d)) (sym (ap (λ b. cond b (is_in q.ready.keys d) (waits_for q m d)) t) ∙ h))

pub half_next : (now : ℕ) (ks : List ℕ) (w : ℕ × ℕ) (ws : List (ℕ × ℕ)) (d m : ℕ) → w.0 ≤ now → is_half now ks (w ∷ ws) d m ≡ true → is_half now (insert_key nat_cmp ks w.1) ws d m ≡ true
half_next now ks w ws d m l h = elim (or_cases _ (nat_le m now && is_in ks d) h) as (λ _. is_half now (insert_key nat_cmp ks w.1) ws d m ≡ true) [
  | inl i ↦ elim (or_cases (nat_eq w.0 m && nat_eq w.1 d) _ i) as (λ _. is_half now (insert_key nat_cmp ks w.1) ws d m ≡ true) [
    | inl j ↦
        let e = eqb-true w.0 m (and_left _ _ j) in
        let f = eqb-true w.1 d (and_right (nat_eq w.0 m) _ j) in
        or_right _ _ (and_from (nat_le m now) _ (le-leb m now (omega (arith, e, l))) (ap (is_in (insert_key nat_cmp ks w.1)) (sym f) ∙ date_new w.1 ks))
    | inr j ↦ ap (λ b. b || (nat_le m now && is_in (insert_key nat_cmp ks w.1) d)) j
  ]
  | inr i ↦ or_right _ _ (and_from (nat_le m now) _ (and_left _ _ i) (date_old d w.1 ks (and_right (nat_le m now) _ i)))
]

-- nothing waits
pub half_none : (now : ℕ) (q : Queue) (d m : ℕ) → q.waiting.keys ≡ [] → is_half now q.ready.keys q.waiting.keys d m ≡ true → is_kept now q d m ≡ true
half_none now q d m e h =
    let i : (nat_le m now && is_in q.ready.keys d) ≡ true = sym (ap (λ (ws : List (ℕ × ℕ)). list_any (λ (w : ℕ × ℕ). nat_eq w.0 m && nat_eq w.1 d) ws || (nat_le m now && is_in q.ready.keys d)) e) ∙ h in
    ap (λ b. cond b (is_in q.ready.keys d) (waits_for q m d)) (and_left _ _ i) ∙ and_right (nat_le m now) _ i

-- the first moment has not come
later_all : (now m d : ℕ) (w : ℕ × ℕ) (ws : List (ℕ × ℕ)) → now < w.0 → AllByRecursion (λ v. pair_cmp w v ≡ Less) ws → list_any (λ (v : ℕ × ℕ). nat_eq v.0 m && nat_eq v.1 d) ws ≡ true → now < m
later_all now m d w [] l s h = absurd (true≢false (sym h))
later_all now m d w (v ∷ ws) l s h = elim (or_cases (nat_eq v.0 m && nat_eq v.1 d) _ h) [
  | inl i ↦ let e = eqb-true v.0 m (and_left _ _ i) in let k = pair_less w v s.0 in omega (arith, e, k, l)
  | inr i ↦ later_all now m d w ws l s.1 i
]

pub half_later : (now : ℕ) (q : Queue) (w : ℕ × ℕ) (d m : ℕ) → IsStrictlySortedBy pair_cmp q.waiting.keys → slice_get q.waiting.keys 0 ≡ Some w → now < w.0 → is_half now q.ready.keys q.waiting.keys d m ≡ true → is_kept now q d m ≡ true
unfolding IsStrictlySortedBy
half_later now q w d m sorted there l h = by q.waiting.keys sorted there h
  where
    by : (ws : List (ℕ × ℕ)) → IsStrictlySortedBy pair_cmp ws → slice_get ws 0 ≡ Some w → is_half now q.ready.keys ws d m ≡ true → cond (nat_le m now) (is_in q.ready.keys d) (list_any (λ (v : ℕ × ℕ). nat_eq v.0 m && nat_eq v.1 d) ws) ≡ true
    by [] s e i = absurd (none-some w e)
    by (v ∷ ws) s e i =
        let is : v ≡ w = same_Some v w e in
        elim (or_cases _ (nat_le m now && is_in q.ready.keys d) i) as (λ _. cond (nat_le m now) (is_in q.ready.keys d) (list_any (λ (u : ℕ × ℕ). nat_eq u.0 m && nat_eq u.1 d) (v ∷ ws)) ≡ true) [
          | inl j ↦
              let late : now < m = elim (or_cases (nat_eq v.0 m && nat_eq v.1 d) _ j) [
                | inl k ↦ let f = eqb-true v.0 m (and_left _ _ k) in let g = ap (λ (u : ℕ × ℕ). u.0) is in omega (arith, f, g, l)
                | inr k ↦ later_all now m d w ws l (subst (λ (u : ℕ × ℕ). AllByRecursion (λ z. pair_cmp u z ≡ Less) ws) is s.0) k
              ] in
              ap (λ b. cond b (is_in q.ready.keys d) (list_any (λ (u : ℕ × ℕ). nat_eq u.0 m && nat_eq u.1 d) (v ∷ ws))) (above m now late) ∙ j
          | inr j ↦ ap (λ b. cond b (is_in q.ready.keys d) (list_any (λ (u : ℕ × ℕ). nat_eq u.0 m && nat_eq u.1 d) (v ∷ ws))) (and_left _ _ j) ∙ and_right (nat_le m now) _ j
        ]

pub taken : (r : Option (ℕ × ℕ)) (old new : List (ℕ × ℕ)) (w : ℕ × ℕ) → slice_get old 0 ≡ Some w → MatchOption r ((old ≡ []) × (new ≡ [])) (λ key. old ≡ key ∷ new) → old ≡ w ∷ new
taken None old new w e h = absurd (none-some w (sym (ap (λ (ws : List (ℕ × ℕ)). slice_get ws 0) h.0) ∙ e))
taken (Some key) old new w e h = h ∙ ap (λ k. k ∷ new) (same_Some key w (sym (ap (λ (ws : List (ℕ × ℕ)). slice_get ws 0) h) ∙ e))

pub empty : (ws : List (ℕ × ℕ)) → slice_get ws 0 ≡ None → ws ≡ []
empty [] e = refl
empty (w ∷ ws) e = absurd (let c : ◌≡◌ {A = Option (ℕ × ℕ)} (Some w) None = e in cc)

-- the first moment that waits has not come, or none waits
pub none_come : (now : ℕ) (q : Queue) (o : Option (ℕ × ℕ)) → o ≡ slice_get q.waiting.keys 0 → IsStrictlySortedBy pair_cmp q.waiting.keys → ((w : ℕ × ℕ) → o ≡ Some w → now < w.0) → IsAhead now q
none_come now q o e sorted later m there =
    let f = first_moment m q.waiting.keys sorted there in
    let l = later f.0 (e ∙ f.1.0) in
    omega (arith, l, f.1.1)

pub come_later : (x now : ℕ) → nat_le x now ≡ false → now < x
come_later x now e = grind (arith, nat_tests)
