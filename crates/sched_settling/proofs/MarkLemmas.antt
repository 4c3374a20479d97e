-- Marked runs: one visit leaves all others as they were, and what can be decided is marked again.
use Rattle.std.proofs.Common.{◌≡◌, ◌∙◌, refl, sym, ap, subst, ℕ, zero, suc, ◌+◌, ◌-◌, ◌<◌, ◌≤◌, List, [], ◌∷◌, ◌++◌, Bool, true, false, ◌||◌, cond, inl, inr, length, slice_get, get_or, nat_lt, nat_eq, Option, Some, None, option_map, option_and_then, unwrap_or, true≢false, arith}
use Rattle.std.specs.List.{list_all}
use Rattle.std.proofs.lemmas.Bool.{eqb-true, eqb-false, eq-eqb, ltb-true, ltb-false, lt-ltb, and_from, or_left, or_right}
use Rattle.std.proofs.lemmas.List.{length-map}
use Rattle.std.proofs.lemmas.Option.{slice_get_past}
use Rattle.dag_check.specs.Orders.{is_in}
use Rattle.instance_machine.specs.Instances.{InstanceValue}
use Rattle.sched_state.specs.declared.runs.Run.{Run}
use Rattle.sched_state.proofs.OrderLemmas.{and_left, and_right}
use Rattle.sched_model.specs.Lists.{rises}
use Rattle.sched_model.specs.Handout.{in_instance}
use Rattle.sched_model.specs.Schedule.{Schedule, dag_among, is_running}
use Rattle.sched_model.specs.Settle.{decide_instance}
use Rattle.sched_laws.specs.Sweep.{decision_in, decision, decide_at, decide_all, sweep, sweep_places, IsClean}
use Rattle.sched_laws.specs.Stages.{IsOrdered, CoversEnds}
use Rattle.sched_laws.proofs.LookLemmas.{get_apart}
use Rattle.sched_laws.proofs.DecisionLemmas.{by_bool, by_decision, none_guard, none_then_all}
use Rattle.sched_laws.proofs.StageLemmas.{end_alone}
use Rattle.sched_laws.proofs.SweepLemmas.{Swept, places_swept, sweep_all}
use Rattle.sched_draft.specs.Parts.{instances_at}
use Rattle.sched_settling.specs.Marks.{CoversRuns, IsCovered, are_within, with_first, with_next, before_in, before_at}
use Rattle.sched_settling.proofs.BeforeLemmas.{before_is, decision_same}
use Rattle.sched_settling.proofs.DecideLemmas.{places_lens, long_at}

-- ---- lists of marks
pub all_in : (p : ℕ → Bool) (xs : List ℕ) (n : ℕ) → list_all p xs ≡ true → is_in xs n ≡ true → p n ≡ true
all_in p [] n h e = absurd (true≢false (sym e))
all_in p (x ∷ xs) n h e = by_bool {C = p n ≡ true} (nat_eq x n)
    (λ k. ap p (sym (eqb-true x n k)) ∙ and_left _ _ h)
    (λ k. all_in p xs n (and_right (p x) _ h) (sym (ap (λ b. b || is_in xs n) k) ∙ e))

pub in_tail : (x n : ℕ) (xs : List ℕ) → is_in (x ∷ xs) n ≡ true → nat_eq n x ≡ false → is_in xs n ≡ true
in_tail x n xs e f = by_bool {C = is_in xs n ≡ true} (nat_eq x n)
    (λ k. let i : n ≡ x = sym (eqb-true x n k) in absurd (true≢false (sym (eq-eqb n x i) ∙ f)))
    (λ k. sym (ap (λ b. b || is_in xs n) k) ∙ e)

or_none : (b : Bool) → (b || false) ≡ (false || b)
or_none true = refl
or_none false = refl

or_join : (a b c : Bool) → (a || (b || c)) ≡ ((a || b) || c)
or_join true b c = refl
or_join false b c = refl

pub in_more : (x : ℕ) (xs : List ℕ) (n : ℕ) → is_in (xs ++ x ∷ []) n ≡ (is_in xs n || nat_eq x n)
in_more x [] n = or_none (nat_eq x n)
in_more x (y ∷ xs) n = ap (λ b. nat_eq y n || b) (in_more x xs n) ∙ or_join (nat_eq y n) (is_in xs n) (nat_eq x n)

all_more : (p : ℕ → Bool) (xs : List ℕ) (x : ℕ) → list_all p xs ≡ true → p x ≡ true → list_all p (xs ++ x ∷ []) ≡ true
all_more p [] x h e = and_from (p x) true e refl
all_more p (y ∷ xs) x h e = and_from (p y) _ (and_left _ _ h) (all_more p xs x (and_right (p y) _ h) e)

all_weaker : (p q : ℕ → Bool) (xs : List ℕ) → ((n : ℕ) → p n ≡ true → q n ≡ true) → list_all p xs ≡ true → list_all q xs ≡ true
all_weaker p q [] f h = refl
all_weaker p q (x ∷ xs) f h = and_from (q x) _ (f x (and_left _ _ h)) (all_weaker p q xs f (and_right (p x) _ h))

-- nothing that is marked stands before the first
pub first_low : (n : ℕ) (rest : List ℕ) (m : ℕ) → rises nat_lt (n ∷ rest) ≡ true → is_in (n ∷ rest) m ≡ true → n ≤ m
first_low n rest m h e = by_bool {C = n ≤ m} (nat_eq n m)
    (λ k. let i : n ≡ m = eqb-true n m k in omega arith)
    (λ k.
    let l : n < m = ltb-true n m (all_in (nat_lt n) rest m (and_left _ _ h) (sym (ap (λ b. b || is_in rest m) k) ∙ e)) in
    omega arith)

-- ---- the position that follows
pub next_rises : (n : ℕ) (rest : List ℕ) → rises nat_lt (n ∷ rest) ≡ true → rises nat_lt (with_first (n + 1) rest) ≡ true
next_rises n [] h = refl
next_rises n (x ∷ xs) h = by_bool {C = rises nat_lt (cond (nat_eq x (n + 1)) (x ∷ xs) ((n + 1) ∷ x ∷ xs)) ≡ true} (nat_eq x (n + 1))
    (λ k. rw k (and_right (list_all (nat_lt n) (x ∷ xs)) _ h))
    (λ k.
    let low : n < x = ltb-true n x (and_left (nat_lt n x) _ (and_left (list_all (nat_lt n) (x ∷ xs)) _ h)) in
    let apart : (x ≡ n + 1) → ⊥ = eqb-false x (n + 1) k in
    let here : n + 1 < x = omega arith in
    let later : rises nat_lt (x ∷ xs) ≡ true = and_right (list_all (nat_lt n) (x ∷ xs)) _ h in
    let above : list_all (nat_lt (n + 1)) (x ∷ xs) ≡ true =
    and_from (nat_lt (n + 1) x) _ (lt-ltb (n + 1) x here)
    (all_weaker (nat_lt x) (nat_lt (n + 1)) xs (λ m e. let l : x < m = ltb-true x m e in let g : n + 1 < m = omega arith in lt-ltb (n + 1) m g) (and_left _ _ later)) in
    rw k (and_from (list_all (nat_lt (n + 1)) (x ∷ xs)) _ above later))

pub next_in : (k : ℕ) (rest : List ℕ) → is_in (with_first k rest) k ≡ true
next_in k [] = ap (λ b. b || false) (eq-eqb k k refl)
next_in k (x ∷ xs) = by_bool {C = is_in (cond (nat_eq x k) (x ∷ xs) (k ∷ x ∷ xs)) k ≡ true} (nat_eq x k)
    (λ e. rw e (ap (λ b. b || is_in xs k) e))
    (λ e. rw e (ap (λ b. b || is_in (x ∷ xs) k) (eq-eqb k k refl)))

pub next_keeps : (k : ℕ) (rest : List ℕ) (m : ℕ) → is_in rest m ≡ true → is_in (with_first k rest) m ≡ true
next_keeps k [] m e = absurd (true≢false (sym e))
next_keeps k (x ∷ xs) m e = by_bool {C = is_in (cond (nat_eq x k) (x ∷ xs) (k ∷ x ∷ xs)) m ≡ true} (nat_eq x k)
    (λ f. rw f e)
    (λ f. rw f (or_right (nat_eq k m) (is_in (x ∷ xs) m) e))

pub next_within : (n k : ℕ) (rest : List ℕ) → k < n → are_within n rest ≡ true → are_within n (with_first k rest) ≡ true
next_within n k [] l h = and_from (nat_lt k n) true (lt-ltb k n l) refl
next_within n k (x ∷ xs) l h = by_bool {C = are_within n (cond (nat_eq x k) (x ∷ xs) (k ∷ x ∷ xs)) ≡ true} (nat_eq x k)
    (λ f. rw f h)
    (λ f. rw f (and_from (nat_lt k n) _ (lt-ltb k n l) h))

-- ---- one visit
decide_apart : (a : Schedule) (n p m : ℕ) → nat_eq m n ≡ false → slice_get (decide_at n p a).runs m ≡ slice_get a.runs m
decide_apart a n p m d = elim (decision a n p) as (λ o. decision a n p ≡ o → slice_get (decide_at n p a).runs m ≡ slice_get a.runs m) [
  | Some j ↦ λ e. rw (e, decide_at) (get_apart (in_instance (λ i. j) p) n m a.runs d)
  | None ↦ λ e. rw (e, decide_at) refl
] refl

pub places_apart : (k n p m : ℕ) (a : Schedule) → nat_eq m n ≡ false → slice_get (sweep_places k n p a).runs m ≡ slice_get a.runs m
places_apart zero n p m a d = refl
places_apart (suc k) n p m a d = places_apart k n (p + 1) m (decide_at n p a) d ∙ decide_apart a n p m d

decide_graphs : (a : Schedule) (n p : ℕ) → (decide_at n p a).graphs ≡ a.graphs
decide_graphs a n p = elim (decision a n p) as (λ o. decision a n p ≡ o → (decide_at n p a).graphs ≡ a.graphs) [
  | Some j ↦ λ e. rw (e, decide_at) refl
  | None ↦ λ e. rw (e, decide_at) refl
] refl

pub places_graphs : (k n p : ℕ) (a : Schedule) → (sweep_places k n p a).graphs ≡ a.graphs
places_graphs zero n p a = refl
places_graphs (suc k) n p a = places_graphs k n (p + 1) (decide_at n p a) ∙ decide_graphs a n p

pub places_long : (k n p : ℕ) (a : Schedule) → length (sweep_places k n p a).runs ≡ length a.runs
places_long k n p a =
    let before = length-map (sweep_places k n p a).runs (λ (r : Run). length r.instances) in
    let after = length-map a.runs (λ (r : Run). length r.instances) in
    sym before ∙ (ap length (places_lens k n p a) ∙ after)

abbrev unwrap_long : Option Run → ℕ
unwrap_long o = unwrap_or (option_map (λ (r : Run). length r.instances) o) 0

-- no decision past the instances of a run
past_places : (a : Schedule) (n q : ℕ) → instances_at n a ≤ q → decision a n q ≡ None
past_places a n q l = elim (slice_get a.runs n) as (λ o. slice_get a.runs n ≡ o → decision a n q ≡ None) [
  | None ↦ λ f. ap (option_and_then (decision_in a q)) f
  | Some r ↦ λ f.
      let w : length r.instances ≤ q = subst (λ (o : Option Run). unwrap_long o ≤ q) f l in
      ap (option_and_then (decision_in a q)) f ∙ none_guard (is_running r.phase) (option_and_then (decide_instance a r q) (slice_get r.instances q)) (ap (option_and_then (decide_instance a r q)) (slice_get_past r.instances q w))
] refl

-- the run before another stands elsewhere than at n
before_apart : (rs ss : List Run) (n m : ℕ) (r : Run) → ((i : ℕ) → nat_eq i n ≡ false → slice_get ss i ≡ slice_get rs i) → nat_eq m (n + 1) ≡ false → before_at ss m r ≡ before_at rs m r
before_apart rs ss n zero r h e = refl
before_apart rs ss n (suc k) r h e =
    let d : nat_eq k n ≡ false = by_bool {C = nat_eq k n ≡ false} (nat_eq k n)
    (λ g. let i : k ≡ n = eqb-true k n g in let j : suc k ≡ n + 1 = omega arith in absurd (true≢false (sym (eq-eqb (suc k) (n + 1) j) ∙ e)))
    (λ g. g) in
    ap (before_in r) (h k d)

-- where only run n differs, a decision elsewhere but at the next run is as it was
pub near_same : (a b : Schedule) (n m q : ℕ) → IsOrdered a → IsOrdered b → b.graphs ≡ a.graphs → ((i : ℕ) → nat_eq i n ≡ false → slice_get b.runs i ≡ slice_get a.runs i)
    → nat_eq m n ≡ false → nat_eq m (n + 1) ≡ false → decision b m q ≡ decision a m q
near_same a b n m q s t g h d e = elim (slice_get a.runs m) as (λ o. slice_get a.runs m ≡ o → decision b m q ≡ decision a m q) [
  | None ↦ λ f. ap (option_and_then (decision_in b q)) (h m d ∙ f) ∙ sym (ap (option_and_then (decision_in a q)) f)
  | Some r ↦ λ f.
      let f' : slice_get b.runs m ≡ Some r = h m d ∙ f in
      ap (option_and_then (decision_in b q)) f'
      ∙ decision_same a b r q (ap (λ gs. dag_among gs r.graph) g) (before_is b.runs m r t.runs f' ∙ (before_apart a.runs b.runs n m r h e ∙ sym (before_is a.runs m r s.runs f)))
      ∙ sym (ap (option_and_then (decision_in a q)) f)
] refl

-- ---- the loop
-- w is what deciding from start has come to, and what is left to do is marked
pub record IsDeciding (start w : Schedule) (marks seen : List ℕ) : Type 0 where
  pub all : decide_all w ≡ decide_all start
  pub ordered : IsOrdered w
  pub rising : rises nat_lt marks ≡ true
  pub within : are_within (length w.runs) marks ≡ true
  pub decisions : CoversRuns (is_in marks) w
  pub endings : CoversEnds (λ m. is_in seen m || is_in marks m) w
  pub seen_within : are_within (length w.runs) seen ≡ true

pub deciding_first : (a : Schedule) (marks : List ℕ) → IsOrdered a → IsCovered marks a → IsDeciding a a marks []
deciding_first a marks s h = record {
  all = refl;
  ordered = s;
  rising = h.rising;
  within = h.within;
  decisions = h.decisions;
  endings = h.endings;
  seen_within = refl;
}

no_mark : (a : Schedule) → CoversRuns (is_in []) a → (m q : ℕ) → decision a m q ≡ None
no_mark a h m q = by_decision {C = decision a m q ≡ None} a m q (λ e. e) (λ j e. absurd (true≢false (sym (h m q j e))))

-- where nothing is marked any more
pub record IsDecided (start w : Schedule) (seen : List ℕ) : Type 0 where
  pub swept : w ≡ sweep start
  pub within : are_within (length w.runs) seen ≡ true
  pub endings : CoversEnds (is_in seen) w

seen_alone : (b : Bool) → (b || false) ≡ true → b ≡ true
seen_alone true e = refl
seen_alone false e = e

pub deciding_last : (start w : Schedule) (seen : List ℕ) → IsOrdered start → IsDeciding start w [] seen → IsDecided start w seen
deciding_last start w seen h s = record {
  swept = sym (none_then_all w (no_mark w s.decisions)) ∙ (s.all ∙ sym (sweep_all start h));
  within = s.seen_within;
  endings = λ m r q e f. seen_alone (is_in seen m) (s.endings m r q e f);
}

marked_clean : (w : Schedule) (n : ℕ) (rest : List ℕ) → rises nat_lt (n ∷ rest) ≡ true → CoversRuns (is_in (n ∷ rest)) w → IsClean n 0 w
marked_clean w n rest h c m q b = by_decision {C = decision w m q ≡ None} w m q (λ e. e)
    (λ j e.
    let low : n ≤ m = first_low n rest m h (c m q j e) in
    absurd (elim b [ inl l ↦ omega arith | inr t ↦ let l : q < 0 = t.1 in omega arith ]))

visited_clean : (w : Schedule) (n k q : ℕ) → k ≡ instances_at n w → Swept n (0 + k) w (sweep_places k n 0 w) → decision (sweep_places k n 0 w) n q ≡ None
visited_clean w n k q is t = by_bool {C = decision (sweep_places k n 0 w) n q ≡ None} (nat_lt q k)
    (λ g. let l : q < k = ltb-true q k g in let l' : q < 0 + k = omega arith in t.clean n q (inr (refl, l')))
    (λ g.
    let l : k ≤ q = ltb-false q k g in
    let long : instances_at n (sweep_places k n 0 w) ≡ k = long_at n (sweep_places k n 0 w) ∙ (ap (λ ls. unwrap_or (slice_get ls n) 0) t.lens ∙ (sym (long_at n w) ∙ sym is)) in
    past_places (sweep_places k n 0 w) n q (subst (λ (i : ℕ). i ≤ q) (sym long) l))

or_moved : (a b c d : Bool) → (a || b) ≡ true → (b ≡ true → d ≡ true) → ((a || c) || d) ≡ true
or_moved true b c d e f = refl
or_moved false b true d e f = refl
or_moved false b false d e f = f e

visit : (start w : Schedule) (n k : ℕ) (rest seen ms : List ℕ) → IsDeciding start w (n ∷ rest) seen → k ≡ instances_at n w → rises nat_lt ms ≡ true → are_within (length w.runs) ms ≡ true
    → ((m : ℕ) → is_in rest m ≡ true → is_in ms m ≡ true) → ((q : ℕ) (j : InstanceValue) → decision (sweep_places k n 0 w) (n + 1) q ≡ Some j → is_in ms (n + 1) ≡ true)
    → IsDeciding start (sweep_places k n 0 w) ms (seen ++ n ∷ [])
visit start w n k rest seen ms s is up in_all keeps next =
    let b : Schedule = sweep_places k n 0 w in
    let t = places_swept k n 0 w s.ordered (marked_clean w n rest s.rising s.decisions) in
    let long : length b.runs ≡ length w.runs = places_long k n 0 w in
    let fits : are_within (length w.runs) (seen ++ n ∷ []) ≡ true = all_more (λ m. nat_lt m (length w.runs)) seen n s.seen_within (and_left _ _ s.within) in
    record {
      all = t.all ∙ s.all;
      ordered = t.ordered;
      rising = up;
      within = subst (λ (i : ℕ). are_within i ms ≡ true) (sym long) in_all;
      decisions = λ m q j e. by_bool {C = is_in ms m ≡ true} (nat_eq m n)
          (λ g. absurd (let u : ◌≡◌ {A = Option InstanceValue} None (Some j) = sym (visited_clean w n k q is t) ∙ (ap (λ i. decision b i q) (sym (eqb-true m n g)) ∙ e) in cc))
          (λ g. by_bool {C = is_in ms m ≡ true} (nat_eq m (n + 1))
          (λ f. let i : m ≡ n + 1 = eqb-true m (n + 1) f in ap (is_in ms) i ∙ next q j (ap (λ x. decision b x q) (sym i) ∙ e))
          (λ f. keeps m (in_tail n m rest (s.decisions m q j (sym (near_same w b n m q s.ordered t.ordered (places_graphs k n 0 w) (λ i d. places_apart k n 0 i w d) g f) ∙ e)) g)));
      endings = λ m r q e f. ap (λ x. x || is_in ms m) (in_more n seen m) ∙ by_bool {C = ((is_in seen m || nat_eq n m) || is_in ms m) ≡ true} (nat_eq m n)
          (λ g. or_left _ (is_in ms m) (or_right (is_in seen m) (nat_eq n m) (eq-eqb n m (sym (eqb-true m n g)))))
          (λ g. or_moved (is_in seen m) (is_in (n ∷ rest) m) (nat_eq n m) (is_in ms m)
          (s.endings m r q (sym (places_apart k n 0 m w g) ∙ e) (end_alone w b r (sym (places_graphs k n 0 w)) ∙ f))
          (λ h. keeps m (in_tail n m rest h g)));
      seen_within = subst (λ (i : ℕ). are_within i (seen ++ n ∷ []) ≡ true) (sym long) fits;
    }

-- nothing was decided
pub visit_same : (start w v : Schedule) (n : ℕ) (rest seen : List ℕ) → IsDeciding start w (n ∷ rest) seen → v ≡ sweep_places (instances_at n w) n 0 w → v ≡ w
    → IsDeciding start v rest (seen ++ n ∷ [])
visit_same start w v n rest seen s is same =
    let apart : nat_eq (n + 1) n ≡ false = by_bool {C = nat_eq (n + 1) n ≡ false} (nat_eq (n + 1) n) (λ g. let i : n + 1 ≡ n = eqb-true (n + 1) n g in absurd (omega arith)) (λ g. g) in
    subst (λ (x : Schedule). IsDeciding start x rest (seen ++ n ∷ [])) (sym is)
    (visit start w n (instances_at n w) rest seen rest s refl (and_right (list_all (nat_lt n) rest) _ s.rising) (and_right (nat_lt n (length w.runs)) _ s.within) (λ m e. e)
    (λ q j e. in_tail n (n + 1) rest (s.decisions (n + 1) q j (subst (λ (x : Schedule). decision x (n + 1) q ≡ Some j) (sym is ∙ same) e)) apart))

-- something was decided
pub visit_next : (start w v : Schedule) (n : ℕ) (rest seen : List ℕ) → IsDeciding start w (n ∷ rest) seen → v ≡ sweep_places (instances_at n w) n 0 w
    → IsDeciding start v (with_next (length v.runs) (n + 1) rest) (seen ++ n ∷ [])
visit_next start w v n rest seen s is =
    let b : Schedule = sweep_places (instances_at n w) n 0 w in
    let long : length b.runs ≡ length w.runs = places_long (instances_at n w) n 0 w in
    let up : rises nat_lt rest ≡ true = and_right (list_all (nat_lt n) rest) _ s.rising in
    let fits : are_within (length w.runs) rest ≡ true = and_right (nat_lt n (length w.runs)) _ s.within in
    subst (λ (x : Schedule). IsDeciding start x (with_next (length x.runs) (n + 1) rest) (seen ++ n ∷ [])) (sym is)
    (subst (λ (i : ℕ). IsDeciding start b (with_next i (n + 1) rest) (seen ++ n ∷ [])) (sym long)
    (by_bool {C = IsDeciding start b (cond (nat_lt (n + 1) (length w.runs)) (with_first (n + 1) rest) rest) (seen ++ n ∷ [])} (nat_lt (n + 1) (length w.runs))
    (λ g. rw g (visit start w n (instances_at n w) rest seen (with_first (n + 1) rest) s refl (next_rises n rest s.rising) (next_within (length w.runs) (n + 1) rest (ltb-true _ _ g) fits)
    (λ m e. next_keeps (n + 1) rest m e) (λ q j e. next_in (n + 1) rest)))
    (λ g. rw g (visit start w n (instances_at n w) rest seen rest s refl up fits (λ m e. e)
    (λ q j e.
    let over : length b.runs ≤ n + 1 = subst (λ (i : ℕ). i ≤ n + 1) (sym long) (ltb-false _ _ g) in
    absurd (let u : ◌≡◌ {A = Option InstanceValue} None (Some j) = sym (ap (option_and_then (decision_in b q)) (slice_get_past b.runs (n + 1) over)) ∙ e in cc))))))

-- ---- it ends
abbrev pub left_of : ℕ → List ℕ → ℕ
left_of n [] = 0
left_of n (x ∷ xs) = n - x

left_falls : (n x : ℕ) (ms : List ℕ) → x < n → list_all (nat_lt x) ms ≡ true → are_within n ms ≡ true → left_of n ms < n - x
left_falls n x [] l h w = omega arith
left_falls n x (y ∷ ms) l h w =
    let a : x < y = ltb-true x y (and_left _ _ h) in
    let b : y < n = ltb-true y n (and_left _ _ w) in
    omega arith

first_above : (n : ℕ) (rest : List ℕ) → list_all (nat_lt n) rest ≡ true → list_all (nat_lt n) (with_first (n + 1) rest) ≡ true
first_above n [] h = let l : n < n + 1 = omega arith in and_from (nat_lt n (n + 1)) true (lt-ltb n (n + 1) l) refl
first_above n (x ∷ xs) h = by_bool {C = list_all (nat_lt n) (cond (nat_eq x (n + 1)) (x ∷ xs) ((n + 1) ∷ x ∷ xs)) ≡ true} (nat_eq x (n + 1))
    (λ k. rw k h)
    (λ k. let l : n < n + 1 = omega arith in rw k (and_from (nat_lt n (n + 1)) _ (lt-ltb n (n + 1) l) h))

pub next_above : (i n : ℕ) (rest : List ℕ) → list_all (nat_lt n) rest ≡ true → list_all (nat_lt n) (with_next i (n + 1) rest) ≡ true
next_above i n rest h = by_bool {C = list_all (nat_lt n) (cond (nat_lt (n + 1) i) (with_first (n + 1) rest) rest) ≡ true} (nat_lt (n + 1) i)
    (λ g. rw g (first_above n rest h))
    (λ g. rw g h)

pub same_falls : (start w v : Schedule) (n : ℕ) (rest seen : List ℕ) → IsDeciding start w (n ∷ rest) seen → v ≡ w → left_of (length v.runs) rest < left_of (length w.runs) (n ∷ rest)
same_falls start w v n rest seen s same =
    subst (λ (x : Schedule). left_of (length x.runs) rest < left_of (length w.runs) (n ∷ rest)) (sym same)
    (left_falls (length w.runs) n rest (ltb-true _ _ (and_left _ _ s.within)) (and_left _ _ s.rising) (and_right (nat_lt n (length w.runs)) _ s.within))

pub next_falls : (start w v : Schedule) (n : ℕ) (rest seen : List ℕ) → IsDeciding start w (n ∷ rest) seen → v ≡ sweep_places (instances_at n w) n 0 w
    → left_of (length v.runs) (with_next (length v.runs) (n + 1) rest) < left_of (length w.runs) (n ∷ rest)
next_falls start w v n rest seen s is =
    let long : length v.runs ≡ length w.runs = ap (λ (x : Schedule). length x.runs) is ∙ places_long (instances_at n w) n 0 w in
    let t = visit_next start w v n rest seen s is in
    subst (λ (i : ℕ). left_of (length v.runs) (with_next (length v.runs) (n + 1) rest) < i - n) long
    (left_falls (length v.runs) n (with_next (length v.runs) (n + 1) rest) (subst (λ (i : ℕ). n < i) (sym long) (ltb-true _ _ (and_left _ _ s.within)))
    (next_above (length v.runs) n rest (and_left _ _ s.rising)) t.within)

pub next_inside : (start w v : Schedule) (n : ℕ) (rest seen : List ℕ) → IsDeciding start w (n ∷ rest) seen → v ≡ sweep_places (instances_at n w) n 0 w → n < length v.runs
next_inside start w v n rest seen s is =
    let long : length v.runs ≡ length w.runs = ap (λ (x : Schedule). length x.runs) is ∙ places_long (instances_at n w) n 0 w in
    let l : n < length w.runs = ltb-true _ _ (and_left _ _ s.within) in
    omega arith

pub no_length : (xs : List ℕ) → length xs ≡ 0 → xs ≡ []
no_length [] e = refl
no_length (x ∷ xs) e = absurd (omega arith)

pub within_at : (n : ℕ) (xs : List ℕ) (i : ℕ) → are_within n xs ≡ true → i < length xs → get_or xs i 0 < n
within_at n [] i h l = absurd (omega arith)
within_at n (x ∷ xs) zero h l = ltb-true x n (and_left _ _ h)
within_at n (x ∷ xs) (suc i) h l = within_at n xs i (and_right (nat_lt x n) _ h) (omega arith)

-- ---- with_next, as far as it goes
pub next_up : (i n : ℕ) (rest : List ℕ) → rises nat_lt (n ∷ rest) ≡ true → rises nat_lt (with_next i (n + 1) rest) ≡ true
next_up i n rest h = by_bool {C = rises nat_lt (cond (nat_lt (n + 1) i) (with_first (n + 1) rest) rest) ≡ true} (nat_lt (n + 1) i)
    (λ g. rw g (next_rises n rest h))
    (λ g. rw g (and_right (list_all (nat_lt n) rest) _ h))

pub next_in_all : (i k : ℕ) (rest : List ℕ) → are_within i rest ≡ true → are_within i (with_next i k rest) ≡ true
next_in_all i k rest h = by_bool {C = are_within i (cond (nat_lt k i) (with_first k rest) rest) ≡ true} (nat_lt k i)
    (λ g. rw g (next_within i k rest (ltb-true k i g) h))
    (λ g. rw g h)

pub more_keeps : (i k : ℕ) (rest : List ℕ) (m : ℕ) → is_in rest m ≡ true → is_in (with_next i k rest) m ≡ true
more_keeps i k rest m e = by_bool {C = is_in (cond (nat_lt k i) (with_first k rest) rest) m ≡ true} (nat_lt k i)
    (λ g. rw g (next_keeps k rest m e))
    (λ g. rw g e)

pub more_in : (i k : ℕ) (rest : List ℕ) → k < i → is_in (with_next i k rest) k ≡ true
more_in i k rest l = let g : nat_lt k i ≡ true = lt-ltb k i l in rw g (next_in k rest)

first_over : (x k : ℕ) (rest : List ℕ) → x < k → list_all (nat_lt x) rest ≡ true → list_all (nat_lt x) (with_first k rest) ≡ true
first_over x k [] l h = and_from (nat_lt x k) true (lt-ltb x k l) refl
first_over x k (y ∷ ys) l h = by_bool {C = list_all (nat_lt x) (cond (nat_eq y k) (y ∷ ys) (k ∷ y ∷ ys)) ≡ true} (nat_eq y k)
    (λ g. rw g h)
    (λ g. rw g (and_from (nat_lt x k) _ (lt-ltb x k l) h))

pub next_over : (i x k : ℕ) (rest : List ℕ) → x < k → list_all (nat_lt x) rest ≡ true → list_all (nat_lt x) (with_next i k rest) ≡ true
next_over i x k rest l h = by_bool {C = list_all (nat_lt x) (cond (nat_lt k i) (with_first k rest) rest) ≡ true} (nat_lt k i)
    (λ g. rw g (first_over x k rest l h))
    (λ g. rw g h)
