-- Tests of a list of states, by how many of them are which.
use Rattle.std.proofs.Common.{◌≡◌, ◌∙◌, ℕ, zero, suc, ◌+◌, ◌==◌, ◌&&◌, ◌||◌, Bool, true, false, not, cond, nat_lt, List, [], ◌∷◌, ◌++◌, refl, sym, ap, arith, zero-add}
use Rattle.std.proofs.lemmas.Bool.{lt-ltb, ne_eqb}
use Rattle.std.proofs.lemmas.List.Sums.{sum_by-append, sum_by-cons}
use Rattle.std.specs.List.{count_by, list_any, list_all}
use Rattle.trigger_rules.specs.States.{is_success, is_failed, is_upstream_failed, is_skipped, is_finished}
use Rattle.trigger_rules.specs.Counts.{Tally, counts_of}
use Rattle.trigger_rules.specs.declared.states.State.{State}
use Rattle.trigger_rules.specs.declared.states.State.TheVariants as state

-- the number, where the test passes
abbrev pub pick : Bool → ℕ → ℕ
pick b n = cond b n 0

one : (b : Bool) (n : ℕ) → pick b (1 + n) ≡ pick b 1 + pick b n
one true n = refl
one false n = refl

same : (b : Bool) (n : ℕ) → pick b (0 + n) ≡ pick b n
same true n = zero-add n
same false n = refl

count-cons : (p : State → Bool) (x : State) (s : List State) → count_by p (x ∷ s) ≡ pick (p x) 1 + count_by p s
count-cons p x s = sum_by-cons (λ y. cond (p y) 1 0) x s

-- the five numbers of which a state counts in one
abbrev pub kinds : (State → Bool) → ℕ → ℕ → ℕ → ℕ → ℕ → ℕ
kinds p a b c d n =
    pick (p state.Success) a + (pick (p state.Failed) b + (pick (p state.UpstreamFailed) c + (pick (p state.Skipped) d + pick (p state.None) n)))

abbrev pub is_unfinished : State → Bool
is_unfinished x = not (is_finished x)

-- one state more
step : (p : State → Bool) → p state.Scheduled ≡ p state.None → p state.Queued ≡ p state.None → p state.Running ≡ p state.None → p state.UpForRetry ≡ p state.None → (x : State) (t a b c d n : ℕ)
    → t ≡ kinds p a b c d n → pick (p x) 1 + t ≡ kinds p (pick (is_success x) 1 + a) (pick (is_failed x) 1 + b) (pick (is_upstream_failed x) 1 + c) (pick (is_skipped x) 1 + d) (pick (is_unfinished x) 1 + n)
step p e f g h state.Success t a b c d n ih = omega (arith, ih, one (p state.Success) a, same (p state.Failed) b, same (p state.UpstreamFailed) c, same (p state.Skipped) d, same (p state.None) n)
step p e f g h state.Failed t a b c d n ih = omega (arith, ih, same (p state.Success) a, one (p state.Failed) b, same (p state.UpstreamFailed) c, same (p state.Skipped) d, same (p state.None) n)
step p e f g h state.UpstreamFailed t a b c d n ih = omega (arith, ih, same (p state.Success) a, same (p state.Failed) b, one (p state.UpstreamFailed) c, same (p state.Skipped) d, same (p state.None) n)
step p e f g h state.Skipped t a b c d n ih = omega (arith, ih, same (p state.Success) a, same (p state.Failed) b, same (p state.UpstreamFailed) c, one (p state.Skipped) d, same (p state.None) n)
step p e f g h state.None t a b c d n ih = omega (arith, ih, same (p state.Success) a, same (p state.Failed) b, same (p state.UpstreamFailed) c, same (p state.Skipped) d, one (p state.None) n)
step p e f g h state.Scheduled t a b c d n ih = omega (arith, ih, ap (λ v. pick v 1) e, same (p state.Success) a, same (p state.Failed) b, same (p state.UpstreamFailed) c, same (p state.Skipped) d, one (p state.None) n)
step p e f g h state.Queued t a b c d n ih = omega (arith, ih, ap (λ v. pick v 1) f, same (p state.Success) a, same (p state.Failed) b, same (p state.UpstreamFailed) c, same (p state.Skipped) d, one (p state.None) n)
step p e f g h state.Running t a b c d n ih = omega (arith, ih, ap (λ v. pick v 1) g, same (p state.Success) a, same (p state.Failed) b, same (p state.UpstreamFailed) c, same (p state.Skipped) d, one (p state.None) n)
step p e f g h state.UpForRetry t a b c d n ih = omega (arith, ih, ap (λ v. pick v 1) h, same (p state.Success) a, same (p state.Failed) b, same (p state.UpstreamFailed) c, same (p state.Skipped) d, one (p state.None) n)

none : (b : Bool) → pick b 0 ≡ 0
none true = refl
none false = refl

-- how many states pass, by how many are which
pub count-by_kind : (p : State → Bool) → p state.Scheduled ≡ p state.None → p state.Queued ≡ p state.None → p state.Running ≡ p state.None → p state.UpForRetry ≡ p state.None → (s : List State)
    → count_by p s ≡ kinds p (count_by is_success s) (count_by is_failed s) (count_by is_upstream_failed s) (count_by is_skipped s) (count_by is_unfinished s)
count-by_kind p e f g h [] = omega (arith, none (p state.Success), none (p state.Failed), none (p state.UpstreamFailed), none (p state.Skipped), none (p state.None))
count-by_kind p e f g h (x ∷ s) =
    count-cons p x s
    ∙ (step p e f g h x _ _ _ _ _ _ (count-by_kind p e f g h s)
    ∙ sym (all_same p (count-cons is_success x s) (count-cons is_failed x s) (count-cons is_upstream_failed x s) (count-cons is_skipped x s) (count-cons is_unfinished x s)))
  where
    all_same : (p : State → Bool) {a b c d n a' b' c' d' n' : ℕ} → a ≡ a' → b ≡ b' → c ≡ c' → d ≡ d' → n ≡ n' → kinds p a b c d n ≡ kinds p a' b' c' d' n'
    all_same p e f g h k = cc

-- ---- tests by counts
some-step : (b v : Bool) (n : ℕ) → v ≡ nat_lt 0 n → (b || v) ≡ nat_lt 0 (pick b 1 + n)
some-step true v n h = sym (lt-ltb 0 (1 + n) (omega arith))
some-step false v n h = h ∙ ap (nat_lt 0) (sym (zero-add n))

-- one passes where at least one is counted
pub any-count : (p : State → Bool) (s : List State) → list_any p s ≡ nat_lt 0 (count_by p s)
any-count p [] = refl
any-count p (x ∷ s) = some-step (p x) (list_any p s) (count_by p s) (any-count p s) ∙ ap (nat_lt 0) (sym (count-cons p x s))

all-step : (b v : Bool) (n : ℕ) → v ≡ (n == 0) → (b && v) ≡ (pick (not b) 1 + n == 0)
all-step true v n h = h ∙ ap (λ m. m == 0) (sym (zero-add n))
all-step false v n h = sym (ne_eqb (1 + n) 0 (λ e. absurd (omega arith)))

-- all pass where none that does not is counted
pub all-count : (p : State → Bool) (s : List State) → list_all p s ≡ (count_by (λ x. not (p x)) s == 0)
all-count p [] = refl
all-count p (x ∷ s) =
    all-step (p x) (list_all p s) (count_by (λ y. not (p y)) s) (all-count p s) ∙ ap (λ m. m == 0) (sym (count-cons (λ y. not (p y)) x s))

-- the same by a number that is this count
pub any-is : (p : State → Bool) (s : List State) (n : ℕ) → count_by p s ≡ n → nat_lt 0 n ≡ list_any p s
any-is p s n e = ap (nat_lt 0) (sym e) ∙ sym (any-count p s)

pub all-is : (p : State → Bool) (s : List State) (n : ℕ) → count_by (λ x. not (p x)) s ≡ n → (n == 0) ≡ list_all p s
all-is p s n e = ap (λ m. m == 0) (sym e) ∙ sym (all-count p s)

-- none is counted, or some
pub zero-some : (n : ℕ) → (n == 0) ≡ not (nat_lt 0 n)
zero-some zero = refl
zero-some (suc n) = ne_eqb (suc n) 0 (λ e. absurd (omega arith)) ∙ sym (ap not (lt-ltb 0 (suc n) (omega arith)))

-- a state counts the same wherever it stands
count_moved : (p : State → Bool) (s t : List State) (x : State) → count_by p ((s ++ t) ++ x ∷ []) ≡ count_by p (s ++ x ∷ t)
count_moved p s t x =
    let f : State → ℕ = λ y. cond (p y) 1 0 in
    omega (arith, sum_by-append f (s ++ t) (x ∷ []), sum_by-append f s t, sum_by-append f s (x ∷ t), sum_by-cons f x t, sum_by-cons f x [])

pub counts_moved : (s t : List State) (x : State) → counts_of ((s ++ t) ++ x ∷ []) ≡ counts_of (s ++ x ∷ t)
counts_moved s t x = all_same (count_moved is_success s t x) (count_moved is_failed s t x) (count_moved is_upstream_failed s t x) (count_moved is_skipped s t x) (count_moved is_unfinished s t x)
  where
    all_same : {a b c d n a' b' c' d' n' : ℕ} → a ≡ a' → b ≡ b' → c ≡ c' → d ≡ d' → n ≡ n'
        → ◌≡◌ {A = Tally} (record { success = a; failed = b; upstream_failed = c; skipped = d; unfinished = n }) (record { success = a'; failed = b'; upstream_failed = c'; skipped = d'; unfinished = n' })
    all_same e f g h k = cc
