-- Sets as numbers: their bits, their growth by one element, their union.
use Rattle.std.proofs.Common.{◌≡◌, ℕ, zero, suc, ◌+◌, ◌-◌, ◌*◌, ◌%◌, ◌^◌, ◌<◌, ◌≤◌, ◌==◌, ◌||◌, Bool, true, false, cond, refl, ap, sym, ◌∙◌, arith, bit_and, add-one, inl, inr, max}
use Rattle.std.specs.Int.{bit_at}
use Rattle.std.specs.Int.Bits.{bit_or, or_add_and}
use Rattle.std.proofs.Math.Nat.{pow-suc}
use Rattle.std.proofs.lemmas.Bool.{cases_lt}
use Rattle.std.proofs.lemmas.Nat.{one_shl}
use Rattle.std.proofs.lemmas.Nat.Bits.{and_pow, bit_at_above, bit_at_or, bit_at_cat_low, bit_at_cat_high, same_from_bits}
use Rattle.cron_timetable.specs.Sets.{has, set_below, set_of}
use Rattle.cron_timetable.specs.Fields.{every_day, every_weekday}

-- the whole sets of the day fields, as the code writes them
pub whole_day : every_day ≡ 4294967294
unfolding every_day set_of
whole_day = refl

pub whole_weekday : every_weekday ≡ 127
unfolding every_weekday set_of
whole_weekday = refl

pub ruleset whole_sets = (whole_day, whole_weekday)

bit_above : (s n : ℕ) → s < 2 ^ n → bit_and s (2 ^ n) ≡ 0
bit_above s n h = and_pow s n ∙ (ap (λ b. b * 2 ^ n) (bit_at_above s n n h (omega arith)) ∙ omega arith)

-- to set a bit above all others adds its power
or_above : (s n : ℕ) → s < 2 ^ n → bit_or s (2 ^ n) ≡ s + 2 ^ n
or_above s n h = omega (arith, or_add_and s (2 ^ n), bit_above s n h)

set-step : (s n : ℕ) (b : Bool) → s < 2 ^ n → s + cond b (2 ^ n) 0 < 2 ^ suc n
set-step s n true h = omega (arith, pow-suc 2 n)
set-step s n false h = omega (arith, pow-suc 2 n)

pub set_below-lt : (p : ℕ → Bool) (n : ℕ) → set_below n p < 2 ^ n
set_below-lt p zero = omega arith
set_below-lt p (suc n) = set-step (set_below n p) n (p n) (set_below-lt p n)

-- one number more, which passes
pub set_below-more_yes : (p : ℕ → Bool) (n : ℕ) → n < 64 → p n ≡ true → bit_or (set_below n p) ((1 * 2 ^ n) % 2 ^ 64) ≡ set_below (n + 1) p
set_below-more_yes p n h in_set =
    ap (bit_or (set_below n p)) (one_shl n 64 h)
    ∙ (or_above _ _ (set_below-lt p n) ∙ (sym (ap (λ b. set_below n p + cond b (2 ^ n) 0) in_set) ∙ sym (ap (λ m. set_below m p) (add-one n))))

-- one number more, which does not pass
pub set_below-more_no : (p : ℕ → Bool) (n : ℕ) → p n ≡ false → set_below n p ≡ set_below (n + 1) p
set_below-more_no p n out =
    (omega arith) ∙ (sym (ap (λ b. set_below n p + cond b (2 ^ n) 0) out) ∙ sym (ap (λ m. set_below m p) (add-one n)))

-- a test as a bit
abbrev bit : Bool → ℕ
bit b = cond b 1 0

as_bits : (s n : ℕ) (b : Bool) → s + cond b (2 ^ n) 0 ≡ bit b * 2 ^ n + s
as_bits s n true = omega arith
as_bits s n false = omega arith

lowest : (b : Bool) → bit_at (bit b) 0 ≡ bit b
lowest true = refl
lowest false = refl

top : (p : ℕ → Bool) (s n k : ℕ) → s < 2 ^ n → k ≡ n → bit_at (bit (p n) * 2 ^ n + s) k ≡ bit (p k)
top p s n k h same =
    let none : k - n ≡ 0 = omega arith in
    bit_at_cat_high (bit (p n)) n s k h (omega arith)
    ∙ (ap (bit_at (bit (p n))) none ∙ (lowest (p n) ∙ sym (ap (λ i. bit (p i)) same)))

bit_at-set_below : (p : ℕ → Bool) (n k : ℕ) → k < n → bit_at (set_below n p) k ≡ bit (p k)
bit_at-set_below p zero k h = absurd (omega arith)
bit_at-set_below p (suc n) k h =
    ap (λ m. bit_at m k) (as_bits (set_below n p) n (p n))
    ∙ elim (cases_lt k n) [
      | inl low ↦ bit_at_cat_low (bit (p n)) n (set_below n p) k low ∙ bit_at-set_below p n k low
      | inr high ↦ top p (set_below n p) n k (set_below-lt p n) (omega arith)
    ]

pub bit_at-set_of : (p : ℕ → Bool) (k : ℕ) → k < 64 → bit_at (set_of p) k ≡ cond (p k) 1 0
unfolding set_of
bit_at-set_of p k h = bit_at-set_below p 64 k h

pub bit_at-set_of_above : (p : ℕ → Bool) (k : ℕ) → 64 ≤ k → bit_at (set_of p) k ≡ 0
unfolding set_of
bit_at-set_of_above p k h = bit_at_above (set_below 64 p) 64 k (set_below-lt p 64) h

is_bit : (b : Bool) → (cond b 1 0 == 1) ≡ b
is_bit true = refl
is_bit false = refl

-- a set holds what passes
pub has-set_of : (p : ℕ → Bool) (n : ℕ) → n < 64 → has (set_of p) n ≡ p n
unfolding has
has-set_of p n h = ap (λ d. d == 1) (bit_at-set_of p n h) ∙ is_bit (p n)

pub has-set_of_above : (p : ℕ → Bool) (n : ℕ) → 64 ≤ n → has (set_of p) n ≡ false
unfolding has
has-set_of_above p n h = ap (λ d. d == 1) (bit_at-set_of_above p n h)

max_of_bits : (a b : Bool) → max (bit a) (bit b) ≡ bit (a || b)
max_of_bits true true = refl
max_of_bits true false = refl
max_of_bits false true = refl
max_of_bits false false = refl

-- to join two sets is to ask for one of two tests
pub bit_or-set_of : (p q r : ℕ → Bool) → ((n : ℕ) → r n ≡ (p n || q n)) → bit_or (set_of p) (set_of q) ≡ set_of r
bit_or-set_of p q r either =
    same_from_bits _ _ (λ i. elim (cases_lt i 64) [
      | inl low ↦
          bit_at_or (set_of p) (set_of q) i
          ∙ (ap (λ d. max d (bit_at (set_of q) i)) (bit_at-set_of p i low)
          ∙ (ap (max (bit (p i))) (bit_at-set_of q i low)
          ∙ (max_of_bits (p i) (q i) ∙ (sym (ap bit (either i)) ∙ sym (bit_at-set_of r i low)))))
      | inr high ↦
          bit_at_or (set_of p) (set_of q) i
          ∙ (ap (λ d. max d (bit_at (set_of q) i)) (bit_at-set_of_above p i high)
          ∙ (ap (max 0) (bit_at-set_of_above q i high) ∙ sym (bit_at-set_of_above r i high)))
    ])

max_assoc : (a b c : ℕ) → max a (max b c) ≡ max (max a b) c
max_assoc a b c = omega arith

-- the order in which three sets are joined is free
pub or_assoc : (a b c : ℕ) → bit_or a (bit_or b c) ≡ bit_or (bit_or a b) c
or_assoc a b c =
    same_from_bits _ _ (λ i.
    bit_at_or a (bit_or b c) i
    ∙ (ap (max (bit_at a i)) (bit_at_or b c i)
    ∙ (max_assoc (bit_at a i) (bit_at b i) (bit_at c i)
    ∙ (ap (λ d. max d (bit_at c i)) (sym (bit_at_or a b i)) ∙ sym (bit_at_or (bit_or a b) c i)))))
