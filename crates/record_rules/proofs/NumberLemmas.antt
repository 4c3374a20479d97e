-- The numbers of columns: their order, their ranges, and as natural numbers.
use Rattle.std.proofs.Common.{◌≡◌, refl, sym, ap, ◌∙◌, ℕ, ℤ, pos, negsuc, ◌-◌, ◌<◌, ◌≤◌, Bool, true, false, cond, not, ◌&&◌, ◌==◌, int_lt, int_eq, int_cmp, nat_lt, nat_le, Option, Some, None, option_map, arith, true≢false, leb-true}
use Rattle.std.specs.Prelude.{int_le}
use Rattle.std.proofs.lemmas.Bool.{and_from, eq-eqb, le-leb, lt-ltb, ltb-true}
use Rattle.std.proofs.lemmas.Int.{ints}
use Rattle.std.specs.Ordering.{nat_cmp}
use Rattle.std.specs.declared.cmp.Ordering.TheVariants.{Less, Equal, Greater}
use Rattle.std.proofs.lemmas.Bool.Decides.{nat_tests}
use Rattle.moment_core.specs.Moments.{seconds_end}
use Rattle.sched_laws.proofs.sched_state.OrderLemmas.{and_left, and_right}
use Rattle.sched_laws.specs.sched_model.Sound.{is_moment, is_moment_if, is_used}
use Rattle.record_rules.specs.Numbers.{is_between, is_moment_column, passes_if, natural}

-- ---- the order
pub less_itself : (x : ℤ) → int_lt x x ≡ false
less_itself x = grind (arith, ints)

pub less_back : (x y : ℤ) → int_lt x y ≡ true → int_lt y x ≡ false
less_back x y e = grind (arith, ints)

pub less_more : (x y z : ℤ) → int_lt x y ≡ true → int_lt y z ≡ true → int_lt x z ≡ true
less_more x y z e f = grind (arith, ints)

pub less_alike : (x y z : ℤ) → int_lt x y ≡ false → int_lt y x ≡ false → int_lt x z ≡ true → int_lt y z ≡ true
less_alike x y z e f g = grind (arith, ints)

pub less_neither : (x y : ℤ) → int_lt x y ≡ false → int_lt y x ≡ false → x ≡ y
less_neither x y e f = grind (arith, ints)

pub less_least : (x y : ℤ) → int_lt x y ≡ true → int_le x y ≡ true
less_least x y e = grind (arith, ints)

pub least_not_less : (x y : ℤ) → int_lt x y ≡ false → int_le y x ≡ true
least_not_less x y e = grind (arith, ints)

pub least_more : (x y z : ℤ) → int_le x y ≡ true → int_le y z ≡ true → int_le x z ≡ true
least_more x y z e f = grind (arith, ints)

pub less_then_least : (x y z : ℤ) → int_lt x y ≡ true → int_le y z ≡ true → int_lt x z ≡ true
less_then_least x y z e f = grind (arith, ints)

-- ---- equal numbers
pub same_naturals : (m n : ℕ) → int_eq (pos m) (pos n) ≡ (m == n)
same_naturals m n = grind (arith, ints)

pub number_itself : (x : ℤ) → int_eq x x ≡ true
number_itself x = grind (arith, ints)

pub same_number : (x y : ℤ) → int_eq x y ≡ true → x ≡ y
same_number x y e = grind (arith, ints)

pub equal_naturals : (m n : ℕ) → m ≡ n → int_eq (pos m) (pos n) ≡ true
equal_naturals m n e = same_naturals m n ∙ eq-eqb m n e

-- ---- the order of natural numbers
pub cmp_naturals : (m n : ℕ) → int_cmp (pos m) (pos n) ≡ nat_cmp m n
cmp_naturals m n = cases (nat_lt m n) (nat_lt n m) (m == n) (λ e. grind (arith, nat_tests))
  where
    cases : (b c d : Bool) → (b ≡ false → c ≡ not d) → cond b Less (cond c Greater Equal) ≡ cond b Less (cond d Equal Greater)
    cases true c d h = refl
    cases false c true h = ap (λ e. cond e Greater Equal) (h refl)
    cases false c false h = ap (λ e. cond e Greater Equal) (h refl)

-- ---- ranges
pub up_to : (high n : ℕ) → nat_le n high ≡ true → is_between 0 high (pos n) ≡ true
up_to high n e = and_from _ _ (le-leb 0 n (omega arith)) e

pub moment_up_to : (m : ℕ) → is_moment m ≡ true → is_moment_column (pos m) ≡ true
moment_up_to m e = let l : m < seconds_end = ltb-true m seconds_end e in up_to (seconds_end - 1) m (le-leb m (seconds_end - 1) (omega arith))

pub moments_up_to : (o : Option ℕ) → is_moment_if o ≡ true → passes_if is_moment_column (option_map (λ (m : ℕ). pos m) o) ≡ true
moments_up_to None e = refl
moments_up_to (Some m) e = moment_up_to m e

-- ---- a number in a range is a natural one
pub from_natural : (low high : ℕ) (z : ℤ) → is_between low high z ≡ true → pos (natural z) ≡ z
from_natural low high (pos n) e = refl
from_natural low high (negsuc n) e = absurd (true≢false (sym e))

pub natural_from : (low high : ℕ) (z : ℤ) → is_between low high z ≡ true → nat_le low (natural z) ≡ true
natural_from low high (pos n) e = and_left _ _ e
natural_from low high (negsuc n) e = absurd (true≢false (sym e))

pub natural_to : (low high : ℕ) (z : ℤ) → is_between low high z ≡ true → nat_le (natural z) high ≡ true
natural_to low high (pos n) e = and_right (nat_le low n) _ e
natural_to low high (negsuc n) e = absurd (true≢false (sym e))

pub natural_moment : (z : ℤ) → is_moment_column z ≡ true → is_moment (natural z) ≡ true
natural_moment z e = let l : natural z ≤ seconds_end - 1 = leb-true (natural z) (seconds_end - 1) (natural_to 0 (seconds_end - 1) z e) in lt-ltb (natural z) seconds_end (omega arith)

pub from_moment : (z : ℤ) → is_moment_column z ≡ true → pos (natural z) ≡ z
from_moment z e = from_natural 0 (seconds_end - 1) z e

pub natural_moments : (o : Option ℤ) → passes_if is_moment_column o ≡ true → is_moment_if (option_map natural o) ≡ true
natural_moments None e = refl
natural_moments (Some z) e = natural_moment z e

pub from_moments : (o : Option ℤ) → passes_if is_moment_column o ≡ true → option_map (λ (m : ℕ). pos m) (option_map natural o) ≡ o
from_moments None e = refl
from_moments (Some z) e = ap (λ (x : ℤ). let w : Option ℤ = Some x in w) (from_moment z e)

pub natural_less : (x y : ℤ) → int_le (pos 1) x ≡ true → int_lt x y ≡ true → nat_lt (natural x) (natural y) ≡ true
natural_less (pos m) (pos n) e f = f
natural_less (pos m) (negsuc n) e f = absurd (true≢false (sym f))
natural_less (negsuc m) y e f = absurd (true≢false (sym e))

pub natural_least : (x y : ℤ) → is_moment_column x ≡ true → int_le x y ≡ true → nat_le (natural x) (natural y) ≡ true
natural_least (pos m) (pos n) e f = f
natural_least (pos m) (negsuc n) e f = absurd (true≢false (sym f))
natural_least (negsuc m) y e f = absurd (true≢false (sym e))

pub from_one : (z : ℤ) → int_le (pos 1) z ≡ true → pos (natural z) ≡ z
from_one (pos n) e = refl
from_one (negsuc n) e = absurd (true≢false (sym e))

pub used_natural : (next z : ℤ) → (int_le (pos 1) z && int_lt z next) ≡ true → is_used (natural next) (natural z) ≡ true
used_natural (pos m) (pos n) e = e
used_natural (negsuc m) (pos n) e = absurd (true≢false (sym (and_right (nat_le 1 n) false e)))
used_natural next (negsuc n) e = absurd (true≢false (sym e))

pub equal_numbers : (x y : ℤ) → x ≡ y → int_eq x y ≡ true
equal_numbers x y e = ap (int_eq x) (sym e) ∙ number_itself x

-- a code that is read and written again
pub coded : (f : ℕ → ℕ) (high : ℕ) → ((n : ℕ) → nat_le n high ≡ true → f n ≡ n) → (z : ℤ) → is_between 0 high z ≡ true → pos (f (natural z)) ≡ z
coded f high h z e = ap pos (h (natural z) (natural_to 0 high z e)) ∙ from_natural 0 high z e
