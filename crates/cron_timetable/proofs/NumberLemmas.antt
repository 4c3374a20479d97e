-- Numbers, read digit by digit.
use Rattle.std.proofs.Common.{◌≡◌, ℕ, ◌+◌, ◌-◌, ◌*◌, ◌<◌, ◌≤◌, true, false, List, [], length, take, get_or, Some, None, refl, arith}
use Rattle.std.proofs.lemmas.Bool.Decides.{nat_tests}
use Rattle.std.proofs.lemmas.List.Folds.{list_all_at, list_all_more}
use Rattle.std.proofs.lemmas.List.Sums.{fold_more}
use Rattle.std.specs.List.{list_all}
use Rattle.cron_timetable.specs.Elements.{number_of, decimal, is_digit}

pub number_of-empty : (most : ℕ) (bs : List ℕ) → length bs ≡ 0 → number_of most bs ≡ None
unfolding number_of
number_of-empty most bs h = grind (arith, nat_tests)

pub number_of-long : (most : ℕ) (bs : List ℕ) → most < length bs → number_of most bs ≡ None
unfolding number_of
number_of-long most bs h = grind (arith, nat_tests)

pub number_of-bad : (most : ℕ) (bs : List ℕ) (i : ℕ) → i < length bs → is_digit (get_or bs i 0) ≡ false → number_of most bs ≡ None
unfolding number_of
number_of-bad most bs i h bad = let none = list_all_at is_digit bs i 0 h bad in grind (arith, nat_tests)

pub number_of-good : (most : ℕ) (bs : List ℕ) → 0 < length bs → length bs ≤ most → list_all is_digit bs ≡ true → number_of most bs ≡ Some (decimal bs)
unfolding number_of
number_of-good most bs some few digits = grind (arith, nat_tests)

pub decimal-empty : decimal [] ≡ 0
unfolding decimal
decimal-empty = refl

pub decimal_more : (bs : List ℕ) (i : ℕ) → i < length bs → decimal (take (i + 1) bs) ≡ decimal (take i bs) * 10 + (get_or bs i 0 - 48)
unfolding decimal
decimal_more bs i h = fold_more (λ n b. n * 10 + (b - 48)) 0 bs i 0 h

pub digits_more : (bs : List ℕ) (i : ℕ) → i < length bs → list_all is_digit (take i bs) ≡ true → 48 ≤ get_or bs i 0 → get_or bs i 0 ≤ 57 → list_all is_digit (take (i + 1) bs) ≡ true
digits_more bs i h all low high = let more = list_all_more is_digit bs i 0 h in grind (arith, nat_tests)

pub not_digit-low : (b : ℕ) → b < 48 → is_digit b ≡ false
not_digit-low b h = grind (arith, nat_tests)

pub not_digit-high : (b : ℕ) → 57 < b → is_digit b ≡ false
not_digit-high b h = grind (arith, nat_tests)
