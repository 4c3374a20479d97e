-- What `parse` reads of one to three digits is the status that they write.
use Rattle.std.proofs.Common.{◌≡◌, ℕ, ◌<◌, ◌≤◌, ◌&&◌, Bool, true, false, List, [], ◌∷◌, length, nat_le, None, Result, Ok, Err, refl, ap, arith}
use Rattle.std.proofs.lemmas.Bool.{leb-true, le-leb, lt-leb}
use Rattle.std.proofs.lemmas.Str.Parse.{IsNumeralModel, numerals_by_value, tells_all_ascii_digits, parse_digits}
use Rattle.std.specs.Char.{is_ascii_digit}
use Rattle.std.specs.List.{list_all}
use Rattle.std.specs.Result.{OkIff, result_ok}
use Rattle.std.specs.Str.{all_ascii_digits}
use Rattle.std.specs.Str.Parse.{digits_value, ParsesUnsigned}
use Rattle.graph_file.specs.Lists.{when}
use Rattle.graph_file.specs.Operators.{status_of}

pub digits_listed : (bs : List ℕ) → list_all is_ascii_digit bs ≡ all_ascii_digits bs
digits_listed [] = refl
digits_listed (b ∷ bs) = ap (λ c. is_ascii_digit b && c) (digits_listed bs)

numerals : IsNumeralModel (λ ds. all_ascii_digits ds ≡ true) (digits_value 10)
numerals = numerals_by_value _ tells_all_ascii_digits

none_of_both : (a b c : Bool) → (a ≡ true → c ≡ true → ⊥) → ((a && b) && c) ≡ false
none_of_both false b c h = refl
none_of_both true false c h = refl
none_of_both true true false h = refl
none_of_both true true true h = absurd (h refl refl)

status_by : {E : Type 0} (bs : List ℕ) (r : Result ℕ E) → OkIff r ((0 < length bs) × (digits_value 10 bs < 256)) (digits_value 10 bs) → length bs ≤ 3 → all_ascii_digits bs ≡ true → result_ok r ≡ status_of bs
status_by bs (Ok x) h short digits =
    rw (digits, le-leb 1 (length bs) (omega (arith, h.0)), le-leb (length bs) 3 short, le-leb (digits_value 10 bs) 255 (omega (arith, h.0)), h.1) refl
status_by bs (Err e) h short digits =
    rw (digits, none_of_both (nat_le 1 (length bs)) (nat_le (length bs) 3) (nat_le (digits_value 10 bs) 255) (λ a c. h (omega (arith, leb-true 1 (length bs) a), omega (arith, leb-true (digits_value 10 bs) 255 c)))) refl

pub status_read : {E : Type 0} (bs : List ℕ) (r : Result ℕ E) → ParsesUnsigned 8 10 bs r → length bs ≤ 3 → all_ascii_digits bs ≡ true → result_ok r ≡ status_of bs
status_read bs r h short digits = status_by bs r (parse_digits numerals 8 bs r h digits) short digits

when_long : {X : Type 0} (a b c : Bool) (x : X) → b ≡ false → when ((a && b) && c) x ≡ None
when_long false b c x h = refl
when_long true b c x h = rw h refl

when_other : {X : Type 0} (a b c : Bool) (x : X) → b ≡ false → when (a && (b && c)) x ≡ None
when_other false b c x h = refl
when_other true b c x h = rw h refl

pub status_of-long : (bs : List ℕ) → 3 < length bs → status_of bs ≡ None
status_of-long bs h = when_long (nat_le 1 (length bs)) (nat_le (length bs) 3) _ _ (lt-leb (length bs) 3 h)

pub status_of-other : (bs : List ℕ) → all_ascii_digits bs ≡ false → status_of bs ≡ None
status_of-other bs h = when_other _ (all_ascii_digits bs) _ _ h
