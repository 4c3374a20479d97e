-- What a moment prints is read back.
use Rattle.std.proofs.Common.{◌≡◌, ℕ, ◌+◌, ◌*◌, ◌/◌, ◌%◌, ◌<◌, List, ◌∷◌, ◌++◌, codes, Bool, true, false, cond, ◌&&◌, ◌||◌, refl, ap, ◌∙◌, arith, ℤ, pos, ◌+ℤ◌, ◌*ℤ◌, int_lt, Ok}
use Rattle.std.proofs.lemmas.Bool.{le-leb, lt-ltb}
use Rattle.std.proofs.lemmas.Int.{ints}
use Rattle.jiff_core.specs.Calendar.{days_from_civil}
use Rattle.jiff_core.proofs.SignedLemmas.{signed_arith}
use Rattle.jiff_core.proofs.CalendarLemmas.{days_in_month_bounds}
use Rattle.moment_core.specs.Calendar.{date_of}
use Rattle.moment_core.specs.Moments.{seconds_end}
use Rattle.moment_core.specs.Printing.{two_digits_of as two, text_of}
use Rattle.moment_core.specs.Reading.{byte_fits, is_timed, digit, is_time, ranged, moment_at, read_of}
use Rattle.moment_core.proofs.DateLemmas.{IsDay, is_day}

both : {a b : Bool} → a ≡ true → b ≡ true → (a && b) ≡ true
both e f = rw (e, f) refl

or_right : (a : Bool) {b : Bool} → b ≡ true → (a || b) ≡ true
or_right true e = refl
or_right false e = e

chosen : {X : Type 0} (b : Bool) (x y : X) → b ≡ true → cond b x y ≡ x
chosen true x y e = refl
chosen false x y e = cc

passed : {X : Type 0} (b : Bool) (x y : X) → b ≡ false → cond b x y ≡ y
passed true x y e = cc
passed false x y e = refl

same_six : {X : Type 0} (k : ℕ → ℕ → ℕ → ℕ → ℕ → ℕ → X) (a b c d e f a' b' c' d' e' f' : ℕ) → a ≡ a' → b ≡ b' → c ≡ c' → d ≡ d' → e ≡ e' → f ≡ f' → k a b c d e f ≡ k a' b' c' d' e' f'
same_six k a b c d e f a' b' c' d' e' f' h1 h2 h3 h4 h5 h6 = rw (h1, h2, h3, h4, h5, h6) refl

-- a digit fits where one is wanted
digit_fits : (n : ℕ) → n < 10 → byte_fits 100 (48 + n) ≡ true
digit_fits n h = both (le-leb 48 (48 + n) (omega arith)) (le-leb (48 + n) 57 (omega arith))

tens : (n : ℕ) → n < 100 → byte_fits 100 (48 + n / 10) ≡ true
tens n h = digit_fits (n / 10) (omega arith)

ones : (n : ℕ) → byte_fits 100 (48 + n % 10) ≡ true
ones n = digit_fits (n % 10) (omega arith)

-- two digits are read as they were written
two_read : (n : ℕ) → n < 100 → digit (48 + n / 10) * 10 + digit (48 + n % 10) ≡ n
two_read n h = omega arith

year_read : (y : ℕ) → y < 10000 → (digit (48 + y / 100 / 10) * 10 + digit (48 + y / 100 % 10)) * 100 + (digit (48 + y % 100 / 10) * 10 + digit (48 + y % 100 % 10)) ≡ y
year_read y h = omega arith

-- the text of numbers of at most two digits each
abbrev text : ℕ → ℕ → ℕ → ℕ → ℕ → ℕ → ℕ → List ℕ
text c y m d h n s = two c ++ (two y ++ (45 ∷ two m ++ 45 ∷ two d)) ++ (84 ∷ (two h ++ (58 ∷ two n ++ 58 ∷ two s)) ++ codes "+00:00")

text_fits : (c y m d h n s : ℕ) → c < 100 → y < 100 → m < 100 → d < 100 → h < 100 → n < 100 → s < 100 → is_timed (text c y m d h n s) ≡ true
text_fits c y m d h n s hc hy hm hd hh hn hs = or_right _
    (both (tens c hc) (both (ones c) (both (tens y hy) (both (ones y) (both refl (both (tens m hm) (both (ones m) (both refl (both (tens d hd) (both (ones d) (both refl
    (both (tens h hh) (both (ones h) (both refl (both (tens n hn) (both (ones n) (both refl (both (tens s hs) (both (ones s) refl)))))))))))))))))))

ranged_of : (z : ℤ) (m : ℕ) → z ≡ pos m → m < seconds_end → ranged z ≡ Ok m
ranged_of z m e h = ap ranged e ∙ (passed (int_lt (pos m) (pos 0)) _ _ (grind (arith, ints)) ∙ chosen _ _ _ (lt-ltb m seconds_end h))

time_is : (h n s : ℕ) → h < 24 → n < 60 → s < 60 → is_time h n s ≡ true
time_is h n s hh hn hs = both (le-leb h 23 (omega arith)) (both (le-leb n 59 (omega arith)) (le-leb s 59 (omega arith)))

-- the fields of a moment are those of a moment
own_moment : (m y mo d : ℕ) → m < seconds_end → IsDay (m / 86400) (record { year = y; month = mo; day = d }) → moment_at y mo d (m % 86400 / 3600) (m % 86400 % 3600 / 60) (m % 86400 % 60) ≡ Ok m
own_moment m y mo d h is =
    chosen _ _ _ (both (both (both (le-leb _ _ is.calendar.1.0) (le-leb _ _ is.calendar.1.1)) (both (le-leb _ _ is.calendar.2.0) (le-leb _ _ is.calendar.2.1)))
    (time_is (m % 86400 / 3600) (m % 86400 % 3600 / 60) (m % 86400 % 60) (omega arith) (omega arith) (omega arith)))
    ∙ ranged_of ((days_from_civil (pos y) mo d *ℤ pos 86400) +ℤ pos (m % 86400 / 3600 * 3600 + m % 86400 % 3600 / 60 * 60 + m % 86400 % 60)) m (rw is.number (omega (arith, signed_arith))) h

pub read_back : (m : ℕ) → m < seconds_end → read_of (text_of m) ≡ Ok m
read_back m h =
    let is = is_day (m / 86400) (omega arith) in
    let long = days_in_month_bounds (pos (date_of (m / 86400)).year) (date_of (m / 86400)).month in
    let year : (date_of (m / 86400)).year < 10000 = omega (arith, signed_arith, is.calendar.0.1) in
    let month : (date_of (m / 86400)).month < 100 = omega (arith, is.calendar.1.1) in
    let day : (date_of (m / 86400)).day < 100 = omega (arith, is.calendar.2.1, long.0) in
    let century : (date_of (m / 86400)).year / 100 < 100 = omega arith in
    let hour : m % 86400 / 3600 < 100 = omega arith in
    let minute : m % 86400 % 3600 / 60 < 100 = omega arith in
    let whole = own_moment m (date_of (m / 86400)).year (date_of (m / 86400)).month (date_of (m / 86400)).day h is in
    chosen _ _ _ (text_fits ((date_of (m / 86400)).year / 100) ((date_of (m / 86400)).year % 100) (date_of (m / 86400)).month (date_of (m / 86400)).day (m % 86400 / 3600) (m % 86400 % 3600 / 60) (m % 86400 % 60) century (omega arith) month day hour minute (omega arith))
    ∙ (same_six moment_at _ _ _ _ _ _ (date_of (m / 86400)).year (date_of (m / 86400)).month (date_of (m / 86400)).day (m % 86400 / 3600) (m % 86400 % 3600 / 60) (m % 86400 % 60)
    (year_read (date_of (m / 86400)).year year) (two_read _ month) (two_read _ day) (two_read _ hour) (two_read _ minute) (two_read (m % 86400 % 60) (omega arith))
    ∙ whole)
