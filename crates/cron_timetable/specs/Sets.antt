-- Sets of numbers below 64: a set is the number whose bit n says whether n is in it.
use Rattle.std.specs.Prelude.{ℕ, zero, suc, ◌+◌, ◌^◌, Bool, ◌==◌, if◌then◌else◌}
use Rattle.std.specs.Int.{bit_at}

-- n is in the set
unfoldable pub has : ℕ → ℕ → Bool
has set n = bit_at set n == 1

-- those of the numbers below n that pass
abbrev pub set_below : ℕ → (ℕ → Bool) → ℕ
set_below zero p = 0
set_below (suc n) p = set_below n p + (if p n then 2 ^ n else 0)

-- the numbers that pass
unfoldable pub set_of : (ℕ → Bool) → ℕ
set_of p = set_below 64 p
