-- The logical dates of a graph's runs.
use Rattle.std.specs.Prelude.{ℕ, Bool, ◌==◌, List}
use Rattle.std.specs.List.{list_any}

-- the dates, and how many more there is room for
pub record Index : Type 0 where
  pub dates : List ℕ
  pub room : ℕ

-- the date is one of them
abbrev pub has_date : List ℕ → ℕ → Bool
has_date dates date = list_any (λ d. d == date) dates
