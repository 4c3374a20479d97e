-- The words of a text.
-- restates: crontab(5), blanks
use Rattle.std.specs.Prelude.{ℕ, Bool, ◌==◌, ◌||◌, nat_lt, List, length, filter}
use Rattle.std.specs.List.{slice_split}

-- blanks are spaces and tabs
abbrev pub is_blank : ℕ → Bool
is_blank b = b == 32 || b == 9

-- the words of a text: the parts between blanks that are not empty
unfoldable pub words : List ℕ → List (List ℕ)
words text = filter (λ w. nat_lt 0 (length w)) (slice_split is_blank text)
