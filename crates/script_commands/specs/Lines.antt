-- The lines of a text, and what a reader gives of them: its next byte, its next line.
use Rattle.std.specs.Prelude.{◌≡◌, ℕ, ◌+◌, ◌<◌, ◌≤◌, ◌==◌, min, nat_le, Bool, if◌then◌else◌, List, [], ◌∷◌, length, take, Option, Some, MatchOption}
use Rattle.std.specs.List.{list_all}
use Rattle.text_words.specs.Words.{is_blank}
use Rattle.script_commands.specs.declared.lines.Found.{Found}
use Rattle.script_commands.specs.declared.lines.Found.TheVariants.{Line, LongLine, End}

-- the byte that ends a line
-- restates: this project's own profile
abbrev pub newline : ℕ
newline = 10

-- the most bytes of a line that is told, without its newline
-- restates: this project's own profile
abbrev pub line_limit : ℕ
line_limit = 65536

-- what a reader holds: the line that was read last, and its number
pub record Held : Type 0 where
  pub line : List ℕ
  pub number : ℕ

-- the number of the line after the one of this number
abbrev pub next_number : ℕ → ℕ
next_number n = min (n + 1) 18446744073709551615

-- one more byte at the front of the first line
abbrev pub push_first : ℕ → List (List ℕ) → List (List ℕ)
push_first x [] = (x ∷ []) ∷ []
push_first x (line ∷ lines) = (x ∷ line) ∷ lines

-- the lines of a text: each ends at a newline, which is no part of it, or at the end of the text
-- restates: POSIX, 'Line', with an incomplete last line
abbrev pub lines_of : List ℕ → List (List ℕ)
lines_of [] = []
lines_of (x ∷ xs) = if x == newline then [] ∷ lines_of xs else push_first x (lines_of xs)

-- the bytes begin with this one and have the rest after it, or there are none
abbrev pub IsNextByte : List ℕ → Option ℕ → Option (List ℕ) → Type 0
IsNextByte bytes byte rest =
    MatchOption byte ((bytes ≡ []) × (rest ≡ Some [])) (λ b. (left : List ℕ) × (rest ≡ Some left) × (bytes ≡ b ∷ left))

-- the lines of the bytes are this one, and then those of the rest
pub record IsFirstLine (bytes line : List ℕ) (rest : Option (List ℕ)) : Type 0 where
  pub left : List ℕ
  pub known : rest ≡ Some left
  pub lines : lines_of bytes ≡ line ∷ lines_of left

-- a line of the limit at most is told whole; of a longer one, its beginning, and whether it is of blanks alone; the end, exactly where no byte is left
abbrev pub IsNextLine : List ℕ → Found → List ℕ → Option (List ℕ) → Type 0
IsNextLine bytes Line line rest = IsFirstLine bytes line rest × (length line ≤ line_limit)
IsNextLine bytes (LongLine blank) line rest =
    (whole : List ℕ) × IsFirstLine bytes whole rest × (line_limit < length whole) × (line ≡ take line_limit whole)
    × (blank ≡ list_all is_blank whole)
IsNextLine bytes End line rest = (bytes ≡ []) × (rest ≡ Some []) × (line ≡ [])

-- what is found of a line of this length, of blanks alone or not
abbrev pub found_of : ℕ → Bool → Found
found_of n blank = if nat_le n line_limit then Line else LongLine blank
