-- A line that is read byte by byte: what was read of it, what is left, and what is kept.
use Rattle.std.proofs.Common.{◌≡◌, ◌≢◌, ◌∙◌, ℕ, zero, suc, ◌+◌, ◌<◌, ◌≤◌, ◌==◌, Bool, true, false, cond, nat_le, ◌&&◌, List, [], ◌∷◌, ◌++◌, length, take, Option, Some, None, refl, sym, ap, subst, arith, append_assoc}
use Rattle.std.proofs.lemmas.Bool.{eqb-true, leb-true, leb-false, false_from_ne_true}
use Rattle.std.proofs.lemmas.List.{append-nil, length-append, take_all}
use Rattle.std.proofs.lemmas.List.Folds.{list_all-append}
use Rattle.std.specs.List.{list_all}
use Rattle.text_words.specs.Words.{is_blank}
use Rattle.script_commands.specs.Lines.{newline, line_limit, lines_of, IsNextByte, IsFirstLine, IsNextLine, found_of}
use Rattle.script_commands.specs.declared.lines.Found.TheVariants.{Line, LongLine, End}

-- none of the bytes ends a line
abbrev pub IsOneLine : List ℕ → Type 0
IsOneLine [] = Unit {0}
IsOneLine (x ∷ xs) = ((x == newline) ≡ false) × IsOneLine xs

one_line-append : (xs : List ℕ) (b : ℕ) → IsOneLine xs → (b == newline) ≡ false → IsOneLine (xs ++ b ∷ [])
one_line-append [] b h e = (e, tt)
one_line-append (x ∷ xs) b h e = (h.0, one_line-append xs b h.1 e)

-- a line that ends at a newline
pub lines_of-ended : (line left : List ℕ) → IsOneLine line → lines_of (line ++ newline ∷ left) ≡ line ∷ lines_of left
lines_of-ended [] left h = refl
lines_of-ended (x ∷ line) left h = rw (h.0, lines_of-ended line left h.1) refl

-- a line that ends with the text
pub lines_of-unended : (line : List ℕ) → IsOneLine line → 0 < length line → lines_of line ≡ line ∷ []
lines_of-unended [] h some = absurd (omega arith)
lines_of-unended (x ∷ []) h some = rw h.0 refl
lines_of-unended (x ∷ y ∷ line) h some = rw (h.0, lines_of-unended (y ∷ line) h.1 (omega arith)) refl

-- what is kept of a line that grows
take-again : (n : ℕ) (xs : List ℕ) (b : ℕ) → take n (take n xs ++ b ∷ []) ≡ take n (xs ++ b ∷ [])
take-again zero xs b = refl
take-again (suc n) [] b = refl
take-again (suc n) (x ∷ xs) b = ap (λ l. x ∷ l) (take-again n xs b)

and_true : (v : Bool) → (v && true) ≡ v
and_true true = refl
and_true false = refl

-- a test of each byte, with one more
list_all-more : (p : ℕ → Bool) (xs : List ℕ) (b : ℕ) → list_all p (xs ++ b ∷ []) ≡ (list_all p xs && p b)
list_all-more p xs b = list_all-append p xs (b ∷ []) ∙ ap (λ (v : Bool). list_all p xs && v) (and_true (p b))

-- what was read of the line and has no newline yet, what is kept of it, how long it is, and whether it is of blanks alone
pub record Reading (bytes : List ℕ) (rest : Option (List ℕ)) (line : List ℕ) (n : ℕ) (blank : Bool) : Type 0 where
  pub begun : List ℕ
  pub left : List ℕ
  pub one_line : IsOneLine begun
  pub known : rest ≡ Some left
  pub whole : bytes ≡ begun ++ left
  pub kept : line ≡ take line_limit begun
  pub count : n ≡ length begun
  pub blanks : blank ≡ list_all is_blank begun

-- one more byte, which ends no line
pub reading-byte : (bytes line line' : List ℕ) (rest rest' : Option (List ℕ)) (n b : ℕ) (v v' : Bool) → Reading bytes rest line n v → ((xs : List ℕ) → rest ≡ Some xs → IsNextByte xs (Some b) rest') → b ≢ newline → line' ≡ take line_limit (line ++ b ∷ []) → v' ≡ (v && is_blank b) → Reading bytes rest' line' (n + 1) v'
reading-byte bytes line line' rest rest' n b v v' r next apart grown still =
    let at : (left : List ℕ) × (rest' ≡ Some left) × (r.left ≡ b ∷ left) = next r.left r.known in
    let other : (b == newline) ≡ false = false_from_ne_true (b == newline) (λ e. apart (eqb-true b newline e)) in
    record {
      begun = r.begun ++ b ∷ [];
      left = at.0;
      one_line = one_line-append r.begun b r.one_line other;
      known = at.1;
      whole = r.whole ∙ (ap (λ (l : List ℕ). r.begun ++ l) at.2 ∙ sym (append_assoc r.begun (b ∷ []) at.0));
      kept = grown ∙ (ap (λ (l : List ℕ). take line_limit (l ++ b ∷ [])) r.kept ∙ take-again line_limit r.begun b);
      count = omega (arith, r.count, length-append r.begun (b ∷ []));
      blanks = still ∙ (ap (λ (w : Bool). w && is_blank b) r.blanks ∙ sym (list_all-more is_blank r.begun b));
    }

-- a whole line of n bytes: what is told of it
told-at : (bytes whole line : List ℕ) (rest : Option (List ℕ)) (n : ℕ) (w v : Bool) → nat_le n line_limit ≡ v → IsFirstLine bytes whole rest → line ≡ take line_limit whole → n ≡ length whole → w ≡ list_all is_blank whole → IsNextLine bytes (cond v Line (LongLine w)) line rest
told-at bytes whole line rest n w true e first kept count blanks =
    let within : length whole ≤ line_limit = omega (arith, leb-true n line_limit e) in
    let same : line ≡ whole = kept ∙ take_all line_limit whole within in
    (subst (λ (l : List ℕ). IsFirstLine bytes l rest) (sym same) first, subst (λ (l : List ℕ). length l ≤ line_limit) (sym same) within)
told-at bytes whole line rest n w false e first kept count blanks =
    let long : line_limit < length whole = omega (arith, leb-false n line_limit e) in
    (whole, first, long, kept, blanks)

-- a newline ends the line
pub read-ended : (bytes line : List ℕ) (rest rest' : Option (List ℕ)) (n b : ℕ) (v : Bool) → Reading bytes rest line n v → ((xs : List ℕ) → rest ≡ Some xs → IsNextByte xs (Some b) rest') → b ≡ newline → IsNextLine bytes (found_of n v) line rest'
read-ended bytes line rest rest' n b v r next ends =
    let at : (left : List ℕ) × (rest' ≡ Some left) × (r.left ≡ b ∷ left) = next r.left r.known in
    let whole : bytes ≡ r.begun ++ newline ∷ at.0 = r.whole ∙ (ap (λ (l : List ℕ). r.begun ++ l) at.2 ∙ ap (λ (x : ℕ). r.begun ++ x ∷ at.0) ends) in
    let lines : lines_of bytes ≡ r.begun ∷ lines_of at.0 = ap lines_of whole ∙ lines_of-ended r.begun at.0 r.one_line in
    told-at bytes r.begun line rest' n v (nat_le n line_limit) refl (record { left = at.0; known = at.1; lines = lines }) r.kept r.count r.blanks

-- so does the end of the text, where a line has begun
pub read-unended : (bytes line : List ℕ) (rest rest' : Option (List ℕ)) (n : ℕ) (v : Bool) → Reading bytes rest line n v → ((xs : List ℕ) → rest ≡ Some xs → IsNextByte xs None rest') → n ≢ 0 → IsNextLine bytes (found_of n v) line rest'
read-unended bytes line rest rest' n v r next some =
    let at : (r.left ≡ []) × (rest' ≡ Some []) = next r.left r.known in
    let whole : bytes ≡ r.begun = r.whole ∙ (ap (λ (l : List ℕ). r.begun ++ l) at.0 ∙ append-nil r.begun) in
    let lines : lines_of bytes ≡ r.begun ∷ [] = ap lines_of whole ∙ lines_of-unended r.begun r.one_line (omega (arith, r.count)) in
    told-at bytes r.begun line rest' n v (nat_le n line_limit) refl (record { left = []; known = at.1; lines = lines }) r.kept r.count r.blanks

nothing : (xs : List ℕ) → length xs ≡ 0 → xs ≡ []
nothing [] e = refl
nothing (x ∷ xs) e = absurd (omega arith)

-- no line has begun, and the text ends
pub read-end : (bytes line : List ℕ) (rest rest' : Option (List ℕ)) (n : ℕ) (v : Bool) → Reading bytes rest line n v → ((xs : List ℕ) → rest ≡ Some xs → IsNextByte xs None rest') → n ≡ 0 → IsNextLine bytes End line rest'
read-end bytes line rest rest' n v r next none =
    let at : (r.left ≡ []) × (rest' ≡ Some []) = next r.left r.known in
    let empty : r.begun ≡ [] = nothing r.begun (omega (arith, r.count)) in
    (r.whole ∙ (ap (λ (l : List ℕ). l ++ r.left) empty ∙ at.0), at.1, r.kept ∙ ap (λ (l : List ℕ). take line_limit l) empty)
