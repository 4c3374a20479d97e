-- The words of a line that is UTF-8 are UTF-8.
use Rattle.std.proofs.Common.{◌≡◌, ◌<◌, ◌≤◌, ◌+◌, ◌==◌, ◌||◌, ℕ, zero, suc, Bool, true, false, not, List, [], ◌∷◌, All, length, take, drop, get_or, refl, subst, sym, ap, ◌∙◌, arith, inl, inr}
use Rattle.std.proofs.Common.{add-one}
use Rattle.std.proofs.lemmas.Bool.{cases_lt, eqb-true, false≢true}
use Rattle.std.proofs.lemmas.List.Sums.{fails_before_first, passes_at_first, prefix_len-le-length}
use Rattle.std.proofs.lemmas.Str.{IsCharBoundary-after_ascii, IsCharBoundary-before_ascii, IsCharBoundary-end, IsCharBoundary-start, IsUtf8-drop, IsUtf8-take}
use Rattle.std.specs.List.{position_or_len}
use Rattle.std.specs.Str.{IsCharBoundary, IsUtf8}
use Rattle.std.proofs.lemmas.List.{length-drop, length-take-le}
use Rattle.std.proofs.lemmas.List.Elements.{All-cons, All-nil}
use Rattle.text_words.specs.Words.{is_blank, words}
use Rattle.text_words.proofs.WordLemmas.{words-next, words-none}

-- a blank is ASCII
tab_at : (b : ℕ) → (v : Bool) → (b == 9) ≡ v → v ≡ true → b < 128
tab_at b true e h = let same : b ≡ 9 = eqb-true b 9 e in omega (arith, same)
tab_at b false e h = absurd (false≢true h)

blank_at : (b : ℕ) → (v : Bool) → (b == 32) ≡ v → (v || (b == 9)) ≡ true → b < 128
blank_at b true e h = let same : b ≡ 32 = eqb-true b 32 e in omega (arith, same)
blank_at b false e h = tab_at b (b == 9) refl h

blank_small : (b : ℕ) → is_blank b ≡ true → b < 128
blank_small b h = blank_at b (b == 32) refl h

not_false : (v : Bool) → not v ≡ false → v ≡ true
not_false true h = refl
not_false false h = sym h

-- a text may be cut before its first word
begins_at : (text : List ℕ) (i : ℕ) → IsUtf8 text → i ≤ length text → ((k : ℕ) → k < i → is_blank (get_or text k 0) ≡ true) → IsCharBoundary text i
begins_at text zero u le blanks = IsCharBoundary-start text u
begins_at text (suc k) u le blanks =
    subst (IsCharBoundary text) (add-one k) (IsCharBoundary-after_ascii text k u (omega arith) (blank_small (get_or text k 0) (blanks k (omega arith))))

word_begins : (text : List ℕ) → IsUtf8 text → IsCharBoundary text (position_or_len (λ b. not (is_blank b)) text)
word_begins text u =
    begins_at text _ u (prefix_len-le-length (λ x. not (not (is_blank x))) text)
    (λ k below. not_false (is_blank (get_or text k 0)) (fails_before_first (λ b. not (is_blank b)) text k 0 below))

-- and behind it
word_ends : (text : List ℕ) → IsUtf8 text → IsCharBoundary text (position_or_len is_blank text)
word_ends text u =
    elim (cases_lt (position_or_len is_blank text) (length text)) [
      | inl inside ↦ IsCharBoundary-before_ascii text (position_or_len is_blank text) inside (blank_small _ (passes_at_first is_blank text 0 inside))
      | inr past ↦
          let at : length text ≡ position_or_len is_blank text = omega (arith, prefix_len-le-length (λ x. not (is_blank x)) text) in
          subst (IsCharBoundary text) at (IsCharBoundary-end text)
    ]

-- ---- from the first word on
abbrev first : List ℕ → ℕ
first text = position_or_len (λ b. not (is_blank b)) text

abbrev end : List ℕ → ℕ
end text = position_or_len is_blank text

no_words : (text : List ℕ) → length (drop (first text) text) ≡ 0 → All IsUtf8 (words text)
no_words text none = subst (All IsUtf8) (sym (words-none text (drop (first text) text) (first text) refl refl none)) (All-nil IsUtf8)

words_within : (n : ℕ) (text : List ℕ) → length text ≤ n → IsUtf8 text → All IsUtf8 (words text)
words_within zero text le u = no_words text (omega (arith, length-drop (first text) text))
words_within (suc n) text le u =
    let rest : List ℕ = drop (first text) text in
    let utf8 : IsUtf8 rest = IsUtf8-drop text (first text) u (word_begins text u) in
    let inside : end rest ≤ length rest = prefix_len-le-length (λ x. not (is_blank x)) rest in
    elim (cases_lt 0 (length rest)) [
      | inl some ↦
          let next = words-next text rest (take (end rest) rest) (drop (end rest) rest) (first text) (end rest) refl (prefix_len-le-length (λ x. not (not (is_blank x))) text) refl some refl inside refl refl in
          let shorter : length (drop (end rest) rest) ≤ n = omega (arith, length-drop (end rest) rest, length-drop (first text) text, next.1, length-take-le (end rest) rest inside) in
          subst (All IsUtf8) (sym next.0)
          (All-cons IsUtf8 (take (end rest) rest) (words (drop (end rest) rest)) (IsUtf8-take rest (end rest) utf8 (word_ends rest utf8))
          (words_within n (drop (end rest) rest) shorter (IsUtf8-drop rest (end rest) utf8 (word_ends rest utf8))))
      | inr none ↦ no_words text (omega arith)
    ]

pub words_utf8 : (text : List ℕ) → IsUtf8 text → All IsUtf8 (words text)
words_utf8 text u = words_within (length text) text (omega arith) u
