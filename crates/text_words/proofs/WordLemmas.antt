-- The words of a text, and the parts between separators.
use Rattle.std.proofs.Common.{◌≡◌, ℕ, suc, ◌+◌, ◌<◌, ◌≤◌, Bool, true, false, not, ◌&&◌, cond, List, [], ◌∷◌, length, take, drop, get_or, filter, nat_lt, refl, ap, sym, ◌∙◌, arith, inl, inr}
use Rattle.std.proofs.Common.{add-one}
use Rattle.std.proofs.Math.Seq.{drop-cons}
use Rattle.std.proofs.lemmas.Bool.{cases_lt, lt-ltb, false≢true}
use Rattle.std.proofs.lemmas.List.{length-take, length-take-le, length-drop, take_all, drop_all, get_or-drop}
use Rattle.std.proofs.lemmas.List.Sums.{passes_at_first, prefix_len-le-length}
use Rattle.std.proofs.lemmas.List.Splits.{slice_split-cons_yes, slice_split-cons_no, slice_split_first}
use Rattle.std.specs.List.{list_all, slice_split, position_or_len, after_first, onto_first}
use Rattle.text_words.specs.Words.{words, is_blank}

-- ---- the parts of a list that is cut where p passes
last-step : (p : ℕ → Bool) (x : ℕ) (xs : List ℕ) (v : Bool) → p x ≡ v → length (x ∷ xs) ≤ position_or_len p (x ∷ xs) → (length xs ≤ position_or_len p xs → slice_split p xs ≡ xs ∷ []) → slice_split p (x ∷ xs) ≡ (x ∷ xs) ∷ []
last-step p x xs true e h ih =
    let none : position_or_len p (x ∷ xs) ≡ 0 = ap (λ b. cond (not b) (1 + position_or_len p xs) 0) e in
    absurd (omega (arith, none))
last-step p x xs false e h ih =
    let more : position_or_len p (x ∷ xs) ≡ 1 + position_or_len p xs = ap (λ b. cond (not b) (1 + position_or_len p xs) 0) e in
    slice_split-cons_no p x xs e ∙ ap (onto_first x) (ih (omega (arith, more)))

-- where none passes the list is the one part
pub slice_split_last : (p : ℕ → Bool) (xs : List ℕ) → length xs ≤ position_or_len p xs → slice_split p xs ≡ xs ∷ []
slice_split_last p [] h = refl
slice_split_last p (x ∷ xs) h = last-step p x xs (p x) refl h (slice_split_last p xs)

abbrev pub parts : (ℕ → Bool) → List ℕ → List (List ℕ)
parts p xs = filter (λ w. nat_lt 0 (length w)) (slice_split p xs)

pub parts-cons_yes : (p : ℕ → Bool) (x : ℕ) (xs : List ℕ) → p x ≡ true → parts p (x ∷ xs) ≡ parts p xs
parts-cons_yes p x xs e = ap (filter (λ w. nat_lt 0 (length w))) (slice_split-cons_yes p x xs e)

skip-step : (p : ℕ → Bool) (x : ℕ) (xs : List ℕ) (v : Bool) → p x ≡ v → parts p xs ≡ parts p (drop (position_or_len (λ y. not (p y)) xs) xs) → parts p (x ∷ xs) ≡ parts p (drop (position_or_len (λ y. not (p y)) (x ∷ xs)) (x ∷ xs))
skip-step p x xs true e ih =
    let more : position_or_len (λ y. not (p y)) (x ∷ xs) ≡ suc (position_or_len (λ y. not (p y)) xs) = ap (λ b. cond (not (not b)) (1 + position_or_len (λ y. not (p y)) xs) 0) e ∙ omega arith in
    parts-cons_yes p x xs e ∙ ih ∙ sym (ap (λ n. parts p (drop n (x ∷ xs))) more)
skip-step p x xs false e ih =
    let none : position_or_len (λ y. not (p y)) (x ∷ xs) ≡ 0 = ap (λ b. cond (not (not b)) (1 + position_or_len (λ y. not (p y)) xs) 0) e in
    sym (ap (λ n. parts p (drop n (x ∷ xs))) none)

pub parts-skip : (p : ℕ → Bool) (xs : List ℕ) → parts p xs ≡ parts p (drop (position_or_len (λ y. not (p y)) xs) xs)
parts-skip p [] = refl
parts-skip p (x ∷ xs) = skip-step p x xs (p x) refl (parts-skip p xs)

keep-part : (w : List ℕ) (ws : List (List ℕ)) → 0 < length w → filter (λ v. nat_lt 0 (length v)) (w ∷ ws) ≡ w ∷ filter (λ v. nat_lt 0 (length v)) ws
keep-part [] ws h = absurd (omega arith)
keep-part (x ∷ w) ws h = let some : nat_lt 0 (length (x ∷ w)) ≡ true = lt-ltb 0 (length (x ∷ w)) h in ap (λ b. cond b ((x ∷ w) ∷ filter (λ v. nat_lt 0 (length v)) ws) (filter (λ v. nat_lt 0 (length v)) ws)) some

-- the first part of a list that begins with one that does not pass
pub parts-word : (p : ℕ → Bool) (xs : List ℕ) → 0 < position_or_len p xs → parts p xs ≡ take (position_or_len p xs) xs ∷ parts p (drop (position_or_len p xs) xs)
parts-word p xs h =
    let n : ℕ = position_or_len p xs in
    elim (cases_lt (position_or_len p xs) (length xs)) [
      | inl inside ↦
          let at = passes_at_first p xs 0 inside in
          let next : drop (position_or_len p xs) xs ≡ get_or xs (position_or_len p xs) 0 ∷ drop (suc (position_or_len p xs)) xs = drop-cons xs (position_or_len p xs) 0 inside in
          let one : drop (position_or_len p xs + 1) xs ≡ drop (suc (position_or_len p xs)) xs = ap (λ i. drop i xs) (add-one (position_or_len p xs)) in
          ap (filter (λ w. nat_lt 0 (length w))) (slice_split_first p xs 0 inside)
          ∙ (keep-part _ (slice_split p (after_first p xs)) (omega (arith, length-take {A = ℕ}))
          ∙ ap (λ ws. take (position_or_len p xs) xs ∷ ws) (ap (parts p) one ∙ sym (ap (parts p) next ∙ parts-cons_yes p _ _ at)))
      | inr past ↦
          let whole : take (position_or_len p xs) xs ≡ xs = take_all _ xs past in
          let none : drop (position_or_len p xs) xs ≡ [] = drop_all _ xs past in
          ap (filter (λ w. nat_lt 0 (length w))) (slice_split_last p xs past)
          ∙ (keep-part xs [] (omega (arith, prefix_len-le-length (λ x. not (p x)) xs)) ∙ sym (ap (λ w. w ∷ parts p (drop (position_or_len p xs) xs)) whole ∙ ap (λ t. xs ∷ parts p t) none))
    ]

parts-nil : (p : ℕ → Bool) (xs : List ℕ) → length xs ≡ 0 → parts p xs ≡ []
parts-nil p [] h = refl
parts-nil p (x ∷ xs) h = absurd (omega arith)

position-after_first : (p : ℕ → Bool) (xs : List ℕ) → 0 < length xs → not (p (get_or xs 0 0)) ≡ true → 0 < position_or_len p xs
position-after_first p [] some head = absurd (omega arith)
position-after_first p (x ∷ xs) some head =
    let more : position_or_len p (x ∷ xs) ≡ 1 + position_or_len p xs = ap (λ b. cond b (1 + position_or_len p xs) 0) head in
    omega (arith, more)

-- a text of blanks has no word
pub words-none : (text rest : List ℕ) (n : ℕ) → n ≡ position_or_len (λ b. not (is_blank b)) text → rest ≡ drop n text → length rest ≡ 0 → words text ≡ []
unfolding words
words-none text rest n start cut empty =
    parts-skip is_blank text ∙ (ap (λ i. parts is_blank (drop i text)) (sym start) ∙ (ap (parts is_blank) (sym cut) ∙ parts-nil is_blank rest empty))

-- the first word of a text, and what follows it
pub words-next : (text rest word more : List ℕ) (n e : ℕ) → n ≡ position_or_len (λ b. not (is_blank b)) text → n ≤ length text → rest ≡ drop n text → 0 < length rest → e ≡ position_or_len is_blank rest → e ≤ length rest → word ≡ take e rest → more ≡ drop e rest → (words text ≡ word ∷ words more) × (0 < length word)
unfolding words
words-next text rest word more n e start within cut some end inside front back =
    let bound : n < length text = omega (arith, ap length cut, length-drop n text) in
    let bound' : position_or_len (λ b. not (is_blank b)) text < length text = omega arith in
    let at = passes_at_first (λ b. not (is_blank b)) text 0 bound' in
    let same : get_or rest 0 0 ≡ get_or text (position_or_len (λ b. not (is_blank b)) text) 0 = ap (λ l. get_or l 0 0) cut ∙ (get_or-drop n text 0 0 ∙ ap (λ i. get_or text i 0) (omega arith)) in
    let head : not (is_blank (get_or rest 0 0)) ≡ true = ap (λ b. not (is_blank b)) same ∙ at in
    let long : 0 < position_or_len is_blank rest = position-after_first is_blank rest some head in
    let skip : parts is_blank text ≡ parts is_blank rest = parts-skip is_blank text ∙ (ap (λ i. parts is_blank (drop i text)) (sym start) ∙ ap (parts is_blank) (sym cut)) in
    let first : parts is_blank rest ≡ take e rest ∷ parts is_blank (drop e rest) = parts-word is_blank rest long ∙ ap (λ i. take i rest ∷ parts is_blank (drop i rest)) (sym end) in
    (skip ∙ (first ∙ (ap (λ w. w ∷ parts is_blank (drop e rest)) (sym front) ∙ ap (λ m. word ∷ parts is_blank m) (sym back))), omega (arith, ap length front, length-take-le e rest inside))

blank-step : (x : ℕ) (xs : List ℕ) (v : Bool) → is_blank x ≡ v → (list_all is_blank xs ≡ true → words xs ≡ []) → (v && list_all is_blank xs) ≡ true → words (x ∷ xs) ≡ []
unfolding words
blank-step x xs true e ih h = parts-cons_yes is_blank x xs e ∙ ih h
blank-step x xs false e ih h = absurd (false≢true h)

-- a text of blanks alone has no word
pub words-blank : (text : List ℕ) → list_all is_blank text ≡ true → words text ≡ []
unfolding words
words-blank [] h = refl
words-blank (x ∷ xs) h = blank-step x xs (is_blank x) refl (words-blank xs) h

some-step : (x : ℕ) (xs : List ℕ) (v : Bool) → is_blank x ≡ v → (list_all is_blank xs ≡ false → 0 < length (words xs)) → (v && list_all is_blank xs) ≡ false → 0 < length (words (x ∷ xs))
unfolding words
some-step x xs true e ih h = let same : words (x ∷ xs) ≡ words xs = parts-cons_yes is_blank x xs e in rw same (ih h)
some-step x xs false e ih h =
    let starts : 0 < position_or_len is_blank (x ∷ xs) = omega (arith, ap (λ b. cond (not b) (1 + position_or_len is_blank xs) 0) e) in
    let first : words (x ∷ xs) ≡ _ = parts-word is_blank (x ∷ xs) starts in
    omega (arith, ap length first)

-- any other text has one
pub words-some : (text : List ℕ) → list_all is_blank text ≡ false → 0 < length (words text)
words-some [] h = absurd (false≢true (sym h))
words-some (x ∷ xs) h = some-step x xs (is_blank x) refl (words-some xs) h
