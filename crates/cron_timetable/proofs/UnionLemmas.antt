-- The set of a field, element by element from the left.
use Rattle.std.proofs.Common.{◌≡◌, ◌==◌, ℕ, true, false, List, [], ◌∷◌, Result, Ok, Err, refl, ap, sym, ◌∙◌, bit_or}
use Rattle.std.specs.Int.Bits.{or_zero_l, or_zero_r}
use Rattle.std.proofs.lemmas.Bool.{ltb-true, ltb-false}
use Rattle.std.proofs.lemmas.List.Splits.{slice_split_first}
use Rattle.std.specs.List.{slice_split, list_any}
use Rattle.cron_timetable.specs.declared.faults.CronFault.{CronFault}
use Rattle.cron_timetable.specs.declared.fields.Field.{Field}
use Rattle.cron_timetable.specs.declared.elements.Span.{Span}
use Rattle.cron_timetable.specs.Sets.{set_of}
use Rattle.cron_timetable.specs.Elements.{and_then, element_of, in_element, has_byte, before, after}
use Rattle.cron_timetable.specs.Grammar.{elements_of, union_of, field_of}
use Rattle.cron_timetable.proofs.SetLemmas.{bit_or-set_of, or_assoc}
use Rattle.text_words.proofs.WordLemmas.{slice_split_last}

abbrev commas : List ℕ → List (List ℕ)
commas text = slice_split (λ x. x == 44) text

-- no element has no number
union_of-empty : (f : Field) → union_of f [] ≡ 0
unfolding union_of set_of
union_of-empty f = refl

union_of-cons : (f : Field) (e : Span) (es : List Span) → bit_or (set_of (in_element f e)) (union_of f es) ≡ union_of f (e ∷ es)
unfolding union_of
union_of-cons f e es =
    bit_or-set_of (in_element f e) (λ n. list_any (λ x. in_element f x n) es) (λ n. list_any (λ x. in_element f x n) (e ∷ es)) (λ n. refl)

-- a set joined with those of further elements
abbrev pub joined : Field → ℕ → Result (List Span) CronFault → Result ℕ CronFault
joined f set r = and_then r (λ es. Ok (bit_or set (union_of f es)))

-- what one element and those after it add
abbrev pub adds : Field → ℕ → Result Span CronFault → Result (List Span) CronFault → Result ℕ CronFault
adds f set e r = and_then e (λ s. joined f (bit_or set (set_of (in_element f s))) r)

joined-none : (f : Field) (r : Result (List Span) CronFault) → and_then r (λ es. Ok (union_of f es)) ≡ joined f 0 r
joined-none f (Ok es) = ap (λ (n : ℕ). Ok n) (sym (or_zero_l (union_of f es)))
joined-none f (Err e) = refl

joined-cons : (f : Field) (set : ℕ) (e : Result Span CronFault) (r : Result (List Span) CronFault) → joined f set (and_then e (λ s. and_then r (λ es. Ok (s ∷ es)))) ≡ adds f set e r
joined-cons f set (Err x) r = refl
joined-cons f set (Ok s) (Err x) = refl
joined-cons f set (Ok s) (Ok es) =
    ap (λ (n : ℕ). Ok n) (sym (ap (bit_or set) (union_of-cons f s es)) ∙ or_assoc set (set_of (in_element f s)) (union_of f es))

joined-empty : (f : Field) (set : ℕ) → joined f set (Ok []) ≡ Ok set
joined-empty f set = ap (λ (n : ℕ). Ok n) (ap (bit_or set) (union_of-empty f) ∙ or_zero_r set)

-- the set of a field, before an element is read
pub field_of-start : (f : Field) (text : List ℕ) → field_of f text ≡ joined f 0 (elements_of f (slice_split (λ x. x == 44) text))
unfolding field_of
field_of-start f text = joined-none f (elements_of f (slice_split (λ x. x == 44) text))

-- the first element of several
pub joined-first : (f : Field) (set : ℕ) (rest first more : List ℕ) (e : Result Span CronFault) → has_byte 44 rest ≡ true → first ≡ before 44 rest → more ≡ after 44 rest → e ≡ element_of f first → joined f set (elements_of f (slice_split (λ x. x == 44) rest)) ≡ adds f set e (elements_of f (slice_split (λ x. x == 44) more))
joined-first f set rest first more e some front back read =
    ap (λ ts. joined f set (elements_of f ts)) (slice_split_first (λ x. x == 44) rest 0 (ltb-true _ _ some))
    ∙ (ap (λ t. joined f set (elements_of f (t ∷ commas (after 44 rest)))) (sym front)
    ∙ (ap (λ t. joined f set (elements_of f (first ∷ commas t))) (sym back)
    ∙ (joined-cons f set (element_of f first) (elements_of f (commas more))
    ∙ ap (λ x. adds f set x (elements_of f (commas more))) (sym read))))

-- the last element
abbrev pub ends : Field → ℕ → Result Span CronFault → Result ℕ CronFault
ends f set e = and_then e (λ s. Ok (bit_or set (set_of (in_element f s))))

ends-adds : (f : Field) (set : ℕ) (e : Result Span CronFault) → adds f set e (Ok []) ≡ ends f set e
ends-adds f set (Ok s) = joined-empty f (bit_or set (set_of (in_element f s)))
ends-adds f set (Err x) = refl

pub joined-last : (f : Field) (set : ℕ) (rest : List ℕ) (e : Result Span CronFault) → has_byte 44 rest ≡ false → e ≡ element_of f rest → joined f set (elements_of f (slice_split (λ x. x == 44) rest)) ≡ ends f set e
joined-last f set rest e none read =
    ap (λ ts. joined f set (elements_of f ts)) (slice_split_last (λ x. x == 44) rest (ltb-false _ _ none))
    ∙ (joined-cons f set (element_of f rest) (Ok [])
    ∙ (ap (λ x. adds f set x (Ok [])) (sym read) ∙ ends-adds f set e))
