-- Edits are written from the first one on, each at its position among all runs.
use Rattle.std.proofs.Common.{◌≡◌, ◌∙◌, refl, sym, ap, subst, ℕ, ◌+◌, ◌≤◌, Bool, true, false, cond, List, [], ◌∷◌, length, arith}
use Rattle.std.proofs.lemmas.List.Sums.{sum_by-cons}
use Rattle.sched_state.specs.declared.runs.Run.{Run}
use Rattle.run_lists.specs.declared.edits.Edit.{Edit}
use Rattle.run_lists.specs.Edits.{put_in, edited, added, hidden, AreEditsOf, RiseFrom}
use Rattle.run_lists.specs.Rooms.{all_added}
use Rattle.run_lists.proofs.PutLemmas.{length_put, parts, put_later}
use Rattle.run_lists.proofs.EditLemmas.{fits_within}

counts : (b : Bool) → cond b 1 0 ≡ added b
counts true = refl
counts false = refl

-- ---- the first edit first
abbrev pub written : List Edit → List Run → List Run
written [] xs = xs
written (e ∷ es) xs = written es (put_in e.is_new e.at e.run (λ _. e.run) xs)

-- the last one first, s runs further on than among the runs that were there
shifted : ℕ → List Edit → List Run → List Run
shifted s [] xs = xs
shifted s (e ∷ es) xs = put_in e.is_new (e.from + s) e.run (λ _. e.run) (shifted s es xs)

shifted_long : (s t i : ℕ) (es : List Edit) (rs xs : List Run) → RiseFrom t i es rs → length rs + s ≤ length xs → length xs ≤ length (shifted s es xs)
unfolding shifted
shifted_long s t i [] rs xs h l = omega arith
shifted_long s t i (e ∷ es) rs xs h l =
    let more : length xs ≤ length (shifted s es xs) = shifted_long s (t + added e.is_new) (e.from + hidden e.is_new) es rs xs h.3 l in
    let fits : e.from + hidden e.is_new ≤ length rs = fits_within e.is_new e.from e.run rs h.2 in
    let put : length (put_in e.is_new (e.from + s) e.run (λ _. e.run) (shifted s es xs)) ≡ length (shifted s es xs) + added e.is_new = length_put e.is_new (e.from + s) e.run (λ _. e.run) (shifted s es xs) (omega (arith, fits, l, more)) in
    omega (arith, more, put)

-- an edit before the others is made first or last
past : (b : Bool) (n : ℕ) (x : Run) (f : Run → Run) (s t i : ℕ) (es : List Edit) (rs xs : List Run) → RiseFrom t i es rs → n + hidden b ≤ i + s → length rs + s ≤ length xs
    → put_in b n x f (shifted s es xs) ≡ shifted (s + added b) es (put_in b n x f xs)
unfolding shifted
past b n x f s t i [] rs xs h k l = refl
past b n x f s t i (e ∷ es) rs xs h k l =
    let more : length xs ≤ length (shifted s es xs) = shifted_long s (t + added e.is_new) (e.from + hidden e.is_new) es rs xs h.3 l in
    let fits : e.from + hidden e.is_new ≤ length rs = fits_within e.is_new e.from e.run rs h.2 in
    let low : i ≤ e.from = h.1 in
    let one = parts e.is_new in
    let shift : e.from + (s + added b) ≡ (e.from + s) + added b = omega arith in
    put_later b e.is_new n (e.from + s) (e.from + (s + added b)) x e.run f (λ _. e.run) (shifted s es xs) (omega (arith, k, low)) (omega (arith, fits, l, more)) shift
    ∙ ap (put_in e.is_new (e.from + (s + added b)) e.run (λ _. e.run)) (past b n x f s (t + added e.is_new) (e.from + hidden e.is_new) es rs xs h.3 (omega (arith, k, low)) l)

either_way : (s i : ℕ) (es : List Edit) (rs xs : List Run) → RiseFrom s i es rs → length xs ≡ length rs + s → written es xs ≡ shifted s es xs
unfolding shifted
either_way s i [] rs xs h l = refl
either_way s i (e ∷ es) rs xs h l =
    let fits : e.from + hidden e.is_new ≤ length rs = fits_within e.is_new e.from e.run rs h.2 in
    let here : e.at ≡ e.from + s = h.0 in
    let put : length (put_in e.is_new e.at e.run (λ _. e.run) xs) ≡ length xs + added e.is_new = length_put e.is_new e.at e.run (λ _. e.run) xs (omega (arith, fits, here, l)) in
    either_way (s + added e.is_new) (e.from + hidden e.is_new) es rs (put_in e.is_new e.at e.run (λ _. e.run) xs) h.3 (omega (arith, put, l))
    ∙ ap (λ n. shifted (s + added e.is_new) es (put_in e.is_new n e.run (λ _. e.run) xs)) here
    ∙ sym (past e.is_new (e.from + s) e.run (λ _. e.run) s (s + added e.is_new) (e.from + hidden e.is_new) es rs xs h.3 (omega arith) (omega (arith, l)))

not_shifted : (es : List Edit) (xs : List Run) → shifted 0 es xs ≡ edited es xs
unfolding shifted
not_shifted [] xs = refl
not_shifted (e ∷ es) xs =
    let z : e.from + 0 ≡ e.from = omega arith in
    ap (λ n. put_in e.is_new n e.run (λ _. e.run) (shifted 0 es xs)) z ∙ ap (put_in e.is_new e.from e.run (λ _. e.run)) (not_shifted es xs)

pub written_is : (es : List Edit) (rs : List Run) → AreEditsOf rs es → written es rs ≡ edited es rs
written_is es rs h = let z : length rs ≡ length rs + 0 = omega arith in either_way 0 0 es rs rs h z ∙ not_shifted es rs

-- ---- what holds before each edit is written
-- rs are the first runs, of which `more` are there now, all is what the runs will be, now is what they are, with so much room, of which so much is spare at the end
pub record IsWriting (rs all : List Run) (left : List Edit) (now : List Run) (room spare : ℕ) : Type 0 where
  pub more : ℕ
  pub from : ℕ
  pub edits : RiseFrom more from left rs
  pub rest : written left now ≡ all
  pub long : length now ≡ length rs + more
  pub places : spare + all_added left ≤ room

all_first : (e : Edit) (es : List Edit) → all_added (e ∷ es) ≡ added e.is_new + all_added es
all_first e es = let s = sum_by-cons (λ (x : Edit). cond x.is_new 1 0) e es in let c = counts e.is_new in omega (arith, s, c)

of_first : (rs all : List Run) (e : Edit) (left less : List Edit) (now : List Run) (room spare : ℕ) → IsWriting rs all left now room spare → left ≡ e ∷ less → IsWriting rs all (e ∷ less) now room spare
of_first rs all e left less now room spare h s = subst (λ es. IsWriting rs all es now room spare) s h

-- the first edit fits, and finds its place
pub at_within : (rs all : List Run) (e : Edit) (left less : List Edit) (now : List Run) (room spare : ℕ) → IsWriting rs all left now room spare → left ≡ e ∷ less → e.at + hidden e.is_new ≤ length now
at_within rs all e left less now room spare h s =
    let k = of_first rs all e left less now room spare h s in
    let edits = k.edits in
    let long = k.long in
    let fits : e.from + hidden e.is_new ≤ length rs = fits_within e.is_new e.from e.run rs edits.2 in
    let here : e.at ≡ e.from + k.more = edits.0 in
    omega (arith, fits, here, long)

pub has_place : (rs all : List Run) (e : Edit) (left less : List Edit) (now : List Run) (room spare : ℕ) → IsWriting rs all left now room spare → left ≡ e ∷ less → added e.is_new ≤ room
has_place rs all e left less now room spare h s =
    let places = h.places in
    let one : all_added left ≡ added e.is_new + all_added less = ap all_added s ∙ all_first e less in
    omega (arith, places, one)

-- it is written
pub written_one : (rs all : List Run) (e : Edit) (left less : List Edit) (now then : List Run) (room spare high : ℕ) → IsWriting rs all left now room spare → left ≡ e ∷ less → then ≡ put_in e.is_new e.at e.run (λ _. e.run) now
    → room ≤ high + added e.is_new → IsWriting rs all less then high spare
written_one rs all e left less now then room spare high h s puts m =
    let k = of_first rs all e left less now room spare h s in
    let edits = k.edits in
    let long = k.long in
    let places = k.places in
    let fits : e.from + hidden e.is_new ≤ length rs = fits_within e.is_new e.from e.run rs edits.2 in
    let here : e.at ≡ e.from + k.more = edits.0 in
    let put : length (put_in e.is_new e.at e.run (λ _. e.run) now) ≡ length now + added e.is_new = length_put e.is_new e.at e.run (λ _. e.run) now (omega (arith, fits, here, long)) in
    let same : length then ≡ length (put_in e.is_new e.at e.run (λ _. e.run) now) = ap (λ (qs : List Run). length qs) puts in
    let one = all_first e less in
    record {
      more = k.more + added e.is_new;
      from = e.from + hidden e.is_new;
      edits = edits.3;
      rest = ap (written less) puts ∙ k.rest;
      long = omega (arith, put, long, same);
      places = omega (arith, places, one, m);
    }
