-- What edits make of a list, and where each of them stands.
use Rattle.std.proofs.Common.{◌≡◌, ◌∙◌, refl, sym, ap, subst, ℕ, zero, suc, ◌+◌, ◌<◌, ◌≤◌, Bool, true, false, List, [], ◌∷◌, length, Option, Some, None, slice_get, insert, arith}
use Rattle.std.proofs.lemmas.Option.{slice_get_within}
use Rattle.sched_model.specs.Lists.{at}
use Rattle.sched_state.specs.declared.runs.Run.{Run}
use Rattle.run_lists.specs.declared.edits.Edit.{Edit}
use Rattle.run_lists.specs.Edits.{put_in, puts, edited, added, hidden, FitsAt, RiseFrom, added_by, AreBelow, AreFrom, moved_from}
use Rattle.run_lists.specs.Marks.{HasKeyOf}
use Rattle.run_lists.proofs.PutLemmas.{parts, length_put, get_put, get_put_below, get_put_above, put_later, put_changed}

-- the run of an edit is changed
abbrev pub with_run : (Run → Run) → Edit → Edit
with_run g e = record e { run = g e.run }

-- a run stays under its key
abbrev pub IsUnderKey : (Run → Run) → Type 0
IsUnderKey g = (r : Run) → HasKeyOf r (g r)

pub fits_within : (b : Bool) (n : ℕ) (r : Run) (rs : List Run) → FitsAt b n r rs → n + hidden b ≤ length rs
fits_within true n r rs h = omega (arith, h)
fits_within false n r rs h = let l : n < length rs = slice_get_within rs n h.0 h.1 in omega arith

-- ---- the k-th edit
pub edit_at : (k s i : ℕ) (es : List Edit) (rs : List Run) (e : Edit) → RiseFrom s i es rs → slice_get es k ≡ Some e
    → (e.at ≡ e.from + (s + added_by k es)) × (i ≤ e.from) × FitsAt e.is_new e.from e.run rs
edit_at k s i [] rs e h g = absurd (let c : ◌≡◌ {A = Option Edit} None (Some e) = g in cc)
edit_at zero s i (d ∷ ds) rs e h g = let q : d ≡ e = cc in subst (λ (x : Edit). (x.at ≡ x.from + (s + 0)) × (i ≤ x.from) × FitsAt x.is_new x.from x.run rs) q (omega (arith, h.0), h.1, h.2)
edit_at (suc k) s i (d ∷ ds) rs e h g =
    let t = edit_at k (s + added d.is_new) (d.from + hidden d.is_new) ds rs e h.3 g in (omega (arith, t.0), omega (arith, t.1, h.1), t.2)

module _ {X : Type 0} (new : Run → X) (old : Run → X → X) where
  -- ---- how long the list is
  longer : (e : Edit) (xs : List X) (rs : List Run) → FitsAt e.is_new e.from e.run rs → length rs ≤ length xs → length (put_in e.is_new e.from (new e.run) (old e.run) xs) ≡ length xs + added e.is_new
  longer e xs rs h l =
      let fits : e.from + hidden e.is_new ≤ length rs = fits_within e.is_new e.from e.run rs h in
      length_put e.is_new e.from (new e.run) (old e.run) xs (omega arith)

  pub length_puts : (k s i : ℕ) (es : List Edit) (rs : List Run) (xs : List X) → RiseFrom s i es rs → length rs ≤ length xs → length xs + added_by k es ≤ length (puts new old es xs)
  length_puts zero s i [] rs xs h l = omega arith
  length_puts (suc k) s i [] rs xs h l = omega arith
  length_puts zero s i (e ∷ es) rs xs h l =
      let rest : length xs + 0 ≤ length (puts new old es xs) = length_puts zero (s + added e.is_new) (e.from + hidden e.is_new) es rs xs h.3 l in
      let is : length (put_in e.is_new e.from (new e.run) (old e.run) (puts new old es xs)) ≡ length (puts new old es xs) + added e.is_new = longer e (puts new old es xs) rs h.2 (omega arith) in
      omega arith
  length_puts (suc k) s i (e ∷ es) rs xs h l =
      let all : length xs + 0 ≤ length (puts new old es xs) = length_puts zero (s + added e.is_new) (e.from + hidden e.is_new) es rs xs h.3 l in
      let rest : length xs + added_by k es ≤ length (puts new old es xs) = length_puts k (s + added e.is_new) (e.from + hidden e.is_new) es rs xs h.3 l in
      let is : length (put_in e.is_new e.from (new e.run) (old e.run) (puts new old es xs)) ≡ length (puts new old es xs) + added e.is_new = longer e (puts new old es xs) rs h.2 (omega arith) in
      omega arith

  pub within_puts : (b : Bool) (n : ℕ) (r : Run) (s i : ℕ) (es : List Edit) (rs : List Run) (xs : List X) → FitsAt b n r rs → RiseFrom s i es rs → length rs ≤ length xs → n + hidden b ≤ length (puts new old es xs)
  within_puts b n r s i es rs xs f h l =
      let fits : n + hidden b ≤ length rs = fits_within b n r rs f in
      let all : length xs + 0 ≤ length (puts new old es xs) = length_puts zero s i es rs xs h l in
      omega arith

  -- how long exactly
  pub length_all : (s i : ℕ) (es : List Edit) (rs : List Run) (xs : List X) → RiseFrom s i es rs → length rs ≤ length xs → length (puts new old es xs) ≡ length xs + added_by (length es) es
  length_all s i [] rs xs h l = omega arith
  length_all s i (e ∷ es) rs xs h l =
      let all : length xs + 0 ≤ length (puts new old es xs) = length_puts zero (s + added e.is_new) (e.from + hidden e.is_new) es rs xs h.3 l in
      let rest : length (puts new old es xs) ≡ length xs + added_by (length es) es = length_all (s + added e.is_new) (e.from + hidden e.is_new) es rs xs h.3 l in
      let is : length (put_in e.is_new e.from (new e.run) (old e.run) (puts new old es xs)) ≡ length (puts new old es xs) + added e.is_new = longer e (puts new old es xs) rs h.2 (omega arith) in
      omega arith

  -- ---- before the first edit all is as it was
  pub get_before : (s i m : ℕ) (es : List Edit) (rs : List Run) (xs : List X) → RiseFrom s i es rs → length rs ≤ length xs → m < i → slice_get (puts new old es xs) m ≡ slice_get xs m
  get_before s i m [] rs xs h l b = refl
  get_before s i m (e ∷ es) rs xs h l b =
      let fits : e.from + hidden e.is_new ≤ length (puts new old es xs) = within_puts e.is_new e.from e.run (s + added e.is_new) (e.from + hidden e.is_new) es rs xs h.2 h.3 l in
      get_put_below e.is_new e.from (new e.run) (old e.run) (puts new old es xs) m (omega (arith, h.1)) (omega arith)
      ∙ get_before (s + added e.is_new) (e.from + hidden e.is_new) m es rs xs h.3 l (omega (arith, h.1))

  -- ---- a position that no edit is of
  pub get_missed : (k n s i m p : ℕ) (es : List Edit) (rs : List Run) (xs : List X) → RiseFrom s i es rs → length rs ≤ length xs → AreBelow k n es → AreFrom k (n + 1) es → n ≡ m + s → m ≡ p + added_by k es
      → slice_get (puts new old es xs) m ≡ slice_get xs p
  get_missed zero n s i m p [] rs xs h l b f e g = let q : m ≡ p = omega arith in ap (slice_get xs) q
  get_missed zero n s i m p (d ∷ ds) rs xs h l b f e g =
      let q : m ≡ p = omega arith in
      get_before s (m + 1) m (d ∷ ds) rs xs (h.0, omega (arith, h.0, f), h.2, h.3) l (omega arith) ∙ ap (slice_get xs) q
  get_missed (suc k) n s i m p [] rs xs h l b f e g = absurd b
  get_missed (suc k) n s i m p (d ∷ ds) rs xs h l b f e g =
      let one : added d.is_new + hidden d.is_new ≡ 1 = parts d.is_new in
      let fits : d.from + hidden d.is_new ≤ length (puts new old ds xs) = within_puts d.is_new d.from d.run (s + added d.is_new) (d.from + hidden d.is_new) ds rs xs h.2 h.3 l in
      get_put_above d.is_new d.from (new d.run) (old d.run) (puts new old ds xs) (p + added_by k ds) m (omega (arith, h.0, b.0)) (omega arith) (omega arith)
      ∙ get_missed k n (s + added d.is_new) (d.from + hidden d.is_new) (p + added_by k ds) p ds rs xs h.3 l b.1 f (omega arith) refl

  -- ---- what a new edit puts in
  pub get_new : (k n s i m : ℕ) (e : Edit) (es : List Edit) (rs : List Run) (xs : List X) → RiseFrom s i es rs → length rs ≤ length xs → AreBelow k n es → slice_get es k ≡ Some e → e.is_new ≡ true → e.at ≡ n → n ≡ m + s
      → slice_get (puts new old es xs) m ≡ Some (new e.run)
  get_new k n s i m e [] rs xs h l b g w a q = absurd (let c : ◌≡◌ {A = Option Edit} None (Some e) = g in cc)
  get_new zero n s i m e (d ∷ ds) rs xs h l b g w a q =
      let same : d ≡ e = cc in
      let is : d.is_new ≡ true = ap (λ (x : Edit). x.is_new) same ∙ w in
      let at_d : d.at ≡ n = ap (λ (x : Edit). x.at) same ∙ a in
      let t : d.from ≡ m = omega (arith, h.0) in
      let fits : d.from + hidden d.is_new ≤ length (puts new old ds xs) = within_puts d.is_new d.from d.run (s + added d.is_new) (d.from + hidden d.is_new) ds rs xs h.2 h.3 l in
      ap (λ c. slice_get (put_in c d.from (new d.run) (old d.run) (puts new old ds xs)) m) is
      ∙ ap (slice_get (put_in true d.from (new d.run) (old d.run) (puts new old ds xs))) (sym t)
      ∙ get_put true d.from (new d.run) (puts new old ds xs) (omega arith)
      ∙ ap (λ (x : Edit). Some (new x.run)) same
  get_new (suc k) n s i m e (d ∷ ds) rs xs h l b g w a q =
      let one : added d.is_new + hidden d.is_new ≡ 1 = parts d.is_new in
      let fits : d.from + hidden d.is_new ≤ length (puts new old ds xs) = within_puts d.is_new d.from d.run (s + added d.is_new) (d.from + hidden d.is_new) ds rs xs h.2 h.3 l in
      let k_th : e.at ≡ e.from + ((s + added d.is_new) + added_by k ds) = (edit_at k (s + added d.is_new) (d.from + hidden d.is_new) ds rs e h.3 g).0 in
      get_put_above d.is_new d.from (new d.run) (old d.run) (puts new old ds xs) (e.from + added_by k ds) m (omega (arith, h.0, b.0)) (omega arith) (omega arith)
      ∙ get_new k n (s + added d.is_new) (d.from + hidden d.is_new) (e.from + added_by k ds) e ds rs xs h.3 l b.1 g w a (omega arith)

  -- ---- one edit more, with which the list is as with one put more
  pub puts_one : (k n s i m : ℕ) (e : Edit) (es : List Edit) (rs : List Run) (xs : List X) → RiseFrom s i es rs → length rs ≤ length xs → AreBelow k n es → e.from ≤ length rs → n ≡ m + s → m ≡ e.from + added_by k es
      → puts new old (insert es k e) xs ≡ put_in e.is_new m (new e.run) (old e.run) (puts new old es xs)
  puts_one zero n s i m e es rs xs h l b w q g = let t : e.from ≡ m = omega arith in ap (λ j. put_in e.is_new j (new e.run) (old e.run) (puts new old es xs)) t
  puts_one (suc k) n s i m e [] rs xs h l b w q g = absurd b
  puts_one (suc k) n s i m e (d ∷ ds) rs xs h l b w q g =
      let one : added d.is_new + hidden d.is_new ≡ 1 = parts d.is_new in
      let all : length xs + added_by k ds ≤ length (puts new old ds xs) = length_puts k (s + added d.is_new) (d.from + hidden d.is_new) ds rs xs h.3 l in
      ap (put_in d.is_new d.from (new d.run) (old d.run)) (puts_one k n (s + added d.is_new) (d.from + hidden d.is_new) (e.from + added_by k ds) e ds rs xs h.3 l b.1 w (omega arith) refl)
      ∙ put_later d.is_new e.is_new d.from (e.from + added_by k ds) m (new d.run) (new e.run) (old d.run) (old e.run) (puts new old ds xs) (omega (arith, h.0, b.0)) (omega arith) (omega arith)

-- ---- the run of an edit is changed
pub puts_changed : {X : Type 0} (new : Run → X) (old : Run → X → X) (f : Run → Run) (g : X → X) → ((r : Run) → new (f r) ≡ g (new r)) → ((r : Run) (x : X) → old (f r) x ≡ g (old r x))
    → (k n s i m : ℕ) (e : Edit) (es : List Edit) (rs : List Run) (xs : List X) → RiseFrom s i es rs → length rs ≤ length xs → AreBelow k n es → slice_get es k ≡ Some e → e.at ≡ n → n ≡ m + s
    → puts new old (at (with_run f) k es) xs ≡ at g m (puts new old es xs)
puts_changed new old f g one two k n s i m e [] rs xs h l b w a q = absurd (let c : ◌≡◌ {A = Option Edit} None (Some e) = w in cc)
puts_changed {X} new old f g one two zero n s i m e (d ∷ ds) rs xs h l b w a q =
    let same : d ≡ e = cc in
    let at_d : d.at ≡ n = ap (λ (x : Edit). x.at) same ∙ a in
    let t : d.from ≡ m = omega (arith, h.0) in
    let fits : d.from + hidden d.is_new ≤ length (puts new old ds xs) = within_puts new old d.is_new d.from d.run (s + added d.is_new) (d.from + hidden d.is_new) ds rs xs h.2 h.3 l in
    ap (λ (x : X). put_in d.is_new d.from x (old (f d.run)) (puts new old ds xs)) (one d.run)
    ∙ put_changed d.is_new d.from (new d.run) (old d.run) g (old (f d.run)) (puts new old ds xs) (two d.run) (omega arith)
    ∙ ap (λ j. at g j (puts new old (d ∷ ds) xs)) t
puts_changed new old f g one two (suc k) n s i m e (d ∷ ds) rs xs h l b w a q =
    let only : added d.is_new + hidden d.is_new ≡ 1 = parts d.is_new in
    let k_th = edit_at k (s + added d.is_new) (d.from + hidden d.is_new) ds rs e h.3 w in
    let fits : e.from + hidden e.is_new ≤ length rs = fits_within e.is_new e.from e.run rs k_th.2 in
    let all : length xs + added_by k ds ≤ length (puts new old ds xs) = length_puts new old k (s + added d.is_new) (d.from + hidden d.is_new) ds rs xs h.3 l in
    ap (put_in d.is_new d.from (new d.run) (old d.run)) (puts_changed new old f g one two k n (s + added d.is_new) (d.from + hidden d.is_new) (e.from + added_by k ds) e ds rs xs h.3 l b.1 w a (omega (arith, k_th.0)))
    ∙ put_later d.is_new false d.from (e.from + added_by k ds) m (new d.run) (new d.run) (old d.run) g (puts new old ds xs) (omega (arith, h.0, b.0, k_th.0)) (omega arith) (omega (arith, k_th.0))

-- ---- edits that stand further on, but put the same in
pub puts_moved : {X : Type 0} (new : Run → X) (old : Run → X → X) (k : ℕ) (es : List Edit) (xs : List X) → puts new old (moved_from k es) xs ≡ puts new old es xs
puts_moved new old k [] xs = refl
puts_moved new old zero (e ∷ es) xs = ap (put_in e.is_new e.from (new e.run) (old e.run)) (puts_moved new old zero es xs)
puts_moved new old (suc k) (e ∷ es) xs = ap (put_in e.is_new e.from (new e.run) (old e.run)) (puts_moved new old k es xs)

-- ---- a position that an edit is of
pub edited_there : (k n s i m : ℕ) (e : Edit) (es : List Edit) (rs : List Run) → RiseFrom s i es rs → AreBelow k n es → slice_get es k ≡ Some e → e.at ≡ n → n ≡ m + s → slice_get (edited es rs) m ≡ Some e.run
edited_there k n s i m e [] rs h b g a q = absurd (let c : ◌≡◌ {A = Option Edit} None (Some e) = g in cc)
edited_there zero n s i m e (d ∷ ds) rs h b g a q =
    let same : d ≡ e = cc in
    let at_d : d.at ≡ n = ap (λ (x : Edit). x.at) same ∙ a in
    let t : d.from ≡ m = omega (arith, h.0) in
    ap (slice_get (edited (d ∷ ds) rs)) (sym t)
    ∙ get_put d.is_new d.from d.run (edited ds rs) (within_puts (λ r. r) (λ r _. r) d.is_new d.from d.run (s + added d.is_new) (d.from + hidden d.is_new) ds rs rs h.2 h.3 (omega arith))
    ∙ ap (λ (x : Edit). Some x.run) same
edited_there (suc k) n s i m e (d ∷ ds) rs h b g a q =
    let one : added d.is_new + hidden d.is_new ≡ 1 = parts d.is_new in
    let fits : d.from + hidden d.is_new ≤ length (edited ds rs) = within_puts (λ r. r) (λ r _. r) d.is_new d.from d.run (s + added d.is_new) (d.from + hidden d.is_new) ds rs rs h.2 h.3 (omega arith) in
    let k_th : e.at ≡ e.from + ((s + added d.is_new) + added_by k ds) = (edit_at k (s + added d.is_new) (d.from + hidden d.is_new) ds rs e h.3 g).0 in
    get_put_above d.is_new d.from d.run (λ _. d.run) (edited ds rs) (e.from + added_by k ds) m (omega (arith, h.0, b.0)) (omega arith) (omega arith)
    ∙ edited_there k n (s + added d.is_new) (d.from + hidden d.is_new) (e.from + added_by k ds) e ds rs h.3 b.1 g a (omega arith)
