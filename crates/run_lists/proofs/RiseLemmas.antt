-- Edits that rise: their order, and that they still rise when one more is made.
use Rattle.std.proofs.Common.{◌≡◌, ◌∙◌, refl, sym, ap, subst, ℕ, zero, suc, ◌+◌, ◌-◌, ◌^◌, ◌<◌, ◌≤◌, ◌≢◌, Bool, true, false, List, [], ◌∷◌, length, Option, Some, None, slice_get, get_or, set, take, drop, ◌++◌, insert, get_or-set_other, nat_lt, arith}
use Rattle.std.proofs.lemmas.Bool.{ltb-true, ltb-false}
use Rattle.std.proofs.Math.ListN.{length-set}
use Rattle.std.proofs.lemmas.List.Edits.{length-insert, get_or-insert_above}
use Rattle.sched_model.specs.Lists.{at}
use Rattle.sched_state.specs.declared.runs.Run.{Run}
use Rattle.run_lists.specs.declared.edits.Edit.{Edit}
use Rattle.run_lists.specs.Edits.{added, hidden, FitsAt, RiseFrom, AreEditsOf, AreInOrder, AreCounted, added_by, AreBelow, AreFrom, AreFewFrom, moved_up, moved_from}
use Rattle.run_lists.proofs.PutLemmas.{parts}
use Rattle.run_lists.proofs.EditLemmas.{fits_within, with_run, IsUnderKey}

-- ---- their order
above : (s i : ℕ) (es : List Edit) (rs : List Run) → RiseFrom s i es rs → (j : ℕ) (d : Edit) → j < length es → i + s ≤ (get_or es j d).at
above s i [] rs h j d l = absurd (omega arith)
above s i (e ∷ es) rs h zero d l = omega (arith, h.0, h.1)
above s i (e ∷ es) rs h (suc j) d l =
    let one : added e.is_new + hidden e.is_new ≡ 1 = parts e.is_new in
    let t : (e.from + hidden e.is_new) + (s + added e.is_new) ≤ (get_or es j d).at = above (s + added e.is_new) (e.from + hidden e.is_new) es rs h.3 j d (omega arith) in
    omega (arith, h.1)

pub in_order : (s i : ℕ) (es : List Edit) (rs : List Run) → RiseFrom s i es rs → AreInOrder es
in_order s i [] rs h j k d l m = absurd (omega arith)
in_order s i (e ∷ es) rs h zero zero d l m = omega arith
in_order s i (e ∷ es) rs h zero (suc k) d l m =
    let one : added e.is_new + hidden e.is_new ≡ 1 = parts e.is_new in
    let t : (e.from + hidden e.is_new) + (s + added e.is_new) ≤ (get_or es k d).at = above (s + added e.is_new) (e.from + hidden e.is_new) es rs h.3 k d (omega arith) in
    omega (arith, h.0)
in_order s i (e ∷ es) rs h (suc j) zero d l m = absurd (omega arith)
in_order s i (e ∷ es) rs h (suc j) (suc k) d l m = in_order (s + added e.is_new) (e.from + hidden e.is_new) es rs h.3 j k d (omega arith) (omega arith)

pub counted : (s i : ℕ) (es : List Edit) (rs : List Run) → RiseFrom s i es rs → AreCounted s es
counted s i [] rs h = tt
counted s i (e ∷ es) rs h = (h.0, counted (s + added e.is_new) (e.from + hidden e.is_new) es rs h.3)

-- ---- what a search finds
pub below : (k n : ℕ) (es : List Edit) → k ≤ length es → ((j : ℕ) (d : Edit) → j < k → nat_lt (get_or es j d).at n ≡ true) → AreBelow k n es
below zero n es l h = tt
below (suc k) n [] l h = absurd (omega arith)
below (suc k) n (e ∷ es) l h = (ltb-true e.at n (h 0 e (omega arith)), below k n es (omega arith) (λ j d m. h (suc j) d (omega arith)))

pub from : (k n : ℕ) (es : List Edit) → ((j : ℕ) (d : Edit) → k ≤ j → j < length es → nat_lt (get_or es j d).at n ≡ false) → AreFrom k n es
from zero n [] h = tt
from zero n (e ∷ es) h = ltb-false e.at n (h 0 e (omega arith) (omega arith))
from (suc k) n [] h = tt
from (suc k) n (e ∷ es) h = from k n es (λ j d l m. h (suc j) d (omega arith) (omega arith))

pub from_next : (k n : ℕ) (es : List Edit) → AreFrom k n es → ((e : Edit) → slice_get es k ≡ Some e → e.at ≡ n → ⊥) → AreFrom k (n + 1) es
from_next zero n [] h g = tt
from_next zero n (e ∷ es) h g = let apart : e.at ≡ n → ⊥ = g e refl in omega (arith, h, apart)
from_next (suc k) n [] h g = tt
from_next (suc k) n (e ∷ es) h g = from_next k n es h g

-- ---- how many runs are added
pub added_little : (k : ℕ) (es : List Edit) → added_by k es ≤ k
added_little zero es = omega arith
added_little (suc k) [] = omega arith
added_little (suc k) (e ∷ es) = let one : added e.is_new + hidden e.is_new ≡ 1 = parts e.is_new in let t : added_by k es ≤ k = added_little k es in omega arith

pub added_below : (k n s : ℕ) (es : List Edit) → AreCounted s es → AreBelow k n es → s ≤ n → added_by k es + s ≤ n
added_below zero n s es h b l = omega arith
added_below (suc k) n s [] h b l = absurd b
added_below (suc k) n s (e ∷ es) h b l =
    let one : added e.is_new + hidden e.is_new ≡ 1 = parts e.is_new in
    let t : added_by k es + (s + added e.is_new) ≤ n = added_below k n (s + added e.is_new) es h.1 b.1 (omega (arith, h.0, b.0)) in
    omega arith

pub below_within : (k n : ℕ) (es : List Edit) → AreBelow k n es → k ≤ length es
below_within zero n es b = omega arith
below_within (suc k) n [] b = absurd b
below_within (suc k) n (e ∷ es) b = let t : k ≤ length es = below_within k n es b.1 in omega arith

pub below_one : (k n : ℕ) (e : Edit) (es : List Edit) → AreBelow k n es → AreBelow k n (insert es k e)
below_one zero n e es b = tt
below_one (suc k) n e [] b = absurd b
below_one (suc k) n e (d ∷ ds) b = (b.0, below_one k n e ds b.1)

pub added_last : (p k s : ℕ) (es : List Edit) (e : Edit) → AreCounted s es → slice_get es k ≡ Some e → p ≡ k + 1 → (added_by p es + s) + e.from ≡ e.at + added e.is_new
added_last p k s [] e h g q = absurd (let c : ◌≡◌ {A = Option Edit} None (Some e) = g in cc)
added_last zero k s (d ∷ ds) e h g q = absurd (omega arith)
added_last (suc p) zero s (d ∷ ds) e h g q =
    let same : d ≡ e = cc in
    let none : added_by p ds ≡ 0 = ap (λ j. added_by j ds) (let z : p ≡ 0 = omega arith in z) in
    subst (λ (x : Edit). ((added d.is_new + added_by p ds) + s) + x.from ≡ x.at + added x.is_new) same (omega (arith, h.0))
added_last (suc p) (suc k) s (d ∷ ds) e h g q =
    let t : (added_by p ds + (s + added d.is_new)) + e.from ≡ e.at + added e.is_new = added_last p k (s + added d.is_new) ds e h.1 g (omega arith) in omega arith

counted_at : (k s : ℕ) (es : List Edit) (e : Edit) → AreCounted s es → slice_get es k ≡ Some e → e.at ≡ e.from + (s + added_by k es)
counted_at k s [] e h g = absurd (let c : ◌≡◌ {A = Option Edit} None (Some e) = g in cc)
counted_at zero s (d ∷ ds) e h g = let same : d ≡ e = cc in subst (λ (x : Edit). x.at ≡ x.from + (s + 0)) same (omega (arith, h.0))
counted_at (suc k) s (d ∷ ds) e h g = let t : e.at ≡ e.from + ((s + added d.is_new) + added_by k ds) = counted_at k (s + added d.is_new) ds e h.1 g in omega arith

-- what is read off the edit before a place
pub last_adds : (p k : ℕ) (es : List Edit) (e : Edit) (b : Bool) → AreCounted 0 es → slice_get es k ≡ Some e → p ≡ k + 1 → e.is_new ≡ b → (e.from ≤ e.at) × ((e.at - e.from) + added b ≡ added_by p es) × (e.at - e.from < p)
last_adds p k es e b h g q is =
    let x : e.at ≡ e.from + (0 + added_by k es) = counted_at k 0 es e h g in
    let y : (added_by p es + 0) + e.from ≡ e.at + added e.is_new = added_last p k 0 es e h g q in
    let z : added e.is_new ≡ added b = ap added is in
    let l : added_by k es ≤ k = added_little k es in
    (omega arith, omega arith, omega arith)

-- ---- edits are moved up one by one
pub moved_step : (i j : ℕ) (es : List Edit) (d : Edit) → j ≡ i + 1 → moved_from j (set es i (moved_up (get_or es i d))) ≡ moved_from i es
moved_step i j [] d q = refl
moved_step i zero (e ∷ es) d q = absurd (omega arith)
moved_step zero (suc j) (e ∷ es) d q = let z : j ≡ 0 = omega arith in ap (λ n. moved_up e ∷ moved_from n es) z
moved_step (suc i) (suc j) (e ∷ es) d q = ap (λ (xs : List Edit). e ∷ xs) (moved_step i j es d (omega arith))

pub few_step : (i : ℕ) (es : List Edit) (x : Edit) → AreFewFrom i es → AreFewFrom (i + 1) (set es i x)
few_step i es x h j e l m =
    let w : j < length es = omega (arith, length-set {A = Edit}) in
    let apart : j ≢ i = omega arith in
    let t : (get_or es j e).at + 1 < 2 ^ 64 = h j e (omega arith) w in
    rw get_or-set_other t

pub moved_past : (i : ℕ) (es : List Edit) → length es ≤ i → moved_from i es ≡ es
moved_past i [] h = refl
moved_past zero (e ∷ es) h = absurd (omega arith)
moved_past (suc i) (e ∷ es) h = ap (λ (xs : List Edit). e ∷ xs) (moved_past i es (omega arith))

-- ---- an edit more
-- from a later run on, where s is said otherwise
later : (s t i j : ℕ) (es : List Edit) (rs : List Run) → RiseFrom s i es rs → AreFrom zero (j + s) es → t ≡ s → RiseFrom t j es rs
later s t i j [] rs h f e = tt
later s t i j (d ∷ ds) rs h f e = (omega (arith, h.0), omega (arith, h.0, f), h.2, subst (λ x. RiseFrom (x + added d.is_new) (d.from + hidden d.is_new) ds rs) (sym e) h.3)

pub rise_old : (k n s i m p : ℕ) (r : Run) (es : List Edit) (rs : List Run) → RiseFrom s i es rs → AreBelow k n es → AreFrom k (n + 1) es → n ≡ m + s → m ≡ p + added_by k es → i ≤ m → FitsAt false p r rs
    → RiseFrom s i (insert es k (record { at = n; from = p; is_new = false; run = r })) rs
rise_old zero n s i m p r es rs h b f e g l w =
    let t : m ≡ p = omega arith in
    (omega arith, omega arith, w, later s (s + 0) i (p + 1) es rs h (let u : n + 1 ≡ (p + 1) + s = omega arith in subst (λ x. AreFrom zero x es) u f) (omega arith))
rise_old (suc k) n s i m p r [] rs h b f e g l w = absurd b
rise_old (suc k) n s i m p r (d ∷ ds) rs h b f e g l w =
    let one : added d.is_new + hidden d.is_new ≡ 1 = parts d.is_new in
    (h.0, h.1, h.2, rise_old k n (s + added d.is_new) (d.from + hidden d.is_new) (p + added_by k ds) p r ds rs h.3 b.1 f (omega arith) refl (omega (arith, h.0, b.0)) w)

moved : (s t i : ℕ) (es : List Edit) (rs : List Run) → RiseFrom s i es rs → t ≡ s + 1 → RiseFrom t i (moved_from zero es) rs
moved s t i [] rs h e = tt
moved s t i (d ∷ ds) rs h e = (omega (arith, h.0), h.1, h.2, moved (s + added d.is_new) (t + added d.is_new) (d.from + hidden d.is_new) ds rs h.3 (omega arith))

pub rise_new : (k n s i m p : ℕ) (r : Run) (es : List Edit) (rs : List Run) → RiseFrom s i es rs → AreBelow k n es → AreFrom k n es → n ≡ m + s → m ≡ p + added_by k es → i ≤ m → p ≤ length rs
    → RiseFrom s i (moved_from (suc k) (insert es k (record { at = n; from = p; is_new = true; run = r }))) rs
rise_new zero n s i m p r es rs h b f e g l w =
    let t : m ≡ p = omega arith in
    (omega arith, omega arith, w, moved s (s + 1) (p + 0) es rs (later s s i (p + 0) es rs h (let u : n ≡ (p + 0) + s = omega arith in subst (λ x. AreFrom zero x es) u f) refl) refl)
rise_new (suc k) n s i m p r [] rs h b f e g l w = absurd b
rise_new (suc k) n s i m p r (d ∷ ds) rs h b f e g l w =
    let one : added d.is_new + hidden d.is_new ≡ 1 = parts d.is_new in
    (h.0, h.1, h.2, rise_new k n (s + added d.is_new) (d.from + hidden d.is_new) (p + added_by k ds) p r ds rs h.3 b.1 f (omega arith) refl (omega (arith, h.0, b.0)) w)

-- ---- the run of an edit is changed under its key
fits_changed : (g : Run → Run) → IsUnderKey g → (b : Bool) (n : ℕ) (r : Run) (rs : List Run) → FitsAt b n r rs → FitsAt b n (g r) rs
fits_changed g key true n r rs h = h
fits_changed g key false n r rs h = (h.0, h.1, ((key r).0 ∙ h.2.0, (key r).1 ∙ h.2.1))

pub rise_changed : (g : Run → Run) → IsUnderKey g → (k s i : ℕ) (es : List Edit) (rs : List Run) → RiseFrom s i es rs → RiseFrom s i (at (with_run g) k es) rs
rise_changed g key k s i [] rs h = tt
rise_changed g key zero s i (d ∷ ds) rs h = (h.0, h.1, fits_changed g key d.is_new d.from d.run rs h.2, h.3)
rise_changed g key (suc k) s i (d ∷ ds) rs h = (h.0, h.1, h.2, rise_changed g key k (s + added d.is_new) (d.from + hidden d.is_new) ds rs h.3)

-- ---- positions are small
few_at : (s i : ℕ) (es : List Edit) (rs : List Run) → RiseFrom s i es rs → (j : ℕ) (d : Edit) → j < length es → (get_or es j d).at ≤ length rs + (s + j)
few_at s i [] rs h j d l = absurd (omega arith)
few_at s i (e ∷ es) rs h zero d l = let fits : e.from + hidden e.is_new ≤ length rs = fits_within e.is_new e.from e.run rs h.2 in omega (arith, h.0)
few_at s i (e ∷ es) rs h (suc j) d l =
    let one : added e.is_new + hidden e.is_new ≡ 1 = parts e.is_new in
    let t : (get_or es j d).at ≤ length rs + ((s + added e.is_new) + j) = few_at (s + added e.is_new) (e.from + hidden e.is_new) es rs h.3 j d (omega arith) in omega arith

pub few_one : (k : ℕ) (e : Edit) (es : List Edit) (rs : List Run) → AreEditsOf rs es → length rs + length es + 1 < 2 ^ 64 → k ≤ length es → AreFewFrom (k + 1) (insert es k e)
few_one k e es rs h w l zero d a b = absurd (omega arith)
few_one k e es rs h w l (suc j) d a b =
    let long : length (insert es k e) ≡ length es + 1 = length-insert es k e l in
    let t : (get_or es j d).at ≤ length rs + (0 + j) = few_at 0 0 es rs h j d (omega arith) in
    let q : get_or (insert es k e) (j + 1) d ≡ get_or es j d = get_or-insert_above es k e d j (omega arith) l in
    let z : get_or (insert es k e) (suc j) d ≡ get_or es j d = ap (λ n. get_or (insert es k e) n d) (let o : suc j ≡ j + 1 = omega arith in o) ∙ q in
    let v : (get_or (insert es k e) (suc j) d).at ≡ (get_or es j d).at = ap (λ (x : Edit). x.at) z in
    omega arith

-- the whole of a list that was written back
pub taken_whole : (n : ℕ) (xs ys : List Edit) → length xs ≡ length ys → n ≡ length ys → take n (xs ++ drop (length xs) ys) ≡ xs
taken_whole n xs ys e q = let none : drop (length xs) ys ≡ [] = drop_past ys (length xs) (omega arith) in ap (λ zs. take n (xs ++ zs)) none ∙ all xs n (omega arith)
  where
    drop_past : (ys : List Edit) (k : ℕ) → length ys ≤ k → drop k ys ≡ []
    drop_past [] zero h = refl
    drop_past [] (suc k) h = refl
    drop_past (y ∷ ys) zero h = absurd (omega arith)
    drop_past (y ∷ ys) (suc k) h = drop_past ys k (omega arith)

    all : (xs : List Edit) (n : ℕ) → length xs ≤ n → take n (xs ++ []) ≡ xs
    all [] zero h = refl
    all [] (suc n) h = refl
    all (x ∷ xs) zero h = absurd (omega arith)
    all (x ∷ xs) (suc n) h = ap (λ zs. x ∷ zs) (all xs n (omega arith))
