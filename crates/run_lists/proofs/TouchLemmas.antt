-- The positions of the edits are those of the touched runs.
use Rattle.std.proofs.Common.{◌≡◌, ◌∙◌, refl, sym, ap, subst, ℕ, zero, suc, ◌+◌, ◌<◌, ◌≤◌, ◌==◌, ◌||◌, Bool, true, false, List, [], ◌∷◌, length, drop, cond, Option, Some, None, option_map, unwrap_or, slice_get, inl, inr, arith}
use Rattle.std.proofs.lemmas.Bool.{eqb-true, eq-eqb, false_from_ne_true}
use Rattle.std.proofs.Math.Nat.{eq-or-lt_of_le}
use Rattle.dag_check.specs.Orders.{is_in}
use Rattle.sched_state.specs.declared.runs.Run.{Run}
use Rattle.run_lists.specs.declared.edits.Edit.{Edit}
use Rattle.run_lists.specs.Edits.{put_in, edited, added, hidden, RiseFrom, AreEditsOf, AreBelow, AreFrom, IsEditOf, positions_in}
use Rattle.run_lists.specs.Marks.{Mark, Kept, Changed, Added, is_touched, is_touched_at, touched_from}
use Rattle.run_lists.specs.Overlays.{AreAllTouched, IsOwned}
use Rattle.run_lists.proofs.PutLemmas.{parts}
use Rattle.run_lists.proofs.EditLemmas.{get_before, within_puts}
use Rattle.run_lists.proofs.MarkLemmas.{untouched, given, marked, untouched_long, over}
use Rattle.run_lists.proofs.OverlayLemmas.{owned_there}

apart : (m n : ℕ) → (m ≡ n → ⊥) → (m == n) ≡ false
apart m n h = false_from_ne_true (m == n) (λ e. h (eqb-true m n e))

-- whether a run is touched is read off its mark
is_read : (n : ℕ) (ms : List Mark) → is_touched_at n ms ≡ unwrap_or (option_map is_touched (slice_get ms n)) false
is_read n [] = refl
is_read zero (m ∷ ms) = refl
is_read (suc n) (m ∷ ms) = is_read n ms

alike : (m n : ℕ) (a b : List Mark) → slice_get a m ≡ slice_get b n → is_touched_at m a ≡ is_touched_at n b
alike m n a b h = is_read m a ∙ ap (λ (o : Option Mark). unwrap_or (option_map is_touched o) false) h ∙ sym (is_read n b)

none_touched : (n : ℕ) (rs : List Run) → is_touched_at n (untouched rs) ≡ false
none_touched n [] = refl
none_touched zero (r ∷ rs) = refl
none_touched (suc n) (r ∷ rs) = none_touched n rs

none_later : (n s i : ℕ) (es : List Edit) (rs : List Run) → RiseFrom s i es rs → n < i + s → is_in (positions_in es) n ≡ false
none_later n s i [] rs h l = refl
none_later n s i (e ∷ es) rs h l =
    let one : added e.is_new + hidden e.is_new ≡ 1 = parts e.is_new in
    ap (λ b. b || is_in (positions_in es) n) (apart e.at n (λ q. omega (arith, q, h.0, h.1)))
    ∙ none_later n (s + added e.is_new) (e.from + hidden e.is_new) es rs h.3 (omega (arith, h.1))

-- the runs before the first edit are not touched
none_before : (s i n : ℕ) (es : List Edit) (rs : List Run) → RiseFrom s i es rs → n < i → is_touched_at n (marked es rs) ≡ false
none_before s i n es rs h l = alike n n (marked es rs) (untouched rs) (get_before Added given s i n es rs (untouched rs) h (untouched_long rs) l) ∙ none_touched n rs

none_from : (t : ℕ) (rs : List Run) → touched_from t (untouched rs) ≡ []
none_from t [] = refl
none_from t (r ∷ rs) = none_from (t + 1) rs

first_one : (t u w k : ℕ) (ms : List Mark) → t ≡ u → t + 1 ≡ w → 0 ≡ k → ◌≡◌ {A = List ℕ} (t ∷ touched_from (t + 1) ms) (u ∷ touched_from w (drop k ms))
first_one t u w k ms a b c =
    ap (λ x. x ∷ touched_from (t + 1) ms) a ∙ ap (λ x. u ∷ touched_from x ms) b ∙ ap (λ x. u ∷ touched_from w (drop x ms)) c

-- where no run before the put one is touched, it is the first touched one
put_first : (b : Bool) (n : ℕ) (r : Run) (ms : List Mark) (t u w k : ℕ) → ((j : ℕ) → j < n → is_touched_at j ms ≡ false) → n + hidden b ≤ length ms → u ≡ t + n → w ≡ u + 1 → k ≡ n + hidden b
    → touched_from t (put_in b n (Added r) (given r) ms) ≡ u ∷ touched_from w (drop k ms)
put_first true zero r ms t u w k h l eu ew ek = first_one t u w k ms (omega arith) (omega arith) (omega arith)
put_first true (suc n) r [] t u w k h l eu ew ek = absurd (omega arith)
put_first true (suc n) r (m ∷ ms) t u w zero h l eu ew ek = absurd (omega arith)
put_first true (suc n) r (m ∷ ms) t u w (suc k) h l eu ew ek =
    ap (λ b. cond b (t ∷ touched_from (t + 1) (put_in true n (Added r) (given r) ms)) (touched_from (t + 1) (put_in true n (Added r) (given r) ms))) (h 0 (omega arith))
    ∙ put_first true n r ms (t + 1) u w k (λ j i. h (suc j) (omega arith)) (omega arith) (omega arith) ew (omega arith)
put_first false n r [] t u w k h l eu ew ek = absurd (omega arith)
put_first false n r (m ∷ ms) t u w zero h l eu ew ek = absurd (omega arith)
put_first false zero r (Kept q ∷ ms) t u w (suc k) h l eu ew ek = first_one t u w k ms (omega arith) (omega arith) (omega arith)
put_first false zero r (Changed q s ∷ ms) t u w (suc k) h l eu ew ek = first_one t u w k ms (omega arith) (omega arith) (omega arith)
put_first false zero r (Added s ∷ ms) t u w (suc k) h l eu ew ek = first_one t u w k ms (omega arith) (omega arith) (omega arith)
put_first false (suc n) r (m ∷ ms) t u w (suc k) h l eu ew ek =
    ap (λ b. cond b (t ∷ touched_from (t + 1) (put_in false n (Added r) (given r) ms)) (touched_from (t + 1) (put_in false n (Added r) (given r) ms))) (h 0 (omega arith))
    ∙ put_first false n r ms (t + 1) u w k (λ j i. h (suc j) (omega arith)) (omega arith) (omega arith) ew (omega arith)

none_first : (i t u : ℕ) (ms : List Mark) → ((j : ℕ) → j < i → is_touched_at j ms ≡ false) → u ≡ t + i → touched_from t ms ≡ touched_from u (drop i ms)
none_first zero t u ms h e = let c : t ≡ u = omega arith in ap (λ x. touched_from x ms) c
none_first (suc i) t u [] h e = refl
none_first (suc i) t u (m ∷ ms) h e =
    ap (λ b. cond b (t ∷ touched_from (t + 1) ms) (touched_from (t + 1) ms)) (h 0 (omega arith))
    ∙ none_first i (t + 1) u ms (λ j l. h (suc j) (omega arith)) (omega arith)

positions_are : (s i : ℕ) (es : List Edit) (rs : List Run) → RiseFrom s i es rs → touched_from s (marked es rs) ≡ positions_in es
positions_are s i [] rs h = none_from s rs
positions_are s i (e ∷ es) rs h =
    let one : added e.is_new + hidden e.is_new ≡ 1 = parts e.is_new in
    let fits : e.from + hidden e.is_new ≤ length (marked es rs) = within_puts Added given e.is_new e.from e.run (s + added e.is_new) (e.from + hidden e.is_new) es rs (untouched rs) h.2 h.3 (untouched_long rs) in
    put_first e.is_new e.from e.run (marked es rs) s e.at (e.at + 1) (e.from + hidden e.is_new)
    (λ j l. none_before (s + added e.is_new) (e.from + hidden e.is_new) j es rs h.3 (omega arith)) fits (omega (arith, h.0)) refl refl
    ∙ ap (λ ns. e.at ∷ ns)
    (sym (none_first (e.from + hidden e.is_new) (s + added e.is_new) (e.at + 1) (marked es rs) (λ j l. none_before (s + added e.is_new) (e.from + hidden e.is_new) j es rs h.3 l) (omega (arith, h.0, one)))
    ∙ positions_are (s + added e.is_new) (e.from + hidden e.is_new) es rs h.3)

pub touched_all : (es : List Edit) (rs : List Run) → AreEditsOf rs es → AreAllTouched (positions_in es) rs (edited es rs)
touched_all es rs h = record {
  marks = marked es rs;
  over = over es rs h;
  positions = sym (positions_are 0 0 es rs h);
}

-- ---- a touched position has its edit
or_true : (b : Bool) → (b || true) ≡ true
or_true true = refl
or_true false = refl

pub own_there : (n k : ℕ) (es : List Edit) → IsEditOf k n es → is_in (positions_in es) n ≡ true
own_there n k [] t = let c : ◌≡◌ {A = Option Edit} None (Some t.0) = t.1 in absurd cc
own_there n zero (e ∷ es) t = let c : e ≡ t.0 = let d : ◌≡◌ {A = Option Edit} (Some e) (Some t.0) = t.1 in cc in ap (λ b. b || is_in (positions_in es) n) (eq-eqb e.at n (ap (λ (x : Edit). x.at) c ∙ t.2))
own_there n (suc k) (e ∷ es) t = ap (λ b. (e.at == n) || b) (own_there n k es (t.0, t.1, t.2)) ∙ or_true (e.at == n)

pub own_at : (k n s i : ℕ) (es : List Edit) (rs : List Run) → RiseFrom s i es rs → AreBelow k n es → AreFrom k n es → is_in (positions_in es) n ≡ true → IsEditOf k n es
own_at zero n s i [] rs h b f o = absurd (let c : false ≡ true = o in cc)
own_at zero n s i (e ∷ es) rs h b f o = elim (eq-or-lt_of_le f) [
  | inl same ↦ (e, refl, sym same)
  | inr more ↦
      let first : RiseFrom s e.from (e ∷ es) rs = (h.0, omega arith, h.2, h.3) in
      absurd (let c : true ≡ false = sym o ∙ none_later n s e.from (e ∷ es) rs first (omega (arith, h.0, more)) in cc)
]
own_at (suc k) n s i [] rs h b f o = absurd b
own_at (suc k) n s i (e ∷ es) rs h b f o =
    let rest = own_at k n (s + added e.is_new) (e.from + hidden e.is_new) es rs h.3 b.1 f
    (sym (ap (λ c. c || is_in (positions_in es) n) (apart e.at n (λ q. omega (arith, q, b.0)))) ∙ o) in (rest.0, rest.1, rest.2)

-- by which the run at the position is written
pub owned_of : (n k : ℕ) (es xs : List Edit) (rs : List Run) (b : Bool) → xs ≡ es → AreEditsOf rs es → AreBelow k n xs → AreFrom k n xs → is_in (positions_in es) n ≡ b → b ≡ true → IsOwned n k es es rs
owned_of n k es xs rs b e h l f o t =
    let below : AreBelow k n es = subst (AreBelow k n) e l in
    owned_there n k es rs h below (own_at k n 0 0 es rs h below (subst (AreFrom k n) e f) (o ∙ t))
