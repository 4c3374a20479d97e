-- The run that was there with the key of one that is there.
use Rattle.std.proofs.Common.{◌≡◌, ◌∙◌, ◌⊎◌, inl, inr, refl, sym, ap, subst, ℕ, zero, suc, ◌+◌, ◌<◌, Bool, true, false, cond, ◌&&◌, ◌==◌, List, [], ◌∷◌, find, get_or, Option, Some, None, slice_get, true≢false, arith}
use Rattle.std.specs.List.{AllByRecursion}
use Rattle.std.proofs.lemmas.Bool.{cases_lt, false_from_ne_true, and_from, eq-eqb}
use Rattle.std.proofs.lemmas.Option.{get_or_from_slice_get}
use Rattle.std.proofs.Math.Nat.{eq-or-lt_of_le}
use Rattle.sched_state.specs.Lists.{same}
use Rattle.sched_state.specs.declared.runs.Run.{Run}
use Rattle.sched_state.proofs.NameLemmas.{same_itself}
use Rattle.sched_model.specs.Lists.{rises}
use Rattle.sched_model.specs.Schedule.{run_before, is_at}
use Rattle.run_lists.specs.declared.edits.Edit.{Edit}
use Rattle.run_lists.specs.Edits.{edited, AreEditsOf, AreBelow, AreFrom, IsEditOf, FitsAt, added_by}
use Rattle.run_lists.specs.Marks.{Mark, Kept, Changed, Added, now_of, runs_of, base_of, HasKeyOf, KeepsKey}
use Rattle.run_lists.proofs.EditLemmas.{edit_at, get_new}
use Rattle.run_lists.proofs.MarkLemmas.{untouched, given, marked, untouched_long, runs_marked, base_marked, keys_marked, over}
use Rattle.run_lists.proofs.OverlayLemmas.{read_there, read_missed}
use Rattle.run_lists.proofs.PastLemmas.{rises_over}
use Rattle.run_lists.proofs.OrderLemmas.{rise_pair, key_same, key_itself}

pub find_only : {X : Type 0} (p : X → Bool) (xs : List X) (n : ℕ) (x : X) → slice_get xs n ≡ Some x → p x ≡ true → ((m : ℕ) (z : X) → m < n → slice_get xs m ≡ Some z → p z ≡ false) → find p xs ≡ Some x
find_only {X} p [] n x e h u = absurd (let c : ◌≡◌ {A = Option X} None (Some x) = e in cc)
find_only {X} p (y ∷ ys) zero x e h u =
    let c : ◌≡◌ {A = Option X} (Some y) (Some x) = e in let q : y ≡ x = cc in
    ap (λ b. cond b (let o : Option X = Some y in o) (find p ys)) (ap p q ∙ h) ∙ e
find_only {X} p (y ∷ ys) (suc n) x e h u =
    ap (λ b. cond b (let o : Option X = Some y in o) (find p ys)) (u zero y (omega arith) refl) ∙ find_only p ys n x e h (λ m z l g. u (suc m) z (omega arith) g)

-- ---- keys of runs in order
at_itself : (r : Run) → is_at r.graph r.logical r ≡ true
at_itself r = and_from _ _ (same_itself r.graph) (eq-eqb r.logical r.logical refl)

at_alike : (q r : Run) → HasKeyOf q r → is_at r.graph r.logical q ≡ true
at_alike q r h = and_from _ _ (ap (same q.graph) h.0 ∙ same_itself q.graph) (eq-eqb q.logical r.logical (sym h.1))

earlier_apart : (x r : Run) → run_before x r ≡ true → is_at r.graph r.logical x ≡ false
earlier_apart x r h = false_from_ne_true (is_at r.graph r.logical x) (λ t. true≢false (sym (key_same r.graph r.logical x r t ∙ h) ∙ key_itself r.graph r.logical r (at_itself r)))

later_apart : (x r : Run) → run_before r x ≡ true → is_at r.graph r.logical x ≡ false
later_apart x r h = false_from_ne_true (is_at r.graph r.logical x) (λ t. true≢false (sym h ∙ key_itself r.graph r.logical x t))

same_key : (q r x : Run) → HasKeyOf q r → is_at r.graph r.logical x ≡ is_at q.graph q.logical x
same_key q r x h = ap (λ g. same x.graph g && x.logical == r.logical) h.0 ∙ ap (λ l. same x.graph q.graph && x.logical == l) h.1

-- the run with the key of r
found_there : (rs : List Run) (n : ℕ) (r q : Run) → rises run_before rs ≡ true → slice_get rs n ≡ Some q → HasKeyOf q r → find (is_at r.graph r.logical) rs ≡ Some q
found_there rs n r q h g k =
    find_only (is_at r.graph r.logical) rs n q g (at_alike q r k) (λ m z l f. same_key q r z k ∙ earlier_apart z q (rise_pair rs m n z q h l f g))

-- ---- an added run was not there
none_found : (p : Run → Bool) → ((q s : Run) → HasKeyOf q s → p s ≡ p q) → (ms : List Mark) → AllByRecursion KeepsKey ms
    → ((m : ℕ) (x : Mark) → slice_get ms m ≡ Some x → (p (now_of x) ≡ false) ⊎ ((q : Run) → (x ≡ Kept q → ⊥) × ((s : Run) → x ≡ Changed q s → ⊥))) → find p (base_of ms) ≡ None
none_found p alike [] k h = refl
none_found p alike (m ∷ ms) k h = by m k.0 (h zero m refl) (none_found p alike ms k.1 (λ n x g. h (suc n) x g))
  where
    by : (m : Mark) → KeepsKey m → (p (now_of m) ≡ false) ⊎ ((q : Run) → (m ≡ Kept q → ⊥) × ((s : Run) → m ≡ Changed q s → ⊥)) → find p (base_of ms) ≡ None → find p (base_of (m ∷ ms)) ≡ None
    by (Kept q) k (inl e) rest = ap (λ b. cond b (let o : Option Run = Some q in o) (find p (base_of ms))) e ∙ rest
    by (Kept q) k (inr a) rest = absurd ((a q).0 refl)
    by (Changed q s) k (inl e) rest = ap (λ b. cond b (let o : Option Run = Some q in o) (find p (base_of ms))) (sym (alike q s k) ∙ e) ∙ rest
    by (Changed q s) k (inr a) rest = absurd ((a q).1 s refl)
    by (Added s) k a rest = rest

get_now : (ms : List Mark) (n : ℕ) (m : Mark) → slice_get ms n ≡ Some m → slice_get (runs_of ms) n ≡ Some (now_of m)
get_now [] n m g = absurd (let c : ◌≡◌ {A = Option Mark} None (Some m) = g in cc)
get_now (l ∷ ms) zero m g = let e : l ≡ m = cc in ap (λ (x : Mark). let o : Option Run = Some (now_of x) in o) e
get_now (l ∷ ms) (suc n) m g = get_now ms n m g

added_nowhere : (ms : List Mark) (n : ℕ) (r : Run) → AllByRecursion KeepsKey ms → rises run_before (runs_of ms) ≡ true → slice_get ms n ≡ Some (Added r) → find (is_at r.graph r.logical) (base_of ms) ≡ None
added_nowhere ms n r k h g = none_found (is_at r.graph r.logical) alike ms k each
  where
    alike : (q s : Run) → HasKeyOf q s → is_at r.graph r.logical s ≡ is_at r.graph r.logical q
    alike q s h = ap (λ g. same g r.graph && s.logical == r.logical) h.0 ∙ ap (λ l. same q.graph r.graph && l == r.logical) h.1

    here : slice_get (runs_of ms) n ≡ Some r
    here = get_now ms n (Added r) g

    apart : (m : ℕ) (x : Mark) → slice_get ms m ≡ Some x → m ≡ n → (q : Run) → (x ≡ Kept q → ⊥) × ((s : Run) → x ≡ Changed q s → ⊥)
    apart m x f e q = let c : ◌≡◌ {A = Option Mark} (Some x) (Some (Added r)) = sym f ∙ ap (slice_get ms) e ∙ g in let is : x ≡ Added r = cc in (λ w. cc, λ s w. cc)

    each : (m : ℕ) (x : Mark) → slice_get ms m ≡ Some x → (is_at r.graph r.logical (now_of x) ≡ false) ⊎ ((q : Run) → (x ≡ Kept q → ⊥) × ((s : Run) → x ≡ Changed q s → ⊥))
    each m x f = elim (cases_lt m n) [
      | inl l ↦ inl (earlier_apart (now_of x) r (rise_pair (runs_of ms) m n (now_of x) r h l (get_now ms m x f) here))
      | inr l ↦ elim (eq-or-lt_of_le l) [
        | inl e ↦ inr (apart m x f (sym e))
        | inr w ↦ inl (later_apart (now_of x) r (rise_pair (runs_of ms) n m r (now_of x) h w here (get_now ms m x f)))
      ]
    ]

-- ---- by what the search found
one_run : (r s : Run) (o : Option Run) → o ≡ Some r → o ≡ Some s → r ≡ s
one_run r s o f g = let c : ◌≡◌ {A = Option Run} (Some r) (Some s) = sym f ∙ g in cc

pub before_kept : (n k p : ℕ) (es : List Edit) (rs : List Run) (q r : Run) → AreEditsOf rs es → AreBelow k n es → AreFrom k (n + 1) es → p + added_by k es ≡ n → rises run_before (edited es rs) ≡ true
    → slice_get rs p ≡ Some q → slice_get (edited es rs) n ≡ Some r → find (is_at r.graph r.logical) rs ≡ Some q
before_kept n k p es rs q r h b f e rise g w =
    let is : q ≡ r = one_run q r (slice_get rs p) g (sym (read_missed n k p es rs h b f e) ∙ w) in
    found_there rs p r q (rises_over (marked es rs) rs (edited es rs) (over es rs h) rise) g (ap (λ (x : Run). x.graph) (sym is), ap (λ (x : Run). x.logical) (sym is))

pub old_there : (k : ℕ) (es : List Edit) (rs : List Run) (e : Edit) → AreEditsOf rs es → slice_get es k ≡ Some e → e.is_new ≡ false → FitsAt false e.from e.run rs
old_there k es rs e h g w = subst (λ b. FitsAt b e.from e.run rs) w (edit_at k 0 0 es rs e h g).2

pub before_old : (n k : ℕ) (es : List Edit) (rs : List Run) (e : Edit) (q r : Run) → AreEditsOf rs es → AreBelow k n es → IsEditOf k n es → e ≡ get_or es k e → slice_get es k ≡ Some e → e.is_new ≡ false → rises run_before (edited es rs) ≡ true
    → slice_get rs e.from ≡ Some q → slice_get (edited es rs) n ≡ Some r → find (is_at r.graph r.logical) rs ≡ Some q
before_old n k es rs e q r h b t at g w rise f i =
    let fits : FitsAt false e.from e.run rs = old_there k es rs e h g w in
    let is : e.run ≡ r = one_run e.run r (slice_get (edited es rs) n) (read_there n k es rs e h b t at) i in
    let first : fits.0 ≡ q = one_run fits.0 q (slice_get rs e.from) fits.1 f in
    found_there rs e.from r q (rises_over (marked es rs) rs (edited es rs) (over es rs h) rise) f
    (subst (λ (x : Run). HasKeyOf q x) is (subst (λ (x : Run). HasKeyOf x e.run) first fits.2))

pub before_new : (n k : ℕ) (es : List Edit) (rs : List Run) (e : Edit) (r : Run) → AreEditsOf rs es → AreBelow k n es → slice_get es k ≡ Some e → e.at ≡ n → e.is_new ≡ true → rises run_before (edited es rs) ≡ true
    → slice_get (edited es rs) n ≡ Some r → find (is_at r.graph r.logical) rs ≡ None
before_new n k es rs e r h b g a w rise i =
    let mark : slice_get (marked es rs) n ≡ Some (Added e.run) = get_new Added given k n 0 0 n e es rs (untouched rs) h (untouched_long rs) b g w a (omega arith) in
    let is : e.run ≡ r = one_run e.run r (slice_get (edited es rs) n) (ap (λ rs. slice_get rs n) (sym (runs_marked es rs)) ∙ get_now (marked es rs) n (Added e.run) mark) i in
    subst (λ (x : Run). find (is_at x.graph x.logical) rs ≡ None) is
    (ap (λ qs. find (is_at e.run.graph e.run.logical) qs) (sym (base_marked es rs)) ∙ added_nowhere (marked es rs) n e.run (keys_marked 0 0 es rs h) (ap (rises run_before) (runs_marked es rs) ∙ rise) mark)

pub the_edit : (k n : ℕ) (es : List Edit) (e : Edit) → IsEditOf k n es → e ≡ get_or es k e → (slice_get es k ≡ Some e) × (e.at ≡ n)
the_edit k n es e t g =
    let is : e ≡ t.0 = g ∙ get_or_from_slice_get es k t.0 e t.1 in
    (t.1 ∙ ap (λ (x : Edit). Some x) (sym is), ap (λ (x : Edit). x.at) is ∙ t.2)
