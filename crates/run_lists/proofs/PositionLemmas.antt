-- The positions of the edits: they rise, and what one edit more makes of them.
use Rattle.std.proofs.Common.{◌≡◌, ◌∙◌, sym, ap, refl, ℕ, zero, suc, ◌+◌, ◌<◌, ◌≤◌, ◌==◌, ◌||◌, Bool, true, false, cond, nat_le, List, [], ◌∷◌, Option, Some, None, insert, arith}
use Rattle.std.specs.BTreeSet.{insert_key}
use Rattle.std.specs.Cmp.{nat_cmp_is}
use Rattle.std.specs.List.{AllByRecursion}
use Rattle.std.specs.List.Sorted.{IsStrictlySortedBy}
use Rattle.std.specs.Ordering.{nat_cmp, match_ordering}
use Rattle.std.specs.declared.cmp.Ordering.{Ordering}
use Rattle.std.specs.declared.cmp.Ordering.TheVariants.{Less, Equal, Greater}
use Rattle.std.proofs.lemmas.Bool.{le-leb, lt-leb}
use Rattle.std.proofs.lemmas.Map.Lookups.{exact_unsigned}
use Rattle.dag_check.specs.Orders.{is_in}
use Rattle.sched_state.specs.declared.runs.Run.{Run}
use Rattle.run_lists.specs.declared.edits.Edit.{Edit}
use Rattle.run_lists.specs.Edits.{added, hidden, RiseFrom, AreBelow, AreFrom, IsEditOf, moved_from, positions_in}
use Rattle.run_lists.specs.Touched.{shifted_from, touched_with}
use Rattle.run_lists.proofs.PutLemmas.{parts}

-- ---- a position among positions that rise
put_before : (n m : ℕ) (ms : List ℕ) → n < m → insert_key nat_cmp (m ∷ ms) n ≡ n ∷ m ∷ ms
put_before n m ms h = ap (λ (o : Ordering). match_ordering o (n ∷ m ∷ ms) (m ∷ ms) (m ∷ insert_key nat_cmp ms n)) (sym (nat_cmp_is n m Less h))

put_there : (n m : ℕ) (ms : List ℕ) → n ≡ m → insert_key nat_cmp (m ∷ ms) n ≡ m ∷ ms
put_there n m ms h = ap (λ (o : Ordering). match_ordering o (n ∷ m ∷ ms) (m ∷ ms) (m ∷ insert_key nat_cmp ms n)) (sym (nat_cmp_is n m Equal h))

put_after : (n m : ℕ) (ms : List ℕ) → m < n → insert_key nat_cmp (m ∷ ms) n ≡ m ∷ insert_key nat_cmp ms n
put_after n m ms h = ap (λ (o : Ordering). match_ordering o (n ∷ m ∷ ms) (m ∷ ms) (m ∷ insert_key nat_cmp ms n)) (sym (nat_cmp_is n m Greater h))

or_again : (b c : Bool) → (b || c) ≡ (b || (b || c))
or_again true c = refl
or_again false c = refl

or_moved : (a b c : Bool) → (a || (b || c)) ≡ (b || (a || c))
or_moved true true c = refl
or_moved true false c = refl
or_moved false b c = refl

-- which positions are among them once one was put in
pub in_more : (m n : ℕ) (ns : List ℕ) → is_in (insert_key nat_cmp ns n) m ≡ (n == m || is_in ns m)
in_more m n [] = refl
in_more m n (x ∷ xs) = by (nat_cmp n x) refl (in_more m n xs)
  where
    by : (o : Ordering) → nat_cmp n x ≡ o → is_in (insert_key nat_cmp xs n) m ≡ (n == m || is_in xs m)
        → is_in (match_ordering o (n ∷ x ∷ xs) (x ∷ xs) (x ∷ insert_key nat_cmp xs n)) m ≡ (n == m || is_in (x ∷ xs) m)
    by Less e rest = refl
    by Equal e rest =
        let same : n ≡ x = exact_unsigned n x e in
        or_again (x == m) (is_in xs m) ∙ ap (λ (k : ℕ). k == m || (x == m || is_in xs m)) (sym same)
    by Greater e rest = ap (λ (b : Bool). x == m || b) rest ∙ or_moved (x == m) (n == m) (is_in xs m)

-- ---- they rise
all_later : (n s i : ℕ) (es : List Edit) (rs : List Run) → RiseFrom s i es rs → n < i + s → AllByRecursion (λ (m : ℕ). nat_cmp n m ≡ Less) (positions_in es)
all_later n s i [] rs h l = tt
all_later n s i (e ∷ es) rs h l =
    (sym (nat_cmp_is n e.at Less (omega (arith, h.0, h.1))), all_later n (s + added e.is_new) (e.from + hidden e.is_new) es rs h.3 (omega (arith, h.1)))

pub positions_rise : (s i : ℕ) (es : List Edit) (rs : List Run) → RiseFrom s i es rs → IsStrictlySortedBy nat_cmp (positions_in es)
unfolding IsStrictlySortedBy
positions_rise s i [] rs h = tt
positions_rise s i (e ∷ es) rs h =
    let one : added e.is_new + hidden e.is_new ≡ 1 = parts e.is_new in (
      all_later e.at (s + added e.is_new) (e.from + hidden e.is_new) es rs h.3 (omega (arith, h.0)),
      positions_rise (s + added e.is_new) (e.from + hidden e.is_new) es rs h.3,
    )

-- ---- one edit more
-- it is there
pub positions_there : (k n : ℕ) (es : List Edit) → AreBelow k n es → IsEditOf k n es → positions_in es ≡ insert_key nat_cmp (positions_in es) n
positions_there k n [] b t = absurd (let c : ◌≡◌ {A = Option Edit} None (Some t.0) = t.1 in cc)
positions_there zero n (d ∷ ds) b t =
    let same : d ≡ t.0 = (let c : ◌≡◌ {A = Option Edit} (Some d) (Some t.0) = t.1 in cc) in
    sym (put_there n d.at (positions_in ds) (sym (ap (λ (x : Edit). x.at) same ∙ t.2)))
positions_there (suc k) n (d ∷ ds) b t = ap (λ ns. d.at ∷ ns) (positions_there k n ds b.1 (t.0, t.1, t.2)) ∙ sym (put_after n d.at (positions_in ds) b.0)

-- it hides a run
pub positions_made : (k n : ℕ) (e : Edit) (es : List Edit) → AreBelow k n es → AreFrom k (n + 1) es → e.at ≡ n → positions_in (insert es k e) ≡ insert_key nat_cmp (positions_in es) n
positions_made zero n e [] b f a = ap (λ (m : ℕ). m ∷ []) a
positions_made zero n e (d ∷ ds) b f a = ap (λ (m : ℕ). m ∷ d.at ∷ positions_in ds) a ∙ sym (put_before n d.at (positions_in ds) (omega (arith, f)))
positions_made (suc k) n e [] b f a = absurd b
positions_made (suc k) n e (d ∷ ds) b f a = ap (λ ns. d.at ∷ ns) (positions_made k n e ds b.1 f a) ∙ sym (put_after n d.at (positions_in ds) b.0)

-- it adds a run
all_shifted : (n s i : ℕ) (es : List Edit) (rs : List Run) → RiseFrom s i es rs → n ≤ i + s → positions_in (moved_from zero es) ≡ shifted_from n (positions_in es)
all_shifted n s i [] rs h l = refl
all_shifted n s i (e ∷ es) rs h l =
    ap (λ (b : Bool). cond b (e.at + 1) e.at ∷ positions_in (moved_from zero es)) (sym (le-leb n e.at (omega (arith, h.0, h.1))))
    ∙ ap (λ ns. cond (nat_le n e.at) (e.at + 1) e.at ∷ ns) (all_shifted n (s + added e.is_new) (e.from + hidden e.is_new) es rs h.3 (omega (arith, h.1)))

pub positions_added : (k n s i : ℕ) (e : Edit) (es : List Edit) (rs : List Run) → RiseFrom s i es rs → AreBelow k n es → AreFrom k n es → e.at ≡ n
    → positions_in (moved_from (suc k) (insert es k e)) ≡ touched_with n (positions_in es)
positions_added zero n s i e [] rs h b f a = ap (λ (m : ℕ). m ∷ []) a
positions_added zero n s i e (d ∷ ds) rs h b f a =
    let first : RiseFrom s d.from (d ∷ ds) rs = (h.0, omega arith, h.2, h.3) in
    ap (λ (m : ℕ). m ∷ positions_in (moved_from zero (d ∷ ds))) a
    ∙ sym (put_before n (d.at + 1) (positions_in (moved_from zero ds)) (omega (arith, f)))
    ∙ ap (λ ns. insert_key nat_cmp ns n) (all_shifted n s d.from (d ∷ ds) rs first (omega (arith, h.0, f)))
positions_added (suc k) n s i e [] rs h b f a = absurd b
positions_added (suc k) n s i e (d ∷ ds) rs h b f a =
    ap (λ ns. d.at ∷ ns) (positions_added k n (s + added d.is_new) (d.from + hidden d.is_new) e ds rs h.3 b.1 f a)
    ∙ sym (put_after n d.at (shifted_from n (positions_in ds)) b.0)
    ∙ ap (λ (c : Bool). insert_key nat_cmp (cond c (d.at + 1) d.at ∷ shifted_from n (positions_in ds)) n) (sym (lt-leb n d.at b.0))
