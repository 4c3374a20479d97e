-- Marks, counts of what fails, and the order as far as it stands.
use Rattle.std.proofs.Common.{◌≡◌, ◌∙◌, ℕ, zero, suc, ◌+◌, ◌<◌, Bool, true, false, not, cond, ◌==◌, ◌||◌, List, [], ◌∷◌, ◌++◌, length, get_or, set, take, replicate, refl, ap, sym, subst, arith, inl, inr, length-append, Vec, Global}
use Rattle.std.proofs.Common.{get_or-set_same, get_or-set_other, get_or-append-add}
use Rattle.std.proofs.lemmas.Bool.{cases_lt, cases_Bool, eq-eqb, ne_eqb, and_parts, not-true}
use Rattle.std.proofs.lemmas.Bool.Decides.{eqb_tells}
use Rattle.std.proofs.lemmas.List.{get_or-map, take-append-le, take_all}
use Rattle.std.proofs.lemmas.List.Folds.{list_any_at, list_any-append}
use Rattle.std.specs.List.{list_all}
use lib.ListN.{get_or-append}
use mathlib.Core.Path.{fun_ext}
use Rattle.dag_check.specs.Orders.{is_in, edges_of, IsFirst, may_come, IsPlacement}
use Rattle.dag_check.specs.Searches.{failing, marked}

-- reading

pub in-at : (places : List ℕ) (i : ℕ) → i < length places → is_in places (get_or places i 0) ≡ true
in-at places i below = list_any_at (λ z. z == get_or places i 0) places i 0 below (eq-eqb _ _ refl)

pub at_row : (rows : List (Vec ℕ Global)) (i : ℕ) (v : Vec ℕ Global) → i < length rows → v ≡ get_or rows i v → edges_of rows i ≡ v.items
at_row rows i v below is = get_or-map (λ v. v.items) rows i v [] below ∙ ap (λ (w : Vec ℕ Global). w.items) (sym is)

pub or-false_right : (a : Bool) → (a || false) ≡ a
or-false_right true = refl
or-false_right false = refl

pub or-true_right : (a : Bool) → (a || true) ≡ true
or-true_right true = refl
or-true_right false = refl

-- one more

pub in-push : (w : List ℕ) (x y : ℕ) → is_in (w ++ x ∷ []) y ≡ (is_in w y || (x == y))
in-push w x y = list_any-append (λ z. z == y) w (x ∷ []) ∙ ap (λ b. is_in w y || b) (or-false_right (x == y))

pub get-push_old : (w : List ℕ) (x k : ℕ) → k < length w → get_or (w ++ x ∷ []) k 0 ≡ get_or w k 0
get-push_old w x k below = get_or-append w (x ∷ []) 0 k below

pub get-push_new : (w : List ℕ) (x : ℕ) → get_or (w ++ x ∷ []) (length w) 0 ≡ x
get-push_new w x = let e : length w + 0 ≡ length w = omega arith in subst (λ (k : ℕ). get_or (w ++ x ∷ []) k 0 ≡ x) e (get_or-append-add w (x ∷ []) 0 0)

pub length-push : (w : List ℕ) (x : ℕ) → length (w ++ x ∷ []) ≡ length w + 1
length-push w x = length-append w (x ∷ [])

-- a write of `true` marks one place more
pub marked-set : (m : List Bool) (p y : ℕ) → p < length m → marked (set m p true) y ≡ (marked m y || (p == y))
marked-set m p y inside =
    elim (eqb_tells p y) [
      | inl e ↦
          ap (λ k. get_or (set m p true) k false) (sym e.1)
          ∙ (get_or-set_same m p true false inside ∙ sym (ap (λ v. get_or m y false || v) e.0 ∙ or-true_right (get_or m y false)))
      | inr e ↦ get_or-set_other m p y true false (λ q. e.1 (sym q)) ∙ sym (ap (λ v. get_or m y false || v) e.0 ∙ or-false_right (get_or m y false))
    ]

pub marked-none : (n y : ℕ) → marked (replicate n false) y ≡ false
marked-none zero y = refl
marked-none (suc n) zero = refl
marked-none (suc n) (suc y) = marked-none n y

-- counting what fails

failing-same : (p q : ℕ → Bool) (n : ℕ) → ((y : ℕ) → y < n → q y ≡ p y) → failing q n ≡ failing p n
failing-same p q zero same = refl
failing-same p q (suc n) same =
    let here = same n (omega arith) in
    let rest = failing-same p q n (λ y h. same y (omega arith)) in
    rw (here, rest) refl

pub failing-fall : (p q : ℕ → Bool) (u n : ℕ) → u < n → p u ≡ false → ((y : ℕ) → q y ≡ (p y || (u == y))) → failing q n + 1 ≡ failing p n
failing-fall p q u zero below off more = absurd (omega arith)
failing-fall p q u (suc n) below off more =
    elim (cases_lt u n) [
      | inl lower ↦
          let rest = failing-fall p q u n lower off more in
          let apart : (u == n) ≡ false = ne_eqb u n (λ e. absurd (omega (arith, e))) in
          let here : q n ≡ p n = more n ∙ (ap (λ b. p n || b) apart ∙ or-false_right (p n)) in
          rw here (omega (arith, rest))
      | inr above ↦
          let e : n ≡ u = omega arith in
          let here : q n ≡ true = more n ∙ (ap (λ b. p n || b) (eq-eqb u n (sym e)) ∙ or-true_right (p n)) in
          let was : p n ≡ false = ap p e ∙ off in
          let rest = failing-same p q n (λ y h. more y ∙ (ap (λ b. p y || b) (ne_eqb u y (λ d. absurd (omega (arith, d)))) ∙ or-false_right (p y))) in
          rw (here, was) (omega (arith, rest))
    ]

pub failing-none : (p : ℕ → Bool) (n : ℕ) → failing p n ≡ 0 → (i : ℕ) → i < n → p i ≡ true
failing-none p zero none i below = absurd (omega arith)
failing-none p (suc n) none i below =
    elim (cases_Bool (p n)) [
      | inl yes' ↦
          elim (cases_lt i n) [
            | inl lower ↦ failing-none p n (omega arith) i lower
            | inr same ↦ let e : i ≡ n = omega arith in ap p e ∙ yes'
          ]
      | inr off ↦ let none' : failing p n + (cond (p n) 0 1) ≡ 0 = none in absurd (omega (arith, rw off at none'))
    ]

pub failing-all : (p : ℕ → Bool) (n : ℕ) → ((y : ℕ) → p y ≡ false) → failing p n ≡ n
failing-all p zero off = refl
failing-all p (suc n) off = let here = off n in let rest = failing-all p n off in rw here (omega arith)

-- the order so far, and the marks of what stands in it
pub record IsPartial (up : ℕ → List ℕ) (n : ℕ) (order : List ℕ) (m : ℕ → Bool) : Type 0 where
  pub within : (k : ℕ) → k < length order → get_or order k 0 < n
  pub first : (k : ℕ) → k < length order → IsFirst (may_come up (is_in (take k order))) (get_or order k 0)
  pub marks : (y : ℕ) → m y ≡ is_in order y
  pub count : failing m n + length order ≡ n

pub partial-start : (up : ℕ → List ℕ) (n : ℕ) (m : ℕ → Bool) → ((y : ℕ) → m y ≡ false) → IsPartial up n [] m
partial-start up n m off = record {
  within = λ k below. absurd (omega arith);
  first = λ k below. absurd (omega arith);
  marks = off;
  count = let e = failing-all m n off in omega arith;
}

pub partial-more : (up : ℕ → List ℕ) (n : ℕ) (order : List ℕ) (m m' : ℕ → Bool) (i : ℕ) → IsPartial up n order m → i < n → IsFirst (may_come up m) i → ((y : ℕ) → m' y ≡ (m y || (i == y))) → IsPartial up n (order ++ i ∷ []) m'
partial-more up n order m m' i h below first new =
    let long = length-push order i in
    record {
      within = λ k inside.
          elim (cases_lt k (length order)) [
            | inl old ↦ let e = get-push_old order i k old in let w = h.within k old in omega arith
            | inr last ↦ let same : k ≡ length order = omega arith in rw same (let e = get-push_new order i in omega arith)
          ];
      first = λ k inside.
          elim (cases_lt k (length order)) [
            | inl old ↦
                subst₂' k (take-append-le k order (i ∷ []) (omega arith)) (get-push_old order i k old) (h.first k old)
            | inr last ↦
                let same : length order ≡ k = omega arith in
                subst (λ (j : ℕ). IsFirst (may_come up (is_in (take j (order ++ i ∷ [])))) (get_or (order ++ i ∷ []) j 0)) same
                (subst₂' (length order) (take-append-le (length order) order (i ∷ []) (omega arith) ∙ take_all (length order) order (omega arith)) (get-push_new order i)
                (subst (λ (p : ℕ → Bool). IsFirst (may_come up p) i) (fun_ext (λ y. h.marks y)) first))
          ];
      marks = λ y. new y ∙ (ap (λ b. b || (i == y)) (h.marks y) ∙ sym (in-push order i y));
      count =
          let off = not-true (m i) (and_parts (not (m i)) (list_all m (up i)) first.passes).0 in
          let fall = failing-fall m m' i n below off new in
          let c = h.count in
          omega arith;
    }
  where
    subst₂' : (k : ℕ) {xs ys : List ℕ} {a b : ℕ} → ys ≡ xs → b ≡ a → IsFirst (may_come up (is_in xs)) a → IsFirst (may_come up (is_in ys)) b
    subst₂' k e f h = rw (e, f) h

pub partial-end : (up : ℕ → List ℕ) (n : ℕ) (order : List ℕ) (m : ℕ → Bool) → IsPartial up n order m → length order ≡ n → IsPlacement up n order
partial-end up n order m h long = record {
  long = long;
  within = λ k below. h.within k (omega arith);
  first = λ k below. h.first k (omega arith);
  whole = λ i below. sym (h.marks i) ∙ failing-none m n (let c = h.count in omega arith) i below;
}
