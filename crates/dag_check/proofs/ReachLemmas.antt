-- Marks of what a place reaches, one pass down or up.
use Rattle.std.proofs.Common.{get_or, set, take}
use Rattle.std.proofs.lemmas.List.Folds.{list_any_more}
use Rattle.std.proofs.Common.{◌≡◌, ℕ, ◌+◌, ◌<◌, ◌≤◌, Bool, true, false, ◌==◌, ◌||◌, List, length, ap, sym, ◌∙◌, arith, inl, inr, subst}
use Rattle.std.proofs.Math.Bool.{or_assoc}
use Rattle.std.proofs.lemmas.Bool.{cases_lt, eqb-true, false≢true, or_cases, or_left, or_right}
use Rattle.dag_check.specs.Reach.{IsClosed, LeadsDown, LeadsUp}
use Rattle.dag_check.specs.Orders.{is_in}
use Rattle.dag_check.specs.Searches.{marked}
use Rattle.dag_check.proofs.OrderLemmas.{marked-set}

-- the places from i on are done: what they lead to is marked
pub record IsMarking (next : ℕ → List ℕ) (x i : ℕ) (m : ℕ → Bool) : Type 0 where
  pub low : (j : ℕ) → m j ≡ true → j < x
  pub done : (j y : ℕ) → i ≤ j → (j == x) || m j ≡ true → is_in (next j) y ≡ true → m y ≡ true
  pub sound : (p : ℕ → Bool) → IsClosed next x p → (j : ℕ) → m j ≡ true → p j ≡ true

pub marking-on : (next : ℕ → List ℕ) (x i : ℕ) (m m' : ℕ → Bool) → LeadsDown next → i ≤ x → IsMarking next x (i + 1) m → (i == x) || m i ≡ true → ((y : ℕ) → m' y ≡ (m y || is_in (next i) y)) → IsMarking next x i m'
marking-on next x i m m' down within h on new = record {
  low = λ j marked.
      elim (or_cases (m j) (is_in (next i) j) (sym (new j) ∙ marked)) [ inl old ↦ h.low j old | inr edge ↦ let d = down i j edge in omega arith ];
  done = λ j y from on' edge.
      elim (cases_lt i j) [
        | inl above ↦
            let was : (j == x) || m j ≡ true =
            elim (or_cases (j == x) (m' j) on') [
              | inl start ↦ or_left (j == x) (m j) start
              | inr marked ↦ elim (or_cases (m j) (is_in (next i) j) (sym (new j) ∙ marked)) [ inl old ↦ or_right (j == x) (m j) old | inr lower ↦ let d = down i j lower in absurd (omega arith) ]
            ] in
            new y ∙ or_left (m y) _ (h.done j y (omega arith) was edge)
        | inr same ↦
            let e : j ≡ i = omega arith in
            new y ∙ or_right (m y) (is_in (next i) y) (subst (λ (k : ℕ). is_in (next k) y ≡ true) e edge)
      ];
  sound = λ p closed j marked.
      elim (or_cases (m j) (is_in (next i) j) (sym (new j) ∙ marked)) [
        | inl old ↦ h.sound p closed j old
        | inr edge ↦
            elim (or_cases (i == x) (m i) on) [
              | inl start ↦ closed.neighbours j (subst (λ (k : ℕ). is_in (next k) j ≡ true) (eqb-true i x start) edge)
              | inr marked' ↦ closed.edges i j (h.sound p closed i marked') edge
            ]
      ];
}

pub marks-more : (m m₀ : List Bool) (places : List ℕ) (i : ℕ) → i < length places → get_or places i 0 < length m → ((y : ℕ) → get_or m y false ≡ (get_or m₀ y false || is_in (take i places) y)) → (y : ℕ) → get_or (set m (get_or places i 0) true) y false ≡ (get_or m₀ y false || is_in (take (i + 1) places) y)
marks-more m m₀ places i below inside so_far y =
    marked-set m (get_or places i 0) y inside
    ∙ (ap (λ v. v || (get_or places i 0 == y)) (so_far y)
    ∙ (or_assoc (get_or m₀ y false) (is_in (take i places) y) (get_or places i 0 == y)
    ∙ ap (λ v. get_or m₀ y false || v) (sym (list_any_more (λ z. z == y) places i 0 below))))

-- the same where each edge leads up: the places below i are done
pub record IsMarkingUp (next : ℕ → List ℕ) (x i : ℕ) (m : ℕ → Bool) : Type 0 where
  pub high : (j : ℕ) → m j ≡ true → x < j
  pub done : (j y : ℕ) → j < i → (j == x) || m j ≡ true → is_in (next j) y ≡ true → m y ≡ true
  pub sound : (p : ℕ → Bool) → IsClosed next x p → (j : ℕ) → m j ≡ true → p j ≡ true

pub up-off : (next : ℕ → List ℕ) (x i : ℕ) (m : ℕ → Bool) → IsMarkingUp next x i m → (i == x) || m i ≡ false → IsMarkingUp next x (i + 1) m
up-off next x i m h off = record {
  high = h.high;
  done = λ j y from on edge.
      elim (cases_lt j i) [
        | inl below ↦ h.done j y below on edge
        | inr same ↦ let e : j ≡ i = omega arith in absurd (false≢true (sym off ∙ subst (λ (k : ℕ). ((k == x) || m k) ≡ true) e on))
      ];
  sound = h.sound;
}

pub up-on : (next : ℕ → List ℕ) (x i n : ℕ) (m m' : ℕ → Bool) → LeadsUp next n → x ≤ i → IsMarkingUp next x i m → (i == x) || m i ≡ true → ((y : ℕ) → m' y ≡ (m y || is_in (next i) y)) → IsMarkingUp next x (i + 1) m'
up-on next x i n m m' up within h on new = record {
  high = λ j marked.
      elim (or_cases (m j) (is_in (next i) j) (sym (new j) ∙ marked)) [ inl old ↦ h.high j old | inr edge ↦ let d = (up i j edge).0 in omega arith ];
  done = λ j y from on' edge.
      elim (cases_lt j i) [
        | inl below ↦
            let was : (j == x) || m j ≡ true =
            elim (or_cases (j == x) (m' j) on') [
              | inl start ↦ or_left (j == x) (m j) start
              | inr marked ↦ elim (or_cases (m j) (is_in (next i) j) (sym (new j) ∙ marked)) [ inl old ↦ or_right (j == x) (m j) old | inr upper ↦ let d = (up i j upper).0 in absurd (omega arith) ]
            ] in
            new y ∙ or_left (m y) _ (h.done j y below was edge)
        | inr same ↦
            let e : j ≡ i = omega arith in
            new y ∙ or_right (m y) (is_in (next i) y) (subst (λ (k : ℕ). is_in (next k) y ≡ true) e edge)
      ];
  sound = λ p closed j marked.
      elim (or_cases (m j) (is_in (next i) j) (sym (new j) ∙ marked)) [
        | inl old ↦ h.sound p closed j old
        | inr edge ↦
            elim (or_cases (i == x) (m i) on) [
              | inl start ↦ closed.neighbours j (subst (λ (k : ℕ). is_in (next k) j ≡ true) (eqb-true i x start) edge)
              | inr marked' ↦ closed.edges i j (h.sound p closed i marked') edge
            ]
      ];
}
