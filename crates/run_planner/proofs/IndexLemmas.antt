use Rattle.std.proofs.Common.{subst, nat_cmp}
use Rattle.std.proofs.lemmas.List.Sorted.{searched, IsNonDecreasingBy-insert}
use Rattle.std.specs.List.Sorted.{IsBinarySearchResult, IsNonDecreasingBy}
use Rattle.std.proofs.Common.{◌≡◌, ◌≢◌, ◌||◌, ℕ, ◌<◌, ◌≤◌, Bool, true, false, List, [], ◌∷◌, length, get_or, take, drop, Result, Ok, Err, eqb, MatchResult, refl, ap, sym, ◌∙◌, arith, inl, inr, suc}
use Rattle.std.proofs.lemmas.Bool.{eq-eqb, eqb-true, cases_lt}
use Rattle.std.proofs.lemmas.Bool.Decides.{eqb_tells}
use Rattle.std.proofs.lemmas.List.{take-append-drop, get_or_default}
use Rattle.std.proofs.lemmas.List.Folds.{list_any_at, list_any-append}
use Rattle.std.specs.List.{list_any, insert}
use Rattle.std.specs.Result.{is_ok}
use Rattle.graph_file.proofs.ListLemmas.{or_swap}

-- what a binary search in rising numbers says of a place
abbrev pub Found : List ℕ → ℕ → Result ℕ ℕ → Type 0
Found xs x r = MatchResult r (λ i. (i < length xs) × (get_or xs i 0 ≡ x)) (λ i. (i ≤ length xs) × ((k : ℕ) → k < i → get_or xs k 0 < x) × ((k : ℕ) → i ≤ k → k < length xs → x < get_or xs k 0))

other : (a b : ℕ) → a ≢ b → eqb a b ≡ false
other a b h = elim (eqb_tells a b) [ inl e ↦ absurd (h e.1) | inr e ↦ e.0 ]

none-differs : (xs : List ℕ) (x : ℕ) → ((k : ℕ) → k < length xs → get_or xs k 0 ≢ x) → list_any (λ y. eqb y x) xs ≡ false
none-differs [] x h = refl
none-differs (y ∷ ys) x h =
    ap (λ b. b || list_any (λ z. eqb z x) ys) (other y x (h 0 (omega arith))) ∙ none-differs ys x (λ k below. h (suc k) (omega arith))

pub found-any : (xs : List ℕ) (x : ℕ) (r : Result ℕ ℕ) → Found xs x r → is_ok r ≡ list_any (λ y. eqb y x) xs
found-any xs x (Ok i) h = sym (list_any_at (λ y. eqb y x) xs i 0 h.0 (eq-eqb _ _ h.1))
found-any xs x (Err i) h =
    sym (none-differs xs x (λ k below e. elim (cases_lt k i) [ inl low ↦ absurd (omega (arith, h.1 k low)) | inr high ↦ absurd (omega (arith, h.2 k high below)) ]))

either-same : (b : Bool) (v : Bool) → (b ≡ true → v ≡ true) → v ≡ (b || v)
either-same true v h = h refl
either-same false v h = refl

-- to add what is there changes nothing
pub added-there : (xs : List ℕ) (x m i : ℕ) → i < length xs → get_or xs i 0 ≡ x → list_any (λ y. eqb y m) xs ≡ (eqb x m || list_any (λ y. eqb y m) xs)
added-there xs x m i below at =
    either-same (eqb x m) _ (λ e. list_any_at (λ y. eqb y m) xs i 0 below (eq-eqb _ _ (at ∙ eqb-true x m e)))

pub added-new : (xs : List ℕ) (x m i : ℕ) → list_any (λ y. eqb y m) (insert xs i x) ≡ (eqb x m || list_any (λ y. eqb y m) xs)
added-new xs x m i =
    list_any-append (λ y. eqb y m) (take i xs) (x ∷ drop i xs)
    ∙ (or_swap (list_any (λ y. eqb y m) (take i xs)) (eqb x m) (list_any (λ y. eqb y m) (drop i xs))
    ∙ ap (λ v. eqb x m || v) (sym (list_any-append (λ y. eqb y m) (take i xs) (drop i xs)) ∙ ap (list_any (λ y. eqb y m)) (take-append-drop i xs)))

-- the search of `ys`, which are `xs`
pub place : (xs ys : List ℕ) (y : ℕ) (r : Result ℕ ℕ) → ys ≡ xs → IsBinarySearchResult (λ z. nat_cmp z y) ys r → IsNonDecreasingBy (λ z. z) xs → Found ys y r
place xs ys y r same found rises =
    let there : IsNonDecreasingBy (λ z. z) ys = subst (λ (l : List ℕ). IsNonDecreasingBy (λ z. z) l) (sym same) rises in
    searched ys y r found (λ i j le below. there i j 0 le below)

pub rises-insert : (xs ys : List ℕ) (x i : ℕ) → ys ≡ xs → IsNonDecreasingBy (λ z. z) xs → Found ys x (Err i) → IsNonDecreasingBy (λ z. z) (insert xs i x)
rises-insert xs ys x i same rises h =
    let h' : Found xs x (Err i) = subst (λ (l : List ℕ). Found l x (Err i)) same h in
    IsNonDecreasingBy-insert (λ z. z) xs i x rises h'.0
    (λ k d below. let e : get_or xs k d ≡ get_or xs k 0 = get_or_default xs k d 0 (omega (arith, h'.0)) in omega (arith, h'.1 k below, e))
    (λ k d from below. let e : get_or xs k d ≡ get_or xs k 0 = get_or_default xs k d 0 below in omega (arith, h'.2 k from below, e))
