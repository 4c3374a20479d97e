-- From names to positions, and from positions to places.
use Rattle.std.proofs.Common.{◌≡◌, ◌∙◌, ℕ, zero, suc, ◌+◌, ◌<◌, ◌≤◌, Bool, true, false, not, ◌==◌, List, [], ◌∷◌, map, length, get_or, set, take, refl, ap, sym, subst, arith, inl, inr, Vec, Global, get_or-set_same, get_or-set_other, subst₂}
use Rattle.std.proofs.lemmas.Bool.{cases_lt, cases_Bool, false≢true, or_cases, or_left, or_right, or_parts, eqb-true, ne_eqb, eq-eqb, not-false, not-true, and_parts, and_from}
use Rattle.std.proofs.lemmas.List.{get_or-map}
use Rattle.std.proofs.lemmas.List.Folds.{list_any_more}
use Rattle.std.specs.List.{list_any, position_or_len}
use Rattle.graph_file.specs.declared.task_specs.TaskSpec.{TaskSpec}
use Rattle.dag_check.specs.Orders.{is_in, edges_of, AllBelow, place_in, IsPlacement, repeated}
use Rattle.dag_check.specs.Names.{Name, same, has, ids_of, named_by, repeats, is_unknown, is_double_edge, position_of, rows_of, up_of, NoneBelow, FirstBelow}
use Rattle.dag_check.specs.Graphs.{placed_rows}
use Rattle.dag_check.specs.Reach.{LeadsDown}
use Rattle.dag_check.proofs.LawLemmas.{upstream-before}
use Rattle.dag_check.proofs.NameLemmas.{length-map'}

-- names

pub same-true : (a b : Name) → same a b ≡ true → a ≡ b
same-true [] [] h = refl
same-true [] (y ∷ b) h = absurd (false≢true h)
same-true (x ∷ a) [] h = absurd (false≢true h)
same-true (x ∷ a) (y ∷ b) h =
    let both = and_parts (x == y) (same a b) h in
    let e = eqb-true x y both.0 in
    let r = same-true a b both.1 in
    cc

pub same-refl : (a : Name) → same a a ≡ true
same-refl [] = refl
same-refl (x ∷ a) = and_from (x == x) (same a a) (eq-eqb x x refl) (same-refl a)

-- the first that passes
pub found-within : (p : Name → Bool) (xs : List Name) → list_any p xs ≡ true → position_or_len p xs < length xs
found-within p [] h = absurd (false≢true h)
found-within p (x ∷ xs) h =
    elim (cases_Bool (p x)) [
      | inl here ↦ rw here (omega arith)
      | inr other ↦ rw other (let l = found-within p xs (rw other at h) in omega arith)
    ]

pub found-passes : (p : Name → Bool) (xs : List Name) → list_any p xs ≡ true → p (get_or xs (position_or_len p xs) []) ≡ true
found-passes p [] h = absurd (false≢true h)
found-passes p (x ∷ xs) h =
    elim (cases_Bool (p x)) [
      | inl here ↦ rw here here
      | inr other ↦ let e : 1 + position_or_len p xs ≡ suc (position_or_len p xs) = omega arith in rw (other, e) (found-passes p xs (rw other at h))
    ]

known : (ids : List Name) (q : Name) (qs : List Name) → list_any (λ q. not (has ids q)) (q ∷ qs) ≡ false → (has ids q ≡ true) × (list_any (λ q. not (has ids q)) qs ≡ false)
known ids q qs h = let both = or_parts (not (has ids q)) (list_any (λ q. not (has ids q)) qs) h in (not-false (has ids q) both.0, both.1)

row-below : (ids : List Name) (qs : List Name) (u : ℕ) → list_any (λ q. not (has ids q)) qs ≡ false → is_in (map (position_of ids) qs) u ≡ true → u < length ids
row-below ids [] u all there = absurd (false≢true there)
row-below ids (q ∷ qs) u all there =
    let k = known ids q qs all in
    elim (or_cases (position_of ids q == u) (is_in (map (position_of ids) qs) u) there) [
      | inl here ↦ subst (λ (n : ℕ). n < length ids) (eqb-true (position_of ids q) u here) (found-within (same q) ids k.0)
      | inr rest ↦ row-below ids qs u k.1 rest
    ]

-- two known names have one position only where they are one
one-position : (ids : List Name) (q r : Name) → has ids q ≡ true → has ids r ≡ true → position_of ids q ≡ position_of ids r → q ≡ r
one-position ids q r hq hr e =
    let a = same-true q _ (found-passes (same q) ids hq) in
    let b = same-true r _ (found-passes (same r) ids hr) in
    a ∙ (ap (λ (n : ℕ). get_or ids n []) e ∙ sym b)

same-row : (ids : List Name) (q : Name) (qs : List Name) → has ids q ≡ true → list_any (λ q. not (has ids q)) qs ≡ false → is_in (map (position_of ids) qs) (position_of ids q) ≡ has qs q
same-row ids q [] hq all = refl
same-row ids q (r ∷ qs) hq all =
    let k = known ids r qs all in
    let rest = same-row ids q qs hq k.1 in
    elim (cases_Bool (same q r)) [
      | inl e ↦ let same-place : (position_of ids r == position_of ids q) ≡ true = eq-eqb _ _ (ap (position_of ids) (sym (same-true q r e))) in rw (e, same-place) refl
      | inr other ↦
          let apart : (position_of ids r == position_of ids q) ≡ false =
          ne_eqb _ _ (λ p. false≢true (sym other ∙ subst (λ (x : Name). same q x ≡ true) (one-position ids q r hq k.0 (sym p)) (same-refl q))) in
          rw (other, apart) rest
    ]

repeats-same : (ids : List Name) (qs : List Name) → list_any (λ q. not (has ids q)) qs ≡ false → repeated (map (position_of ids) qs) ≡ repeats qs
repeats-same ids [] all = refl
repeats-same ids (q ∷ qs) all =
    let k = known ids q qs all in
    let here = same-row ids q qs k.0 k.1 in
    let rest = repeats-same ids qs k.1 in
    rw (here, rest) refl

up-at : (tasks : List TaskSpec) (i : ℕ) → i < length tasks → up_of tasks i ≡ map (position_of (ids_of tasks)) (get_or (named_by tasks) i [])
up-at tasks i below = let long = length-map' (λ (t : TaskSpec). t.upstream) tasks in get_or-map (map (position_of (ids_of tasks))) (named_by tasks) i [] [] (omega arith)

pub all-below : (tasks : List TaskSpec) → NoneBelow (is_unknown tasks) (length tasks) → AllBelow (up_of tasks) (length tasks)
all-below tasks none i u below edge =
    let long = length-map' (λ (t : TaskSpec). t.task_id) tasks in
    let l = row-below (ids_of tasks) (get_or (named_by tasks) i []) u (none i below) (ap (λ (ys : List ℕ). is_in ys u) (sym (up-at tasks i below)) ∙ edge) in
    omega arith

pub double-same : (tasks : List TaskSpec) → NoneBelow (is_unknown tasks) (length tasks) → (i : ℕ) → i < length tasks → repeated (up_of tasks i) ≡ is_double_edge tasks i
double-same tasks none i below = ap repeated (up-at tasks i below) ∙ repeats-same (ids_of tasks) (get_or (named_by tasks) i []) (none i below)

pub rows-up : (tasks : List TaskSpec) (rows : List (Vec ℕ Global)) → map (λ r. r.items) rows ≡ rows_of tasks → edges_of rows ≡ up_of tasks
rows-up tasks rows e = ap (λ (xs : List (List ℕ)). λ (i : ℕ). get_or xs i []) e

-- numbers

pub place-at : (xs : List ℕ) (k : ℕ) → k < length xs → is_in (take k xs) (get_or xs k 0) ≡ false → place_in xs (get_or xs k 0) ≡ k
place-at [] k below once = absurd (omega arith)
place-at (x ∷ xs) zero below once = let e = eq-eqb x x refl in rw e refl
place-at (x ∷ xs) (suc k) below once =
    let both = or_parts (x == get_or xs k 0) (is_in (take k xs) (get_or xs k 0)) once in
    let rest = place-at xs k (omega arith) both.1 in
    rw both.0 (omega (arith, rest))

pub places-step : (order ps : List ℕ) (k : ℕ) → k < length order → get_or order k 0 < length ps → is_in (take k order) (get_or order k 0) ≡ false → ((y : ℕ) → is_in (take k order) y ≡ true → get_or ps y 0 ≡ place_in order y) → (y : ℕ) → is_in (take (k + 1) order) y ≡ true → get_or (set ps (get_or order k 0) k) y 0 ≡ place_in order y
places-step order ps k below inside once so_far y there =
    elim (or_cases (is_in (take k order) y) (get_or order k 0 == y) (sym (list_any_more (λ z. z == y) order k 0 below) ∙ there)) [
      | inl old ↦ get_or-set_other ps (get_or order k 0) y k 0 (λ e. false≢true (sym once ∙ subst (λ (x : ℕ). is_in (take k order) x ≡ true) e old)) ∙ so_far y old
      | inr new ↦
          let e = eqb-true (get_or order k 0) y new in
          subst (λ (x : ℕ). get_or (set ps (get_or order k 0) k) x 0 ≡ place_in order x) e (get_or-set_same ps (get_or order k 0) k 0 inside ∙ sym (place-at order k below once))
    ]

pub map-in : (f g : ℕ → ℕ) (xs : List ℕ) → ((y : ℕ) → is_in xs y ≡ true → f y ≡ g y) → map f xs ≡ map g xs
map-in f g [] all = refl
map-in f g (x ∷ xs) all =
    let here = all x (or_left (x == x) (is_in xs x) (eq-eqb x x refl)) in
    let rest = map-in f g xs (λ y h. all y (or_right (x == y) (is_in xs y) h)) in
    rw (here, rest) refl

-- an element of a mapped list
pub in-map : (f : ℕ → ℕ) (xs : List ℕ) (y : ℕ) → is_in (map f xs) y ≡ true → (u : ℕ) × (is_in xs u ≡ true) × (f u ≡ y)
in-map f [] y there = absurd (false≢true there)
in-map f (x ∷ xs) y there =
    elim (or_cases (f x == y) (is_in (map f xs) y) there) [
      | inl here ↦ (x, or_left (x == x) (is_in xs x) (eq-eqb x x refl), eqb-true (f x) y here)
      | inr rest ↦ let r = in-map f xs y rest in (r.0, or_right (x == r.0) (is_in xs r.0) r.1, r.2)
    ]

pub once-in : (up : ℕ → List ℕ) (n : ℕ) (order : List ℕ) → IsPlacement up n order → (k : ℕ) → k < n → is_in (take k order) (get_or order k 0) ≡ false
once-in up n order h k below = not-true _ (and_parts (not (is_in (take k order) (get_or order k 0))) _ (h.first k below).passes).0

-- by place, each edge leads down
pub placed-down : (up : ℕ → List ℕ) (n : ℕ) (order : List ℕ) → IsPlacement up n order → LeadsDown (λ k. get_or (placed_rows up order) k [])
placed-down up n order h k y edge =
    let long = h.long in
    elim (cases_lt k (length order)) [
      | inl below ↦
          let row : get_or (placed_rows up order) k [] ≡ map (place_in order) (up (get_or order k 0)) = get_or-map (λ p. map (place_in order) (up p)) order k 0 [] below in
          let u = in-map (place_in order) (up (get_or order k 0)) y (ap (λ (ys : List ℕ). is_in ys y) (sym row) ∙ edge) in
          let less = upstream-before up n order h (get_or order k 0) u.0 (h.within k (omega arith)) u.1 in
          let here = place-at order k below (once-in up n order h k (omega arith)) in
          let to = u.2 in
          omega arith
      | inr past ↦
          let long' = length-map' (λ p. map (place_in order) (up p)) order in
          absurd (false≢true (sym (ap (λ (ys : List ℕ). is_in ys y) (past-end (placed_rows up order) k (omega arith))) ∙ edge))
    ]
  where
    past-end : (xs : List (List ℕ)) (k : ℕ) → length xs ≤ k → get_or xs k [] ≡ []
    past-end [] k above = refl
    past-end (x ∷ xs) zero above = absurd (omega arith)
    past-end (x ∷ xs) (suc k) above = past-end xs k (omega arith)

-- the rows that names give
pub rows-long : (tasks : List TaskSpec) (rows : List (Vec ℕ Global)) → map (λ r. r.items) rows ≡ rows_of tasks → length rows ≡ length tasks
rows-long tasks rows e =
    sym (length-map' (λ (r : Vec ℕ Global). r.items) rows) ∙ (ap length e ∙ (length-map' (map (position_of (ids_of tasks))) (named_by tasks) ∙ length-map' (λ (t : TaskSpec). t.upstream) tasks))

pub rows-below : (tasks : List TaskSpec) (rows : List (Vec ℕ Global)) → map (λ r. r.items) rows ≡ rows_of tasks → NoneBelow (is_unknown tasks) (length tasks) → AllBelow (edges_of rows) (length rows)
rows-below tasks rows e none = subst₂ (λ (up : ℕ → List ℕ) (n : ℕ). AllBelow up n) (sym (rows-up tasks rows e)) (sym (rows-long tasks rows e)) (all-below tasks none)

pub rows-edges : (tasks : List TaskSpec) (rows : List (Vec ℕ Global)) → map (λ r. r.items) rows ≡ rows_of tasks → NoneBelow (is_unknown tasks) (length tasks) → (i : ℕ) → i < length tasks → repeated (edges_of rows i) ≡ is_double_edge tasks i
rows-edges tasks rows e none i below = ap (λ (up : ℕ → List ℕ). repeated (up i)) (rows-up tasks rows e) ∙ double-same tasks none i below

pub none-double : (tasks : List TaskSpec) (rows : List (Vec ℕ Global)) → map (λ r. r.items) rows ≡ rows_of tasks → NoneBelow (is_unknown tasks) (length tasks) → NoneBelow (λ i. repeated (edges_of rows i)) (length rows) → NoneBelow (is_double_edge tasks) (length tasks)
none-double tasks rows e none once i below = sym (rows-edges tasks rows e none i below) ∙ once i (let l = rows-long tasks rows e in omega arith)

pub first-double : (tasks : List TaskSpec) (rows : List (Vec ℕ Global)) (i : ℕ) → map (λ r. r.items) rows ≡ rows_of tasks → NoneBelow (is_unknown tasks) (length tasks) → FirstBelow (λ i. repeated (edges_of rows i)) (length rows) i → FirstBelow (is_double_edge tasks) (length tasks) i
first-double tasks rows i e none first =
    let l = rows-long tasks rows e in
    let inside = first.0 in (
      omega arith,
      record {
        passes = sym (rows-edges tasks rows e none i (omega arith)) ∙ first.1.passes;
        before = λ j less. sym (rows-edges tasks rows e none j (omega arith)) ∙ first.1.before j less;
      },
    )
