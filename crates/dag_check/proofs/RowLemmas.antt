-- The lists of downstreams, filled from those of upstreams.
use Rattle.std.proofs.Common.{◌≡◌, ◌≢◌, ◌∙◌, ℕ, zero, suc, ◌+◌, ◌<◌, Bool, true, false, cond, ◌==◌, ◌||◌, List, [], ◌∷◌, ◌++◌, append-nil, map, length, get_or, set, take, refl, ap, sym, subst, arith, inl, inr, Vec, Global}
use Rattle.std.proofs.lemmas.Bool.{cases_Bool, false≢true, or_left, or_right, or_parts, or_from, eq-eqb}
use Rattle.std.proofs.lemmas.Bool.Decides.{eqb_tells}
use Rattle.std.proofs.lemmas.List.{get_or-map}
use Rattle.std.proofs.lemmas.List.Folds.{list_any_more}
use Rattle.graph_file.specs.declared.task_specs.TaskSpec.{TaskSpec}
use Rattle.dag_check.specs.Orders.{is_in, repeated, edges_of, AllBelow, IsPlacement, place_in}
use Rattle.dag_check.specs.Names.{rows_of, IsPlain, NoneBelow}
use Rattle.dag_check.specs.Graphs.{passing, placed_rows}
use Rattle.dag_check.proofs.OrderLemmas.{or-false_right, or-true_right}
use Rattle.dag_check.proofs.LawLemmas.{at-place}
use Rattle.dag_check.proofs.NameLemmas.{length-map', repeated-at}
use Rattle.dag_check.proofs.PlainLemmas.{in-map, placed-down, rows-edges, rows-long}

set-same : (rows : List (Vec ℕ Global)) (i : ℕ) (v : Vec ℕ Global) → i < length rows → edges_of (set rows i v) i ≡ v.items
set-same [] i v below = absurd (omega arith)
set-same (r ∷ rs) zero v below = refl
set-same (r ∷ rs) (suc i) v below = set-same rs i v (omega arith)

set-other : (rows : List (Vec ℕ Global)) (i : ℕ) (v : Vec ℕ Global) (j : ℕ) → i ≢ j → edges_of (set rows i v) j ≡ edges_of rows j
set-other [] i v j apart = refl
set-other (r ∷ rs) zero v zero apart = absurd (apart refl)
set-other (r ∷ rs) zero v (suc j) apart = refl
set-other (r ∷ rs) (suc i) v zero apart = refl
set-other (r ∷ rs) (suc i) v (suc j) apart = set-other rs i v j (λ e. apart (ap suc e))

-- one upstream more has the place in its list
pub add-step : (found : List (Vec ℕ Global)) (was : ℕ → List ℕ) (ups : List ℕ) (t p : ℕ) (v : Vec ℕ Global) → t < length ups → get_or ups t 0 < length found → repeated ups ≡ false → v.items ≡ edges_of found (get_or ups t 0) ++ p ∷ [] → ((j : ℕ) → edges_of found j ≡ was j ++ cond (is_in (take t ups) j) (p ∷ []) []) → (j : ℕ) → edges_of (set found (get_or ups t 0) v) j ≡ was j ++ cond (is_in (take (t + 1) ups) j) (p ∷ []) []
add-step found was ups t p v below inside once put so_far j =
    let u = get_or ups t 0 in
    let more : is_in (take (t + 1) ups) j ≡ (is_in (take t ups) j || (u == j)) = list_any_more (λ z. z == j) ups t 0 below in
    elim (eqb_tells u j) [
      | inl e ↦
          let new : is_in (take t ups) u ≡ false = elim (cases_Bool (is_in (take t ups) u)) [ inl old ↦ absurd (false≢true (sym once ∙ repeated-at ups t below old)) | inr none ↦ none ] in
          let here : edges_of found u ≡ was u = so_far u ∙ (ap (λ (b : Bool). was u ++ cond b (p ∷ []) []) new ∙ append-nil (was u)) in
          let now : is_in (take (t + 1) ups) j ≡ true = more ∙ (ap (λ (b : Bool). is_in (take t ups) j || b) e.0 ∙ or-true_right (is_in (take t ups) j)) in
          ap (edges_of (set found u v)) (sym e.1) ∙ (set-same found u v inside ∙ (put ∙ (ap (λ (xs : List ℕ). xs ++ p ∷ []) here ∙ (ap (λ (k : ℕ). was k ++ p ∷ []) e.1 ∙ ap (λ (b : Bool). was j ++ cond b (p ∷ []) []) (sym now)))))
      | inr e ↦
          let same : is_in (take (t + 1) ups) j ≡ is_in (take t ups) j = more ∙ (ap (λ (b : Bool). is_in (take t ups) j || b) e.0 ∙ or-false_right (is_in (take t ups) j)) in
          set-other found u v j e.1 ∙ (so_far j ∙ ap (λ (b : Bool). was j ++ cond b (p ∷ []) []) (sym same))
    ]

pub passing-more : (p : ℕ → Bool) (n : ℕ) → passing p (n + 1) ≡ passing p n ++ cond (p n) (n ∷ []) []
passing-more p n = let e : n + 1 ≡ suc n = omega arith in rw e refl

-- what has nothing twice still has not after a mapping that keeps its elements apart
repeated-map : (f : ℕ → ℕ) (xs : List ℕ) → ((x y : ℕ) → is_in xs x ≡ true → is_in xs y ≡ true → f x ≡ f y → x ≡ y) → repeated xs ≡ false → repeated (map f xs) ≡ false
repeated-map f [] apart once = refl
repeated-map f (x ∷ xs) apart once =
    let both = or_parts (is_in xs x) (repeated xs) once in
    let here : is_in (x ∷ xs) x ≡ true = or_left (x == x) (is_in xs x) (eq-eqb x x refl) in
    let none : is_in (map f xs) (f x) ≡ false =
    elim (cases_Bool (is_in (map f xs) (f x))) [
      | inl there ↦
          let u = in-map f xs (f x) there in
          let same = apart u.0 x (or_right (x == u.0) (is_in xs u.0) u.1) here u.2 in
          absurd (false≢true (sym both.0 ∙ subst (λ (y : ℕ). is_in xs y ≡ true) same u.1))
      | inr none ↦ none
    ] in
    or_from (is_in (map f xs) (f x)) (repeated (map f xs)) none (repeated-map f xs (λ a b ha hb e. apart a b (or_right (x == a) (is_in xs a) ha) (or_right (x == b) (is_in xs b) hb) e) both.1)

pub placed-long : (up : ℕ → List ℕ) (n : ℕ) (order : List ℕ) (ups : List (Vec ℕ Global)) → IsPlacement up n order → map (λ r. r.items) ups ≡ placed_rows up order → length ups ≡ n
placed-long up n order ups h e =
    sym (length-map' (λ (r : Vec ℕ Global). r.items) ups) ∙ (ap length e ∙ (length-map' (λ p. map (place_in order) (up p)) order ∙ h.long))

pub placed-below : (up : ℕ → List ℕ) (n : ℕ) (order : List ℕ) (ups : List (Vec ℕ Global)) → IsPlacement up n order → map (λ r. r.items) ups ≡ placed_rows up order → AllBelow (edges_of ups) (length ups)
placed-below up n order ups h e i u below edge =
    let down = placed-down up n order h i u (ap (λ (rs : List (List ℕ)). is_in (get_or rs i []) u) (sym e) ∙ edge) in
    omega arith

pub placed-once : (up : ℕ → List ℕ) (n : ℕ) (order : List ℕ) (ups : List (Vec ℕ Global)) → IsPlacement up n order → map (λ r. r.items) ups ≡ placed_rows up order → AllBelow up n → NoneBelow (λ i. repeated (up i)) n → (k : ℕ) → k < length ups → repeated (edges_of ups k) ≡ false
placed-once up n order ups h e below once k inside =
    let l = placed-long up n order ups h e in
    let long = h.long in
    let row : edges_of ups k ≡ map (place_in order) (up (get_or order k 0)) =
    ap (λ (rs : List (List ℕ)). get_or rs k []) e ∙ get_or-map (λ p. map (place_in order) (up p)) order k 0 [] (omega arith) in
    let p = h.within k (omega arith) in
    ap repeated row
    ∙ repeated-map (place_in order) (up (get_or order k 0))
    (λ x y hx hy same.
    sym (at-place order x (h.whole x (below (get_or order k 0) x p hx)))
    ∙ (ap (λ (q : ℕ). get_or order q 0) same ∙ at-place order y (h.whole y (below (get_or order k 0) y p hy))))
    (once (get_or order k 0) p)

pub rows-once : (tasks : List TaskSpec) (rows : List (Vec ℕ Global)) → map (λ r. r.items) rows ≡ rows_of tasks → IsPlain tasks → NoneBelow (λ i. repeated (edges_of rows i)) (length rows)
rows-once tasks rows e plain i below =
    let l = rows-long tasks rows e in
    rows-edges tasks rows e plain.known i (omega arith) ∙ plain.edges i (omega arith)
