-- Names and rows of a file, one task more at a time.
use Rattle.std.proofs.Common.{◌≡◌, ◌∙◌, ℕ, zero, suc, ◌+◌, ◌<◌, true, false, cond, ◌==◌, List, [], ◌∷◌, ◌++◌, map, length, get_or, take, refl, ap, sym, subst, arith, inl, inr, Vec, Global}
use Rattle.std.proofs.lemmas.Bool.{cond-false, false≢true, or_cases, or_left, or_right, or_parts, or_from, eqb-true, ne_eqb, eq-eqb}
use Rattle.std.proofs.lemmas.List.{get_or-map, take_more, map-append}
use Rattle.graph_file.specs.declared.task_specs.TaskSpec.{TaskSpec}
use Rattle.dag_check.specs.Orders.{is_in, repeated}
use Rattle.dag_check.proofs.OrderLemmas.{in-at, in-push}
use Rattle.dag_check.specs.Names.{Name, has, ids_of, named_by, is_double, position_of, rows_of}

pub id-at : (tasks : List TaskSpec) (i : ℕ) (t : TaskSpec) → i < length tasks → t ≡ get_or tasks i t → get_or (ids_of tasks) i [] ≡ t.task_id
id-at tasks i t below is = get_or-map (λ t. t.task_id) tasks i t [] below ∙ ap (λ (w : TaskSpec). w.task_id) (sym is)

pub names-at : (tasks : List TaskSpec) (i : ℕ) (t : TaskSpec) → i < length tasks → t ≡ get_or tasks i t → get_or (named_by tasks) i [] ≡ t.upstream
names-at tasks i t below is = get_or-map (λ t. t.upstream) tasks i t [] below ∙ ap (λ (w : TaskSpec). w.upstream) (sym is)

pub length-map' : {X Y : Type 0} (f : X → Y) (xs : List X) → length (map f xs) ≡ length xs
length-map' f [] = refl
length-map' f (x ∷ xs) = let rest = length-map' f xs in ap suc rest

-- one more
pub ids-more : (tasks : List TaskSpec) (i : ℕ) (t : TaskSpec) (ks ks' : List Name) (id : Name) → i < length tasks → t ≡ get_or tasks i t → ks ≡ take i (ids_of tasks) → id ≡ t.task_id → has ks id ≡ false → ks' ≡ cond (has ks id) ks (ks ++ id ∷ []) → (ks' ≡ take (i + 1) (ids_of tasks)) × (is_double tasks i ≡ false)
ids-more tasks i t ks ks' id below is so_far same new put =
    let at = id-at tasks i t below is in
    let here : id ≡ get_or (ids_of tasks) i [] = same ∙ sym at in
    let long = length-map' (λ (t : TaskSpec). t.task_id) tasks in (
      put ∙ (cond-false (has ks id) _ _ new ∙ (ap (λ (xs : List Name). xs ++ id ∷ []) so_far ∙ (ap (λ (x : Name). take i (ids_of tasks) ++ x ∷ []) here ∙ sym (take_more (ids_of tasks) i [] (omega arith))))),
      subst (λ (x : Name). has (take i (ids_of tasks)) x ≡ false) here (subst (λ (xs : List Name). has xs id ≡ false) so_far new),
    )

pub rows-more : (tasks : List TaskSpec) (i : ℕ) (t : TaskSpec) (ids : List Name) (rows rows' : List (Vec ℕ Global)) (row : Vec ℕ Global) → i < length tasks → t ≡ get_or tasks i t → ids ≡ ids_of tasks → map (λ r. r.items) rows ≡ take i (rows_of tasks) → row.items ≡ map (position_of ids) t.upstream → rows' ≡ rows ++ row ∷ [] → map (λ r. r.items) rows' ≡ take (i + 1) (rows_of tasks)
rows-more tasks i t ids rows rows' row below is same so_far new put =
    let long = length-map' (λ (t : TaskSpec). t.upstream) tasks in
    let long' = length-map' (map (position_of (ids_of tasks))) (named_by tasks) in
    let at : get_or (rows_of tasks) i [] ≡ row.items =
    get_or-map (map (position_of (ids_of tasks))) (named_by tasks) i [] [] (omega arith)
    ∙ (ap (map (position_of (ids_of tasks))) (names-at tasks i t below is) ∙ (ap (λ (ks : List Name). map (position_of ks) t.upstream) (sym same) ∙ sym new)) in
    ap (map (λ (r : Vec ℕ Global). r.items)) put ∙ (map-append (λ (r : Vec ℕ Global). r.items) rows (row ∷ []) ∙ (ap (λ (xs : List (List ℕ)). xs ++ row.items ∷ []) so_far ∙ (ap (λ (x : List ℕ). take i (rows_of tasks) ++ x ∷ []) (sym at) ∙ sym (take_more (rows_of tasks) i [] (omega arith)))))

-- repeats

pub repeated-at : (xs : List ℕ) (i : ℕ) → i < length xs → is_in (take i xs) (get_or xs i 0) ≡ true → repeated xs ≡ true
repeated-at [] i below there = absurd (omega arith)
repeated-at (x ∷ xs) zero below there = absurd (false≢true there)
repeated-at (x ∷ xs) (suc i) below there =
    elim (or_cases (x == get_or xs i 0) (is_in (take i xs) (get_or xs i 0)) there) [
      | inl same ↦ or_left (is_in xs x) (repeated xs) (subst (λ (y : ℕ). is_in xs y ≡ true) (sym (eqb-true x (get_or xs i 0) same)) (in-at xs i (omega arith)))
      | inr rest ↦ or_right (is_in xs x) (repeated xs) (repeated-at xs i (omega arith) rest)
    ]

pub repeated-push : (xs : List ℕ) (y : ℕ) → repeated xs ≡ false → is_in xs y ≡ false → repeated (xs ++ y ∷ []) ≡ false
repeated-push [] y once new = refl
repeated-push (x ∷ xs) y once new =
    let a = or_parts (is_in xs x) (repeated xs) once in
    let b = or_parts (x == y) (is_in xs y) new in
    let c : (y == x) ≡ false = ne_eqb y x (λ e. false≢true (sym b.0 ∙ eq-eqb x y (sym e))) in
    or_from (is_in (xs ++ y ∷ []) x) (repeated (xs ++ y ∷ [])) (in-push xs y x ∙ or_from (is_in xs x) (y == x) a.0 c) (repeated-push xs y a.1 b.1)
