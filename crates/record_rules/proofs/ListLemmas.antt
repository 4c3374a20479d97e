-- Lists: what a filter finds among keyed elements, and what sorting keeps.
use Rattle.std.proofs.Common.{◌≡◌, refl, sym, ap, subst, ◌∙◌, ℕ, zero, suc, List, [], ◌∷◌, ◌++◌, Bool, true, false, cond, ◌||◌, flat_map, map, filter, find, Option, Some, None, slice_get, true≢false, ℤ, int_lt}
use Rattle.std.specs.Prelude.{int_le}
use Rattle.std.specs.List.{list_all, list_any, zip}
use Rattle.std.proofs.lemmas.Bool.{and_from, false_from_ne_true}
use Rattle.std.proofs.lemmas.List.Elements.{filter-append}
use Rattle.graph_file.specs.declared.task_specs.TaskSpec.{TaskSpec}
use Rattle.sched_laws.specs.instance_machine.Instances.{InstanceValue}
use Rattle.dag_check.specs.Names.{ids_of, repeats, has}
use Rattle.sched_laws.specs.sched_state.Lists.{same, insert_by}
use Rattle.sched_laws.proofs.sched_state.NameLemmas.{same_is, same_itself}
use Rattle.sched_laws.proofs.sched_state.OrderLemmas.{and_left, and_right, or_left, or_right, all_insert}
use Rattle.sched_laws.specs.sched_model.Lists.{rises, all_pairs}
use Rattle.sched_laws.specs.sched_model.Tables.{sort_by}
use Rattle.sched_laws.proofs.ListLemmas.{all_get, all_join}
use Rattle.record_rules.proofs.NumberLemmas.{less_least, least_not_less, least_more, less_then_least}

-- ---- filters
pub filter_yes : {X : Type 0} (p : X → Bool) (x : X) (xs : List X) → p x ≡ true → filter p (x ∷ xs) ≡ x ∷ filter p xs
filter_yes p x xs e = ap (λ b. cond b (x ∷ filter p xs) (filter p xs)) e

pub filter_no : {X : Type 0} (p : X → Bool) (x : X) (xs : List X) → p x ≡ false → filter p (x ∷ xs) ≡ filter p xs
filter_no p x xs e = ap (λ b. cond b (x ∷ filter p xs) (filter p xs)) e

pub filter_map_all : {X Y : Type 0} (p : Y → Bool) (f : X → Y) → ((x : X) → p (f x) ≡ true) → (xs : List X) → filter p (map f xs) ≡ map f xs
filter_map_all p f h [] = refl
filter_map_all p f h (x ∷ xs) = filter_yes p (f x) (map f xs) (h x) ∙ ap (λ ys. f x ∷ ys) (filter_map_all p f h xs)

pub filter_map_none : {X Y : Type 0} (p : Y → Bool) (f : X → Y) → ((x : X) → p (f x) ≡ false) → (xs : List X) → filter p (map f xs) ≡ []
filter_map_none p f h [] = refl
filter_map_none p f h (x ∷ xs) = filter_no p (f x) (map f xs) (h x) ∙ filter_map_none p f h xs

pub filter_flat : {X Y : Type 0} (p : Y → Bool) (f : X → List Y) (xs : List X) → filter p (flat_map f xs) ≡ flat_map (λ x. filter p (f x)) xs
filter_flat p f [] = refl
filter_flat p f (x ∷ xs) = filter-append p (f x) (flat_map f xs) ∙ ap (λ ys. filter p (f x) ++ ys) (filter_flat p f xs)

pub flat_nil : {X Y : Type 0} (f : X → List Y) → ((x : X) → f x ≡ []) → (xs : List X) → flat_map f xs ≡ []
flat_nil f h [] = refl
flat_nil f h (x ∷ xs) = ap (λ ys. ys ++ flat_map f xs) (h x) ∙ flat_nil f h xs

pub append_none : {X : Type 0} (xs : List X) → xs ++ [] ≡ xs
append_none [] = refl
append_none (x ∷ xs) = ap (λ ys. x ∷ ys) (append_none xs)

-- only the elements that pass give anything
flat_kept : {X Y : Type 0} (q : X → Bool) (g : X → List Y) → ((z : X) → q z ≡ false → g z ≡ []) → (xs : List X) → flat_map g xs ≡ flat_map g (filter q xs)
flat_kept q g h [] = refl
flat_kept {X} {Y} q g h (x ∷ xs) = elim (q x) as (λ b. q x ≡ b → flat_map g (x ∷ xs) ≡ flat_map g (cond b (x ∷ filter q xs) (filter q xs))) [
  | true ↦ λ e. ap (λ (ys : List Y). g x ++ ys) (flat_kept q g h xs)
  | false ↦ λ e. ap (λ (ys : List Y). ys ++ flat_map g xs) (h x e) ∙ flat_kept q g h xs
] refl

pub flat_once : {X Y : Type 0} (q : X → Bool) (g : X → List Y) → ((z : X) → q z ≡ false → g z ≡ []) → (xs : List X) (x : X) → filter q xs ≡ x ∷ [] → flat_map g xs ≡ g x
flat_once q g h xs x e = flat_kept q g h xs ∙ ap (flat_map g) e ∙ append_none (g x)

pub find_first : {X : Type 0} (p : X → Bool) (xs : List X) (y : X) (ys : List X) → filter p xs ≡ y ∷ ys → find p xs ≡ Some y
find_first {X} p [] y ys e = absurd (let c : ◌≡◌ {A = List X} [] (y ∷ ys) = e in cc)
find_first {X} p (x ∷ xs) y ys e = elim (p x) as (λ b. cond b (x ∷ filter p xs) (filter p xs) ≡ y ∷ ys → cond b (Some x) (find p xs) ≡ Some y) [
  | true ↦ λ f. let c : ◌≡◌ {A = List X} (x ∷ filter p xs) (y ∷ ys) = f in let r : x ≡ y = cc in ap (λ (z : X). Some z) r
  | false ↦ λ f. find_first p xs y ys f
] e

pub any_first : {X : Type 0} (p : X → Bool) (xs : List X) (y : X) (ys : List X) → filter p xs ≡ y ∷ ys → list_any p xs ≡ true
any_first {X} p [] y ys e = absurd (let c : ◌≡◌ {A = List X} [] (y ∷ ys) = e in cc)
any_first {X} p (x ∷ xs) y ys e = elim (p x) as (λ b. cond b (x ∷ filter p xs) (filter p xs) ≡ y ∷ ys → (b || list_any p xs) ≡ true) [
  | true ↦ λ f. refl
  | false ↦ λ f. any_first p xs y ys f
] e

-- ---- a key that stands once
-- where q x tells the key of x, and what stands before another has not its key
none_after : {X : Type 0} (before : X → X → Bool) (q : X → X → Bool) → ((u v : X) → before u v ≡ true → q u v ≡ false) → (x : X) (xs : List X) → list_all (before x) xs ≡ true → filter (q x) xs ≡ []
none_after before q h x [] e = refl
none_after before q h x (y ∷ ys) e = filter_no (q x) y ys (h x y (and_left _ _ e)) ∙ none_after before q h x ys (and_right (before x y) _ e)

pub once_rising : {X : Type 0} (before : X → X → Bool) (q : X → X → Bool) → ((x : X) → q x x ≡ true) → ((u v : X) → before u v ≡ true → q u v ≡ false) → ((u v : X) → before u v ≡ true → q v u ≡ false)
    → (xs : List X) (n : ℕ) (x : X) → rises before xs ≡ true → slice_get xs n ≡ Some x → filter (q x) xs ≡ x ∷ []
once_rising {X} before q i h k [] n x e f = absurd (let c : ◌≡◌ {A = Option X} None (Some x) = f in cc)
once_rising {X} before q i h k (y ∷ ys) zero x e f =
    let c : ◌≡◌ {A = Option X} (Some y) (Some x) = f in let r : y ≡ x = cc in
    subst (λ (z : X). filter (q z) (y ∷ ys) ≡ z ∷ []) r (filter_yes (q y) y ys (i y) ∙ ap (λ zs. y ∷ zs) (none_after before q h y ys (and_left _ _ e)))
once_rising before q i h k (y ∷ ys) (suc n) x e f =
    filter_no (q x) y ys (k y x (all_get (before y) ys n x (and_left _ _ e) f)) ∙ once_rising before q i h k ys n x (and_right (list_all (before y) ys) _ e) f

-- ---- tasks and instances side by side
not_had : (ts : List TaskSpec) (is : List InstanceValue) (q : List ℕ) → has (ids_of ts) q ≡ false → filter (λ (e : TaskSpec × InstanceValue). same e.0.task_id q) (zip ts is) ≡ []
not_had [] is q e = refl
not_had (t ∷ ts) [] q e = refl
not_had (t ∷ ts) (i ∷ is) q e =
    let h : same t.task_id q ≡ false = flipped t.task_id q (or_left (same q t.task_id) _ e) in
    filter_no (λ (x : TaskSpec × InstanceValue). same x.0.task_id q) (t, i) (zip ts is) h ∙ not_had ts is q (or_right (same q t.task_id) _ e)
  where
    flipped : (x y : List ℕ) → same y x ≡ false → same x y ≡ false
    flipped x y f = false_from_ne_true (same x y) (λ g. true≢false (sym (ap (λ z. same z x) (sym (same_is x y g)) ∙ same_itself x) ∙ f))

pub has_at : (ts : List TaskSpec) (is : List InstanceValue) (n : ℕ) (t : TaskSpec) (i : InstanceValue) → slice_get (zip ts is) n ≡ Some (t, i) → has (ids_of ts) t.task_id ≡ true
has_at [] is n t i e = absurd (let c : ◌≡◌ {A = Option (TaskSpec × InstanceValue)} None (Some (t, i)) = e in cc)
has_at (u ∷ ts) [] n t i e = absurd (let c : ◌≡◌ {A = Option (TaskSpec × InstanceValue)} None (Some (t, i)) = e in cc)
has_at (u ∷ ts) (j ∷ is) zero t i e =
    let c : ◌≡◌ {A = Option (TaskSpec × InstanceValue)} (Some (u, j)) (Some (t, i)) = e in let s : (u, j) ≡ (t, i) = cc in let r : u ≡ t = ap (λ (z : TaskSpec × InstanceValue). z.0) s in
    ap (λ b. b || has (ids_of ts) t.task_id) (ap (λ (z : TaskSpec). same t.task_id z.task_id) r ∙ same_itself t.task_id)
has_at (u ∷ ts) (j ∷ is) (suc n) t i e = any_more (same t.task_id u.task_id) (has (ids_of ts) t.task_id) (has_at ts is n t i e)
  where
    any_more : (b c : Bool) → c ≡ true → (b || c) ≡ true
    any_more true c f = refl
    any_more false c f = f

pub once_paired : (ts : List TaskSpec) (is : List InstanceValue) (n : ℕ) (t : TaskSpec) (i : InstanceValue) → repeats (ids_of ts) ≡ false → slice_get (zip ts is) n ≡ Some (t, i)
    → filter (λ (e : TaskSpec × InstanceValue). same e.0.task_id t.task_id) (zip ts is) ≡ (t, i) ∷ []
once_paired [] is n t i d e = absurd (let c : ◌≡◌ {A = Option (TaskSpec × InstanceValue)} None (Some (t, i)) = e in cc)
once_paired (u ∷ ts) [] n t i d e = absurd (let c : ◌≡◌ {A = Option (TaskSpec × InstanceValue)} None (Some (t, i)) = e in cc)
once_paired (u ∷ ts) (j ∷ is) zero t i d e =
    let c : ◌≡◌ {A = Option (TaskSpec × InstanceValue)} (Some (u, j)) (Some (t, i)) = e in let r : (u, j) ≡ (t, i) = cc in
    subst (λ (z : TaskSpec × InstanceValue). filter (λ (x : TaskSpec × InstanceValue). same x.0.task_id z.0.task_id) ((u, j) ∷ zip ts is) ≡ z ∷ []) r
    (filter_yes (λ (x : TaskSpec × InstanceValue). same x.0.task_id u.task_id) (u, j) (zip ts is) (same_itself u.task_id)
    ∙ ap (λ (zs : List (TaskSpec × InstanceValue)). (u, j) ∷ zs) (not_had ts is u.task_id (or_left (has (ids_of ts) u.task_id) _ d)))
once_paired (u ∷ ts) (j ∷ is) (suc n) t i d e =
    let h : same u.task_id t.task_id ≡ false = false_from_ne_true (same u.task_id t.task_id) (λ f.
    true≢false (sym (has_at ts is n t i e) ∙ ap (has (ids_of ts)) (sym (same_is u.task_id t.task_id f)) ∙ or_left (has (ids_of ts) u.task_id) _ d)) in
    filter_no (λ (x : TaskSpec × InstanceValue). same x.0.task_id t.task_id) (u, j) (zip ts is) h ∙ once_paired ts is n t i (or_right (has (ids_of ts) u.task_id) _ d) e

-- ---- sorting and one element
insert_no : {X : Type 0} (before : X → X → Bool) (p : X → Bool) (x : X) (ys : List X) → p x ≡ false → filter p (insert_by before x ys) ≡ filter p ys
insert_no before p x [] e = filter_no p x [] e
insert_no {X} before p x (y ∷ ys) e = elim (before x y) as (λ b. filter p (elim b as (λ c. List X) [ true ↦ x ∷ y ∷ ys | false ↦ y ∷ insert_by before x ys ]) ≡ filter p (y ∷ ys)) [
  | true ↦ filter_no p x (y ∷ ys) e
  | false ↦ ap (λ zs. cond (p y) (y ∷ zs) zs) (insert_no before p x ys e)
]

insert_one : {X : Type 0} (before : X → X → Bool) (p : X → Bool) (x : X) (ys : List X) → p x ≡ true → filter p ys ≡ [] → filter p (insert_by before x ys) ≡ x ∷ []
insert_one before p x [] e f = filter_yes p x [] e
insert_one {X} before p x (y ∷ ys) e f = elim (before x y) as (λ b. filter p (elim b as (λ c. List X) [ true ↦ x ∷ y ∷ ys | false ↦ y ∷ insert_by before x ys ]) ≡ x ∷ []) [
  | true ↦ filter_yes p x (y ∷ ys) e ∙ ap (λ zs. x ∷ zs) f
  | false ↦ elim (p y) as (λ b. cond b (y ∷ filter p ys) (filter p ys) ≡ [] → cond b (y ∷ filter p (insert_by before x ys)) (filter p (insert_by before x ys)) ≡ x ∷ []) [
    | true ↦ λ g. absurd (let c : ◌≡◌ {A = List X} (y ∷ filter p ys) [] = g in cc)
    | false ↦ λ g. insert_one before p x ys e g
  ] f
]

pub sort_none : {X : Type 0} (before : X → X → Bool) (p : X → Bool) (xs : List X) → filter p xs ≡ [] → filter p (sort_by before xs) ≡ []
sort_none before p [] e = refl
sort_none {X} before p (x ∷ xs) e = elim (p x) as (λ b. p x ≡ b → cond b (x ∷ filter p xs) (filter p xs) ≡ [] → filter p (insert_by before x (sort_by before xs)) ≡ []) [
  | true ↦ λ g f. absurd (let c : ◌≡◌ {A = List X} (x ∷ filter p xs) [] = f in cc)
  | false ↦ λ g f. insert_no before p x (sort_by before xs) g ∙ sort_none before p xs f
] refl e

pub sort_one : {X : Type 0} (before : X → X → Bool) (p : X → Bool) (xs : List X) (y : X) → filter p xs ≡ y ∷ [] → filter p (sort_by before xs) ≡ y ∷ []
sort_one {X} before p [] y e = absurd (let c : ◌≡◌ {A = List X} [] (y ∷ []) = e in cc)
sort_one {X} before p (x ∷ xs) y e = elim (p x) as (λ b. p x ≡ b → cond b (x ∷ filter p xs) (filter p xs) ≡ y ∷ [] → filter p (insert_by before x (sort_by before xs)) ≡ y ∷ []) [
  | true ↦ λ g f.
      let c : ◌≡◌ {A = List X} (x ∷ filter p xs) (y ∷ []) = f in
      let r : x ≡ y = cc in
      let s : filter p xs ≡ [] = cc in
      insert_one before p x (sort_by before xs) g (sort_none before p xs s) ∙ ap (λ (z : X). z ∷ []) r
  | false ↦ λ g f. insert_no before p x (sort_by before xs) g ∙ sort_one before p xs y f
] refl e

pub sort_all : {X : Type 0} (before : X → X → Bool) (p : X → Bool) (xs : List X) → list_all p xs ≡ true → list_all p (sort_by before xs) ≡ true
sort_all before p [] e = refl
sort_all before p (x ∷ xs) e = all_insert before p x (sort_by before xs) (and_left _ _ e) (sort_all before p xs (and_right (p x) _ e))

-- ---- sorting by a number
abbrev pub below : {X : Type 0} → (X → ℤ) → X → X → Bool
below f x y = int_lt (f x) (f y)

abbrev sorted : {X : Type 0} → (X → ℤ) → List X → Bool
sorted f xs = rises (λ x y. int_le (f x) (f y)) xs

all_under_below : {X : Type 0} (f : X → ℤ) (m n : ℤ) (xs : List X) → int_le m n ≡ true → list_all (λ y. int_le n (f y)) xs ≡ true → list_all (λ y. int_le m (f y)) xs ≡ true
all_under_below f m n [] l e = refl
all_under_below f m n (x ∷ xs) l e = and_from _ _ (least_more m n (f x) l (and_left _ _ e)) (all_under_below f m n xs l (and_right (int_le n (f x)) _ e))

insert_sorted : {X : Type 0} (f : X → ℤ) (x : X) (ys : List X) → sorted f ys ≡ true → sorted f (insert_by (below f) x ys) ≡ true
insert_sorted f x [] e = refl
insert_sorted {X} f x (y ∷ ys) e = elim (int_lt (f x) (f y)) as (λ b. int_lt (f x) (f y) ≡ b → sorted f (elim b as (λ c. List X) [ true ↦ x ∷ y ∷ ys | false ↦ y ∷ insert_by (below f) x ys ]) ≡ true) [
  | true ↦ λ g. let l : int_le (f x) (f y) ≡ true = less_least (f x) (f y) g in
      and_from _ _ (and_from _ _ l (all_under_below f (f x) (f y) ys l (and_left _ _ e))) e
  | false ↦ λ g. and_from _ _ (all_insert (below f) (λ z. int_le (f y) (f z)) x ys (least_not_less (f x) (f y) g) (and_left _ _ e)) (insert_sorted f x ys (and_right (list_all (λ z. int_le (f y) (f z)) ys) _ e))
] refl

sort_sorted : {X : Type 0} (f : X → ℤ) (xs : List X) → sorted f (sort_by (below f) xs) ≡ true
sort_sorted f [] = refl
sort_sorted f (x ∷ xs) = insert_sorted f x (sort_by (below f) xs) (sort_sorted f xs)

-- an element below all goes to the front
insert_front : {X : Type 0} (f : X → ℤ) (x : X) (ys : List X) → list_all (below f x) ys ≡ true → insert_by (below f) x ys ≡ x ∷ ys
insert_front f x [] e = refl
insert_front {X} f x (y ∷ ys) e = ap (λ b. elim b as (λ c. List X) [ true ↦ x ∷ y ∷ ys | false ↦ y ∷ insert_by (below f) x ys ]) (and_left (int_lt (f x) (f y)) _ e)

all_filtered : {X : Type 0} (p q : X → Bool) (xs : List X) → list_all p xs ≡ true → list_all p (filter q xs) ≡ true
all_filtered p q [] e = refl
all_filtered {X} p q (x ∷ xs) e = elim (q x) as (λ b. list_all p (cond b (x ∷ filter q xs) (filter q xs)) ≡ true) [
  | true ↦ and_from _ _ (and_left _ _ e) (all_filtered p q xs (and_right (p x) _ e))
  | false ↦ all_filtered p q xs (and_right (p x) _ e)
]

above_all : {X : Type 0} (f : X → ℤ) (m n : ℤ) (xs : List X) → int_lt m n ≡ true → list_all (λ y. int_le n (f y)) xs ≡ true → list_all (λ y. int_lt m (f y)) xs ≡ true
above_all f m n [] l e = refl
above_all f m n (x ∷ xs) l e = and_from _ _ (less_then_least m n (f x) l (and_left _ _ e)) (above_all f m n xs l (and_right (int_le n (f x)) _ e))

filter_insert : {X : Type 0} (f : X → ℤ) (p : X → Bool) (x : X) (ys : List X) → p x ≡ true → sorted f ys ≡ true → filter p (insert_by (below f) x ys) ≡ insert_by (below f) x (filter p ys)
filter_insert f p x [] e s = filter_yes p x [] e
filter_insert {X} f p x (y ∷ ys) e s = elim (int_lt (f x) (f y)) as (λ b. int_lt (f x) (f y) ≡ b → filter p (elim b as (λ c. List X) [ true ↦ x ∷ y ∷ ys | false ↦ y ∷ insert_by (below f) x ys ]) ≡ insert_by (below f) x (filter p (y ∷ ys))) [
  | true ↦ λ g.
      let front : list_all (below f x) (y ∷ ys) ≡ true = and_from _ _ g (above_all f (f x) (f y) ys g (and_left _ _ s)) in
      filter_yes p x (y ∷ ys) e ∙ sym (insert_front f x (filter p (y ∷ ys)) (all_filtered (below f x) p (y ∷ ys) front))
  | false ↦ λ g. let ih : filter p (insert_by (below f) x ys) ≡ insert_by (below f) x (filter p ys) = filter_insert f p x ys e (and_right (list_all (λ z. int_le (f y) (f z)) ys) _ s) in
      elim (p y) as (λ b. cond b (y ∷ filter p (insert_by (below f) x ys)) (filter p (insert_by (below f) x ys)) ≡ insert_by (below f) x (cond b (y ∷ filter p ys) (filter p ys))) [
        | true ↦ ap (λ zs. y ∷ zs) ih ∙ sym (ap (λ b. elim b as (λ c. List X) [ true ↦ x ∷ y ∷ filter p ys | false ↦ y ∷ insert_by (below f) x (filter p ys) ]) g)
        | false ↦ ih
      ]
] refl

pub filter_sort : {X : Type 0} (f : X → ℤ) (p : X → Bool) (xs : List X) → filter p (sort_by (below f) xs) ≡ sort_by (below f) (filter p xs)
filter_sort f p [] = refl
filter_sort {X} f p (x ∷ xs) = elim (p x) as (λ b. p x ≡ b → filter p (insert_by (below f) x (sort_by (below f) xs)) ≡ sort_by (below f) (cond b (x ∷ filter p xs) (filter p xs))) [
  | true ↦ λ e. filter_insert f p x (sort_by (below f) xs) e (sort_sorted f xs) ∙ ap (insert_by (below f) x) (filter_sort f p xs)
  | false ↦ λ e. insert_no (below f) p x (sort_by (below f) xs) e ∙ filter_sort f p xs
] refl

pub sort_rising : {X : Type 0} (f : X → ℤ) (xs : List X) → rises (below f) xs ≡ true → sort_by (below f) xs ≡ xs
sort_rising f [] e = refl
sort_rising f (x ∷ xs) e = ap (insert_by (below f) x) (sort_rising f xs (and_right (list_all (below f x) xs) _ e)) ∙ insert_front f x xs (and_left _ _ e)

-- ---- all of a list of lists, and of pairs
pub flat_all : {X Y : Type 0} (p : Y → Bool) (f : X → List Y) (xs : List X) → ((n : ℕ) (x : X) → slice_get xs n ≡ Some x → list_all p (f x) ≡ true) → list_all p (flat_map f xs) ≡ true
flat_all p f [] h = refl
flat_all p f (x ∷ xs) h = all_join p (f x) (flat_map f xs) (h zero x refl) (flat_all p f xs (λ n y e. h (suc n) y e))

pub map_all : {X Y : Type 0} (p : Y → Bool) (f : X → Y) (xs : List X) → ((n : ℕ) (x : X) → slice_get xs n ≡ Some x → p (f x) ≡ true) → list_all p (map f xs) ≡ true
map_all p f [] h = refl
map_all p f (x ∷ xs) h = and_from _ _ (h zero x refl) (map_all p f xs (λ n y e. h (suc n) y e))

pub all_at_each : {X : Type 0} (p : X → Bool) (xs : List X) → ((n : ℕ) (x : X) → slice_get xs n ≡ Some x → p x ≡ true) → list_all p xs ≡ true
all_at_each p [] h = refl
all_at_each p (x ∷ xs) h = and_from _ _ (h zero x refl) (all_at_each p xs (λ n y e. h (suc n) y e))

pub map_back : {X Y : Type 0} (f : Y → X) (g : X → Y) (xs : List X) → ((n : ℕ) (x : X) → slice_get xs n ≡ Some x → f (g x) ≡ x) → map f (map g xs) ≡ xs
map_back f g [] h = refl
map_back {X} f g (x ∷ xs) h = ap (λ (z : X). z ∷ map f (map g xs)) (h zero x refl) ∙ ap (λ ys. x ∷ ys) (map_back f g xs (λ n y e. h (suc n) y e))

pub pairs_at_each : {X Y : Type 0} (p : X → Y → Bool) (xs : List X) (ys : List Y) (n : ℕ) (x : X) (y : Y) → all_pairs p xs ys ≡ true → slice_get (zip xs ys) n ≡ Some (x, y) → p x y ≡ true
pairs_at_each {X} {Y} p [] ys n x y a e = absurd (let c : ◌≡◌ {A = Option (X × Y)} None (Some (x, y)) = e in cc)
pairs_at_each {X} {Y} p (u ∷ xs) [] n x y a e = absurd (let c : ◌≡◌ {A = Option (X × Y)} None (Some (x, y)) = e in cc)
pairs_at_each {X} {Y} p (u ∷ xs) (v ∷ ys) zero x y a e =
    let c : ◌≡◌ {A = Option (X × Y)} (Some (u, v)) (Some (x, y)) = e in let r : (u, v) ≡ (x, y) = cc in
    subst (λ (z : X × Y). p z.0 z.1 ≡ true) r (and_left _ _ a)
pairs_at_each p (u ∷ xs) (v ∷ ys) (suc n) x y a e = pairs_at_each p xs ys n x y (and_right (p u v) _ a) e

-- a function that gives of each first element the second beside it
pub map_beside : {X Y : Type 0} (p : X → Y → Bool) (f : X → Y) (xs : List X) (ys : List Y) → all_pairs p xs ys ≡ true → ((n : ℕ) (x : X) (y : Y) → slice_get (zip xs ys) n ≡ Some (x, y) → f x ≡ y) → map f xs ≡ ys
map_beside p f [] [] a h = refl
map_beside p f [] (y ∷ ys) a h = absurd (true≢false (sym a))
map_beside p f (x ∷ xs) [] a h = absurd (true≢false (sym a))
map_beside {X} {Y} p f (x ∷ xs) (y ∷ ys) a h = ap (λ (z : Y). z ∷ map f xs) (h zero x y refl) ∙ ap (λ zs. y ∷ zs) (map_beside p f xs ys (and_right (p x y) _ a) (λ n u v e. h (suc n) u v e))

-- beside each first element stands a second
pub beside : {X Y : Type 0} (p : X → Y → Bool) (xs : List X) (ys : List Y) (n : ℕ) (x : X) → all_pairs p xs ys ≡ true → slice_get xs n ≡ Some x → (y : Y) × (slice_get (zip xs ys) n ≡ Some (x, y))
beside {X} {Y} p [] ys n x a e = absurd (let c : ◌≡◌ {A = Option X} None (Some x) = e in cc)
beside p (u ∷ xs) [] n x a e = absurd (true≢false (sym a))
beside {X} {Y} p (u ∷ xs) (v ∷ ys) zero x a e =
    let c : ◌≡◌ {A = Option X} (Some u) (Some x) = e in let r : u ≡ x = cc in
    (v, ap (λ (z : X). let w : Option (X × Y) = Some (z, v) in w) r)
beside p (u ∷ xs) (v ∷ ys) (suc n) x a e = beside p xs ys n x (and_right (p u v) _ a) e
