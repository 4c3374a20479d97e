-- Tests, options and lists.
use Rattle.std.proofs.Common.{◌≡◌, ◌∙◌, refl, sym, ap, ℕ, suc, Bool, true, false, not, ◌&&◌, ◌||◌, cond, List, [], ◌∷◌, map, filter, find, slice_get, Option, Some, None, option_map}
use Rattle.std.specs.List.{list_all, list_any}
use Rattle.graph_file.specs.Lists.{when, first_some}

-- ---- tests
pub both : {b : Bool} → b ≡ true → b ≡ false → ⊥
both {b} e f = let g : true ≡ false = sym e ∙ f in cc

pub and-not : (b c : Bool) → (b && c) ≡ false → b ≡ true → c ≡ false
and-not true c e f = e
and-not false c e f = absurd (let g : false ≡ true = f in cc)

pub and-made : (b c : Bool) → b ≡ true → c ≡ true → (b && c) ≡ true
and-made true c e f = f
and-made false c e f = absurd (let g : false ≡ true = e in cc)

pub not_or : (b c : Bool) → (not b || c) ≡ false → (b ≡ true) × (c ≡ false)
not_or true c e = (refl, e)
not_or false c e = absurd (let f : true ≡ false = e in cc)

pub or_first : (b c : Bool) → b ≡ true → (b || c) ≡ true
or_first true c e = refl
or_first false c e = absurd (let f : false ≡ true = e in cc)

pub or_second : (b c : Bool) → c ≡ true → (b || c) ≡ true
or_second true c e = refl
or_second false c e = e

pub not-not : (b : Bool) → not b ≡ false → b ≡ true
not-not true e = refl
not-not false e = absurd (let f : true ≡ false = e in cc)

-- ---- options
pub first_none : {X : Type 0} (o : Option X) (os : List (Option X)) → first_some (o ∷ os) ≡ None → o ≡ None
first_none None os e = refl
first_none {X} (Some x) os e = absurd (let f : ◌≡◌ {A = Option X} (Some x) None = e in cc)

pub map_was_none : {X Y : Type 0} (f : X → Y) (o : Option X) → option_map f o ≡ None → o ≡ None
map_was_none f None e = refl
map_was_none {X} {Y} f (Some x) e = absurd (let g : ◌≡◌ {A = Option Y} (Some (f x)) None = e in cc)

pub when-none : {X : Type 0} (b : Bool) (x : X) → when b x ≡ None → b ≡ false
when-none {X} true x e = absurd (let f : ◌≡◌ {A = Option X} (Some x) None = e in cc)
when-none false x e = refl

-- ---- lists
pub find_there : {X : Type 0} (p : X → Bool) (xs : List X) (x : X) → find p xs ≡ Some x → (n : ℕ) × (slice_get xs n ≡ Some x)
find_there {X} p [] x e = absurd (let f : ◌≡◌ {A = Option X} None (Some x) = e in cc)
find_there {X} p (y ∷ xs) x e = elim (p y) as (λ b. cond b (Some y) (find p xs) ≡ Some x → (n : ℕ) × (slice_get (y ∷ xs) n ≡ Some x)) [
  | true ↦ λ f. (0, f)
  | false ↦ λ f. let t : (n : ℕ) × (slice_get xs n ≡ Some x) = find_there p xs x f in (suc t.0, t.1)
] e

pub find_of : {X : Type 0} (p : X → Bool) (xs : List X) → list_any p xs ≡ true → (x : X) × (find p xs ≡ Some x)
find_of p [] e = absurd (let f : false ≡ true = e in cc)
find_of {X} p (y ∷ xs) e = elim (p y) as (λ b. (b || list_any p xs) ≡ true → (x : X) × (cond b (Some y) (find p xs) ≡ Some x)) [
  | true ↦ λ f. (y, refl)
  | false ↦ λ f. find_of p xs f
] e

pub find-map : {X Y : Type 0} (f : X → Y) (p : Y → Bool) (xs : List X) → find p (map f xs) ≡ option_map f (find (λ x. p (f x)) xs)
find-map f p [] = refl
find-map {X} {Y} f p (x ∷ xs) = elim (p (f x)) as (λ b. cond b (Some (f x)) (find p (map f xs)) ≡ option_map f (cond b (Some x) (find (λ y. p (f y)) xs))) [
  | true ↦ refl
  | false ↦ find-map f p xs
]

pub filter-none : {X : Type 0} (p : X → Bool) (xs : List X) → filter (λ x. not (p x)) xs ≡ [] → list_all p xs ≡ true
filter-none p [] e = refl
filter-none {X} p (x ∷ xs) e = elim (p x) as (λ b. cond (not b) (x ∷ filter (λ y. not (p y)) xs) (filter (λ y. not (p y)) xs) ≡ [] → (b && list_all p xs) ≡ true) [
  | true ↦ λ f. filter-none p xs f
  | false ↦ λ f. absurd (let g : ◌≡◌ {A = List X} (x ∷ filter (λ y. not (p y)) xs) [] = f in cc)
] e

pub map-none : {X Y : Type 0} (f : X → Y) (xs : List X) → map f xs ≡ [] → xs ≡ []
map-none f [] e = refl
map-none {X} {Y} f (x ∷ xs) e = absurd (let g : ◌≡◌ {A = List Y} (f x ∷ map f xs) [] = e in cc)

pub all-map : {X Y : Type 0} (f : X → Y) (p : Y → Bool) (xs : List X) → list_all p (map f xs) ≡ list_all (λ x. p (f x)) xs
all-map f p [] = refl
all-map f p (x ∷ xs) = ap (λ b. p (f x) && b) (all-map f p xs)
