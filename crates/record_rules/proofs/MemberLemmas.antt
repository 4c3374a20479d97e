-- Members of lists: of filters, of sorted and joined lists; and lists that rise.
use Rattle.std.proofs.Common.{◌≡◌, refl, sym, ap, subst, ◌∙◌, ℕ, zero, suc, ◌<◌, List, [], ◌∷◌, ◌++◌, Bool, true, false, cond, ◌||◌, ◌⊎◌, inl, inr, flat_map, map, filter, Option, Some, None, slice_get, arith, true≢false}
use Rattle.std.specs.List.{list_all, list_any, zip}
use Rattle.std.proofs.lemmas.Bool.{and_from}
use Rattle.sched_laws.specs.sched_state.Lists.{insert_by}
use Rattle.sched_laws.proofs.sched_state.OrderLemmas.{and_left, and_right}
use Rattle.sched_laws.specs.sched_model.Lists.{rises}
use Rattle.sched_laws.specs.sched_model.Tables.{sort_by}
use Rattle.sched_laws.proofs.ListLemmas.{all_get, all_join}

-- ---- members
pub record Has {X : Type 0} (xs : List X) (x : X) : Type 0 where
  pub at : ℕ
  pub is : slice_get xs at ≡ Some x

at_cases : {X : Type 0} (y : X) (ys : List X) (n : ℕ) (z : X) → slice_get (y ∷ ys) n ≡ Some z → (y ≡ z) ⊎ Has ys z
at_cases {X} y ys zero z e = let c : ◌≡◌ {A = Option X} (Some y) (Some z) = e in inl (let r : y ≡ z = cc in r)
at_cases y ys (suc n) z e = inr (record { at = n; is = e })

pub has_cases : {X : Type 0} (y : X) (ys : List X) (z : X) → Has (y ∷ ys) z → (y ≡ z) ⊎ Has ys z
has_cases y ys z h = at_cases y ys h.at z h.is

pub has_none : {X : Type 0} (z : X) → Has [] z → ⊥
has_none {X} z h = let e : slice_get [] h.at ≡ Some z = h.is in let c : ◌≡◌ {A = Option X} None (Some z) = e in cc

pub has_more : {X : Type 0} (y : X) (ys : List X) (z : X) → Has ys z → Has (y ∷ ys) z
has_more y ys z h = record { at = suc h.at; is = h.is }

pub has_head : {X : Type 0} (y : X) (ys : List X) (z : X) → y ≡ z → Has (y ∷ ys) z
has_head {X} y ys z e = record { at = zero; is = ap (λ (w : X). let o : Option X = Some w in o) e }

all_has : {X : Type 0} (p : X → Bool) (xs : List X) (x : X) → list_all p xs ≡ true → Has xs x → p x ≡ true
all_has p xs x e h = all_get p xs h.at x e h.is

pub has_kept : {X : Type 0} (q : X → Bool) (xs : List X) (x : X) → Has xs x → q x ≡ true → Has (filter q xs) x
has_kept q [] x h e = absurd (has_none x h)
has_kept {X} q (y ∷ ys) x h e = elim (has_cases y ys x h) [
  | inl r ↦ subst (λ b. Has (cond b (y ∷ filter q ys) (filter q ys)) x) (sym (ap q r ∙ e)) (has_head y (filter q ys) x r)
  | inr k ↦ elim (q y) as (λ b. Has (cond b (y ∷ filter q ys) (filter q ys)) x) [
    | true ↦ has_more y (filter q ys) x (has_kept q ys x k e)
    | false ↦ has_kept q ys x k e
  ]
]

pub kept_has : {X : Type 0} (q : X → Bool) (xs : List X) (x : X) → Has (filter q xs) x → Has xs x
kept_has q [] x h = absurd (has_none x h)
kept_has {X} q (y ∷ ys) x h = elim (q y) as (λ b. Has (cond b (y ∷ filter q ys) (filter q ys)) x → Has (y ∷ ys) x) [
  | true ↦ λ k. elim (has_cases y (filter q ys) x k) [ inl r ↦ has_head y ys x r | inr m ↦ has_more y ys x (kept_has q ys x m) ]
  | false ↦ λ k. has_more y ys x (kept_has q ys x k)
] h

-- ---- lists that rise and have the same members are the same
pub unique : {X : Type 0} (before : X → X → Bool) → ((x : X) → before x x ≡ false) → ((x y z : X) → before x y ≡ true → before y z ≡ true → before x z ≡ true)
    → (xs ys : List X) → rises before xs ≡ true → rises before ys ≡ true → ((z : X) → Has xs z → Has ys z) → ((z : X) → Has ys z → Has xs z) → xs ≡ ys
unique before irr trans [] [] r s f g = refl
unique before irr trans [] (y ∷ ys) r s f g = absurd (has_none y (g y (has_head y ys y refl)))
unique before irr trans (x ∷ xs) [] r s f g = absurd (has_none x (f x (has_head x xs x refl)))
unique {X} before irr trans (x ∷ xs) (y ∷ ys) r s f g =
    let after_x : list_all (before x) xs ≡ true = and_left _ _ r in
    let after_y : list_all (before y) ys ≡ true = and_left _ _ s in
    let heads : x ≡ y = elim (has_cases y ys x (f x (has_head x xs x refl))) [
      | inl e ↦ sym e
      | inr h ↦ elim (has_cases x xs y (g y (has_head y ys y refl))) [
        | inl e ↦ e
        | inr k ↦ absurd (true≢false (sym (trans x y x (all_has (before x) xs y after_x k) (all_has (before y) ys x after_y h)) ∙ irr x))
      ]
    ] in
    let there : (z : X) → Has xs z → Has ys z = λ z h. elim (has_cases y ys z (f z (has_more x xs z h))) [
      | inl e ↦ absurd (true≢false (sym (all_has (before x) xs z after_x h) ∙ ap (before x) (sym e ∙ sym heads) ∙ irr x))
      | inr k ↦ k
    ] in
    let back : (z : X) → Has ys z → Has xs z = λ z h. elim (has_cases x xs z (g z (has_more y ys z h))) [
      | inl e ↦ absurd (true≢false (sym (all_has (before y) ys z after_y h) ∙ ap (before y) (sym e ∙ heads) ∙ irr y))
      | inr k ↦ k
    ] in
    ap (λ (w : X). w ∷ xs) heads ∙ ap (λ zs. y ∷ zs) (unique before irr trans xs ys (and_right (list_all (before x) xs) _ r) (and_right (list_all (before y) ys) _ s) there back)

-- ---- members of sorted and joined lists
has_insert : {X : Type 0} (before : X → X → Bool) (x : X) (ys : List X) (z : X) → Has (insert_by before x ys) z → (x ≡ z) ⊎ Has ys z
has_insert before x [] z h = has_cases x [] z h
has_insert {X} before x (y ∷ ys) z h = elim (before x y) as (λ b. Has (elim b as (λ c. List X) [ true ↦ x ∷ y ∷ ys | false ↦ y ∷ insert_by before x ys ]) z → (x ≡ z) ⊎ Has (y ∷ ys) z) [
  | true ↦ λ k. has_cases x (y ∷ ys) z k
  | false ↦ λ k. elim (has_cases y (insert_by before x ys) z k) [
    | inl e ↦ inr (has_head y ys z e)
    | inr m ↦ elim (has_insert before x ys z m) [ inl e ↦ inl e | inr n ↦ inr (has_more y ys z n) ]
  ]
] h

pub has_sorted : {X : Type 0} (before : X → X → Bool) (xs : List X) (z : X) → Has (sort_by before xs) z → Has xs z
has_sorted before [] z h = h
has_sorted before (x ∷ xs) z h = elim (has_insert before x (sort_by before xs) z h) [ inl e ↦ has_head x xs z e | inr k ↦ has_more x xs z (has_sorted before xs z k) ]

has_joined : {X : Type 0} (xs ys : List X) (z : X) → Has (xs ++ ys) z → Has xs z ⊎ Has ys z
has_joined [] ys z h = inr h
has_joined (x ∷ xs) ys z h = elim (has_cases x (xs ++ ys) z h) [
  | inl e ↦ inl (has_head x xs z e)
  | inr k ↦ elim (has_joined xs ys z k) [ inl m ↦ inl (has_more x xs z m) | inr m ↦ inr m ]
]

pub record InOne {X Y : Type 0} (f : X → List Y) (xs : List X) (z : Y) : Type 0 where
  pub at : ℕ
  pub of : X
  pub of_is : slice_get xs at ≡ Some of
  pub inside : Has (f of) z

pub has_flat : {X Y : Type 0} (f : X → List Y) (xs : List X) (z : Y) → Has (flat_map f xs) z → InOne f xs z
has_flat f [] z h = absurd (has_none z h)
has_flat f (x ∷ xs) z h = elim (has_joined (f x) (flat_map f xs) z h) [
  | inl k ↦ record { at = zero; of = x; of_is = refl; inside = k }
  | inr k ↦ let m = has_flat f xs z k in record { at = suc m.at; of = m.of; of_is = m.of_is; inside = m.inside }
]

pub found_at : {X : Type 0} (p : X → Bool) (xs : List X) → list_any p xs ≡ true → (n : ℕ) × (x : X) × (slice_get xs n ≡ Some x) × (p x ≡ true)
found_at p [] e = absurd (true≢false (sym e))
found_at {X} p (x ∷ xs) e = elim (p x) as (λ b. p x ≡ b → (b || list_any p xs) ≡ true → (n : ℕ) × (z : X) × (slice_get (x ∷ xs) n ≡ Some z) × (p z ≡ true)) [
  | true ↦ λ f g. (zero, x, refl, f)
  | false ↦ λ f g. let k = found_at p xs g in (suc k.0, k.1, k.2, k.3)
] refl e

pub map_get : {X Y : Type 0} (f : X → Y) (xs : List X) (n : ℕ) (x : X) → slice_get xs n ≡ Some x → slice_get (map f xs) n ≡ Some (f x)
map_get {X} f [] n x e = absurd (let c : ◌≡◌ {A = Option X} None (Some x) = e in cc)
map_get {X} {Y} f (y ∷ xs) zero x e = let c : ◌≡◌ {A = Option X} (Some y) (Some x) = e in let r : y ≡ x = cc in ap (λ z. let o : Option Y = Some (f z) in o) r
map_get f (y ∷ xs) (suc n) x e = map_get f xs n x e

pub zip_get : {X Y : Type 0} (f : X → Y) (xs : List X) (n : ℕ) (x : X) → slice_get xs n ≡ Some x → slice_get (zip xs (map f xs)) n ≡ Some (x, f x)
zip_get {X} f [] n x e = absurd (let c : ◌≡◌ {A = Option X} None (Some x) = e in cc)
zip_get {X} {Y} f (y ∷ xs) zero x e = let c : ◌≡◌ {A = Option X} (Some y) (Some x) = e in let r : y ≡ x = cc in ap (λ z. let o : Option (X × Y) = Some (z, f z) in o) r
zip_get f (y ∷ xs) (suc n) x e = zip_get f xs n x e

pub zip_back : {X Y : Type 0} (f : X → Y) (xs : List X) (n : ℕ) (p : X × Y) → slice_get (zip xs (map f xs)) n ≡ Some p → (x : X) × (slice_get xs n ≡ Some x) × (p ≡ (x, f x))
zip_back {X} {Y} f [] n p e = absurd (let c : ◌≡◌ {A = Option (X × Y)} None (Some p) = e in cc)
zip_back {X} {Y} f (y ∷ xs) zero p e = let c : ◌≡◌ {A = Option (X × Y)} (Some (y, f y)) (Some p) = e in let r : p ≡ (y, f y) = cc in (y, refl, r)
zip_back f (y ∷ xs) (suc n) p e = zip_back f xs n p e

-- ---- lists that rise, one after another
pub all_by : {X : Type 0} (p : X → Bool) (xs : List X) → ((x : X) → Has xs x → p x ≡ true) → list_all p xs ≡ true
all_by p [] h = refl
all_by p (x ∷ xs) h = and_from _ _ (h x (has_head x xs x refl)) (all_by p xs (λ y k. h y (record { at = suc k.at; is = k.is })))

join_rises : {X : Type 0} (before : X → X → Bool) (xs ys : List X) → rises before xs ≡ true → rises before ys ≡ true → ((u v : X) → Has xs u → Has ys v → before u v ≡ true) → rises before (xs ++ ys) ≡ true
join_rises before [] ys r s h = s
join_rises before (x ∷ xs) ys r s h =
    and_from _ _ (all_join (before x) xs ys (and_left _ _ r) (all_by (before x) ys (λ v k. h x v (has_head x xs x refl) k)))
    (join_rises before xs ys (and_right (list_all (before x) xs) _ r) s (λ u v k m. h u v (record { at = suc k.at; is = k.is }) m))

pub flat_rises : {X Y : Type 0} (before : Y → Y → Bool) (f : X → List Y) (xs : List X) → ((n : ℕ) (x : X) → slice_get xs n ≡ Some x → rises before (f x) ≡ true)
    → ((m n : ℕ) (x y : X) → m < n → slice_get xs m ≡ Some x → slice_get xs n ≡ Some y → (u v : Y) → Has (f x) u → Has (f y) v → before u v ≡ true) → rises before (flat_map f xs) ≡ true
flat_rises before f [] h k = refl
flat_rises before f (x ∷ xs) h k =
    join_rises before (f x) (flat_map f xs) (h zero x refl) (flat_rises before f xs (λ n y e. h (suc n) y e) (λ m n y z l e g. k (suc m) (suc n) y z (omega arith) e g))
    (λ u v p q. let w = has_flat f xs v q in k zero (suc w.at) x w.of (omega arith) refl w.of_is u v p w.inside)

pub rises_more : {X : Type 0} (p : X → Bool) (b c : X → X → Bool) → ((u v : X) → p u ≡ true → p v ≡ true → b u v ≡ true → c u v ≡ true) → (xs : List X) → list_all p xs ≡ true → rises b xs ≡ true → rises c xs ≡ true
rises_more p b c h [] e r = refl
rises_more {X} p b c h (x ∷ xs) e r =
    and_from _ _ (each xs (and_right (p x) _ e) (and_left _ _ r)) (rises_more p b c h xs (and_right (p x) _ e) (and_right (list_all (b x) xs) _ r))
  where
    each : (ys : List X) → list_all p ys ≡ true → list_all (b x) ys ≡ true → list_all (c x) ys ≡ true
    each [] f g = refl
    each (y ∷ ys) f g = and_from _ _ (h x y (and_left _ _ e) (and_left _ _ f) (and_left _ _ g)) (each ys (and_right (p y) _ f) (and_right (b x y) _ g))

pub rises_pair : {X : Type 0} (before : X → X → Bool) (xs : List X) (m n : ℕ) (x y : X) → rises before xs ≡ true → m < n → slice_get xs m ≡ Some x → slice_get xs n ≡ Some y → before x y ≡ true
rises_pair {X} before [] m n x y r l e f = absurd (let c : ◌≡◌ {A = Option X} None (Some x) = e in cc)
rises_pair before (z ∷ xs) m zero x y r l e f = absurd (omega arith)
rises_pair {X} before (z ∷ xs) zero (suc n) x y r l e f =
    let c : ◌≡◌ {A = Option X} (Some z) (Some x) = e in let q : z ≡ x = cc in
    ap (λ (w : X). before w y) (sym q) ∙ all_get (before z) xs n y (and_left _ _ r) f
rises_pair before (z ∷ xs) (suc m) (suc n) x y r l e f = rises_pair before xs m n x y (and_right (list_all (before z) xs) _ r) (omega arith) e f

pub mapped_at : {X Y : Type 0} (f : X → Y) (xs : List X) (n : ℕ) (y : Y) → slice_get (map f xs) n ≡ Some y → (x : X) × (slice_get xs n ≡ Some x) × (y ≡ f x)
mapped_at {X} {Y} f [] n y e = absurd (let c : ◌≡◌ {A = Option Y} None (Some y) = e in cc)
mapped_at {X} {Y} f (x ∷ xs) zero y e = let c : ◌≡◌ {A = Option Y} (Some (f x)) (Some y) = e in let r : y ≡ f x = cc in (x, refl, r)
mapped_at f (x ∷ xs) (suc n) y e = mapped_at f xs n y e
