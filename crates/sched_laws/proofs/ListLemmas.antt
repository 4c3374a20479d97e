-- Lists: pairs that pass, the last element, and what a change of one element keeps.
use Rattle.std.proofs.Common.{◌≡◌, refl, sym, ap, subst, ◌∙◌, ℕ, zero, suc, ◌+◌, ◌-◌, ◌<◌, List, [], ◌∷◌, ◌++◌, Bool, true, flat_map, map, length, Option, Some, None, option_map, slice_get, arith, true≢false}
use Rattle.std.specs.List.{list_all}
use Rattle.sched_model.specs.instance_machine.Instances.{last_of}
use Rattle.sched_model.specs.sched_state.Lists.{change_from}
use Rattle.sched_model.proofs.sched_state.OrderLemmas.{and_left, and_right}
use Rattle.sched_model.specs.Lists.{at, all_pairs, but_last}
use Rattle.std.proofs.lemmas.Bool.{and_from}

-- ---- elements that pass
pub all_impl : {X : Type 0} (p q : X → Bool) → ((x : X) → p x ≡ true → q x ≡ true) → (xs : List X) → list_all p xs ≡ true → list_all q xs ≡ true
all_impl p q h [] e = refl
all_impl p q h (x ∷ xs) e = and_from _ _ (h x (and_left _ _ e)) (all_impl p q h xs (and_right (p x) _ e))

pub all_under : {X Y : Type 0} (p : X → Bool) (q : Y → Bool) (f : X → Y) → ((x : X) → p x ≡ true → q (f x) ≡ true) → (xs : List X) → list_all p xs ≡ true → list_all q (map f xs) ≡ true
all_under p q f h [] e = refl
all_under p q f h (x ∷ xs) e = and_from _ _ (h x (and_left _ _ e)) (all_under p q f h xs (and_right (p x) _ e))

pub all_join : {X : Type 0} (p : X → Bool) (xs ys : List X) → list_all p xs ≡ true → list_all p ys ≡ true → list_all p (xs ++ ys) ≡ true
all_join p [] ys e f = f
all_join p (x ∷ xs) ys e f = and_from _ _ (and_left _ _ e) (all_join p xs ys (and_right (p x) _ e) f)

pub all_front : {X : Type 0} (p : X → Bool) (xs ys : List X) → list_all p (xs ++ ys) ≡ true → list_all p xs ≡ true
all_front p [] ys e = refl
all_front p (x ∷ xs) ys e = and_from _ _ (and_left _ _ e) (all_front p xs ys (and_right (p x) _ e))

pub all_back : {X : Type 0} (p : X → Bool) (xs ys : List X) → list_all p (xs ++ ys) ≡ true → list_all p ys ≡ true
all_back p [] ys e = e
all_back p (x ∷ xs) ys e = all_back p xs ys (and_right (p x) _ e)

pub all_get : {X : Type 0} (p : X → Bool) (xs : List X) (n : ℕ) (x : X) → list_all p xs ≡ true → slice_get xs n ≡ Some x → p x ≡ true
all_get {X} p [] n x e f = absurd (let c : ◌≡◌ {A = Option X} None (Some x) = f in cc)
all_get {X} p (y ∷ ys) zero x e f = let c : ◌≡◌ {A = Option X} (Some y) (Some x) = f in let r : y ≡ x = cc in ap p (sym r) ∙ and_left _ _ e
all_get p (y ∷ ys) (suc n) x e f = all_get p ys n x (and_right (p y) _ e) f

-- what passes in all lists passes in each
pub all_flat : {X Y : Type 0} (p : Y → Bool) (f : X → List Y) (xs : List X) → list_all p (flat_map f xs) ≡ true → list_all (λ x. list_all p (f x)) xs ≡ true
all_flat p f [] e = refl
all_flat p f (x ∷ xs) e = and_from _ _ (all_front p (f x) (flat_map f xs) e) (all_flat p f xs (all_back p (f x) (flat_map f xs) e))

-- one element is changed, and passes
pub all_at : {X : Type 0} (p : X → Bool) (g : X → X) (n : ℕ) (xs : List X) (x : X) → list_all p xs ≡ true → slice_get xs n ≡ Some x → p (g x) ≡ true → list_all p (at g n xs) ≡ true
all_at {X} p g n [] x e f h = refl
all_at {X} p g zero (y ∷ ys) x e f h =
    let c : ◌≡◌ {A = Option X} (Some y) (Some x) = f in let r : x ≡ y = cc in
    and_from _ _ (subst (λ (z : X). p (g z) ≡ true) r h) (and_right (p y) _ e)
all_at p g (suc n) (y ∷ ys) x e f h = and_from _ _ (and_left _ _ e) (all_at p g n ys x (and_right (p y) _ e) f h)

-- ---- what change_from keeps
abbrev pub change_here : {X : Type 0} → (ℕ → X → Option X) → ℕ → X → List X → Option X → Option (List X)
change_here f i x xs (Some y) = Some (y ∷ xs)
change_here f i x xs None = option_map (λ ys. x ∷ ys) (change_from f (i + 1) xs)

pub change_all : {X : Type 0} (p : X → Bool) (f : ℕ → X → Option X) → ((i : ℕ) (x y : X) → f i x ≡ Some y → p x ≡ true → p y ≡ true)
    → (i : ℕ) (xs ys : List X) → change_from f i xs ≡ Some ys → list_all p xs ≡ true → list_all p ys ≡ true
change_all {X} p f h i [] ys e a = absurd (let c : ◌≡◌ {A = Option (List X)} None (Some ys) = e in cc)
change_all {X} p f h i (x ∷ xs) ys e a =
    elim (f i x) as (λ o. f i x ≡ o → change_here f i x xs o ≡ Some ys → list_all p ys ≡ true) [
      | Some y ↦ λ q r. let s : ys ≡ y ∷ xs = cc in
          subst (λ (zs : List X). list_all p zs ≡ true) (sym s) (and_from _ _ (h i x y q (and_left _ _ a)) (and_right (p x) _ a))
      | None ↦ λ q. elim (change_from f (i + 1) xs) as (λ o. change_from f (i + 1) xs ≡ o → option_map (λ zs. x ∷ zs) o ≡ Some ys → list_all p ys ≡ true) [
        | None ↦ λ s t. absurd (let c : ◌≡◌ {A = Option (List X)} None (Some ys) = t in cc)
        | Some zs ↦ λ s t.
            let c : ◌≡◌ {A = Option (List X)} (Some (x ∷ zs)) (Some ys) = t in
            let r : ys ≡ x ∷ zs = cc in
            subst (λ (ws : List X). list_all p ws ≡ true) (sym r) (and_from _ _ (and_left _ _ a) (change_all p f h (i + 1) xs zs s (and_right (p x) _ a)))
      ] refl
    ] refl e

pub change_keeps : {X Y : Type 0} (h : X → Y) (f : ℕ → X → Option X) → ((i : ℕ) (x y : X) → f i x ≡ Some y → h y ≡ h x)
    → (i : ℕ) (xs ys : List X) → change_from f i xs ≡ Some ys → map h ys ≡ map h xs
change_keeps {X} h f k i [] ys e = absurd (let c : ◌≡◌ {A = Option (List X)} None (Some ys) = e in cc)
change_keeps {X} {Y} h f k i (x ∷ xs) ys e =
    elim (f i x) as (λ o. f i x ≡ o → change_here f i x xs o ≡ Some ys → map h ys ≡ map h (x ∷ xs)) [
      | Some y ↦ λ q r. let s : ys ≡ y ∷ xs = cc in ap (map h) s ∙ ap (λ (z : Y). z ∷ map h xs) (k i x y q)
      | None ↦ λ q. elim (change_from f (i + 1) xs) as (λ o. change_from f (i + 1) xs ≡ o → option_map (λ zs. x ∷ zs) o ≡ Some ys → map h ys ≡ map h (x ∷ xs)) [
        | None ↦ λ s t. absurd (let c : ◌≡◌ {A = Option (List X)} None (Some ys) = t in cc)
        | Some zs ↦ λ s t.
            let c : ◌≡◌ {A = Option (List X)} (Some (x ∷ zs)) (Some ys) = t in
            let r : ys ≡ x ∷ zs = cc in
            ap (map h) r ∙ ap (λ (ws : List Y). h x ∷ ws) (change_keeps h f k (i + 1) xs zs s)
      ] refl
    ] refl e

-- an element that f never changes stays at its place
later_leaves : {X : Type 0} (z : X) (zs ws : List X) (p : ℕ) (x : X) → slice_get (z ∷ zs) p ≡ Some x → ((k : ℕ) → slice_get zs k ≡ Some x → slice_get ws k ≡ Some x) → slice_get (z ∷ ws) p ≡ Some x
later_leaves z zs ws zero x e h = e
later_leaves z zs ws (suc k) x e h = h k e

here_leaves : {X : Type 0} (o : Option X) (z y : X) (zs : List X) (p : ℕ) (x : X) → slice_get (z ∷ zs) p ≡ Some x → o ≡ Some y → (z ≡ x → o ≡ None) → slice_get (y ∷ zs) p ≡ Some x
here_leaves {X} o z y zs zero x e is none =
    let c : ◌≡◌ {A = Option X} (Some z) (Some x) = e in
    let d : ◌≡◌ {A = Option X} None (Some y) = sym (none cc) ∙ is in absurd (cc)
here_leaves o z y zs (suc k) x e is none = e

pub change_leaves : {X : Type 0} (f : ℕ → X → Option X) (i : ℕ) (xs ys : List X) (p : ℕ) (x : X) → change_from f i xs ≡ Some ys → slice_get xs p ≡ Some x → ((k : ℕ) → f k x ≡ None) → slice_get ys p ≡ Some x
change_leaves {X} f i [] ys p x e there none = absurd (let c : ◌≡◌ {A = Option (List X)} None (Some ys) = e in cc)
change_leaves {X} f i (z ∷ zs) ys p x e there none =
    elim (f i z) as (λ o. f i z ≡ o → change_here f i z zs o ≡ Some ys → slice_get ys p ≡ Some x) [
      | Some y ↦ λ q r. let s : ys ≡ y ∷ zs = cc in
          ap (λ (ws : List X). slice_get ws p) s ∙ here_leaves (f i z) z y zs p x there q (λ is. ap (f i) is ∙ none i)
      | None ↦ λ q. elim (change_from f (i + 1) zs) as (λ o. change_from f (i + 1) zs ≡ o → option_map (λ ws. z ∷ ws) o ≡ Some ys → slice_get ys p ≡ Some x) [
        | None ↦ λ s t. absurd (let c : ◌≡◌ {A = Option (List X)} None (Some ys) = t in cc)
        | Some ws ↦ λ s t.
            let c : ◌≡◌ {A = Option (List X)} (Some (z ∷ ws)) (Some ys) = t in
            let r : ys ≡ z ∷ ws = cc in
            ap (λ (vs : List X). slice_get vs p) r ∙ later_leaves z zs ws p x there (λ k at. change_leaves f (i + 1) zs ws k x s at none)
      ] refl
    ] refl e

-- ---- pairs
pub pairs_change : {X Y : Type 0} (p : X → Y → Bool) (f : ℕ → Y → Option Y) → ((x : X) (i : ℕ) (y z : Y) → f i y ≡ Some z → p x y ≡ true → p x z ≡ true)
    → (i : ℕ) (xs : List X) (ys zs : List Y) → change_from f i ys ≡ Some zs → all_pairs p xs ys ≡ true → all_pairs p xs zs ≡ true
pairs_change {X} {Y} p f h i xs [] zs e a = absurd (let c : ◌≡◌ {A = Option (List Y)} None (Some zs) = e in cc)
pairs_change p f h i [] (y ∷ ys) zs e a = absurd (true≢false (sym a))
pairs_change {X} {Y} p f h i (x ∷ xs) (y ∷ ys) zs e a =
    elim (f i y) as (λ o. f i y ≡ o → change_here f i y ys o ≡ Some zs → all_pairs p (x ∷ xs) zs ≡ true) [
      | Some w ↦ λ q r. let s : zs ≡ w ∷ ys = cc in
          subst (λ (vs : List Y). all_pairs p (x ∷ xs) vs ≡ true) (sym s) (and_from _ _ (h x i y w q (and_left _ _ a)) (and_right (p x y) _ a))
      | None ↦ λ q. elim (change_from f (i + 1) ys) as (λ o. change_from f (i + 1) ys ≡ o → option_map (λ vs. y ∷ vs) o ≡ Some zs → all_pairs p (x ∷ xs) zs ≡ true) [
        | None ↦ λ s t. absurd (let c : ◌≡◌ {A = Option (List Y)} None (Some zs) = t in cc)
        | Some vs ↦ λ s t.
            let c : ◌≡◌ {A = Option (List Y)} (Some (y ∷ vs)) (Some zs) = t in
            let r : zs ≡ y ∷ vs = cc in
            subst (λ (ws : List Y). all_pairs p (x ∷ xs) ws ≡ true) (sym r) (and_from _ _ (and_left _ _ a) (pairs_change p f h (i + 1) xs ys vs s (and_right (p x y) _ a)))
      ] refl
    ] refl e

pub pairs_impl : {X Y : Type 0} (p q : X → Y → Bool) → ((x : X) (y : Y) → p x y ≡ true → q x y ≡ true) → (xs : List X) (ys : List Y) → all_pairs p xs ys ≡ true → all_pairs q xs ys ≡ true
pairs_impl p q h [] [] e = refl
pairs_impl p q h [] (y ∷ ys) e = absurd (true≢false (sym e))
pairs_impl p q h (x ∷ xs) [] e = absurd (true≢false (sym e))
pairs_impl p q h (x ∷ xs) (y ∷ ys) e = and_from _ _ (h x y (and_left _ _ e)) (pairs_impl p q h xs ys (and_right (p x y) _ e))

pub pairs_under : {X Y : Type 0} (p q : X → Y → Bool) (g : Y → Y) → ((x : X) (y : Y) → p x y ≡ true → q x (g y) ≡ true) → (xs : List X) (ys : List Y) → all_pairs p xs ys ≡ true → all_pairs q xs (map g ys) ≡ true
pairs_under p q g h [] [] e = refl
pairs_under p q g h [] (y ∷ ys) e = absurd (true≢false (sym e))
pairs_under p q g h (x ∷ xs) [] e = absurd (true≢false (sym e))
pairs_under p q g h (x ∷ xs) (y ∷ ys) e = and_from _ _ (h x y (and_left _ _ e)) (pairs_under p q g h xs ys (and_right (p x y) _ e))

pub pairs_at : {X Y : Type 0} (p : X → Y → Bool) (g : Y → Y) (n : ℕ) (xs : List X) (ys : List Y) (x : X) (y : Y) → slice_get xs n ≡ Some x → slice_get ys n ≡ Some y
    → all_pairs p xs ys ≡ true → p x (g y) ≡ true → all_pairs p xs (at g n ys) ≡ true
pairs_at {X} {Y} p g n [] [] x y e f a h = refl
pairs_at {X} {Y} p g n [] (w ∷ ys) x y e f a h = absurd (true≢false (sym a))
pairs_at {X} {Y} p g n (v ∷ xs) [] x y e f a h = absurd (true≢false (sym a))
pairs_at {X} {Y} p g zero (v ∷ xs) (w ∷ ys) x y e f a h =
    let c : ◌≡◌ {A = Option X} (Some v) (Some x) = e in let r : x ≡ v = cc in
    let d : ◌≡◌ {A = Option Y} (Some w) (Some y) = f in let s : y ≡ w = cc in
    and_from _ _ (subst (λ (z : X). p z (g w) ≡ true) r (subst (λ (z : Y). p x (g z) ≡ true) s h)) (and_right (p v w) _ a)
pairs_at p g (suc n) (v ∷ xs) (w ∷ ys) x y e f a h = and_from _ _ (and_left _ _ a) (pairs_at p g n xs ys x y e f (and_right (p v w) _ a) h)

pub pairs_get : {X Y : Type 0} (p : X → Y → Bool) (n : ℕ) (xs : List X) (ys : List Y) (x : X) (y : Y) → slice_get xs n ≡ Some x → slice_get ys n ≡ Some y → all_pairs p xs ys ≡ true → p x y ≡ true
pairs_get {X} {Y} p n [] ys x y e f a = absurd (let c : ◌≡◌ {A = Option X} None (Some x) = e in cc)
pairs_get {X} {Y} p n (v ∷ xs) [] x y e f a = absurd (true≢false (sym a))
pairs_get {X} {Y} p zero (v ∷ xs) (w ∷ ys) x y e f a =
    let c : ◌≡◌ {A = Option X} (Some v) (Some x) = e in let r : v ≡ x = cc in
    let d : ◌≡◌ {A = Option Y} (Some w) (Some y) = f in let s : w ≡ y = cc in
    subst (λ (z : X). p z y ≡ true) r (subst (λ (z : Y). p v z ≡ true) s (and_left _ _ a))
pairs_get p (suc n) (v ∷ xs) (w ∷ ys) x y e f a = pairs_get p n xs ys x y e f (and_right (p v w) _ a)

-- ---- the last element
pub but_last_snoc : {X : Type 0} (xs : List X) (x : X) → but_last (xs ++ x ∷ []) ≡ xs
but_last_snoc [] x = refl
but_last_snoc (y ∷ []) x = refl
but_last_snoc (y ∷ z ∷ xs) x = ap (λ ws. y ∷ ws) (but_last_snoc (z ∷ xs) x)

pub but_last_map : {X Y : Type 0} (f : X → Y) (xs : List X) → but_last (map f xs) ≡ map f (but_last xs)
but_last_map f [] = refl
but_last_map f (y ∷ []) = refl
but_last_map f (y ∷ z ∷ xs) = ap (λ ws. f y ∷ ws) (but_last_map f (z ∷ xs))

pub last_more : {X : Type 0} (y z : X) (xs : List X) → last_of (y ∷ z ∷ xs) ≡ last_of (z ∷ xs)
last_more y z xs =
    let e : length (y ∷ z ∷ xs) - 1 ≡ suc (length xs) = omega arith in
    let f : length (z ∷ xs) - 1 ≡ length xs = omega arith in
    ap (slice_get (y ∷ z ∷ xs)) e ∙ sym (ap (slice_get (z ∷ xs)) f)

pub last_split : {X : Type 0} (xs : List X) (x : X) → last_of xs ≡ Some x → xs ≡ but_last xs ++ x ∷ []
last_split {X} [] x e = absurd (let c : ◌≡◌ {A = Option X} None (Some x) = e in cc)
last_split {X} (y ∷ []) x e = let c : ◌≡◌ {A = Option X} (Some y) (Some x) = e in let r : y ≡ x = cc in ap (λ (z : X). z ∷ []) r
last_split (y ∷ z ∷ xs) x e = ap (λ ws. y ∷ ws) (last_split (z ∷ xs) x (sym (last_more y z xs) ∙ e))

some_at : {X : Type 0} (n : ℕ) (xs : List X) → n < length xs → slice_get xs n ≡ None → ⊥
some_at n [] l e = omega arith
some_at {X} zero (x ∷ xs) l e = let c : ◌≡◌ {A = Option X} (Some x) None = e in cc
some_at (suc n) (x ∷ xs) l e = some_at n xs (omega arith) e

pub last_none : {X : Type 0} (xs : List X) → last_of xs ≡ None → xs ≡ []
last_none [] e = refl
last_none (x ∷ xs) e =
    let k : length xs ≡ length (x ∷ xs) - 1 = omega arith in
    absurd (some_at (length xs) (x ∷ xs) (omega arith) (ap (slice_get (x ∷ xs)) k ∙ e))

-- beside each element of the second list stands one of the first, and they pass
pub pairs_some : {X Y : Type 0} (p : X → Y → Bool) (n : ℕ) (xs : List X) (ys : List Y) (y : Y) → slice_get ys n ≡ Some y → all_pairs p xs ys ≡ true → (x : X) × (p x y ≡ true)
pairs_some {X} {Y} p n xs [] y f a = absurd (let c : ◌≡◌ {A = Option Y} None (Some y) = f in cc)
pairs_some p n [] (w ∷ ys) y f a = absurd (true≢false (sym a))
pairs_some {X} {Y} p zero (v ∷ xs) (w ∷ ys) y f a =
    let d : ◌≡◌ {A = Option Y} (Some w) (Some y) = f in let s : w ≡ y = cc in
    (v, subst (λ (z : Y). p v z ≡ true) s (and_left _ _ a))
pairs_some p (suc n) (v ∷ xs) (w ∷ ys) y f a = pairs_some p n xs ys y f (and_right (p v w) _ a)
