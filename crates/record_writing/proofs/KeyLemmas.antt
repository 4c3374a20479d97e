-- A table keeps the keys of another where each row of the other has one of its key; and when two rows have one key.
use Rattle.std.proofs.Common.{◌≡◌, ◌∙◌, refl, sym, ap, ℕ, zero, suc, ◌+◌, List, [], ◌∷◌, Bool, true, false, cond, ◌||◌, map, find, zip, slice_get, Option, Some, None, true≢false, arith}
use Rattle.std.specs.List.{list_all, list_any, enumerate_from}
use Rattle.std.proofs.lemmas.Bool.{and_from}
use Rattle.record_rules.proofs.sched_state.OrderLemmas.{and_left, and_right}
use Rattle.record_rules.specs.Between.{are_tied, keeps_keys}
use Rattle.record_rules.proofs.MemberLemmas.{Has, all_by}

-- ---- keys that are kept
any_more : (b c : Bool) → c ≡ true → (b || c) ≡ true
any_more true c e = refl
any_more false c e = e

pub any_get : {X : Type 0} (p : X → Bool) (xs : List X) (n : ℕ) (x : X) → slice_get xs n ≡ Some x → p x ≡ true → list_any p xs ≡ true
any_get {X} p [] n x e h = absurd (let c : ◌≡◌ {A = Option X} None (Some x) = e in cc)
any_get {X} p (y ∷ ys) zero x e h =
    let c : ◌≡◌ {A = Option X} (Some y) (Some x) = e in let r : y ≡ x = cc in
    ap (λ b. b || list_any p ys) (ap p r ∙ h)
any_get p (y ∷ ys) (suc n) x e h = any_more (p y) (list_any p ys) (any_get p ys n x e h)

-- what passes one test passes another
pub any_also : {X : Type 0} (p q : X → Bool) → ((x : X) → p x ≡ true → q x ≡ true) → (xs : List X) → list_any p xs ≡ true → list_any q xs ≡ true
any_also p q h [] e = absurd (true≢false (sym e))
any_also {X} p q h (x ∷ xs) e =
    elim (p x) as (λ b. p x ≡ b → (b || list_any p xs) ≡ true → (q x || list_any q xs) ≡ true) [
      | true ↦ λ f g. ap (λ b. b || list_any q xs) (h x f)
      | false ↦ λ f g. any_more (q x) (list_any q xs) (any_also p q h xs g)
    ] refl e

pub keeps_by : {X : Type 0} (before : X → X → Bool) (xs ys : List X) → ((x : X) → Has xs x → list_any (are_tied before x) ys ≡ true) → keeps_keys before xs ys ≡ true
keeps_by before xs ys h = all_by (λ x. list_any (are_tied before x) ys) xs h

-- a row of each element, which another list has an element for that has its key
pub keeps_mapped : {X Y : Type 0} (before : Y → Y → Bool) (row : X → Y) (xs ys : List X) → list_all (λ x. list_any (λ y. are_tied before (row x) (row y)) ys) xs ≡ true → keeps_keys before (map row xs) (map row ys) ≡ true
keeps_mapped before row [] ys e = refl
keeps_mapped {X} {Y} before row (x ∷ xs) ys e = and_from _ _ (any_mapped ys (and_left _ _ e)) (keeps_mapped before row xs ys (and_right (list_any (λ y. are_tied before (row x) (row y)) ys) _ e))
  where
    any_mapped : (zs : List X) → list_any (λ y. are_tied before (row x) (row y)) zs ≡ true → list_any (are_tied before (row x)) (map row zs) ≡ true
    any_mapped [] f = f
    any_mapped (z ∷ zs) f =
        elim (are_tied before (row x) (row z)) as (λ b. (b || list_any (λ y. are_tied before (row x) (row y)) zs) ≡ true → (b || list_any (are_tied before (row x)) (map row zs)) ≡ true) [
          | true ↦ λ g. refl
          | false ↦ λ g. any_mapped zs g
        ] f

-- each element has its own key
pub all_there : {X : Type 0} (tied : X → X → Bool) → ((x : X) → tied x x ≡ true) → (xs : List X) → list_all (λ x. list_any (tied x) xs) xs ≡ true
all_there tied h xs = all_by (λ x. list_any (tied x) xs) xs (λ x k. any_get (tied x) xs k.at x k.is (h x))

-- ---- what is found
pub found_by : {X : Type 0} (p : X → Bool) (xs : List X) (x : X) → find p xs ≡ Some x → (n : ℕ) × (slice_get xs n ≡ Some x) × (p x ≡ true)
found_by {X} p [] x e = absurd (let c : ◌≡◌ {A = Option X} None (Some x) = e in cc)
found_by {X} p (y ∷ ys) x e =
    elim (p y) as (λ b. p y ≡ b → (let o : Option X = cond b (Some y) (find p ys) in o) ≡ Some x → (n : ℕ) × (slice_get (y ∷ ys) n ≡ Some x) × (p x ≡ true)) [
      | true ↦ λ f g. let c : ◌≡◌ {A = Option X} (Some y) (Some x) = g in let r : y ≡ x = cc in (zero, g, ap p (sym r) ∙ f)
      | false ↦ λ f g. let m = found_by p ys x g in (suc m.0, m.1, m.2)
    ] refl e

pub numbered_at : {X : Type 0} (k : ℕ) (xs : List X) (n : ℕ) (e : ℕ × X) → slice_get (enumerate_from k xs) n ≡ Some e → (x : X) × (slice_get xs n ≡ Some x) × (e ≡ (k + n, x))
numbered_at {X} k [] n e h = absurd (let c : ◌≡◌ {A = Option (ℕ × X)} None (Some e) = h in cc)
numbered_at {X} k (x ∷ xs) zero e h =
    let c : ◌≡◌ {A = Option (ℕ × X)} (Some (k, x)) (Some e) = h in let r : e ≡ (k, x) = cc in
    let z : k ≡ k + 0 = omega arith in
    (x, refl, r ∙ ap (λ (m : ℕ). let p : ℕ × X = (m, x) in p) z)
numbered_at {X} k (x ∷ xs) (suc n) e h =
    let m = numbered_at (k + 1) xs n e h in
    let z : k + 1 + n ≡ k + suc n = omega arith in
    (m.0, m.1, m.2 ∙ ap (λ (i : ℕ). let p : ℕ × X = (i, m.0) in p) z)

pub at_numbered : {X : Type 0} (k : ℕ) (xs : List X) (n : ℕ) (x : X) → slice_get xs n ≡ Some x → slice_get (enumerate_from k xs) n ≡ Some (k + n, x)
at_numbered {X} k [] n x e = absurd (let c : ◌≡◌ {A = Option X} None (Some x) = e in cc)
at_numbered {X} k (y ∷ ys) zero x e =
    let c : ◌≡◌ {A = Option X} (Some y) (Some x) = e in let r : y ≡ x = cc in
    let z : k ≡ k + 0 = omega arith in
    ap (λ (w : X). let o : Option (ℕ × X) = Some (k, w) in o) r ∙ ap (λ (m : ℕ). let o : Option (ℕ × X) = Some (m, x) in o) z
at_numbered {X} k (y ∷ ys) (suc n) x e =
    let z : k + 1 + n ≡ k + suc n = omega arith in
    at_numbered (k + 1) ys n x e ∙ ap (λ (m : ℕ). let o : Option (ℕ × X) = Some (m, x) in o) z

pub second_of : {X Y : Type 0} (xs : List X) (ys : List Y) (n : ℕ) (p : X × Y) → slice_get (zip xs ys) n ≡ Some p → slice_get ys n ≡ Some p.1
second_of {X} {Y} [] ys n p e = absurd (let c : ◌≡◌ {A = Option (X × Y)} None (Some p) = e in cc)
second_of {X} {Y} (x ∷ xs) [] n p e = absurd (let c : ◌≡◌ {A = Option (X × Y)} None (Some p) = e in cc)
second_of {X} {Y} (x ∷ xs) (y ∷ ys) zero p e =
    let c : ◌≡◌ {A = Option (X × Y)} (Some (x, y)) (Some p) = e in let r : (x, y) ≡ p = cc in
    ap (λ (q : X × Y). let o : Option Y = Some q.1 in o) r
second_of (x ∷ xs) (y ∷ ys) (suc n) p e = second_of xs ys n p e

pub first_of_pair : {X Y : Type 0} (xs : List X) (ys : List Y) (n : ℕ) (p : X × Y) → slice_get (zip xs ys) n ≡ Some p → slice_get xs n ≡ Some p.0
first_of_pair {X} {Y} [] ys n p e = absurd (let c : ◌≡◌ {A = Option (X × Y)} None (Some p) = e in cc)
first_of_pair {X} {Y} (x ∷ xs) [] n p e = absurd (let c : ◌≡◌ {A = Option (X × Y)} None (Some p) = e in cc)
first_of_pair {X} {Y} (x ∷ xs) (y ∷ ys) zero p e =
    let c : ◌≡◌ {A = Option (X × Y)} (Some (x, y)) (Some p) = e in let r : (x, y) ≡ p = cc in
    ap (λ (q : X × Y). let o : Option X = Some q.0 in o) r
first_of_pair (x ∷ xs) (y ∷ ys) (suc n) p e = first_of_pair xs ys n p e
