-- A search through lists of lists.
use Rattle.std.proofs.Common.{◌≡◌, ◌∙◌, refl, sym, ap, ℕ, zero, suc, ◌+◌, ◌<◌, List, [], ◌∷◌, ◌++◌, Bool, true, false, cond, find, flat_map, take, length, get_or, Option, Some, None, arith}

pub find_first : {Y : Type 0} (p : Y → Bool) (xs ys : List Y) (t : Y) → find p xs ≡ Some t → find p (xs ++ ys) ≡ Some t
find_first {Y} p [] ys t e = absurd (let c : ◌≡◌ {A = Option Y} None (Some t) = e in cc)
find_first p (x ∷ xs) ys t e = elim (p x) as (λ b. cond b (Some x) (find p xs) ≡ Some t → cond b (Some x) (find p (xs ++ ys)) ≡ Some t) [
  | true ↦ λ f. f
  | false ↦ λ f. find_first p xs ys t f
] e

pub find_join : {Y : Type 0} (p : Y → Bool) (xs ys : List Y) → find p xs ≡ None → find p (xs ++ ys) ≡ find p ys
find_join p [] ys e = refl
find_join {Y} p (x ∷ xs) ys e = elim (p x) as (λ b. cond b (Some x) (find p xs) ≡ None → cond b (Some x) (find p (xs ++ ys)) ≡ find p ys) [
  | true ↦ λ f. absurd (let c : ◌≡◌ {A = Option Y} (Some x) None = f in cc)
  | false ↦ λ f. find_join p xs ys f
] e

pub none_front : {Y : Type 0} (p : Y → Bool) (xs ys : List Y) → find p (xs ++ ys) ≡ None → find p xs ≡ None
none_front p [] ys e = refl
none_front {Y} p (x ∷ xs) ys e = elim (p x) as (λ b. cond b (Some x) (find p (xs ++ ys)) ≡ None → cond b (Some x) (find p xs) ≡ None) [
  | true ↦ λ f. absurd (let c : ◌≡◌ {A = Option Y} (Some x) None = f in cc)
  | false ↦ λ f. none_front p xs ys f
] e

pub none_back : {Y : Type 0} (p : Y → Bool) (xs ys : List Y) → find p (xs ++ ys) ≡ None → find p ys ≡ None
none_back p xs ys e = sym (find_join p xs ys (none_front p xs ys e)) ∙ e

-- the first k lists have none, and the one at k has it
pub flat_here : {X Y : Type 0} (p : Y → Bool) (f : X → List Y) (xs : List X) (k : ℕ) (x d : X) (t : Y) → k < length xs → x ≡ get_or xs k d → find p (flat_map f (take k xs)) ≡ None
    → find p (f x) ≡ Some t → find p (flat_map f xs) ≡ Some t
flat_here p f [] k x d t inside read none here = absurd (omega arith)
flat_here p f (y ∷ xs) zero x d t inside read none here = find_first p (f y) (flat_map f xs) t (ap (λ z. find p (f z)) (sym read) ∙ here)
flat_here p f (y ∷ xs) (suc k) x d t inside read none here =
    find_join p (f y) (flat_map f xs) (none_front p (f y) (flat_map f (take k xs)) none)
    ∙ flat_here p f xs k x d t (omega arith) read (none_back p (f y) (flat_map f (take k xs)) none) here

-- and where it has none either, the first k + 1 have none
flat_next : {X Y : Type 0} (p : Y → Bool) (f : X → List Y) (xs : List X) (k : ℕ) (x d : X) → k < length xs → x ≡ get_or xs k d → find p (flat_map f (take k xs)) ≡ None
    → find p (f x) ≡ None → find p (flat_map f (take (suc k) xs)) ≡ None
flat_next p f [] k x d inside read none here = absurd (omega arith)
flat_next p f (y ∷ xs) zero x d inside read none here = find_join p (f y) [] (ap (λ z. find p (f z)) (sym read) ∙ here)
flat_next p f (y ∷ xs) (suc k) x d inside read none here =
    find_join p (f y) (flat_map f (take (suc k) xs)) (none_front p (f y) (flat_map f (take k xs)) none)
    ∙ flat_next p f xs k x d (omega arith) read (none_back p (f y) (flat_map f (take k xs)) none) here

pub flat_more : {X Y : Type 0} (p : Y → Bool) (f : X → List Y) (xs : List X) (k : ℕ) (x d : X) → k < length xs → x ≡ get_or xs k d → find p (flat_map f (take k xs)) ≡ None
    → find p (f x) ≡ None → find p (flat_map f (take (k + 1) xs)) ≡ None
flat_more p f xs k x d inside read none here = let e : k + 1 ≡ suc k = omega arith in rw e (flat_next p f xs k x d inside read none here)
