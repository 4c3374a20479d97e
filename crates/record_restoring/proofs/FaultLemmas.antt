-- The first row at fault, when rows are gone through in order.
use Rattle.std.proofs.Common.{◌≡◌, refl, sym, ap, subst, ◌∙◌, ℕ, zero, suc, ◌+◌, ◌<◌, ◌≤◌, List, [], ◌∷◌, take, length, Bool, true, false, if◌then◌else◌, Option, Some, None, slice_get, get_or, arith}
use Rattle.std.specs.List.{list_all}
use Rattle.std.proofs.lemmas.Bool.{and_from}
use Rattle.sched_state.proofs.OrderLemmas.{and_left, and_right}
use Rattle.record_rules.specs.Faults.{first_from, first_bad}
use Rattle.std.proofs.lemmas.List.{take_all}
use Rattle.record_rules.proofs.RiseLemmas.{read_at}

from_here : {X : Type 0} (ok : X → Bool) (i : ℕ) (xs : List X) (n : ℕ) (x : X) → list_all ok (take n xs) ≡ true → slice_get xs n ≡ Some x → ok x ≡ false → first_from ok i xs ≡ Some (i + n)
from_here {X} ok i [] n x a e b = absurd (let c : ◌≡◌ {A = Option X} None (Some x) = e in cc)
from_here {X} ok i (y ∷ ys) zero x a e b =
    let c : ◌≡◌ {A = Option X} (Some y) (Some x) = e in let q : y ≡ x = cc in
    let z : i ≡ i + 0 = omega arith in
    ap (λ b. if b then first_from ok (i + 1) ys else (let o : Option ℕ = Some i in o)) (ap ok q ∙ b) ∙ ap (λ n. let o : Option ℕ = Some n in o) z
from_here ok i (y ∷ ys) (suc n) x a e b =
    let z : i + 1 + n ≡ i + suc n = omega arith in
    ap (λ b. if b then first_from ok (i + 1) ys else (let o : Option ℕ = Some i in o)) (and_left _ _ a)
    ∙ from_here ok (i + 1) ys n x (and_right (ok y) _ a) e b ∙ ap (λ n. let o : Option ℕ = Some n in o) z

-- the row at n is the first that does not pass
pub first_here : {X : Type 0} (ok : X → Bool) (xs : List X) (n : ℕ) (x : X) → list_all ok (take n xs) ≡ true → slice_get xs n ≡ Some x → ok x ≡ false → first_bad ok xs ≡ Some n
first_here ok xs n x a e b = let z : 0 + n ≡ n = omega arith in from_here ok 0 xs n x a e b ∙ ap (λ n. let o : Option ℕ = Some n in o) z

from_none : {X : Type 0} (ok : X → Bool) (i : ℕ) (xs : List X) → list_all ok xs ≡ true → first_from ok i xs ≡ None
from_none ok i [] a = refl
from_none ok i (y ∷ ys) a = ap (λ b. if b then first_from ok (i + 1) ys else (let o : Option ℕ = Some i in o)) (and_left _ _ a) ∙ from_none ok (i + 1) ys (and_right (ok y) _ a)

-- all pass
pub first_none : {X : Type 0} (ok : X → Bool) (xs : List X) → list_all ok xs ≡ true → first_bad ok xs ≡ None
first_none ok xs a = from_none ok 0 xs a

-- one more passes
pub all_more : {X : Type 0} (ok : X → Bool) (xs : List X) (n : ℕ) (x : X) → list_all ok (take n xs) ≡ true → slice_get xs n ≡ Some x → ok x ≡ true → list_all ok (take (n + 1) xs) ≡ true
all_more {X = X} ok xs n x a e b = let z : suc n ≡ n + 1 = omega arith in subst (λ m. list_all ok (take m xs) ≡ true) z (on xs n a e)
  where
    on : (ys : List X) (m : ℕ) → list_all ok (take m ys) ≡ true → slice_get ys m ≡ Some x → list_all ok (take (suc m) ys) ≡ true
    on [] m c f = refl
    on (y ∷ ys) zero c f = let d : ◌≡◌ {A = Option X} (Some y) (Some x) = f in let q : y ≡ x = cc in and_from _ _ (ap ok q ∙ b) refl
    on (y ∷ ys) (suc m) c f = and_from _ _ (and_left _ _ c) (on ys m (and_right (ok y) _ c) f)

-- ---- the same, with elements as an index gives them
pub bad_at : {X : Type 0} (ok : X → Bool) (xs : List X) (n : ℕ) (x : X) → n < length xs → x ≡ get_or xs n x → list_all ok (take n xs) ≡ true → ok x ≡ false → first_bad ok xs ≡ Some n
bad_at ok xs n x l e a b = first_here ok xs n x a (read_at xs n x l e) b

pub all_step : {X : Type 0} (ok : X → Bool) (xs : List X) (n : ℕ) (x : X) → n < length xs → x ≡ get_or xs n x → list_all ok (take n xs) ≡ true → ok x ≡ true → list_all ok (take (n + 1) xs) ≡ true
all_step ok xs n x l e a b = all_more ok xs n x a (read_at xs n x l e) b

pub bad_none : {X : Type 0} (ok : X → Bool) (xs : List X) (n : ℕ) → length xs ≤ n → list_all ok (take n xs) ≡ true → first_bad ok xs ≡ None
bad_none ok xs n l a = first_none ok xs (ap (list_all ok) (sym (take_all n xs l)) ∙ a)
