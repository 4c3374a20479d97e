-- Queues that are put on a shelf, one place after another.
use Rattle.std.proofs.Common.{◌≡◌, ◌∙◌, refl, sym, ap, ℕ, zero, suc, ◌+◌, ◌≤◌, List, [], ◌∷◌, ◌++◌, length, Option, Some, None, slice_get, slice_set, unwrap_or, arith}
use Rattle.sched_model.specs.Lists.{at}
use Rattle.std.proofs.lemmas.Option.{none-some, same_Some}
use Rattle.sched_ready.proofs.LeadLemmas.{one_longer}
use Rattle.sched_ready.specs.Patched.{put_at, put_queues}
use Rattle.sched_ready.specs.declared.queues.Queue.{Queue}

-- those that are left, from a place on
abbrev pub put_from : ℕ → List (Option Queue) → List Queue → List Queue
put_from n [] qs = qs
put_from n (o ∷ os) qs = put_from (n + 1) os (put_at n o qs)

set_behind : (qs : List Queue) (n : ℕ) (q : Queue) → length qs ≤ n → slice_set qs n q ≡ qs
set_behind [] n q l = refl
set_behind (x ∷ qs) zero q l = absurd (omega arith)
set_behind (x ∷ qs) (suc n) q l = ap (λ rs. x ∷ rs) (set_behind qs n q (omega arith))

at_behind : (n : ℕ) (o : Option Queue) (qs : List Queue) → length qs ≤ n → put_at n o qs ≡ qs
at_behind n None qs l = refl
at_behind n (Some q) qs l = set_behind qs n q l

-- behind the last place nothing is put
pub put_behind : (n : ℕ) (os : List (Option Queue)) (qs : List Queue) → length qs ≤ n → put_from n os qs ≡ qs
put_behind n [] qs l = refl
put_behind n (o ∷ os) qs l = ap (put_from (n + 1) os) (at_behind n o qs l) ∙ put_behind (n + 1) os qs (omega (arith, l))

set_there : (ps : List Queue) (x q : Queue) (qs : List Queue) → slice_set (ps ++ x ∷ qs) (length ps) q ≡ ps ++ q ∷ qs
set_there [] x q qs = refl
set_there (p ∷ ps) x q qs = ap (λ rs. p ∷ rs) (set_there ps x q qs)

at_there : (ps : List Queue) (x : Queue) (o : Option Queue) (qs : List Queue) → put_at (length ps) o (ps ++ x ∷ qs) ≡ ps ++ unwrap_or o x ∷ qs
at_there ps x None qs = refl
at_there ps x (Some q) qs = set_there ps x q qs

append_one : (ps : List Queue) (x : Queue) (qs : List Queue) → ps ++ x ∷ qs ≡ (ps ++ x ∷ []) ++ qs
append_one [] x qs = refl
append_one (p ∷ ps) x qs = ap (λ rs. p ∷ rs) (append_one ps x qs)

append_none : (ps : List Queue) → ps ++ [] ≡ ps
append_none [] = refl
append_none (p ∷ ps) = ap (λ rs. p ∷ rs) (append_none ps)

from_there : (ps : List Queue) (os : List (Option Queue)) (qs : List Queue) → put_from (length ps) os (ps ++ qs) ≡ ps ++ put_queues os qs
from_there ps [] qs = refl
from_there ps (o ∷ os) [] = let l : length (ps ++ []) ≤ length ps = (let e = ap (λ (rs : List Queue). length rs) (append_none ps) in omega (arith, e)) in put_behind (length ps) (o ∷ os) (ps ++ []) l
from_there ps (o ∷ os) (q ∷ qs) =
    let x : Queue = unwrap_or o q in
    ap (put_from (length ps + 1) os) (at_there ps q o qs ∙ append_one ps x qs)
    ∙ (ap (λ n. put_from n os ((ps ++ x ∷ []) ++ qs)) (sym (one_longer ps x))
    ∙ (from_there (ps ++ x ∷ []) os qs ∙ sym (append_one ps x (put_queues os qs))))

-- from the first place on
pub put_first : (os : List (Option Queue)) (qs : List Queue) → put_from 0 os qs ≡ put_queues os qs
put_first os qs = from_there [] os qs

-- ---- one shelf of some
pub set_is_at : {X : Type 0} (f : X → X) (n : ℕ) (xs : List X) (x : X) → slice_get xs n ≡ Some x → slice_set xs n (f x) ≡ at f n xs
set_is_at f n [] x e = absurd (none-some x e)
set_is_at f zero (y ∷ xs) x e = ap (λ z. f z ∷ xs) (sym (same_Some y x e))
set_is_at f (suc n) (y ∷ xs) x e = ap (λ ys. y ∷ ys) (set_is_at f n xs x e)

pub at_beyond : {X : Type 0} (f : X → X) (n : ℕ) (xs : List X) → length xs ≤ n → at f n xs ≡ xs
at_beyond f n [] l = refl
at_beyond f zero (y ∷ xs) l = absurd (omega arith)
at_beyond f (suc n) (y ∷ xs) l = ap (λ ys. y ∷ ys) (at_beyond f n xs (omega arith))
