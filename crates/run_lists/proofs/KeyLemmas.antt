-- Which keys runs have after edits: those that were there, and those of the added runs.
use Rattle.std.proofs.Common.{◌≡◌, ◌∙◌, refl, sym, ap, ℕ, zero, suc, ◌+◌, Bool, true, false, ◌&&◌, ◌||◌, ◌==◌, List, [], ◌∷◌, Option, Some, slice_get, insert, arith}
use Rattle.std.specs.List.{list_any}
use Rattle.sched_model.specs.Lists.{at}
use Rattle.sched_model.specs.Schedule.{is_at}
use Rattle.sched_state.specs.Lists.{same}
use Rattle.sched_state.specs.declared.runs.Run.{Run}
use Rattle.run_lists.specs.declared.edits.Edit.{Edit}
use Rattle.run_lists.specs.Edits.{put_in, edited, added, hidden, adds, FitsAt, RiseFrom, AreEditsOf}
use Rattle.run_lists.specs.Marks.{HasKeyOf}
use Rattle.run_lists.proofs.EditLemmas.{get_before}

or_turned : (b c d : Bool) → (b || (c || d)) ≡ (c || (b || d))
or_turned true true d = refl
or_turned true false d = refl
or_turned false c d = refl

or_joined : (b c d : Bool) → (b || (c || d)) ≡ ((b || c) || d)
or_joined true c d = refl
or_joined false c d = refl

any_put : (p : Run → Bool) (n : ℕ) (x : Run) (xs : List Run) → list_any p (insert xs n x) ≡ (p x || list_any p xs)
any_put p zero x xs = refl
any_put p (suc n) x [] = refl
any_put p (suc n) x (y ∷ ys) = ap (λ b. p y || b) (any_put p n x ys) ∙ or_turned (p y) (p x) (list_any p ys)

any_set : (p : Run → Bool) (n : ℕ) (x r : Run) (xs : List Run) → slice_get xs n ≡ Some r → p x ≡ p r → list_any p (at (λ _. x) n xs) ≡ list_any p xs
any_set p n x r [] g e = refl
any_set p zero x r (y ∷ ys) g e = let c : ◌≡◌ {A = Option Run} (Some y) (Some r) = g in let i : y ≡ r = cc in ap (λ b. b || list_any p ys) (e ∙ ap p (sym i))
any_set p (suc n) x r (y ∷ ys) g e = ap (λ b. p y || b) (any_set p n x r ys g e)

key_same : (id : List ℕ) (date : ℕ) (r s : Run) → HasKeyOf r s → is_at id date s ≡ is_at id date r
key_same id date r s k = ap (λ g. same g id && s.logical == date) k.0 ∙ ap (λ n. same r.graph id && n == date) k.1

-- one edit before others
any_next : (id : List ℕ) (date : ℕ) (b : Bool) (n s : ℕ) (x : Run) (es : List Edit) (rs : List Run) → FitsAt b n x rs → RiseFrom (s + added b) (n + hidden b) es rs
    → list_any (is_at id date) (put_in b n x (λ _. x) (edited es rs)) ≡ ((b && is_at id date x) || list_any (is_at id date) (edited es rs))
any_next id date true n s x es rs f h = any_put (is_at id date) n x (edited es rs)
any_next id date false n s x es rs f h =
    any_set (is_at id date) n x f.0 (edited es rs) (get_before (λ r. r) (λ r _. r) (s + 0) (n + 1) n es rs rs h (omega arith) (omega arith) ∙ f.1) (key_same id date f.0 x f.2)

any_from : (id : List ℕ) (date s i : ℕ) (es : List Edit) (rs : List Run) → RiseFrom s i es rs
    → list_any (is_at id date) (edited es rs) ≡ (list_any (adds id date) es || list_any (is_at id date) rs)
any_from id date s i [] rs h = refl
any_from id date s i (e ∷ es) rs h =
    any_next id date e.is_new e.from s e.run es rs h.2 h.3
    ∙ (ap (λ b. adds id date e || b) (any_from id date (s + added e.is_new) (e.from + hidden e.is_new) es rs h.3)
    ∙ or_joined (adds id date e) (list_any (adds id date) es) (list_any (is_at id date) rs))

pub keys_after : (id : List ℕ) (date : ℕ) (es : List Edit) (rs : List Run) → AreEditsOf rs es
    → list_any (is_at id date) (edited es rs) ≡ (list_any (adds id date) es || list_any (is_at id date) rs)
keys_after id date es rs h = any_from id date 0 0 es rs h
