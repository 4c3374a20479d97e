-- What the marks of edits say of the runs.
use Rattle.std.proofs.Common.{◌≡◌, ◌∙◌, refl, sym, ap, subst, ℕ, zero, suc, ◌+◌, ◌<◌, ◌≤◌, Bool, true, false, List, [], ◌∷◌, length, map, Some, slice_get, insert, arith}
use Rattle.std.specs.List.{AllByRecursion}
use Rattle.sched_model.specs.Lists.{at}
use Rattle.sched_state.specs.declared.runs.Run.{Run}
use Rattle.run_lists.specs.declared.edits.Edit.{Edit}
use Rattle.run_lists.specs.Edits.{put_in, puts, edited, added, hidden, FitsAt, RiseFrom, AreEditsOf}
use Rattle.run_lists.specs.Marks.{Mark, Kept, Changed, Added, now_of, runs_of, base_of, HasKeyOf, KeepsKey, Over}
use Rattle.run_lists.proofs.PutLemmas.{map_put}
use Rattle.run_lists.proofs.EditLemmas.{get_before}

-- nothing is touched yet
abbrev pub untouched : List Run → List Mark
untouched rs = map Kept rs

-- the run is another now
abbrev pub given : Run → Mark → Mark
given s (Kept r) = Changed r s
given s (Changed r t) = Changed r s
given s (Added t) = Added s

-- what edits make of each run
abbrev pub marked : List Edit → List Run → List Mark
marked es rs = puts Added given es (untouched rs)

-- ---- the runs as they are
now_given : (s : Run) (m : Mark) → now_of (given s m) ≡ s
now_given s (Kept r) = refl
now_given s (Changed r t) = refl
now_given s (Added t) = refl

runs_untouched : (rs : List Run) → runs_of (untouched rs) ≡ rs
runs_untouched [] = refl
runs_untouched (r ∷ rs) = ap (λ qs. r ∷ qs) (runs_untouched rs)

pub runs_marked : (es : List Edit) (rs : List Run) → runs_of (marked es rs) ≡ edited es rs
runs_marked [] rs = runs_untouched rs
runs_marked (e ∷ es) rs =
    map_put now_of e.is_new e.from (Added e.run) (given e.run) (λ _. e.run) (marked es rs) (now_given e.run)
    ∙ ap (put_in e.is_new e.from e.run (λ _. e.run)) (runs_marked es rs)

-- ---- the runs as they were
base_untouched : (rs : List Run) → base_of (untouched rs) ≡ rs
base_untouched [] = refl
base_untouched (r ∷ rs) = ap (λ qs. r ∷ qs) (base_untouched rs)

base_put : (b : Bool) (n : ℕ) (r s : Run) (ms : List Mark) → base_of (put_in b n (Added r) (given s) ms) ≡ base_of ms
base_put true zero r s ms = refl
base_put true (suc n) r s [] = refl
base_put true (suc n) r s (Kept q ∷ ms) = ap (λ qs. q ∷ qs) (base_put true n r s ms)
base_put true (suc n) r s (Changed q t ∷ ms) = ap (λ qs. q ∷ qs) (base_put true n r s ms)
base_put true (suc n) r s (Added t ∷ ms) = base_put true n r s ms
base_put false n r s [] = refl
base_put false zero r s (Kept q ∷ ms) = refl
base_put false zero r s (Changed q t ∷ ms) = refl
base_put false zero r s (Added t ∷ ms) = refl
base_put false (suc n) r s (Kept q ∷ ms) = ap (λ qs. q ∷ qs) (base_put false n r s ms)
base_put false (suc n) r s (Changed q t ∷ ms) = ap (λ qs. q ∷ qs) (base_put false n r s ms)
base_put false (suc n) r s (Added t ∷ ms) = base_put false n r s ms

pub base_marked : (es : List Edit) (rs : List Run) → base_of (marked es rs) ≡ rs
base_marked [] rs = base_untouched rs
base_marked (e ∷ es) rs = base_put e.is_new e.from e.run e.run (marked es rs) ∙ base_marked es rs

-- ---- how many there are
pub untouched_long : (rs : List Run) → length rs ≤ length (untouched rs)
untouched_long [] = omega arith
untouched_long (r ∷ rs) = let t : length rs ≤ length (untouched rs) = untouched_long rs in omega arith

-- ---- each changed run keeps its key
keys_untouched : (rs : List Run) → AllByRecursion KeepsKey (untouched rs)
keys_untouched [] = tt
keys_untouched (r ∷ rs) = (tt, keys_untouched rs)

keys_added : (n : ℕ) (r : Run) (ms : List Mark) → AllByRecursion KeepsKey ms → AllByRecursion KeepsKey (insert ms n (Added r))
keys_added zero r ms h = (tt, h)
keys_added (suc n) r [] h = (tt, tt)
keys_added (suc n) r (m ∷ ms) h = (h.0, keys_added n r ms h.1)

keys_with : (n : ℕ) (s q : Run) (ms : List Mark) → AllByRecursion KeepsKey ms → slice_get (runs_of ms) n ≡ Some q → HasKeyOf q s → AllByRecursion KeepsKey (at (given s) n ms)
keys_with n s q [] h g k = tt
keys_with zero s q (Kept r ∷ ms) h g k = let e : r ≡ q = cc in (subst (λ (x : Run). HasKeyOf x s) (sym e) k, h.1)
keys_with zero s q (Changed r t ∷ ms) h g k = let e : t ≡ q = cc in ((k.0 ∙ ap (λ (x : Run). x.graph) (sym e) ∙ h.0.0, k.1 ∙ ap (λ (x : Run). x.logical) (sym e) ∙ h.0.1), h.1)
keys_with zero s q (Added t ∷ ms) h g k = (tt, h.1)
keys_with (suc n) s q (m ∷ ms) h g k = (h.0, keys_with n s q ms h.1 g k)

keys_put : (b : Bool) (n : ℕ) (s : Run) (ms : List Mark) (rs : List Run) → AllByRecursion KeepsKey ms → FitsAt b n s rs → (n < n + hidden b → slice_get (runs_of ms) n ≡ slice_get rs n)
    → AllByRecursion KeepsKey (put_in b n (Added s) (given s) ms)
keys_put true n s ms rs h f g = keys_added n s ms h
keys_put false n s ms rs h f g = keys_with n s f.0 ms h (g (omega arith) ∙ f.1) f.2

pub keys_marked : (s i : ℕ) (es : List Edit) (rs : List Run) → RiseFrom s i es rs → AllByRecursion KeepsKey (marked es rs)
keys_marked s i [] rs h = keys_untouched rs
keys_marked s i (e ∷ es) rs h =
    keys_put e.is_new e.from e.run (marked es rs) rs (keys_marked (s + added e.is_new) (e.from + hidden e.is_new) es rs h.3) h.2
    (λ l. ap (λ qs. slice_get qs e.from) (runs_marked es rs) ∙ get_before (λ r. r) (λ r _. r) (s + added e.is_new) (e.from + hidden e.is_new) e.from es rs rs h.3 (omega arith) l)

-- what edits make is over the runs that were there
pub over : (es : List Edit) (rs : List Run) → AreEditsOf rs es → Over (marked es rs) rs (edited es rs)
over es rs h = record { base = base_marked es rs; runs = runs_marked es rs; keys = keys_marked 0 0 es rs h }
