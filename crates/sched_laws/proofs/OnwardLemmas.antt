-- Each run that is there goes on, as a relation of two runs has it.
use Rattle.std.proofs.Common.{◌≡◌, ◌∙◌, sym, ap, subst, ℕ, zero, suc, ◌+◌, List, [], ◌∷◌, Bool, true, false, not, ◌||◌, cond, find, Option, Some, None, option_map, slice_get, is_some, true≢false, refl}
use Rattle.std.specs.List.{list_any}
use Rattle.std.proofs.lemmas.Bool.{eqb-true}
use Rattle.sched_model.specs.sched_state.Lists.{same, insert_by, repeat, change_from}
use Rattle.sched_model.specs.sched_state.declared.runs.Run.{Run}
use Rattle.sched_model.proofs.sched_state.NameLemmas.{same_is}
use Rattle.sched_model.proofs.sched_state.OrderLemmas.{and_left, and_right, not_false}
use Rattle.sched_model.proofs.sched_state.RepeatLemmas.{repeat_done, repeat_more}
use Rattle.sched_model.specs.Lists.{at}
use Rattle.sched_model.specs.NamedRuns.{NamedRun, is_for, queued_run, add_runs}
use Rattle.sched_model.specs.Schedule.{Schedule, is_at, run_before, graph_named, has_run_at}
use Rattle.sched_model.specs.Sound.{is_new, are_new}
use Rattle.sched_laws.specs.Runs.{named_as}
use Rattle.sched_laws.specs.Tries.{run_at}
use Rattle.sched_laws.proofs.AddLemmas.{added}
use Rattle.sched_laws.proofs.KeyLemmas.{is_key}
use Rattle.sched_laws.proofs.ListLemmas.{change_here}

-- a way in which a run may go on: as it is, further and further, and under its name
pub record IsOnward (R : Run → Run → Type 0) : Type 0 where
  pub still : (r : Run) → R r r
  pub further : (r q w : Run) → R r q → R q w → R r w
  pub named : (r q : Run) → R r q → named_as q ≡ named_as r

-- each run of the first list stands in the second, and goes on so
abbrev pub AllBy : (Run → Run → Type 0) → List Run → List Run → Type 0
AllBy R rs qs = (id : List ℕ) (date : ℕ) (r : Run) → run_at id date rs ≡ Some r → (q : Run) × (run_at id date qs ≡ Some q) × R r q

pub by_still : (R : Run → Run → Type 0) → IsOnward R → (rs : List Run) → AllBy R rs rs
by_still R on rs id date r e = (r, e, on.still r)

pub by_further : (R : Run → Run → Type 0) → IsOnward R → (rs qs ws : List Run) → AllBy R rs qs → AllBy R qs ws → AllBy R rs ws
by_further R on rs qs ws f g id date r e =
    let q = f id date r e in
    let w = g id date q.0 q.1 in
    (w.0, w.1, on.further r q.0 w.0 q.2 w.2)

-- ---- one run after another
pub by_first : (R : Run → Run → Type 0) → IsOnward R → (r q : Run) (rs qs : List Run) → R r q → AllBy R rs qs → AllBy R (r ∷ rs) (q ∷ qs)
by_first R on r q rs qs g h id date w e =
    let alike : is_at id date q ≡ is_at id date r = ap (is_key id date) (on.named r q g) in
    elim (is_at id date r) as (λ b. is_at id date q ≡ b → cond b (Some r) (find (is_at id date) rs) ≡ Some w → (v : Run) × (find (is_at id date) (q ∷ qs) ≡ Some v) × R w v) [
      | true ↦ λ at_q f. let c : ◌≡◌ {A = Option Run} (Some r) (Some w) = f in let is : r ≡ w = cc in
          (q, ap (λ b. cond b (Some q) (find (is_at id date) qs)) at_q, subst (λ (x : Run). R x q) is g)
      | false ↦ λ at_q f. let v = h id date w f in (v.0, ap (λ b. cond b (Some q) (find (is_at id date) qs)) at_q ∙ v.1, v.2)
    ] alike e

-- the run at a position
pub by_at : (R : Run → Run → Type 0) → IsOnward R → (g : Run → Run) (n : ℕ) (rs : List Run) → ((r : Run) → slice_get rs n ≡ Some r → R r (g r)) → AllBy R rs (at g n rs)
by_at R on g n [] h = by_still R on []
by_at R on g zero (r ∷ rs) h = by_first R on r (g r) rs rs (h r refl) (by_still R on rs)
by_at R on g (suc n) (r ∷ rs) h = by_first R on r r rs (at g n rs) (on.still r) (by_at R on g n rs (λ q e. h q e))

-- the first run that is changed
pub by_change : (R : Run → Run → Type 0) → IsOnward R → (f : ℕ → Run → Option Run) → ((i : ℕ) (r q : Run) → f i r ≡ Some q → R r q) → (i : ℕ) (rs qs : List Run) → change_from f i rs ≡ Some qs → AllBy R rs qs
by_change R on f h i [] qs e = absurd (let c : ◌≡◌ {A = Option (List Run)} None (Some qs) = e in cc)
by_change R on f h i (r ∷ rs) qs e =
    elim (f i r) as (λ o. f i r ≡ o → change_here f i r rs o ≡ Some qs → AllBy R (r ∷ rs) qs) [
      | Some q ↦ λ p g. let is : qs ≡ q ∷ rs = cc in subst (AllBy R (r ∷ rs)) (sym is) (by_first R on r q rs rs (h i r q p) (by_still R on rs))
      | None ↦ λ p. elim (change_from f (i + 1) rs) as (λ o. change_from f (i + 1) rs ≡ o → option_map (λ ws. r ∷ ws) o ≡ Some qs → AllBy R (r ∷ rs) qs) [
        | None ↦ λ g k. absurd (let c : ◌≡◌ {A = Option (List Run)} None (Some qs) = k in cc)
        | Some ws ↦ λ g k.
            let c : ◌≡◌ {A = Option (List Run)} (Some (r ∷ ws)) (Some qs) = k in
            let is : qs ≡ r ∷ ws = cc in
            subst (AllBy R (r ∷ rs)) (sym is) (by_first R on r r rs ws (on.still r) (by_change R on f h (i + 1) rs ws g))
      ] refl
    ] refl e

-- ---- turns, of which each keeps what is said of the schedule
pub by_turns : (R : Run → Run → Type 0) → IsOnward R → (I : Schedule → Type 0) (f : Schedule → Option Schedule) → ((a b : Schedule) → I a → f a ≡ Some b → I b × AllBy R a.runs b.runs)
    → (n : ℕ) (a : Schedule) → I a → I (repeat n f a) × AllBy R a.runs (repeat n f a).runs
by_turns R on I f h zero a i = (i, by_still R on a.runs)
by_turns R on I f h (suc n) a i = elim (f a) as (λ o. f a ≡ o → I (repeat (suc n) f a) × AllBy R a.runs (repeat (suc n) f a).runs) [
  | None ↦ λ e. subst (λ (b : Schedule). I b × AllBy R a.runs b.runs) (sym (repeat_done (suc n) f a e)) (i, by_still R on a.runs)
  | Some b ↦ λ e.
      let here = h a b i e in
      let later = by_turns R on I f h n b here.0 in
      subst (λ (c : Schedule). I c × AllBy R a.runs c.runs) (sym (repeat_more n f a b e)) (later.0, by_further R on a.runs b.runs (repeat n f b).runs here.1 later.1)
] refl

-- ---- new runs
find_insert : {X : Type 0} (before : X → X → Bool) (p : X → Bool) (x : X) (xs : List X) → p x ≡ false → find p (insert_by before x xs) ≡ find p xs
find_insert before p x [] e = rw e refl
find_insert before p x (y ∷ ys) e = elim (before x y) as (λ b. find p (elim b [ true ↦ x ∷ y ∷ ys | false ↦ y ∷ insert_by before x ys ]) ≡ find p (y ∷ ys)) [
  | true ↦ rw e refl
  | false ↦ ap (λ o. cond (p y) (Some y) o) (find_insert before p x ys e)
]

found_any : {X : Type 0} (p : X → Bool) (xs : List X) (x : X) → find p xs ≡ Some x → list_any p xs ≡ true
found_any {X} p [] x e = absurd (let c : ◌≡◌ {A = Option X} None (Some x) = e in cc)
found_any p (y ∷ ys) x e = elim (p y) as (λ b. cond b (Some y) (find p ys) ≡ Some x → (b || list_any p ys) ≡ true) [
  | true ↦ λ f. refl
  | false ↦ λ f. found_any p ys x f
] e

not_for : (a : Schedule) (n : NamedRun) (id : List ℕ) (date : ℕ) → is_new a n ≡ true → has_run_at a id date ≡ true → is_for id date n ≡ false
not_for a n id date e there = elim (is_for id date n) as (λ b. is_for id date n ≡ b → b ≡ false) [
  | false ↦ λ f. refl
  | true ↦ λ f.
      let graph : n.graph ≡ id = same_is n.graph id (and_left _ _ f) in
      let at_date : n.logical ≡ date = eqb-true n.logical date (and_right (same n.graph id) _ f) in
      let free : has_run_at a n.graph n.logical ≡ false = not_false _ (and_right (is_some (graph_named a n.graph)) _ (and_left _ _ e)) in
      absurd (true≢false (sym there ∙ (ap (λ (k : List ℕ). has_run_at a k date) (sym graph) ∙ (ap (has_run_at a n.graph) (sym at_date) ∙ free))))
] refl

added_find : (a : Schedule) (ns : List NamedRun) (id : List ℕ) (date : ℕ) → are_new a ns ≡ true → has_run_at a id date ≡ true → run_at id date (added a ns) ≡ run_at id date a.runs
added_find a [] id date e there = refl
added_find a (n ∷ ns) id date e there =
    find_insert run_before (is_at id date) (queued_run a n) (added a ns) (not_for a n id date (and_left _ _ e) there)
    ∙ added_find a ns id date (and_right (not (list_any (is_for n.graph n.logical) ns)) _ (and_right (is_new a n) _ e)) there

pub by_added : (R : Run → Run → Type 0) → IsOnward R → (ns : List NamedRun) (a : Schedule) → are_new a ns ≡ true → AllBy R a.runs (add_runs ns a).runs
by_added R on ns a e id date r f = (r, added_find a ns id date e (found_any (is_at id date) a.runs r f) ∙ f, on.still r)
