-- The runs after an event are those before it and the named ones; and no two have one key.
use Rattle.std.specs.Ordering.{ordering_then}
use Rattle.sched_laws.proofs.GraphLemmas.{tie_flips}
use Rattle.std.proofs.Common.{◌≡◌, refl, sym, ap, subst, ◌∙◌, ℕ, zero, suc, ◌<◌, List, [], ◌∷◌, ◌++◌, Bool, true, false, ◌&&◌, ◌||◌, ◌==◌, map, Option, Some, None, slice_get, true≢false, nat_cmp}
use Rattle.std.specs.List.{list_any, list_all}
use Rattle.std.specs.List.Sorted.{IsPermutation}
use Rattle.std.proofs.lemmas.Bool.{eq-eqb, and_from}
use Rattle.dag_check.specs.Orders.{is_in, repeated}
use Rattle.sched_model.specs.instance_machine.declared.tries.Try.{Try}
use Rattle.sched_model.specs.sched_state.Lists.{same, repeat, name_cmp}
use Rattle.sched_model.proofs.sched_state.OrderLemmas.{and_left, and_right, or_left, or_right, not_false, any_map, map_keeps, less_no_tie}
use Rattle.sched_model.proofs.sched_state.RepeatLemmas.{repeat_done, repeat_more}
use Rattle.sched_model.proofs.sched_state.NameLemmas.{same_itself}
use Rattle.sched_model.specs.Lists.{rises}
use Rattle.sched_model.specs.Schedule.{Schedule, has_run_at, is_at, run_before}
use Rattle.sched_model.specs.sched_state.declared.runs.Run.{Run}
use Rattle.sched_model.specs.Settle.{move, move_runs, with_runs, settle, moves_left}
use Rattle.sched_model.specs.Handout.{hand, hand_one, best_offer, serials_left, in_instance, with_try, new_try}
use Rattle.sched_model.specs.NamedRuns.{NamedRun, is_for, add_runs}
use Rattle.sched_model.specs.Changes.{advance, map_tries_of, map_all_tries}
use Rattle.sched_model.specs.trigger_rules.declared.verdicts.Verdict.{Verdict}
use Rattle.sched_model.specs.Clearing.{Selection, set_named, clear}
use Rattle.sched_model.specs.Sound.{IsSound, serials_of, is_used}
use Rattle.sched_laws.specs.Runs.{runs_named}
use Rattle.sched_laws.proofs.ListLemmas.{all_get}
use Rattle.sched_laws.proofs.SettleLemmas.{map_some}
use Rattle.sched_laws.proofs.RunLemmas.{Key, key, move_kin}
use Rattle.sched_laws.proofs.SoundLemmas.{map_at, used_below}
use Rattle.sched_laws.proofs.ClearLemmas.{all_keys}
use Rattle.sched_laws.proofs.AddLemmas.{added_keys, added_names, run_total, key_ties}

abbrev pub is_key : List ℕ → ℕ → Key → Bool
is_key id date k = same k.graph id && k.logical == date

pub by_keys : (a b : Schedule) → map key b.runs ≡ map key a.runs → (id : List ℕ) (date : ℕ) → has_run_at b id date ≡ has_run_at a id date
by_keys a b e id date =
    sym (any_map (is_at id date) (is_key id date) key (λ r. refl) b.runs) ∙ ap (list_any (is_key id date)) e ∙ any_map (is_at id date) (is_key id date) key (λ r. refl) a.runs

-- ---- moves and hand-outs
pub turns_keys : (n : ℕ) (a : Schedule) → map key (repeat n move a).runs ≡ map key a.runs
turns_keys zero a = refl
turns_keys (suc n) a = elim (move a) as (λ o. move a ≡ o → map key (repeat (suc n) move a).runs ≡ map key a.runs) [
  | None ↦ λ e. ap (λ (x : Schedule). map key x.runs) (repeat_done (suc n) move a e)
  | Some b ↦ λ e.
      let t = map_some (with_runs a) (move_runs a) b e in
      let k = move_kin a t.0 t.1 in
      ap (λ (x : Schedule). map key x.runs) (repeat_more n move a b e) ∙ turns_keys n b ∙ ap (λ (x : Schedule). map key x.runs) (sym t.2) ∙ k.keys
] refl

pub hands_keys : (n : ℕ) (a : Schedule) → map key (repeat n hand_one a).runs ≡ map key a.runs
hands_keys zero a = refl
hands_keys (suc n) a = elim (hand_one a) as (λ o. hand_one a ≡ o → map key (repeat (suc n) hand_one a).runs ≡ map key a.runs) [
  | None ↦ λ e. ap (λ (x : Schedule). map key x.runs) (repeat_done (suc n) hand_one a e)
  | Some b ↦ λ e.
      let t = map_some (hand a) (best_offer a) b e in
      ap (λ (x : Schedule). map key x.runs) (repeat_more n hand_one a b e) ∙ hands_keys n b ∙ ap (λ (x : Schedule). map key x.runs) (sym t.2)
      ∙ map_at key (in_instance (with_try (new_try a.next t.0.slots)) t.0.place) t.0.run a.runs (λ r. refl)
] refl

pub advance_keys : (ns : List NamedRun) (a : Schedule) (id : List ℕ) (date : ℕ) → has_run_at (advance ns a) id date ≡ (list_any (is_for id date) ns || has_run_at a id date)
advance_keys ns a id date =
    let b : Schedule = add_runs ns a in
    by_keys (settle b) (advance ns a) (hands_keys (serials_left (settle b)) (settle b)) id date
    ∙ by_keys b (settle b) (turns_keys (moves_left b) b) id date
    ∙ added_keys a ns id date

-- the runs as they were named
advance_kept : (ns : List NamedRun) (a : Schedule) → runs_named (advance ns a) ≡ runs_named (add_runs ns a)
advance_kept ns a = let b : Schedule = add_runs ns a in hands_keys (serials_left (settle b)) (settle b) ∙ turns_keys (moves_left b) b

pub advance_names : (ns : List NamedRun) (a : Schedule) → IsPermutation (ns ++ runs_named a) (runs_named (advance ns a))
advance_names ns a = subst (IsPermutation (ns ++ runs_named a)) (sym (advance_kept ns a)) (added_names a ns)

pub tries_names : (f : Try → Try) (a : Schedule) → runs_named (map_all_tries f a) ≡ runs_named a
tries_names f a = map_keeps key (map_tries_of f) (λ r. refl) a.runs

pub set_names : (v : Option Verdict) (named : Selection) (a : Schedule) → runs_named (set_named v named a) ≡ runs_named a
set_names v named a = all_keys v a named a.runs

pub clear_names : (named : Selection) (a : Schedule) → runs_named (clear named a) ≡ runs_named a
clear_names named a = set_names None named a

pub tries_keys : (f : Try → Try) (a : Schedule) (id : List ℕ) (date : ℕ) → has_run_at (map_all_tries f a) id date ≡ has_run_at a id date
tries_keys f a id date = by_keys a (map_all_tries f a) (map_keeps key (map_tries_of f) (λ r. refl) a.runs) id date

pub clear_keys : (named : Selection) (a : Schedule) (id : List ℕ) (date : ℕ) → has_run_at (clear named a) id date ≡ has_run_at a id date
clear_keys named a id date = by_keys a (clear named a) (clear_names named a) id date

-- ---- each key and each serial once
in_at : (xs : List ℕ) (j s : ℕ) → slice_get xs j ≡ Some s → is_in xs s ≡ true
in_at [] j s e = absurd (let c : ◌≡◌ {A = Option ℕ} None (Some s) = e in cc)
in_at (x ∷ xs) zero s e = let c : ◌≡◌ {A = Option ℕ} (Some x) (Some s) = e in let r : x ≡ s = cc in first_true (x == s) (is_in xs s) (eq-eqb x s r)
  where
    first_true : (b c : Bool) → b ≡ true → (b || c) ≡ true
    first_true true c e = refl
    first_true false c e = absurd (true≢false (sym e))
in_at (x ∷ xs) (suc j) s e = last_true (x == s) (is_in xs s) (in_at xs j s e)
  where
    last_true : (b c : Bool) → c ≡ true → (b || c) ≡ true
    last_true true c e = refl
    last_true false c e = e

first_in : (x s : ℕ) (xs : List ℕ) (j : ℕ) → ◌≡◌ {A = Option ℕ} (Some x) (Some s) → slice_get xs j ≡ Some s → is_in xs x ≡ true
first_in x s xs j e f = let r : s ≡ x = cc in ap (is_in xs) (sym r) ∙ in_at xs j s f

pub once_at : (xs : List ℕ) (i j s : ℕ) → repeated xs ≡ false → slice_get xs i ≡ Some s → slice_get xs j ≡ Some s → i ≡ j
once_at [] i j s d e f = absurd (let c : ◌≡◌ {A = Option ℕ} None (Some s) = e in cc)
once_at (x ∷ xs) zero zero s d e f = refl
once_at (x ∷ xs) zero (suc j) s d e f = absurd (true≢false (sym (first_in x s xs j e f) ∙ or_left (is_in xs x) _ d))
once_at (x ∷ xs) (suc i) zero s d e f = absurd (true≢false (sym (first_in x s xs i f e) ∙ or_left (is_in xs x) _ d))
once_at (x ∷ xs) (suc i) (suc j) s d e f = ap suc (once_at xs i j s (or_right (is_in xs x) _ d) e f)

pub serials_differ : (a : Schedule) (i j s : ℕ) → IsSound a → slice_get (serials_of a) i ≡ Some s → slice_get (serials_of a) j ≡ Some s → i ≡ j
serials_differ a i j s h e f = once_at (serials_of a) i j s (not_false _ h.serials_once) e f

pub serials_below : (a : Schedule) (i s : ℕ) → IsSound a → slice_get (serials_of a) i ≡ Some s → s < a.next
serials_below a i s h e = used_below a.next s (all_get (is_used a.next) (serials_of a) i s h.serials_used e)

-- what ties does not stand before
not_before : (r q : Run) → run_before r q ≡ true → r.graph ≡ q.graph → r.logical ≡ q.logical → ⊥
not_before r q e f g =
    let k : is_at q.graph q.logical r ≡ true = and_from _ _ (ap (λ n. same n q.graph) f ∙ same_itself q.graph) (eq-eqb r.logical q.logical g) in
    true≢false (sym (tie_flips run_total r q ∙ key_ties q r ∙ k) ∙ less_no_tie (ordering_then (name_cmp r.graph q.graph) (nat_cmp r.logical q.logical)) e)

date_at : (rs : List Run) (i j : ℕ) (r q : Run) → rises run_before rs ≡ true → slice_get rs i ≡ Some r → slice_get rs j ≡ Some q → r.graph ≡ q.graph → r.logical ≡ q.logical → i ≡ j
date_at [] i j r q o e f g h = absurd (let c : ◌≡◌ {A = Option Run} None (Some r) = e in cc)
date_at (x ∷ xs) zero zero r q o e f g h = refl
date_at (x ∷ xs) zero (suc j) r q o e f g h =
    let c : ◌≡◌ {A = Option Run} (Some x) (Some r) = e in let w : x ≡ r = cc in
    let b : run_before x q ≡ true = all_get (run_before x) xs j q (and_left (list_all (run_before x) xs) _ o) f in
    absurd (not_before r q (subst (λ (z : Run). run_before z q ≡ true) w b) g h)
date_at (x ∷ xs) (suc i) zero r q o e f g h =
    let c : ◌≡◌ {A = Option Run} (Some x) (Some q) = f in let w : x ≡ q = cc in
    let b : run_before x r ≡ true = all_get (run_before x) xs i r (and_left (list_all (run_before x) xs) _ o) e in
    absurd (not_before q r (subst (λ (z : Run). run_before z r ≡ true) w b) (sym g) (sym h))
date_at (x ∷ xs) (suc i) (suc j) r q o e f g h = ap suc (date_at xs i j r q (and_right (list_all (run_before x) xs) _ o) e f g h)

pub date_once : (a : Schedule) (i j : ℕ) (r q : Run) → IsSound a → slice_get a.runs i ≡ Some r → slice_get a.runs j ≡ Some q → r.graph ≡ q.graph → r.logical ≡ q.logical → i ≡ j
date_once a i j r q s = date_at a.runs i j r q s.runs_by_key
