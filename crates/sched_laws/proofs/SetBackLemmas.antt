-- What is made of one run, and of one instance of it, where instances are set.
use Rattle.std.proofs.Common.{◌≡◌, ◌∙◌, refl, sym, ap, subst, ℕ, zero, suc, ◌+◌, List, [], ◌∷◌, Bool, true, false, cond, filter, map, length, drop, nat_le, slice_get, Option, Some, None, option_map, option_and_then, arith, true≢false}
use Rattle.std.specs.List.{zip, enumerate_from}
use Rattle.std.proofs.lemmas.Bool.{le-leb}
use Rattle.std.proofs.lemmas.Option.{slice_get-map}
use Rattle.graph_file.specs.declared.task_specs.TaskSpec.{TaskSpec}
use Rattle.sched_model.specs.instance_machine.Instances.{InstanceValue, recent, last_of}
use Rattle.sched_model.specs.instance_machine.States.{state_of, state_by, state_of_verdict, has_retry}
use Rattle.sched_model.specs.trigger_rules.declared.verdicts.Verdict.{Verdict}
use Rattle.sched_model.specs.instance_machine.declared.tries.Try.{Try}
use Rattle.sched_model.specs.sched_state.declared.runs.Run.{Run}
use Rattle.sched_model.specs.Lists.{map_places}
use Rattle.sched_model.specs.Schedule.{Schedule, tasks_of}
use Rattle.sched_model.specs.Clearing.{Selection, set_to, set_pair, pairs_of, named_in, requeued, with_set, set_if, set_run, set_named}
use Rattle.sched_laws.specs.Repairs.{instance_at}
use Rattle.indexmap.proofs.ReorderLemmas.{slice_get-zip_some}

-- ---- lists
pair_back : {X Y : Type 0} (xs : List X) (ys : List Y) (p : ℕ) (x : X) (y : Y) → slice_get (zip xs ys) p ≡ Some (x, y) → (slice_get xs p ≡ Some x) × (slice_get ys p ≡ Some y)
pair_back {X} {Y} [] ys p x y e = absurd (let c : ◌≡◌ {A = Option (X × Y)} None (Some (x, y)) = e in cc)
pair_back {X} {Y} (z ∷ xs) [] p x y e = absurd (let c : ◌≡◌ {A = Option (X × Y)} None (Some (x, y)) = e in cc)
pair_back {X} {Y} (z ∷ xs) (w ∷ ys) zero x y e =
    let c : ◌≡◌ {A = Option (X × Y)} (Some (z, w)) (Some (x, y)) = e in let is : ◌≡◌ {A = X × Y} (z, w) (x, y) = cc in
    (ap (λ (q : X × Y). Some q.0) is, ap (λ (q : X × Y). Some q.1) is)
pair_back (z ∷ xs) (w ∷ ys) (suc p) x y e = pair_back xs ys p x y e

places_at : {X Y : Type 0} (f : ℕ → X → Y) (k : ℕ) (xs : List X) (p : ℕ) (x : X) → slice_get xs p ≡ Some x → slice_get (map_places f k xs) p ≡ Some (f (k + p) x)
places_at {X} f k [] p x e = absurd (let c : ◌≡◌ {A = Option X} None (Some x) = e in cc)
places_at {X} f k (y ∷ xs) zero x e = let c : ◌≡◌ {A = Option X} (Some y) (Some x) = e in let is : y ≡ x = cc in let z : k + 0 ≡ k = omega arith in rw z (ap (λ u. Some (f k u)) is)
places_at f k (y ∷ xs) (suc p) x e = let z : k + suc p ≡ (k + 1) + p = omega arith in rw z (places_at f (k + 1) xs p x e)

-- what none of the numbered elements passes
none_at : {X : Type 0} (q : ℕ × X → Bool) (k : ℕ) (xs : List X) (p : ℕ) (x : X) → filter q (enumerate_from k xs) ≡ [] → slice_get xs p ≡ Some x → q (k + p, x) ≡ false
none_at {X} q k [] p x e f = absurd (let c : ◌≡◌ {A = Option X} None (Some x) = f in cc)
none_at {X} q k (y ∷ xs) p x e f = elim (q (k, y)) as (λ b. q (k, y) ≡ b → cond b ((k, y) ∷ filter q (enumerate_from (k + 1) xs)) (filter q (enumerate_from (k + 1) xs)) ≡ [] → q (k + p, x) ≡ false) [
  | true ↦ λ g h. absurd (let c : ◌≡◌ {A = List (ℕ × X)} ((k, y) ∷ filter q (enumerate_from (k + 1) xs)) [] = h in cc)
  | false ↦ λ g h. there q k y xs p x g h f (λ n. none_at q (k + 1) xs n x h)
] refl e
  where
    there : {X : Type 0} (q : ℕ × X → Bool) (k : ℕ) (y : X) (xs : List X) (p : ℕ) (x : X) → q (k, y) ≡ false → filter q (enumerate_from (k + 1) xs) ≡ [] → slice_get (y ∷ xs) p ≡ Some x
        → ((n : ℕ) → slice_get xs n ≡ Some x → q ((k + 1) + n, x) ≡ false) → q (k + p, x) ≡ false
    there {X} q k y xs zero x g h f ih = let c : ◌≡◌ {A = Option X} (Some y) (Some x) = f in let is : y ≡ x = cc in let z : k + 0 ≡ k = omega arith in rw z (ap (λ u. q (k, u)) (sym is) ∙ g)
    there q k y xs (suc n) x g h f ih = let z : k + suc n ≡ (k + 1) + n = omega arith in rw z (ih n f)

none_first : {X : Type 0} (q : ℕ × X → Bool) (xs : List X) (p : ℕ) (x : X) → filter q (enumerate_from 0 xs) ≡ [] → slice_get xs p ≡ Some x → q (p, x) ≡ false
none_first q xs p x e f = let z : 0 + p ≡ p = omega arith in subst (λ n. q (n, x) ≡ false) z (none_at q 0 xs p x e f)

-- none passes where each is passed over
all_passed : {X : Type 0} (q : ℕ × X → Bool) (k : ℕ) (xs : List X) → ((p : ℕ) (x : X) → slice_get xs p ≡ Some x → q (k + p, x) ≡ false) → filter q (enumerate_from k xs) ≡ []
all_passed q k [] h = refl
all_passed q k (y ∷ xs) h =
    let here : q (k, y) ≡ false = let z : k + 0 ≡ k = omega arith in subst (λ n. q (n, y) ≡ false) z (h 0 y refl) in
    rw (here, filter) (all_passed q (k + 1) xs (λ p x e. let z : k + suc p ≡ (k + 1) + p = omega arith in subst (λ n. q (n, x) ≡ false) z (h (suc p) x e)))

-- ---- a run
empty_map : {X Y : Type 0} (f : X → Y) (xs : List X) → map f xs ≡ [] → xs ≡ []
empty_map f [] e = refl
empty_map {X} {Y} f (x ∷ xs) e = absurd (let c : ◌≡◌ {A = List Y} (f x ∷ map f xs) [] = e in cc)

pair_at : (a : Schedule) (r : Run) (p : ℕ) (t : TaskSpec) (i : InstanceValue) → slice_get (tasks_of a r) p ≡ Some t → slice_get r.instances p ≡ Some i → slice_get (pairs_of a r) p ≡ Some (t, i)
pair_at a r p t i e f = slice_get-zip_some (tasks_of a r) r.instances p t i e f

-- where one is named some are
some_named : (v : Option Verdict) (a : Schedule) (named : Selection) (r : Run) (p : ℕ) (t : TaskSpec) (i : InstanceValue) → slice_get (tasks_of a r) p ≡ Some t → slice_get r.instances p ≡ Some i → named r p (t, i) ≡ true
    → set_run v a named r ≡ with_set v a named r
some_named v a named r p t i e f g = elim (named_in a named r) as (λ es. named_in a named r ≡ es → set_if v a named r es ≡ with_set v a named r) [
  | [] ↦ λ h. absurd (true≢false (sym g ∙ none_first (λ (x : ℕ × (TaskSpec × InstanceValue)). named r x.0 x.1) (pairs_of a r) p (t, i) (empty_map (λ (x : ℕ × (TaskSpec × InstanceValue)). x.1) _ h) (pair_at a r p t i e f)))
  | x ∷ xs ↦ λ h. refl
] refl

set_at : (v : Option Verdict) (a : Schedule) (named : Selection) (r : Run) (p : ℕ) (t : TaskSpec) (i : InstanceValue) (b : Bool) → slice_get (tasks_of a r) p ≡ Some t → slice_get r.instances p ≡ Some i → named r p (t, i) ≡ b
    → slice_get (with_set v a named r).instances p ≡ Some (cond b (set_to v i) i)
set_at v a named r p t i b e f g =
    let z : 0 + p ≡ p = omega arith in
    places_at (set_pair v (named r)) 0 (pairs_of a r) p (t, i) (pair_at a r p t i e f) ∙ (ap (λ k. Some (set_pair v (named r) k (t, i))) z ∙ ap (λ c. Some (cond c (set_to v i) i)) g)

pub run_at : (v : Option Verdict) (a : Schedule) (named : Selection) (n : ℕ) (r : Run) → slice_get a.runs n ≡ Some r → slice_get (set_named v named a).runs n ≡ Some (set_run v a named r)
run_at v a named n r e = slice_get-map (set_run v a named) a.runs n ∙ ap (option_map (set_run v a named)) e

pub set_there : (v : Option Verdict) (named : Selection) (a : Schedule) (n p : ℕ) (r : Run) (t : TaskSpec) (i : InstanceValue) → slice_get a.runs n ≡ Some r → slice_get (tasks_of a r) p ≡ Some t → slice_get r.instances p ≡ Some i
    → named r p (t, i) ≡ true → instance_at (set_named v named a) n p ≡ Some (set_to v i)
set_there v named a n p r t i e f g h =
    ap (option_and_then (λ (q : Run). slice_get q.instances p)) (run_at v a named n r e ∙ ap (λ q. Some q) (some_named v a named r p t i f g h)) ∙ set_at v a named r p t i true f g h

pub left_alone : (v : Option Verdict) (named : Selection) (a : Schedule) (n p : ℕ) (r : Run) (t : TaskSpec) (i : InstanceValue) → slice_get a.runs n ≡ Some r → slice_get (tasks_of a r) p ≡ Some t → slice_get r.instances p ≡ Some i
    → named r p (t, i) ≡ false → instance_at (set_named v named a) n p ≡ Some i
left_alone v named a n p r t i e f g h =
    ap (option_and_then (λ (q : Run). slice_get q.instances p)) (run_at v a named n r e)
    ∙ elim (named_in a named r) as (λ es. slice_get (set_if v a named r es).instances p ≡ Some i) [
      | [] ↦ g
      | x ∷ xs ↦ set_at v a named r p t i false f g h
    ]

pub queued_again : (v : Option Verdict) (named : Selection) (a : Schedule) (n p : ℕ) (r : Run) (t : TaskSpec) (i : InstanceValue) → slice_get a.runs n ≡ Some r → slice_get (tasks_of a r) p ≡ Some t → slice_get r.instances p ≡ Some i
    → named r p (t, i) ≡ true → option_map (λ (q : Run). q.phase) (slice_get (set_named v named a).runs n) ≡ Some (requeued r.phase)
queued_again v named a n p r t i e f g h = ap (option_map (λ (q : Run). q.phase)) (run_at v a named n r e ∙ ap (λ q. Some q) (some_named v a named r p t i f g h))

pub untouched_run : (v : Option Verdict) (named : Selection) (a : Schedule) (n : ℕ) (r : Run) → slice_get a.runs n ≡ Some r
    → ((p : ℕ) (t : TaskSpec) (i : InstanceValue) → slice_get (tasks_of a r) p ≡ Some t → slice_get r.instances p ≡ Some i → named r p (t, i) ≡ false) → slice_get (set_named v named a).runs n ≡ Some r
untouched_run v named a n r e none =
    let q : ℕ × (TaskSpec × InstanceValue) → Bool = λ x. named r x.0 x.1 in
    let empty : named_in a named r ≡ [] = ap (map (λ (x : ℕ × (TaskSpec × InstanceValue)). x.1)) (all_passed q 0 (pairs_of a r) (λ p x f. let s = pair_back (tasks_of a r) r.instances p x.0 x.1 f in let z : p ≡ 0 + p = omega arith in subst (λ n. named r n x ≡ false) z (none p x.0 x.1 s.0 s.1))) in
    run_at v a named n r e ∙ ap (λ es. Some (set_if v a named r es)) empty

-- ---- an instance
drop_whole : {X : Type 0} (xs : List X) → drop (length xs) xs ≡ []
drop_whole [] = refl
drop_whole (x ∷ xs) = drop_whole xs

pub none_recent : (v : Option Verdict) (i : InstanceValue) → recent (set_to v i) ≡ []
none_recent v i = drop_whole i.tries

pub set_state : (v : Option Verdict) (t : TaskSpec) (i : InstanceValue) → state_of t (set_to v i) ≡ state_of_verdict v
set_state v t i = ap (λ (ts : List Try). state_by v (nat_le (length ts) t.retries) (last_of ts)) (none_recent v i)

pub allowed_anew : (v : Option Verdict) (t : TaskSpec) (i : InstanceValue) → has_retry t (set_to v i) ≡ true
allowed_anew v t i = ap (λ (ts : List Try). nat_le (length ts) t.retries) (none_recent v i) ∙ le-leb 0 t.retries (omega arith)
