-- Open tries that are lost, one instance and one run after another.
use Rattle.std.proofs.Common.{◌≡◌, ◌∙◌, refl, sym, ap, subst, ℕ, zero, suc, ◌+◌, ◌≤◌, List, [], ◌∷◌, Bool, false, is_none, length, map, Option, Some, None, option_map, unwrap_or, slice_get, true≢false, arith}
use Rattle.std.specs.List.{list_any}
use Rattle.instance_machine.specs.Instances.{InstanceValue, map_tries}
use Rattle.instance_machine.specs.Reports.{lost_try, lost_if}
use Rattle.instance_machine.specs.declared.tries.Try.{Try}
use Rattle.sched_state.specs.declared.runs.Run.{Run}
use Rattle.sched_state.proofs.OrderLemmas.{or_left, or_right}
use Rattle.sched_model.specs.Changes.{map_all_tries, map_tries_of}
use Rattle.sched_model.specs.Handout.{in_instance}
use Rattle.sched_model.specs.Lists.{at}
use Rattle.sched_model.specs.Schedule.{Schedule}
use Rattle.sched_model.specs.States.{is_open}
use Rattle.sched_clearing.proofs.SettingLemmas.{at_get, at_at, at_same, at_none}
use Rattle.run_lists.specs.Positions.{has_open}

-- ---- the first k elements are changed
abbrev pub changed_to : {X : Type 0} → (X → X) → ℕ → List X → List X
changed_to f zero xs = xs
changed_to f (suc k) [] = []
changed_to f (suc k) (x ∷ xs) = f x ∷ changed_to f k xs

to_next : {X : Type 0} (f : X → X) (k : ℕ) (xs : List X) → at f k (changed_to f k xs) ≡ changed_to f (suc k) xs
to_next f zero [] = refl
to_next f zero (x ∷ xs) = refl
to_next f (suc k) [] = refl
to_next f (suc k) (x ∷ xs) = ap (λ ys. f x ∷ ys) (to_next f k xs)

to_stays : {X : Type 0} (f : X → X) (k : ℕ) (xs : List X) (x : X) → slice_get xs k ≡ Some x → f x ≡ x → changed_to f k xs ≡ changed_to f (suc k) xs
to_stays {X} f k [] x e h = absurd (let c : ◌≡◌ {A = Option X} None (Some x) = e in cc)
to_stays {X} f zero (y ∷ xs) x e h =
    let c : ◌≡◌ {A = Option X} (Some y) (Some x) = e in let i : x ≡ y = cc in ap (λ z. z ∷ xs) (sym (subst (λ z. f z ≡ z) i h))
to_stays f (suc k) (y ∷ xs) x e h = ap (λ ys. f y ∷ ys) (to_stays f k xs x e h)

to_there : {X : Type 0} (f : X → X) (k : ℕ) (xs : List X) → slice_get (changed_to f k xs) k ≡ slice_get xs k
to_there f zero xs = refl
to_there f (suc k) [] = refl
to_there f (suc k) (x ∷ xs) = to_there f k xs

to_long : {X : Type 0} (f : X → X) (k : ℕ) (xs : List X) → length (changed_to f k xs) ≡ length xs
to_long f zero xs = refl
to_long f (suc k) [] = refl
to_long f (suc k) (x ∷ xs) = ap suc (to_long f k xs)

to_all : {X : Type 0} (f : X → X) (k : ℕ) (xs : List X) → length xs ≤ k → changed_to f k xs ≡ map f xs
to_all f zero [] b = refl
to_all f (suc k) [] b = refl
to_all f zero (x ∷ xs) b = absurd (omega arith)
to_all f (suc k) (x ∷ xs) b = ap (λ ys. f x ∷ ys) (to_all f k xs (omega arith))

one_more : {X : Type 0} (f : X → X) (k : ℕ) (xs : List X) → changed_to f (suc k) xs ≡ changed_to f (k + 1) xs
one_more f k xs = let e : suc k ≡ k + 1 = omega arith in ap (λ n. changed_to f n xs) e

at_by : {X : Type 0} (f g : X → X) → ((x : X) → f x ≡ g x) → (n : ℕ) (xs : List X) → at f n xs ≡ at g n xs
at_by f g h n [] = refl
at_by f g h zero (x ∷ xs) = ap (λ y. y ∷ xs) (h x)
at_by f g h (suc n) (x ∷ xs) = ap (λ ys. x ∷ ys) (at_by f g h n xs)

-- ---- the first k instances of a run
abbrev pub in_run : (Try → Try) → ℕ → Run → Run
in_run g k r = record r { instances = changed_to (map_tries g) k r.instances }

abbrev pub lost_in : ℕ → ℕ → Schedule → Schedule
lost_in m k a = record a { runs = at (in_run (lost_try a.now) k) m a.runs }

pub lose_begins : (m : ℕ) (a : Schedule) → a ≡ lost_in m 0 a
lose_begins m a = ap (λ rs. record a { runs = rs }) (sym (at_none (in_run (lost_try a.now) 0) m a.runs (λ r. refl)))

pub lose_turn : (m k : ℕ) (a d b : Schedule) → d ≡ lost_in m k a → b ≡ record d { runs = at (in_instance (map_tries (lost_try d.now)) k) m d.runs } → b ≡ lost_in m (k + 1) a
lose_turn m k a d b was is =
    let g : Try → Try = lost_try a.now in
    is ∙ (ap (λ (x : Schedule). record x { runs = at (in_instance (map_tries (lost_try x.now)) k) m x.runs }) was
    ∙ ap (λ rs. record a { runs = rs }) (at_at (in_run g k) (in_instance (map_tries g) k) m a.runs
    ∙ at_by (λ r. in_instance (map_tries g) k (in_run g k r)) (in_run g (k + 1)) (λ r. ap (λ is. record r { instances = is }) (to_next (map_tries g) k r.instances ∙ one_more (map_tries g) k r.instances)) m a.runs))

pub lose_count : (m k : ℕ) (a d : Schedule) (r : Run) → slice_get a.runs m ≡ Some r → d ≡ lost_in m k a
    → unwrap_or (option_map (λ (q : Run). length q.instances) (slice_get d.runs m)) 0 ≡ length r.instances
lose_count m k a d r there was =
    let g : Try → Try = lost_try a.now in
    ap (λ (x : Schedule). unwrap_or (option_map (λ (q : Run). length q.instances) (slice_get x.runs m)) 0) was
    ∙ (ap (λ (o : Option Run). unwrap_or (option_map (λ (q : Run). length q.instances) o) 0) (at_get (in_run g k) a.runs m r there) ∙ to_long (map_tries g) k r.instances)

pub lose_over : (m k : ℕ) (a d : Schedule) (r : Run) → slice_get a.runs m ≡ Some r → length r.instances ≤ k → d ≡ lost_in m k a → d ≡ record a { runs = at (map_tries_of (lost_try a.now)) m a.runs }
lose_over m k a d r there over was =
    let g : Try → Try = lost_try a.now in
    was ∙ ap (λ rs. record a { runs = rs }) (at_same (in_run g k) (map_tries_of g) a.runs m r there (ap (λ is. record r { instances = is }) (to_all (map_tries g) k r.instances over)))

-- ---- the first n runs
abbrev pub lost_to : ℕ → Schedule → Schedule
lost_to n a = record a { runs = changed_to (map_tries_of (lost_try a.now)) n a.runs }

pub losing_long : (n : ℕ) (a d : Schedule) → d ≡ lost_to n a → length d.runs ≡ length a.runs
losing_long n a d was = ap (λ (x : Schedule). length x.runs) was ∙ to_long (map_tries_of (lost_try a.now)) n a.runs

pub losing_turn : (n : ℕ) (a d b : Schedule) → d ≡ lost_to n a → b ≡ record d { runs = at (map_tries_of (lost_try d.now)) n d.runs } → b ≡ lost_to (n + 1) a
losing_turn n a d b was is =
    let f : Run → Run = map_tries_of (lost_try a.now) in
    is ∙ (ap (λ (x : Schedule). record x { runs = at (map_tries_of (lost_try x.now)) n x.runs }) was
    ∙ ap (λ rs. record a { runs = rs }) (to_next f n a.runs ∙ one_more f n a.runs))

-- a run without open tries stays
try_stays : (now : ℕ) (t : Try) → is_open t ≡ false → lost_try now t ≡ t
try_stays now t = elim t.ended as (λ o. is_none o ≡ false → lost_if now o t ≡ t) [
  | None ↦ λ e. absurd (true≢false e)
  | Some x ↦ λ e. refl
]

tries_stay : (now : ℕ) (ts : List Try) → list_any is_open ts ≡ false → map (lost_try now) ts ≡ ts
tries_stay now [] e = refl
tries_stay now (t ∷ ts) e =
    ap (λ s. s ∷ map (lost_try now) ts) (try_stays now t (or_left (is_open t) (list_any is_open ts) e))
    ∙ ap (λ ss. t ∷ ss) (tries_stay now ts (or_right (is_open t) (list_any is_open ts) e))

instances_stay : (now : ℕ) (is : List InstanceValue) → list_any (λ (i : InstanceValue). list_any is_open i.tries) is ≡ false → map (map_tries (lost_try now)) is ≡ is
instances_stay now [] e = refl
instances_stay now (i ∷ is) e =
    let p : InstanceValue → Bool = λ (j : InstanceValue). list_any is_open j.tries in
    ap (λ j. j ∷ map (map_tries (lost_try now)) is) (ap (λ ts. record i { tries = ts }) (tries_stay now i.tries (or_left (p i) (list_any p is) e)))
    ∙ ap (λ js. i ∷ js) (instances_stay now is (or_right (p i) (list_any p is) e))

pub losing_pass : (n : ℕ) (a d : Schedule) (r : Run) → slice_get d.runs n ≡ Some r → has_open r ≡ false → d ≡ lost_to n a → d ≡ lost_to (n + 1) a
losing_pass n a d r there none was =
    let f : Run → Run = map_tries_of (lost_try a.now) in
    let here : slice_get a.runs n ≡ Some r = sym (ap (λ (x : Schedule). slice_get x.runs n) was ∙ to_there f n a.runs) ∙ there in
    was ∙ ap (λ rs. record a { runs = rs }) (to_stays f n a.runs r here (ap (λ is. record r { instances = is }) (instances_stay a.now r.instances none)) ∙ one_more f n a.runs)

pub losing_over : (n : ℕ) (a d : Schedule) → length a.runs ≤ n → d ≡ lost_to n a → d ≡ map_all_tries (lost_try a.now) a
losing_over n a d over was = was ∙ ap (λ rs. record a { runs = rs }) (to_all (map_tries_of (lost_try a.now)) n a.runs over)
