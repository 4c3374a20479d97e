-- A change of one instance leaves each decision that does not look at it.
use Rattle.sched_laws.proofs.SeenLemmas.{map_else}
use Rattle.dag_check.specs.Graphs.{ups}
use Rattle.std.proofs.Common.{◌≡◌, refl, sym, ap, subst, ◌∙◌, ℕ, zero, suc, ◌+◌, List, [], ◌∷◌, Bool, true, false, cond, not, ◌&&◌, ◌||◌, ◌⊎◌, inl, inr, map, Option, Some, None, option_map, option_and_then, unwrap_or, slice_get, arith, true≢false, nat_eq}
use Rattle.std.proofs.lemmas.Bool.{eqb-true, eq-eqb, eqb-false, false_from_ne_true}
use Rattle.sched_model.specs.trigger_rules.declared.verdicts.Verdict.{Verdict}
use Rattle.sched_model.specs.trigger_rules.declared.states.State.TheVariants as state
use Rattle.sched_model.specs.Lists.{at, zip_with, last_passing, or_else}
use Rattle.sched_model.specs.instance_machine.Instances.{InstanceValue}
use Rattle.dag_check.specs.Orders.{is_in}
use Rattle.graph_file.specs.Lists.{when}
use Rattle.graph_file.specs.declared.task_specs.TaskSpec.{TaskSpec}
use Rattle.sched_model.specs.trigger_rules.Rules.{rule_verdict}
use Rattle.sched_model.specs.Schedule.{Schedule, tasks_of, is_running, dag_named}
use Rattle.sched_model.specs.sched_state.declared.runs.Run.{Run}
use Rattle.sched_model.specs.instance_machine.declared.tries.Try.{Try}
use Rattle.sched_model.specs.instance_machine.States.{state_of, opens_gate}
use Rattle.sched_model.specs.States.{state_at, past_is_open, previous, is_earlier}
use Rattle.sched_model.specs.Settle.{decides, decide_task, decide_instance, upstream_states, decided_verdict}
use Rattle.sched_model.specs.Handout.{in_instance}
use Rattle.sched_laws.specs.Sweep.{decision_in, decision, change_at, last_place, previous_at, is_place, looks, looks_in, looks_from}
use Rattle.sched_model.proofs.sched_state.OrderLemmas.{or_left, or_right}

-- ---- lists

-- of numbers that differ by one more
apart_down : (m n : ℕ) → nat_eq (suc m) (suc n) ≡ false → nat_eq m n ≡ false
apart_down m n e = false_from_ne_true (nat_eq m n) (λ f. eqb-false (suc m) (suc n) e (ap suc (eqb-true m n f)))

pub get_at : {X : Type 0} (f : X → X) (n : ℕ) (xs : List X) → slice_get (at f n xs) n ≡ option_map f (slice_get xs n)
get_at f n [] = refl
get_at f zero (x ∷ xs) = refl
get_at f (suc n) (x ∷ xs) = get_at f n xs

pub get_apart : {X : Type 0} (f : X → X) (n m : ℕ) (xs : List X) → nat_eq m n ≡ false → slice_get (at f n xs) m ≡ slice_get xs m
get_apart f n m [] e = refl
get_apart f zero zero (x ∷ xs) e = absurd (true≢false e)
get_apart f zero (suc m) (x ∷ xs) e = refl
get_apart f (suc n) zero (x ∷ xs) e = refl
get_apart f (suc n) (suc m) (x ∷ xs) e = get_apart f n m xs (apart_down m n e)

zip_apart : {X Y Z : Type 0} (f : X → Y → Z) (g : Y → Y) (n m : ℕ) (xs : List X) (ys : List Y) → nat_eq m n ≡ false → slice_get (zip_with f xs (at g n ys)) m ≡ slice_get (zip_with f xs ys) m
zip_apart f g n m [] ys e = refl
zip_apart f g n m (x ∷ xs) [] e = refl
zip_apart f g zero zero (x ∷ xs) (y ∷ ys) e = absurd (true≢false e)
zip_apart f g zero (suc m) (x ∷ xs) (y ∷ ys) e = refl
zip_apart f g (suc n) zero (x ∷ xs) (y ∷ ys) e = refl
zip_apart f g (suc n) (suc m) (x ∷ xs) (y ∷ ys) e = zip_apart f g n m xs ys (apart_down m n e)

-- ---- the states that are looked at

-- elsewhere in the run
pub state_apart : (a : Schedule) (g : InstanceValue → InstanceValue) (n p q : ℕ) (r : Run) → nat_eq q p ≡ false → state_at (change_at g n p a) (in_instance g p r) q ≡ state_at a r q
state_apart a g n p q r e = ap (λ o. unwrap_or o state.None) (zip_apart state_of g p q (tasks_of a r) r.instances e)

not_in : (p u : ℕ) (us : List ℕ) → is_in (u ∷ us) p ≡ false → nat_eq u p ≡ false
not_in p u us e = or_left (nat_eq u p) _ e

upstreams_apart : (a : Schedule) (g : InstanceValue → InstanceValue) (n p : ℕ) (r : Run) (us : List ℕ) → is_in us p ≡ false → map (state_at (change_at g n p a) (in_instance g p r)) us ≡ map (state_at a r) us
upstreams_apart a g n p r [] e = refl
upstreams_apart a g n p r (u ∷ us) e =
    let h : state_at (change_at g n p a) (in_instance g p r) u ≡ state_at a r u = state_apart a g n p u r (not_in p u us e) in
    let ih : map (state_at (change_at g n p a) (in_instance g p r)) us ≡ map (state_at a r) us = upstreams_apart a g n p r us (or_right (nat_eq u p) _ e) in
    rw (h, ih) refl

-- ---- the run before

map_when : {X Y : Type 0} (h : X → Y) (b : Bool) (x y : X) → h x ≡ h y → option_map h (when b x) ≡ option_map h (when b y)
map_when h true x y e = ap (λ z. Some z) e
map_when h false x y e = refl

-- where h of the changed element is as before
pub same_last : {X Y : Type 0} (h : X → Y) (test : X → Bool) (g : X → X) → ((x : X) → test (g x) ≡ test x) → ((x : X) → h (g x) ≡ h x) → (n : ℕ) (xs : List X)
    → option_map h (last_passing test (at g n xs)) ≡ option_map h (last_passing test xs)
same_last h test g k e n [] = refl
same_last h test g k e zero (x ∷ xs) =
    map_else h (last_passing test xs) (when (test (g x)) (g x))
    ∙ ap (or_else (option_map h (last_passing test xs))) (ap (λ b. option_map h (when b (g x))) (k x) ∙ map_when h (test x) (g x) x (e x))
    ∙ sym (map_else h (last_passing test xs) (when (test x) x))
same_last h test g k e (suc n) (x ∷ xs) =
    map_else h (last_passing test (at g n xs)) (when (test x) x)
    ∙ ap (λ o. or_else o (option_map h (when (test x) x))) (same_last h test g k e n xs)
    ∙ sym (map_else h (last_passing test xs) (when (test x) x))

placed : {X : Type 0} (test : X → Bool) (i : ℕ) (xs : List X) (k : ℕ) → last_place test i xs ≡ Some k → (o : Option X) → or_else (last_passing test xs) o ≡ last_passing test xs
placed test i [] k e o = absurd (let c : ◌≡◌ {A = Option ℕ} None (Some k) = e in cc)
placed {X} test i (x ∷ xs) k e o = elim (last_place test (i + 1) xs) as (λ u. last_place test (i + 1) xs ≡ u → (elim u [ Some j ↦ Some j | None ↦ cond (test x) (Some i) None ]) ≡ Some k → or_else (or_else (last_passing test xs) (when (test x) x)) o ≡ or_else (last_passing test xs) (when (test x) x)) [
  | Some j ↦ λ p q. let h : or_else (last_passing test xs) (when (test x) x) ≡ last_passing test xs = placed test (i + 1) xs j p (when (test x) x) in
      ap (λ w. or_else w o) h ∙ placed test (i + 1) xs j p o ∙ sym h
  | None ↦ λ p. elim (test x) as (λ b. cond b (Some i) None ≡ Some k → or_else (or_else (last_passing test xs) (when b x)) o ≡ or_else (last_passing test xs) (when b x)) [
    | true ↦ λ q. elim (last_passing test xs) as (λ w. or_else (or_else w (Some x)) o ≡ or_else w (Some x)) [ None ↦ refl | Some y ↦ refl ]
    | false ↦ λ q. absurd (let c : ◌≡◌ {A = Option ℕ} None (Some k) = q in cc)
  ]
] refl e

-- where the changed element is not the last that passes
other_last : {X : Type 0} (test : X → Bool) (g : X → X) → ((x : X) → test (g x) ≡ test x) → (i k : ℕ) (xs : List X) → is_place (i + k) (last_place test i xs) ≡ false
    → last_passing test (at g k xs) ≡ last_passing test xs
other_last test g s i k [] e = refl
other_last {X} test g s i zero (x ∷ xs) e = elim (last_place test (i + 1) xs) as (λ u. last_place test (i + 1) xs ≡ u → is_place (i + 0) (elim u [ Some j ↦ Some j | None ↦ cond (test x) (Some i) None ]) ≡ false
    → or_else (last_passing test xs) (when (test (g x)) (g x)) ≡ or_else (last_passing test xs) (when (test x) x)) [
      | Some j ↦ λ p q. placed test (i + 1) xs j p (when (test (g x)) (g x)) ∙ sym (placed test (i + 1) xs j p (when (test x) x))
      | None ↦ λ p q. ap (or_else (last_passing test xs)) (ap (λ b. when b (g x)) (s x)
          ∙ (elim (test x) as (λ b. is_place (i + 0) (cond b (Some i) None) ≡ false → when b (g x) ≡ when b x) [
            | true ↦ λ w. let z : i ≡ i + 0 = omega arith in absurd (eqb-false i (i + 0) w z)
            | false ↦ λ w. refl
          ]) q)
    ] refl e
other_last {X} test g s i (suc k) (x ∷ xs) e = elim (last_place test (i + 1) xs) as (λ u. last_place test (i + 1) xs ≡ u → is_place (i + suc k) (elim u [ Some j ↦ Some j | None ↦ cond (test x) (Some i) None ]) ≡ false
    → or_else (last_passing test (at g k xs)) (when (test x) x) ≡ or_else (last_passing test xs) (when (test x) x)) [
      | Some j ↦ λ p q.
          let z : i + suc k ≡ (i + 1) + k = omega arith in
          let h : is_place ((i + 1) + k) (last_place test (i + 1) xs) ≡ false = subst (λ (w : Option ℕ). is_place ((i + 1) + k) w ≡ false) (sym p) (subst (λ (y : ℕ). is_place y (Some j) ≡ false) z q) in
          ap (λ w. or_else w (when (test x) x)) (other_last test g s (i + 1) k xs h)
      | None ↦ λ p q.
          let h : is_place ((i + 1) + k) (last_place test (i + 1) xs) ≡ false = subst (λ (w : Option ℕ). is_place ((i + 1) + k) w ≡ false) (sym p) refl in
          ap (λ w. or_else w (when (test x) x)) (other_last test g s (i + 1) k xs h)
    ] refl e

-- ---- decisions

and_false : (b c : Bool) → (b && c) ≡ false → (b ≡ false) ⊎ (c ≡ false)
and_false true c e = inr e
and_false false c e = inl refl

gate_same : (a : Schedule) (g : InstanceValue → InstanceValue) (n p q : ℕ) (r : Run) → (nat_eq q p ≡ false) ⊎ (is_place n (previous_at a r) ≡ false)
    → option_map (λ (w : Run). state_at a w q) (previous (change_at g n p a) r) ≡ option_map (λ (w : Run). state_at a w q) (previous a r)
gate_same a g n p q r (inl e) =
    same_last (λ (w : Run). state_at a w q) (is_earlier r) (in_instance g p) (λ w. refl) (λ w. state_apart a g n p q w e) n a.runs
gate_same a g n p q r (inr e) =
    ap (option_map (λ (w : Run). state_at a w q))
    (other_last (is_earlier r) (in_instance g p) (λ w. refl) 0 n a.runs (let z : n ≡ 0 + n = omega arith in subst (λ (k : ℕ). is_place k (previous_at a r) ≡ false) z e))

pub gated_same : (b c d : Bool) → (b ≡ false) ⊎ (c ≡ d) → (not b || c) ≡ (not b || d)
gated_same b c d (inl e) = rw e refl
gated_same b c d (inr e) = rw e refl

gate_cases : (a : Schedule) (n p q : ℕ) (r : Run) (t : TaskSpec) → (t.depends_on_past && (nat_eq q p && is_place n (previous_at a r))) ≡ false
    → (t.depends_on_past ≡ false) ⊎ ((nat_eq q p ≡ false) ⊎ (is_place n (previous_at a r) ≡ false))
gate_cases a n p q r t e = elim (and_false t.depends_on_past (nat_eq q p && is_place n (previous_at a r)) e) [
  | inl f ↦ inl f
  | inr f ↦ inr (and_false (nat_eq q p) (is_place n (previous_at a r)) f)
]

past_same : (a : Schedule) (g : InstanceValue → InstanceValue) (n p q : ℕ) (r : Run) (t : TaskSpec) → (t.depends_on_past && (nat_eq q p && is_place n (previous_at a r))) ≡ false
    → past_is_open (change_at g n p a) r t q ≡ past_is_open a r t q
past_same a g n p q r t e = gated_same t.depends_on_past _ _ (elim (gate_cases a n p q r t e) [
  | inl f ↦ inl f
  | inr f ↦ inr (ap opens_gate (gate_same a g n p q r f))
])

given_task : {X : Type 0} (f h : TaskSpec → Option X) (o : Option TaskSpec) → ((t : TaskSpec) → o ≡ Some t → f t ≡ h t) → option_and_then f o ≡ option_and_then h o
given_task f h None e = refl
given_task f h (Some t) e = e t refl

pub given_run : {X Y : Type 0} (f h : X → Option Y) (o : Option X) → ((t : X) → o ≡ Some t → f t ≡ h t) → option_and_then f o ≡ option_and_then h o
given_run f h None e = refl
given_run f h (Some t) e = e t refl

abbrev made_of : Option Verdict → ℕ → List Try → InstanceValue
made_of v s ts = record { verdict = v; since = s; tries = ts }

undecided_same : (a b : Schedule) (r u : Run) (q : ℕ) (v : Option Verdict) (s : ℕ) (ts : List Try) → tasks_of b u ≡ tasks_of a r
    → ((t : TaskSpec) → slice_get (tasks_of a r) q ≡ Some t → decided_verdict b u q t ≡ decided_verdict a r q t)
    → decide_instance b u q (made_of v s ts) ≡ decide_instance a r q (made_of v s ts)
undecided_same a b r u q (Some v) s ts e h = refl
undecided_same a b r u q None s ts e h =
    ap (λ ys. option_and_then (decide_task b u q (made_of None s ts)) (slice_get ys q)) e
    ∙ given_task (decide_task b u q (made_of None s ts)) (decide_task a r q (made_of None s ts)) (slice_get (tasks_of a r) q)
    (λ t k. ap (option_map (λ w. made_of (Some w) s ts)) (h t k))

pub decide_same : (a b : Schedule) (r u : Run) (q : ℕ) (i : InstanceValue) → tasks_of b u ≡ tasks_of a r
    → ((t : TaskSpec) → slice_get (tasks_of a r) q ≡ Some t → decided_verdict b u q t ≡ decided_verdict a r q t)
    → decide_instance b u q i ≡ decide_instance a r q i
decide_same a b r u q i e h = undecided_same a b r u q i.verdict i.since i.tries e h

pub same_given : (a b : Schedule) (r u : Run) (q : ℕ) (t : TaskSpec) → past_is_open b u t q ≡ past_is_open a r t q → upstream_states b u q ≡ upstream_states a r q
    → decided_verdict b u q t ≡ decided_verdict a r q t
same_given a b r u q t e f = ap (λ c. decides c (rule_verdict t.trigger_rule (upstream_states b u q))) e ∙ ap (λ ss. decides (past_is_open a r t q) (rule_verdict t.trigger_rule ss)) f

looked : (a : Schedule) (m q n p : ℕ) (r : Run) (t : TaskSpec) → slice_get a.runs m ≡ Some r → slice_get (tasks_of a r) q ≡ Some t → looks a m q n p ≡ looks_from a m q n p r (Some t)
looked a m q n p r t e f = ap (looks_in a m q n p) e ∙ ap (looks_from a m q n p r) f

pub in_same : (a b : Schedule) (q : ℕ) (r u : Run) (c : Bool) → ((i : InstanceValue) → decide_instance b u q i ≡ decide_instance a r q i) → slice_get u.instances q ≡ slice_get r.instances q
    → ◌≡◌ {A = Option InstanceValue} (elim c [ true ↦ option_and_then (decide_instance b u q) (slice_get u.instances q) | false ↦ None ]) (elim c [ true ↦ option_and_then (decide_instance a r q) (slice_get r.instances q) | false ↦ None ])
in_same a b q r u true h e = ap (option_and_then (decide_instance b u q)) e ∙ given_run (decide_instance b u q) (decide_instance a r q) (slice_get r.instances q) (λ i k. h i)
in_same a b q r u false h e = refl

-- in another run
other_run : (a : Schedule) (g : InstanceValue → InstanceValue) (n p m q : ℕ) → looks a m q n p ≡ false → nat_eq m n ≡ false → decision (change_at g n p a) m q ≡ decision a m q
other_run a g n p m q l e =
    ap (option_and_then (decision_in (change_at g n p a) q)) (get_apart (in_instance g p) n m a.runs e)
    ∙ given_run (decision_in (change_at g n p a) q) (decision_in a q) (slice_get a.runs m)
    (λ r k. in_same a (change_at g n p a) q r r (is_running r.phase)
    (λ i. decide_same a (change_at g n p a) r r q i refl
    (λ t f. same_given a (change_at g n p a) r r q t (past_same a g n p q r t (or_right _ _ (sym (looked a m q n p r t k f) ∙ l))) refl))
    refl)

run_some : {X Y : Type 0} (f : X → Option Y) (g : X → X) (o : Option X) → option_and_then f (option_map g o) ≡ option_and_then (λ x. f (g x)) o
run_some f g None = refl
run_some f g (Some x) = refl

same_and : (b c : Bool) → b ≡ true → (b && c) ≡ false → c ≡ false
same_and true c e f = f
same_and false c e f = absurd (true≢false (sym e))

-- elsewhere in the same run
same_run : (a : Schedule) (g : InstanceValue → InstanceValue) (n p q : ℕ) → looks a n q n p ≡ false → nat_eq q p ≡ false → decision (change_at g n p a) n q ≡ decision a n q
same_run a g n p q l e =
    ap (option_and_then (decision_in (change_at g n p a) q)) (get_at (in_instance g p) n a.runs)
    ∙ run_some (decision_in (change_at g n p a) q) (in_instance g p) (slice_get a.runs n)
    ∙ given_run (λ r. decision_in (change_at g n p a) q (in_instance g p r)) (decision_in a q) (slice_get a.runs n)
    (λ r k. in_same a (change_at g n p a) q r (in_instance g p r) (is_running r.phase)
    (λ i. decide_same a (change_at g n p a) r (in_instance g p r) q i refl
    (λ t f.
    let h : looks_from a n q n p r (Some t) ≡ false = sym (looked a n q n p r t k f) ∙ l in
    same_given a (change_at g n p a) r (in_instance g p r) q t
    (past_same a g n p q r t (or_right _ _ h))
    (upstreams_apart a g n p r (ups (dag_named a r.graph) q) (same_and (nat_eq n n) _ (eq-eqb n n refl) (or_left _ _ h)))))
    (get_apart g p q r.instances e))

-- a change of one instance, whatever it is, leaves each other decision that does not look at it
pub unlooked : (a : Schedule) (g : InstanceValue → InstanceValue) (n p m q : ℕ) → looks a m q n p ≡ false → (nat_eq m n && nat_eq q p) ≡ false → decision (change_at g n p a) m q ≡ decision a m q
unlooked a g n p m q l e = elim (nat_eq m n) as (λ b. nat_eq m n ≡ b → (b && nat_eq q p) ≡ false → decision (change_at g n p a) m q ≡ decision a m q) [
  | true ↦ λ f h.
      let w : m ≡ n = eqb-true m n f in
      let l' : looks a n q n p ≡ false = subst (λ (k : ℕ). looks a k q n p ≡ false) w l in
      subst (λ (k : ℕ). decision (change_at g n p a) k q ≡ decision a k q) (sym w) (same_run a g n p q l' h)
  | false ↦ λ f h. other_run a g n p m q l f
] refl e

one_exchanged : (a : Schedule) (g : InstanceValue → InstanceValue) (n p u : ℕ) (r : Run) → state_at (change_at g n p a) (in_instance g p r) u ≡ cond (nat_eq u p) (state_at a (in_instance g p r) p) (state_at a r u)
one_exchanged a g n p u r = elim (nat_eq u p) as (λ b. nat_eq u p ≡ b → state_at (change_at g n p a) (in_instance g p r) u ≡ cond b (state_at a (in_instance g p r) p) (state_at a r u)) [
  | true ↦ λ e. ap (state_at a (in_instance g p r)) (eqb-true u p e)
  | false ↦ λ e. state_apart a g n p u r e
] refl

exchanged : (a : Schedule) (g : InstanceValue → InstanceValue) (n p : ℕ) (r : Run) (us : List ℕ)
    → map (state_at (change_at g n p a) (in_instance g p r)) us ≡ map (λ u. cond (nat_eq u p) (state_at a (in_instance g p r) p) (state_at a r u)) us
exchanged a g n p r [] = refl
exchanged a g n p r (u ∷ us) =
    let h : state_at (change_at g n p a) (in_instance g p r) u ≡ cond (nat_eq u p) (state_at a (in_instance g p r) p) (state_at a r u) = one_exchanged a g n p u r in
    let ih : map (state_at (change_at g n p a) (in_instance g p r)) us ≡ map (λ v. cond (nat_eq v p) (state_at a (in_instance g p r) p) (state_at a r v)) us = exchanged a g n p r us in
    rw (h, ih) refl

-- what a task sees of its upstreams after a change of one instance of its run
pub upstreams_exchanged : (a : Schedule) (g : InstanceValue → InstanceValue) (n p q : ℕ) (r : Run)
    → upstream_states (change_at g n p a) (in_instance g p r) q ≡ map (λ u. cond (nat_eq u p) (state_at a (in_instance g p r) p) (state_at a r u)) (ups (dag_named a r.graph) q)
upstreams_exchanged a g n p q r = exchanged a g n p r (ups (dag_named a r.graph) q)
