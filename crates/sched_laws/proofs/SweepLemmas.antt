-- One sweep over all positions makes all decisions.
use Rattle.dag_check.specs.Names.{repeats, ids_of}
use Rattle.dag_check.specs.Graphs.{Dag}
use Rattle.sched_laws.proofs.ListLemmas.{all_impl}
use Rattle.std.proofs.Common.{◌≡◌, refl, sym, ap, subst, ◌∙◌, ℕ, zero, suc, ◌+◌, ◌-◌, ◌<◌, ◌≤◌, List, [], ◌∷◌, true, false, not, ◌&&◌, inl, inr, map, length, Option, Some, None, option_map, option_and_then, slice_get, arith, true≢false, nat_lt, nat_eq, sum_by, nat_le, ◌==◌}
use Rattle.std.proofs.lemmas.Bool.{eq-eqb, eqb-false, ltb-true, ltb-false, and_from}
use Rattle.std.proofs.lemmas.Option.{slice_get_past, slice_get-map}
use Rattle.sched_laws.proofs.RunLemmas.{key, key_before, rises_map}
use Rattle.sched_laws.proofs.HandLemmas.{map_at}
use Rattle.dag_check.specs.Names.{repeats}
use Rattle.sched_model.specs.Lists.{at, rises}
use Rattle.sched_model.specs.instance_machine.Instances.{InstanceValue}
use Rattle.sched_model.specs.Schedule.{Schedule, is_running}
use Rattle.sched_model.specs.sched_state.declared.runs.Run.{Run}
use Rattle.sched_model.specs.sched_state.declared.graphs.LoadedGraph.{LoadedGraph}
use Rattle.sched_model.specs.Settle.{decide_instance}
use Rattle.sched_model.specs.Handout.{in_instance}
use Rattle.sched_model.specs.Sound.{IsSound, is_sound_graph, is_sound_dag}
use Rattle.sched_laws.specs.Stages.{IsOrdered, leads_down}
use Rattle.sched_laws.specs.Sweep.{decide_all, decision_in, decision, put, decide_at, looks, Before, IsClean, sweep_places, sweep_runs, sweep}
use Rattle.sched_laws.proofs.LookLemmas.{unlooked}
use Rattle.sched_model.proofs.sched_state.OrderLemmas.{and_left, and_right}
use Rattle.sched_laws.proofs.DecisionLemmas.{first_then_all, none_then_all, none_guard, decided_once, by_bool, looks_later, at_same}

-- ---- one sweep

abbrev pub lens : Schedule → List ℕ
lens a = map (λ (r : Run). length r.instances) a.runs

-- b is where a sweep from a has come, before run n and place p
pub record Swept (n p : ℕ) (a b : Schedule) : Type 0 where
  pub all : decide_all b ≡ decide_all a
  pub clean : IsClean n p b
  pub ordered : IsOrdered b
  pub lens : lens b ≡ lens a

pub length_at : {X : Type 0} (g : X → X) (n : ℕ) (xs : List X) → length (at g n xs) ≡ length xs
length_at g n [] = refl
length_at g zero (x ∷ xs) = refl
length_at g (suc n) (x ∷ xs) = ap suc (length_at g n xs)

pub put_ordered : (a : Schedule) (j : InstanceValue) (n p : ℕ) → IsOrdered a → IsOrdered (put j n p a)
put_ordered a j n p h = record {
  runs = sym (rises_map key_before key (put j n p a).runs) ∙ ap (rises key_before) (map_at key (in_instance (λ i. j) p) n a.runs (λ r e. refl)) ∙ rises_map key_before key a.runs ∙ h.runs;
  graphs = h.graphs;
}

pub put_lens : (a : Schedule) (j : InstanceValue) (n p : ℕ) → lens (put j n p a) ≡ lens a
put_lens a j n p = map_at (λ (r : Run). length r.instances) (in_instance (λ i. j) p) n a.runs (λ r e. length_at (λ i. j) p r.instances)

-- before the next place: at this one, or before it
next_place : {C : Type 0} (n p m q : ℕ) → Before m q n (p + 1) → ((nat_eq m n && nat_eq q p) ≡ true → C) → (Before m q n p → (nat_eq m n && nat_eq q p) ≡ false → C) → C
next_place {C} n p m q b f g = by_bool {C = C} (nat_eq m n && nat_eq q p) f (λ e. g (elim b [
  | inl l ↦ inl l
  | inr t ↦
      let k : m ≡ n = t.0 in
      let l : q < p + 1 = t.1 in
      inr (
        k,
        by_bool {C = q < p} (nat_eq q p)
            (λ h. absurd (true≢false (sym (and_from _ _ (eq-eqb m n k) h) ∙ e)))
            (λ h. let z : q ≡ p → ⊥ = eqb-false q p h in omega arith),
      )
]) e)

-- a position that stands before looks at nothing from here on
not_later : (n p m q : ℕ) → Before m q n p → Before n p m q → ⊥
not_later n p m q (inl l) (inl k) = omega arith
not_later n p m q (inl l) (inr t) = let e : n ≡ m = t.0 in omega arith
not_later n p m q (inr t) (inl k) = let e : m ≡ n = t.0 in omega arith
not_later n p m q (inr t) (inr u) = let k : q < p = t.1 in let l : p < q = u.1 in omega arith

-- deciding at a clean position leaves all before the next one clean
pub decide_step : (a : Schedule) (n p : ℕ) → IsOrdered a → IsClean n p a → Swept n (p + 1) a (decide_at n p a)
decide_step a n p h c = elim (decision a n p) as (λ o. decision a n p ≡ o → Swept n (p + 1) a (elim o [ Some j ↦ put j n p a | None ↦ a ])) [
  | None ↦ λ e. record {
    all = refl;
    clean = λ m q b. next_place {C = decision a m q ≡ None} n p m q b (λ k. at_same a n p m q k ∙ e) (λ k l. c m q k);
    ordered = h;
    lens = refl;
  }
  | Some j ↦ λ e. record {
    all = sym (first_then_all a n p j c e);
    clean = λ m q b. next_place {C = decision (put j n p a) m q ≡ None} n p m q b
        (λ k. at_same (put j n p a) n p m q k ∙ decided_once a n p j e)
        (λ k l. by_bool {C = decision (put j n p a) m q ≡ None} (looks a m q n p)
        (λ w. absurd (not_later n p m q k (looks_later a m q n p h w)))
        (λ w. unlooked a (λ i. j) n p m q w l ∙ c m q k));
    ordered = put_ordered a j n p h;
    lens = put_lens a j n p;
  }
] refl

swept_on : (n p m q : ℕ) (a b c : Schedule) → Swept n p a b → Swept m q b c → Swept m q a c
swept_on n p m q a b c s t = record { all = t.all ∙ s.all; clean = t.clean; ordered = t.ordered; lens = t.lens ∙ s.lens }

pub places_swept : (k n p : ℕ) (a : Schedule) → IsOrdered a → IsClean n p a → Swept n (p + k) a (sweep_places k n p a)
places_swept zero n p a h c = let z : p ≡ p + 0 = omega arith in record { all = refl; clean = subst (λ (y : ℕ). IsClean n y a) z c; ordered = h; lens = refl }
places_swept (suc k) n p a h c =
    let s = decide_step a n p h c in
    let t = places_swept k n (p + 1) (decide_at n p a) s.ordered s.clean in
    let z : (p + 1) + k ≡ p + suc k = omega arith in
    subst (λ (y : ℕ). Swept n y a (sweep_places (suc k) n p a)) z (swept_on n (p + 1) n ((p + 1) + k) a (decide_at n p a) (sweep_places k n (p + 1) (decide_at n p a)) s t)

-- no decision past the instances of a run, nor past the runs
past_places : (a : Schedule) (n k q : ℕ) → slice_get (lens a) n ≡ Some k → k ≤ q → decision a n q ≡ None
past_places a n k q e l = elim (slice_get a.runs n) as (λ o. slice_get a.runs n ≡ o → decision a n q ≡ None) [
  | None ↦ λ f. ap (option_and_then (decision_in a q)) f
  | Some r ↦ λ f.
      let c : ◌≡◌ {A = Option ℕ} (Some (length r.instances)) (Some k) = sym (slice_get-map (λ (x : Run). length x.instances) a.runs n ∙ ap (option_map (λ (x : Run). length x.instances)) f) ∙ e in
      let w : length r.instances ≡ k = cc in
      let l' : length r.instances ≤ q = omega arith in
      ap (option_and_then (decision_in a q)) f ∙ none_guard (is_running r.phase) (option_and_then (decide_instance a r q) (slice_get r.instances q)) (ap (option_and_then (decide_instance a r q)) (slice_get_past r.instances q l'))
] refl

past_runs : (a : Schedule) (n q : ℕ) → slice_get (lens a) n ≡ None → decision a n q ≡ None
past_runs a n q e = elim (slice_get a.runs n) as (λ o. slice_get a.runs n ≡ o → decision a n q ≡ None) [
  | None ↦ λ f. ap (option_and_then (decision_in a q)) f
  | Some r ↦ λ f. absurd (let c : ◌≡◌ {A = Option ℕ} (Some (length r.instances)) None = sym (slice_get-map (λ (x : Run). length x.instances) a.runs n ∙ ap (option_map (λ (x : Run). length x.instances)) f) ∙ e in cc)
] refl

-- the end of a run is the start of the next
run_end : (a : Schedule) (n k : ℕ) → slice_get (lens a) n ≡ Some k → IsClean n k a → IsClean (n + 1) 0 a
run_end a n k e c m q (inr t) = let l : q < 0 = t.1 in absurd (omega arith)
run_end a n k e c m q (inl l) = by_bool {C = decision a m q ≡ None} (nat_lt m n)
    (λ h. c m q (inl (ltb-true m n h)))
    (λ h.
    let w : n ≤ m = ltb-false m n h in
    let u : m ≡ n = omega arith in
    by_bool {C = decision a m q ≡ None} (nat_lt q k)
    (λ g. c m q (inr (u, ltb-true q k g)))
    (λ g. ap (λ y. decision a y q) u ∙ past_places a n k q e (ltb-false q k g)))

-- no decision is possible in b
pub runs_swept : (rs : List Run) (n : ℕ) (a : Schedule) → IsOrdered a → IsClean n 0 a → ((i : ℕ) → slice_get (map (λ (r : Run). length r.instances) rs) i ≡ slice_get (lens a) (n + i))
    → (decide_all (sweep_runs rs n a) ≡ decide_all a) × ((m q : ℕ) → decision (sweep_runs rs n a) m q ≡ None)
runs_swept [] n a h c w = (
  refl,
  λ m q. by_bool {C = decision a m q ≡ None} (nat_lt m n)
      (λ l. c m q (inl (ltb-true m n l)))
      (λ l.
      let u : n ≤ m = ltb-false m n l in
      let z : n + (m - n) ≡ m = omega arith in
      past_runs a m q (subst (λ (y : ℕ). slice_get (lens a) y ≡ None) z (sym (w (m - n))))),
)
runs_swept (r ∷ rs) n a h c w =
    let k : ℕ = length r.instances in
    let s = places_swept k n 0 a h c in
    let b : Schedule = sweep_places k n 0 a in
    let z : n + 0 ≡ n = omega arith in
    let zk : 0 + k ≡ k = omega arith in
    let e : slice_get (lens b) n ≡ Some k = ap (λ ys. slice_get ys n) s.lens ∙ subst (λ (y : ℕ). slice_get (lens a) y ≡ Some k) z (sym (w 0)) in
    let c' : IsClean (n + 1) 0 b = run_end b n k e (subst (λ (y : ℕ). IsClean n y b) zk s.clean) in
    let w' : (i : ℕ) → slice_get (map (λ (x : Run). length x.instances) rs) i ≡ slice_get (lens b) ((n + 1) + i) =
    λ i. let y : n + suc i ≡ (n + 1) + i = omega arith in w (suc i) ∙ ap (slice_get (lens a)) y ∙ ap (λ ys. slice_get ys ((n + 1) + i)) (sym s.lens) in
    let t = runs_swept rs (n + 1) b s.ordered c' w' in
    (t.0 ∙ s.all, t.1)

pub sweep_clean : (a : Schedule) → IsOrdered a → (decide_all (sweep a) ≡ decide_all a) × ((m q : ℕ) → decision (sweep a) m q ≡ None)
sweep_clean a h = runs_swept a.runs 0 a h
    (λ m q b. absurd (elim b [ inl l ↦ omega arith | inr t ↦ let l : q < 0 = t.1 in omega arith ]))
    (λ i. let z : i ≡ 0 + i = omega arith in ap (slice_get (lens a)) z)

-- one sweep is all the decisions
pub sweep_all : (a : Schedule) → IsOrdered a → sweep a ≡ decide_all a
sweep_all a h = let t = sweep_clean a h in sym (none_then_all (sweep a) t.1) ∙ t.0

dag_down : (tasks edges : ℕ) (g : Dag) → is_sound_dag tasks edges g ≡ true → leads_down g ≡ true
dag_down tasks edges g e =
    let e1 = and_right (nat_le (length g.tasks) tasks && nat_le (sum_by length g.upstreams) edges) _ e in
    and_right (length g.upstreams == length g.tasks) _ (and_right (not (repeats (ids_of g.tasks))) _ e1)

pub sound_ordered : (a : Schedule) → IsSound a → IsOrdered a
sound_ordered a s = record {
  runs = s.runs_by_key;
  graphs = all_impl (is_sound_graph a) (λ (g : LoadedGraph). leads_down g.dag) (λ (g : LoadedGraph) e. dag_down a.limits.tasks a.limits.edges g.dag (and_left _ _ e)) a.graphs s.graphs;
}
