-- Decisions by position: the first possible one, the dirty positions, and one sweep.
use Rattle.dag_check.specs.Graphs.{ups}
use Rattle.sched_laws.proofs.AddLemmas.{run_total}
use Rattle.sched_laws.proofs.ListLemmas.{all_get}
use Rattle.std.proofs.Common.{◌≡◌, refl, sym, ap, subst, ◌∙◌, ℕ, zero, suc, ◌+◌, ◌<◌, ◌≤◌, List, [], ◌∷◌, Bool, true, false, cond, not, ◌&&◌, ◌||◌, inl, inr, Option, Some, None, option_map, option_and_then, unwrap_or, slice_get, arith, true≢false, nat_lt, nat_eq, sum_by, slice_index_or}
use Rattle.std.specs.List.{list_all}
use Rattle.std.proofs.lemmas.Bool.{eqb-true, eqb-false, ltb-true, ltb-false, or_left, or_right}
use Rattle.std.specs.Ordering.{nat_cmp, is_eq}
use Rattle.std.specs.declared.cmp.Ordering.{Ordering}
use Rattle.std.specs.declared.cmp.Ordering.TheVariants.{Less, Equal, Greater}
use Rattle.std.proofs.lemmas.Map.Text.{is_eq-slice_cmp}
use Rattle.sched_model.specs.trigger_rules.declared.verdicts.Verdict.{Verdict}
use Rattle.sched_laws.proofs.ListLemmas.{change_here}
use Rattle.sched_laws.proofs.RankLemmas.{not_itself, not_both}
use Rattle.sched_model.specs.sched_state.Lists.{same, change_from, first_change, is_less, name_cmp}
use Rattle.sched_model.specs.Lists.{at, map_places, rises}
use Rattle.dag_check.specs.Orders.{is_in}
use Rattle.std.specs.Ordering.{ordering_then}
use Rattle.sched_model.specs.instance_machine.Instances.{InstanceValue}
use Rattle.sched_model.specs.Schedule.{Schedule, tasks_of, is_running, run_before, dag_among, dag_named, graph_among, no_dag}
use Rattle.sched_model.specs.sched_state.declared.runs.Run.{Run}
use Rattle.sched_model.specs.sched_state.declared.graphs.LoadedGraph.{LoadedGraph}
use Rattle.sched_model.specs.instance_machine.declared.tries.Try.{Try}
use Rattle.sched_model.specs.Settle.{decide_task, decide_instance, decide_run, moves_left, moves_left_of}
use Rattle.sched_model.specs.Handout.{in_instance}
use Rattle.sched_model.specs.Sound.{is_sound_row}
use Rattle.sched_laws.specs.Stages.{IsOrdered, leads_down}
use Rattle.sched_laws.specs.Sweep.{decide_one, decide_all, decision_in, decision, change_at, put, last_place, previous_at, is_place, looks, looks_in, looks_from, Before, IsClean, Covers, NoneBefore, is_position, without, marked, touched}
use Rattle.sched_model.specs.States.{is_earlier}
use Rattle.sched_laws.proofs.SettleLemmas.{decide_run_falls, and_then_some, map_some}
use Rattle.sched_model.proofs.sched_state.RepeatLemmas.{Falls, repeat_done, repeat_turn, change_falls}
use Rattle.sched_laws.proofs.LookLemmas.{get_at, unlooked}
use Rattle.sched_model.proofs.sched_state.OrderLemmas.{and_left, and_right}

-- ---- the first change

pub change_first : {X : Type 0} (f : ℕ → X → Option X) (i k : ℕ) (xs : List X) (x y : X) → slice_get xs k ≡ Some x → f (i + k) x ≡ Some y
    → ((m : ℕ) (z : X) → m < k → slice_get xs m ≡ Some z → f (i + m) z ≡ None) → change_from f i xs ≡ Some (at (λ z. y) k xs)
change_first {X} f i k [] x y e h q = absurd (let c : ◌≡◌ {A = Option X} None (Some x) = e in cc)
change_first {X} f i zero (z ∷ xs) x y e h q =
    let c : ◌≡◌ {A = Option X} (Some z) (Some x) = e in let r : x ≡ z = cc in
    let s : i + 0 ≡ i = omega arith in
    let h' : f i z ≡ Some y = subst (λ (j : ℕ). f j z ≡ Some y) s (subst (λ (w : X). f (i + 0) w ≡ Some y) r h) in
    ap (change_here f i z xs) h'
change_first {X} f i (suc k) (z ∷ xs) x y e h q =
    let s : i + 0 ≡ i = omega arith in
    let n : f i z ≡ None = subst (λ (j : ℕ). f j z ≡ None) s (q 0 z (omega arith) refl) in
    let t : i + suc k ≡ (i + 1) + k = omega arith in
    let ih : change_from f (i + 1) xs ≡ Some (at (λ w. y) k xs) = change_first f (i + 1) k xs x y e (subst (λ (j : ℕ). f j x ≡ Some y) t h)
    (λ m w l g. let u : i + suc m ≡ (i + 1) + m = omega arith in subst (λ (j : ℕ). f j w ≡ None) u (q (suc m) w (omega arith) g)) in
    ap (change_here f i z xs) n ∙ ap (option_map (λ ys. z ∷ ys)) ih

pub change_quiet : {X : Type 0} (f : ℕ → X → Option X) (i : ℕ) (xs : List X) → ((m : ℕ) (z : X) → slice_get xs m ≡ Some z → f (i + m) z ≡ None) → change_from f i xs ≡ None
change_quiet f i [] q = refl
change_quiet {X} f i (z ∷ xs) q =
    let s : i + 0 ≡ i = omega arith in
    let n : f i z ≡ None = subst (λ (j : ℕ). f j z ≡ None) s (q 0 z refl) in
    let ih : change_from f (i + 1) xs ≡ None = change_quiet f (i + 1) xs
    (λ m w g. let u : i + suc m ≡ (i + 1) + m = omega arith in subst (λ (j : ℕ). f j w ≡ None) u (q (suc m) w g)) in
    ap (change_here f i z xs) n ∙ ap (option_map (λ ys. z ∷ ys)) ih

pub at_known : {X : Type 0} (f : X → X) (n : ℕ) (xs : List X) (x : X) → slice_get xs n ≡ Some x → at (λ z. f x) n xs ≡ at f n xs
at_known {X} f n [] x e = absurd (let c : ◌≡◌ {A = Option X} None (Some x) = e in cc)
at_known {X} f zero (z ∷ xs) x e = let c : ◌≡◌ {A = Option X} (Some z) (Some x) = e in let r : x ≡ z = cc in ap (λ w. f w ∷ xs) r
at_known f (suc n) (z ∷ xs) x e = ap (λ ys. z ∷ ys) (at_known f n xs x e)

-- ---- decisions

-- a decision, taken apart
pub record Decided (a : Schedule) (n p : ℕ) (j : InstanceValue) : Type 0 where
  pub run : Run
  pub instance : InstanceValue
  pub run_is : slice_get a.runs n ≡ Some run
  pub running : is_running run.phase ≡ true
  pub instance_is : slice_get run.instances p ≡ Some instance
  pub decided : decide_instance a run p instance ≡ Some j

guard_some : (c : Bool) (o : Option InstanceValue) (j : InstanceValue) → (◌≡◌ {A = Option InstanceValue} (elim c [ true ↦ o | false ↦ None ]) (Some j)) → (c ≡ true) × (o ≡ Some j)
guard_some true o j e = (refl, e)
guard_some false o j e = absurd (let n : ◌≡◌ {A = Option InstanceValue} None (Some j) = e in cc)

guard_true : (c : Bool) (o : Option InstanceValue) → c ≡ true → (◌≡◌ {A = Option InstanceValue} (elim c [ true ↦ o | false ↦ None ]) o)
guard_true true o e = refl
guard_true false o e = absurd (true≢false (sym e))

pub decided : (a : Schedule) (n p : ℕ) (j : InstanceValue) → decision a n p ≡ Some j → Decided a n p j
decided a n p j e =
    let t = and_then_some (decision_in a p) (slice_get a.runs n) j e in
    let u = guard_some (is_running t.0.phase) (option_and_then (decide_instance a t.0 p) (slice_get t.0.instances p)) j t.2 in
    let w = and_then_some (decide_instance a t.0 p) (slice_get t.0.instances p) j u.1 in
    record { run = t.0; instance = w.0; run_is = t.1; running = u.0; instance_is = w.1; decided = w.2 }

-- where no decision is possible at a place of a running run
undecided : (a : Schedule) (n p : ℕ) (r : Run) (i : InstanceValue) → decision a n p ≡ None → slice_get a.runs n ≡ Some r → is_running r.phase ≡ true → slice_get r.instances p ≡ Some i → decide_instance a r p i ≡ None
undecided a n p r i e f g h =
    sym (ap (option_and_then (decide_instance a r p)) h) ∙ sym (guard_true (is_running r.phase) (option_and_then (decide_instance a r p) (slice_get r.instances p)) g) ∙ sym (ap (option_and_then (decision_in a p)) f) ∙ e

pub guarded_run : (c : Bool) (o : Option Run) → c ≡ true → (◌≡◌ {A = Option Run} (elim c [ true ↦ o | false ↦ None ]) o)
guarded_run true o e = refl
guarded_run false o e = absurd (true≢false (sym e))

-- a run in which no decision is possible
quiet_run : (a : Schedule) (n : ℕ) (r : Run) → slice_get a.runs n ≡ Some r → ((q : ℕ) → decision a n q ≡ None) → decide_run a r ≡ None
quiet_run a n r e h = elim (is_running r.phase) as (λ c. is_running r.phase ≡ c → (◌≡◌ {A = Option Run} (elim c [ true ↦ option_map (λ is. record r { instances = is }) (change_from (decide_instance a r) 0 r.instances) | false ↦ None ]) None)) [
  | true ↦ λ g. ap (option_map (λ is. record r { instances = is }))
      (change_quiet (decide_instance a r) 0 r.instances
      (λ m i k. let z : m ≡ 0 + m = omega arith in subst (λ (y : ℕ). decide_instance a r y i ≡ None) z (undecided a n m r i (h m) e g k)))
  | false ↦ λ g. refl
] refl

-- the first decision by position is the first decision
pub first_decision : (a : Schedule) (n p : ℕ) (j : InstanceValue) → IsClean n p a → decision a n p ≡ Some j → decide_one a ≡ Some (put j n p a)
first_decision a n p j clean e =
    let d = decided a n p j e in
    let zp : p ≡ 0 + p = omega arith in
    let zn : n ≡ 0 + n = omega arith in
    let inner : change_from (decide_instance a d.run) 0 d.run.instances ≡ Some (at (λ i. j) p d.run.instances) =
    change_first (decide_instance a d.run) 0 p d.run.instances d.instance j d.instance_is (subst (λ (y : ℕ). decide_instance a d.run y d.instance ≡ Some j) zp d.decided)
    (λ m i l k. let z : m ≡ 0 + m = omega arith in subst (λ (y : ℕ). decide_instance a d.run y i ≡ None) z (undecided a n m d.run i (clean n m (inr (refl, l))) d.run_is d.running k)) in
    let run : decide_run a d.run ≡ Some (in_instance (λ i. j) p d.run) =
    guarded_run (is_running d.run.phase) (option_map (λ is. record d.run { instances = is }) (change_from (decide_instance a d.run) 0 d.run.instances)) d.running
    ∙ ap (option_map (λ is. record d.run { instances = is })) inner in
    let outer : first_change (decide_run a) a.runs ≡ Some (at (λ r. in_instance (λ i. j) p d.run) n a.runs) =
    change_first (λ i r. decide_run a r) 0 n a.runs d.run (in_instance (λ i. j) p d.run) d.run_is run
    (λ m r l k. quiet_run a m r k (λ q. clean m q (inl l))) in
    ap (option_map (λ rs. record a { runs = rs })) (outer ∙ ap (λ rs. Some rs) (at_known (in_instance (λ i. j) p) n a.runs d.run d.run_is))

pub no_decision : (a : Schedule) → ((n p : ℕ) → decision a n p ≡ None) → decide_one a ≡ None
no_decision a h = ap (option_map (λ rs. record a { runs = rs })) (change_quiet (λ i r. decide_run a r) 0 a.runs (λ m r k. quiet_run a m r k (h m)))

pub one_falls : Falls moves_left decide_one
one_falls a b e =
    let t = map_some (λ rs. record a { runs = rs }) (first_change (decide_run a) a.runs) b e in
    let h : sum_by moves_left_of t.0 < sum_by moves_left_of a.runs = change_falls moves_left_of (λ i r. decide_run a r) (λ i. decide_run_falls a) 0 a.runs t.0 t.1 in
    subst (λ (k : Schedule). moves_left k < moves_left a) t.2 h

-- deciding first at a clean position changes nothing of where deciding ends
pub first_then_all : (a : Schedule) (n p : ℕ) (j : InstanceValue) → IsClean n p a → decision a n p ≡ Some j → decide_all a ≡ decide_all (put j n p a)
first_then_all a n p j c e = repeat_turn moves_left decide_one one_falls a (put j n p a) (first_decision a n p j c e)

pub none_then_all : (a : Schedule) → ((n p : ℕ) → decision a n p ≡ None) → decide_all a ≡ a
none_then_all a h = repeat_done (moves_left a) decide_one a (no_decision a h)

-- what is decided is not decided again
made : (b : Schedule) (r : Run) (p : ℕ) (v : Verdict) (s : ℕ) (ts : List Try) → decide_instance b r p (record { verdict = Some v; since = s; tries = ts }) ≡ None
made b r p v s ts = refl

abbrev made_of : Option Verdict → ℕ → List Try → InstanceValue
made_of v s ts = record { verdict = v; since = s; tries = ts }

once_of : (a b : Schedule) (r u : Run) (p q : ℕ) (v : Option Verdict) (s : ℕ) (ts : List Try) (j : InstanceValue) → decide_instance a r p (made_of v s ts) ≡ Some j → decide_instance b u q j ≡ None
once_of a b r u p q (Some v) s ts j e = absurd (let n : ◌≡◌ {A = Option InstanceValue} None (Some j) = e in cc)
once_of a b r u p q None s ts j e =
    let t = and_then_some (decide_task a r p (made_of None s ts)) (slice_get (tasks_of a r) p) j e in
    let w = map_some (λ v. made_of (Some v) s ts) _ j t.2 in
    subst (λ (k : InstanceValue). decide_instance b u q k ≡ None) w.2 refl

once : (a b : Schedule) (r u : Run) (p q : ℕ) (i j : InstanceValue) → decide_instance a r p i ≡ Some j → decide_instance b u q j ≡ None
once a b r u p q i j e = once_of a b r u p q i.verdict i.since i.tries j e

pub none_guard : (c : Bool) (o : Option InstanceValue) → o ≡ None → (◌≡◌ {A = Option InstanceValue} (elim c [ true ↦ o | false ↦ None ]) None)
none_guard true o e = e
none_guard false o e = refl

pub decided_once : (a : Schedule) (n p : ℕ) (j : InstanceValue) → decision a n p ≡ Some j → decision (put j n p a) n p ≡ None
decided_once a n p j e =
    let d = decided a n p j e in
    let u : Run = in_instance (λ i. j) p d.run in
    let r : slice_get (put j n p a).runs n ≡ Some u = get_at (in_instance (λ i. j) p) n a.runs ∙ ap (option_map (in_instance (λ i. j) p)) d.run_is in
    let k : slice_get u.instances p ≡ Some j = get_at (λ i. j) p d.run.instances ∙ ap (option_map (λ i. j)) d.instance_is in
    ap (option_and_then (decision_in (put j n p a) p)) r
    ∙ none_guard (is_running d.run.phase) (option_and_then (decide_instance (put j n p a) u p) (slice_get u.instances p))
    (ap (option_and_then (decide_instance (put j n p a) u p)) k ∙ once a (put j n p a) d.run u p p d.instance j d.decided)

-- ---- dirty positions

or_true : (b c : Bool) → b ≡ false → (b || c) ≡ true → c ≡ true
or_true true c e f = absurd (true≢false e)
or_true false c e f = f

-- a decision is there or not
pub by_decision : {C : Type 0} (a : Schedule) (n p : ℕ) → (decision a n p ≡ None → C) → ((j : InstanceValue) → decision a n p ≡ Some j → C) → C
by_decision {C} a n p f g = elim (decision a n p) as (λ o. decision a n p ≡ o → C) [ None ↦ λ e. f e | Some j ↦ λ e. g j e ] refl

pub by_bool : {C : Type 0} (b : Bool) → (b ≡ true → C) → (b ≡ false → C) → C
by_bool {C} b f g = elim b as (λ c. b ≡ c → C) [ true ↦ λ e. f e | false ↦ λ e. g e ] refl

not_some : {C : Type 0} (o : Option InstanceValue) (j : InstanceValue) → o ≡ None → o ≡ Some j → C
not_some {C} o j e f = absurd (let c : ◌≡◌ {A = Option InstanceValue} None (Some j) = sym e ∙ f in cc)

pub at_same : (a : Schedule) (n p m q : ℕ) → (nat_eq m n && nat_eq q p) ≡ true → decision a m q ≡ decision a n p
at_same a n p m q e =
    let f : m ≡ n = eqb-true m n (and_left _ _ e) in
    let g : q ≡ p = eqb-true q p (and_right (nat_eq m n) _ e) in
    ap (λ k. decision a k q) f ∙ ap (decision a n) g

pub least_clean : (dirty : ℕ → ℕ → Bool) (a : Schedule) (n p : ℕ) → Covers dirty a → NoneBefore dirty n p → IsClean n p a
least_clean dirty a n p c h m q b = by_decision {C = decision a m q ≡ None} a m q (λ e. e) (λ j e. absurd (true≢false (sym (c m q j e) ∙ h m q b)))

stays_without : (b c : Bool) → b ≡ true → c ≡ false → (b && not c) ≡ true
stays_without b c e f = rw (e, f) refl

pub passed_over : (dirty : ℕ → ℕ → Bool) (a : Schedule) (n p : ℕ) → Covers dirty a → decision a n p ≡ None → Covers (without n p dirty) a
passed_over dirty a n p c e m q j f = stays_without (dirty m q) (is_position n p m q) (c m q j f)
    (by_bool {C = is_position n p m q ≡ false} (is_position n p m q) (λ g. not_some (decision a m q) j (at_same a n p m q g ∙ e) f) (λ g. g))

pub decided_marks : (dirty : ℕ → ℕ → Bool) (a : Schedule) (n p : ℕ) (j : InstanceValue) → Covers dirty a → decision a n p ≡ Some j → Covers (marked a n p dirty) (put j n p a)
decided_marks dirty a n p j c e m q k f =
    by_bool {C = marked a n p dirty m q ≡ true} (is_position n p m q)
    (λ g. not_some (decision (put j n p a) m q) k (at_same (put j n p a) n p m q g ∙ decided_once a n p j e) f)
    (λ g. by_bool {C = marked a n p dirty m q ≡ true} (looks a m q n p)
    (λ l. or_right (without n p dirty m q) (looks a m q n p) l)
    (λ l. or_left (without n p dirty m q) (looks a m q n p)
    (stays_without (dirty m q) (is_position n p m q) (c m q k (sym (unlooked a (λ i. j) n p m q l g) ∙ f)) g)))

-- a change of one instance, whatever it is, marks it and what looks at it
pub change_marks : (dirty : ℕ → ℕ → Bool) (a : Schedule) (g : InstanceValue → InstanceValue) (n p : ℕ) → Covers dirty a → Covers (touched a n p dirty) (change_at g n p a)
change_marks dirty a g n p c m q k f =
    by_bool {C = touched a n p dirty m q ≡ true} (is_position n p m q)
    (λ e. or_right (dirty m q) (is_position n p m q || looks a m q n p) (or_left (is_position n p m q) (looks a m q n p) e))
    (λ e. by_bool {C = touched a n p dirty m q ≡ true} (looks a m q n p)
    (λ l. or_right (dirty m q) (is_position n p m q || looks a m q n p) (or_right (is_position n p m q) (looks a m q n p) l))
    (λ l. or_left (dirty m q) (is_position n p m q || looks a m q n p) (c m q k (sym (unlooked a g n p m q l e) ∙ f))))

-- ---- later positions

below_of : (p q : ℕ) (us : List ℕ) → list_all (λ v. nat_lt v q) us ≡ true → is_in us p ≡ true → p < q
below_of p q [] e f = absurd (true≢false (sym f))
below_of p q (u ∷ us) e f = by_bool {C = p < q} (nat_eq u p)
    (λ g. let h : u ≡ p = eqb-true u p g in let l : u < q = ltb-true u q (and_left _ _ e) in omega arith)
    (λ g. below_of p q us (and_right (nat_lt u q) _ e) (or_true (nat_eq u p) _ g f))

-- an upstream stands below, in rows that lead down from i on
row_below : (i q p : ℕ) (rows : List (List ℕ)) → list_all (λ b. b) (map_places is_sound_row i rows) ≡ true → is_in (slice_index_or rows q []) p ≡ true → p < i + q
row_below i q p [] e f = absurd (true≢false (sym f))
row_below i zero p (us ∷ rows) e f =
    let l : p < i = below_of p i us (and_left _ _ (and_left _ _ e)) f in omega arith
row_below i (suc q) p (us ∷ rows) e f =
    let l : p < (i + 1) + q = row_below (i + 1) q p rows (and_right (is_sound_row i us) _ e) f in omega arith

found_down : (id : List ℕ) (gs : List LoadedGraph) → list_all (λ (g : LoadedGraph). leads_down g.dag) gs ≡ true → leads_down (dag_among gs id) ≡ true
found_down id [] e = refl
found_down id (g ∷ gs) e = elim (same g.dag.spec.dag_id id) as (λ b. leads_down (unwrap_or (option_map (λ (h : LoadedGraph). h.dag) (cond b (Some g) (graph_among gs id))) no_dag) ≡ true) [
  | true ↦ and_left _ _ e
  | false ↦ found_down id gs (and_right (leads_down g.dag) _ e)
]

placed_at : {X : Type 0} (test : X → Bool) (i : ℕ) (xs : List X) (k : ℕ) → last_place test i xs ≡ Some k → (m : ℕ) × (x : X) × (k ≡ i + m) × (slice_get xs m ≡ Some x) × (test x ≡ true)
placed_at test i [] k e = absurd (let c : ◌≡◌ {A = Option ℕ} None (Some k) = e in cc)
placed_at {X} test i (x ∷ xs) k e = elim (last_place test (i + 1) xs) as (λ u. last_place test (i + 1) xs ≡ u → (elim u [ Some j ↦ Some j | None ↦ cond (test x) (Some i) None ]) ≡ Some k → (m : ℕ) × (y : X) × (k ≡ i + m) × (slice_get (x ∷ xs) m ≡ Some y) × (test y ≡ true)) [
  | Some j ↦ λ p q.
      let c : ◌≡◌ {A = Option ℕ} (Some j) (Some k) = q in let r : j ≡ k = cc in
      let t = placed_at test (i + 1) xs j p in
      let m : ℕ = t.0 in
      let h : j ≡ (i + 1) + m = t.2 in
      let z : k ≡ i + suc m = omega arith in
      (suc m, t.1, z, t.3, t.4)
  | None ↦ λ p. elim (test x) as (λ b. test x ≡ b → cond b (Some i) None ≡ Some k → (m : ℕ) × (y : X) × (k ≡ i + m) × (slice_get (x ∷ xs) m ≡ Some y) × (test y ≡ true)) [
    | true ↦ λ b q. let c : ◌≡◌ {A = Option ℕ} (Some i) (Some k) = q in let r : i ≡ k = cc in let z : k ≡ i + 0 = omega arith in (0, x, z, refl, b)
    | false ↦ λ b q. absurd (let c : ◌≡◌ {A = Option ℕ} None (Some k) = q in cc)
  ] refl
] refl e

rises_get : {X : Type 0} (before : X → X → Bool) (xs : List X) (i j : ℕ) (x y : X) → rises before xs ≡ true → slice_get xs i ≡ Some x → slice_get xs j ≡ Some y → i < j → before x y ≡ true
rises_get {X} before [] i j x y e f g l = absurd (let c : ◌≡◌ {A = Option X} None (Some x) = f in cc)
rises_get before (z ∷ xs) i zero x y e f g l = absurd (omega arith)
rises_get {X} before (z ∷ xs) zero (suc j) x y e f g l =
    let c : ◌≡◌ {A = Option X} (Some z) (Some x) = f in let r : z ≡ x = cc in
    ap (λ w. before w y) (sym r) ∙ all_get (before z) xs j y (and_left _ _ e) g
rises_get before (z ∷ xs) (suc i) (suc j) x y e f g l = rises_get before xs i j x y (and_right (list_all (before z) xs) _ e) f g (omega arith)

eq_is : (k : Ordering) → is_eq k ≡ true → k ≡ Equal
eq_is Less e = absurd (true≢false (sym e))
eq_is Equal e = refl
eq_is Greater e = absurd (true≢false (sym e))

-- an earlier run of the same graph stands before
earlier_before : (r w : Run) → is_earlier r w ≡ true → run_before w r ≡ true
earlier_before r w e =
    let s : name_cmp w.graph r.graph ≡ Equal = eq_is _ (is_eq-slice_cmp w.graph r.graph ∙ and_left _ _ e) in
    let l : nat_cmp w.logical r.logical ≡ Less = ap (λ b. cond b Less (cond (nat_eq w.logical r.logical) Equal Greater)) (and_right (same w.graph r.graph) _ e) in
    ap (λ k. is_less (ordering_then k (nat_cmp w.logical r.logical))) s ∙ ap is_less l

apart_above : (n m : ℕ) → nat_lt n m ≡ false → nat_eq n m ≡ false → m < n
apart_above n m l q =
    let a : m ≤ n = ltb-false n m l in
    let b : n ≡ m → ⊥ = eqb-false n m q in
    omega arith

stands_before : (rs : List Run) (n m : ℕ) (w r : Run) → rises run_before rs ≡ true → slice_get rs n ≡ Some w → slice_get rs m ≡ Some r → run_before w r ≡ true → n < m
stands_before rs n m w r e f g b = by_bool {C = n < m} (nat_lt n m) (λ l. ltb-true n m l)
    (λ l. by_bool {C = n < m} (nat_eq n m)
    (λ q.
    let k : n ≡ m = eqb-true n m q in
    let c : ◌≡◌ {A = Option Run} (Some w) (Some r) = sym f ∙ ap (slice_get rs) k ∙ g in let u : w ≡ r = cc in
    absurd (true≢false (sym b ∙ ap (λ x. run_before x r) u ∙ not_itself run_total r)))
    (λ q.
    let h : m < n = apart_above n m l q in
    absurd (true≢false (sym b ∙ not_both run_total r w (rises_get run_before rs m n r w e g f h)))))

place_before : (a : Schedule) (m n : ℕ) (r : Run) → rises run_before a.runs ≡ true → slice_get a.runs m ≡ Some r → (o : Option ℕ) → previous_at a r ≡ o → is_place n o ≡ true → n < m
place_before a m n r h e None f d = absurd (true≢false (sym d))
place_before a m n r h e (Some k) f d =
    let t = placed_at (is_earlier r) 0 a.runs k f in
    let i : ℕ = t.0 in
    let z : k ≡ 0 + i = t.2 in
    let y : k ≡ n = eqb-true k n d in
    let x : i ≡ n = omega arith in
    stands_before a.runs n m t.1 r h (subst (λ (v : ℕ). slice_get a.runs v ≡ Some t.1) x t.3) e (earlier_before r t.1 t.4)

looks_later_in : (a : Schedule) (m q n p : ℕ) (o : Option Run) → IsOrdered a → slice_get a.runs m ≡ o → looks_in a m q n p o ≡ true → Before n p m q
looks_later_in a m q n p None h e l = absurd (true≢false (sym l))
looks_later_in a m q n p (Some r) h e l = elim (slice_get (tasks_of a r) q) as (λ o. slice_get (tasks_of a r) q ≡ o → looks_from a m q n p r o ≡ true → Before n p m q) [
  | None ↦ λ f k. absurd (true≢false (sym k))
  | Some t ↦ λ f k. by_bool {C = Before n p m q} (nat_eq m n && is_in (ups (dag_named a r.graph) q) p)
      (λ b.
      let w : m ≡ n = eqb-true m n (and_left _ _ b) in
      let l : p < 0 + q = row_below 0 q p (dag_named a r.graph).upstreams (found_down r.graph a.graphs h.graphs) (and_right (nat_eq m n) _ b) in
      inr (sym w, (omega arith)))
      (λ b.
      let c : (t.depends_on_past && (nat_eq q p && is_place n (previous_at a r))) ≡ true = or_true (nat_eq m n && is_in (ups (dag_named a r.graph) q) p) _ b k in
      let d : is_place n (previous_at a r) ≡ true = and_right (nat_eq q p) _ (and_right t.depends_on_past _ c) in
      inl (place_before a m n r h.runs e (previous_at a r) refl d))
] refl l

-- what looks at a position stands after it
pub looks_later : (a : Schedule) (m q n p : ℕ) → IsOrdered a → looks a m q n p ≡ true → Before n p m q
looks_later a m q n p h l = looks_later_in a m q n p (slice_get a.runs m) h refl l
