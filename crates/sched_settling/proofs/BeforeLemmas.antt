-- The run before stands at the position before, and what a decision looks at.
use Rattle.std.proofs.Common.{◌≡◌, ◌∙◌, refl, sym, ap, subst, ℕ, zero, suc, List, [], ◌∷◌, Bool, true, false, ◌&&◌, inr, map, slice_get, nat_lt, nat_eq, Option, Some, None, option_map, unwrap_or, true≢false}
use Rattle.std.specs.List.{list_all}
use Rattle.std.specs.Ordering.{nat_cmp, is_eq, ordering_then, ordering_reverse}
use Rattle.std.specs.declared.cmp.Ordering.{Ordering}
use Rattle.std.specs.declared.cmp.Ordering.TheVariants.{Less, Equal, Greater}
use Rattle.std.proofs.lemmas.Cmp.{nat_list_cmp_total}
use Rattle.std.proofs.lemmas.Map.Text.{is_eq-slice_cmp}
use Rattle.graph_file.specs.Lists.{when}
use Rattle.dag_check.specs.Graphs.{Dag, ups}
use Rattle.trigger_rules.specs.declared.states.State.TheVariants as state
use Rattle.instance_machine.specs.States.{state_of, opens_gate}
use Rattle.sched_state.specs.Lists.{same, name_cmp, is_less}
use Rattle.sched_state.specs.declared.runs.Run.{Run}
use Rattle.sched_state.proofs.NameLemmas.{same_is}
use Rattle.sched_state.proofs.OrderLemmas.{and_left, and_right}
use Rattle.sched_model.specs.Lists.{rises, last_passing, or_else, zip_with}
use Rattle.sched_model.specs.Schedule.{Schedule, run_before, dag_named, is_running}
use Rattle.sched_model.specs.States.{is_earlier, previous, state_at}
use Rattle.sched_model.specs.Settle.{upstream_states}
use Rattle.sched_laws.specs.Sweep.{decision_in}
use Rattle.sched_laws.proofs.AddLemmas.{run_total}
use Rattle.sched_laws.proofs.ListLemmas.{all_get}
use Rattle.sched_laws.proofs.RankLemmas.{not_both, not_itself}
use Rattle.sched_laws.proofs.LookLemmas.{in_same, decide_same, same_given, gated_same}
use Rattle.sched_laws.proofs.DecisionLemmas.{by_bool}
use Rattle.sched_settling.specs.Marks.{before_in, before_at}
use Rattle.sched_settling.proofs.DecideLemmas.{last_passes}

-- ---- the order of runs
eq_is : (k : Ordering) → is_eq k ≡ true → k ≡ Equal
eq_is Less e = absurd (true≢false (sym e))
eq_is Equal e = refl
eq_is Greater e = absurd (true≢false (sym e))

date_less : (x y : ℕ) → nat_lt x y ≡ true → nat_cmp x y ≡ Less
date_less x y e = rw e refl

earlier_before : (r w : Run) → is_earlier r w ≡ true → run_before w r ≡ true
earlier_before r w e =
    let s : name_cmp w.graph r.graph ≡ Equal = eq_is _ (is_eq-slice_cmp w.graph r.graph ∙ and_left _ _ e) in
    let l : nat_cmp w.logical r.logical ≡ Less = date_less w.logical r.logical (and_right (same w.graph r.graph) _ e) in
    ap (λ k. is_less (ordering_then k (nat_cmp w.logical r.logical))) s ∙ ap is_less l

less_date : (x y : ℕ) → is_less (nat_cmp x y) ≡ true → nat_lt x y ≡ true
less_date x y e = by_bool {C = nat_lt x y ≡ true} (nat_lt x y) (λ h. h)
    (λ h. by_bool {C = nat_lt x y ≡ true} (nat_eq x y)
    (λ g. absurd (true≢false (sym e ∙ rw (h, g) refl)))
    (λ g. absurd (true≢false (sym e ∙ rw (h, g) refl))))

-- of two runs that stand in order the first is an earlier one where it is of the same graph
tie_less : (k m : Ordering) → is_less (ordering_then k m) ≡ true → is_eq k ≡ true → is_less m ≡ true
tie_less Less m e f = absurd (true≢false (sym f))
tie_less Equal m e f = e
tie_less Greater m e f = absurd (true≢false (sym f))

not_greater : (k m : Ordering) → is_less (ordering_then k m) ≡ true → (k ≡ Greater) → ⊥
not_greater Less m e f = cc
not_greater Equal m e f = cc
not_greater Greater m e f = true≢false (sym e)

both_eq : (m : Ordering) → Equal ≡ ordering_reverse m → m ≡ Equal
both_eq Less e = cc
both_eq Equal e = refl
both_eq Greater e = cc

both_ways : (k m : Ordering) → k ≡ ordering_reverse m → (k ≡ Greater → ⊥) → (m ≡ Greater → ⊥) → m ≡ Equal
both_ways Less Less e f g = cc
both_ways Less Equal e f g = refl
both_ways Less Greater e f g = absurd (g refl)
both_ways Equal m e f g = both_eq m e
both_ways Greater m e f g = absurd (f refl)

is_and : (b c : Bool) → (b ≡ true → c ≡ true) → (b && c) ≡ b
is_and true c f = f refl
is_and false c f = refl

pub earlier_is : (r w : Run) → run_before w r ≡ true → is_earlier r w ≡ same w.graph r.graph
earlier_is r w e = is_and (same w.graph r.graph) (nat_lt w.logical r.logical)
    (λ s. less_date w.logical r.logical (tie_less (name_cmp w.graph r.graph) (nat_cmp w.logical r.logical) e (is_eq-slice_cmp w.graph r.graph ∙ s)))

-- what stands between two runs of a graph is of that graph
between : (x y r : Run) → run_before x y ≡ true → run_before y r ≡ true → same x.graph r.graph ≡ true → same y.graph r.graph ≡ true
between x y r e f s =
    let g : x.graph ≡ r.graph = same_is x.graph r.graph s in
    let e' : is_less (ordering_then (name_cmp r.graph y.graph) (nat_cmp x.logical y.logical)) ≡ true = subst (λ (i : List ℕ). is_less (ordering_then (name_cmp i y.graph) (nat_cmp x.logical y.logical)) ≡ true) g e in
    let k : name_cmp y.graph r.graph ≡ Equal =
    both_ways (name_cmp r.graph y.graph) (name_cmp y.graph r.graph) (nat_list_cmp_total.antisymm r.graph y.graph)
    (not_greater (name_cmp r.graph y.graph) (nat_cmp x.logical y.logical) e')
    (not_greater (name_cmp y.graph r.graph) (nat_cmp y.logical r.logical) f) in
    sym (is_eq-slice_cmp y.graph r.graph) ∙ ap is_eq k

not_earlier : (r w : Run) → run_before r w ≡ true → is_earlier r w ≡ false
not_earlier r w e = by_bool {C = is_earlier r w ≡ false} (is_earlier r w)
    (λ h. absurd (true≢false (sym (earlier_before r w h) ∙ not_both run_total r w e)))
    (λ h. h)

none_earlier : (r : Run) (xs : List Run) → list_all (run_before r) xs ≡ true → last_passing (is_earlier r) xs ≡ None
none_earlier r [] e = refl
none_earlier r (x ∷ xs) e =
    let rest : last_passing (is_earlier r) xs ≡ None = none_earlier r xs (and_right (run_before r x) _ e) in
    let here : is_earlier r x ≡ false = not_earlier r x (and_left _ _ e) in
    rw (rest, here) refl

itself : (r : Run) → is_earlier r r ≡ false
itself r = by_bool {C = is_earlier r r ≡ false} (is_earlier r r)
    (λ h. absurd (true≢false (sym (earlier_before r r h) ∙ not_itself run_total r)))
    (λ h. h)

-- the first of the runs has none before it
at_first : (r : Run) (xs : List Run) → list_all (run_before r) xs ≡ true → last_passing (is_earlier r) (r ∷ xs) ≡ None
at_first r xs e =
    let rest : last_passing (is_earlier r) xs ≡ None = none_earlier r xs e in
    let here : is_earlier r r ≡ false = itself r in
    rw (rest, here) refl

-- a run before those that stand on does not count where they have one that does
covered : (x r : Run) (o : Option Run) → ((y : Run) → o ≡ Some y → is_earlier r x ≡ true → same y.graph r.graph ≡ true) → (o ≡ None → is_earlier r x ≡ false)
    → or_else (before_in r o) (when (is_earlier r x) x) ≡ before_in r o
covered x r None f g = let e : is_earlier r x ≡ false = g refl in rw e refl
covered x r (Some y) f g = by_bool {C = or_else (when (same y.graph r.graph) y) (when (is_earlier r x) x) ≡ when (same y.graph r.graph) y} (same y.graph r.graph)
    (λ e. rw e refl)
    (λ e.
    let h : is_earlier r x ≡ false = by_bool {C = is_earlier r x ≡ false} (is_earlier r x) (λ k. absurd (true≢false (sym (f y refl k) ∙ e))) (λ k. k) in
    rw (e, h) refl)

-- two that follow one another
later : (rs : List Run) (m : ℕ) (z r : Run) → rises run_before rs ≡ true → slice_get rs m ≡ Some z → slice_get rs (suc m) ≡ Some r → run_before z r ≡ true
later [] m z r h f e = absurd (let c : ◌≡◌ {A = Option Run} None (Some r) = e in cc)
later (x ∷ rs) zero z r h f e =
    let c : ◌≡◌ {A = Option Run} (Some x) (Some z) = f in
    let i : x ≡ z = cc in
    subst (λ (y : Run). run_before y r ≡ true) i (all_get (run_before x) rs 0 r (and_left _ _ h) e)
later (x ∷ rs) (suc m) z r h f e = later rs m z r (and_right (list_all (run_before x) rs) _ h) f e

no_gap : (rs : List Run) (m : ℕ) (r : Run) → slice_get rs m ≡ None → slice_get rs (suc m) ≡ Some r → ⊥
no_gap [] m r f e = let c : ◌≡◌ {A = Option Run} None (Some r) = e in cc
no_gap (x ∷ rs) zero r f e = let c : ◌≡◌ {A = Option Run} (Some x) None = f in cc
no_gap (x ∷ rs) (suc m) r f e = no_gap rs m r f e

pub before_is : (rs : List Run) (m : ℕ) (r : Run) → rises run_before rs ≡ true → slice_get rs m ≡ Some r → last_passing (is_earlier r) rs ≡ before_at rs m r
before_is [] m r h e = absurd (let c : ◌≡◌ {A = Option Run} None (Some r) = e in cc)
before_is (x ∷ xs) zero r h e =
    let c : ◌≡◌ {A = Option Run} (Some x) (Some r) = e in
    let i : x ≡ r = cc in
    ap (λ (y : Run). last_passing (is_earlier r) (y ∷ xs)) i ∙ at_first r xs (subst (λ (y : Run). list_all (run_before y) xs ≡ true) i (and_left _ _ h))
before_is (x ∷ []) (suc m) r h e = absurd (let c : ◌≡◌ {A = Option Run} None (Some r) = e in cc)
before_is (x ∷ y ∷ xs) (suc zero) r h e =
    let c : ◌≡◌ {A = Option Run} (Some y) (Some r) = e in
    let i : y ≡ r = cc in
    let h2 : rises run_before (y ∷ xs) ≡ true = and_right (list_all (run_before x) (y ∷ xs)) _ h in
    let low : run_before x r ≡ true = subst (λ (z : Run). run_before x z ≡ true) i (and_left (run_before x y) _ (and_left (list_all (run_before x) (y ∷ xs)) _ h)) in
    let rest : last_passing (is_earlier r) (y ∷ xs) ≡ None =
    ap (λ (z : Run). last_passing (is_earlier r) (z ∷ xs)) i ∙ at_first r xs (subst (λ (z : Run). list_all (run_before z) xs ≡ true) i (and_left _ _ h2)) in
    ap (λ o. or_else o (when (is_earlier r x) x)) rest ∙ ap (λ b. when b x) (earlier_is r x low)
before_is (x ∷ y ∷ xs) (suc (suc m)) r h e =
    let rs : List Run = y ∷ xs in
    let h2 : rises run_before rs ≡ true = and_right (list_all (run_before x) rs) _ h in
    let all : list_all (run_before x) rs ≡ true = and_left (list_all (run_before x) rs) _ h in
    let rest : last_passing (is_earlier r) rs ≡ before_in r (slice_get rs m) = before_is rs (suc m) r h2 e in
    ap (λ o. or_else o (when (is_earlier r x) x)) rest
    ∙ covered x r (slice_get rs m)
    (λ z f k. between x z r (all_get (run_before x) rs m z all f) (later rs m z r h2 f e) (and_left _ _ k))
    (λ f. absurd (no_gap rs m r f e))

-- ---- decisions
gate : (a b : Schedule) (r : Run) (q : ℕ) → dag_named b r.graph ≡ dag_named a r.graph → (o : Option Run) → previous a r ≡ o
    → option_map (λ (w : Run). state_at b w q) o ≡ option_map (λ (w : Run). state_at a w q) o
gate a b r q d None e = refl
gate a b r q d (Some w) e =
    let id : w.graph ≡ r.graph = same_is w.graph r.graph (and_left _ _ (last_passes (is_earlier r) a.runs w e)) in
    let there : dag_named b w.graph ≡ dag_named a w.graph = ap (dag_named b) id ∙ (d ∙ sym (ap (dag_named a) id)) in
    ap (λ (g : Dag). Some (unwrap_or (slice_get (zip_with state_of g.tasks w.instances) q) state.None)) there

upstreams : (a b : Schedule) (r : Run) (q : ℕ) → dag_named b r.graph ≡ dag_named a r.graph → upstream_states b r q ≡ upstream_states a r q
upstreams a b r q d = ap (λ (g : Dag). map (λ p. unwrap_or (slice_get (zip_with state_of g.tasks r.instances) p) state.None) (ups g q)) d

-- a decision looks at its run, at the run before and at the graph
pub decision_same : (a b : Schedule) (r : Run) (q : ℕ) → dag_named b r.graph ≡ dag_named a r.graph → previous b r ≡ previous a r → decision_in b q r ≡ decision_in a q r
decision_same a b r q d e =
    in_same a b q r r (is_running r.phase)
    (λ i. decide_same a b r r q i (ap (λ (g : Dag). g.tasks) d)
    (λ t k. same_given a b r r q t
    (gated_same t.depends_on_past _ _ (inr (ap opens_gate (ap (option_map (λ (w : Run). state_at b w q)) e ∙ gate a b r q d (previous a r) refl))))
    (upstreams a b r q d)))
    refl
