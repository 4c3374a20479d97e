-- Changes of a run's phase: ends by position, and what is known of each graph's runs.
use Rattle.std.proofs.Common.{◌≡◌, ◌∙◌, refl, sym, ap, subst, ℕ, zero, suc, ◌+◌, List, [], ◌∷◌, Bool, true, false, not, ◌&&◌, cond, length, map, slice_get, count_by, nat_eq, nat_lt, Option, Some, None, option_map, unwrap_or, true≢false, arith}
use Rattle.std.specs.List.{list_all}
use Rattle.std.proofs.lemmas.Bool.{eqb-true}
use Rattle.std.proofs.lemmas.List.Sums.{sum_by-cons}
use Rattle.std.proofs.lemmas.Option.{slice_get-map}
use Rattle.graph_file.specs.Lists.{when}
use Rattle.trigger_rules.specs.States.{is_finished}
use Rattle.dag_check.specs.Orders.{is_in}
use Rattle.sched_state.specs.Lists.{same}
use Rattle.sched_state.specs.declared.graphs.LoadedGraph.{LoadedGraph}
use Rattle.sched_state.specs.declared.runs.Run.{Run}
use Rattle.sched_state.specs.declared.runs.RunPhase.{RunPhase}
use Rattle.sched_state.specs.declared.runs.RunPhase.TheVariants as phase
use Rattle.sched_state.proofs.OrderLemmas.{and_left}
use Rattle.sched_model.specs.Lists.{at}
use Rattle.sched_model.specs.Handout.{in_instance}
use Rattle.sched_model.specs.Schedule.{Schedule, graph_among, is_running, is_queued, no_dag}
use Rattle.sched_model.specs.States.{states, active_runs}
use Rattle.sched_model.specs.Settle.{can_start, finish_run, has_bad_leaf}
use Rattle.sched_laws.specs.Sweep.{decision, decide_at, sweep, sweep_places, sweep_runs}
use Rattle.sched_laws.specs.Stages.{finish_every, ended_run, in_phase, phase_at, CoversEnds, CoversStarts}
use Rattle.sched_laws.proofs.SettleLemmas.{map_some, when_some}
use Rattle.sched_laws.proofs.HandLemmas.{map_at}
use Rattle.sched_laws.proofs.LookLemmas.{get_at, get_apart}
use Rattle.sched_laws.proofs.SweepLemmas.{length_at}
use Rattle.sched_laws.proofs.DecisionLemmas.{by_bool}
use Rattle.sched_settling.specs.Marks.{IsKeyed, IsEndedAt, IsQueue, IsLine, AreLines, has_line, is_queued_run, is_queued_at, is_waiting, date_at, one_fewer}
use Rattle.sched_settling.specs.declared.lines.GraphRuns.{GraphRuns}
use Rattle.sched_settling.proofs.StageLemmas.{phase_keyed}
use Rattle.sched_settling.proofs.MarkLemmas.{in_tail, places_graphs}

-- ---- the end of a run
pub record Ends (r : Run) (ph : RunPhase) : Type 0 where
  pub was : is_running r.phase ≡ true
  pub not_running : is_running ph ≡ false
  pub not_queued : is_queued ph ≡ false

ended_phase : (b : Bool) (r : Run) → is_running r.phase ≡ true → Ends r (cond b phase.Failed phase.Success)
ended_phase true r e = record { was = e; not_running = refl; not_queued = refl }
ended_phase false r e = record { was = e; not_running = refl; not_queued = refl }

pub end_facts : (a : Schedule) (r : Run) (ph : RunPhase) → finish_run a r ≡ Some (in_phase ph r) → Ends r ph
end_facts a r ph e =
    let w = when_some (is_running r.phase && list_all is_finished (states a r)) (in_phase (cond (has_bad_leaf a r) phase.Failed phase.Success) r) (in_phase ph r) e in
    let is : cond (has_bad_leaf a r) phase.Failed phase.Success ≡ ph = ap (λ (x : Run). x.phase) w.1 in
    subst (Ends r) is (ended_phase (has_bad_leaf a r) r (and_left _ _ w.0))

when_false : {A : Type 0} (b c : Bool) (x : A) → b ≡ false → when (b && c) x ≡ None
when_false true c x e = absurd (true≢false e)
when_false false c x e = refl

-- a run that is not running cannot end
no_end : (a : Schedule) (r : Run) → is_running r.phase ≡ false → finish_run a r ≡ None
no_end a r e = when_false (is_running r.phase) (list_all is_finished (states a r)) (in_phase (cond (has_bad_leaf a r) phase.Failed phase.Success) r) e

-- what stands at the position afterwards
phase_there : (ph : RunPhase) (n m : ℕ) (a : Schedule) (r q : Run) → nat_eq m n ≡ true → slice_get a.runs n ≡ Some r → slice_get (phase_at ph n a).runs m ≡ Some q → in_phase ph r ≡ q
phase_there ph n m a r q g e f =
    let u : m ≡ n = eqb-true m n g in
    let c : ◌≡◌ {A = Option Run} (Some (in_phase ph r)) (Some q) = sym (get_at (in_phase ph) n a.runs ∙ ap (option_map (in_phase ph)) e) ∙ subst (λ (y : ℕ). slice_get (phase_at ph n a).runs y ≡ Some q) u f in
    cc

pub ended_at : (a b : Schedule) (n : ℕ) (r : Run) (ph : RunPhase) → IsKeyed a → slice_get a.runs n ≡ Some r → finish_run a r ≡ Some (in_phase ph r) → b ≡ phase_at ph n a → IsEndedAt n a b
ended_at a b n r ph k e f is =
    let t = end_facts a r ph f in
    let none : finish_run a (in_phase ph r) ≡ None = no_end a (in_phase ph r) t.not_running in
    let one : ended_run a (in_phase ph r) ≡ ended_run a r = ap (λ o. unwrap_or o (in_phase ph r)) none ∙ sym (ap (λ o. unwrap_or o r) f) in
    subst (IsEndedAt n a) (sym is) (record {
      same = ap (λ rs. record a { runs = rs }) (map_at (ended_run a) (in_phase ph) n a.runs
          (λ x g. let c : ◌≡◌ {A = Option Run} (Some r) (Some x) = sym e ∙ g in let i : r ≡ x = cc in subst (λ (y : Run). ended_run a (in_phase ph y) ≡ ended_run a y) i one));
      keyed = phase_keyed ph n a k;
      long = length_at (in_phase ph) n a.runs;
      endings = λ m x q g h. by_bool {C = (nat_eq m n ≡ false) × ((finish_run a x ≡ Some q) × (slice_get a.runs m ≡ Some x))} (nat_eq m n)
          (λ u. absurd (let c : ◌≡◌ {A = Option Run} None (Some q) = sym none ∙ (ap (finish_run a) (phase_there ph n m a r x u e g) ∙ h) in cc))
          (λ u. (u, (h, sym (get_apart (in_phase ph) n m a.runs u) ∙ g)));
    })

pub ended_none : (a b : Schedule) (n : ℕ) (r : Run) → IsKeyed a → slice_get a.runs n ≡ Some r → finish_run a r ≡ None → b ≡ a → IsEndedAt n a b
ended_none a b n r k e f is = subst (IsEndedAt n a) (sym is) (record {
  same = refl;
  keyed = k;
  long = refl;
  endings = λ m x q g h. by_bool {C = (nat_eq m n ≡ false) × ((finish_run a x ≡ Some q) × (slice_get a.runs m ≡ Some x))} (nat_eq m n)
      (λ u.
      let i : m ≡ n = eqb-true m n u in
      let c : ◌≡◌ {A = Option Run} (Some r) (Some x) = sym e ∙ (ap (slice_get a.runs) (sym i) ∙ g) in
      let j : r ≡ x = cc in
      absurd (let d : ◌≡◌ {A = Option Run} None (Some q) = sym f ∙ (ap (finish_run a) j ∙ h) in cc))
      (λ u. (u, (h, g)));
})

-- ---- all ends
-- w is what ending from start has come to, and what can still end is marked
pub record IsEnding (start w : Schedule) (marks : List ℕ) (ls : List GraphRuns) : Type 0 where
  pub same : finish_every w ≡ finish_every start
  pub keyed : IsKeyed w
  pub long : length w.runs ≡ length start.runs
  pub endings : CoversEnds (is_in marks) w
  pub lines : AreLines ls w

pub ending_next : (start w v : Schedule) (n : ℕ) (rest : List ℕ) (ls ms : List GraphRuns) → IsEnding start w (n ∷ rest) ls → IsEndedAt n w v → AreLines ms v → IsEnding start v rest ms
ending_next start w v n rest ls ms s t l = record {
  same = t.same ∙ s.same;
  keyed = t.keyed;
  long = t.long ∙ s.long;
  endings = λ m r q e f. let u = t.endings m r q e f in in_tail n m rest (s.endings m r q u.1.1 u.1.0) u.0;
  lines = l;
}

none_ends : (a : Schedule) (rs : List Run) → ((m : ℕ) (r : Run) → slice_get rs m ≡ Some r → finish_run a r ≡ None) → map (ended_run a) rs ≡ rs
none_ends a [] h = refl
none_ends a (r ∷ rs) h =
    let here : finish_run a r ≡ None = h 0 r refl in
    ap (λ o. unwrap_or o r ∷ map (ended_run a) rs) here ∙ ap (λ ss. r ∷ ss) (none_ends a rs (λ m q e. h (suc m) q e))

by_end : {C : Type 0} (o : Option Run) → (o ≡ None → C) → ((q : Run) → o ≡ Some q → C) → C
by_end {C} o f g = elim o as (λ p. o ≡ p → C) [ None ↦ λ e. f e | Some q ↦ λ e. g q e ] refl

pub ending_last : (start w : Schedule) (ls : List GraphRuns) → IsEnding start w [] ls → w ≡ finish_every start
ending_last start w ls s =
    sym (ap (λ rs. record w { runs = rs }) (none_ends w w.runs
    (λ m r e. by_end {C = finish_run w r ≡ None} (finish_run w r) (λ f. f) (λ q f. absurd (true≢false (sym (s.endings m r q e f)))))))
    ∙ s.same

-- ---- counts and queues
count_at : {X : Type 0} (p : X → Bool) (f : X → X) (n : ℕ) (xs : List X) (x : X) → slice_get xs n ≡ Some x → count_by p (at f n xs) + cond (p x) 1 0 ≡ count_by p xs + cond (p (f x)) 1 0
count_at {X} p f n [] x e = absurd (let c : ◌≡◌ {A = Option X} None (Some x) = e in cc)
count_at {X} p f zero (y ∷ xs) x e =
    let c : ◌≡◌ {A = Option X} (Some y) (Some x) = e in
    let i : y ≡ x = cc in
    let left = sum_by-cons (λ (z : X). cond (p z) 1 0) (f y) xs in
    let right = sum_by-cons (λ (z : X). cond (p z) 1 0) y xs in
    subst (λ (z : X). count_by p (f y ∷ xs) + cond (p z) 1 0 ≡ count_by p (y ∷ xs) + cond (p (f z)) 1 0) i (omega (arith, left, right))
count_at {X} p f (suc n) (y ∷ xs) x e =
    let ih : count_by p (at f n xs) + cond (p x) 1 0 ≡ count_by p xs + cond (p (f x)) 1 0 = count_at p f n xs x e in
    let left = sum_by-cons (λ (z : X). cond (p z) 1 0) y (at f n xs) in
    let right = sum_by-cons (λ (z : X). cond (p z) 1 0) y xs in
    omega (arith, left, right, ih)

pub phase_active : (ph : RunPhase) (n : ℕ) (a : Schedule) (w : Run) (id : List ℕ) → slice_get a.runs n ≡ Some w
    → active_runs (phase_at ph n a) id + cond (same w.graph id && is_running w.phase) 1 0 ≡ active_runs a id + cond (same w.graph id && is_running ph) 1 0
phase_active ph n a w id e = count_at (λ (r : Run). same r.graph id && is_running r.phase) (in_phase ph) n a.runs w e

queued_off : (id : List ℕ) (ph : RunPhase) (o : Option Run) → is_queued ph ≡ false → is_queued_run id (option_map (in_phase ph) o) ≡ false
queued_off id ph None e = refl
queued_off id ph (Some r) e = by_bool {C = (same r.graph id && is_queued ph) ≡ false} (same r.graph id) (λ f. rw (f, e) refl) (λ f. rw f refl)

pub phase_date : (ph : RunPhase) (n m : ℕ) (a : Schedule) → nat_eq m n ≡ false → date_at (phase_at ph n a) m ≡ date_at a m
phase_date ph n m a e = ap (λ (o : Option Run). unwrap_or (option_map (λ (r : Run). r.logical) o) 0) (get_apart (in_phase ph) n m a.runs e)

pub phase_queued : (ph : RunPhase) (n m : ℕ) (a : Schedule) (id : List ℕ) → is_queued ph ≡ false → is_queued_at (phase_at ph n a) id m ≡ true → (nat_eq m n ≡ false) × (is_queued_at a id m ≡ true)
phase_queued ph n m a id e f = by_bool {C = (nat_eq m n ≡ false) × (is_queued_at a id m ≡ true)} (nat_eq m n)
    (λ g.
    let i : m ≡ n = eqb-true m n g in
    let off : is_queued_at (phase_at ph n a) id n ≡ false = ap (is_queued_run id) (get_at (in_phase ph) n a.runs) ∙ queued_off id ph (slice_get a.runs n) e in
    absurd (true≢false (sym (ap (is_queued_at (phase_at ph n a) id) (sym i) ∙ f) ∙ off)))
    (λ g. (g, sym (ap (is_queued_run id) (get_apart (in_phase ph) n m a.runs g)) ∙ f))

pub phase_queue : (ph : RunPhase) (n : ℕ) (a : Schedule) (id : List ℕ) (l : GraphRuns) → is_queued ph ≡ false → IsQueue a id l → IsQueue (phase_at ph n a) id l
phase_queue ph n a id l e s = record {
  rise = s.rise;
  queued = λ m f. let u = phase_queued ph n m a id e f in ap (is_waiting l) (phase_date ph n m a u.0) ∙ s.queued m u.1;
}

-- the same dates are left
one_queue : (a : Schedule) (id : List ℕ) (l : GraphRuns) → IsQueue a id l → IsQueue a id (one_fewer l)
one_queue a id l s = record { rise = record { within = s.rise.within; kept = s.rise.kept; touched = s.rise.touched }; queued = s.queued }

-- ---- lines under an end
pub end_line : (a : Schedule) (n : ℕ) (w : Run) (ph : RunPhase) (id : List ℕ) (l : GraphRuns) → slice_get a.runs n ≡ Some w → Ends w ph → IsLine a id l → IsLine (phase_at ph n a) id (cond (same w.graph id) (one_fewer l) l)
end_line a n w ph id l e t s =
    let count = phase_active ph n a w id e in
    let was : is_running w.phase ≡ true = t.was in
    let now : is_running ph ≡ false = t.not_running in
    let queue : IsQueue (phase_at ph n a) id l = phase_queue ph n a id l t.not_queued s.queue in
    let active : l.active ≡ active_runs a id = s.active in
    by_bool {C = IsLine (phase_at ph n a) id (cond (same w.graph id) (one_fewer l) l)} (same w.graph id)
    (λ g.
    let c : active_runs (phase_at ph n a) id + 1 ≡ active_runs a id + 0 = subst (λ (b : Bool). active_runs (phase_at ph n a) id + 1 ≡ active_runs a id + cond b 1 0) now
    (subst (λ (b : Bool). active_runs (phase_at ph n a) id + cond b 1 0 ≡ active_runs a id + cond (is_running ph) 1 0) was
    (subst (λ (b : Bool). active_runs (phase_at ph n a) id + cond (b && is_running w.phase) 1 0 ≡ active_runs a id + cond (b && is_running ph) 1 0) g count)) in
    rw g (record { active = omega arith; queue = one_queue (phase_at ph n a) id l queue }))
    (λ g.
    let c : active_runs (phase_at ph n a) id + 0 ≡ active_runs a id + 0 = subst (λ (b : Bool). active_runs (phase_at ph n a) id + cond (b && is_running w.phase) 1 0 ≡ active_runs a id + cond (b && is_running ph) 1 0) g count in
    rw g (record { active = omega arith; queue = queue }))

-- ---- lines under decisions
-- what lines are about
pub record Phased : Type 0 where
  pub graph : List ℕ
  pub logical : ℕ
  pub phase : RunPhase

abbrev phased : Run → Phased
phased r = record { graph = r.graph; logical = r.logical; phase = r.phase }

decide_phased : (a : Schedule) (n p : ℕ) → map phased (decide_at n p a).runs ≡ map phased a.runs
decide_phased a n p = elim (decision a n p) as (λ o. decision a n p ≡ o → map phased (decide_at n p a).runs ≡ map phased a.runs) [
  | Some j ↦ λ e. rw (e, decide_at) (map_at phased (in_instance (λ i. j) p) n a.runs (λ r f. refl))
  | None ↦ λ e. rw (e, decide_at) refl
] refl

places_phased : (k n p : ℕ) (a : Schedule) → map phased (sweep_places k n p a).runs ≡ map phased a.runs
places_phased zero n p a = refl
places_phased (suc k) n p a = places_phased k n (p + 1) (decide_at n p a) ∙ decide_phased a n p

runs_phased : (rs : List Run) (n : ℕ) (a : Schedule) → map phased (sweep_runs rs n a).runs ≡ map phased a.runs
runs_phased [] n a = refl
runs_phased (r ∷ rs) n a = runs_phased rs (n + 1) (sweep_places (length r.instances) n 0 a) ∙ places_phased (length r.instances) n 0 a

count_map : {X Y : Type 0} (p : Y → Bool) (f : X → Y) (xs : List X) → count_by p (map f xs) ≡ count_by (λ x. p (f x)) xs
count_map p f [] = refl
count_map {X} {Y} p f (x ∷ xs) =
    let ih : count_by p (map f xs) ≡ count_by (λ x. p (f x)) xs = count_map p f xs in
    let left = sum_by-cons (λ (z : Y). cond (p z) 1 0) (f x) (map f xs) in
    let right = sum_by-cons (λ (z : X). cond (p (f z)) 1 0) x xs in
    omega (arith, left, right, ih)

phased_at : (a b : Schedule) (m : ℕ) → map phased b.runs ≡ map phased a.runs → option_map phased (slice_get b.runs m) ≡ option_map phased (slice_get a.runs m)
phased_at a b m e = sym (slice_get-map phased b.runs m) ∙ (ap (λ rs. slice_get rs m) e ∙ slice_get-map phased a.runs m)

same_queued : (id : List ℕ) (o p : Option Run) → option_map phased o ≡ option_map phased p → is_queued_run id o ≡ is_queued_run id p
same_queued id None None e = refl
same_queued id None (Some q) e = absurd (let c : ◌≡◌ {A = Option Phased} None (Some (phased q)) = e in cc)
same_queued id (Some r) None e = absurd (let c : ◌≡◌ {A = Option Phased} (Some (phased r)) None = e in cc)
same_queued id (Some r) (Some q) e =
    let c : ◌≡◌ {A = Option Phased} (Some (phased r)) (Some (phased q)) = e in
    let i : phased r ≡ phased q = cc in
    ap (λ (x : Phased). same x.graph id && is_queued x.phase) i

same_date : (o p : Option Run) → option_map phased o ≡ option_map phased p → option_map (λ (r : Run). r.logical) o ≡ option_map (λ (r : Run). r.logical) p
same_date None None e = refl
same_date None (Some q) e = absurd (let c : ◌≡◌ {A = Option Phased} None (Some (phased q)) = e in cc)
same_date (Some r) None e = absurd (let c : ◌≡◌ {A = Option Phased} (Some (phased r)) None = e in cc)
same_date (Some r) (Some q) e =
    let c : ◌≡◌ {A = Option Phased} (Some (phased r)) (Some (phased q)) = e in
    let i : phased r ≡ phased q = cc in
    ap (λ (x : Phased). Some x.logical) i

line_by : (a b : Schedule) (id : List ℕ) (l : GraphRuns) → map phased b.runs ≡ map phased a.runs → IsLine a id l → IsLine b id l
line_by a b id l e s =
    let test : Phased → Bool = λ (r : Phased). same r.graph id && is_running r.phase in
    let count : active_runs b id ≡ active_runs a id = sym (count_map test phased b.runs) ∙ (ap (count_by test) e ∙ count_map test phased a.runs) in
    record {
      active = s.active ∙ sym count;
      queue = record {
        rise = s.queue.rise;
        queued = λ m f.
            ap (λ (o : Option ℕ). is_waiting l (unwrap_or o 0)) (same_date (slice_get b.runs m) (slice_get a.runs m) (phased_at a b m e))
            ∙ s.queue.queued m (sym (same_queued id (slice_get b.runs m) (slice_get a.runs m) (phased_at a b m e)) ∙ f);
      };
    }

sweep_graphs : (rs : List Run) (n : ℕ) (a : Schedule) → (sweep_runs rs n a).graphs ≡ a.graphs
sweep_graphs [] n a = refl
sweep_graphs (r ∷ rs) n a = sweep_graphs rs (n + 1) (sweep_places (length r.instances) n 0 a) ∙ places_graphs (length r.instances) n 0 a

-- whether a run can start, by what lines are about
abbrev can_as : List LoadedGraph → ℕ → Phased → Bool
can_as gs n r =
    is_queued r.phase && (not (unwrap_or (option_map (λ (g : LoadedGraph). g.paused) (graph_among gs r.graph)) false) && nat_lt n (unwrap_or (option_map (λ (g : LoadedGraph). g.dag) (graph_among gs r.graph)) no_dag).spec.max_active_runs)

starts_by : (marked : List ℕ → Bool) (a b : Schedule) → b.graphs ≡ a.graphs → map phased b.runs ≡ map phased a.runs → CoversStarts marked a → CoversStarts marked b
starts_by marked a b graphs e s m r q there f =
    let o : option_map phased (slice_get a.runs m) ≡ Some (phased r) = sym (phased_at a b m e) ∙ ap (option_map phased) there in
    let w = map_some phased (slice_get a.runs m) (phased r) o in
    let test : Phased → Bool = λ (x : Phased). same x.graph r.graph && is_running x.phase in
    let count : active_runs b r.graph ≡ active_runs a r.graph = sym (count_map test phased b.runs) ∙ (ap (count_by test) e ∙ count_map test phased a.runs) in
    let can : can_start b r ≡ true = (when_some (can_start b r) (record r { phase = phase.Running }) q f).0 in
    let graph : (w.0).graph ≡ r.graph = ap (λ (x : Phased). x.graph) w.2 in
    let was : can_start a w.0 ≡ true =
    ap (λ (i : List ℕ). can_as a.graphs (active_runs a i) (phased w.0)) graph
    ∙ (ap (can_as a.graphs (active_runs a r.graph)) w.2
    ∙ (ap (λ gs. can_as gs (active_runs a r.graph) (phased r)) (sym graphs) ∙ (ap (λ n. can_as b.graphs n (phased r)) (sym count) ∙ can))) in
    ap marked (sym graph) ∙ s m w.0 (record w.0 { phase = phase.Running }) w.1 (ap (λ c. when c (record w.0 { phase = phase.Running })) was)

pub sweep_lines : (a : Schedule) (ls : List GraphRuns) → AreLines ls a → AreLines ls (sweep a)
sweep_lines a ls s = record {
  rising = s.rising;
  each = λ n l x. line_by a (sweep a) l.id.now l (runs_phased a.runs 0 a) (s.each n l x);
  startings = starts_by (has_line ls) a (sweep a) (sweep_graphs a.runs 0 a) (runs_phased a.runs 0 a) s.startings;
}
