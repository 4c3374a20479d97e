-- Graphs by position, and the first start.
use Rattle.std.proofs.Common.{◌≡◌, ◌∙◌, refl, sym, ap, subst, ℕ, zero, suc, ◌+◌, ◌<◌, ◌≤◌, List, [], ◌∷◌, Bool, true, false, not, ◌&&◌, ◌||◌, cond, length, map, set, drop, drop-cons, get_or, slice_get, nat_lt, nat_eq, Option, Some, None, option_and_then, option_map, unwrap_or, inl, inr, true≢false, arith}
use Rattle.std.specs.List.{list_all, find}
use Rattle.std.specs.Ordering.{nat_cmp, ordering_then}
use Rattle.std.specs.declared.cmp.Ordering.TheVariants.{Less}
use Rattle.std.specs.List.{list_any}
use Rattle.std.proofs.lemmas.Bool.{eqb-true, eqb-false, eq-eqb, ltb-true, ltb-false, lt-ltb, and_from, or_left, or_right, cases_lt}
use Rattle.std.proofs.lemmas.Map.Text.{is_eq-slice_cmp}
use Rattle.std.proofs.lemmas.Option.{slice_get_within}
use Rattle.graph_file.specs.Lists.{when}
use Rattle.dag_check.specs.Graphs.{Dag}
use Rattle.dag_check.specs.Orders.{is_in}
use Rattle.sched_state.specs.Lists.{same, name_cmp, is_less, first_change}
use Rattle.sched_state.specs.declared.graphs.LoadedGraph.{LoadedGraph}
use Rattle.sched_state.specs.declared.runs.Run.{Run}
use Rattle.sched_state.specs.declared.runs.RunPhase.{RunPhase}
use Rattle.sched_state.specs.declared.runs.RunPhase.TheVariants as phase
use Rattle.sched_state.specs.declared.runs.RunPhase.TheVariants.{Running}
use Rattle.sched_state.proofs.ElementLemmas.{element_at}
use Rattle.sched_state.proofs.NameLemmas.{same_is, same_itself, find_passes}
use Rattle.sched_state.proofs.OrderLemmas as order
use Rattle.sched_state.proofs.OrderLemmas.{and_left, and_right, not_false}
use Rattle.sched_model.specs.Lists.{at, rises}
use Rattle.sched_model.specs.Schedule.{Schedule, graph_among, graph_before, graph_named, run_before, is_queued, is_running, is_paused, max_active_runs_of, no_dag, is_at}
use Rattle.sched_model.specs.States.{active_runs, is_earlier}
use Rattle.sched_model.specs.Settle.{can_start, finish_run, start_run}
use Rattle.sched_laws.specs.Stages.{start_one, in_phase, phase_at, CoversStarts, also_graph}
use Rattle.sched_laws.proofs.SettleLemmas.{when_some}
use Rattle.sched_laws.proofs.StageLemmas.{phase_covers_starts}
use Rattle.sched_laws.proofs.AddLemmas.{run_total}
use Rattle.sched_laws.proofs.ListLemmas.{all_get}
use Rattle.sched_laws.proofs.RankLemmas.{not_both}
use Rattle.sched_laws.proofs.DecisionLemmas.{by_bool, change_first, change_quiet, at_known}
use Rattle.run_lists.specs.Orders as lists
use Rattle.run_lists.proofs.OrderLemmas.{less_only}
use Rattle.sched_settling.specs.Marks.{DatesRise, HasLineOf, has_line, id_before, ids_of, are_within, date_in, dates_from, kept_dates, IsNextDate, IsQueuedOn, IsRunAt, NoneQueuedOn, IsTouchedFirst, is_waiting, comes_first, before_kept, date_at, IsQueue, IsFirstQueued, IsLine, AreLines, IsCountedDown, IsStartIn, NoStartIn, NoneBefore, NoneQueued, is_queued_run, is_queued_at, one_fewer}
use Rattle.sched_settling.specs.declared.lines.GraphRuns.{GraphRuns}
use Rattle.sched_settling.proofs.MarkLemmas.{first_low, in_tail}
use Rattle.sched_settling.specs.Touched.{HaveLinesOfAll}
use Rattle.sched_settling.proofs.AmongLemmas.{among, has_at, has_same, id_at, ids_get, ids_set, less_apart, line_id, lines_differ, none_at, same_flips}
use Rattle.sched_settling.proofs.PhaseLemmas.{end_facts, end_line, phase_active, phase_queued, phase_date, phase_queue}
use Rattle.sched_settling.proofs.BeforeLemmas.{earlier_is}

-- ---- lists in order
pub rises_get : {X : Type 0} (before : X → X → Bool) (xs : List X) (i j : ℕ) (x y : X) → rises before xs ≡ true → slice_get xs i ≡ Some x → slice_get xs j ≡ Some y → i < j → before x y ≡ true
rises_get {X} before [] i j x y e f g l = absurd (let c : ◌≡◌ {A = Option X} None (Some x) = f in cc)
rises_get before (z ∷ xs) i zero x y e f g l = absurd (omega arith)
rises_get {X} before (z ∷ xs) zero (suc j) x y e f g l =
    let c : ◌≡◌ {A = Option X} (Some z) (Some x) = f in let r : z ≡ x = cc in
    ap (λ w. before w y) (sym r) ∙ all_get (before z) xs j y (and_left _ _ e) g
rises_get before (z ∷ xs) (suc i) (suc j) x y e f g l = rises_get before xs i j x y (and_right (list_all (before z) xs) _ e) f g (omega arith)

-- graphs that stand in order have different ids
before_apart : (g h : LoadedGraph) → graph_before g h ≡ true → same g.dag.spec.dag_id h.dag.spec.dag_id ≡ false
before_apart g h e = sym (is_eq-slice_cmp g.dag.spec.dag_id h.dag.spec.dag_id) ∙ less_apart (name_cmp g.dag.spec.dag_id h.dag.spec.dag_id) e

-- the graph at a position is that with its id
pub found_at : (gs : List LoadedGraph) (i : ℕ) (g : LoadedGraph) → rises graph_before gs ≡ true → slice_get gs i ≡ Some g → graph_among gs g.dag.spec.dag_id ≡ Some g
found_at [] i g r e = absurd (let c : ◌≡◌ {A = Option LoadedGraph} None (Some g) = e in cc)
found_at (h ∷ gs) zero g r e =
    let c : ◌≡◌ {A = Option LoadedGraph} (Some h) (Some g) = e in
    let k : h ≡ g = cc in
    subst (λ (x : LoadedGraph). graph_among (h ∷ gs) x.dag.spec.dag_id ≡ Some x) k
    (let s : same h.dag.spec.dag_id h.dag.spec.dag_id ≡ true = same_itself h.dag.spec.dag_id in ap (λ b. cond b (Some h) (graph_among gs h.dag.spec.dag_id)) s)
found_at (h ∷ gs) (suc i) g r e =
    let s : same h.dag.spec.dag_id g.dag.spec.dag_id ≡ false = before_apart h g (all_get (graph_before h) gs i g (and_left _ _ r) e) in
    ap (λ b. cond b (Some h) (graph_among gs g.dag.spec.dag_id)) s ∙ found_at gs i g (and_right (list_all (graph_before h) gs) _ r) e

pub find_none : {X : Type 0} (p : X → Bool) (xs : List X) (i : ℕ) (x : X) → find p xs ≡ None → slice_get xs i ≡ Some x → p x ≡ false
find_none {X} p [] i x e f = absurd (let c : ◌≡◌ {A = Option X} None (Some x) = f in cc)
find_none {X} p (y ∷ xs) zero x e f = by_bool {C = p x ≡ false} (p y)
    (λ g. absurd (let c : ◌≡◌ {A = Option X} (Some y) None = sym (ap (λ b. cond b (Some y) (find p xs)) g) ∙ e in cc))
    (λ g. let c : ◌≡◌ {A = Option X} (Some y) (Some x) = f in let i : y ≡ x = cc in ap p (sym i) ∙ g)
find_none {X} p (y ∷ xs) (suc i) x e f = by_bool {C = p x ≡ false} (p y)
    (λ g. absurd (let c : ◌≡◌ {A = Option X} (Some y) None = sym (ap (λ b. cond b (Some y) (find p xs)) g) ∙ e in cc))
    (λ g. find_none p xs i x (sym (ap (λ b. cond b (Some y) (find p xs)) g) ∙ e) f)

find_place : {X : Type 0} (p : X → Bool) (xs : List X) (x : X) → find p xs ≡ Some x → (i : ℕ) × (slice_get xs i ≡ Some x)
find_place {X} p [] x e = absurd (let c : ◌≡◌ {A = Option X} None (Some x) = e in cc)
find_place {X} p (y ∷ xs) x e = by_bool {C = (i : ℕ) × (slice_get (y ∷ xs) i ≡ Some x)} (p y)
    (λ g. (0, sym (ap (λ b. cond b (Some y) (find p xs)) g) ∙ e))
    (λ g. let t = find_place p xs x (sym (ap (λ b. cond b (Some y) (find p xs)) g) ∙ e) in (suc t.0, t.1))

-- ---- one line is counted down
pub set_there : {X : Type 0} (xs : List X) (i : ℕ) (y : X) → i < length xs → slice_get (set xs i y) i ≡ Some y
set_there [] i y l = absurd (omega arith)
set_there (x ∷ xs) zero y l = refl
set_there (x ∷ xs) (suc i) y l = set_there xs i y (omega arith)

less_apart_down : (m n : ℕ) → nat_eq (suc m) (suc n) ≡ false → nat_eq m n ≡ false
less_apart_down m n e = by_bool {C = nat_eq m n ≡ false} (nat_eq m n) (λ f. absurd (eqb-false (suc m) (suc n) e (ap suc (eqb-true m n f)))) (λ f. f)

pub set_apart : {X : Type 0} (xs : List X) (i j : ℕ) (y : X) → nat_eq j i ≡ false → slice_get (set xs i y) j ≡ slice_get xs j
set_apart [] zero j y e = refl
set_apart [] (suc i) j y e = refl
set_apart (x ∷ xs) zero zero y e = absurd (true≢false e)
set_apart (x ∷ xs) zero (suc j) y e = refl
set_apart (x ∷ xs) (suc i) zero y e = refl
set_apart (x ∷ xs) (suc i) (suc j) y e = set_apart xs i j y (less_apart_down j i e)

pub set_long : {X : Type 0} (xs : List X) (i : ℕ) (y : X) → length (set xs i y) ≡ length xs
set_long [] zero y = refl
set_long [] (suc i) y = refl
set_long (x ∷ xs) zero y = refl
set_long (x ∷ xs) (suc i) y = ap suc (set_long xs i y)

pub counted_some : (id : List ℕ) (ls : List GraphRuns) (p : ℕ) (l : GraphRuns) → rises id_before (ids_of ls) ≡ true → slice_get ls p ≡ Some l → l.id.now ≡ id → IsCountedDown id ls (set ls p (one_fewer l))
counted_some id ls p l r f named =
    let inside : p < length ls = slice_get_within ls p l f in
    record {
      ids = ids_set ls p l (one_fewer l) f refl;
      each = λ i m x. by_bool {C = (k : GraphRuns) × ((slice_get ls i ≡ Some k) × (m ≡ cond (same id k.id.now) (one_fewer k) k))} (nat_eq i p)
          (λ u.
          let j : i ≡ p = eqb-true i p u in
          let c : ◌≡◌ {A = Option GraphRuns} (Some (one_fewer l)) (Some m) = sym (set_there ls p (one_fewer l) inside) ∙ (ap (slice_get (set ls p (one_fewer l))) (sym j) ∙ x) in
          let m_is : one_fewer l ≡ m = cc in
          let t : same id l.id.now ≡ true = ap (same id) named ∙ same_itself id in
          (l, (ap (slice_get ls) j ∙ f, sym m_is ∙ sym (ap (λ b. cond b (one_fewer l) l) t))))
          (λ u.
          let old : slice_get ls i ≡ Some m = sym (set_apart ls p i (one_fewer l) u) ∙ x in
          let t : same id m.id.now ≡ false = ap (λ (j : List ℕ). same j m.id.now) (sym named) ∙ lines_differ ls p i l m r f old u in
          (m, (old, sym (ap (λ b. cond b (one_fewer m) m) t))));
    }

pub counted_none : (id : List ℕ) (ls : List GraphRuns) → has_line ls id ≡ false → IsCountedDown id ls ls
counted_none id ls e = record {
  ids = refl;
  each = λ i m x.
      let t : same id m.id.now ≡ false = same_flips id m.id.now ∙ none_at (ids_of ls) i m.id.now id e (ids_get ls i m x) in
      (m, (x, sym (ap (λ b. cond b (one_fewer m) m) t)));
}

-- ---- runs of a graph by date
-- of two runs of a graph the first has the lower date
dates_rise : (rs : List Run) (i j : ℕ) (r q : Run) → rises run_before rs ≡ true → slice_get rs i ≡ Some r → slice_get rs j ≡ Some q → same r.graph q.graph ≡ true → i < j → r.logical < q.logical
dates_rise rs i j r q h e f s l =
    let b : run_before r q ≡ true = rises_get run_before rs i j r q h e f l in
    let k : is_earlier q r ≡ true = earlier_is q r b ∙ s in
    ltb-true r.logical q.logical (and_right (same r.graph q.graph) _ k)

-- one graph has one run of a date
date_once : (rs : List Run) (i j : ℕ) (r q : Run) → rises run_before rs ≡ true → slice_get rs i ≡ Some r → slice_get rs j ≡ Some q → same r.graph q.graph ≡ true → r.logical ≡ q.logical → i ≡ j
date_once rs i j r q h e f s d = by_bool {C = i ≡ j} (nat_eq i j) (λ g. eqb-true i j g)
    (λ g. absurd (elim (cases_lt i j) [
      | inl l ↦ let k : r.logical < q.logical = dates_rise rs i j r q h e f s l in omega arith
      | inr l ↦
          let n : (i ≡ j) → ⊥ = eqb-false i j g in
          let m : j < i = omega arith in
          let k : q.logical < r.logical = dates_rise rs j i q r h f e (same_flips q.graph r.graph ∙ s) m in
          omega arith
    ]))

-- a queued run, read
pub record QueuedRun (a : Schedule) (id : List ℕ) (n : ℕ) : Type 0 where
  pub run : Run
  pub there : slice_get a.runs n ≡ Some run
  pub of : same run.graph id ≡ true
  pub queued : is_queued run.phase ≡ true

pub queued_run : (a : Schedule) (id : List ℕ) (n : ℕ) → is_queued_at a id n ≡ true → QueuedRun a id n
queued_run a id n e = elim (slice_get a.runs n) as (λ o. slice_get a.runs n ≡ o → is_queued_run id o ≡ true → QueuedRun a id n) [
  | None ↦ λ f g. absurd (true≢false (sym g))
  | Some r ↦ λ f g. record { run = r; there = f; of = and_left _ _ g; queued = and_right (same r.graph id) _ g }
] refl e

pub run_date : (a : Schedule) (n : ℕ) (r : Run) → slice_get a.runs n ≡ Some r → date_at a n ≡ r.logical
run_date a n r e = ap (λ (o : Option Run). unwrap_or (option_map (λ (x : Run). x.logical) o) 0) e

pub same_both : (x y z : List ℕ) → same x z ≡ true → same y z ≡ true → same x y ≡ true
same_both x y z e f = let i : x ≡ z = same_is x z e in let j : y ≡ z = same_is y z f in ap (λ w. same w y) i ∙ (ap (same z) j ∙ same_itself z)

-- a run that was found by its key
pub run_at : (a : Schedule) (id : List ℕ) (d n : ℕ) → lists.IsRunAt id d a.runs n → IsRunAt a id d n
run_at a id d n h = record { run = h.run; run_is = h.there; at = h.key }

none_of : (p : Run → Bool) (rs : List Run) (n : ℕ) (r : Run) → list_any p rs ≡ false → slice_get rs n ≡ Some r → p r ≡ false
none_of p [] n r h e = absurd (let c : ◌≡◌ {A = Option Run} None (Some r) = e in cc)
none_of p (q ∷ rs) zero r h e = let both : ◌≡◌ {A = Option Run} (Some q) (Some r) = e in let is : q ≡ r = cc in ap p (sym is) ∙ order.or_left (p q) _ h
none_of p (q ∷ rs) (suc n) r h e = none_of p rs n r (order.or_right (p q) _ h) e

pub no_run_on : (a : Schedule) (id : List ℕ) (d : ℕ) → list_any (is_at id d) a.runs ≡ false → NoneQueuedOn a id d
no_run_on a id d h k f = by_bool {C = nat_eq (date_at a k) d ≡ false} (nat_eq (date_at a k) d)
    (λ g. absurd (
    let u = queued_run a id k f in
    let there : (u.run).logical ≡ d = sym (run_date a k u.run u.there) ∙ eqb-true (date_at a k) d g in
    let at : is_at id d u.run ≡ true = and_from (same (u.run).graph id) _ u.of (eq-eqb (u.run).logical d there) in
    true≢false (sym at ∙ none_of (is_at id d) a.runs k u.run h u.there)))
    (λ g. g)

-- the run with the date is queued, or not
pub queued_here : (a : Schedule) (id : List ℕ) (d n : ℕ) (t : IsRunAt a id d n) → is_queued (t.run).phase ≡ true → IsQueuedOn a id d n
queued_here a id d n t e = record {
  queued = ap (is_queued_run id) t.run_is ∙ and_from (same (t.run).graph id) _ (and_left _ _ t.at) e;
  date = run_date a n t.run t.run_is ∙ eqb-true (t.run).logical d (and_right (same (t.run).graph id) _ t.at);
}

pub not_queued_here : (a : Schedule) (id : List ℕ) (d n : ℕ) (t : IsRunAt a id d n) → rises run_before a.runs ≡ true → is_queued (t.run).phase ≡ false → NoneQueuedOn a id d
not_queued_here a id d n t h e k f = by_bool {C = nat_eq (date_at a k) d ≡ false} (nat_eq (date_at a k) d)
    (λ g. absurd (
    let u = queued_run a id k f in
    let date : (t.run).logical ≡ d = eqb-true (t.run).logical d (and_right (same (t.run).graph id) _ t.at) in
    let there : (u.run).logical ≡ d = sym (run_date a k u.run u.there) ∙ eqb-true (date_at a k) d g in
    let i : k ≡ n = date_once a.runs k n u.run t.run h u.there t.run_is (same_both (u.run).graph (t.run).graph id u.of (and_left _ _ t.at)) (there ∙ sym date) in
    let c : ◌≡◌ {A = Option Run} (Some u.run) (Some t.run) = sym u.there ∙ (ap (slice_get a.runs) i ∙ t.run_is) in
    let is : u.run ≡ t.run = cc in
    true≢false (sym u.queued ∙ (ap (λ (x : Run). is_queued x.phase) is ∙ e))))
    (λ g. g)

-- ---- the first queued run
pub queued_first : (a : Schedule) (id : List ℕ) (l m : GraphRuns) (d n : ℕ) → rises run_before a.runs ≡ true → IsQueue a id l → IsNextDate l m d → IsQueuedOn a id d n → IsFirstQueued a id m n
queued_first a id l m d n h q t f =
    let u = queued_run a id n f.queued in
    let date : date_at a n ≡ d = f.date in
    record {
      here = f.queued;
      before = λ k low. by_bool {C = is_queued_at a id k ≡ false} (is_queued_at a id k)
          (λ g. absurd (
          let v = queued_run a id k g in
          let least : d ≤ date_at a k = t.first (date_at a k) (q.queued k g) in
          let below : (v.run).logical < (u.run).logical = dates_rise a.runs k n v.run u.run h v.there u.there (same_both (v.run).graph (u.run).graph id v.of u.of) low in
          let dk : date_at a k ≡ (v.run).logical = run_date a k v.run v.there in
          let dn : date_at a n ≡ (u.run).logical = run_date a n u.run u.there in
          omega arith))
          (λ g. g);
      others = λ k apart g.
          let v = queued_run a id k g in
          let dk : date_at a k ≡ (v.run).logical = run_date a k v.run v.there in
          let dn : date_at a n ≡ (u.run).logical = run_date a n u.run u.there in
          let other : nat_eq (date_at a k) d ≡ false = by_bool {C = nat_eq (date_at a k) d ≡ false} (nat_eq (date_at a k) d)
          (λ b. absurd (
          let e : date_at a k ≡ d = eqb-true (date_at a k) d b in
          let i : k ≡ n = date_once a.runs k n v.run u.run h v.there u.there (same_both (v.run).graph (u.run).graph id v.of u.of) (sym dk ∙ (e ∙ (sym date ∙ dn))) in
          true≢false (sym (eq-eqb k n i) ∙ apart)))
          (λ b. b) in
          t.others (date_at a k) other (q.queued k g);
    }

-- ---- dates that are left
or_first : (b c : Bool) → (b || c) ≡ true → c ≡ false → b ≡ true
or_first true c e f = refl
or_first false c e f = absurd (true≢false (sym e ∙ f))

or_second : (b c : Bool) → (b || c) ≡ true → b ≡ false → c ≡ true
or_second true c e f = absurd (true≢false f)
or_second false c e f = e

above_first : (ks : List ℕ) (d e : ℕ) → rises nat_lt ks ≡ true → comes_first d ks ≡ true → is_in ks e ≡ true → d ≤ e
above_first [] d e h f g = absurd (true≢false (sym g))
above_first (k ∷ ks) d e h f g = let low : k ≤ e = first_low k ks e h g in let l : d < k = ltb-true d k f in omega arith

pub take_touched : (ks ts : List ℕ) (d : ℕ) → rises nat_lt ks ≡ true → rises nat_lt (d ∷ ts) ≡ true → comes_first d ks ≡ true → (e : ℕ) → (is_in ks e || is_in (d ∷ ts) e) ≡ true → d ≤ e
take_touched ks ts d h t f e w = by_bool {C = d ≤ e} (is_in (d ∷ ts) e)
    (λ g. first_low d ts e t g)
    (λ g. above_first ks d e h f (or_first (is_in ks e) (is_in (d ∷ ts) e) w g))

-- the date is not after the first
abbrev pub not_later : ℕ → List ℕ → Bool
not_later d [] = true
not_later d (t ∷ ts) = not (nat_lt t d)

pub kept_first : (ks ts : List ℕ) (d : ℕ) → before_kept (d ∷ ks) ts ≡ false → not_later d ts ≡ true
kept_first ks [] d f = refl
kept_first ks (t ∷ ts) d f = ap not f

above_last : (ts : List ℕ) (d e : ℕ) → rises nat_lt ts ≡ true → not_later d ts ≡ true → is_in ts e ≡ true → d ≤ e
above_last [] d e h f g = absurd (true≢false (sym g))
above_last (t ∷ ts) d e h f g = let low : t ≤ e = first_low t ts e h g in let l : d ≤ t = ltb-false t d (not_false (nat_lt t d) f) in omega arith

pub take_kept : (ks ts : List ℕ) (d : ℕ) → rises nat_lt (d ∷ ks) ≡ true → rises nat_lt ts ≡ true → not_later d ts ≡ true → (e : ℕ) → (is_in (d ∷ ks) e || is_in ts e) ≡ true → d ≤ e
take_kept ks ts d h t f e w = by_bool {C = d ≤ e} (is_in (d ∷ ks) e)
    (λ g. first_low d ks e h g)
    (λ g. above_last ts d e t f (or_second (is_in (d ∷ ks) e) (is_in ts e) w g))

pub left_touched : (ks ts : List ℕ) (d e : ℕ) → nat_eq e d ≡ false → (is_in ks e || is_in (d ∷ ts) e) ≡ true → (is_in ks e || is_in ts e) ≡ true
left_touched ks ts d e f w = by_bool {C = (is_in ks e || is_in ts e) ≡ true} (is_in ks e)
    (λ g. or_left (is_in ks e) (is_in ts e) g)
    (λ g. or_right (is_in ks e) (is_in ts e) (in_tail d e ts (or_second (is_in ks e) (is_in (d ∷ ts) e) w g) f))

pub left_kept : (ks ts : List ℕ) (d e : ℕ) → nat_eq e d ≡ false → (is_in (d ∷ ks) e || is_in ts e) ≡ true → (is_in ks e || is_in ts e) ≡ true
left_kept ks ts d e f w = by_bool {C = (is_in ks e || is_in ts e) ≡ true} (is_in ts e)
    (λ g. or_right (is_in ks e) (is_in ts e) g)
    (λ g. or_left (is_in ks e) (is_in ts e) (in_tail d e ks (or_first (is_in (d ∷ ks) e) (is_in ts e) w g) f))

-- ---- whether runs of a graph can start
can_by : (a : Schedule) (g : LoadedGraph) (r : Run) → graph_among a.graphs g.dag.spec.dag_id ≡ Some g → same r.graph g.dag.spec.dag_id ≡ true
    → can_start a r ≡ (is_queued r.phase && (not g.paused && nat_lt (active_runs a g.dag.spec.dag_id) g.dag.spec.max_active_runs))
can_by a g r e s =
    let i : r.graph ≡ g.dag.spec.dag_id = same_is r.graph g.dag.spec.dag_id s in
    ap (λ id. is_queued r.phase && (not (is_paused a id) && nat_lt (active_runs a id) (max_active_runs_of a id))) i
    ∙ ap (λ (o : Option LoadedGraph). is_queued r.phase && (not (unwrap_or (option_map (λ (h : LoadedGraph). h.paused) o) false) && nat_lt (active_runs a g.dag.spec.dag_id) (unwrap_or (option_map (λ (h : LoadedGraph). h.dag) o) no_dag).spec.max_active_runs)) e

off_left : (b c : Bool) → b ≡ false → (b && c) ≡ false
off_left b c e = rw e refl

off_right : (b c : Bool) → c ≡ false → (b && c) ≡ false
off_right true c e = e
off_right false c e = refl

pub none_paused : (a : Schedule) (p n : ℕ) (g : LoadedGraph) → rises graph_before a.graphs ≡ true → slice_get a.graphs p ≡ Some g → g.paused ≡ true → NoneBefore a g.dag.spec.dag_id n
none_paused a p n g r e f k q l there of = can_by a g q (found_at a.graphs p g r e) of ∙ off_right (is_queued q.phase) _ (ap (λ b. not b && nat_lt (active_runs a g.dag.spec.dag_id) g.dag.spec.max_active_runs) f)

pub none_full : (a : Schedule) (p n : ℕ) (g : LoadedGraph) → rises graph_before a.graphs ≡ true → slice_get a.graphs p ≡ Some g → nat_lt (active_runs a g.dag.spec.dag_id) g.dag.spec.max_active_runs ≡ false
    → NoneBefore a g.dag.spec.dag_id n
none_full a p n g r e f k q l there of = can_by a g q (found_at a.graphs p g r e) of ∙ off_right (is_queued q.phase) _ (off_right (not g.paused) _ f)

not_queued : (a : Schedule) (id : List ℕ) (k : ℕ) (q : Run) → slice_get a.runs k ≡ Some q → same q.graph id ≡ true → is_queued_at a id k ≡ false → is_queued q.phase ≡ false
not_queued a id k q there of e =
    let f : (same q.graph id && is_queued q.phase) ≡ false = sym (ap (is_queued_run id) there) ∙ e in
    sym (ap (λ b. b && is_queued q.phase) of) ∙ f

pub none_queued : (a : Schedule) (id : List ℕ) (n : ℕ) → ((k : ℕ) → k < n → is_queued_at a id k ≡ false) → NoneBefore a id n
none_queued a id n h k q l there of = off_left (is_queued q.phase) _ (not_queued a id k q there of (h k l))

pub can_here : (a : Schedule) (p : ℕ) (g : LoadedGraph) (r : Run) → rises graph_before a.graphs ≡ true → slice_get a.graphs p ≡ Some g → same r.graph g.dag.spec.dag_id ≡ true → is_queued r.phase ≡ true
    → g.paused ≡ false → active_runs a g.dag.spec.dag_id < g.dag.spec.max_active_runs → can_start a r ≡ true
can_here a p g r o e s q f l =
    let room : nat_lt (active_runs a g.dag.spec.dag_id) g.dag.spec.max_active_runs ≡ true = lt-ltb _ _ l in
    can_by a g r (found_at a.graphs p g o e) s ∙ rw (q, f, room) refl

-- ---- lines under a start
queued_off : (ph : RunPhase) → is_queued ph ≡ true → is_running ph ≡ false
queued_off phase.Queued e = refl
queued_off phase.Running e = absurd (true≢false (sym e))
queued_off phase.Success e = refl
queued_off phase.Failed e = refl

pub start_line : (a : Schedule) (n : ℕ) (w : Run) (id : List ℕ) (l m : GraphRuns) → slice_get a.runs n ≡ Some w → same w.graph id ≡ true → is_queued w.phase ≡ true → IsLine a id l → IsFirstQueued a id m n
    → DatesRise m → m.active ≡ l.active + 1 → IsLine (phase_at phase.Running n a) id m
start_line a n w id l m e s q t f up is =
    let off : is_running w.phase ≡ false = queued_off w.phase q in
    let count = phase_active phase.Running n a w id e in
    let c : active_runs (phase_at phase.Running n a) id + 0 ≡ active_runs a id + 1 =
    subst (λ (b : Bool). active_runs (phase_at phase.Running n a) id + cond b 1 0 ≡ active_runs a id + 1) off
    (subst (λ (b : Bool). active_runs (phase_at phase.Running n a) id + cond (b && is_running w.phase) 1 0 ≡ active_runs a id + cond (b && true) 1 0) s count) in
    let was : l.active ≡ active_runs a id = t.active in
    record {
      active = omega arith;
      queue = record {
        rise = up;
        queued = λ k g. let u = phase_queued phase.Running n k a id refl g in ap (is_waiting m) (phase_date phase.Running n k a u.0) ∙ f.others k u.0 u.1;
      };
    }

-- the lines of the other graphs
other_line : (a : Schedule) (n : ℕ) (w : Run) (id : List ℕ) (l : GraphRuns) → slice_get a.runs n ≡ Some w → same w.graph id ≡ false → IsLine a id l → IsLine (phase_at phase.Running n a) id l
other_line a n w id l e s t =
    let count = phase_active phase.Running n a w id e in
    let c : active_runs (phase_at phase.Running n a) id + 0 ≡ active_runs a id + 0 =
    subst (λ (b : Bool). active_runs (phase_at phase.Running n a) id + cond (b && is_running w.phase) 1 0 ≡ active_runs a id + cond (b && true) 1 0) s count in
    let was : l.active ≡ active_runs a id = t.active in
    record {
      active = omega arith;
      queue = phase_queue phase.Running n a id l refl t.queue;
    }

-- where the lines are of the same graphs and of one more, what can start is of them too
more_startings : (a : Schedule) (id : List ℕ) (ls ms : List GraphRuns) → ids_of ms ≡ ids_of ls → CoversStarts (also_graph id (has_line ls)) a → ((m : ℕ) (r : Run) → slice_get a.runs m ≡ Some r → can_start a r ≡ true → same id r.graph ≡ true → has_line ls r.graph ≡ true)
    → CoversStarts (has_line ms) a
more_startings a id ls ms ids s one m r q there f =
    let can : can_start a r ≡ true = (when_some (can_start a r) (record r { phase = Running }) q f).0 in
    let old : has_line ls r.graph ≡ true = by_bool {C = has_line ls r.graph ≡ true} (same id r.graph)
    (λ e. one m r there can e)
    (λ e. or_first (has_line ls r.graph) (same id r.graph) (s m r q there f) e) in
    ap (λ js. among js r.graph) ids ∙ old

pub start_lines : (a b : Schedule) (p n : ℕ) (ls : List GraphRuns) (k l : GraphRuns) → slice_get ls p ≡ Some k → l.id.now ≡ k.id.now → AreLines ls a → IsStartIn k.id.now l a b n → AreLines (set ls p l) b
start_lines a b p n ls k l e named s t =
    let inside : p < length ls = slice_get_within ls p k e in
    let id_is : t.run.graph ≡ k.id.now = same_is t.run.graph k.id.now t.of in
    let here : IsLine (phase_at phase.Running n a) k.id.now l = subst (λ (x : Schedule). IsLine x k.id.now l) t.after t.line in
    let ids : ids_of (set ls p l) ≡ ids_of ls = ids_set ls p k l e named in
    subst (AreLines (set ls p l)) (sym t.after) (record {
      rising = ap (rises id_before) ids ∙ s.rising;
      each = λ i m x. by_bool {C = IsLine (phase_at phase.Running n a) m.id.now m} (nat_eq i p)
          (λ u.
          let j : i ≡ p = eqb-true i p u in
          let c : ◌≡◌ {A = Option GraphRuns} (Some l) (Some m) = sym (set_there ls p l inside) ∙ (ap (slice_get (set ls p l)) (sym j) ∙ x) in
          let m_is : l ≡ m = cc in
          subst (λ (z : GraphRuns). IsLine (phase_at phase.Running n a) z.id.now z) m_is (subst (λ (i : List ℕ). IsLine (phase_at phase.Running n a) i l) (sym named) here))
          (λ u.
          let old : slice_get ls i ≡ Some m = sym (set_apart ls p i l u) ∙ x in
          other_line a n t.run m.id.now m t.run_is (ap (λ (z : List ℕ). same z m.id.now) id_is ∙ lines_differ ls p i k m s.rising e old u) (s.each i m old));
      startings = more_startings (phase_at phase.Running n a) t.run.graph ls (set ls p l) ids (phase_covers_starts (has_line ls) a phase.Running n t.run t.run_is s.startings)
          (λ m r there can f. has_at (ids_of ls) p k.id.now r.graph (ids_get ls p k e) (ap (λ (i : List ℕ). same i r.graph) (sym id_is) ∙ f));
    })

pub same_lines : (a b : Schedule) (p : ℕ) (ls : List GraphRuns) (k l : GraphRuns) → slice_get ls p ≡ Some k → l.id.now ≡ k.id.now → AreLines ls a → NoStartIn k.id.now l a b → AreLines (set ls p l) b
same_lines a b p ls k l e named s t =
    let inside : p < length ls = slice_get_within ls p k e in
    let ids : ids_of (set ls p l) ≡ ids_of ls = ids_set ls p k l e named in
    subst (AreLines (set ls p l)) (sym t.same) (record {
      rising = ap (rises id_before) ids ∙ s.rising;
      each = λ i m x. by_bool {C = IsLine a m.id.now m} (nat_eq i p)
          (λ u.
          let j : i ≡ p = eqb-true i p u in
          let c : ◌≡◌ {A = Option GraphRuns} (Some l) (Some m) = sym (set_there ls p l inside) ∙ (ap (slice_get (set ls p l)) (sym j) ∙ x) in
          let m_is : l ≡ m = cc in
          subst (λ (z : GraphRuns). IsLine a z.id.now z) m_is (subst (λ (i : List ℕ). IsLine a i l) (sym named) t.line))
          (λ u. s.each i m (sym (set_apart ls p i l u) ∙ x));
      startings = λ m r q there f. ap (λ js. among js r.graph) ids ∙ s.startings m r q there f;
    })

-- ---- the first start
-- no run of the first graphs can start
abbrev pub NoneIn : Schedule → List (List ℕ) → ℕ → Type 0
NoneIn a is p = (n : ℕ) (i : List ℕ) → n < p → slice_get is n ≡ Some i → NoneBefore a i (length a.runs)

-- a run that can start has its graph
pub record StartPlace (a : Schedule) (r : Run) : Type 0 where
  pub place : ℕ
  pub graph : LoadedGraph
  pub found : graph_named a r.graph ≡ Some graph
  pub there : slice_get a.graphs place ≡ Some graph
  pub of : same r.graph graph.dag.spec.dag_id ≡ true

pub start_place : (a : Schedule) (r : Run) → can_start a r ≡ true → StartPlace a r
start_place a r e = elim (graph_among a.graphs r.graph) as (λ o. graph_among a.graphs r.graph ≡ o → StartPlace a r) [
  | None ↦ λ f.
      let room : nat_lt (active_runs a r.graph) (max_active_runs_of a r.graph) ≡ true = and_right (not (is_paused a r.graph)) _ (and_right (is_queued r.phase) _ e) in
      let none : max_active_runs_of a r.graph ≡ 0 = ap (λ (o : Option LoadedGraph). (unwrap_or (option_map (λ (h : LoadedGraph). h.dag) o) no_dag).spec.max_active_runs) f in
      let l : active_runs a r.graph < max_active_runs_of a r.graph = ltb-true _ _ room in
      absurd (omega arith)
  | Some g ↦ λ f.
      let t = find_place (λ (h : LoadedGraph). same h.dag.spec.dag_id r.graph) a.graphs g f in
      record { place = t.0; graph = g; found = f; there = t.1; of = same_flips r.graph g.dag.spec.dag_id ∙ find_passes (λ (h : LoadedGraph). same h.dag.spec.dag_id r.graph) a.graphs g f }
] refl

stays : (a : Schedule) (r : Run) → can_start a r ≡ false → start_run a r ≡ None
stays a r e = ap (λ b. when b (record r { phase = Running })) e

starts : (a : Schedule) (r : Run) → can_start a r ≡ true → start_run a r ≡ Some (in_phase Running r)
starts a r e = ap (λ b. when b (record r { phase = Running })) e

id_first : (r q : Run) (i j : List ℕ) → same r.graph i ≡ true → same q.graph j ≡ true → id_before i j ≡ true → run_before r q ≡ true
id_first r q i j s t e =
    let k : name_cmp r.graph q.graph ≡ Less = ap (λ z. name_cmp z q.graph) (same_is r.graph i s) ∙ (ap (name_cmp i) (same_is q.graph j t) ∙ less_only (name_cmp i j) e) in
    ap (λ z. is_less (ordering_then z (nat_cmp r.logical q.logical))) k

-- of runs before that which starts none can start
first_starts : (a b : Schedule) (is : List (List ℕ)) (p n : ℕ) (id : List ℕ) (l : GraphRuns) → rises run_before a.runs ≡ true → rises id_before is ≡ true → CoversStarts (among is) a → slice_get is p ≡ Some id → NoneIn a is p
    → IsStartIn id l a b n → (k : ℕ) (q : Run) → k < n → slice_get a.runs k ≡ Some q → can_start a q ≡ false
first_starts a b is p n id l r o covers e none t k q below there = by_bool {C = can_start a q ≡ false} (can_start a q)
    (λ can. absurd (
    let u = id_at is q.graph (covers k q (in_phase Running q) there (starts a q can)) in
    let inside : k < length a.runs = slice_get_within a.runs k q there in
    elim (cases_lt u.place p) [
      | inl lower ↦ true≢false (sym can ∙ none u.place q.graph lower u.there k q inside there (same_itself q.graph))
      | inr upper ↦ by_bool {C = ⊥} (nat_eq u.place p)
          (λ d.
          let c : ◌≡◌ {A = Option (List ℕ)} (Some q.graph) (Some id) = sym u.there ∙ (ap (slice_get is) (eqb-true u.place p d) ∙ e) in
          let named : q.graph ≡ id = cc in
          true≢false (sym can ∙ t.before k q below there (ap (same q.graph) (sym named) ∙ same_itself q.graph)))
          (λ d.
          let apart : (u.place ≡ p) → ⊥ = eqb-false u.place p d in
          let later : p < u.place = omega arith in
          let after : run_before t.run q ≡ true = id_first t.run q id q.graph t.of (same_itself q.graph) (rises_get id_before is p u.place id q.graph o e u.there later) in
          true≢false (sym after ∙ not_both run_total q t.run (rises_get run_before a.runs k n q t.run r there t.run_is below)))
    ]))
    (λ can. can)

pub start_there : (a b : Schedule) (is : List (List ℕ)) (p n : ℕ) (id : List ℕ) (l : GraphRuns) → rises run_before a.runs ≡ true → rises id_before is ≡ true → CoversStarts (among is) a → slice_get is p ≡ Some id → NoneIn a is p
    → IsStartIn id l a b n → start_one a ≡ Some b
start_there a b is p n id l r o covers e none t =
    let first : first_change (start_run a) a.runs ≡ Some (at (λ z. in_phase Running t.run) n a.runs) =
    change_first (λ i q. start_run a q) 0 n a.runs t.run (in_phase Running t.run) t.run_is (starts a t.run t.can) (λ k q below there. stays a q (first_starts a b is p n id l r o covers e none t k q below there)) in
    ap (option_map (λ rs. record a { runs = rs })) (first ∙ ap (λ rs. Some rs) (at_known (in_phase Running) n a.runs t.run t.run_is)) ∙ ap (λ s. Some s) (sym t.after)

pub start_none : (a : Schedule) (is : List (List ℕ)) (p : ℕ) → CoversStarts (among is) a → NoneIn a is p → length is ≤ p → start_one a ≡ None
start_none a is p covers none l =
    ap (option_map (λ rs. record a { runs = rs }))
    (change_quiet (λ i q. start_run a q) 0 a.runs (λ k q there. stays a q (by_bool {C = can_start a q ≡ false} (can_start a q)
    (λ can.
    let u = id_at is q.graph (covers k q (in_phase Running q) there (starts a q can)) in
    let lower : u.place < length is = slice_get_within is u.place q.graph u.there in
    absurd (true≢false (sym can ∙ none u.place q.graph (omega arith) u.there k q (slice_get_within a.runs k q there) there (same_itself q.graph))))
    (λ can. can))))

pub none_next : (a : Schedule) (is : List (List ℕ)) (p : ℕ) (id : List ℕ) → NoneIn a is p → slice_get is p ≡ Some id → NoneBefore a id (length a.runs) → NoneIn a is (p + 1)
none_next a is p id none e f n i l there = by_bool {C = NoneBefore a i (length a.runs)} (nat_eq n p)
    (λ u.
    let c : ◌≡◌ {A = Option (List ℕ)} (Some id) (Some i) = sym e ∙ (ap (slice_get is) (sym (eqb-true n p u)) ∙ there) in
    let is_id : id ≡ i = cc in
    subst (λ (x : List ℕ). NoneBefore a x (length a.runs)) is_id f)
    (λ u. let apart : (n ≡ p) → ⊥ = eqb-false n p u in none n i (omega arith) there)

-- no run of a graph that is not there can start
pub none_unknown : (a : Schedule) (id : List ℕ) (n : ℕ) → graph_named a id ≡ None → NoneBefore a id n
none_unknown a id n e k q l there of = by_bool {C = can_start a q ≡ false} (can_start a q)
    (λ can.
    let u = start_place a q can in
    let c : ◌≡◌ {A = Option LoadedGraph} (Some u.graph) None = sym u.found ∙ (ap (graph_named a) (same_is q.graph id of) ∙ e) in
    absurd cc)
    (λ can. can)

-- ---- lines under an end
pub end_lines : (a b : Schedule) (n : ℕ) (w : Run) (ph : RunPhase) (ls ms : List GraphRuns) → slice_get a.runs n ≡ Some w → finish_run a w ≡ Some (in_phase ph w) → b ≡ phase_at ph n a
    → AreLines ls a → HasLineOf a w.graph ls → IsCountedDown w.graph ls ms → AreLines ms b
end_lines a b n w ph ls ms e f is s has d =
    let t = end_facts a w ph f in
    subst (AreLines ms) (sym is) (record {
      rising = ap (rises id_before) d.ids ∙ s.rising;
      each = λ g m x.
          let u = d.each g m x in
          let named : m.id.now ≡ (u.0).id.now = ap line_id u.1.1 ∙ fewer_id (same w.graph (u.0).id.now) u.0 in
          subst (λ (i : List ℕ). IsLine (phase_at ph n a) i m) (sym named)
          (subst (IsLine (phase_at ph n a) (u.0).id.now) (sym u.1.1) (end_line a n w ph (u.0).id.now u.0 e t (s.each g u.0 u.1.0)));
      startings = more_startings (phase_at ph n a) w.graph ls ms d.ids (phase_covers_starts (has_line ls) a ph n w e s.startings)
          (λ m r there can g.
          let p = start_place (phase_at ph n a) r can in
          let same_graph : w.graph ≡ r.graph = same_is w.graph r.graph g in
          has_same (ids_of ls) w.graph r.graph g (has p.graph (ap (graph_named a) same_graph ∙ p.found)));
    })
  where
    fewer_id : (b : Bool) (l : GraphRuns) → line_id (cond b (one_fewer l) l) ≡ l.id.now
    fewer_id true l = refl
    fewer_id false l = refl

-- there is a line of each graph of which a run can start, where there is one of each graph
pub all_startings : (a : Schedule) (ls ms : List GraphRuns) → ids_of ms ≡ ids_of ls → HaveLinesOfAll a.graphs ls → CoversStarts (has_line ms) a
all_startings a ls ms ids all m r q there f =
    let can : can_start a r ≡ true = (when_some (can_start a r) (record r { phase = Running }) q f).0 in
    let p = start_place a r can in
    ap (λ js. among js r.graph) ids ∙ has_same (ids_of ls) p.graph.dag.spec.dag_id r.graph (same_flips p.graph.dag.spec.dag_id r.graph ∙ p.of) (all p.place p.graph p.there)

pub all_has : (gs : List LoadedGraph) (ls : List GraphRuns) (id : List ℕ) (g : LoadedGraph) → HaveLinesOfAll gs ls → graph_among gs id ≡ Some g → has_line ls id ≡ true
all_has gs ls id g all e =
    let t = find_place (λ (h : LoadedGraph). same h.dag.spec.dag_id id) gs g e in
    has_same (ids_of ls) g.dag.spec.dag_id id (find_passes (λ (h : LoadedGraph). same h.dag.spec.dag_id id) gs g e) (all t.0 g t.1)

-- ---- the graph with an id, at a position
pub record GraphAt (a : Schedule) (id : List ℕ) (p : ℕ) : Type 0 where
  pub graph : LoadedGraph
  pub there : slice_get a.graphs p ≡ Some graph
  pub named : graph.dag.spec.dag_id ≡ id

pub graph_at : (a : Schedule) (id : List ℕ) (p : ℕ) → p < length a.graphs → option_and_then (slice_get a.graphs) (Some p) ≡ graph_named a id → GraphAt a id p
graph_at a id p inside e =
    let g = element_at a.graphs p inside in
    record { graph = g.0; there = g.1; named = same_is (g.0).dag.spec.dag_id id (find_passes (λ (h : LoadedGraph). same h.dag.spec.dag_id id) a.graphs g.0 (sym e ∙ g.1)) }

-- ---- what is read of the graph at a position
pub paused_at : (gs : List LoadedGraph) (p : ℕ) (g : LoadedGraph) (b : Bool) → slice_get gs p ≡ Some g → option_map (λ (h : LoadedGraph). h.paused) (slice_get gs p) ≡ Some b → g.paused ≡ b
paused_at gs p g b e f = let c : ◌≡◌ {A = Option Bool} (Some g.paused) (Some b) = sym (ap (option_map (λ (h : LoadedGraph). h.paused)) e) ∙ f in cc

pub dag_at : (gs : List LoadedGraph) (p : ℕ) (g : LoadedGraph) (d : Dag) → slice_get gs p ≡ Some g → option_map (λ (h : LoadedGraph). h.dag) (slice_get gs p) ≡ Some d → g.dag ≡ d
dag_at gs p g d e f = let c : ◌≡◌ {A = Option Dag} (Some g.dag) (Some d) = sym (ap (option_map (λ (h : LoadedGraph). h.dag)) e) ∙ f in cc

pub not_below : (n m : ℕ) → m ≤ n → nat_lt n m ≡ false
not_below n m l = by_bool {C = nat_lt n m ≡ false} (nat_lt n m) (λ e. let k : n < m = ltb-true n m e in absurd (omega arith)) (λ e. e)

-- ---- what a look at one graph gives
pub not_started : (a : Schedule) (id : List ℕ) (l m : GraphRuns) → IsLine a id l → m.active ≡ l.active → NoneQueued a id → DatesRise m → NoStartIn id m a a
not_started a id l m s e none up = record {
  none = none_queued a id (length a.runs) (λ k low. none k);
  same = refl;
  line = record {
    active = e ∙ s.active;
    queue = record { rise = up; queued = λ k f. absurd (true≢false (sym f ∙ none k)) };
  };
}

pub started_in : (a b : Schedule) (p n : ℕ) (g : LoadedGraph) (l m : GraphRuns) → rises graph_before a.graphs ≡ true → slice_get a.graphs p ≡ Some g → IsLine a g.dag.spec.dag_id l
    → IsFirstQueued a g.dag.spec.dag_id m n → DatesRise m → m.active ≡ l.active + 1 → g.paused ≡ false → active_runs a g.dag.spec.dag_id < g.dag.spec.max_active_runs
    → b ≡ phase_at phase.Running n a → IsStartIn g.dag.spec.dag_id m a b n
started_in a b p n g l m o e s f up more awake room is =
    let t = queued_run a g.dag.spec.dag_id n f.here in
    record {
      run = t.run;
      run_is = t.there;
      of = t.of;
      can = can_here a p g t.run o e t.of t.queued awake room;
      before = none_queued a g.dag.spec.dag_id n f.before;
      after = is;
      line = subst (λ (x : Schedule). IsLine x g.dag.spec.dag_id m) (sym is) (start_line a n t.run g.dag.spec.dag_id l m t.there t.of t.queued s f up more);
    }

-- ---- the dates of a line that keeps what another keeps
pub same_dates : (l m : GraphRuns) → m.runs ≡ l.runs → m.kept ≡ l.kept → m.from ≡ l.from → kept_dates m ≡ kept_dates l
same_dates l m r k f =
    ap (λ (i : ℕ). dates_from m i) f ∙ (ap (λ x. map (date_in m.runs.now.runs) (drop l.from x.now)) k ∙ ap (λ x. map (date_in x.now.runs) (drop l.from l.kept.now)) r)

pub same_within : (l m : GraphRuns) → m.runs ≡ l.runs → m.kept ≡ l.kept → m.from ≡ l.from → are_within (length l.runs.now.runs) (drop l.from l.kept.now) ≡ true → are_within (length m.runs.now.runs) (drop m.from m.kept.now) ≡ true
same_within l m r k f h =
    ap (λ (i : ℕ). are_within (length m.runs.now.runs) (drop i m.kept.now)) f
    ∙ (ap (λ x. are_within (length m.runs.now.runs) (drop l.from x.now)) k ∙ (ap (λ x. are_within (length x.now.runs) (drop l.from l.kept.now)) r ∙ h))

-- ---- the dates behind the first kept one
pub rest_rise : (l : GraphRuns) (d : ℕ) → DatesRise l → l.from < length l.kept.now → kept_dates l ≡ d ∷ dates_from l (l.from + 1) → DatesRise (record l { from = l.from + 1 })
rest_rise l d s inside is = record {
  within =
      let next : l.from + 1 ≡ suc l.from = omega arith in
      ap (λ (i : ℕ). are_within (length l.runs.now.runs) (drop i l.kept.now)) next
      ∙ and_right (nat_lt (get_or l.kept.now l.from 0) (length l.runs.now.runs)) _ (ap (are_within (length l.runs.now.runs)) (sym (drop-cons l.kept.now l.from 0 inside)) ∙ s.within);
  kept = and_right (list_all (nat_lt d) (dates_from l (l.from + 1))) _ (ap (rises nat_lt) (sym is) ∙ s.kept);
  touched = s.touched;
}

-- ---- one date is taken
pub next_touched : (l m : GraphRuns) (d : ℕ) → DatesRise l → IsTouchedFirst l d → m.runs ≡ l.runs → m.kept ≡ l.kept → m.from ≡ l.from → m.touched.items ≡ drop 1 l.touched.items → IsNextDate l m d
next_touched l m d s t r k f u =
    let ks : List ℕ = kept_dates l in
    let left : kept_dates m ≡ ks = same_dates l m r k f in
    let rest : m.touched.items ≡ t.rest = u ∙ ap (drop 1) t.touched in
    let rise : rises nat_lt (d ∷ t.rest) ≡ true = ap (rises nat_lt) (sym t.touched) ∙ s.touched in
    record {
      first = λ e w. take_touched ks t.rest d s.kept rise t.first e (ap (λ xs. is_in ks e || is_in xs e) (sym t.touched) ∙ w);
      others = λ e apart w.
          ap (λ xs. is_in xs e || is_in m.touched.items e) left
          ∙ (ap (λ xs. is_in ks e || is_in xs e) rest ∙ left_touched ks t.rest d e apart (ap (λ xs. is_in ks e || is_in xs e) (sym t.touched) ∙ w));
    }

pub next_kept : (l m : GraphRuns) (d : ℕ) → DatesRise l → before_kept (kept_dates l) l.touched.items ≡ false → kept_dates l ≡ d ∷ dates_from l (l.from + 1)
    → m.runs ≡ l.runs → m.kept ≡ l.kept → m.from ≡ l.from + 1 → m.touched.items ≡ l.touched.items → IsNextDate l m d
next_kept l m d s t is r k f u =
    let ks : List ℕ = dates_from l (l.from + 1) in
    let ts : List ℕ = l.touched.items in
    let left : kept_dates m ≡ ks = same_dates (record l { from = l.from + 1 }) m r k f in
    let rise : rises nat_lt (d ∷ ks) ≡ true = ap (rises nat_lt) (sym is) ∙ s.kept in
    let low : not_later d ts ≡ true = kept_first ks ts d (ap (λ xs. before_kept xs ts) (sym is) ∙ t) in
    record {
      first = λ e w. take_kept ks ts d rise s.touched low e (ap (λ xs. is_in xs e || is_in ts e) (sym is) ∙ w);
      others = λ e apart w.
          ap (λ xs. is_in xs e || is_in m.touched.items e) left
          ∙ (ap (λ xs. is_in ks e || is_in xs e) u ∙ left_kept ks ts d e apart (ap (λ xs. is_in xs e || is_in ts e) (sym is) ∙ w));
    }
