-- The runs that a tick names are new: of graphs that are there, no two for one date, and dated by moments.
use Rattle.std.proofs.Common.{◌≡◌, refl, sym, ap, ◌∙◌, ℕ, ◌<◌, ◌≤◌, List, [], ◌∷◌, ◌++◌, Bool, true, false, cond, not, ◌&&◌, ◌||◌, ◌==◌, map, filter, take, flat_map, is_some, Option, nat_lt, nat_le, arith}
use Rattle.std.specs.List.{list_any, list_all, Contains}
use Rattle.std.proofs.lemmas.Bool.{ltb-true, lt-ltb, le-leb, eqb-true, and_from, false_from_ne_true, or_right}
use Rattle.moment_core.specs.Moments.{seconds_end}
use Rattle.sched_model.specs.cron_timetable.declared.timetables.Interval.{Interval}
use Rattle.sched_model.specs.cron_timetable.declared.timetables.Timetable.{Timetable}
use Rattle.graph_file.specs.declared.graph_specs.GraphSpec.{GraphSpec}
use Rattle.sched_model.specs.run_planner.Index.{has_date}
use Rattle.sched_model.specs.run_planner.Due.{wanted_intervals, starts_rise, considered, due_intervals, last_alone}
use Rattle.sched_model.proofs.run_planner.RiseLemmas.{all_filtered, all_take, take_starts, wanted_rise}
use Rattle.sched_model.proofs.run_planner.MemberLemmas.{contains_head, contains_tail}
use Rattle.sched_model.proofs.run_planner.DueLemmas.{due_members, in_order}
use Rattle.sched_model.specs.sched_state.Lists.{same}
use Rattle.sched_model.specs.sched_state.declared.graphs.LoadedGraph.{LoadedGraph}
use Rattle.sched_model.specs.sched_state.declared.runs.RunKind.{RunKind}
use Rattle.sched_model.specs.sched_state.declared.runs.RunKind.TheVariants.{Scheduled}
use Rattle.sched_model.proofs.sched_state.OrderLemmas.{and_left, and_right, not_false}
use Rattle.sched_model.proofs.sched_state.NameLemmas.{same_itself, find_any, or_assoc}
use Rattle.sched_model.specs.Lists.{rises}
use Rattle.sched_model.specs.Schedule.{Schedule, graph_among, graph_named, graph_before, dates_of, has_run_at, is_at}
use Rattle.sched_model.specs.sched_state.declared.runs.Run.{Run}
use Rattle.sched_model.specs.NamedRuns.{NamedRun, is_for, run_from, runs_per_tick, wanted_by, named_of, named_by_tick}
use Rattle.sched_model.specs.Sound.{IsSound, is_moment, is_new, are_new}
use Rattle.sched_laws.proofs.ListLemmas.{all_impl}
use Rattle.sched_laws.proofs.GraphLemmas.{flip_same}
use Rattle.sched_laws.proofs.LoadLemmas.{before_apart}
use Rattle.std.proofs.Math.Bool.{and-false}

not_is : (b : Bool) → b ≡ false → not b ≡ true
not_is b e = ap not e

-- ---- intervals that have ended
-- from a moment up to one, and not back
abbrev pub is_dated : Interval → Bool
is_dated i = is_moment i.start && (is_moment i.end && nat_le i.start i.end)

pub dated : (t : ℕ) (i : Interval) → t < seconds_end → i.start ≤ i.end → i.end ≤ t → is_dated i ≡ true
dated t i range rising ended =
    let starts : i.start < seconds_end = omega arith in
    let ends : i.end < seconds_end = omega arith in
    and_from _ _ (lt-ltb i.start seconds_end starts) (and_from _ _ (lt-ltb i.end seconds_end ends) (le-leb i.start i.end rising))

all_members : {X : Type 0} (p : X → Bool) (xs : List X) → ((x : X) → Contains xs x → p x ≡ true) → list_all p xs ≡ true
all_members p [] h = refl
all_members p (x ∷ xs) h = and_from (p x) _ (h x (contains_head x xs)) (all_members p xs (λ y there. h y (contains_tail x xs y there)))

pub all_filter : {X : Type 0} (p q : X → Bool) (xs : List X) → list_all q xs ≡ true → list_all q (filter p xs) ≡ true
all_filter p q [] e = refl
all_filter p q (x ∷ xs) e =
    elim (p x) as (λ b. list_all q (cond b (x ∷ filter p xs) (filter p xs)) ≡ true) [
      | true ↦ and_from (q x) _ (and_left (q x) _ e) (all_filter p q xs (and_right (q x) _ e))
      | false ↦ all_filter p q xs (and_right (q x) _ e)
    ]

pub all_last : {X : Type 0} (q : X → Bool) (xs : List X) → list_all q xs ≡ true → list_all q (last_alone xs) ≡ true
all_last q [] e = refl
all_last q (x ∷ []) e = e
all_last q (x ∷ y ∷ xs) e = all_last q (y ∷ xs) (and_right (q x) _ e)

pub due_dated : (timetable : Timetable) (first t : ℕ) (last : Option ℕ) → t < seconds_end → list_all is_dated (due_intervals timetable first last t) ≡ true
due_dated timetable first t last range =
    all_members is_dated (due_intervals timetable first last t)
    (λ i there. let due = (due_members timetable first t last i range).0 there in dated t i range (in_order timetable first i due.interval) due.ended)

considered_dated : (catchup : Bool) (is : List Interval) → list_all is_dated is ≡ true → list_all is_dated (considered catchup is) ≡ true
considered_dated true is e = e
considered_dated false is e = all_last is_dated is e

-- what a tick wants has ended by it
wanted_dated : (g : GraphSpec) (t : ℕ) (dates : List ℕ) → t < seconds_end → list_all is_dated (wanted_intervals g t dates) ≡ true
wanted_dated g t dates range =
    all_filter (λ (i : Interval). not (has_date dates i.start)) is_dated (considered g.catchup (due_intervals g.schedule g.start_date g.end_date t))
    (considered_dated g.catchup (due_intervals g.schedule g.start_date g.end_date t) (due_dated g.schedule g.start_date t g.end_date range))

-- ---- dates
pub filtered_date : (id : List ℕ) (date : ℕ) (rs : List Run) → has_date (map (λ (q : Run). q.logical) (filter (λ (q : Run). same q.graph id) rs)) date ≡ list_any (is_at id date) rs
filtered_date id date [] = refl
filtered_date id date (r ∷ rs) =
    elim (same r.graph id) as (λ b. list_any (λ d. d == date) (map (λ (q : Run). q.logical) (cond b (r ∷ filter (λ (q : Run). same q.graph id) rs) (filter (λ (q : Run). same q.graph id) rs))) ≡ ((b && r.logical == date) || list_any (is_at id date) rs)) [
      | true ↦ ap (λ b. (r.logical == date) || b) (filtered_date id date rs)
      | false ↦ filtered_date id date rs
    ]

-- ---- the runs of one graph
abbrev scheduled : List ℕ → Interval → NamedRun
scheduled id = run_from Scheduled id

later_apart : (k : RunKind) (id : List ℕ) (date : ℕ) (is : List Interval) → list_all (λ (j : Interval). nat_lt date j.start) is ≡ true → list_any (is_for id date) (map (run_from k id) is) ≡ false
later_apart k id date [] e = refl
later_apart k id date (i ∷ is) e =
    let later : date < i.start = ltb-true date i.start (and_left (nat_lt date i.start) _ e) in
    let other : (i.start == date) ≡ false = false_from_ne_true _ (λ f. let at : i.start ≡ date = eqb-true i.start date f in absurd (omega arith)) in
    let here : is_for id date (run_from k id i) ≡ false = ap (λ b. same id id && b) other ∙ and-false (same id id) in
    rw (here, later_apart k id date is (and_right (nat_lt date i.start) _ e)) refl

pub one_graph : (a : Schedule) (k : RunKind) (id : List ℕ) (is : List Interval) → is_some (graph_named a id) ≡ true → list_all (λ (i : Interval). not (has_run_at a id i.start)) is ≡ true → list_all is_dated is ≡ true → starts_rise is ≡ true
    → are_new a (map (run_from k id) is) ≡ true
one_graph a k id [] known free moments rising = refl
one_graph a k id (i ∷ is) known free moments rising =
    and_from (is_new a (run_from k id i)) _
    (and_from (is_some (graph_named a id) && not (has_run_at a id i.start)) _
    (and_from (is_some (graph_named a id)) (not (has_run_at a id i.start)) known (and_left (not (has_run_at a id i.start)) _ free))
    (and_left (is_dated i) _ moments))
    (and_from (not (list_any (is_for id i.start) (map (run_from k id) is))) _
    (not_is _ (later_apart k id i.start is (and_left _ _ rising)))
    (one_graph a k id is known (and_right (not (has_run_at a id i.start)) _ free) (and_right (is_dated i) _ moments) (and_right (list_all (λ (j : Interval). nat_lt i.start j.start) is) _ rising)))

-- ---- several graphs
any_append : {X : Type 0} (p : X → Bool) (xs ys : List X) → list_any p (xs ++ ys) ≡ (list_any p xs || list_any p ys)
any_append p [] ys = refl
any_append p (x ∷ xs) ys = ap (λ b. p x || b) (any_append p xs ys) ∙ or_assoc (p x) (list_any p xs) (list_any p ys)

new_append : (a : Schedule) (ns ms : List NamedRun) → are_new a ns ≡ true → are_new a ms ≡ true → list_all (λ (n : NamedRun). not (list_any (is_for n.graph n.logical) ms)) ns ≡ true → are_new a (ns ++ ms) ≡ true
new_append a [] ms e f apart = f
new_append a (n ∷ ns) ms e f apart =
    let rest = and_right (is_new a n) _ e in
    let among : list_any (is_for n.graph n.logical) ns ≡ false = not_false _ (and_left (not (list_any (is_for n.graph n.logical) ns)) _ rest) in
    let beside : list_any (is_for n.graph n.logical) ms ≡ false = not_false _ (and_left (not (list_any (is_for n.graph n.logical) ms)) _ apart) in
    and_from (is_new a n) _ (and_left (is_new a n) _ e)
    (and_from (not (list_any (is_for n.graph n.logical) (ns ++ ms))) _
    (not_is _ (any_append (is_for n.graph n.logical) ns ms ∙ (ap (λ b. b || list_any (is_for n.graph n.logical) ms) among ∙ beside)))
    (new_append a ns ms (and_right (not (list_any (is_for n.graph n.logical) ns)) _ rest) f (and_right (not (list_any (is_for n.graph n.logical) ms)) _ apart)))

other_graph : (id other : List ℕ) (date : ℕ) → same other id ≡ false → (is : List Interval) → list_any (is_for id date) (map (scheduled other) is) ≡ false
other_graph id other date apart [] = refl
other_graph id other date apart (i ∷ is) = ap (λ b. (b && i.start == date) || list_any (is_for id date) (map (scheduled other) is)) apart ∙ other_graph id other date apart is

later_graphs : (a : Schedule) (t : ℕ) (g : LoadedGraph) (date : ℕ) (gs : List LoadedGraph) → list_all (graph_before g) gs ≡ true → list_any (is_for g.dag.spec.dag_id date) (flat_map (named_of a t) gs) ≡ false
later_graphs a t g date [] e = refl
later_graphs a t g date (h ∷ hs) e =
    let apart : same h.dag.spec.dag_id g.dag.spec.dag_id ≡ false = flip_same g.dag.spec.dag_id h.dag.spec.dag_id (before_apart g h (and_left (graph_before g h) _ e)) in
    any_append (is_for g.dag.spec.dag_id date) (named_of a t h) (flat_map (named_of a t) hs)
    ∙ (ap (λ b. b || list_any (is_for g.dag.spec.dag_id date) (flat_map (named_of a t) hs)) (other_graph g.dag.spec.dag_id h.dag.spec.dag_id date apart (take runs_per_tick (wanted_by a t h)))
    ∙ later_graphs a t g date hs (and_right (graph_before g h) _ e))

all_of_graph : (p : NamedRun → Bool) (id : List ℕ) → ((i : Interval) → p (scheduled id i) ≡ true) → (is : List Interval) → list_all p (map (scheduled id) is) ≡ true
all_of_graph p id h [] = refl
all_of_graph p id h (i ∷ is) = and_from (p (scheduled id i)) _ (h i) (all_of_graph p id h is)

-- ---- what a tick wants of a graph
unless_paused : (b : Bool) (p : List Interval → Bool) (is : List Interval) → p [] ≡ true → p is ≡ true → p (elim b as (λ c. List Interval) [ true ↦ [] | false ↦ is ]) ≡ true
unless_paused true p is e f = e
unless_paused false p is e f = f

wanted_free : (a : Schedule) (t : ℕ) (g : LoadedGraph) → list_all (λ (i : Interval). not (has_run_at a g.dag.spec.dag_id i.start)) (wanted_by a t g) ≡ true
wanted_free a t g =
    let dates : List ℕ = dates_of a g.dag.spec.dag_id in
    unless_paused g.paused (list_all (λ (i : Interval). not (has_run_at a g.dag.spec.dag_id i.start))) (wanted_intervals g.dag.spec t dates) refl
    (all_impl (λ (i : Interval). not (has_date dates i.start)) (λ (i : Interval). not (has_run_at a g.dag.spec.dag_id i.start))
    (λ i e. ap not (sym (filtered_date g.dag.spec.dag_id i.start a.runs)) ∙ e) (wanted_intervals g.dag.spec t dates)
    (all_filtered (λ (i : Interval). not (has_date dates i.start)) (considered g.dag.spec.catchup (due_intervals g.dag.spec.schedule g.dag.spec.start_date g.dag.spec.end_date t))))

wanted_rises : (a : Schedule) (t : ℕ) (g : LoadedGraph) → starts_rise (wanted_by a t g) ≡ true
wanted_rises a t g = unless_paused g.paused starts_rise (wanted_intervals g.dag.spec t (dates_of a g.dag.spec.dag_id)) refl (wanted_rise g.dag.spec t (dates_of a g.dag.spec.dag_id))

wanted_moments : (a : Schedule) (t : ℕ) (g : LoadedGraph) → t < seconds_end → list_all is_dated (wanted_by a t g) ≡ true
wanted_moments a t g range =
    unless_paused g.paused (list_all is_dated) (wanted_intervals g.dag.spec t (dates_of a g.dag.spec.dag_id)) refl (wanted_dated g.dag.spec t (dates_of a g.dag.spec.dag_id) range)

new_from : (a : Schedule) (t : ℕ) (gs : List LoadedGraph) → t < seconds_end → rises graph_before gs ≡ true → list_all (λ (g : LoadedGraph). is_some (graph_named a g.dag.spec.dag_id)) gs ≡ true → are_new a (flat_map (named_of a t) gs) ≡ true
new_from a t [] range order known = refl
new_from a t (g ∷ gs) range order known =
    let is : List Interval = take runs_per_tick (wanted_by a t g) in
    new_append a (map (scheduled g.dag.spec.dag_id) is) (flat_map (named_of a t) gs)
    (one_graph a Scheduled g.dag.spec.dag_id is (and_left (is_some (graph_named a g.dag.spec.dag_id)) _ known)
    (all_take (λ (i : Interval). not (has_run_at a g.dag.spec.dag_id i.start)) runs_per_tick (wanted_by a t g) (wanted_free a t g))
    (all_take is_dated runs_per_tick (wanted_by a t g) (wanted_moments a t g range))
    (take_starts runs_per_tick (wanted_by a t g) (wanted_rises a t g)))
    (new_from a t gs range (and_right (list_all (graph_before g) gs) _ order) (and_right (is_some (graph_named a g.dag.spec.dag_id)) _ known))
    (all_of_graph (λ (n : NamedRun). not (list_any (is_for n.graph n.logical) (flat_map (named_of a t) gs))) g.dag.spec.dag_id
    (λ i. not_is _ (later_graphs a t g i.start gs (and_left (list_all (graph_before g) gs) _ order))) is)

-- each graph is there
there_from : (all gs : List LoadedGraph) → ((id : List ℕ) → list_any (λ (h : LoadedGraph). same h.dag.spec.dag_id id) gs ≡ true → list_any (λ (h : LoadedGraph). same h.dag.spec.dag_id id) all ≡ true)
    → list_all (λ (g : LoadedGraph). is_some (graph_among all g.dag.spec.dag_id)) gs ≡ true
there_from all [] inside = refl
there_from all (g ∷ gs) inside =
    and_from (is_some (graph_among all g.dag.spec.dag_id)) _
    (find_any (λ (h : LoadedGraph). same h.dag.spec.dag_id g.dag.spec.dag_id) all ∙ inside g.dag.spec.dag_id (ap (λ b. b || list_any (λ (h : LoadedGraph). same h.dag.spec.dag_id g.dag.spec.dag_id) gs) (same_itself g.dag.spec.dag_id)))
    (there_from all gs (λ id e. inside id (or_right (same g.dag.spec.dag_id id) _ e)))

pub named_new : (a : Schedule) (t : ℕ) → IsSound a → is_moment t ≡ true → are_new a (named_by_tick a t) ≡ true
named_new a t s range = new_from a t a.graphs (ltb-true t seconds_end range) s.graphs_by_id (there_from a.graphs a.graphs (λ id e. e))
