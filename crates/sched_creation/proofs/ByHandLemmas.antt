-- What is planned by hand and for a span is what the definitions name.
use Rattle.std.proofs.Common.{◌≡◌, ◌∙◌, ◌⊎◌, inl, inr, refl, sym, ap, ℕ, zero, suc, List, [], ◌∷◌, true, false, not, map, take, length, nat_lt, Result, Ok, Err, Option, Some, None, option_map, unwrap_or, is_none, subst}
use Rattle.std.proofs.lemmas.List.{length-map}
use Rattle.std.specs.Cmp.Lexicographic.{same_text}
use Rattle.cron_timetable.specs.declared.timetables.Interval.{Interval}
use Rattle.cron_timetable.specs.declared.timetables.Timetable.{Timetable}
use Rattle.cron_timetable.specs.declared.timetables.Timetable.TheVariants.{Cron, Trigger, Once, Never}
use Rattle.dag_check.specs.Graphs.{Dag}
use Rattle.run_planner.specs.ByHand.{by_hand, manual_intervals, the_interval}
use Rattle.run_planner.specs.Due.{due_intervals, last_alone, without_runs}
use Rattle.run_planner.specs.Index.{has_date}
use Rattle.run_planner.specs.Spans.{span_intervals, with_runs, starts, IsBackfill}
use Rattle.run_planner.specs.declared.by_hand.PlanFault.{PlanFault}
use Rattle.run_planner.specs.declared.by_hand.PlanFault.TheVariants.{RunExists}
use Rattle.run_planner.specs.declared.spans.Backfill as spans
use Rattle.sched_state.specs.declared.runs.Run.{Run}
use Rattle.sched_state.specs.declared.runs.RunKind.TheVariants as kind
use Rattle.sched_model.specs.Schedule.{Schedule, dag_named, graph_named, no_dag, dates_of, has_run_at}
use Rattle.sched_model.specs.Causes.{is_unknown_graph}
use Rattle.sched_state.specs.Lists.{same}
use Rattle.sched_state.specs.declared.graphs.LoadedGraph.{LoadedGraph}
use Rattle.sched_laws.proofs.SettleLemmas.{map_some}
use Rattle.sched_model.specs.NamedRuns.{NamedRun, manual_run, named_by_hand, named_by_backfill, present_in, queued_run, run_from}
use Rattle.sched_laws.proofs.NamedLemmas.{filtered_date}
use Rattle.sched_creation.specs.NewRuns.{new_run, run_of}
use Rattle.sched_creation.specs.ByHand.{IsPlanned, IsByHand}
use Rattle.sched_creation.proofs.NamingLemmas.{queued_is, filter_same}
use Rattle.sched_state.proofs.NameLemmas.{find_passes}

-- the index has the dates of the graph's runs
abbrev pub Alike : Schedule → List ℕ → List ℕ → Type 0
Alike a id dates = (d : ℕ) → has_date dates d ≡ has_date (dates_of a id) d

dated : (a : Schedule) (id dates : List ℕ) (d : ℕ) → Alike a id dates → has_date dates d ≡ has_run_at a id d
dated a id dates d alike = alike d ∙ filtered_date id d a.runs

-- ---- by hand
-- there is one interval at most
alone : (is : List Interval) → (last_alone is ≡ []) ⊎ ((i : Interval) × (last_alone is ≡ i ∷ []))
alone [] = inl refl
alone (i ∷ []) = inr (i, refl)
alone (i ∷ j ∷ is) = alone (j ∷ is)

one_at_most : (s : Timetable) (t : ℕ) → (manual_intervals s t ≡ []) ⊎ ((i : Interval) × (manual_intervals s t ≡ i ∷ []))
one_at_most (Cron c) t = alone (due_intervals (Cron c) 0 None t)
one_at_most (Trigger c) t = inr (record { start = t; end = t }, refl)
one_at_most Once t = inr (record { start = t; end = t }, refl)
one_at_most Never t = inr (record { start = t; end = t }, refl)

-- the answer, where the interval has its run
abbrev Handled : Schedule → Dag → Result Interval PlanFault → Type 0
Handled a g (Ok i) = (run : Run) → run ≡ new_run g kind.Manual a.now i → IsPlanned a g.spec.dag_id (Ok run)
Handled a g (Err fault) = IsPlanned a g.spec.dag_id (Err fault)

queued_by_hand : (a : Schedule) (g : Dag) (i : Interval) → g ≡ dag_named a g.spec.dag_id → new_run g kind.Manual a.now i ≡ queued_run a (manual_run a g.spec.dag_id i)
queued_by_hand a g i is = ap (λ (k : Dag). record (new_run g kind.Manual a.now i) { instances = (new_run k kind.Manual a.now i).instances }) is

named_is : (a : Schedule) (g : Dag) (is : List Interval) → g ≡ dag_named a g.spec.dag_id → manual_intervals g.spec.schedule a.now ≡ is → named_by_hand a g.spec.dag_id ≡ map (manual_run a g.spec.dag_id) is
named_is a g is here e = ap (λ (k : Dag). map (manual_run a g.spec.dag_id) (manual_intervals k.spec.schedule a.now)) (sym here) ∙ ap (map (manual_run a g.spec.dag_id)) e

free : (a : Schedule) (g : Dag) (r : Result Interval PlanFault) → g ≡ dag_named a g.spec.dag_id → has_run_at a g.spec.dag_id a.now ≡ false
    → r ≡ the_interval (manual_intervals g.spec.schedule a.now) → Handled a g r
free a g r here none is = elim (one_at_most g.spec.schedule a.now) [
  | inl e ↦ subst (Handled a g) (sym (is ∙ ap the_interval e)) (none, named_is a g [] here e)
  | inr f ↦ subst (Handled a g) (sym (is ∙ ap the_interval f.1))
      (λ run made. (none, ap (λ q. q ∷ []) (made ∙ queued_by_hand a g f.0 here) ∙ sym (ap (map (queued_run a)) (named_is a g (f.0 ∷ []) here f.1))))
]

pub by_hand_is : (a : Schedule) (g : Dag) (dates : List ℕ) (r : Result Interval PlanFault) → g ≡ dag_named a g.spec.dag_id → Alike a g.spec.dag_id dates
    → r ≡ by_hand g.spec a.now dates → Handled a g r
by_hand_is a g dates r here alike is = elim (has_date dates a.now) as (λ b. has_date dates a.now ≡ b → (let found : Result Interval PlanFault = elim b [ true ↦ Err RunExists | false ↦ the_interval (manual_intervals g.spec.schedule a.now) ] in r ≡ found) → Handled a g r) [
  | true ↦ λ e f. subst (Handled a g) (sym f) (sym (dated a g.spec.dag_id dates a.now alike) ∙ e)
  | false ↦ λ e f. free a g r here (sym (dated a g.spec.dag_id dates a.now alike) ∙ e) f
] refl is

-- ---- a span
map_take : {X Y : Type 0} (f : X → Y) (n : ℕ) (xs : List X) → map f (take n xs) ≡ take n (map f xs)
map_take f zero xs = refl
map_take f (suc n) [] = refl
map_take f (suc n) (x ∷ xs) = ap (λ ys. f x ∷ ys) (map_take f n xs)

abbrev span : Schedule → Dag → ℕ → ℕ → List Interval
span a g low high = span_intervals g.spec low high a.now

fresh_is : (a : Schedule) (g : Dag) (dates : List ℕ) (low high : ℕ) → g ≡ dag_named a g.spec.dag_id → Alike a g.spec.dag_id dates
    → map (run_from kind.Backfill g.spec.dag_id) (without_runs dates (span a g low high)) ≡ named_by_backfill a g.spec.dag_id low high
fresh_is a g dates low high here alike =
    ap (map (run_from kind.Backfill g.spec.dag_id)) (filter_same _ _ (λ (i : Interval). ap not (alike i.start)) (span a g low high))
    ∙ ap (λ (k : Dag). map (run_from kind.Backfill g.spec.dag_id) (without_runs (dates_of a g.spec.dag_id) (span a k low high))) here

present_is : (a : Schedule) (g : Dag) (dates : List ℕ) (low high : ℕ) → g ≡ dag_named a g.spec.dag_id → Alike a g.spec.dag_id dates
    → starts (with_runs dates (span a g low high)) ≡ present_in a g.spec.dag_id low high
present_is a g dates low high here alike =
    ap starts (filter_same _ _ (λ (i : Interval). alike i.start) (span a g low high))
    ∙ ap (λ (k : Dag). starts (with_runs (dates_of a g.spec.dag_id) (span a k low high))) here

counted : (a : Schedule) (g : Dag) (dates : List ℕ) (low high : ℕ) → g ≡ dag_named a g.spec.dag_id → Alike a g.spec.dag_id dates
    → length (without_runs dates (span a g low high)) ≡ length (named_by_backfill a g.spec.dag_id low high)
counted a g dates low high here alike =
    sym (length-map (without_runs dates (span a g low high)) (run_from kind.Backfill g.spec.dag_id)) ∙ ap length (fresh_is a g dates low high here alike)

pub a_span : (a : Schedule) (g : Dag) (dates : List ℕ) (low high most : ℕ) (b : spans.Backfill) (runs : List Run) → g ≡ dag_named a g.spec.dag_id → Alike a g.spec.dag_id dates
    → IsBackfill dates (span a g low high) most b → runs ≡ map (run_of g kind.Backfill) b.fresh.items
    → (runs ≡ map (queued_run a) (take most (named_by_backfill a g.spec.dag_id low high))) × (b.more ≡ nat_lt most (length (named_by_backfill a g.spec.dag_id low high))) × (b.present.items ≡ present_in a g.spec.dag_id low high)
a_span a g dates low high most b runs here alike found made =
    let all : List Interval = without_runs dates (span a g low high) in
    let from : Interval → NamedRun = run_from kind.Backfill g.spec.dag_id in
    let first : map from (take most all) ≡ take most (named_by_backfill a g.spec.dag_id low high) = map_take from most all ∙ ap (take most) (fresh_is a g dates low high here alike) in (
      made ∙ (queued_is a g kind.Backfill (sym here) b.fresh.items ∙ (ap (λ is. map (queued_run a) (map from is)) found.fresh.first ∙ ap (map (queued_run a)) first)),
      found.fresh.others ∙ ap (nat_lt most) (counted a g dates low high here alike),
      found.present ∙ present_is a g dates low high here alike,
    )

-- ---- the graph of an id
pub named_dag : (a : Schedule) (id : List ℕ) (g : Dag) → option_map (λ (k : LoadedGraph). k.dag) (graph_named a id) ≡ Some g → (g ≡ dag_named a g.spec.dag_id) × (g.spec.dag_id ≡ id) × (is_unknown_graph a id ≡ false)
named_dag a id g there =
    let k = map_some (λ (h : LoadedGraph). h.dag) (graph_named a id) g there in
    let is : dag_named a id ≡ g = ap (λ o. unwrap_or o no_dag) there in
    let e : k.0.dag.spec.dag_id ≡ id = same_text _ _ (sym (find_passes (λ (h : LoadedGraph). same h.dag.spec.dag_id id) a.graphs k.0 k.1)) in
    let named : g.spec.dag_id ≡ id = ap (λ (d : Dag). d.spec.dag_id) (sym k.2) ∙ e in (
      sym is ∙ ap (dag_named a) (sym named),
      named,
      ap is_none k.1,
    )

-- where there is a run by hand
pub run_named : (a : Schedule) (id : List ℕ) (o : Option (Result Run PlanFault)) (planned : Result Run PlanFault) (run : Run) → o ≡ Some planned → planned ≡ Ok run → IsByHand a id o
    → (is_unknown_graph a id ≡ false) × IsPlanned a id (Ok run)
run_named a id o planned run e f h = subst (IsByHand a id) (e ∙ ap (λ (r : Result Run PlanFault). Some r) f) h
