-- No row of a pool or of a graph is taken away by an event: each key of the tables before it is one of those after it.
use Rattle.std.proofs.Common.{◌≡◌, ◌∙◌, refl, sym, ap, subst, ℕ, List, [], ◌∷◌, Bool, true, false, cond, not, ◌&&◌, ◌||◌, map, Option, Some, None, Result, Ok, Err, true≢false}
use Rattle.std.specs.List.{list_all, list_any}
use Rattle.std.proofs.lemmas.Cmp.{nat_list_cmp_total}
use Rattle.graph_file.specs.Graphs.{graph_of}
use Rattle.graph_file.specs.declared.faults.GraphFault.{GraphFault}
use Rattle.graph_file.specs.declared.graph_specs.GraphSpec.{GraphSpec}
use Rattle.dag_check.specs.Faults.{first_fault}
use Rattle.dag_check.specs.Graphs.{Dag, dag_of}
use Rattle.record_rules.specs.Between.{are_tied, keeps_keys}
use Rattle.record_rules.specs.Keys.{pool_row_before, dag_row_before, dag_limit_row_before}
use Rattle.record_rules.proofs.KeyedLemmas.{itself}
use Rattle.record_rules.proofs.MemberLemmas.{all_by, map_get}
use Rattle.record_rules.specs.sched_state.Lists.{same, name_cmp, is_less, insert_by}
use Rattle.record_rules.specs.sched_state.declared.graphs.LoadedGraph.{LoadedGraph}
use Rattle.record_rules.specs.sched_model.Changes.{load_graph, with_graph, reloaded, new_graph, pause_graph, resize_pool, new_pool, with_pool}
use Rattle.record_rules.specs.sched_model.Clearing.{Selection}
use Rattle.record_rules.specs.sched_model.Handout.{hand, hand_one, hand_out, best_offer, serials_left}
use Rattle.record_rules.specs.sched_model.Replacing.{replace_graph}
use Rattle.record_rules.specs.sched_model.NamedRuns.{add_runs}
use Rattle.record_rules.specs.sched_model.Schedule.{Schedule, Pool, graph_among, has_pool, graph_before, pool_before}
use Rattle.record_rules.specs.sched_model.Settle.{move, move_runs, with_runs, moves_left, settle}
use Rattle.record_rules.specs.sched_model.Tables.{tables, pool_row, dag_row, limit_row}
use Rattle.record_rules.proofs.sched_laws.GraphLemmas.{reloaded_id}
use Rattle.record_rules.proofs.sched_laws.SettleLemmas.{map_some}
use Rattle.sched_events.specs.Events.{named_by, set_back_by, set_back, change_by, load_result, replace_result}
use Rattle.sched_events.specs.Steps.{step}
use Rattle.sched_events.specs.declared.events.Event.{Event}
use Rattle.sched_events.specs.declared.events.Event.TheVariants.{Load, Tick, Trigger, Backfill, Clear, Pause, Unpause, Resize, Report, Restart, Replace, Mark}
use Rattle.sched_events.proofs.StepLemmas.{repeat_keeps, settle_graphs, out_graphs}
use Rattle.record_writing.proofs.KeyLemmas.{any_get, keeps_mapped, all_there}
use Rattle.record_writing.proofs.TaskLemmas.{set_back_graphs}

-- ---- rows of one key
name_self : (n : List ℕ) → is_less (name_cmp n n) ≡ false
name_self n = itself (name_cmp n n) (nat_list_cmp_total.antisymm n n)

pub neither : (b c : Bool) → b ≡ false → c ≡ false → (not b && not c) ≡ true
neither b c e f = rw (e, f) refl

abbrev pool_tied : Pool → Pool → Bool
pool_tied p q = are_tied pool_row_before (pool_row p) (pool_row q)

pool_tie : (p q : Pool) → p.name ≡ q.name → pool_tied p q ≡ true
pool_tie p q e =
    ap (λ (n : List ℕ). not (is_less (name_cmp p.name n)) && not (is_less (name_cmp n p.name))) (sym e) ∙ neither _ _ (name_self p.name) (name_self p.name)

abbrev dag_tied : LoadedGraph → LoadedGraph → Bool
dag_tied g h = are_tied dag_row_before (dag_row g) (dag_row h)

dag_tie : (g h : LoadedGraph) → g.dag.spec.dag_id ≡ h.dag.spec.dag_id → dag_tied g h ≡ true
dag_tie g h e =
    ap (λ (n : List ℕ). not (is_less (name_cmp g.dag.spec.dag_id n)) && not (is_less (name_cmp n g.dag.spec.dag_id))) (sym e) ∙ neither _ _ (name_self g.dag.spec.dag_id) (name_self g.dag.spec.dag_id)

-- ---- lists that are changed by key
mapped_there : {X : Type 0} (tied : X → X → Bool) (f : X → X) → ((x : X) → tied x (f x) ≡ true) → (xs : List X) → list_all (λ x. list_any (tied x) (map f xs)) xs ≡ true
mapped_there {X} tied f h xs = all_by (λ x. list_any (tied x) (map f xs)) xs (λ x k. any_get (tied x) (map f xs) k.at (f x) (map_get f xs k.at x k.is) (h x))

any_put : {X : Type 0} (before : X → X → Bool) (p : X → Bool) (y : X) (xs : List X) → list_any p xs ≡ true → list_any p (insert_by before y xs) ≡ true
any_put before p y [] e = absurd (true≢false (sym e))
any_put {X} before p y (x ∷ xs) e = elim (before y x) as (λ b. list_any p (elim b as (λ c. List X) [ true ↦ y ∷ x ∷ xs | false ↦ x ∷ insert_by before y xs ]) ≡ true) [
  | true ↦ by_head (p y) (p x || list_any p xs) e
  | false ↦ elim (p x) as (λ b. (b || list_any p xs) ≡ true → (b || list_any p (insert_by before y xs)) ≡ true) [
    | true ↦ λ f. refl
    | false ↦ λ f. any_put before p y xs f
  ] e
]
  where
    by_head : (b c : Bool) → c ≡ true → (b || c) ≡ true
    by_head true c f = refl
    by_head false c f = f

put_there : {X : Type 0} (tied before : X → X → Bool) → ((x : X) → tied x x ≡ true) → (y : X) (xs : List X) → list_all (λ x. list_any (tied x) (insert_by before y xs)) xs ≡ true
put_there tied before h y xs =
    all_by (λ x. list_any (tied x) (insert_by before y xs)) xs (λ x k. any_put before (tied x) y xs (any_get (tied x) xs k.at x k.is (h x)))

-- ---- pools
move_pools : (a b : Schedule) → move a ≡ Some b → b.pools ≡ a.pools
move_pools a b e = let t = map_some (with_runs a) (move_runs a) b e in ap (λ (c : Schedule). c.pools) (sym t.2)

hand_pools : (a b : Schedule) → hand_one a ≡ Some b → b.pools ≡ a.pools
hand_pools a b e = let t = map_some (hand a) (best_offer a) b e in ap (λ (c : Schedule). c.pools) (sym t.2)

end_pools : (b : Schedule) → (hand_out (settle b)).pools ≡ b.pools
end_pools b = repeat_keeps (λ (c : Schedule). c.pools) hand_one hand_pools (serials_left (settle b)) (settle b) ∙ repeat_keeps (λ (c : Schedule). c.pools) move move_pools (moves_left b) b

step_pools : (e : Event) (a : Schedule) → (step e a).pools ≡ (change_by e a).pools
unfolding step
step_pools e a = end_pools (add_runs (named_by e a) (change_by e a))

load_keeps : {Y : Type 0} (h : Schedule → Y) → ((text : List ℕ) (dag : Dag) (a : Schedule) → h (load_graph text dag a) ≡ h a) → (text : List ℕ) (r : Result GraphSpec GraphFault) (a : Schedule) → h (load_result text r a) ≡ h a
load_keeps h keeps text (Err fault) a = refl
load_keeps h keeps text (Ok spec) a = elim (first_fault spec.tasks) as (λ o. (let b : Schedule = elim o as (λ p. Schedule) [ None ↦ load_graph text (dag_of spec) a | Some fault ↦ a ] in h b ≡ h a)) [
  | None ↦ keeps text (dag_of spec) a
  | Some fault ↦ refl
]

replace_keeps : {Y : Type 0} (h : Schedule → Y) → ((text : List ℕ) (dag : Dag) (a : Schedule) → h (replace_graph text dag a) ≡ h a) → (text : List ℕ) (r : Result GraphSpec GraphFault) (a : Schedule) → h (replace_result text r a) ≡ h a
replace_keeps h keeps text (Err fault) a = refl
replace_keeps h keeps text (Ok spec) a = elim (first_fault spec.tasks) as (λ o. (let b : Schedule = elim o as (λ p. Schedule) [ None ↦ replace_graph text (dag_of spec) a | Some fault ↦ a ] in h b ≡ h a)) [
  | None ↦ keeps text (dag_of spec) a
  | Some fault ↦ refl
]

set_back_pools : (named : Option Selection) (a : Schedule) → (set_back named a).pools ≡ a.pools
set_back_pools None a = refl
set_back_pools (Some named) a = refl

resized_name : (name : List ℕ) (size : ℕ) (q : Pool) → q.name ≡ (resize_pool name size q).name
resized_name name size q = elim (same q.name name) as (λ b. q.name ≡ (cond b (record q { size = size }) q).name) [ true ↦ refl | false ↦ refl ]

resized_there : (name : List ℕ) (size : ℕ) (b : Bool) (qs : List Pool) → list_all (λ p. list_any (pool_tied p) (with_pool b name size qs)) qs ≡ true
resized_there name size true qs = mapped_there pool_tied (resize_pool name size) (λ q. pool_tie q (resize_pool name size q) (resized_name name size q)) qs
resized_there name size false qs = put_there pool_tied pool_before (λ q. pool_tie q q refl) (new_pool name size) qs

changed_pools : (e : Event) (a : Schedule) → list_all (λ p. list_any (pool_tied p) (change_by e a).pools) a.pools ≡ true
changed_pools e a = by e
  where
    same_pools : (qs : List Pool) → qs ≡ a.pools → list_all (λ p. list_any (pool_tied p) qs) a.pools ≡ true
    same_pools qs is = subst (λ (ps : List Pool). list_all (λ p. list_any (pool_tied p) ps) a.pools ≡ true) (sym is) (all_there pool_tied (λ p. pool_tie p p refl) a.pools)

    by : (e : Event) → list_all (λ p. list_any (pool_tied p) (change_by e a).pools) a.pools ≡ true
    by (Load text) = same_pools _ (load_keeps (λ (b : Schedule). b.pools) (λ t dag b. refl) text (graph_of text) a)
    by (Tick t) = same_pools _ refl
    by (Trigger id) = same_pools _ refl
    by (Backfill id from to reset) = same_pools _ (set_back_pools (set_back_by (Backfill id from to reset) a) a)
    by (Clear c) = same_pools _ (set_back_pools (set_back_by (Clear c) a) a)
    by (Pause id) = same_pools _ refl
    by (Unpause id) = same_pools _ refl
    by (Resize name size) = resized_there name size (has_pool a name) a.pools
    by (Report serial stage) = same_pools _ refl
    by (Restart lanes) = same_pools _ refl
    by (Replace text) = same_pools _ (replace_keeps (λ (b : Schedule). b.pools) (λ t dag b. refl) text (graph_of text) a)
    by (Mark id date task) = same_pools _ refl

pub pools_kept : (e : Event) (a : Schedule) → keeps_keys pool_row_before (tables a).pools (tables (step e a)).pools ≡ true
pools_kept e a =
    keeps_mapped pool_row_before pool_row a.pools (step e a).pools
    (subst (λ (qs : List Pool). list_all (λ p. list_any (pool_tied p) qs) a.pools ≡ true) (sym (step_pools e a)) (changed_pools e a))

-- ---- graphs
pub step_graphs : (e : Event) (a : Schedule) → (step e a).graphs ≡ (change_by e a).graphs
unfolding step
step_graphs e a = let b : Schedule = add_runs (named_by e a) (change_by e a) in out_graphs (settle b) ∙ settle_graphs b

paused_id : (id : List ℕ) (paused : Bool) (g : LoadedGraph) → g.dag.spec.dag_id ≡ (pause_graph id paused g).dag.spec.dag_id
paused_id id paused g = elim (same g.dag.spec.dag_id id) as (λ b. g.dag.spec.dag_id ≡ (cond b (record g { paused = paused }) g).dag.spec.dag_id) [ true ↦ refl | false ↦ refl ]

with_there : (text : List ℕ) (dag : Dag) (gs : List LoadedGraph) → list_all (λ g. list_any (dag_tied g) (with_graph text dag gs)) gs ≡ true
with_there text dag gs =
    elim (graph_among gs dag.spec.dag_id) as (λ o. list_all (λ g. list_any (dag_tied g) (elim o as (λ p. List LoadedGraph) [ Some g ↦ map (reloaded text dag) gs | None ↦ insert_by graph_before (new_graph text dag) gs ])) gs ≡ true) [
      | Some g ↦ mapped_there dag_tied (reloaded text dag) (λ h. dag_tie h (reloaded text dag h) (sym (reloaded_id text dag h))) gs
      | None ↦ put_there dag_tied graph_before (λ h. dag_tie h h refl) (new_graph text dag) gs
    ]

changed_graphs : (e : Event) (a : Schedule) → list_all (λ g. list_any (dag_tied g) (change_by e a).graphs) a.graphs ≡ true
changed_graphs e a = by e
  where
    same_graphs : (hs : List LoadedGraph) → hs ≡ a.graphs → list_all (λ g. list_any (dag_tied g) hs) a.graphs ≡ true
    same_graphs hs is = subst (λ (ks : List LoadedGraph). list_all (λ g. list_any (dag_tied g) ks) a.graphs ≡ true) (sym is) (all_there dag_tied (λ g. dag_tie g g refl) a.graphs)

    loaded : (text : List ℕ) (r : Result GraphSpec GraphFault) → list_all (λ g. list_any (dag_tied g) (load_result text r a).graphs) a.graphs ≡ true
    loaded text (Err fault) = same_graphs _ refl
    loaded text (Ok spec) = elim (first_fault spec.tasks) as (λ o. (let b : Schedule = elim o as (λ p. Schedule) [ None ↦ load_graph text (dag_of spec) a | Some fault ↦ a ] in list_all (λ g. list_any (dag_tied g) b.graphs) a.graphs ≡ true)) [
      | None ↦ with_there text (dag_of spec) a.graphs
      | Some fault ↦ same_graphs _ refl
    ]

    changed : (text : List ℕ) (r : Result GraphSpec GraphFault) → list_all (λ g. list_any (dag_tied g) (replace_result text r a).graphs) a.graphs ≡ true
    changed text (Err fault) = same_graphs _ refl
    changed text (Ok spec) = elim (first_fault spec.tasks) as (λ o. (let b : Schedule = elim o as (λ p. Schedule) [ None ↦ replace_graph text (dag_of spec) a | Some fault ↦ a ] in list_all (λ g. list_any (dag_tied g) b.graphs) a.graphs ≡ true)) [
      | None ↦ with_there text (dag_of spec) a.graphs
      | Some fault ↦ same_graphs _ refl
    ]

    paused : (id : List ℕ) (p : Bool) → list_all (λ g. list_any (dag_tied g) (map (pause_graph id p) a.graphs)) a.graphs ≡ true
    paused id p = mapped_there dag_tied (pause_graph id p) (λ g. dag_tie g (pause_graph id p g) (paused_id id p g)) a.graphs

    by : (e : Event) → list_all (λ g. list_any (dag_tied g) (change_by e a).graphs) a.graphs ≡ true
    by (Load text) = loaded text (graph_of text)
    by (Tick t) = same_graphs _ refl
    by (Trigger id) = same_graphs _ refl
    by (Backfill id from to reset) = same_graphs _ (set_back_graphs (set_back_by (Backfill id from to reset) a) a)
    by (Clear c) = same_graphs _ (set_back_graphs (set_back_by (Clear c) a) a)
    by (Pause id) = paused id true
    by (Unpause id) = paused id false
    by (Resize name size) = same_graphs _ refl
    by (Report serial stage) = same_graphs _ refl
    by (Restart lanes) = same_graphs _ refl
    by (Replace text) = changed text (graph_of text)
    by (Mark id date task) = same_graphs _ refl

pub dags_kept : (e : Event) (a : Schedule) → keeps_keys dag_row_before (tables a).dags (tables (step e a)).dags ≡ true
dags_kept e a =
    keeps_mapped dag_row_before dag_row a.graphs (step e a).graphs
    (subst (λ (hs : List LoadedGraph). list_all (λ g. list_any (dag_tied g) hs) a.graphs ≡ true) (sym (step_graphs e a)) (changed_graphs e a))

-- so do the rows of their bounds, whose keys are the same
pub limits_kept : (e : Event) (a : Schedule) → keeps_keys dag_limit_row_before (tables a).dag_limits (tables (step e a)).dag_limits ≡ true
limits_kept e a =
    keeps_mapped dag_limit_row_before limit_row a.graphs (step e a).graphs
    (subst (λ (hs : List LoadedGraph). list_all (λ g. list_any (dag_tied g) hs) a.graphs ≡ true) (sym (step_graphs e a)) (changed_graphs e a))
