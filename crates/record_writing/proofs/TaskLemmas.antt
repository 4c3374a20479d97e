-- A graph that has runs keeps its tasks, each by its id: an event may give it others beside them, and other places.
use Rattle.std.proofs.Common.{◌≡◌, ◌∙◌, refl, sym, ap, subst, ℕ, zero, suc, ◌+◌, List, [], ◌∷◌, Bool, true, false, cond, ◌||◌, find, slice_get, is_none, is_some, Option, Some, None, Result, Ok, Err, true≢false, arith}
use Rattle.std.specs.List.{position_from}
use Rattle.std.proofs.lemmas.Bool.{false_from_ne_true}
use Rattle.graph_file.specs.Graphs.{graph_of}
use Rattle.graph_file.specs.declared.faults.GraphFault.{GraphFault}
use Rattle.graph_file.specs.declared.graph_specs.GraphSpec.{GraphSpec}
use Rattle.graph_file.specs.declared.task_specs.TaskSpec.{TaskSpec}
use Rattle.dag_check.specs.Graphs.{Dag, dag_of}
use Rattle.dag_check.specs.Names.{has, ids_of, repeats}
use Rattle.dag_check.specs.declared.faults.DagFault.{DagFault}
use Rattle.record_rules.proofs.MemberLemmas.{found_at}
use Rattle.record_rules.specs.sched_state.Lists.{same}
use Rattle.record_rules.specs.sched_state.declared.graphs.LoadedGraph.{LoadedGraph}
use Rattle.record_rules.specs.sched_state.declared.runs.Run.{Run}
use Rattle.record_rules.proofs.sched_state.NameLemmas.{same_is, same_itself}
use Rattle.record_rules.proofs.sched_state.OrderLemmas.{or_left, or_right}
use Rattle.record_rules.specs.sched_model.Causes.{lost_task, task_named}
use Rattle.record_rules.specs.sched_model.Changes.{load_graph, with_graph}
use Rattle.record_rules.specs.sched_model.Clearing.{Selection, place_of}
use Rattle.record_rules.specs.sched_model.Replacing.{replace_graph}
use Rattle.record_rules.specs.sched_model.Schedule.{Schedule, dag_among, has_runs}
use Rattle.record_rules.proofs.sched_laws.GraphLemmas.{find_loaded}
use Rattle.record_rules.proofs.sched_laws.ListLemmas.{all_get}
use Rattle.record_rules.proofs.sched_laws.LoadLemmas.{dag_found}
use Rattle.record_rules.proofs.sched_laws.PauseLemmas.{same_dag_paused}
use Rattle.record_rules.proofs.sched_laws.RefitLemmas.{graph_after, other_after, unmapped}
use Rattle.record_rules.proofs.sched_laws.ReplaceLemmas.{said_taken}
use Rattle.record_rules.specs.sched_model.Sound.{is_sound_run}
use Rattle.sched_events.specs.Causes.{refused, refused_change, refused_text}
use Rattle.sched_events.specs.Events.{change_by, load_result, replace_result, set_back, set_back_by}
use Rattle.sched_events.specs.SettledAndSound.{IsSoundAndSaid}
use Rattle.sched_events.specs.declared.events.Event.{Event}
use Rattle.sched_events.specs.declared.events.Event.TheVariants.{Load, Tick, Trigger, Backfill, Clear, Pause, Unpause, Resize, Report, Restart, Replace, Mark}
use Rattle.sched_events.proofs.AcceptLemmas.{AsLoad, AsNothing, Changed, IsReplaced, fit_says, replace_is, replaced, replacement, taken, text_again}
use Rattle.record_writing.proofs.KeyLemmas.{found_by}

-- ---- the place of a task
pub or_there : (b c : Bool) → c ≡ true → (b || c) ≡ true
or_there true c e = refl
or_there false c e = e

-- the id of a task is one of theirs
has_get : (ts : List TaskSpec) (n : ℕ) (t : TaskSpec) → slice_get ts n ≡ Some t → has (ids_of ts) t.task_id ≡ true
has_get [] n t e = absurd (let c : ◌≡◌ {A = Option TaskSpec} None (Some t) = e in cc)
has_get (u ∷ ts) zero t e =
    let c : ◌≡◌ {A = Option TaskSpec} (Some u) (Some t) = e in let is : u ≡ t = cc in
    ap (λ b. b || has (ids_of ts) t.task_id) (ap (λ (v : TaskSpec). same t.task_id v.task_id) is ∙ same_itself t.task_id)
has_get (u ∷ ts) (suc n) t e = or_there (same t.task_id u.task_id) (has (ids_of ts) t.task_id) (has_get ts n t e)

-- where each id stands once, a task is found at its own place
place_from : (k : ℕ) (ts : List TaskSpec) (n : ℕ) (t : TaskSpec) → repeats (ids_of ts) ≡ false → slice_get ts n ≡ Some t → position_from (λ (u : TaskSpec). same u.task_id t.task_id) k ts ≡ Some (k + n)
place_from k [] n t once e = absurd (let c : ◌≡◌ {A = Option TaskSpec} None (Some t) = e in cc)
place_from k (u ∷ ts) zero t once e =
    let c : ◌≡◌ {A = Option TaskSpec} (Some u) (Some t) = e in let is : u ≡ t = cc in
    let z : k ≡ k + 0 = omega arith in
    ap (λ b. cond b (Some k) (position_from (λ (v : TaskSpec). same v.task_id t.task_id) (k + 1) ts)) (ap (λ (v : TaskSpec). same v.task_id t.task_id) is ∙ same_itself t.task_id)
    ∙ ap (λ (m : ℕ). let o : Option ℕ = Some m in o) z
place_from k (u ∷ ts) (suc n) t once e =
    let other : same u.task_id t.task_id ≡ false = false_from_ne_true (same u.task_id t.task_id) (λ f.
    true≢false (sym (has_get ts n t e) ∙ (ap (has (ids_of ts)) (sym (same_is u.task_id t.task_id f)) ∙ or_left (has (ids_of ts) u.task_id) _ once))) in
    let z : k + 1 + n ≡ k + suc n = omega arith in
    ap (λ b. cond b (Some k) (position_from (λ (v : TaskSpec). same v.task_id t.task_id) (k + 1) ts)) other
    ∙ (place_from (k + 1) ts n t (or_right (has (ids_of ts) u.task_id) _ once) e ∙ ap (λ (m : ℕ). let o : Option ℕ = Some m in o) z)

pub place_at : (ts : List TaskSpec) (n : ℕ) (t : TaskSpec) → repeats (ids_of ts) ≡ false → slice_get ts n ≡ Some t → place_of ts t.task_id ≡ Some n
place_at ts n t once e = let z : 0 + n ≡ n = omega arith in place_from 0 ts n t once e ∙ ap (λ (m : ℕ). let o : Option ℕ = Some m in o) z

-- ---- tasks by id
-- a task with this id is one of these
pub record IsThere (ts : List TaskSpec) (id : List ℕ) : Type 0 where
  pub place : ℕ
  pub task : TaskSpec
  pub task_is : slice_get ts place ≡ Some task
  pub id_is : task.task_id ≡ id

-- so is one with the id of each of others
abbrev pub AreThere : List TaskSpec → List TaskSpec → Type 0
AreThere others ts = (n : ℕ) (t : TaskSpec) → slice_get others n ≡ Some t → IsThere ts t.task_id

same_there : (others ts : List TaskSpec) → ts ≡ others → AreThere others ts
same_there others ts is n t e = record { place = n; task = t; task_is = ap (λ (us : List TaskSpec). slice_get us n) is ∙ e; id_is = refl }

found_there : (ts : List TaskSpec) (id : List ℕ) (o : Option TaskSpec) → task_named ts id ≡ o → is_some o ≡ true → IsThere ts id
found_there ts id None e some = absurd (true≢false (sym some))
found_there ts id (Some u) e some =
    let f = found_by (λ (t : TaskSpec). same t.task_id id) ts u e in
    record { place = f.0; task = u; task_is = f.1; id_is = same_is u.task_id id f.2 }

-- what lacks nothing finds something for each
none_lacks : {X Y : Type 0} (f : X → Option Y) (xs : List X) (n : ℕ) (x : X) → find (λ y. is_none (f y)) xs ≡ None → slice_get xs n ≡ Some x → is_some (f x) ≡ true
none_lacks {X} f [] n x none e = absurd (let c : ◌≡◌ {A = Option X} None (Some x) = e in cc)
none_lacks {X} {Y} f (y ∷ ys) zero x none e =
    let c : ◌≡◌ {A = Option X} (Some y) (Some x) = e in let is : y ≡ x = cc in
    elim (f y) as (λ o. f y ≡ o → cond (is_none o) (Some y) (find (λ z. is_none (f z)) ys) ≡ None → is_some (f x) ≡ true) [
      | None ↦ λ g h. absurd (let k : ◌≡◌ {A = Option X} (Some y) None = h in cc)
      | Some z ↦ λ g h. ap (λ w. is_some (f w)) (sym is) ∙ ap is_some g
    ] refl none
none_lacks {X} {Y} f (y ∷ ys) (suc n) x none e = elim (f y) as (λ o. cond (is_none o) (Some y) (find (λ z. is_none (f z)) ys) ≡ None → is_some (f x) ≡ true) [
  | None ↦ λ h. absurd (let k : ◌≡◌ {A = Option X} (Some y) None = h in cc)
  | Some z ↦ λ h. none_lacks f ys n x h e
] none

-- no task is lost, so each is there
none_lost : (a : Schedule) (dag : Dag) → lost_task a dag ≡ None → AreThere (dag_among a.graphs dag.spec.dag_id).tasks dag.tasks
none_lost a dag none n t e =
    found_there dag.tasks t.task_id (task_named dag.tasks t.task_id) refl
    (none_lacks (λ (u : TaskSpec). task_named dag.tasks u.task_id) (dag_among a.graphs dag.spec.dag_id).tasks n t (unmapped (λ (u : TaskSpec). u.task_id) _ none) e)

-- ---- a text
-- a graph with runs is none that has no runs
with_runs : (a : Schedule) (id other : List ℕ) → has_runs a id ≡ true → has_runs a other ≡ false → same other id ≡ false
with_runs a id other runs none = false_from_ne_true _ (λ is. true≢false (sym runs ∙ (ap (has_runs a) (sym (same_is other id is)) ∙ none)))

loaded_beside : (a : Schedule) (text : List ℕ) (dag : Dag) (id : List ℕ) → same dag.spec.dag_id id ≡ false → dag_among (with_graph text dag a.graphs) id ≡ dag_among a.graphs id
loaded_beside a text dag id apart = dag_found a.graphs (with_graph text dag a.graphs) id (find_loaded text dag a.graphs id apart)

-- a text that is taken in leaves a graph with runs as it is
load_stays : (a : Schedule) (text : List ℕ) (r : Result GraphSpec GraphFault) → graph_of text ≡ r → refused_text a text r ≡ None → IsSoundAndSaid a → (id : List ℕ) → has_runs a id ≡ true
    → dag_among (load_result text r a).graphs id ≡ dag_among a.graphs id
load_stays a text (Err fault) read accepted kept id runs = refl
load_stays a text (Ok spec) read accepted kept id runs =
    let t = taken a text spec read accepted in
    let is : load_result text (Ok spec) a ≡ load_graph text (dag_of spec) a =
    ap (λ (o : Option DagFault). let b : Schedule = elim o [ None ↦ load_graph text (dag_of spec) a | Some fault ↦ a ] in b) t.fit.faultless in
    ap (λ (b : Schedule). dag_among b.graphs id) is
    ∙ elim (same spec.dag_id id) as (λ b. same spec.dag_id id ≡ b → dag_among (with_graph text (dag_of spec) a.graphs) id ≡ dag_among a.graphs id) [
      | true ↦ λ e. let mine : has_runs a spec.dag_id ≡ true = ap (has_runs a) (same_is spec.dag_id id e) ∙ runs in
          ap (λ (b : Schedule). dag_among b.graphs id) (text_again a text spec t kept mine)
      | false ↦ loaded_beside a text (dag_of spec) id
    ] refl

-- another text keeps the tasks of a graph with runs
changed_there : (a : Schedule) (text : List ℕ) (spec : GraphSpec) → IsReplaced a text spec → lost_task a (dag_of spec) ≡ None → IsSoundAndSaid a → (id : List ℕ) → has_runs a id ≡ true
    → AreThere (dag_among a.graphs id).tasks (dag_among (with_graph text (dag_of spec) a.graphs) id).tasks
changed_there a text spec t lost kept id runs =
    let dag : Dag = dag_of spec in
    let hs : List LoadedGraph = with_graph text dag a.graphs in
    elim (same id spec.dag_id) as (λ b. same id spec.dag_id ≡ b → AreThere (dag_among a.graphs id).tasks (dag_among hs id).tasks) [
      | true ↦ λ mine.
          let r = found_at (λ (q : Run). same q.graph id) a.runs runs in
          let own : r.1.graph ≡ id = same_is r.1.graph id r.3 in
          let name : id ≡ spec.dag_id = same_is id spec.dag_id mine in
          let now = graph_after text dag a r.1 (said_taken text dag a kept.said (fit_says text a spec t.read t.fit)) (all_get (is_sound_run a.graphs) a.runs r.0 r.1 kept.sound.runs r.2)
          (ap (λ k. same k spec.dag_id) own ∙ mine) in
          let is : dag.tasks ≡ (dag_among hs id).tasks = ap (λ (d : Dag). d.tasks) (sym now.is ∙ ap (dag_among hs) own) in
          subst (AreThere (dag_among a.graphs id).tasks) is
          (subst (λ k. AreThere (dag_among a.graphs k).tasks dag.tasks) (sym name) (none_lost a dag lost))
      | false ↦ λ other. same_there _ _ (ap (λ (d : Dag). d.tasks) (other_after text dag a id other))
    ] refl

replaced_there : (a : Schedule) (text : List ℕ) (spec : GraphSpec) → IsReplaced a text spec → IsSoundAndSaid a → (id : List ℕ) → has_runs a id ≡ true
    → AreThere (dag_among a.graphs id).tasks (dag_among (replace_graph text (dag_of spec) a).graphs id).tasks
replaced_there a text spec t kept id runs = elim (replacement a text spec t kept) [
  | AsLoad none is ↦ same_there _ _ (ap (λ (d : Dag). d.tasks) (loaded_beside a text (dag_of spec) id (with_runs a id spec.dag_id runs none)))
  | AsNothing is ↦ same_there _ _ (ap (λ (b : Schedule). (dag_among b.graphs id).tasks) is)
  | Changed u ↦ changed_there a text spec t u.lost kept id runs
]

replace_there : (a : Schedule) (text : List ℕ) (r : Result GraphSpec GraphFault) → graph_of text ≡ r → refused_change a text r ≡ None → IsSoundAndSaid a → (id : List ℕ) → has_runs a id ≡ true
    → AreThere (dag_among a.graphs id).tasks (dag_among (replace_result text r a).graphs id).tasks
replace_there a text (Err fault) read accepted kept id runs = same_there _ _ refl
replace_there a text (Ok spec) read accepted kept id runs =
    let t = replaced a text spec read accepted in
    subst (λ (b : Schedule). AreThere (dag_among a.graphs id).tasks (dag_among b.graphs id).tasks) (sym (replace_is a text spec t)) (replaced_there a text spec t kept id runs)

-- ---- each event
pub set_back_graphs : (named : Option Selection) (a : Schedule) → (set_back named a).graphs ≡ a.graphs
set_back_graphs None a = refl
set_back_graphs (Some named) a = refl

-- the graph is the one that it was
still_there : (a b : Schedule) (id : List ℕ) → dag_among b.graphs id ≡ dag_among a.graphs id → AreThere (dag_among a.graphs id).tasks (dag_among b.graphs id).tasks
still_there a b id is = same_there _ _ (ap (λ (d : Dag). d.tasks) is)

pub tasks_there : (e : Event) (a : Schedule) → refused a e ≡ None → IsSoundAndSaid a → (id : List ℕ) → has_runs a id ≡ true → AreThere (dag_among a.graphs id).tasks (dag_among (change_by e a).graphs id).tasks
tasks_there (Load text) a accepted kept id runs = still_there a (change_by (Load text) a) id (load_stays a text (graph_of text) refl accepted kept id runs)
tasks_there (Tick t) a accepted kept id runs = still_there a (change_by (Tick t) a) id refl
tasks_there (Trigger name) a accepted kept id runs = still_there a a id refl
tasks_there (Backfill name from to reset) a accepted kept id runs =
    still_there a (change_by (Backfill name from to reset) a) id (ap (λ (gs : List LoadedGraph). dag_among gs id) (set_back_graphs (set_back_by (Backfill name from to reset) a) a))
tasks_there (Clear c) a accepted kept id runs = still_there a (change_by (Clear c) a) id (ap (λ (gs : List LoadedGraph). dag_among gs id) (set_back_graphs (set_back_by (Clear c) a) a))
tasks_there (Pause name) a accepted kept id runs = still_there a (change_by (Pause name) a) id (same_dag_paused name true a.graphs id)
tasks_there (Unpause name) a accepted kept id runs = still_there a (change_by (Unpause name) a) id (same_dag_paused name false a.graphs id)
tasks_there (Resize name size) a accepted kept id runs = still_there a (change_by (Resize name size) a) id refl
tasks_there (Report serial stage) a accepted kept id runs = still_there a (change_by (Report serial stage) a) id refl
tasks_there (Restart lanes) a accepted kept id runs = still_there a (change_by (Restart lanes) a) id refl
tasks_there (Replace text) a accepted kept id runs = replace_there a text (graph_of text) refl accepted kept id runs
tasks_there (Mark name date task) a accepted kept id runs = still_there a (change_by (Mark name date task) a) id refl
