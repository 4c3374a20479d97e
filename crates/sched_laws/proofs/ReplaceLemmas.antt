-- A text for a graph that has runs: no run, no try and no serial goes, what is taken of the pools stays, and a sound schedule stays sound.
use Rattle.std.proofs.Common.{◌≡◌, refl, sym, ap, subst, ◌∙◌, ℕ, List, [], ◌∷◌, Bool, true, false, cond, ◌&&◌, inl, inr, map, filter, length, Option, Some, option_map, unwrap_or, nat_le, true≢false, zip, sum_by, Result, Ok}
use Rattle.std.specs.List.{list_any, list_all}
use Rattle.graph_file.specs.declared.task_specs.TaskSpec.{TaskSpec}
use Rattle.graph_file.specs.declared.graph_specs.GraphSpec.{GraphSpec}
use Rattle.graph_file.specs.declared.faults.GraphFault.{GraphFault}
use Rattle.graph_file.specs.Graphs.{graph_of}
use Rattle.dag_check.specs.Names.{ids_of, repeats}
use Rattle.dag_check.specs.Graphs.{Dag, dag_of}
use Rattle.sched_model.specs.instance_machine.Instances.{InstanceValue}
use Rattle.sched_model.specs.sched_state.Lists.{same}
use Rattle.sched_model.specs.sched_state.declared.graphs.LoadedGraph.{LoadedGraph}
use Rattle.sched_model.specs.sched_state.declared.runs.Run.{Run}
use Rattle.sched_model.specs.sched_state.declared.runs.RunPhase.{RunPhase}
use Rattle.sched_model.proofs.sched_state.OrderLemmas.{and_left, and_right, or_left, or_right, not_false, map_keeps}
use Rattle.sched_model.proofs.sched_state.NameLemmas.{same_is, same_itself}
use Rattle.sched_model.specs.Changes.{with_graph, load_graph}
use Rattle.sched_model.specs.Clearing.{pairs_of}
use Rattle.sched_model.specs.Lists.{all_pairs}
use Rattle.sched_model.specs.Replacing.{fitted_if, fitted, with_fitted, refitted, replace_graph}
use Rattle.sched_model.specs.Schedule.{Schedule, graph_among, dag_among, dag_named, graph_named, has_runs, dates_of, tasks_of, no_dag}
use Rattle.sched_model.specs.Sound.{IsSound, is_sound_graph, is_sound_run, is_sound_in, Says, AllSay}
use Rattle.sched_laws.specs.Runs.{runs_named}
use Rattle.sched_laws.proofs.FittedLemmas.{Pair, pair_ids, found_once, zip_ids}
use Rattle.sched_laws.proofs.KeptLemmas.{kept_itself}
use Rattle.sched_laws.proofs.LoadLemmas.{load_again}
use Rattle.sched_laws.proofs.OfferLemmas.{In}
use Rattle.sched_laws.proofs.RunLemmas.{Key, key, pairs_of_run}
use Rattle.sched_laws.proofs.SaidLemmas.{said_by}

-- ---- the runs
refitted_other : (a : Schedule) (dag : Dag) (r : Run) → same r.graph dag.spec.dag_id ≡ false → refitted a dag r ≡ r
refitted_other a dag r e = ap (λ b. cond b (with_fitted a dag r) r) e

pub refitted_key : (a : Schedule) (dag : Dag) (r : Run) → key (refitted a dag r) ≡ key r
refitted_key a dag r = chosen (same r.graph dag.spec.dag_id)
  where
    chosen : (b : Bool) → key (cond b (with_fitted a dag r) r) ≡ key r
    chosen true = refl
    chosen false = refl

pub refitted_phase : (a : Schedule) (dag : Dag) (r : Run) → (refitted a dag r).phase ≡ r.phase
refitted_phase a dag r = chosen (same r.graph dag.spec.dag_id)
  where
    chosen : (b : Bool) → (cond b (with_fitted a dag r) r).phase ≡ r.phase
    chosen true = refl
    chosen false = refl

pub replace_names : (text : List ℕ) (dag : Dag) (a : Schedule) → runs_named (replace_graph text dag a) ≡ runs_named a
replace_names text dag a = map_keeps key (refitted a dag) (refitted_key a dag) a.runs

-- dates are those of the keys
dates_by_keys : (id : List ℕ) (rs : List Run) → map (λ (r : Run). r.logical) (filter (λ (r : Run). same r.graph id) rs) ≡ map (λ (k : Key). k.logical) (filter (λ (k : Key). same k.graph id) (map key rs))
dates_by_keys id [] = refl
dates_by_keys id (r ∷ rs) =
    elim (same r.graph id) as (λ b. map (λ (q : Run). q.logical) (cond b (r ∷ filter (λ (q : Run). same q.graph id) rs) (filter (λ (q : Run). same q.graph id) rs)) ≡ map (λ (k : Key). k.logical) (cond b (key r ∷ filter (λ (k : Key). same k.graph id) (map key rs)) (filter (λ (k : Key). same k.graph id) (map key rs)))) [
      | true ↦ ap (λ ds. r.logical ∷ ds) (dates_by_keys id rs)
      | false ↦ dates_by_keys id rs
    ]

pub replace_dates : (text : List ℕ) (dag : Dag) (a : Schedule) (id : List ℕ) → dates_of (replace_graph text dag a) id ≡ dates_of a id
replace_dates text dag a id =
    dates_by_keys id (map (refitted a dag) a.runs)
    ∙ (ap (λ (ks : List Key). map (λ (k : Key). k.logical) (filter (λ (k : Key). same k.graph id) ks)) (replace_names text dag a) ∙ sym (dates_by_keys id a.runs))

-- ---- without runs, and with the text that is there
unfitted : (a : Schedule) (dag : Dag) (rs : List Run) → list_any (λ (r : Run). same r.graph dag.spec.dag_id) rs ≡ false → map (refitted a dag) rs ≡ rs
unfitted a dag [] e = refl
unfitted a dag (r ∷ rs) e =
    ap (λ q. q ∷ map (refitted a dag) rs) (refitted_other a dag r (or_left _ _ e))
    ∙ ap (λ qs. r ∷ qs) (unfitted a dag rs (or_right (same r.graph dag.spec.dag_id) _ e))

pub replace_loads : (text : List ℕ) (dag : Dag) (a : Schedule) → has_runs a dag.spec.dag_id ≡ false → replace_graph text dag a ≡ load_graph text dag a
replace_loads text dag a none = ap (λ (rs : List Run). let b : Schedule = record a { graphs = with_graph text dag a.graphs; runs = rs } in b) (unfitted a dag a.runs none)

-- where the graph has this text it is this graph
abbrev pub IsTakenIn : List ℕ → Dag → Schedule → Type 0
IsTakenIn text dag a = (g : LoadedGraph) → graph_named a dag.spec.dag_id ≡ Some g → same g.text text ≡ true → g.dag ≡ dag

one_file : (s t : GraphSpec) (r : Result GraphSpec GraphFault) → r ≡ Ok s → r ≡ Ok t → s ≡ t
one_file s t r e f = let c : ◌≡◌ {A = Result GraphSpec GraphFault} (Ok s) (Ok t) = sym e ∙ f in cc

one_graph : (text : List ℕ) (d e : Dag) → Says text d → Says text e → d ≡ e
one_graph text d e s t =
    let p = s.checked in
    let q = t.checked in
    p.is ∙ (ap dag_of (one_file d.spec e.spec (graph_of text) s.read t.read) ∙ sym q.is)

pub said_taken : (text : List ℕ) (dag : Dag) (a : Schedule) → AllSay a.graphs → Says text dag → IsTakenIn text dag a
said_taken text dag a said new g e f = one_graph text g.dag dag (subst (λ t. Says t g.dag) (same_is g.text text f) (said_by a.graphs dag.spec.dag_id g said e)) new

-- the tasks and edges of a graph that is found
abbrev pub dag_by : Option LoadedGraph → Dag
dag_by o = unwrap_or (option_map (λ (g : LoadedGraph). g.dag) o) no_dag

-- each task once
pub sound_once : (a : Schedule) (g : LoadedGraph) → is_sound_graph a g ≡ true → repeats (ids_of g.dag.tasks) ≡ false
sound_once a g e = not_false _ (and_left _ _ (and_right (nat_le (length g.dag.tasks) a.limits.tasks && nat_le (sum_by length g.dag.upstreams) a.limits.edges) _ (and_left _ _ e)))

pub among_once : (a : Schedule) (id : List ℕ) (gs : List LoadedGraph) → list_all (is_sound_graph a) gs ≡ true → repeats (ids_of (dag_among gs id).tasks) ≡ false
among_once a id [] e = refl
among_once a id (g ∷ gs) e = elim (same g.dag.spec.dag_id id) as (λ b. repeats (ids_of (dag_by (cond b (Some g) (graph_among gs id))).tasks) ≡ false) [
  | true ↦ sound_once a g (and_left _ _ e)
  | false ↦ among_once a id gs (and_right (is_sound_graph a g) _ e)
]

-- the tasks of a run, each with what the same task gets of its instances
own_instances : (ph : RunPhase) (es : List Pair) (ts : List TaskSpec) (is : List InstanceValue) → repeats (pair_ids es) ≡ false → ((x : Pair) → In x (zip ts is) → In x es) → all_pairs (is_sound_in ph) ts is ≡ true → map (fitted ph es) ts ≡ is
own_instances ph es [] [] once within e = refl
own_instances ph es [] (i ∷ is) once within e = absurd (true≢false (sym e))
own_instances ph es (t ∷ ts) [] once within e = absurd (true≢false (sym e))
own_instances ph es (t ∷ ts) (i ∷ is) once within e =
    let own : fitted ph es t ≡ i =
    ap (λ o. fitted_if ph o t) (found_once (λ (x : Pair). x.0.task_id) es (t, i) t.task_id once (within (t, i) (inl refl)) (same_itself t.task_id))
    ∙ kept_itself t i (and_left _ _ (and_left _ _ e)) in
    ap (λ j. j ∷ map (fitted ph es) ts) own
    ∙ ap (λ js. i ∷ js) (own_instances ph es ts is once (λ x j. within x (inr j)) (and_right (is_sound_in ph t i) _ e))

own_run : (a : Schedule) (dag : Dag) (r : Run) → dag_named a dag.spec.dag_id ≡ dag → list_all (is_sound_graph a) a.graphs ≡ true → is_sound_run a.graphs r ≡ true → refitted a dag r ≡ r
own_run a dag r is graphs e = elim (same r.graph dag.spec.dag_id) as (λ b. same r.graph dag.spec.dag_id ≡ b → cond b (with_fitted a dag r) r ≡ r) [
  | true ↦ λ f.
      let ts : List TaskSpec = tasks_of a r in
      let paired : all_pairs (is_sound_in r.phase) ts r.instances ≡ true = pairs_of_run a.graphs r e in
      let once : repeats (pair_ids (zip ts r.instances)) ≡ false = ap repeats (zip_ids (is_sound_in r.phase) ts r.instances paired) ∙ among_once a r.graph a.graphs graphs in
      let tasks : dag.tasks ≡ ts = ap (λ (d : Dag). d.tasks) (sym is) ∙ ap (λ id. (dag_named a id).tasks) (sym (same_is r.graph dag.spec.dag_id f)) in
      ap (λ is. let q : Run = record r { instances = is } in q) (ap (map (fitted r.phase (pairs_of a r))) tasks ∙ own_instances r.phase (zip ts r.instances) ts r.instances once (λ x i. i) paired)
  | false ↦ λ f. refl
] refl

own_runs : (a : Schedule) (dag : Dag) (rs : List Run) → dag_named a dag.spec.dag_id ≡ dag → list_all (is_sound_graph a) a.graphs ≡ true → list_all (is_sound_run a.graphs) rs ≡ true → map (refitted a dag) rs ≡ rs
own_runs a dag [] is graphs e = refl
own_runs a dag (r ∷ rs) is graphs e =
    ap (λ q. q ∷ map (refitted a dag) rs) (own_run a dag r is graphs (and_left _ _ e))
    ∙ ap (λ qs. r ∷ qs) (own_runs a dag rs is graphs (and_right (is_sound_run a.graphs r) _ e))

pub replace_again : (text : List ℕ) (dag : Dag) (a : Schedule) (g : LoadedGraph) → IsSound a → AllSay a.graphs → Says text dag → graph_named a dag.spec.dag_id ≡ Some g → same g.text text ≡ true → replace_graph text dag a ≡ a
replace_again text dag a g s said new found text_is =
    let is : dag_named a dag.spec.dag_id ≡ dag = ap dag_by found ∙ said_taken text dag a said new g found text_is in
    ap (λ (b : Schedule). let c : Schedule = record b { runs = map (refitted a dag) a.runs } in c) (load_again text dag a g s found text_is)
    ∙ ap (λ (rs : List Run). let c : Schedule = record a { runs = rs } in c) (own_runs a dag a.runs is s.graphs s.runs)
