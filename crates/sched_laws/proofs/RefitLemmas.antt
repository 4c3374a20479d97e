-- The runs of a graph that takes another text: each instance goes on by its task, each try is that of its task, with its number, and what is taken of the pools stays.
use Rattle.std.proofs.Common.{◌≡◌, refl, sym, ap, subst, ◌∙◌, ℕ, ◌+◌, List, [], ◌∷◌, Bool, true, false, cond, not, ◌&&◌, inl, inr, map, filter, flat_map, find, Option, Some, None, option_map, option_and_then, is_some, is_none, slice_get, nat_lt, arith, true≢false, zip, sum_by}
use Rattle.std.specs.List.{list_all, enumerate_from}
use Rattle.std.specs.List.Sorted.{IsPermutation}
use Rattle.std.proofs.lemmas.List.{length-map}
use Rattle.std.proofs.lemmas.List.Folds.{flat_map-map}
use Rattle.std.proofs.lemmas.List.Sums.{sum_by-cons}
use Rattle.std.proofs.lemmas.List.Sorted.{IsPermutation-refl, IsPermutation-append, length_permutation, sum_by-IsPermutation}
use Rattle.graph_file.specs.declared.task_specs.TaskSpec.{TaskSpec}
use Rattle.graph_file.specs.Lists.{holds_at}
use Rattle.dag_check.specs.Names.{ids_of, repeats}
use Rattle.dag_check.specs.Graphs.{Dag}
use Rattle.sched_model.specs.instance_machine.Instances.{InstanceValue}
use Rattle.sched_model.specs.instance_machine.declared.tries.Try.{Try}
use Rattle.sched_model.specs.instance_machine.declared.tries.End.{End}
use Rattle.sched_model.specs.sched_state.Lists.{same, insert_by}
use Rattle.sched_model.specs.sched_state.declared.graphs.LoadedGraph.{LoadedGraph}
use Rattle.sched_model.specs.sched_state.declared.runs.Run.{Run}
use Rattle.sched_model.specs.sched_state.declared.runs.RunPhase.{RunPhase}
use Rattle.sched_model.proofs.sched_state.OrderLemmas.{and_left, and_right}
use Rattle.sched_model.proofs.sched_state.NameLemmas.{same_is, same_itself, find_passes}
use Rattle.sched_model.specs.Causes.{moved_by, pairs_named, runs_of, task_named, takes_another_pool, least_moved, lost_task, open_serials, tries_of}
use Rattle.sched_model.specs.Changes.{new_graph, taken_in, reloaded, with_graph}
use Rattle.sched_model.specs.Clearing.{named_in, named_pairs, pairs_of, place_of}
use Rattle.sched_model.specs.Lists.{all_pairs}
use Rattle.sched_model.specs.Replacing.{pair_of, fitted_if, fitted, with_fitted, refitted, replace_graph, kept_as}
use Rattle.sched_model.specs.Schedule.{Schedule, graph_among, dag_among, dag_named, graph_before, is_at, tasks_of}
use Rattle.sched_model.specs.Sound.{IsSound, is_sound_graph, is_sound_run, is_sound_in, has_end}
use Rattle.sched_model.specs.States.{OpenTry, opened, open_of, open_tries, is_open, slots_in, occupied, active_tries, in_flight}
use Rattle.sched_laws.specs.Instances.{instance_of}
use Rattle.sched_laws.specs.Tries.{run_at, try_in, try_of}
use Rattle.sched_laws.proofs.ClearLemmas.{best_empty, none_open}
use Rattle.sched_laws.proofs.FittedLemmas.{Pair, pair_ids, all_member, find_member, flat_member, found_once, gathered_all, zip_ids, zip_all, zip_flat, zip_passes, made_flat, made_passes, made_found, beside_place, fitted_tries}
use Rattle.sched_laws.proofs.GraphLemmas.{find_by_id, flip_same, find_loaded, reloaded_id}
use Rattle.sched_laws.proofs.KeptLemmas.{kept_itself, kept_tries, newcomer_tries}
use Rattle.sched_laws.proofs.KeyLemmas.{is_key}
use Rattle.sched_laws.proofs.ListLemmas.{all_flat, pairs_impl}
use Rattle.sched_laws.proofs.LoadLemmas.{dag_found, reloaded_named}
use Rattle.sched_laws.proofs.OfferLemmas.{In, into_filter}
use Rattle.sched_laws.proofs.ReplaceLemmas.{IsTakenIn, dag_by, among_once, sound_once, refitted_key}
use Rattle.sched_laws.proofs.RunLemmas.{Key, map_flat, pairs_of_run}

-- ---- what stands by id
-- the tasks of a run, and those of another text, are told apart by id, and none of the first is lost
record Fits (dag : Dag) (es : List Pair) : Type 0 where
  once : repeats (ids_of dag.tasks) ≡ false
  apart : repeats (pair_ids es) ≡ false
  there : list_all (λ (x : Pair). is_some (task_named dag.tasks x.0.task_id)) es ≡ true

pub unmapped : {X Y : Type 0} (f : X → Y) (o : Option X) → option_map f o ≡ None → o ≡ None
unmapped f None e = refl
unmapped {X} {Y} f (Some x) e = absurd (let c : ◌≡◌ {A = Option Y} (Some (f x)) None = e in cc)

-- what lacks nothing finds something for each
all_there : {X Y : Type 0} (f : X → Option Y) (xs : List X) → find (λ x. is_none (f x)) xs ≡ None → list_all (λ x. is_some (f x)) xs ≡ true
all_there f [] e = refl
all_there {X} {Y} f (x ∷ xs) e = elim (f x) as (λ o. cond (is_none o) (Some x) (find (λ y. is_none (f y)) xs) ≡ None → (is_some o && list_all (λ y. is_some (f y)) xs) ≡ true) [
  | None ↦ λ g. absurd (let c : ◌≡◌ {A = Option X} (Some x) None = g in cc)
  | Some y ↦ λ g. all_there f xs g
] e

run_fits : (text : List ℕ) (dag : Dag) (a : Schedule) (r : Run) → is_sound_graph a (new_graph text dag) ≡ true → lost_task a dag ≡ None → IsSound a → is_sound_run a.graphs r ≡ true → same r.graph dag.spec.dag_id ≡ true → Fits dag (pairs_of a r)
run_fits text dag a r new lost s e is =
    let ts : List TaskSpec = tasks_of a r in
    let none : find (λ (t : TaskSpec). is_none (task_named dag.tasks t.task_id)) ts ≡ None =
    ap (λ id. find (λ (t : TaskSpec). is_none (task_named dag.tasks t.task_id)) (dag_named a id).tasks) (same_is r.graph dag.spec.dag_id is) ∙ unmapped (λ (t : TaskSpec). t.task_id) _ lost in
    record {
      once = sound_once a (new_graph text dag) new;
      apart = ap repeats (zip_ids (is_sound_in r.phase) ts r.instances (pairs_of_run a.graphs r e)) ∙ among_once a r.graph a.graphs s.graphs;
      there = zip_all (λ (t : TaskSpec). is_some (task_named dag.tasks t.task_id)) ts r.instances (all_there (λ (t : TaskSpec). task_named dag.tasks t.task_id) ts none);
    }

-- ---- one run after another
flat_permuted : {X Y : Type 0} (f g : X → List Y) (xs : List X) → ((x : X) → In x xs → IsPermutation (f x) (g x)) → IsPermutation (flat_map f xs) (flat_map g xs)
flat_permuted f g [] h = IsPermutation-refl []
flat_permuted f g (x ∷ xs) h = IsPermutation-append (f x) (g x) (flat_map f xs) (flat_map g xs) (h x (inl refl)) (flat_permuted f g xs (λ y i. h y (inr i)))

abbrev tries_in : Run → List Try
tries_in r = flat_map (λ (i : InstanceValue). i.tries) r.instances

run_tries : (text : List ℕ) (dag : Dag) (a : Schedule) (r : Run) → is_sound_graph a (new_graph text dag) ≡ true → lost_task a dag ≡ None → IsSound a → is_sound_run a.graphs r ≡ true → IsPermutation (tries_in r) (tries_in (refitted a dag r))
run_tries text dag a r new lost s e = elim (same r.graph dag.spec.dag_id) as (λ b. same r.graph dag.spec.dag_id ≡ b → IsPermutation (tries_in r) (tries_in (cond b (with_fitted a dag r) r))) [
  | true ↦ λ is.
      let fits = run_fits text dag a r new lost s e is in
      subst (λ ts. IsPermutation ts (tries_in (with_fitted a dag r))) (zip_flat (λ (i : InstanceValue). i.tries) (is_sound_in r.phase) (tasks_of a r) r.instances (pairs_of_run a.graphs r e))
      (fitted_tries r.phase (pairs_of a r) dag.tasks fits.once fits.apart fits.there)
  | false ↦ λ is. IsPermutation-refl (tries_in r)
] refl

pub replace_tries : (text : List ℕ) (dag : Dag) (a : Schedule) → is_sound_graph a (new_graph text dag) ≡ true → lost_task a dag ≡ None → IsSound a → IsPermutation (tries_of a) (tries_of (replace_graph text dag a))
replace_tries text dag a new lost s =
    subst (IsPermutation (tries_of a)) (sym (flat_map-map tries_in (refitted a dag) a.runs))
    (flat_permuted tries_in (λ r. tries_in (refitted a dag r)) a.runs (λ r i. run_tries text dag a r new lost s (all_member (is_sound_run a.graphs) a.runs r s.runs i)))

-- ---- the graph afterwards
is_there : {X : Type 0} (o : Option X) → is_some o ≡ true → (x : X) × (o ≡ Some x)
is_there None e = absurd (true≢false (sym e))
is_there (Some x) e = (x, refl)

known_after : (text : List ℕ) (dag : Dag) (gs : List LoadedGraph) (g : LoadedGraph) → graph_among gs dag.spec.dag_id ≡ Some g → graph_among (with_graph text dag gs) dag.spec.dag_id ≡ Some (reloaded text dag g)
known_after text dag gs g e =
    ap (λ (o : Option LoadedGraph). graph_among (elim o as (λ p. List LoadedGraph) [
      | Some h ↦ map (reloaded text dag) gs
      | None ↦ insert_by graph_before (new_graph text dag) gs
    ]) dag.spec.dag_id) e
    ∙ (find_by_id (reloaded text dag) (reloaded_id text dag) dag.spec.dag_id gs ∙ ap (option_map (reloaded text dag)) e)

reloaded_dag : (text : List ℕ) (dag : Dag) (g : LoadedGraph) → same g.dag.spec.dag_id dag.spec.dag_id ≡ true → (same g.text text ≡ true → g.dag ≡ dag) → (reloaded text dag g).dag ≡ dag
reloaded_dag text dag g e h =
    ap (λ (k : LoadedGraph). k.dag) (reloaded_named text dag g e)
    ∙ elim (same g.text text) as (λ b. same g.text text ≡ b → (cond b g (taken_in text dag g)).dag ≡ dag) [
      | true ↦ h
      | false ↦ λ f. refl
    ] refl

-- the graph of a run that takes the text in is there, and is the new one
pub record IsNew (gs : List LoadedGraph) (dag : Dag) (id : List ℕ) : Type 0 where
  pub known : is_some (graph_among gs id) ≡ true
  pub is : dag_among gs id ≡ dag

pub graph_after : (text : List ℕ) (dag : Dag) (a : Schedule) (r : Run) → IsTakenIn text dag a → is_sound_run a.graphs r ≡ true → same r.graph dag.spec.dag_id ≡ true → IsNew (with_graph text dag a.graphs) dag r.graph
graph_after text dag a r taken e is =
    let id : r.graph ≡ dag.spec.dag_id = same_is r.graph dag.spec.dag_id is in
    let g = is_there (graph_among a.graphs dag.spec.dag_id) (ap (λ k. is_some (graph_among a.graphs k)) (sym id) ∙ and_left _ _ e) in
    let found : graph_among (with_graph text dag a.graphs) r.graph ≡ Some (reloaded text dag g.0) = ap (graph_among (with_graph text dag a.graphs)) id ∙ known_after text dag a.graphs g.0 g.1 in
    let own : same g.0.dag.spec.dag_id dag.spec.dag_id ≡ true = find_passes (λ (h : LoadedGraph). same h.dag.spec.dag_id dag.spec.dag_id) a.graphs g.0 g.1 in
    record {
      known = ap is_some found;
      is = ap dag_by found ∙ reloaded_dag text dag g.0 own (taken g.0 g.1);
    }

pub other_after : (text : List ℕ) (dag : Dag) (a : Schedule) (id : List ℕ) → same id dag.spec.dag_id ≡ false → dag_among (with_graph text dag a.graphs) id ≡ dag_among a.graphs id
other_after text dag a id other = dag_found a.graphs (with_graph text dag a.graphs) id (find_loaded text dag a.graphs id (flip_same id dag.spec.dag_id other))

-- ---- each try
-- a try of a run, by the id of its task
pair_try : (a : Schedule) (id : List ℕ) (date : ℕ) (task : List ℕ) (n : ℕ) (r : Run) (p : TaskSpec → InstanceValue → Bool) → run_at id date a.runs ≡ Some r → all_pairs p (tasks_of a r) r.instances ≡ true
    → try_of a id date task n ≡ option_and_then (λ (x : Pair). slice_get x.1.tries n) (pair_of task (pairs_of a r))
pair_try a id date task n r p found paired =
    let own : same r.graph id ≡ true = and_left _ _ (find_passes (is_at id date) a.runs r found) in
    ap (λ (k : List ℕ). try_of a k date task n) (sym (same_is r.graph id own))
    ∙ (ap (λ (o : Option Run). option_and_then (λ (m : ℕ). option_and_then (λ (q : Run). option_and_then (λ (i : InstanceValue). slice_get i.tries n) (slice_get q.instances m)) o) (place_of (tasks_of a r) task))
    (ap (λ (k : List ℕ). run_at k date a.runs) (same_is r.graph id own) ∙ found)
    ∙ beside_place (λ (i : InstanceValue). slice_get i.tries n) p (λ (t : TaskSpec). same t.task_id task) 0 (tasks_of a r) r.instances r.instances paired (λ m. let z : 0 + m ≡ m = omega arith in ap (slice_get r.instances) z))

-- the run is found as before
run_after : (a : Schedule) (dag : Dag) (id : List ℕ) (date : ℕ) (rs : List Run) → run_at id date (map (refitted a dag) rs) ≡ option_map (refitted a dag) (run_at id date rs)
run_after a dag id date [] = refl
run_after a dag id date (r ∷ rs) =
    ap (λ (k : Key). cond (is_key id date k) (Some (refitted a dag r)) (run_at id date (map (refitted a dag) rs))) (refitted_key a dag r)
    ∙ elim (is_at id date r) as (λ b. cond b (Some (refitted a dag r)) (run_at id date (map (refitted a dag) rs)) ≡ option_map (refitted a dag) (cond b (Some r) (run_at id date rs))) [
      | true ↦ refl
      | false ↦ run_after a dag id date rs
    ]

no_run : (o : Option ℕ) (n : ℕ) (t : Try) → option_and_then (λ (m : ℕ). option_and_then (try_in m n) None) o ≡ Some t → ⊥
no_run None n t e = let c : ◌≡◌ {A = Option Try} None (Some t) = e in cc
no_run (Some m) n t e = let c : ◌≡◌ {A = Option Try} None (Some t) = e in cc

-- ---- each instance
-- the pair of a task in a run that takes the text in
same_pair : (dag : Dag) (ph : RunPhase) (es : List Pair) (task : List ℕ) (x : Pair) → Fits dag es → pair_of task es ≡ Some x → (m : TaskSpec) × (pair_of task (zip dag.tasks (map (fitted ph es) dag.tasks)) ≡ Some (m, kept_as x.0 m x.1))
same_pair dag ph es task x fits f =
    let id : x.0.task_id ≡ task = same_is x.0.task_id task (find_passes (λ (y : Pair). same y.0.task_id task) es x f) in
    let m = is_there (task_named dag.tasks task) (ap (λ k. is_some (task_named dag.tasks k)) (sym id) ∙ all_member (λ (y : Pair). is_some (task_named dag.tasks y.0.task_id)) es x fits.there (find_member (λ (y : Pair). same y.0.task_id task) es x f)) in
    let named : m.0.task_id ≡ task = same_is m.0.task_id task (find_passes (λ (u : TaskSpec). same u.task_id task) dag.tasks m.0 m.1) in
    let made : fitted ph es m.0 ≡ kept_as x.0 m.0 x.1 = ap (λ k. fitted_if ph (pair_of k es) m.0) named ∙ ap (λ o. fitted_if ph o m.0) f in
    (m.0, made_found (fitted ph es) task dag.tasks m.0 m.1 ∙ ap (λ (i : InstanceValue). let o : Option Pair = Some (m.0, i) in o) made)

-- in each run the instance of a task goes on by the task as it is now
pair_stays : (text : List ℕ) (dag : Dag) (a : Schedule) (r : Run) (task : List ℕ) (x : Pair) → IsTakenIn text dag a → is_sound_graph a (new_graph text dag) ≡ true → lost_task a dag ≡ None → IsSound a → is_sound_run a.graphs r ≡ true
    → pair_of task (pairs_of a r) ≡ Some x → (m : TaskSpec) × (pair_of task (pairs_of (replace_graph text dag a) (refitted a dag r)) ≡ Some (m, kept_as x.0 m x.1))
pair_stays text dag a r task x taken new lost s sound f =
    let b : Schedule = replace_graph text dag a in
    elim (same r.graph dag.spec.dag_id) as (λ c. same r.graph dag.spec.dag_id ≡ c → (m : TaskSpec) × (pair_of task (pairs_of b (cond c (with_fitted a dag r) r)) ≡ Some (m, kept_as x.0 m x.1))) [
      | true ↦ λ g.
          let now = graph_after text dag a r taken sound g in
          let p = same_pair dag r.phase (pairs_of a r) task x (run_fits text dag a r new lost s sound g) f in
          (p.0, ap (λ (d : Dag). pair_of task (zip d.tasks (map (fitted r.phase (pairs_of a r)) dag.tasks))) now.is ∙ p.1)
      | false ↦ λ g.
          let pairs = zip_passes (is_sound_in r.phase) (tasks_of a r) r.instances (pairs_of_run a.graphs r sound) in
          let own : is_sound_in r.phase x.0 x.1 ≡ true = all_member (λ (y : Pair). is_sound_in r.phase y.0 y.1) (pairs_of a r) x pairs (find_member (λ (y : Pair). same y.0.task_id task) (pairs_of a r) x f) in
          let kept : kept_as x.0 x.0 x.1 ≡ x.1 = kept_itself x.0 x.1 (and_left _ _ own) in
          (x.0, ap (λ (d : Dag). pair_of task (zip d.tasks r.instances)) (other_after text dag a r.graph g) ∙ (f ∙ ap (λ (i : InstanceValue). let o : Option Pair = Some (x.0, i) in o) (sym kept)))
    ] refl

-- the run of a graph and a date is sound
run_sound : (a : Schedule) (id : List ℕ) (date : ℕ) (r : Run) → IsSound a → run_at id date a.runs ≡ Some r → is_sound_run a.graphs r ≡ true
run_sound a id date r s f = all_member (is_sound_run a.graphs) a.runs r s.runs (find_member (is_at id date) a.runs r f)

pub instance_stays : (text : List ℕ) (dag : Dag) (a : Schedule) → IsTakenIn text dag a → (id : List ℕ) (date : ℕ) (task : List ℕ) (x : Pair) → is_sound_graph a (new_graph text dag) ≡ true → lost_task a dag ≡ None → IsSound a
    → instance_of a id date task ≡ Some x → (m : TaskSpec) × (instance_of (replace_graph text dag a) id date task ≡ Some (m, kept_as x.0 m x.1))
instance_stays text dag a taken id date task x new lost s e =
    let b : Schedule = replace_graph text dag a in
    elim (run_at id date a.runs) as (λ o. run_at id date a.runs ≡ o → option_and_then (λ (r : Run). pair_of task (pairs_of a r)) o ≡ Some x → (m : TaskSpec) × (instance_of b id date task ≡ Some (m, kept_as x.0 m x.1))) [
      | None ↦ λ f g. absurd (let c : ◌≡◌ {A = Option Pair} None (Some x) = g in cc)
      | Some r ↦ λ f g.
          let p = pair_stays text dag a r task x taken new lost s (run_sound a id date r s f) g in
          (p.0, ap (option_and_then (λ (q : Run). pair_of task (pairs_of b q))) (run_after a dag id date a.runs ∙ ap (option_map (refitted a dag)) f) ∙ p.1)
    ] refl e

-- ---- its tries
-- there is an instance for each task of the run
run_paired : (text : List ℕ) (dag : Dag) (a : Schedule) (r : Run) → IsTakenIn text dag a → is_sound_run a.graphs r ≡ true
    → (let q : Run = refitted a dag r in all_pairs (λ u i. true) (tasks_of (replace_graph text dag a) q) q.instances ≡ true)
run_paired text dag a r taken sound =
    elim (same r.graph dag.spec.dag_id) as (λ c. same r.graph dag.spec.dag_id ≡ c → (let q : Run = cond c (with_fitted a dag r) r in all_pairs (λ u i. true) (tasks_of (replace_graph text dag a) q) q.instances ≡ true)) [
      | true ↦ λ g.
          let now = graph_after text dag a r taken sound g in
          let made : TaskSpec → InstanceValue = fitted r.phase (pairs_of a r) in
          ap (λ (d : Dag). all_pairs (λ u i. true) d.tasks (map made dag.tasks)) now.is ∙ made_passes (λ u i. true) made dag.tasks (λ m i. refl)
      | false ↦ λ g.
          ap (λ (d : Dag). all_pairs (λ u i. true) d.tasks r.instances) (other_after text dag a r.graph g)
          ∙ pairs_impl (is_sound_in r.phase) (λ u i. true) (λ u i e. refl) (tasks_of a r) r.instances (pairs_of_run a.graphs r sound)
    ] refl

pub try_stays : (text : List ℕ) (dag : Dag) (a : Schedule) → IsTakenIn text dag a → (id : List ℕ) (date : ℕ) (task : List ℕ) (n : ℕ) (t : Try) → is_sound_graph a (new_graph text dag) ≡ true → lost_task a dag ≡ None → IsSound a → try_of a id date task n ≡ Some t
    → try_of (replace_graph text dag a) id date task n ≡ Some t
try_stays text dag a taken id date task n t new lost s e =
    let b : Schedule = replace_graph text dag a in
    elim (run_at id date a.runs) as (λ o. run_at id date a.runs ≡ o → try_of b id date task n ≡ Some t) [
      | None ↦ λ f. absurd (no_run (place_of (dag_named a id).tasks task) n t (ap (λ o. option_and_then (λ (m : ℕ). option_and_then (try_in m n) o) (place_of (dag_named a id).tasks task)) (sym f) ∙ e))
      | Some r ↦ λ f.
          let sound : is_sound_run a.graphs r ≡ true = run_sound a id date r s f in
          let before : option_and_then (λ (x : Pair). slice_get x.1.tries n) (pair_of task (pairs_of a r)) ≡ Some t = sym (pair_try a id date task n r (is_sound_in r.phase) f (pairs_of_run a.graphs r sound)) ∙ e in
          let after : run_at id date b.runs ≡ Some (refitted a dag r) = run_after a dag id date a.runs ∙ ap (option_map (refitted a dag)) f in
          elim (pair_of task (pairs_of a r)) as (λ o. pair_of task (pairs_of a r) ≡ o → option_and_then (λ (x : Pair). slice_get x.1.tries n) o ≡ Some t → try_of b id date task n ≡ Some t) [
            | None ↦ λ g h. absurd (let c : ◌≡◌ {A = Option Try} None (Some t) = h in cc)
            | Some x ↦ λ g h.
                let p = pair_stays text dag a r task x taken new lost s sound g in
                pair_try b id date task n (refitted a dag r) (λ u i. true) after (run_paired text dag a r taken sound)
                ∙ (ap (option_and_then (λ (y : Pair). slice_get y.1.tries n)) p.1 ∙ (ap (λ (ts : List Try). slice_get ts n) (kept_tries x.0 p.0 x.1) ∙ h))
          ] refl before
    ] refl

-- ---- tries without an end
-- those of a run
abbrev opens_of : Schedule → Run → List OpenTry
opens_of a r = flat_map (open_of r.graph) (pairs_of a r)

-- what is looked at of a pair's tries without an end is the same beside the new task
abbrev IsAlike : {A : Type 0} → (OpenTry → A) → Dag → Schedule → Type 0
IsAlike look dag a =
    (r : Run) → In r a.runs → same r.graph dag.spec.dag_id ≡ true → (n : TaskSpec) (x : Pair) → In n dag.tasks → In x (pairs_of a r) → same x.0.task_id n.task_id ≡ true
    → map look (map (opened r.graph n) (filter is_open x.1.tries)) ≡ map look (map (opened r.graph x.0) (filter is_open x.1.tries))

fitted_opens : {A : Type 0} (look : OpenTry → A) (id : List ℕ) (dag : Dag) (ph : RunPhase) (es : List Pair) → Fits dag es
    → ((n : TaskSpec) (x : Pair) → In n dag.tasks → In x es → same x.0.task_id n.task_id ≡ true → map look (map (opened id n) (filter is_open x.1.tries)) ≡ map look (map (opened id x.0) (filter is_open x.1.tries)))
    → IsPermutation (map look (flat_map (open_of id) es)) (map look (flat_map (open_of id) (zip dag.tasks (map (fitted ph es) dag.tasks))))
fitted_opens look id dag ph es fits alike =
    let made : map look (flat_map (open_of id) (zip dag.tasks (map (fitted ph es) dag.tasks))) ≡ flat_map (λ (n : TaskSpec). map look (open_of id (n, fitted ph es n))) dag.tasks =
    ap (map look) (made_flat (open_of id) (fitted ph es) dag.tasks) ∙ map_flat look (λ (n : TaskSpec). open_of id (n, fitted ph es n)) dag.tasks in
    subst (λ us. IsPermutation us (map look (flat_map (open_of id) (zip dag.tasks (map (fitted ph es) dag.tasks))))) (sym (map_flat look (open_of id) es))
    (subst (IsPermutation (flat_map (λ (x : Pair). map look (open_of id x)) es)) (sym made)
    (gathered_all (λ n o. map look (open_of id (n, fitted_if ph o n))) (λ (x : Pair). map look (open_of id x)) es dag.tasks
    (λ n. ap (λ (ts : List Try). map look (map (opened id n) (filter is_open ts))) (newcomer_tries ph))
    fits.once fits.apart fits.there
    (λ n x i j e. ap (λ (ts : List Try). map look (map (opened id n) (filter is_open ts))) (kept_tries x.0 n x.1) ∙ alike n x i j e)))

run_opens : {A : Type 0} (look : OpenTry → A) (text : List ℕ) (dag : Dag) (a : Schedule) (r : Run) → IsTakenIn text dag a → is_sound_graph a (new_graph text dag) ≡ true → lost_task a dag ≡ None → IsSound a → IsAlike look dag a → In r a.runs
    → IsPermutation (map look (opens_of a r)) (map look (opens_of (replace_graph text dag a) (refitted a dag r)))
run_opens look text dag a r taken new lost s alike i =
    let b : Schedule = replace_graph text dag a in
    let sound : is_sound_run a.graphs r ≡ true = all_member (is_sound_run a.graphs) a.runs r s.runs i in
    elim (same r.graph dag.spec.dag_id) as (λ c. same r.graph dag.spec.dag_id ≡ c → IsPermutation (map look (opens_of a r)) (map look (opens_of b (cond c (with_fitted a dag r) r)))) [
      | true ↦ λ e.
          let now = graph_after text dag a r taken sound e in
          subst (λ (d : Dag). IsPermutation (map look (opens_of a r)) (map look (flat_map (open_of r.graph) (zip d.tasks (map (fitted r.phase (pairs_of a r)) dag.tasks))))) (sym now.is)
          (fitted_opens look r.graph dag r.phase (pairs_of a r) (run_fits text dag a r new lost s sound e) (alike r i e))
      | false ↦ λ e.
          subst (λ (d : Dag). IsPermutation (map look (opens_of a r)) (map look (flat_map (open_of r.graph) (zip d.tasks r.instances)))) (sym (other_after text dag a r.graph e)) (IsPermutation-refl (map look (opens_of a r)))
    ] refl

replace_opens : {A : Type 0} (look : OpenTry → A) (text : List ℕ) (dag : Dag) (a : Schedule) → IsTakenIn text dag a → is_sound_graph a (new_graph text dag) ≡ true → lost_task a dag ≡ None → IsSound a → IsAlike look dag a
    → IsPermutation (map look (open_tries a)) (map look (open_tries (replace_graph text dag a)))
replace_opens look text dag a taken new lost s alike =
    let b : Schedule = replace_graph text dag a in
    let after : map look (open_tries b) ≡ flat_map (λ (r : Run). map look (opens_of b (refitted a dag r))) a.runs = map_flat look (opens_of b) (map (refitted a dag) a.runs) ∙ flat_map-map (λ (q : Run). map look (opens_of b q)) (refitted a dag) a.runs in
    subst (λ us. IsPermutation us (map look (open_tries b))) (sym (map_flat look (opens_of a) a.runs))
    (subst (IsPermutation (flat_map (λ (r : Run). map look (opens_of a r)) a.runs)) (sym after)
    (flat_permuted (λ (r : Run). map look (opens_of a r)) (λ (r : Run). map look (opens_of b (refitted a dag r))) a.runs (λ r i. run_opens look text dag a r taken new lost s alike i)))

-- ---- by graphs
graphs_alike : (id : List ℕ) (n t : TaskSpec) (ts : List Try) → map (λ (o : OpenTry). o.graph) (map (opened id n) ts) ≡ map (λ (o : OpenTry). o.graph) (map (opened id t) ts)
graphs_alike id n t [] = refl
graphs_alike id n t (u ∷ ts) = ap (λ gs. id ∷ gs) (graphs_alike id n t ts)

graphs_after : (text : List ℕ) (dag : Dag) (a : Schedule) → IsTakenIn text dag a → is_sound_graph a (new_graph text dag) ≡ true → lost_task a dag ≡ None → IsSound a
    → IsPermutation (map (λ (o : OpenTry). o.graph) (open_tries a)) (map (λ (o : OpenTry). o.graph) (open_tries (replace_graph text dag a)))
graphs_after text dag a taken new lost s = replace_opens (λ (o : OpenTry). o.graph) text dag a taken new lost s (λ r i e n x j k f. graphs_alike r.graph n x.0 (filter is_open x.1.tries))

sum_mapped : {X Y : Type 0} (f : Y → ℕ) (g : X → Y) (xs : List X) → sum_by f (map g xs) ≡ sum_by (λ x. f (g x)) xs
sum_mapped f g [] = refl
sum_mapped f g (x ∷ xs) = sum_by-cons f (g x) (map g xs) ∙ (ap (λ k. f (g x) + k) (sum_mapped f g xs) ∙ sym (sum_by-cons (λ y. f (g y)) x xs))

pub active_stays : (text : List ℕ) (dag : Dag) (a : Schedule) (id : List ℕ) → IsTakenIn text dag a → is_sound_graph a (new_graph text dag) ≡ true → lost_task a dag ≡ None → IsSound a → active_tries (replace_graph text dag a) id ≡ active_tries a id
active_stays text dag a id taken new lost s =
    let one : List ℕ → ℕ = λ g. cond (same g id) 1 0 in
    let graph : OpenTry → List ℕ = λ o. o.graph in
    sym (sum_mapped one graph (open_tries (replace_graph text dag a)))
    ∙ (sum_by-IsPermutation one (map graph (open_tries a)) (map graph (open_tries (replace_graph text dag a))) (graphs_after text dag a taken new lost s) ∙ sum_mapped one graph (open_tries a))

pub in_flight_stays : (text : List ℕ) (dag : Dag) (a : Schedule) → IsTakenIn text dag a → is_sound_graph a (new_graph text dag) ≡ true → lost_task a dag ≡ None → IsSound a → in_flight (replace_graph text dag a) ≡ in_flight a
in_flight_stays text dag a taken new lost s =
    let graph : OpenTry → List ℕ = λ o. o.graph in
    let b : Schedule = replace_graph text dag a in
    sym (length-map (open_tries b) graph) ∙ (length_permutation (map graph (open_tries a)) (map graph (open_tries b)) (graphs_after text dag a taken new lost s) ∙ length-map (open_tries a) graph)

-- ---- by pools
ended_over : (o : Option End) → is_some o ≡ true → is_none o ≡ false
ended_over None e = absurd (true≢false (sym e))
ended_over (Some x) e = refl

no_open : (ts : List Try) → list_all has_end ts ≡ true → filter is_open ts ≡ []
no_open [] e = refl
no_open (t ∷ ts) e = ap (λ b. cond b (t ∷ filter is_open ts) (filter is_open ts)) (ended_over t.ended (and_left _ _ e)) ∙ no_open ts (and_right (has_end t) _ e)

-- a pair of a run of the graph is one of all its runs
pub pair_named : (a : Schedule) (id : List ℕ) (r : Run) (x : Pair) → In r a.runs → same r.graph id ≡ true → In x (pairs_of a r) → In x (pairs_named a id)
pair_named a id r x i e j = flat_member (pairs_of a) (runs_of a id) r x (into_filter (λ (q : Run). same q.graph id) r a.runs i e) j

-- an instance that is named at each place is among those that are named
named_pair : (f : ℕ → Pair → Bool) (n : ℕ) (es : List Pair) (x : Pair) → In x es → ((p : ℕ) → f p x ≡ true) → In x (map (λ (e : ℕ × Pair). e.1) (filter (λ (e : ℕ × Pair). f e.0 e.1) (enumerate_from n es)))
named_pair f n [] x i h = absurd i
named_pair f n (y ∷ es) x i h = elim (f n y) as (λ b. f n y ≡ b → In x (map (λ (e : ℕ × Pair). e.1) (cond b ((n, y) ∷ filter (λ (e : ℕ × Pair). f e.0 e.1) (enumerate_from (n + 1) es)) (filter (λ (e : ℕ × Pair). f e.0 e.1) (enumerate_from (n + 1) es))))) [
  | true ↦ λ g. elim i [ inl is ↦ inl is | inr j ↦ inr (named_pair f (n + 1) es x j h) ]
  | false ↦ λ g. elim i [ inl is ↦ absurd (true≢false (sym (h n) ∙ ap (f n) (sym is) ∙ g)) | inr j ↦ named_pair f (n + 1) es x j h ]
] refl

-- a pair of a run that takes slots of another pool is one of those that are moved
moved_pair : (a : Schedule) (dag : Dag) (r : Run) (x : Pair) → In r a.runs → same r.graph dag.spec.dag_id ≡ true → takes_another_pool dag x.0 ≡ true → In x (pairs_of a r) → In x (named_pairs a (moved_by dag))
moved_pair a dag r x i own moves j = flat_member (named_in a (moved_by dag)) a.runs r x i (named_pair (moved_by dag r) 0 (pairs_of a r) x j (λ p. ap (λ b. b && takes_another_pool dag x.0) own ∙ moves))

pools_alike : (text : List ℕ) (dag : Dag) (a : Schedule) → is_sound_graph a (new_graph text dag) ≡ true → least_moved a dag ≡ None → IsAlike (λ (o : OpenTry). o) dag a
pools_alike text dag a new least r i e n x j k f =
    let ts : List Try = filter is_open x.1.tries in
    let all : List Pair = named_pairs a (moved_by dag) in
    let found : task_named dag.tasks x.0.task_id ≡ Some n = found_once (λ (t : TaskSpec). t.task_id) dag.tasks n x.0.task_id (sound_once a (new_graph text dag) new) j (ap (same n.task_id) (same_is x.0.task_id n.task_id f) ∙ same_itself n.task_id) in
    elim (same n.pool x.0.pool) as (λ b. same n.pool x.0.pool ≡ b → map (λ (o : OpenTry). o) (map (opened r.graph n) ts) ≡ map (λ (o : OpenTry). o) (map (opened r.graph x.0) ts)) [
      | true ↦ λ g.
          let pool : n.pool ≡ x.0.pool = same_is n.pool x.0.pool g in
          ap (λ (p : List ℕ). map (λ (o : OpenTry). o) (map (λ (u : Try). let o : OpenTry = record { graph = r.graph; pool = p; one = u } in o) ts)) pool
      | false ↦ λ g.
          let moved : List Try = flat_map (λ (y : Pair). y.1.tries) all in
          let over : list_all has_end moved ≡ true = none_open moved (best_empty nat_lt (open_serials moved) least) in
          let ended : list_all has_end x.1.tries ≡ true =
          all_member (λ (y : Pair). list_all has_end y.1.tries) all x (all_flat has_end (λ (y : Pair). y.1.tries) all over) (moved_pair a dag r x i e (ap (holds_at (λ (u : TaskSpec). not (same u.pool x.0.pool))) found ∙ ap not g) k) in
          let none : ts ≡ [] = no_open x.1.tries ended in
          ap (λ (us : List Try). map (λ (o : OpenTry). o) (map (opened r.graph n) us)) none ∙ sym (ap (λ (us : List Try). map (λ (o : OpenTry). o) (map (opened r.graph x.0) us)) none)
    ] refl

pub occupied_stays : (text : List ℕ) (dag : Dag) (a : Schedule) (p : List ℕ) → IsTakenIn text dag a → is_sound_graph a (new_graph text dag) ≡ true → lost_task a dag ≡ None → least_moved a dag ≡ None → IsSound a
    → occupied (replace_graph text dag a) p ≡ occupied a p
occupied_stays text dag a p taken new lost least s =
    let b : Schedule = replace_graph text dag a in
    let whole : OpenTry → OpenTry = λ o. o in
    sym (sum_mapped (slots_in p) whole (open_tries b))
    ∙ (sum_by-IsPermutation (slots_in p) (map whole (open_tries a)) (map whole (open_tries b)) (replace_opens whole text dag a taken new lost s (pools_alike text dag a new least)) ∙ sum_mapped (slots_in p) whole (open_tries a))
