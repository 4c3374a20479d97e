-- A text that takes in a graph without runs goes beside moves and hand-outs: it may be taken in before them or after them.
use Rattle.std.proofs.Common.{◌≡◌, refl, sym, ap, subst, ◌∙◌, ℕ, zero, suc, ◌+◌, ◌-◌, ◌==◌, List, [], ◌∷◌, ◌++◌, true, false, cond, not, ◌&&◌, filter, flat_map, map, Option, Some, None, option_map, option_and_then, unwrap_or, slice_get, nat_lt}
use Rattle.std.specs.List.{list_all, list_any, range_with_len, zip}
use Rattle.graph_file.specs.Lists.{when, first_some}
use Rattle.graph_file.specs.declared.task_specs.TaskSpec.{TaskSpec}
use Rattle.dag_check.specs.Graphs.{Dag, ups}
use Rattle.sched_model.specs.trigger_rules.Rules.{rule_verdict}
use Rattle.sched_model.specs.trigger_rules.States.{is_finished, is_bad}
use Rattle.sched_model.specs.trigger_rules.declared.verdicts.Verdict.{Verdict}
use Rattle.sched_model.specs.instance_machine.Instances.{InstanceValue}
use Rattle.sched_model.specs.instance_machine.States.{state_of}
use Rattle.sched_model.specs.instance_machine.declared.tries.Try.{Try}
use Rattle.sched_model.specs.sched_state.declared.jobs.Job.{Job}
use Rattle.sched_model.specs.sched_state.Lists.{same, change_from, repeat}
use Rattle.sched_model.specs.sched_state.declared.graphs.LoadedGraph.{LoadedGraph}
use Rattle.sched_model.specs.sched_state.declared.runs.Run.{Run}
use Rattle.sched_model.specs.sched_state.declared.runs.RunPhase.TheVariants as phase
use Rattle.sched_model.proofs.sched_state.OrderLemmas.{any_map}
use Rattle.sched_model.proofs.sched_state.RepeatLemmas.{repeat_done, repeat_more}
use Rattle.sched_model.specs.Lists.{zip_with, map_places}
use Rattle.sched_model.specs.Schedule.{Schedule, graph_among, dag_among, no_dag, has_runs, is_running, is_queued, tasks_of}
use Rattle.sched_model.specs.States.{active_runs}
use Rattle.sched_model.specs.Settle.{decides, decided_verdict, decide_task, decide_instance, decide_run, finish_run, start_run, is_leaf, move_runs, with_runs, move, moves_left, settle}
use Rattle.sched_model.specs.Handout.{Offer, hand, hand_one, hand_out, best_offer, new_try, with_try, in_instance, serials_left}
use Rattle.sched_model.specs.Changes.{with_graph, load_graph}
use Rattle.sched_laws.specs.Seen.{Sight, sight_of, sights, seen_at, seen_past}
use Rattle.sched_model.specs.Jobs.{jobs_of, handed}
use Rattle.sched_laws.proofs.AlikeLemmas.{AllDags, same_sights}
use Rattle.sched_laws.proofs.KeyLemmas.{turns_keys, hands_keys}
use Rattle.sched_laws.proofs.ListLemmas.{change_here}
use Rattle.sched_laws.proofs.LoadLemmas.{AllFound, found_after, dag_found, dags_found, with_graphs, best_alike}
use Rattle.sched_laws.proofs.RunLemmas.{Key, key, move_kin}
use Rattle.sched_laws.proofs.SeenLemmas.{verdict_seen}
use Rattle.sched_laws.proofs.SettleLemmas.{map_some}
use Rattle.sched_laws.proofs.SoundLemmas.{map_at}

-- ---- runs whose graphs are found as before, by their keys
abbrev FoundAt : List LoadedGraph → List LoadedGraph → List Key → Type 0
FoundAt gs hs [] = Unit {0}
FoundAt gs hs (k ∷ ks) = (graph_among hs k.graph ≡ graph_among gs k.graph) × FoundAt gs hs ks

to_keys : (gs hs : List LoadedGraph) (rs : List Run) → AllFound gs hs rs → FoundAt gs hs (map key rs)
to_keys gs hs [] f = tt
to_keys gs hs (r ∷ rs) f = (f.0, to_keys gs hs rs f.1)

from_keys : (gs hs : List LoadedGraph) (rs : List Run) → FoundAt gs hs (map key rs) → AllFound gs hs rs
from_keys gs hs [] f = tt
from_keys gs hs (r ∷ rs) f = (f.0, from_keys gs hs rs f.1)

still_found : (gs hs : List LoadedGraph) (rs qs : List Run) → map key qs ≡ map key rs → AllFound gs hs rs → AllFound gs hs qs
still_found gs hs rs qs e f = from_keys gs hs qs (subst (FoundAt gs hs) (sym e) (to_keys gs hs rs f))

-- ---- one run
one_sight : (gs hs : List LoadedGraph) (r : Run) → dag_among hs r.graph ≡ dag_among gs r.graph → sight_of hs r ≡ sight_of gs r
one_sight gs hs r e =
    let c : ◌≡◌ {A = List Sight} (sight_of hs r ∷ []) (sight_of gs r ∷ []) = same_sights gs hs (r ∷ []) (e, tt) in
    cc

verdict_by : List Sight → Sight → ℕ → TaskSpec → Dag → Option Verdict
verdict_by vs v p t d = decides (seen_past vs v t p) (rule_verdict t.trigger_rule (map (seen_at v) (ups d p)))

verdict_beside : (a : Schedule) (hs : List LoadedGraph) → AllFound a.graphs hs a.runs → (r : Run) → dag_among hs r.graph ≡ dag_among a.graphs r.graph → (p : ℕ) (t : TaskSpec)
    → decided_verdict (with_graphs a hs) r p t ≡ decided_verdict a r p t
unfolding verdict_by
verdict_beside a hs f r e p t =
    let b : Schedule = with_graphs a hs in
    let v : Sight = sight_of hs r in
    let w : Sight = sight_of a.graphs r in
    sym (verdict_seen b r p t)
    ∙ (ap (λ (vs : List Sight). verdict_by vs v p t (dag_among hs r.graph)) (same_sights a.graphs hs a.runs (dags_found a.graphs hs a.runs f))
    ∙ (ap (λ (u : Sight). verdict_by (sights a) u p t (dag_among hs r.graph)) (one_sight a.graphs hs r e)
    ∙ (ap (λ (d : Dag). verdict_by (sights a) w p t d) e
    ∙ verdict_seen a r p t)))

-- an instance with these parts
abbrev made_of : Option Verdict → ℕ → List Try → InstanceValue
made_of v s ts = record { verdict = v; since = s; tries = ts }

task_beside : (a : Schedule) (hs : List LoadedGraph) → AllFound a.graphs hs a.runs → (r : Run) → dag_among hs r.graph ≡ dag_among a.graphs r.graph → (p : ℕ) (i : InstanceValue) (o : Option TaskSpec)
    → option_and_then (decide_task (with_graphs a hs) r p i) o ≡ option_and_then (decide_task a r p i) o
task_beside a hs f r e p i None = refl
task_beside a hs f r e p i (Some t) = ap (λ (o : Option Verdict). option_map (λ v. record i { verdict = Some v }) o) (verdict_beside a hs f r e p t)

parts_beside : (a : Schedule) (hs : List LoadedGraph) → AllFound a.graphs hs a.runs → (r : Run) → dag_among hs r.graph ≡ dag_among a.graphs r.graph → (p : ℕ) (v : Option Verdict) (s : ℕ) (ts : List Try)
    → decide_instance (with_graphs a hs) r p (made_of v s ts) ≡ decide_instance a r p (made_of v s ts)
parts_beside a hs f r e p (Some v) s ts = refl
parts_beside a hs f r e p None s ts =
    ap (λ (d : Dag). option_and_then (decide_task (with_graphs a hs) r p (made_of None s ts)) (slice_get d.tasks p)) e
    ∙ task_beside a hs f r e p (made_of None s ts) (slice_get (tasks_of a r) p)

instance_beside : (a : Schedule) (hs : List LoadedGraph) → AllFound a.graphs hs a.runs → (r : Run) → dag_among hs r.graph ≡ dag_among a.graphs r.graph → (p : ℕ) (i : InstanceValue)
    → decide_instance (with_graphs a hs) r p i ≡ decide_instance a r p i
instance_beside a hs f r e p i = parts_beside a hs f r e p i.verdict i.since i.tries

-- two functions that agree change a list alike
here_alike : {X : Type 0} (f g : ℕ → X → Option X) (i : ℕ) (x : X) (xs : List X) (o : Option X) → change_from f (i + 1) xs ≡ change_from g (i + 1) xs → change_here f i x xs o ≡ change_here g i x xs o
here_alike f g i x xs (Some y) e = refl
here_alike f g i x xs None e = ap (option_map (λ ys. x ∷ ys)) e

change_alike : {X : Type 0} (f g : ℕ → X → Option X) → ((i : ℕ) (x : X) → f i x ≡ g i x) → (i : ℕ) (xs : List X) → change_from f i xs ≡ change_from g i xs
change_alike f g h i [] = refl
change_alike {X} f g h i (x ∷ xs) =
    ap (change_here f i x xs) (h i x) ∙ here_alike f g i x xs (g i x) (change_alike f g h (i + 1) xs)

with_instances : Run → List InstanceValue → Run
with_instances r is = record r { instances = is }

decide_beside : (a : Schedule) (hs : List LoadedGraph) → AllFound a.graphs hs a.runs → (r : Run) → dag_among hs r.graph ≡ dag_among a.graphs r.graph → decide_run (with_graphs a hs) r ≡ decide_run a r
unfolding with_instances
decide_beside a hs f r e =
    ap (λ (o : Option (List InstanceValue)). elim (is_running r.phase) as (λ b. Option Run) [ true ↦ option_map (with_instances r) o | false ↦ None ])
    (change_alike (decide_instance (with_graphs a hs) r) (decide_instance a r) (instance_beside a hs f r e) 0 r.instances)

finish_by : Run → Dag → Option Run
finish_by r d =
    when (is_running r.phase && list_all is_finished (zip_with state_of d.tasks r.instances))
    (record r { phase = cond (list_any (λ b. b) (map_places (λ p s. is_bad s && is_leaf d p) 0 (zip_with state_of d.tasks r.instances))) phase.Failed phase.Success })

finish_beside : (a : Schedule) (hs : List LoadedGraph) (r : Run) → dag_among hs r.graph ≡ dag_among a.graphs r.graph → finish_run (with_graphs a hs) r ≡ finish_run a r
unfolding finish_by
finish_beside a hs r e = ap (finish_by r) e

start_by : ℕ → Run → Option LoadedGraph → Option Run
start_by active r o =
    when (is_queued r.phase
    && (not (unwrap_or (option_map (λ (g : LoadedGraph). g.paused) o) false) && nat_lt active (unwrap_or (option_map (λ (g : LoadedGraph). g.dag) o) no_dag).spec.max_active_runs))
    (record r { phase = phase.Running })

start_beside : (a : Schedule) (hs : List LoadedGraph) (r : Run) → graph_among hs r.graph ≡ graph_among a.graphs r.graph → start_run (with_graphs a hs) r ≡ start_run a r
unfolding start_by
start_beside a hs r e = ap (start_by (active_runs a r.graph) r) e

-- ---- moves
-- two functions that agree on each run whose graph is found as before change the runs alike
runs_alike : (gs hs : List LoadedGraph) (f g : Run → Option Run) → ((r : Run) → graph_among hs r.graph ≡ graph_among gs r.graph → f r ≡ g r) → (n : ℕ) (rs : List Run) → AllFound gs hs rs
    → change_from (λ i x. f x) n rs ≡ change_from (λ i x. g x) n rs
runs_alike gs hs f g h n [] found = refl
runs_alike gs hs f g h n (r ∷ rs) found =
    ap (change_here (λ i x. f x) n r rs) (h r found.0) ∙ here_alike (λ i x. f x) (λ i x. g x) n r rs (g r) (runs_alike gs hs f g h (n + 1) rs found.1)

three : {A : Type 0} → Option A → Option A → Option A → Option A
three x y z = first_some (x ∷ y ∷ z ∷ [])

move_runs_beside : (a : Schedule) (hs : List LoadedGraph) → AllFound a.graphs hs a.runs → move_runs (with_graphs a hs) ≡ move_runs a
unfolding three
move_runs_beside a hs f =
    let b : Schedule = with_graphs a hs in
    let rs : List Run = a.runs in
    ap (λ x. three x (change_from (λ i r. finish_run b r) 0 rs) (change_from (λ i r. start_run b r) 0 rs))
    (runs_alike a.graphs hs (decide_run b) (decide_run a) (λ r e. decide_beside a hs f r (dag_found a.graphs hs r.graph e)) 0 rs f)
    ∙ (ap (λ y. three (change_from (λ i r. decide_run a r) 0 rs) y (change_from (λ i r. start_run b r) 0 rs))
    (runs_alike a.graphs hs (finish_run b) (finish_run a) (λ r e. finish_beside a hs r (dag_found a.graphs hs r.graph e)) 0 rs f)
    ∙ ap (λ z. three (change_from (λ i r. decide_run a r) 0 rs) (change_from (λ i r. finish_run a r) 0 rs) z)
    (runs_alike a.graphs hs (start_run b) (start_run a) (λ r e. start_beside a hs r e) 0 rs f))

moved_beside : (a : Schedule) (hs : List LoadedGraph) (o : Option (List Run)) → option_map (with_runs (with_graphs a hs)) o ≡ option_map (λ (b : Schedule). with_graphs b hs) (option_map (with_runs a) o)
moved_beside a hs None = refl
moved_beside a hs (Some rs) = refl

move_beside : (a : Schedule) (hs : List LoadedGraph) → AllFound a.graphs hs a.runs → move (with_graphs a hs) ≡ option_map (λ (b : Schedule). with_graphs b hs) (move a)
move_beside a hs f = ap (option_map (with_runs (with_graphs a hs))) (move_runs_beside a hs f) ∙ moved_beside a hs (move_runs a)

-- ---- again and again
-- a step that goes beside g keeps going beside it
repeat_beside : {X : Type 0} (IsFit : X → Type 0) (g : X → X) (f : X → Option X) → ((x : X) → IsFit x → f (g x) ≡ option_map g (f x)) → ((x y : X) → IsFit x → f x ≡ Some y → IsFit y)
    → (n : ℕ) (x : X) → IsFit x → repeat n f (g x) ≡ g (repeat n f x)
repeat_beside IsFit g f beside keeps zero x fit = refl
repeat_beside {X} IsFit g f beside keeps (suc n) x fit =
    elim (f x) as (λ o. f x ≡ o → repeat (suc n) f (g x) ≡ g (repeat (suc n) f x)) [
      | None ↦ λ e.
          let none : f (g x) ≡ None = beside x fit ∙ ap (option_map g) e in
          repeat_done (suc n) f (g x) none ∙ sym (ap g (repeat_done (suc n) f x e))
      | Some y ↦ λ e.
          let some : f (g x) ≡ Some (g y) = beside x fit ∙ ap (option_map g) e in
          repeat_more n f (g x) (g y) some ∙ (repeat_beside IsFit g f beside keeps n y (keeps x y fit e) ∙ sym (ap g (repeat_more n f x y e)))
    ] refl

-- what is kept of a schedule that is changed beside its graphs
record IsBeside (gs hs : List LoadedGraph) (b : Schedule) : Type 0 where
  same_graphs : b.graphs ≡ gs
  found : AllFound gs hs b.runs

found_in : (gs hs : List LoadedGraph) (b : Schedule) → IsBeside gs hs b → AllFound b.graphs hs b.runs
found_in gs hs b k = subst (λ (ks : List LoadedGraph). AllFound ks hs b.runs) (sym k.same_graphs) k.found

move_stays : (gs hs : List LoadedGraph) (a b : Schedule) → IsBeside gs hs a → move a ≡ Some b → IsBeside gs hs b
move_stays gs hs a b k e =
    let t = map_some (with_runs a) (move_runs a) b e in
    let kin = move_kin a t.0 t.1 in
    record {
      same_graphs = ap (λ (c : Schedule). c.graphs) (sym t.2) ∙ k.same_graphs;
      found = still_found gs hs a.runs b.runs (ap (λ (c : Schedule). map key c.runs) (sym t.2) ∙ kin.keys) k.found;
    }

pub settle_beside : (a : Schedule) (hs : List LoadedGraph) → AllFound a.graphs hs a.runs → settle (with_graphs a hs) ≡ with_graphs (settle a) hs
settle_beside a hs f =
    repeat_beside (IsBeside a.graphs hs) (λ (b : Schedule). with_graphs b hs) move (λ b k. move_beside b hs (found_in a.graphs hs b k)) (move_stays a.graphs hs) (moves_left a) a
    (record { same_graphs = refl; found = f })

-- ---- hand-outs
handed_beside : (a : Schedule) (hs : List LoadedGraph) → AllFound a.graphs hs a.runs → hand_one (with_graphs a hs) ≡ option_map (λ (b : Schedule). with_graphs b hs) (hand_one a)
handed_beside a hs f =
    ap (option_map (hand (with_graphs a hs))) (best_alike a hs f) ∙ after (best_offer a)
  where
    after : (o : Option Offer) → option_map (hand (with_graphs a hs)) o ≡ option_map (λ (b : Schedule). with_graphs b hs) (option_map (hand a) o)
    after None = refl
    after (Some x) = refl

hand_stays : (gs hs : List LoadedGraph) (a b : Schedule) → IsBeside gs hs a → hand_one a ≡ Some b → IsBeside gs hs b
hand_stays gs hs a b k e =
    let t = map_some (hand a) (best_offer a) b e in
    record {
      same_graphs = ap (λ (c : Schedule). c.graphs) (sym t.2) ∙ k.same_graphs;
      found = still_found gs hs a.runs b.runs
          (ap (λ (c : Schedule). map key c.runs) (sym t.2) ∙ map_at key (in_instance (with_try (new_try a.next t.0.slots)) t.0.place) t.0.run a.runs (λ r. refl)) k.found;
    }

out_beside : (a : Schedule) (hs : List LoadedGraph) → AllFound a.graphs hs a.runs → hand_out (with_graphs a hs) ≡ with_graphs (hand_out a) hs
out_beside a hs f =
    repeat_beside (IsBeside a.graphs hs) (λ (b : Schedule). with_graphs b hs) hand_one (λ b k. handed_beside b hs (found_in a.graphs hs b k)) (hand_stays a.graphs hs) (serials_left a) a
    (record { same_graphs = refl; found = f })

-- ---- a text
repeat_fits : {X : Type 0} (IsFit : X → Type 0) (f : X → Option X) → ((x y : X) → IsFit x → f x ≡ Some y → IsFit y) → (n : ℕ) (x : X) → IsFit x → IsFit (repeat n f x)
repeat_fits IsFit f keeps zero x fit = fit
repeat_fits {X} IsFit f keeps (suc n) x fit =
    elim (f x) as (λ o. f x ≡ o → IsFit (repeat (suc n) f x)) [
      | None ↦ λ e. subst IsFit (sym (repeat_done (suc n) f x e)) fit
      | Some y ↦ λ e. subst IsFit (sym (repeat_more n f x y e)) (repeat_fits IsFit f keeps n y (keeps x y fit e))
    ] refl

settled_beside : (a : Schedule) (hs : List LoadedGraph) → AllFound a.graphs hs a.runs → IsBeside a.graphs hs (settle a)
settled_beside a hs f = repeat_fits (IsBeside a.graphs hs) move (move_stays a.graphs hs) (moves_left a) a (record { same_graphs = refl; found = f })

end_beside : (a : Schedule) (hs : List LoadedGraph) → AllFound a.graphs hs a.runs → IsBeside a.graphs hs (hand_out (settle a))
end_beside a hs f = repeat_fits (IsBeside a.graphs hs) hand_one (hand_stays a.graphs hs) (serials_left (settle a)) (settle a) (settled_beside a hs f)

-- a text that takes in a graph without runs may be taken in after moves and hand-outs as well as before them
pub load_beside : (text : List ℕ) (dag : Dag) (a : Schedule) → has_runs a dag.spec.dag_id ≡ false → hand_out (settle (load_graph text dag a)) ≡ load_graph text dag (hand_out (settle a))
load_beside text dag a none =
    let hs : List LoadedGraph = with_graph text dag a.graphs in
    let f = found_after text dag a.graphs a.runs none in
    ap hand_out (settle_beside a hs f)
    ∙ (out_beside (settle a) hs (found_in a.graphs hs (settle a) (settled_beside a hs f))
    ∙ ap (λ (gs : List LoadedGraph). with_graphs (hand_out (settle a)) (with_graph text dag gs)) (sym (end_beside a hs f).same_graphs))

-- and its graph has no runs then either
pub no_runs_after : (a : Schedule) (id : List ℕ) → has_runs (hand_out (settle a)) id ≡ has_runs a id
no_runs_after a id =
    let keys : map key (hand_out (settle a)).runs ≡ map key a.runs = hands_keys (serials_left (settle a)) (settle a) ∙ turns_keys (moves_left a) a in
    sym (any_map (λ (r : Run). same r.graph id) (λ (k : Key). same k.graph id) key (λ r. refl) (hand_out (settle a)).runs)
    ∙ (ap (list_any (λ (k : Key). same k.graph id)) keys ∙ any_map (λ (r : Run). same r.graph id) (λ (k : Key). same k.graph id) key (λ r. refl) a.runs)

-- ---- jobs
jobs_alike : (gs hs : List LoadedGraph) (rs : List Run) → AllDags gs hs rs
    → flat_map (λ (r : Run). flat_map (jobs_of r) (zip (dag_among hs r.graph).tasks r.instances)) rs ≡ flat_map (λ (r : Run). flat_map (jobs_of r) (zip (dag_among gs r.graph).tasks r.instances)) rs
jobs_alike gs hs [] f = refl
jobs_alike gs hs (r ∷ rs) f =
    ap (λ (d : Dag). flat_map (jobs_of r) (zip d.tasks r.instances) ++ flat_map (λ (q : Run). flat_map (jobs_of q) (zip (dag_among hs q.graph).tasks q.instances)) rs) f.0
    ∙ ap (λ us. flat_map (jobs_of r) (zip (dag_among gs r.graph).tasks r.instances) ++ us) (jobs_alike gs hs rs f.1)

-- the same tries are handed out
pub load_handed : (text : List ℕ) (dag : Dag) (a b : Schedule) → has_runs b dag.spec.dag_id ≡ false → handed a (load_graph text dag b) ≡ handed a b
load_handed text dag a b none =
    ap (λ (js : List Job). flat_map (λ (serial : ℕ). filter (λ (j : Job). j.serial == serial) js) (range_with_len a.next (b.next - a.next)))
    (jobs_alike b.graphs (with_graph text dag b.graphs) b.runs (dags_found b.graphs (with_graph text dag b.graphs) b.runs (found_after text dag b.graphs b.runs none)))
