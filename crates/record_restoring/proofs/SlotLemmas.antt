-- A graph that a text says has no more tasks than a graph may have, and each takes no more slots than a task may.
use Rattle.std.proofs.Common.{◌≡◌, refl, sym, ap, subst, ◌∙◌, ℕ, zero, suc, ◌≤◌, List, [], ◌∷◌, length, map, Bool, true, false, cond, if◌then◌else◌, nat_le, nat_lt, Option, Some, None, option_map, unwrap_or, Result, Ok, Err, get_or, lit<, lit≤, true≢false, leb-true, arith}
use Rattle.std.specs.List.{list_all}
use Rattle.std.proofs.lemmas.Bool.{and_from, le-leb}
use Rattle.toml.specs.Data.{Data, Members, no_members, as_table}
use Rattle.toml.specs.Parse.{parse_document}
use Rattle.graph_file.specs.Classes.{is_faultless, is_faultless_task}
use Rattle.graph_file.specs.Faults.{fault_of}
use Rattle.graph_file.specs.Graphs.{graph_of, graph_if, graph_or, graph_in, task_in, task_of, text_limit}
use Rattle.graph_file.specs.Keys.{task_keys}
use Rattle.graph_file.specs.Lists.{holds_at}
use Rattle.graph_file.specs.Tables.{member_at, tasks_of}
use Rattle.graph_file.specs.declared.faults.GraphFault.{GraphFault}
use Rattle.graph_file.specs.declared.faults.GraphFault.TheVariants.{NotToml, TooMany}
use Rattle.graph_file.specs.declared.graph_specs.GraphSpec.{GraphSpec}
use Rattle.graph_file.specs.declared.keys.Key.TheVariants as key
use Rattle.graph_file.specs.declared.task_specs.TaskSpec.{TaskSpec}
use Rattle.graph_file.proofs.FaultLemmas.{faultless_tasks, faultless_count}
use Rattle.graph_file.proofs.KeyLemmas.{met, number_there}
use Rattle.dag_check.specs.Graphs.{Dag, no_task, task_at, places}
use Rattle.sched_state.specs.Lists.{same}
use Rattle.sched_state.specs.declared.graphs.LoadedGraph.{LoadedGraph}
use Rattle.sched_state.proofs.OrderLemmas.{and_left, and_right}
use Rattle.sched_model.specs.Schedule.{dag_among, graph_among, no_dag}
use Rattle.sched_model.specs.Sound.{Says, AllSay}
use Rattle.record_rules.proofs.sched_laws.SaidLemmas.{tasks_counted}

abbrev pub slots_within : TaskSpec → Bool
slots_within t = nat_le t.pool_slots 1000

-- ---- a table without faults
table_within : (t : Members) → is_faultless task_keys t ≡ true → slots_within (task_in t) ≡ true
table_within t h =
    let m = met task_keys t 8 h (lit< tt) in
    let within = number_there 1 1000 1 (member_at key.PoolSlots t) m.right m.good (record { above = lit≤ tt; below = lit≤ tt }) in
    le-leb _ _ within.below

one_within : (s : Option Members) → holds_at (is_faultless task_keys) s ≡ true → slots_within (task_in (unwrap_or s no_members)) ≡ true
one_within None h = absurd (true≢false (sym h))
one_within (Some t) h = table_within t h

each_within : (ds : List Data) → list_all is_faultless_task ds ≡ true → list_all slots_within (map task_of ds) ≡ true
each_within [] h = refl
each_within (d ∷ ds) h = and_from _ _ (one_within (as_table d) (and_left (is_faultless_task d) _ h)) (each_within ds (and_right (is_faultless_task d) _ h))

-- ---- a text
-- no more tasks than a graph may have, and no more slots for each than a task may take
pub record IsSmall (ts : List TaskSpec) : Type 0 where
  pub few : length ts ≤ 256
  pub slots : list_all slots_within ts ≡ true

fault_small : (o : Option GraphFault) (t : Members) (spec : GraphSpec) → fault_of t ≡ o → graph_or o t ≡ Ok spec → IsSmall spec.tasks
fault_small (Some f) t spec e h = absurd (let c : ◌≡◌ {A = Result GraphSpec GraphFault} (Err f) (Ok spec) = h in cc)
fault_small None t spec e h =
    let c : ◌≡◌ {A = Result GraphSpec GraphFault} (Ok (graph_in t)) (Ok spec) = h in
    let is : graph_in t ≡ spec = cc in
    subst (λ (g : GraphSpec). IsSmall g.tasks) is (record { few = (faultless_count t e).few; slots = each_within (tasks_of t) (faultless_tasks t e) })

parsed_small : (o : Option Members) (spec : GraphSpec) → graph_if o ≡ Ok spec → IsSmall spec.tasks
parsed_small None spec h = absurd (let c : ◌≡◌ {A = Result GraphSpec GraphFault} (Err NotToml) (Ok spec) = h in cc)
parsed_small (Some t) spec h = fault_small (fault_of t) t spec refl h

text_small : (text : List ℕ) (spec : GraphSpec) → graph_of text ≡ Ok spec → IsSmall spec.tasks
text_small text spec h =
    elim (nat_lt text_limit (length text)) as (λ b. (let r : Result GraphSpec GraphFault = if b then Err TooMany else graph_if (parse_document text) in r) ≡ Ok spec → IsSmall spec.tasks) [
      | true ↦ λ k. absurd (let c : ◌≡◌ {A = Result GraphSpec GraphFault} (Err TooMany) (Ok spec) = k in cc)
      | false ↦ λ k. parsed_small (parse_document text) spec k
    ] h

-- ---- a graph
at_within : (ts : List TaskSpec) (p : ℕ) → list_all slots_within ts ≡ true → slots_within (get_or ts p no_task) ≡ true
at_within [] p e = refl
at_within (t ∷ ts) zero e = and_left (slots_within t) _ e
at_within (t ∷ ts) (suc p) e = at_within ts p (and_right (slots_within t) _ e)

placed_within : (ts : List TaskSpec) (order : List ℕ) → list_all slots_within ts ≡ true → list_all slots_within (map (task_at ts) order) ≡ true
placed_within ts [] e = refl
placed_within ts (p ∷ ps) e = and_from _ _ (at_within ts p e) (placed_within ts ps e)

said_small : (text : List ℕ) (g : Dag) → Says text g → IsSmall g.tasks
said_small text g says =
    let spec : IsSmall g.spec.tasks = text_small text g.spec says.read in
    let count = tasks_counted g.spec g says.checked in
    let most = spec.few in record {
      few = omega (arith, count, most);
      slots = ap (λ (d : Dag). list_all slots_within d.tasks) says.checked.is ∙ placed_within g.spec.tasks (places g.spec) spec.slots;
    }

-- the tasks of the graph with an id
pub found_small : (gs : List LoadedGraph) (id : List ℕ) → AllSay gs → IsSmall (dag_among gs id).tasks
found_small [] id said = record { few = leb-true 0 256 refl; slots = refl }
found_small (g ∷ gs) id said =
    elim (same g.dag.spec.dag_id id) as (λ b. IsSmall (unwrap_or (option_map (λ (h : LoadedGraph). h.dag) (cond b (Some g) (graph_among gs id))) no_dag).tasks) [
      | true ↦ said_small g.text g.dag said.0
      | false ↦ found_small gs id said.1
    ]
