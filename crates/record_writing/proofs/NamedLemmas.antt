-- Graphs that stand at the same places by the same ids, and what is found of one in both lists.
use Rattle.std.proofs.Common.{◌≡◌, ◌∙◌, sym, ap, refl, ℕ, ◌<◌, List, [], ◌∷◌, Bool, true, false, cond, length, map, get_or, Option, Some, None, option_map, unwrap_or, slice_get}
use Rattle.std.proofs.lemmas.Cmp.{nat_list_cmp_total}
use Rattle.std.proofs.lemmas.Option.{slice_get-get_or}
use Rattle.std.specs.declared.cmp.Ordering.TheVariants.{Equal}
use Rattle.graph_file.specs.declared.task_specs.TaskSpec.{TaskSpec}
use Rattle.dag_check.specs.Graphs.{Dag}
use Rattle.sched_state.specs.Lists.{is_less, name_cmp, same}
use Rattle.sched_state.specs.declared.graphs.LoadedGraph.{LoadedGraph}
use Rattle.sched_state.specs.declared.runs.Run.{Run}
use Rattle.sched_state.proofs.ElementLemmas.{element_at}
use Rattle.sched_model.specs.Lists.{rises}
use Rattle.sched_model.specs.Schedule.{dag_among, graph_among, graph_before, no_dag}
use Rattle.record_writing.proofs.KeyLemmas.{found_by}
use Rattle.record_rules.proofs.MemberLemmas.{map_get}
use Rattle.sched_draft.proofs.SearchLemmas.{eq_is, found_by_search, graph_id, graph_key}
use Rattle.record_rules.proofs.sched_laws.RunLemmas.{rises_map}
use Rattle.record_rules.proofs.sched_laws.SettleLemmas.{map_some}
use Rattle.record_writing.specs.Before.{AreNamedAlike, EarlierValue}

-- ids in order
id_before : List ℕ → List ℕ → Bool
id_before x y = is_less (name_cmp x y)

-- what is named alike stands in the same order
pub order_alike : (gs hs : List LoadedGraph) → AreNamedAlike gs hs → rises graph_before gs ≡ true → rises graph_before hs ≡ true
unfolding id_before
order_alike gs hs e rise = sym (rises_map id_before graph_id hs) ∙ (ap (rises id_before) e ∙ (rises_map id_before graph_id gs ∙ rise))

-- an id that is nowhere in one list is nowhere in the other
none_alike : (gs hs : List LoadedGraph) (id : List ℕ) → AreNamedAlike gs hs → graph_among gs id ≡ None → graph_among hs id ≡ None
none_alike [] [] id e none = refl
none_alike [] (h ∷ hs) id e none = absurd (let c : ◌≡◌ {A = List (List ℕ)} (graph_id h ∷ map graph_id hs) [] = e in cc)
none_alike (g ∷ gs) [] id e none = refl
none_alike (g ∷ gs) (h ∷ hs) id e none =
    let c : ◌≡◌ {A = List (List ℕ)} (graph_id h ∷ map graph_id hs) (graph_id g ∷ map graph_id gs) = e in
    let first : graph_id h ≡ graph_id g = cc in
    let rest : map graph_id hs ≡ map graph_id gs = cc in
    elim (same (graph_id g) id) as (λ b. same (graph_id g) id ≡ b → cond b (Some g) (graph_among gs id) ≡ None → graph_among (h ∷ hs) id ≡ None) [
      | true ↦ λ k l. absurd (let d : ◌≡◌ {A = Option LoadedGraph} (Some g) None = l in cc)
      | false ↦ λ k l. ap (λ b. cond b (Some h) (graph_among hs id)) (ap (λ n. same n id) first ∙ k) ∙ none_alike gs hs id rest l
    ] refl none

id_at : (gs hs : List LoadedGraph) (n : ℕ) (g h : LoadedGraph) → AreNamedAlike gs hs → slice_get gs n ≡ Some g → slice_get hs n ≡ Some h → graph_id h ≡ graph_id g
id_at gs hs n g h e f k =
    let c : ◌≡◌ {A = Option (List ℕ)} (Some (graph_id h)) (Some (graph_id g)) = sym (map_get graph_id hs n h k) ∙ (ap (λ (ids : List (List ℕ)). slice_get ids n) e ∙ map_get graph_id gs n g f) in cc

abbrev dag_if : Option LoadedGraph → Dag
dag_if o = unwrap_or (option_map (λ (g : LoadedGraph). g.dag) o) no_dag

pub no_dag_alike : (gs hs : List LoadedGraph) (id : List ℕ) → AreNamedAlike gs hs → graph_among gs id ≡ None → dag_among hs id ≡ no_dag
no_dag_alike gs hs id e none = ap dag_if (none_alike gs hs id e none)

-- where an id stands in one list, the graph of that id stands in the other
pub dag_alike : (gs hs : List LoadedGraph) (id : List ℕ) (n : ℕ) (d : Dag) → rises graph_before gs ≡ true → AreNamedAlike gs hs → slice_get gs n ≡ graph_among gs id → n < length gs
    → option_map (λ (g : LoadedGraph). g.dag) (slice_get hs n) ≡ Some d → dag_among hs id ≡ d
dag_alike gs hs id n d rise e at below there =
    let g = element_at gs n below in
    let h = map_some (λ (k : LoadedGraph). k.dag) (slice_get hs n) d there in
    let own : same (graph_id g.0) id ≡ true = (found_by (λ (k : LoadedGraph). same k.dag.spec.dag_id id) gs g.0 (sym at ∙ g.1)).2 in
    let named : same (graph_id h.0) id ≡ true = ap (λ k. same k id) (id_at gs hs n g.0 h.0 e g.1 h.1) ∙ own in
    let equal : name_cmp (graph_id h.0) id ≡ Equal = eq_is (name_cmp (graph_id h.0) id) (sym (graph_key id h.0) ∙ named) in
    ap dag_if (found_by_search nat_list_cmp_total graph_id (λ (k : LoadedGraph). same k.dag.spec.dag_id id) id (graph_key id) hs n h.0 (order_alike gs hs e rise) h.1 equal) ∙ h.2

-- and in its own list
pub dag_here : (gs : List LoadedGraph) (id : List ℕ) (n : ℕ) (x : LoadedGraph) → slice_get gs n ≡ graph_among gs id → n < length gs → (get_or gs n x).dag ≡ dag_among gs id
dag_here gs id n x at below = sym (ap dag_if (sym at ∙ slice_get-get_or gs n x below))

pub same_earlier : (o p : Option Run) (ts us : List TaskSpec) → o ≡ p → ts ≡ us → (let v : EarlierValue = record { run = o; tasks = ts } in v) ≡ record { run = p; tasks = us }
same_earlier o p ts us e f = cc
