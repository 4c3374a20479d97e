-- Open tries, counted run by run; and an instance beside its task.
use Rattle.std.proofs.Common.{◌≡◌, ◌∙◌, refl, sym, ap, ℕ, suc, ◌+◌, ◌<◌, ◌≤◌, List, [], ◌∷◌, ◌++◌, Bool, true, false, cond, length, map, filter, flat_map, sum_by, count_by, find, Option, Some, None, option_map, option_and_then, unwrap_or, slice_get, nat_le, leb-true, arith, length-append}
use Rattle.std.specs.List.{zip, list_all, position, position_from}
use Rattle.std.proofs.lemmas.Iterator.Adapters.{position_from-zero}
use Rattle.std.proofs.lemmas.Bool.{ltb-true}
use Rattle.std.proofs.lemmas.List.{length-map}
use Rattle.std.proofs.lemmas.List.Sums.{length-filter, count_by-le-length, sum_by-append, sum_by-cons}
use Rattle.graph_file.specs.declared.task_specs.TaskSpec.{TaskSpec}
use Rattle.dag_check.specs.Orders.{is_in}
use Rattle.dag_check.proofs.LawLemmas.{all-in}
use Rattle.instance_machine.specs.Instances.{InstanceValue}
use Rattle.instance_machine.specs.declared.tries.Try.{Try}
use Rattle.sched_state.specs.declared.graphs.LoadedGraph.{LoadedGraph}
use Rattle.sched_state.specs.declared.runs.Run.{Run}
use Rattle.sched_state.proofs.OrderLemmas.{and_left, and_right, not_false}
use Rattle.sched_model.specs.Clearing.{pairs_of}
use Rattle.sched_model.specs.Lists.{all_pairs}
use Rattle.sched_model.specs.Replacing.{pair_of}
use Rattle.sched_model.specs.Schedule.{Schedule, dag_among, dag_named, graph_named, no_dag, tasks_of, is_at}
use Rattle.sched_state.specs.Lists.{same}
use Rattle.sched_state.proofs.NameLemmas.{same_is, find_passes}
use Rattle.sched_model.specs.States.{OpenTry, opened, active_tries, is_of, is_open, open_of, in_flight}
use Rattle.sched_laws.proofs.OccupyingLemmas.{open_by}
use Rattle.sched_model.specs.Causes.{tries_of}
use Rattle.sched_model.specs.Handout.{last_serial}
use Rattle.sched_model.specs.Sound.{IsSound, is_sound_in, is_sound_run, serials_of, is_used}
use Rattle.sched_laws.proofs.UpstreamLemmas.{short}
use Rattle.sched_laws.specs.Instances.{instance_of}
use Rattle.sched_core.specs.Inside.{open_in, open_for}

-- ---- how many
open_count : (id : List ℕ) (t : TaskSpec) (i : InstanceValue) → length (open_of id (t, i)) ≡ count_by is_open i.tries
open_count id t i = length-map (filter is_open i.tries) (opened id t) ∙ length-filter is_open i.tries

open_pairs : (p : TaskSpec → InstanceValue → Bool) (id : List ℕ) (ts : List TaskSpec) (is : List InstanceValue) → all_pairs p ts is ≡ true
    → length (flat_map (open_of id) (zip ts is)) ≡ sum_by (λ (i : InstanceValue). count_by is_open i.tries) is
open_pairs p id [] [] e = refl
open_pairs p id [] (i ∷ is) e = absurd (let c : ◌≡◌ {A = Bool} false true = e in cc)
open_pairs p id (t ∷ ts) [] e = absurd (let c : ◌≡◌ {A = Bool} false true = e in cc)
open_pairs p id (t ∷ ts) (i ∷ is) e =
    let here : length (open_of id (t, i)) ≡ count_by is_open i.tries = open_count id t i in
    let rest : length (flat_map (open_of id) (zip ts is)) ≡ sum_by (λ (i : InstanceValue). count_by is_open i.tries) is = open_pairs p id ts is (and_right (p t i) _ e) in
    let total : sum_by (λ (i : InstanceValue). count_by is_open i.tries) (i ∷ is) ≡ count_by is_open i.tries + sum_by (λ (i : InstanceValue). count_by is_open i.tries) is = sum_by-cons (λ (i : InstanceValue). count_by is_open i.tries) i is in
    let both : length (flat_map (open_of id) (zip (t ∷ ts) (i ∷ is))) ≡ length (open_of id (t, i)) + length (flat_map (open_of id) (zip ts is)) = length-append (open_of id (t, i)) (flat_map (open_of id) (zip ts is)) in
    omega (arith, here, rest, both, total)

sum_two : (a b c d : ℕ) → a ≡ c → b ≡ d → a + b ≡ c + d
sum_two a b c d e f = rw (e, f) refl

open_runs : (gs : List LoadedGraph) (rs : List Run) → list_all (is_sound_run gs) rs ≡ true
    → length (flat_map (open_by gs) rs) ≡ sum_by open_in rs
open_runs gs [] e = refl
open_runs gs (r ∷ rs) e =
    let mine : List OpenTry = open_by gs r in
    let others : List OpenTry = flat_map (open_by gs) rs in
    let sound : is_sound_run gs r ≡ true = and_left (is_sound_run gs r) _ e in
    let here : length mine ≡ open_in r = open_pairs (is_sound_in r.phase) r.graph (dag_among gs r.graph).tasks r.instances (and_right _ _ (and_right _ _ sound)) in
    let rest : length others ≡ sum_by open_in rs = open_runs gs rs (and_right (is_sound_run gs r) _ e) in
    let total : sum_by open_in (r ∷ rs) ≡ open_in r + sum_by open_in rs = sum_by-cons open_in r rs in
    length-append mine others ∙ (sum_two (length mine) (length others) (open_in r) (sum_by open_in rs) here rest ∙ sym total)

pub flight_is : (a : Schedule) → IsSound a → in_flight a ≡ sum_by open_in a.runs
flight_is a s = open_runs a.graphs a.runs s.runs

-- ---- and of a graph
chosen : (b : Bool) (m n : ℕ) → cond b m 0 + cond b n 0 ≡ cond b (m + n) 0
chosen true m n = refl
chosen false m n = refl

none_chosen : (b : Bool) → ◌≡◌ {A = ℕ} 0 (cond b 0 0)
none_chosen true = refl
none_chosen false = refl

tries_of_graph : (id g : List ℕ) (t : TaskSpec) (us : List Try) → count_by (is_of id) (map (opened g t) us) ≡ cond (same g id) (length us) 0
tries_of_graph id g t [] = none_chosen (same g id)
tries_of_graph id g t (u ∷ us) =
    let total = sum_by-cons (λ (e : OpenTry). cond (is_of id e) 1 0) (opened g t u) (map (opened g t) us) in
    let rest = tries_of_graph id g t us in
    let both = chosen (same g id) 1 (length us) in
    let long : cond (same g id) (1 + length us) 0 ≡ cond (same g id) (length (u ∷ us)) 0 = ap (λ n. cond (same g id) n 0) (let m : 1 + length us ≡ suc (length us) = omega arith in m) in
    omega (arith, total, rest, both, long)

pairs_of_graph : (id g : List ℕ) (es : List (TaskSpec × InstanceValue)) → count_by (is_of id) (flat_map (open_of g) es) ≡ cond (same g id) (length (flat_map (open_of g) es)) 0
pairs_of_graph id g [] = none_chosen (same g id)
pairs_of_graph id g (e ∷ es) =
    let total = sum_by-append (λ (x : OpenTry). cond (is_of id x) 1 0) (open_of g e) (flat_map (open_of g) es) in
    let here : count_by (is_of id) (open_of g e) ≡ cond (same g id) (length (open_of g e)) 0 =
    tries_of_graph id g e.0 (filter is_open e.1.tries) ∙ ap (λ n. cond (same g id) n 0) (sym (length-map (filter is_open e.1.tries) (opened g e.0))) in
    let rest = pairs_of_graph id g es in
    let both = chosen (same g id) (length (open_of g e)) (length (flat_map (open_of g) es)) in
    let long : cond (same g id) (length (open_of g e) + length (flat_map (open_of g) es)) 0 ≡ cond (same g id) (length (flat_map (open_of g) (e ∷ es))) 0 =
    ap (λ n. cond (same g id) n 0) (sym (length-append (open_of g e) (flat_map (open_of g) es))) in
    omega (arith, total, here, rest, both, long)

active_runs : (id : List ℕ) (gs : List LoadedGraph) (rs : List Run) → list_all (is_sound_run gs) rs ≡ true → count_by (is_of id) (flat_map (open_by gs) rs) ≡ sum_by (open_for id) rs
active_runs id gs [] e = refl
active_runs id gs (r ∷ rs) e =
    let sound : is_sound_run gs r ≡ true = and_left (is_sound_run gs r) _ e in
    let counted : length (open_by gs r) ≡ open_in r = open_pairs (is_sound_in r.phase) r.graph (dag_among gs r.graph).tasks r.instances (and_right _ _ (and_right _ _ sound)) in
    let here : count_by (is_of id) (open_by gs r) ≡ open_for id r = pairs_of_graph id r.graph (zip (dag_among gs r.graph).tasks r.instances) ∙ ap (λ n. cond (same r.graph id) n 0) counted in
    let rest : count_by (is_of id) (flat_map (open_by gs) rs) ≡ sum_by (open_for id) rs = active_runs id gs rs (and_right (is_sound_run gs r) _ e) in
    let parts = sum_by-append (λ (x : OpenTry). cond (is_of id x) 1 0) (open_by gs r) (flat_map (open_by gs) rs) in
    let total = sum_by-cons (open_for id) r rs in
    omega (arith, here, rest, parts, total)

pub active_is : (a : Schedule) (id : List ℕ) → IsSound a → active_tries a id ≡ sum_by (open_for id) a.runs
active_is a id s = active_runs id a.graphs a.runs s.runs

-- those of a graph are among all
for_less : (id : List ℕ) (r : Run) → open_for id r ≤ open_in r
for_less id r = elim (same r.graph id) as (λ b. cond b (open_in r) 0 ≤ open_in r) [ true ↦ omega arith | false ↦ omega arith ]

pub sum_less : (id : List ℕ) (rs : List Run) → sum_by (open_for id) rs ≤ sum_by open_in rs
sum_less id [] = omega arith
sum_less id (r ∷ rs) =
    let here = for_less id r in
    let rest = sum_less id rs in
    let one = sum_by-cons (open_for id) r rs in
    let all = sum_by-cons open_in r rs in
    omega (arith, here, rest, one, all)

-- ---- and that they are not more than there are serials
within : (k l a b c d : ℕ) → k ≡ a + b → l ≡ c + d → a ≤ c → b ≤ d → k ≤ l
within k l a b c d e f g h = omega (arith, e, f, g, h)

open_few : (is : List InstanceValue) → sum_by (λ (i : InstanceValue). count_by is_open i.tries) is ≤ length (flat_map (λ (i : InstanceValue). i.tries) is)
open_few [] = omega arith
open_few (i ∷ is) =
    let here : count_by is_open i.tries ≤ length i.tries = count_by-le-length is_open i.tries in
    let rest : sum_by (λ (i : InstanceValue). count_by is_open i.tries) is ≤ length (flat_map (λ (i : InstanceValue). i.tries) is) = open_few is in
    let both : length (i.tries ++ flat_map (λ (i : InstanceValue). i.tries) is) ≡ length i.tries + length (flat_map (λ (i : InstanceValue). i.tries) is) = length-append i.tries (flat_map (λ (i : InstanceValue). i.tries) is) in
    let total : sum_by (λ (i : InstanceValue). count_by is_open i.tries) (i ∷ is) ≡ count_by is_open i.tries + sum_by (λ (i : InstanceValue). count_by is_open i.tries) is = sum_by-cons (λ (i : InstanceValue). count_by is_open i.tries) i is in
    within _ _ _ _ _ _ total both here rest

runs_few : (rs : List Run) → sum_by open_in rs ≤ length (flat_map (λ (r : Run). flat_map (λ (i : InstanceValue). i.tries) r.instances) rs)
runs_few [] = omega arith
runs_few (r ∷ rs) =
    let mine : List Try = flat_map (λ (i : InstanceValue). i.tries) r.instances in
    let others : List Try = flat_map (λ (r : Run). flat_map (λ (i : InstanceValue). i.tries) r.instances) rs in
    let here : open_in r ≤ length mine = open_few r.instances in
    let rest : sum_by open_in rs ≤ length others = runs_few rs in
    let both : length (mine ++ others) ≡ length mine + length others = length-append mine others in
    let total : sum_by open_in (r ∷ rs) ≡ open_in r + sum_by open_in rs = sum_by-cons open_in r rs in
    within _ _ _ _ _ _ total both here rest

pub flight_small : (a : Schedule) → IsSound a → sum_by open_in a.runs ≤ last_serial + 1
flight_small a s =
    let few : sum_by open_in a.runs ≤ length (tries_of a) = runs_few a.runs in
    let count : length (serials_of a) ≡ length (tries_of a) = length-map (tries_of a) (λ (t : Try). t.serial) in
    let below : (n : ℕ) → is_in (serials_of a) n ≡ true → n < a.next = λ n there. ltb-true n a.next (and_right (nat_le 1 n) _ (all-in (is_used a.next) (serials_of a) n s.serials_used there)) in
    let once : length (serials_of a) ≤ a.next = short a.next (serials_of a) below (not_false _ s.serials_once) in
    let last : a.next ≤ last_serial + 1 = leb-true _ _ (and_right (nat_le 1 a.next) _ s.serials) in
    omega (arith, few, count, once, last)

-- ---- an instance beside its task
further : {X : Type 0} (q : X → Bool) (i : ℕ) (xs : List X) → position_from q (i + 1) xs ≡ option_map suc (position_from q i xs)
further q i [] = refl
further q i (x ∷ xs) = elim (q x) as (λ b. cond b (Some (i + 1)) (position_from q (i + 1 + 1) xs) ≡ option_map suc (cond b (Some i) (position_from q (i + 1) xs))) [
  | true ↦ let e : i + 1 ≡ suc i = omega arith in rw e refl
  | false ↦ further q (i + 1) xs
]

past_first : {Y : Type 0} (y : Y) (ys : List Y) (o : Option ℕ) → option_and_then (slice_get ys) o ≡ option_and_then (slice_get (y ∷ ys)) (option_map suc o)
past_first y ys o = elim o as (λ p. option_and_then (slice_get ys) p ≡ option_and_then (slice_get (y ∷ ys)) (option_map suc p)) [
  | None ↦ refl
  | Some n ↦ refl
]

no_item : (Y : Type 0) (o : Option ℕ) → ◌≡◌ {A = Option Y} None (option_and_then (slice_get []) o)
no_item Y o = elim o as (λ p. ◌≡◌ {A = Option Y} None (option_and_then (slice_get []) p)) [
  | None ↦ refl
  | Some n ↦ refl
]

-- what stands beside the first element that passes is found by its place
beside : {X Y : Type 0} (q : X → Bool) (xs : List X) (ys : List Y) → option_map (λ (e : X × Y). e.1) (find (λ (e : X × Y). q e.0) (zip xs ys)) ≡ option_and_then (slice_get ys) (position_from q 0 xs)
beside q [] ys = refl
beside {X} {Y} q (x ∷ xs) [] = no_item Y (position_from q 0 (x ∷ xs))
beside {X} {Y} q (x ∷ xs) (y ∷ ys) =
    elim (q x) as (λ b. option_map (λ (e : X × Y). e.1) (cond b (Some (x, y)) (find (λ (e : X × Y). q e.0) (zip xs ys))) ≡ option_and_then (slice_get (y ∷ ys)) (cond b (Some 0) (position_from q 1 xs))) [
      | true ↦ refl
      | false ↦ beside q xs ys ∙ (past_first y ys (position_from q 0 xs) ∙ ap (option_and_then (slice_get (y ∷ ys))) (sym (further q 0 xs)))
    ]

pub found_beside : {X Y : Type 0} (q : X → Bool) (xs : List X) (ys : List Y) → option_map (λ (e : X × Y). e.1) (find (λ (e : X × Y). q e.0) (zip xs ys)) ≡ option_and_then (slice_get ys) (position q xs)
found_beside q xs ys = beside q xs ys ∙ ap (option_and_then (slice_get ys)) (sym (position_from-zero q xs))

-- the instance alone
abbrev pub found_of : Schedule → List ℕ → ℕ → List ℕ → Option InstanceValue
found_of a id date task = option_map (λ (e : TaskSpec × InstanceValue). e.1) (instance_of a id date task)

run_here : (a : Schedule) (id : List ℕ) (date : ℕ) (task : List ℕ) (r : Run) → find (is_at id date) a.runs ≡ Some r
    → found_of a id date task ≡ option_and_then (slice_get r.instances) (position (λ (t : TaskSpec). same t.task_id task) (dag_named a id).tasks)
run_here a id date task r e =
    let graph : r.graph ≡ id = same_is r.graph id (and_left (same r.graph id) _ (find_passes (is_at id date) a.runs r e)) in
    ap (λ (o : Option Run). option_map (λ (x : TaskSpec × InstanceValue). x.1) (option_and_then (λ (q : Run). pair_of task (pairs_of a q)) o)) e
    ∙ (found_beside (λ (t : TaskSpec). same t.task_id task) (tasks_of a r) r.instances
    ∙ ap (λ (n : List ℕ). option_and_then (slice_get r.instances) (position (λ (t : TaskSpec). same t.task_id task) (dag_named a n).tasks)) graph)

pub no_graph : (a : Schedule) (id : List ℕ) (date : ℕ) (task : List ℕ) (r : Run) → find (is_at id date) a.runs ≡ Some r → graph_named a id ≡ None → found_of a id date task ≡ None
no_graph a id date task r e f =
    run_here a id date task r e
    ∙ ap (λ (o : Option LoadedGraph). option_and_then (slice_get r.instances) (position (λ (t : TaskSpec). same t.task_id task) (unwrap_or (option_map (λ (g : LoadedGraph). g.dag) o) no_dag).tasks)) f

pub at_place : (a : Schedule) (id : List ℕ) (date : ℕ) (task : List ℕ) (r : Run) (g : LoadedGraph) (o : Option ℕ) → find (is_at id date) a.runs ≡ Some r → graph_named a id ≡ Some g
    → o ≡ position (λ (t : TaskSpec). same t.task_id task) g.dag.tasks → found_of a id date task ≡ option_and_then (slice_get r.instances) o
at_place a id date task r g o e f place =
    run_here a id date task r e
    ∙ (ap (λ (o : Option LoadedGraph). option_and_then (slice_get r.instances) (position (λ (t : TaskSpec). same t.task_id task) (unwrap_or (option_map (λ (g : LoadedGraph). g.dag) o) no_dag).tasks)) f
    ∙ ap (option_and_then (slice_get r.instances)) (sym place))
