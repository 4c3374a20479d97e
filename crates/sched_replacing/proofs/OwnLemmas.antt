-- What is read of the runs of a graph, one after another: the first task that takes another number of slots, and the greatest end.
use Rattle.std.proofs.Common.{◌≡◌, ◌∙◌, refl, sym, ap, ℕ, zero, suc, ◌+◌, ◌<◌, ◌≤◌, List, [], ◌∷◌, Bool, true, false, cond, ◌&&◌, map, filter, flat_map, find, drop, length, max, Option, Some, None, option_map, slice_get, get_or, nat_lt, arith, zip}
use Rattle.std.specs.Option.{option_or}
use Rattle.std.proofs.lemmas.List.{drop_all}
use Rattle.std.proofs.lemmas.List.Folds.{find-append}
use Rattle.graph_file.specs.declared.task_specs.TaskSpec.{TaskSpec}
use Rattle.dag_check.specs.Graphs.{Dag, no_task}
use Rattle.instance_machine.specs.Instances.{InstanceValue}
use Rattle.sched_state.specs.Lists.{same}
use Rattle.sched_state.specs.declared.runs.Run.{Run}
use Rattle.sched_state.proofs.ElementLemmas.{drop_at}
use Rattle.sched_state.proofs.NameLemmas.{same_is}
use Rattle.sched_model.specs.Causes.{greatest, reached, resized_task, takes_another_number}
use Rattle.sched_model.specs.Clearing.{pairs_of}
use Rattle.sched_model.specs.Schedule.{Schedule, dag_named}
use Rattle.sched_laws.proofs.FittedLemmas.{Pair}
use Rattle.sched_clearing.specs.Spans.{AreRunsOf}
use Rattle.sched_clearing.proofs.SpanLemmas.{other_before, other_behind, own_inside}
use Rattle.sched_replacing.specs.Marking.{first_tried, tried_from}

-- ---- the runs of the graph from a position on
abbrev pub own_from : List ℕ → List Run → ℕ → List Run
own_from id rs n = filter (λ (r : Run). same r.graph id) (drop n rs)

-- what passes nowhere between two positions may be left out
filter_passed : {X : Type 0} (p : X → Bool) (xs : List X) (m n : ℕ) → m ≤ n → ((j : ℕ) (x : X) → m ≤ j → j < n → slice_get xs j ≡ Some x → p x ≡ false) → filter p (drop m xs) ≡ filter p (drop n xs)
filter_passed p [] zero zero l h = refl
filter_passed p [] zero (suc n) l h = refl
filter_passed p [] (suc m) zero l h = refl
filter_passed p [] (suc m) (suc n) l h = refl
filter_passed p (x ∷ xs) zero zero l h = refl
filter_passed p (x ∷ xs) (suc m) zero l h = absurd (omega (arith, l))
filter_passed p (x ∷ xs) zero (suc n) l h = ap (λ b. cond b (x ∷ filter p xs) (filter p xs)) (h 0 x (omega arith) (omega arith) refl) ∙ filter_passed p xs zero n (omega arith) (λ j y a b g. h (suc j) y (omega arith) (omega (arith, b)) g)
filter_passed p (x ∷ xs) (suc m) (suc n) l h = filter_passed p xs m n (omega (arith, l)) (λ j y a b g. h (suc j) y (omega (arith, a)) (omega (arith, b)) g)

-- before the first of them there is none
own_begin : (id : List ℕ) (rs : List Run) (low high : ℕ) → AreRunsOf id rs low high → own_from id rs low ≡ own_from id rs 0
own_begin id rs low high span = sym (filter_passed (λ (r : Run). same r.graph id) rs 0 low (omega arith) (λ j r x y there. other_before id rs low high j r span y there))

-- within the span the next one is the run at the position
own_next : (id : List ℕ) (rs : List Run) (low high n : ℕ) (r : Run) → AreRunsOf id rs low high → low ≤ n → n < high → slice_get rs n ≡ Some r → own_from id rs n ≡ r ∷ own_from id rs (n + 1)
own_next id rs low high n r span behind before there =
    let rest : List Run = own_from id rs (n + 1) in
    ap (filter (λ (q : Run). same q.graph id)) (drop_at rs n r there) ∙ ap (λ b. cond b (r ∷ rest) rest) (own_inside id rs low high n r span behind before there)

-- behind the last there is none
own_over : (id : List ℕ) (rs : List Run) (low high n : ℕ) → AreRunsOf id rs low high → high ≤ n → own_from id rs n ≡ []
own_over id rs low high n span over =
    let m : ℕ = n + length rs in
    filter_passed (λ (r : Run). same r.graph id) rs n m (omega arith) (λ j r x y there. other_behind id rs low high j r span (omega (arith, over, x)) there)
    ∙ ap (filter (λ (r : Run). same r.graph id)) (drop_all m rs (omega arith))

-- ---- the greatest end
abbrev pub end_from : List ℕ → List Run → ℕ → ℕ
end_from id rs n = greatest (map (λ (r : Run). r.interval.end) (own_from id rs n))

-- before the first
pub end_begin : (a : Schedule) (id : List ℕ) (low high now : ℕ) → AreRunsOf id a.runs low high → now ≡ 0 → max now (end_from id a.runs low) ≡ reached a id
end_begin a id low high now span first =
    let is : end_from id a.runs low ≡ reached a id = ap (λ (rs : List Run). greatest (map (λ (r : Run). r.interval.end) rs)) (own_begin id a.runs low high span) in omega (arith, is, first)

-- one run more
pub end_next : (id : List ℕ) (rs : List Run) (low high n : ℕ) (r : Run) (now next all : ℕ) → AreRunsOf id rs low high → low ≤ n → n < high → slice_get rs n ≡ Some r → next ≡ max now r.interval.end
    → max now (end_from id rs n) ≡ all → max next (end_from id rs (n + 1)) ≡ all
end_next id rs low high n r now next all span behind before there later so =
    let is : end_from id rs n ≡ max r.interval.end (end_from id rs (n + 1)) = ap (λ (qs : List Run). greatest (map (λ (q : Run). q.interval.end) qs)) (own_next id rs low high n r span behind before there) in
    omega (arith, is, later, so)

-- behind the last
pub end_over : (id : List ℕ) (rs : List Run) (low high n now all : ℕ) → AreRunsOf id rs low high → high ≤ n → max now (end_from id rs n) ≡ all → now ≡ all
end_over id rs low high n now all span over so =
    let none : end_from id rs n ≡ 0 = ap (λ (qs : List Run). greatest (map (λ (q : Run). q.interval.end) qs)) (own_over id rs low high n span over) in omega (arith, none, so)

-- ---- the first task that takes another number of slots
abbrev pub resizes : Dag → Pair → Bool
resizes dag e = nat_lt 0 (length e.1.tries) && takes_another_number dag e.0

abbrev pub resized_from : Schedule → Dag → ℕ → Option (List ℕ)
resized_from a dag n = option_map (λ (e : Pair). e.0.task_id) (find (resizes dag) (flat_map (pairs_of a) (own_from dag.spec.dag_id a.runs n)))

-- before the first run
pub resized_begin : (a : Schedule) (dag : Dag) (low high : ℕ) → AreRunsOf dag.spec.dag_id a.runs low high → resized_from a dag low ≡ resized_task a dag
resized_begin a dag low high span = ap (λ (rs : List Run). option_map (λ (e : Pair). e.0.task_id) (find (resizes dag) (flat_map (pairs_of a) rs))) (own_begin dag.spec.dag_id a.runs low high span)

-- behind the last run
pub resized_over : (a : Schedule) (dag : Dag) (low high n : ℕ) → AreRunsOf dag.spec.dag_id a.runs low high → high ≤ n → resized_from a dag n ≡ None
resized_over a dag low high n span over = ap (λ (rs : List Run). option_map (λ (e : Pair). e.0.task_id) (find (resizes dag) (flat_map (pairs_of a) rs))) (own_over dag.spec.dag_id a.runs low high n span over)

-- in one run it is the task at the first marked place whose instance has a try
abbrev pub id_of : List TaskSpec → ℕ → List ℕ
id_of ts k = (get_or ts k no_task).task_id

-- of pairs, beside the places of their marks
tried_is : (dag : Dag) (all : List TaskSpec) (i : ℕ) (ts : List TaskSpec) (hs : List InstanceValue) → ((k : ℕ) → get_or all (i + k) no_task ≡ get_or ts k no_task)
    → option_map (λ (e : Pair). e.0.task_id) (find (resizes dag) (zip ts hs)) ≡ option_map (id_of all) (tried_from i (map (takes_another_number dag) ts) hs)
tried_is dag all i [] hs e = refl
tried_is dag all i (t ∷ ts) [] e = refl
tried_is dag all i (t ∷ ts) (h ∷ hs) e =
    elim (nat_lt 0 (length h.tries) && takes_another_number dag t) as (λ b. option_map (λ (x : Pair). x.0.task_id) (cond b (Some (t, h)) (find (resizes dag) (zip ts hs))) ≡ option_map (id_of all) (cond b (Some i) (tried_from (i + 1) (map (takes_another_number dag) ts) hs))) [
      | true ↦ let z : i + 0 ≡ i = omega arith in ap (λ (u : TaskSpec). Some u.task_id) (sym (e 0) ∙ ap (λ k. get_or all k no_task) z)
      | false ↦ tried_is dag all (i + 1) ts hs (λ k. let z : (i + 1) + k ≡ i + suc k = omega arith in ap (λ m. get_or all m no_task) z ∙ e (suc k))
    ]

-- of a run of the graph
run_tried : (a : Schedule) (old dag : Dag) (r : Run) → dag_named a dag.spec.dag_id ≡ old → same r.graph dag.spec.dag_id ≡ true
    → option_map (λ (e : Pair). e.0.task_id) (find (resizes dag) (pairs_of a r)) ≡ option_map (id_of old.tasks) (first_tried (map (takes_another_number dag) old.tasks) r.instances)
run_tried a old dag r is own =
    let graph : dag_named a r.graph ≡ old = ap (dag_named a) (same_is r.graph dag.spec.dag_id own) ∙ is in
    ap (λ (g : Dag). option_map (λ (e : Pair). e.0.task_id) (find (resizes dag) (zip g.tasks r.instances))) graph
    ∙ tried_is dag old.tasks 0 old.tasks r.instances (λ k. let z : 0 + k ≡ k = omega arith in ap (λ m. get_or old.tasks m no_task) z)

-- a look at the first of two is the first of two looks
option_first : {X Y : Type 0} (f : X → Y) (o p : Option X) → option_map f (option_or o p) ≡ option_or (option_map f o) (option_map f p)
option_first f None p = refl
option_first f (Some x) p = refl

-- it is in this run, or in one behind it
resized_split : (a : Schedule) (old dag : Dag) (low high n : ℕ) (r : Run) → AreRunsOf dag.spec.dag_id a.runs low high → low ≤ n → n < high → slice_get a.runs n ≡ Some r → dag_named a dag.spec.dag_id ≡ old
    → resized_from a dag n ≡ option_or (option_map (id_of old.tasks) (first_tried (map (takes_another_number dag) old.tasks) r.instances)) (resized_from a dag (n + 1))
resized_split a old dag low high n r span behind before there is =
    let id : Pair → List ℕ = λ e. e.0.task_id in
    let rest : List Pair = flat_map (pairs_of a) (own_from dag.spec.dag_id a.runs (n + 1)) in
    ap (λ (rs : List Run). option_map id (find (resizes dag) (flat_map (pairs_of a) rs))) (own_next dag.spec.dag_id a.runs low high n r span behind before there)
    ∙ (ap (option_map id) (find-append (resizes dag) (pairs_of a r) rest)
    ∙ (option_first id (find (resizes dag) (pairs_of a r)) (find (resizes dag) rest)
    ∙ ap (λ (o : Option (List ℕ)). option_or o (option_map id (find (resizes dag) rest))) (run_tried a old dag r is (own_inside dag.spec.dag_id a.runs low high n r span behind before there))))

-- a run with such a task ends the search
pub resized_hit : (a : Schedule) (old dag : Dag) (low high n p : ℕ) (r : Run) → AreRunsOf dag.spec.dag_id a.runs low high → low ≤ n → n < high → slice_get a.runs n ≡ Some r → dag_named a dag.spec.dag_id ≡ old
    → first_tried (map (takes_another_number dag) old.tasks) r.instances ≡ Some p → resized_from a dag n ≡ Some (id_of old.tasks p)
resized_hit a old dag low high n p r span behind before there is tried =
    resized_split a old dag low high n r span behind before there is ∙ ap (λ (o : Option ℕ). option_or (option_map (id_of old.tasks) o) (resized_from a dag (n + 1))) tried

-- a run without one is passed over
pub resized_next : (a : Schedule) (old dag : Dag) (low high n : ℕ) (r : Run) → AreRunsOf dag.spec.dag_id a.runs low high → low ≤ n → n < high → slice_get a.runs n ≡ Some r → dag_named a dag.spec.dag_id ≡ old
    → first_tried (map (takes_another_number dag) old.tasks) r.instances ≡ None → resized_from a dag n ≡ resized_from a dag (n + 1)
resized_next a old dag low high n r span behind before there is tried =
    resized_split a old dag low high n r span behind before there is ∙ ap (λ (o : Option ℕ). option_or (option_map (id_of old.tasks) o) (resized_from a dag (n + 1))) tried
