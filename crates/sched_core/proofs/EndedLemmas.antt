-- A try that ends gives its lane and its slots back, and a report that ends none leaves the numbers.
use Rattle.std.proofs.Common.{◌≡◌, ◌∙◌, refl, sym, ap, subst, ℕ, zero, suc, ◌+◌, ◌-◌, ◌<◌, ◌≤◌, List, [], ◌∷◌, ◌++◌, Bool, true, false, not, cond, ◌&&◌, ◌==◌, length, map, min, filter, flat_map, sum_by, count_by, is_none, is_some, Option, Some, None, option_map, unwrap_or, slice_get, true≢false, arith}
use Rattle.std.specs.Prelude.{IsSome, IfSome}
use Rattle.std.specs.List.{zip, list_all}
use Rattle.std.proofs.lemmas.Bool.{eqb-true, eq-eqb}
use Rattle.std.proofs.lemmas.List.{append-nil}
use Rattle.std.proofs.lemmas.List.Elements.{filter-append}
use Rattle.std.proofs.lemmas.List.Sums.{sum_by-cons}
use Rattle.std.proofs.Math.Nat.{min-eq_left}
use Rattle.std.proofs.lemmas.Option.{slice_get_within, slice_get-get_or}
use Rattle.dag_check.specs.Graphs.{no_task, task_of}
use Rattle.graph_file.specs.declared.task_specs.TaskSpec.{TaskSpec}
use Rattle.indexmap.proofs.ReorderLemmas.{slice_get-zip_some}
use Rattle.instance_machine.specs.Instances.{InstanceValue}
use Rattle.instance_machine.specs.Reports.{after, if_open, report_try, reported_try}
use Rattle.instance_machine.specs.declared.tries.End.{End}
use Rattle.instance_machine.specs.declared.tries.Outcome.{Outcome}
use Rattle.instance_machine.specs.declared.tries.Outcome.TheVariants as outcome
use Rattle.instance_machine.specs.declared.tries.Stage.{Stage}
use Rattle.instance_machine.specs.declared.tries.Stage.TheVariants.{Started, Ended}
use Rattle.instance_machine.specs.declared.tries.Try.{Try}
use Rattle.pool_book.specs.Limits.{most_taken}
use Rattle.pool_book.specs.Pools.{PoolUse, give_back, pool_of, with_pool}
use Rattle.pool_book.proofs.PoolLemmas.{pool_of-with}
use Rattle.sched_state.specs.Lists.{same}
use Rattle.sched_state.specs.declared.graphs.LoadedGraph.{LoadedGraph}
use Rattle.sched_state.specs.declared.runs.Run.{Run}
use Rattle.sched_state.proofs.NameLemmas.{find_passes, same_itself}
use Rattle.sched_state.proofs.OrderLemmas.{and_left, and_right}
use Rattle.sched_model.specs.Changes.{report}
use Rattle.sched_model.specs.Lists.{all_pairs}
use Rattle.sched_model.specs.Schedule.{Schedule, dag_among, graph_named, has_pool, no_dag, tasks_of}
use Rattle.sched_model.specs.Sound.{IsSound, is_sound_in, is_sound_run}
use Rattle.sched_model.specs.States.{OpenTry, opened, active_tries, in_flight, is_of, is_open, occupied, open_of, open_tries, slots_in}
use Rattle.sched_laws.proofs.DecisionLemmas.{by_bool}
use Rattle.sched_laws.proofs.OccupyingLemmas.{OpensNone, active_reported, counted_after, ended_by, occupied_reported, open_by}
use Rattle.sched_laws.proofs.SettleLemmas.{map_some}
use Rattle.sched_laws.proofs.SlotLemmas.{none_occupied}
use Rattle.sched_draft.specs.Books.{IsBookOf}
use Rattle.sched_draft.specs.Places.{AreAllAt}
use Rattle.sched_draft.proofs.BookLemmas.{has_is, with_keeps}
use Rattle.sched_handout.specs.Active.{count_of}
use Rattle.sched_handout.specs.Occupied.{AreOccupied}
use Rattle.sched_handout.specs.declared.occupied.Occupied.{Occupied}
use Rattle.sched_core.specs.Books.{IsCounted}
use Rattle.sched_core.specs.Finding.{IsFoundAt}
use Rattle.sched_core.specs.declared.finding.Found.{Found}
use Rattle.sched_core.proofs.ReportLemmas.{all_at, found_in, one_place, other_serial}

-- ---- the task of the try that was found
pairs_there : {X Y : Type 0} (p : X → Y → Bool) (xs : List X) (ys : List Y) (n : ℕ) (y : Y) → all_pairs p xs ys ≡ true → slice_get ys n ≡ Some y → (x : X) × (slice_get xs n ≡ Some x)
pairs_there {X} {Y} p [] [] n y e g = absurd (let c : ◌≡◌ {A = Option Y} None (Some y) = g in cc)
pairs_there p [] (z ∷ ys) n y e g = absurd (true≢false (sym e))
pairs_there {X} {Y} p (x ∷ xs) [] n y e g = absurd (let c : ◌≡◌ {A = Option Y} None (Some y) = g in cc)
pairs_there p (x ∷ xs) (z ∷ ys) zero y e g = (x, refl)
pairs_there p (x ∷ xs) (z ∷ ys) (suc n) y e g = pairs_there p xs ys n y (and_right (p x z) _ e) g

all_there : {X : Type 0} (p : X → Bool) (xs : List X) (n : ℕ) (x : X) → list_all p xs ≡ true → slice_get xs n ≡ Some x → p x ≡ true
all_there {X} p [] n x e g = absurd (let c : ◌≡◌ {A = Option X} None (Some x) = g in cc)
all_there {X} p (z ∷ xs) zero x e g = let c : ◌≡◌ {A = Option X} (Some z) (Some x) = g in let i : z ≡ x = cc in subst (λ w. p w ≡ true) i (and_left (p z) _ e)
all_there p (z ∷ xs) (suc n) x e g = all_there p xs n x (and_right (p z) _ e) g

pub task_there : (serial : ℕ) (a : Schedule) (f : Found) → IsSound a → (found : IsFoundAt serial a.runs f) → (t : TaskSpec) × (slice_get (tasks_of a found.run) f.place ≡ Some t)
task_there serial a f sound found =
    let run : is_sound_run a.graphs found.run ≡ true = all_there (is_sound_run a.graphs) a.runs f.position found.run sound.runs found.there in
    pairs_there (is_sound_in found.run.phase) (tasks_of a found.run) found.run.instances f.place found.instance.instance (and_right _ _ (and_right _ _ run)) found.instance.there

-- ---- what a list of lists gives of one of them alone
none_at : {X Y : Type 0} (g : X → List Y) (xs : List X) → ((m : ℕ) (x : X) → slice_get xs m ≡ Some x → g x ≡ []) → flat_map g xs ≡ []
none_at g [] h = refl
none_at g (x ∷ xs) h = rw (h zero x refl) (none_at g xs (λ m y e. h (suc m) y e))

only_at : {X Y : Type 0} (g : X → List Y) (xs : List X) (n : ℕ) (x : X) → slice_get xs n ≡ Some x → ((m : ℕ) (y : X) → slice_get xs m ≡ Some y → (m ≡ n → ⊥) → g y ≡ []) → flat_map g xs ≡ g x
only_at {X} g [] n x e h = absurd (let c : ◌≡◌ {A = Option X} None (Some x) = e in cc)
only_at {X} g (z ∷ xs) zero x e h =
    let c : ◌≡◌ {A = Option X} (Some z) (Some x) = e in let i : z ≡ x = cc in
    ap (λ ys. g z ++ ys) (none_at g xs (λ m y f. h (suc m) y f (λ q. absurd (omega (arith, q))))) ∙ (append-nil (g z) ∙ ap g i)
only_at g (z ∷ xs) (suc n) x e h =
    rw (h zero z refl (λ q. absurd (omega (arith, q)))) (only_at g xs n x e (λ m y f d. h (suc m) y f (λ q. d (let r : m ≡ n = omega (arith, q) in r))))

filter_flat : {X Y : Type 0} (p : Y → Bool) (g : X → List Y) (xs : List X) → filter p (flat_map g xs) ≡ flat_map (λ x. filter p (g x)) xs
filter_flat p g [] = refl
filter_flat p g (x ∷ xs) = filter-append p (g x) (flat_map g xs) ∙ ap (λ ys. filter p (g x) ++ ys) (filter_flat p g xs)

-- ---- the tries of an instance that a change ends
abbrev gone_of : (Try → Try) → List ℕ → TaskSpec → List Try → List OpenTry
gone_of f id t us = filter (ended_by f) (map (opened id t) (filter is_open us))

one_stays : (f : Try → Try) (id : List ℕ) (t : TaskSpec) (u : Try) (us : List Try) → f u ≡ u → gone_of f id t (u ∷ us) ≡ gone_of f id t us
one_stays f id t u us s = by_bool {C = gone_of f id t (u ∷ us) ≡ gone_of f id t us} (is_open u)
    (λ e.
    ap (λ b. filter (ended_by f) (map (opened id t) (cond b (u ∷ filter is_open us) (filter is_open us)))) e
    ∙ ap (λ b. cond (not b) (opened id t u ∷ gone_of f id t us) (gone_of f id t us)) (ap is_open s ∙ e))
    (λ e. ap (λ b. filter (ended_by f) (map (opened id t) (cond b (u ∷ filter is_open us) (filter is_open us)))) e)

all_stay : (f : Try → Try) (id : List ℕ) (t : TaskSpec) (us : List Try) → ((k : ℕ) (u : Try) → slice_get us k ≡ Some u → f u ≡ u) → gone_of f id t us ≡ []
all_stay f id t [] h = refl
all_stay f id t (u ∷ us) h = one_stays f id t u us (h zero u refl) ∙ all_stay f id t us (λ k v e. h (suc k) v e)

one_ends : (f : Try → Try) (id : List ℕ) (t : TaskSpec) (us : List Try) (j : ℕ) (one : Try) → slice_get us j ≡ Some one → is_open one ≡ true → is_open (f one) ≡ false
    → ((k : ℕ) (u : Try) → slice_get us k ≡ Some u → (k ≡ j → ⊥) → f u ≡ u) → gone_of f id t us ≡ opened id t one ∷ []
one_ends f id t [] j one e live shut h = absurd (let c : ◌≡◌ {A = Option Try} None (Some one) = e in cc)
one_ends f id t (v ∷ us) zero one e live shut h =
    let c : ◌≡◌ {A = Option Try} (Some v) (Some one) = e in let i : v ≡ one = cc in
    ap (λ b. filter (ended_by f) (map (opened id t) (cond b (v ∷ filter is_open us) (filter is_open us)))) (ap is_open i ∙ live)
    ∙ (ap (λ b. cond (not b) (opened id t v ∷ gone_of f id t us) (gone_of f id t us)) (ap (λ u. is_open (f u)) i ∙ shut)
    ∙ (ap (λ es. opened id t v ∷ es) (all_stay f id t us (λ k u g. h (suc k) u g (λ q. absurd (omega (arith, q))))) ∙ ap (λ (u : Try). opened id t u ∷ []) i))
one_ends f id t (v ∷ us) (suc j) one e live shut h =
    one_stays f id t v us (h zero v refl (λ q. absurd (omega (arith, q))))
    ∙ one_ends f id t us j one e live shut (λ k u g d. h (suc k) u g (λ q. d (let r : k ≡ j = omega (arith, q) in r)))

-- ---- of a run
zip_get : {X Y : Type 0} (xs : List X) (ys : List Y) (n : ℕ) (e : X × Y) → slice_get (zip xs ys) n ≡ Some e → slice_get ys n ≡ Some e.1
zip_get {X} {Y} [] ys n e g = absurd (let c : ◌≡◌ {A = Option (X × Y)} None (Some e) = g in cc)
zip_get {X} {Y} (x ∷ xs) [] n e g = absurd (let c : ◌≡◌ {A = Option (X × Y)} None (Some e) = g in cc)
zip_get {X} {Y} (x ∷ xs) (y ∷ ys) zero e g = let c : ◌≡◌ {A = Option (X × Y)} (Some (x, y)) (Some e) = g in let i : (x, y) ≡ e = cc in ap (λ (z : X × Y). Some z.1) i
zip_get (x ∷ xs) (y ∷ ys) (suc n) e g = zip_get xs ys n e g

run_stays : (f : Try → Try) (gs : List LoadedGraph) (r : Run) → ((q k : ℕ) (i : InstanceValue) (u : Try) → slice_get r.instances q ≡ Some i → slice_get i.tries k ≡ Some u → f u ≡ u) → filter (ended_by f) (open_by gs r) ≡ []
run_stays f gs r h =
    let ts : List TaskSpec = (dag_among gs r.graph).tasks in
    filter_flat (ended_by f) (open_of r.graph) (zip ts r.instances)
    ∙ none_at (λ (e : TaskSpec × InstanceValue). gone_of f r.graph e.0 e.1.tries) (zip ts r.instances) (λ q e g. all_stay f r.graph e.0 e.1.tries (λ k u s. h q k e.1 u (zip_get ts r.instances q e g) s))

run_ends : (f : Try → Try) (gs : List LoadedGraph) (r : Run) (p : ℕ) (i : InstanceValue) (t : TaskSpec) (one : Try) → slice_get (dag_among gs r.graph).tasks p ≡ Some t → slice_get r.instances p ≡ Some i
    → ((q k : ℕ) (j : InstanceValue) (u : Try) → slice_get r.instances q ≡ Some j → slice_get j.tries k ≡ Some u → (q ≡ p → ⊥) → f u ≡ u) → gone_of f r.graph t i.tries ≡ opened r.graph t one ∷ []
    → filter (ended_by f) (open_by gs r) ≡ opened r.graph t one ∷ []
run_ends f gs r p i t one task there h ends =
    let ts : List TaskSpec = (dag_among gs r.graph).tasks in
    filter_flat (ended_by f) (open_of r.graph) (zip ts r.instances)
    ∙ (only_at (λ (e : TaskSpec × InstanceValue). gone_of f r.graph e.0 e.1.tries) (zip ts r.instances) p (t, i) (slice_get-zip_some ts r.instances p _ _ task there)
    (λ q e g d. all_stay f r.graph e.0 e.1.tries (λ k u s. h q k e.1 u (zip_get ts r.instances q e g) s d))
    ∙ ends)

-- ---- a report
ends : (o : Outcome) (now : ℕ) (t : Try) (x : Option End) (s : Option ℕ) → is_some (if_open x (after (Ended o) now s t)) ≡ true → is_open (unwrap_or (if_open x (after (Ended o) now s t)) t) ≡ false
ends o now t (Some e) s h = absurd (true≢false (sym h))
ends o now t None None h = absurd (true≢false (sym h))
ends outcome.Lost now t None (Some b) h = absurd (true≢false (sym h))
ends outcome.Success now t None (Some b) h = refl
ends outcome.Failed now t None (Some b) h = refl
ends outcome.Skipped now t None (Some b) h = refl

ended_now : (serial : ℕ) (o : Outcome) (now : ℕ) (t : Try) → t.serial ≡ serial → is_some (report_try (Ended o) now t) ≡ true → is_open (reported_try serial (Ended o) now t) ≡ false
ended_now serial o now t e h =
    let mine : (t.serial == serial) ≡ true = eq-eqb t.serial serial e in
    ap (λ b. is_open (cond b (unwrap_or (report_try (Ended o) now t) t) t)) mine ∙ ends o now t t.ended t.started h

begun : (now : ℕ) (t : Try) (x : Option End) (s : Option ℕ) → t.ended ≡ x → is_none x ≡ true → is_open (unwrap_or (if_open x (after Started now s t)) t) ≡ true
begun now t (Some e) s is h = absurd (true≢false (sym h))
begun now t None (Some b) is h = ap is_none is
begun now t None None is h = ap is_none is

-- none ends that begins
begins : (serial now : ℕ) (t : Try) → is_open t ≡ true → is_open (reported_try serial Started now t) ≡ true
begins serial now t h = elim (t.serial == serial) as (λ b. is_open (cond b (unwrap_or (report_try Started now t) t) t) ≡ true) [
  | true ↦ begun now t t.ended t.started refl h
  | false ↦ h
]

none_begins : (serial now : ℕ) (id : List ℕ) (t : TaskSpec) (us : List Try) → gone_of (reported_try serial Started now) id t us ≡ []
none_begins serial now id t [] = refl
none_begins serial now id t (u ∷ us) = by_bool {C = gone_of (reported_try serial Started now) id t (u ∷ us) ≡ []} (is_open u)
    (λ e.
    ap (λ b. filter (ended_by (reported_try serial Started now)) (map (opened id t) (cond b (u ∷ filter is_open us) (filter is_open us)))) e
    ∙ (ap (λ b. cond (not b) (opened id t u ∷ gone_of (reported_try serial Started now) id t us) (gone_of (reported_try serial Started now) id t us)) (begins serial now u e) ∙ none_begins serial now id t us))
    (λ e.
    ap (λ b. filter (ended_by (reported_try serial Started now)) (map (opened id t) (cond b (u ∷ filter is_open us) (filter is_open us)))) e ∙ none_begins serial now id t us)

start_ends : (serial : ℕ) (a : Schedule) → filter (ended_by (reported_try serial Started a.now)) (open_tries a) ≡ []
start_ends serial a =
    let f : Try → Try = reported_try serial Started a.now in
    filter_flat (ended_by f) (open_by a.graphs) a.runs
    ∙ none_at (λ (r : Run). filter (ended_by f) (open_by a.graphs r)) a.runs
    (λ m r e.
    let ts : List TaskSpec = (dag_among a.graphs r.graph).tasks in
    filter_flat (ended_by f) (open_of r.graph) (zip ts r.instances)
    ∙ none_at (λ (e : TaskSpec × InstanceValue). gone_of f r.graph e.0 e.1.tries) (zip ts r.instances) (λ q e g. none_begins serial a.now r.graph e.0 e.1.tries))

-- the try that was found is the only one that ends
pub ended_alone : (serial : ℕ) (o : Outcome) (a : Schedule) (f : Found) (t : TaskSpec) → IsSound a → (found : IsFoundAt serial a.runs f) → is_some (report_try (Ended o) a.now f.one) ≡ true → slice_get (tasks_of a found.run) f.place ≡ Some t
    → filter (ended_by (reported_try serial (Ended o) a.now)) (open_tries a) ≡ opened found.run.graph t f.one ∷ []
ended_alone serial o a f t sound found turn task =
    let g : Try → Try = reported_try serial (Ended o) a.now in
    let i : InstanceValue = found.instance.instance in
    let others : AreAllAt g f.position f.place a = all_at serial (Ended o) a f sound found in
    let first : (k : ℕ) × (slice_get i.tries k ≡ Some f.one) = found_in (λ (t : Try). is_open t && t.serial == serial) i.tries f.one found.instance.first in
    let passes : (is_open f.one && f.one.serial == serial) ≡ true = find_passes (λ (t : Try). is_open t && t.serial == serial) i.tries f.one found.instance.first in
    let is : f.one.serial ≡ serial = eqb-true f.one.serial serial (and_right (is_open f.one) (f.one.serial == serial) passes) in
    let alone : gone_of g found.run.graph t i.tries ≡ opened found.run.graph t f.one ∷ [] =
    one_ends g found.run.graph t i.tries first.0 f.one first.1 (and_left (is_open f.one) (f.one.serial == serial) passes) (ended_now serial o a.now f.one is turn)
    (λ k u e d. other_serial serial (Ended o) a.now u (λ s. d (one_place a f.position f.place k f.position f.place first.0 found.run found.run i i u f.one sound found.there found.instance.there e found.there found.instance.there first.1 (s ∙ sym is)).1)) in
    filter_flat (ended_by g) (open_by a.graphs) a.runs
    ∙ (only_at (λ (r : Run). filter (ended_by g) (open_by a.graphs r)) a.runs f.position found.run found.there
    (λ m r e d. run_stays g a.graphs r (λ q k j u v w. others m q k r j u e v w (λ b. d b.0)))
    ∙ run_ends g a.graphs found.run f.place i t f.one task found.instance.there (λ q k j u v w d. others f.position q k found.run j u found.there v w (λ b. d b.1)) alone)

-- ---- how many stay without an end
ones : {X : Type 0} (xs : List X) → sum_by (λ (x : X). 1) xs ≡ length xs
ones [] = refl
ones {X} (x ∷ xs) = let s = sum_by-cons (λ (y : X). 1) x xs in let rest = ones xs in omega (arith, s, rest)

shut_report : (r : Option Try) (x : Option End) (t : Try) → is_none x ≡ false → unwrap_or (if_open x r) t ≡ t
shut_report r None t e = absurd (true≢false e)
shut_report r (Some x) t e = refl

shuts : (serial : ℕ) (stage : Stage) (now : ℕ) → OpensNone (reported_try serial stage now)
shuts serial stage now t e = elim (t.serial == serial) as (λ b. is_open (cond b (unwrap_or (report_try stage now t) t) t) ≡ false) [
  | true ↦ ap is_open (shut_report (after stage now t.started t) t.ended t e) ∙ e
  | false ↦ e
]

flight_reported : (serial : ℕ) (stage : Stage) (a : Schedule) → in_flight (report serial stage a) + length (filter (ended_by (reported_try serial stage a.now)) (open_tries a)) ≡ in_flight a
flight_reported serial stage a =
    let f : Try → Try = reported_try serial stage a.now in
    let split = counted_after f (λ (e : OpenTry). 1) (λ id k t. refl) (shuts serial stage a.now) a in
    let before = ones (open_tries a) in
    let after = ones (open_tries (report serial stage a)) in
    let gone = ones (filter (ended_by f) (open_tries a)) in
    omega (arith, split, before, after, gone)

-- ---- the numbers after it
one_sum : (name : List ℕ) (e : OpenTry) → sum_by (slots_in name) (e ∷ []) ≡ slots_in name e
one_sum name e = let s = sum_by-cons (slots_in name) e [] in let z : sum_by (slots_in name) [] ≡ 0 = refl in omega (arith, s, z)

-- with what ends, by pool
pub fewer : (serial : ℕ) (stage : Stage) (a : Schedule) (e : OpenTry) → filter (ended_by (reported_try serial stage a.now)) (open_tries a) ≡ e ∷ [] → (name : List ℕ) → occupied a name ≡ occupied (report serial stage a) name + slots_in name e
fewer serial stage a e gone name = occupied_reported serial stage a name ∙ ap (λ n. occupied (report serial stage a) name + n) (ap (sum_by (slots_in name)) gone ∙ one_sum name e)

-- and by graph
one_count : (id g : List ℕ) (t : TaskSpec) (one : Try) → count_by (is_of id) (opened g t one ∷ []) ≡ cond (same g id) 1 0
one_count id g t one = let s = sum_by-cons (λ (e : OpenTry). cond (is_of id e) 1 0) (opened g t one) [] in let z : sum_by (λ (e : OpenTry). cond (is_of id e) 1 0) [] ≡ 0 = refl in omega (arith, s, z)

fewer_active : (serial : ℕ) (stage : Stage) (a : Schedule) (g : List ℕ) (t : TaskSpec) (one : Try) → filter (ended_by (reported_try serial stage a.now)) (open_tries a) ≡ opened g t one ∷ []
    → (id : List ℕ) → active_tries a id ≡ active_tries (report serial stage a) id + cond (same g id) 1 0
fewer_active serial stage a g t one gone id = active_reported serial stage a id ∙ ap (λ n. active_tries (report serial stage a) id + n) (ap (count_by (is_of id)) gone ∙ one_count id g t one)

-- there are a lane, slots and a place of its graph that it gives back
pub record CanGiveBack (graph pool : List ℕ) (slots : ℕ) (x : Occupied) : Type 0 where
  pub flight : 1 ≤ x.in_flight
  pub there : IsSome (pool_of pool x.pools.pools)
  pub enough : IfSome (pool_of pool x.pools.pools) (λ p. slots ≤ p.occupied)
  pub active : 1 ≤ count_of graph x.active

own_slots : (id : List ℕ) (t : TaskSpec) (one : Try) → slots_in t.pool (opened id t one) ≡ one.slots
own_slots id t one = ap (λ b. cond b one.slots 0) (same_itself t.pool)

pub can_give_back : (serial : ℕ) (o : Outcome) (a : Schedule) (f : Found) (t : TaskSpec) (x : Occupied) → IsSound a → (found : IsFoundAt serial a.runs f) → is_some (report_try (Ended o) a.now f.one) ≡ true
    → slice_get (tasks_of a found.run) f.place ≡ Some t → IsCounted a → AreOccupied a x → 1 ≤ f.one.slots → CanGiveBack found.run.graph t.pool f.one.slots x
can_give_back serial o a f t x sound found turn task counted h some =
    let alone = ended_alone serial o a f t sound found turn task in
    let flight : in_flight (report serial (Ended o) a) + 1 ≡ in_flight a = ap (λ (es : List OpenTry). in_flight (report serial (Ended o) a) + length es) (sym alone) ∙ flight_reported serial (Ended o) a in
    let slots : occupied a t.pool ≡ occupied (report serial (Ended o) a) t.pool + f.one.slots = fewer serial (Ended o) a (opened found.run.graph t f.one) alone t.pool ∙ ap (λ n. occupied (report serial (Ended o) a) t.pool + n) (own_slots found.run.graph t f.one) in
    let was = h.in_flight in
    let mine : active_tries a found.run.graph ≡ active_tries (report serial (Ended o) a) found.run.graph + 1 = fewer_active serial (Ended o) a found.run.graph t f.one alone found.run.graph ∙ ap (λ b. active_tries (report serial (Ended o) a) found.run.graph + cond b 1 0) (same_itself found.run.graph) in
    let held = h.active found.run.graph in
    record {
      flight = omega (arith, flight, was);
      there = there (pool_of t.pool x.pools.pools) refl slots;
      enough = enough (pool_of t.pool x.pools.pools) refl slots;
      active = omega (arith, mine, held);
    }
  where
    there : (p : Option PoolUse) → pool_of t.pool x.pools.pools ≡ p → occupied a t.pool ≡ occupied (report serial (Ended o) a) t.pool + f.one.slots → IsSome p
    there None e slots =
        let none : has_pool a t.pool ≡ false = has_is a x.pools.pools t.pool h.pools.pools ∙ ap is_some e in
        let zero : occupied a t.pool ≡ 0 = none_occupied a t.pool sound none in
        absurd (omega (arith, slots, zero, some))
    there (Some p) e slots = refl

    enough : (p : Option PoolUse) → pool_of t.pool x.pools.pools ≡ p → occupied a t.pool ≡ occupied (report serial (Ended o) a) t.pool + f.one.slots → IfSome p (λ q. f.one.slots ≤ q.occupied)
    enough None e slots = tt
    enough (Some p) e slots =
        let taken : p.occupied ≡ occupied a t.pool = h.pools.taken t.pool p e ∙ min-eq_left (counted t.pool) in
        omega (arith, slots, taken)

pub ended_occupied : (serial : ℕ) (o : Outcome) (a : Schedule) (f : Found) (t : TaskSpec) (x y : Occupied) → IsSound a → (found : IsFoundAt serial a.runs f) → is_some (report_try (Ended o) a.now f.one) ≡ true
    → slice_get (tasks_of a found.run) f.place ≡ Some t → IsCounted a → AreOccupied a x → y.in_flight ≡ x.in_flight - 1 → y.pools.pools ≡ with_pool t.pool (give_back f.one.slots) x.pools.pools
    → ((id : List ℕ) → count_of id y.active + cond (same found.run.graph id) 1 0 ≡ count_of id x.active) → AreOccupied (report serial (Ended o) a) y
ended_occupied serial o a f t x y sound found turn task counted h flight book active =
    let alone = ended_alone serial o a f t sound found turn task in
    let one : in_flight (report serial (Ended o) a) + 1 ≡ in_flight a = ap (λ (es : List OpenTry). in_flight (report serial (Ended o) a) + length es) (sym alone) ∙ flight_reported serial (Ended o) a in
    let was = h.in_flight in
    record {
      in_flight = omega (arith, one, was, flight);
      pools = subst (IsBookOf (report serial (Ended o) a)) (sym book) (record {
        pools = with_keeps t.pool (give_back f.one.slots) (λ p. refl) x.pools.pools ∙ h.pools.pools;
        taken = λ name p there. by (same t.pool name) name refl p (fewer serial (Ended o) a (opened found.run.graph t f.one) alone name) (sym (pool_of-with t.pool (give_back f.one.slots) name x.pools.pools) ∙ there);
      });
      active = λ id.
          let less = fewer_active serial (Ended o) a found.run.graph t f.one alone id in
          let given = active id in
          let held = h.active id in
          omega (arith, less, given, held);
    }
  where
    by : (b : Bool) → (name : List ℕ) → same t.pool name ≡ b → (p : PoolUse) → occupied a name ≡ occupied (report serial (Ended o) a) name + slots_in name (opened found.run.graph t f.one)
        → cond b (option_map (give_back f.one.slots) (pool_of name x.pools.pools)) (pool_of name x.pools.pools) ≡ Some p → p.occupied ≡ min (occupied (report serial (Ended o) a) name) most_taken
    by true name e p less there =
        let q = map_some (give_back f.one.slots) (pool_of name x.pools.pools) p there in
        let mine : slots_in name (opened found.run.graph t f.one) ≡ f.one.slots = ap (λ b. cond b f.one.slots 0) e in
        let taken : q.0.occupied ≡ occupied a name = h.pools.taken name q.0 q.1 ∙ min-eq_left (counted name) in
        let left : p.occupied ≡ q.0.occupied - f.one.slots = ap (λ (u : PoolUse). u.occupied) (sym q.2) in
        let most = counted name in
        omega (arith, less, mine, taken, left, most)
    by false name e p less there =
        let mine : slots_in name (opened found.run.graph t f.one) ≡ 0 = ap (λ b. cond b f.one.slots 0) e in
        let taken : p.occupied ≡ occupied a name = h.pools.taken name p there ∙ min-eq_left (counted name) in
        let most = counted name in
        omega (arith, less, mine, taken, most)

-- a report that a try has begun leaves them
pub started_occupied : (serial : ℕ) (a : Schedule) (x y : Occupied) → AreOccupied a x → y.in_flight ≡ x.in_flight → y.pools.pools ≡ x.pools.pools → y.active ≡ x.active → AreOccupied (report serial Started a) y
started_occupied serial a x y h flight book active =
    let none = start_ends serial a in
    let same_flight : in_flight (report serial Started a) + 0 ≡ in_flight a = ap (λ (es : List OpenTry). in_flight (report serial Started a) + length es) (sym none) ∙ flight_reported serial Started a in
    let was = h.in_flight in
    record {
      in_flight = omega (arith, same_flight, was, flight);
      pools = subst (IsBookOf (report serial Started a)) (sym book) (record {
        pools = h.pools.pools;
        taken = λ name p there.
            let less : occupied a name ≡ occupied (report serial Started a) name + 0 = occupied_reported serial Started a name ∙ ap (λ (es : List OpenTry). occupied (report serial Started a) name + sum_by (slots_in name) es) none in
            let is : occupied a name ≡ occupied (report serial Started a) name = omega (arith, less) in
            h.pools.taken name p there ∙ ap (λ n. min n most_taken) is;
      });
      active = λ id.
          let less : active_tries a id ≡ active_tries (report serial Started a) id + 0 = active_reported serial Started a id ∙ ap (λ (es : List OpenTry). active_tries (report serial Started a) id + count_by (is_of id) es) none in
          let held : count_of id y.active ≡ active_tries a id = ap (count_of id) active ∙ h.active id in
          omega (arith, less, held);
    }

-- ---- the task, by the graph that was looked up
pub found_graph : (serial : ℕ) (a : Schedule) (f : Found) (r : Run) → (found : IsFoundAt serial a.runs f) → slice_get a.runs f.position ≡ Some r → found.run.graph ≡ r.graph
found_graph serial a f r found run =
    let same_run : ◌≡◌ {A = Option Run} (Some found.run) (Some r) = sym found.there ∙ run in
    let is : found.run ≡ r = cc in
    ap (λ (q : Run). q.graph) is

pub known_task : (serial : ℕ) (a : Schedule) (f : Found) (r : Run) (g : LoadedGraph) → IsSound a → (found : IsFoundAt serial a.runs f) → slice_get a.runs f.position ≡ Some r → graph_named a r.graph ≡ Some g
    → (f.place < length g.dag.tasks) × (slice_get (tasks_of a found.run) f.place ≡ Some (task_of g.dag f.place))
known_task serial a f r g sound found run graph =
    let t = task_there serial a f sound found in
    let same_run : ◌≡◌ {A = Option Run} (Some found.run) (Some r) = sym found.there ∙ run in
    let is : found.run ≡ r = cc in
    let tasks : tasks_of a found.run ≡ g.dag.tasks = ap (λ (q : Run). tasks_of a q) is ∙ ap (λ (o : Option LoadedGraph). (unwrap_or (option_map (λ (h : LoadedGraph). h.dag) o) no_dag).tasks) graph in
    let there : slice_get g.dag.tasks f.place ≡ Some t.0 = ap (λ ts. slice_get ts f.place) (sym tasks) ∙ t.1 in
    let within : f.place < length g.dag.tasks = slice_get_within g.dag.tasks f.place t.0 there in
    (within, ap (λ ts. slice_get ts f.place) tasks ∙ slice_get-get_or g.dag.tasks f.place no_task within)

pub graph_there : (serial : ℕ) (a : Schedule) (f : Found) (r : Run) → IsSound a → (found : IsFoundAt serial a.runs f) → slice_get a.runs f.position ≡ Some r → graph_named a r.graph ≡ None → ⊥
graph_there serial a f r sound found run graph =
    let t = task_there serial a f sound found in
    let same_run : ◌≡◌ {A = Option Run} (Some found.run) (Some r) = sym found.there ∙ run in
    let is : found.run ≡ r = cc in
    let tasks : tasks_of a found.run ≡ [] = ap (λ (q : Run). tasks_of a q) is ∙ ap (λ (o : Option LoadedGraph). (unwrap_or (option_map (λ (h : LoadedGraph). h.dag) o) no_dag).tasks) graph in
    let none : ◌≡◌ {A = Option TaskSpec} None (Some t.0) = ap (λ (ts : List TaskSpec). slice_get ts f.place) (sym tasks) ∙ t.1 in cc
