-- What is eligible in a draft is of a touched run, or stands on the shelves of the schedule under it.
use Rattle.std.proofs.Common.{◌≡◌, ◌∙◌, ◌⊎◌, inl, inr, refl, sym, ap, subst, ℕ, zero, suc, ◌<◌, ◌≤◌, List, [], ◌∷◌, Bool, true, false, not, ◌&&◌, ◌||◌, cond, find, length, Option, Some, None, option_map, unwrap_or, slice_get, nat_eq, nat_le, true≢false, arith}
use Rattle.std.proofs.lemmas.Bool.{and_from, eqb-false, eqb-true, le-leb, leb-true, or_cases}
use Rattle.std.proofs.lemmas.Option.{none-some, same_Some, slice_get_within}
use Rattle.std.specs.List.{list_any}
use Rattle.graph_file.specs.declared.task_specs.TaskSpec.{TaskSpec}
use Rattle.dag_check.specs.Graphs.{Dag}
use Rattle.dag_check.specs.Orders.{is_in}
use Rattle.sched_state.specs.Lists.{same}
use Rattle.sched_state.specs.declared.graphs.LoadedGraph.{LoadedGraph}
use Rattle.sched_state.specs.declared.runs.Run.{Run}
use Rattle.sched_state.proofs.ElementLemmas.{element_at}
use Rattle.sched_state.proofs.NameLemmas.{find_passes, same_is, same_itself}
use Rattle.sched_state.proofs.OrderLemmas.{and_left, and_right}
use Rattle.sched_model.specs.Handout.{Offer, has_come, is_ready, is_scheduled}
use Rattle.sched_model.specs.Schedule.{Schedule, graph_among, is_running, no_dag}
use Rattle.sched_model.specs.instance_machine.Instances.{InstanceValue}
use Rattle.sched_model.specs.instance_machine.States.{retry_at, state_of}
use Rattle.sched_draft.specs.Drafts.{DraftValue}
use Rattle.sched_draft.specs.run_lists.Overlays.{AreAllTouched}
use Rattle.sched_laws.specs.Offered.{IsEligible}
use Rattle.sched_laws.proofs.DecisionLemmas.{by_bool}
use Rattle.sched_ready.specs.Due.{due_if, due_in, due_of, has_waited, is_found, is_kept, waits_for}
use Rattle.sched_ready.specs.Held.{AreShelvesOf, FitShelves, FitsShelf, IsLater}
use Rattle.sched_ready.specs.Shelves.{ShelfValue}
use Rattle.sched_ready.specs.declared.queues.Queue.{Queue}
use Rattle.sched_ready.proofs.PlaceLemmas.{was_at}
use Rattle.sched_handout.specs.Candidates.{AreCandidatesOf, head, heads, is_going, may_offer, positions}
use Rattle.sched_handout.specs.Shelving.{Covers, Serve, is_found_if, stands_at, stands_on, stands_on_first}
use Rattle.sched_handout.specs.declared.candidates.Candidate.{Candidate}
use Rattle.sched_handout.proofs.FoundLemmas.{head_at}

either : (q r : Bool) → r ≡ true → (q || r) ≡ true
either true r i = refl
either false r i = i

-- ---- what is ready is due
due_ready : (now : ℕ) (r : Run) (t : TaskSpec) (i : InstanceValue) → is_running r.phase ≡ true → is_ready now t i ≡ true → (m : ℕ) × ((due_in r t i ≡ Some m) × (m ≤ now))
due_ready now r t i running ready = by (is_scheduled (state_of t i)) refl
  where
    of_run : due_in r t i ≡ due_of t i
    of_run = ap (λ b. cond b (due_of t i) None) running

    waits : (o : Option ℕ) → retry_at t i ≡ o → has_come now o ≡ true → (m : ℕ) × ((retry_at t i ≡ Some m) × (m ≤ now))
    waits None e h = absurd (true≢false (sym h))
    waits (Some m) e h = (m, (e, leb-true m now h))

    by : (b : Bool) → is_scheduled (state_of t i) ≡ b → (m : ℕ) × ((due_in r t i ≡ Some m) × (m ≤ now))
    by true e = (0, (of_run ∙ ap (λ b. cond b (Some 0) (retry_at t i)) e, omega arith))
    by false e =
        let w = waits (retry_at t i) refl (sym (ap (λ b. b || has_come now (retry_at t i)) e) ∙ ready) in
        (w.0, (of_run ∙ (ap (λ b. cond b (Some 0) (retry_at t i)) e ∙ w.1.0), w.1.1))

-- what is kept by a queue is found there once its moment has come
waits_found : (m d now : ℕ) (ws : List (ℕ × ℕ)) → m ≤ now → list_any (λ (w : ℕ × ℕ). nat_eq w.0 m && nat_eq w.1 d) ws ≡ true → list_any (λ (w : ℕ × ℕ). nat_le w.0 now && nat_eq w.1 d) ws ≡ true
waits_found m d now [] l h = h
waits_found m d now (w ∷ ws) l h = elim (or_cases (nat_eq w.0 m && nat_eq w.1 d) _ h) as (λ _. ((nat_le w.0 now && nat_eq w.1 d) || list_any (λ (v : ℕ × ℕ). nat_le v.0 now && nat_eq v.1 d) ws) ≡ true) [
  | inl i ↦
      let e : w.0 ≡ m = eqb-true w.0 m (and_left _ _ i) in
      ap (λ b. b || list_any (λ (v : ℕ × ℕ). nat_le v.0 now && nat_eq v.1 d) ws) (and_from (nat_le w.0 now) _ (le-leb w.0 now (omega arith)) (and_right (nat_eq w.0 m) _ i))
  | inr i ↦ either (nat_le w.0 now && nat_eq w.1 d) _ (waits_found m d now ws l i)
]

kept_found : (before now : ℕ) (q : Queue) (d m : ℕ) → m ≤ now → is_kept before q d m ≡ true → is_found now q d ≡ true
kept_found before now q d m l h = by_bool {C = is_found now q d ≡ true} (nat_le m before)
    (λ e. ap (λ b. b || has_waited now q d) (sym (ap (λ b. cond b (is_in q.ready.keys d) (waits_for q m d)) e) ∙ h))
    (λ e. either (is_in q.ready.keys d) _ (waits_found m d now q.waiting.keys l (sym (ap (λ b. cond b (is_in q.ready.keys d) (waits_for q m d)) e) ∙ h)))

-- ---- the graph of an offer
record IsGraphOf (b : Schedule) (id : List ℕ) : Type 0 where
  position : ℕ
  loaded : LoadedGraph
  among : graph_among b.graphs id ≡ Some loaded
  there : slice_get b.graphs position ≡ Some loaded

find_place : {X : Type 0} (p : X → Bool) (xs : List X) (x : X) → find p xs ≡ Some x → (i : ℕ) × (slice_get xs i ≡ Some x)
find_place p [] x e = absurd (none-some x e)
find_place {X} p (y ∷ xs) x e = by_bool {C = (i : ℕ) × (slice_get (y ∷ xs) i ≡ Some x)} (p y)
    (λ g. (0, sym (ap (λ b. cond b (Some y) (find p xs)) g) ∙ e))
    (λ g. let t = find_place p xs x (sym (ap (λ b. cond b (Some y) (find p xs)) g) ∙ e) in (suc t.0, t.1))

graph_of : (b : Schedule) (x : Offer) (e : IsEligible b x) → IsGraphOf b e.run.graph
graph_of b x e = by (graph_among b.graphs e.run.graph) refl
  where
    by : (o : Option LoadedGraph) → graph_among b.graphs e.run.graph ≡ o → IsGraphOf b e.run.graph
    by None f = absurd (none-some e.task (sym (ap (λ (o : Option LoadedGraph). slice_get (unwrap_or (option_map (λ (g : LoadedGraph). g.dag) o) no_dag).tasks x.place) f) ∙ e.task_is))
    by (Some l) f = let t = find_place (λ (g : LoadedGraph). same g.dag.spec.dag_id e.run.graph) b.graphs l f in record { position = t.0; loaded = l; among = f; there = t.1 }

-- the run of an offer may offer
may : (b : Schedule) (x : Offer) (e : IsEligible b x) → may_offer b.graphs (head e.run) ≡ true
may b x e =
    let g = graph_of b x e in
    let unpaused : g.loaded.paused ≡ false = sym (ap (λ (o : Option LoadedGraph). unwrap_or (option_map (λ (l : LoadedGraph). l.paused) o) false) g.among) ∙ e.unpaused in
    and_from (is_running e.run.phase) _ e.running (ap is_going g.among ∙ ap not unpaused)

-- ---- shelves
first_from : (now : ℕ) (gs : List LoadedGraph) (ss : List ShelfValue) (n m : ℕ) (x : Offer) → n < m → stands_at now (slice_get gs n) (slice_get ss n) x ≡ true → stands_on_first now gs ss m x ≡ true
first_from now gs ss n zero x l h = absurd (omega arith)
first_from now gs ss n (suc m) x l h = by_bool {C = (stands_on_first now gs ss m x || stands_at now (slice_get gs m) (slice_get ss m) x) ≡ true} (nat_eq n m)
    (λ e. let i = eqb-true n m e in either (stands_on_first now gs ss m x) _ (subst (λ k. stands_at now (slice_get gs k) (slice_get ss k) x ≡ true) i h))
    (λ e. ap (λ b. b || stands_at now (slice_get gs m) (slice_get ss m) x) (first_from now gs ss n m x (less n m l e) h))
  where
    less : (i j : ℕ) → i < suc j → nat_eq i j ≡ false → i < j
    less i j k e = let ne = eqb-false i j e in omega (arith, ne)

pub fits_later : (a b : Schedule) (ss : List ShelfValue) → AreShelvesOf a.now a.graphs a.runs ss → IsLater a b → FitShelves b.graphs ss
fits_later a b ss h later = record {
  long = h.fit.long ∙ sym later.long;
  fits = λ n l s e f.
      let within = slice_get_within b.graphs n l e in
      let g = element_at a.graphs n (omega (arith, within, later.long)) in
      subst (λ (d : Dag). FitsShelf d s) (sym (later.graphs n g.0 l g.1 e)) (h.fit.fits n g.0 s g.1 f);
}

-- an offer of a run that was there as it is
shelved : (a b : Schedule) (ss : List ShelfValue) (x : Offer) → AreShelvesOf a.now a.graphs a.runs ss → IsLater a b → (e : IsEligible b x) (k : ℕ) → slice_get a.runs k ≡ Some e.run → stands_on_first b.now b.graphs ss (length ss) x ≡ true
shelved a b ss x h later e k run_was =
    let l = graph_of b x e in
    let within = slice_get_within b.graphs l.position l.loaded l.there in
    let g = element_at a.graphs l.position (omega (arith, within, later.long)) in
    let s = element_at ss l.position (omega (arith, within, later.long, h.fit.long)) in
    let dag : l.loaded.dag ≡ g.0.dag = later.graphs l.position g.0 l.loaded g.1 l.there in
    let fit = h.fit.fits l.position g.0 s.0 g.1 s.1 in
    let task : slice_get g.0.dag.tasks x.place ≡ Some e.task =
    ap (λ (d : Dag). slice_get d.tasks x.place) (sym (ap (λ (o : Option LoadedGraph). unwrap_or (option_map (λ (k : LoadedGraph). k.dag) o) no_dag) l.among ∙ dag)) ∙ e.task_is in
    let place = slice_get_within g.0.dag.tasks x.place e.task task in
    let q = element_at s.0.queues x.place (omega (arith, place, fit.long)) in
    let id : same l.loaded.dag.spec.dag_id e.run.graph ≡ true = find_passes (λ (k : LoadedGraph). same k.dag.spec.dag_id e.run.graph) b.graphs l.loaded l.among in
    let names : l.loaded.dag.spec.dag_id ≡ e.run.graph = same_is l.loaded.dag.spec.dag_id e.run.graph id in
    let named : same e.run.graph g.0.dag.spec.dag_id ≡ true = ap (same e.run.graph) (sym (ap (λ (d : Dag). d.spec.dag_id) dag) ∙ names) ∙ same_itself e.run.graph in
    let due = due_ready b.now e.run e.task e.instance e.running e.ready in
    let kept = h.held l.position x.place g.0 s.0 e.task q.0 g.1 s.1 task q.1 k due.0 e.run run_was named (ap (due_if e.run e.task) e.instance_is ∙ due.1.0) in
    let found = kept_found a.now b.now q.0 e.run.logical due.0 due.1.1 kept in
    let logical : x.logical ≡ e.run.logical = ap (λ (o : Offer). o.logical) e.offer_is in
    let graph : x.graph ≡ e.run.graph = ap (λ (o : Offer). o.graph) e.offer_is in
    let on : stands_on b.now l.loaded.dag.spec.dag_id s.0 x ≡ true =
    and_from (same x.graph l.loaded.dag.spec.dag_id) _ (ap (same x.graph) (names ∙ sym graph) ∙ same_itself x.graph) (ap (λ o. is_found_if b.now o x.logical) q.1 ∙ (ap (is_found b.now q.0) logical ∙ found)) in
    first_from b.now b.graphs ss l.position (length ss) x (omega (arith, within, later.long, h.fit.long)) (ap (λ o. stands_at b.now o (slice_get ss l.position) x) l.there ∙ (ap (λ o. stands_at b.now (Some l.loaded) o x) s.1 ∙ on))

-- each eligible offer is of a candidate's run, or stands on a shelf
pub covers_base : (a b : Schedule) (ss : List ShelfValue) (touched : List ℕ) (cs : List Candidate) → AreShelvesOf a.now a.graphs a.runs ss → IsLater a b → AreAllTouched touched a.runs b.runs → AreCandidatesOf b.graphs (heads b.runs) touched cs → Covers ss cs b
covers_base a b ss touched cs h later all found x e = by_bool {C = (is_in (positions cs) x.run || stands_on_first b.now b.graphs ss (length ss) x) ≡ true} (is_in touched x.run)
    (λ i. ap (λ c. c || stands_on_first b.now b.graphs ss (length ss) x) (found.covered x.run (head e.run) i (head_at b.runs x.run e.run e.run_is) (may b x e)))
    (λ i. either (is_in (positions cs) x.run) _ (let w = was_at touched a.runs b.runs x.run e.run all i e.run_is in shelved a b ss x h later e w.0 w.1))

-- a schedule is not before itself
itself : (b : Schedule) → IsLater b b
itself b = record { clock = omega arith; long = refl; graphs = λ n g h e f. ap (λ (l : LoadedGraph). l.dag) (sym (same_Some g h (sym e ∙ f))) }

-- whichever of the two the shelves are of
pub serve_fit : (d : DraftValue) (ss : List ShelfValue) → Serve ss d → FitShelves d.content.graphs ss
serve_fit d ss (inl h) = fits_later d.base d.content ss h.0 h.1
serve_fit d ss (inr h) = h.fit

pub serve_covers : (d : DraftValue) (ss : List ShelfValue) (cs : List Candidate) → Serve ss d → AreAllTouched d.touched d.base.runs d.content.runs → AreCandidatesOf d.content.graphs (heads d.content.runs) d.touched cs → Covers ss cs d.content
serve_covers d ss cs (inl h) all found = covers_base d.base d.content ss d.touched cs h.0 h.1 all found
serve_covers d ss cs (inr h) all found = λ x e. either (is_in (positions cs) x.run) _ (shelved d.content d.content ss x h (itself d.content) e x.run e.run_is)
