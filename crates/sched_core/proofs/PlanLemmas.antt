-- Which events are refused, and what is planned for one that is not.
use Rattle.std.proofs.Common.{◌≡◌, refl, sym, ap, subst, ◌∙◌, inl, inr, ℕ, ◌-◌, ◌≤◌, List, [], ◌∷◌, Bool, true, false, cond, not, ◌&&◌, is_none, is_some, length, map, flat_map, nat_le, nat_lt, Option, Some, None, option_map, option_and_then, Result, Ok, Err, true≢false, get_or, slice_get, Bor, arith}
use Rattle.std.specs.List.{list_any, range_with_len}
use Rattle.std.specs.Option.{option_copied}
use Rattle.std.proofs.lemmas.Bool.{le-leb}
use Rattle.std.proofs.lemmas.Option.{slice_get-get_or}
use Rattle.graph_file.specs.Lists.{when, first_some, holds_at}
use Rattle.graph_file.specs.Graphs.{graph_of}
use Rattle.graph_file.specs.declared.faults.GraphFault.{GraphFault}
use Rattle.graph_file.specs.declared.faults.GraphFault.TheVariants.{TooMany}
use Rattle.graph_file.specs.declared.graph_specs.GraphSpec.{GraphSpec}
use Rattle.dag_check.specs.Graphs.{Dag, dag_of}
use Rattle.dag_check.specs.Faults.{first_fault}
use Rattle.dag_check.specs.declared.faults.DagFault.{DagFault}
use Rattle.dag_check.proofs.FirstLemmas.{faultless}
use Rattle.std.proofs.lemmas.List.{length-map}
use Rattle.instance_machine.specs.Reports.{report_try}
use Rattle.instance_machine.specs.declared.tries.Stage.{Stage}
use Rattle.instance_machine.specs.declared.tries.Try.{Try}
use Rattle.sched_state.specs.Lists.{same}
use Rattle.sched_state.specs.declared.graphs.LoadedGraph.{LoadedGraph}
use Rattle.sched_state.specs.declared.runs.Run.{Run}
use Rattle.sched_state.proofs.NameLemmas.{find_any}
use Rattle.sched_model.specs.Schedule.{Schedule, graph_among, graph_named, has_runs}
use Rattle.sched_model.specs.Settle.{settle}
use Rattle.sched_model.specs.Handout.{hand_out}
use Rattle.sched_model.specs.Jobs.{job_at, handed}
use Rattle.sched_model.specs.NamedRuns.{NamedRun, named_by_tick, queued_run, insert_runs, add_runs}
use Rattle.sched_model.specs.Changes.{load_graph, set_now, set_paused, report, restart}
use Rattle.sched_model.specs.Causes.{open_try, has_too_many_graphs, is_full_with, is_unknown_graph}
use Rattle.sched_model.specs.Sound.{IsSound, Says, AllSay}
use Rattle.sched_laws.proofs.LoadLemmas.{load_again}
use Rattle.sched_events.specs.Events.{named_by, set_back_by, count_in, change_by, leaves_more_by, load_result, IsInRange}
use Rattle.sched_events.specs.Causes.{exceeds, unknown_pool, unfit, differs, disturbed, refused_text, refused_change, refused}
use Rattle.sched_events.specs.Outcomes.{unnamed, IsRefusal, IsShown}
use Rattle.sched_events.specs.Steps.{step, id_of, answer_to}
use Rattle.sched_events.specs.SettledAndSound.{IsSoundAndSaid, IsSettledAndSound}
use Rattle.sched_events.specs.declared.answers.Answer.{Answer}
use Rattle.sched_events.specs.declared.answers.RunId.{RunId}
use Rattle.sched_events.specs.declared.events.Event.{Event}
use Rattle.sched_events.specs.declared.events.Event.TheVariants.{Load, Tick, Pause, Unpause, Report, Restart, Replace}
use Rattle.sched_events.specs.declared.refusals.Refusal.{Refusal}
use Rattle.sched_events.specs.declared.refusals.Refusal.TheVariants as refusal
use Rattle.sched_events.proofs.AcceptLemmas.{change_kept}
use Rattle.sched_events.proofs.StepLemmas.{added_sound, step_kept}
use Rattle.sched_core.specs.Changes.{Planned}
use Rattle.sched_core.specs.Plans.{IsPlanned, no_runs, run_id}
use Rattle.sched_core.specs.Inside.{StandsAt, IsTaken, IsUnfit, unfit_text}
use Rattle.sched_core.proofs.GraphLemmas.{found_at}

-- ---- causes
abbrev three : Bool → Option DagFault → Option (List ℕ) → Option Refusal
three a f p = first_some (when a (refusal.GraphFault TooMany) ∷ option_map refusal.DagFault f ∷ option_map refusal.UnknownPool p ∷ [])

abbrev two : Bool → Bool → Option Refusal
two b c = first_some (when b refusal.TooManyGraphs ∷ when c refusal.GraphDiffers ∷ [])

-- none lies in the file of a text that has a graph
unfit_none : (a : Schedule) (text : List ℕ) (dag : Dag) → IsTaken a text dag → unfit a dag.spec ≡ None
unfit_none a text dag t =
    let none : first_fault dag.spec.tasks ≡ None = faultless dag.spec dag t.says.checked in
    ap (λ b. three b (first_fault dag.spec.tasks) (unknown_pool a dag.spec)) t.fits ∙ (ap (λ f. three false f (unknown_pool a dag.spec)) none ∙ ap (three false None) t.pools)

pub unfit_pool : (a : Schedule) (text : List ℕ) (dag : Dag) (pool : List ℕ) → Says text dag → exceeds a.limits dag.spec ≡ false → unknown_pool a dag.spec ≡ Some pool
    → unfit_text a (graph_of text) ≡ Some (refusal.UnknownPool pool)
unfit_pool a text dag pool says fits unknown =
    let none : first_fault dag.spec.tasks ≡ None = faultless dag.spec dag says.checked in
    ap (unfit_text a) says.read
    ∙ (ap (λ b. three b (first_fault dag.spec.tasks) (unknown_pool a dag.spec)) fits
    ∙ (ap (λ f. three false f (unknown_pool a dag.spec)) none ∙ ap (three false None) unknown))

-- a cause that lies in the file is the first against a load, and against another text for a graph that is there
first_text : (a : Schedule) (text : List ℕ) (q : Refusal) (r : Result GraphSpec GraphFault) → unfit_text a r ≡ Some q → refused_text a text r ≡ Some q
first_text a text q (Err fault) e = e
first_text a text q (Ok spec) e = ap (λ o. first_some (o ∷ when (has_too_many_graphs a spec.dag_id) refusal.TooManyGraphs ∷ when (differs a text spec) refusal.GraphDiffers ∷ [])) e

first_change : (a : Schedule) (text : List ℕ) (q : Refusal) (r : Result GraphSpec GraphFault) → unfit_text a r ≡ Some q → refused_change a text r ≡ Some q
first_change a text q (Err fault) e = e
first_change a text q (Ok spec) e = ap (λ o. first_some (o ∷ when (is_unknown_graph a spec.dag_id) refusal.UnknownGraph ∷ cond (differs a text spec) (disturbed a (dag_of spec)) None ∷ [])) e

shown_too : (text : List ℕ) (r : Refusal) → IsShown (Load text) r → IsShown (Replace text) r
shown_too text (refusal.DagFault fault) s = s
shown_too text r s = tt

pub unfit_load : (a : Schedule) (text : List ℕ) (r : Refusal) → IsUnfit a text r → IsRefusal a (Load text) r
unfit_load a text r (inl memory) = inl memory
unfit_load a text r (inr f) = inr (record { first = first_text a text (unnamed r) (graph_of text) f.first; shown = f.shown })

pub unfit_replace : (a : Schedule) (text : List ℕ) (r : Refusal) → IsUnfit a text r → IsRefusal a (Replace text) r
unfit_replace a text r (inl memory) = inl memory
unfit_replace a text r (inr f) = inr (record { first = first_change a text (unnamed r) (graph_of text) f.first; shown = shown_too text r f.shown })

-- what is left of the causes against a text that has a graph
causes : (a : Schedule) (text : List ℕ) (dag : Dag) → IsTaken a text dag → refused a (Load text) ≡ two (has_too_many_graphs a dag.spec.dag_id) (differs a text dag.spec)
causes a text dag t =
    ap (refused_text a text) t.says.read
    ∙ ap (λ o. first_some (o ∷ when (has_too_many_graphs a dag.spec.dag_id) refusal.TooManyGraphs ∷ when (differs a text dag.spec) refusal.GraphDiffers ∷ [])) (unfit_none a text dag t)

-- and against another text for a graph that is there
causes_there : (a : Schedule) (text : List ℕ) (dag : Dag) → IsTaken a text dag
    → refused a (Replace text) ≡ first_some (when (is_unknown_graph a dag.spec.dag_id) refusal.UnknownGraph ∷ cond (differs a text dag.spec) (disturbed a (dag_of dag.spec)) None ∷ [])
causes_there a text dag t =
    ap (refused_change a text) t.says.read
    ∙ ap (λ o. first_some (o ∷ when (is_unknown_graph a dag.spec.dag_id) refusal.UnknownGraph ∷ cond (differs a text dag.spec) (disturbed a (dag_of dag.spec)) None ∷ [])) (unfit_none a text dag t)

none_of : (b c : Bool) → b ≡ false → c ≡ false → two b c ≡ None
none_of b c e f = rw (e, f) refl

is_none-not : {X : Type 0} (o : Option X) → is_none o ≡ not (is_some o)
is_none-not None = refl
is_none-not (Some x) = refl

unnamed_graph : (a : Schedule) (id : List ℕ) → list_any (λ (g : LoadedGraph). same g.dag.spec.dag_id id) a.graphs ≡ false → graph_named a id ≡ None
unnamed_graph a id unknown = elim (graph_named a id) as (λ o. is_some o ≡ false → o ≡ None) [
  | None ↦ λ e. refl
  | Some g ↦ λ e. absurd (true≢false e)
] (find_any (λ (g : LoadedGraph). same g.dag.spec.dag_id id) a.graphs ∙ unknown)

pub refused_full : (a : Schedule) (text : List ℕ) (dag : Dag) → IsTaken a text dag
    → list_any (λ (g : LoadedGraph). same g.dag.spec.dag_id dag.spec.dag_id) a.graphs ≡ false → a.limits.graphs ≤ length a.graphs → refused a (Load text) ≡ Some refusal.TooManyGraphs
refused_full a text dag taken unknown full =
    let none = unnamed_graph a dag.spec.dag_id unknown in
    let no_room : nat_le a.limits.graphs (length a.graphs) ≡ true = le-leb _ _ full in
    causes a text dag taken
    ∙ (ap (λ (o : Option LoadedGraph). two (is_none o && nat_le a.limits.graphs (length a.graphs)) (differs a text dag.spec)) none
    ∙ ap (λ b. two b (differs a text dag.spec)) no_room)

pub accepted_new : (a : Schedule) (text : List ℕ) (dag : Dag) → IsTaken a text dag
    → list_any (λ (g : LoadedGraph). same g.dag.spec.dag_id dag.spec.dag_id) a.graphs ≡ false → nat_le a.limits.graphs (length a.graphs) ≡ false → refused a (Load text) ≡ None
accepted_new a text dag taken unknown room =
    let none = unnamed_graph a dag.spec.dag_id unknown in
    causes a text dag taken
    ∙ none_of _ _ (ap (λ (o : Option LoadedGraph). is_none o && nat_le a.limits.graphs (length a.graphs)) none ∙ room)
    (ap (λ (o : Option LoadedGraph). holds_at (λ (g : LoadedGraph). not (same g.text text)) o && has_runs a dag.spec.dag_id) none)

pub refused_unknown : (a : Schedule) (text : List ℕ) (dag : Dag) → IsTaken a text dag → list_any (λ (g : LoadedGraph). same g.dag.spec.dag_id dag.spec.dag_id) a.graphs ≡ false
    → refused a (Replace text) ≡ Some refusal.UnknownGraph
refused_unknown a text dag taken unknown =
    causes_there a text dag taken
    ∙ ap (λ (o : Option LoadedGraph). first_some (when (is_none o) refusal.UnknownGraph ∷ cond (differs a text dag.spec) (disturbed a (dag_of dag.spec)) None ∷ [])) (unnamed_graph a dag.spec.dag_id unknown)

-- of a graph that is there
pub known_is : (gs : List LoadedGraph) (id : List ℕ) (i : ℕ) (g : LoadedGraph) → StandsAt id gs i → g ≡ get_or gs i g → (slice_get gs i ≡ Some g) × (same g.dag.spec.dag_id id ≡ true)
known_is gs id i g stands read =
    let at : slice_get gs i ≡ Some g = slice_get-get_or gs i g stands.below ∙ ap (λ x. Some x) (sym read) in
    let c : ◌≡◌ {A = Option LoadedGraph} (Some stands.graph) (Some g) = sym stands.there ∙ at in
    let is : stands.graph ≡ g = cc in
    (at, ap (λ (k : LoadedGraph). same k.dag.spec.dag_id id) (sym is) ∙ stands.named)

known_causes : (a : Schedule) (text : List ℕ) (dag : Dag) (i : ℕ) (g : LoadedGraph) → IsSoundAndSaid a → IsTaken a text dag
    → slice_get a.graphs i ≡ Some g → same g.dag.spec.dag_id dag.spec.dag_id ≡ true → refused a (Load text) ≡ two false (not (same g.text text) && has_runs a dag.spec.dag_id)
known_causes a text dag i g kept taken at named =
    let found = found_at dag.spec.dag_id a.graphs i g at named kept.sound.graphs_by_id in
    causes a text dag taken
    ∙ ap (λ (o : Option LoadedGraph). two (is_none o && nat_le a.limits.graphs (length a.graphs)) (holds_at (λ (k : LoadedGraph). not (same k.text text)) o && has_runs a dag.spec.dag_id)) found

-- the first of one
pub one_left : (o : Option Refusal) → first_some (o ∷ []) ≡ o
one_left None = refl
one_left (Some r) = refl

pub known_change : (a : Schedule) (text : List ℕ) (dag : Dag) (i : ℕ) (g : LoadedGraph) → IsSoundAndSaid a → IsTaken a text dag
    → slice_get a.graphs i ≡ Some g → same g.dag.spec.dag_id dag.spec.dag_id ≡ true → refused a (Replace text) ≡ cond (not (same g.text text) && has_runs a dag.spec.dag_id) (disturbed a dag) None
known_change a text dag i g kept taken at named =
    let found = found_at dag.spec.dag_id a.graphs i g at named kept.sound.graphs_by_id in
    causes_there a text dag taken
    ∙ (ap (λ (o : Option LoadedGraph). first_some (when (is_none o) refusal.UnknownGraph ∷ cond (holds_at (λ (k : LoadedGraph). not (same k.text text)) o && has_runs a dag.spec.dag_id) (disturbed a (dag_of dag.spec)) None ∷ [])) found
    ∙ (one_left (cond (not (same g.text text) && has_runs a dag.spec.dag_id) (disturbed a (dag_of dag.spec)) None)
    ∙ ap (λ (d : Dag). cond (not (same g.text text) && has_runs a dag.spec.dag_id) (disturbed a d) None) (sym taken.says.checked.is)))

pub accepted_same : (a : Schedule) (text : List ℕ) (dag : Dag) (i : ℕ) (g : LoadedGraph) → IsSoundAndSaid a → IsTaken a text dag
    → slice_get a.graphs i ≡ Some g → same g.dag.spec.dag_id dag.spec.dag_id ≡ true → same g.text text ≡ true → refused a (Load text) ≡ None
accepted_same a text dag i g kept taken at named text_is =
    known_causes a text dag i g kept taken at named ∙ ap (λ b. two false (not b && has_runs a dag.spec.dag_id)) text_is

pub refused_differs : (a : Schedule) (text : List ℕ) (dag : Dag) (i : ℕ) (g : LoadedGraph) → IsSoundAndSaid a → IsTaken a text dag
    → slice_get a.graphs i ≡ Some g → same g.dag.spec.dag_id dag.spec.dag_id ≡ true → same g.text text ≡ false → has_runs a dag.spec.dag_id ≡ true → refused a (Load text) ≡ Some refusal.GraphDiffers
refused_differs a text dag i g kept taken at named other runs =
    known_causes a text dag i g kept taken at named
    ∙ (ap (λ b. two false (not b && has_runs a dag.spec.dag_id)) other ∙ ap (λ b. two false b) runs)

pub accepted_other : (a : Schedule) (text : List ℕ) (dag : Dag) (i : ℕ) (g : LoadedGraph) → IsSoundAndSaid a → IsTaken a text dag
    → slice_get a.graphs i ≡ Some g → same g.dag.spec.dag_id dag.spec.dag_id ≡ true → same g.text text ≡ false → has_runs a dag.spec.dag_id ≡ false → refused a (Load text) ≡ None
accepted_other a text dag i g kept taken at named other runs =
    known_causes a text dag i g kept taken at named
    ∙ (ap (λ b. two false (not b && has_runs a dag.spec.dag_id)) other ∙ ap (λ b. two false b) runs)

-- ---- steps
-- where the next serial stays no try is handed out
pub no_jobs : (a b : Schedule) → b.next ≡ a.next → handed a b ≡ []
no_jobs a b e =
    let none : b.next - a.next ≡ 0 = omega (arith, e) in
    ap (λ (n : ℕ). flat_map (job_at b) (range_with_len a.next n)) none

-- what a text makes of the schedule, and that the text of a graph that is there makes nothing of it
pub load_change : (a : Schedule) (text : List ℕ) (dag : Dag) → Says text dag → load_graph text dag a ≡ add_runs (named_by (Load text) a) (change_by (Load text) a)
load_change a text dag said =
    sym (ap (λ r. load_result text r a) said.read
    ∙ (ap (λ (o : Option DagFault). let b : Schedule = elim o [ None ↦ load_graph text (dag_of dag.spec) a | Some f ↦ a ] in b) (faultless dag.spec dag said.checked)
    ∙ ap (λ (d : Dag). load_graph text d a) (sym said.checked.is)))

pub again_change : (a : Schedule) (text : List ℕ) (dag : Dag) (i : ℕ) (g : LoadedGraph) → IsSoundAndSaid a → Says text dag
    → slice_get a.graphs i ≡ Some g → same g.dag.spec.dag_id dag.spec.dag_id ≡ true → same g.text text ≡ true → a ≡ add_runs (named_by (Load text) a) (change_by (Load text) a)
again_change a text dag i g kept said there named text_is =
    let found = found_at dag.spec.dag_id a.graphs i g there named kept.sound.graphs_by_id in
    sym (load_again text dag a g kept.sound found text_is) ∙ load_change a text dag said

-- an accepted event's own change keeps what is held
pub change_held : (e : Event) (a b : Schedule) → IsInRange e → refused a e ≡ None → IsSoundAndSaid a → b ≡ change_by e a → IsSoundAndSaid b
change_held e a b ranged accepted kept is =
    let c = change_kept e a ranged accepted kept in
    record { sound = subst IsSound (sym is) c.0; said = subst (λ (s : Schedule). AllSay s.graphs) (sym is) c.1 }

-- ---- by a draft
-- the event is accepted, and the draft has what it changes of the schedule
pub record IsDraftOf (e : Event) (a b : Schedule) : Type 0 where
  pub ranged : IsInRange e
  pub accepted : refused a e ≡ None
  pub kept : IsSoundAndSaid a
  pub is : b ≡ add_runs (named_by e a) (change_by e a)

pub draft_is : {e : Event} {a b : Schedule} (c : Schedule) → IsDraftOf e a b → c ≡ b → IsDraftOf e a c
draft_is c d is = record { ranged = d.ranged; accepted = d.accepted; kept = d.kept; is = is ∙ d.is }

pub draft_sound : {e : Event} {a b : Schedule} → IsDraftOf e a b → IsSound b
draft_sound {e} {a} {b} d = subst IsSound (sym d.is) (added_sound e a d.ranged d.accepted d.kept (change_kept e a d.ranged d.accepted d.kept).0)

pub draft_kept : {e : Event} {a b : Schedule} → IsDraftOf e a b → IsSettledAndSound (hand_out (settle b))
unfolding step
draft_kept {e} {a} {b} d = subst (λ (c : Schedule). IsSettledAndSound (hand_out (settle c))) (sym d.is) (step_kept e a d.ranged d.accepted d.kept)

pub draft_said : {e : Event} {a b : Schedule} → IsDraftOf e a b → IsSoundAndSaid b
draft_said {e} {a} {b} d =
    record { sound = draft_sound d; said = subst (λ (s : Schedule). AllSay s.graphs) (sym d.is) (change_kept e a d.ranged d.accepted d.kept).1 }

-- a text that is taken in
pub load_draft : (a : Schedule) (text : List ℕ) (dag : Dag) → IsSoundAndSaid a → IsTaken a text dag → refused a (Load text) ≡ None → IsDraftOf (Load text) a (load_graph text dag a)
load_draft a text dag kept taken accepted = record { ranged = tt; accepted = accepted; kept = kept; is = load_change a text dag taken.says }

-- what an event answers, but for the tries that are handed out
abbrev pub told : Event → Schedule → Answer
told e a = record { made = map id_of (named_by e a); more = leaves_more_by e a; cleared = count_in (set_back_by e a) a; jobs = [] }

-- the parts of one, put into an answer that tells nothing
pub told_by : (e : Event) (a : Schedule) (q : Answer) (ids : List RunId) (more : Bool) (count : ℕ) → q ≡ no_runs → ids ≡ map id_of (named_by e a) → more ≡ leaves_more_by e a → count ≡ count_in (set_back_by e a) a
    → record q { made = ids; more = more; cleared = count } ≡ told e a
told_by e a q ids more count quiet ids_is more_is count_is =
    ap (λ (t : Answer). record t { made = ids; more = more; cleared = count }) quiet
    ∙ (ap (λ is. record no_runs { made = is; more = more; cleared = count }) ids_is
    ∙ (ap (λ m. record no_runs { made = map id_of (named_by e a); more = m; cleared = count }) more_is
    ∙ ap (λ n. record no_runs { made = map id_of (named_by e a); more = leaves_more_by e a; cleared = n }) count_is))

pub draft_planned : {e : Event} {a b : Schedule} (answer : Answer) (c : Planned) → IsDraftOf e a b → answer ≡ told e a
    → c ≡ record { before = a; after = hand_out (settle b); answer = record answer { jobs = handed a (hand_out (settle b)) } } → IsPlanned a e c
unfolding step
draft_planned {e} {a} {b} answer c d answer_is planned =
    let after : hand_out (settle b) ≡ step e a = ap (λ (s : Schedule). hand_out (settle s)) d.is in
    let given : ◌≡◌ {A = Answer} (record answer { jobs = handed a (hand_out (settle b)) }) (answer_to e a) =
    ap (λ (t : Answer). record t { jobs = handed a (hand_out (settle b)) }) answer_is ∙ ap (λ (s : Schedule). record (told e a) { jobs = handed a s }) after in
    subst (IsPlanned a e) (sym planned) (record { ranged = d.ranged; accepted = d.accepted; before = refl; after = after; answer = given })

-- the tick's causes
two_none : (b c : Bool) (x y : Refusal) → b ≡ false → c ≡ false → first_some (when b x ∷ when c y ∷ []) ≡ None
two_none b c x y e f = rw (e, f) refl

pub tick_accepted : (a : Schedule) (t : ℕ) → nat_lt t a.now ≡ false → is_full_with a (named_by_tick a t) ≡ false → refused a (Tick t) ≡ None
tick_accepted a t back full = two_none (nat_lt t a.now) (is_full_with a (named_by_tick a t)) (refusal.ClockBack a.now) refusal.RecordFull back full

-- the runs of names are those names
pub ids_named : (a : Schedule) (ns : List NamedRun) → map run_id (map (queued_run a) ns) ≡ map id_of ns
ids_named a [] = refl
ids_named a (n ∷ ns) = ap (λ ids. id_of n ∷ ids) (ids_named a ns)

-- the report's causes
pub not_in_flight : (a : Schedule) (serial : ℕ) (stage : Stage) → None ≡ open_try a serial → refused a (Report serial stage) ≡ Some (refusal.NotInFlight serial)
not_in_flight a serial stage none =
    ap (λ (o : Option Try). first_some (when (is_none o) (refusal.NotInFlight serial) ∷ when (not (is_none o) && is_none (option_and_then (report_try stage a.now) o)) (refusal.OutOfTurn serial) ∷ [])) (sym none)

pub out_of_turn : (a : Schedule) (serial : ℕ) (stage : Stage) (t : Try) → Some t ≡ open_try a serial → is_some (report_try stage a.now t) ≡ false → refused a (Report serial stage) ≡ Some (refusal.OutOfTurn serial)
out_of_turn a serial stage t there turn =
    ap (λ (o : Option Try). first_some (when (is_none o) (refusal.NotInFlight serial) ∷ when (not (is_none o) && is_none (option_and_then (report_try stage a.now) o)) (refusal.OutOfTurn serial) ∷ [])) (sym there)
    ∙ ap (λ b. first_some (when b (refusal.OutOfTurn serial) ∷ [])) (is_none-not (report_try stage a.now t) ∙ ap not turn)

pub in_turn : (a : Schedule) (serial : ℕ) (stage : Stage) (t : Try) → Some t ≡ open_try a serial → is_some (report_try stage a.now t) ≡ true → refused a (Report serial stage) ≡ None
in_turn a serial stage t there turn =
    ap (λ (o : Option Try). first_some (when (is_none o) (refusal.NotInFlight serial) ∷ when (not (is_none o) && is_none (option_and_then (report_try stage a.now) o)) (refusal.OutOfTurn serial) ∷ [])) (sym there)
    ∙ ap (λ b. first_some (when b (refusal.OutOfTurn serial) ∷ [])) (is_none-not (report_try stage a.now t) ∙ ap not turn)

-- ---- pauses
-- the causes against both
pub pause_unknown : (a : Schedule) (id : List ℕ) → is_none (graph_named a id) ≡ true → when (is_none (graph_named a id)) refusal.UnknownGraph ≡ Some refusal.UnknownGraph
pause_unknown a id e = ap (λ b. when b refusal.UnknownGraph) e

pub pause_accepted : (a : Schedule) (id : List ℕ) → is_none (graph_named a id) ≡ false → when (is_none (graph_named a id)) refusal.UnknownGraph ≡ None
pause_accepted a id e = ap (λ b. when b refusal.UnknownGraph) e

none_copied : {X : Type 0} (o : Option (Bor X)) → is_none (option_copied o) ≡ is_none o
none_copied None = refl
none_copied (Some x) = refl

twice : (b : Bool) → not (not b) ≡ b
twice true = refl
twice false = refl

-- whether the graph that was looked up is there
pub looked_up : (a : Schedule) (gs : List LoadedGraph) (id : List ℕ) (o : Option (Bor LoadedGraph)) (b : Bool) → gs ≡ a.graphs → option_copied o ≡ graph_among gs id → is_some o ≡ not b
    → is_none (graph_named a id) ≡ b
looked_up a gs id o b same_graphs looked is =
    ap (λ (ks : List LoadedGraph). is_none (graph_among ks id)) (sym same_graphs) ∙ (ap is_none (sym looked) ∙ (none_copied o ∙ (ap not is ∙ twice b)))

-- ---- what the drafts of events are
pub tick_draft : (a d e b : Schedule) (t : ℕ) (rs : List Run) → d ≡ a → e ≡ set_now t d → rs ≡ map (queued_run d) (named_by_tick d t) → b ≡ record e { runs = insert_runs rs e.runs }
    → b ≡ add_runs (named_by (Tick t) a) (change_by (Tick t) a)
tick_draft a d e b t rs draft clock named added =
    added
    ∙ (ap (λ (s : Schedule). record s { runs = insert_runs rs s.runs }) clock
    ∙ (ap (λ (ns : List Run). record (set_now t d) { runs = insert_runs ns d.runs }) named
    ∙ ap (λ (s : Schedule). add_runs (named_by_tick s t) (set_now t s)) draft))

pub report_draft : (a d b : Schedule) (serial : ℕ) (stage : Stage) → d ≡ a → b ≡ report serial stage d → b ≡ add_runs (named_by (Report serial stage) a) (change_by (Report serial stage) a)
report_draft a d b serial stage draft is = is ∙ ap (report serial stage) draft

pub pause_draft : (a d : Schedule) (id : List ℕ) → d ≡ set_paused id true a → d ≡ add_runs (named_by (Pause id) a) (change_by (Pause id) a)
pause_draft a d id is = is

pub unpause_draft : (a d : Schedule) (id : List ℕ) → d ≡ set_paused id false a → d ≡ add_runs (named_by (Unpause id) a) (change_by (Unpause id) a)
unpause_draft a d id is = is

pub restart_draft : (a d b : Schedule) (lanes : ℕ) → d ≡ a → b ≡ restart lanes d → b ≡ add_runs (named_by (Restart lanes) a) (change_by (Restart lanes) a)
restart_draft a d b lanes draft is = is ∙ ap (restart lanes) draft

-- the restart's cause
pub restart_accepted : (a : Schedule) (lanes : ℕ) → nat_lt a.limits.lanes lanes ≡ false → refused a (Restart lanes) ≡ None
restart_accepted a lanes few = ap (λ b. when b refusal.LanesTooMany) few

-- the ids of the runs that a tick names, and how many they are
pub tick_ids : (a d : Schedule) (t : ℕ) (rs : List Run) (ids : List RunId) → d ≡ a → rs ≡ map (queued_run d) (named_by_tick d t) → ids ≡ map run_id rs → ids ≡ map id_of (named_by (Tick t) a)
tick_ids a d t rs ids draft named is =
    is ∙ (ap (map run_id) named ∙ (ap (λ (s : Schedule). map run_id (map (queued_run s) (named_by_tick s t))) draft ∙ ids_named a (named_by_tick a t)))

pub tick_length : (a d : Schedule) (t : ℕ) (rs : List Run) → d ≡ a → rs ≡ map (queued_run d) (named_by_tick d t) → length rs ≡ length (named_by_tick a t)
tick_length a d t rs draft named = ap length named ∙ (length-map (named_by_tick d t) (queued_run d) ∙ ap (λ (s : Schedule). length (named_by_tick s t)) draft)
