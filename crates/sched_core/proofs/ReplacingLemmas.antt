-- Another text for a graph that has runs: what the draft is, what its tries without an end take, and which cause stands against it first.
use Rattle.std.proofs.Common.{◌≡◌, ◌∙◌, refl, sym, ap, subst, ℕ, ◌≤◌, List, [], ◌∷◌, Bool, true, false, not, length, map, min, nat_lt, Option, Some, None, option_map, unwrap_or, get_or, cond, ◌&&◌, inl, inr, slice_get, true≢false}
use Rattle.sched_state.specs.cron_timetable.declared.timetables.Interval.{Interval}
use Rattle.graph_file.specs.Lists.{when, first_some}
use Rattle.graph_file.specs.declared.graph_specs.GraphSpec.{GraphSpec}
use Rattle.dag_check.specs.Graphs.{Dag, dag_of}
use Rattle.dag_check.specs.declared.faults.DagFault.{DagFault}
use Rattle.dag_check.proofs.FirstLemmas.{faultless}
use Rattle.pool_book.specs.Limits.{most_taken}
use Rattle.run_planner.specs.Anew.{wanted_anew}
use Rattle.run_planner.specs.Due.{considered, due_intervals, wanted_intervals, without_runs}
use Rattle.run_planner.specs.Index.{Index, has_date}
use Rattle.run_planner.specs.Spans.{starts}
use Rattle.sched_state.specs.Lists.{same}
use Rattle.sched_state.specs.declared.graphs.LoadedGraph.{LoadedGraph}
use Rattle.sched_model.specs.Causes.{least_moved, lost_task, reached, redone, resized_task}
use Rattle.sched_model.specs.Changes.{new_graph, taken_in, with_graph, load_graph}
use Rattle.sched_model.specs.NamedRuns.{add_runs}
use Rattle.sched_model.specs.Replacing.{refitted, replace_graph}
use Rattle.sched_model.specs.Schedule.{Schedule, dag_named, dates_of, no_dag, has_runs}
use Rattle.sched_model.specs.Sound.{Says, is_sound_graph}
use Rattle.sched_laws.proofs.RefitLemmas.{active_stays, in_flight_stays, occupied_stays}
use Rattle.sched_laws.proofs.ReplaceLemmas.{said_taken, replace_again, replace_loads}
use Rattle.sched_creation.specs.Dates.{HasDates}
use Rattle.sched_creation.proofs.IndexLemmas.{alike_dates}
use Rattle.sched_creation.proofs.NamingLemmas.{filter_same}
use Rattle.sched_draft.specs.Books.{IsBookOf}
use Rattle.sched_draft.specs.Parts.{with_other}
use Rattle.sched_handout.specs.Active.{count_of}
use Rattle.sched_handout.specs.Occupied.{AreOccupied}
use Rattle.sched_handout.specs.declared.occupied.Occupied.{Occupied}
use Rattle.sched_events.specs.Causes.{disturbed, refused}
use Rattle.sched_events.specs.Events.{change_by, named_by, replace_result}
use Rattle.sched_events.specs.SettledAndSound.{IsSoundAndSaid}
use Rattle.sched_events.specs.declared.events.Event.TheVariants.{Replace}
use Rattle.sched_events.specs.declared.refusals.Refusal.{Refusal}
use Rattle.sched_events.specs.declared.refusals.Refusal.TheVariants as refusal
use Rattle.sched_events.proofs.AcceptLemmas.{fit_sound, undisturbed}
use Rattle.sched_events.specs.Outcomes.{unnamed, IsRefusal, IsShown}
use Rattle.sched_draft.specs.Drafts.{DraftValue}
use Rattle.record_writing.specs.Before.{KeepDags}
use Rattle.record_writing.proofs.PremiseLemmas.{other_kept}
use Rattle.sched_core.specs.Books.{IsCounted}
use Rattle.sched_core.specs.Inside.{IsTaken, StandsAt}
use Rattle.sched_core.specs.Replaced.{TakeAlike, with_other_graph, IsDisturbance, OwnsRunsOf}
use Rattle.sched_core.proofs.GraphLemmas.{found_at}
use Rattle.sched_core.proofs.OtherLemmas.{other_at}
use Rattle.sched_core.proofs.PlanLemmas.{known_is, IsDraftOf, known_change, one_left}
use Rattle.sched_core.proofs.TakeInLemmas.{taken_known}

-- the first of what may lie in the runs of a graph
abbrev four : Option ℕ → Option (List ℕ) → Option (List ℕ) → Option ℕ → Option Refusal
four moved lost resized again =
    first_some (option_map refusal.InFlight moved ∷ option_map refusal.OtherTasks lost ∷ option_map refusal.OtherSlots resized ∷ option_map refusal.Redoes again ∷ [])

-- ---- the draft
-- the graph that is there is the one that is found
pub dag_there : (a : Schedule) (id : List ℕ) (i : ℕ) (g : LoadedGraph) → IsSoundAndSaid a → StandsAt id a.graphs i → g ≡ get_or a.graphs i g → dag_named a id ≡ g.dag
dag_there a id i g kept stands read =
    let known = known_is a.graphs id i g stands read in
    ap (λ (o : Option LoadedGraph). unwrap_or (option_map (λ (h : LoadedGraph). h.dag) o) no_dag) (found_at id a.graphs i g known.0 known.1 kept.sound.graphs_by_id)

-- with the text that it takes in the schedule is that of the definition
pub replaced_is : (text : List ℕ) (dag : Dag) (a : Schedule) (i : ℕ) (old : LoadedGraph) → IsSoundAndSaid a → StandsAt dag.spec.dag_id a.graphs i → old ≡ get_or a.graphs i old → same old.text text ≡ false
    → with_other_graph (taken_in text dag old) a ≡ replace_graph text dag a
replaced_is text dag a i old kept stands read other =
    let known = known_is a.graphs dag.spec.dag_id i old stands read in
    let order = kept.sound.graphs_by_id in
    let graphs : with_other (Some (taken_in text dag old)) a.graphs ≡ with_graph text dag a.graphs =
    sym (other_at (taken_in text dag old) a.graphs i old known.0 known.1 order) ∙ taken_known text dag a.graphs i old stands read order other in
    ap (λ gs. let b : Schedule = record a { graphs = gs; runs = map (refitted a dag) a.runs } in b) graphs

-- and that of the event
pub replace_change : (a : Schedule) (text : List ℕ) (dag : Dag) → Says text dag → replace_graph text dag a ≡ add_runs (named_by (Replace text) a) (change_by (Replace text) a)
replace_change a text dag said =
    sym (ap (λ r. replace_result text r a) said.read
    ∙ (ap (λ (o : Option DagFault). let b : Schedule = elim o [ None ↦ replace_graph text (dag_of dag.spec) a | Some f ↦ a ] in b) (faultless dag.spec dag said.checked)
    ∙ ap (λ (d : Dag). replace_graph text d a) (sym said.checked.is)))

-- the text that the graph has already
pub same_draft : (a : Schedule) (text : List ℕ) (dag : Dag) (i : ℕ) (g : LoadedGraph) → IsSoundAndSaid a → IsTaken a text dag → StandsAt dag.spec.dag_id a.graphs i → g ≡ get_or a.graphs i g → same g.text text ≡ true
    → IsDraftOf (Replace text) a a
same_draft a text dag i g kept taken stands read alike =
    let known = known_is a.graphs dag.spec.dag_id i g stands read in
    let found = found_at dag.spec.dag_id a.graphs i g known.0 known.1 kept.sound.graphs_by_id in
    record {
      ranged = tt;
      accepted = known_change a text dag i g kept taken known.0 known.1 ∙ ap (λ b. cond (not b && has_runs a dag.spec.dag_id) (disturbed a dag) None) alike;
      kept = kept;
      is = sym (replace_again text dag a g kept.sound kept.said taken.says found alike) ∙ replace_change a text dag taken.says;
    }

-- what stands against another one
other_refused : (a : Schedule) (text : List ℕ) (dag : Dag) (i : ℕ) (g : LoadedGraph) (runs : Bool) → IsSoundAndSaid a → IsTaken a text dag → StandsAt dag.spec.dag_id a.graphs i → g ≡ get_or a.graphs i g → same g.text text ≡ false
    → has_runs a dag.spec.dag_id ≡ runs → refused a (Replace text) ≡ cond runs (disturbed a dag) None
other_refused a text dag i g runs kept taken stands read other is =
    let known = known_is a.graphs dag.spec.dag_id i g stands read in
    known_change a text dag i g kept taken known.0 known.1
    ∙ (ap (λ b. cond (not b && has_runs a dag.spec.dag_id) (disturbed a dag) None) other ∙ ap (λ b. cond b (disturbed a dag) None) is)

-- where the graph has no run it is a load
pub quiet_draft : (a : Schedule) (text : List ℕ) (dag : Dag) (i : ℕ) (g : LoadedGraph) → IsSoundAndSaid a → IsTaken a text dag → StandsAt dag.spec.dag_id a.graphs i → g ≡ get_or a.graphs i g → same g.text text ≡ false
    → has_runs a dag.spec.dag_id ≡ false → IsDraftOf (Replace text) a (load_graph text dag a)
quiet_draft a text dag i g kept taken stands read other none = record {
  ranged = tt;
  accepted = other_refused a text dag i g false kept taken stands read other none;
  kept = kept;
  is = sym (replace_loads text dag a none) ∙ replace_change a text dag taken.says;
}

-- where it has some, what lies in these stands against it
pub disturbs : (a : Schedule) (text : List ℕ) (dag : Dag) (i : ℕ) (g : LoadedGraph) → IsSoundAndSaid a → IsTaken a text dag → StandsAt dag.spec.dag_id a.graphs i → g ≡ get_or a.graphs i g → same g.text text ≡ false
    → has_runs a dag.spec.dag_id ≡ true → refused a (Replace text) ≡ disturbed a dag
disturbs a text dag i g kept taken stands read other runs = other_refused a text dag i g true kept taken stands read other runs

-- no refusal of these is the fault of a file, so each is shown as it is
disturbed_parts : (text : List ℕ) (i : Option ℕ) (t s : Option (List ℕ)) (m : Option ℕ) (r : Refusal) → four i t s m ≡ Some r → (unnamed r ≡ r) × IsShown (Replace text) r
disturbed_parts text (Some serial) t s m r e = subst (λ q. (unnamed q ≡ q) × IsShown (Replace text) q) (let c : ◌≡◌ {A = Option Refusal} (Some (refusal.InFlight serial)) (Some r) = e in let k : refusal.InFlight serial ≡ r = cc in k) (refl, tt)
disturbed_parts text None (Some task) s m r e = subst (λ q. (unnamed q ≡ q) × IsShown (Replace text) q) (let c : ◌≡◌ {A = Option Refusal} (Some (refusal.OtherTasks task)) (Some r) = e in let k : refusal.OtherTasks task ≡ r = cc in k) (refl, tt)
disturbed_parts text None None (Some task) m r e = subst (λ q. (unnamed q ≡ q) × IsShown (Replace text) q) (let c : ◌≡◌ {A = Option Refusal} (Some (refusal.OtherSlots task)) (Some r) = e in let k : refusal.OtherSlots task ≡ r = cc in k) (refl, tt)
disturbed_parts text None None None (Some moment) r e = subst (λ q. (unnamed q ≡ q) × IsShown (Replace text) q) (let c : ◌≡◌ {A = Option Refusal} (Some (refusal.Redoes moment)) (Some r) = e in let k : refusal.Redoes moment ≡ r = cc in k) (refl, tt)
disturbed_parts text None None None None r e = absurd (let c : ◌≡◌ {A = Option Refusal} None (Some r) = e in cc)

pub disturbance_is : (a : Schedule) (text : List ℕ) (dag : Dag) (r : Refusal) → refused a (Replace text) ≡ disturbed a dag → IsDisturbance a dag r → IsRefusal a (Replace text) r
disturbance_is a text dag r is (inl memory) = inl memory
disturbance_is a text dag r is (inr e) =
    let p = disturbed_parts text (least_moved a dag) (lost_task a dag) (resized_task a dag) (redone a dag.spec) r e in
    inr (record { first = is ∙ (e ∙ ap (λ q. Some q) (sym p.0)); shown = p.1 })

-- and where nothing stands against it, the draft is that of the event
pub replaced_draft : (a : Schedule) (text : List ℕ) (dag : Dag) (i : ℕ) (g : LoadedGraph) → IsSoundAndSaid a → IsTaken a text dag → StandsAt dag.spec.dag_id a.graphs i → g ≡ get_or a.graphs i g
    → ((h : LoadedGraph) → slice_get a.graphs i ≡ Some h → same h.text text ≡ false) → refused a (Replace text) ≡ None → IsDraftOf (Replace text) a (with_other_graph (taken_in text dag g) a)
replaced_draft a text dag i g kept taken stands read other accepted = record {
  ranged = tt;
  accepted = accepted;
  kept = kept;
  is = replaced_is text dag a i g kept stands read (other g (known_is a.graphs dag.spec.dag_id i g stands read).0) ∙ replace_change a text dag taken.says;
}

-- ---- what is taken
sound_new : (a : Schedule) (text : List ℕ) (dag : Dag) → IsTaken a text dag → is_sound_graph a (new_graph text dag) ≡ true
sound_new a text dag t =
    let is : dag ≡ dag_of dag.spec = t.says.checked.is in
    let says : Says text (dag_of dag.spec) = subst (Says text) is t.says in
    subst (λ (d : Dag). is_sound_graph a (new_graph text d) ≡ true) (sym is)
    (fit_sound a text dag.spec says (record { small = t.fits; faultless = faultless dag.spec dag t.says.checked; pools = t.pools }))

-- tries without an end take what they took
pub take_alike : (a : Schedule) (text : List ℕ) (dag : Dag) → IsSoundAndSaid a → IsTaken a text dag → disturbed a dag ≡ None → TakeAlike a (replace_graph text dag a)
take_alike a text dag kept t quiet =
    let u = undisturbed a dag quiet in
    let in_it = said_taken text dag a kept.said t.says in
    let new = sound_new a text dag t in
    record {
      in_flight = in_flight_stays text dag a in_it new u.lost kept.sound;
      occupied = λ name. occupied_stays text dag a name in_it new u.lost u.moved kept.sound;
      active = λ id. active_stays text dag a id in_it new u.lost kept.sound;
    }

pub replaced_alike : (a : Schedule) (text : List ℕ) (dag : Dag) (i : ℕ) (g : LoadedGraph) → IsSoundAndSaid a → IsTaken a text dag → StandsAt dag.spec.dag_id a.graphs i → g ≡ get_or a.graphs i g
    → ((h : LoadedGraph) → slice_get a.graphs i ≡ Some h → same h.text text ≡ false) → disturbed a dag ≡ None → TakeAlike a (with_other_graph (taken_in text dag g) a)
replaced_alike a text dag i g kept taken stands read other quiet =
    subst (TakeAlike a) (sym (replaced_is text dag a i g kept stands read (other g (known_is a.graphs dag.spec.dag_id i g stands read).0))) (take_alike a text dag kept taken quiet)

pub counted_alike : (a b : Schedule) → TakeAlike a b → IsCounted a → IsCounted b
counted_alike a b alike counted name = subst (λ n. n ≤ most_taken) (sym (alike.occupied name)) (counted name)

-- so the numbers stay true
pub occupied_alike : (a b : Schedule) (t u : Occupied) → TakeAlike a b → b.pools ≡ a.pools → u.in_flight ≡ t.in_flight → u.pools.pools ≡ t.pools.pools → u.active ≡ t.active → AreOccupied a t → AreOccupied b u
occupied_alike a b t u alike pools flight book active h = record {
  in_flight = flight ∙ (h.in_flight ∙ sym alike.in_flight);
  pools = subst (IsBookOf b) (sym book) (record {
    pools = h.pools.pools ∙ sym pools;
    taken = λ name p there. h.pools.taken name p there ∙ ap (λ n. min n most_taken) (sym (alike.occupied name));
  });
  active = λ id. ap (count_of id) active ∙ (h.active id ∙ sym (alike.active id));
}

-- ---- causes

pub first_lost : (a : Schedule) (dag : Dag) (task : List ℕ) → least_moved a dag ≡ None → lost_task a dag ≡ Some task → disturbed a dag ≡ Some (refusal.OtherTasks task)
first_lost a dag task moved e = ap (λ o. four o (lost_task a dag) (resized_task a dag) (redone a dag.spec)) moved ∙ ap (λ o. four None o (resized_task a dag) (redone a dag.spec)) e

pub first_resized : (a : Schedule) (dag : Dag) (task : List ℕ) → least_moved a dag ≡ None → lost_task a dag ≡ None → resized_task a dag ≡ Some task → disturbed a dag ≡ Some (refusal.OtherSlots task)
first_resized a dag task moved lost e =
    ap (λ o. four o (lost_task a dag) (resized_task a dag) (redone a dag.spec)) moved
    ∙ (ap (λ o. four None o (resized_task a dag) (redone a dag.spec)) lost ∙ ap (λ o. four None None o (redone a dag.spec)) e)

-- whether a tick would make a run anew
abbrev pub is_anew : Schedule → GraphSpec → Bool
is_anew a spec = nat_lt 0 (length (wanted_anew (dag_named a spec.dag_id).spec spec (reached a spec.dag_id) (dates_of a spec.dag_id)))

pub last_cause : (a : Schedule) (dag : Dag) → least_moved a dag ≡ None → lost_task a dag ≡ None → resized_task a dag ≡ None → disturbed a dag ≡ option_map refusal.Redoes (when (is_anew a dag.spec) (reached a dag.spec.dag_id))
last_cause a dag moved lost resized =
    ap (λ o. four o (lost_task a dag) (resized_task a dag) (redone a dag.spec)) moved
    ∙ (ap (λ o. four None o (resized_task a dag) (redone a dag.spec)) lost
    ∙ (ap (λ o. four None None o (redone a dag.spec)) resized ∙ one_left (option_map refusal.Redoes (redone a dag.spec))))

pub first_redone : (a : Schedule) (dag : Dag) → least_moved a dag ≡ None → lost_task a dag ≡ None → resized_task a dag ≡ None → is_anew a dag.spec ≡ true → disturbed a dag ≡ Some (refusal.Redoes (reached a dag.spec.dag_id))
first_redone a dag moved lost resized anew = last_cause a dag moved lost resized ∙ ap (λ b. option_map refusal.Redoes (when b (reached a dag.spec.dag_id))) anew

pub no_cause_left : (a : Schedule) (dag : Dag) → least_moved a dag ≡ None → lost_task a dag ≡ None → resized_task a dag ≡ None → is_anew a dag.spec ≡ false → disturbed a dag ≡ None
no_cause_left a dag moved lost resized anew = last_cause a dag moved lost resized ∙ ap (λ b. option_map refusal.Redoes (when b (reached a dag.spec.dag_id))) anew

-- which runs are wanted shows only which dates there are
wanted_alike : (g : GraphSpec) (t : ℕ) (xs ys : List ℕ) → ((d : ℕ) → has_date xs d ≡ has_date ys d) → wanted_intervals g t xs ≡ wanted_intervals g t ys
wanted_alike g t xs ys h = filter_same (λ (i : Interval). not (has_date xs i.start)) (λ (i : Interval). not (has_date ys i.start)) (λ i. ap not (h i.start)) (considered g.catchup (due_intervals g.schedule g.start_date g.end_date t))

anew_alike : (old new : GraphSpec) (t : ℕ) (xs ys : List ℕ) → ((d : ℕ) → has_date xs d ≡ has_date ys d) → wanted_anew old new t xs ≡ wanted_anew old new t ys
anew_alike old new t xs ys h =
    ap (λ is. without_runs (starts is) (wanted_intervals new t xs)) (wanted_alike old t xs ys h)
    ∙ ap (without_runs (starts (wanted_intervals old t ys))) (wanted_alike new t xs ys h)

-- so the index of the graph's runs tells it
pub anew_is : (a : Schedule) (dag old : Dag) (index : Index) (t : ℕ) (anew : Bool) → dag_named a dag.spec.dag_id ≡ old → HasDates dag.spec.dag_id a.runs index → t ≡ reached a dag.spec.dag_id
    → anew ≡ nat_lt 0 (length (wanted_anew old.spec dag.spec t index.dates)) → is_anew a dag.spec ≡ anew
anew_is a dag old index t anew there dates until is =
    let id : List ℕ = dag.spec.dag_id in
    ap (λ (d : Dag). nat_lt 0 (length (wanted_anew d.spec dag.spec (reached a id) (dates_of a id)))) there
    ∙ (ap (λ (n : ℕ). nat_lt 0 (length (wanted_anew old.spec dag.spec n (dates_of a id)))) (sym until)
    ∙ (ap (λ is. nat_lt 0 (length is)) (sym (anew_alike old.spec dag.spec t index.dates (dates_of a id) (alike_dates a id index dates))) ∙ sym is))

-- ---- rows
-- where the runs of the graph are touched, the graph of each other run is as it was
pub kept_dags : (k : LoadedGraph) (a : Schedule) (d : DraftValue) → d.content.graphs ≡ with_other (Some k) a.graphs → OwnsRunsOf k.dag.spec.dag_id d.content.runs d → KeepDags d.touched a d.content
kept_dags k a d graphs own =
    other_kept d.touched k a d.content graphs (λ n r there free.
    elim (same r.graph k.dag.spec.dag_id) as (λ b. same r.graph k.dag.spec.dag_id ≡ b → same r.graph k.dag.spec.dag_id ≡ false) [
      | true ↦ λ e. absurd (true≢false (sym (own n r there e) ∙ free))
      | false ↦ λ e. e
    ] refl)
