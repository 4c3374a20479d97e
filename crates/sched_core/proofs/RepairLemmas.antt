-- What is planned for a backfill and for a clear.
use Rattle.std.proofs.Common.{◌≡◌, ◌∙◌, inl, inr, refl, sym, ap, subst, ℕ, ◌+◌, ◌-◌, ◌≤◌, List, [], ◌∷◌, Bool, true, false, map, length, nat_lt, Option, Some, None, Result, Ok, Err, option_map, option_and_then, arith}
use Rattle.std.proofs.lemmas.Bool.Decides.{nat_tests}
use Rattle.std.proofs.lemmas.List.{take_all}
use Rattle.graph_file.specs.Lists.{when, first_some}
use Rattle.sched_state.specs.declared.clearings.Clearing.{Clearing}
use Rattle.sched_state.specs.declared.runs.Run.{Run}
use Rattle.sched_model.specs.Causes.{is_unknown_graph, is_unknown_task, is_bad_span, is_full_with, least_in_flight}
use Rattle.sched_model.specs.Clearing.{Selection, cleared_by}
use Rattle.sched_model.specs.NamedRuns.{NamedRun, named_by_backfill, present_in, queued_run, add_runs, insert_runs}
use Rattle.sched_model.specs.Schedule.{Schedule}
use Rattle.sched_clearing.specs.Selections.{SelectionParts, IsClear, selection_of}
use Rattle.sched_creation.specs.ByHand.{IsBackfillOf}
use Rattle.sched_creation.specs.declared.backfills.Backfill.{Backfill as Found}
use Rattle.sched_events.specs.Causes.{in_flight, refused}
use Rattle.sched_events.specs.Events.{named_by, set_back_by, set_back, count_in, change_by}
use Rattle.sched_events.specs.Outcomes.{IsRefusal}
use Rattle.sched_events.specs.Steps.{id_of}
use Rattle.sched_events.specs.declared.answers.RunId.{RunId}
use Rattle.sched_events.specs.declared.events.Event.TheVariants.{Backfill, Clear}
use Rattle.sched_events.specs.declared.refusals.Refusal.{Refusal}
use Rattle.sched_events.specs.declared.refusals.Refusal.TheVariants as refusal
use Rattle.sched_core.specs.Plans.{run_id}
use Rattle.sched_core.specs.Repairs.{IsSetBack, reset_of, still_open}
use Rattle.sched_core.proofs.PlanLemmas.{ids_named}

-- a try without an end is the cause
flight_of : (P : Refusal → Type 0) (o : Option ℕ) (r : Refusal) → option_map refusal.InFlight o ≡ Some r → ((n : ℕ) → o ≡ Some n → P (refusal.InFlight n)) → P r
flight_of P None r e f = absurd (let c : ◌≡◌ {A = Option Refusal} None (Some r) = e in cc)
flight_of P (Some n) r e f =
    let c : ◌≡◌ {A = Option Refusal} (Some (refusal.InFlight n)) (Some r) = e in
    let is : refusal.InFlight n ≡ r = cc in
    subst P is (f n refl)

-- ---- the causes against a clear
abbrev clear_causes : Bool → Bool → Bool → Option Refusal → Option Refusal
clear_causes unknown none bad flight = first_some (when unknown refusal.UnknownGraph ∷ when none refusal.UnknownTask ∷ when bad refusal.BadSpan ∷ flight ∷ [])

by_clear : (a : Schedule) (c : Clearing) (unknown none bad : Bool) (flight : Option Refusal) → is_unknown_graph a c.graph ≡ unknown → is_unknown_task a c ≡ none → is_bad_span c.from c.to ≡ bad → in_flight a (Clear c) ≡ flight
    → refused a (Clear c) ≡ clear_causes unknown none bad flight
by_clear a c unknown none bad flight e f g h =
    ap (λ b. clear_causes b (is_unknown_task a c) (is_bad_span c.from c.to) (in_flight a (Clear c))) e
    ∙ (ap (λ b. clear_causes unknown b (is_bad_span c.from c.to) (in_flight a (Clear c))) f
    ∙ (ap (λ b. clear_causes unknown none b (in_flight a (Clear c))) g ∙ ap (clear_causes unknown none bad) h))

-- what it names, told of the schedule
pub cleared_is : (a d : Schedule) (c : Clearing) (n : SelectionParts) → d ≡ a → IsClear d c (Ok n) → IsClear a c (Ok n)
cleared_is a d c n draft h = subst (λ (s : Schedule). IsClear s c (Ok n)) draft h

clear_still : (a : Schedule) (c : Clearing) (n : SelectionParts) (o : Option Refusal) → IsClear a c (Ok n) → still_open (Some (selection_of n)) a ≡ o → in_flight a (Clear c) ≡ o
clear_still a c n o h e = subst (λ (m : Selection). still_open (Some m) a ≡ o) h.2 e

pub clear_waits : (a d b : Schedule) (c : Clearing) (n : SelectionParts) (r : Refusal) → d ≡ a → IsClear a c (Ok n) → nat_lt c.to c.from ≡ false → IsSetBack (Some (selection_of n)) d b (Err r) → IsRefusal a (Clear c) r
clear_waits a d b c n r draft h good (inl memory) = inl memory
clear_waits a d b c n r draft h good (inr e) =
    let flight : in_flight a (Clear c) ≡ Some r = clear_still a c n (Some r) h (ap (still_open (Some (selection_of n))) (sym draft) ∙ e) in
    flight_of (IsRefusal a (Clear c)) (least_in_flight a (cleared_by a c)) r flight
    (λ m f. inr (record { first = by_clear a c false false false (Some (refusal.InFlight m)) h.0 h.1 good (ap (option_map refusal.InFlight) f); shown = tt }))

-- ---- an accepted clear
pub record IsCleared (a : Schedule) (c : Clearing) (b : Schedule) (count : ℕ) : Type 0 where
  pub accepted : refused a (Clear c) ≡ None
  pub is : b ≡ add_runs (named_by (Clear c) a) (change_by (Clear c) a)
  pub count_is : count ≡ count_in (set_back_by (Clear c) a) a

pub clear_done : (a d b : Schedule) (c : Clearing) (n : SelectionParts) (count : ℕ) → d ≡ a → IsClear a c (Ok n) → nat_lt c.to c.from ≡ false → IsSetBack (Some (selection_of n)) d b (Ok count) → IsCleared a c b count
clear_done a d b c n count draft h good s =
    let mine : IsSetBack (Some (cleared_by a c)) a b (Ok count) =
    subst (λ (m : Selection). IsSetBack (Some m) a b (Ok count)) h.2 (subst (λ (e : Schedule). IsSetBack (Some (selection_of n)) e b (Ok count)) draft s) in
    record { accepted = by_clear a c false false false None h.0 h.1 good mine.0; is = mine.1; count_is = mine.2 }

-- ---- the causes against a backfill
abbrev back_causes : Bool → Bool → Option Refusal → Bool → Option Refusal
back_causes unknown bad flight full = first_some (when unknown refusal.UnknownGraph ∷ when bad refusal.BadSpan ∷ flight ∷ when full refusal.RecordFull ∷ [])

by_back : (a : Schedule) (id : List ℕ) (from to : ℕ) (reset unknown bad : Bool) (flight : Option Refusal) (full : Bool) → is_unknown_graph a id ≡ unknown → is_bad_span from to ≡ bad → in_flight a (Backfill id from to reset) ≡ flight
    → is_full_with a (named_by_backfill a id from to) ≡ full → refused a (Backfill id from to reset) ≡ back_causes unknown bad flight full
by_back a id from to reset unknown bad flight full e f g h =
    ap (λ b. back_causes b (is_bad_span from to) (in_flight a (Backfill id from to reset)) (is_full_with a (named_by_backfill a id from to))) e
    ∙ (ap (λ b. back_causes unknown b (in_flight a (Backfill id from to reset)) (is_full_with a (named_by_backfill a id from to))) f
    ∙ (ap (λ b. back_causes unknown bad b (is_full_with a (named_by_backfill a id from to))) g ∙ ap (back_causes unknown bad flight) h))

-- what it names, told of the schedule
pub found_is : (a d : Schedule) (id : List ℕ) (from to most : ℕ) (b : Found) → d ≡ a → IsBackfillOf d id from to most (Some b) → IsBackfillOf a id from to most (Some b)
found_is a d id from to most b draft h = subst (λ (s : Schedule). IsBackfillOf s id from to most (Some b)) draft h

reset_is : (a : Schedule) (id : List ℕ) (from to : ℕ) (reset : Bool) → reset_of reset id (present_in a id from to) ≡ set_back_by (Backfill id from to reset) a
reset_is a id from to true = refl
reset_is a id from to false = refl

-- what has been set back, or was not, told of the schedule and of the event
reset_told : (a d e : Schedule) (id : List ℕ) (from to most : ℕ) (reset : Bool) (b : Found) (r : Result ℕ Refusal) → d ≡ a → IsBackfillOf a id from to most (Some b) → IsSetBack (reset_of reset id b.present.items) d e r
    → IsSetBack (set_back_by (Backfill id from to reset) a) a e r
reset_told a d e id from to most reset b r draft h s =
    subst (λ (m : Option Selection). IsSetBack m a e r) (ap (reset_of reset id) h.1.present ∙ reset_is a id from to reset) (subst (λ (x : Schedule). IsSetBack (reset_of reset id b.present.items) x e r) draft s)

back_refused : (a e : Schedule) (id : List ℕ) (from to most : ℕ) (reset : Bool) (b : Found) (r : Refusal) → IsBackfillOf a id from to most (Some b) → nat_lt to from ≡ false
    → IsSetBack (set_back_by (Backfill id from to reset) a) a e (Err r) → IsRefusal a (Backfill id from to reset) r
back_refused a e id from to most reset b r h good (inl memory) = inl memory
back_refused a e id from to most reset b r h good (inr waits) =
    flight_of (IsRefusal a (Backfill id from to reset)) (option_and_then (least_in_flight a) (set_back_by (Backfill id from to reset) a)) r waits
    (λ n f. inr (record {
      first = by_back a id from to reset false false (Some (refusal.InFlight n)) (is_full_with a (named_by_backfill a id from to)) h.0 good (ap (option_map refusal.InFlight) f) refl;
      shown = tt;
    }))

pub back_waits : (a d e : Schedule) (id : List ℕ) (from to most : ℕ) (reset : Bool) (b : Found) (r : Refusal) → d ≡ a → IsBackfillOf a id from to most (Some b) → nat_lt to from ≡ false
    → IsSetBack (reset_of reset id b.present.items) d e (Err r) → IsRefusal a (Backfill id from to reset) r
back_waits a d e id from to most reset b r draft h good s = back_refused a e id from to most reset b r h good (reset_told a d e id from to most reset b (Err r) draft h s)

-- ---- room for its runs
room_is : (most limit held wanted : ℕ) (b : Bool) → most ≡ limit - held → held ≤ limit → nat_lt most wanted ≡ b → nat_lt limit (held + wanted) ≡ b
room_is most limit held wanted true is few e = grind (arith, nat_tests, is, few, e)
room_is most limit held wanted false is few e = grind (arith, nat_tests, is, few, e)

pub back_room : (a : Schedule) (id : List ℕ) (from to most : ℕ) (b : Found) (more : Bool) → IsBackfillOf a id from to most (Some b) → most ≡ a.limits.runs - length a.runs → length a.runs ≤ a.limits.runs → b.more ≡ more
    → is_full_with a (named_by_backfill a id from to) ≡ more
back_room a id from to most b more h is few e = room_is most a.limits.runs (length a.runs) (length (named_by_backfill a id from to)) more is few (sym h.1.more ∙ e)

-- ---- an accepted backfill
pub record IsFilled (a : Schedule) (id : List ℕ) (from to : ℕ) (reset : Bool) (b : Schedule) (ids : List RunId) (count : ℕ) : Type 0 where
  pub accepted : refused a (Backfill id from to reset) ≡ None
  pub is : b ≡ add_runs (named_by (Backfill id from to reset) a) (change_by (Backfill id from to reset) a)
  pub ids_is : ids ≡ map id_of (named_by (Backfill id from to reset) a)
  pub count_is : count ≡ count_in (set_back_by (Backfill id from to reset) a) a

-- all of its runs
all_found : (a : Schedule) (id : List ℕ) (from to most : ℕ) (b : Found) → IsBackfillOf a id from to most (Some b) → b.more ≡ false → b.runs.items ≡ map (queued_run a) (named_by_backfill a id from to)
all_found a id from to most b h none =
    let ns : List NamedRun = named_by_backfill a id from to in
    let few : nat_lt most (length ns) ≡ false = sym h.1.more ∙ none in
    let fits : length ns ≤ most = grind (arith, nat_tests, few) in
    h.1.runs ∙ ap (map (queued_run a)) (take_all most ns fits)

add_back : (named : Option Selection) (a : Schedule) (ns : List NamedRun) → record (set_back named a) { runs = insert_runs (map (queued_run a) ns) (set_back named a).runs } ≡ add_runs ns (set_back named a)
add_back None a ns = refl
add_back (Some named) a ns = refl

pub back_done : (a d e b : Schedule) (id : List ℕ) (from to most : ℕ) (reset : Bool) (found : Found) (ids : List RunId) (count : ℕ) → d ≡ a → IsBackfillOf a id from to most (Some found) → nat_lt to from ≡ false
    → IsSetBack (reset_of reset id found.present.items) d e (Ok count) → found.more ≡ false → is_full_with a (named_by_backfill a id from to) ≡ false
    → b ≡ record e { runs = insert_runs found.runs.items e.runs } → ids ≡ map run_id found.runs.items → IsFilled a id from to reset b ids count
back_done a d e b id from to most reset found ids count draft h good s none few is ids_is =
    let over = reset_told a d e id from to most reset found (Ok count) draft h s in
    let ns : List NamedRun = named_by_backfill a id from to in
    let runs : found.runs.items ≡ map (queued_run a) ns = all_found a id from to most found h none in
    record {
      accepted = by_back a id from to reset false false None false h.0 good over.0 few;
      is = is
          ∙ (ap (λ (rs : List Run). record e { runs = insert_runs rs e.runs }) runs
          ∙ (ap (λ (x : Schedule). record x { runs = insert_runs (map (queued_run a) ns) x.runs }) over.1 ∙ add_back (set_back_by (Backfill id from to reset) a) a ns));
      ids_is = ids_is ∙ (ap (map run_id) runs ∙ ids_named a ns);
      count_is = over.2;
    }
