-- What is planned for a mark.
use Rattle.std.proofs.Common.{◌≡◌, ◌∙◌, refl, sym, ap, subst, inl, inr, ℕ, List, [], ◌∷◌, Bool, true, false, not, Option, None, Some, option_map, Result, Ok, Err}
use Rattle.graph_file.specs.Lists.{first_some, when}
use Rattle.sched_model.specs.Causes.{is_unknown_graph, is_unknown_task, least_in_flight}
use Rattle.sched_model.specs.Clearing.{cleared_by}
use Rattle.sched_model.specs.Marking.{mark, one_of}
use Rattle.sched_model.specs.Schedule.{Schedule, has_run_at}
use Rattle.sched_clearing.specs.Marking.{IsMarkedAs, mark_fault}
use Rattle.sched_clearing.specs.declared.marking.MarkFault.{MarkFault}
use Rattle.sched_clearing.specs.declared.marking.MarkFault.TheVariants as fault
use Rattle.sched_events.specs.Causes.{refused}
use Rattle.sched_events.specs.Outcomes.{IsRefusal}
use Rattle.sched_events.specs.SettledAndSound.{IsSoundAndSaid}
use Rattle.sched_events.specs.declared.events.Event.TheVariants.{Mark}
use Rattle.sched_events.specs.declared.refusals.Refusal.{Refusal}
use Rattle.sched_events.specs.declared.refusals.Refusal.TheVariants as refusal
use Rattle.sched_core.specs.Repairs.{IsMark, mark_refusal}
use Rattle.sched_core.proofs.PlanLemmas.{IsDraftOf}

-- the first cause is the first fault
causes_are : (unknown none : Bool) (flight : Option ℕ) (there : Bool)
    → first_some (when unknown refusal.UnknownGraph ∷ when none refusal.UnknownTask ∷ option_map refusal.InFlight flight ∷ when (not there) refusal.UnknownRun ∷ [])
    ≡ option_map mark_refusal (first_some (when unknown fault.UnknownGraph ∷ when none fault.UnknownTask ∷ option_map fault.InFlight flight ∷ when (not there) fault.UnknownRun ∷ []))
causes_are true none flight there = refl
causes_are false true flight there = refl
causes_are false false (Some serial) there = refl
causes_are false false None true = refl
causes_are false false None false = refl

refused_by : (a : Schedule) (id : List ℕ) (date : ℕ) (task : List ℕ) → refused a (Mark id date task) ≡ option_map mark_refusal (mark_fault a (one_of id date task))
refused_by a id date task = causes_are (is_unknown_graph a id) (is_unknown_task a (one_of id date task)) (least_in_flight a (cleared_by a (one_of id date task))) (has_run_at a id date)

pub mark_made : (a b : Schedule) (id : List ℕ) (date : ℕ) (task : List ℕ) → IsMarkedAs a id date task b (Ok tt) → IsMark a id date task b (Ok tt)
mark_made a b id date task h = (refused_by a id date task ∙ ap (option_map mark_refusal) h.0, h.1)

some_refusal : (a : Schedule) (id : List ℕ) (date : ℕ) (task : List ℕ) (f : MarkFault) → mark_fault a (one_of id date task) ≡ Some f → refused a (Mark id date task) ≡ Some (mark_refusal f)
some_refusal a id date task f e = refused_by a id date task ∙ ap (option_map mark_refusal) e

pub mark_waits : (a b : Schedule) (id : List ℕ) (date : ℕ) (task : List ℕ) (f : MarkFault) → IsMarkedAs a id date task b (Err f) → IsRefusal a (Mark id date task) (mark_refusal f)
mark_waits a b id date task f (inl memory) = inl (ap mark_refusal memory)
mark_waits a b id date task fault.UnknownGraph (inr e) = inr (record { first = some_refusal a id date task fault.UnknownGraph e; shown = tt })
mark_waits a b id date task fault.UnknownTask (inr e) = inr (record { first = some_refusal a id date task fault.UnknownTask e; shown = tt })
mark_waits a b id date task (fault.InFlight serial) (inr e) = inr (record { first = some_refusal a id date task (fault.InFlight serial) e; shown = tt })
mark_waits a b id date task fault.UnknownRun (inr e) = inr (record { first = some_refusal a id date task fault.UnknownRun e; shown = tt })
mark_waits a b id date task fault.Memory (inr e) = inl refl

-- the draft, told of the schedule
pub mark_draft : (a d b : Schedule) (id : List ℕ) (date : ℕ) (task : List ℕ) → IsSoundAndSaid a → d ≡ a → IsMark d id date task b (Ok tt) → IsDraftOf (Mark id date task) a b
mark_draft a d b id date task kept draft h =
    record { ranged = tt; accepted = ap (λ (s : Schedule). refused s (Mark id date task)) (sym draft) ∙ h.0; kept = kept; is = h.1 ∙ ap (λ (s : Schedule). mark id date task s) draft }

pub mark_refused : (a d : Schedule) (id : List ℕ) (date : ℕ) (task : List ℕ) (b : Schedule) (r : Refusal) → d ≡ a → IsMark d id date task b (Err r) → IsRefusal a (Mark id date task) r
mark_refused a d id date task b r draft h = subst (λ (s : Schedule). IsRefusal s (Mark id date task) r) draft h
