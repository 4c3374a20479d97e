-- What is planned for a run by hand.
use Rattle.std.proofs.Common.{◌≡◌, ◌∙◌, refl, sym, ap, subst, ℕ, ◌+◌, List, [], ◌∷◌, Bool, false, map, length, nat_lt, Option}
use Rattle.std.proofs.lemmas.List.{length-map}
use Rattle.graph_file.specs.Lists.{when, first_some}
use Rattle.sched_state.specs.declared.runs.Run.{Run}
use Rattle.sched_model.specs.Causes.{is_unknown_graph, is_full_with}
use Rattle.sched_model.specs.NamedRuns.{NamedRun, named_by_hand, queued_run, add_runs, insert_runs}
use Rattle.sched_model.specs.Schedule.{Schedule, has_run_at}
use Rattle.sched_model.specs.Sound.{is_empty}
use Rattle.sched_events.specs.Causes.{has_no_interval, refused}
use Rattle.sched_events.specs.Events.{named_by, change_by}
use Rattle.sched_events.specs.Steps.{id_of}
use Rattle.sched_events.specs.declared.answers.RunId.{RunId}
use Rattle.sched_events.specs.declared.events.Event.TheVariants.{Trigger}
use Rattle.sched_events.specs.declared.refusals.Refusal.{Refusal}
use Rattle.sched_events.specs.declared.refusals.Refusal.TheVariants as refusal
use Rattle.sched_core.specs.Plans.{run_id}
use Rattle.sched_core.proofs.PlanLemmas.{ids_named}

-- ---- the causes
abbrev causes : Bool → Bool → Bool → Bool → Option Refusal
causes unknown exists none full = first_some (when unknown refusal.UnknownGraph ∷ when exists refusal.RunExists ∷ when none refusal.NoInterval ∷ when full refusal.RecordFull ∷ [])

by_causes : (a : Schedule) (id : List ℕ) (unknown exists none full : Bool) → is_unknown_graph a id ≡ unknown → has_run_at a id a.now ≡ exists → has_no_interval a id ≡ none → is_full_with a (named_by_hand a id) ≡ full
    → refused a (Trigger id) ≡ causes unknown exists none full
by_causes a id unknown exists none full e f g h =
    ap (λ b. causes b (has_run_at a id a.now) (has_no_interval a id) (is_full_with a (named_by_hand a id))) e
    ∙ (ap (λ b. causes unknown b (has_no_interval a id) (is_full_with a (named_by_hand a id))) f
    ∙ (ap (λ b. causes unknown exists b (is_full_with a (named_by_hand a id))) g ∙ ap (causes unknown exists none) h))

-- ---- there is one
one_is : (a : Schedule) (run : Run) (ns : List NamedRun) → run ∷ [] ≡ map (queued_run a) ns → (length ns ≡ 1) × (is_empty ns ≡ false)
one_is a run [] e = absurd (let c : ◌≡◌ {A = List Run} (run ∷ []) [] = e in cc)
one_is a run (n ∷ ns) e = (sym (length-map (n ∷ ns) (queued_run a)) ∙ ap length (sym e), refl)

-- a record that is full with it, and one that is not
pub hand_full : (a d : Schedule) (id : List ℕ) (run : Run) → d ≡ a → (is_unknown_graph d id ≡ false) × ((has_run_at d id d.now ≡ false) × (run ∷ [] ≡ map (queued_run d) (named_by_hand d id)))
    → (full : Bool) → nat_lt a.limits.runs (length a.runs + 1) ≡ full → refused a (Trigger id) ≡ causes false false false full
hand_full a d id run draft h full e =
    let g = subst (λ (s : Schedule). (is_unknown_graph s id ≡ false) × ((has_run_at s id s.now ≡ false) × (run ∷ [] ≡ map (queued_run s) (named_by_hand s id)))) draft h in
    let one = one_is a run (named_by_hand a id) g.1.1 in
    by_causes a id false false false full g.0 g.1.0 one.1 (ap (λ n. nat_lt a.limits.runs (length a.runs + n)) one.0 ∙ e)

pub trigger_draft : (a d b : Schedule) (id : List ℕ) (run : Run) (runs : List Run) → d ≡ a → run ∷ [] ≡ map (queued_run d) (named_by_hand d id) → runs ≡ run ∷ [] → b ≡ record d { runs = insert_runs runs d.runs }
    → b ≡ add_runs (named_by (Trigger id) a) (change_by (Trigger id) a)
trigger_draft a d b id run runs draft named made is =
    is ∙ (ap (λ (rs : List Run). record d { runs = insert_runs rs d.runs }) (made ∙ named) ∙ ap (λ (s : Schedule). add_runs (named_by_hand s id) s) draft)

pub trigger_ids : (a d : Schedule) (id : List ℕ) (run : Run) (runs : List Run) (ids : List RunId) → d ≡ a → run ∷ [] ≡ map (queued_run d) (named_by_hand d id) → runs ≡ run ∷ [] → ids ≡ map run_id runs
    → ids ≡ map id_of (named_by (Trigger id) a)
trigger_ids a d id run runs ids draft named made is =
    is ∙ (ap (map run_id) (made ∙ named) ∙ (ap (λ (s : Schedule). map run_id (map (queued_run s) (named_by_hand s id))) draft ∙ ids_named a (named_by_hand a id)))
