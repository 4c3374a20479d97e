-- What follows of a backfill, of a clear and of a mark that are accepted.
use Rattle.std.proofs.Common.{◌≡◌, ◌∙◌, refl, ap, ℕ, ◌+◌, List, [], ◌∷◌, ◌++◌, flat_map, Bool, true, false, not, ◌&&◌, length, is_some, map, nat_le, nat_lt, Option, Some, None, option_and_then}
use Rattle.std.specs.List.{list_any}
use Rattle.std.proofs.lemmas.List.{length-map}
use Rattle.graph_file.specs.declared.task_specs.TaskSpec.{TaskSpec}
use Rattle.instance_machine.specs.Instances.{InstanceValue}
use Rattle.sched_state.specs.declared.clearings.Clearing.{Clearing}
use Rattle.sched_state.specs.declared.runs.Run.{Run}
use Rattle.sched_laws.specs.sched_model.Schedule.{Schedule, graph_named, has_run_at}
use Rattle.sched_laws.specs.sched_model.Causes.{is_unknown_graph, is_unknown_task, is_bad_span, is_full_with, least_in_flight}
use Rattle.sched_laws.specs.sched_model.Clearing.{Selection, clear, cleared_by, named_in, named_pairs, set_if, set_run}
use Rattle.sched_laws.specs.sched_model.Marking.{one_of}
use Rattle.sched_laws.specs.sched_model.NamedRuns.{NamedRun, is_for, named_by_backfill}
use Rattle.sched_laws.specs.sched_model.Sound.{IsSound, AllSay, is_moment, is_new, are_new}
use Rattle.sched_laws.proofs.ByHandLemmas.{backfill_new}
use Rattle.sched_laws.proofs.ClearLemmas.{clear_sound}
use Rattle.sched_laws.proofs.KeyLemmas.{clear_keys}
use Rattle.sched_events.specs.Causes.{refused}
use Rattle.sched_events.specs.Events.{set_back_by, set_back}
use Rattle.sched_events.specs.SettledAndSound.{IsSoundAndSaid}
use Rattle.sched_events.specs.declared.events.Event.TheVariants.{Backfill, Clear, Mark}
use Rattle.sched_events.specs.declared.refusals.Refusal.TheVariants as refusal
use Rattle.sched_events.proofs.CauseLemmas.{no_when, no_map, some_there}

-- ---- what is set back
-- nothing that it names has a try without an end
abbrev pub is_over : Option Selection → Schedule → Type 0
is_over named a = option_and_then (least_in_flight a) named ≡ None

pub set_back_kept : (named : Option Selection) (a : Schedule) → is_over named a → IsSoundAndSaid a → IsSound (set_back named a) × AllSay (set_back named a).graphs
set_back_kept None a over kept = (kept.sound, kept.said)
set_back_kept (Some named) a over kept = (clear_sound named a over kept.sound, kept.said)

pub set_back_dates : (named : Option Selection) (a : Schedule) (id : List ℕ) (date : ℕ) → has_run_at (set_back named a) id date ≡ has_run_at a id date
set_back_dates None a id date = refl
set_back_dates (Some named) a id date = clear_keys named a id date

-- ---- the runs that a backfill names beside it
still_new : (named : Selection) (a : Schedule) (ns : List NamedRun) → are_new (clear named a) ns ≡ are_new a ns
still_new named a [] = refl
still_new named a (n ∷ ns) =
    ap (λ b. ((is_some (graph_named a n.graph) && not b) && (is_moment n.logical && (is_moment n.interval.end && nat_le n.interval.start n.interval.end))) && (not (list_any (is_for n.graph n.logical) ns) && are_new (clear named a) ns)) (clear_keys named a n.graph n.logical)
    ∙ ap (λ b. is_new a n && (not (list_any (is_for n.graph n.logical) ns) && b)) (still_new named a ns)

pub set_back_new : (named : Option Selection) (a : Schedule) (ns : List NamedRun) → are_new (set_back named a) ns ≡ are_new a ns
set_back_new None a ns = refl
set_back_new (Some named) a ns = still_new named a ns

pub set_back_room : (named : Option Selection) (a : Schedule) (ns : List NamedRun) → is_full_with (set_back named a) ns ≡ is_full_with a ns
set_back_room None a ns = refl
set_back_room (Some named) a ns = ap (λ n. nat_lt a.limits.runs (n + length ns)) (length-map a.runs (set_run None a named))

-- ---- what is accepted
pub clear_over : (a : Schedule) (c : Clearing) → refused a (Clear c) ≡ None → is_over (set_back_by (Clear c) a) a
clear_over a c accepted =
    let known = no_when (is_unknown_graph a c.graph) _ _ accepted in
    let there = no_when (is_unknown_task a c) _ _ known.1 in
    let span = no_when (is_bad_span c.from c.to) _ _ there.1 in
    (no_map refusal.InFlight (option_and_then (least_in_flight a) (set_back_by (Clear c) a)) _ span.1).0

pub backfill_over : (a : Schedule) (id : List ℕ) (from to : ℕ) (reset : Bool) → refused a (Backfill id from to reset) ≡ None → is_over (set_back_by (Backfill id from to reset) a) a
backfill_over a id from to reset accepted =
    let known = no_when (is_unknown_graph a id) _ _ accepted in
    let span = no_when (is_bad_span from to) _ _ known.1 in
    (no_map refusal.InFlight (option_and_then (least_in_flight a) (set_back_by (Backfill id from to reset) a)) _ span.1).0

pub mark_over : (a : Schedule) (id : List ℕ) (date : ℕ) (task : List ℕ) → refused a (Mark id date task) ≡ None → least_in_flight a (cleared_by a (one_of id date task)) ≡ None
mark_over a id date task accepted =
    let known = no_when (is_unknown_graph a id) _ _ accepted in
    let placed = no_when (is_unknown_task a (one_of id date task)) _ _ known.1 in
    (no_map refusal.InFlight (least_in_flight a (cleared_by a (one_of id date task))) _ placed.1).0

-- its runs are new, and there is room for them
pub span_new : (a : Schedule) (id : List ℕ) (from to : ℕ) (reset : Bool) → refused a (Backfill id from to reset) ≡ None → IsSound a → are_new (set_back (set_back_by (Backfill id from to reset) a) a) (named_by_backfill a id from to) ≡ true
span_new a id from to reset accepted sound =
    let known = no_when (is_unknown_graph a id) _ _ accepted in
    set_back_new (set_back_by (Backfill id from to reset) a) a (named_by_backfill a id from to) ∙ backfill_new a id from to sound (some_there (graph_named a id) known.0)

pub span_room : (a : Schedule) (id : List ℕ) (from to : ℕ) (reset : Bool) → refused a (Backfill id from to reset) ≡ None → is_full_with (set_back (set_back_by (Backfill id from to reset) a) a) (named_by_backfill a id from to) ≡ false
span_room a id from to reset accepted =
    let known = no_when (is_unknown_graph a id) _ _ accepted in
    let span = no_when (is_bad_span from to) _ _ known.1 in
    let over = no_map refusal.InFlight (option_and_then (least_in_flight a) (set_back_by (Backfill id from to reset) a)) _ span.1 in
    set_back_room (set_back_by (Backfill id from to reset) a) a (named_by_backfill a id from to) ∙ (no_when (is_full_with a (named_by_backfill a id from to)) _ _ over.1).0

-- ---- repairs of nothing
none_cleared : (named : Selection) (a : Schedule) (rs : List Run) → flat_map (named_in a named) rs ≡ [] → map (set_run None a named) rs ≡ rs
none_cleared named a [] e = refl
none_cleared named a (r ∷ rs) e = elim (named_in a named r) as (λ es. es ++ flat_map (named_in a named) rs ≡ [] → set_if None a named r es ∷ map (set_run None a named) rs ≡ r ∷ rs) [
  | [] ↦ λ f. ap (λ (qs : List Run). r ∷ qs) (none_cleared named a rs f)
  | x ∷ xs ↦ λ f. absurd (let c : ◌≡◌ {A = List (TaskSpec × InstanceValue)} (x ∷ (xs ++ flat_map (named_in a named) rs)) [] = f in cc)
] e

-- a clear that names no instance changes nothing
pub clear_none : (named : Selection) (a : Schedule) → named_pairs a named ≡ [] → clear named a ≡ a
clear_none named a e = ap (λ (rs : List Run). record a { runs = rs }) (none_cleared named a a.runs e)
