-- The runs that edits make are as many more as they add.
use Rattle.std.proofs.Common.{◌≡◌, ◌∙◌, refl, sym, ap, ℕ, ◌+◌, ◌≤◌, List, [], ◌∷◌, Bool, true, false, cond, length, map, Option, Some, None, option_map, slice_get, arith}
use Rattle.std.proofs.lemmas.Option.{slice_get-map}
use Rattle.std.proofs.lemmas.List.Sums.{sum_by-cons}
use Rattle.run_lists.specs.declared.edits.Edit.{Edit}
use Rattle.run_lists.specs.Edits.{AreEditsOf, edited, added, added_by}
use Rattle.run_lists.specs.Rooms.{all_added}
use Rattle.run_lists.proofs.OverlayLemmas.{edited_long}
use Rattle.sched_state.specs.declared.runs.Run.{Run}
use Rattle.sched_model.specs.Schedule.{Schedule}
use Rattle.run_planner.specs.Index.{Index}
use Rattle.sched_state.specs.declared.graphs.LoadedGraph.{LoadedGraph}
use Rattle.sched_laws.proofs.SettleLemmas.{map_some}
use Rattle.sched_core.specs.Changes.{count_of}
use Rattle.sched_core.specs.Dates.{added_of, HaveRoomWith}
use Rattle.sched_core.specs.declared.changes.GraphChange.{GraphChange}
use Rattle.sched_core.proofs.DateLemmas.{runs_after}
use Rattle.sched_core.specs.Effects.{AreOfRuns, applied, with_change, with_rest}
use Rattle.sched_core.specs.declared.changes.Effect.{Effect}
use Rattle.sched_core.specs.declared.changes.Rest.{Rest}

one_added : (b : Bool) → added b ≡ cond b 1 0
one_added true = refl
one_added false = refl

added_all : (es : List Edit) → added_by (length es) es ≡ all_added es
added_all [] = refl
added_all (e ∷ es) =
    ap (λ n. n + added_by (length es) es) (one_added e.is_new) ∙ (ap (λ n. cond e.is_new 1 0 + n) (added_all es) ∙ sym (sum_by-cons (λ (d : Edit). cond d.is_new 1 0) e es))

pub edited_length : (es : List Edit) (rs : List Run) → AreEditsOf rs es → length (edited es rs) ≡ length rs + all_added es
edited_length es rs h = edited_long es rs h ∙ ap (λ n. length rs + n) (added_all es)

-- so there is room for the runs after an effect
pub runs_fit : (e : Effect) (a : Schedule) (room : ℕ) → AreOfRuns e.rest a → ((n : Rest) → e.rest ≡ Some n → all_added n.edits ≤ room) → length (applied e a).runs ≤ length a.runs + room
runs_fit e a room of h = fit e.rest of h
  where
    fit : (o : Option Rest) → AreOfRuns o a → ((n : Rest) → o ≡ Some n → all_added n.edits ≤ room) → length (with_rest o (with_change e.graphs a)).runs ≤ length a.runs + room
    fit None of h = omega arith
    fit (Some n) of h = let l : length (edited n.edits a.runs) ≡ length a.runs + all_added n.edits = edited_length n.edits a.runs of in let f : all_added n.edits ≤ room = h n refl in omega arith

-- and where there is room, their edits find it
pub edits_fit : (n : Rest) (a b : Schedule) (room : ℕ) → AreEditsOf a.runs n.edits → b.runs ≡ edited n.edits a.runs → length b.runs ≤ length a.runs + room → all_added n.edits ≤ room
edits_fit n a b room of runs h =
    let l : length (edited n.edits a.runs) ≡ length a.runs + all_added n.edits = edited_length n.edits a.runs of in let e : length b.runs ≡ length (edited n.edits a.runs) = ap length runs in omega (arith, l, e, h)

-- ---- room for dates
-- where the indices have it for the runs that are added, there is room for the runs of each graph
pub dates_fit : (o : Option Rest) (g : GraphChange) (a : Schedule) (gs : List LoadedGraph) (xs : List Index) → AreOfRuns o a → HaveRoomWith gs o xs → (n : ℕ) (h : LoadedGraph) (room : ℕ) → slice_get gs n ≡ Some h
    → slice_get (map (λ (x : Index). x.room) xs) n ≡ Some room → count_of h.dag.spec.dag_id (with_rest o (with_change g a)).runs ≤ count_of h.dag.spec.dag_id a.runs + room
dates_fit None g a gs xs of fit n h room there now = omega arith
dates_fit (Some m) g a gs xs of fit n h room there now =
    let id : List ℕ = h.dag.spec.dag_id in
    let x = map_some (λ (v : Index). v.room) (slice_get xs n) room (sym (slice_get-map (λ (v : Index). v.room) xs n) ∙ now) in
    let k : added_of id m.edits ≤ x.0.room = fit n h x.0 there x.1 in
    let is : x.0.room ≡ room = x.2 in
    let r : count_of id (edited m.edits a.runs) ≡ added_of id m.edits + count_of id a.runs = runs_after id m.edits a.runs of in
    omega (arith, k, is, r)

-- and back
pub dates_found : (o : Option Rest) (g : GraphChange) (a : Schedule) (gs : List LoadedGraph) (xs : List Index) → AreOfRuns o a
    → ((n : ℕ) (h : LoadedGraph) (room : ℕ) → slice_get gs n ≡ Some h → slice_get (map (λ (x : Index). x.room) xs) n ≡ Some room → count_of h.dag.spec.dag_id (with_rest o (with_change g a)).runs ≤ count_of h.dag.spec.dag_id a.runs + room)
    → HaveRoomWith gs o xs
dates_found None g a gs xs of fit = tt
dates_found (Some m) g a gs xs of fit = λ n h x there now.
    let id : List ℕ = h.dag.spec.dag_id in
    let f : count_of id (edited m.edits a.runs) ≤ count_of id a.runs + x.room = fit n h x.room there (slice_get-map (λ (v : Index). v.room) xs n ∙ ap (option_map (λ (v : Index). v.room)) now) in
    let r : count_of id (edited m.edits a.runs) ≡ added_of id m.edits + count_of id a.runs = runs_after id m.edits a.runs of in
    omega (arith, f, r)
