use Rattle.std.proofs.Common.{◌≡◌, ◌∙◌, ◌<◌, ◌||◌, ◌==◌, ℕ, List, refl, ap, sym, length, Some, slice_get, arith}
use Rattle.std.proofs.lemmas.Option.{slice_get_read}
use Rattle.run_lists.specs.Edits.{added_run}
use Rattle.run_lists.specs.declared.edits.Edit.{Edit}
use Rattle.run_planner.specs.Index.{Index, has_date}
use Rattle.sched_state.specs.declared.graphs.LoadedGraph.{LoadedGraph}
use Rattle.sched_state.specs.declared.runs.Run.{Run}
use Rattle.sched_core.proofs.DateLemmas.{adds_to, adds_unknown, noted_made, noted_none, room_there, the_run}
use Rattle.sched_core.proofs.dates.note_at.Goals as goal

pub returns-in_default-position_named-clause-noted : goal.returns-in_default-position_named-clause-noted
returns-in_default-position_named-clause-noted c =
    let gs : List LoadedGraph = c.args.graphs.now in
    let es : List Edit = c.args.edits.now in
    let k : ℕ = c.args.place in
    let e : Edit = c.index-edits-place.result in
    let there : slice_get es k ≡ Some e = slice_get_read es (length es) k e refl c.requires.within c.index-edits-place.is in
    let r : Run = c.in-Some.run'.now in
    let is : Some r ≡ added_run e = c.in-Some.ensures in
    let xs : List Index = c.args.dates.now.items in
    noted_none gs es k e xs there (adds_unknown gs e r is (sym c.in_default-position_named.ensures.position))

pub note_one-requires : goal.note_one-requires
note_one-requires c =
    let gs : List LoadedGraph = c.args.graphs.now in
    let es : List Edit = c.args.edits.now in
    let k : ℕ = c.args.place in
    let e : Edit = c.index-edits-place.result in
    let there : slice_get es k ≡ Some e = slice_get_read es (length es) k e refl c.requires.within c.index-edits-place.is in
    let r : Run = c.in-Some.run'.now in
    let is : Some r ≡ added_run e = c.in-Some.ensures in
    let xs : List Index = c.args.dates.now.items in
    let p : ℕ = c.in-Some-position_named.graph in
    let to = adds_to gs e r p c.requires.order is c.in-Some-position_named.ensures.within c.in-Some-position_named.ensures.position in
    let low : p < length gs = c.in-Some-position_named.ensures.within in
    let long : length xs ≡ length gs = c.requires.long in
    let inside : p < length xs = omega (arith, low, long) in
    room_there gs es k e p xs c.index_mut.result.now there to c.requires.room (slice_get_read xs (length xs) p c.index_mut.result.now refl inside c.index_mut.ensures.value)

pub returns-clause-noted : goal.returns-clause-noted
returns-clause-noted c =
    let gs : List LoadedGraph = c.args.graphs.now in
    let es : List Edit = c.args.edits.now in
    let k : ℕ = c.args.place in
    let e : Edit = c.index-edits-place.result in
    let there : slice_get es k ≡ Some e = slice_get_read es (length es) k e refl c.requires.within c.index-edits-place.is in
    let r : Run = c.in-Some.run'.now in
    let is : Some r ≡ added_run e = c.in-Some.ensures in
    let xs : List Index = c.args.dates.now.items in
    let p : ℕ = c.in-Some-position_named.graph in
    let to = adds_to gs e r p c.requires.order is c.in-Some-position_named.ensures.within c.in-Some-position_named.ensures.position in
    let low : p < length gs = c.in-Some-position_named.ensures.within in
    let long : length xs ≡ length gs = c.requires.long in
    let inside : p < length xs = omega (arith, low, long) in
    let x : Index = c.index_mut.result.now in
    noted_made gs es k e p xs x c.note_one.new.index there to (slice_get_read xs (length xs) p x refl inside c.index_mut.ensures.value)
    (λ d. c.note_one.ensures.dates d ∙ ap (λ (q : Run). q.logical == d || has_date x.dates d) (sym (the_run e r is).1))
    c.note_one.ensures.room
