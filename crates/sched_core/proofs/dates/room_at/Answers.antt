use Rattle.std.proofs.Common.{◌≡◌, ◌∙◌, ◌<◌, ◌≤◌, ℕ, List, refl, ap, sym, length, Some, slice_get, arith}
use Rattle.std.proofs.lemmas.Option.{slice_get_read}
use Rattle.std.proofs.lemmas.Result.{on_ok_weaker}
use Rattle.run_lists.specs.Edits.{added_run}
use Rattle.run_lists.specs.declared.edits.Edit.{Edit}
use Rattle.run_planner.specs.Index.{Index}
use Rattle.sched_state.specs.declared.graphs.LoadedGraph.{LoadedGraph}
use Rattle.sched_state.specs.declared.runs.Run.{Run}
use Rattle.sched_core.specs.Dates.{added_of}
use Rattle.sched_core.proofs.DateLemmas.{adds_to, adds_unknown, room_before, room_made, room_none, same_set, the_run}
use Rattle.sched_core.proofs.dates.room_at.Goals as goal

pub returns-then-is_behind_one-clause-room : goal.returns-then-is_behind_one-clause-room
returns-then-is_behind_one-clause-room c =
    let gs : List LoadedGraph = c.args.graphs.now in
    let es : List Edit = c.args.edits.now in
    let k : ℕ = c.args.place in
    let e : Edit = c.index-edits-place.result in
    let there : slice_get es k ≡ Some e = slice_get_read es (length es) k e refl c.requires.within c.index-edits-place.is in
    let r : Run = c.in-Some.run'.now in
    let is : Some r ≡ added_run e = c.in-Some.ensures in
    let xs : List Index = c.args.dates.now.items in
    room_before gs es k e r xs there is (c.is_behind_one.ensures c.if-is_behind_one.true) c.requires.so_far

pub returns-in_default-position_named-clause-room : goal.returns-in_default-position_named-clause-room
returns-in_default-position_named-clause-room c =
    let gs : List LoadedGraph = c.args.graphs.now in
    let es : List Edit = c.args.edits.now in
    let k : ℕ = c.args.place in
    let e : Edit = c.index-edits-place.result in
    let there : slice_get es k ≡ Some e = slice_get_read es (length es) k e refl c.requires.within c.index-edits-place.is in
    let r : Run = c.in-Some.run'.now in
    let is : Some r ≡ added_run e = c.in-Some.ensures in
    let xs : List Index = c.args.dates.now.items in
    room_none gs es k e xs there (adds_unknown gs e r is (sym c.in_default-position_named.ensures.position)) c.requires.so_far

pub returns-clause-dates : goal.returns-clause-dates
returns-clause-dates c = same_set c.args.dates.now.items c.in-Some-position_named.graph c.index_mut.result.now c.reserve.new.self c.reserve.ensures.dates c.index_mut.ensures.value

pub returns-clause-room : goal.returns-clause-room
returns-clause-room c =
    let gs : List LoadedGraph = c.args.graphs.now in
    let es : List Edit = c.args.edits.now in
    let k : ℕ = c.args.place in
    let e : Edit = c.index-edits-place.result in
    let there : slice_get es k ≡ Some e = slice_get_read es (length es) k e refl c.requires.within c.index-edits-place.is in
    let r : Run = c.in-Some.run'.now in
    let is : Some r ≡ added_run e = c.in-Some.ensures in
    let xs : List Index = c.args.dates.now.items in
    let p : ℕ = c.in-Some-position_named.graph in
    let to = adds_to gs e r p c.requires.order is c.in-Some-position_named.ensures.within c.in-Some-position_named.ensures.position in
    let low : p < length gs = c.in-Some-position_named.ensures.within in
    let long : length xs ≡ length gs = c.requires.long in
    let inside : p < length xs = omega (arith, low, long) in
    let count : c.added_of.result ≡ added_of e.run.graph es = c.added_of.ensures ∙ ap (λ (q : Run). added_of q.graph es) (sym (the_run e r is).1) in
    on_ok_weaker c.reserve.result
    (λ (made : c.added_of.result ≤ c.reserve.new.self.room). room_made gs es k e p xs c.reserve.new.self there to inside (omega (arith, made, count)) c.requires.so_far)
    c.reserve.ensures.room
