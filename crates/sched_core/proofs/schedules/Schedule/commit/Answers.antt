use Rattle.std.proofs.Common.{◌≡◌, ◌∙◌, ◌≤◌, ◌+◌, refl, ℕ, length, map, List, Option, Some, None, slice_get, true, ap, sym, subst, arith}
use Rattle.run_planner.specs.Index.{Index}
use Rattle.run_lists.specs.Edits.{AreEditsOf, edited}
use Rattle.sched_state.specs.declared.graphs.LoadedGraph.{LoadedGraph}
use Rattle.sched_state.specs.declared.runs.Run.{Run}
use Rattle.sched_model.specs.Schedule.{Schedule, graph_before}
use Rattle.sched_model.specs.Lists.{rises}
use Rattle.sched_ready.specs.Held.{AreShelvesOf}
use Rattle.sched_ready.specs.Patched.{patched}
use Rattle.sched_ready.proofs.PatchLemmas.{patched_long}
use Rattle.sched_ready.specs.Shelves.{ShelfValue}
use Rattle.sched_core.specs.Books.{IsHeldWith, IsKept, content_inside}
use Rattle.sched_creation.specs.Dates.{HaveDates}
use Rattle.sched_core.specs.Changes.{ScheduleValue, Planned, count_of}
use Rattle.sched_core.specs.Dates.{AreNoted, AreNotedWith, HaveRoomWith}
use Rattle.sched_core.specs.Inside.{IsLast}
use Rattle.sched_core.specs.Effects.{applied, AreOfRuns, HoldsAfter}
use Rattle.sched_core.specs.declared.changes.Effect.{Effect}
use Rattle.sched_core.specs.declared.changes.Rest.{Rest}
use Rattle.sched_core.specs.declared.schedules.Schedule.TheInside.{Inside}
use Rattle.sched_core.proofs.EffectLemmas.{done_held}
use Rattle.sched_core.proofs.RoomLemmas.{edits_fit, dates_found}
use Rattle.sched_core.proofs.DateLemmas.{dates_edited}
use Rattle.sched_core.proofs.schedules.Schedule.commit.Goals.{in-Some, in_default}
use Rattle.sched_core.proofs.schedules.Schedule.commit.Goals as goal

pub invariant_of-self : goal.invariant_of-self
invariant_of-self c =
    let a : Schedule = content_inside c.self.inside in
    let before : c.change.inside.before.value.content ≡ a = ap (λ (p : Planned). p.before) c.change.view_is ∙ (c.requires.planned ∙ sym (ap (λ (h : ScheduleValue). h.content) c.self.view_is)) in
    let e : Effect = c.change.inside.effect in
    let xs : List Index = c.self.inside.dates.items in
    let ys : List Index = c.note.new.dates.items in
    let ss : List ShelfValue = c.self.inside.shelves.items in
    let due : (f : Effect) → e ≡ f → HoldsAfter e.graphs (applied f a).now a.graphs (applied f a).runs c.put_all.new.shelves.items = λ f is.
    subst (λ (k : Effect). HoldsAfter e.graphs (applied k a).now a.graphs (applied k a).runs c.put_all.new.shelves.items) is
    (subst (HoldsAfter e.graphs (applied e a).now a.graphs (applied e a).runs) (sym c.put_all.ensures.shelves)
    (subst (λ (s : Schedule). AreShelvesOf s.now s.graphs s.runs ss → HoldsAfter e.graphs (applied e s).now s.graphs (applied e s).runs (patched e.patches.items ss)) before (c.change.invariant.shelves ss) c.self.invariant.shelves)) in
    let all : AreNotedWith a.graphs e.rest xs ys = subst (λ (gs : List LoadedGraph). AreNotedWith gs e.rest xs ys) c.deref.ensures.value c.note.ensures.noted in
    elim c.match-rest.branch [
      | in-Some w ↦
          let n = w.in-Some.rest in
          let f : Effect = record { graphs = e.graphs; patches = e.patches; rest = Some n } in
          let is : e ≡ f = ap (λ (o : Option Rest). let k : Effect = record { graphs = e.graphs; patches = e.patches; rest = o } in k) w.in-Some.is in
          let done = done_held e f c.change.inside.before.value.content a c.self.inside.occupied c.self.inside.is_settled c.change.invariant.keeps is before c.self.invariant.held in
          let of : AreEditsOf a.runs n.edits = subst (λ (s : Schedule). AreOfRuns (Some n) s) before (subst (λ (o : Option Rest). AreOfRuns o c.change.inside.before.value.content) w.in-Some.is c.change.invariant.edits) in
          let noted : AreNoted a.graphs n.edits xs ys = subst (λ (o : Option Rest). AreNotedWith a.graphs o xs ys) w.in-Some.is all in
          let dated : HaveDates a.graphs (edited n.edits a.runs) ys = dates_edited a.graphs a.runs n.edits xs ys of c.self.invariant.dates noted in
          let last : IsLast e.graphs (applied f a) = subst (λ (k : Effect). IsLast e.graphs (applied k a)) is (subst (λ (s : Schedule). IsLast e.graphs (applied e s)) before c.change.invariant.last) in
          subst (λ (i : Inside). IsKept (record i { is_settled = true })) (sym w.self-inside-is) (record {
            held = subst (λ (rs : List Run). IsHeldWith true (record (applied f a) { graphs = c.change_graphs.new.graphs.items; runs = rs }) n.occupied) (sym w.write.ensures.runs)
                (subst (λ (gs : List LoadedGraph). IsHeldWith true (record (applied f a) { graphs = gs }) n.occupied) (sym c.change_graphs.ensures.graphs) done);
            shelves = subst (λ (rs : List Run). AreShelvesOf n.clock c.change_graphs.new.graphs.items rs c.change_graphs.new.shelves.items) (sym w.write.ensures.runs)
                (c.change_graphs.ensures.shelves (applied f a) (due f is) last);
            dates = subst (λ (rs : List Run). HaveDates c.change_graphs.new.graphs.items rs c.change_graphs.new.dates.items) (sym w.write.ensures.runs) (c.change_graphs.ensures.dates (applied f a) dated last);
          })
      | in_default w ↦
          let f : Effect = record { graphs = e.graphs; patches = e.patches; rest = None } in
          let is : e ≡ f = ap (λ (o : Option Rest). let k : Effect = record { graphs = e.graphs; patches = e.patches; rest = o } in k) w.in_default.is in
          let done = done_held e f c.change.inside.before.value.content a c.self.inside.occupied c.self.inside.is_settled c.change.invariant.keeps is before c.self.invariant.held in
          let last : IsLast e.graphs (applied f a) = subst (λ (k : Effect). IsLast e.graphs (applied k a)) is (subst (λ (s : Schedule). IsLast e.graphs (applied e s)) before c.change.invariant.last) in
          subst (λ (i : Inside). IsKept (record i { is_settled = true })) (sym w.self-inside-is) (record {
            held = subst (λ (gs : List LoadedGraph). IsHeldWith true (record a { graphs = gs }) c.self.inside.occupied) (sym c.change_graphs.ensures.graphs) done;
            shelves = c.change_graphs.ensures.shelves (applied f a) (due f is) last;
            dates = c.change_graphs.ensures.dates (applied f a) (subst (HaveDates a.graphs a.runs) (sym (subst (λ (o : Option Rest). AreNotedWith a.graphs o xs ys) w.in_default.is all)) c.self.invariant.dates) last;
          })
    ]

pub write-requires-clause-edits : goal.write-requires-clause-edits
write-requires-clause-edits c =
    let a : Schedule = content_inside c.self.inside in
    let before : c.change.inside.before.value.content ≡ a = ap (λ (p : Planned). p.before) c.change.view_is ∙ (c.requires.planned ∙ sym (ap (λ (h : ScheduleValue). h.content) c.self.view_is)) in
    subst (λ (s : Schedule). AreOfRuns (Some c.in-Some.rest) s) before (subst (λ (o : Option Rest). AreOfRuns o c.change.inside.before.value.content) c.in-Some.is c.change.invariant.edits)

pub write-requires-clause-places : goal.write-requires-clause-places
write-requires-clause-places c =
    let a : Schedule = c.change.inside.before.value.content in
    let e : Effect = c.change.inside.effect in
    let f : Effect = record { graphs = e.graphs; patches = e.patches; rest = Some c.in-Some.rest } in
    let is : e ≡ f = ap (λ (o : Option Rest). let k : Effect = record { graphs = e.graphs; patches = e.patches; rest = o } in k) c.in-Some.is in
    let of : AreOfRuns (Some c.in-Some.rest) a = subst (λ (o : Option Rest). AreOfRuns o a) c.in-Some.is c.change.invariant.edits in
    let after : c.args.change.after ≡ applied f a = sym (ap (λ (p : Planned). p.after) c.change.view_is) ∙ ap (λ (k : Effect). applied k a) is in
    let was : c.args.change.before ≡ a = sym (ap (λ (p : Planned). p.before) c.change.view_is) in
    let room : c.args.self.now.room.runs ≡ c.self.inside.runs.room = sym (ap (λ (h : ScheduleValue). h.room.runs) c.self.view_is) in
    let fit : length c.args.change.after.runs ≤ length c.args.change.before.runs + c.args.self.now.room.runs = c.requires.room.runs in
    edits_fit c.in-Some.rest a (applied f a) c.self.inside.runs.room of refl
    (let x : length c.args.change.after.runs ≡ length (applied f a).runs = ap (λ (s : Schedule). length s.runs) after in let y : length c.args.change.before.runs ≡ length a.runs = ap (λ (s : Schedule). length s.runs) was in omega (arith, x, y, room, fit))

pub note-requires-clause-room : goal.note-requires-clause-room
note-requires-clause-room c =
    let a : Schedule = content_inside c.self.inside in
    let e : Effect = c.change.inside.effect in
    let xs : List Index = c.self.inside.dates.items in
    let before : c.change.inside.before.value.content ≡ a = ap (λ (p : Planned). p.before) c.change.view_is ∙ (c.requires.planned ∙ sym (ap (λ (h : ScheduleValue). h.content) c.self.view_is)) in
    let was : c.args.change.before ≡ a = sym (ap (λ (p : Planned). p.before) c.change.view_is) ∙ before in
    let after : c.args.change.after ≡ applied e a = sym (ap (λ (p : Planned). p.after) c.change.view_is) ∙ ap (applied e) before in
    let of : AreOfRuns e.rest a = subst (AreOfRuns e.rest) before c.change.invariant.edits in
    let rooms : c.args.self.now.room.dates ≡ map (λ (x : Index). x.room) xs = sym (ap (λ (h : ScheduleValue). h.room.dates) c.self.view_is) in
    let graphs : c.args.self.now.content.graphs ≡ a.graphs = sym (ap (λ (h : ScheduleValue). h.content.graphs) c.self.view_is) in
    let fit : (n : ℕ) (g : LoadedGraph) (room : ℕ) → slice_get a.graphs n ≡ Some g → slice_get (map (λ (x : Index). x.room) xs) n ≡ Some room → count_of g.dag.spec.dag_id (applied e a).runs ≤ count_of g.dag.spec.dag_id a.runs + room =
    subst (λ (p : Schedule). (n : ℕ) (g : LoadedGraph) (room : ℕ) → slice_get a.graphs n ≡ Some g → slice_get (map (λ (x : Index). x.room) xs) n ≡ Some room → count_of g.dag.spec.dag_id (applied e a).runs ≤ count_of g.dag.spec.dag_id p.runs + room) was
    (subst (λ (q : Schedule). (n : ℕ) (g : LoadedGraph) (room : ℕ) → slice_get a.graphs n ≡ Some g → slice_get (map (λ (x : Index). x.room) xs) n ≡ Some room → count_of g.dag.spec.dag_id q.runs ≤ count_of g.dag.spec.dag_id c.args.change.before.runs + room) after
    (subst (λ (gs : List LoadedGraph). (n : ℕ) (g : LoadedGraph) (room : ℕ) → slice_get gs n ≡ Some g → slice_get (map (λ (x : Index). x.room) xs) n ≡ Some room → count_of g.dag.spec.dag_id c.args.change.after.runs ≤ count_of g.dag.spec.dag_id c.args.change.before.runs + room) graphs
    (subst (λ (rs : List ℕ). (n : ℕ) (g : LoadedGraph) (room : ℕ) → slice_get c.args.self.now.content.graphs n ≡ Some g → slice_get rs n ≡ Some room → count_of g.dag.spec.dag_id c.args.change.after.runs ≤ count_of g.dag.spec.dag_id c.args.change.before.runs + room) rooms c.requires.room.dates))) in
    subst (λ (gs : List LoadedGraph). HaveRoomWith gs e.rest xs) (sym c.deref.ensures.value) (dates_found e.rest e.graphs a a.graphs xs of fit)

pub note-requires-clause-order : goal.note-requires-clause-order
note-requires-clause-order c = ap (rises graph_before) c.deref.ensures.value ∙ c.self.invariant.held.kept.sound.graphs_by_id

pub change_graphs-requires-clause-shelves : goal.change_graphs-requires-clause-shelves
change_graphs-requires-clause-shelves c =
    let ss : List ShelfValue = c.self.inside.shelves.items in
    ap (λ (xs : List ShelfValue). length xs) c.put_all.ensures.shelves ∙ (patched_long c.change.inside.effect.patches.items ss ∙ c.self.invariant.shelves.fit.long)
