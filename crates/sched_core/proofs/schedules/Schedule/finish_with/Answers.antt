use Rattle.std.proofs.Common.{◌≡◌, ◌∙◌, ◌-◌, inl, sym, ap, subst, List, flat_map, true}
use Rattle.std.specs.List.{range_with_len}
use Rattle.sched_model.specs.Schedule.{Schedule}
use Rattle.sched_model.specs.Settle.{settle}
use Rattle.sched_model.specs.Handout.{hand_out}
use Rattle.sched_model.specs.Jobs.{job_at, handed}
use Rattle.sched_model.specs.Sound.{IsSound}
use Rattle.sched_events.proofs.StepLemmas.{without_settled}
use Rattle.sched_handout.specs.Occupied.{AreOccupied}
use Rattle.sched_handout.specs.declared.occupied.Occupied.{Occupied}
use Rattle.sched_handout.specs.Noted.{NoneFrom}
use Rattle.sched_ready.specs.Held.{AreShelvesOf, IsLater}
use Rattle.sched_ready.specs.Patched.{ArePatches, patched}
use Rattle.sched_ready.specs.Shelves.{ShelfValue}
use Rattle.sched_ready.proofs.PatchLemmas.{patched_shelves}
use Rattle.sched_handout.proofs.JobLemmas.{sound_none}
use Rattle.sched_laws.proofs.SoundLemmas.{settle_sound, out_sound}
use Rattle.sched_draft.specs.Drafts.{DraftValue, SameDags}
use Rattle.sched_core.specs.Inside.{IsOver, IsLast, completed}
use Rattle.sched_core.specs.declared.changes.GraphChange.{GraphChange}
use Rattle.sched_core.specs.Books.{IsHeldWith}
use Rattle.sched_core.specs.Changes.{ScheduleValue, Planned}
use Rattle.sched_core.proofs.ChangedRowLemmas.{draft_dags, last_after}
use Rattle.sched_core.proofs.FinishLemmas.{closed_effect, closed_is, finished_held, finished_later, finished_over, settled_later, settled_next, settled_occupied, settled_over}
use Rattle.sched_core.proofs.ShelfLemmas.{holds_after, later_over}
use Rattle.sched_core.proofs.schedules.Schedule.finish_with.Goals as goal

pub settle_draft-requires-clause-dags : goal.settle_draft-requires-clause-dags
settle_draft-requires-clause-dags c =
    subst (λ (s : Schedule). SameDags s c.args.draft.content) (sym c.requires.based) (draft_dags c.args.graphs c.args.self.now.content c.args.draft.content c.requires.leaves c.requires.over)

pub hand_out-requires-clause-sound : goal.hand_out-requires-clause-sound
hand_out-requires-clause-sound c = subst IsSound (sym c.in_ok-settle_draft.ensures.settled) (settle_sound c.args.draft.content c.requires.sound)

pub hand_out-requires-clause-shelves : goal.hand_out-requires-clause-shelves
hand_out-requires-clause-shelves c =
    let a : Schedule = c.args.self.now.content in
    let b : Schedule = c.args.draft.content in
    let ss : List ShelfValue = c.self.inside.shelves.items in
    let kept : AreShelvesOf a.now a.graphs a.runs ss = subst (λ (h : ScheduleValue). AreShelvesOf h.content.now h.content.graphs h.content.runs ss) c.self.view_is c.self.invariant.shelves in
    let base = c.in_ok-settle_draft.ensures.base ∙ c.requires.based in
    let later : IsLater a (settle b) = later_over c.args.graphs a (settle b) c.requires.leaves (settled_over c.args.graphs a b c.requires.over) (settled_later a b c.requires.later) in
    inl (
      subst (λ (s : Schedule). AreShelvesOf s.now s.graphs s.runs c.as_slice.result.now) (sym base) (subst (AreShelvesOf a.now a.graphs a.runs) (sym c.as_slice.ensures.value) kept),
      subst (λ (s : Schedule). IsLater s c.settle_draft.new.draft.content) (sym base) (subst (IsLater a) (sym c.in_ok-settle_draft.ensures.settled) later),
    )

pub patches_of-requires-clause-sound : goal.patches_of-requires-clause-sound
patches_of-requires-clause-sound c =
    let b : Schedule = c.args.draft.content in
    let end : c.hand_out.new.draft.content ≡ hand_out (settle b) = c.in_ok-jobs.ensures.draft ∙ ap hand_out c.in_ok-settle_draft.ensures.settled in
    subst IsSound (sym end) (out_sound (settle b) (settle_sound b c.requires.sound))

pub patches_of-requires-clause-shelves : goal.patches_of-requires-clause-shelves
patches_of-requires-clause-shelves c =
    let a : Schedule = c.args.self.now.content in
    let ss : List ShelfValue = c.self.inside.shelves.items in
    let kept : AreShelvesOf a.now a.graphs a.runs ss = subst (λ (h : ScheduleValue). AreShelvesOf h.content.now h.content.graphs h.content.runs ss) c.self.view_is c.self.invariant.shelves in
    let base = c.in_ok-jobs.ensures.base ∙ c.in_ok-settle_draft.ensures.base ∙ c.requires.based in
    subst (λ (s : Schedule). AreShelvesOf s.now s.graphs s.runs c.as_slice-2.result.now) (sym base) (subst (AreShelvesOf a.now a.graphs a.runs) (sym c.as_slice-2.ensures.value) kept)

pub patches_of-requires-clause-later : goal.patches_of-requires-clause-later
patches_of-requires-clause-later c =
    let a : Schedule = c.args.self.now.content in
    let b : Schedule = c.args.draft.content in
    let end : c.hand_out.new.draft.content ≡ hand_out (settle b) = c.in_ok-jobs.ensures.draft ∙ ap hand_out c.in_ok-settle_draft.ensures.settled in
    let base = c.in_ok-jobs.ensures.base ∙ c.in_ok-settle_draft.ensures.base ∙ c.requires.based in
    subst (λ (s : Schedule). IsLater s c.hand_out.new.draft.content) (sym base) (subst (IsLater a) (sym end) (later_over c.args.graphs a (hand_out (settle b)) c.requires.leaves (finished_over c.args.graphs a b c.requires.over) (finished_later a b c.requires.later)))

pub hand_out-requires-clause-taken : goal.hand_out-requires-clause-taken
hand_out-requires-clause-taken c =
    let b : Schedule = c.args.draft.content in
    subst (λ (s : Schedule). AreOccupied s c.args.occupied) (sym c.in_ok-settle_draft.ensures.settled) (settled_occupied b c.args.occupied c.requires.occupied)

pub hand_out-requires-clause-serials : goal.hand_out-requires-clause-serials
hand_out-requires-clause-serials c =
    let b : Schedule = c.args.draft.content in
    subst NoneFrom (sym c.in_ok-settle_draft.ensures.settled) (sound_none (settle b) (settle_sound b c.requires.sound))

pub rows_changed-requires-clause-based : goal.rows_changed-requires-clause-based
rows_changed-requires-clause-based c = c.in_ok-jobs.ensures.base ∙ c.in_ok-settle_draft.ensures.base ∙ c.requires.based

pub rows_changed-requires-clause-over : goal.rows_changed-requires-clause-over
rows_changed-requires-clause-over c =
    let b : Schedule = c.args.draft.content in
    let end : c.hand_out.new.draft.content ≡ hand_out (settle b) = c.in_ok-jobs.ensures.draft ∙ ap hand_out c.in_ok-settle_draft.ensures.settled in
    subst (IsOver c.args.graphs c.args.self.now.content) (sym end) (finished_over c.args.graphs c.args.self.now.content b c.requires.over)

pub rows_changed-requires-clause-last : goal.rows_changed-requires-clause-last
rows_changed-requires-clause-last c =
    let b : Schedule = c.args.draft.content in
    let end : c.hand_out.new.draft.content ≡ hand_out (settle b) = c.in_ok-jobs.ensures.draft ∙ ap hand_out c.in_ok-settle_draft.ensures.settled in
    subst (IsLast c.args.graphs) (sym end) (last_after c.args.graphs b c.requires.last)

pub rows_changed-requires-clause-sound : goal.rows_changed-requires-clause-sound
rows_changed-requires-clause-sound c =
    let b : Schedule = c.args.draft.content in
    let end : c.hand_out.new.draft.content ≡ hand_out (settle b) = c.in_ok-jobs.ensures.draft ∙ ap hand_out c.in_ok-settle_draft.ensures.settled in
    subst (λ (s : Schedule). IsSound (completed c.args.graphs s)) (sym end) (without_settled (completed c.args.graphs (hand_out (settle b))) c.requires.kept).sound

pub rest_of-requires : goal.rest_of-requires
rest_of-requires c = c.in_ok-jobs.ensures.taken

pub change_of-requires : goal.change_of-requires
change_of-requires c =
    let a : Schedule = c.args.self.now.content in
    let g : GraphChange = c.args.graphs in
    let b : Schedule = c.args.draft.content in
    let d : DraftValue = c.hand_out.new.draft in
    let e : Schedule = hand_out (settle b) in
    let t : Occupied = c.hand_out.new.taken in
    let end : d.content ≡ e = c.in_ok-jobs.ensures.draft ∙ ap hand_out c.in_ok-settle_draft.ensures.settled in
    let base : d.base ≡ a = c.in_ok-jobs.ensures.base ∙ c.in_ok-settle_draft.ensures.base ∙ c.requires.based in
    let numbers : AreOccupied e t = subst (λ (s : Schedule). AreOccupied s t) end c.in_ok-jobs.ensures.taken in
    let held : IsHeldWith true (completed g e) t = finished_held g b t c.requires.sound c.requires.counted c.requires.last c.requires.kept numbers in
    closed_effect g a d t c.rest_of.result c.in_ok-patches.patches c.in_ok-rows.rows base (subst (IsOver g a) (sym end) (finished_over g a b c.requires.over)) c.rest_of.ensures c.requires.fitted (subst (IsLast g) (sym end) (last_after g b c.requires.last))
    (subst (λ (s : Schedule). IsHeldWith true (completed g s) t) (sym end) held) c.in_ok-rows.ensures
    (λ ss h. holds_after g d.content.now a.graphs d.content.runs (patched c.in_ok-patches.patches.items ss) c.requires.leaves
    (patched_shelves a d.content c.in_ok-patches.patches.items ss h (subst (λ (s : Schedule). ArePatches s d.content c.in_ok-patches.patches.items) base c.in_ok-patches.ensures)
    (subst (IsLater a) (sym end) (later_over g a e c.requires.leaves (finished_over g a b c.requires.over) (finished_later a b c.requires.later)))))

pub returns : goal.returns
returns c =
    let a : Schedule = c.args.self.now.content in
    let g : GraphChange = c.args.graphs in
    let b : Schedule = c.args.draft.content in
    let d : DraftValue = c.hand_out.new.draft in
    let e : Schedule = hand_out (settle b) in
    let end : d.content ≡ e = c.in_ok-jobs.ensures.draft ∙ ap hand_out c.in_ok-settle_draft.ensures.settled in
    let base : d.base ≡ a = c.in_ok-jobs.ensures.base ∙ c.in_ok-settle_draft.ensures.base ∙ c.requires.based in
    let is = closed_is g a d c.hand_out.new.taken c.rest_of.result c.in_ok-patches.patches base (subst (IsOver g a) (sym end) (finished_over g a b c.requires.over)) c.rest_of.ensures ∙ ap (completed g) end in
    let jobs : c.in_ok-jobs.jobs ≡ handed a e =
    c.in_ok-jobs.ensures.jobs
    ∙ (ap (λ (s : Schedule). handed s d.content) c.in_ok-settle_draft.ensures.settled
    ∙ (ap (handed (settle b)) end ∙ ap (λ n. flat_map (job_at e) (range_with_len n (e.next - n))) (settled_next b ∙ c.requires.next))) in
    c.change_of.ensures
    ∙ (ap (λ (s : Schedule). let p : Planned = record { before = a; after = s; answer = record c.args.answer { jobs = c.in_ok-jobs.jobs } } in p) is
    ∙ ap (λ js. let p : Planned = record { before = a; after = completed g e; answer = record c.args.answer { jobs = js } } in p) jobs)
