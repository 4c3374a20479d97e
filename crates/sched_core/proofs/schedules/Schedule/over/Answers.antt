use Rattle.std.proofs.Common.{◌≡◌, ◌∙◌, ap, sym, subst, ℕ, List}
use Rattle.std.proofs.lemmas.Result.{IfOk-weaker}
use Rattle.sched_model.specs.Handout.{hand_out}
use Rattle.sched_model.specs.Jobs.{handed}
use Rattle.sched_model.specs.Schedule.{Schedule}
use Rattle.sched_model.specs.Settle.{settle}
use Rattle.sched_model.specs.Sound.{IsSound}
use Rattle.sched_draft.specs.Books.{pools_in, IsBookOf}
use Rattle.sched_handout.specs.Active.{count_of}
use Rattle.sched_handout.specs.Occupied.{AreOccupied}
use Rattle.sched_handout.specs.declared.occupied.Occupied.{Occupied}
use Rattle.sched_model.specs.States.{active_tries, in_flight}
use Rattle.sched_draft.specs.Drafts.{DraftValue}
use Rattle.sched_events.specs.SettledAndSound.{IsSettledAndSound}
use Rattle.sched_core.specs.Books.{IsCounted}
use Rattle.sched_core.specs.Changes.{Planned, ScheduleValue}
use Rattle.sched_core.specs.Inside.{over}
use Rattle.sched_core.specs.Plans.{no_runs}
use Rattle.sched_core.proofs.schedules.Schedule.over.Goals.{After-set_pools}
use Rattle.sched_core.proofs.schedules.Schedule.over.Goals as goal

content : (c : After-set_pools) → c.set_pools.new.self.content ≡ over c.args.pools.now.pools c.args.self.now.content
content c = ap (λ (v : DraftValue). v.content) c.set_pools.ensures ∙ ap (λ (v : DraftValue). record v.content { pools = pools_in c.args.pools.now.pools }) c.draft-draft.ensures

pub finish_with-requires-clause-based : goal.finish_with-requires-clause-based
finish_with-requires-clause-based c = ap (λ (v : DraftValue). v.base) c.set_pools.ensures ∙ ap (λ (v : DraftValue). v.base) c.draft-draft.ensures

pub finish_with-requires-clause-sound : goal.finish_with-requires-clause-sound
finish_with-requires-clause-sound c = subst IsSound (sym (content (goal.at.finish_with-requires-clause-sound c).After-set_pools)) c.requires.sound

pub finish_with-requires-clause-over : goal.finish_with-requires-clause-over
finish_with-requires-clause-over c =
    let is = content (goal.at.finish_with-requires-clause-over c).After-set_pools in record { limits = ap (λ (s : Schedule). s.limits) is; graphs = ap (λ (s : Schedule). s.graphs) is }

pub finish_with-requires-clause-kept : goal.finish_with-requires-clause-kept
finish_with-requires-clause-kept c = subst (λ (s : Schedule). IsSettledAndSound (hand_out (settle s))) (sym (content (goal.at.finish_with-requires-clause-kept c).After-set_pools)) c.requires.kept

pub finish_with-requires-clause-counted : goal.finish_with-requires-clause-counted
finish_with-requires-clause-counted c =
    subst IsCounted (sym (content (goal.at.finish_with-requires-clause-counted c).After-set_pools)) (subst (λ (h : ScheduleValue). IsCounted h.content) c.self.view_is c.self.invariant.held.counted)

pub finish_with-requires-clause-occupied : goal.finish_with-requires-clause-occupied
finish_with-requires-clause-occupied c =
    let a : Schedule = c.args.self.now.content in
    let b : Schedule = over c.args.pools.now.pools a in
    let t : Occupied = record { in_flight = c.self.inside.occupied.in_flight; pools = c.in_ok-copy.field-0; active = c.in_ok-copy-2.field-0 } in
    let active : (id : List ℕ) → count_of id c.in_ok-copy-2.field-0 ≡ active_tries a id =
    λ id. ap (count_of id) c.in_ok-copy-2.ensures ∙ (c.self.invariant.held.occupied.active id ∙ ap (λ (h : ScheduleValue). active_tries h.content id) c.self.view_is) in
    let flight : c.self.inside.occupied.in_flight ≡ in_flight a = c.self.invariant.held.occupied.in_flight ∙ ap (λ (h : ScheduleValue). in_flight h.content) c.self.view_is in
    subst (λ (s : Schedule). AreOccupied s t) (sym (content (goal.at.finish_with-requires-clause-occupied c).After-set_pools))
    (record { in_flight = flight; pools = subst (IsBookOf b) (sym c.in_ok-copy.ensures) c.requires.book; active = active })

pub returns : goal.returns
returns c =
    let a : Schedule = c.args.self.now.content in
    let is = content (goal.at.returns c).After-set_pools in
    IfOk-weaker c.finish_with.result
    (λ (change : Planned). change ≡ record { before = a; after = hand_out (settle c.set_pools.new.self.content); answer = record c.quiet_answer.result { jobs = handed a (hand_out (settle c.set_pools.new.self.content)) } })
    (λ (change : Planned). change ≡ record { before = a; after = hand_out (settle (over c.args.pools.now.pools a)); answer = record no_runs { jobs = handed a (hand_out (settle (over c.args.pools.now.pools a))) } })
    (λ change k. k
    ∙ (ap (λ (s : Schedule). let p : Planned = record { before = a; after = hand_out (settle s); answer = record c.quiet_answer.result { jobs = handed a (hand_out (settle s)) } } in p) is
    ∙ ap (λ q. let s : Schedule = over c.args.pools.now.pools a in let p : Planned = record { before = a; after = hand_out (settle s); answer = record q { jobs = handed a (hand_out (settle s)) } } in p) c.quiet_answer.ensures))
    c.finish_with.ensures
