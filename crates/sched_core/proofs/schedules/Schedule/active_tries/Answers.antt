use Rattle.std.proofs.Common.{◌∙◌, ◌+◌, ◌<◌, ◌^◌, ap, refl, arith}
use Rattle.std.proofs.lemmas.Bool.{ltb-true}
use Rattle.std.proofs.lemmas.List.Sums.{count_by-le-length}
use Rattle.sched_model.specs.Handout.{last_serial}
use Rattle.sched_model.specs.Schedule.{Schedule}
use Rattle.sched_model.specs.States.{active_tries, is_of, open_tries}
use Rattle.sched_core.specs.Books.{content_inside}
use Rattle.sched_core.specs.Changes.{ScheduleValue}
use Rattle.sched_core.proofs.ViewLemmas.{flight_is, flight_small}
use Rattle.sched_core.proofs.schedules.Schedule.active_tries.Goals as goal

pub of-requires : goal.of-requires
of-requires c =
    let a : Schedule = content_inside c.self.inside in
    let h = c.self.invariant.held in
    let held = h.occupied.active c.args.id.now in
    let among = count_by-le-length (is_of c.args.id.now) (open_tries a) in
    let all = flight_is a h.kept.sound in
    let few = flight_small a h.kept.sound in
    let high : last_serial + 1 < 2 ^ 64 = ltb-true (last_serial + 1) (2 ^ 64) refl in
    omega (arith, held, among, all, few, high)

pub returns : goal.returns
returns c = c.of.ensures ∙ (c.self.invariant.held.occupied.active c.args.id.now ∙ ap (λ (h : ScheduleValue). active_tries h.content c.args.id.now) c.self.view_is)
