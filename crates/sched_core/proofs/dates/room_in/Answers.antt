use Rattle.std.proofs.Common.{◌≡◌, ◌∙◌, refl}
use Rattle.sched_core.proofs.DateLemmas.{room_begins, room_over, same_long}
use Rattle.sched_core.proofs.dates.room_in.Goals as goal

pub loop-place-init : goal.loop-place-init
loop-place-init c = record { dates = refl; room = room_begins c.args.graphs.now c.args.edits.now c.args.dates.now.items }

pub room_at-requires-clause-long : goal.room_at-requires-clause-long
room_at-requires-clause-long c = same_long c.args.dates.now.items c.loop-place.dates.items c.loop-place.invariant.dates ∙ c.requires.long

pub returns-in_err-room_at-clause-dates : goal.returns-in_err-room_at-clause-dates
returns-in_err-room_at-clause-dates c = c.room_at.ensures.dates ∙ c.loop-place.invariant.dates

pub loop-place-preserved : goal.loop-place-preserved
loop-place-preserved c = record { dates = c.room_at.ensures.dates ∙ c.loop-place.invariant.dates; room = c.in_ok-room_at.ensures.room }

pub returns-clause-room : goal.returns-clause-room
returns-clause-room c =
    room_over c.args.graphs.now c.args.edits.now c.loop-place.place c.loop-place.dates.items c.loop-place-test.false c.loop-place.invariant.room
