use Rattle.std.proofs.Common.{◌≡◌, ◌∙◌, refl}
use Rattle.sched_core.proofs.DateLemmas.{all_begins, all_can, all_next, all_over}
use Rattle.sched_core.proofs.dates.note_all.Goals as goal

pub loop-place-init : goal.loop-place-init
loop-place-init c = record { noted = all_begins c.args.graphs.now c.args.edits.now c.args.dates.now.items c.requires.room; places = refl }

pub note_at-requires-clause-long : goal.note_at-requires-clause-long
note_at-requires-clause-long c = c.loop-place.invariant.noted.long ∙ c.requires.long

pub note_at-requires-clause-room : goal.note_at-requires-clause-room
note_at-requires-clause-room c = all_can c.args.graphs.now c.args.edits.now c.loop-place.place c.args.dates.now.items c.loop-place.dates.items c.loop-place.invariant.noted

pub loop-place-preserved : goal.loop-place-preserved
loop-place-preserved c = record {
  noted = all_next c.args.graphs.now c.args.edits.now c.loop-place.place c.args.dates.now.items c.loop-place.dates.items c.note_at.new.dates.items c.loop-place-test.true c.note_at.ensures.noted c.loop-place.invariant.noted;
  places = c.note_at.ensures.places ∙ c.loop-place.invariant.places;
}

pub returns-clause-noted : goal.returns-clause-noted
returns-clause-noted c =
    all_over c.args.graphs.now c.args.edits.now c.loop-place.place c.args.dates.now.items c.loop-place.dates.items c.loop-place-test.false c.loop-place.invariant.noted
