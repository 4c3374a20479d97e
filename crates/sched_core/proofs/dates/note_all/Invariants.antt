use Rattle.std.proofs.Common.{◌≡◌, vec_capacity}
use Rattle.sched_core.proofs.DateLemmas.{AreNotedTo}
use Rattle.sched_core.proofs.dates.note_all.Given as goal

abbrev pub invariant-loop-place : goal.invariant-loop-place
invariant-loop-place l = record {
  noted : AreNotedTo l.graphs l.edits l.place l.initial.dates.items l.dates.items;
  places : vec_capacity l.dates ≡ vec_capacity l.initial.dates;
}
