use Rattle.std.proofs.Common.{◌≡◌, map}
use Rattle.run_planner.specs.Index.{Index}
use Rattle.sched_core.specs.Dates.{HaveRoomTo}
use Rattle.sched_core.proofs.dates.room_in.Given as goal

abbrev pub invariant-loop-place : goal.invariant-loop-place
invariant-loop-place l = record {
  dates : map (λ (x : Index). x.dates) l.dates.items ≡ map (λ (x : Index). x.dates) l.initial.dates.items;
  room : HaveRoomTo l.graphs l.edits l.place l.dates.items;
}
