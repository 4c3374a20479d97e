use Rattle.std.proofs.Common.{◌≡◌, ◌-◌, false, length}
use Rattle.sched_laws.specs.Sweep.{sweep_places}
use Rattle.sched_model.specs.Lists.{rises}
use Rattle.sched_model.specs.Schedule.{run_before}
use Rattle.sched_settling.specs.Marks.{dag_at}
use Rattle.sched_settling.proofs.deciding.decide_places.Given as goal

abbrev pub invariant-loop-place : goal.invariant-loop-place
invariant-loop-place l = record {
  rest : sweep_places (l.place-end - l.place) l.position l.place l.draft.content ≡ sweep_places l.place-end l.position 0 l.initial.draft.content;
  long : length l.draft.content.runs ≡ length l.initial.draft.content.runs;
  ordered : rises run_before l.draft.content.runs ≡ rises run_before l.initial.draft.content.runs;
  dag : dag_at l.position l.draft.content ≡ dag_at l.position l.initial.draft.content;
  base : l.draft.base ≡ l.initial.draft.base;
  same : l.changed ≡ false → l.draft.content ≡ l.initial.draft.content;
}
