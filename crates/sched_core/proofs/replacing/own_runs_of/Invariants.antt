use Rattle.std.proofs.Common.{◌≡◌, ◌<◌, ℕ, Some, true, slice_get}
use Rattle.sched_draft.specs.Drafts.{IsOwn}
use Rattle.sched_state.specs.Lists.{same}
use Rattle.sched_state.specs.declared.runs.Run.{Run}
use Rattle.sched_core.proofs.replacing.own_runs_of.Given as goal

abbrev pub invariant-loop-position : goal.invariant-loop-position
invariant-loop-position l = record {
  base : l.draft.base ≡ l.fn.draft.base;
  content : l.draft.content ≡ l.fn.draft.content;
  own : (n : ℕ) → n < l.position → (r : Run) → slice_get l.fn.draft.content.runs n ≡ Some r → same r.graph l.id ≡ true → IsOwn n l.draft;
}
