use Rattle.std.proofs.Common.{◌≡◌, take}
use Rattle.sched_events.proofs.answers.Answer.copy.Given as goal

abbrev pub invariant-loop-id : goal.invariant-loop-id
invariant-loop-id l = l.made.items ≡ take l.id-index l.id-items

abbrev pub invariant-loop-job : goal.invariant-loop-job
invariant-loop-job l = record {
  made : l.made.items ≡ l.self.made;
  jobs : l.jobs.items ≡ take l.job-index l.job-items;
}
