use Rattle.std.proofs.Common.{◌++◌, ◌∷◌, [], map, ap, sym, ◌∙◌, append_assoc}
use Rattle.std.specs.Vec.Iter.{into_iter_items}
use Rattle.sched_state.specs.declared.jobs.Job.{Job}
use Rattle.ruled_dispatch.specs.Lanes.{sent_of}
use Rattle.ruled_dispatch.specs.declared.items.JobOrStop.TheVariants as item
use Rattle.sessions.proofs.sending.send_jobs.Goals as goal

pub loop-job-preserved : goal.loop-job-preserved
loop-job-preserved g c =
    let was = c.loop-job.invariant in
    let sent = c.wait_to_send.ensures in
    let e = c.in-Some.ensures.steps.0 in
    let before = sent_of c.loop-job.pass in
    record {
      pass = sent.pass;
      workers = λ count h. sent.workers count (was.workers count h);
      heard = sent.heard ∙ was.heard;
      sent =
          ap (λ l. l ++ map (λ (j : Job). item.Job j) (into_iter_items c.next.new.self)) sent.sent
          ∙ append_assoc before (item.Job c.in-Some.job ∷ []) (map (λ (j : Job). item.Job j) (into_iter_items c.next.new.self))
          ∙ ap (λ l. before ++ map (λ (j : Job). item.Job j) l) (sym e)
          ∙ was.sent;
    }
