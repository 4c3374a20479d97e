use Rattle.std.proofs.Common.{rules, ◌≡◌, ◌∙◌, sym, [], length, vec_items, arith}
use Rattle.crossbeam_queue.specs.Passes.{IsPassOf}
use Rattle.ruled_dispatch.specs.Lanes.{taken_of, told_of}
use Rattle.ruled_dispatch.specs.declared.passes.WorkerPass.{WorkerPass}
use Rattle.ruled_dispatch.proofs.Each.{each_pushed}
use Rattle.ruled_dispatch.proofs.ReportSteps as reports
use Rattle.ruled_dispatch.proofs.lanes.Lanes.open.Goals as goal

pub ruled-requires-2-clause-rule : goal.ruled-requires-2-clause-rule
ruled-requires-2-clause-rule c = reports.begins

pub loop-made-preserved : goal.loop-made-preserved
loop-made-preserved c =
    let was = c.loop-made.invariant in
    let pass = c.worker_pass-pass.result in
    let made = c.worker_pass-pass.ensures in
    let old = vec_items c.loop-made.passes in
    let now = vec_items c.push.new.self in
    let e = c.in_ok-push.ensures.items in
    let len : length old ≡ c.loop-made.made = search rules in
    record {
      sender = made.queues.0;
      hearer = made.queues.1;
      parts = let p = was.parts in let q = made.part in omega arith;
      sends = made.sends;
      sent = made.sent ∙ was.sent;
      taken = made.taken ∙ was.taken;
      hears = made.hears;
      heard = made.heard ∙ was.heard;
      numbers = made.made;
      returned = made.returned ∙ was.returned;
      count = search rules;
      of_jobs = each_pushed (λ k (w : WorkerPass). IsPassOf c.in_ok-jobs.jobs w.jobs) old now pass e was.of_jobs made.takes.0;
      of_reports = each_pushed (λ k (w : WorkerPass). IsPassOf c.in_ok-reports.reports w.reports) old now pass e was.of_reports made.tells.0;
      numbered = each_pushed (λ k (w : WorkerPass). w.number ≡ k) old now pass e was.numbered (made.number ∙ sym len);
      took_none = each_pushed (λ k (w : WorkerPass). taken_of w ≡ []) old now pass e was.took_none made.takes.1;
      told_none = each_pushed (λ k (w : WorkerPass). told_of w ≡ []) old now pass e was.told_none made.tells.1;
    }
