use Rattle.std.proofs.Common.{◌++◌, ◌∷◌, [], ap, sym, ◌∙◌, append_assoc, replicate, add-one}
use Rattle.ruled_dispatch.specs.declared.items.JobOrStop.TheVariants as items
use Rattle.ruled_dispatch.specs.Lanes.{sent_of}
use Rattle.sessions.proofs.Places.{replicate_snoc}
use Rattle.sessions.proofs.sending.send_stops.Goals as goal

pub loop-stopped-preserved : goal.loop-stopped-preserved
loop-stopped-preserved g c =
    let was = c.loop-stopped.invariant in
    let now = c.wait_to_send.ensures in
    let n = c.loop-stopped._stopped in
    let before = sent_of c.args.pass.now in
    record {
      pass = now.pass;
      workers = λ k h. now.workers k (was.workers k h);
      sent =
          now.sent ∙ ap (λ l. l ++ items.Stop ∷ []) was.sent ∙ append_assoc before (replicate n items.Stop) (items.Stop ∷ [])
          ∙ ap (λ l. before ++ l) (replicate_snoc n items.Stop)
          ∙ ap (λ k. before ++ replicate k items.Stop) (sym (add-one n));
      heard = now.heard ∙ was.heard;
    }
