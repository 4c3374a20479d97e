use Rattle.sched_model.specs.NamedRuns.{add_runs}
use Rattle.sched_model.specs.Settle.{settle}
use Rattle.sched_laws.proofs.SettleLemmas.{settle_ends}
use Rattle.sched_laws.proofs.HandOutLemmas.{hand_ends}
use Rattle.sched_laws.proofs.HandLemmas.{out_still}
use Rattle.sched_laws.proofs.hand_outs.advancing_leaves_settled.Goals as goal

pub returns : goal.returns
returns c = record {
  kept = out_still;
  no_move = λ ns a. out_still (settle (add_runs ns a)) (settle_ends (add_runs ns a));
  no_hand = λ ns a. hand_ends (settle (add_runs ns a));
}
