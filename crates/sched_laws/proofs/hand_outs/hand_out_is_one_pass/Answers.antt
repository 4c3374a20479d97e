use Rattle.sched_laws.proofs.PassLemmas.{passed_over, first_is_best, list_handed, list_passed, pass_is, sound_within}
use Rattle.sched_laws.proofs.hand_outs.hand_out_is_one_pass.Goals as goal

pub returns : goal.returns
returns c = record { for_good = passed_over; first = first_is_best; handed = list_handed; passed = list_passed; pass = pass_is; within = sound_within }
