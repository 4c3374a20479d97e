use Rattle.sched_laws.proofs.UpstreamLemmas.{ups_short, sound_ups_short}
use Rattle.sched_laws.proofs.SaidLemmas.{graph_ups_short}
use Rattle.sched_laws.proofs.loading.upstreams_are_few.Goals as goal

pub returns : goal.returns
returns c = record { file = graph_ups_short; sound = sound_ups_short; once = ups_short }
