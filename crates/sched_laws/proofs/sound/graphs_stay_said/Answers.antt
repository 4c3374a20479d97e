use Rattle.sched_laws.proofs.TextLemmas.{load_says, pause_says}
use Rattle.sched_laws.proofs.sound.graphs_stay_said.Goals as goal

pub returns : goal.returns
returns c = record { loaded = load_says; paused = pause_says }
