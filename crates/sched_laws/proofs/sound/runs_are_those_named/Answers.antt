use Rattle.std.proofs.Common.{refl}
use Rattle.sched_model.specs.instance_machine.Reports.{reported_try, lost_try}
use Rattle.sched_laws.proofs.KeyLemmas.{advance_names, tries_names, clear_names}
use Rattle.sched_laws.proofs.sound.runs_are_those_named.Goals as goal

pub returns : goal.returns
returns c = record {
  advanced = advance_names;
  loaded = λ text dag a. refl;
  clock = λ t a. refl;
  paused = λ name paused a. refl;
  resized = λ name size a. refl;
  reported = λ serial stage a. tries_names (reported_try serial stage a.now) a;
  restarted = λ lanes a. tries_names (lost_try a.now) a;
  cleared = clear_names;
}
