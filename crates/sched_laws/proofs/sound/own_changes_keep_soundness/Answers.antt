use Rattle.sched_laws.proofs.SoundLemmas.{clock_sound, report_sound, restart_sound}
use Rattle.sched_laws.proofs.GraphLemmas.{load_sound, pause_sound}
use Rattle.sched_laws.proofs.PoolLemmas.{resize_sound}
use Rattle.sched_laws.proofs.ClearLemmas.{clear_sound}
use Rattle.sched_laws.proofs.sound.own_changes_keep_soundness.Goals as goal

pub returns : goal.returns
returns c = record { loaded = load_sound; clock = clock_sound; paused = pause_sound; resized = resize_sound; reported = report_sound; restarted = restart_sound; cleared = clear_sound }
