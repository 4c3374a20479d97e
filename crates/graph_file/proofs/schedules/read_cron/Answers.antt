use Rattle.std.proofs.Common.{sym}
use Rattle.graph_file.proofs.ScheduleLemmas.{read_firing, refused_firing}
use Rattle.graph_file.proofs.schedules.read_cron.Goals as goal

pub returns-in-Ok : goal.returns-in-Ok
returns-in-Ok c = sym (read_firing _ _ c.in-Ok.ensures)

pub returns-in-Err : goal.returns-in-Err
returns-in-Err c = sym (refused_firing _ _ c.in-Err.ensures)
