use Rattle.record_writing.proofs.FitLemmas.{fits_tables}
use Rattle.record_writing.proofs.laws.sound_schedules_fit.Goals as goal

pub returns : goal.returns
returns c = fits_tables
