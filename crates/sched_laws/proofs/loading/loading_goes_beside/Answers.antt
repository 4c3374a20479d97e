use Rattle.sched_laws.proofs.BesideLemmas.{load_beside, no_runs_after, load_handed}
use Rattle.sched_laws.proofs.loading.loading_goes_beside.Goals as goal

pub returns : goal.returns
returns c = record { beside = load_beside; runs = no_runs_after; jobs = load_handed }
