use Rattle.sched_laws.proofs.LoadLemmas.{load_still, load_no_hand, load_again}
use Rattle.sched_laws.proofs.loading.loading_is_quiet.Goals as goal

pub returns : goal.returns
returns c = record { still = load_still; no_hand = load_no_hand; again = load_again }
