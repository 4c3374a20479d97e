use Rattle.run_lists.proofs.KeyLemmas.{keys_after}
use Rattle.run_lists.proofs.laws.keys_go_by_added_runs.Goals as goal

pub returns : goal.returns
returns c id date es rs h = keys_after id date es rs h
