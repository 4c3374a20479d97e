use Rattle.director.proofs.Starts.{found_closed}
use Rattle.director.proofs.crashes.the_next_start_finds_what_was_closed.Goals as goal

pub returns : goal.returns
returns g c = found_closed c.args.closed.now c.args.files.now c.args.found.now
