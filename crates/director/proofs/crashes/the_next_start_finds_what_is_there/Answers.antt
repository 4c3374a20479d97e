use Rattle.director.proofs.Starts.{found_itself}
use Rattle.director.proofs.crashes.the_next_start_finds_what_is_there.Goals as goal

pub returns : goal.returns
returns g c = found_itself g.met.D.Disk.seen_may_stay c.args.before.now c.args.found.now
