use Rattle.sched_ready.proofs.FillLemmas.{keeps_copied}
use Rattle.sched_ready.proofs.filling.moved.Goals as goal

pub returns : goal.returns
returns c = keeps_copied c.args.now c.args.queue.now (record { ready = c.in_ok-ready.ready; waiting = c.in_ok-waiting.waiting }) c.move_up.new.queue c.in_ok-ready.ensures.dates c.in_ok-waiting.ensures.keys c.move_up.ensures
