use Rattle.sched_ready.proofs.FillLemmas.{taken_both, taken_ready}
use Rattle.sched_ready.proofs.filling.take_date.Goals as goal

pub returns-in-Some : goal.returns-in-Some
returns-in-Some c now d m apart h = taken_both now d m c.args.date c.in-Some.moment c.args.queue.now c.unmark.new.self.keys c.unmark-in-Some.new.self.keys apart c.unmark.ensures.keys c.unmark-in-Some.ensures.keys h

pub returns-in_default : goal.returns-in_default
returns-in_default c now d m apart h = taken_ready now d m c.args.date c.args.queue.now c.unmark.new.self.keys apart c.unmark.ensures.keys h
