use Rattle.std.proofs.Common.{subst}
use Rattle.sched_ready.specs.Shelves.{IsLed, ShelfValue}
use Rattle.sched_ready.proofs.LeadLemmas.{least_leads}
use Rattle.sched_ready.proofs.shelves.Shelf.least.Goals as goal

pub returns : goal.returns
returns c = subst (λ (s : ShelfValue). IsLed s c.self.inside.least) c.self.view_is (least_leads _ c.self.inside.firsts.items c.self.inside.soonest c.self.inside.least c.self.invariant)
