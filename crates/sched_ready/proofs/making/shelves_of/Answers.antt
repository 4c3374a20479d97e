use Rattle.sched_ready.proofs.MakingLemmas.{shelves_made}
use Rattle.sched_ready.proofs.making.shelves_of.Goals as goal

pub returns : goal.returns
returns c =
    shelves_made c.args.draft.now.content c.in_ok-shelves.shelves.items c.put_all.new.shelves.items c.in_ok-patches.patches.items c.in_ok-shelves.ensures.fit c.in_ok-patches.ensures c.put_all.ensures.shelves
