use Rattle.director.specs.Directors.{RestartsIn, StepsIn}
use Rattle.meta_store.specs.Stores.{Begins, Migrates, OpensBy}
use Rattle.director.proofs.Starts.{found_around, migrates_by_trees, opens_by_trees, restarts_by_trees, stores_by_trees, turns_by_trees}
use Rattle.director.proofs.crashes.the_next_start_finds_before_or_after.Goals as goal

pub returns-clause-event : goal.returns-clause-event
returns-clause-event g c a e =
    found_around g.met.D.Disk.seen_may_stay (StepsIn e a) (λ old new found sound same steps keeps. turns_by_trees old new found _ sound same (steps keeps)) c.args.old.now c.args.new.now c.args.found.now

pub returns-clause-opening : goal.returns-clause-opening
returns-clause-opening g c limits lanes =
    found_around g.met.D.Disk.seen_may_stay (OpensBy (RestartsIn limits lanes))
    (opens_by_trees (RestartsIn limits lanes) (λ old new found sound same restarts rows has. restarts_by_trees old new found _ sound same (restarts rows has))) c.args.old.now c.args.new.now c.args.found.now

pub returns-clause-migrating : goal.returns-clause-migrating
returns-clause-migrating g c = found_around g.met.D.Disk.seen_may_stay Migrates migrates_by_trees c.args.old.now c.args.new.now c.args.found.now

pub returns-clause-making : goal.returns-clause-making
returns-clause-making g c =
    found_around g.met.D.Disk.seen_may_stay Begins (λ old new found sound same begins none. stores_by_trees new found _ sound same (begins none)) c.args.old.now c.args.new.now c.args.found.now
