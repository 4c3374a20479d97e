use Rattle.sched_settling.proofs.marking.settle.Goals as goal

pub settle_from-requires-clause-covered : goal.settle_from-requires-clause-covered
settle_from-requires-clause-covered c = c.in_ok-marks.ensures c.args.draft.now.content c.run_count.ensures
