use Rattle.sched_clearing.proofs.MarkingLemmas.{passed_sound}
use Rattle.sched_clearing.proofs.marking.mark.Goals as goal

pub with_set_back-requires : goal.with_set_back-requires
with_set_back-requires c = passed_sound c.args.draft.now.content c.pass_over.new.draft.content c.in_ok-one.one c.in_ok-pass_over.ensures.passed c.requires
