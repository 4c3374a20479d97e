use Rattle.std.proofs.Common.{sym, subst}
use Rattle.sched_settling.specs.Marks.{IsKeyed, AreLines}
use Rattle.sched_settling.proofs.StageLemmas.{sweep_keyed}
use Rattle.sched_settling.proofs.PhaseLemmas.{sweep_lines}
use Rattle.sched_settling.proofs.settling.decide_and_end.Goals as goal

pub end_marked-requires-clause-keyed : goal.end_marked-requires-clause-keyed
end_marked-requires-clause-keyed c = subst IsKeyed (sym c.in_ok-seen.ensures.swept) (sweep_keyed c.args.draft.now.content c.requires.keyed)

pub end_marked-requires-clause-lines : goal.end_marked-requires-clause-lines
end_marked-requires-clause-lines c = subst (AreLines c.args.lines.now.items) (sym c.in_ok-seen.ensures.swept) (sweep_lines c.args.draft.now.content c.args.lines.now.items c.requires.lines)
