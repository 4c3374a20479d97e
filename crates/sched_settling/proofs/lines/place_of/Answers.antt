use Rattle.std.proofs.Common.{rules}
use Rattle.std.proofs.lemmas.Fn.{always_returns_same}
use Rattle.sched_state.specs.Lists.{name_cmp}
use Rattle.sched_settling.specs.declared.lines.GraphRuns.{GraphRuns}
use Rattle.sched_settling.proofs.AmongLemmas.{searched}
use Rattle.sched_settling.proofs.lines.place_of.Goals as goal

pub returns : goal.returns
returns c =
    searched c.args.lines.now c.args.id.now c.binary_search_by.result c.requires c.binary_search_by.ensures.bound
    (c.binary_search_by.ensures.position (λ (l : GraphRuns). name_cmp l.id.now c.args.id.now) (always_returns_same _ _ _ (λ a r q k. search rules)))
