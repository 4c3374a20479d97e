use Rattle.std.proofs.Common.{◌∙◌, ◌<◌, sym, false, length, arith}
use Rattle.std.proofs.lemmas.Option.{slice_get_within}
use Rattle.sched_model.specs.Schedule.{is_at}
use Rattle.run_lists.proofs.SearchLemmas.{one_read, run_nowhere, run_there}
use Rattle.run_lists.proofs.runs.Runs.run_of.Goals as goal

pub returns-then-position-len : goal.returns-then-position-len
returns-then-position-len c =
    run_nowhere c.args.graph.now c.args.logical c.args.self.now.runs c.position_from-position.result c.requires c.position_from-position.ensures
    (λ r g. absurd (let w : c.position_from-position.result < length c.args.self.now.runs = slice_get_within _ _ r g in omega (arith, w, c.len.ensures.len, c.if-position-len.true)))

pub returns-then-has_key : goal.returns-then-has_key
returns-then-has_key c =
    run_there c.args.graph.now c.args.logical c.args.self.now.runs c.position_from-position.result c.get-run.result.now c.position_from-position.ensures c.get-run.ensures (sym c.has_key.ensures ∙ c.if-has_key.true)

pub returns-else-has_key : goal.returns-else-has_key
returns-else-has_key c =
    run_nowhere c.args.graph.now c.args.logical c.args.self.now.runs c.position_from-position.result c.requires c.position_from-position.ensures
    (λ r g. one_read (is_at c.args.graph.now c.args.logical) _ c.get-run.result.now r false c.get-run.ensures g (sym c.has_key.ensures ∙ c.if-has_key.false))
