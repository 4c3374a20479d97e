use Rattle.std.proofs.Common.{◌∙◌, sym}
use Rattle.std.proofs.lemmas.Bool.{ltb-false}
use Rattle.std.proofs.lemmas.List.{take_all}
use Rattle.run_planner.proofs.replanning.all_wanted.Goals as goal

pub returns : goal.returns
returns c =
    let whole = c.in_ok-planned.ensures in
    whole.first ∙ take_all _ _ (ltb-false _ _ (sym whole.others ∙ c.if-planned.false))
