use Rattle.std.proofs.Common.{◌≡◌, ◌∙◌, false, sym, below_more}
use Rattle.std.proofs.lemmas.Bool.{not-true}
use Rattle.dag_check.specs.Names.{has}
use Rattle.dag_check.proofs.NameLemmas.{ids-more}
use Rattle.dag_check.proofs.positions.ids.Goals as goal

pub loop-i-preserved : goal.loop-i-preserved
loop-i-preserved c =
    let new : has c.loop-i.ids.keys c.in-Ok.id ≡ false = not-true (has c.loop-i.ids.keys c.in-Ok.id) (sym c.in-Ok-default-true.ensures.added ∙ c.in-Ok-default-true.field-0-1-test) in
    let step = ids-more c.args.tasks.now c.loop-i.i c.index-tasks-i.result c.loop-i.ids.keys c.insert_full.new.self.keys c.in-Ok.id c.loop-i-test.true c.index-tasks-i.is c.loop-i.invariant.keys c.in-Ok.ensures new c.in-Ok-default-true.ensures.keys in
    record { keys = step.0; none = below_more _ _ c.loop-i.invariant.none step.1 }
