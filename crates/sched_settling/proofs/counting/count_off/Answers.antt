use Rattle.std.proofs.Common.{◌∷◌, [], sym, subst}
use Rattle.std.specs.Option.{option_to_list}
use Rattle.sched_state.specs.declared.runs.Run.{Run}
use Rattle.sched_settling.specs.Touched.{EachLine, IsCountedOff}
use Rattle.sched_settling.proofs.CarryLemmas.{each_same, off_each, off_idle, off_none}
use Rattle.sched_settling.proofs.counting.count_off.Goals as goal

pub returns-then-is_running : goal.returns-then-is_running
returns-then-is_running c = λ s there.
    let r : Run = c.in-Some.base.now in
    subst (λ o. EachLine (λ id. IsCountedOff id (option_to_list o)) c.args.lines.now.items c.count_down.new.lines.items) (c.in-Some.ensures s there)
    (off_each r c.args.lines.now.items c.count_down.new.lines.items (sym c.if-is_running.ensures) c.count_down.ensures)

pub returns-else-is_running : goal.returns-else-is_running
returns-else-is_running c = λ s there.
    let r : Run = c.in-Some.base.now in
    subst (λ o. EachLine (λ id. IsCountedOff id (option_to_list o)) c.args.lines.now.items c.args.lines.now.items) (c.in-Some.ensures s there)
    (each_same (λ id. IsCountedOff id (r ∷ [])) c.args.lines.now.items (λ n k y. off_idle k.id.now r k (sym c.if-is_running.ensures)))

pub returns-in_default : goal.returns-in_default
returns-in_default c = λ s there.
    subst (λ o. EachLine (λ id. IsCountedOff id (option_to_list o)) c.args.lines.now.items c.args.lines.now.items) (c.in_default.ensures s there)
    (each_same (λ id. IsCountedOff id []) c.args.lines.now.items (λ n k y. off_none k.id.now k))
