use Rattle.dag_check.specs.Orders.{is_in}
use Rattle.std.proofs.Common.{◌≡◌, ◌∙◌, ◌+◌, ap, List, ℕ, length, subst, sym, take, arith}
use Rattle.std.proofs.lemmas.Option.{none-some}
use Rattle.instance_machine.specs.Marks.{Marked}
use Rattle.instance_machine.proofs.MarkLemmas.{take_all}
use Rattle.sched_model.proofs.sched_state.ElementLemmas.{element_at}
use Rattle.sched_ready.specs.Patching.{HasAll}
use Rattle.sched_ready.proofs.FillLemmas.{has_first, has_next}
use Rattle.sched_ready.proofs.filling.copied.Goals.{in-Some, in_default}
use Rattle.sched_ready.proofs.filling.copied.Goals as goal

pub loop-at-init : goal.loop-at-init
loop-at-init c = record { dates = has_first _; room = omega (arith, c.in_ok-reserve.ensures.room, c.len.ensures) }

pub mark-requires : goal.mark-requires
mark-requires c = omega (arith, c.loop-at.invariant.room, c.loop-at-test.true, c.len-at-end.ensures)

pub loop-at-preserved : goal.loop-at-preserved
loop-at-preserved c =
    let keys = c.args.dates.now.keys in
    elim c.match-get.branch [
      | in-Some w ↦
          let copied = ap (λ (copy : Marked ℕ). copy.keys) w.copy-is ∙ w.mark.ensures.keys in
          let room = ap (λ (copy : Marked ℕ). copy.room) w.copy-is in
          record {
            dates = subst (λ (ks : List ℕ). HasAll (take (c.loop-at.at + 1) keys) ks) (sym copied) (has_next keys c.loop-at.copy.keys c.loop-at.at w.in-Some.date (sym c.get.ensures.key ∙ w.in-Some.is) c.loop-at.invariant.dates);
            room = omega (arith, room, w.mark.ensures.room, c.loop-at.invariant.room);
          }
      | in_default w ↦
          let k = element_at keys c.loop-at.at (omega (arith, c.loop-at-test.true, c.len-at-end.ensures)) in
          absurd (none-some k.0 (sym w.in_default.is ∙ (c.get.ensures.key ∙ k.1)))
    ]

pub returns-then-max-gt-FEW-clause-dates : goal.returns-then-max-gt-FEW-clause-dates
returns-then-max-gt-FEW-clause-dates c d e = ap (λ (ks : List ℕ). is_in ks d) c.in_ok-many.ensures.keys ∙ e

pub returns-clause-dates : goal.returns-clause-dates
returns-clause-dates c =
    let keys = c.args.dates.now.keys in
    let all : take c.loop-at.at keys ≡ keys = take_all keys c.loop-at.at (omega (arith, c.loop-at-test.false, c.len-at-end.ensures)) in
    subst (λ (ks : List ℕ). HasAll ks c.loop-at.copy.keys) all c.loop-at.invariant.dates
