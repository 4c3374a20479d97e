use Rattle.std.proofs.Common.{◌≡◌, ◌∙◌, ◌^◌, ◌*◌, ◌%◌, ℕ, ap, sym, arith, bit_or}
use Rattle.cron_timetable.specs.Sets.{set_below, set_of}
use Rattle.cron_timetable.specs.Elements.{in_element}
use Rattle.cron_timetable.proofs.SetLemmas.{set_below-more_yes, set_below-more_no}
use Rattle.cron_timetable.proofs.elements.Span.set.Goals as goal
use Rattle.cron_timetable.proofs.elements.Span.set.Goals.{then-holds, else-holds}

pub loop-n-preserved : goal.loop-n-preserved
loop-n-preserved c =
    let p = in_element c.args.field c.args.self.now in
    elim c.if-holds.branch [
      | then-holds w ↦
          w.bits-is
          ∙ (ap (λ (s : ℕ). bit_or s ((1 * 2 ^ c.loop-n.n) % 2 ^ 64)) c.loop-n.invariant
          ∙ set_below-more_yes p c.loop-n.n c.loop-n-test.true (sym c.holds.ensures ∙ w.if-holds.true))
      | else-holds w ↦ w.bits-is ∙ (c.loop-n.invariant ∙ set_below-more_no p c.loop-n.n (sym c.holds.ensures ∙ w.if-holds.false))
    ]

pub returns : goal.returns
unfolding set_of
returns c =
    let end : c.loop-n.n ≡ 64 = omega arith in
    c.of_bits.ensures ∙ (c.loop-n.invariant ∙ ap (λ (n : ℕ). set_below n (in_element c.args.field c.args.self.now)) end)
