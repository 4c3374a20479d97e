use Rattle.std.proofs.Common.{◌≡◌, ◌<◌, ℕ, take, length, arith, Some, true, ap, sym, ◌∙◌}
use Rattle.std.proofs.lemmas.Bool.{eqb-true}
use Rattle.std.proofs.lemmas.Bool.Decides.{nat_tests}
use Rattle.std.proofs.lemmas.List.{take_all}
use Rattle.std.specs.List.{list_all}
use Rattle.cron_timetable.specs.Elements.{decimal, is_digit}
use Rattle.cron_timetable.proofs.NumberLemmas.{number_of-empty, number_of-long, number_of-bad, number_of-good, decimal-empty, decimal_more, digits_more, not_digit-low, not_digit-high}
use Rattle.cron_timetable.proofs.pieces.number.Goals as goal
use Rattle.cron_timetable.proofs.pieces.number.Goals.{then-is_empty-via-then-is_empty, then-is_empty-via-else-is_empty+then-text-most, then-byte-lt48-via-then-byte-lt48, then-byte-lt48-via-else-byte-lt48+then-byte-gt57}

pub returns-then-is_empty : goal.returns-then-is_empty
returns-then-is_empty c =
    elim c.then-is_empty.branch [
      | then-is_empty-via-then-is_empty w ↦ sym (number_of-empty _ _ (eqb-true _ _ (sym (w.if-is_empty.ensures))))
      | then-is_empty-via-else-is_empty+then-text-most w ↦ sym (number_of-long _ _ w.if-text-most.true)
    ]

pub loop-byte-init : goal.loop-byte-init
loop-byte-init c = grind (arith, decimal-empty)

pub returns-then-byte-lt48 : goal.returns-then-byte-lt48
returns-then-byte-lt48 c =
    elim c.then-byte-lt48.branch [
      | then-byte-lt48-via-then-byte-lt48 w ↦
          sym (number_of-bad _ _ c.loop-byte.byte-index c.loop-byte-test.true (not_digit-low _ w.if-byte-lt48.true))
      | then-byte-lt48-via-else-byte-lt48+then-byte-gt57 w ↦
          sym (number_of-bad _ _ c.loop-byte.byte-index c.loop-byte-test.true (not_digit-high _ w.if-byte-gt57.true))
    ]

pub loop-byte-preserved : goal.loop-byte-preserved
loop-byte-preserved c =
    let i = c.loop-byte.byte-index in
    let value = decimal_more c.args.text.now i c.loop-byte-test.true in
    record {
      value = cc;
      digits = digits_more c.args.text.now i c.loop-byte-test.true c.loop-byte.invariant.digits c.if-byte-lt48.false c.if-byte-gt57.false;
      none = λ h. omega (arith, c.from.ensures);
      one = λ h. omega (arith, c.from.ensures);
      two = λ h. omega (arith, c.from.ensures);
      three = λ h. omega (arith, c.from.ensures);
      four = λ h. omega (arith, c.from.ensures);
    }

pub returns : goal.returns
returns c =
    let bs = c.args.text.now in
    let all : take c.loop-byte.byte-index bs ≡ bs = take_all _ bs (omega arith) in
    let value : c.loop-byte.number ≡ decimal bs = rw all at c.loop-byte.invariant.value in
    let digits : list_all is_digit bs ≡ true = rw all at c.loop-byte.invariant.digits in
    let some : 0 < length bs = grind (arith, nat_tests) in
    ap (λ (n : ℕ). Some n) value ∙ sym (number_of-good _ bs some (omega arith) digits)
