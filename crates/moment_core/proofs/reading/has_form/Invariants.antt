use Rattle.std.proofs.Common.{◌≡◌, drop, length}
use Rattle.moment_core.specs.Reading.{fits_form}
use Rattle.moment_core.proofs.reading.has_form.Given as goal

abbrev pub invariant-loop-i : goal.invariant-loop-i
invariant-loop-i l = record {
  long : length l.form ≡ length l.text;
  rest : fits_form (drop l.i l.form) (drop l.i l.text) ≡ fits_form l.form l.text;
}
