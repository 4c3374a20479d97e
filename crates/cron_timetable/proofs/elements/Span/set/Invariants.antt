use Rattle.std.proofs.Common.{◌≡◌}
use Rattle.cron_timetable.specs.Sets.{set_below}
use Rattle.cron_timetable.specs.Elements.{in_element}
use Rattle.cron_timetable.proofs.elements.Span.set.Given as goal

abbrev pub invariant-loop-n : goal.invariant-loop-n
invariant-loop-n l = l.bits ≡ set_below l.n (in_element l.field l.self)
