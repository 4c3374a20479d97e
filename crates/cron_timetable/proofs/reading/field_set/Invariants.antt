use Rattle.std.proofs.Common.{◌≡◌, ◌==◌, length}
use Rattle.std.specs.List.{slice_split}
use Rattle.cron_timetable.specs.Grammar.{elements_of, field_of}
use Rattle.cron_timetable.proofs.UnionLemmas.{joined}
use Rattle.cron_timetable.proofs.reading.field_set.Given as goal

abbrev pub invariant-elements : goal.invariant-elements
invariant-elements l = field_of l.field l.fn.text ≡ joined l.field l.set (elements_of l.field (slice_split (λ x. x == 44) l.rest))

abbrev pub decreases-elements : goal.decreases-elements
decreases-elements l = length l.rest
