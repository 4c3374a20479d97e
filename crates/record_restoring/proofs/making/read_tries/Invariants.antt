use Rattle.std.proofs.Common.{◌≡◌, take, map, vec_items}
use Rattle.record_rules.specs.Reading.{try_of}
use Rattle.record_restoring.proofs.making.read_tries.Given as goal

abbrev pub invariant-loop-entry : goal.invariant-loop-entry
invariant-loop-entry l = vec_items l.tries ≡ map try_of (take l.entry-index l.entries)
