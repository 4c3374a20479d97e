use Rattle.std.proofs.Common.{◌≡◌, vec_len}
use Rattle.worked_workers.proofs.desk_turns.write_each.Given as goal

abbrev pub invariant-loop-turn : goal.invariant-loop-turn
invariant-loop-turn g l = vec_len l.shares ≡ vec_len l.initial.shares
