use Rattle.std.proofs.Common.{◌≡◌, true, All}
use Rattle.sqlite.specs.Held.{state}
use Rattle.sessions.specs.History.{is_polled}
use Rattle.sessions.specs.Runs.{GoesBy}
use Rattle.sessions.proofs.state.Session.hear_all.Given as goal

abbrev pub invariant-loop : goal.invariant-loop
invariant-loop g l = GoesBy (state g.S.Store) (All (λ x. is_polled x ≡ true)) l.initial.self l.self
