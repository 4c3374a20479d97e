use Rattle.std.proofs.Common.{◌≡◌, None}
use Rattle.sqlite.specs.Held.{state}
use Rattle.sessions.specs.Told.{Rests, Serves}
use Rattle.sessions.proofs.state.Session.follow.Given as goal

abbrev pub invariant-loop : goal.invariant-loop
invariant-loop g l = record {
  served : Serves (state g.S.Store) g.L.Lines.tells g.C.Clock.gives None (Rests None) l.initial.self l.self l.initial.lines l.lines l.initial.clock l.clock;
  failed : g.L.Lines.failed l.lines ≡ None;
}
