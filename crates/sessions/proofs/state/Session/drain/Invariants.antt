use Rattle.std.proofs.Common.{◌≡◌}
use Rattle.sqlite.specs.Held.{state}
use Rattle.sessions.specs.History.{AreReported}
use Rattle.sessions.specs.Lines.{TellsOn}
use Rattle.sessions.specs.Runs.{GoesBy}
use Rattle.sessions.proofs.state.Session.drain.Given as goal

abbrev pub invariant-loop : goal.invariant-loop
invariant-loop g l = record {
  went : GoesBy (state g.S.Store) AreReported l.initial.self l.self;
  told : TellsOn g.L.Lines.tells l.initial.lines l.lines;
  failed : g.L.Lines.failed l.lines ≡ g.L.Lines.failed l.initial.lines;
  over : g.L.Lines.over l.lines ≡ g.L.Lines.over l.initial.lines;
}
