use Rattle.std.proofs.Common.{[], ◌∷◌, ◌++◌, ◌≡◌, false, true, None, refl}
use Rattle.std.proofs.lemmas.List.Elements.{All-nil}
use Rattle.sqlite.specs.Held.{state}
use Rattle.sessions.specs.History.{is_reported, is_restarted, Restarted, Step}
use Rattle.sessions.proofs.GoesLemmas.{goes_then}
use Rattle.sessions.proofs.ServeLemmas.{on_err_any, on_err_none, with_restart}
use Rattle.sessions.proofs.state.Session.serve.Goals as goal

pub returns-in-Ok-clause-served : goal.returns-in-Ok-clause-served
returns-in-Ok-clause-served g c =
    let r = c.in-Ok.ensures.went in
    let f = c.follow.ensures.served in
    record {
      faults = r.0;
      restart = r.1;
      told = f.told;
      last = f.last;
      waits = f.waits;
      went = goes_then r.3 f.went;
      unbegun = on_err_none _ r.1 r.2;
      once = f.once;
      behind = f.behind;
      known = with_restart _ c.follow.result r.2 f.known;
      tells = f.tells c.args.lines.now [] (g.met.L.Lines.begins c.args.lines.now);
      gives = f.gives c.args.clock.now [] (g.met.C.Clock.begins c.args.clock.now);
    }

-- without the restart nothing is told
pub returns-in-Err-clause-served : goal.returns-in-Err-clause-served
returns-in-Err-clause-served g c =
    let r = c.in-Err.ensures.went in
    record {
      faults = r.0;
      restart = r.1;
      told = [];
      last = [];
      waits = None;
      went = r.3;
      unbegun = on_err_any _ r.1 refl;
      once = All-nil (λ (x : Step). is_restarted x ≡ false);
      behind = All-nil (λ (x : Step). is_reported x ≡ true);
      known = tt;
      tells = g.met.L.Lines.begins c.args.lines.now;
      gives = g.met.C.Clock.begins c.args.clock.now;
    }
