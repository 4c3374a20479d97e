use Rattle.std.proofs.Common.{◌≡◌, ◌∙◌, ap}
use Rattle.sqlite.specs.Held.{state}
use Rattle.kept.specs.Lists.{KeptValue}
use Rattle.sched_events.specs.declared.events.Event.{Event}
use Rattle.sessions.specs.declared.steppers.Stepper.{Stepper}
use Rattle.conduct.proofs.Runs.{all_or, keeps_or, served_or, Begins, Ends}
use Rattle.conduct.proofs.serving.serve.Goals as goal

pub returns-clause-served : goal.returns-clause-served
returns-clause-served g c =
    let new = c.new-session.ensures in
    let stop = c.stop.ensures in
    let part = c.part.ensures in
    let begins : Begins c.args.lanes.now c.args.director c.args.pass c.new-session.result = record { director = new.director; minutes = new.minutes.0; executor = new.executor; missed = new.missed; unsent = c.requires.unused.0; unheard = c.requires.unused.1 } in
    let ends : Ends c.args.started.workers c.serve_all-outcome.new.session c.stop.new.self c.part.result = record { sent = stop.sent; asks = stop.asks; same = stop.same; stepper = stop.stepper; missed = stop.missed; director = part.director; minutes = part.minutes; by = part.pass; of = part.lanes; mark = part.missed } in
    served_or (state g.S.Store) g.L.Lines.tells g.C.Clock.gives g.L.Lines.failed g.L.Lines.over c.args.started.are_all c.new-session.result c.serve_all-outcome.new.session c.stop.new.self c.part.result c.serve_all-outcome.result begins c.serve_all-outcome.ensures c.requires.sound
    (g.met.L.Lines.begins c.args.lines.now) (g.met.C.Clock.begins c.args.clock.now) ends

pub returns-clause-all : goal.returns-clause-all
returns-clause-all g c = all_or _ _ _ _ c.args.started.are_all c.serve_all-outcome.result c.serve_all-outcome.ensures

pub returns-clause-keep : goal.returns-clause-keep
returns-clause-keep g c =
    ap (λ (m : KeptValue Event). m.keep) c.part.ensures.minutes ∙ ap (λ (x : Stepper g.row.S.Denot). x.minutes.keep) c.stop.ensures.stepper
    ∙ keeps_or _ _ _ _ c.args.started.are_all c.new-session.result c.serve_all-outcome.new.session c.serve_all-outcome.ensures (λ f. f.served.went.keep) ∙ c.new-session.ensures.keep
