use Rattle.std.proofs.Common.{rules, ◌≡◌, vec_items, sym, subst}
use Rattle.sqlite.specs.Held.{state}
use Rattle.sessions.specs.History.{readings_in}
use Rattle.workers.specs.Shows.{shows}
use Rattle.conduct.specs.Served.{IsManaged}
use Rattle.conduct.proofs.threads.manage.Goals as goal

pub returns-clause-managed : goal.returns-clause-managed
returns-clause-managed g c =
    let r = c.in_scope-parted.result in
    let lines = g.L.Lines in
    let gives = g.C.Clock.gives in
    let at : c.lines-1.given.0 ≡ r.lines.now = search rules in
    let then : c.clock-1.given.0 ≡ r.clock.now = search rules in
    subst
    (λ l. IsManaged (state g.S.Store) (shows g.O.Operator.kind_of g.O.Operator.runs_of g.O.Operator.refused_of g.O.Operator.taken) c.args.lanes.now c.args.lane_count c.args.director c.args.pass c.args.workers (vec_items c.args.crews) r.parted r.outcome (vec_items r.results)
    (λ told waits. lines.tells c.args.lines.now told waits l × gives c.args.clock.now (readings_in told) c.clock-1.given.0) ((l ≡ c.args.lines.now) × (c.clock-1.given.0 ≡ c.args.clock.now)) (lines.failed l) (lines.over l))
    (sym at)
    (subst
    (λ k. IsManaged (state g.S.Store) (shows g.O.Operator.kind_of g.O.Operator.runs_of g.O.Operator.refused_of g.O.Operator.taken) c.args.lanes.now c.args.lane_count c.args.director c.args.pass c.args.workers (vec_items c.args.crews) r.parted r.outcome (vec_items r.results)
    (λ told waits. lines.tells c.args.lines.now told waits r.lines.now × gives c.args.clock.now (readings_in told) k) ((r.lines.now ≡ c.args.lines.now) × (k ≡ c.args.clock.now)) (lines.failed r.lines.now) (lines.over r.lines.now))
    (sym then) c.in_scope-parted.ensures.managed)
