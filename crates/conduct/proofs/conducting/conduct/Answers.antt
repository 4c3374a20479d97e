use Rattle.std.proofs.Common.{rules, ◌≡◌, ◌==◌, true, length, map, vec_items, refl, sym, ◌∙◌, eq-eqb, subst}
use Rattle.std.proofs.lemmas.List.{length-map}
use Rattle.sqlite.specs.Held.{state}
use Rattle.sched_events.specs.SettledAndSound.{IsSoundAndSaid}
use Rattle.sessions.specs.Runs.{ScheduleValue}
use Rattle.sessions.specs.History.{readings_in}
use Rattle.sessions.specs.declared.faults.ConductFault.TheVariants as fault
use Rattle.workers.specs.Shows.{shows}
use Rattle.conduct.proofs.Composition.{none_kept, unstarted_run}
use Rattle.conduct.proofs.conducting.conduct.Goals as goal

pub returns-then-workers-eq0-clause-conducted : goal.returns-then-workers-eq0-clause-conducted
returns-then-workers-eq0-clause-conducted g c =
    let crews = vec_items c.args.crews in
    let kits = map (λ x. x.kit) crews in
    let zero : length crews ≡ 0 = search rules in
    let none : true ≡ (length kits == 0) = sym (eq-eqb (length kits) 0 (length-map crews (λ x. x.kit) ∙ zero)) in
    let sound : IsSoundAndSaid c.args.director.schedule.content = subst (λ (s : ScheduleValue). IsSoundAndSaid s.content) c.schedule.ensures c.runs.ensures.kept in
    unstarted_run (state g.S.Store) (shows g.O.Operator.kind_of g.O.Operator.runs_of g.O.Operator.refused_of g.O.Operator.taken) c.args.lane_count kits c.args.director _ (λ told waits. g.L.Lines.tells c.args.lines.now told waits c.args.lines.now × g.C.Clock.gives c.args.clock.now (readings_in told) c.args.clock.now) ((c.args.lines.now ≡ c.args.lines.now) × (c.args.clock.now ≡ c.args.clock.now)) _ _ fault.NoWorker sound refl c.new.ensures.items c.new-then-workers-eq0.ensures.items refl
    (g.met.L.Lines.begins c.args.lines.now, g.met.C.Clock.begins c.args.clock.now) (refl, refl) refl c.requires.sound none

pub returns-then-workers-eq0-clause-keep : goal.returns-then-workers-eq0-clause-keep
returns-then-workers-eq0-clause-keep g c = (c.new.ensures.keep, none_kept c.args.keep (vec_items c.new-then-workers-eq0.result) c.new-then-workers-eq0.ensures.items)
