use Rattle.std.proofs.Common.{◌≡◌, rules, subst, sym}
use Rattle.std.proofs.lemmas.Bool.{eqb-true}
use Rattle.cron_timetable.specs.declared.timetables.Timetable.{Timetable}
use Rattle.run_planner.specs.Index.{Index}
use Rattle.run_planner.specs.Walks.{HasPassed}
use Rattle.run_planner.proofs.run_index.RunIndex.cursor_for.Goals as goal

pub returns-then-eq-2 : goal.returns-then-eq-2
returns-then-eq-2 c =
    let starts : c.in-Some.passed.start ≡ c.args.graph.now.start_date = eqb-true _ _ (sym c.if-eq-2.ensures) in
    let same : c.in-Some.passed.timetable ≡ c.args.graph.now.schedule = search rules in
    let passed = c.self.invariant.1 c.in-Some.passed c.in-Some.is in
    subst (λ (v : Index). HasPassed v.dates c.args.graph.now.schedule c.args.graph.now.start_date c.in-Some.passed.cursor) c.self.view_is
    (subst (λ (n : Timetable). HasPassed c.self.inside.dates.items n c.args.graph.now.start_date c.in-Some.passed.cursor) same
    (subst (λ n. HasPassed c.self.inside.dates.items c.in-Some.passed.timetable n c.in-Some.passed.cursor) starts passed))
