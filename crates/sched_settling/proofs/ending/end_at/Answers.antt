use Rattle.std.proofs.Common.{◌≡◌, ◌∙◌, List, ap, sym, subst, refl, slice_get, Option, Some}
use Rattle.sched_state.specs.declared.runs.Run.{Run}
use Rattle.sched_model.specs.Schedule.{Schedule, run_before}
use Rattle.sched_draft.specs.Drafts.{DraftValue}
use Rattle.sched_settling.proofs.LineLemmas.{end_lines}
use Rattle.sched_settling.proofs.PhaseLemmas.{ended_at, ended_none}
use Rattle.sched_laws.specs.Stages.{phase_at}
use Rattle.sched_model.specs.Lists.{rises}
use Rattle.sched_settling.specs.Marks.{AreLines, HasLineOf, IsCountedDown}
use Rattle.sched_settling.specs.declared.lines.GraphRuns.{GraphRuns}
use Rattle.sched_settling.proofs.ending.end_at.Goals as goal

pub returns-in_ok-provide_line-clause-ended : goal.returns-in_ok-provide_line-clause-ended
returns-in_ok-provide_line-clause-ended c =
    let a : Schedule = c.args.draft.now.content in
    let r : Run = c.run.result.now in
    let there : slice_get a.runs c.args.position ≡ Some r =
    c.run.ensures in
    let set : c.set_phase.new.self.content ≡ phase_at c.in-Some.phase c.args.position a = ap (λ (d : DraftValue). d.content) c.set_phase.ensures ∙ ap (phase_at c.in-Some.phase c.args.position) (ap (λ (d : DraftValue). d.content) c.in_ok-own.ensures.ok) in
    ended_at a c.set_phase.new.self.content c.args.position r c.in-Some.phase c.requires.keyed there c.in-Some.ensures set

pub returns-in_ok-provide_line-clause-lines : goal.returns-in_ok-provide_line-clause-lines
returns-in_ok-provide_line-clause-lines c =
    let a : Schedule = c.args.draft.now.content in
    let r : Run = c.run.result.now in
    let there : slice_get a.runs c.args.position ≡ Some r =
    c.run.ensures in
    let same : c.own.new.self.content ≡ a = ap (λ (d : DraftValue). d.content) c.in_ok-own.ensures.ok in
    let q : Run = c.run-in-Some.result.now in
    let again : slice_get a.runs c.args.position ≡ Some q = ap (λ (x : Schedule). slice_get x.runs c.args.position) (sym same) ∙ c.run-in-Some.ensures in
    let both : ◌≡◌ {A = Option Run} (Some q) (Some r) = sym again ∙ there in
    let is : q ≡ r = cc in
    let p : Run = c.run-in-Some-2.result.now in
    let once : slice_get a.runs c.args.position ≡ Some p = ap (λ (x : Schedule). slice_get x.runs c.args.position) (sym same) ∙ c.run-in-Some-2.ensures in
    let two : ◌≡◌ {A = Option Run} (Some p) (Some r) = sym once ∙ there in
    let it : p ≡ r = cc in
    let set : c.set_phase.new.self.content ≡ phase_at c.in-Some.phase c.args.position a = ap (λ (d : DraftValue). d.content) c.set_phase.ensures ∙ ap (phase_at c.in-Some.phase c.args.position) same in
    let ls : List GraphRuns = c.provide_line.new.lines.items in
    let lines : AreLines ls a = subst (AreLines ls) same c.in_ok-provide_line.ensures.lines in
    let has : HasLineOf a r.graph ls = subst (λ (x : Run). HasLineOf a x.graph ls) is (subst (λ (x : Schedule). HasLineOf x q.graph ls) same c.in_ok-provide_line.ensures.there) in
    let counted : IsCountedDown r.graph ls c.count_down.new.lines.items = subst (λ (x : Run). IsCountedDown x.graph ls c.count_down.new.lines.items) it c.count_down.ensures in
    end_lines a c.set_phase.new.self.content c.args.position r c.in-Some.phase ls c.count_down.new.lines.items there c.in-Some.ensures set lines has counted

pub provide_line-requires-clause-runs : goal.provide_line-requires-clause-runs
provide_line-requires-clause-runs c = ap (λ (d : DraftValue). rises run_before d.content.runs) c.in_ok-own.ensures.ok ∙ c.requires.keyed.ordered.runs

pub provide_line-requires-clause-lines : goal.provide_line-requires-clause-lines
provide_line-requires-clause-lines c = subst (AreLines c.args.lines.now.items) (sym (ap (λ (d : DraftValue). d.content) c.in_ok-own.ensures.ok)) c.requires.lines

pub returns-in_default-clause-ended : goal.returns-in_default-clause-ended
returns-in_default-clause-ended c =
    let a : Schedule = c.args.draft.now.content in
    let r : Run = c.run.result.now in
    let there : slice_get a.runs c.args.position ≡ Some r =
    c.run.ensures in
    ended_none a a c.args.position r c.requires.keyed there c.in_default.ensures refl
