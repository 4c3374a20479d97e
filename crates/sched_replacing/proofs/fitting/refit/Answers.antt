use Rattle.std.proofs.Common.{◌∙◌, ◌<◌, refl, ap, subst, arith, ℕ, List, length}
use Rattle.graph_file.specs.declared.graph_specs.GraphSpec.{GraphSpec}
use Rattle.sched_state.specs.declared.runs.Run.{Run}
use Rattle.sched_state.proofs.ElementLemmas.{element_at}
use Rattle.sched_model.specs.Schedule.{Schedule}
use Rattle.sched_clearing.specs.Spans.{AreRunsOf}
use Rattle.sched_replacing.proofs.FitLemmas.{refit_begins, refit_long, refit_over, refit_turn, runs_are}
use Rattle.sched_replacing.proofs.fitting.refit.Goals as goal

pub loop-position-init : goal.loop-position-init
loop-position-init c =
    let span = subst (λ (s : GraphSpec). AreRunsOf s.dag_id c.args.draft.now.content.runs c.span_of_all-span.result.start c.span_of_all-span.result.end) c.spec.ensures.spec c.span_of_all-span.ensures in
    record {
      base = refl;
      content = refit_begins c.args.old.now c.args.new.now c.args.draft.now.content c.span_of_all-span.result.start c.span_of_all-span.result.end span;
    }

pub refit_run-requires-clause-within : goal.refit_run-requires-clause-within
refit_run-requires-clause-within c =
    let long = refit_long c.args.old.now c.args.new.now c.args.draft.now.content c.loop-position.draft.content c.loop-position.position c.loop-position.invariant.content in
    omega (arith, long, c.span_of_all-span.ensures.within, c.loop-position-test.true)

pub loop-position-preserved : goal.loop-position-preserved
loop-position-preserved c =
    let span = subst (λ (s : GraphSpec). AreRunsOf s.dag_id c.args.draft.now.content.runs c.span_of_all-span.result.start c.span_of_all-span.result.end) c.spec.ensures.spec c.span_of_all-span.ensures in
    let a : Schedule = c.args.draft.now.content in
    let n : ℕ = c.loop-position.position in
    let inside : n < length a.runs = omega (arith, c.span_of_all-span.ensures.within, c.loop-position-test.true) in
    let r = element_at a.runs n inside in
    record {
      base = c.in_ok-refit_run.ensures.base ∙ c.loop-position.invariant.base;
      content = refit_turn c.args.old.now c.args.new.now a c.loop-position.draft.content _ c.span_of_all-span.result.start c.span_of_all-span.result.end n r.0 span c.loop-position.auto.position c.loop-position-test.true r.1
          c.loop-position.invariant.content c.in_ok-refit_run.ensures.draft;
    }

pub returns-clause-model : goal.returns-clause-model
returns-clause-model c a is =
    let span = subst (λ (s : GraphSpec). AreRunsOf s.dag_id c.args.draft.now.content.runs c.span_of_all-span.result.start c.span_of_all-span.result.end) c.spec.ensures.spec c.span_of_all-span.ensures in
    let b : Schedule = c.args.draft.now.content in
    refit_over c.args.old.now c.args.new.now b c.loop-position.draft.content c.span_of_all-span.result.start c.span_of_all-span.result.end c.loop-position.position span (omega (arith, c.loop-position-test.false))
    c.loop-position.invariant.content
    ∙ ap (λ (rs : List Run). record b { runs = rs }) (runs_are a c.args.old.now c.args.new.now b.runs is)
