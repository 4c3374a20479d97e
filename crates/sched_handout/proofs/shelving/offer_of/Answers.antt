use Rattle.std.proofs.Common.{◌∙◌, ◌<◌, length, ap, sym, arith}
use Rattle.std.specs.List.{list_any}
use Rattle.graph_file.specs.declared.graph_specs.GraphSpec.{GraphSpec}
use Rattle.sched_state.proofs.ElementLemmas.{element_at}
use Rattle.sched_model.specs.Schedule.{is_at}
use Rattle.sched_handout.proofs.ShelfLemmas.{bound_read, graph_within, key_of, no_instance, no_run, not_running, offered_of, run_within}
use Rattle.sched_handout.proofs.shelving.offer_of.Goals as goal

pub returns-in_default : goal.returns-in_default
returns-in_default c =
    let a = c.args.draft.now.content in
    no_run a c.args.dag.now.spec.dag_id c.args.place c.args.date (ap (λ (s : GraphSpec). list_any (is_at s.dag_id c.args.date) a.runs) (sym c.spec.ensures.spec) ∙ c.in_default.ensures)

pub run-run-requires : goal.run-run-requires
run-run-requires c = run_within c.args.draft.now.content.runs c.in-Some.position c.args.date c.spec.result.now.dag_id c.in-Some.ensures

pub returns-then-not-is_running : goal.returns-then-not-is_running
returns-then-not-is_running c =
    let a = c.args.draft.now.content in
    let id = c.args.dag.now.spec.dag_id in
    let key = key_of a.runs c.in-Some.position c.args.date id c.spec.result.now.dag_id c.run-run.result.now c.in-Some.ensures (ap (λ (s : GraphSpec). s.dag_id) c.spec.ensures.spec) c.run-run.ensures in
    not_running a id c.args.place c.args.date c.in-Some.position c.run-run.result.now c.requires.sound c.run-run.ensures key (sym c.is_running.ensures ∙ c.if-not-is_running.true)

pub returns-then-len-place : goal.returns-then-len-place
returns-then-len-place c =
    let a = c.args.draft.now.content in
    let id = c.args.dag.now.spec.dag_id in
    let key = key_of a.runs c.in-Some.position c.args.date id c.spec.result.now.dag_id c.run-run.result.now c.in-Some.ensures (ap (λ (s : GraphSpec). s.dag_id) c.spec.ensures.spec) c.run-run.ensures in
    no_instance a id c.args.place c.args.date c.in-Some.position c.run-run.result.now c.requires.sound c.run-run.ensures key (omega (arith, c.if-len-place.true, c.len.ensures))

pub returns : goal.returns
returns c =
    let a = c.args.draft.now.content in
    let g = c.args.dag.now in
    let r = c.run-run.result.now in
    let key = key_of a.runs c.in-Some.position c.args.date g.spec.dag_id c.spec.result.now.dag_id r c.in-Some.ensures (ap (λ (s : GraphSpec). s.dag_id) c.spec.ensures.spec) c.run-run.ensures in
    let within : c.args.place < length r.instances = omega (arith, c.if-len-place.false, c.len.ensures) in
    let i = element_at r.instances c.args.place within in
    offered_of a c.in-Some.position c.args.place c.args.date c.clock.result c.bound_at-bound.result r g i.0 c.offer_at.result (bound_read a c.args.graph g c.bound_at-bound.result c.requires.dag.at c.bound_at-bound.ensures) c.requires.sound c.run-run.ensures key c.requires.dag.dag c.requires.dag.unpaused c.requires.place i.1
    (sym c.is_running.ensures ∙ c.if-not-is_running.false) c.clock.ensures (c.offer_at.ensures i.0 i.1)

pub bound_at-bound-requires : goal.bound_at-bound-requires
bound_at-bound-requires c = graph_within c.args.draft.now.content c.args.graph c.args.dag.now c.requires.dag.at
