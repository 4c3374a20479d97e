use Rattle.std.proofs.Common.{◌≡◌, ◌∙◌, refl, sym, ap, subst, arith, ℕ, List, ◌++◌, flat_map, take}
use Rattle.std.proofs.lemmas.List.{take_all}
use Rattle.dag_check.specs.Graphs.{IsDag, ups}
use Rattle.sched_model.specs.Schedule.{Schedule}
use Rattle.explain.specs.Inside.{upstream_if}
use Rattle.explain.specs.Subjects.{SubjectValue}
use Rattle.explain.specs.declared.reasons.Reason.{Reason}
use Rattle.explain.proofs.GraphLemmas.{stands_below, all_upstreams}
use Rattle.explain.proofs.graph_reasons.add_upstreams.Goals as goal

pub add_upstream-requires : goal.add_upstream-requires
add_upstream-requires c =
    let s : SubjectValue = c.args.subject.now in
    let us : List ℕ = c.upstreams-upstream-items.result.now in
    let these : us ≡ ups s.graph.dag s.place = c.upstreams-upstream-items.ensures ∙ ap (λ (x : SubjectValue). ups x.graph.dag x.place) c.subject.view_is in
    stands_below s.graph.dag us s.place c.loop-upstream.upstream-index _ (subst (λ (x : SubjectValue). IsDag x.graph.dag) c.subject.view_is c.len-count.ensures.dag) these c.requires.place (omega arith) refl

pub returns : goal.returns
returns c =
    let a : Schedule = c.args.schedule.now.content in
    let s : SubjectValue = c.args.subject.now in
    let us : List ℕ = c.upstreams-upstream-items.result.now in
    let these : us ≡ ups s.graph.dag s.place = c.upstreams-upstream-items.ensures ∙ ap (λ (x : SubjectValue). ups x.graph.dag x.place) c.subject.view_is in
    let all : take c.loop-upstream.upstream-index us ≡ ups s.graph.dag s.place = take_all c.loop-upstream.upstream-index us (omega arith) ∙ these in
    let old : List Reason = c.args.reasons.now.items in
    c.loop-upstream.invariant
    ∙ (ap (λ (ps : List ℕ). old ++ flat_map (upstream_if s) ps) all
    ∙ ap (λ (rs : List Reason). old ++ rs) (all_upstreams a s c.requires (sym c.if-not-rule_waits.ensures)))
