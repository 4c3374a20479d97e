use Rattle.std.proofs.Common.{refl, ◌≡◌, ◌∙◌, sym, ap, subst, inr, List, ℕ, false, Some}
use Rattle.sched_model.specs.Schedule.{Schedule}
use Rattle.sched_draft.specs.Books.{pools_in}
use Rattle.sched_core.specs.Changes.{ScheduleValue}
use Rattle.graph_file.specs.Graphs.{graph_of}
use Rattle.sched_events.specs.Causes.{exceeds}
use Rattle.sched_core.specs.Inside.{IsTaken, unfit_text}
use Rattle.sched_events.specs.declared.refusals.Refusal.TheVariants as refusal
use Rattle.sched_core.proofs.LoadingLemmas.{taken_is, pool_is}
use Rattle.sched_core.proofs.schedules.Schedule.read_dag.Goals as goal

pub returns-in-None-clause-taken : goal.returns-in-None-clause-taken
returns-in-None-clause-taken c =
    let a : Schedule = record { limits = c.self.inside.limits; graphs = c.self.inside.graphs.items; pools = pools_in c.self.inside.occupied.pools.pools; now = c.self.inside.clock; lanes = c.self.inside.lanes; next = c.self.inside.next; runs = c.self.inside.runs.runs } in
    let fits : exceeds a.limits c.in_ok-spec.spec ≡ false = sym c.if-exceeds.ensures in
    subst (λ (h : ScheduleValue). IsTaken h.content c.args.text.now c.in_ok-dag.dag) c.self.view_is
    (taken_is a c.self.inside.occupied.pools.pools c.args.text.now c.in_ok-spec.spec c.in_ok-dag.dag c.as_slice.result.now refl c.in_ok-spec.ensures fits c.in_ok-dag.ensures
    (c.as_slice.ensures.tasks ∙ ap (λ s. s.tasks) c.spec.ensures.spec) c.in-None.ensures)

pub returns-in_ok-copy-in-Some-clause-refused : goal.returns-in_ok-copy-in-Some-clause-refused
returns-in_ok-copy-in-Some-clause-refused c =
    let a : Schedule = record { limits = c.self.inside.limits; graphs = c.self.inside.graphs.items; pools = pools_in c.self.inside.occupied.pools.pools; now = c.self.inside.clock; lanes = c.self.inside.lanes; next = c.self.inside.next; runs = c.self.inside.runs.runs } in
    let fits : exceeds a.limits c.in_ok-spec.spec ≡ false = sym c.if-exceeds.ensures in
    let first : unfit_text a (graph_of c.args.text.now) ≡ Some (refusal.UnknownPool c.in-Some.pool.now) =
    pool_is a c.self.inside.occupied.pools.pools c.args.text.now c.in_ok-spec.spec c.in_ok-dag.dag c.as_slice.result.now c.in-Some.pool.now refl c.in_ok-spec.ensures fits c.in_ok-dag.ensures
    (c.as_slice.ensures.tasks ∙ ap (λ s. s.tasks) c.spec.ensures.spec) c.in-Some.ensures in
    inr (record {
      first =
          subst (λ (h : ScheduleValue). unfit_text h.content (graph_of c.args.text.now) ≡ Some (refusal.UnknownPool c.in_ok-copy-in-Some.field-0)) c.self.view_is
          (first ∙ ap (λ (n : List ℕ). Some (refusal.UnknownPool n)) (sym c.in_ok-copy-in-Some.ensures));
      shown = tt;
    })
