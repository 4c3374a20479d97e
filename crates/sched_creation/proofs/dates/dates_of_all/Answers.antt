use Rattle.std.proofs.Common.{◌≡◌, ◌∙◌, ℕ, ap, sym, subst, length, List, slice_get, arith}
use Rattle.graph_file.specs.declared.graph_specs.GraphSpec.{GraphSpec}
use Rattle.run_planner.specs.Index.{Index, has_date}
use Rattle.sched_model.specs.Schedule.{Schedule, dates_of}
use Rattle.sched_creation.proofs.IndexLemmas.{dates_pushed}
use Rattle.sched_creation.proofs.dates.dates_of_all.Goals as goal

pub loop-position-preserved : goal.loop-position-preserved
loop-position-preserved c =
    let a : Schedule = c.args.draft.now.content in
    let all : List Index = c.loop-position.all.items in
    let index : Index = c.move_cursor.new.self in
    let long : length all ≡ c.loop-position.position = omega (arith, c.loop-position.invariant.long, c.loop-position.all.ok.0) in
    let alike : (d : ℕ) → has_date index.dates d ≡ has_date (dates_of a c.dag_at-dag.result.now.spec.dag_id) d =
    subst (λ (x : Index). (d : ℕ) → has_date x.dates d ≡ has_date (dates_of a c.dag_at-dag.result.now.spec.dag_id) d) (sym c.move_cursor.ensures)
    (subst (λ (s : GraphSpec). (d : ℕ) → has_date c.in_ok-index.index.dates d ≡ has_date (dates_of a s.dag_id) d) c.spec.ensures.spec c.in_ok-index.ensures) in
    record {
      long = omega (arith, c.in_ok-push.ensures.len, c.loop-position.invariant.long);
      each = λ n g x there now.
          dates_pushed a all c.loop-position.position c.dag_at-dag.result.now index long c.dag_at-dag.ensures alike c.loop-position.invariant.each n g x there (ap (λ (xs : List Index). slice_get xs n) (sym c.in_ok-push.ensures.items) ∙ now);
    }
