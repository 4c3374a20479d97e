use Rattle.std.proofs.Common.{rules, ◌≡◌, ◌<◌, ◌≤◌, ◌++◌, [], length, slice_index_or, vec_items, ap, sym, ◌∙◌, arith}
use Rattle.ruled_dispatch.specs.declared.passes.WorkerPass.{WorkerPass}
use Rattle.ruled_dispatch.specs.ReportsRule.{told_by}
use Rattle.ruled_dispatch.specs.Lanes.{heard_of, told_of}
use Rattle.worked_workers.specs.ReportRounds.{started, HaveTold}
use Rattle.worked_workers.proofs.Lists.{some_item}
use Rattle.worked_workers.proofs.report_threads.run_report_round.Goals as goal

pub returns : goal.returns
returns g c =
    let held = c.tally-left.ensures.reports in
    let old = vec_items c.in_ok-lanes.passes in
    let new = vec_items c.in_ok-passes.passes in
    let heard = vec_items c.join-heard.result.0.0 in
    let all : length old ≡ c.args.workers = search rules in
    let told : HaveTold c.in_ok-lanes.lanes c.args.count old new = search rules in
    let nothing : heard_of c.in_ok-lanes.director ≡ [] = c.in_ok-lanes.ensures.heard in
    let grown : heard_of c.join-heard.result.0.1 ≡ heard_of c.in_ok-lanes.director ++ heard = search rules in
    let is : heard_of c.join-heard.result.0.1 ≡ heard = grown ∙ ap (λ l. l ++ heard) nothing in
    let same : length new ≡ length old = told.0 in (
      held.0,
      held.1,
      (λ k below.
          let here : k < length old = omega arith in
          let there : k < length new = omega arith in
          let some : 0 < length old = omega arith in
          let d : WorkerPass = some_item old some in
          let none_before : told_of (slice_index_or old k d) ≡ [] = c.in_ok-lanes.ensures.told k d here in
          let now : told_of (slice_index_or new k d) ≡ started c.args.count = (told.1 k d here).2 ∙ ap (λ l. l ++ started c.args.count) none_before in
          let number : (slice_index_or new k d).number ≡ k = (told.1 k d here).1 ∙ c.in_ok-lanes.ensures.numbers k d here in
          sym now
          ∙ held.2 k d there
          ∙ ap (λ n. told_by n (heard_of c.join-heard.result.0.1) ++ told_by n held.0) number
          ∙ ap (λ l. told_by k l ++ told_by k held.0) is),
      (λ k late.
          let past : length new ≤ k = omega arith in
          let none = held.3 k past in
          (ap (told_by k) (sym is) ∙ none.0, none.1)),
    )
