use Rattle.std.proofs.Common.{◌≡◌, ◌++◌, ◌+◌, ◌<◌, ◌≤◌, [], ℕ, List, true, length, map, vec_items, get_or, ap, sym, ◌∙◌, subst, arith, append-nil, replicate}
use Rattle.std.specs.Prelude.{sum_by}
use Rattle.std.proofs.lemmas.List.{length-map, get_or-map}
use Rattle.ruled_dispatch.specs.declared.items.JobOrStop.TheVariants as items
use Rattle.ruled_dispatch.specs.declared.passes.WorkerPass.{WorkerPass}
use Rattle.ruled_dispatch.specs.ReportsRule.{told_by}
use Rattle.ruled_dispatch.specs.Lanes.{sent_of, taken_of, told_of, heard_of, IsWorkerOf, HasWorkers, IsSettledBut, IsHeardBut}
use Rattle.slot_desk.specs.Holds.{have_distinct_serials, in_hand, slots_of}
use Rattle.workers.specs.declared.crews.WorkerEnd.{WorkerEnd}
use Rattle.workers.specs.Logs.{jobs_of, reports_of}
use Rattle.workers.proofs.Places.{none_left, at_image}
use Rattle.workers.specs.Accounted.{AreAmongSent, AreAmongTold}
use Rattle.workers.proofs.Backs.{back_are_sent, of_the_total, of_what_is_left, took_all, where_none_is_left}
use Rattle.workers.proofs.Told.{back_are_told}
use Rattle.workers.proofs.accounting.account.Goals as goal

pub tally-left-requires : goal.tally-left-requires
tally-left-requires g c =
    let results = vec_items c.args.results in
    let are = c.take_apart-ends.ensures.passes in
    let len : length (vec_items c.take_apart-ends.result.passes) ≡ length results = ap length are ∙ length-map results (λ r. r.1) in (
      c.requires.director,
      subst (λ xs. (k : ℕ) (d : WorkerPass) → k < length xs → IsWorkerOf c.args.lanes (get_or xs k d)) (sym are)
          (at_image (λ r. r.1) results (λ k w. IsWorkerOf c.args.lanes w) (λ i r b. (c.requires.back i r b).of)),
      subst (λ n. HasWorkers c.args.director n) (sym len) c.requires.workers,
    )

pub returns-clause-items_left : goal.returns-clause-items_left
returns-clause-items_left g c =
    of_what_is_left (λ t. IsSettledBut c.args.director (map (λ r. r.1) (vec_items c.args.results)) t.jobs) c.tally-left.result c.unless_left.result c.unless_left.ensures.some
    (λ _. subst (λ xs. IsSettledBut c.args.director xs c.tally-left.result.jobs) c.take_apart-ends.ensures.passes c.tally-left.ensures.jobs)

pub returns-clause-reports_left : goal.returns-clause-reports_left
returns-clause-reports_left g c =
    of_what_is_left (λ t. IsHeardBut c.args.director (map (λ r. r.1) (vec_items c.args.results)) t.reports) c.tally-left.result c.unless_left.result c.unless_left.ensures.some
    (λ _. subst (λ xs. IsHeardBut c.args.director xs c.tally-left.result.reports) c.take_apart-ends.ensures.passes c.tally-left.ensures.reports)

pub returns-clause-left : goal.returns-clause-left
returns-clause-left g c = of_what_is_left (λ t. 0 < t.jobs + t.reports) c.tally-left.result c.unless_left.result c.unless_left.ensures.some (λ some. some)

pub returns-clause-sent : goal.returns-clause-sent
returns-clause-sent g c =
    subst (AreAmongSent (sent_of c.args.director)) (sym c.take_apart-ends.ensures.ends)
    (back_are_sent c.args.lanes c.args.director (vec_items c.args.results) (vec_items c.take_apart-ends.result.passes) _ c.take_apart-ends.ensures.passes c.requires.back c.tally-left.ensures.jobs)

pub returns-clause-told : goal.returns-clause-told
returns-clause-told g c =
    subst (AreAmongTold (heard_of c.args.director)) (sym c.take_apart-ends.ensures.ends)
    (back_are_told c.args.lanes c.args.director (vec_items c.args.results) (vec_items c.take_apart-ends.result.passes) _ c.take_apart-ends.ensures.passes c.requires.back c.tally-left.ensures.reports)

pub returns-clause-in_hand : goal.returns-clause-in_hand
returns-clause-in_hand g c =
    of_the_total (λ d. d.slots ≡ in_hand (map (λ r. r.2) (vec_items c.args.results))) c.gather-total.result c.unless_left.result c.unless_left.ensures.none
    (λ _. c.gather-total.ensures.in_hand ∙ ap in_hand c.take_apart-ends.ensures.shares)

pub returns-clause-in_book : goal.returns-clause-in_book
returns-clause-in_book g c = of_the_total (λ d. d.slots ≡ slots_of (vec_items d.holds)) c.gather-total.result c.unless_left.result c.unless_left.ensures.none (λ _. c.gather-total.ensures.in_book)

pub returns-clause-each_has_one : goal.returns-clause-each_has_one
returns-clause-each_has_one g c = of_the_total (λ d. length (vec_items d.holds) ≤ d.slots) c.gather-total.result c.unless_left.result c.unless_left.ensures.none (λ _. c.gather-total.ensures.each_has_one)

pub returns-clause-distinct : goal.returns-clause-distinct
returns-clause-distinct g c = of_the_total (λ d. have_distinct_serials (vec_items d.holds) ≡ true) c.gather-total.result c.unless_left.result c.unless_left.ensures.none (λ _. c.gather-total.ensures.distinct)

pub returns-clause-once : goal.returns-clause-once
returns-clause-once g c = where_none_is_left c.gather-total.result c.unless_left.result c.unless_left.ensures.none (λ none weight.
    let results = vec_items c.args.results in
    let ends_are = c.take_apart-ends.ensures.ends in
    let tallied = c.tally-left.ensures.jobs in
    let zero_left : c.tally-left.result.jobs ≡ 0 = none.0 in
    let left_len = tallied.1 in
    let nothing : tallied.0 ≡ [] = none_left tallied.0 (omega arith) in
    let all = tallied.2 weight in
    let took = took_all weight results (λ i r b. (c.requires.back i r b).took) in
    let passes = ap (sum_by (λ w. sum_by weight (taken_of w))) c.take_apart-ends.ensures.passes in
    let ends = ap (sum_by (λ e. sum_by weight (jobs_of e.log.items))) ends_are in
    let stops = ap (λ m. sum_by weight (replicate m items.Stop)) (ap length ends_are ∙ length-map results (λ r. r.0)) in
    let no_more : sum_by weight tallied.0 ≡ 0 = ap (sum_by weight) nothing in
    omega arith)

pub returns-clause-heard : goal.returns-clause-heard
returns-clause-heard g c = where_none_is_left c.gather-total.result c.unless_left.result c.unless_left.ensures.none (λ none.
    let results = vec_items c.args.results in
    let passes = vec_items c.take_apart-ends.result.passes in
    let are = c.take_apart-ends.ensures.passes in
    let ends_are = c.take_apart-ends.ensures.ends in
    let heard = heard_of c.args.director in
    let tallied = c.tally-left.ensures.reports in
    let zero_left : c.tally-left.result.reports ≡ 0 = none.1 in
    let left_len = tallied.1 in
    let nothing : tallied.0 ≡ [] = none_left tallied.0 (omega arith) in
    let len : length passes ≡ length results = ap length are ∙ length-map results (λ r. r.1) in
    let len_ends : length (vec_items c.take_apart-ends.result.ends) ≡ length results = ap length ends_are ∙ length-map results (λ r. r.0) in (
      subst (λ (xs : List (WorkerEnd g.row.G.Denot g.row.O.Denot)). (k : ℕ) (e : WorkerEnd g.row.G.Denot g.row.O.Denot) → k < length xs → told_by k heard ≡ reports_of (get_or xs k e).log.items) (sym ends_are)
          (at_image (λ r. r.0) results (λ k e. told_by k heard ≡ reports_of e.log.items)
          (λ i r b.
          let back = c.requires.back i r b in
          let at : get_or passes i r.1 ≡ (get_or results i r).1 = ap (λ l. get_or l i r.1) are ∙ get_or-map (λ x. x.1) results i r r.1 b in
          let number : (get_or passes i r.1).number ≡ i = ap (λ (w : WorkerPass). w.number) at ∙ back.number in
          sym (append-nil (told_by i heard)) ∙ ap (λ l. told_by i heard ++ told_by i l) (sym nothing)
          ∙ ap (λ n. told_by n heard ++ told_by n tallied.0) (sym number) ∙ sym (tallied.2 i r.1 (omega arith)) ∙ ap told_of at ∙ back.told)),
      (λ k late. (tallied.3 k (omega arith)).0),
    ))
