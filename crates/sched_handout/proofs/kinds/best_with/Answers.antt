use Rattle.std.proofs.Common.{◌≡◌, ◌+◌, ◌||◌, ap, length, refl, slice_get, subst, sym, Bool, Option, Some, arith}
use Rattle.std.proofs.lemmas.Option.{slice_get_read}
use Rattle.sched_model.specs.Handout.{Offer}
use Rattle.sched_handout.specs.Shelving.{IsBestOf, stands_on_first, stands_there}
use Rattle.sched_handout.specs.declared.shelving.Best.{Best}
use Rattle.sched_handout.proofs.ShelvedLemmas.{shelf_chosen, shelf_passed, shelves_first, shelves_over}
use Rattle.sched_handout.proofs.kinds.best_with.Goals.{then-not-is_seen, else-not-is_seen}
use Rattle.sched_handout.proofs.kinds.best_with.Goals as goal

pub loop-graph-init : goal.loop-graph-init
loop-graph-init c =
    let a = c.args.draft.now.content in
    shelves_first (stands_there a.now a.graphs c.args.shelves.now c.args.looked_at) a c.args.shelves.now c.args.best c.requires.best

pub choose_on_shelf-best-requires-clause-shelf : goal.choose_on_shelf-best-requires-clause-shelf
choose_on_shelf-best-requires-clause-shelf c g e =
    let ss = c.args.shelves.now in
    c.requires.shelves.fits c.loop-graph.graph g c.index-shelves-graph.result e (slice_get_read ss (length ss) c.loop-graph.graph c.index-shelves-graph.result refl c.loop-graph-test.true c.index-shelves-graph.is)

pub loop-graph-preserved : goal.loop-graph-preserved
loop-graph-preserved c =
    let a = c.args.draft.now.content in
    let ss = c.args.shelves.now in
    let n = c.loop-graph.graph in
    let seen : Offer → Bool = stands_there a.now a.graphs ss c.args.looked_at in
    elim c.if-not-is_seen.branch [
      | then-not-is_seen w ↦
          let there = slice_get_read ss (length ss) n w.index-shelves-graph.result refl c.loop-graph-test.true w.index-shelves-graph.is in
          subst (λ (b : Option Best). IsBestOf (λ x. seen x || stands_on_first a.now a.graphs ss (n + 1) x) a b) (sym w.best-is)
          (shelf_chosen seen a ss n w.index-shelves-graph.result w.choose_on_shelf-best.result there (w.choose_on_shelf-best.ensures (λ x. seen x || stands_on_first a.now a.graphs ss n x) c.loop-graph.invariant))
      | else-not-is_seen w ↦ subst (λ (b : Option Best). IsBestOf (λ x. seen x || stands_on_first a.now a.graphs ss (n + 1) x) a b) (sym w.best-is)
          (shelf_passed a ss c.args.looked_at n c.loop-graph.best (c.is_seen.ensures w.if-not-is_seen.false) c.loop-graph.invariant)
    ]

pub returns : goal.returns
returns c =
    let a = c.args.draft.now.content in
    let ss = c.args.shelves.now in
    let seen : Offer → Bool = stands_there a.now a.graphs ss c.args.looked_at in
    let all : c.loop-graph.graph ≡ length ss = omega (arith, c.loop-graph-test.false, c.loop-graph.auto.graph-end) in
    shelves_over seen a ss c.loop-graph.best (subst (λ k. IsBestOf (λ x. seen x || stands_on_first a.now a.graphs ss k x) a c.loop-graph.best) all c.loop-graph.invariant)
