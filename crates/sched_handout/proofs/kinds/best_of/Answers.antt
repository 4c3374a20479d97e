use Rattle.std.proofs.Common.{◌∙◌, ◌<◌, ap, false, length, refl, subst, true≢false, sym}
use Rattle.std.proofs.lemmas.Option.{slice_get_read}
use Rattle.sched_handout.specs.Shelving.{IsBestOf, stands_there}
use Rattle.sched_handout.proofs.ShelvedLemmas.{inside, shelf_there}
use Rattle.sched_handout.proofs.kinds.best_of.Goals as goal

pub returns-in_default : goal.returns-in_default
returns-in_default c =
    let a = c.args.draft.now.content in
    λ x e on. absurd (true≢false (sym on ∙ ap (λ o. stands_there a.now a.graphs c.args.shelves.now o x) c.in_default.is))

pub choose_on_shelf-requires-clause-shelf : goal.choose_on_shelf-requires-clause-shelf
choose_on_shelf-requires-clause-shelf c g e =
    let ss = c.args.shelves.now in
    let within : c.in-Some.at < length ss = inside ss c.args.graph c.in-Some.at c.in-Some.is c.requires.graph in
    c.requires.shelves.fits c.in-Some.at g c.index-shelves-at.result e (slice_get_read ss (length ss) c.in-Some.at c.index-shelves-at.result refl within c.index-shelves-at.is)

pub returns : goal.returns
returns c =
    let ss = c.args.shelves.now in
    let within : c.in-Some.at < length ss = inside ss c.args.graph c.in-Some.at c.in-Some.is c.requires.graph in
    let a = c.args.draft.now.content in
    subst (λ o. IsBestOf (stands_there a.now a.graphs ss o) a c.choose_on_shelf.result) (sym c.in-Some.is)
    (shelf_there a ss c.in-Some.at c.index-shelves-at.result c.choose_on_shelf.result (slice_get_read ss (length ss) c.in-Some.at c.index-shelves-at.result refl within c.index-shelves-at.is)
    (c.choose_on_shelf.ensures (λ x. false) (λ x e on. absurd (true≢false (sym on)))))
