use Rattle.std.proofs.Common.{◌∙◌, ◌==◌, ℕ, ap, List}
use Rattle.std.specs.List.{list_any}
use Rattle.run_planner.specs.Index.{Index, has_date}
use Rattle.run_planner.proofs.IndexLemmas.{found-any, place}
use Rattle.run_planner.proofs.run_index.RunIndex.has_at.Goals as goal

pub returns : goal.returns
returns c =
    let y = c.args.secs in
    let found = place _ c.deref.result.now y c.binary_search.result c.deref.ensures.value c.binary_search.ensures.position c.self.invariant.0 in
    c.is_ok.ensures.value
    ∙ (found-any c.deref.result.now y c.binary_search.result found
    ∙ (ap (λ (l : List ℕ). list_any (λ z. z == y) l) c.deref.ensures.value
    ∙ ap (λ (v : Index). has_date v.dates y) c.self.view_is))
