use Rattle.std.proofs.Common.{◌≡◌, ◌∙◌, ◌++◌, ◌∷◌, [], List, map, true, not, sym, ap, below_more, is_ok}
use Rattle.std.proofs.lemmas.Bool.{cond-true}
use Rattle.std.specs.List.{list_any}
use Rattle.dag_check.specs.Names.{Name, has, ids_of, position_of}
use Rattle.dag_check.proofs.NameLemmas.{rows-more, names-at}
use Rattle.dag_check.proofs.positions.rows.Goals as goal

pub loop-i-preserved : goal.loop-i-preserved
loop-i-preserved c =
    let pushed : is_ok c.push.result ≡ true = c.is_err.ensures.negation ∙ ap not c.if-is_err.false in
    let items : c.push.new.self.items ≡ c.loop-i.rows.items ++ c.in-Ok-Some.row ∷ [] = c.push.ensures.items ∙ cond-true (is_ok c.push.result) _ _ pushed in
    let made = rw c.in-Ok-Some.field-0-is at c.in-Ok-Some.ensures in
    record {
      rows = rows-more c.args.tasks.now c.loop-i.i c.index-tasks-i.result c.args.ids.now.keys c.loop-i.rows.items c.push.new.self.items c.in-Ok-Some.row c.loop-i-test.true c.index-tasks-i.is c.requires.ids c.loop-i.invariant.rows
          (made.1 ∙ ap (map (position_of c.args.ids.now.keys)) c.as_slice.ensures) items;
      none = below_more _ _ c.loop-i.invariant.none
          (ap (λ (qs : List Name). list_any (λ q. not (has (ids_of c.args.tasks.now) q)) qs) (names-at c.args.tasks.now c.loop-i.i c.index-tasks-i.result c.loop-i-test.true c.index-tasks-i.is ∙ sym c.as_slice.ensures)
          ∙ (ap (λ (ks : List Name). list_any (λ q. not (has ks q)) c.as_slice.result.now) (sym c.requires.ids) ∙ made.0));
    }
