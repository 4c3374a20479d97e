use Rattle.std.proofs.Common.{rules, ap, refl, subst, ◌∙◌, w64}
use Rattle.std.proofs.Math.Facts.{to_z-of_z}
use Rattle.sqlite.specs.Held.{state}
use Rattle.sqlite.specs.State.{ExecutesInside}
use Rattle.record_rules.specs.Cells.{run_cells}
use Rattle.record_tables.specs.Forms.{run_form, values_of}
use Rattle.record_tables.proofs.ParameterLemmas.{number, words}
use Rattle.record_tables.proofs.runs.RunRowStored.put.Goals as goal

pub returns-clause-runs : goal.returns-clause-runs
returns-clause-runs g c =
    let old = state g.S.Store c.args.tx.now.conn.now in
    let new = state g.S.Store c.execute.new.self.conn.now in
    let are = words _ _ _ _ c.as_bytes.ensures.value (number _ _ _ _ (to_z-of_z {w = w64} (search rules)) (number _ _ _ _ (to_z-of_z {w = w64} (search rules)) (number _ _ _ _ (to_z-of_z {w = w64} (search rules)) (number _ _ _ _ (to_z-of_z {w = w64} (search rules)) (number _ _ _ _ (to_z-of_z {w = w64} (search rules)) refl))))) in
    record {
      runs = λ clean inside. subst (λ ps. ExecutesInside 0 run_form.put ps old new c.execute.result) (are ∙ ap (λ x. values_of (run_cells x)) c.self.view_is) (c.execute.ensures.runs clean inside);
      survives = c.execute.ensures.survives;
    }
