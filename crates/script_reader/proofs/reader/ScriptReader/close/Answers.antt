use Rattle.std.proofs.Common.{◌≡◌, ◌∙◌, arith, sym, ap}
use Rattle.script_reader.specs.Ends.{end_status}
use Rattle.script_reader.proofs.ShownLemmas.{first_of, on_ok, second_of, well_so}
use Rattle.script_reader.proofs.reader.ScriptReader.close.Goals as goal

pub returns-clause-told : goal.returns-clause-told
returns-clause-told g c all =
    let p = c.end.ensures.put in
    let both = sym p.written_is ∙ all in
    (first_of _ _ both, on_ok _ _ (second_of _ _ both) p.shown)

pub returns-clause-well : goal.returns-clause-well
returns-clause-well g c = well_so c.args.outcome.now c.end.result c.args.self.answers.is_written c.end.new.self.is_written c.end.ensures.well c.end.ensures.put.written_is

pub returns-clause-status : goal.returns-clause-status
returns-clause-status g c =
    let same : c.end.new.self.status ≡ c.args.self.answers.status = omega (arith, c.end.ensures.put.status_is) in
    c.end_status.ensures ∙ ap (λ n. end_status c.end.new.self.is_written n c.args.outcome.now) same
