use Rattle.script_reader.proofs.answers.Answers.put.Goals as goal

pub returns : goal.returns
returns g c = let p = c.write.ensures in record { status_is = p.status_is; written_is = p.written_is; shown = p.shown }
