use Rattle.std.proofs.Common.{refl}
use Rattle.script_reader.proofs.DoneLemmas.{same_answers}
use Rattle.script_reader.proofs.answering.ScriptReaderLines.waits.Goals as goal

pub returns-clause-told : goal.returns-clause-told
returns-clause-told g c s told waits h = same_answers g.R.Read.remaining g.W.Write.contents g.F.Sources.gives s told waits _ c.args.self.now.answers _ _ _ _ refl refl refl h
