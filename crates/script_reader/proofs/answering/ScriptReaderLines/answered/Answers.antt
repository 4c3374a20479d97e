use Rattle.answer_lines.specs.sessions.director.Written.{came_of}
use Rattle.script_reader.proofs.ReaderLemmas.{answered_tells}
use Rattle.script_reader.proofs.ShownLemmas.{put_fine}
use Rattle.script_reader.proofs.answering.ScriptReaderLines.answered.Goals as goal

pub returns-clause-told : goal.returns-clause-told
returns-clause-told g c s told since line takes h =
    answered_tells g.R.Read.remaining g.W.Write.contents g.F.Sources.gives s c.args.self.now told c.answer-put.new.self c.answer-put.result c.keep.new.failed c.requires.sound
    (put_fine c.answer-put.result c.keep.result c.args.self.now.failed c.keep.new.failed c.keep.ensures.ended c.keep.ensures.failed)
    since line c.args.event.now (came_of c.args.came.now) c.answer-put.ensures takes h
