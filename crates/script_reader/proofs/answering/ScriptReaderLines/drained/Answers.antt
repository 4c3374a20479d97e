use Rattle.script_reader.proofs.ReaderLemmas.{drained_tells}
use Rattle.script_reader.proofs.ShownLemmas.{put_fine}
use Rattle.script_reader.proofs.answering.ScriptReaderLines.drained.Goals as goal

pub returns-clause-told : goal.returns-clause-told
returns-clause-told g c s told heard are h =
    let p = c.write-put.ensures in
    drained_tells g.R.Read.remaining g.W.Write.contents g.F.Sources.gives s c.args.self.now told c.write-put.new.self c.write-put.result c.keep.new.failed c.requires.sound
    (put_fine c.write-put.result c.keep.result c.args.self.now.failed c.keep.new.failed c.keep.ensures.ended c.keep.ensures.failed)
    c.args._schedule.now.content heard (record { status_is = p.status_is; written_is = p.written_is; shown = p.shown }) are c.requires.idle h
