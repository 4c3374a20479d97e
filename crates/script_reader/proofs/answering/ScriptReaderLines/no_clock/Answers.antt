use Rattle.script_reader.proofs.ReaderLemmas.{untold_tells}
use Rattle.script_reader.proofs.ShownLemmas.{put_fine}
use Rattle.script_reader.proofs.answering.ScriptReaderLines.no_clock.Goals as goal

pub returns-clause-told : goal.returns-clause-told
returns-clause-told g c s told polled are h =
    untold_tells g.R.Read.remaining g.W.Write.contents g.F.Sources.gives s c.args.self.now told c.put-put.new.self c.put-put.result c.keep.new.failed c.requires
    (put_fine c.put-put.result c.keep.result c.args.self.now.failed c.keep.new.failed c.keep.ensures.ended c.keep.ensures.failed)
    c.args._schedule.now.content c.args.fault polled c.put-put.ensures are h
