use Rattle.std.proofs.Common.{rules, ◌≡◌, ◌∙◌, false, Some, is_some, is_none, refl, sym, ap}
use Rattle.std.specs.declared.io.Error.{Error}
use Rattle.script_reader.proofs.DoneLemmas.{is_end_none}
use Rattle.script_reader.proofs.ReaderLemmas.{read_tells}
use Rattle.script_reader.proofs.answering.ScriptReaderLines.next.Goals as goal

pub returns-in-Ok-clause-told : goal.returns-in-Ok-clause-told
returns-in-Ok-clause-told g c =
    let none : c.is_none-self.result ≡ is_none c.in-Ok.next = search rules in
    let read = c.in-Ok.ensures.told in (
      read.0,
      λ s told h. read_tells g.R.Read.remaining g.W.Write.contents g.F.Sources.gives s c.args.self.now c.args.schedule.now.content read.0 told _ _ _ _ c.args.self.now.failed _ _ _ read.1 c.requires.sound (ap is_some c.requires.sound) (λ over. sym (is_end_none Error c.in-Ok.next) ∙ sym none ∙ over) h,
    )

pub returns-in-Err-clause-told : goal.returns-in-Err-clause-told
returns-in-Err-clause-told g c =
    let read = c.in-Err.ensures.told in (
      read.0,
      λ s told h. read_tells g.R.Read.remaining g.W.Write.contents g.F.Sources.gives s c.args.self.now c.args.schedule.now.content read.0 told _ _ _ false (Some c.fault_of-fault.result) _ _ _ read.1 c.requires.sound refl (λ over. over) h,
    )
