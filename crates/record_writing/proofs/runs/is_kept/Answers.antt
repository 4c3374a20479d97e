use Rattle.std.proofs.Common.{sym, ap, ◌∙◌, Some, None}
use Rattle.std.specs.Option.{option_copied}
use Rattle.record_writing.proofs.SearchLemmas.{row_among}
use Rattle.record_writing.proofs.runs.is_kept.Goals as goal

pub returns-in-Some : goal.returns-in-Some
returns-in-Some c = c.is_same.ensures
    ∙ sym (row_among c.args.draft.now.base.runs c.args.run.now (Some c.in-Some.old.now) c.requires.before (sym (c.before-2.ensures c.args.run.now c.requires.run) ∙ ap option_copied c.in-Some.is))

pub returns-in-None : goal.returns-in-None
returns-in-None c =
    sym (row_among c.args.draft.now.base.runs c.args.run.now None c.requires.before (sym (c.before-2.ensures c.args.run.now c.requires.run) ∙ ap option_copied c.in-None.is))
