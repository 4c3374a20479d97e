use Rattle.std.proofs.Common.{◌≡◌, ◌∙◌, List, Ok, Err, map, string_bytes, ap, subst}
use Rattle.clap.specs.Words.{Text}
use Rattle.command_words.specs.Lines.{line_of}
use Rattle.text_words.specs.Words.{words}
use Rattle.script_commands.proofs.MeaningLemmas.{read_line, fault_read}
use Rattle.script_commands.proofs.meanings.meaning_of_words.Goals as goal

pub returns-in-Ok : goal.returns-in-Ok
returns-in-Ok c =
    let same : map string_bytes c.as_slice.result.now ≡ words c.args.line.now = ap (map string_bytes) c.as_slice.ensures.value ∙ c.in_ok-words.ensures in
    c.meaning_of_line.ensures
    ∙ read_line (words c.args.line.now) c.in-Ok.line (subst (λ (ws : List Text). line_of ws ≡ Ok c.in-Ok.line) same c.in-Ok.ensures)

pub returns : goal.returns
returns c =
    let same : map string_bytes c.as_slice.result.now ≡ words c.args.line.now = ap (map string_bytes) c.as_slice.ensures.value ∙ c.in_ok-words.ensures in
    fault_read (words c.args.line.now) c.in-Err.fault c.meaning_of_fault.result c.meaning_of_fault.ensures
    (λ other. subst (λ (ws : List Text). line_of ws ≡ Err c.in-Err.fault) same (c.in-Err.ensures other))
