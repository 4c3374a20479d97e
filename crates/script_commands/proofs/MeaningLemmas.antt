-- What words are read as.
use Rattle.std.proofs.Common.{◌≡◌, ◌∙◌, List, Result, Ok, Err, IfOk, sym, ap}
use Rattle.std.specs.Prelude.{◌≢◌}
use Rattle.clap.specs.Words.{Text}
use Rattle.command_words.specs.Lines.{line_of}
use Rattle.command_words.specs.declared.commands.CommandLine.{CommandLine}
use Rattle.command_words.specs.declared.commands.UsageFault.{UsageFault}
use Rattle.command_words.specs.declared.commands.UsageFault.TheVariants.{Memory}
use Rattle.script_commands.specs.Meanings.{IsReadAs, meaning_by, of_line, of_reading}
use Rattle.script_commands.specs.declared.meanings.LineMeaning.{LineMeaning}
use Rattle.script_commands.specs.declared.meanings.LineMeaning.TheVariants.{Fault}

module _ (words : List Text) where
  pub read_line : (line : CommandLine) → line_of words ≡ Ok line → of_line line ≡ meaning_by words
  unfolding meaning_by
  read_line line said = sym (ap of_reading said)

  pub read_fault : (fault : UsageFault) → line_of words ≡ Err fault → Fault fault ≡ meaning_by words
  unfolding meaning_by
  read_fault fault said = sym (ap of_reading said)

  pub fault_read : {E : Type 0} (fault : UsageFault) (r : Result LineMeaning E) → IfOk r (λ meaning. (fault ≢ Memory) × (meaning ≡ Fault fault))
      → (fault ≢ Memory → line_of words ≡ Err fault) → IsReadAs (meaning_by words) r
  fault_read fault (Ok meaning) (other, same) said = same ∙ read_fault fault (said other)
  fault_read fault (Err lack) none said = tt
