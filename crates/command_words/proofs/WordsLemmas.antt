-- Words is the fault where clap refuses for another cause than memory.
use Rattle.std.proofs.Common.{◌≡◌, ◌≢◌, true, List, [], ◌∷◌, Option, refl, ap, inl, inr}
use Rattle.std.specs.Prelude.{Err}
use Rattle.clap.specs.Words.{Text, Row, HasKind, Kinds, kind_of}
use Rattle.clap.specs.declared.error.Error.{Error}
use Rattle.clap.specs.declared.error.kind.ErrorKind.{ErrorKind}
use Rattle.clap.specs.declared.error.kind.ErrorKind.TheVariants.{OutOfMemory}
use Rattle.command_words.specs.Lines.{is_faulty, line_unless, usage_of}
use Rattle.command_words.specs.declared.commands.UsageFault.TheVariants.{Words, Memory}

words_then : (k : ErrorKind) → usage_of k ≢ Memory → Words ≡ usage_of k
words_then OutOfMemory n = absurd (n refl)
words_then _ n = refl

pub refused : (ks : Kinds) (e : Error) (rows : List Row) (sub : Option (Text × List Row)) → HasKind ks e → usage_of (kind_of e) ≢ Memory
    → line_unless ks rows sub ≡ Err (usage_of (kind_of e))
refused [] e rows sub h other = elim h [ inl is ↦ absurd (other (ap usage_of is)) | inr among ↦ absurd among ]
refused (k ∷ ks) e rows sub h other = ap Err (words_then (kind_of e) other)

pub refused_words : (ks : Kinds) (e : Error) → HasKind ks e → usage_of (kind_of e) ≢ Memory → true ≡ is_faulty ks
refused_words [] e h other = elim h [ inl is ↦ absurd (other (ap usage_of is)) | inr among ↦ absurd among ]
refused_words (k ∷ ks) e h other = refl
