use Rattle.std.proofs.Common.{◌≡◌, ◌++◌, All, List, length, map, string_bytes, vec_items}
use Rattle.std.specs.Str.{IsUtf8}
use Rattle.text_words.specs.Words.{words}
use Rattle.script_commands.proofs.meanings.words_of.Given as goal

-- the words that were found, and those that are left, are the line's
abbrev pub invariant-loop-word : goal.invariant-loop-word
invariant-loop-word l = record {
  same : map string_bytes (vec_items l.found) ++ words l.rest ≡ words l.fn.line;
  utf8 : All IsUtf8 (words l.rest);
}

abbrev pub decreases-loop-word : goal.decreases-loop-word
decreases-loop-word l = length (words l.rest)
