use Rattle.std.proofs.Common.{arith, sym}
use Rattle.std.proofs.lemmas.Bool.{eqb-true}
use Rattle.std.proofs.lemmas.Bool.Decides.{nat_tests}
use Rattle.text_words.proofs.WordLemmas.{words-none, words-next}
use Rattle.text_words.proofs.words.next_word.Goals as goal

pub returns-then-is_empty : goal.returns-then-is_empty
returns-then-is_empty c =
    words-none _ _ c.first_of_word.result c.first_of_word.ensures.value c.split_at.ensures.back (eqb-true _ _ (sym c.if-is_empty.ensures))

pub returns : goal.returns
returns c =
    words-next _ _ _ _ c.first_of_word.result c.first_blank.result c.first_of_word.ensures.value c.first_of_word.ensures.within
    c.split_at.ensures.back (grind (arith, nat_tests)) c.first_blank.ensures.value c.first_blank.ensures.within c.split_at-2.ensures.front c.split_at-2.ensures.back
