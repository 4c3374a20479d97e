use Rattle.std.proofs.Common.{rules, tests, ◌≡◌, ◌≤◌, ◌∙◌, ℕ, length, not, cond, ap, Some, None, Option, unwrap_or, List, ltb, arith}
use Rattle.std.proofs.lemmas.Bool.Decides.{nat_tests}
use Rattle.std.proofs.lemmas.Iterator.{YieldsList-from_slice}
use Rattle.std.proofs.lemmas.Iterator.Search.{position_from_yields_List}
use Rattle.std.proofs.lemmas.List.Sums.{prefix_len-le-length}
use Rattle.std.specs.List.{position_or_len}
use Rattle.text_words.specs.Words.{is_blank}
use Rattle.text_words.proofs.words.first_of_word.Goals as goal

default_len : (n m : ℕ) → n ≤ m → unwrap_or (cond (ltb n m) (Some n) None) m ≡ n
default_len n m h = grind (arith, nat_tests)

most : (p : ℕ → _) (xs : List ℕ) → position_or_len p xs ≤ length xs
most p xs = prefix_len-le-length (λ x. not (p x)) xs

pub returns-clause-value : goal.returns-clause-value
returns-clause-value c =
    let found = position_from_yields_List (λ x. not (is_blank x)) _ _ c.position.result c.position.ensures.ran (YieldsList-from_slice c.args.text.now cc) (λ x b q k. search (rules, tests)) in
    c.unwrap_or.ensures ∙ (ap (λ (o : Option ℕ). unwrap_or o (length c.args.text.now)) found ∙ default_len _ _ (most (λ x. not (is_blank x)) c.args.text.now))
