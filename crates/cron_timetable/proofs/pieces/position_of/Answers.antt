use Rattle.std.proofs.Common.{rules, tests, ◌≡◌, ℕ, length, cond, Some, None, List, eqb, ltb, arith, not, ap, ◌∙◌, ◌≤◌, Option, unwrap_or}
use Rattle.std.proofs.lemmas.List.Sums.{prefix_len-le-length}
use Rattle.std.proofs.lemmas.Iterator.{YieldsList-from_slice}
use Rattle.std.proofs.lemmas.Iterator.Search.{position_from_yields_List}
use Rattle.std.proofs.lemmas.Bool.Decides.{nat_tests}
use Rattle.std.specs.List.{position_or_len}
use Rattle.cron_timetable.proofs.pieces.position_of.Goals as goal

default_len : (n m : ℕ) → n ≤ m → unwrap_or (cond (ltb n m) (Some n) None) m ≡ n
default_len n m h = grind (arith, nat_tests)

position_or_len-le : (b : ℕ) (xs : List ℕ) → position_or_len (λ x. eqb x b) xs ≤ length xs
position_or_len-le b xs = prefix_len-le-length (λ x. not (eqb x b)) xs

pub returns : goal.returns
returns c =
    let found = position_from_yields_List (λ x. eqb x c.args.byte) _ _ c.position.result c.position.ensures.ran (YieldsList-from_slice c.args.text.now cc) (λ x b q k. search (rules, tests)) in
    let most = position_or_len-le c.args.byte c.args.text.now in
    let value = default_len (position_or_len (λ x. eqb x c.args.byte) c.args.text.now) (length c.args.text.now) most in
    let e : c.unwrap_or.result ≡ position_or_len (λ x. eqb x c.args.byte) c.args.text.now = c.unwrap_or.ensures ∙ (ap (λ (o : Option ℕ). unwrap_or o (length c.args.text.now)) found ∙ value) in
    record { value = e; within = omega (arith, e) }
