use Rattle.std.proofs.Common.{rules, tests, ◌≡◌, ◌+◌, ℕ, length, cond, not, Some, None, List, [], ◌∷◌, Bool, ltb, refl, ap, sym, ◌∙◌, map}
use Rattle.std.proofs.lemmas.Iterator.{YieldsList-from_slice}
use Rattle.std.proofs.lemmas.Iterator.Search.{position_from_yields_List}
use Rattle.std.proofs.lemmas.List.{length-map}
use Rattle.std.specs.List.{position, position_or_len}
use Rattle.std.specs.Str.{str_eq_ignore_ascii_case}
use Rattle.cron_timetable.proofs.fields.place_of.Goals as goal

position_or_len-map : {A B : Type 0} (f : A → B) (p : B → Bool) (xs : List A) → position_or_len (λ x. p (f x)) xs ≡ position_or_len p (map f xs)
position_or_len-map f p [] = refl
position_or_len-map f p (x ∷ xs) = ap (λ (n : ℕ). cond (not (p (f x))) (1 + n) 0) (position_or_len-map f p xs)

position-map : {A B : Type 0} (f : A → B) (p : B → Bool) (xs : List A) → position (λ x. p (f x)) xs ≡ position p (map f xs)
position-map f p xs =
    ap (λ (n : ℕ). cond (ltb n (length xs)) (Some n) None) (position_or_len-map f p xs)
    ∙ ap (λ (l : ℕ). cond (ltb (position_or_len p (map f xs)) l) (Some (position_or_len p (map f xs))) None) (sym (length-map xs f))

pub returns : goal.returns
returns c =
    position_from_yields_List (λ n. str_eq_ignore_ascii_case n.now c.args.name.now) _ _ c.position.result c.position.ensures.ran (YieldsList-from_slice c.args.names.now cc) (λ x b q k. search (rules, tests))
    ∙ position-map (λ n. n.now) (λ n. str_eq_ignore_ascii_case n c.args.name.now) c.args.names.now
