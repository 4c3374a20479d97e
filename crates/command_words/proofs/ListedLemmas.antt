-- Where the words that `list` takes lie in memory makes no difference to what clap makes of words.
use Rattle.std.proofs.Common.{◌≡◌, ◌∙◌, ◌&&◌, Bool, true, false, true≢false, refl, sym, ap, List, [], ◌∷◌, map, Option, Some}
use Rattle.std.specs.Prelude.{if◌then◌else◌}
use Rattle.std.specs.List.{list_any}
use Rattle.std.specs.Str.{bytes_eq}
use Rattle.std.specs.Borrow.{Bor}
use Rattle.std.proofs.lemmas.Slice.Eq.{bytes_eq-Decides}
use Rattle.clap.specs.Words.{App, Rule, Shape, Text, Kinds, built, fault_of, matches_of, subcommand_of}
use Rattle.clap.specs.Kinds.{value_kinds}
use Rattle.clap.specs.Values.{reading_of, same_text}
use Rattle.clap.specs.Walk.{nothing_held, rows_after, stop_after}
use Rattle.clap.specs.Simple.{entered, names_of}
use Rattle.clap.specs.Faults.{built_fault}
use Rattle.clap.specs.declared.error.kind.ErrorKind.TheVariants.{InvalidValue}
use Rattle.clap.specs.declared.builder.value_parser.ValueParser.{ValueParser}
use Rattle.clap.specs.declared.builder.value_parser.ValueParser.TheVariants as vp
use Rattle.clap.proofs.OnLiterals.{clap_on_literals}
use Rattle.clap.proofs.WalkLemmas.{list_any-map}
use Rattle.word_app.specs.App.{IsListed, Texts, dagsched, dagsched_at, row_words, somewhere}
use Rattle.command_words.proofs.ParserLemmas.{app, fault_is_same, matches_same, subcommand_is_same}

abbrev listed : Texts
listed = somewhere (map somewhere row_words)

abbrev texts_of : Texts → List Text
texts_of names = map (λ name. name.now) names.now

same_words : List Text → List Text → Bool
same_words [] [] = true
same_words (x ∷ xs) (y ∷ ys) = bytes_eq x y && same_words xs ys
same_words _ _ = false

and_left : (a b : Bool) → (a && b) ≡ true → a ≡ true
and_left true b e = refl
and_left false b e = e

and_right : (a b : Bool) → (a && b) ≡ true → b ≡ true
and_right true b e = e
and_right false b e = absurd (true≢false (sym e))

same_words_are : (xs ys : List Text) → same_words xs ys ≡ true → xs ≡ ys
unfolding same_words
same_words_are [] [] e = refl
same_words_are [] (y ∷ ys) e = absurd (true≢false (sym e))
same_words_are (x ∷ xs) [] e = absurd (true≢false (sym e))
same_words_are (x ∷ xs) (y ∷ ys) e =
    let first : x ≡ y = (bytes_eq-Decides x y).0 (and_left (bytes_eq x y) (same_words xs ys) e) in
    ap (λ z. z ∷ xs) first ∙ ap (λ zs. y ∷ zs) (same_words_are xs ys (and_right (bytes_eq x y) (same_words xs ys) e))

-- what takes these words takes them as they lie in `listed`
as_listed : ValueParser → ValueParser
as_listed (vp.Names names) = if same_words (texts_of names) row_words then vp.Names listed else vp.Names names
as_listed p = p

reads : (p : ValueParser) → reading_of (as_listed p) ≡ reading_of p
unfolding as_listed
reads (vp.Names names) = go (same_words (texts_of names) row_words)
  where
    go : (b : Bool) → reading_of (if b then vp.Names listed else vp.Names names) ≡ reading_of (vp.Names names)
    go true = refl
    go false = refl
reads vp.String = refl
reads vp.NonEmptyString = refl
reads vp.Bool = refl
reads vp.Boolish = refl
reads vp.Falsey = refl
reads (vp.Signed low high) = refl
reads (vp.Unsigned low high) = refl
reads vp.Float = refl
reads vp.Char = refl
reads (vp.Values values) = refl

-- whether one of the texts is this, is whether one of their words is
among : (any_case : Bool) (names : Texts) (t : Text) → list_any (λ (name : Bor Text). same_text any_case name.now t) names.now ≡ list_any (λ (w : Text). same_text any_case w t) (texts_of names)
among any_case names t = list_any-map (λ (w : Text). same_text any_case w t) (λ (name : Bor Text). name.now) names.now

takes : (any_case : Bool) (p : ValueParser) (t : Text) → value_kinds any_case (as_listed p) t ≡ value_kinds any_case p t
unfolding as_listed
takes any_case (vp.Names names) t = go (same_words (texts_of names) row_words) refl
  where
    go : (b : Bool) → same_words (texts_of names) row_words ≡ b → value_kinds any_case (if b then vp.Names listed else vp.Names names) t ≡ value_kinds any_case (vp.Names names) t
    go false e = refl
    go true e =
        let words : row_words ≡ texts_of names = sym (same_words_are (texts_of names) row_words e) in
        let all : list_any (λ (name : Bor Text). same_text any_case name.now t) listed.now ≡ list_any (λ (name : Bor Text). same_text any_case name.now t) names.now =
        among any_case listed t ∙ ap (λ (ws : List Text). list_any (λ (w : Text). same_text any_case w t) ws) words ∙ sym (among any_case names t) in
        ap (λ (b : Bool). let k : Kinds = if b then [] else InvalidValue ∷ [] in k) all
takes any_case vp.String t = refl
takes any_case vp.NonEmptyString t = refl
takes any_case vp.Bool t = refl
takes any_case vp.Boolish t = refl
takes any_case vp.Falsey t = refl
takes any_case (vp.Signed low high) t = refl
takes any_case (vp.Unsigned low high) t = refl
takes any_case vp.Float t = refl
takes any_case vp.Char t = refl
takes any_case (vp.Values values) t = refl

-- the program's command with another parser in the place of names
put : ValueParser → Option ValueParser → Option ValueParser
put p (Some (vp.Names names)) = Some p
put p o = o

put_in : ValueParser → App → App
put_in p a = record a { subs = map (λ (s : Shape). record s { rules = map (λ (r : Rule). record r { parser = put p r.parser }) s.rules }) a.subs }

as_it_is : put_in (vp.Names listed) (built dagsched) ≡ built dagsched
unfolding clap_on_literals put_in put
as_it_is = refl

as_changed : (names : Texts) → app as_listed reads takes (built (dagsched_at names)) ≡ put_in (as_listed (vp.Names names)) (built dagsched)
unfolding clap_on_literals put_in put as_listed
as_changed names = refl

listed_as : (names : Texts) → IsListed names → as_listed (vp.Names names) ≡ vp.Names listed
unfolding as_listed same_words
listed_as names is = ap (λ (ws : List Text). if same_words ws row_words then vp.Names listed else vp.Names names) is

same_app : (names : Texts) → IsListed names → built dagsched ≡ app as_listed reads takes (built (dagsched_at names))
same_app names is = sym as_it_is ∙ ap (λ p. put_in p (built dagsched)) (sym (listed_as names is)) ∙ sym (as_changed names)

pub matches_listed : (names : Texts) → IsListed names → (words : List Text) → matches_of dagsched words ≡ matches_of (dagsched_at names) words
matches_listed names is words =
    ap (λ (a : App). rows_after a.top.rules (names_of a) words) (same_app names is) ∙ matches_same as_listed reads takes (built (dagsched_at names)) words

pub subcommand_listed : (names : Texts) → IsListed names → (words : List Text) → subcommand_of dagsched words ≡ subcommand_of (dagsched_at names) words
subcommand_listed names is words =
    ap (λ (a : App). entered a (stop_after a.top.rules (names_of a) words)) (same_app names is) ∙ subcommand_is_same as_listed reads takes (built (dagsched_at names)) words

pub fault_listed : (names : Texts) → IsListed names → (words : List Text) → fault_of dagsched words ≡ fault_of (dagsched_at names) words
fault_listed names is words =
    ap (λ (a : App). built_fault a nothing_held words) (same_app names is) ∙ fault_is_same as_listed reads takes (built (dagsched_at names)) nothing_held words
