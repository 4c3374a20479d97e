use Rattle.std.proofs.Common.{◌≡◌, ◌∙◌, All, List, ◌∷◌, [], ◌++◌, ℕ, map, string_bytes, vec_items, append_assoc, sym, ap, subst}
use Rattle.std.proofs.lemmas.List.{map-append}
use Rattle.std.proofs.lemmas.List.Elements.{All-head, All-tail}
use Rattle.std.specs.Str.{IsUtf8}
use Rattle.text_words.specs.Words.{words}
use Rattle.script_commands.proofs.WordLemmas.{words_utf8}
use Rattle.script_commands.proofs.meanings.words_of.Goals as goal

pub loop-word-init : goal.loop-word-init
loop-word-init c = record {
  same = ap (λ items. map string_bytes items ++ words c.as_bytes-rest.result.now) c.new-found.ensures.items ∙ ap words c.as_bytes-rest.ensures.value;
  utf8 = words_utf8 c.as_bytes-rest.result.now c.as_bytes-rest.ensures.utf8;
}

pub text_of_word-requires : goal.text_of_word-requires
text_of_word-requires c = All-head IsUtf8 c.in-Some.word.now (words c.in-Some.after.now) (subst (All IsUtf8) c.in-Some.ensures.0 c.loop-word.invariant.utf8)

pub loop-word-preserved : goal.loop-word-preserved
loop-word-preserved c =
    let found = vec_items c.loop-word.found in
    let left : List (List ℕ) = words c.in-Some.after.now in
    record {
      same =
          ap (λ items. map string_bytes items ++ left) c.in_ok-push.ensures.items
          ∙ ap (λ (l : List (List ℕ)). l ++ left) (map-append string_bytes found (c.in_ok-word.word ∷ []))
          ∙ append_assoc (map string_bytes found) (string_bytes c.in_ok-word.word ∷ []) left
          ∙ ap (λ (b : List ℕ). map string_bytes found ++ (b ∷ left)) c.in_ok-word.ensures
          ∙ ap (λ (l : List (List ℕ)). map string_bytes found ++ l) (sym c.in-Some.ensures.0)
          ∙ c.loop-word.invariant.same;
      utf8 = All-tail IsUtf8 c.in-Some.word.now left (subst (All IsUtf8) c.in-Some.ensures.0 c.loop-word.invariant.utf8);
    }
