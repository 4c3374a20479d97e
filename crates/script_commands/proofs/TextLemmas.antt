-- A graph's text while its lines are read.
use Rattle.std.proofs.Common.{◌≡◌, ◌<◌, ◌∙◌, ℕ, Bool, true, false, cond, List, [], length, Option, Some, None, Err, refl, sym, ap, subst, arith, inl, codes}
use Rattle.std.proofs.lemmas.Slice.Eq.{bytes_eq-Decides}
use Rattle.std.proofs.lemmas.Bool.{false_from_ne_true}
use Rattle.script_commands.specs.Lines.{lines_of, line_limit, IsFirstLine}
use Rattle.script_commands.specs.Commands.{Request, IsFirst, IsGiven, commands_from, commands_in, ends_text, is_bad, take_of, with_line, with_newline}
use Rattle.script_commands.specs.Commands.Place.{Inside}
use Rattle.script_commands.specs.Gathered.{Gathers}
use Rattle.command_words.specs.declared.takings.Taking.{Taking}
use Rattle.script_commands.proofs.AskLemmas.{bad-long}
use Rattle.script_commands.specs.declared.commands.CommandFault.TheVariants.{Source}
use Rattle.script_commands.specs.declared.commands.SourceFault.TheVariants.{NoEnd}
use Rattle.script_commands.specs.declared.graph_texts.Gathered.{Gathered}

good-at : (b : Bool) (x y : Option (List ℕ)) → b ≡ false → cond b x y ≡ y
good-at true x y h = cc
good-at false x y h = refl

bad-at : (b : Bool) (x y : Option (List ℕ)) → b ≡ true → cond b x y ≡ x
bad-at true x y h = refl
bad-at false x y h = cc

-- inside of a graph's text: what is left to read, and the text so far
pub record Stands (taking : Taking) (rest : Option (List ℕ)) (g : Gathered) (commands : List Request) : Type 0 where
  pub left : List ℕ
  pub known : rest ≡ Some left
  pub text : Option (List ℕ)
  pub gathers : Gathers text g
  pub same : commands ≡ commands_from (Inside taking text) (lines_of left)

next-at : (b : Bool) (x y : List Request) → b ≡ false → cond b x y ≡ y
next-at true x y h = cc
next-at false x y h = refl

last-at : (b : Bool) (x y : List Request) → b ≡ true → cond b x y ≡ x
last-at true x y h = refl
last-at false x y h = cc

-- ---- one line more
module _ (taking : Taking) where
  -- one more line
  pub stands-line : (rest rest' : Option (List ℕ)) (g g' : Gathered) (commands : List Request) (line : List ℕ) (s : Stands taking rest g commands) → IsFirstLine s.left line rest' → ends_text line ≡ false → (Gathers s.text g → Gathers (with_line s.text line) g') → Stands taking rest' g' commands
  stands-line rest rest' g g' commands line s first other grown = record {
    left = first.left;
    known = first.known;
    text = with_line s.text line;
    gathers = grown s.gathers;
    same = s.same ∙ (ap (commands_from (Inside taking s.text)) first.lines ∙ next-at (ends_text line) _ _ other);
  }

  -- the line that ends the text
  pub text-ended : (rest rest' : Option (List ℕ)) (g : Gathered) (commands : List Request) (given : Request) (line : List ℕ) (s : Stands taking rest g commands) → IsFirstLine s.left line rest' → ends_text line ≡ true → ((text : Option (List ℕ)) → Gathers text g → IsGiven (take_of taking text) given) → IsFirst commands given rest'
  unfolding commands_in
  text-ended rest rest' g commands given line s first ends takes = record {
    wanted = take_of taking s.text;
    left = first.left;
    known = first.known;
    first = s.same ∙ (ap (commands_from (Inside taking s.text)) first.lines ∙ last-at (ends_text line) _ _ ends);
    same = takes s.text s.gathers;
  }

  -- the end of the script
  pub text-unended : (rest rest' : Option (List ℕ)) (g : Gathered) (commands : List Request) (s : Stands taking rest g commands) → s.left ≡ [] → rest' ≡ Some [] → IsFirst commands (Err (Source NoEnd)) rest'
  unfolding commands_in
  text-unended rest rest' g commands s none known = record {
    wanted = Err (Source NoEnd);
    left = [];
    known = known;
    first = s.same ∙ ap (λ (bytes : List ℕ). commands_from (Inside taking s.text) (lines_of bytes)) none;
    same = inl refl;
  }

-- a good line is kept
pub gathers-good : (text : Option (List ℕ)) (line same : List ℕ) (g : Gathered) → is_bad line ≡ false → same ≡ line → Gathers (with_newline text same) g → Gathers (with_line text line) g
gathers-good text line same g good e h =
    subst (λ (t : Option (List ℕ)). Gathers t g) (ap (with_newline text) e ∙ sym (good-at (is_bad line) None (with_newline text line) good)) h

-- a line that is too long leaves no text
pub long-line : (text : Option (List ℕ)) (line : List ℕ) → line_limit < length line → with_line text line ≡ None
long-line text line h = bad-at (is_bad line) None (with_newline text line) (bad-long line h)

-- and does not end it
pub long-goes_on : (line : List ℕ) → line_limit < length line → ends_text line ≡ false
long-goes_on line h = false_from_ne_true (ends_text line) (λ e. let same : line ≡ codes "." = (bytes_eq-Decides line (codes ".")).0 e in omega (arith, ap length same))
