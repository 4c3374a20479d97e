-- What lines ask for.
use Rattle.std.proofs.Common.{◌≡◌, ◌<◌, ◌≤◌, ◌==◌, ◌&&◌, ◌||◌, ◌∙◌, ℕ, suc, Bool, true, false, not, cond, nat_lt, List, [], ◌∷◌, length, take, refl, sym, ap, arith}
use Rattle.std.proofs.lemmas.Bool.{lt-ltb, le-ltb, ne_eqb, true≢false}
use Rattle.std.specs.List.{list_all}
use Rattle.std.specs.Str.{is_utf8}
use Rattle.std.proofs.Math.Bool.{or-true}
use Rattle.text_words.specs.Words.{is_blank, words}
use Rattle.text_words.proofs.WordLemmas.{words-blank, words-some}
use Rattle.script_commands.specs.Lines.{line_limit}
use Rattle.script_commands.specs.Meanings.{meaning_by}
use Rattle.script_commands.specs.Commands.{meaning_of, is_bad, is_comment, is_skipped}
use Rattle.script_commands.specs.declared.meanings.LineMeaning.{LineMeaning}
use Rattle.script_commands.specs.declared.meanings.LineMeaning.TheVariants.{Nothing, Fault}
use Rattle.command_words.specs.declared.commands.UsageFault.TheVariants.{BadLine}

-- a beginning tells a comment
pub comment-take : (n : ℕ) (line : List ℕ) → is_comment (take (suc n) line) ≡ is_comment line
comment-take n [] = refl
comment-take n (x ∷ xs) =
    let cut : nat_lt 0 (length (x ∷ take n xs)) ≡ true = lt-ltb 0 (length (x ∷ take n xs)) (omega arith) in
    let whole : nat_lt 0 (length (x ∷ xs)) ≡ true = lt-ltb 0 (length (x ∷ xs)) (omega arith) in
    ap (λ (b : Bool). b && (x == 35)) (cut ∙ sym whole)

-- a line that is too long is a bad one
pub bad-long : (line : List ℕ) → line_limit < length line → is_bad line ≡ true
bad-long line h = ap (λ (b : Bool). b || not (is_utf8 line)) (lt-ltb line_limit (length line) h)

skipped-at : (s b : Bool) (x y z : LineMeaning) → s ≡ true → x ≡ cond s x (cond b y z)
skipped-at true b x y z h = refl
skipped-at false b x y z h = absurd (true≢false (sym h))

bad-at : (s b : Bool) (x y z : LineMeaning) → s ≡ false → b ≡ true → y ≡ cond s x (cond b y z)
bad-at true b x y z h k = absurd (true≢false h)
bad-at false true x y z h k = refl
bad-at false false x y z h k = absurd (true≢false (sym k))

-- ---- what a line asks for
-- a line that is passed over asks for nothing
pub asked-skipped : (line : List ℕ) → is_skipped line ≡ true → Nothing ≡ meaning_of line
asked-skipped line h = skipped-at (is_skipped line) (is_bad line) Nothing (Fault BadLine) (meaning_by (words line)) h

pub asked-comment : (line : List ℕ) → is_comment line ≡ true → Nothing ≡ meaning_of line
asked-comment line h = asked-skipped line (ap (λ (b : Bool). b || (length (words line) == 0)) h)

pub asked-blank : (line : List ℕ) → list_all is_blank line ≡ true → Nothing ≡ meaning_of line
asked-blank line h =
    let none : (length (words line) == 0) ≡ true = ap (λ (ws : List (List ℕ)). length ws == 0) (words-blank line h) in
    asked-skipped line (ap (λ (b : Bool). is_comment line || b) none ∙ or-true (is_comment line))

some-at : (n : ℕ) → 0 < n → (n == 0) ≡ false
some-at n h = ne_eqb n 0 (λ e. absurd (omega arith))

-- a bad line that isn't passed over is refused
pub asked-bad : (line : List ℕ) → is_comment line ≡ false → list_all is_blank line ≡ false → is_bad line ≡ true → Fault BadLine ≡ meaning_of line
asked-bad line h k bad =
    let some : (length (words line) == 0) ≡ false = some-at (length (words line)) (words-some line k) in
    let passed : is_skipped line ≡ false = ap (λ (b : Bool). b || (length (words line) == 0)) h ∙ some in
    bad-at (is_skipped line) (is_bad line) Nothing (Fault BadLine) (meaning_by (words line)) passed bad

-- a line that is not too long is a bad one where it is no UTF-8
pub good-text : (line : List ℕ) → length line ≤ line_limit → is_utf8 line ≡ true → is_bad line ≡ false
good-text line h k =
    let short : nat_lt line_limit (length line) ≡ false = le-ltb line_limit (length line) h in
    ap (λ (b : Bool). b || not (is_utf8 line)) short ∙ ap not k

pub bad-text : (line : List ℕ) → is_utf8 line ≡ false → is_bad line ≡ true
bad-text line k = ap (λ (b : Bool). nat_lt line_limit (length line) || not b) k ∙ or-true (nat_lt line_limit (length line))
