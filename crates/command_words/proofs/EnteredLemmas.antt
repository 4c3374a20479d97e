-- What clap takes has entered a command, whose name is known; so it is not Words, and what it says is what that command's matches say.
use Rattle.std.proofs.Common.{◌≡◌, ◌≢◌, ◌∙◌, ◌&&◌, Bool, true, false, not, List, [], ◌∷◌, Option, Some, None, is_some, refl, ap, sym, find}
use Rattle.std.specs.Prelude.{Result, Ok, Err, ◌↔◌, option_map, codes}
use Rattle.std.specs.List.{list_all, list_any}
use Rattle.clap.specs.Words.{App, Row, Text, Shape, Kinds, matches_of, subcommand_of, fault_of, first_of}
use Rattle.clap.specs.Kinds.{or_else, check_kinds}
use Rattle.clap.specs.Faults.{built_fault, check_fault, defaults_fault, entered_fault, level_fault, settle_fault, walk_fault}
use Rattle.clap.specs.Takes.{is_given}
use Rattle.clap.specs.Facts.{explicit_source}
use Rattle.clap.specs.Simple.{argument_words, built, entered, label_of, names_of, rows_at}
use Rattle.clap.specs.Walk.{Held, Names, answers_to, finished, nothing_held, settled, stop_after, walk, walk_from}
use Rattle.clap.proofs.OnLiterals.{clap_on_literals}
use Rattle.word_app.specs.App.{dagsched}
use Rattle.command_words.specs.Values.{after}
use Rattle.command_words.specs.Commands.{command_in, is_of_words, kind_named}
use Rattle.command_words.specs.Lines.{command_of_kind, line_at, line_of, line_unless}
use Rattle.command_words.specs.declared.commands.Command.{Command}
use Rattle.command_words.specs.declared.commands.CommandLine.{CommandLine}
use Rattle.command_words.specs.declared.kinds.CommandKind.{CommandKind}
use Rattle.command_words.specs.declared.commands.UsageFault.{UsageFault}
use Rattle.command_words.specs.declared.commands.UsageFault.TheVariants.{Words}
use Rattle.command_words.proofs.ReadingLemmas.{IsFine, command_fine}

or_else_nil : (a b : Kinds) → or_else a b ≡ [] → b ≡ []
or_else_nil [] b h = h
or_else_nil (k ∷ ks) b h = cc

is_command : Text → Bool
is_command name = is_some (kind_named name)

-- a command that is entered is one of those that are there
entered_named : (subs : List Shape) (P : Text → Bool) (word : Text) (rest : List Text) (q : Text × List Row) → list_all (λ s. P s.name) subs ≡ true
    → option_map (λ s. rows_at s rest) (find (λ s. answers_to word (label_of s)) subs) ≡ Some q → P q.0 ≡ true
entered_named [] P word rest q all h = cc
entered_named (s ∷ subs) P word rest q all h = go (entered_named subs P word rest q) (P s.name) refl (answers_to word (label_of s)) refl
  where
    go : (list_all (λ s. P s.name) subs ≡ true → option_map (λ s. rows_at s rest) (find (λ s. answers_to word (label_of s)) subs) ≡ Some q → P q.0 ≡ true)
        → (p : Bool) → P s.name ≡ p → (b : Bool) → answers_to word (label_of s) ≡ b → P q.0 ≡ true
    go more false e b f =
        let bad : false ≡ true = rw e at all in
        cc
    go more true e true f =
        let same : Some (rows_at s rest) ≡ Some q = rw f at h in
        let name : rows_at s rest ≡ q = cc in
        ap (λ x. P x.0) (sym name) ∙ e
    go more true e false f = more (rw e at all) (rw f at h)

-- a stop that was entered is a command
stopped_named : (a : App) (P : Text → Bool) (stop : Option (Text × List Text)) (q : Text × List Row) → list_all (λ s. P s.name) a.subs ≡ true
    → entered a stop ≡ Some q → P q.0 ≡ true
stopped_named a P None q all h = cc
stopped_named a P (Some p) q all h = entered_named a.subs P p.0 p.1 q all h

all_named : list_all (λ s. is_command s.name) (built dagsched).subs ≡ true
unfolding clap_on_literals is_command
all_named = refl

level_nil : (s : Shape) (names : Names) (h : Held) (words : List Text) (has : Bool) (below : Kinds) → level_fault s names h words has below ≡ []
    → check_fault s (finished s.rules (walk s.rules names h words).held) has ≡ []
level_nil s names h words has below e =
    let end = (walk s.rules names h words).held in
    let walks = walk_fault s names (walk_from h) words in
    let settles = settle_fault s.rules s.args_override_self end in
    let defaults = defaults_fault (settled s.rules end).rows s.rules in
    let checks = check_fault s (finished s.rules end) has in
    or_else_nil defaults checks (or_else_nil settles (or_else defaults checks) (or_else_nil below (or_else settles (or_else defaults checks))
    (or_else_nil walks (or_else below (or_else settles (or_else defaults checks))) e)))

none_wanted : (a b c : Bool) → b ≡ true → check_kinds a b c ≡ [] → false ≡ true
none_wanted true b c r h = cc
none_wanted false true c r h = cc
none_wanted false false c r h = r

wanted : (s : Shape) (rows : List Row) (has : Bool) → s.subcommand_required ≡ true → check_fault s rows has ≡ [] → has ≡ true
wanted s rows true r e = refl
wanted s rows false r e = none_wanted (s.arg_required_else_help && not (list_any (λ x. explicit_source x.source) rows)) s.subcommand_required
    (not (s.subcommand_negates_reqs && false) && list_any (λ a. a.required && not (is_given a.id rows)) s.rules) r e

-- where clap finds no fault it has entered a subcommand
entered_any : (a : App) (words : List Text) → a.top.subcommand_required ≡ true → built_fault a nothing_held words ≡ []
    → is_some (entered a (stop_after a.top.rules (names_of a) words)) ≡ true
entered_any a words required e =
    let stop = stop_after a.top.rules (names_of a) words in
    let rows = finished a.top.rules (walk a.top.rules (names_of a) nothing_held words).held in
    wanted a.top rows (is_some (entered a stop)) required (level_nil a.top (names_of a) nothing_held words (is_some (entered a stop)) (entered_fault a stop) e)

required : (built dagsched).top.subcommand_required ≡ true
unfolding clap_on_literals
required = refl

abbrev line_with : List Row → Command → Result CommandLine UsageFault
line_with rows command = Ok (record { record_path = first_of (codes "record") rows; command = command })

line_not : (rows : List Row) (r : Result Command UsageFault) → IsFine r → after r (line_with rows) ≢ Err Words
line_not rows (Ok command) fine = λ h. cc
line_not rows (Err e) fine = λ h. fine (let same : e ≡ Words = cc in same)

-- a command that is known is not Words
read_not : (rows : List Row) (sub : Option (Text × List Row)) → is_some sub ≡ true → ((q : Text × List Row) → sub ≡ Some q → is_command q.0 ≡ true)
    → line_at rows sub ≢ Err Words
unfolding is_command
read_not rows None some named = λ h. cc
read_not rows (Some q) some named = go (kind_named q.0) (named q refl)
  where
    go : (o : Option CommandKind) → is_some o ≡ true → after (command_of_kind o q.1) (line_with rows) ≢ Err Words
    go None bad = λ h. cc
    go (Some kind) is = line_not rows (command_in kind q.1) (command_fine kind q.1)

words_faulty : (words : List Text) → line_of words ≡ Err Words → fault_of dagsched words ≢ []
words_faulty words said none =
    let a = built dagsched in
    let args = argument_words dagsched words in
    let stop = stop_after a.top.rules (names_of a) args in
    read_not (matches_of dagsched words) (subcommand_of dagsched words)
    (entered_any a args required none)
    (λ q is. stopped_named a is_command stop q all_named is)
    (rw none at said)

faulty_words : (kinds : Kinds) (rows : List Row) (sub : Option (Text × List Row)) → kinds ≢ [] → line_unless kinds rows sub ≡ Err Words
faulty_words [] rows sub some = absurd (some refl)
faulty_words (kind ∷ kinds) rows sub some = refl

pub words_from_clap : (words : List Text) → (line_of words ≡ Err Words) ↔ (fault_of dagsched words ≢ [])
words_from_clap words = (
  words_faulty words,
  faulty_words (fault_of dagsched words) (matches_of dagsched words) (subcommand_of dagsched words),
)

line_fine : (rows : List Row) (r : Result Command UsageFault) (line : CommandLine) → IsFine r → after r (line_with rows) ≡ Ok line
    → is_of_words line.command ≡ true
line_fine rows (Ok command) line fine said =
    let same : record { record_path = first_of (codes "record") rows; command = command } ≡ line = cc in
    ap (λ (l : CommandLine). is_of_words l.command) (sym same) ∙ fine
line_fine rows (Err e) line fine said = cc

at_fine : (rows : List Row) (sub : Option (Text × List Row)) (line : CommandLine) → line_at rows sub ≡ Ok line → is_of_words line.command ≡ true
at_fine rows None line said = cc
at_fine rows (Some q) line said = go (kind_named q.0) said
  where
    go : (o : Option CommandKind) → after (command_of_kind o q.1) (line_with rows) ≡ Ok line → is_of_words line.command ≡ true
    go None h = cc
    go (Some kind) h = line_fine rows (command_in kind q.1) line (command_fine kind q.1) h

unless_fine : (kinds : Kinds) (rows : List Row) (sub : Option (Text × List Row)) (line : CommandLine) → line_unless kinds rows sub ≡ Ok line
    → is_of_words line.command ≡ true
unless_fine [] rows sub line said = at_fine rows sub line said
unless_fine (kind ∷ kinds) rows sub line said = cc

pub line_of_words : (words : List Text) (line : CommandLine) → line_of words ≡ Ok line → is_of_words line.command ≡ true
line_of_words words line said =
    unless_fine (fault_of dagsched words) (matches_of dagsched words) (subcommand_of dagsched words) line said
