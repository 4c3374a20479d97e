-- Where clap answers words by help or by the version, that is the only kind that it may answer by.
use Rattle.std.proofs.Common.{◌≡◌, ◌∙◌, ◌+◌, ◌==◌, ◌&&◌, ◌||◌, ◌≢◌, ℕ, zero, suc, Bool, true, false, true≢false, not, List, [], ◌∷◌, Option, Some, None, is_some, refl, ap, sym, find, inl, inr, length, min}
use Rattle.std.specs.Prelude.{if◌then◌else◌, nat_lt, codes, drop, encode_utf8, slice_get}
use Rattle.std.specs.List.{list_all, list_any}
use Rattle.std.specs.Option.{option_map_or}
use Rattle.std.specs.Str.{bytes_eq, chars}
use Rattle.clap.specs.Lexer.{long_of, short_of}
use Rattle.clap.specs.Matches.{count_text}
use Rattle.clap.specs.Facts.{explicit_source, parser_of_value, unwrap_or_range}
use Rattle.clap.specs.Values.{kind_of, refused_kind}
use Rattle.clap.specs.ValueTests.{accepts}
use Rattle.clap.specs.Walk.{Held, Names, Row, Rule, Step, Text, Walk, action_of, answers_to, arg_by_id, arg_by_index, arg_by_long, arg_by_short, attached_value, count_of, finished, has_row, is_empty, is_pending, most_values, nothing_held, reacted, settled, subcommand_met, takes_several, takes_values, value, values_or_missing, walk, walk_from, walked, with_default, word_met}
use Rattle.clap.specs.Simple.{App, Shape, built, entered, label_of, names_of}
use Rattle.clap.specs.Takes.{is_given}
use Rattle.clap.specs.Kinds.{HasKind, IsAmong, Kinds, check_kinds, or_else, range_kinds, request_kinds, value_kinds, values_kinds}
use Rattle.clap.specs.Faults.{action_fault, bundle_fault, bundle_step_fault, check_fault, count_fault, default_fault, defaults_fault, entered_fault, fault_of, flag_word_fault, flags_fault, given_default_fault, level_fault, long_fault, option_fault, other_fault, positional_fault, react_fault, repeat_fault, set_fault, settle_fault, short_fault, step_fault, stray_fault, turn_fault, use_fault, values_fault, walk_fault, word_fault}
use Rattle.clap.specs.declared.builder.action.ArgAction.{ArgAction}
use Rattle.clap.specs.declared.builder.action.ArgAction.TheVariants as action
use Rattle.clap.specs.declared.builder.value_parser.ValueParser.{ValueParser}
use Rattle.clap.specs.declared.error.Error.{Error}
use Rattle.clap.specs.declared.error.kind.ErrorKind.{ErrorKind}
use Rattle.clap.specs.declared.error.kind.ErrorKind.TheVariants as kind
use Rattle.word_app.specs.App.{dagsched}
use Rattle.command_words.specs.Lines.{asks_for_help, is_help, shows_help}
use Rattle.command_words.proofs.AppLemmas.{no_help_command, no_help_commands}

-- a kind that shows help or the version is among the kinds only where it is all of them
abbrev IsClear : Kinds → Type 0
IsClear ks = (k : ErrorKind) → shows_help k ≡ true → IsAmong k ks → ks ≡ k ∷ []

nothing : IsClear []
nothing k shows h = absurd h

alone : (x : ErrorKind) → IsClear (x ∷ [])
alone x k shows h = elim h [ inl is ↦ ap (λ x. x ∷ []) (sym is) | inr among ↦ absurd among ]

then_clear : (a b : Kinds) → IsClear a → IsClear b → IsClear (or_else a b)
then_clear [] b here next = next
then_clear (k ∷ ks) b here next = here

if_clear : (b : Bool) (x y : Kinds) → IsClear x → IsClear y → IsClear (if b then x else y)
if_clear true x y left right = left
if_clear false x y left right = right

some_clear : {X : Type 0} (f : X → Kinds) (o : Option X) → ((x : X) → IsClear (f x)) → IsClear (option_map_or f o [])
some_clear f None each = nothing
some_clear f (Some x) each = each x

-- ---- one use of an argument

value_clear : (i : Bool) (p : ValueParser) (t : Text) → IsClear (value_kinds i p t)
value_clear i p t = if_clear (accepts i p t) [] (refused_kind p ∷ []) nothing (alone (refused_kind p))

values_clear : (i : Bool) (p : ValueParser) (ts : List Text) → IsClear (values_kinds i p ts)
values_clear i p [] = nothing
values_clear i p (t ∷ ts) = then_clear (value_kinds i p t) (values_kinds i p ts) (value_clear i p t) (values_clear i p ts)

range_clear : (least most n : ℕ) → IsClear (range_kinds least most n)
range_clear least most n =
    let few : Kinds = if nat_lt most n then kind.TooManyValues ∷ [] else [] in
    let other : Kinds = if nat_lt n least then kind.TooFewValues ∷ [] else few in
    let same : Kinds = if least == n then [] else kind.WrongNumberOfValues ∷ [] in
    if_clear (nat_lt 0 least && n == 0) (kind.InvalidValue ∷ []) (if least == most then same else other) (alone kind.InvalidValue)
    (if_clear (least == most) same other (if_clear (least == n) [] (kind.WrongNumberOfValues ∷ []) nothing (alone kind.WrongNumberOfValues))
    (if_clear (nat_lt n least) (kind.TooFewValues ∷ []) few (alone kind.TooFewValues)
    (if_clear (nat_lt most n) (kind.TooManyValues ∷ []) [] (alone kind.TooManyValues) nothing)))

request_clear : (x : ArgAction) → IsClear (request_kinds x)
request_clear action.Help = alone kind.DisplayHelp
request_clear action.HelpShort = alone kind.DisplayHelp
request_clear action.HelpLong = alone kind.DisplayHelp
request_clear action.Version = alone kind.DisplayVersion
request_clear _ = nothing

count_clear : (a : Rule) (values : List Text) (rows : List Row) → IsClear (count_fault a values rows)
count_clear a [] rows = value_clear a.ignore_case (parser_of_value a.parser) (count_text (min (count_of a.id rows + 1) 255))
count_clear a (v ∷ vs) rows = values_clear a.ignore_case (parser_of_value a.parser) (v ∷ vs)

set_clear : (again : Bool) (a : Rule) (values : List Text) (rows : List Row) → IsClear (set_fault again a values rows)
set_clear again a values rows = then_clear (repeat_fault again a.id rows) (values_fault a values)
    (if_clear (has_row a.id rows && not again) (kind.ArgumentConflict ∷ []) [] (alone kind.ArgumentConflict) nothing)
    (values_clear a.ignore_case (parser_of_value a.parser) values)

action_clear : (x : ArgAction) (again : Bool) (a : Rule) (values : List Text) (rows : List Row) → IsClear (action_fault x again a values rows)
action_clear action.Set again a values rows = set_clear again a values rows
action_clear action.SetTrue again a values rows = set_clear again a values rows
action_clear action.SetFalse again a values rows = set_clear again a values rows
action_clear action.Append again a values rows = values_clear a.ignore_case (parser_of_value a.parser) values
action_clear action.Count again a values rows = count_clear a values rows
action_clear action.Help again a values rows = request_clear action.Help
action_clear action.HelpShort again a values rows = request_clear action.HelpShort
action_clear action.HelpLong again a values rows = request_clear action.HelpLong
action_clear action.Version again a values rows = request_clear action.Version

use_clear : (again : Bool) (a : Rule) (values : List Text) (rows : List Row) → IsClear (use_fault again a values rows)
use_clear again a values rows = then_clear (range_kinds (unwrap_or_range a.range).start_inclusive (most_values a) (length values))
    (action_fault (action_of a) again a (values_or_missing a values) rows)
    (range_clear (unwrap_or_range a.range).start_inclusive (most_values a) (length values))
    (action_clear (action_of a) again a (values_or_missing a values) rows)

-- ---- the walk

settle_clear : (c : List Rule) (again : Bool) (h : Held) → IsClear (settle_fault c again h)
settle_clear c again h = some_clear (λ p. option_map_or (λ a. use_fault again a p.1 h.rows) (arg_by_id c p.0) []) h.pending
    (λ p. some_clear (λ a. use_fault again a p.1 h.rows) (arg_by_id c p.0) (λ a. use_clear again a p.1 h.rows))

react_clear : (c : List Rule) (again : Bool) (a : Rule) (values : List Text) (h : Held) → IsClear (react_fault c again a values h)
react_clear c again a values h = then_clear (settle_fault c again h) (use_fault again a values (settled c h).rows) (settle_clear c again h)
    (use_clear again a values (settled c h).rows)

option_clear : (c : List Rule) (again : Bool) (a : Rule) (v : Option Text) (h : Held) → IsClear (option_fault c again a v h)
option_clear c again a (Some v) h = react_clear c again a (v ∷ []) h
option_clear c again a None h = settle_clear c again h

long_clear : (c : List Rule) (again : Bool) (o : Option Rule) (v : Option Text) (h : Held) → IsClear (long_fault c again o v h)
long_clear c again None v h = alone kind.UnknownArgument
long_clear c again (Some a) v h =
    let flag : Kinds = if is_some v then kind.TooManyValues ∷ [] else react_fault c again a [] h in
    if_clear (takes_values a) (option_fault c again a v h) flag (option_clear c again a v h)
    (if_clear (is_some v) (kind.TooManyValues ∷ []) (react_fault c again a [] h) (alone kind.TooManyValues) (react_clear c again a [] h))

short_clear : (c : List Rule) (again : Bool) (o : Option Rule) (rest : Text) (h : Held) (next : Held → Kinds) → ((h : Held) → IsClear (next h))
    → IsClear (short_fault c again o rest h next)
short_clear c again None rest h next each = alone kind.UnknownArgument
short_clear c again (Some a) rest h next each =
    if_clear (takes_values a) (option_fault c again a (attached_value rest) h) (or_else (react_fault c again a [] h) (next (reacted c a [] h)))
    (option_clear c again a (attached_value rest) h)
    (then_clear (react_fault c again a [] h) (next (reacted c a [] h)) (react_clear c again a [] h) (each (reacted c a [] h)))

bundle_step_clear : (c : List Rule) (again : Bool) (o : Option ℕ) (flags : Text) (skip : ℕ) (h : Held) (next : Text → ℕ → Held → Kinds)
    → ((t : Text) (n : ℕ) (h : Held) → IsClear (next t n h)) → IsClear (bundle_step_fault c again o flags skip h next)
bundle_step_clear c again None flags skip h next each = nothing
bundle_step_clear c again (Some x) flags zero h next each =
    let rest : Text = drop (length (encode_utf8 x)) flags in
    short_clear c again (arg_by_short c x) rest h (next rest 0) (each rest 0)
bundle_step_clear c again (Some x) flags (suc skip) h next each = each (drop (length (encode_utf8 x)) flags) skip h

flags_clear : (c : List Rule) (again : Bool) (k : ℕ) (flags : Text) (skip : ℕ) (h : Held) → IsClear (flags_fault c again k flags skip h)
unfolding flags_fault
flags_clear c again zero flags skip h = nothing
flags_clear c again (suc k) flags skip h =
    bundle_step_clear c again (slice_get (chars flags) 0) flags skip h (flags_fault c again k) (flags_clear c again k)

flag_word_clear : (c : List Rule) (again : Bool) (o : Option (Text × Option Text)) (word : Text) (h : Held) → IsClear (flag_word_fault c again o word h)
flag_word_clear c again (Some p) word h = long_clear c again (arg_by_long c p.0) p.1 h
flag_word_clear c again None word h = some_clear (λ flags. bundle_fault c again flags h) (short_of word)
    (λ flags. flags_clear c again (length flags) flags h.skip (record h { skip = 0 }))

-- a command is no help, where `help` is no command
other_clear : (s : Shape) (o : Option Text) (word : Text) (h : Held) → s.disable_help_subcommand ≡ true → IsClear (other_fault s o word h)
other_clear s (Some name) word h none = go (bytes_eq name (codes "help")) s.disable_help_subcommand none
  where
    go : (is off : Bool) → off ≡ true → IsClear (if is && not off then kind.DisplayHelp ∷ kind.InvalidSubcommand ∷ [] else [])
    go true true e = nothing
    go false true e = nothing
    go is false e = cc
other_clear s None word h none = if_clear (bytes_eq word (45 ∷ 45 ∷ [])) [] (flag_word_fault s.rules s.args_override_self (long_of word) word h) nothing
    (flag_word_clear s.rules s.args_override_self (long_of word) word h)

stray_clear : (s : Shape) → IsClear (stray_fault s)
stray_clear s = if_clear s.is_leaf (kind.UnknownArgument ∷ []) (kind.UnknownArgument ∷ kind.InvalidSubcommand ∷ []) (alone kind.UnknownArgument) two
  where
    two : IsClear (kind.UnknownArgument ∷ kind.InvalidSubcommand ∷ [])
    two k shows h = elim h [
      | inl is ↦ absurd (true≢false (sym shows ∙ ap shows_help is))
      | inr more ↦ elim more [ inl is ↦ absurd (true≢false (sym shows ∙ ap shows_help is)) | inr among ↦ absurd among ]
    ]

step_clear : (s : Shape) (position : ℕ) (h : Held) (met : Step) → IsClear (step_fault s position h met)
step_clear s position h value = go (arg_by_index s.rules position)
  where
    go : (o : Option Rule) → IsClear (option_map_or (λ a. positional_fault s.rules s.args_override_self a h) o (stray_fault s))
    go None = stray_clear s
    go (Some a) = if_clear (is_pending a h.pending && takes_several a) [] (settle_fault s.rules s.args_override_self h) nothing
        (settle_clear s.rules s.args_override_self h)
step_clear s position h _ = nothing

turn_clear : (s : Shape) (names : Names) (w : Walk) (word : Text) → s.disable_help_subcommand ≡ true → IsClear (turn_fault s names w word)
turn_clear s names w word none =
    let met = word_met s.rules names w.is_trailing w.waiting w.position word w.held in
    let flagged : Kinds = word_fault s names w.is_trailing w.waiting word w.held in
    let stepped : Kinds = step_fault s w.position met.0 met.1 in
    if_clear (is_some w.stopped) [] (or_else flagged stepped) nothing (then_clear flagged stepped
    (if_clear w.is_trailing [] (other_fault s (subcommand_met names w.waiting word) word w.held) nothing
    (other_clear s (subcommand_met names w.waiting word) word w.held none))
    (step_clear s w.position met.0 met.1))

walk_clear : (s : Shape) (names : Names) (w : Walk) (words : List Text) → s.disable_help_subcommand ≡ true → IsClear (walk_fault s names w words)
unfolding walk_fault
walk_clear s names w [] none = nothing
walk_clear s names w (word ∷ rest) none =
    then_clear (turn_fault s names w word) (walk_fault s names (walked s.rules names w word) rest) (turn_clear s names w word none)
    (walk_clear s names (walked s.rules names w word) rest none)

-- ---- after the walk

default_clear : (rows : List Row) (a : Rule) → IsClear (default_fault rows a)
default_clear rows a = if_clear (has_row a.id rows || is_empty a.defaults) [] (given_default_fault a a.defaults) nothing
    (then_clear (request_kinds (action_of a)) (values_fault a a.defaults) (request_clear (action_of a))
    (values_clear a.ignore_case (parser_of_value a.parser) a.defaults))

defaults_clear : (rows : List Row) (rules : List Rule) → IsClear (defaults_fault rows rules)
unfolding defaults_fault
defaults_clear rows [] = nothing
defaults_clear rows (a ∷ rest) =
    then_clear (default_fault rows a) (defaults_fault (with_default rows a) rest) (default_clear rows a) (defaults_clear (with_default rows a) rest)

wants_clear : (a b c : Bool) → IsClear (check_kinds a b c)
wants_clear true b c = alone kind.DisplayHelpOnMissingArgumentOrSubcommand
wants_clear false true c = alone kind.MissingSubcommand
wants_clear false false true = alone kind.MissingRequiredArgument
wants_clear false false false = nothing

level_clear : (s : Shape) (names : Names) (h : Held) (words : List Text) (has : Bool) (below : Kinds) → s.disable_help_subcommand ≡ true → IsClear below
    → IsClear (level_fault s names h words has below)
level_clear s names h words has below none clear =
    let end = (walk s.rules names h words).held in
    let walks = walk_fault s names (walk_from h) words in
    let settles = settle_fault s.rules s.args_override_self end in
    let defaults = defaults_fault (settled s.rules end).rows s.rules in
    let checks = check_fault s (finished s.rules end) has in
    then_clear walks (or_else below (or_else settles (or_else defaults checks))) (walk_clear s names (walk_from h) words none)
    (then_clear below (or_else settles (or_else defaults checks)) clear
    (then_clear settles (or_else defaults checks) (settle_clear s.rules s.args_override_self end)
    (then_clear defaults checks (defaults_clear (settled s.rules end).rows s.rules)
    (wants_clear
    (not has && (s.arg_required_else_help && not (list_any (λ r. explicit_source r.source) (finished s.rules end))))
    (not has && s.subcommand_required)
    (not (s.subcommand_negates_reqs && has) && list_any (λ a. a.required && not (is_given a.id (finished s.rules end))) s.rules)))))

found_clear : (subs : List Shape) (word : Text) (rest : List Text) → list_all (λ s. s.disable_help_subcommand) subs ≡ true
    → IsClear (option_map_or (λ s. level_fault s [] nothing_held rest false []) (find (λ s. answers_to word (label_of s)) subs) [])
found_clear [] word rest all = nothing
found_clear (s ∷ subs) word rest all = go (found_clear subs word rest) (answers_to word (label_of s)) s.disable_help_subcommand refl all
  where
    go : (list_all (λ s. s.disable_help_subcommand) subs ≡ true
        → IsClear (option_map_or (λ s. level_fault s [] nothing_held rest false []) (find (λ s. answers_to word (label_of s)) subs) []))
        → (is off : Bool) → s.disable_help_subcommand ≡ off → off && list_all (λ s. s.disable_help_subcommand) subs ≡ true
        → IsClear (option_map_or (λ s. level_fault s [] nothing_held rest false []) (if is then Some s else find (λ s. answers_to word (label_of s)) subs) [])
    go more is false e all = cc
    go more true true e all = level_clear s [] nothing_held rest false [] e nothing
    go more false true e all = more all

entered_clear : (a : App) (stop : Option (Text × List Text)) → list_all (λ s. s.disable_help_subcommand) a.subs ≡ true → IsClear (entered_fault a stop)
entered_clear a stop all = some_clear (λ p. option_map_or (λ s. level_fault s [] nothing_held p.1 false []) (find (λ s. answers_to p.0 (label_of s)) a.subs) [])
    stop (λ p. found_clear a.subs p.0 p.1 all)

fault_clear : (words : List Text) → IsClear (fault_of dagsched words)
fault_clear words =
    let a = built dagsched in
    let stop = (walk a.top.rules (names_of a) nothing_held words).stopped in
    level_clear a.top (names_of a) nothing_held words (is_some (entered a stop)) (entered_fault a stop) no_help_command
    (entered_clear a stop no_help_commands)

-- ---- an error that comes from among the kinds

among_help : (ks : Kinds) (k : ErrorKind) → IsClear ks → IsAmong k ks → shows_help k ≡ is_help ks
among_help [] k clear among = absurd among
among_help (x ∷ []) k clear among = elim among [ inl is ↦ ap shows_help is | inr none ↦ absurd none ]
among_help (x ∷ y ∷ ks) k clear among = go (shows_help k) refl
  where
    go : (shows : Bool) → shows_help k ≡ shows → shows_help k ≡ false
    go false e = e
    go true e =
        let all : x ∷ y ∷ ks ≡ k ∷ [] = clear k e among in
        cc

pub asked : (words : List Text) (e : Error) → HasKind (fault_of dagsched words) e → kind_of e ≢ kind.OutOfMemory
    → shows_help (kind_of e) ≡ asks_for_help words
asked words e among other = elim among [
  | inl memory ↦ absurd (other memory)
  | inr is ↦ among_help (fault_of dagsched words) (kind_of e) (fault_clear words) is
]
