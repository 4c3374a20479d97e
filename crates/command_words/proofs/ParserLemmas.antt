-- What a parse makes of the words goes by which values the parsers of its arguments take, and not by the parsers themselves.
use Rattle.std.proofs.Common.{◌≡◌, ◌∙◌, ◌&&◌, ◌||◌, ℕ, ◌+◌, ◌==◌, Bool, true, false, zero, suc, not, refl, sym, ap, List, [], ◌∷◌, map, length, drop, Option, Some, None, is_some, find}
use Rattle.std.specs.Prelude.{if◌then◌else◌, option_map, slice_get, encode_utf8, min}
use Rattle.std.specs.List.{fold, list_any}
use Rattle.std.specs.Option.{option_map_or}
use Rattle.std.specs.Str.{bytes_eq, chars}
use Rattle.clap.specs.Values.{reading_of}
use Rattle.clap.specs.Facts.{explicit_source, parser_of_value}
use Rattle.clap.specs.Matches.{count_text}
use Rattle.clap.specs.Lexer.{long_of, short_of}
use Rattle.clap.specs.Kinds.{Kinds, check_kinds, or_else, request_kinds, value_kinds}
use Rattle.clap.specs.Walk.{Held, Names, Outcome, Row, Rule, Step, Text, Waiting, Walk}
use Rattle.clap.specs.Walk.{done, waits, plain, refused, idle, option, positional, next, trailing, subcommand, value}
use Rattle.clap.specs.Walk.{action_of, after_flag, after_step, answers_to, arg_by_id, arg_by_index, arg_by_long, arg_by_short, attached_value, bundle, bundle_met, bundle_step, count_of, default_rows, finished, flag_met, has_long, has_row, has_short, is_empty, is_multiple, is_pending, long_met, long_or_other, long_word, next_position, nothing_held, option_met, option_word, plain_word, positional_held, pushed, reacted, rows_after, settled, settled_rows, short_met, short_or_plain, short_word, stop_after, subcommand_met, subcommand_or_other, takes_several, takes_values, to_positional, used, used_as, used_by_id, walk, walk_from, walked, walked_from, with_default, word_met}
use Rattle.clap.specs.Simple.{App, Shape, entered, label_of, names_of, rows_at}
use Rattle.clap.specs.Takes.{is_given}
use Rattle.clap.specs.Faults.{action_fault, built_fault, bundle_fault, bundle_step_fault, check_fault, count_fault, default_fault, defaults_fault, entered_fault, flag_word_fault, flags_fault, level_fault, long_fault, option_fault, other_fault, positional_fault, react_fault, repeat_fault, set_fault, settle_fault, short_fault, step_fault, stray_fault, turn_fault, use_fault, values_fault, walk_fault, word_fault}
use Rattle.clap.specs.declared.builder.action.ArgAction.{ArgAction}
use Rattle.clap.specs.declared.builder.action.ArgAction.TheVariants.{Set, Append, SetTrue, SetFalse, Count, Help, HelpShort, HelpLong, Version}
use Rattle.clap.specs.declared.builder.value_parser.ValueParser.{ValueParser}
use Rattle.clap.proofs.WalkLemmas.{find-map, list_any-map}

if_same : {X : Type 0} (b : Bool) (x x' y y' : X) → x' ≡ x → y' ≡ y → (if b then x' else y') ≡ (if b then x else y)
if_same true x x' y y' e k = e
if_same false x x' y y' e k = k

or_same : (a a' b b' : Kinds) → a' ≡ a → b' ≡ b → or_else a' b' ≡ or_else a b
or_same a a' b b' e k = ap (λ (x : Kinds). or_else x b') e ∙ ap (λ (x : Kinds). or_else a x) k

fold_same : {A B : Type 0} (s s' : B → A → B) → ((b : B) (x : A) → s' b x ≡ s b x) → (b : B) (xs : List A) → fold s' b xs ≡ fold s b xs
fold_same s s' same b [] = refl
fold_same s s' same b (x ∷ xs) = ap (λ y. fold s' y xs) (same b x) ∙ fold_same s s' same (s b x) xs

-- parsers are changed so, and take and read the same
module _ (g : ValueParser → ValueParser) (reads : (p : ValueParser) → reading_of (g p) ≡ reading_of p)
    (takes : (any_case : Bool) (p : ValueParser) (t : Text) → value_kinds any_case (g p) t ≡ value_kinds any_case p t) where
  abbrev pub changed : Rule → Rule
  changed a = record a { parser = option_map g a.parser }

  abbrev pub shape : Shape → Shape
  shape s = record s { rules = map changed s.rules }

  abbrev pub app : App → App
  app a = record a { subs = map shape a.subs }

  -- ---- the walk
  reading_as : (p : Option ValueParser) → reading_of (parser_of_value (option_map g p)) ≡ reading_of (parser_of_value p)
  reading_as None = refl
  reading_as (Some p) = reads p

  used_same : (a : Rule) (values : List Text) (rows : List Row) → used (changed a) values rows ≡ used a values rows
  used_same a [] rows = ap (λ how. used_as (action_of a) a.id how a.missing rows) (reading_as a.parser)
  used_same a (v ∷ vs) rows = ap (λ how. used_as (action_of a) a.id how (v ∷ vs) rows) (reading_as a.parser)

  by_id : (c : List Rule) (id : Text) → option_map changed (arg_by_id c id) ≡ arg_by_id (map changed c) id
  by_id c id = find-map (λ (a : Rule). bytes_eq a.id id) changed c

  by_long : (c : List Rule) (name : Text) → option_map changed (arg_by_long c name) ≡ arg_by_long (map changed c) name
  by_long c name = find-map (λ (a : Rule). not (is_some a.index) && has_long a name) changed c

  by_short : (c : List Rule) (x : ℕ) → option_map changed (arg_by_short c x) ≡ arg_by_short (map changed c) x
  by_short c x = find-map (λ (a : Rule). not (is_some a.index) && has_short a x) changed c

  by_index : (c : List Rule) (i : ℕ) → option_map changed (arg_by_index c i) ≡ arg_by_index (map changed c) i
  by_index c i = find-map (λ (a : Rule). option_map_or (λ k. k == i) a.index false) changed c

  used_found : (o : Option Rule) (values : List Text) (rows : List Row) → used_by_id (option_map changed o) values rows ≡ used_by_id o values rows
  used_found None values rows = refl
  used_found (Some a) values rows = used_same a values rows

  settled_at : (c : List Rule) (p : Option (Text × List Text)) (rows : List Row) → settled_rows (map changed c) p rows ≡ settled_rows c p rows
  settled_at c None rows = refl
  settled_at c (Some p) rows = ap (λ o. used_by_id o p.1 rows) (sym (by_id c p.0)) ∙ used_found (arg_by_id c p.0) p.1 rows

  settled_same : (c : List Rule) (h : Held) → settled (map changed c) h ≡ settled c h
  settled_same c h = ap (λ (rows : List Row). record h { rows = rows; pending = None }) (settled_at c h.pending h.rows)

  reacted_same : (c : List Rule) (a : Rule) (values : List Text) (h : Held) → reacted (map changed c) (changed a) values h ≡ reacted c a values h
  reacted_same c a values h =
      ap (λ (s : Held). record h { rows = used (changed a) values s.rows; pending = None }) (settled_same c h)
      ∙ ap (λ (rows : List Row). record h { rows = rows; pending = None }) (used_same a values (settled c h).rows)

  option_same : (c : List Rule) (a : Rule) (v : Option Text) (h : Held) → option_met (map changed c) (changed a) v h ≡ option_met c a v h
  option_same c a (Some v) h = ap (λ (x : Held). (x, done)) (reacted_same c a (v ∷ []) h)
  option_same c a None h = ap (λ (x : Held). (record x { pending = Some (a.id, []) }, waits a.id)) (settled_same c h)

  flag_same : (c : List Rule) (a : Rule) (v : Option Text) (h : Held) → flag_met (map changed c) (changed a) v h ≡ flag_met c a v h
  flag_same c a (Some v) h = refl
  flag_same c a None h = ap (λ (x : Held). (x, done)) (reacted_same c a [] h)

  long_same : (c : List Rule) (o : Option Rule) (v : Option Text) (h : Held) → long_met (map changed c) (option_map changed o) v h ≡ long_met c o v h
  long_same c None v h = refl
  long_same c (Some a) v h = if_same (takes_values a) _ _ _ _ (option_same c a v h) (flag_same c a v h)

  short_same : (c : List Rule) (o : Option Rule) (rest : Text) (h : Held) (more more' : Held → Held × Outcome) → ((x : Held) → more' x ≡ more x)
      → short_met (map changed c) (option_map changed o) rest h more' ≡ short_met c o rest h more
  short_same c None rest h more more' same = refl
  short_same c (Some a) rest h more more' same =
      if_same (takes_values a) _ _ _ _ (option_same c a (attached_value rest) h) (ap more' (reacted_same c a [] h) ∙ same (reacted c a [] h))

  bundle_at : (c : List Rule) (x : Option ℕ) (flags : Text) (skip : ℕ) (so_far : Outcome) (h : Held) (more more' : Text → ℕ → Outcome → Held → Held × Outcome)
      → ((t : Text) (n : ℕ) (o : Outcome) (y : Held) → more' t n o y ≡ more t n o y) → bundle_step (map changed c) x flags skip so_far h more' ≡ bundle_step c x flags skip so_far h more
  bundle_at c None flags skip so_far h more more' same = refl
  bundle_at c (Some x) flags zero so_far h more more' same =
      let rest = drop (length (encode_utf8 x)) flags in
      ap (λ o. short_met (map changed c) o rest h (more' rest 0 done)) (sym (by_short c x)) ∙ short_same c (arg_by_short c x) rest h (more rest 0 done) (more' rest 0 done) (same rest 0 done)
  bundle_at c (Some x) flags (suc skip) so_far h more more' same = same (drop (length (encode_utf8 x)) flags) skip so_far h

  bundle_same : (c : List Rule) (k : ℕ) (flags : Text) (skip : ℕ) (so_far : Outcome) (h : Held) → bundle_met (map changed c) k flags skip so_far h ≡ bundle_met c k flags skip so_far h
  unfolding bundle_met
  bundle_same c zero flags skip so_far h = refl
  bundle_same c (suc k) flags skip so_far h =
      bundle_at c (slice_get (chars flags) 0) flags skip so_far h (bundle_met c k) (bundle_met (map changed c) k) (bundle_same c k)

  value_found : (o : Option Rule) (id word : Text) (h : Held) → option_word (option_map changed o) id word h ≡ option_word o id word h
  value_found None id word h = refl
  value_found (Some a) id word h = refl

  plain_same : (c : List Rule) (w : Waiting) (word : Text) (h : Held) → plain_word (map changed c) w word h ≡ plain_word c w word h
  plain_same c idle word h = refl
  plain_same c positional word h = refl
  plain_same c (option id) word h =
      ap (λ (m : Held × Waiting). (m.0, next m.1)) (ap (λ o. option_word o id word h) (sym (by_id c id)) ∙ value_found (arg_by_id c id) id word h)

  after_same : (c : List Rule) (w : Waiting) (word : Text) (h : Held) (o : Outcome) → after_flag (map changed c) w word h o ≡ after_flag c w word h o
  after_same c w word h done = refl
  after_same c w word h (waits id) = refl
  after_same c w word h plain = plain_same c w word h
  after_same c w word h refused = plain_same c w word h

  after_met : (c : List Rule) (w : Waiting) (word : Text) (m m' : Held × Outcome) → m' ≡ m → after_flag (map changed c) w word m'.0 m'.1 ≡ after_flag c w word m.0 m.1
  after_met c w word m m' e = ap (λ (x : Held × Outcome). after_flag (map changed c) w word x.0 x.1) e ∙ after_same c w word m.0 m.1

  long_word_same : (c : List Rule) (w : Waiting) (word name : Text) (v : Option Text) (h : Held) → long_word (map changed c) w word name v h ≡ long_word c w word name v h
  long_word_same c w word name v h =
      after_met c w word (long_met c (arg_by_long c name) v h) (long_met (map changed c) (arg_by_long (map changed c) name) v h)
      (ap (λ o. long_met (map changed c) o v h) (sym (by_long c name)) ∙ long_same c (arg_by_long c name) v h)

  short_word_same : (c : List Rule) (w : Waiting) (word flags : Text) (h : Held) → short_word (map changed c) w word flags h ≡ short_word c w word flags h
  short_word_same c w word flags h =
      after_met c w word (bundle c flags h) (bundle (map changed c) flags h) (bundle_same c (length flags) flags h.skip plain (record h { skip = 0 }))

  short_or_plain_same : (c : List Rule) (w : Waiting) (word : Text) (o : Option Text) (h : Held) → short_or_plain (map changed c) w word o h ≡ short_or_plain c w word o h
  short_or_plain_same c w word (Some flags) h = short_word_same c w word flags h
  short_or_plain_same c w word None h = plain_same c w word h

  long_or_other_same : (c : List Rule) (w : Waiting) (word : Text) (o : Option (Text × Option Text)) (h : Held) → long_or_other (map changed c) w word o h ≡ long_or_other c w word o h
  long_or_other_same c w word (Some p) h = long_word_same c w word p.0 p.1 h
  long_or_other_same c w word None h = short_or_plain_same c w word (short_of word) h

  subcommand_same : (c : List Rule) (s : Option Text) (w : Waiting) (position : ℕ) (word : Text) (h : Held)
      → subcommand_or_other (map changed c) s w position word h ≡ subcommand_or_other c s w position word h
  subcommand_same c (Some name) w position word h = refl
  subcommand_same c None w position word h = if_same (bytes_eq word (45 ∷ 45 ∷ [])) _ _ _ _ refl (long_or_other_same c w word (long_of word) h)

  met_same : (c : List Rule) (names : Names) (is_trailing : Bool) (w : Waiting) (position : ℕ) (word : Text) (h : Held)
      → word_met (map changed c) names is_trailing w position word h ≡ word_met c names is_trailing w position word h
  met_same c names is_trailing w position word h = if_same is_trailing _ _ _ _ refl (subcommand_same c (subcommand_met names w word) w position word h)

  held_same : (c : List Rule) (a : Rule) (word : Text) (h : Held) → positional_held (map changed c) (changed a) word h ≡ positional_held c a word h
  held_same c a word h = ap (λ (s : Held). pushed a.id word (if is_pending a h.pending && takes_several a then h else s)) (settled_same c h)

  positional_found : (c : List Rule) (o : Option Rule) (word : Text) (w : Walk) (h : Held) → to_positional (map changed c) (option_map changed o) word w h ≡ to_positional c o word w h
  positional_found c None word w h = refl
  positional_found c (Some a) word w h =
      let at : Held → Walk =
      λ x. record {
        held = x;
        waiting = if is_multiple a then positional else idle;
        position = next_position a w.position;
        is_trailing = w.is_trailing || a.trailing_var_arg;
        stopped = None;
      } in
      ap at (held_same c a word h)

  after_step_same : (c : List Rule) (word : Text) (w : Walk) (h : Held) (s : Step) → after_step (map changed c) word w h s ≡ after_step c word w h s
  after_step_same c word w h (next waiting) = refl
  after_step_same c word w h (trailing position) = refl
  after_step_same c word w h (subcommand name) = refl
  after_step_same c word w h value =
      ap (λ o. to_positional (map changed c) o word w h) (sym (by_index c w.position)) ∙ positional_found c (arg_by_index c w.position) word w h

  from_same : (c : List Rule) (names : Names) (s : Option (Text × List Text)) (w : Walk) (word : Text) → walked_from (map changed c) names s w word ≡ walked_from c names s w word
  from_same c names (Some p) w word = refl
  from_same c names None w word =
      let met = word_met c names w.is_trailing w.waiting w.position word w.held in
      ap (λ (m : Held × Step). after_step (map changed c) word w m.0 m.1) (met_same c names w.is_trailing w.waiting w.position word w.held) ∙ after_step_same c word w met.0 met.1

  walked_same : (c : List Rule) (names : Names) (w : Walk) (word : Text) → walked (map changed c) names w word ≡ walked c names w word
  unfolding walked
  walked_same c names w word = from_same c names w.stopped w word

  walk_same : (c : List Rule) (names : Names) (h : Held) (words : List Text) → walk (map changed c) names h words ≡ walk c names h words
  walk_same c names h words = fold_same (walked c names) (walked (map changed c) names) (walked_same c names) (walk_from h) words

  default_same : (rows : List Row) (a : Rule) → with_default rows (changed a) ≡ with_default rows a
  default_same rows a = ap (λ how. if has_row a.id rows then rows else default_rows a.id how a.defaults rows) (reading_as a.parser)

  defaults_same : (c : List Rule) (rows : List Row) → fold with_default rows (map changed c) ≡ fold with_default rows c
  defaults_same [] rows = refl
  defaults_same (a ∷ c) rows = ap (λ (r : List Row). fold with_default r (map changed c)) (default_same rows a) ∙ defaults_same c (with_default rows a)

  finished_same : (c : List Rule) (h : Held) → finished (map changed c) h ≡ finished c h
  finished_same c h = ap (λ (s : Held). fold with_default s.rows (map changed c)) (settled_same c h) ∙ defaults_same c (settled c h).rows

  rows_same : (c : List Rule) (names : Names) (words : List Text) → rows_after (map changed c) names words ≡ rows_after c names words
  rows_same c names words = ap (λ (w : Walk). finished (map changed c) w.held) (walk_same c names nothing_held words) ∙ finished_same c (walk c names nothing_held words).held

  -- ---- the faults
  value_same : (any_case : Bool) (p : Option ValueParser) (t : Text) → value_kinds any_case (parser_of_value (option_map g p)) t ≡ value_kinds any_case (parser_of_value p) t
  value_same any_case None t = refl
  value_same any_case (Some p) t = takes any_case p t

  values_same : (a : Rule) (vs : List Text) → values_fault (changed a) vs ≡ values_fault a vs
  values_same a [] = refl
  values_same a (v ∷ vs) = or_same _ _ _ _ (value_same a.ignore_case a.parser v) (values_same a vs)

  count_same : (a : Rule) (vs : List Text) (rows : List Row) → count_fault (changed a) vs rows ≡ count_fault a vs rows
  count_same a [] rows = value_same a.ignore_case a.parser (count_text (min (count_of a.id rows + 1) 255))
  count_same a (v ∷ vs) rows = values_same a (v ∷ vs)

  set_same : (again : Bool) (a : Rule) (vs : List Text) (rows : List Row) → set_fault again (changed a) vs rows ≡ set_fault again a vs rows
  set_same again a vs rows = ap (λ (k : Kinds). or_else (repeat_fault again a.id rows) k) (values_same a vs)

  action_same : (act : ArgAction) (again : Bool) (a : Rule) (vs : List Text) (rows : List Row) → action_fault act again (changed a) vs rows ≡ action_fault act again a vs rows
  action_same Set again a vs rows = set_same again a vs rows
  action_same SetTrue again a vs rows = set_same again a vs rows
  action_same SetFalse again a vs rows = set_same again a vs rows
  action_same Append again a vs rows = values_same a vs
  action_same Count again a vs rows = count_same a vs rows
  action_same Help again a vs rows = refl
  action_same HelpShort again a vs rows = refl
  action_same HelpLong again a vs rows = refl
  action_same Version again a vs rows = refl

  use_same : (again : Bool) (a : Rule) (vs : List Text) (rows : List Row) → use_fault again (changed a) vs rows ≡ use_fault again a vs rows
  use_same again a [] rows = or_same _ _ _ _ refl (action_same (action_of a) again a a.missing rows)
  use_same again a (v ∷ vs) rows = or_same _ _ _ _ refl (action_same (action_of a) again a (v ∷ vs) rows)

  use_found : (again : Bool) (o : Option Rule) (vs : List Text) (rows : List Row)
      → option_map_or (λ (a : Rule). use_fault again a vs rows) (option_map changed o) [] ≡ option_map_or (λ (a : Rule). use_fault again a vs rows) o []
  use_found again None vs rows = refl
  use_found again (Some a) vs rows = use_same again a vs rows

  settle_at : (c : List Rule) (again : Bool) (q : Option (Text × List Text)) (rows : List Row)
      → option_map_or (λ (p : Text × List Text). option_map_or (λ (a : Rule). use_fault again a p.1 rows) (arg_by_id (map changed c) p.0) []) q []
      ≡ option_map_or (λ (p : Text × List Text). option_map_or (λ (a : Rule). use_fault again a p.1 rows) (arg_by_id c p.0) []) q []
  settle_at c again None rows = refl
  settle_at c again (Some p) rows =
      ap (λ o. option_map_or (λ (a : Rule). use_fault again a p.1 rows) o []) (sym (by_id c p.0)) ∙ use_found again (arg_by_id c p.0) p.1 rows

  settle_same : (c : List Rule) (again : Bool) (h : Held) → settle_fault (map changed c) again h ≡ settle_fault c again h
  settle_same c again h = settle_at c again h.pending h.rows

  react_same : (c : List Rule) (again : Bool) (a : Rule) (vs : List Text) (h : Held) → react_fault (map changed c) again (changed a) vs h ≡ react_fault c again a vs h
  react_same c again a vs h =
      or_same _ _ _ _ (settle_same c again h) (ap (λ (s : Held). use_fault again (changed a) vs s.rows) (settled_same c h) ∙ use_same again a vs (settled c h).rows)

  option_fault_same : (c : List Rule) (again : Bool) (a : Rule) (v : Option Text) (h : Held) → option_fault (map changed c) again (changed a) v h ≡ option_fault c again a v h
  option_fault_same c again a (Some v) h = react_same c again a (v ∷ []) h
  option_fault_same c again a None h = settle_same c again h

  long_fault_same : (c : List Rule) (again : Bool) (o : Option Rule) (v : Option Text) (h : Held) → long_fault (map changed c) again (option_map changed o) v h ≡ long_fault c again o v h
  long_fault_same c again None v h = refl
  long_fault_same c again (Some a) v h =
      if_same (takes_values a) _ _ _ _ (option_fault_same c again a v h) (if_same (is_some v) _ _ _ _ refl (react_same c again a [] h))

  short_fault_same : (c : List Rule) (again : Bool) (o : Option Rule) (rest : Text) (h : Held) (more more' : Held → Kinds) → ((x : Held) → more' x ≡ more x)
      → short_fault (map changed c) again (option_map changed o) rest h more' ≡ short_fault c again o rest h more
  short_fault_same c again None rest h more more' same = refl
  short_fault_same c again (Some a) rest h more more' same =
      if_same (takes_values a) _ _ _ _ (option_fault_same c again a (attached_value rest) h)
      (or_same _ _ _ _ (react_same c again a [] h) (ap more' (reacted_same c a [] h) ∙ same (reacted c a [] h)))

  flags_at : (c : List Rule) (again : Bool) (x : Option ℕ) (flags : Text) (skip : ℕ) (h : Held) (more more' : Text → ℕ → Held → Kinds)
      → ((t : Text) (n : ℕ) (y : Held) → more' t n y ≡ more t n y) → bundle_step_fault (map changed c) again x flags skip h more' ≡ bundle_step_fault c again x flags skip h more
  flags_at c again None flags skip h more more' same = refl
  flags_at c again (Some x) flags zero h more more' same =
      let rest = drop (length (encode_utf8 x)) flags in
      ap (λ o. short_fault (map changed c) again o rest h (more' rest 0)) (sym (by_short c x)) ∙ short_fault_same c again (arg_by_short c x) rest h (more rest 0) (more' rest 0) (same rest 0)
  flags_at c again (Some x) flags (suc skip) h more more' same = same (drop (length (encode_utf8 x)) flags) skip h

  flags_same : (c : List Rule) (again : Bool) (k : ℕ) (flags : Text) (skip : ℕ) (h : Held) → flags_fault (map changed c) again k flags skip h ≡ flags_fault c again k flags skip h
  unfolding flags_fault
  flags_same c again zero flags skip h = refl
  flags_same c again (suc k) flags skip h =
      flags_at c again (slice_get (chars flags) 0) flags skip h (flags_fault c again k) (flags_fault (map changed c) again k) (flags_same c again k)

  flags_found : (c : List Rule) (again : Bool) (o : Option Text) (h : Held)
      → option_map_or (λ flags. bundle_fault (map changed c) again flags h) o [] ≡ option_map_or (λ flags. bundle_fault c again flags h) o []
  flags_found c again None h = refl
  flags_found c again (Some flags) h = flags_same c again (length flags) flags h.skip (record h { skip = 0 })

  flag_word_same : (c : List Rule) (again : Bool) (o : Option (Text × Option Text)) (word : Text) (h : Held) → flag_word_fault (map changed c) again o word h ≡ flag_word_fault c again o word h
  flag_word_same c again (Some p) word h = ap (λ o. long_fault (map changed c) again o p.1 h) (sym (by_long c p.0)) ∙ long_fault_same c again (arg_by_long c p.0) p.1 h
  flag_word_same c again None word h = flags_found c again (short_of word) h

  other_same : (s : Shape) (o : Option Text) (word : Text) (h : Held) → other_fault (shape s) o word h ≡ other_fault s o word h
  other_same s (Some name) word h = refl
  other_same s None word h = if_same (bytes_eq word (45 ∷ 45 ∷ [])) _ _ _ _ refl (flag_word_same s.rules s.args_override_self (long_of word) word h)

  word_same : (s : Shape) (names : Names) (is_trailing : Bool) (w : Waiting) (word : Text) (h : Held) → word_fault (shape s) names is_trailing w word h ≡ word_fault s names is_trailing w word h
  word_same s names is_trailing w word h = if_same is_trailing _ _ _ _ refl (other_same s (subcommand_met names w word) word h)

  positional_same : (c : List Rule) (again : Bool) (a : Rule) (h : Held) → positional_fault (map changed c) again (changed a) h ≡ positional_fault c again a h
  positional_same c again a h = if_same (is_pending a h.pending && takes_several a) _ _ _ _ refl (settle_same c again h)

  stray_same : (c : List Rule) (again : Bool) (o : Option Rule) (h : Held) (stray : Kinds)
      → option_map_or (λ (a : Rule). positional_fault (map changed c) again a h) (option_map changed o) stray ≡ option_map_or (λ (a : Rule). positional_fault c again a h) o stray
  stray_same c again None h stray = refl
  stray_same c again (Some a) h stray = positional_same c again a h

  step_same : (s : Shape) (position : ℕ) (h : Held) (st : Step) → step_fault (shape s) position h st ≡ step_fault s position h st
  step_same s position h (next waiting) = refl
  step_same s position h (trailing n) = refl
  step_same s position h (subcommand name) = refl
  step_same s position h value =
      ap (λ o. option_map_or (λ (a : Rule). positional_fault (map changed s.rules) s.args_override_self a h) o (stray_fault s)) (sym (by_index s.rules position))
      ∙ stray_same s.rules s.args_override_self (arg_by_index s.rules position) h (stray_fault s)

  turn_same : (s : Shape) (names : Names) (w : Walk) (word : Text) → turn_fault (shape s) names w word ≡ turn_fault s names w word
  turn_same s names w word =
      let met = word_met s.rules names w.is_trailing w.waiting w.position word w.held in
      if_same (is_some w.stopped) _ _ _ _ refl
      (or_same _ _ _ _ (word_same s names w.is_trailing w.waiting word w.held)
      (ap (λ (m : Held × Step). step_fault (shape s) w.position m.0 m.1) (met_same s.rules names w.is_trailing w.waiting w.position word w.held) ∙ step_same s w.position met.0 met.1))

  walk_fault_same : (s : Shape) (names : Names) (w : Walk) (words : List Text) → walk_fault (shape s) names w words ≡ walk_fault s names w words
  unfolding walk_fault
  walk_fault_same s names w [] = refl
  walk_fault_same s names w (word ∷ rest) =
      or_same _ _ _ _ (turn_same s names w word)
      (ap (λ (x : Walk). walk_fault (shape s) names x rest) (walked_same s.rules names w word) ∙ walk_fault_same s names (walked s.rules names w word) rest)

  default_fault_same : (rows : List Row) (a : Rule) → default_fault rows (changed a) ≡ default_fault rows a
  default_fault_same rows a =
      ap (λ (k : Kinds). if has_row a.id rows || is_empty a.defaults then [] else or_else (request_kinds (action_of a)) k) (values_same a a.defaults)

  defaults_fault_same : (rows : List Row) (c : List Rule) → defaults_fault rows (map changed c) ≡ defaults_fault rows c
  unfolding defaults_fault
  defaults_fault_same rows [] = refl
  defaults_fault_same rows (a ∷ c) =
      or_same _ _ _ _ (default_fault_same rows a)
      (ap (λ (r : List Row). defaults_fault r (map changed c)) (default_same rows a) ∙ defaults_fault_same (with_default rows a) c)

  check_same : (s : Shape) (rows : List Row) (has : Bool) → check_fault (shape s) rows has ≡ check_fault s rows has
  check_same s rows has =
      ap (λ b. check_kinds (not has && (s.arg_required_else_help && not (list_any (λ (r : Row). explicit_source r.source) rows))) (not has && s.subcommand_required)
      (not (s.subcommand_negates_reqs && has) && b)) (sym (list_any-map (λ (a : Rule). a.required && not (is_given a.id rows)) changed s.rules))

  level_same : (s : Shape) (names : Names) (h : Held) (words : List Text) (has : Bool) (below : Kinds) → level_fault (shape s) names h words has below ≡ level_fault s names h words has below
  level_same s names h words has below =
      let c = map changed s.rules in
      let end = (walk s.rules names h words).held in
      ap (λ (w : Walk). or_else (walk_fault (shape s) names (walk_from h) words) (or_else below (or_else (settle_fault c s.args_override_self w.held)
      (or_else (defaults_fault (settled c w.held).rows c) (check_fault (shape s) (finished c w.held) has))))) (walk_same s.rules names h words)
      ∙ or_same _ _ _ _ (walk_fault_same s names (walk_from h) words)
      (or_same _ _ _ _ refl
      (or_same _ _ _ _ (settle_same s.rules s.args_override_self end)
      (or_same _ _ _ _ (ap (λ (x : Held). defaults_fault x.rows c) (settled_same s.rules end) ∙ defaults_fault_same (settled s.rules end).rows s.rules)
      (ap (λ (rows : List Row). check_fault (shape s) rows has) (finished_same s.rules end) ∙ check_same s (finished s.rules end) has))))

  -- ---- an application, of whose subcommands the parsers are changed
  labels_same : (subs : List Shape) → map label_of (map shape subs) ≡ map label_of subs
  labels_same [] = refl
  labels_same (s ∷ subs) = ap (λ l. label_of s ∷ l) (labels_same subs)

  shape_found : (subs : List Shape) (word : Text) → option_map shape (find (λ s. answers_to word (label_of s)) subs) ≡ find (λ s. answers_to word (label_of s)) (map shape subs)
  shape_found subs word = find-map (λ (s : Shape). answers_to word (label_of s)) shape subs

  rows_found : (o : Option Shape) (words : List Text) → option_map (λ s. rows_at s words) (option_map shape o) ≡ option_map (λ s. rows_at s words) o
  rows_found None words = refl
  rows_found (Some s) words = ap (λ (rows : List Row). Some (s.name, rows)) (rows_same s.rules [] words)

  entered_same : (a : App) (stop : Option (Text × List Text)) → entered (app a) stop ≡ entered a stop
  entered_same a None = refl
  entered_same a (Some p) = ap (option_map (λ s. rows_at s p.1)) (sym (shape_found a.subs p.0)) ∙ rows_found (find (λ s. answers_to p.0 (label_of s)) a.subs) p.1

  fault_found : (o : Option Shape) (words : List Text)
      → option_map_or (λ s. level_fault s [] nothing_held words false []) (option_map shape o) [] ≡ option_map_or (λ s. level_fault s [] nothing_held words false []) o []
  fault_found None words = refl
  fault_found (Some s) words = level_same s [] nothing_held words false []

  entered_fault_same : (a : App) (stop : Option (Text × List Text)) → entered_fault (app a) stop ≡ entered_fault a stop
  entered_fault_same a None = refl
  entered_fault_same a (Some p) =
      ap (λ o. option_map_or (λ s. level_fault s [] nothing_held p.1 false []) o []) (sym (shape_found a.subs p.0)) ∙ fault_found (find (λ s. answers_to p.0 (label_of s)) a.subs) p.1

  -- the matches, the subcommand and the faults of an application that is built
  pub matches_same : (a : App) (words : List Text) → rows_after (app a).top.rules (names_of (app a)) words ≡ rows_after a.top.rules (names_of a) words
  matches_same a words = ap (λ (names : Names). rows_after a.top.rules names words) (labels_same a.subs)

  pub subcommand_is_same : (a : App) (words : List Text)
      → entered (app a) (stop_after (app a).top.rules (names_of (app a)) words) ≡ entered a (stop_after a.top.rules (names_of a) words)
  subcommand_is_same a words =
      ap (λ (names : Names). entered (app a) (stop_after a.top.rules names words)) (labels_same a.subs) ∙ entered_same a (stop_after a.top.rules (names_of a) words)

  pub fault_is_same : (a : App) (h : Held) (words : List Text) → built_fault (app a) h words ≡ built_fault a h words
  fault_is_same a h words =
      let stop = (walk a.top.rules (names_of a) h words).stopped in
      ap (λ (names : Names). level_fault a.top names h words (is_some (entered (app a) (walk a.top.rules names h words).stopped)) (entered_fault (app a) (walk a.top.rules names h words).stopped)) (labels_same a.subs)
      ∙ ap (λ (e : Option (Text × List Row)). level_fault a.top (names_of a) h words (is_some e) (entered_fault (app a) stop)) (entered_same a stop)
      ∙ ap (λ (k : Kinds). level_fault a.top (names_of a) h words (is_some (entered a stop)) k) (entered_fault_same a stop)
