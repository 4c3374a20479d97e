-- The command line of the program, as clap reads it: one command with fourteen commands under it.
use Rattle.std.specs.Prelude.{◌≡◌, codes, true, List, [], ◌∷◌, map}
use Rattle.std.specs.Borrow.{Bor}
use Rattle.clap.specs.Words.{App, Shape, Text, new_app, with_rule, with_subcommand}
use Rattle.clap.specs.declared.builder.value_parser.ValueParser.TheVariants as parser
use Rattle.word_app.specs.Rules.{word, checked_word, flag, option, dag_word, pool_word, size_word, workers, lanes, scratch, logs}

-- texts, wherever they lie in memory
abbrev pub Texts : Type 0
Texts = Bor (List (Bor Text))

-- the words that `list` takes, in their order
-- restates: this project's own profile
abbrev pub row_words : List Text
row_words = codes "dags" ∷ codes "runs" ∷ codes "tasks" ∷ codes "pools" ∷ []

-- these are they
abbrev pub IsListed : Texts → Type 0
IsListed names = map (λ name. name.now) names.now ≡ row_words

-- a value at one place in memory
abbrev pub somewhere : {X : Type 0} → X → Bor X
somewhere x = record { ref_ptr = (0, 0); now = x }

-- `NAME DAG`
-- restates: this project's own profile
abbrev pub of_dag : Text → App
of_dag name = with_rule (new_app name) dag_word

-- `NAME DAG FROM TO`
-- restates: this project's own profile
abbrev pub spanned : Text → App
spanned name = with_rule (with_rule (of_dag name) (word (codes "from"))) (word (codes "to"))

-- `run` without a folder for logs
-- restates: this project's own profile
abbrev pub unlogged_run : App
unlogged_run = with_rule (with_rule (with_rule (new_app (codes "run")) workers) lanes) scratch

-- restates: this project's own profile
abbrev pub run : App
run = with_rule unlogged_run logs

-- restates: this project's own profile
abbrev pub list : Texts → App
list names = with_rule (new_app (codes "list")) (checked_word (codes "rows") (parser.Names names))

-- `NAME DAG LOGICAL TASK`
-- restates: this project's own profile
abbrev pub of_instance : Text → App
of_instance name = with_rule (with_rule (of_dag name) (word (codes "logical"))) (word (codes "task"))

-- restates: this project's own profile
abbrev pub explain : App
explain = of_instance (codes "explain")

-- restates: this project's own profile
abbrev pub backfill : App
backfill = with_rule (spanned (codes "backfill")) (flag (codes "reset"))

-- restates: this project's own profile
abbrev pub clear_span : App
clear_span = with_rule (with_rule (spanned (codes "clear")) (option (codes "task"))) (flag (codes "upstream"))

-- restates: this project's own profile
abbrev pub clear : App
clear = with_rule (with_rule clear_span (flag (codes "downstream"))) (flag (codes "only-failed"))

-- restates: this project's own profile
abbrev pub mark : App
mark = with_rule (of_instance (codes "mark")) (word (codes "state"))

-- restates: this project's own profile
abbrev pub resize : App
resize = with_rule (with_rule (new_app (codes "resize")) pool_word) size_word

-- `NAME PATH`
-- restates: this project's own profile
abbrev pub of_path : Text → App
of_path name = with_rule (new_app name) (word (codes "path"))

-- restates: this project's own profile
abbrev pub tick : App
tick = with_rule (new_app (codes "tick")) (word (codes "moment"))

-- restates: this project's own profile
abbrev pub drain : App
drain = new_app (codes "drain")

-- a command must be given, no word before the first one is the program's name, `help` is no command, and there is a version
-- restates: clap 4: `Command`
abbrev pub bare : Shape
bare = record (new_app (codes "dagsched")).top { no_binary_name = true; subcommand_required = true; disable_help_subcommand = true; has_version = true }

-- restates: clap 4: `Command`
abbrev pub start : App
start = with_rule (record { top = bare; subs = [] }) (option (codes "record"))

-- with the commands that change no graph
-- restates: clap 4: `Command`
abbrev pub with_looks : Texts → App
with_looks names = with_subcommand (with_subcommand (with_subcommand start run.top) (list names).top) explain.top

-- with a command of a graph
-- restates: clap 4: `Command`
abbrev pub with_dag : App → Text → App
with_dag app name = with_subcommand app (of_dag name).top

-- restates: clap 4: `Command`
abbrev pub with_dags : App → App
with_dags app = with_dag (with_dag (with_dag app (codes "trigger")) (codes "pause")) (codes "unpause")

-- with the commands that repair, and that of pools
-- restates: clap 4: `Command`
abbrev pub with_repairs : App → App
with_repairs app = with_subcommand (with_subcommand (with_subcommand (with_subcommand app backfill.top) clear.top) mark.top) resize.top

-- with a command of a graph file
-- restates: clap 4: `Command`
abbrev pub with_path : App → Text → App
with_path app name = with_subcommand app (of_path name).top

-- with the commands of scripts alone
-- restates: clap 4: `Command`
abbrev pub with_script_words : App → App
with_script_words app = with_subcommand (with_subcommand (with_path (with_path app (codes "load")) (codes "replace")) tick.top) drain.top

-- the program's command, where these are the words that `list` takes
-- restates: clap 4: `Command`
abbrev pub dagsched_at : Texts → App
dagsched_at names = with_script_words (with_repairs (with_dags (with_looks names)))

-- the program's command; where those words lie makes no difference to what clap makes of words
-- restates: clap 4: `Command`
abbrev pub dagsched : App
dagsched = dagsched_at (somewhere (map somewhere row_words))
