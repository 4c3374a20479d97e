-- The words and options of commands, as clap reads them.
use Rattle.std.specs.Prelude.{ℕ, codes, true, [], ◌∷◌, Some, pos}
use Rattle.clap.specs.Words.{Rule, Text, new_rule}
use Rattle.clap.specs.declared.builder.ArgAction.TheVariants.{SetTrue}
use Rattle.clap.specs.declared.builder.value_parser.ValueParser.{ValueParser}
use Rattle.clap.specs.declared.builder.value_parser.ValueParser.TheVariants.{NonEmptyString, Signed}

-- a word that must be there
-- restates: clap 4: `Arg`
abbrev pub word : Text → Rule
word id = record (new_rule id) { required = true; value_names = 1 }

-- a word that must be there, and pass a test
-- restates: clap 4: `Arg`
abbrev pub checked_word : Text → ValueParser → Rule
checked_word id parser = record (word id) { parser = Some parser }

-- `--id`
-- restates: clap 4: `Arg`
abbrev pub flag : Text → Rule
flag id = record (new_rule id) { long = Some id; action = Some SetTrue }

-- `--id VALUE`
-- restates: clap 4: `Arg`
abbrev pub option : Text → Rule
option id = record (new_rule id) { long = Some id; value_names = 1 }

-- `--id N`, a whole number from one to another, with its default
-- restates: clap 4: `Arg`
abbrev pub count : Text → ℕ → ℕ → Text → Rule
count id low high default = record (option id) { parser = Some (Signed (pos low) (pos high)); defaults = default ∷ [] }

-- the word `DAG`
-- restates: this project's own profile
abbrev pub dag_word : Rule
dag_word = word (codes "dag")

-- the word `POOL`
-- restates: this project's own profile
abbrev pub pool_word : Rule
pool_word = word (codes "pool")

-- the word `SIZE`
-- restates: this project's own profile
abbrev pub size_word : Rule
size_word = checked_word (codes "size") (Signed (pos 0) (pos 1000000))

-- an option of `run`
-- restates: this project's own profile
abbrev pub workers : Rule
workers = count (codes "workers") 1 16 (codes "2")

-- an option of `run`
-- restates: this project's own profile
abbrev pub lanes : Rule
lanes = count (codes "lanes") 0 64 (codes "4")

-- an option of `run`
-- restates: this project's own profile
abbrev pub scratch : Rule
scratch = record (option (codes "scratch")) { defaults = codes "dagsched-scratch" ∷ [] }

-- an option of `run`
-- restates: this project's own profile
abbrev pub logs : Rule
logs = record (option (codes "logs")) { parser = Some NonEmptyString }
