-- The operators: how each is spelled, and the arguments that it takes.
use Rattle.std.specs.Prelude.{ℕ, ◌==◌, ◌&&◌, not, nat_le, nat_lt, Bool, true, false, List, [], ◌∷◌, length, sum_by, Option, is_some, bytes_eq, codes}
use Rattle.std.specs.List.{list_all}
use Rattle.std.specs.Str.{all_ascii_digits}
use Rattle.std.specs.Str.Parse.{digits_value}
use Rattle.graph_file.specs.Lists.{when, first_some}
use Rattle.graph_file.specs.declared.operators.Operator.{Operator}
use Rattle.graph_file.specs.declared.operators.Operator.TheVariants.{Noop, Command, Exit}

-- the operator of a word
-- restates: Airflow 2, operators; this project's own profile
abbrev pub operator_of : List ℕ → Option Operator
operator_of s = first_some (
    when (bytes_eq s (codes "noop")) Noop
    ∷ when (bytes_eq s (codes "command")) Command
    ∷ when (bytes_eq s (codes "exit")) Exit
    ∷ [])

-- the status that one to three digits write, from 0 to 255
-- restates: POSIX exit statuses
abbrev pub status_of : List ℕ → Option ℕ
status_of s =
    when ((nat_le 1 (length s) && nat_le (length s) 3) && (all_ascii_digits s && nat_le (digits_value 10 s) 255)) (digits_value 10 s)

-- there is a first text, and it is not empty
abbrev pub names_program : List (List ℕ) → Bool
names_program [] = false
names_program (s ∷ ss) = nat_lt 0 (length s)

abbrev pub has_no_nul : List ℕ → Bool
has_no_nul s = list_all (λ b. not (b == 0)) s

-- a program and its arguments: 1 to 64 texts of at most 65,536 bytes in all, none with a NUL byte, the first not empty
abbrev pub is_command : List (List ℕ) → Bool
is_command argv =
    (names_program argv && nat_le (length argv) 64) && (nat_le (sum_by length argv) 65536 && list_all has_no_nul argv)

-- 1 to 16 statuses
-- what `exit` takes
-- restates: this project's own profile
abbrev pub are_statuses : List (List ℕ) → Bool
are_statuses argv = (nat_le 1 (length argv) && nat_le (length argv) 16) && list_all (λ s. is_some (status_of s)) argv

-- the operator takes these arguments
-- restates: Airflow 2, operators; this project's own profile
abbrev pub takes : Operator → List (List ℕ) → Bool
takes Noop argv = length argv == 0
takes Command argv = is_command argv
takes Exit argv = are_statuses argv

-- it may be said how long a try of the operator takes at most, since it can be ended: of a program alone
-- restates: Airflow 2, the class `BaseOperator`: `execution_timeout`; this project's own profile
abbrev pub takes_timeout : Operator → Bool → Bool
takes_timeout Noop said = not said
takes_timeout Command said = true
takes_timeout Exit said = not said

-- an operator and its arguments, and how many seconds a try may take, if that is said
-- what contracts see of an `Action`
pub record Call : Type 0 where
  pub operator : Operator
  pub argv : List (List ℕ)
  pub timeout : Option ℕ
