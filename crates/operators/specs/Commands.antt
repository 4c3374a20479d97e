-- The program that a command starts, and the folder that a try of it has.
use Rattle.std.specs.Prelude.{ℕ, List, [], ◌∷◌, ◌++◌, map, codes, bytes_eq, if◌then◌else◌, Option, Some, None}
use Rattle.std.specs.Fmt.{decimal}
use Rattle.graph_file.specs.Operators.{Call}
use Rattle.sched_state.specs.declared.jobs.Job.{Job}

-- the path of the folder of the try with this serial, under a base folder
-- restates: this project's own profile
abbrev pub folder_path : List ℕ → ℕ → List ℕ
folder_path base serial = base ++ codes "/try-" ++ decimal serial

-- that of a job's try
-- restates: this project's own profile
abbrev pub folder_of : List ℕ → Job → List ℕ
folder_of base job = folder_path base job.serial

-- the argument that stands for the path of the try's folder
-- restates: this project's own profile
abbrev pub scratch_word : List ℕ
scratch_word = codes "@scratch"

-- an argument as the program gets it
-- restates: this project's own profile
abbrev pub with_folder : List ℕ → List ℕ → List ℕ
with_folder folder text = if bytes_eq text scratch_word then folder else text

-- the texts as the program gets them: the first, which names it, as it is
abbrev pub texts_in : List ℕ → List (List ℕ) → List (List ℕ)
texts_in folder [] = []
texts_in folder (text ∷ texts) = text ∷ map (with_folder folder) texts

-- a program with its arguments that may take so many seconds is started by `timeout`, which then ends its process group by TERM, and ten
-- seconds later by KILL
-- restates: GNU coreutils, `timeout`; that it is KILL after ten seconds is this project's own profile
abbrev pub timed : Option ℕ → List (List ℕ) → List (List ℕ)
timed None texts = texts
timed (Some seconds) texts = codes "timeout" ∷ codes "-k" ∷ codes "10" ∷ decimal seconds ∷ texts

-- the texts of what is started for an action
abbrev pub started_by : List ℕ → Call → List (List ℕ)
started_by folder call = timed call.timeout (texts_in folder call.argv)

-- the first of some texts, the empty one where there is none; and those after it
abbrev pub first_text : List (List ℕ) → List ℕ
first_text [] = []
first_text (text ∷ texts) = text

abbrev pub later_texts : List (List ℕ) → List (List ℕ)
later_texts [] = []
later_texts (text ∷ texts) = texts

-- the program that is started for an action, and its arguments as it gets them
abbrev pub program_of : List ℕ → Call → List ℕ
program_of folder call = first_text (started_by folder call)

abbrev pub arguments_of : List ℕ → Call → List (List ℕ)
arguments_of folder call = later_texts (started_by folder call)
