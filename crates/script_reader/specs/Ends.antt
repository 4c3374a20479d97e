-- The end of a script that was run.
-- restates: this project's own profile
use Rattle.std.specs.Prelude.{ℕ, max, Bool, true, false, List, [], Result, Ok, Err}
use Rattle.answer_lines.specs.sessions.declared.faults.ConductFault.{ConductFault}
use Rattle.answer_lines.specs.sessions.declared.faults.ConductFault.TheVariants.{StoreThrice}
use Rattle.answer_lines.specs.RunFaults.{end_text}

-- what is put last: the line of the fault that a run ended with, and nothing where it ended well
abbrev pub last_text : {T : Type 0} → Result T ConductFault → List ℕ
last_text (Ok ends) = []
last_text (Err fault) = end_text fault

-- the status of a run that ended with a fault: 3 at least where it is of the record, 4 for any other
abbrev pub fault_status : ConductFault → ℕ → ℕ
fault_status (StoreThrice error) answers = max answers 3
fault_status fault answers = 4

-- the status of a script, by the greatest of its answers: that itself where the run ended well, and that of its fault otherwise; and 4 where not all that was put
-- is written
abbrev pub end_status : {T : Type 0} → Bool → ℕ → Result T ConductFault → ℕ
end_status false answers outcome = 4
end_status true answers (Ok ends) = answers
end_status true answers (Err fault) = fault_status fault answers
