use Rattle.worked_workers.proofs.desk_turns.write_answer.Given as goal

abbrev pub ghosts-write_turns : goal.ghosts-write_turns
ghosts-write_turns g a = record { name = a.blank.name; parts = a.blank.parts }
