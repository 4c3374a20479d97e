use Rattle.worked_workers.proofs.desk_rounds.write_answer.Given as goal

abbrev pub ghosts-write_round : goal.ghosts-write_round
ghosts-write_round g a = record { name = a.blank.name; parts = a.blank.parts }
