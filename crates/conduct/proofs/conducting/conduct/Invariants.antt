use Rattle.conduct.proofs.conducting.conduct.Given as goal

-- the ledger of this run's desk
abbrev pub ghosts-conduct_at : goal.ghosts-conduct_at
ghosts-conduct_at g a = record { name = a.blank.name; parts = a.blank.parts }
