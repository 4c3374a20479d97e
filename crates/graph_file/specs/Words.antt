-- The words that a key takes, where they are few.
use Rattle.std.specs.Prelude.{ℕ, List, [], ◌∷◌, codes}
use Rattle.graph_file.specs.declared.keys.Role.{Role}
use Rattle.graph_file.specs.declared.keys.Role.TheVariants as role

-- the words of an operator, a rule or a timetable; none of any other role
abbrev pub words_of : Role → List (List ℕ)
words_of role.Operator = codes "noop" ∷ codes "command" ∷ codes "exit" ∷ []
words_of role.Rule =
    codes "all_success" ∷ codes "all_failed" ∷ codes "all_done" ∷ codes "all_skipped" ∷ codes "one_failed" ∷ codes "one_success"
    ∷ codes "one_done" ∷ codes "none_failed" ∷ codes "none_failed_min_one_success" ∷ codes "none_skipped" ∷ codes "always" ∷ []
words_of role.WeightRule = codes "downstream" ∷ codes "upstream" ∷ codes "absolute" ∷ []
words_of role.Timetable = codes "interval" ∷ codes "trigger" ∷ []
words_of _ = []
