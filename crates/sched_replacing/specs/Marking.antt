-- The first of the marked places of a run that has a try.
use Rattle.std.specs.Prelude.{ℕ, ◌+◌, Bool, ◌&&◌, cond, List, [], ◌∷◌, Option, Some, None, length, nat_lt}
use Rattle.instance_machine.specs.Instances.{InstanceValue}

-- the first place with a mark whose instance has a try, where they are counted from i
abbrev pub tried_from : ℕ → List Bool → List InstanceValue → Option ℕ
tried_from i [] hs = None
tried_from i (m ∷ ms) [] = None
tried_from i (m ∷ ms) (h ∷ hs) = cond (nat_lt 0 (length h.tries) && m) (Some i) (tried_from (i + 1) ms hs)

abbrev pub first_tried : List Bool → List InstanceValue → Option ℕ
first_tried marks hs = tried_from 0 marks hs
