-- How the states of upstreams go on.
use Rattle.std.specs.Prelude.{◌≡◌, true, List, [], ◌∷◌}
use Rattle.trigger_rules.specs.States.{is_finished}
use Rattle.trigger_rules.specs.declared.states.State.{State}

-- the upstreams go on: those that have ended stay as they are, the others may be in any state
abbrev pub GoOn : List State → List State → Type 0
GoOn [] [] = Unit {0}
GoOn [] (y ∷ t) = ⊥
GoOn (x ∷ s) [] = ⊥
GoOn (x ∷ s) (y ∷ t) = (is_finished x ≡ true → y ≡ x) × GoOn s t
