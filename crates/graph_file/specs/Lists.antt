-- Words on lists and options.
use Rattle.std.specs.Prelude.{Bool, true, false, List, [], ◌∷◌, Option, Some, None}

-- the value, if the test holds
abbrev pub when : {X : Type 0} → Bool → X → Option X
when true x = Some x
when false x = None

-- the first of these that is there
abbrev pub first_some : {X : Type 0} → List (Option X) → Option X
first_some [] = None
first_some (None ∷ os) = first_some os
first_some (Some x ∷ os) = Some x

-- the test holds of the value, where there is one
abbrev pub holds_at : {X : Type 0} → (X → Bool) → Option X → Bool
holds_at test None = false
holds_at test (Some x) = test x
