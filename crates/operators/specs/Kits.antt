-- What a kit is made of.
use Rattle.std.specs.Prelude.{◌≡◌, ℕ, ◌+◌, Bool, true, false, List, [], ◌∷◌, ◌&&◌, ◌==◌, if◌then◌else◌}
use Rattle.graph_file.specs.declared.operators.Operator.{Operator as Kind}
use Rattle.graph_file.specs.declared.operators.Operator.TheVariants.{Noop, Command, Exit}
use Rattle.operators.specs.declared.kits.Kit.{Kit}

-- the operator of the kind
abbrev pub of_kind : {O : Type 0} → Kit O → Kind → O
of_kind k Noop = k.noop
of_kind k Command = k.command
of_kind k Exit = k.exit

abbrev pub same_kind : Kind → Kind → Bool
same_kind Noop Noop = true
same_kind Command Command = true
same_kind Exit Exit = true
same_kind _ _ = false

-- how often the kind stands in the list
abbrev pub times : Kind → List Kind → ℕ
times k [] = 0
times k (x ∷ xs) = (if same_kind k x then 1 else 0) + times k xs

-- each kind stands in the list once
abbrev pub each_once : List Kind → Bool
each_once ks = (times Noop ks == 1) && ((times Command ks == 1) && (times Exit ks == 1))

-- each operator is of the kind for which it stands
abbrev pub IsKit : {O : Type 0} → (O → Kind) → Kit O → Type 0
IsKit kind_of k = (kind_of k.noop ≡ Noop) × (kind_of k.command ≡ Command) × (kind_of k.exit ≡ Exit)

-- the operators of the other kinds are those of before
abbrev pub SameBut : {O : Type 0} → Kind → Kit O → Kit O → Type 0
SameBut kind old new = (k : Kind) → same_kind k kind ≡ false → of_kind new k ≡ of_kind old k

-- the list where the kinds are one, else nothing
abbrev pub where_same : {A : Type 0} → Kind → Kind → List A → List A
where_same k kind xs = if same_kind k kind then xs else []
