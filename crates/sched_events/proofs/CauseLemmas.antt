-- What follows where no cause of a list stands.
use Rattle.std.proofs.Common.{◌≡◌, refl, List, ◌∷◌, Bool, true, false, is_some, is_none, Option, Some, None, option_map, true≢false}
use Rattle.graph_file.specs.Lists.{when, first_some}

pub no_cause : {X : Type 0} (o : Option X) (os : List (Option X)) → first_some (o ∷ os) ≡ None → (o ≡ None) × (first_some os ≡ None)
no_cause {X} (Some x) os e = absurd (let c : ◌≡◌ {A = Option X} (Some x) None = e in cc)
no_cause None os e = (refl, e)

pub no_when : {X : Type 0} (b : Bool) (x : X) (os : List (Option X)) → first_some (when b x ∷ os) ≡ None → (b ≡ false) × (first_some os ≡ None)
no_when {X} true x os e = absurd (let c : ◌≡◌ {A = Option X} (Some x) None = e in cc)
no_when false x os e = (refl, e)

pub no_map : {X Y : Type 0} (f : Y → X) (o : Option Y) (os : List (Option X)) → first_some (option_map f o ∷ os) ≡ None → (o ≡ None) × (first_some os ≡ None)
no_map {X} f (Some y) os e = absurd (let c : ◌≡◌ {A = Option X} (Some (f y)) None = e in cc)
no_map f None os e = (refl, e)

pub within : {X : Type 0} (x : X) (b : Bool) → when b x ≡ None → b ≡ false
within {X} x true e = absurd (let c : ◌≡◌ {A = Option X} (Some x) None = e in cc)
within x false e = refl

pub some_there : {X : Type 0} (o : Option X) → is_none o ≡ false → is_some o ≡ true
some_there None e = absurd (true≢false e)
some_there (Some x) e = refl
