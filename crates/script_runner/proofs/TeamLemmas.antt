-- The kits of crews that are made one after another.
use Rattle.std.proofs.Common.{◌≡◌, refl, ap, arith, ◌+◌, List, [], ◌∷◌, ◌++◌, length, map}
use Rattle.operators.specs.declared.kits.Kit.{Kit}
use Rattle.workers.specs.declared.crews.Crew.{Crew}

-- the kit of the last crew stands before what follows
pub kits_grow : {G O : Type 0} (cs : List (Crew G O)) (c : Crew G O) (more : List (Kit O))
    → map (λ (x : Crew G O). x.kit) (cs ++ c ∷ []) ++ more ≡ map (λ (x : Crew G O). x.kit) cs ++ c.kit ∷ more
kits_grow [] c more = refl
kits_grow (x ∷ cs) c more = ap (λ ks. x.kit ∷ ks) (kits_grow cs c more)

-- nothing follows
pub kits_end : {G O : Type 0} (cs : List (Crew G O)) → map (λ (x : Crew G O). x.kit) cs ++ [] ≡ map (λ (x : Crew G O). x.kit) cs
kits_end [] = refl
kits_end (x ∷ cs) = ap (λ ks. x.kit ∷ ks) (kits_end cs)

pub one_more : {X : Type 0} (xs : List X) (x : X) → length (xs ++ x ∷ []) ≡ length xs + 1
one_more [] x = refl
one_more (y ∷ xs) x = omega (arith, one_more xs x)

pub none_left : {X : Type 0} (xs : List X) → length xs ≡ 0 → xs ≡ []
none_left [] e = refl
none_left (x ∷ xs) e = absurd (omega (arith, e))
