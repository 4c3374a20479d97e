-- The rows of a list, and the fault that an error of a value is.
use Rattle.std.proofs.Common.{◌≡◌, inl, inr, refl, sym, subst, ℕ, zero, suc, ◌<◌, List, [], ◌∷◌, length, get_or, cond, Bool, true, false, Ok, Err, Result, IfErr, OnErr, IsErrAnd, arith}
use Rattle.sqlite_rules.specs.Lists.{Has}
use Rattle.sqlite.specs.declared.error.Error.{Error}
use Rattle.record_tables.specs.Errors.{is_memory}
use Rattle.record_tables.specs.declared.faults.LoadFault.{LoadFault}
use Rattle.record_tables.specs.declared.faults.LoadFault.TheVariants.{NotOurs, Memory}

get_has : {X : Type 0} (xs : List X) (i : ℕ) (d : X) → i < length xs → Has xs (get_or xs i d)
get_has [] i d low = absurd (omega (arith, low))
get_has (x ∷ xs) zero d low = inl refl
get_has (x ∷ xs) (suc i) d low = inr (get_has xs i d (omega (arith, low)))

-- an item of a loop over a list
pub item_has : {X : Type 0} (xs : List X) (i : ℕ) (x : X) → i < length xs → x ≡ get_or xs i x → Has xs x
item_has xs i x low is = subst (Has xs) (sym is) (get_has xs i x low)

pub value_fault : (e : Error) (fault : LoadFault) → fault ≡ cond (is_memory e) Memory NotOurs → fault ≡ NotOurs → is_memory e ≡ false
value_fault e fault is ours = go (is_memory e) is
  where
    go : (b : Bool) → fault ≡ cond b Memory NotOurs → b ≡ false
    go true h = absurd (cc)
    go false h = refl

-- a fault that a call passes on
pub told_on : {A E : Type 0} (r : Result A E) (why : E) (P : E → Type 0) → IsErrAnd r (λ e. e ≡ why) → P why → IfErr r P
told_on (Ok x) why P h p = tt
told_on (Err e) why P h p = subst P (sym h) p

pub on_err : {A : Type 0} (r : Result A LoadFault) (P : Type 0) → P → OnErr r P
on_err (Ok x) P h = tt
on_err (Err e) P h = h
