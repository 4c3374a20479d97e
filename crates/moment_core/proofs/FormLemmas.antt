-- Texts that have a form.
use Rattle.std.proofs.Common.{◌≡◌, ℕ, List, [], ◌∷◌, length, Bool, true, false, ◌&&◌, refl, arith, ◌≢◌}
use Rattle.moment_core.specs.Reading.{fits_form}

-- both tests hold
and_true : (a b : Bool) → (a && b) ≡ true → (a ≡ true) × (b ≡ true)
and_true true b h = (refl, h)
and_true false b h = cc

and_false : (a : Bool) → (a && false) ≡ false
and_false true = refl
and_false false = refl

-- a text of another length hasn't the form
pub form-unequal : (f t : List ℕ) → length f ≢ length t → fits_form f t ≡ false
form-unequal [] [] h = absurd (h refl)
form-unequal [] (b ∷ t) h = refl
form-unequal (x ∷ f) [] h = refl
form-unequal (x ∷ f) (b ∷ t) h = rw (form-unequal f t (λ e. h (omega (arith, e)))) (and_false _)
