-- Ranks by their numbers first.
use Rattle.std.proofs.Common.{◌≡◌, sym, refl, ap}
use Rattle.std.specs.Ordering.{ordering_then}
use Rattle.std.specs.declared.cmp.Ordering.{Ordering}
use Rattle.std.specs.declared.cmp.Ordering.TheVariants.{Less, Equal, Greater}

-- where numbers tell them apart nothing after them is read
pub numbers_first : (w d names : Ordering) → ordering_then w d ≡ Less → Less ≡ ordering_then w (ordering_then d names)
numbers_first Less d names e = refl
numbers_first Equal d names e = sym (ap (λ x. ordering_then x names) e)
numbers_first Greater d names e = absurd (let c : ◌≡◌ {A = Ordering} Greater Less = e in cc)

pub numbers_last : (w d names : Ordering) → ordering_then w d ≡ Greater → Greater ≡ ordering_then w (ordering_then d names)
numbers_last Less d names e = absurd (let c : ◌≡◌ {A = Ordering} Less Greater = e in cc)
numbers_last Equal d names e = sym (ap (λ x. ordering_then x names) e)
numbers_last Greater d names e = refl
