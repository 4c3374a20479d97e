-- Where a search over a list finds nothing, and the order of what is asked.
use Rattle.std.proofs.Common.{◌≡◌, ℕ, zero, suc, ◌+◌, ◌<◌, ◌≤◌, Bool, true, false, not, cond, List, [], ◌∷◌, map, length, get_or, position, Option, Some, None, option_map, nat_lt, refl, arith, sym, ap, ◌∙◌, ◌||◌}
use Rattle.std.proofs.lemmas.Bool.{or_parts, ltb-false}
use Rattle.std.proofs.Math.Bool.{or_assoc, or_comm}
use Rattle.std.specs.List.{list_any, prefix_len}
use Rattle.graph_file.specs.Lists.{when, first_some}

-- no element passes where none of all does
pub none_at : {X : Type 0} (p : X → Bool) (xs : List X) (i : ℕ) (d : X) → i < length xs → list_any p xs ≡ false → p (get_or xs i d) ≡ false
none_at p [] i d h none = absurd (omega arith)
none_at p (x ∷ xs) zero d h none = (or_parts (p x) (list_any p xs) none).0
none_at p (x ∷ xs) (suc i) d h none = none_at p xs i d (omega arith) (or_parts (p x) (list_any p xs) none).1

pub first_none : {X : Type 0} (o : Option X) (os : List (Option X)) → first_some (o ∷ os) ≡ None → (o ≡ None) × (first_some os ≡ None)
first_none None os h = (refl, h)
first_none (Some x) os h = cc

pub mapped_none : {A B : Type 0} (f : A → B) (o : Option A) → option_map f o ≡ None → o ≡ None
mapped_none f None h = refl
mapped_none f (Some x) h = cc

pub when_none : {X : Type 0} (b : Bool) (x : X) → when b x ≡ None → b ≡ false
when_none false x h = refl
when_none true x h = cc

found_none : {X : Type 0} (b : Bool) (x : X) → cond b (Some x) None ≡ None → b ≡ false
found_none false x h = refl
found_none true x h = cc

-- where the first of all these options is not there, none is
pub each_none : {A X : Type 0} (f : A → Option X) (cs : List A) (i : ℕ) (d : A) → i < length cs → first_some (map f cs) ≡ None → f (get_or cs i d) ≡ None
each_none f [] i d k h = absurd (omega arith)
each_none f (c ∷ cs) zero d k h = (first_none (f c) (map f cs) h).0
each_none f (c ∷ cs) (suc i) d k h = each_none f cs i d (omega arith) (first_none (f c) (map f cs) h).1

one_more : (b : Bool) (m n : ℕ) → suc m ≤ cond (not b) (1 + n) 0 → (b ≡ false) × (m ≤ n)
one_more false m n h = (refl, omega arith)
one_more true m n h = absurd (omega arith)

none_up_to : {A : Type 0} (p : A → Bool) (xs : List A) → length xs ≤ prefix_len (λ d. not (p d)) xs → list_any p xs ≡ false
none_up_to p [] h = refl
none_up_to p (x ∷ xs) h =
    let both = one_more (p x) (length xs) (prefix_len (λ d. not (p d)) xs) h in
    rw both.0 (none_up_to p xs both.1)

-- where no place passes, no element does
pub none_placed : {A : Type 0} (p : A → Bool) (xs : List A) → position p xs ≡ None → list_any p xs ≡ false
none_placed p xs h = none_up_to p xs (ltb-false _ _ (found_none (nat_lt (prefix_len (λ d. not (p d)) xs) (length xs)) _ h))

-- which of two tests is asked first makes no difference
pub or_swap : (a b c : Bool) → (a || (b || c)) ≡ (b || (a || c))
or_swap a b c = sym (or_assoc a b c) ∙ (ap (λ v. v || c) (or_comm a b) ∙ or_assoc b a c)
