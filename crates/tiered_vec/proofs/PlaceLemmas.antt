-- The item at a place stands in the tier of the place divided by the size of a tier, at the rest.
use Rattle.std.proofs.Common.{◌≡◌, ◌∙◌, refl, sym, ap, ℕ, zero, suc, ◌+◌, ◌*◌, ◌-◌, ◌<◌, ◌≤◌, List, [], ◌∷◌, ◌++◌, length, get_or, set, length-append, arith}
use Rattle.std.specs.Prelude.{slice_get}
use Rattle.std.proofs.lemmas.List.{length-set, set-append_left, set-append_right}
use Rattle.tiered_vec.specs.Tiers.{tier_size, items_of, AreTiers}

-- ---- two lists, one after the other
module _ {X : Type 0} where
  in_first : (s t : List X) (n : ℕ) → n < length s → slice_get (s ++ t) n ≡ slice_get s n
  in_first [] t n h = absurd (omega (arith, h))
  in_first (x ∷ s) t zero h = refl
  in_first (x ∷ s) t (suc n) h = in_first s t n (omega (arith, h))

  in_second : (s t : List X) (m n : ℕ) → m ≡ length s + n → slice_get (s ++ t) m ≡ slice_get t n
  in_second [] t m n e = ap (slice_get t) (omega (arith, e))
  in_second (x ∷ s) t zero n e = absurd (omega (arith, e))
  in_second (x ∷ s) t (suc m) n e = in_second s t m n (omega (arith, e))

  -- ---- the first tier
  pub first_long : (t : List X) (ts : List (List X)) → length (items_of (t ∷ ts)) ≡ length t + length (items_of ts)
  first_long t ts = length-append t (items_of ts)

  -- a place in it
  in_tier : (t : List X) (ts : List (List X)) (p : ℕ) → AreTiers (t ∷ ts) → p < length (items_of (t ∷ ts)) → p < tier_size → p < length t
  in_tier t ts p a h l = let whole = first_long t ts in let none = a.1 in grind (arith, h, l, none, whole)

  -- it is full where a place is behind it
  pub is_full : (t : List X) (ts : List (List X)) (p : ℕ) → AreTiers (t ∷ ts) → p ≤ length (items_of (t ∷ ts)) → tier_size ≤ p → length t ≡ tier_size
  is_full t ts p a h l = let whole = first_long t ts in let none = a.1 in let most = a.0 in grind (arith, h, l, none, whole, most)

  -- ---- the item at a place
  pub has_tier : (ts : List (List X)) (k r p : ℕ) → AreTiers ts → p ≡ k * tier_size + r → p < length (items_of ts) → k < length ts
  has_tier [] k r p a e h = absurd (omega (arith, h))
  has_tier (t ∷ ts) zero r p a e h = omega arith
  has_tier (t ∷ ts) (suc k) r p a e h =
      let full : length t ≡ tier_size = is_full t ts p a (omega (arith, h)) (omega (arith, e)) in
      let whole = first_long t ts in
      let more : k < length ts = has_tier ts k r (k * tier_size + r) a.2 refl (omega (arith, h, e, full, whole)) in
      omega (arith, more)

  pub within_tier : (ts : List (List X)) (k r p : ℕ) (u : List X) → AreTiers ts → p ≡ k * tier_size + r → r < tier_size → p < length (items_of ts) → u ≡ get_or ts k u → r < length u
  within_tier [] k r p u a e l h g = absurd (omega (arith, h))
  within_tier (t ∷ ts) zero r p u a e l h g =
      let same : length u ≡ length t = ap length g in
      let here : p < length t = in_tier t ts p a h (omega (arith, e, l)) in
      omega (arith, same, here, e)
  within_tier (t ∷ ts) (suc k) r p u a e l h g =
      let full : length t ≡ tier_size = is_full t ts p a (omega (arith, h)) (omega (arith, e)) in
      let whole = first_long t ts in
      within_tier ts k r (k * tier_size + r) u a.2 refl l (omega (arith, h, e, full, whole)) g

  pub read : (ts : List (List X)) (k r p : ℕ) (u : List X) → AreTiers ts → p ≡ k * tier_size + r → r < tier_size → p < length (items_of ts) → u ≡ get_or ts k u → slice_get (items_of ts) p ≡ slice_get u r
  read [] k r p u a e l h g = absurd (omega (arith, h))
  read (t ∷ ts) zero r p u a e l h g =
      let here : p < length t = in_tier t ts p a h (omega (arith, e, l)) in
      let same : p ≡ r = omega (arith, e) in
      in_first t (items_of ts) p here ∙ ap (slice_get t) same ∙ ap (λ (v : List X). slice_get v r) (sym g)
  read (t ∷ ts) (suc k) r p u a e l h g =
      let full : length t ≡ tier_size = is_full t ts p a (omega (arith, h)) (omega (arith, e)) in
      let whole = first_long t ts in
      in_second t (items_of ts) p (k * tier_size + r) (omega (arith, e, full)) ∙ read ts k r (k * tier_size + r) u a.2 refl l (omega (arith, h, e, full, whole)) g

  -- ---- it is written over
  pub written : (ts : List (List X)) (k r p : ℕ) (u : List X) (x : X) → AreTiers ts → p ≡ k * tier_size + r → r < tier_size → p < length (items_of ts) → u ≡ get_or ts k u
      → items_of (set ts k (set u r x)) ≡ set (items_of ts) p x
  written [] k r p u x a e l h g = absurd (omega (arith, h))
  written (t ∷ ts) zero r p u x a e l h g =
      let here : p < length t = in_tier t ts p a h (omega (arith, e, l)) in
      let same : r ≡ p = omega (arith, e) in
      ap (λ (v : List X). set v r x ++ items_of ts) g ∙ ap (λ (n : ℕ). set t n x ++ items_of ts) same ∙ sym (set-append_left t (items_of ts) p x here)
  written (t ∷ ts) (suc k) r p u x a e l h g =
      let full : length t ≡ tier_size = is_full t ts p a (omega (arith, h)) (omega (arith, e)) in
      let whole = first_long t ts in
      let less : k * tier_size + r ≡ p - tier_size = omega (arith, e) in
      ap (λ (v : List X). t ++ v) (written ts k r (k * tier_size + r) u x a.2 refl l (omega (arith, h, e, full, whole)) g)
      ∙ ap (λ (n : ℕ). t ++ set (items_of ts) n x) less
      ∙ sym (set-append_right t (items_of ts) tier_size p x full (omega (arith, e)))

  same_long : (ts : List (List X)) (k : ℕ) (u v : List X) → u ≡ get_or ts k u → length v ≡ length u → length (items_of (set ts k v)) ≡ length (items_of ts)
  same_long [] k u v g e = refl
  same_long (t ∷ ts) zero u v g e =
      let same : length u ≡ length t = ap length g in
      let now = first_long v ts in
      let was = first_long t ts in
      omega (arith, same, now, was, e)
  same_long (t ∷ ts) (suc k) u v g e =
      let rest : length (items_of (set ts k v)) ≡ length (items_of ts) = same_long ts k u v g e in
      let now = first_long t (set ts k v) in
      let was = first_long t ts in
      omega (arith, rest, now, was)

  still_tiers : (ts : List (List X)) (k : ℕ) (u v : List X) → AreTiers ts → u ≡ get_or ts k u → length v ≡ length u → AreTiers (set ts k v)
  still_tiers [] k u v a g e = tt
  still_tiers (t ∷ ts) zero u v a g e =
      let same : length u ≡ length t = ap length g in
      let most = a.0 in
      let none = a.1 in
      (omega (arith, most, same, e), (λ (h : length v < tier_size). omega (arith, none, same, e, h)), a.2)
  still_tiers (t ∷ ts) (suc k) u v a g e =
      let rest : length (items_of (set ts k v)) ≡ length (items_of ts) = same_long ts k u v g e in
      let none = a.1 in
      (a.0, (λ (h : length t < tier_size). omega (arith, none, rest, h)), still_tiers ts k u v a.2 g e)

  pub long_written : (ts : List (List X)) (k r : ℕ) (u : List X) (x : X) → u ≡ get_or ts k u → length (items_of (set ts k (set u r x))) ≡ length (items_of ts)
  long_written ts k r u x g = same_long ts k u (set u r x) g (length-set u r x)

  pub tiers_written : (ts : List (List X)) (k r : ℕ) (u : List X) (x : X) → AreTiers ts → u ≡ get_or ts k u → AreTiers (set ts k (set u r x))
  tiers_written ts k r u x a g = still_tiers ts k u (set u r x) a g (length-set u r x)
