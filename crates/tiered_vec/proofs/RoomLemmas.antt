-- How many items tiers hold, and an empty tier more.
use Rattle.std.proofs.Common.{◌≡◌, ◌∙◌, refl, sym, ap, subst, ◌+◌, ◌*◌, ◌<◌, ◌≤◌, List, [], ◌∷◌, ◌++◌, length, arith}
use Rattle.std.proofs.lemmas.List.{length-append, length_push}
use Rattle.tiered_vec.specs.Tiers.{tier_size, items_of, AreTiers}

module _ {X : Type 0} where
  pub few_items : (ts : List (List X)) → AreTiers ts → length (items_of ts) ≤ length ts * tier_size
  few_items [] a = omega arith
  few_items (t ∷ ts) a =
      let both : length (t ++ items_of ts) ≡ length t + length (items_of ts) = length-append t (items_of ts) in
      let rest = few_items ts a.2 in
      let one = a.0 in
      omega (arith, both, rest, one)

  same_items : (ts : List (List X)) → items_of (ts ++ [] ∷ []) ≡ items_of ts
  same_items [] = refl
  same_items (t ∷ ts) = ap (λ (v : List X). t ++ v) (same_items ts)

  still_tiers : (ts : List (List X)) → AreTiers ts → AreTiers (ts ++ [] ∷ [])
  still_tiers [] a = (omega arith, (λ _. refl), tt)
  still_tiers (t ∷ ts) a =
      let same : length (items_of (ts ++ [] ∷ [])) ≡ length (items_of ts) = ap length (same_items ts) in
      let none = a.1 in
      (a.0, (λ (h : length t < tier_size). omega (arith, none, same, h)), still_tiers ts a.2)

  is_pushed : (ts us : List (List X)) (t : List X) → us ≡ ts ++ t ∷ [] → t ≡ [] → us ≡ ts ++ [] ∷ []
  is_pushed ts us t e f = e ∙ ap (λ (v : List X). ts ++ v ∷ []) f

  pub items_more : (ts us : List (List X)) (t : List X) → us ≡ ts ++ t ∷ [] → t ≡ [] → items_of us ≡ items_of ts
  items_more ts us t e f = ap items_of (is_pushed ts us t e f) ∙ same_items ts

  pub tiers_more : (ts us : List (List X)) (t : List X) → AreTiers ts → us ≡ ts ++ t ∷ [] → t ≡ [] → AreTiers us
  tiers_more ts us t a e f = subst AreTiers (sym (is_pushed ts us t e f)) (still_tiers ts a)

  pub long_more : (ts us : List (List X)) (t : List X) → us ≡ ts ++ t ∷ [] → length us ≡ length ts + 1
  long_more ts us t e = let long = ap length e in let push = length_push ts t in omega (arith, long, push)
