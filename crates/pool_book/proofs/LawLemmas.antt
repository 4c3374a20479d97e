-- What is offered, as a set of keys; and what a key that fits leaves in its pool.
use Rattle.std.proofs.Common.{◌≡◌, ◌≢◌, ◌∙◌, ◌⊎◌, ◌↔◌, inl, inr, zero, suc, ◌+◌, ◌≤◌, ◌==◌, Bool, true, false, not, cond, List, [], ◌∷◌, get_or, refl, ap, sym, subst, arith, Option, Some, None, option_map, rules}
use Rattle.std.proofs.lemmas.Bool.{false≢true, eqb-true, and_parts, or_parts, leb-true}
use Rattle.std.proofs.lemmas.Cmp.{tied_back}
use Rattle.std.proofs.lemmas.List.Elements.{Contains-get_or}
use Rattle.std.specs.Cmp.Lexicographic.{same_text, nat_list_eq_equiv}
use Rattle.std.specs.List.{Contains, filter}
use Rattle.std.specs.Ordering.{match_ordering}
use Rattle.std.specs.Str.{bytes_eq}
use Rattle.std.specs.declared.cmp.Ordering.{Ordering}
use Rattle.std.specs.declared.cmp.Ordering.TheVariants.{Less, Equal, Greater}
use Rattle.pool_book.proofs.PoolLemmas.{pool_of-with}
use Rattle.pool_book.proofs.RankLemmas.{rank_total, alike, both-ways, none-left-out}
use Rattle.pool_book.specs.Keys.{rank, same_instance, same_key, has_instance, with_key, without_key, IsFirstInRank, fits, fits_pool, fits_in}
use Rattle.pool_book.specs.Pools.{PoolUse, Entries, pool_of, with_pool, take_slots}
use Rattle.pool_book.specs.declared.keys.Key.{Key}

-- MEMBERS

module _ {X : Type 0} where
  here : (x : X) (xs : List X) (y : X) → y ≡ x → Contains (x ∷ xs) y
  here x xs y same = (0, omega arith, sym same)

  there : (x : X) (xs : List X) (y : X) → Contains xs y → Contains (x ∷ xs) y
  there x xs y (n, below, at) = (suc n, omega arith, at)

  either : (x : X) (xs : List X) (y : X) → Contains (x ∷ xs) y → (y ≡ x) ⊎ Contains xs y
  either x xs y (zero, below, at) = inl (sym at)
  either x xs y (suc n, below, at) = inr (n, omega arith, at)

  nothing : (y : X) → Contains [] y → ⊥
  nothing y (n, below, at) = omega arith

  kept : (p : X → Bool) (xs : List X) (y : X) → Contains (filter p xs) y → Contains xs y × (p y ≡ true)
  kept p [] y h = absurd (nothing y h)
  kept p (x ∷ xs) y h = by (p x) refl h (kept p xs y)
    where
      by : (b : Bool) → p x ≡ b → Contains (cond (p x) (x ∷ filter p xs) (filter p xs)) y → (Contains (filter p xs) y → Contains xs y × (p y ≡ true)) → Contains (x ∷ xs) y × (p y ≡ true)
      by true e h rest =
          elim (either x (filter p xs) y (subst (λ b. Contains (cond b (x ∷ filter p xs) (filter p xs)) y) e h)) [
            | inl same ↦ (here x xs y same, ap p same ∙ e)
            | inr more ↦ (there x xs y (rest more).0, (rest more).1)
          ]
      by false e h rest = let more = rest (subst (λ b. Contains (cond b (x ∷ filter p xs) (filter p xs)) y) e h) in (there x xs y more.0, more.1)

  keeps : (p : X → Bool) (xs : List X) (y : X) → Contains xs y → p y ≡ true → Contains (filter p xs) y
  keeps p [] y h passes = absurd (nothing y h)
  keeps p (x ∷ xs) y h passes = by (p x) refl (either x xs y h) (λ more. keeps p xs y more passes)
    where
      by : (b : Bool) → p x ≡ b → (y ≡ x) ⊎ Contains xs y → (Contains xs y → Contains (filter p xs) y) → Contains (cond (p x) (x ∷ filter p xs) (filter p xs)) y
      by true e (inl same) rest = subst (λ b. Contains (cond b (x ∷ filter p xs) (filter p xs)) y) (sym e) (here x (filter p xs) y same)
      by true e (inr more) rest = subst (λ b. Contains (cond b (x ∷ filter p xs) (filter p xs)) y) (sym e) (there x (filter p xs) y (rest more))
      by false e (inl same) rest = absurd (false≢true (sym (ap p same ∙ e) ∙ passes))
      by false e (inr more) rest = subst (λ b. Contains (cond b (x ∷ filter p xs) (filter p xs)) y) (sym e) (rest more)

-- KEYS

-- a key is what its parts say
same-parts : (x y : Key) → same_key x y ≡ true → x ≡ y
same-parts x y e =
    let a = and_parts (x.weight == y.weight) _ e in
    let b = and_parts (same_instance x y) _ a.1 in
    let c = and_parts (x.logical == y.logical) _ b.0 in
    let d = and_parts (bytes_eq x.graph y.graph) (bytes_eq x.task y.task) c.1 in
    let f = and_parts (bytes_eq x.pool y.pool) _ b.1 in
    let weight = eqb-true x.weight y.weight a.0 in
    let logical = eqb-true x.logical y.logical c.0 in
    let graph = same_text x.graph y.graph (sym d.0) in
    let task = same_text x.task y.task (sym d.1) in
    let g = and_parts (x.slots == y.slots) (x.room == y.room) f.1 in
    let pool = same_text x.pool y.pool (sym f.0) in
    let slots = eqb-true x.slots y.slots g.0 in
    let room = eqb-true x.room y.room g.1 in
    λ i. record { weight = weight i; logical = logical i; graph = graph i; task = task i; pool = pool i; slots = slots i; room = room i }

itself : (x : Key) → same_key x x ≡ true
itself x = search rules

pub withdrawn : (key other : Key) (keys : List Key) → Contains (without_key key keys) other ↔ (Contains keys other × (other ≢ key))
withdrawn key other keys = (to, from)
  where
    to : Contains (without_key key keys) other → Contains keys other × (other ≢ key)
    to h =
        let k = kept (λ x. not (same_key key x)) keys other h in
        (k.0, λ same. false≢true (ap not (sym (subst (λ x. same_key key x ≡ true) (sym same) (itself key))) ∙ k.1))

    by : (b : Bool) → same_key key other ≡ b → (other ≢ key) → not (same_key key other) ≡ true
    by true e apart = absurd (apart (sym (same-parts key other e)))
    by false e apart = ap not e

    from : Contains keys other × (other ≢ key) → Contains (without_key key keys) other
    from h = keeps (λ x. not (same_key key x)) keys other h.0 (by (same_key key other) refl h.1)

pub not-withdrawn : (key : Key) (keys : List Key) → (Contains keys key → ⊥) → without_key key keys ≡ keys
not-withdrawn key keys absent =
    none-left-out (same_key key) keys (λ k d below. by (get_or keys k d) (same_key key (get_or keys k d)) refl (λ same. absent (subst (λ x. Contains keys x) (sym same) (Contains-get_or keys k d below))))
  where
    by : (x : Key) (b : Bool) → same_key key x ≡ b → (key ≡ x → ⊥) → same_key key x ≡ false
    by x true e apart = absurd (apart (same-parts key x e))
    by x false e apart = e

added : (key other : Key) (keys : List Key) → Contains (with_key key keys) other → (other ≡ key) ⊎ Contains keys other
added key other [] h = either key [] other h
added key other (x ∷ xs) h = by (rank key x) (added key other xs) h
  where
    by : (r : Ordering) → (Contains (with_key key xs) other → (other ≡ key) ⊎ Contains xs other) → Contains (match_ordering r (key ∷ x ∷ xs) (x ∷ xs) (x ∷ with_key key xs)) other → (other ≡ key) ⊎ Contains (x ∷ xs) other
    by Less rest h = either key (x ∷ xs) other h
    by Equal rest h = inr h
    by Greater rest h = elim (either x (with_key key xs) other h) [
      | inl same ↦ inr (here x xs other same)
      | inr more ↦ elim (rest more) [ inl same ↦ inl same | inr old ↦ inr (there x xs other old) ]
    ]

adds : (key other : Key) (keys : List Key) → has_instance key keys ≡ false → (other ≡ key) ⊎ Contains keys other → Contains (with_key key keys) other
adds key other [] new (inl same) = here key [] other same
adds key other [] new (inr old) = absurd (nothing other old)
adds key other (x ∷ xs) new h =
    let apart = or_parts (same_instance key x) (has_instance key xs) new in
    by (rank key x) refl apart.0 h (adds key other xs apart.1)
  where
    by : (r : Ordering) → rank key x ≡ r → same_instance key x ≡ false → (other ≡ key) ⊎ Contains (x ∷ xs) other → ((other ≡ key) ⊎ Contains xs other → Contains (with_key key xs) other)
        → Contains (match_ordering r (key ∷ x ∷ xs) (x ∷ xs) (x ∷ with_key key xs)) other
    by Less e apart (inl same) rest = here key (x ∷ xs) other same
    by Less e apart (inr old) rest = there key (x ∷ xs) other old
    by Equal e apart h rest = absurd (false≢true (sym apart ∙ alike x key (tied_back rank_total key x e)))
    by Greater e apart (inl same) rest = there x (with_key key xs) other (rest (inl same))
    by Greater e apart (inr old) rest = elim (either x xs other old) [
      | inl same ↦ here x (with_key key xs) other same
      | inr more ↦ there x (with_key key xs) other (rest (inr more))
    ]

pub offered-one : (key other : Key) (keys : List Key) → has_instance key keys ≡ false → (Contains (with_key key keys) other ↔ ((other ≡ key) ⊎ Contains keys other))
offered-one key other keys new = (added key other keys, adds key other keys new)

-- two that are first are the same
pub first-is-one : (keys others : List Key) (x y : Key) → ((key : Key) → Contains keys key ↔ Contains others key) → IsFirstInRank keys x → IsFirstInRank others y → x ≡ y
first-is-one keys others x y same f g =
    elim (f.1 y ((same y).1 g.0)) [
      | inl e ↦ sym e
      | inr before ↦ elim (g.1 x ((same x).0 f.0)) [
        | inl e ↦ e
        | inr behind ↦ absurd (both-ways (rank x y) (rank y x) (rank_total.antisymm x y) before behind)
      ]
    ]

-- ROOM IN A POOL

pub overdrawn-by_none : (pools : Entries) (rooms : List Bool) (key : Key) (p : PoolUse) → fits pools rooms key ≡ true → pool_of key.pool (with_pool key.pool (take_slots key.slots) pools) ≡ Some p → p.occupied ≤ p.size
overdrawn-by_none pools rooms key p fit after =
    by (pool_of key.pool pools) (and_parts (fits_pool pools key) _ fit).0 (sym (pool_of-with key.pool (take_slots key.slots) key.pool pools ∙ ap (λ b. cond b (option_map (take_slots key.slots) (pool_of key.pool pools)) (pool_of key.pool pools)) (nat_list_eq_equiv.refl key.pool)) ∙ after)
  where
    by : (o : Option PoolUse) → fits_in key.slots o ≡ true → option_map (take_slots key.slots) o ≡ Some p → p.occupied ≤ p.size
    by None fit is = absurd (false≢true fit)
    by (Some q) fit is =
        let same : take_slots key.slots q ≡ p = cc in
        subst (λ (u : PoolUse). u.occupied ≤ u.size) same (leb-true (q.occupied + key.slots) q.size fit)
