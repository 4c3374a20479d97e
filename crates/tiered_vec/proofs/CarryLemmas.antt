-- An item is put in at its place, and the last one of each full tier goes to the front of the next.
use Rattle.std.proofs.Common.{◌≡◌, ◌∙◌, ◌↔◌, refl, sym, ap, subst, ℕ, zero, suc, ◌+◌, ◌*◌, ◌-◌, ◌<◌, ◌≤◌, List, [], ◌∷◌, ◌++◌, Option, Some, None, length, get_or, set, append_assoc, arith}
use Rattle.std.specs.List.{insert}
use Rattle.std.specs.Option.{IsSome, option_to_list}
use Rattle.std.proofs.lemmas.Bool.{false≢true}
use Rattle.std.proofs.lemmas.List.{append-nil, get_or_at, length_push, set_at}
use Rattle.std.proofs.lemmas.List.Edits.{length-insert, insert-append_left, insert-append_right}
use Rattle.tiered_vec.specs.Tiers.{tier_size, items_of, AreTiers}
use Rattle.tiered_vec.proofs.PlaceLemmas.{first_long, is_full}

abbrev pub AreFull : {X : Type 0} → List (List X) → Type 0
AreFull [] = Unit {0}
AreFull (t ∷ ts) = (length t ≡ tier_size) × AreFull ts

-- x is still to be put in front of the tier at n: then the tiers have these items
pub record IsCarrying {X : Type 0} (all : List X) (n : ℕ) (ts : List (List X)) (x : X) : Type 0 where
  pub before : List (List X)
  pub behind : List (List X)
  pub split : ts ≡ before ++ behind
  pub place : n ≡ length before
  pub full : AreFull before
  pub tiers : AreTiers behind
  pub room : length (items_of behind) < length behind * tier_size
  pub items : items_of before ++ x ∷ items_of behind ≡ all

abbrev pub Carries : {X : Type 0} → List X → ℕ → List (List X) → Option X → Type 0
Carries all n ts None = AreTiers ts × (items_of ts ≡ all)
Carries all n ts (Some x) = IsCarrying all n ts x

module _ {X : Type 0} where
  -- ---- full tiers and others behind them
  tiers_behind : (us ts : List (List X)) → AreFull us → AreTiers ts → AreTiers (us ++ ts)
  tiers_behind [] ts f a = a
  tiers_behind (u ∷ us) ts f a =
      let full = f.0 in
      (omega (arith, full), (λ (h : length u < tier_size). absurd (omega (arith, full, h))), tiers_behind us ts f.1 a)

  full_more : (us : List (List X)) (u : List X) → AreFull us → length u ≡ tier_size → AreFull (us ++ u ∷ [])
  full_more [] u f h = (h, tt)
  full_more (t ∷ us) u f h = (f.0, full_more us u f.1 h)

  items_behind : (us ts : List (List X)) → items_of (us ++ ts) ≡ items_of us ++ items_of ts
  items_behind [] ts = refl
  items_behind (u ∷ us) ts = ap (λ (v : List X). u ++ v) (items_behind us ts) ∙ sym (append_assoc u (items_of us) (items_of ts))

  -- ---- a tier t that takes an item becomes u, and v are its items with those that left it
  kept : (t u v : List X) → u ++ option_to_list {X = X} None ≡ v → u ≡ v
  kept t u v e = sym (append-nil u) ∙ e

  not_full : (t : List X) → (IsSome {T = X} None ↔ (length t ≡ tier_size)) → length t ≤ tier_size → length t < tier_size
  not_full t s l = let other : length t ≡ tier_size → ⊥ = (λ (q : length t ≡ tier_size). false≢true (s.1 q)) in omega (arith, l, other)

  still_full : (u v : List X) (y : X) → u ++ y ∷ [] ≡ v → length v ≡ tier_size + 1 → length u ≡ tier_size
  still_full u v y e l = let long = ap length e in let push = length_push u y in omega (arith, long, push, l)

  handed_on : (u v : List X) (y : X) (zs : List X) → u ++ y ∷ [] ≡ v → (u ++ []) ++ y ∷ zs ≡ v ++ zs
  handed_on u v y zs e = ap (λ (w : List X). w ++ y ∷ zs) (append-nil u) ∙ sym (append_assoc u (y ∷ []) zs) ∙ ap (λ (w : List X). w ++ zs) e

  -- ---- a full tier more before them
  one_before : (all : List X) (n m : ℕ) (t : List X) (ts : List (List X)) (o : Option X) → Carries all n ts o → length t ≡ tier_size → m ≡ n + 1 → Carries (t ++ all) m (t ∷ ts) o
  one_before all n m t ts None h f e = (tiers_behind (t ∷ []) ts (f, tt) h.0, ap (λ (v : List X). t ++ v) h.1)
  one_before all n m t ts (Some x) h f e =
      let place = h.place in
      record {
        before = t ∷ h.before;
        behind = h.behind;
        split = ap (λ (us : List (List X)). t ∷ us) h.split;
        place = omega (arith, place, e);
        full = (f, h.full);
        tiers = h.tiers;
        room = h.room;
        items = append_assoc t (items_of h.before) (x ∷ items_of h.behind) ∙ ap (λ (v : List X). t ++ v) h.items;
      }

  -- ---- it is put in at its place
  up_to_tier : (t : List X) (ts : List (List X)) (p : ℕ) → AreTiers (t ∷ ts) → p ≤ length (items_of (t ∷ ts)) → p < tier_size → p ≤ length t
  up_to_tier t ts p a h l = let whole = first_long t ts in let none = a.1 in grind (arith, h, l, none, whole)

  -- the place is in the tier, or at its end
  pub fits_tier : (ts : List (List X)) (k r p : ℕ) (t : List X) → AreTiers ts → p ≡ k * tier_size + r → r < tier_size → p ≤ length (items_of ts) → k < length ts → t ≡ get_or ts k t → r ≤ length t
  fits_tier [] k r p t a e l h b g = absurd (omega (arith, b))
  fits_tier (v ∷ ts) zero r p t a e l h b g =
      let same : length t ≡ length v = ap length g in
      let place : p ≤ length v = up_to_tier v ts p a h (omega (arith, e, l)) in
      omega (arith, place, same, e)
  fits_tier (v ∷ ts) (suc k) r p t a e l h b g =
      let full : length v ≡ tier_size = is_full v ts p a h (omega (arith, e)) in
      let whole = first_long v ts in
      fits_tier ts k r (k * tier_size + r) t a.2 refl l (omega (arith, h, e, full, whole)) (omega (arith, b)) g

  put_first : (t v zs : List X) (r p : ℕ) (x : X) → v ≡ t → r ≡ p → p ≤ length t → insert v r x ++ zs ≡ insert (t ++ zs) p x
  put_first t v zs r p x g e h = ap (λ (w : List X). insert w r x ++ zs) g ∙ ap (λ (n : ℕ). insert t n x ++ zs) e ∙ sym (insert-append_left t zs p x h)

  put_among : (ts : List (List X)) (k r p n : ℕ) (t u : List X) (x : X) (o : Option X) → AreTiers ts → p ≡ k * tier_size + r → r < tier_size → p ≤ length (items_of ts) → length (items_of ts) < length ts * tier_size
      → t ≡ get_or ts k t → u ++ option_to_list o ≡ insert t r x → (IsSome o ↔ (length t ≡ tier_size)) → n ≡ k + 1 → Carries (insert (items_of ts) p x) n (set ts k u) o
  put_among [] k r p n t u x o a e l h room g i s m = absurd (omega (arith, room))
  put_among (v ∷ ts) zero r p n t u x None a e l h room g i s m =
      let same : length t ≡ length v = ap length g in
      let most = a.0 in
      let place : p ≤ length v = up_to_tier v ts p a h (omega (arith, e, l)) in
      let free : length t < tier_size = not_full t s (omega (arith, same, most)) in
      let now : u ≡ insert t r x = kept t u (insert t r x) i in
      let long : length u ≡ length (insert t r x) = ap length now in
      let more : length (insert t r x) ≡ length t + 1 = length-insert t r x (omega (arith, place, same, e)) in (
        (omega (arith, long, more, free), (λ (_ : length u < tier_size). a.1 (omega (arith, free, same))), a.2),
        ap (λ (w : List X). w ++ items_of ts) now ∙ put_first v t (items_of ts) r p x g (omega (arith, e)) place,
      )
  put_among (v ∷ ts) zero r p n t u x (Some y) a e l h room g i s m =
      let same : length t ≡ length v = ap length g in
      let place : p ≤ length v = up_to_tier v ts p a h (omega (arith, e, l)) in
      let full : length t ≡ tier_size = s.0 refl in
      let more : length (insert t r x) ≡ length t + 1 = length-insert t r x (omega (arith, place, same, e)) in
      let whole = first_long v ts in
      record {
        before = u ∷ [];
        behind = ts;
        split = refl;
        place = omega (arith, m);
        full = (still_full u (insert t r x) y i (omega (arith, more, full)), tt);
        tiers = a.2;
        room = omega (arith, room, whole, full, same);
        items = handed_on u (insert t r x) y (items_of ts) i ∙ put_first v t (items_of ts) r p x g (omega (arith, e)) place;
      }
  put_among (v ∷ ts) (suc k) r p n t u x o a e l h room g i s m =
      let full : length v ≡ tier_size = is_full v ts p a h (omega (arith, e)) in
      let whole = first_long v ts in
      let less : k * tier_size + r ≡ p - tier_size = omega (arith, e) in
      let rest = put_among ts k r (k * tier_size + r) (k + 1) t u x o a.2 refl l (omega (arith, h, e, full, whole)) (omega (arith, room, full, whole)) g i s refl in
      let all : v ++ insert (items_of ts) (k * tier_size + r) x ≡ insert (v ++ items_of ts) p x = ap (λ (q : ℕ). v ++ insert (items_of ts) q x) less ∙ sym (insert-append_right v (items_of ts) tier_size p x full (omega (arith, e))) in
      subst (λ (zs : List X). Carries zs n (v ∷ set ts k u) o) all (one_before (insert (items_of ts) (k * tier_size + r) x) (k + 1) n v (set ts k u) o rest full (omega (arith, m)))

  pub put_in : (all : List X) (ts : List (List X)) (k r p n : ℕ) (t u : List X) (x : X) (o : Option X) → items_of ts ≡ all → AreTiers ts → p ≡ k * tier_size + r → r < tier_size → p ≤ length all → length all < length ts * tier_size
      → t ≡ get_or ts k t → u ++ option_to_list o ≡ insert t r x → (IsSome o ↔ (length t ≡ tier_size)) → n ≡ k + 1 → Carries (insert all p x) n (set ts k u) o
  put_in all ts k r p n t u x o q a e l h room g i s m =
      let same : length (items_of ts) ≡ length all = ap length q in
      subst (λ (zs : List X). Carries (insert zs p x) n (set ts k u) o) q (put_among ts k r p n t u x o a e l (omega (arith, h, same)) (omega (arith, room, same)) g i s m)

  -- ---- it goes on to the next tier
  -- the tier behind them takes it
  taken : (all : List X) (n : ℕ) (us : List (List X)) (v t u : List X) (ts : List (List X)) (x : X) (o : Option X) → n ≡ length us + 1 → AreFull us → AreTiers (v ∷ ts) → length (items_of (v ∷ ts)) < length (v ∷ ts) * tier_size
      → items_of us ++ x ∷ items_of (v ∷ ts) ≡ all → t ≡ v → u ++ option_to_list o ≡ x ∷ t → (IsSome o ↔ (length t ≡ tier_size)) → Carries all n (us ++ u ∷ ts) o
  taken all n us v t u ts x None m f a room e g i s =
      let same : length t ≡ length v = ap length g in
      let most = a.0 in
      let free : length t < tier_size = not_full t s (omega (arith, same, most)) in
      let now : u ≡ x ∷ t = kept t u (x ∷ t) i in
      let long : length u ≡ length (x ∷ t) = ap length now in (
        tiers_behind us (u ∷ ts) f (omega (arith, long, free), (λ (_ : length u < tier_size). a.1 (omega (arith, free, same))), a.2),
        items_behind us (u ∷ ts) ∙ ap (λ (w : List X). items_of us ++ (w ++ items_of ts)) now ∙ ap (λ (w : List X). items_of us ++ x ∷ (w ++ items_of ts)) g ∙ e,
      )
  taken all n us v t u ts x (Some y) m f a room e g i s =
      let same : length t ≡ length v = ap length g in
      let full : length t ≡ tier_size = s.0 refl in
      let whole = first_long v ts in
      let push = length_push us u in
      record {
        before = us ++ u ∷ [];
        behind = ts;
        split = sym (append_assoc us (u ∷ []) ts);
        place = omega (arith, m, push);
        full = full_more us u f (still_full u (x ∷ t) y i (omega (arith, full)));
        tiers = a.2;
        room = omega (arith, room, whole, full, same);
        items = ap (λ (w : List X). w ++ y ∷ items_of ts) (items_behind us (u ∷ []))
            ∙ append_assoc (items_of us) (u ++ []) (y ∷ items_of ts)
            ∙ ap (λ (w : List X). items_of us ++ w) (handed_on u (x ∷ t) y (items_of ts) i)
            ∙ ap (λ (w : List X). items_of us ++ x ∷ (w ++ items_of ts)) g
            ∙ e;
      }

  next : (all : List X) (n m : ℕ) (us vs ts : List (List X)) (t u : List X) (x : X) (o : Option X) → ts ≡ us ++ vs → n ≡ length us → m ≡ n + 1 → AreFull us → AreTiers vs → length (items_of vs) < length vs * tier_size
      → items_of us ++ x ∷ items_of vs ≡ all → t ≡ get_or ts n t → u ++ option_to_list o ≡ x ∷ t → (IsSome o ↔ (length t ≡ tier_size)) → Carries all m (set ts n u) o
  next all n m us [] ts t u x o c p k f a room e g i s = absurd (omega (arith, room))
  next all n m us (v ∷ vs) ts t u x o c p k f a room e g i s =
      let was : t ≡ v = g ∙ ap (λ (ws : List (List X)). get_or ws n t) c ∙ get_or_at us v vs t n (sym p) in
      let now : set ts n u ≡ us ++ u ∷ vs = ap (λ (ws : List (List X)). set ws n u) c ∙ set_at us v vs u n (sym p) in
      subst (λ (ws : List (List X)). Carries all m ws o) (sym now) (taken all m us v t u vs x o (omega (arith, p, k)) f a room e was i s)

  pub carried_on : (all : List X) (n m : ℕ) (ts : List (List X)) (t u : List X) (x : X) (was o : Option X) → Carries all n ts was → was ≡ Some x → t ≡ get_or ts n t → u ++ option_to_list o ≡ x ∷ t → (IsSome o ↔ (length t ≡ tier_size)) → m ≡ n + 1
      → Carries all m (set ts n u) o
  carried_on all n m ts t u x was o c e g i s k =
      let h : IsCarrying all n ts x = subst (Carries all n ts) e c in
      next all n m h.before h.behind ts t u x o h.split h.place k h.full h.tiers h.room h.items g i s
