-- Keys in rank: where one stands, what offering and taking back do, and which of them is first.
use Rattle.std.proofs.Common.{◌≡◌, ◌∙◌, ◌⊎◌, inl, inr, ℕ, zero, suc, ◌<◌, ◌==◌, Bool, true, false, not, cond, List, [], ◌∷◌, length, get_or, take, refl, ap, sym, subst, arith, Result, Ok, Err, eqb}
use Rattle.std.proofs.lemmas.Bool.{false≢true, eqb-true, eq-eqb, and_parts, and_from, cases_lt}
use Rattle.std.proofs.lemmas.Cmp.{tied_itself, tied_back, nat_cmp_total, on_total, then_total, back_total}
use Rattle.std.proofs.lemmas.List.Elements.{All-contains, All-filter, All-from_recursion}
use Rattle.std.proofs.lemmas.List.Folds.{list_any_at}
use Rattle.std.proofs.lemmas.List.Sorted.{searchable_from_sorted}
use Rattle.std.proofs.lemmas.Map.Keys.{Less-from_sorted, sorted_head, sorted_tail}
use Rattle.std.proofs.lemmas.Map.Lookups.{exact_bytes, exact_unsigned}
use Rattle.std.specs.Cmp.{IsTotalOrder}
use Rattle.std.specs.Cmp.Lexicographic.{nat_list_cmp_total, nat_list_eq_equiv, same_text}
use Rattle.std.specs.List.{All, Contains, HoldsAt, filter, remove, insert}
use Rattle.std.specs.List.Sorted.{IsBinarySearchResult, IsSearchInRange}
use Rattle.std.specs.Ordering.{is_lt, ordering_reverse, ordering_then, nat_cmp}
use Rattle.std.specs.Str.{bytes_eq}
use Rattle.std.specs.declared.cmp.Ordering.{Ordering}
use Rattle.std.specs.declared.cmp.Ordering.TheVariants.{Less, Equal, Greater}
use Rattle.graph_file.proofs.SortedLemmas.{sorted-from_strict, sorted-insert_key, insert-at_gap}
use Rattle.pool_book.specs.Keys.{rank, ranks_before, IsInRank, IsRankAt, same_instance, has_instance, same_key, with_key, without_key, IsFirstInRank}
use Rattle.pool_book.specs.Pools.{name_cmp}
use Rattle.pool_book.specs.declared.keys.Key.{Key}

pub rank_total : IsTotalOrder rank
rank_total = then_total (back_total (on_total (λ (k : Key). k.weight) nat_cmp_total)) (then_total (on_total (λ (k : Key). k.logical) nat_cmp_total) (then_total (on_total (λ (k : Key). k.graph) nat_list_cmp_total) (on_total (λ (k : Key). k.task) nat_list_cmp_total)))

-- what a binary search finds
pub rank-at : (keys : List Key) (key : Key) (r : Result ℕ ℕ) → IsInRank keys → IsSearchInRange r (length keys) → IsBinarySearchResult (λ k. rank k key) keys r → IsRankAt keys key r
rank-at keys key (Ok i) s bound found = (bound, found)
rank-at keys key (Err i) s bound found = (bound, found (searchable_from_sorted rank_total (λ (k : Key). k) keys key (sorted-from_strict rank_total keys s)))

then-equal : (r s : Ordering) → ordering_then r s ≡ Equal → (r ≡ Equal) × (s ≡ Equal)
then-equal Less s e = cc
then-equal Equal s e = (refl, e)
then-equal Greater s e = cc

both-equal : (r s : Ordering) → r ≡ Equal → s ≡ Equal → ordering_then r s ≡ Equal
both-equal r s e f = ap (λ t. ordering_then t s) e ∙ f

same-names : (x y : List ℕ) → x ≡ y → bytes_eq x y ≡ true
same-names x y e = subst (λ z. bytes_eq x z ≡ true) e (nat_list_eq_equiv.refl x)

-- keys of one rank are of one instance
pub alike : (x y : Key) → rank x y ≡ Equal → same_instance y x ≡ true
alike x y e =
    let a = then-equal (nat_cmp y.weight x.weight) _ e in
    let b = then-equal (nat_cmp x.logical y.logical) _ a.1 in
    let c = then-equal (name_cmp x.graph y.graph) (name_cmp x.task y.task) b.1 in
    and_from (y.logical == x.logical) _ (eq-eqb y.logical x.logical (sym (exact_unsigned x.logical y.logical b.0)))
    (and_from (bytes_eq y.graph x.graph) _ (same-names y.graph x.graph (sym (exact_bytes x.graph y.graph c.0))) (same-names y.task x.task (sym (exact_bytes x.task y.task c.1))))

level : {K : Type 0} {R : K → K → Ordering} (o : IsTotalOrder R) (x y : K) → x ≡ y → R x y ≡ Equal
level {K} {R} o x y e = subst (λ z. R x z ≡ Equal) e (tied_itself o x)

-- equal keys are of one rank
pub same-ranks : (x y : Key) → same_key x y ≡ true → rank y x ≡ Equal
same-ranks x y e =
    let a = and_parts (x.weight == y.weight) _ e in
    let b = and_parts (same_instance x y) _ a.1 in
    let c = and_parts (x.logical == y.logical) _ b.0 in
    let d = and_parts (bytes_eq x.graph y.graph) (bytes_eq x.task y.task) c.1 in
    both-equal (nat_cmp x.weight y.weight) _ (level nat_cmp_total x.weight y.weight (eqb-true x.weight y.weight a.0))
    (both-equal (nat_cmp y.logical x.logical) _ (level nat_cmp_total y.logical x.logical (sym (eqb-true x.logical y.logical c.0)))
    (both-equal (name_cmp y.graph x.graph) _ (level nat_list_cmp_total y.graph x.graph (sym (same_text x.graph y.graph (sym d.0)))) (level nat_list_cmp_total y.task x.task (sym (same_text x.task y.task (sym d.1))))))

differs : (x y : Key) → (rank y x ≡ Equal → ⊥) → same_key x y ≡ false
differs x y h = by (same_key x y) refl
  where
    by : (b : Bool) → same_key x y ≡ b → same_key x y ≡ false
    by true e = absurd (h (same-ranks x y e))
    by false e = e

-- TAKEN BACK

pub none-left-out : (p : Key → Bool) (xs : List Key) → ((k : ℕ) (d : Key) → k < length xs → p (get_or xs k d) ≡ false) → filter (λ y. not (p y)) xs ≡ xs
none-left-out p [] h = refl
none-left-out p (x ∷ xs) h =
    let rest = none-left-out p xs (λ k d below. h (suc k) d (omega arith)) in
    ap (λ b. cond (not b) (x ∷ filter (λ y. not (p y)) xs) (filter (λ y. not (p y)) xs)) (h 0 x (omega arith)) ∙ ap (λ (ys : List Key). x ∷ ys) rest

one-left-out : (p : Key → Bool) (xs : List Key) (i : ℕ) → i < length xs → ((d : Key) → p (get_or xs i d) ≡ true) → ((k : ℕ) (d : Key) → k < length xs → (k ≡ i → ⊥) → p (get_or xs k d) ≡ false) → remove xs i ≡ filter (λ y. not (p y)) xs
one-left-out p [] i below here others = absurd (omega arith)
one-left-out p (x ∷ xs) zero below here others =
    let rest = none-left-out p xs (λ k d below. others (suc k) d (omega arith) (λ e. omega (arith, e))) in
    sym (ap (λ b. cond (not b) (x ∷ filter (λ y. not (p y)) xs) (filter (λ y. not (p y)) xs)) (here x) ∙ rest)
one-left-out p (x ∷ xs) (suc i) below here others =
    let rest = one-left-out p xs i (omega arith) here (λ k d below apart. others (suc k) d (omega arith) (λ e. apart (omega (arith, e)))) in
    ap (λ (ys : List Key). x ∷ ys) rest
    ∙ sym (ap (λ b. cond (not b) (x ∷ filter (λ y. not (p y)) xs) (filter (λ y. not (p y)) xs)) (others 0 x (omega arith) (λ e. omega (arith, e))))

-- two of the keys aren't of one rank
ranks-apart : (keys : List Key) (key : Key) (i k : ℕ) (d : Key) → IsInRank keys → i < k → k < length keys → rank (get_or keys i d) key ≡ Equal → rank (get_or keys k d) key ≡ Equal → ⊥
ranks-apart keys key i k d s rise below here there =
    let less = Less-from_sorted rank keys i k d s rise below in
    let same = rank_total.congr (get_or keys i d) key (get_or keys k d) here in
    let back = tied_back rank_total (get_or keys k d) key there in
    cc

pub other-ranks : (keys : List Key) (key : Key) (i : ℕ) → IsInRank keys → i < length keys → HoldsAt (λ k. rank k key ≡ Equal) keys i → (k : ℕ) (d : Key) → k < length keys → (k ≡ i → ⊥) → rank (get_or keys k d) key ≡ Equal → ⊥
other-ranks keys key i s below here k d within apart there =
    elim (cases_lt k i) [
      | inl low ↦ ranks-apart keys key k i d s low below there (here d)
      | inr high ↦ ranks-apart keys key i k d s (omega (arith, high, apart)) within (here d) there
    ]

pub taken-back : (keys : List Key) (key : Key) (i : ℕ) → IsInRank keys → IsRankAt keys key (Ok i) → ((d : Key) → same_key key (get_or keys i d) ≡ true) → remove keys i ≡ without_key key keys
taken-back keys key i s found here = one-left-out (same_key key) keys i found.0 here (λ k d below apart. differs key (get_or keys k d) (other-ranks keys key i s found.0 found.1 k d below apart))

pub another-there : (keys : List Key) (key : Key) (i : ℕ) → IsInRank keys → IsRankAt keys key (Ok i) → ((d : Key) → same_key key (get_or keys i d) ≡ false) → keys ≡ without_key key keys
another-there keys key i s found here = sym (none-left-out (same_key key) keys (λ k d below. by k d below (eqb k i) refl))
  where
    by : (k : ℕ) (d : Key) → k < length keys → (b : Bool) → eqb k i ≡ b → same_key key (get_or keys k d) ≡ false
    by k d below true e = subst (λ j. same_key key (get_or keys j d) ≡ false) (sym (eqb-true k i e)) (here d)
    by k d below false e = differs key (get_or keys k d) (other-ranks keys key i s found.0 found.1 k d below (λ same. false≢true (sym e ∙ eq-eqb k i same)))

pub none-there : (keys : List Key) (key : Key) (i : ℕ) → IsRankAt keys key (Err i) → keys ≡ without_key key keys
none-there keys key i found = sym (none-left-out (same_key key) keys (λ k d below. differs key (get_or keys k d) (by k d below)))
  where
    by : (k : ℕ) (d : Key) → k < length keys → rank (get_or keys k d) key ≡ Equal → ⊥
    by k d below e = elim (cases_lt k i) [
      | inl low ↦ let less = found.1.0 k d (omega arith) low in cc
      | inr high ↦ let greater = found.1.1 k d high below in cc
    ]

-- OFFERED

pub not-offered : (keys : List Key) (key : Key) (i : ℕ) → IsRankAt keys key (Ok i) → has_instance key keys ≡ false → ⊥
not-offered keys key i found new = false≢true (sym new ∙ list_any_at (same_instance key) keys i key found.0 (alike (get_or keys i key) key (found.1 key)))

pub offered : (keys : List Key) (key : Key) (i : ℕ) → IsRankAt keys key (Err i) → insert keys i key ≡ with_key key keys
offered keys key i found = insert-at_gap rank_total key keys i found.0 found.1

pub in_rank-offered : (keys : List Key) (key : Key) → IsInRank keys → IsInRank (with_key key keys)
in_rank-offered keys key s = sorted-insert_key rank_total key keys s

-- FIRST

head-first : (y : Key) (zs : List Key) → All (λ z. rank y z ≡ Less) zs → IsFirstInRank (y ∷ zs) y
head-first y zs less = ((0, omega arith, refl), other)
  where
    other : (z : Key) → Contains (y ∷ zs) z → (z ≡ y) ⊎ (ranks_before y z ≡ true)
    other z (zero, below, at) = inl (sym at)
    other z (suc n, below, at) = inr (ap is_lt (All-contains (λ w. rank y w ≡ Less) zs z less (n, omega arith, at)))

pub first-fitting : (p : Key → Bool) (keys : List Key) (i : ℕ) (key : Key) → IsInRank keys → i < length keys → filter p (take i keys) ≡ [] → key ≡ get_or keys i key → p key ≡ true → IsFirstInRank (filter p keys) key
first-fitting p [] i key s below none at fits = absurd (omega arith)
first-fitting p (y ∷ ys) zero key s below none at fits =
    let here : p y ≡ true = subst (λ k. p k ≡ true) at fits in
    let less = All-filter p (λ z. rank y z ≡ Less) ys (All-from_recursion (λ z. rank y z ≡ Less) ys (sorted_head rank y ys s)) in
    subst (λ k. IsFirstInRank (filter p (y ∷ ys)) k) (sym at)
    (subst (λ ks. IsFirstInRank ks y) (sym (ap (λ b. cond b (y ∷ filter p ys) (filter p ys)) here)) (head-first y (filter p ys) less))
first-fitting p (y ∷ ys) (suc i) key s below none at fits = by (p y) refl none (first-fitting p ys i key (sorted_tail rank y ys s) (omega arith))
  where
    by : (b : Bool) → p y ≡ b → cond (p y) (y ∷ filter p (take i ys)) (filter p (take i ys)) ≡ [] → (filter p (take i ys) ≡ [] → key ≡ get_or ys i key → p key ≡ true → IsFirstInRank (filter p ys) key) → IsFirstInRank (filter p (y ∷ ys)) key
    by true e none rest =
        let some : y ∷ filter p (take i ys) ≡ [] = sym (ap (λ b. cond b (y ∷ filter p (take i ys)) (filter p (take i ys))) e) ∙ none in
        cc
    by false e none rest =
        subst (λ ks. IsFirstInRank ks key) (sym (ap (λ b. cond b (y ∷ filter p ys) (filter p ys)) e))
        (rest (sym (ap (λ b. cond b (y ∷ filter p (take i ys)) (filter p (take i ys))) e) ∙ none) at fits)

-- neither of two ranks before the other and behind it
pub both-ways : (r t : Ordering) → r ≡ ordering_reverse t → is_lt r ≡ true → is_lt t ≡ true → ⊥
both-ways r Less turn less more = false≢true (sym (ap is_lt turn) ∙ less)
both-ways r Equal turn less more = false≢true more
both-ways r Greater turn less more = false≢true more
