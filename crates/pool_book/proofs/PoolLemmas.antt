-- Pools in the order of their names: one of them is changed or put in, and pools that look the same are the same.
use Rattle.std.proofs.Common.{◌≡◌, ◌∙◌, ◌+◌, Bool, true, false, cond, List, [], ◌∷◌, ◌++◌, get_or, refl, ap, sym, subst, arith, Option, Some, None, option_map, append_assoc, length, suc}
use Rattle.std.proofs.lemmas.Bool.{false≢true}
use Rattle.std.proofs.lemmas.List.Elements.{All-from_recursion, recursion_from_All}
use Rattle.std.proofs.lemmas.Map.{lookup-none}
use Rattle.std.proofs.lemmas.Map.Entries.{lookup_head, lookup_tail, none_below_head, none_past_head}
use Rattle.std.proofs.lemmas.Map.Keys.{sorted_tail, sorted_from_all_adjacent, apart_from_distinct, IsDistinct-from_sorted, IsDistinct-head, IsDistinct-tail}
use Rattle.std.proofs.lemmas.Map.Lookups.{exact_bytes}
use Rattle.std.proofs.lemmas.Map.Views.{All-keys-insert_entry}
use Rattle.std.specs.BTreeMap.{insert_entry, is_at}
use Rattle.std.specs.Cmp.{eq_by_cmp_equiv}
use Rattle.std.specs.Cmp.Lexicographic.{nat_list_cmp_total, nat_list_eq_equiv, texts_ties, same_text}
use Rattle.std.specs.HashMap.{HashMap, WritesThrough, IsUnique, Updates, keys}
use Rattle.std.specs.List.{IsDistinct, AllByRecursion}
use Rattle.std.specs.Option.{IsSome}
use Rattle.std.specs.List.Sorted.{IsStrictlySortedBy, IsSorted}
use Rattle.std.specs.Map.{keys_of, lookup}
use Rattle.std.specs.Ordering.{is_eq, is_lt, ordering_reverse, match_ordering}
use Rattle.std.specs.Str.{bytes_eq}
use Rattle.std.specs.declared.cmp.Ordering.{Ordering}
use Rattle.std.specs.declared.cmp.Ordering.TheVariants.{Less, Equal, Greater}
use Rattle.indexmap.specs.IndexMap.{insert_entry as index_insert}
use Rattle.graph_file.proofs.SortedLemmas.{below-all, sorted-from_strict}
use Rattle.pool_book.specs.Pools.{Name, name_cmp, PoolUse, Entries, IsInOrder, pool_of, with_pool, vacated}

-- a name is told from another by its bytes
tells : (x y : Name) (r : Ordering) → name_cmp x y ≡ r → bytes_eq x y ≡ is_eq r
tells x y r e = texts_ties x y ∙ ap is_eq e

turned : (x y : Name) (r : Ordering) → name_cmp x y ≡ r → name_cmp y x ≡ ordering_reverse r
turned x y r e = nat_list_cmp_total.antisymm y x ∙ ap ordering_reverse e

none-below : (q : Name) (e : Name × PoolUse) (es : Entries) → IsInOrder (e ∷ es) → name_cmp q e.0 ≡ Less → pool_of q (e ∷ es) ≡ None
none-below q e es s less =
    ap (λ t. lookup t (e ∷ es)) (λ i k. texts_ties q k i) ∙ lookup-none (is_at (name_cmp q)) (e ∷ es) (none_below_head nat_list_cmp_total q e es s less)

none-past : (q : Name) (e : Name × PoolUse) (es : Entries) → IsInOrder (e ∷ es) → bytes_eq q e.0 ≡ true → pool_of q es ≡ None
none-past q e es s same =
    ap (λ t. lookup t es) (λ i k. texts_ties q k i)
    ∙ lookup-none (is_at (name_cmp q)) es (none_past_head (eq_by_cmp_equiv nat_list_cmp_total) q e es (IsDistinct-from_sorted name_cmp (keys_of (e ∷ es)) s) (sym (texts_ties q e.0) ∙ same))

-- pools in order are known by their look-ups
pub same-pools : (xs ys : Entries) → IsInOrder xs → IsInOrder ys → ((q : Name) → pool_of q xs ≡ pool_of q ys) → xs ≡ ys
same-pools [] [] s t h = refl
same-pools [] ((l, w) ∷ ys) s t h =
    let a = lookup_head (bytes_eq l) (l, w) ys (nat_list_eq_equiv.refl l) in
    let b = h l in
    cc
same-pools ((k, v) ∷ xs) [] s t h =
    let a = lookup_head (bytes_eq k) (k, v) xs (nat_list_eq_equiv.refl k) in
    let b = h k in
    cc
same-pools ((k, v) ∷ xs) ((l, w) ∷ ys) s t h = by (name_cmp k l) refl (same-pools xs ys (sorted_tail name_cmp k (keys_of xs) s) (sorted_tail name_cmp l (keys_of ys) t))
  where
    at : k ≡ l → (q : Name) (b : Bool) → bytes_eq q k ≡ b → pool_of q xs ≡ pool_of q ys
    at name q true same = none-past q (k, v) xs s same ∙ sym (none-past q (l, w) ys t (subst (λ n. bytes_eq q n ≡ true) name same))
    at name q false other =
        let other' : bytes_eq q l ≡ false = subst (λ n. bytes_eq q n ≡ false) name other in
        sym (lookup_tail (bytes_eq q) (k, v) xs other) ∙ (h q ∙ lookup_tail (bytes_eq q) (l, w) ys other')

    by : (r : Ordering) → name_cmp k l ≡ r → (((q : Name) → pool_of q xs ≡ pool_of q ys) → xs ≡ ys) → (k, v) ∷ xs ≡ (l, w) ∷ ys
    by Less p tails =
        let a = lookup_head (bytes_eq k) (k, v) xs (nat_list_eq_equiv.refl k) in
        let b = none-below k (l, w) ys t p in
        let c = h k in
        cc
    by Greater p tails =
        let a = lookup_head (bytes_eq l) (l, w) ys (nat_list_eq_equiv.refl l) in
        let b = none-below l (k, v) xs s (turned k l Greater p) in
        let c = h l in
        cc
    by Equal p tails =
        let name : k ≡ l = exact_bytes k l p in
        let a = lookup_head (bytes_eq k) (k, v) xs (nat_list_eq_equiv.refl k) in
        let b = lookup_head (bytes_eq k) (l, w) ys (tells k l Equal p) in
        let c = h k in
        let value : v ≡ w = cc in
        let rest : xs ≡ ys = tails (λ q. at name q (bytes_eq q k) refl) in
        cc

-- PUT IN

pub in_order-put : (k : Name) (v : PoolUse) (es : Entries) → IsInOrder es → IsInOrder (insert_entry name_cmp es k v)
unfolding IsStrictlySortedBy
in_order-put k v [] s = (tt, tt)
in_order-put k v (e ∷ es) s = by (name_cmp k e.0) refl (in_order-put k v es s.1)
  where
    by : (r : Ordering) → name_cmp k e.0 ≡ r → IsInOrder (insert_entry name_cmp es k v) → IsInOrder (match_ordering r ((k, v) ∷ e ∷ es) ((e.0, v) ∷ es) (e ∷ insert_entry name_cmp es k v))
    by Less p rest = ((p, below-all nat_list_cmp_total k e.0 (keys_of es) p s), s)
    by Equal p rest = s
    by Greater p rest = (
      recursion_from_All (λ z. name_cmp e.0 z ≡ Less) (keys_of (insert_entry name_cmp es k v)) (All-keys-insert_entry name_cmp k v (λ z. name_cmp e.0 z ≡ Less) es (All-from_recursion (λ z. name_cmp e.0 z ≡ Less) (keys_of es) s.0) (turned k e.0 Greater p)),
      rest,
    )

twice : {X : Type 0} (b : Bool) (x y z : X) → cond b x z ≡ cond b x (cond b y z)
twice true x y z = refl
twice false x y z = refl

swapped : {X : Type 0} (a b : Bool) (x y z : X) → (a ≡ true → b ≡ true → ⊥) → cond a x (cond b y z) ≡ cond b y (cond a x z)
swapped true true x y z apart = absurd (apart refl refl)
swapped true false x y z apart = refl
swapped false b x y z apart = refl

pub pool_of-put : (k : Name) (v : PoolUse) (q : Name) (es : Entries) → pool_of q (insert_entry name_cmp es k v) ≡ cond (bytes_eq k q) (Some v) (pool_of q es)
pool_of-put k v q [] = ap (λ b. cond b (Some v) None) (nat_list_eq_equiv.symm q k)
pool_of-put k v q (e ∷ es) = by (name_cmp k e.0) refl (pool_of-put k v q es)
  where
    by : (r : Ordering) → name_cmp k e.0 ≡ r → pool_of q (insert_entry name_cmp es k v) ≡ cond (bytes_eq k q) (Some v) (pool_of q es) → pool_of q (match_ordering r ((k, v) ∷ e ∷ es) ((e.0, v) ∷ es) (e ∷ insert_entry name_cmp es k v)) ≡ cond (bytes_eq k q) (Some v) (pool_of q (e ∷ es))
    by Less p rest = ap (λ b. cond b (Some v) (pool_of q (e ∷ es))) (nat_list_eq_equiv.symm q k)
    by Equal p rest =
        let b : bytes_eq q e.0 ≡ bytes_eq k q = ap (λ n. bytes_eq q n) (sym (exact_bytes k e.0 p)) ∙ nat_list_eq_equiv.symm q k in
        ap (λ t. cond t (Some v) (pool_of q es)) b ∙ (twice (bytes_eq k q) (Some v) (Some e.1) (pool_of q es) ∙ ap (λ t. cond (bytes_eq k q) (Some v) (cond t (Some e.1) (pool_of q es))) (sym b))
    by Greater p rest =
        ap (λ o. cond (bytes_eq q e.0) (Some e.1) o) rest
        ∙ swapped (bytes_eq q e.0) (bytes_eq k q) (Some e.1) (Some v) (pool_of q es) (λ a b. false≢true (sym (tells k e.0 Greater p) ∙ (nat_list_eq_equiv.congr k q e.0 b ∙ a)))

-- CHANGED

pub keys-with : (k : Name) (f : PoolUse → PoolUse) (es : Entries) → keys_of (with_pool k f es) ≡ keys_of es
keys-with k f [] = refl
keys-with k f (e ∷ es) = ap (λ (ks : List Name). e.0 ∷ ks) (keys-with k f es)

pub in_order-with : (k : Name) (f : PoolUse → PoolUse) (es : Entries) → IsInOrder es → IsInOrder (with_pool k f es)
in_order-with k f es s = subst (λ (ks : List Name). IsStrictlySortedBy name_cmp ks) (sym (keys-with k f es)) s

chosen : {X Y : Type 0} (b : Bool) (f : X → Y) (x y : X) → f (cond b x y) ≡ cond b (f x) (f y)
chosen true f x y = refl
chosen false f x y = refl

same-both : {X : Type 0} (b : Bool) (x : X) → x ≡ cond b x x
same-both true x = refl
same-both false x = refl

pub pool_of-with : (k : Name) (f : PoolUse → PoolUse) (q : Name) (es : Entries) → pool_of q (with_pool k f es) ≡ cond (bytes_eq k q) (option_map f (pool_of q es)) (pool_of q es)
pool_of-with k f q [] = same-both (bytes_eq k q) None
pool_of-with k f q (e ∷ es) = by (bytes_eq q e.0) refl (pool_of-with k f q es)
  where
    by : (b : Bool) → bytes_eq q e.0 ≡ b → pool_of q (with_pool k f es) ≡ cond (bytes_eq k q) (option_map f (pool_of q es)) (pool_of q es)
        → cond b (Some (cond (bytes_eq k e.0) (f e.1) e.1)) (pool_of q (with_pool k f es)) ≡ cond (bytes_eq k q) (option_map f (cond b (Some e.1) (pool_of q es))) (cond b (Some e.1) (pool_of q es))
    by true same rest =
        ap (λ n. Some (cond (bytes_eq k n) (f e.1) e.1)) (sym (same_text q e.0 (sym same))) ∙ chosen (bytes_eq k q) Some (f e.1) e.1
    by false other rest = rest

-- WHAT THE MAP SAYS

-- keys that don't fall and are apart rise
pub rises : (ks : List Name) → IsSorted name_cmp ks → IsDistinct bytes_eq ks → IsStrictlySortedBy name_cmp ks
rises ks s d =
    sorted_from_all_adjacent nat_list_cmp_total ks [] (λ k below. by (get_or ks k []) (get_or ks (k + 1) []) (name_cmp (get_or ks k []) (get_or ks (k + 1) [])) refl (apart_from_distinct bytes_eq ks k (k + 1) [] d (omega arith) below) (s k [] (omega arith) below))
  where
    by : (a b : Name) (r : Ordering) → name_cmp a b ≡ r → bytes_eq a b ≡ false → is_lt (name_cmp b a) ≡ false → name_cmp a b ≡ Less
    by a b Less p apart up = p
    by a b Equal p apart up = absurd (false≢true (sym apart ∙ tells a b Equal p))
    by a b Greater p apart up = absurd (false≢true (sym up ∙ ap is_lt (turned a b Greater p)))

-- what has another pool at one name, and what it had at the others
pub is-put : (k : Name) (v : PoolUse) (old new : Entries) → IsInOrder old → IsInOrder new → ((q : Name) → pool_of q new ≡ cond (bytes_eq k q) (Some v) (pool_of q old)) → new ≡ insert_entry name_cmp old k v
is-put k v old new s t h = same-pools new (insert_entry name_cmp old k v) t (in_order-put k v old s) (λ q. h q ∙ sym (pool_of-put k v q old))

pub is-with : (k : Name) (f : PoolUse → PoolUse) (p : PoolUse) (old new : Entries) → IsInOrder old → IsInOrder new → pool_of k old ≡ Some p → ((q : Name) → pool_of q new ≡ cond (bytes_eq k q) (Some (f p)) (pool_of q old)) → new ≡ with_pool k f old
is-with k f p old new s t there h = same-pools new (with_pool k f old) t (in_order-with k f old s) (λ q. h q ∙ (by q (bytes_eq k q) refl ∙ sym (pool_of-with k f q old)))
  where
    by : (q : Name) (b : Bool) → bytes_eq k q ≡ b → cond b (Some (f p)) (pool_of q old) ≡ cond b (option_map f (pool_of q old)) (pool_of q old)
    by q true same = sym (ap (option_map f) (ap (λ n. pool_of n old) (sym (same_text k q (sym same))) ∙ there))
    by q false other = refl

-- the pool of the name was written
module _ {S : Type 0} (k : Name) (m n : HashMap Name PoolUse S) (w : PoolUse) (wrote : WritesThrough bytes_eq (bytes_eq k) m w n) where
  pub in_order-written : IsInOrder m.entries → IsInOrder n.entries
  in_order-written s = subst (λ (ks : List Name). IsStrictlySortedBy name_cmp ks) (sym wrote.1) s

  pub with-written : (f : PoolUse → PoolUse) (p : PoolUse) → IsInOrder m.entries → Some p ≡ pool_of k m.entries → w ≡ f p → n.entries ≡ with_pool k f m.entries
  with-written f p s there is =
      let at = (wrote.3 (subst IsSome there refl)).0 in
      is-with k f p m.entries n.entries s (in_order-written s) (sym there) (λ q. at q ∙ ap (λ v. cond (bytes_eq k q) (Some v) (pool_of q m.entries)) is)

  pub put-written : (p : PoolUse) → IsInOrder m.entries → Some p ≡ pool_of k m.entries → n.entries ≡ insert_entry name_cmp m.entries k w
  put-written p s there = is-put k w m.entries n.entries s (in_order-written s) (wrote.3 (subst IsSome there refl)).0

pub not-there : (o : Option PoolUse) → IsSome o → None ≡ o → ⊥
not-there None there none = false≢true there
not-there (Some p) there none = cc

-- a pool of the name was put in
module _ {S : Type 0} (k : Name) (m n : HashMap Name PoolUse S) (s : IsInOrder m.entries) (sorted : IsSorted name_cmp (keys m) → IsSorted name_cmp (keys n)) (unique : IsUnique bytes_eq n) where
  pub in_order-inserted : IsInOrder n.entries
  in_order-inserted = rises (keys n) (sorted (sorted-from_strict nat_list_cmp_total (keys m) s)) unique

  pub put-inserted : (v : PoolUse) → Updates bytes_eq m n k (Some v) → n.entries ≡ insert_entry name_cmp m.entries k v
  put-inserted v put = is-put k v m.entries n.entries s in_order-inserted put.0

-- A COPY

reached : (P : Name → Type 0) (done rest : Entries) (k : Name) (v : PoolUse) → AllByRecursion P (keys_of (done ++ (k, v) ∷ rest)) → P k
reached P [] rest k v all = all.0
reached P (e ∷ done) rest k v all = reached P done rest k v all.1

appended : (done rest : Entries) (k : Name) (v : PoolUse) → IsDistinct bytes_eq (keys_of (done ++ (k, v) ∷ rest)) → index_insert bytes_eq done k v ≡ done ++ (k, v) ∷ []
appended [] rest k v apart = refl
appended (e ∷ done) rest k v apart =
    let other : bytes_eq k e.0 ≡ false = nat_list_eq_equiv.symm k e.0 ∙ reached (λ y. bytes_eq e.0 y ≡ false) done rest k v (IsDistinct-head bytes_eq e.0 (keys_of (done ++ (k, v) ∷ rest)) apart) in
    let more = appended done rest k v (IsDistinct-tail bytes_eq e.0 (keys_of (done ++ (k, v) ∷ rest)) apart) in
    ap (λ b. cond b ((e.0, v) ∷ done) (e ∷ index_insert bytes_eq done k v)) other ∙ ap (λ (es : Entries). e ∷ es) more

apart-in_order : (es : Entries) → IsInOrder es → IsDistinct bytes_eq (keys_of es)
apart-in_order es s = subst (λ E. IsDistinct E (keys_of es)) (λ i x y. sym (texts_ties x y) i) (IsDistinct-from_sorted name_cmp (keys_of es) s)

-- one more of the pools is copied
pub copied-more : (all done done' rest rest' : Entries) (k k' : Name) (v : PoolUse) → IsInOrder all → done ++ rest ≡ all → rest ≡ (k, v) ∷ rest' → k' ≡ k → done' ≡ index_insert bytes_eq done k' v → done' ++ rest' ≡ all
copied-more all done done' rest rest' k k' v s so_far step same put =
    let whole : done ++ (k, v) ∷ rest' ≡ all = ap (λ (es : Entries). done ++ es) (sym step) ∙ so_far in
    let apart = apart-in_order (done ++ (k, v) ∷ rest') (subst IsInOrder (sym whole) s) in
    ap (λ (es : Entries). es ++ rest') (put ∙ (ap (λ n. index_insert bytes_eq done n v) same ∙ appended done rest' k v apart))
    ∙ (append_assoc done ((k, v) ∷ []) rest' ∙ whole)

-- NO POOL OF THE NAME

pub with-none : (k : Name) (f : PoolUse → PoolUse) (es : Entries) → None ≡ pool_of k es → with_pool k f es ≡ es
with-none k f [] none = refl
with-none k f (e ∷ es) none = by (bytes_eq k e.0) refl none (with-none k f es)
  where
    by : (b : Bool) → bytes_eq k e.0 ≡ b → None ≡ cond b (Some e.1) (pool_of k es) → (None ≡ pool_of k es → with_pool k f es ≡ es) → with_pool k f (e ∷ es) ≡ e ∷ es
    by true same gone rest = absurd (let c : ◌≡◌ {A = Option PoolUse} None (Some e.1) = gone in cc)
    by false other gone rest = ap (λ b. (e.0, cond b (f e.1) e.1) ∷ with_pool k f es) other ∙ ap (λ (xs : Entries). e ∷ xs) (rest gone)

-- A COPY OF WHICH NOTHING IS TAKEN

pub keys-vacated : (es : Entries) → keys_of (vacated es) ≡ keys_of es
keys-vacated [] = refl
keys-vacated (e ∷ es) = ap (λ (ks : List Name). e.0 ∷ ks) (keys-vacated es)

pub in_order-vacated : (es : Entries) → IsInOrder es → IsInOrder (vacated es)
in_order-vacated es s = subst (λ (ks : List Name). IsStrictlySortedBy name_cmp ks) (sym (keys-vacated es)) s

pub length-vacated : (es : Entries) → length (vacated es) ≡ length es
length-vacated [] = refl
length-vacated (e ∷ es) = ap suc (length-vacated es)
