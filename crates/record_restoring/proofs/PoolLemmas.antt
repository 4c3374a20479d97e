-- The book of pools that rows say.
use Rattle.std.proofs.Common.{◌≡◌, refl, ap, ◌∙◌, ℕ, zero, suc, ◌+◌, ◌<◌, List, [], ◌∷◌, ◌++◌, take, length, map, Bool, true, false, cond, Option, Some, None, option_map, unwrap_or, slice_get, get_or, arith}
use Rattle.std.specs.BTreeMap.{insert_entry}
use Rattle.std.specs.Cmp.Lexicographic.{nat_list_cmp_total, nat_list_eq_equiv, texts_ties}
use Rattle.std.specs.List.{list_all}
use Rattle.std.specs.Ordering.{is_eq, ordering_reverse, match_ordering}
use Rattle.std.specs.declared.cmp.Ordering.TheVariants.{Less, Greater}
use Rattle.std.proofs.lemmas.Bool.{and_from}
use Rattle.pool_book.specs.Pools.{Entries, PoolUse, pool_of, occupied_of, resized}
use Rattle.record_rows.specs.Rows.{PoolRow}
use Rattle.sched_state.specs.Lists.{same, name_cmp, is_less}
use Rattle.sched_state.proofs.OrderLemmas.{and_left, and_right}
use Rattle.record_rules.proofs.sched_laws.ListLemmas.{all_get}
use Rattle.record_rules.proofs.sched_laws.RankLemmas.{less_is}
use Rattle.sched_model.specs.Lists.{rises}
use Rattle.sched_model.specs.Schedule.{Pool}
use Rattle.sched_draft.specs.Books.{pools_in}
use Rattle.record_rules.specs.Keys.{pool_row_before}
use Rattle.record_rules.specs.Numbers.{natural}
use Rattle.record_rules.specs.Reading.{pool_of as pool_for}
use Rattle.record_restoring.specs.Pools.{vacant_pool, vacant_pools}
use Rattle.record_rules.proofs.RiseLemmas.{read_at}

-- ---- rows that rise
before_all : (xs : List PoolRow) (n : ℕ) (x : PoolRow) → rises pool_row_before xs ≡ true → slice_get xs n ≡ Some x → list_all (λ (y : PoolRow). pool_row_before y x) (take n xs) ≡ true
before_all [] n x r e = absurd (let c : ◌≡◌ {A = Option PoolRow} None (Some x) = e in cc)
before_all (y ∷ ys) zero x r e = refl
before_all (y ∷ ys) (suc n) x r e =
    and_from _ _ (all_get (pool_row_before y) ys n x (and_left _ _ r) e) (before_all ys n x (and_right (list_all (pool_row_before y) ys) _ r) e)

-- each pool has a name that stands before this one
abbrev all_before : List ℕ → Entries → Bool
all_before name es = list_all (λ (e : List ℕ × PoolUse). is_less (name_cmp e.0 name)) es

vacant_before : (x : PoolRow) (ys : List PoolRow) → list_all (λ (y : PoolRow). pool_row_before y x) ys ≡ true → all_before x.name (vacant_pools ys) ≡ true
vacant_before x [] a = refl
vacant_before x (y ∷ ys) a = and_from _ _ (and_left _ _ a) (vacant_before x ys (and_right (pool_row_before y x) _ a))

-- a pool whose name comes after all others is put behind them
put_last : (name : List ℕ) (v : PoolUse) (es : Entries) → all_before name es ≡ true → insert_entry name_cmp es name v ≡ es ++ (name, v) ∷ []
put_last name v [] a = refl
put_last name v (e ∷ es) a =
    let less : name_cmp e.0 name ≡ Less = less_is _ (and_left (is_less (name_cmp e.0 name)) _ a) in
    let after : name_cmp name e.0 ≡ Greater = nat_list_cmp_total.antisymm name e.0 ∙ ap ordering_reverse less in
    ap (λ k. match_ordering k ((name, v) ∷ e ∷ es) ((e.0, v) ∷ es) (e ∷ insert_entry name_cmp es name v)) after
    ∙ ap (λ (ws : Entries). e ∷ ws) (put_last name v es (and_right (is_less (name_cmp e.0 name)) _ a))

none_there : (name : List ℕ) (es : Entries) → all_before name es ≡ true → pool_of name es ≡ None
none_there name [] a = refl
none_there name (e ∷ es) a =
    let less : name_cmp e.0 name ≡ Less = less_is _ (and_left (is_less (name_cmp e.0 name)) _ a) in
    let other : same name e.0 ≡ false = nat_list_eq_equiv.symm name e.0 ∙ (texts_ties e.0 name ∙ ap is_eq less) in
    ap (λ b. cond b (Some e.1) (pool_of name es)) other ∙ none_there name es (and_right (is_less (name_cmp e.0 name)) _ a)

mapped_next : {X Y : Type 0} (f : X → Y) (xs : List X) (n : ℕ) (x : X) → slice_get xs n ≡ Some x → map f (take n xs) ++ f x ∷ [] ≡ map f (take (n + 1) xs)
mapped_next {X} f [] n x e = absurd (let c : ◌≡◌ {A = Option X} None (Some x) = e in cc)
mapped_next {X} {Y} f (y ∷ ys) zero x e =
    let c : ◌≡◌ {A = Option X} (Some y) (Some x) = e in let q : x ≡ y = cc in ap (λ (z : X). f z ∷ []) q
mapped_next {X} {Y} f (y ∷ ys) (suc n) x e =
    let next : suc n + 1 ≡ suc (n + 1) = omega arith in rw next (ap (λ (zs : List Y). f y ∷ zs) (mapped_next f ys n x e))

added : (xs : List PoolRow) (n : ℕ) (x : PoolRow) → rises pool_row_before xs ≡ true → slice_get xs n ≡ Some x → resized x.name (natural x.size) (vacant_pools (take n xs)) ≡ vacant_pools (take (n + 1) xs)
added xs n x r e =
    let es : Entries = vacant_pools (take n xs) in
    let before : all_before x.name es ≡ true = vacant_before x (take n xs) (before_all xs n x r e) in
    let none : occupied_of x.name es ≡ 0 = ap (λ o. unwrap_or (option_map (λ (p : PoolUse). p.occupied) o) 0) (none_there x.name es before) in
    put_last x.name (record { size = natural x.size; occupied = occupied_of x.name es }) es before
    ∙ (ap (λ m. es ++ (x.name, record { size = natural x.size; occupied = m }) ∷ []) none
    ∙ mapped_next vacant_pool xs n x e)

-- the pool of the row at n is added
pub pool_added : (xs : List PoolRow) (n : ℕ) (x : PoolRow) (es next : Entries) → rises pool_row_before xs ≡ true → n < length xs → x ≡ get_or xs n x → es ≡ vacant_pools (take n xs)
    → next ≡ resized x.name (natural x.size) es → next ≡ vacant_pools (take (n + 1) xs)
pool_added xs n x es next r l e so_far put = put ∙ (ap (resized x.name (natural x.size)) so_far ∙ added xs n x r (read_at xs n x l e))

-- the pools of the book are those of the rows
pub pools_read : (xs : List PoolRow) → pools_in (vacant_pools xs) ≡ map pool_for xs
pools_read [] = refl
pools_read (x ∷ xs) = ap (λ (qs : List Pool). pool_for x ∷ qs) (pools_read xs)
