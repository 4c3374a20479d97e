-- What tries take of the pools of a book, some after others.
use Rattle.std.proofs.Common.{◌≡◌, refl, sym, ap, subst, ◌∙◌, ℕ, ◌+◌, ◌≤◌, List, [], ◌∷◌, ◌++◌, drop, map, filter, flat_map, sum_by, min, Bool, true, false, cond, Option, Some, None, option_map, slice_get, arith}
use Rattle.std.proofs.Math.Nat.{min-eq_left}
use Rattle.std.proofs.lemmas.List.Sums.{sum_by-append}
use Rattle.graph_file.specs.declared.task_specs.TaskSpec.{TaskSpec}
use Rattle.instance_machine.specs.declared.tries.Try.{Try}
use Rattle.pool_book.specs.Limits.{most_taken}
use Rattle.pool_book.specs.Pools.{Entries, PoolUse, pool_of, with_pool, take_counted}
use Rattle.pool_book.proofs.PoolLemmas.{pool_of-with}
use Rattle.record_rows.specs.Rows.{PoolRow}
use Rattle.sched_state.specs.Lists.{same}
use Rattle.sched_state.proofs.ElementLemmas.{drop_at}
use Rattle.record_rules.proofs.sched_laws.SettleLemmas.{map_some}
use Rattle.sched_model.specs.States.{OpenTry, opened, is_open, slots_in}
use Rattle.sched_draft.specs.Books.{pools_in, Takes}
use Rattle.sched_draft.proofs.BookLemmas.{with_keeps}
use Rattle.record_rules.specs.Numbers.{natural}
use Rattle.record_rules.specs.Reading.{pool_of as pool_for}
use Rattle.record_restoring.specs.Pools.{vacant_pools, taken_by}
use Rattle.record_restoring.proofs.PoolLemmas.{pools_read}

-- ---- some after others
taken_append : (es : Entries) (xs ys : List OpenTry) → taken_by ys (taken_by xs es) ≡ taken_by (xs ++ ys) es
taken_append es [] ys = refl
taken_append es (x ∷ xs) ys = taken_append (with_pool x.pool (take_counted x.one.slots) es) xs ys

-- one turn of a loop: what the element at i takes is taken
pub taken_turn : {X : Type 0} (f : X → List OpenTry) (xs : List X) (i : ℕ) (x : X) (es next : Entries) → slice_get xs i ≡ Some x → next ≡ taken_by (f x) es
    → taken_by (flat_map f (drop (i + 1) xs)) next ≡ taken_by (flat_map f (drop i xs)) es
taken_turn f xs i x es next e g =
    rw (g, drop_at xs i x e) (taken_append es (f x) (flat_map f (drop (i + 1) xs)))

-- the try with its graph and its task, if it is open
abbrev pub open_one : List ℕ → TaskSpec → Try → List OpenTry
open_one id t x = cond (is_open x) (opened id t x ∷ []) []

pub open_each : (id : List ℕ) (t : TaskSpec) (xs : List Try) → map (opened id t) (filter is_open xs) ≡ flat_map (open_one id t) xs
open_each id t [] = refl
open_each id t (x ∷ xs) = elim (is_open x) as (λ b. map (opened id t) (cond b (x ∷ filter is_open xs) (filter is_open xs)) ≡ cond b (opened id t x ∷ []) [] ++ flat_map (open_one id t) xs) [
  | true ↦ ap (λ ys. opened id t x ∷ ys) (open_each id t xs)
  | false ↦ open_each id t xs
]

-- ---- what is taken
-- so many, of which no more than the most are counted
abbrev counted : (List ℕ → ℕ) → List ℕ → ℕ
counted f name = min (f name) most_taken

count_on : (m n : ℕ) → min (min m most_taken + n) most_taken ≡ min (m + n) most_taken
count_on m n = omega arith

abbrev vacant_of : PoolRow → PoolUse
vacant_of x = record { size = natural x.size; occupied = 0 }

none_taken : (name : List ℕ) (p : PoolUse) (xs : List PoolRow) → pool_of name (vacant_pools xs) ≡ Some p → p.occupied ≡ 0
none_taken name p [] e = absurd (let c : ◌≡◌ {A = Option PoolUse} None (Some p) = e in cc)
none_taken name p (x ∷ xs) f = elim (same name x.name) as (λ b. cond b (Some (vacant_of x)) (pool_of name (vacant_pools xs)) ≡ Some p → p.occupied ≡ 0) [
  | true ↦ λ g. let c : ◌≡◌ {A = Option PoolUse} (Some (vacant_of x)) (Some p) = g in let is : vacant_of x ≡ p = cc in ap (λ (q : PoolUse). q.occupied) (sym is)
  | false ↦ λ g. none_taken name p xs g
] f

-- the slots of one more try are taken
one_more : (f : List ℕ → ℕ) (pool : List ℕ) (slots : ℕ) (es : Entries) → Takes (counted f) es
    → Takes (counted (λ name. f name + cond (same pool name) slots 0)) (with_pool pool (take_counted slots) es)
one_more f pool slots es h name p there = by (same pool name) refl (sym (pool_of-with pool (take_counted slots) name es) ∙ there)
  where
    by : (b : Bool) → same pool name ≡ b → cond b (option_map (take_counted slots) (pool_of name es)) (pool_of name es) ≡ Some p → p.occupied ≡ min (f name + cond b slots 0) most_taken
    by true e found =
        let q = map_some (take_counted slots) (pool_of name es) p found in
        ap (λ (u : PoolUse). u.occupied) (sym q.2) ∙ (ap (λ n. min (n + slots) most_taken) (h name q.0 q.1) ∙ count_on (f name) slots)
    by false e found = let k : f name + 0 ≡ f name = omega arith in h name p found ∙ ap (λ n. min n most_taken) (sym k)

takes_as : (f g : List ℕ → ℕ) (es : Entries) → ((name : List ℕ) → f name ≡ g name) → Takes (counted f) es → Takes (counted g) es
takes_as f g es is h name p there = h name p there ∙ ap (λ n. min n most_taken) (is name)

-- the pools stay
pools_kept : (es : Entries) (ts : List OpenTry) → pools_in (taken_by ts es) ≡ pools_in es
pools_kept es [] = refl
pools_kept es (t ∷ ts) =
    pools_kept (with_pool t.pool (take_counted t.one.slots) es) ts ∙ with_keeps t.pool (take_counted t.one.slots) (λ p. refl) es

slots_taken : (f : List ℕ → ℕ) (es : Entries) (ts : List OpenTry) → Takes (counted f) es → Takes (counted (λ name. f name + sum_by (slots_in name) ts)) (taken_by ts es)
slots_taken f es [] h = takes_as f (λ name. f name + 0) es (λ name. omega arith) h
slots_taken f es (t ∷ ts) h =
    takes_as (λ name. (f name + slots_in name t) + sum_by (slots_in name) ts) (λ name. f name + sum_by (slots_in name) (t ∷ ts)) (taken_by (t ∷ ts) es)
    (λ name.
    let s : sum_by (slots_in name) (t ∷ ts) ≡ sum_by (slots_in name) (t ∷ []) + sum_by (slots_in name) ts = sum_by-append (slots_in name) (t ∷ []) ts in
    let one : sum_by (slots_in name) (t ∷ []) ≡ slots_in name t = omega arith in
    omega (arith, s, one))
    (slots_taken (λ name. f name + slots_in name t) (with_pool t.pool (take_counted t.one.slots) es) ts (one_more f t.pool t.one.slots es h))

-- ---- the book of rows
module _ (xs : List PoolRow) (ts : List OpenTry) (es : Entries) (made : es ≡ taken_by ts (vacant_pools xs)) where
  pub book_pools : pools_in es ≡ map pool_for xs
  book_pools = ap pools_in made ∙ (pools_kept (vacant_pools xs) ts ∙ pools_read xs)

  pub book_takes : ((name : List ℕ) → sum_by (slots_in name) ts ≤ most_taken) → Takes (λ name. sum_by (slots_in name) ts) es
  book_takes few = subst (λ (ws : Entries). Takes (λ name. sum_by (slots_in name) ts) ws) (sym made) all
    where
      from_none : Takes (counted (λ name. 0 + sum_by (slots_in name) ts)) (taken_by ts (vacant_pools xs))
      from_none = slots_taken (λ name. 0) (vacant_pools xs) ts (λ name p there. none_taken name p xs there)

      all : Takes (λ name. sum_by (slots_in name) ts) (taken_by ts (vacant_pools xs))
      all name p there = takes_as (λ n. 0 + sum_by (slots_in n) ts) (λ n. sum_by (slots_in n) ts) (taken_by ts (vacant_pools xs)) (λ n. omega arith) from_none name p there ∙ min-eq_left (few name)
