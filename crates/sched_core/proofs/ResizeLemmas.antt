-- The event that gives a pool another size: its cause, and what is planned for it.
use Rattle.std.proofs.Common.{◌≡◌, ◌∙◌, refl, sym, ap, ℕ, ◌≤◌, List, Bool, true, false, not, ◌&&◌, is_some, length, nat_le, Option, Some, None, option_map, true≢false}
use Rattle.std.proofs.lemmas.Bool.{le-leb}
use Rattle.std.proofs.lemmas.List.{length-map}
use Rattle.graph_file.specs.Lists.{when}
use Rattle.pool_book.specs.Limits.{pool_limit}
use Rattle.pool_book.specs.Pools.{Entries, PoolUse, pool_of, resized, is_one_too_many}
use Rattle.pool_book.specs.declared.pools.PoolFault.{PoolFault}
use Rattle.pool_book.specs.declared.pools.PoolFault.TheVariants.{TooManyPools, Memory}
use Rattle.sched_model.specs.Causes.{has_too_many_pools}
use Rattle.sched_model.specs.Changes.{resize}
use Rattle.sched_model.specs.Lists.{rises}
use Rattle.sched_model.specs.Schedule.{Schedule, Pool, has_pool, pool_before}
use Rattle.sched_events.specs.Causes.{refused}
use Rattle.sched_events.specs.Outcomes.{refusal_of_pool}
use Rattle.sched_events.specs.declared.events.Event.TheVariants.{Resize}
use Rattle.sched_events.specs.declared.refusals.Refusal.TheVariants as refusal
use Rattle.sched_draft.specs.Books.{pools_in}
use Rattle.sched_draft.proofs.BookLemmas.{has_is}
use Rattle.sched_core.specs.Inside.{over}
use Rattle.sched_core.proofs.BookLemmas.{resized_pools}
use Rattle.sched_laws.proofs.SeenLemmas.{is_some_map}

-- ---- whether the pool is there
-- by the size that was looked up
pub known_by : (a : Schedule) (es : Entries) (name : List ℕ) (o : Option ℕ) (none : Bool) → pools_in es ≡ a.pools → o ≡ option_map (λ (p : PoolUse). p.size) (pool_of name es) → is_some o ≡ not none → has_pool a name ≡ not none
known_by a es name o none pools found is =
    has_is a es name pools ∙ (sym (ap is_some found ∙ is_some_map (λ (p : PoolUse). p.size) (pool_of name es)) ∙ is)

-- ---- the cause
pub too_many : (a : Schedule) (es : Entries) (name : List ℕ) (size : ℕ) → pools_in es ≡ a.pools → has_pool a name ≡ false → a.limits.pools ≤ length es → refused a (Resize name size) ≡ Some (refusal.PoolFault TooManyPools)
too_many a es name size pools unknown full =
    let long : length a.pools ≡ length es = ap length (sym pools) ∙ length-map es (λ (e : List ℕ × PoolUse). let q : Pool = record { name = e.0; size = e.1.size } in q) in
    let no_room : nat_le a.limits.pools (length a.pools) ≡ true = ap (nat_le a.limits.pools) long ∙ le-leb _ _ full in
    ap (λ b. when (not b && nat_le a.limits.pools (length a.pools)) (refusal.PoolFault TooManyPools)) unknown
    ∙ ap (λ b. when b (refusal.PoolFault TooManyPools)) no_room

-- there is place for a pool of this name, in the schedule and in a book
pub record HasPlace (a : Schedule) (es : Entries) (name : List ℕ) : Type 0 where
  pub few : has_too_many_pools a name ≡ false
  pub fits : is_one_too_many name es ≡ false

pub known_place : (a : Schedule) (es : Entries) (name : List ℕ) → pools_in es ≡ a.pools → has_pool a name ≡ true → HasPlace a es name
known_place a es name pools known = record {
  few = ap (λ b. not b && nat_le a.limits.pools (length a.pools)) known;
  fits = ap (λ b. not b && nat_le pool_limit (length es)) (sym (has_is a es name pools) ∙ known);
}

not_both : (b c : Bool) → c ≡ false → (not b && c) ≡ false
not_both true c e = refl
not_both false c e = e

pub new_place : (a : Schedule) (es : Entries) (name : List ℕ) → pools_in es ≡ a.pools → nat_le a.limits.pools (length es) ≡ false → nat_le pool_limit (length es) ≡ false → HasPlace a es name
new_place a es name pools room high =
    let long : length a.pools ≡ length es = ap length (sym pools) ∙ length-map es (λ (e : List ℕ × PoolUse). let q : Pool = record { name = e.0; size = e.1.size } in q) in
    record {
      few = not_both (has_pool a name) _ (ap (nat_le a.limits.pools) long ∙ room);
      fits = not_both (is_some (pool_of name es)) _ high;
    }

pub resize_accepted : (a : Schedule) (es : Entries) (name : List ℕ) (size : ℕ) → HasPlace a es name → refused a (Resize name size) ≡ None
resize_accepted a es name size place = ap (λ b. when b (refusal.PoolFault TooManyPools)) place.few

-- where there is place the book refuses for want of memory alone
other_fault : (fault : PoolFault) → (fault ≡ TooManyPools → ⊥) → refusal_of_pool fault ≡ refusal.Memory
other_fault TooManyPools h = absurd (h refl)
other_fault Memory h = refl

pub memory_alone : (a : Schedule) (es old : Entries) (name copied : List ℕ) (fault : PoolFault) → HasPlace a es name → old ≡ es → copied ≡ name → (fault ≡ TooManyPools → is_one_too_many copied old ≡ true) → refusal_of_pool fault ≡ refusal.Memory
memory_alone a es old name copied fault place same_pools same_name h =
    other_fault fault (λ e. true≢false (sym (h e) ∙ (ap (λ n. is_one_too_many n old) same_name ∙ (ap (is_one_too_many name) same_pools ∙ place.fits))))

-- ---- the pools of the book are those of the event
pub over_is : (a : Schedule) (es old new : Entries) (name copied : List ℕ) (size : ℕ) → pools_in es ≡ a.pools → rises pool_before a.pools ≡ true → old ≡ es → copied ≡ name → new ≡ resized copied size old → over new a ≡ resize name size a
over_is a es old new name copied size pools order same_pools same_name is =
    let whole : pools_in new ≡ (resize name size a).pools =
    ap pools_in is ∙ (ap (λ n. pools_in (resized n size old)) same_name ∙ (ap (λ (xs : Entries). pools_in (resized name size xs)) same_pools ∙ resized_pools name size a es pools order)) in
    ap (λ (qs : List Pool). let b : Schedule = record a { pools = qs } in b) whole
