-- Whether the row of a pool is among those of a book.
use Rattle.std.proofs.Common.{◌≡◌, refl, sym, ap, ◌∙◌, ℕ, List, [], ◌∷◌, Bool, true, false, ◌&&◌, ◌||◌, ◌==◌, cond, map, Option, None, Some, option_map, pos, true≢false}
use Rattle.std.specs.List.{list_all, list_any}
use Rattle.std.specs.Map.{lookup}
use Rattle.std.specs.Ordering.{int_eq}
use Rattle.std.specs.declared.cmp.Ordering.TheVariants.{Equal}
use Rattle.std.proofs.lemmas.Map.Text.{is_eq-slice_cmp}
use Rattle.pool_book.specs.Pools.{Entries, PoolUse}
use Rattle.sched_state.specs.Lists.{same, name_cmp, is_less}
use Rattle.sched_state.proofs.NameLemmas.{same_itself, same_is}
use Rattle.sched_state.proofs.OrderLemmas.{and_left, and_right}
use Rattle.sched_draft.specs.Books.{pools_in}
use Rattle.sched_model.specs.Lists.{rises}
use Rattle.sched_model.specs.Schedule.{Pool, pool_before}
use Rattle.sched_model.specs.Tables.{pool_row}
use Rattle.record_rules.proofs.NumberLemmas.{same_naturals}
use Rattle.record_rules.specs.Changes.{same_pool_row}
use Rattle.sched_draft.proofs.SearchLemmas.{eq_is}

-- a pool of this size is there
abbrev pub is_size : ℕ → Option ℕ → Bool
is_size size None = false
is_size size (Some other) = size == other

-- none of the pools that stand after one has its name
none_after : (name : List ℕ) (size : ℕ) (q : Pool) (qs : List Pool) → same name q.name ≡ true → list_all (pool_before q) qs ≡ true → list_any (same_pool_row (record { name = name; size = pos size })) (map pool_row qs) ≡ false
none_after name size q [] e h = refl
none_after name size q (p ∷ qs) e h =
    let apart : same name p.name ≡ false = elim (same name p.name) as (λ b. same name p.name ≡ b → b ≡ false) [
      | true ↦ λ g.
          let names : q.name ≡ p.name = sym (same_is name q.name e) ∙ same_is name p.name g in
          let tied : name_cmp q.name p.name ≡ Equal = eq_is (name_cmp q.name p.name) (is_eq-slice_cmp q.name p.name ∙ ap (same q.name) (sym names) ∙ same_itself q.name) in
          absurd (true≢false (sym (and_left _ _ h) ∙ ap is_less tied))
      | false ↦ λ g. refl
    ] refl in
    ap (λ b. (b && int_eq (pos size) (pos p.size)) || list_any (same_pool_row (record { name = name; size = pos size })) (map pool_row qs)) apart
    ∙ none_after name size q qs e (and_right (pool_before q p) _ h)

pub pool_among : (es : Entries) (name : List ℕ) (size : ℕ) → rises pool_before (pools_in es) ≡ true
    → list_any (same_pool_row (record { name = name; size = pos size })) (map pool_row (pools_in es)) ≡ is_size size (option_map (λ (p : PoolUse). p.size) (lookup (same name) es))
pool_among [] name size h = refl
pool_among (e ∷ es) name size h = elim (same name e.0) as (λ b. same name e.0 ≡ b → ((b && int_eq (pos size) (pos e.1.size)) || others) ≡ is_size size (option_map (λ (p : PoolUse). p.size) (let o : Option PoolUse = cond b (Some e.1) (lookup (same name) es) in o))) [
  | true ↦ λ g. ap (λ b. int_eq (pos size) (pos e.1.size) || b) (none_after name size (record { name = e.0; size = e.1.size }) (pools_in es) g (and_left _ _ h)) ∙ or_none (int_eq (pos size) (pos e.1.size)) ∙ same_naturals size e.1.size
  | false ↦ λ g. pool_among es name size (and_right (list_all (pool_before (record { name = e.0; size = e.1.size })) (pools_in es)) _ h)
] refl
  where
    others : Bool
    others = list_any (same_pool_row (record { name = name; size = pos size })) (map pool_row (pools_in es))

    or_none : (b : Bool) → (b || false) ≡ b
    or_none true = refl
    or_none false = refl
