use Rattle.std.proofs.Common.{◌≡◌, ◌∙◌, ◌<◌, List, length, ap, sym, subst, get_or, not, Bool, true, false, ℕ, Result, Ok, Err}
use Rattle.std.proofs.lemmas.List.{get_or_default}
use Rattle.std.proofs.lemmas.List.Kept.{IsStrictlySortedBy-filter}
use Rattle.pool_book.specs.Keys.{Offered, IsInRank, IsRankAt, rank, same_key, without_key}
use Rattle.pool_book.specs.declared.keys.Key.{Key}
use Rattle.pool_book.proofs.RankLemmas.{taken-back, another-there, none-there}
use Rattle.pool_book.proofs.ready.Ready.withdraw.Goals as goal

-- what the search found there is the element
here : (items : List Key) (i : ℕ) (key k : Key) (b : Bool) → k ≡ get_or items i k → i < length items → same_key key k ≡ b → (d : Key) → same_key key (get_or items i d) ≡ b
here items i key k b at below is d = subst (λ (x : Key). same_key key x ≡ b) (at ∙ get_or_default items i k d below) is

pub returns-then-is-clause-keys : goal.returns-then-is-clause-keys
returns-then-is-clause-keys c =
    let items = c.self.inside.keys.items in
    let found = subst (λ (ks : List Key). IsRankAt ks c.args.key.now (Ok c.in-Ok.at)) c.deref.ensures.value (subst (λ (r : Result ℕ ℕ). IsRankAt c.deref.result.now c.args.key.now r) c.in-Ok.is c.search.ensures) in
    c.remove.ensures.items
    ∙ (taken-back items c.args.key.now c.in-Ok.at c.self.invariant found (here items c.in-Ok.at c.args.key.now c.index.result.now true c.index.ensures found.0 (sym c.is.ensures ∙ c.if-is.true))
    ∙ ap (λ (v : Offered). without_key c.args.key.now v.keys) c.self.view_is)

pub invariant_of-self : goal.invariant_of-self
invariant_of-self c =
    let keys = returns-then-is-clause-keys c in
    let s = subst (λ (v : Offered). IsInRank v.keys) c.self.view_is c.self.invariant in
    subst IsInRank (sym keys) (IsStrictlySortedBy-filter rank (λ k. not (same_key c.args.key.now k)) c.args.self.now.keys s)

pub returns-else-is-clause-keys : goal.returns-else-is-clause-keys
returns-else-is-clause-keys c =
    let items = c.self.inside.keys.items in
    let found = subst (λ (ks : List Key). IsRankAt ks c.args.key.now (Ok c.in-Ok.at)) c.deref.ensures.value (subst (λ (r : Result ℕ ℕ). IsRankAt c.deref.result.now c.args.key.now r) c.in-Ok.is c.search.ensures) in
    subst (λ (v : Offered). v.keys ≡ without_key c.args.key.now v.keys) c.self.view_is
    (another-there items c.args.key.now c.in-Ok.at c.self.invariant found (here items c.in-Ok.at c.args.key.now c.index.result.now false c.index.ensures found.0 (sym c.is.ensures ∙ c.if-is.false)))

pub returns-in_default-clause-keys : goal.returns-in_default-clause-keys
returns-in_default-clause-keys c =
    let found = subst (λ (ks : List Key). IsRankAt ks c.args.key.now (Err c.in_default.field-0)) c.deref.ensures.value (subst (λ (r : Result ℕ ℕ). IsRankAt c.deref.result.now c.args.key.now r) c.in_default.is c.search.ensures) in
    subst (λ (v : Offered). v.keys ≡ without_key c.args.key.now v.keys) c.self.view_is (none-there c.self.inside.keys.items c.args.key.now c.in_default.field-0 found)
