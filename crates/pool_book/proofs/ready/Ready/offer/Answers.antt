use Rattle.std.proofs.Common.{◌≡◌, ◌∙◌, ◌<◌, ◌-◌, ◌⊎◌, inl, inr, ℕ, List, Bool, cond, true, false, ap, sym, subst, arith, Ok, Err, Result, vec_len, vec_capacity}
use Rattle.std.specs.List.{insert}
use Rattle.std.specs.Result.{is_ok}
use Rattle.pool_book.specs.Keys.{Offered, IsInRank, IsRankAt, has_instance, with_key}
use Rattle.pool_book.specs.declared.keys.Key.{Key}
use Rattle.pool_book.proofs.RankLemmas.{offered, not-offered, in_rank-offered}
use Rattle.pool_book.proofs.ready.Ready.offer.Goals as goal
use Rattle.pool_book.proofs.ready.Ready.offer.Goals.{in-Ok, in-Ok-2}

-- the list after the insert, by the two answers of the search
put : (keys items items' : List Key) (key : Key) (r : Result ℕ ℕ) (at : ℕ) → keys ≡ items → IsRankAt keys key r → has_instance key items ≡ false → (r ≡ Ok at) ⊎ (r ≡ Err at) → items' ≡ insert items at key → items' ≡ with_key key items
put keys items items' key r at same found new (inl ok) done =
    absurd (not-offered items key at (subst (λ (ks : List Key). IsRankAt ks key (Ok at)) same (subst (λ (s : Result ℕ ℕ). IsRankAt keys key s) ok found)) new)
put keys items items' key r at same found new (inr err) done =
    done ∙ offered items key at (subst (λ (ks : List Key). IsRankAt ks key (Err at)) same (subst (λ (s : Result ℕ ℕ). IsRankAt keys key s) err found))

pub returns-clause-keys : goal.returns-clause-keys
returns-clause-keys c =
    let answer : (c.search.result ≡ Ok c.match-search.at) ⊎ (c.search.result ≡ Err c.match-search.at) =
    elim c.match-search.branch [ in-Ok w ↦ rw w.at-is w.in-Ok.is | in-Ok-2 w ↦ rw w.at-is w.in-Ok.is ] in
    let new = subst (λ (v : Offered). has_instance c.args.key v.keys ≡ false) (sym c.self.view_is) c.requires.new in
    let room : 0 < vec_capacity c.self.inside.keys - vec_len c.self.inside.keys = subst (λ (v : Offered). 0 < v.room) (sym c.self.view_is) c.requires.room in
    let ok : is_ok c.insert.result ≡ true = c.insert.ensures.succeeds (omega (arith, room)) in
    let items = c.insert.ensures.items ∙ ap (λ (b : Bool). cond b (insert c.self.inside.keys.items c.match-search.at c.args.key) c.self.inside.keys.items) ok in
    put c.deref.result.now c.self.inside.keys.items c.insert.new.self.items c.args.key c.search.result c.match-search.at c.deref.ensures.value c.search.ensures new answer items
    ∙ ap (λ (v : Offered). with_key c.args.key v.keys) c.self.view_is

pub invariant_of-self : goal.invariant_of-self
invariant_of-self c =
    let keys = returns-clause-keys c in
    subst IsInRank (sym keys) (in_rank-offered c.args.self.now.keys c.args.key (subst (λ (v : Offered). IsInRank v.keys) c.self.view_is c.self.invariant))
