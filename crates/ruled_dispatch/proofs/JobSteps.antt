-- Each step of the queue of jobs keeps its rule.
use Rattle.std.proofs.Common.{◌≡◌, ℕ, zero, suc, ◌-◌, ◌<◌, ◌≢◌, List, [], ◌∷◌, ◌++◌, set, sym, refl, ap, ◌∙◌, subst, ⊎_elim, arith}
use Rattle.std.specs.Prelude.{sum_by}
use Rattle.std.proofs.lemmas.List.Sums.{sum_by-cons, sum_by-append, sum_by_push}
use mathlib.Core.Option.{some, some-injective, some-ne-none}
use lib.ListN.{get_elem?}
use Rattle.crossbeam_queue.specs.Fifo.{Pushes, Pops, Forks, Merges, Learns}
use Rattle.crossbeam_queue.proofs.Lists.{at_set, at_snoc}
use Rattle.ruled_dispatch.specs.declared.items.JobOrStop.{JobOrStop}
use Rattle.ruled_dispatch.specs.declared.jobs_rule.JobActivity.{JobActivity}
use Rattle.ruled_dispatch.specs.JobsRule.{activity, joined, all_parts, OnlyTheirOwn, IsBalanced, AreAmong, AccountsFor}
use Rattle.ruled_dispatch.proofs.Sums.{sum_set, sum_alone}

-- what `OnlyTheirOwn` says of one pass
abbrev IsItsOwn : JobActivity → Type 0
IsItsOwn v = (v.senders ≡ 0 → v.sent ≡ []) × (v.parts ≡ 0 → v.taken ≡ [])

own_set : (views : List JobActivity) (pass : ℕ) (w : JobActivity) → IsItsOwn w → OnlyTheirOwn views → OnlyTheirOwn (set views pass w)
own_set views pass w mine own j u at =
    ⊎_elim (λ (x : (j ≡ pass) × (w ≡ u)). subst IsItsOwn x.1 mine)
    (λ (x : (j ≢ pass) × (get_elem? views j ≡ some u)). own j u x.1)
    (at_set views pass j w u at)

own_snoc : (views : List JobActivity) (w : JobActivity) → IsItsOwn w → OnlyTheirOwn views → OnlyTheirOwn (views ++ w ∷ [])
own_snoc views w mine own j u at =
    ⊎_elim (λ (x : get_elem? views j ≡ some u). own j u x)
    (λ (x : w ≡ u). subst IsItsOwn x mine)
    (at_snoc views w u j at)

pub begins : IsBalanced [] (activity all_parts 1 [] [] ∷ [])
begins = (refl, refl, (λ weight. refl), one)
  where
    one : OnlyTheirOwn (activity all_parts 1 [] [] ∷ [])
    one zero v at = subst IsItsOwn (some-injective (activity all_parts 1 [] []) v at) ((λ none. refl), (λ none. refl))
    one (suc pass) v at = absurd (some-ne-none v (sym at))

pub sends : (n pass : ℕ) (v : JobActivity) (x : JobOrStop) → v.senders ≡ 1 → Pushes IsBalanced n pass v x (λ w. w ≡ activity v.parts v.senders (v.sent ++ x ∷ []) v.taken)
sends n pass v x sender items views room b at =
    let w = activity v.parts v.senders (v.sent ++ x ∷ []) v.taken in (
      w,
      (
        (let s = sum_set (λ (u : JobActivity). u.parts) views pass v w at in let p = b.0 in omega arith),
        (let s = sum_set (λ (u : JobActivity). u.senders) views pass v w at in let p = b.1 in omega arith),
        (λ weight.
            let s = sum_set (λ (u : JobActivity). sum_by weight u.sent) views pass v w at in
            let t = sum_set (λ (u : JobActivity). sum_by weight u.taken) views pass v w at in
            let p = b.2 weight in
            let q = sum_by_push weight v.sent x in
            let r = sum_by_push weight items x in
            omega arith),
        own_set views pass w ((λ none. absurd (omega arith)), (b.3 pass v at).1) b.3,
      ),
      refl,
    )

pub takes : (pass : ℕ) (v : JobActivity) → 0 < v.parts → Pops IsBalanced pass v (λ x w. w ≡ activity v.parts v.senders v.sent (v.taken ++ x ∷ []))
takes pass v part x items views b at =
    let w = activity v.parts v.senders v.sent (v.taken ++ x ∷ []) in (
      w,
      (
        (let s = sum_set (λ (u : JobActivity). u.parts) views pass v w at in let p = b.0 in omega arith),
        (let s = sum_set (λ (u : JobActivity). u.senders) views pass v w at in let p = b.1 in omega arith),
        (λ weight.
            let s = sum_set (λ (u : JobActivity). sum_by weight u.sent) views pass v w at in
            let t = sum_set (λ (u : JobActivity). sum_by weight u.taken) views pass v w at in
            let p = b.2 weight in
            let q = sum_by_push weight v.taken x in
            let r = sum_by-cons weight x items in
            omega arith),
        own_set views pass w ((b.3 pass v at).0, (λ none. absurd (omega arith))) b.3,
      ),
      refl,
    )

pub splits : (pass : ℕ) (v : JobActivity) → 1 < v.parts → Forks IsBalanced pass v (activity (v.parts - 1) v.senders v.sent v.taken) (activity 1 0 [] [])
splits pass v some_part items views b at =
    let l = activity (v.parts - 1) v.senders v.sent v.taken in
    let r = activity 1 0 [] [] in (
      (let s = sum_set (λ (u : JobActivity). u.parts) views pass v l at in
          let t = sum_by_push (λ (u : JobActivity). u.parts) (set views pass l) r in
          let p = b.0 in
          omega arith),
      (let s = sum_set (λ (u : JobActivity). u.senders) views pass v l at in
          let t = sum_by_push (λ (u : JobActivity). u.senders) (set views pass l) r in
          let p = b.1 in
          omega arith),
      (λ weight.
          let s = sum_set (λ (u : JobActivity). sum_by weight u.sent) views pass v l at in
          let t = sum_set (λ (u : JobActivity). sum_by weight u.taken) views pass v l at in
          let s' = sum_by_push (λ (u : JobActivity). sum_by weight u.sent) (set views pass l) r in
          let t' = sum_by_push (λ (u : JobActivity). sum_by weight u.taken) (set views pass l) r in
          let p = b.2 weight in
          omega arith),
      own_snoc (set views pass l) r ((λ none. refl), (λ none. refl))
          (own_set views pass l ((b.3 pass v at).0, (λ none. absurd (omega arith))) b.3),
    )

pub joins : (pass : ℕ) (v : JobActivity) (other : ℕ) (u : JobActivity) → v.senders ≡ 1 → 0 < v.parts → Merges IsBalanced pass v other u (joined v u) (activity 0 0 [] [])
joins pass v other u sender part items views b at apart at' =
    let w = joined v u in
    let e = activity 0 0 [] [] in
    let vs : List JobActivity = set views pass w in (
      (let s = sum_set (λ (y : JobActivity). y.parts) views pass v w at in
          let t = sum_set (λ (y : JobActivity). y.parts) vs other u e at' in
          let p = b.0 in
          omega arith),
      (let s = sum_set (λ (y : JobActivity). y.senders) views pass v w at in
          let t = sum_set (λ (y : JobActivity). y.senders) vs other u e at' in
          let p = b.1 in
          omega arith),
      (λ weight.
          let s = sum_set (λ (y : JobActivity). sum_by weight y.sent) views pass v w at in
          let t = sum_set (λ (y : JobActivity). sum_by weight y.taken) views pass v w at in
          let s' = sum_set (λ (y : JobActivity). sum_by weight y.sent) vs other u e at' in
          let t' = sum_set (λ (y : JobActivity). sum_by weight y.taken) vs other u e at' in
          let q = sum_by-append weight v.sent u.sent in
          let q' = sum_by-append weight v.taken u.taken in
          let p = b.2 weight in
          omega arith),
      own_set vs other e ((λ none. refl), (λ none. refl))
          (own_set views pass w ((λ none. absurd (omega arith)), (λ none. absurd (omega arith))) b.3),
    )

-- what the one pass that sends has sent is all that was sent
sent_alone : (items : List JobOrStop) (views : List JobActivity) (pass : ℕ) (v : JobActivity) → v.senders ≡ 1 → IsBalanced items views → get_elem? views pass ≡ some v
    → (weight : JobOrStop → ℕ) → sum_by (λ u. sum_by weight u.sent) views ≡ sum_by weight v.sent
sent_alone items views pass v sender b at weight =
    sum_alone (λ (u : JobActivity). u.senders) (λ (u : JobActivity). sum_by weight u.sent) views pass v at (b.1 ∙ sym sender) (λ j u here none. ap (sum_by weight) ((b.3 j u here).0 none))

pub holds_sent : (pass : ℕ) (v : JobActivity) → v.senders ≡ 1 → Learns IsBalanced pass v (λ items. AreAmong items v.sent)
holds_sent pass v sender items views b at weight =
    let p = b.2 weight in
    let s = sent_alone items views pass v sender b at weight in
    omega arith

pub accounts : (pass : ℕ) (v : JobActivity) → v.senders ≡ 1 → v.parts ≡ all_parts → Learns IsBalanced pass v (AccountsFor v)
accounts pass v sender all items views b at weight =
    let p = b.2 weight in
    let s = sent_alone items views pass v sender b at weight in
    let t = sum_alone (λ (u : JobActivity). u.parts) (λ (u : JobActivity). sum_by weight u.taken) views pass v at (b.0 ∙ sym all) (λ j u here none. ap (sum_by weight) ((b.3 j u here).1 none)) in
    omega arith
