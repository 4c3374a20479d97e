-- Rank is a total order, and the best of a list has none before it.
use Rattle.std.proofs.Common.{◌≡◌, refl, sym, ap, ◌∙◌, List, [], ◌∷◌, Bool, true, false, cond, Option, Some, None, true≢false, inl, inr}
use Rattle.std.specs.Cmp.{IsTotalOrder}
use Rattle.std.specs.Ordering.{ordering_reverse}
use Rattle.std.specs.declared.cmp.Ordering.{Ordering}
use Rattle.std.specs.declared.cmp.Ordering.TheVariants.{Less, Equal, Greater}
use Rattle.std.proofs.lemmas.Cmp.{nat_cmp_total, nat_list_cmp_total, tied_itself, back_total}
use Rattle.sched_model.specs.sched_state.Lists.{is_less}
use Rattle.sched_model.specs.Lists.{best_by, better}
use Rattle.sched_model.specs.Handout.{Offer, rank}
use Rattle.sched_laws.proofs.OfferLemmas.{In}
use Rattle.sched_model.proofs.sched_state.OrderLemmas.{then_total, on_total}

pub rank_total : IsTotalOrder rank
rank_total =
    then_total (back_total (on_total (λ (o : Offer). o.weight) nat_cmp_total))
    (then_total (on_total (λ (o : Offer). o.logical) nat_cmp_total)
    (then_total (on_total (λ (o : Offer). o.graph) nat_list_cmp_total) (on_total (λ (o : Offer). o.task) nat_list_cmp_total)))

-- R of y and x, from R of x and y
less_back : (k : Ordering) → is_less k ≡ true → is_less (ordering_reverse k) ≡ false
less_back Less e = refl
less_back Equal e = refl
less_back Greater e = absurd (true≢false (sym e))

pub not_both : {X : Type 0} {R : X → X → Ordering} → IsTotalOrder R → (x y : X) → is_less (R x y) ≡ true → is_less (R y x) ≡ false
not_both {R = R} o x y e = ap is_less (o.antisymm y x) ∙ less_back (R x y) e

pub less_is : (k : Ordering) → is_less k ≡ true → k ≡ Less
less_is Less e = refl
less_is Equal e = absurd (true≢false (sym e))
less_is Greater e = absurd (true≢false (sym e))

between : {X : Type 0} {R : X → X → Ordering} → IsTotalOrder R → (x y z : X) → is_less (R z y) ≡ false → is_less (R y x) ≡ false → (k m : Ordering) → R z y ≡ k → R z x ≡ m → is_less m ≡ false
between o x y z f g k Equal p q = refl
between o x y z f g k Greater p q = refl
between o x y z f g Less Less p q = absurd (true≢false (sym (ap is_less p) ∙ f))
between o x y z f g Equal Less p q = absurd (true≢false (sym (ap is_less (sym (o.congr z y x p) ∙ q)) ∙ g))
between o x y z f g Greater Less p q = absurd (true≢false (sym (ap is_less (o.trans y z x (o.antisymm y z ∙ ap ordering_reverse p) q)) ∙ g))

pub not_less_through : {X : Type 0} {R : X → X → Ordering} → IsTotalOrder R → (x y z : X) → is_less (R z y) ≡ false → is_less (R y x) ≡ false → is_less (R z x) ≡ false
not_less_through {R = R} o x y z f g = between o x y z f g (R z y) (R z x) refl refl

pub not_itself : {X : Type 0} {R : X → X → Ordering} → IsTotalOrder R → (x : X) → is_less (R x x) ≡ false
not_itself o x = ap is_less (tied_itself o x)

pub best_in : {X : Type 0} (before : X → X → Bool) (xs : List X) (x : X) → best_by before xs ≡ Some x → In x xs
best_in {X} before [] x e = absurd (let c : ◌≡◌ {A = Option X} None (Some x) = e in cc)
best_in {X} before (z ∷ xs) x e = elim (best_by before xs) as (λ o. best_by before xs ≡ o → better before z o ≡ Some x → In x (z ∷ xs)) [
  | None ↦ λ p q. let c : ◌≡◌ {A = Option X} (Some z) (Some x) = q in let r : z ≡ x = cc in inl r
  | Some y ↦ λ p. elim (before y z) as (λ b. cond b (Some y) (Some z) ≡ Some x → In x (z ∷ xs)) [
    | true ↦ λ q. let c : ◌≡◌ {A = Option X} (Some y) (Some x) = q in let r : y ≡ x = cc in inr (best_in before xs x (p ∙ q))
    | false ↦ λ q. let c : ◌≡◌ {A = Option X} (Some z) (Some x) = q in let r : z ≡ x = cc in inl r
  ]
] refl e

-- the first that is better
picked : {X : Type 0} (R : X → X → Ordering) → IsTotalOrder R → (z : X) (o : Option X) (x : X) → better (λ u v. is_less (R u v)) z o ≡ Some x
    → (is_less (R z x) ≡ false) × ((y : X) → o ≡ Some y → is_less (R y x) ≡ false)
picked {X} R l z None x e = let c : ◌≡◌ {A = Option X} (Some z) (Some x) = e in let r : z ≡ x = cc in
    (ap (λ w. is_less (R z w)) (sym r) ∙ not_itself l z, λ y f. absurd (let d : ◌≡◌ {A = Option X} None (Some y) = f in cc))
picked {X} R l z (Some w) x e = elim (is_less (R w z)) as (λ b. is_less (R w z) ≡ b → cond b (Some w) (Some z) ≡ Some x → (is_less (R z x) ≡ false) × ((y : X) → Some w ≡ Some y → is_less (R y x) ≡ false)) [
  | true ↦ λ p q. let c : ◌≡◌ {A = Option X} (Some w) (Some x) = q in let r : w ≡ x = cc in (
    ap (λ v. is_less (R z v)) (sym r) ∙ not_both l w z p,
    λ y f. let d : ◌≡◌ {A = Option X} (Some w) (Some y) = f in let s : y ≡ x = cc in ap (λ v. is_less (R v x)) s ∙ not_itself l x,
  )
  | false ↦ λ p q. let c : ◌≡◌ {A = Option X} (Some z) (Some x) = q in let r : z ≡ x = cc in (
    ap (λ v. is_less (R z v)) (sym r) ∙ not_itself l z,
    λ y f. let d : ◌≡◌ {A = Option X} (Some w) (Some y) = f in let s : w ≡ y = cc in ap (λ v. is_less (R v x)) (sym s) ∙ ap (λ v. is_less (R w v)) (sym r) ∙ p,
  )
] refl e

pub some_of_cons : {X : Type 0} (before : X → X → Bool) (x : X) (o : Option X) → (better before x o ≡ None) → ⊥
some_of_cons {X} before x None e = let c : ◌≡◌ {A = Option X} (Some x) None = e in cc
some_of_cons {X} before x (Some y) e = elim (before y x) as (λ b. cond b (Some y) (Some x) ≡ None → ⊥) [
  | true ↦ λ q. let c : ◌≡◌ {A = Option X} (Some y) None = q in cc
  | false ↦ λ q. let c : ◌≡◌ {A = Option X} (Some x) None = q in cc
] e

pub best_none : {X : Type 0} (before : X → X → Bool) (xs : List X) (y : X) → best_by before xs ≡ None → In y xs → ⊥
best_none before [] y e i = i
best_none before (x ∷ xs) y e i = some_of_cons before x (best_by before xs) e

pub best_first : {X : Type 0} (R : X → X → Ordering) → IsTotalOrder R → (xs : List X) (x y : X) → best_by (λ u v. is_less (R u v)) xs ≡ Some x → In y xs → is_less (R y x) ≡ false
best_first R l [] x y e i = absurd i
best_first {X} R l (z ∷ xs) x y e i =
    let t = picked R l z (best_by (λ u v. is_less (R u v)) xs) x e in
    elim i [
      | inl f ↦ ap (λ v. is_less (R v x)) (sym f) ∙ t.0
      | inr j ↦ elim (best_by (λ u v. is_less (R u v)) xs) as (λ o. best_by (λ u v. is_less (R u v)) xs ≡ o → is_less (R y x) ≡ false) [
        | None ↦ λ p. absurd (best_none (λ u v. is_less (R u v)) xs y p j)
        | Some w ↦ λ p. not_less_through l x w y (best_first R l xs w y p j) (t.1 w p)
      ] refl
    ]
