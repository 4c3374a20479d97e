-- The rows that are lacked, put by key, give the other table.
use Rattle.std.proofs.Common.{◌≡◌, refl, sym, ap, subst, ◌∙◌, List, [], ◌∷◌, Bool, true, false, cond, not, ◌&&◌, ◌||◌, filter, true≢false}
use Rattle.std.specs.List.{list_all, list_any}
use Rattle.std.proofs.lemmas.Bool.{and_from, false_from_ne_true}
use Rattle.sched_laws.proofs.sched_state.OrderLemmas.{and_left, and_right, not_false}
use Rattle.sched_laws.specs.sched_model.Lists.{rises}
use Rattle.sched_laws.proofs.ListLemmas.{all_impl}
use Rattle.record_rules.specs.Between.{put, puts, lacked, are_tied, keeps_keys}

-- rows are ordered by key, and a test of equal rows says what it should
pub record IsKeyed {X : Type 0} (before same_row : X → X → Bool) : Type 0 where
  pub irreflexive : (x : X) → before x x ≡ false
  pub transitive : (x y z : X) → before x y ≡ true → before y z ≡ true → before x z ≡ true
  pub alike : (x y z : X) → before x y ≡ false → before y x ≡ false → before x z ≡ true → before y z ≡ true
  pub same_is : (x y : X) → same_row x y ≡ true → x ≡ y

-- what comes after a row is put behind it
over_head : {X : Type 0} (before : X → X → Bool) (y : X) (rs zs : List X) → list_all (before y) rs ≡ true → puts before rs (y ∷ zs) ≡ y ∷ puts before rs zs
over_head before y [] zs e = refl
over_head {X} before y (r ∷ rs) zs e =
    ap (λ b. puts before rs (cond b (y ∷ put before r zs) (cond (before r y) (r ∷ y ∷ zs) (r ∷ zs)))) (and_left _ _ e)
    ∙ over_head before y rs (put before r zs) (and_right (before y r) _ e)

all_kept : {X : Type 0} (p q : X → Bool) (xs : List X) → list_all p xs ≡ true → list_all p (filter q xs) ≡ true
all_kept p q [] e = refl
all_kept {X} p q (x ∷ xs) e = elim (q x) as (λ b. list_all p (cond b (x ∷ filter q xs) (filter q xs)) ≡ true) [
  | true ↦ and_from _ _ (and_left _ _ e) (all_kept p q xs (and_right (p x) _ e))
  | false ↦ all_kept p q xs (and_right (p x) _ e)
]

-- a row that none of them equals is not looked at
lacked_same : {X : Type 0} (same_row : X → X → Bool) (x : X) (xs ys : List X) → list_all (λ y. not (same_row y x)) ys ≡ true → lacked same_row (x ∷ xs) ys ≡ lacked same_row xs ys
lacked_same same_row x xs [] e = refl
lacked_same {X} same_row x xs (y ∷ ys) e =
    let h : same_row y x ≡ false = not_false (same_row y x) (and_left _ _ e) in
    ap (λ b. cond (not (b || list_any (same_row y) xs)) (y ∷ lacked same_row (x ∷ xs) ys) (lacked same_row (x ∷ xs) ys)) h
    ∙ ap (λ zs. cond (not (list_any (same_row y) xs)) (y ∷ zs) zs) (lacked_same same_row x xs ys (and_right (not (same_row y x)) _ e))

none_any : {X : Type 0} (p q : X → Bool) → ((z : X) → p z ≡ true → q z ≡ false) → (xs : List X) → list_all p xs ≡ true → list_any q xs ≡ false
none_any p q h [] e = refl
none_any p q h (x ∷ xs) e = let a : q x ≡ false = h x (and_left _ _ e) in let b : list_any q xs ≡ false = none_any p q h xs (and_right (p x) _ e) in rw (a, b) refl

-- where all keys are those of y or of ys, and none is that of y
keys_after : {X : Type 0} (before : X → X → Bool) (y : X) (ys zs : List X) → list_all (λ z. not (are_tied before z y)) zs ≡ true → keeps_keys before zs (y ∷ ys) ≡ true → keeps_keys before zs ys ≡ true
keys_after before y ys [] e f = refl
keys_after before y ys (z ∷ zs) e f =
    let h : are_tied before z y ≡ false = not_false (are_tied before z y) (and_left _ _ e) in
    let g : (are_tied before z y || list_any (are_tied before z) ys) ≡ true = and_left _ _ f in
    and_from _ _ (ap (λ b. b || list_any (are_tied before z) ys) (sym h) ∙ g) (keys_after before y ys zs (and_right (not (are_tied before z y)) _ e) (and_right (list_any (are_tied before z) (y ∷ ys)) _ f))

untied : {X : Type 0} (before : X → X → Bool) (z y : X) → before y z ≡ true → not (are_tied before z y) ≡ true
untied before z y e = by_cases (before z y) (before y z) e
  where
    by_cases : (b c : Bool) → c ≡ true → not (not b && not c) ≡ true
    by_cases true c e = refl
    by_cases false true e = refl
    by_cases false false e = absurd (true≢false (sym e))

untied_left : {X : Type 0} (before : X → X → Bool) (z y : X) → before z y ≡ true → are_tied before z y ≡ false
untied_left before z y e = by_cases (before z y) (before y z) e
  where
    by_cases : (b c : Bool) → b ≡ true → (not b && not c) ≡ false
    by_cases true c e = refl
    by_cases false c e = absurd (true≢false (sym e))

asymmetric : {X : Type 0} {before same_row : X → X → Bool} → IsKeyed before same_row → (x y : X) → before x y ≡ true → before y x ≡ false
asymmetric {before = before} k x y e = false_from_ne_true (before y x) (λ f. true≢false (sym (k.transitive x y x e f) ∙ k.irreflexive x))

not_same : {X : Type 0} {before same_row : X → X → Bool} → IsKeyed before same_row → (x y : X) → before x y ≡ true → same_row x y ≡ false
not_same {before = before} {same_row = same_row} k x y e = false_from_ne_true (same_row x y) (λ f. true≢false (sym e ∙ ap (before x) (sym (k.same_is x y f)) ∙ k.irreflexive x))

not_same_after : {X : Type 0} {before same_row : X → X → Bool} → IsKeyed before same_row → (x y w : X) → before y x ≡ false → before y w ≡ true → not (same_row w x) ≡ true
not_same_after {before = before} {same_row = same_row} k x y w e f = ap not (false_from_ne_true (same_row w x) (λ g. true≢false (sym f ∙ ap (before y) (k.same_is w x g) ∙ e)))

pub put_lacked : {X : Type 0} {before same_row : X → X → Bool} → IsKeyed before same_row → (xs ys : List X) → rises before xs ≡ true → rises before ys ≡ true → keeps_keys before xs ys ≡ true
    → puts before (lacked same_row xs ys) xs ≡ ys
put_lacked k [] [] r s e = refl
put_lacked k (x ∷ xs) [] r s e = absurd (true≢false (sym e))
put_lacked {before = before} {same_row = same_row} k [] (y ∷ ys) r s e =
    over_head before y (lacked same_row [] ys) [] (all_kept (before y) (λ w. not (list_any (same_row w) [])) ys (and_left _ _ s))
    ∙ ap (λ zs. y ∷ zs) (put_lacked k [] ys r (and_right (list_all (before y) ys) _ s) e)
put_lacked {X} {before = before} {same_row = same_row} k (x ∷ xs) (y ∷ ys) r s e =
    let after_x : list_all (before x) xs ≡ true = and_left _ _ r in
    let after_y : list_all (before y) ys ≡ true = and_left _ _ s in
    let rx : rises before xs ≡ true = and_right (list_all (before x) xs) _ r in
    let ry : rises before ys ≡ true = and_right (list_all (before y) ys) _ s in
    elim (before y x) as (λ b. before y x ≡ b → puts before (lacked same_row (x ∷ xs) (y ∷ ys)) (x ∷ xs) ≡ y ∷ ys) [
      | true ↦ λ f.
          let all : list_all (before y) (x ∷ xs) ≡ true = and_from _ _ f (all_impl (before x) (before y) (λ z g. k.transitive y x z f g) xs after_x) in
          let new : list_any (same_row y) (x ∷ xs) ≡ false = none_any (before y) (same_row y) (λ z g. not_same k y z g) (x ∷ xs) all in
          let rest : List X = lacked same_row (x ∷ xs) ys in
          let back : before x y ≡ false = asymmetric k y x f in
          ap (λ b. puts before (cond (not b) (y ∷ rest) rest) (x ∷ xs)) new
          ∙ ap (λ b. puts before rest (cond b (x ∷ put before y xs) (cond (before y x) (y ∷ x ∷ xs) (y ∷ xs)))) back
          ∙ ap (λ b. puts before rest (cond b (y ∷ x ∷ xs) (y ∷ xs))) f
          ∙ over_head before y rest (x ∷ xs) (all_kept (before y) (λ w. not (list_any (same_row w) (x ∷ xs))) ys after_y)
          ∙ ap (λ zs. y ∷ zs) (put_lacked k (x ∷ xs) ys r ry (keys_after before y ys (x ∷ xs) (all_impl (before y) (λ z. not (are_tied before z y)) (λ z g. untied before z y g) (x ∷ xs) all) e))
      | false ↦ λ f. elim (before x y) as (λ b. before x y ≡ b → puts before (lacked same_row (x ∷ xs) (y ∷ ys)) (x ∷ xs) ≡ y ∷ ys) [
        | true ↦ λ g.
            let all : list_all (before x) (y ∷ ys) ≡ true = and_from _ _ g (all_impl (before y) (before x) (λ z h. k.transitive x y z g h) ys after_y) in
            absurd (true≢false (sym (and_left _ _ e) ∙ none_any (before x) (are_tied before x) (λ z h. untied_left before x z h) (y ∷ ys) all))
        | false ↦ λ g.
            let rest : List X = lacked same_row xs ys in
            let tail : lacked same_row (x ∷ xs) ys ≡ rest = lacked_same same_row x xs ys (all_impl (before y) (λ w. not (same_row w x)) (λ w h. not_same_after k x y w f h) ys after_y) in
            let from_y : list_all (before y) xs ≡ true = all_impl (before x) (before y) (λ z h. k.alike x y z g f h) xs after_x in
            let ih : puts before rest xs ≡ ys = put_lacked k xs ys rx ry (keys_after before y ys xs (all_impl (before y) (λ z. not (are_tied before z y)) (λ z h. untied before z y h) xs from_y) (and_right (list_any (are_tied before x) (y ∷ ys)) _ e)) in
            elim (same_row y x) as (λ b. same_row y x ≡ b → puts before (cond (not (b || list_any (same_row y) xs)) (y ∷ lacked same_row (x ∷ xs) ys) (lacked same_row (x ∷ xs) ys)) (x ∷ xs) ≡ y ∷ ys) [
              | true ↦ λ h.
                  let is : y ≡ x = k.same_is y x h in
                  let behind : list_all (before x) rest ≡ true = subst (λ (z : X). list_all (before z) rest ≡ true) is (all_kept (before y) (λ w. not (list_any (same_row w) xs)) ys after_y) in
                  ap (λ zs. puts before zs (x ∷ xs)) tail ∙ over_head before x rest xs behind ∙ ap (λ zs. x ∷ zs) ih ∙ ap (λ (z : X). z ∷ ys) (sym is)
              | false ↦ λ h.
                  let new : list_any (same_row y) xs ≡ false = none_any (before y) (same_row y) (λ z w. not_same k y z w) xs from_y in
                  ap (λ b. puts before (cond (not b) (y ∷ lacked same_row (x ∷ xs) ys) (lacked same_row (x ∷ xs) ys)) (x ∷ xs)) new
                  ∙ ap (λ zs. puts before (y ∷ zs) (x ∷ xs)) tail
                  ∙ ap (λ b. puts before rest (cond b (x ∷ put before y xs) (cond (before y x) (y ∷ x ∷ xs) (y ∷ xs)))) g
                  ∙ ap (λ b. puts before rest (cond b (y ∷ x ∷ xs) (y ∷ xs))) f
                  ∙ over_head before y rest xs (all_kept (before y) (λ w. not (list_any (same_row w) xs)) ys after_y)
                  ∙ ap (λ zs. y ∷ zs) ih
            ] refl
      ] refl
    ] refl
