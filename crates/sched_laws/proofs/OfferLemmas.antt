-- What hand-out gives out is eligible, fits and is the first in rank.
use Rattle.std.proofs.Common.{◌≡◌, refl, sym, ap, subst, ◌∙◌, ℕ, zero, suc, ◌+◌, List, [], ◌∷◌, ◌++◌, Bool, true, false, cond, not, ◌&&◌, ◌⊎◌, inl, inr, filter, flat_map, Option, Some, None, slice_get, arith, true≢false}
use Rattle.std.specs.List.{enumerate_from, zip}
use Rattle.sched_model.specs.Schedule.{Schedule, tasks_of, is_running, is_paused}
use Rattle.sched_model.specs.Handout.{Offer, offer_of, offers, offers_in, offers_at, is_ready}
use Rattle.sched_laws.specs.Offered.{IsEligible}
pub use Rattle.sched_laws.specs.Passing.{In}
use Rattle.sched_model.proofs.sched_state.OrderLemmas.{and_left, and_right}
use Rattle.indexmap.proofs.ReorderLemmas.{slice_get-zip_some}
use Rattle.std.proofs.lemmas.Bool.{not-true, and_from, not_from_false}

-- ---- members

in_append : {X : Type 0} (x : X) (ys zs : List X) → In x (ys ++ zs) → In x ys ⊎ In x zs
in_append x [] zs i = inr i
in_append x (y ∷ ys) zs (inl e) = inl (inl e)
in_append x (y ∷ ys) zs (inr i) = elim (in_append x ys zs i) [ inl j ↦ inl (inr j) | inr j ↦ inr j ]

pub append_left : {X : Type 0} (x : X) (ys zs : List X) → In x ys → In x (ys ++ zs)
append_left x [] zs i = absurd i
append_left x (y ∷ ys) zs (inl e) = inl e
append_left x (y ∷ ys) zs (inr i) = inr (append_left x ys zs i)

pub append_right : {X : Type 0} (x : X) (ys zs : List X) → In x zs → In x (ys ++ zs)
append_right x [] zs i = i
append_right x (y ∷ ys) zs i = inr (append_right x ys zs i)

pub in_filter : {X : Type 0} (p : X → Bool) (x : X) (ys : List X) → In x (filter p ys) → In x ys × (p x ≡ true)
in_filter p x [] i = absurd i
in_filter p x (y ∷ ys) i = elim (p y) as (λ b. p y ≡ b → In x (cond b (y ∷ filter p ys) (filter p ys)) → (In x (y ∷ ys)) × (p x ≡ true)) [
  | true ↦ λ e j. elim j [
    | inl f ↦ (inl f, ap p (sym f) ∙ e)
    | inr k ↦ let t = in_filter p x ys k in (inr t.0, t.1)
  ]
  | false ↦ λ e j. let t = in_filter p x ys j in (inr t.0, t.1)
] refl i

pub into_filter : {X : Type 0} (p : X → Bool) (x : X) (ys : List X) → In x ys → p x ≡ true → In x (filter p ys)
into_filter p x [] i e = absurd i
into_filter p x (y ∷ ys) i e = elim (p y) as (λ b. p y ≡ b → In x (cond b (y ∷ filter p ys) (filter p ys))) [
  | true ↦ λ f. elim i [ inl g ↦ inl g | inr j ↦ inr (into_filter p x ys j e) ]
  | false ↦ λ f. elim i [ inl g ↦ absurd (true≢false (sym e ∙ ap p (sym g) ∙ f)) | inr j ↦ into_filter p x ys j e ]
] refl

abbrev FoundAt : {X Y : Type 0} → (ℕ × X → List Y) → Y → ℕ → List X → Type 0
FoundAt {X} f y n xs = (k : ℕ) × (x : X) × (slice_get xs k ≡ Some x) × In y (f (n + k, x))

in_enumerated : {X Y : Type 0} (f : ℕ × X → List Y) (y : Y) (n : ℕ) (xs : List X) → In y (flat_map f (enumerate_from n xs)) → FoundAt f y n xs
in_enumerated f y n [] i = absurd i
in_enumerated {X} f y n (x ∷ xs) i = elim (in_append y (f (n, x)) (flat_map f (enumerate_from (n + 1) xs)) i) [
  | inl j ↦ let e : n ≡ n + 0 = omega arith in (0, x, refl, subst (λ (k : ℕ). In y (f (k, x))) e j)
  | inr j ↦ let t = in_enumerated f y (n + 1) xs j in
      let e : (n + 1) + t.0 ≡ n + suc t.0 = omega arith in
      (suc t.0, t.1, t.2, subst (λ (k : ℕ). In y (f (k, t.1))) e t.3)
]

into_enumerated : {X Y : Type 0} (f : ℕ × X → List Y) (y : Y) (n k : ℕ) (x : X) (xs : List X) → slice_get xs k ≡ Some x → In y (f (n + k, x)) → In y (flat_map f (enumerate_from n xs))
into_enumerated {X} f y n k x [] e i = absurd (let c : ◌≡◌ {A = Option X} None (Some x) = e in cc)
into_enumerated {X} f y n zero x (z ∷ xs) e i =
    let r : z ≡ x = let c : ◌≡◌ {A = Option X} (Some z) (Some x) = e in cc in
    let q : n + 0 ≡ n = omega arith in
    append_left y (f (n, z)) _ (subst (λ (w : X). In y (f (n, w))) (sym r) (subst (λ (m : ℕ). In y (f (m, x))) q i))
into_enumerated f y n (suc k) x (z ∷ xs) e i =
    let q : n + suc k ≡ (n + 1) + k = omega arith in
    append_right y (f (n, z)) _ (into_enumerated f y (n + 1) k x xs e (subst (λ (m : ℕ). In y (f (m, x))) q i))

zip_get : {X Y : Type 0} (xs : List X) (ys : List Y) (k : ℕ) (e : X × Y) → slice_get (zip xs ys) k ≡ Some e → (slice_get xs k ≡ Some e.0) × (slice_get ys k ≡ Some e.1)
zip_get {X} {Y} [] ys k e q = absurd (let c : ◌≡◌ {A = Option (X × Y)} None (Some e) = q in cc)
zip_get {X} {Y} (x ∷ xs) [] k e q = absurd (let c : ◌≡◌ {A = Option (X × Y)} None (Some e) = q in cc)
zip_get {X} {Y} (x ∷ xs) (y ∷ ys) zero e q = let c : ◌≡◌ {A = Option (X × Y)} (Some (x, y)) (Some e) = q in let r : (x, y) ≡ e = cc in (ap (λ p. Some p.0) r, ap (λ p. Some p.1) r)
zip_get (x ∷ xs) (y ∷ ys) (suc k) e q = zip_get xs ys k e q

-- ---- offers

when_true : {X : Type 0} (y : X) (b : Bool) (xs : List X) → In y (elim b [ true ↦ xs | false ↦ [] ]) → (b ≡ true) × In y xs
when_true y true xs i = (refl, i)
when_true y false xs i = absurd i

pub eligible : (a : Schedule) (o : Offer) → In o (offers a) → IsEligible a o
eligible a o i =
    let t = in_enumerated (offers_in a) o 0 a.runs i in
    let r = t.1 in
    let u = when_true o (is_running r.phase && not (is_paused a r.graph)) (flat_map (offers_at a (0 + t.0) r) (enumerate_from 0 (zip (tasks_of a r) r.instances))) t.3 in
    let w = in_enumerated (offers_at a (0 + t.0) r) o 0 (zip (tasks_of a r) r.instances) u.1 in
    let z = zip_get (tasks_of a r) r.instances w.0 w.1 w.2 in
    let v = when_true o (is_ready a.now w.1.0 w.1.1) (offer_of a (0 + t.0) r (0 + w.0) w.1.0 ∷ []) w.3 in
    let same : o ≡ offer_of a (0 + t.0) r (0 + w.0) w.1.0 = elim v.1 [ inl e ↦ sym e | inr n ↦ absurd n ] in
    let at_run : o.run ≡ 0 + t.0 = ap (λ (x : Offer). x.run) same in
    let at_place : o.place ≡ 0 + w.0 = ap (λ (x : Offer). x.place) same in
    let er : t.0 ≡ o.run = omega arith in
    let ep : w.0 ≡ o.place = omega arith in
    record {
      run = r;
      task = w.1.0;
      instance = w.1.1;
      run_is = subst (λ (k : ℕ). slice_get a.runs k ≡ Some r) er t.2;
      task_is = subst (λ (k : ℕ). slice_get (tasks_of a r) k ≡ Some w.1.0) ep z.0;
      instance_is = subst (λ (k : ℕ). slice_get r.instances k ≡ Some w.1.1) ep z.1;
      running = and_left _ _ u.0;
      unpaused = not-true _ (and_right _ _ u.0);
      ready = v.0;
      offer_is = subst (λ (k : ℕ). o ≡ offer_of a k r o.place w.1.0) (sym at_run) (subst (λ (k : ℕ). o ≡ offer_of a (0 + t.0) r k w.1.0) (sym at_place) same);
    }

is_true_when : {X : Type 0} (y : X) (b : Bool) (xs : List X) → b ≡ true → In y xs → In y (elim b [ true ↦ xs | false ↦ [] ])
is_true_when y true xs e i = i
is_true_when y false xs e i = absurd (true≢false (sym e))

pub offered : (a : Schedule) (o : Offer) → IsEligible a o → In o (offers a)
offered a o h =
    let same : offer_of a o.run h.run o.place h.task ≡ o = sym h.offer_is in
    let zr : 0 + o.run ≡ o.run = omega arith in
    let zp : 0 + o.place ≡ o.place = omega arith in
    let i0 : In o (offers_at a o.run h.run (o.place, (h.task, h.instance))) = is_true_when o _ _ h.ready (inl same) in
    let i1 : In o (offers_in a (o.run, h.run)) =
    is_true_when o _ _ (and_from _ _ h.running (not_from_false _ h.unpaused))
    (into_enumerated (offers_at a o.run h.run) o 0 o.place (h.task, h.instance) (zip (tasks_of a h.run) h.run.instances)
    (slice_get-zip_some (tasks_of a h.run) h.run.instances o.place h.task h.instance h.task_is h.instance_is)
    (subst (λ (k : ℕ). In o (offers_at a o.run h.run (k, (h.task, h.instance)))) (sym zp) i0)) in
    into_enumerated (offers_in a) o 0 o.run h.run a.runs h.run_is (subst (λ (k : ℕ). In o (offers_in a (k, h.run))) (sym zr) i1)
