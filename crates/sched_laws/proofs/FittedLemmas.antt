-- What the tasks of another text get of the instances of a run, each by its id: each instance once, where no task is lost.
use Rattle.std.proofs.Common.{◌≡◌, refl, sym, ap, subst, ◌∙◌, ℕ, suc, ◌+◌, List, [], ◌∷◌, ◌++◌, Bool, true, false, cond, inl, inr, map, flat_map, find, Option, Some, None, option_and_then, is_some, slice_get, arith, true≢false, zip}
use Rattle.std.specs.List.{list_all, position_from}
use Rattle.std.specs.List.Sorted.{IsPermutation}
use Rattle.std.proofs.lemmas.Bool.{and_from}
use Rattle.std.proofs.lemmas.List.{append_assoc}
use Rattle.std.proofs.lemmas.List.Folds.{flat_map-map}
use Rattle.std.proofs.lemmas.List.Sorted.{IsPermutation-refl, IsPermutation-trans, IsPermutation-append_left, IsPermutation-append_right, IsPermutation-append_comm}
use Rattle.graph_file.specs.declared.task_specs.TaskSpec.{TaskSpec}
use Rattle.dag_check.specs.Names.{has, ids_of, repeats}
use Rattle.sched_model.specs.instance_machine.Instances.{InstanceValue}
use Rattle.sched_model.specs.sched_state.Lists.{same}
use Rattle.sched_model.specs.sched_state.declared.runs.RunPhase.{RunPhase}
use Rattle.sched_model.proofs.sched_state.OrderLemmas.{and_left, and_right, or_left, or_right}
use Rattle.sched_model.proofs.sched_state.NameLemmas.{same_is}
use Rattle.sched_model.specs.Causes.{task_named}
use Rattle.sched_model.specs.Lists.{all_pairs}
use Rattle.sched_model.specs.Replacing.{pair_of, fitted_if, fitted}
use Rattle.sched_laws.proofs.OfferLemmas.{In, append_left, append_right}
use Rattle.sched_laws.proofs.GraphLemmas.{flip_same}
use Rattle.sched_laws.proofs.KeptLemmas.{kept_tries, newcomer_tries}

-- a task beside its instance
abbrev pub Pair : Type 0
Pair = TaskSpec × InstanceValue

abbrev pub pair_ids : List Pair → List (List ℕ)
pair_ids es = map (λ (e : Pair). e.0.task_id) es

-- ---- members
pub all_member : {X : Type 0} (p : X → Bool) (xs : List X) (x : X) → list_all p xs ≡ true → In x xs → p x ≡ true
all_member p [] x e i = absurd i
all_member p (y ∷ ys) x e (inl is) = ap p (sym is) ∙ and_left _ _ e
all_member p (y ∷ ys) x e (inr i) = all_member p ys x (and_right (p y) _ e) i

pub find_member : {X : Type 0} (p : X → Bool) (xs : List X) (x : X) → find p xs ≡ Some x → In x xs
find_member {X} p [] x e = absurd (let c : ◌≡◌ {A = Option X} None (Some x) = e in cc)
find_member {X} p (y ∷ ys) x e = elim (p y) as (λ b. cond b (Some y) (find p ys) ≡ Some x → In x (y ∷ ys)) [
  | true ↦ λ f. let c : ◌≡◌ {A = Option X} (Some y) (Some x) = f in let is : y ≡ x = cc in inl is
  | false ↦ λ f. inr (find_member p ys x f)
] e

-- what is found nowhere is nowhere
pub none_member : {X : Type 0} (p : X → Bool) (xs : List X) (x : X) → find p xs ≡ None → In x xs → p x ≡ false
none_member p [] x e i = absurd i
none_member {X} p (y ∷ ys) x e i = elim (p y) as (λ b. p y ≡ b → cond b (Some y) (find p ys) ≡ None → p x ≡ false) [
  | true ↦ λ f g. absurd (let c : ◌≡◌ {A = Option X} (Some y) None = g in cc)
  | false ↦ λ f g. elim i [ inl is ↦ ap p (sym is) ∙ f | inr j ↦ none_member p ys x g j ]
] refl e

pub flat_member : {X Y : Type 0} (f : X → List Y) (xs : List X) (x : X) (y : Y) → In x xs → In y (f x) → In y (flat_map f xs)
flat_member f [] x y i j = absurd i
flat_member f (z ∷ zs) x y (inl is) j = append_left y (f z) (flat_map f zs) (subst (λ w. In y (f w)) (sym is) j)
flat_member f (z ∷ zs) x y (inr i) j = append_right y (f z) (flat_map f zs) (flat_member f zs x y i j)

-- an id that none has is not that of a member
apart_member : {X : Type 0} (key : X → List ℕ) (id : List ℕ) (xs : List X) (x : X) → has (map key xs) id ≡ false → In x xs → same id (key x) ≡ false
apart_member key id [] x e i = absurd i
apart_member key id (y ∷ ys) x e (inl is) = ap (λ z. same id (key z)) (sym is) ∙ or_left _ _ e
apart_member key id (y ∷ ys) x e (inr i) = apart_member key id ys x (or_right (same id (key y)) _ e) i

-- where each id stands once, a member is found by its own
pub found_once : {X : Type 0} (key : X → List ℕ) (xs : List X) (x : X) (id : List ℕ) → repeats (map key xs) ≡ false → In x xs → same (key x) id ≡ true → find (λ (y : X). same (key y) id) xs ≡ Some x
found_once key [] x id once i e = absurd i
found_once {X} key (y ∷ ys) x id once (inl is) e =
    let here : same (key y) id ≡ true = ap (λ z. same (key z) id) is ∙ e in
    ap (λ b. cond b (Some y) (find (λ (z : X). same (key z) id) ys)) here ∙ ap (λ z. Some z) is
found_once {X} key (y ∷ ys) x id once (inr i) e =
    let other : same (key y) id ≡ false = ap (same (key y)) (sym (same_is (key x) id e)) ∙ apart_member key (key y) ys x (or_left _ _ once) i in
    ap (λ b. cond b (Some y) (find (λ (z : X). same (key z) id) ys)) other ∙ found_once key ys x id (or_right (has (map key ys) (key y)) _ once) i e

-- ---- gathered by id
-- what each task makes of the pair with its id
abbrev gathered : {A : Type 0} → (TaskSpec → Option Pair → List A) → List Pair → List TaskSpec → List A
gathered f es ns = flat_map (λ (n : TaskSpec). f n (pair_of n.task_id es)) ns

nothing : {A : Type 0} (f : TaskSpec → Option Pair → List A) → ((n : TaskSpec) → f n None ≡ []) → (ns : List TaskSpec) → gathered f [] ns ≡ []
nothing f none [] = refl
nothing f none (n ∷ ns) = ap (λ zs. zs ++ gathered f [] ns) (none n) ∙ nothing f none ns

none_of : (id : List ℕ) (es : List Pair) → has (pair_ids es) id ≡ false → pair_of id es ≡ None
none_of id [] e = refl
none_of id (x ∷ es) e = ap (λ b. cond b (Some x) (pair_of id es)) (flip_same id x.0.task_id (or_left _ _ e)) ∙ none_of id es (or_right (same id x.0.task_id) _ e)

-- a pair makes no difference to tasks of other ids
others_get : {A : Type 0} (f : TaskSpec → Option Pair → List A) (x : Pair) (es : List Pair) (ns : List TaskSpec) → has (ids_of ns) x.0.task_id ≡ false → gathered f (x ∷ es) ns ≡ gathered f es ns
others_get f x es [] e = refl
others_get f x es (n ∷ ns) e =
    ap (λ b. f n (cond b (Some x) (pair_of n.task_id es)) ++ gathered f (x ∷ es) ns) (or_left _ _ e)
    ∙ ap (λ zs. f n (pair_of n.task_id es) ++ zs) (others_get f x es ns (or_right (same x.0.task_id n.task_id) _ e))

moved : {A : Type 0} (xs ys zs : List A) → IsPermutation (xs ++ (ys ++ zs)) (ys ++ (xs ++ zs))
moved xs ys zs =
    subst (λ ws. IsPermutation ws (ys ++ (xs ++ zs))) (append_assoc xs ys zs)
    (subst (IsPermutation ((xs ++ ys) ++ zs)) (append_assoc ys xs zs) (IsPermutation-append_left zs (xs ++ ys) (ys ++ xs) (IsPermutation-append_comm xs ys)))

-- a further pair adds what the task of its id makes of it
put_in : {A : Type 0} (f : TaskSpec → Option Pair → List A) (x : Pair) (es : List Pair) (ns : List TaskSpec) (made : List A) → ((n : TaskSpec) → f n None ≡ [])
    → repeats (ids_of ns) ≡ false → is_some (task_named ns x.0.task_id) ≡ true → has (pair_ids es) x.0.task_id ≡ false
    → ((n : TaskSpec) → In n ns → same x.0.task_id n.task_id ≡ true → f n (Some x) ≡ made) → IsPermutation (made ++ gathered f es ns) (gathered f (x ∷ es) ns)
put_in f x es [] made none once there apart is = absurd (true≢false (sym there))
put_in {A} f x es (n ∷ ns) made none once there apart is =
    let rest : List A = gathered f es ns in
    let old : List A = f n (pair_of n.task_id es) in
    elim (same x.0.task_id n.task_id) as (λ b. same x.0.task_id n.task_id ≡ b → IsPermutation (made ++ (old ++ rest)) (f n (cond b (Some x) (pair_of n.task_id es)) ++ gathered f (x ∷ es) ns)) [
      | true ↦ λ e.
          let id : x.0.task_id ≡ n.task_id = same_is x.0.task_id n.task_id e in
          let empty : old ≡ [] = ap (f n) (none_of n.task_id es (ap (has (pair_ids es)) (sym id) ∙ apart)) ∙ none n in
          let kept : gathered f (x ∷ es) ns ≡ rest = others_get f x es ns (ap (has (ids_of ns)) id ∙ or_left _ _ once) in
          let equal : made ++ (old ++ rest) ≡ f n (Some x) ++ gathered f (x ∷ es) ns =
          ap (λ zs. made ++ (zs ++ rest)) empty ∙ (ap (λ zs. zs ++ rest) (sym (is n (inl refl) e)) ∙ ap (λ zs. f n (Some x) ++ zs) (sym kept)) in
          subst (IsPermutation (made ++ (old ++ rest))) equal (IsPermutation-refl (made ++ (old ++ rest)))
      | false ↦ λ e.
          let later : is_some (task_named ns x.0.task_id) ≡ true = ap (λ b. is_some (cond b (Some n) (task_named ns x.0.task_id))) (sym (flip_same x.0.task_id n.task_id e)) ∙ there in
          IsPermutation-trans (made ++ (old ++ rest)) (old ++ (made ++ rest)) (old ++ gathered f (x ∷ es) ns) (moved made old rest)
          (IsPermutation-append_right old (made ++ rest) (gathered f (x ∷ es) ns)
          (put_in f x es ns made none (or_right (has (ids_of ns) n.task_id) _ once) later apart (λ m i. is m (inr i))))
    ] refl

-- where each id stands once, and that of each pair is there, what the tasks make is what the pairs make, in another order
pub gathered_all : {A : Type 0} (f : TaskSpec → Option Pair → List A) (h : Pair → List A) (es : List Pair) (ns : List TaskSpec) → ((n : TaskSpec) → f n None ≡ [])
    → repeats (ids_of ns) ≡ false → repeats (pair_ids es) ≡ false → list_all (λ (x : Pair). is_some (task_named ns x.0.task_id)) es ≡ true
    → ((n : TaskSpec) (x : Pair) → In n ns → In x es → same x.0.task_id n.task_id ≡ true → f n (Some x) ≡ h x) → IsPermutation (flat_map h es) (gathered f es ns)
gathered_all f h [] ns none once apart there is = subst (IsPermutation []) (sym (nothing f none ns)) (IsPermutation-refl [])
gathered_all f h (x ∷ es) ns none once apart there is =
    IsPermutation-trans (h x ++ flat_map h es) (h x ++ gathered f es ns) (gathered f (x ∷ es) ns)
    (IsPermutation-append_right (h x) (flat_map h es) (gathered f es ns)
    (gathered_all f h es ns none once (or_right (has (pair_ids es) x.0.task_id) _ apart) (and_right (is_some (task_named ns x.0.task_id)) _ there) (λ n y i j. is n y i (inr j))))
    (put_in f x es ns (h x) none once (and_left _ _ there) (or_left _ _ apart) (λ n i. is n x i (inl refl)))

-- ---- tasks beside instances
pub zip_none : (ts : List TaskSpec) → zip {K = TaskSpec} {X = InstanceValue} ts [] ≡ []
zip_none [] = refl
zip_none (t ∷ ts) = refl

pub zip_ids : (p : TaskSpec → InstanceValue → Bool) (ts : List TaskSpec) (is : List InstanceValue) → all_pairs p ts is ≡ true → pair_ids (zip ts is) ≡ ids_of ts
zip_ids p [] [] e = refl
zip_ids p [] (i ∷ is) e = absurd (true≢false (sym e))
zip_ids p (t ∷ ts) [] e = absurd (true≢false (sym e))
zip_ids p (t ∷ ts) (i ∷ is) e = ap (λ zs. t.task_id ∷ zs) (zip_ids p ts is (and_right (p t i) _ e))

pub zip_all : (q : TaskSpec → Bool) (ts : List TaskSpec) (is : List InstanceValue) → list_all q ts ≡ true → list_all (λ (x : Pair). q x.0) (zip ts is) ≡ true
zip_all q [] is e = refl
zip_all q (t ∷ ts) [] e = refl
zip_all q (t ∷ ts) (i ∷ is) e = and_from _ _ (and_left _ _ e) (zip_all q ts is (and_right (q t) _ e))

pub zip_seconds : (q : InstanceValue → Bool) (ts : List TaskSpec) (is : List InstanceValue) → list_all q is ≡ true → list_all (λ (x : Pair). q x.1) (zip ts is) ≡ true
zip_seconds q [] is e = refl
zip_seconds q (t ∷ ts) [] e = refl
zip_seconds q (t ∷ ts) (i ∷ is) e = and_from _ _ (and_left _ _ e) (zip_seconds q ts is (and_right (q i) _ e))

pub zip_passes : (p : TaskSpec → InstanceValue → Bool) (ts : List TaskSpec) (is : List InstanceValue) → all_pairs p ts is ≡ true → list_all (λ (x : Pair). p x.0 x.1) (zip ts is) ≡ true
zip_passes p [] [] e = refl
zip_passes p [] (i ∷ is) e = refl
zip_passes p (t ∷ ts) [] e = refl
zip_passes p (t ∷ ts) (i ∷ is) e = and_from _ _ (and_left _ _ e) (zip_passes p ts is (and_right (p t i) _ e))

pub zip_flat : {A : Type 0} (f : InstanceValue → List A) (p : TaskSpec → InstanceValue → Bool) (ts : List TaskSpec) (is : List InstanceValue) → all_pairs p ts is ≡ true → flat_map (λ (x : Pair). f x.1) (zip ts is) ≡ flat_map f is
zip_flat f p [] [] e = refl
zip_flat f p [] (i ∷ is) e = absurd (true≢false (sym e))
zip_flat f p (t ∷ ts) [] e = absurd (true≢false (sym e))
zip_flat f p (t ∷ ts) (i ∷ is) e = ap (λ zs. f i ++ zs) (zip_flat f p ts is (and_right (p t i) _ e))

-- each task beside what it gets
pub made_flat : {A : Type 0} (f : Pair → List A) (g : TaskSpec → InstanceValue) (ns : List TaskSpec) → flat_map f (zip ns (map g ns)) ≡ flat_map (λ (n : TaskSpec). f (n, g n)) ns
made_flat f g [] = refl
made_flat f g (n ∷ ns) = ap (λ zs. f (n, g n) ++ zs) (made_flat f g ns)

pub made_passes : (p : TaskSpec → InstanceValue → Bool) (g : TaskSpec → InstanceValue) (ns : List TaskSpec) → ((n : TaskSpec) → In n ns → p n (g n) ≡ true) → all_pairs p ns (map g ns) ≡ true
made_passes p g [] h = refl
made_passes p g (n ∷ ns) h = and_from _ _ (h n (inl refl)) (made_passes p g ns (λ m i. h m (inr i)))

pub made_found : (g : TaskSpec → InstanceValue) (id : List ℕ) (ns : List TaskSpec) (n : TaskSpec) → task_named ns id ≡ Some n → pair_of id (zip ns (map g ns)) ≡ Some (n, g n)
made_found g id [] n e = absurd (let c : ◌≡◌ {A = Option TaskSpec} None (Some n) = e in cc)
made_found g id (m ∷ ns) n e = elim (same m.task_id id) as (λ b. cond b (Some m) (task_named ns id) ≡ Some n → cond b (Some (m, g m)) (pair_of id (zip ns (map g ns))) ≡ Some (n, g n)) [
  | true ↦ λ f. let c : ◌≡◌ {A = Option TaskSpec} (Some m) (Some n) = f in let is : m ≡ n = cc in ap (λ (k : TaskSpec). Some (k, g k)) is
  | false ↦ λ f. made_found g id ns n f
] e

-- what stands at the place of a task is what stands beside it
pub beside_place : {A : Type 0} (f : InstanceValue → Option A) (p : TaskSpec → InstanceValue → Bool) (q : TaskSpec → Bool) (k : ℕ) (ts : List TaskSpec) (is js : List InstanceValue) → all_pairs p ts is ≡ true
    → ((m : ℕ) → slice_get js (k + m) ≡ slice_get is m)
    → option_and_then (λ (m : ℕ). option_and_then f (slice_get js m)) (position_from q k ts) ≡ option_and_then (λ (x : Pair). f x.1) (find (λ (x : Pair). q x.0) (zip ts is))
beside_place f p q k [] [] js e h = refl
beside_place f p q k [] (i ∷ is) js e h = absurd (true≢false (sym e))
beside_place f p q k (t ∷ ts) [] js e h = absurd (true≢false (sym e))
beside_place f p q k (t ∷ ts) (i ∷ is) js e h =
    elim (q t) as (λ b. option_and_then (λ (m : ℕ). option_and_then f (slice_get js m)) (cond b (Some k) (position_from q (k + 1) ts)) ≡ option_and_then (λ (x : Pair). f x.1) (cond b (Some (t, i)) (find (λ (x : Pair). q x.0) (zip ts is)))) [
      | true ↦ let z : k ≡ k + 0 = omega arith in ap (λ m. option_and_then f (slice_get js m)) z ∙ ap (option_and_then f) (h 0)
      | false ↦ beside_place f p q (k + 1) ts is js (and_right (p t i) _ e) (λ m. let z : (k + 1) + m ≡ k + suc m = omega arith in ap (slice_get js) z ∙ h (suc m))
    ]

-- ---- tries
-- of the fitted instances
pub fitted_tries : (ph : RunPhase) (es : List Pair) (ns : List TaskSpec) → repeats (ids_of ns) ≡ false → repeats (pair_ids es) ≡ false → list_all (λ (x : Pair). is_some (task_named ns x.0.task_id)) es ≡ true
    → IsPermutation (flat_map (λ (x : Pair). x.1.tries) es) (flat_map (λ (i : InstanceValue). i.tries) (map (fitted ph es) ns))
fitted_tries ph es ns once apart there =
    subst (IsPermutation (flat_map (λ (x : Pair). x.1.tries) es)) (sym (flat_map-map (λ (i : InstanceValue). i.tries) (fitted ph es) ns))
    (gathered_all (λ n o. (fitted_if ph o n).tries) (λ (x : Pair). x.1.tries) es ns (λ n. newcomer_tries ph) once apart there (λ n x i j e. kept_tries x.0 n x.1))
