-- Lines by the ids of their graphs.
use Rattle.std.proofs.Common.{◌≡◌, ◌∙◌, refl, sym, ap, subst, ℕ, zero, suc, ◌<◌, ◌≤◌, List, [], ◌∷◌, Bool, true, false, ◌&&◌, ◌||◌, length, map, set, insert, get_or, slice_get, nat_eq, Option, Some, None, option_map, inl, inr, true≢false, arith}
use Rattle.std.specs.List.{list_all, list_any}
use Rattle.std.specs.Prelude.{MatchResult, Result, Ok, Err}
use Rattle.std.specs.List.Sorted.{IsBinarySearchResult, IsPartitionPoint, IsSearchInRange}
use Rattle.std.specs.Ordering.{is_eq, ordering_reverse}
use Rattle.std.specs.declared.cmp.Ordering.{Ordering}
use Rattle.std.specs.declared.cmp.Ordering.TheVariants.{Less, Equal, Greater}
use Rattle.std.proofs.lemmas.Bool.{and_from, cases_lt, eqb-false, or_left, or_right}
use Rattle.std.proofs.lemmas.Cmp.{nat_list_cmp_total}
use Rattle.std.proofs.lemmas.List.{length-map}
use Rattle.std.proofs.lemmas.Map.Text.{is_eq-slice_cmp}
use Rattle.std.proofs.lemmas.Option.{get_or_from_slice_get, slice_get-map, slice_get_within}
use Rattle.sched_state.specs.Lists.{is_less, name_cmp, same}
use Rattle.sched_state.specs.declared.runs.Run.{Run}
use Rattle.sched_state.proofs.ElementLemmas.{element_at}
use Rattle.sched_state.proofs.NameLemmas.{same_is, same_itself}
use Rattle.sched_state.proofs.OrderLemmas as order
use Rattle.sched_state.proofs.OrderLemmas.{and_left, and_right}
use Rattle.sched_model.specs.Lists.{rises}
use Rattle.sched_model.specs.Schedule.{Schedule}
use Rattle.sched_laws.proofs.DecisionLemmas.{by_bool}
use Rattle.run_lists.proofs.OrderLemmas.{any_none}
use Rattle.run_lists.proofs.PastLemmas.{rises_pair}
use Rattle.sched_draft.proofs.SearchLemmas.{parted_by_search}
use Rattle.sched_settling.specs.Marks.{IsGapFor, IsLine, IsLineAt, has_line, id_before, ids_of}
use Rattle.sched_settling.specs.Touched.{AreFresh, IsLineAdded}
use Rattle.sched_settling.specs.declared.lines.GraphRuns.{GraphRuns}

-- ---- ids
pub less_apart : (k : Ordering) → is_less k ≡ true → is_eq k ≡ false
less_apart Less e = refl
less_apart Equal e = absurd (true≢false (sym e))
less_apart Greater e = refl

pub same_flips : (x y : List ℕ) → same x y ≡ same y x
same_flips x y = by_bool {C = same x y ≡ same y x} (same x y)
    (λ e. let i : x ≡ y = same_is x y e in ap (λ z. same z y) i ∙ ap (same y) (sym i))
    (λ e. by_bool {C = same x y ≡ same y x} (same y x)
    (λ f. let i : y ≡ x = same_is y x f in absurd (true≢false (sym (ap (λ z. same z y) (sym i) ∙ same_itself y) ∙ e)))
    (λ f. e ∙ sym f))

-- ids that rise are of different graphs
ids_apart : (i j : List ℕ) → id_before i j ≡ true → same i j ≡ false
ids_apart i j e = sym (is_eq-slice_cmp i j) ∙ less_apart (name_cmp i j) e

pub ids_differ : (is : List (List ℕ)) (m n : ℕ) (i j : List ℕ) → rises id_before is ≡ true → slice_get is m ≡ Some i → slice_get is n ≡ Some j → nat_eq n m ≡ false → same i j ≡ false
ids_differ is m n i j h e f d = elim (cases_lt m n) [
  | inl l ↦ ids_apart i j (rises_pair id_before is m n i j h l e f)
  | inr l ↦
      let apart : (n ≡ m) → ⊥ = eqb-false n m d in
      let k : n < m = omega arith in
      same_flips i j ∙ ids_apart j i (rises_pair id_before is n m j i h k f e)
]

-- ---- the ids of lines
abbrev pub line_id : GraphRuns → List ℕ
line_id l = l.id.now

mapped_all : {X Y : Type 0} (p : Y → Bool) (f : X → Y) (xs : List X) → list_all p (map f xs) ≡ list_all (λ x. p (f x)) xs
mapped_all p f [] = refl
mapped_all p f (x ∷ xs) = ap (λ b. p (f x) && b) (mapped_all p f xs)

mapped_rises : {X Y : Type 0} (b : Y → Y → Bool) (f : X → Y) (xs : List X) → rises b (map f xs) ≡ rises (λ x y. b (f x) (f y)) xs
mapped_rises b f [] = refl
mapped_rises b f (x ∷ xs) = ap (λ c. c && rises b (map f xs)) (mapped_all (b (f x)) f xs) ∙ ap (λ c. list_all (λ y. b (f x) (f y)) xs && c) (mapped_rises b f xs)

pub lines_rise : (ls : List GraphRuns) → rises id_before (ids_of ls) ≡ true → rises (λ (l m : GraphRuns). is_less (name_cmp l.id.now m.id.now)) ls ≡ true
lines_rise ls h = sym (mapped_rises id_before line_id ls) ∙ h

pub ids_get : (ls : List GraphRuns) (n : ℕ) (l : GraphRuns) → slice_get ls n ≡ Some l → slice_get (ids_of ls) n ≡ Some l.id.now
ids_get ls n l e = slice_get-map line_id ls n ∙ ap (option_map line_id) e

pub ids_set : (ls : List GraphRuns) (p : ℕ) (l m : GraphRuns) → slice_get ls p ≡ Some l → m.id.now ≡ l.id.now → ids_of (set ls p m) ≡ ids_of ls
ids_set [] p l m e f = absurd (let c : ◌≡◌ {A = Option GraphRuns} None (Some l) = e in cc)
ids_set (x ∷ xs) zero l m e f = let c : ◌≡◌ {A = Option GraphRuns} (Some x) (Some l) = e in let i : x ≡ l = cc in ap (λ (j : List ℕ). j ∷ ids_of xs) (f ∙ ap line_id (sym i))
ids_set (x ∷ xs) (suc p) l m e f = ap (λ (js : List (List ℕ)). x.id.now ∷ js) (ids_set xs p l m e f)

ids_put : (ls : List GraphRuns) (n : ℕ) (l : GraphRuns) → ids_of (insert ls n l) ≡ insert (ids_of ls) n l.id.now
ids_put ls zero l = refl
ids_put [] (suc n) l = refl
ids_put (x ∷ xs) (suc n) l = ap (λ (js : List (List ℕ)). x.id.now ∷ js) (ids_put xs n l)

pub inside_lines : (ls ks : List GraphRuns) (p : ℕ) → ids_of ls ≡ ids_of ks → p < length ks → p < length ls
inside_lines ls ks p e l =
    let long : length (ids_of ls) ≡ length (ids_of ks) = ap (λ (js : List (List ℕ)). length js) e in
    omega (arith, l, long, length-map ls line_id, length-map ks line_id)

-- two lines are of different graphs
pub lines_differ : (ls : List GraphRuns) (m n : ℕ) (k l : GraphRuns) → rises id_before (ids_of ls) ≡ true → slice_get ls m ≡ Some k → slice_get ls n ≡ Some l → nat_eq n m ≡ false → same k.id.now l.id.now ≡ false
lines_differ ls m n k l h e f d = ids_differ (ids_of ls) m n k.id.now l.id.now h (ids_get ls m k e) (ids_get ls n l f) d

-- ---- whether there is a line of a graph
abbrev pub among : List (List ℕ) → List ℕ → Bool
among is id = list_any (λ (i : List ℕ). same i id) is

pub has_at : (is : List (List ℕ)) (n : ℕ) (i id : List ℕ) → slice_get is n ≡ Some i → same i id ≡ true → among is id ≡ true
has_at [] n i id e s = absurd (let c : ◌≡◌ {A = Option (List ℕ)} None (Some i) = e in cc)
has_at (x ∷ xs) zero i id e s =
    let c : ◌≡◌ {A = Option (List ℕ)} (Some x) (Some i) = e in let r : x ≡ i = cc in
    or_left (same x id) _ (ap (λ (j : List ℕ). same j id) r ∙ s)
has_at (x ∷ xs) (suc n) i id e s = or_right (same x id) _ (has_at xs n i id e s)

pub none_at : (is : List (List ℕ)) (n : ℕ) (i id : List ℕ) → among is id ≡ false → slice_get is n ≡ Some i → same i id ≡ false
none_at [] n i id h e = absurd (let c : ◌≡◌ {A = Option (List ℕ)} None (Some i) = e in cc)
none_at (x ∷ xs) zero i id h e =
    let c : ◌≡◌ {A = Option (List ℕ)} (Some x) (Some i) = e in let r : x ≡ i = cc in
    ap (λ (j : List ℕ). same j id) (sym r) ∙ order.or_left (same x id) _ h
none_at (x ∷ xs) (suc n) i id h e = none_at xs n i id (order.or_right (same x id) _ h) e

-- where it stands
pub record IdAt (is : List (List ℕ)) (id : List ℕ) : Type 0 where
  pub place : ℕ
  pub there : slice_get is place ≡ Some id

pub id_at : (is : List (List ℕ)) (id : List ℕ) → among is id ≡ true → IdAt is id
id_at [] id e = absurd (true≢false (sym e))
id_at (x ∷ xs) id e = by_bool {C = IdAt (x ∷ xs) id} (same x id)
    (λ f. record { place = 0; there = ap (λ (j : List ℕ). let o : Option (List ℕ) = Some j in o) (same_is x id f) })
    (λ f. let r = id_at xs id (sym (ap (λ b. b || among xs id) f) ∙ e) in record { place = suc r.place; there = r.there })

-- a graph of the same id
pub has_same : (is : List (List ℕ)) (i j : List ℕ) → same i j ≡ true → among is i ≡ true → among is j ≡ true
has_same is i j s h = ap (among is) (sym (same_is i j s)) ∙ h

pub line_there : (ls : List GraphRuns) (id : List ℕ) (n : ℕ) → IsLineAt ls id n → has_line ls id ≡ true
line_there ls id n h = has_at (ids_of ls) n h.line.id.now id (ids_get ls n h.line h.there) (ap (λ (j : List ℕ). same j id) h.named ∙ same_itself id)

-- ---- where one would stand that is not there
pub all_from : {X : Type 0} (p : X → Bool) (xs : List X) → ((n : ℕ) (x : X) → slice_get xs n ≡ Some x → p x ≡ true) → list_all p xs ≡ true
all_from p [] h = refl
all_from p (x ∷ xs) h = and_from (p x) _ (h 0 x refl) (all_from p xs (λ n y e. h (suc n) y e))

all_put : {X : Type 0} (p : X → Bool) (xs : List X) (n : ℕ) (y : X) → list_all p xs ≡ true → p y ≡ true → list_all p (insert xs n y) ≡ true
all_put p xs zero y h e = and_from (p y) _ e h
all_put p [] (suc n) y h e = and_from (p y) _ e refl
all_put p (x ∷ xs) (suc n) y h e = and_from (p x) _ (and_left _ _ h) (all_put p xs n y (and_right (p x) _ h) e)

put_rises : (is : List (List ℕ)) (n : ℕ) (id : List ℕ) → n ≤ length is → rises id_before is ≡ true → ((m : ℕ) (i : List ℕ) → m < n → slice_get is m ≡ Some i → id_before i id ≡ true)
    → ((m : ℕ) (i : List ℕ) → n ≤ m → slice_get is m ≡ Some i → id_before id i ≡ true) → rises id_before (insert is n id) ≡ true
put_rises [] zero id l h b a = refl
put_rises [] (suc n) id l h b a = absurd (omega (arith, l))
put_rises (x ∷ xs) zero id l h b a = and_from (list_all (id_before id) (x ∷ xs)) _ (all_from (id_before id) (x ∷ xs) (λ m i e. a m i (omega arith) e)) h
put_rises (x ∷ xs) (suc n) id l h b a =
    and_from (list_all (id_before x) (insert xs n id)) _ (all_put (id_before x) xs n id (and_left _ _ h) (b 0 x (omega arith) refl))
    (put_rises xs n id (omega (arith, l)) (and_right (list_all (id_before x) xs) _ h) (λ m i k e. b (suc m) i (omega (arith, k)) e) (λ m i k e. a (suc m) i (omega (arith, k)) e))

abbrev pub IsParted : List GraphRuns → List ℕ → ℕ → Type 0
IsParted ls id n = IsPartitionPoint (λ (l : GraphRuns). name_cmp l.id.now id ≡ Less) (λ (l : GraphRuns). name_cmp l.id.now id ≡ Greater) ls n

-- what stands at a place of the ids
id_line : (ls : List GraphRuns) (m : ℕ) (i : List ℕ) → slice_get (ids_of ls) m ≡ Some i → (l : GraphRuns) × (slice_get ls m ≡ Some l) × (l.id.now ≡ i)
id_line ls m i e =
    let inside : m < length (ids_of ls) = slice_get_within (ids_of ls) m i e in
    let l = element_at ls m (omega (arith, inside, length-map ls line_id)) in
    let c : ◌≡◌ {A = Option (List ℕ)} (Some (l.0).id.now) (Some i) = sym (ids_get ls m l.0 l.1) ∙ e in
    (l.0, l.1, cc)

less_there : (ls : List GraphRuns) (id : List ℕ) (n m : ℕ) (i : List ℕ) → IsParted ls id n → m < n → slice_get (ids_of ls) m ≡ Some i → name_cmp i id ≡ Less
less_there ls id n m i parts k e =
    let l = id_line ls m i e in
    ap (λ (j : List ℕ). name_cmp j id) (sym l.2) ∙ (ap (λ (x : GraphRuns). name_cmp x.id.now id) (sym (get_or_from_slice_get ls m l.0 l.0 l.1)) ∙ parts.0 m l.0 (omega arith) k)

more_there : (ls : List GraphRuns) (id : List ℕ) (n m : ℕ) (i : List ℕ) → IsParted ls id n → n ≤ m → slice_get (ids_of ls) m ≡ Some i → name_cmp i id ≡ Greater
more_there ls id n m i parts k e =
    let l = id_line ls m i e in
    ap (λ (j : List ℕ). name_cmp j id) (sym l.2) ∙ (ap (λ (x : GraphRuns). name_cmp x.id.now id) (sym (get_or_from_slice_get ls m l.0 l.0 l.1)) ∙ parts.1 m l.0 k (slice_get_within ls m l.0 l.1))

pub gap_for : (ls : List GraphRuns) (id : List ℕ) (n : ℕ) → n ≤ length ls → rises id_before (ids_of ls) ≡ true → IsParted ls id n → IsGapFor ls id n
gap_for ls id n l h parts = record {
  within = l;
  none = any_none (λ (i : List ℕ). same i id) (ids_of ls) (λ m i e. elim (cases_lt m n) [
    | inl k ↦ sym (is_eq-slice_cmp i id) ∙ ap is_eq (less_there ls id n m i parts k e)
    | inr k ↦ sym (is_eq-slice_cmp i id) ∙ ap is_eq (more_there ls id n m i parts k e)
  ]);
  rising = put_rises (ids_of ls) n id (omega (arith, l, length-map ls line_id)) h
      (λ m i k e. ap is_less (less_there ls id n m i parts k e))
      (λ m i k e. ap is_less (nat_list_cmp_total.antisymm id i ∙ ap ordering_reverse (more_there ls id n m i parts k e)));
}

-- what a binary search answers
pub searched : (ls : List GraphRuns) (id : List ℕ) (r : Result ℕ ℕ) → rises id_before (ids_of ls) ≡ true → IsSearchInRange r (length ls) → IsBinarySearchResult (λ (l : GraphRuns). name_cmp l.id.now id) ls r → MatchResult r (IsLineAt ls id) (IsGapFor ls id)
searched ls id (Ok n) h b s =
    let l = element_at ls n b in
    let tied : name_cmp (l.0).id.now id ≡ Equal = ap (λ (x : GraphRuns). name_cmp x.id.now id) (sym (get_or_from_slice_get ls n l.0 l.0 l.1)) ∙ s l.0 in
    record { line = l.0; there = l.1; named = same_is (l.0).id.now id (sym (is_eq-slice_cmp (l.0).id.now id) ∙ ap is_eq tied) }
searched ls id (Err n) h b s = gap_for ls id n b h (parted_by_search nat_list_cmp_total line_id id ls n (lines_rise ls h) s)

-- ---- a line more
any_put : {X : Type 0} (p : X → Bool) (xs : List X) (n : ℕ) (y : X) → list_any p (insert xs n y) ≡ (p y || list_any p xs)
any_put p xs zero y = refl
any_put p [] (suc n) y = refl
any_put p (x ∷ xs) (suc n) y = ap (λ b. p x || b) (any_put p xs n y) ∙ turn (p x) (p y) (list_any p xs)
  where
    turn : (a b c : Bool) → (a || (b || c)) ≡ (b || (a || c))
    turn true true c = refl
    turn true false c = refl
    turn false b c = refl

put_each : (P : GraphRuns → Type 0) (xs : List GraphRuns) (n : ℕ) (y : GraphRuns) → P y → ((m : ℕ) (x : GraphRuns) → slice_get xs m ≡ Some x → P x) → (m : ℕ) (z : GraphRuns) → slice_get (insert xs n y) m ≡ Some z → P z
put_each P xs zero y p h zero z e = let c : ◌≡◌ {A = Option GraphRuns} (Some y) (Some z) = e in let r : y ≡ z = cc in subst P r p
put_each P xs zero y p h (suc m) z e = h m z e
put_each P [] (suc n) y p h zero z e = let c : ◌≡◌ {A = Option GraphRuns} (Some y) (Some z) = e in let r : y ≡ z = cc in subst P r p
put_each P [] (suc n) y p h (suc m) z e = absurd (let c : ◌≡◌ {A = Option GraphRuns} None (Some z) = e in cc)
put_each P (x ∷ xs) (suc n) y p h zero z e = h 0 z e
put_each P (x ∷ xs) (suc n) y p h (suc m) z e = put_each P xs n y p (λ k w f. h (suc k) w f) m z e

pub added_already : (rs : List Run) (id : List ℕ) (ls : List GraphRuns) (n : ℕ) → rises id_before (ids_of ls) ≡ true → IsLineAt ls id n → IsLineAdded rs id ls ls
added_already rs id ls n rising h = record {
  rising = rising;
  has = λ i. by_bool {C = has_line ls i ≡ (same id i || has_line ls i)} (same id i)
      (λ s. has_same (ids_of ls) id i s (line_there ls id n h) ∙ sym (ap (λ b. b || has_line ls i) s))
      (λ s. sym (ap (λ b. b || has_line ls i) s));
  fresh = λ a is f. f;
}

pub added_new : (rs : List Run) (id : List ℕ) (ls ms : List GraphRuns) (n : ℕ) (l : GraphRuns) → IsGapFor ls id n → l.id.now ≡ id → ((a : Schedule) → rs ≡ a.runs → IsLine a id l) → l.touched.items ≡ [] → ms ≡ insert ls n l → IsLineAdded rs id ls ms
added_new rs id ls ms n l gap named line empty made =
    let ids : ids_of ms ≡ insert (ids_of ls) n id = ap ids_of made ∙ (ids_put ls n l ∙ ap (insert (ids_of ls) n) named) in
    record {
      rising = ap (rises id_before) ids ∙ gap.rising;
      has = λ i. ap (λ js. among js i) ids ∙ any_put (λ (j : List ℕ). same j i) (ids_of ls) n id;
      fresh = λ a is f. subst (AreFresh a) (sym made) (put_each (λ (k : GraphRuns). IsLine a k.id.now k × (k.touched.items ≡ [])) ls n l (subst (λ (j : List ℕ). IsLine a j l) (sym named) (line a is), empty) f);
    }
