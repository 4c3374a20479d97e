-- A file without faults has a graph: where no way leads from a task back to it, each task finds its place.
use Rattle.std.proofs.Common.{◌≡◌, ◌∙◌, ℕ, zero, suc, ◌+◌, ◌<◌, ◌≤◌, Bool, true, false, ◌==◌, List, [], ◌∷◌, ◌++◌, length, Option, Some, None, option_map, eqb, refl, sym, ap, subst, arith, inl, inr}
use Rattle.std.proofs.lemmas.Bool.{cases_lt, cases_Bool, false≢true, or_cases, or_parts, or_left, or_right, eqb-true, eq-eqb}
use Rattle.std.proofs.lemmas.Map.Steps.{length-le_from_distinct_below}
use Rattle.std.proofs.lemmas.Map.Keys.{IsDistinct-cons}
use Rattle.std.specs.List.{list_any, list_all, IsDistinct, AllByRecursion}
use Rattle.graph_file.specs.Lists.{when}
use Rattle.graph_file.proofs.ListLemmas.{first_none, mapped_none, when_none}
use Rattle.graph_file.specs.declared.graph_specs.GraphSpec.{GraphSpec}
use Rattle.dag_check.specs.declared.faults.DagFault.TheVariants.{DoubleTask, UnknownUpstream, DoubleEdge, Cycle}
use Rattle.dag_check.specs.Orders.{is_in, AllBelow, IsFirst, IsPlacement, may_come, places_of}
use Rattle.dag_check.specs.Searches.{failing}
use Rattle.dag_check.specs.Names.{NoneBelow, is_double, is_unknown, is_double_edge, up_of}
use Rattle.dag_check.specs.Graphs.{IsGraphOf, dag_of}
use Rattle.dag_check.specs.Reach.{has_way}
use Rattle.dag_check.specs.Faults.{first_below, is_on_cycle, first_fault}
use Rattle.dag_check.proofs.OrderLemmas.{IsPartial, partial-start, partial-more, partial-end, in-push, length-push}
use Rattle.dag_check.proofs.LawLemmas.{placement-one, placement-acyclic}
use Rattle.dag_check.proofs.PlainLemmas.{all-below}
use Rattle.dag_check.proofs.WayLemmas.{first-step, way-then, way-within}

-- ---- the first number that passes
pub none-is : (p : ℕ → Bool) (n : ℕ) → first_below p n ≡ None → NoneBelow p n
none-is p zero none i below = absurd (omega arith)
none-is p (suc n) none i below =
    elim (first_below p n) as (λ o. first_below p n ≡ o → ◌≡◌ {A = Option ℕ} (elim o as (λ q. Option ℕ) [ Some j ↦ Some j | None ↦ when (p n) n ]) None → p i ≡ false) [
      | Some j ↦ λ e f. absurd (let c : ◌≡◌ {A = Option ℕ} (Some j) None = f in cc)
      | None ↦ λ e f.
          elim (cases_lt i n) [
            | inl less ↦ none-is p n e i less
            | inr from ↦ let is : n ≡ i = omega arith in subst (λ (k : ℕ). p k ≡ false) is (when_none (p n) n f)
          ]
    ] refl none

first-is : (p : ℕ → Bool) (n i : ℕ) → first_below p n ≡ Some i → (i < n) × IsFirst p i
first-is p zero i some = absurd (let c : ◌≡◌ {A = Option ℕ} None (Some i) = some in cc)
first-is p (suc n) i some =
    elim (first_below p n) as (λ o. first_below p n ≡ o → ◌≡◌ {A = Option ℕ} (elim o as (λ q. Option ℕ) [ Some j ↦ Some j | None ↦ when (p n) n ]) (Some i) → (i < suc n) × IsFirst p i) [
      | Some j ↦ λ e f.
          let c : ◌≡◌ {A = Option ℕ} (Some j) (Some i) = f in
          let is : j ≡ i = cc in
          let r = first-is p n i (e ∙ ap (λ k. Some k) is) in
          let l = r.0 in (omega arith, r.1)
      | None ↦ λ e f. last (none-is p n e) (p n) refl f
    ] refl some
  where
    last : NoneBelow p n → (b : Bool) → p n ≡ b → when b n ≡ Some i → (i < suc n) × IsFirst p i
    last none true here f =
        let c : ◌≡◌ {A = Option ℕ} (Some n) (Some i) = f in
        let is : n ≡ i = cc in
        (omega arith, subst (λ (k : ℕ). IsFirst p k) is (record { passes = here; before = none }))
    last none false here f = absurd (let c : ◌≡◌ {A = Option ℕ} None (Some i) = f in cc)

-- ---- what is stuck has a cycle
some-fails : (m : ℕ → Bool) (n : ℕ) → 0 < failing m n → (i : ℕ) × (i < n) × (m i ≡ false)
some-fails m zero more = absurd (omega arith)
some-fails m (suc n) more =
    elim (cases_Bool (m n)) [
      | inl on ↦ let more' : 0 < failing m n + 0 = rw on at more in let r = some-fails m n (omega arith) in let l = r.1 in (r.0, omega arith, r.2)
      | inr off ↦ (n, omega arith, off)
    ]

not-all : (m : ℕ → Bool) (us : List ℕ) → list_all m us ≡ false → (u : ℕ) × (is_in us u ≡ true) × (m u ≡ false)
not-all m [] e = absurd (false≢true (sym e))
not-all m (u ∷ us) e =
    elim (cases_Bool (m u)) [
      | inl on ↦ let rest : list_all m us ≡ false = rw on at e in let r = not-all m us rest in (r.0, or_right (u == r.0) (is_in us r.0) r.1, r.2)
      | inr off ↦ (u, or_left (u == u) (is_in us u) (eq-eqb u u refl), off)
    ]

nothing : IsDistinct eqb []
unfolding IsDistinct
nothing = tt

none-equal : (x : ℕ) (ys : List ℕ) → list_any (eqb x) ys ≡ false → AllByRecursion (λ y. eqb x y ≡ false) ys
none-equal x [] e = tt
none-equal x (y ∷ ys) e = let both = or_parts (eqb x y) (list_any (eqb x) ys) e in (both.0, none-equal x ys both.1)

stuck-upstream : (up : ℕ → List ℕ) (m : ℕ → Bool) (at : ℕ) → may_come up m at ≡ false → m at ≡ false → list_all m (up at) ≡ false
stuck-upstream up m at stuck off = rw off at stuck

-- from a number that finds no place a walk against the edges would never end
walks-on : (up : ℕ → List ℕ) (n : ℕ) → AllBelow up n → NoneBelow (λ i. has_way up n i i) n → (m : ℕ → Bool) → NoneBelow (may_come up m) n
    → (f : ℕ) (seen : List ℕ) (at : ℕ) → IsDistinct eqb seen → ((q : ℕ) → list_any (eqb q) seen ≡ true → q < n)
    → ((s : ℕ) → list_any (eqb s) seen ≡ true → has_way up (length seen) s at ≡ true) → at < n → m at ≡ false → n < length seen + f → ⊥
walks-on up n below none m stuck zero seen at distinct inside ways here off long =
    let short = length-le_from_distinct_below seen n distinct inside in absurd (omega arith)
walks-on up n below none m stuck (suc f) seen at distinct inside ways here off long =
    elim (cases_Bool (list_any (eqb at) seen)) [
      | inl back ↦
          let short = length-le_from_distinct_below seen n distinct inside in
          false≢true (sym (none at here) ∙ way-within up (length seen) n at at short (ways at back))
      | inr new ↦
          let next = not-all m (up at) (stuck-upstream up m at (stuck at here) off) in
          walks-on up n below none m stuck f (at ∷ seen) next.0
          (IsDistinct-cons eqb at seen (none-equal at seen new) distinct)
          (λ q there. elim (or_cases (eqb q at) (list_any (eqb q) seen) there) [
            | inl first ↦ subst (λ (k : ℕ). k < n) (sym (eqb-true q at first)) here
            | inr rest ↦ inside q rest
          ])
          (λ s there. elim (or_cases (eqb s at) (list_any (eqb s) seen) there) [
            | inl first ↦ subst (λ (k : ℕ). has_way up (suc (length seen)) k next.0 ≡ true) (sym (eqb-true s at first)) (first-step up (length seen) at next.0 next.1)
            | inr rest ↦ way-then up (length seen) s at next.0 (ways s rest) next.1
          ])
          (below at next.0 here next.1) next.2 (omega arith)
    ]

-- ---- the order of places
next-place : (up : ℕ → List ℕ) (n : ℕ) → AllBelow up n → NoneBelow (λ i. has_way up n i i) n → (order : List ℕ) → IsPartial up n order (is_in order) → length order < n
    → (i : ℕ) × (i < n) × IsFirst (may_come up (is_in order)) i
next-place up n below none order h more =
    elim (first_below (may_come up (is_in order)) n) as (λ o. first_below (may_come up (is_in order)) n ≡ o → (i : ℕ) × (i < n) × IsFirst (may_come up (is_in order)) i) [
      | Some i ↦ λ e. let r = first-is _ n i e in (i, r.0, r.1)
      | None ↦ λ e.
          let c = h.count in
          let left = some-fails (is_in order) n (omega arith) in
          absurd (walks-on up n below none (is_in order) (none-is _ n e) (suc n) [] left.0 nothing (λ q there. absurd (false≢true there)) (λ s there. absurd (false≢true there)) left.1 left.2 (omega arith))
    ] refl

grow : (up : ℕ → List ℕ) (n : ℕ) → AllBelow up n → NoneBelow (λ i. has_way up n i i) n → (k : ℕ) → k ≤ n → (order : List ℕ) × (length order ≡ k) × IsPartial up n order (is_in order)
grow up n below none zero within = ([], refl, partial-start up n (is_in []) (λ y. refl))
grow up n below none (suc k) within =
    let r = grow up n below none k (omega arith) in
    let long = r.1 in
    let s = next-place up n below none r.0 r.2 (omega arith) in
    (r.0 ++ s.0 ∷ [], (let l = length-push r.0 s.0 in omega arith), partial-more up n r.0 (is_in r.0) (is_in (r.0 ++ s.0 ∷ [])) s.0 r.2 s.1 s.2 (λ y. in-push r.0 s.0 y))

placement : (up : ℕ → List ℕ) (n : ℕ) → AllBelow up n → NoneBelow (λ i. has_way up n i i) n → IsPlacement up n (places_of up n n)
placement up n below none =
    let r = grow up n below none n (omega arith) in
    let p = partial-end up n r.0 (is_in r.0) r.2 r.1 in
    subst (IsPlacement up n) (placement-one up n r.0 p) p

-- ---- the graph
pub graph-of-faultless : (spec : GraphSpec) → first_fault spec.tasks ≡ None → IsGraphOf spec (dag_of spec)
graph-of-faultless spec e =
    let file = spec.tasks in
    let n = length file in
    let a = first_none (option_map DoubleTask (first_below (is_double file) n)) _ e in
    let b = first_none (option_map UnknownUpstream (first_below (is_unknown file) n)) _ a.1 in
    let d = first_none (option_map DoubleEdge (first_below (is_double_edge file) n)) _ b.1 in
    let f = first_none (option_map (λ i. Cycle []) (first_below (is_on_cycle file) n)) _ d.1 in
    let known : NoneBelow (is_unknown file) n = none-is _ n (mapped_none UnknownUpstream _ b.0) in
    let none : NoneBelow (is_on_cycle file) n = none-is _ n (mapped_none (λ i. Cycle []) _ f.0) in
    let placed = placement (up_of file) n (all-below file known) none in
    record {
      plain = record { names = none-is _ n (mapped_none DoubleTask _ a.0); known = known; edges = none-is _ n (mapped_none DoubleEdge _ d.0) };
      acyclic = placement-acyclic (up_of file) n _ placed;
      placed = placed;
      is = refl;
    }
