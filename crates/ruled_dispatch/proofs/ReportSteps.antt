-- Each step of the queue of reports keeps its rule.
use Rattle.std.proofs.Common.{◌≡◌, ◌≢◌, ℕ, zero, suc, ◌+◌, ◌<◌, ◌≤◌, ◌==◌, ◌⊎◌, cond, true, false, true≢false, List, [], ◌∷◌, ◌++◌, length, map, set, sym, refl, ap, ◌∙◌, subst, ⊎_elim, inl, inr, arith, append_assoc, append-nil, lt_of_not-le, eq-eqb, ne_eqb}
use Rattle.std.specs.Prelude.{filter}
use Rattle.std.proofs.lemmas.List.{map-append}
use Rattle.std.proofs.lemmas.List.Elements.{filter-append, All-nil, All-cons, All-append}
use mathlib.Core.Option.{Option, some, none, some-injective, some-ne-none}
use lib.ListN.{get_elem?}
use Rattle.crossbeam_queue.specs.Fifo.{Pushes, Pops, Forks, Merges, Learns}
use Rattle.crossbeam_queue.proofs.Lists.{at_set}
use Rattle.ruled_dispatch.specs.declared.items.Report.{Report}
use Rattle.ruled_dispatch.specs.declared.items.WorkerReport.{WorkerReport}
use Rattle.ruled_dispatch.specs.declared.reports_rule.NumberedReports.{NumberedReports}
use Rattle.ruled_dispatch.specs.declared.reports_rule.ReportActivity.{ReportActivity}
use Rattle.ruled_dispatch.specs.ReportsRule.{hearer, teller, idle, told_by, told_under, AgreesWith, IsInOrder, TellsOfAll}

told_by-append : (k : ℕ) (xs ys : List WorkerReport) → told_by k (xs ++ ys) ≡ told_by k xs ++ told_by k ys
told_by-append k xs ys =
    ap (map (λ (r : WorkerReport). r.report)) (filter-append (λ (r : WorkerReport). r.worker == k) xs ys)
    ∙ map-append (λ (r : WorkerReport). r.report) (filter (λ (r : WorkerReport). r.worker == k) xs) (filter (λ (r : WorkerReport). r.worker == k) ys)

told_by_own : (k : ℕ) (x : WorkerReport) → x.worker ≡ k → told_by k (x ∷ []) ≡ x.report ∷ []
told_by_own k x e = ap (λ b. map (λ (r : WorkerReport). r.report) (cond b (x ∷ []) [])) (eq-eqb x.worker k e)

told_by_other : (k : ℕ) (x : WorkerReport) → x.worker ≢ k → told_by k (x ∷ []) ≡ []
told_by_other k x e = ap (λ b. map (λ (r : WorkerReport). r.report) (cond b (x ∷ []) [])) (ne_eqb x.worker k e)

told_by_first : (x : WorkerReport) (xs : List WorkerReport) → told_by x.worker (x ∷ xs) ≡ x.report ∷ told_by x.worker xs
told_by_first x xs =
    let rest = filter (λ (r : WorkerReport). r.worker == x.worker) xs in
    ap (λ b. map (λ (r : WorkerReport). r.report) (cond b (x ∷ rest) rest)) (eq-eqb x.worker x.worker refl)

both_empty : {A : Type 0} (xs ys : List A) → xs ++ ys ≡ [] → (xs ≡ []) × (ys ≡ [])
both_empty [] ys e = (refl, e)
both_empty (x ∷ xs) ys e = let n : length ((x ∷ xs) ++ ys) ≡ 0 = ap length e in absurd (omega arith)

-- the pass behind the last
at_end : {A : Type 0} (l : List A) (a b : A) (j : ℕ) → get_elem? (l ++ a ∷ []) j ≡ some b → (get_elem? l j ≡ some b) ⊎ ((j ≡ length l) × (a ≡ b))
at_end [] a b zero e = inr (refl, some-injective a b e)
at_end [] a b (suc j) e = absurd (some-ne-none b (sym e))
at_end (x ∷ xs) a b zero e = inl e
at_end (x ∷ xs) a b (suc j) e = ⊎_elim (λ (t : get_elem? xs j ≡ some b). inl t) (λ (t : (j ≡ length xs) × (a ≡ b)). inr (ap suc t.0, t.1)) (at_end xs a b j e)

-- a function that differs at one number
update : {A : Type 0} → (ℕ → A) → ℕ → A → ℕ → A
update f w x p = cond (p == w) x (f p)

update_same : {A : Type 0} (f : ℕ → A) (w : ℕ) (x : A) (p : ℕ) → p ≡ w → update f w x p ≡ x
unfolding update
update_same f w x p e = ap (λ b. cond b x (f p)) (eq-eqb p w e)

update_other : {A : Type 0} (f : ℕ → A) (w : ℕ) (x : A) (p : ℕ) → p ≢ w → update f w x p ≡ f p
unfolding update
update_other f w x p e = ap (λ b. cond b x (f p)) (ne_eqb p w e)

abbrev Each : (ℕ → ReportActivity → Type 0) → List ReportActivity → Type 0
Each F views = (pass : ℕ) (v : ReportActivity) → get_elem? views pass ≡ some v → F pass v

each_set : (F : ℕ → ReportActivity → Type 0) (views : List ReportActivity) (pass : ℕ) (w : ReportActivity) → F pass w → ((j : ℕ) (u : ReportActivity) → j ≢ pass → get_elem? views j ≡ some u → F j u) → Each F (set views pass w)
each_set F views pass w mine others j u e =
    ⊎_elim (λ (x : (j ≡ pass) × (w ≡ u)). subst (λ (y : ℕ × ReportActivity). F y.0 y.1) (λ i. (sym x.0 i, x.1 i)) mine)
    (λ (x : (j ≢ pass) × (get_elem? views j ≡ some u)). others j u x.0 x.1)
    (at_set views pass j w u e)

pub begins : IsInOrder [] (hearer [] 0 [] ∷ [])
begins = (0, (λ k. none), (λ k. []), [], (λ k. refl), one)
  where
    one : Each (AgreesWith 0 (λ k. none) (λ k. []) []) (hearer [] 0 [] ∷ [])
    one zero v at = subst (λ (y : ReportActivity). AgreesWith 0 (λ k. none) (λ k. []) [] 0 y) (some-injective (hearer [] 0 []) v at)
        ((λ t. absurd (true≢false (sym t))), (λ _. (refl, refl)), λ _. ((λ k _. (refl, refl)), All-nil _))
    one (suc pass) v at = absurd (some-ne-none v (sym at))

pub tells : (n pass : ℕ) (v : ReportActivity) (x : WorkerReport) → v.tells ≡ true → v.hears ≡ false → x.worker ≡ v.number → Pushes IsInOrder n pass v x (λ w. w ≡ teller v.number (v.told ++ x.report ∷ []))
tells n pass v x may deaf own items views room b at =
    let hearing = b.0 in
    let pass_of = b.1 in
    let told = b.2 in
    let heard = b.3 in
    let w : ReportActivity = teller v.number (v.told ++ x.report ∷ []) in
    let told' : ℕ → List Report = λ k. told k ++ told_by k (x ∷ []) in
    let mine = (b.5 pass v at).0 may in
    let same : (k : ℕ) → k ≢ v.number → told' k ≡ told k = λ k ne. ap (λ l. told k ++ l) (told_by_other k x (λ (e : x.worker ≡ k). ne (sym e ∙ own))) ∙ append-nil (told k) in
    let here : told' v.number ≡ told v.number ++ x.report ∷ [] = ap (λ l. told v.number ++ l) (told_by_own v.number x own) in
    let vacant : (k : ℕ) → pass_of k ≡ none → k ≢ v.number = λ k free e. some-ne-none pass (sym mine.0 ∙ ap pass_of (sym e) ∙ free) in (
      w,
      (
        hearing,
        pass_of,
        told',
        heard,
        (λ k. ap (λ l. l ++ told_by k (x ∷ [])) (b.4 k) ∙ append_assoc (told_by k heard) (told_by k items) (told_by k (x ∷ [])) ∙ ap (λ l. told_by k heard ++ l) (sym (told_by-append k items (x ∷ [])))),
        each_set (AgreesWith hearing pass_of told' heard) views pass w
            ((λ _. (mine.0, ap (λ l. l ++ x.report ∷ []) mine.1 ∙ sym here)), (λ t. absurd (true≢false (sym t))), λ t. absurd (true≢false (sym t)))
            (λ j u other e.
            let was = b.5 j u e in (
              (λ t.
                  let its = was.0 t in
                  let ne : u.number ≢ v.number = λ same_number. other (some-injective j pass (sym its.0 ∙ ap pass_of same_number ∙ mine.0)) in
                  (its.0, its.1 ∙ sym (same u.number ne))),
              was.1,
              λ t.
                  let its = was.2 t in (
                    (λ k late. let o = its.0 k late in (o.0, same k (vacant k o.0) ∙ o.1)),
                    λ k d below. let o = its.1 k d below in (o.0, o.1, o.2 ∙ sym (same _ (vacant _ o.1))),
                  ),
            )),
      ),
      refl,
    )

pub hears : (pass : ℕ) (v : ReportActivity) → v.hears ≡ true → Pops IsInOrder pass v (λ x w. (x.worker < v.made) × (w ≡ hearer (v.heard ++ x ∷ []) v.made v.returned))
hears pass v may x items views b at =
    let hearing = b.0 in
    let pass_of = b.1 in
    let told = b.2 in
    let heard = b.3 in
    let w : ReportActivity = hearer (v.heard ++ x ∷ []) v.made v.returned in
    let mine = (b.5 pass v at).1 may in
    let knows = (b.5 pass v at).2 may in
    let given : x.worker < v.made = lt_of_not-le (λ (late : v.made ≤ x.worker).
    let none = both_empty (told_by x.worker heard) (told_by x.worker (x ∷ items)) (sym (b.4 x.worker) ∙ (knows.0 x.worker late).1) in
    let some : length (x.report ∷ told_by x.worker items) ≡ 0 = ap length (sym (told_by_first x items) ∙ none.1) in
    absurd (omega arith)) in (
      w,
      (
        hearing,
        pass_of,
        told,
        heard ++ x ∷ [],
        (λ k. b.4 k ∙ ap (λ l. told_by k heard ++ l) (told_by-append k (x ∷ []) items) ∙ sym (append_assoc (told_by k heard) (told_by k (x ∷ [])) (told_by k items)) ∙ ap (λ l. l ++ told_by k items) (sym (told_by-append k heard (x ∷ [])))),
        each_set (AgreesWith hearing pass_of told (heard ++ x ∷ [])) views pass w
            ((λ t. absurd (true≢false (sym t))), (λ _. (mine.0, ap (λ l. l ++ x ∷ []) mine.1)), λ _. knows)
            (λ j u other e.
            let was = b.5 j u e in
            (was.0, (λ t. absurd (other ((was.1 t).0 ∙ sym mine.0))), was.2)),
      ),
      (given, refl),
    )

pub splits : (pass : ℕ) (v : ReportActivity) → v.hears ≡ true → Forks IsInOrder pass v (hearer v.heard (v.made + 1) v.returned) (teller v.made [])
splits pass v may items views b at =
    let hearing = b.0 in
    let pass_of = b.1 in
    let told = b.2 in
    let heard = b.3 in
    let l : ReportActivity = hearer v.heard (v.made + 1) v.returned in
    let r : ReportActivity = teller v.made [] in
    let vs : List ReportActivity = set views pass l in
    let mine = (b.5 pass v at).1 may in
    let knows = (b.5 pass v at).2 may in
    let fresh = knows.0 v.made (omega arith) in
    let pass_of' : ℕ → Option ℕ = update pass_of v.made (some (length vs)) in
    let same : (k : ℕ) → k ≢ v.made → pass_of' k ≡ pass_of k = λ k ne. update_other pass_of v.made (some (length vs)) k ne in
    let F : ℕ → ReportActivity → Type 0 = AgreesWith hearing pass_of' told heard in
    let old : Each F vs =
    each_set F views pass l (
      (λ t. absurd (true≢false (sym t))),
      (λ _. mine),
      λ _. (
        (λ k late. let o = knows.0 k (omega arith) in (same k (λ e. absurd (omega arith)) ∙ o.0, o.1)),
        λ k d below. let o = knows.1 k d below in let given = o.0 in (omega arith, same _ (λ e. absurd (omega arith)) ∙ o.1, o.2),
      ),
    )
    (λ j u other e.
    let was = b.5 j u e in (
      (λ t.
          let its = was.0 t in
          let ne : u.number ≢ v.made = λ same_number. some-ne-none j (sym its.0 ∙ ap pass_of same_number ∙ fresh.0) in
          (same u.number ne ∙ its.0, its.1)),
      was.1,
      λ t. absurd (other ((was.1 t).0 ∙ sym mine.0)),
    ))
    in (
      hearing,
      pass_of',
      told,
      heard,
      b.4,
      λ j u e. ⊎_elim (λ (x : get_elem? vs j ≡ some u). old j u x)
          (λ (x : (j ≡ length vs) × (r ≡ u)). subst (λ (y : ℕ × ReportActivity). F y.0 y.1) (λ i. (sym x.0 i, x.1 i))
          ((λ _. (update_same pass_of v.made (some (length vs)) v.made refl, sym fresh.1)), (λ t. absurd (true≢false (sym t))), λ t. absurd (true≢false (sym t))))
          (at_end vs r u j e),
    )

pub joins : (pass : ℕ) (v : ReportActivity) (other : ℕ) (u : ReportActivity) → v.hears ≡ true → u.tells ≡ true
    → Merges IsInOrder pass v other u (hearer v.heard v.made (v.returned ++ told_under u ∷ [])) idle
joins pass v other u may tells items views b at apart at' =
    let hearing = b.0 in
    let pass_of = b.1 in
    let told = b.2 in
    let heard = b.3 in
    let w : ReportActivity = hearer v.heard v.made (v.returned ++ told_under u ∷ []) in
    let vs : List ReportActivity = set views pass w in
    let mine = (b.5 pass v at).1 may in
    let knows = (b.5 pass v at).2 may in
    let was : get_elem? views other ≡ some u = ⊎_elim (λ (x : (other ≡ pass) × (w ≡ u)). absurd (apart x.0)) (λ (x : (other ≢ pass) × (get_elem? views other ≡ some u)). x.1) (at_set views pass other w u at') in
    let its = (b.5 other u was).0 tells in
    let pass_of' : ℕ → Option ℕ = update pass_of u.number none in
    let same : (k : ℕ) → k ≢ u.number → pass_of' k ≡ pass_of k = λ k ne. update_other pass_of u.number none k ne in
    let gone : (k : ℕ) → k ≡ u.number → pass_of' k ≡ none = λ k e. update_same pass_of u.number none k e in
    let early : (k : ℕ) → pass_of k ≡ none → k ≢ u.number = λ k free e. some-ne-none other (sym its.0 ∙ ap pass_of (sym e) ∙ free) in
    let given : u.number < v.made = lt_of_not-le (λ (late : v.made ≤ u.number). some-ne-none other (sym its.0 ∙ (knows.0 u.number late).0)) in
    let Returned : NumberedReports → Type 0 = λ r. (r.number < v.made) × (pass_of' r.number ≡ none) × (r.told ≡ told r.number) in
    let G : ℕ → ReportActivity → Type 0 = λ j y. j ≢ other → AgreesWith hearing pass_of' told heard j y in
    let now : Each G vs =
    each_set G views pass w
    (λ _. (
      (λ t. absurd (true≢false (sym t))),
      (λ _. mine),
      λ _. (
        (λ k late. let o = knows.0 k late in (same k (early k o.0) ∙ o.0, o.1)),
        All-append Returned v.returned (told_under u ∷ [])
            (λ k d below. let o = knows.1 k d below in (o.0, same _ (early _ o.1) ∙ o.1, o.2))
            (All-cons Returned (told_under u) [] (given, gone u.number refl, its.1) (All-nil Returned)),
      ),
    ))
    (λ j y ne e not_other.
    let old = b.5 j y e in (
      (λ t.
          let o = old.0 t in
          let differ : y.number ≢ u.number = λ same_number. not_other (some-injective j other (sym o.0 ∙ ap pass_of same_number ∙ its.0)) in
          (same y.number differ ∙ o.0, o.1)),
      old.1,
      λ t. absurd (ne ((old.1 t).0 ∙ sym mine.0)),
    ))
    in (
      hearing,
      pass_of',
      told,
      heard,
      b.4,
      each_set (AgreesWith hearing pass_of' told heard) vs other idle
          ((λ t. absurd (true≢false (sym t))), (λ t. absurd (true≢false (sym t))), λ t. absurd (true≢false (sym t)))
          (λ j y ne e. now j y e ne),
    )

pub tells_of_all : (pass : ℕ) (v : ReportActivity) → v.hears ≡ true → Learns IsInOrder pass v (TellsOfAll v)
tells_of_all pass v may items views b at =
    let mine = (b.5 pass v at).1 may in
    let knows = (b.5 pass v at).2 may in
    let parts : (k : ℕ) → b.2 k ≡ told_by k v.heard ++ told_by k items = λ k. b.4 k ∙ ap (λ l. told_by k l ++ told_by k items) (sym mine.1) in (
      (λ k d below. (knows.1 k d below).2 ∙ parts _),
      (λ k late. both_empty (told_by k v.heard) (told_by k items) (sym (parts k) ∙ (knows.0 k late).1)),
    )
