-- A verdict stands once it is there.
use Rattle.std.proofs.Common.{◌≡◌, ◌≢◌, ◌∙◌, ◌⊎◌, Bool, true, false, not, ◌&&◌, ◌||◌, List, [], ◌∷◌, refl, sym, ap, inl, inr}
use Rattle.std.proofs.lemmas.Bool.{true≢false, cases_Bool, and_parts, or_left, or_right}
use Rattle.std.specs.List.{list_any, list_all}
use Rattle.graph_file.specs.declared.rules.Rule.{Rule}
use Rattle.graph_file.specs.declared.rules.Rule.TheVariants as rule
use Rattle.trigger_rules.specs.States.{is_success, is_failed, is_upstream_failed, is_skipped, is_bad, is_finished}
use Rattle.trigger_rules.specs.Rules.{decide, is_done, is_success_or_skipped, is_success_or_bad, row_of, rule_verdict}
use Rattle.trigger_rules.specs.Progress.{GoOn}
use Rattle.trigger_rules.specs.declared.states.State.{State}
use Rattle.trigger_rules.specs.declared.states.State.TheVariants as state
use Rattle.trigger_rules.specs.declared.verdicts.Verdict.TheVariants.{Wait, Run, Skip, UpstreamFailed}

-- the test passes ends alone
TellsEnd : (State → Bool) → Type 0
TellsEnd p = (x : State) → p x ≡ true → is_finished x ≡ true

-- all ends stay
all-end : (s t : List State) → GoOn s t → list_all is_finished s ≡ true → t ≡ s
all-end [] [] g h = refl
all-end [] (y ∷ t) g h = absurd g
all-end (x ∷ s) [] g h = absurd g
all-end (x ∷ s) (y ∷ t) g h =
    let here : y ≡ x = g.0 (and_parts (is_finished x) (list_all is_finished s) h).0 in
    let rest : t ≡ s = all-end s t g.1 (and_parts (is_finished x) (list_all is_finished s) h).1 in
    cc

all-weaker : (p : State → Bool) → TellsEnd p → (s : List State) → list_all p s ≡ true → list_all is_finished s ≡ true
unfolding TellsEnd
all-weaker p e [] h = refl
all-weaker p e (x ∷ s) h =
    let here : is_finished x ≡ true = e x (and_parts (p x) (list_all p s) h).0 in
    let rest : list_all is_finished s ≡ true = all-weaker p e s (and_parts (p x) (list_all p s) h).1 in
    ap (λ (v : Bool). v && list_all is_finished s) here ∙ rest

or-step : (a b c d : Bool) → (a ≡ true → c ≡ true) → (b ≡ true → d ≡ true) → (a || b) ≡ true → (c || d) ≡ true
or-step true b true d f g h = refl
or-step true b false d f g h = absurd (true≢false (sym (f refl)))
or-step false b true d f g h = refl
or-step false b false d f g h = g h

-- an end that passes stays
any-stays : (p : State → Bool) → TellsEnd p → (s t : List State) → GoOn s t → list_any p s ≡ true → list_any p t ≡ true
unfolding TellsEnd
any-stays p e [] [] g h = h
any-stays p e [] (y ∷ t) g h = absurd g
any-stays p e (x ∷ s) [] g h = absurd g
any-stays p e (x ∷ s) (y ∷ t) g h =
    or-step (p x) (list_any p s) (p y) (list_any p t) (λ v. ap p (g.0 (e x v)) ∙ v) (any-stays p e s t g.1) h

-- where one passes a test that no other passes, not all pass the other
not-all : (p q : State → Bool) → ((x : State) → p x ≡ true → q x ≡ false) → (s : List State) → list_any p s ≡ true → list_all q s ≡ false
not-all p q e [] h = absurd (true≢false (sym h))
not-all p q e (x ∷ s) h = at (p x) (q x) (list_any p s) (list_all q s) (e x) (not-all p q e s) h
  where
    at : (a b c d : Bool) → (a ≡ true → b ≡ false) → (c ≡ true → d ≡ false) → (a || c) ≡ true → (b && d) ≡ false
    at true true c d f g h = absurd (true≢false (f refl))
    at true false c d f g h = refl
    at false true c d f g h = g h
    at false false c d f g h = refl

runs : (a b c : Bool) → a ≡ true → decide a b c ≡ Run
runs true b c h = refl
runs false b c h = absurd (true≢false (sym h))

fails : (a b c : Bool) → a ≡ false → b ≡ true → decide a b c ≡ UpstreamFailed
fails a b c h k = ap (λ x. decide x b c) h ∙ ap (λ y. decide false y c) k

skips : (a b c : Bool) → a ≡ false → b ≡ false → c ≡ true → decide a b c ≡ Skip
skips a b c h k l = ap (λ x. decide x b c) h ∙ (ap (λ y. decide false y c) k ∙ ap (λ z. decide false false z) l)

waits : (a b c : Bool) → a ≡ false → b ≡ false → c ≡ false → decide a b c ≡ Wait
waits a b c h k l = ap (λ x. decide x b c) h ∙ (ap (λ y. decide false y c) k ∙ ap (λ z. decide false false z) l)

-- a row whose Run wants all and whose Skip wants one that is none of these
all-or-skip : (q p : State → Bool) → TellsEnd q → TellsEnd p → ((x : State) → p x ≡ true → q x ≡ false) → (s t : List State) → GoOn s t → decide (list_all q s) false (list_any p s) ≢ Wait
    → decide (list_all q t) false (list_any p t) ≡ decide (list_all q s) false (list_any p s)
all-or-skip q p eq ep apart s t g h = by (cases_Bool (list_all q s)) (cases_Bool (list_any p s))
  where
    by : (list_all q s ≡ true) ⊎ (list_all q s ≡ false) → (list_any p s ≡ true) ⊎ (list_any p s ≡ false) → decide (list_all q t) false (list_any p t) ≡ decide (list_all q s) false (list_any p s)
    by (inl all) some = ap (λ (l : List State). decide (list_all q l) false (list_any p l)) (all-end s t g (all-weaker q eq s all))
    by (inr not_all) (inl some) =
        let later : list_any p t ≡ true = any-stays p ep s t g some in
        skips (list_all q t) false (list_any p t) (not-all p q apart t later) refl later ∙ sym (skips (list_all q s) false (list_any p s) not_all refl some)
    by (inr not_all) (inr no_one) = absurd (h (waits (list_all q s) false (list_any p s) not_all refl no_one))

-- the same where one makes the task upstream_failed
all-or-fail : (q p : State → Bool) → TellsEnd q → TellsEnd p → ((x : State) → p x ≡ true → q x ≡ false) → (s t : List State) → GoOn s t → decide (list_all q s) (list_any p s) false ≢ Wait
    → decide (list_all q t) (list_any p t) false ≡ decide (list_all q s) (list_any p s) false
all-or-fail q p eq ep apart s t g h = by (cases_Bool (list_all q s)) (cases_Bool (list_any p s))
  where
    by : (list_all q s ≡ true) ⊎ (list_all q s ≡ false) → (list_any p s ≡ true) ⊎ (list_any p s ≡ false) → decide (list_all q t) (list_any p t) false ≡ decide (list_all q s) (list_any p s) false
    by (inl all) some = ap (λ (l : List State). decide (list_all q l) (list_any p l) false) (all-end s t g (all-weaker q eq s all))
    by (inr not_all) (inl some) =
        let later : list_any p t ≡ true = any-stays p ep s t g some in
        fails (list_all q t) (list_any p t) false (not-all p q apart t later) later ∙ sym (fails (list_all q s) (list_any p s) false not_all some)
    by (inr not_all) (inr no_one) = absurd (h (waits (list_all q s) (list_any p s) false not_all no_one refl))

-- a row whose Run wants one, and whose other columns want that all have ended
any-or-ended : (p : State → Bool) (b c : List State → Bool) → TellsEnd p → ((s : List State) → b s ≡ true → list_all is_finished s ≡ true) → ((s : List State) → c s ≡ true → list_all is_finished s ≡ true)
    → (s t : List State) → GoOn s t → decide (list_any p s) (b s) (c s) ≢ Wait → decide (list_any p t) (b t) (c t) ≡ decide (list_any p s) (b s) (c s)
any-or-ended p b c e eb ec s t g h = by (cases_Bool (list_any p s)) (cases_Bool (b s)) (cases_Bool (c s))
  where
    whole : list_all is_finished s ≡ true → decide (list_any p t) (b t) (c t) ≡ decide (list_any p s) (b s) (c s)
    whole all = ap (λ (l : List State). decide (list_any p l) (b l) (c l)) (all-end s t g all)

    by : (list_any p s ≡ true) ⊎ (list_any p s ≡ false) → (b s ≡ true) ⊎ (b s ≡ false) → (c s ≡ true) ⊎ (c s ≡ false) → decide (list_any p t) (b t) (c t) ≡ decide (list_any p s) (b s) (c s)
    by (inl some) x y = runs (list_any p t) (b t) (c t) (any-stays p e s t g some) ∙ sym (runs (list_any p s) (b s) (c s) some)
    by (inr no_one) (inl fail) y = whole (eb s fail)
    by (inr no_one) (inr no_fail) (inl skip) = whole (ec s skip)
    by (inr no_one) (inr no_fail) (inr no_skip) = absurd (h (waits (list_any p s) (b s) (c s) no_one no_fail no_skip))

or-ends : (a b c : Bool) → (a || c) ≡ true → ((a || b) || c) ≡ true
or-ends true b c h = refl
or-ends false true c h = refl
or-ends false false c h = h

or-weaker : (a f u : Bool) → (a || f) ≡ true → (a || (f || u)) ≡ true
or-weaker true f u h = refl
or-weaker false true u h = refl
or-weaker false false u h = absurd (true≢false (sym h))

success-ends : TellsEnd is_success
unfolding TellsEnd
success-ends x h = or_left (is_success x || is_bad x) (is_skipped x) (or_left (is_success x) (is_bad x) h)

skipped-ends : TellsEnd is_skipped
unfolding TellsEnd
skipped-ends x h = or_right (is_success x || is_bad x) (is_skipped x) h

bad-ends : TellsEnd is_bad
unfolding TellsEnd
bad-ends x h = or_left (is_success x || is_bad x) (is_skipped x) (or_right (is_success x) (is_bad x) h)

done-ends : TellsEnd is_done
unfolding TellsEnd
done-ends x h = or_left (is_success x || is_bad x) (is_skipped x) (or-weaker (is_success x) (is_failed x) (is_upstream_failed x) h)

success_or_skipped-ends : TellsEnd is_success_or_skipped
unfolding TellsEnd
success_or_skipped-ends x h = or-ends (is_success x) (is_bad x) (is_skipped x) h

success_or_bad-ends : TellsEnd is_success_or_bad
unfolding TellsEnd
success_or_bad-ends x h = or_left (is_success x || is_bad x) (is_skipped x) h

not-bad : (x : State) → is_success_or_skipped x ≡ true → is_bad x ≡ false
not-bad state.None h = cc
not-bad _ h = cc

not-skipped : (x : State) → is_success_or_bad x ≡ true → is_skipped x ≡ false
not-skipped state.None h = cc
not-skipped _ h = cc

bad-apart : (x : State) → is_bad x ≡ true → is_success_or_skipped x ≡ false
bad-apart state.None h = cc
bad-apart _ h = cc

skipped-apart : (x : State) → is_skipped x ≡ true → is_success_or_bad x ≡ false
skipped-apart state.None h = cc
skipped-apart _ h = cc

all-done : (s t : List State) → GoOn s t → decide (list_all is_finished s) false false ≢ Wait → decide (list_all is_finished t) false false ≡ decide (list_all is_finished s) false false
all-done s t g h = by (cases_Bool (list_all is_finished s))
  where
    by : (list_all is_finished s ≡ true) ⊎ (list_all is_finished s ≡ false) → decide (list_all is_finished t) false false ≡ decide (list_all is_finished s) false false
    by (inl all) = ap (λ (l : List State). decide (list_all is_finished l) false false) (all-end s t g all)
    by (inr not_all) = absurd (h (waits (list_all is_finished s) false false not_all refl refl))

no-run : (a b c : Bool) → b ≡ true → ((a && not b) && c) ≡ false
no-run true b c h = ap (λ (v : Bool). not v && c) h
no-run false b c h = refl

-- when the task runs under none_failed_min_one_success
abbrev runs_min_one : List State → Bool
runs_min_one l = list_all is_finished l && not (list_any is_bad l) && list_any is_success l

min-one : (s t : List State) → GoOn s t → row_of rule.NoneFailedMinOneSuccess s ≢ Wait → row_of rule.NoneFailedMinOneSuccess t ≡ row_of rule.NoneFailedMinOneSuccess s
min-one s t g h = by (cases_Bool (runs_min_one s)) (cases_Bool (list_any is_bad s)) (cases_Bool (list_all is_skipped s))
  where
    whole : list_all is_finished s ≡ true → row_of rule.NoneFailedMinOneSuccess t ≡ row_of rule.NoneFailedMinOneSuccess s
    whole ended = ap (row_of rule.NoneFailedMinOneSuccess) (all-end s t g ended)

    by : (runs_min_one s ≡ true) ⊎ (runs_min_one s ≡ false) → (list_any is_bad s ≡ true) ⊎ (list_any is_bad s ≡ false) → (list_all is_skipped s ≡ true) ⊎ (list_all is_skipped s ≡ false) → row_of rule.NoneFailedMinOneSuccess t ≡ row_of rule.NoneFailedMinOneSuccess s
    by (inl run) y z = whole (and_parts (list_all is_finished s) (not (list_any is_bad s)) (and_parts (list_all is_finished s && not (list_any is_bad s)) (list_any is_success s) run).0).0
    by (inr stays) (inl some) z =
        let later : list_any is_bad t ≡ true = any-stays is_bad bad-ends s t g some in
        fails (runs_min_one t) (list_any is_bad t) (list_all is_skipped t) (no-run (list_all is_finished t) (list_any is_bad t) (list_any is_success t) later) later
        ∙ sym (fails (runs_min_one s) (list_any is_bad s) (list_all is_skipped s) stays some)
    by (inr stays) (inr no_bad) (inl skip) = whole (all-weaker is_skipped skipped-ends s skip)
    by (inr stays) (inr no_bad) (inr no_skip) = absurd (h (waits (runs_min_one s) (list_any is_bad s) (list_all is_skipped s) stays no_bad no_skip))

rows : (r : Rule) (s t : List State) → r ≢ rule.AllSuccess → GoOn s t → row_of r s ≢ Wait → row_of r t ≡ row_of r s
rows rule.AllSuccess s t n g h = absurd (n refl)
rows rule.AllFailed s t n g h = all-or-skip is_bad is_success_or_skipped bad-ends success_or_skipped-ends not-bad s t g h
rows rule.AllDone s t n g h = all-done s t g h
rows rule.AllSkipped s t n g h = all-or-skip is_skipped is_success_or_bad skipped-ends success_or_bad-ends not-skipped s t g h
rows rule.OneFailed s t n g h =
    any-or-ended is_bad (λ l. false) (λ l. list_all is_finished l && not (list_any is_bad l)) bad-ends (λ l k. absurd (true≢false (sym k)))
    (λ l k. (and_parts (list_all is_finished l) (not (list_any is_bad l)) k).0) s t g h
rows rule.OneSuccess s t n g h =
    any-or-ended is_success (λ l. list_all is_finished l && not (list_any is_success l) && not (list_all is_skipped l)) (λ l. list_all is_skipped l) success-ends
    (λ l k. (and_parts (list_all is_finished l) (not (list_any is_success l)) (and_parts (list_all is_finished l && not (list_any is_success l)) (not (list_all is_skipped l)) k).0).0)
    (λ l k. all-weaker is_skipped skipped-ends l k) s t g h
rows rule.OneDone s t n g h =
    any-or-ended is_done (λ l. false) (λ l. list_all is_finished l && not (list_any is_done l)) done-ends (λ l k. absurd (true≢false (sym k)))
    (λ l k. (and_parts (list_all is_finished l) (not (list_any is_done l)) k).0) s t g h
rows rule.NoneFailed s t n g h = all-or-fail is_success_or_skipped is_bad success_or_skipped-ends bad-ends bad-apart s t g h
rows rule.NoneFailedMinOneSuccess s t n g h = min-one s t g h
rows rule.NoneSkipped s t n g h = all-or-skip is_success_or_bad is_skipped success_or_bad-ends skipped-ends skipped-apart s t g h
rows rule.Always s t n g h = refl

pub stands : (r : Rule) (s t : List State) → r ≢ rule.AllSuccess → GoOn s t → rule_verdict r s ≢ Wait → rule_verdict r t ≡ rule_verdict r s
stands r [] [] n g h = refl
stands r [] (y ∷ t) n g h = absurd g
stands r (x ∷ s) [] n g h = absurd g
stands r (x ∷ s) (y ∷ t) n g h = rows r (x ∷ s) (y ∷ t) n g h
