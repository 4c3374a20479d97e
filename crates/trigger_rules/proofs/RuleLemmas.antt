-- The table read off counts is the table over the states.
use Rattle.std.proofs.Common.{◌≡◌, ◌≢◌, ◌∙◌, ℕ, zero, suc, ◌+◌, ◌==◌, ◌&&◌, Bool, false, not, nat_lt, List, [], ◌∷◌, refl, sym, ap, arith}
use Rattle.std.proofs.lemmas.Bool.{lt-ltb, ne_eqb}
use Rattle.std.specs.List.{list_any, list_all}
use Rattle.graph_file.specs.declared.rules.Rule.{Rule}
use Rattle.graph_file.specs.declared.rules.Rule.TheVariants as rule
use Rattle.trigger_rules.specs.States.{is_success, is_skipped, is_bad, is_finished}
use Rattle.trigger_rules.specs.Counts.{counts_of, total}
use Rattle.trigger_rules.specs.Rules.{decide, is_done, is_success_or_skipped, is_success_or_bad, row_of, rule_verdict}
use Rattle.trigger_rules.specs.Inside.{bad, done, by_counts}
use Rattle.trigger_rules.specs.declared.states.State.{State}
use Rattle.trigger_rules.proofs.CountLemmas.{count-by_kind, any-is, all-is, zero-some}

columns : (a b c a' b' c' : Bool) → a ≡ a' → b ≡ b' → c ≡ c' → decide a b c ≡ decide a' b' c'
columns a b c a' b' c' e f g = cc

all-success : (s : List State) → (bad (counts_of s) + (counts_of s).skipped + (counts_of s).unfinished == 0) ≡ list_all is_success s
all-success s = all-is is_success s _ (count-by_kind (λ x. not (is_success x)) refl refl refl refl s ∙ omega arith)

all-bad : (s : List State) → ((counts_of s).success + (counts_of s).skipped + (counts_of s).unfinished == 0) ≡ list_all is_bad s
all-bad s = all-is is_bad s _ (count-by_kind (λ x. not (is_bad x)) refl refl refl refl s ∙ omega arith)

all-finished : (s : List State) → ((counts_of s).unfinished == 0) ≡ list_all is_finished s
all-finished s = all-is is_finished s _ refl

all-skipped : (s : List State) → ((counts_of s).success + bad (counts_of s) + (counts_of s).unfinished == 0) ≡ list_all is_skipped s
all-skipped s = all-is is_skipped s _ (count-by_kind (λ x. not (is_skipped x)) refl refl refl refl s ∙ omega arith)

all-success_or_skipped : (s : List State) → (bad (counts_of s) + (counts_of s).unfinished == 0) ≡ list_all is_success_or_skipped s
all-success_or_skipped s = all-is is_success_or_skipped s _ (count-by_kind (λ x. not (is_success_or_skipped x)) refl refl refl refl s ∙ omega arith)

all-success_or_bad : (s : List State) → ((counts_of s).skipped + (counts_of s).unfinished == 0) ≡ list_all is_success_or_bad s
all-success_or_bad s = all-is is_success_or_bad s _ (count-by_kind (λ x. not (is_success_or_bad x)) refl refl refl refl s ∙ omega arith)

any-success : (s : List State) → nat_lt 0 (counts_of s).success ≡ list_any is_success s
any-success s = any-is is_success s _ refl

any-bad : (s : List State) → nat_lt 0 (bad (counts_of s)) ≡ list_any is_bad s
any-bad s = any-is is_bad s _ (count-by_kind is_bad refl refl refl refl s ∙ omega arith)

any-skipped : (s : List State) → nat_lt 0 (counts_of s).skipped ≡ list_any is_skipped s
any-skipped s = any-is is_skipped s _ refl

any-done : (s : List State) → nat_lt 0 (done (counts_of s)) ≡ list_any is_done s
any-done s = any-is is_done s _ (count-by_kind is_done refl refl refl refl s ∙ omega arith)

any-success_or_skipped : (s : List State) → nat_lt 0 ((counts_of s).success + (counts_of s).skipped) ≡ list_any is_success_or_skipped s
any-success_or_skipped s = any-is is_success_or_skipped s _ (count-by_kind is_success_or_skipped refl refl refl refl s ∙ omega arith)

any-success_or_bad : (s : List State) → nat_lt 0 ((counts_of s).success + bad (counts_of s)) ≡ list_any is_success_or_bad s
any-success_or_bad s = any-is is_success_or_bad s _ (count-by_kind is_success_or_bad refl refl refl refl s ∙ omega arith)

both : (a b a' b' : Bool) → a ≡ a' → b ≡ b' → (a && b) ≡ (a' && b')
both a b a' b' e f = cc

no-bad : (s : List State) → (bad (counts_of s) == 0) ≡ not (list_any is_bad s)
no-bad s = zero-some (bad (counts_of s)) ∙ ap not (any-bad s)

no-success : (s : List State) → ((counts_of s).success == 0) ≡ not (list_any is_success s)
no-success s = zero-some (counts_of s).success ∙ ap not (any-success s)

no-done : (s : List State) → (done (counts_of s) == 0) ≡ not (list_any is_done s)
no-done s = zero-some (done (counts_of s)) ∙ ap not (any-done s)

some-zero : (n : ℕ) → nat_lt 0 n ≡ not (n == 0)
some-zero zero = refl
some-zero (suc n) = lt-ltb 0 (suc n) (omega arith) ∙ sym (ap not (ne_eqb (suc n) 0 (λ e. absurd (omega arith))))

-- where none is unfinished and none a success, some are bad unless all are skipped
else-bad : (u s b : ℕ) → (((u == 0) && (s == 0)) && nat_lt 0 b) ≡ (((u == 0) && (s == 0)) && not (s + b + u == 0))
else-bad zero zero b = ap (nat_lt 0) (omega arith) ∙ some-zero (0 + b + 0)
else-bad zero (suc s) b =
    let none : (suc s == 0) ≡ false = ne_eqb (suc s) 0 (λ e. absurd (omega arith)) in
    ap (λ (v : Bool). v && nat_lt 0 b) none ∙ sym (ap (λ (v : Bool). v && not (suc s + b + 0 == 0)) none)
else-bad (suc u) s b =
    let none : (suc u == 0) ≡ false = ne_eqb (suc u) 0 (λ e. absurd (omega arith)) in
    ap (λ (v : Bool). (v && (s == 0)) && nat_lt 0 b) none ∙ sym (ap (λ (v : Bool). (v && (s == 0)) && not (s + b + suc u == 0)) none)

-- each row
pub row : (r : Rule) (s : List State) → by_counts r (counts_of s) ≡ row_of r s
row rule.AllSuccess s = columns _ _ _ _ _ _ (all-success s) (any-bad s) (any-skipped s)
row rule.AllFailed s = columns _ _ _ _ _ _ (all-bad s) refl (any-success_or_skipped s)
row rule.AllDone s = columns _ _ _ _ _ _ (all-finished s) refl refl
row rule.AllSkipped s = columns _ _ _ _ _ _ (all-skipped s) refl (any-success_or_bad s)
row rule.OneFailed s = columns _ _ _ _ _ _ (any-bad s) refl (both _ _ _ _ (all-finished s) (no-bad s))
row rule.OneSuccess s =
    columns _ _ _ _ _ _ (any-success s)
    (else-bad (counts_of s).unfinished (counts_of s).success (bad (counts_of s)) ∙ both _ _ _ _ (both _ _ _ _ (all-finished s) (no-success s)) (ap not (all-skipped s)))
    (all-skipped s)
row rule.OneDone s = columns _ _ _ _ _ _ (any-done s) refl (both _ _ _ _ (all-finished s) (no-done s))
row rule.NoneFailed s = columns _ _ _ _ _ _ (all-success_or_skipped s) (any-bad s) refl
row rule.NoneFailedMinOneSuccess s =
    columns _ _ _ _ _ _ (both _ _ _ _ (both _ _ _ _ (all-finished s) (no-bad s)) (any-success s)) (any-bad s) (all-skipped s)
row rule.NoneSkipped s = columns _ _ _ _ _ _ (all-success_or_bad s) refl (any-skipped s)
row rule.Always s = refl

-- where there are upstreams the row decides
pub row-some : (r : Rule) (s : List State) → total (counts_of s) ≢ 0 → row_of r s ≡ rule_verdict r s
row-some r [] h = absurd (h refl)
row-some r (x ∷ xs) h = refl
