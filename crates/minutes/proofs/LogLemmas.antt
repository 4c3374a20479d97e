-- The reports of a log are of its own serials, where those of each entry are of the entry's.
use Rattle.std.proofs.Common.{◌≡◌, ◌∙◌, ℕ, ◌==◌, ◌&&◌, ◌||◌, Bool, true, false, true≢false, List, [], ◌∷◌, flat_map, map, refl, sym, ap, eqb-true, eq-eqb}
use Rattle.std.specs.List.{list_all}
use Rattle.std.proofs.lemmas.List.Folds.{list_all-append}
use Rattle.ruled_dispatch.specs.declared.items.Report.{Report}
use Rattle.minutes.specs.Logs.{are_of}
use Rattle.minutes.specs.Minutes.{is_among}

both : (b c : Bool) → b ≡ true → c ≡ true → (b && c) ≡ true
both b c e f = ap (λ x. x && c) e ∙ f

left : (b c : Bool) → (b && c) ≡ true → b ≡ true
left true c e = refl
left false c e = e

right : (b c : Bool) → (b && c) ≡ true → c ≡ true
right true c e = e
right false c e = absurd (true≢false (sym e))

or_right : (b c : Bool) → c ≡ true → (b || c) ≡ true
or_right true c e = refl
or_right false c e = e

-- with a serial more they are still of these
are_of_more : (s : ℕ) (serials : List ℕ) (rs : List Report) → are_of serials rs ≡ true → are_of (s ∷ serials) rs ≡ true
are_of_more s serials [] all = refl
are_of_more s serials (r ∷ rs) all =
    both (is_among (s ∷ serials) r.serial) (are_of (s ∷ serials) rs) (or_right (s == r.serial) (is_among serials r.serial) (left (is_among serials r.serial) (are_of serials rs) all))
    (are_of_more s serials rs (right (is_among serials r.serial) (are_of serials rs) all))

-- those of the first serial
are_of_first : (s : ℕ) (serials : List ℕ) (rs : List Report) → list_all (λ (r : Report). r.serial == s) rs ≡ true → are_of (s ∷ serials) rs ≡ true
are_of_first s serials [] all = refl
are_of_first s serials (r ∷ rs) all =
    both (is_among (s ∷ serials) r.serial) (are_of (s ∷ serials) rs)
    (ap (λ b. b || is_among serials r.serial) (eq-eqb s r.serial (sym (eqb-true r.serial s (left (r.serial == s) (list_all (λ (x : Report). x.serial == s) rs) all)))))
    (are_of_first s serials rs (right (r.serial == s) (list_all (λ (x : Report). x.serial == s) rs) all))

pub log_is_own : {E : Type 0} (serial : E → ℕ) (reports : E → List Report) (log : List E) → ((e : E) → list_all (λ (r : Report). r.serial == serial e) (reports e) ≡ true) → are_of (map serial log) (flat_map reports log) ≡ true
log_is_own serial reports [] each = refl
log_is_own serial reports (e ∷ es) each =
    list_all-append (λ (r : Report). is_among (serial e ∷ map serial es) r.serial) (reports e) (flat_map reports es)
    ∙ both (are_of (serial e ∷ map serial es) (reports e)) (are_of (serial e ∷ map serial es) (flat_map reports es)) (are_of_first (serial e) (map serial es) (reports e) (each e))
    (are_of_more (serial e) (map serial es) (flat_map reports es) (log_is_own serial reports es each))
