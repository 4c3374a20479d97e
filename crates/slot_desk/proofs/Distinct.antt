-- Lists of holds keep distinct serials when a hold of another serial comes, and when one goes. What then is left are the holds of other serials.
use Rattle.std.proofs.Common.{◌≡◌, ℕ, zero, suc, ◌<◌, ◌==◌, ◌&&◌, ◌||◌, not, Bool, true, false, true≢false, List, [], ◌∷◌, ◌++◌, length, get_or, cond, eq-eqb, ne_eqb, sym, refl, ap, ◌∙◌, arith}
use Rattle.std.specs.List.{remove}
use Rattle.std.proofs.lemmas.List.Folds.{list_any-append}
use Rattle.std.proofs.lemmas.Grind.{common_steps}
use Rattle.slot_desk.specs.declared.holds.Hold.{Hold}
use Rattle.slot_desk.specs.Holds.{has_serial, have_distinct_serials, without}

and_left : (a b : Bool) → (a && b) ≡ true → a ≡ true
and_left true b e = refl
and_left false b e = e

and_right : (a b : Bool) → (a && b) ≡ true → b ≡ true
and_right true b e = e
and_right false b e = absurd (true≢false (sym e))

both : (a b : Bool) → a ≡ true → b ≡ true → (a && b) ≡ true
both a b e f = ap (λ x. x && b) e ∙ f

or_left : (a b : Bool) → (a || b) ≡ false → a ≡ false
or_left true b e = e
or_left false b e = refl

or_right : (a b : Bool) → (a || b) ≡ false → b ≡ false
or_right true b e = absurd (true≢false e)
or_right false b e = e

neither : (a b : Bool) → a ≡ false → b ≡ false → (a || b) ≡ false
neither a b e f = ap (λ x. x || b) e ∙ f

not_true : (a : Bool) → not a ≡ true → a ≡ false
not_true true e = absurd (true≢false (sym e))
not_true false e = refl

other : (a b : ℕ) → (a == b) ≡ false → (b == a) ≡ false
other a b e = grind (arith, common_steps)

-- a hold of a serial that is not there comes
pub distinct_snoc : (hs : List Hold) (h : Hold) → have_distinct_serials hs ≡ true → has_serial h.serial hs ≡ false → have_distinct_serials (hs ++ h ∷ []) ≡ true
distinct_snoc [] h ok new = refl
distinct_snoc (x ∷ xs) h ok new =
    let here : not (has_serial x.serial xs) ≡ true = and_left (not (has_serial x.serial xs)) (have_distinct_serials xs) ok in
    let rest : have_distinct_serials xs ≡ true = and_right (not (has_serial x.serial xs)) (have_distinct_serials xs) ok in
    let differs : (x.serial == h.serial) ≡ false = or_left (x.serial == h.serial) (has_serial h.serial xs) new in
    let later : has_serial h.serial xs ≡ false = or_right (x.serial == h.serial) (has_serial h.serial xs) new in
    let last : has_serial x.serial (h ∷ []) ≡ false = neither (h.serial == x.serial) false (other x.serial h.serial differs) refl in
    let all : has_serial x.serial (xs ++ h ∷ []) ≡ false = list_any-append (λ (y : Hold). y.serial == x.serial) xs (h ∷ []) ∙ neither (has_serial x.serial xs) (has_serial x.serial (h ∷ [])) (not_true (has_serial x.serial xs) here) last in
    both (not (has_serial x.serial (xs ++ h ∷ []))) (have_distinct_serials (xs ++ h ∷ [])) (ap not all) (distinct_snoc xs h rest later)

lacks_less : (s : ℕ) (hs : List Hold) (k : ℕ) → has_serial s hs ≡ false → has_serial s (remove hs k) ≡ false
lacks_less s [] zero e = refl
lacks_less s [] (suc k) e = refl
lacks_less s (x ∷ xs) zero e = or_right (x.serial == s) (has_serial s xs) e
lacks_less s (x ∷ xs) (suc k) e = neither (x.serial == s) (has_serial s (remove xs k)) (or_left (x.serial == s) (has_serial s xs) e) (lacks_less s xs k (or_right (x.serial == s) (has_serial s xs) e))

-- one goes
pub distinct_less : (hs : List Hold) (k : ℕ) → have_distinct_serials hs ≡ true → have_distinct_serials (remove hs k) ≡ true
distinct_less [] zero ok = refl
distinct_less [] (suc k) ok = refl
distinct_less (x ∷ xs) zero ok = and_right (not (has_serial x.serial xs)) (have_distinct_serials xs) ok
distinct_less (x ∷ xs) (suc k) ok =
    let here = not_true (has_serial x.serial xs) (and_left (not (has_serial x.serial xs)) (have_distinct_serials xs) ok) in
    both (not (has_serial x.serial (remove xs k))) (have_distinct_serials (remove xs k)) (ap not (lacks_less x.serial xs k here)) (distinct_less xs k (and_right (not (has_serial x.serial xs)) (have_distinct_serials xs) ok))

kept : (b : Bool) (x : Hold) (rest : List Hold) → b ≡ false → cond (not b) (x ∷ rest) rest ≡ x ∷ rest
kept true x rest e = absurd (true≢false e)
kept false x rest e = refl

dropped : (b : Bool) (x : Hold) (rest : List Hold) → b ≡ true → cond (not b) (x ∷ rest) rest ≡ rest
dropped true x rest e = refl
dropped false x rest e = absurd (true≢false (sym e))

without_none : (s : ℕ) (hs : List Hold) → has_serial s hs ≡ false → without s hs ≡ hs
without_none s [] e = refl
without_none s (x ∷ xs) e =
    let differs : (x.serial == s) ≡ false = or_left (x.serial == s) (has_serial s xs) e in
    kept (x.serial == s) x (without s xs) differs ∙ ap (λ (t : List Hold). x ∷ t) (without_none s xs (or_right (x.serial == s) (has_serial s xs) e))

or_intro_left : (a b : Bool) → a ≡ true → (a || b) ≡ true
or_intro_left true b e = refl
or_intro_left false b e = absurd (true≢false (sym e))

or_intro_right : (a b : Bool) → b ≡ true → (a || b) ≡ true
or_intro_right true b e = refl
or_intro_right false b e = e

has_serial_at : (s : ℕ) (hs : List Hold) (k : ℕ) (d : Hold) → k < length hs → (get_or hs k d).serial ≡ s → has_serial s hs ≡ true
has_serial_at s [] k d below is = absurd (omega arith)
has_serial_at s (x ∷ xs) zero d below is = or_intro_left (x.serial == s) (has_serial s xs) (eq-eqb x.serial s is)
has_serial_at s (x ∷ xs) (suc k) d below is = or_intro_right (x.serial == s) (has_serial s xs) (has_serial_at s xs k d (omega arith) is)

-- what is left where the one of a serial goes
pub remove_is_without : (s : ℕ) (hs : List Hold) (k : ℕ) (d : Hold) → k < length hs → (get_or hs k d).serial ≡ s → have_distinct_serials hs ≡ true → remove hs k ≡ without s hs
remove_is_without s [] k d below is ok = absurd (omega arith)
remove_is_without s (x ∷ xs) zero d below is ok =
    let here : has_serial x.serial xs ≡ false = not_true (has_serial x.serial xs) (and_left (not (has_serial x.serial xs)) (have_distinct_serials xs) ok) in
    let alone : has_serial s xs ≡ false = ap (λ t. has_serial t xs) (sym is) ∙ here in
    sym (dropped (x.serial == s) x (without s xs) (eq-eqb x.serial s is) ∙ without_none s xs alone)
remove_is_without s (x ∷ xs) (suc k) d below is ok =
    let here : has_serial x.serial xs ≡ false = not_true (has_serial x.serial xs) (and_left (not (has_serial x.serial xs)) (have_distinct_serials xs) ok) in
    let rest : have_distinct_serials xs ≡ true = and_right (not (has_serial x.serial xs)) (have_distinct_serials xs) ok in
    let later : has_serial s xs ≡ true = has_serial_at s xs k d (omega arith) is in
    let differs : (x.serial == s) ≡ false = ne_eqb x.serial s (λ same. true≢false (sym later ∙ (ap (λ t. has_serial t xs) (sym same) ∙ here))) in
    ap (λ (t : List Hold). x ∷ t) (remove_is_without s xs k d (omega arith) is rest) ∙ sym (kept (x.serial == s) x (without s xs) differs)
