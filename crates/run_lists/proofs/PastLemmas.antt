-- The past of a run, in runs that stand in their order, and what was touched of it.
use Rattle.std.proofs.Common.{◌≡◌, ◌∙◌, refl, sym, ap, subst, ℕ, zero, suc, ◌<◌, Bool, true, false, cond, ◌&&◌, List, [], ◌∷◌, Option, Some, None, option_map, option_and_then, unwrap_or, slice_get, nat_lt, nat_eq, true≢false, arith}
use Rattle.std.specs.List.{AllByRecursion, list_all}
use Rattle.std.specs.Ordering.{nat_cmp, ordering_then, ordering_reverse, is_eq}
use Rattle.std.specs.declared.cmp.Ordering.{Ordering}
use Rattle.std.specs.declared.cmp.Ordering.TheVariants.{Less, Equal, Greater}
use Rattle.std.proofs.lemmas.Bool.{ltb-true, false_from_ne_true, and_from}
use Rattle.std.proofs.lemmas.Cmp.{nat_list_cmp_total}
use Rattle.std.proofs.lemmas.Map.Text.{is_eq-slice_cmp}
use Rattle.graph_file.specs.Lists.{when}
use Rattle.sched_state.specs.Lists.{same, name_cmp, is_less}
use Rattle.sched_state.specs.declared.runs.Run.{Run}
use Rattle.sched_state.proofs.OrderLemmas.{and_left, and_right}
use Rattle.sched_model.specs.Lists.{or_else, last_passing, rises}
use Rattle.sched_model.specs.Schedule.{run_before}
use Rattle.sched_model.specs.States.{is_earlier}
use Rattle.run_lists.specs.Marks.{Mark, Kept, Changed, Added, now_of, runs_of, base_of, is_touched, HasKeyOf, KeepsKey, Over}
use Rattle.run_lists.specs.Past.{neighbour, follows_touched}

-- ---- the order of two runs, and whether one is earlier than the other
less_is : (b c : Bool) → is_less (cond b Less (cond c Equal Greater)) ≡ b
less_is true c = refl
less_is false true = refl
less_is false false = refl

pub nat_less : (x y : ℕ) → is_less (nat_cmp x y) ≡ nat_lt x y
nat_less x y = less_is (nat_lt x y) (nat_eq x y)

same_tie : (x y : List ℕ) → same x y ≡ is_eq (name_cmp x y)
same_tie x y = sym (is_eq-slice_cmp x y)

turned_tie : (x y : List ℕ) → same y x ≡ is_eq (name_cmp x y)
turned_tie x y = same_tie y x ∙ ap is_eq (nat_list_cmp_total.antisymm y x) ∙ turn (name_cmp x y)
  where
    turn : (o : Ordering) → is_eq (ordering_reverse o) ≡ is_eq o
    turn Less = refl
    turn Equal = refl
    turn Greater = refl

not_less : (x y : ℕ) → nat_lt x y ≡ true → nat_lt y x ≡ false
not_less x y h = false_from_ne_true (nat_lt y x) (λ e. let a : x < y = ltb-true x y h in let b : y < x = ltb-true y x e in omega arith)

tie_after : (o p : Ordering) (b : Bool) → is_less (ordering_then o p) ≡ true → (is_less p ≡ true → b ≡ false) → (is_eq o && b) ≡ false
tie_after Less p b h f = refl
tie_after Equal p b h f = f h
tie_after Greater p b h f = refl

tie_before : (o p : Ordering) (b : Bool) → is_less (ordering_then o p) ≡ true → (is_less p ≡ true → b ≡ true) → (is_eq o && b) ≡ is_eq o
tie_before Less p b h f = refl
tie_before Equal p b h f = f h
tie_before Greater p b h f = refl

-- what stands after a run is not earlier, and what stands before is, if it is of its graph
pub after_late : (r q : Run) → run_before r q ≡ true → is_earlier r q ≡ false
after_late r q h =
    ap (λ b. b && nat_lt q.logical r.logical) (turned_tie r.graph q.graph)
    ∙ tie_after (name_cmp r.graph q.graph) (nat_cmp r.logical q.logical) (nat_lt q.logical r.logical) h (λ l. not_less r.logical q.logical (sym (nat_less r.logical q.logical) ∙ l))

pub before_early : (r q : Run) → run_before q r ≡ true → is_earlier r q ≡ same q.graph r.graph
before_early r q h =
    ap (λ b. b && nat_lt q.logical r.logical) (same_tie q.graph r.graph)
    ∙ tie_before (name_cmp q.graph r.graph) (nat_cmp q.logical r.logical) (nat_lt q.logical r.logical) h (λ l. sym (nat_less q.logical r.logical) ∙ l)
    ∙ sym (same_tie q.graph r.graph)

never_itself : (r : Run) → is_earlier r r ≡ false
never_itself r = false_from_ne_true (is_earlier r r) (λ e. let l : r.logical < r.logical = ltb-true _ _ (and_right (same r.graph r.graph) _ e) in omega arith)

-- what stands between two runs of a graph is of that graph
pub between : (x q r : Run) → run_before x q ≡ true → run_before q r ≡ true → same x.graph r.graph ≡ true → same q.graph r.graph ≡ true
between x q r g h e = same_tie q.graph r.graph ∙ by (name_cmp x.graph q.graph) (name_cmp q.graph r.graph) refl refl
  where
    tied : (o : Ordering) → is_eq o ≡ true → o ≡ Equal
    tied Less t = absurd (true≢false (sym t))
    tied Equal t = refl
    tied Greater t = absurd (true≢false (sym t))

    both : name_cmp x.graph r.graph ≡ Equal
    both = tied (name_cmp x.graph r.graph) (sym (same_tie x.graph r.graph) ∙ e)

    by : (o p : Ordering) → name_cmp x.graph q.graph ≡ o → name_cmp q.graph r.graph ≡ p → is_eq (name_cmp q.graph r.graph) ≡ true
    by Equal p a b = ap is_eq (sym (nat_list_cmp_total.congr x.graph q.graph r.graph a) ∙ both)
    by Greater p a b = absurd (true≢false (sym (sym (ap (λ o. is_less (ordering_then o (nat_cmp x.logical q.logical))) a) ∙ g)))
    by Less Equal a b = ap is_eq b
    by Less Greater a b = absurd (true≢false (sym (sym (ap (λ o. is_less (ordering_then o (nat_cmp q.logical r.logical))) b) ∙ h)))
    by Less Less a b = absurd (let c : Less ≡ Equal = sym (nat_list_cmp_total.trans x.graph q.graph r.graph a b) ∙ both in cc)

-- ---- lists
pub all_get : {X : Type 0} (p : X → Bool) (xs : List X) (n : ℕ) (x : X) → list_all p xs ≡ true → slice_get xs n ≡ Some x → p x ≡ true
all_get {X} p [] n x h g = absurd (let c : ◌≡◌ {A = Option X} None (Some x) = g in cc)
all_get p (y ∷ ys) zero x h g = let e : y ≡ x = cc in ap p (sym e) ∙ and_left (p y) _ h
all_get p (y ∷ ys) (suc n) x h g = all_get p ys n x (and_right (p y) _ h) g

-- of a list that rises, each element stands before each behind it
pub rises_pair : {X : Type 0} (before : X → X → Bool) (xs : List X) (m n : ℕ) (x y : X) → rises before xs ≡ true → m < n → slice_get xs m ≡ Some x → slice_get xs n ≡ Some y → before x y ≡ true
rises_pair {X} before [] m n x y r l e f = absurd (let c : ◌≡◌ {A = Option X} None (Some x) = e in cc)
rises_pair before (z ∷ xs) m zero x y r l e f = absurd (omega arith)
rises_pair {X} before (z ∷ xs) zero (suc n) x y r l e f =
    let c : ◌≡◌ {A = Option X} (Some z) (Some x) = e in let q : z ≡ x = cc in
    ap (λ (w : X). before w y) (sym q) ∙ all_get (before z) xs n y (and_left _ _ r) f
rises_pair before (z ∷ xs) (suc m) (suc n) x y r l e f = rises_pair before xs m n x y (and_right (list_all (before z) xs) _ r) (omega arith) e f

pub none_passes : {X : Type 0} (p : X → Bool) (xs : List X) → ((n : ℕ) (x : X) → slice_get xs n ≡ Some x → p x ≡ false) → last_passing p xs ≡ None
none_passes p [] h = refl
none_passes p (x ∷ xs) h = ap (λ o. or_else o (when (p x) x)) (none_passes p xs (λ n y g. h (suc n) y g)) ∙ ap (λ b. when b x) (h zero x refl)

short : {X : Type 0} (xs : List X) (n : ℕ) (x : X) → slice_get xs (suc n) ≡ Some x → slice_get xs n ≡ None → ⊥
short {X} [] n x g e = let c : ◌≡◌ {A = Option X} None (Some x) = g in cc
short {X} (y ∷ ys) zero x g e = let c : ◌≡◌ {A = Option X} (Some y) None = e in cc
short (y ∷ ys) (suc n) x g e = short ys n x g e

pick_first : {X : Type 0} (b c : Bool) (z y : X) → (c ≡ true → b ≡ true) → or_else (when b z) (when c y) ≡ when b z
pick_first true c z y h = refl
pick_first false true z y h = absurd (true≢false (sym (h refl)))
pick_first false false z y h = refl

-- ---- the last earlier one stands right before
module _ {X : Type 0} (run : X → Run) where
  next_after : (xs : List X) (n : ℕ) (z x : X) → rises (λ y z. run_before (run y) (run z)) xs ≡ true → slice_get xs n ≡ Some z → slice_get xs (suc n) ≡ Some x → run_before (run z) (run x) ≡ true
  next_after [] n z x h f g = absurd (let c : ◌≡◌ {A = Option X} None (Some x) = g in cc)
  next_after (y ∷ ys) zero z x h f g = let e : y ≡ z = cc in subst (λ w. run_before (run w) (run x) ≡ true) e (all_get (λ w. run_before (run y) (run w)) ys zero x (and_left _ _ h) g)
  next_after (y ∷ ys) (suc n) z x h f g = next_after ys n z x (and_right (list_all (λ w. run_before (run y) (run w)) ys) _ h) f g

  -- one that stands further before makes no difference
  further : (y : X) (ys : List X) (n : ℕ) (x : X) (r : Run) → list_all (λ z. run_before (run y) (run z)) ys ≡ true → rises (λ y z. run_before (run y) (run z)) ys ≡ true → slice_get ys (suc n) ≡ Some x → run x ≡ r
      → or_else (neighbour run r (suc n) ys) (when (same (run y).graph r.graph) y) ≡ neighbour run r (suc n) ys
  further y ys n x r a h g e = by (slice_get ys n) refl
    where
      by : (o : Option X) → slice_get ys n ≡ o
          → or_else (option_and_then (λ z. when (same (run z).graph r.graph) z) o) (when (same (run y).graph r.graph) y) ≡ option_and_then (λ z. when (same (run z).graph r.graph) z) o
      by None w = absurd (short ys n x g w)
      by (Some z) w =
          pick_first (same (run z).graph r.graph) (same (run y).graph r.graph) z y
          (between (run y) (run z) r (all_get (λ z. run_before (run y) (run z)) ys n z a w) (subst (λ q. run_before (run z) q ≡ true) e (next_after ys n z x h w g)))

  pub past : (xs : List X) (n : ℕ) (x : X) (r : Run) → rises (λ y z. run_before (run y) (run z)) xs ≡ true → slice_get xs n ≡ Some x → run x ≡ r → last_passing (λ y. is_earlier r (run y)) xs ≡ neighbour run r n xs
  past [] n x r h g e = absurd (let c : ◌≡◌ {A = Option X} None (Some x) = g in cc)
  past (y ∷ ys) zero x r h g e =
      let same_one : y ≡ x = cc in
      let is : run y ≡ r = ap run same_one ∙ e in
      ap (λ o. or_else o (when (is_earlier r (run y)) y))
      (none_passes (λ z. is_earlier r (run z)) ys (λ n z f. ap (λ (q : Run). is_earlier q (run z)) (sym is) ∙ after_late (run y) (run z) (all_get (λ z. run_before (run y) (run z)) ys n z (and_left _ _ h) f)))
      ∙ ap (λ b. when b y) (ap (is_earlier r) is ∙ never_itself r)
  past (y ∷ ys) (suc zero) x r h g e =
      let ahead : run_before (run y) r ≡ true = subst (λ q. run_before (run y) q ≡ true) e (all_get (λ z. run_before (run y) (run z)) ys zero x (and_left _ _ h) g) in
      ap (λ o. or_else o (when (is_earlier r (run y)) y)) (past ys zero x r (and_right (list_all (λ z. run_before (run y) (run z)) ys) _ h) g e)
      ∙ ap (λ b. when b y) (before_early r (run y) ahead)
  past (y ∷ ys) (suc (suc n)) x r h g e =
      let ahead : run_before (run y) r ≡ true = subst (λ q. run_before (run y) q ≡ true) e (all_get (λ z. run_before (run y) (run z)) ys (suc n) x (and_left _ _ h) g) in
      let rest : rises (λ y z. run_before (run y) (run z)) ys ≡ true = and_right (list_all (λ z. run_before (run y) (run z)) ys) _ h in
      ap (λ o. or_else o (when (is_earlier r (run y)) y)) (past ys (suc n) x r rest g e)
      ∙ ap (λ b. or_else (neighbour run r (suc n) ys) (when b y)) (before_early r (run y) ahead)
      ∙ further y ys n x r (and_left _ _ h) rest g e

-- ---- keys alone tell the order and the past
key_earlier : (r q s : Run) → HasKeyOf q s → is_earlier r s ≡ is_earlier r q
key_earlier r q s h = ap (λ g. same g r.graph && nat_lt s.logical r.logical) h.0 ∙ ap (λ l. same q.graph r.graph && nat_lt l r.logical) h.1

key_before : (q s z : Run) → HasKeyOf q s → run_before s z ≡ run_before q z
key_before q s z h =
    ap (λ g. is_less (ordering_then (name_cmp g z.graph) (nat_cmp s.logical z.logical))) h.0 ∙ ap (λ l. is_less (ordering_then (name_cmp q.graph z.graph) (nat_cmp l z.logical))) h.1

key_after : (q s z : Run) → HasKeyOf q s → run_before z s ≡ run_before z q
key_after q s z h =
    ap (λ g. is_less (ordering_then (name_cmp z.graph g) (nat_cmp z.logical s.logical))) h.0 ∙ ap (λ l. is_less (ordering_then (name_cmp z.graph q.graph) (nat_cmp z.logical l))) h.1

-- ---- the order of the runs that were there
all_map : (p : Run → Bool) (ms : List Mark) → list_all p (runs_of ms) ≡ true → list_all (λ m. p (now_of m)) ms ≡ true
all_map p [] h = refl
all_map p (m ∷ ms) h = and_from (p (now_of m)) _ (and_left (p (now_of m)) _ h) (all_map p ms (and_right (p (now_of m)) _ h))

marks_rise : (ms : List Mark) → rises run_before (runs_of ms) ≡ true → rises (λ l m. run_before (now_of l) (now_of m)) ms ≡ true
marks_rise [] h = refl
marks_rise (m ∷ ms) h = and_from _ _ (all_map (run_before (now_of m)) ms (and_left _ _ h)) (marks_rise ms (and_right (list_all (run_before (now_of m)) (runs_of ms)) _ h))

all_base : (z : Run) (ms : List Mark) → AllByRecursion KeepsKey ms → list_all (run_before z) (runs_of ms) ≡ true → list_all (run_before z) (base_of ms) ≡ true
all_base z [] k h = refl
all_base z (Kept q ∷ ms) k h = and_from (run_before z q) _ (and_left (run_before z q) _ h) (all_base z ms k.1 (and_right (run_before z q) _ h))
all_base z (Changed q s ∷ ms) k h = and_from (run_before z q) _ (sym (key_after q s z k.0) ∙ and_left (run_before z s) _ h) (all_base z ms k.1 (and_right (run_before z s) _ h))
all_base z (Added s ∷ ms) k h = all_base z ms k.1 (and_right (run_before z s) _ h)

all_keyed : (q s : Run) (rs : List Run) → HasKeyOf q s → list_all (run_before s) rs ≡ list_all (run_before q) rs
all_keyed q s [] h = refl
all_keyed q s (z ∷ zs) h = ap (λ b. b && list_all (run_before s) zs) (key_before q s z h) ∙ ap (λ b. run_before q z && b) (all_keyed q s zs h)

pub base_rises : (ms : List Mark) → AllByRecursion KeepsKey ms → rises run_before (runs_of ms) ≡ true → rises run_before (base_of ms) ≡ true
base_rises [] k h = refl
base_rises (Kept q ∷ ms) k h = and_from _ _ (all_base q ms k.1 (and_left _ _ h)) (base_rises ms k.1 (and_right (list_all (run_before q) (runs_of ms)) _ h))
base_rises (Changed q s ∷ ms) k h =
    and_from _ _ (sym (all_keyed q s (base_of ms) k.0) ∙ all_base s ms k.1 (and_left _ _ h)) (base_rises ms k.1 (and_right (list_all (run_before s) (runs_of ms)) _ h))
base_rises (Added s ∷ ms) k h = base_rises ms k.1 (and_right (list_all (run_before s) (runs_of ms)) _ h)

pub rises_over : (ms : List Mark) (a b : List Run) → Over ms a b → rises run_before b ≡ true → rises run_before a ≡ true
rises_over ms a b h r = ap (rises run_before) (sym h.base) ∙ base_rises ms h.keys (ap (rises run_before) h.runs ∙ r)

-- ---- the past as it was
first_none : {X : Type 0} (o p : Option X) → or_else o p ≡ None → o ≡ None
first_none {X} (Some x) p h = absurd (let c : ◌≡◌ {A = Option X} (Some x) None = h in cc)
first_none None p h = refl

second_none : {X : Type 0} (o p : Option X) → or_else o p ≡ None → p ≡ None
second_none {X} (Some x) p h = absurd (let c : ◌≡◌ {A = Option X} (Some x) None = h in cc)
second_none None p h = h

not_picked : {X : Type 0} (b : Bool) (x : X) → when b x ≡ None → b ≡ false
not_picked {X} true x h = absurd (let c : ◌≡◌ {A = Option X} (Some x) None = h in cc)
not_picked false x h = refl

none_then : (r : Run) (ms : List Mark) → AllByRecursion KeepsKey ms → last_passing (λ m. is_earlier r (now_of m)) ms ≡ None → last_passing (is_earlier r) (base_of ms) ≡ None
none_then r [] k h = refl
none_then r (m ∷ ms) k h = by m k.0 (not_picked (is_earlier r (now_of m)) m (second_none (last_passing (λ m. is_earlier r (now_of m)) ms) _ h)) (none_then r ms k.1 (first_none _ _ h))
  where
    by : (m : Mark) → KeepsKey m → is_earlier r (now_of m) ≡ false → last_passing (is_earlier r) (base_of ms) ≡ None → last_passing (is_earlier r) (base_of (m ∷ ms)) ≡ None
    by (Kept q) k f rest = ap (λ o. or_else o (when (is_earlier r q) q)) rest ∙ ap (λ b. when b q) f
    by (Changed q s) k f rest = ap (λ o. or_else o (when (is_earlier r q) q)) rest ∙ ap (λ b. when b q) (sym (key_earlier r q s k) ∙ f)
    by (Added s) k f rest = rest

some_then : (r : Run) (ms : List Mark) (m : Mark) → AllByRecursion KeepsKey ms → last_passing (λ m. is_earlier r (now_of m)) ms ≡ Some m → is_touched m ≡ false → last_passing (is_earlier r) (base_of ms) ≡ Some (now_of m)
some_then r [] m k h u = absurd (let c : ◌≡◌ {A = Option Mark} None (Some m) = h in cc)
some_then r (l ∷ ms) m k h u = by (last_passing (λ m. is_earlier r (now_of m)) ms) refl h (λ e. some_then r ms m k.1 e u)
  where
    kept_on : (l : Mark) → last_passing (is_earlier r) (base_of ms) ≡ Some (now_of m) → last_passing (is_earlier r) (base_of (l ∷ ms)) ≡ Some (now_of m)
    kept_on (Kept q) e = ap (λ o. or_else o (when (is_earlier r q) q)) e
    kept_on (Changed q s) e = ap (λ o. or_else o (when (is_earlier r q) q)) e
    kept_on (Added s) e = e

    here : (l : Mark) (b : Bool) → is_earlier r (now_of l) ≡ b → when b l ≡ Some m → last_passing (is_earlier r) (base_of ms) ≡ None → last_passing (is_earlier r) (base_of (l ∷ ms)) ≡ Some (now_of m)
    here l false f e rest = absurd (let c : ◌≡◌ {A = Option Mark} None (Some m) = e in cc)
    here (Kept q) true f e rest = let is : Kept q ≡ m = cc in ap (λ o. or_else o (when (is_earlier r q) q)) rest ∙ ap (λ b. when b q) f ∙ ap (λ (x : Mark). Some (now_of x)) is
    here (Changed q s) true f e rest = let is : Changed q s ≡ m = cc in absurd (true≢false (ap is_touched is ∙ u))
    here (Added s) true f e rest = let is : Added s ≡ m = cc in absurd (true≢false (ap is_touched is ∙ u))

    by : (o : Option Mark) → last_passing (λ m. is_earlier r (now_of m)) ms ≡ o → or_else (last_passing (λ m. is_earlier r (now_of m)) ms) (when (is_earlier r (now_of l)) l) ≡ Some m
        → (last_passing (λ m. is_earlier r (now_of m)) ms ≡ Some m → last_passing (is_earlier r) (base_of ms) ≡ Some (now_of m)) → last_passing (is_earlier r) (base_of (l ∷ ms)) ≡ Some (now_of m)
    by None e h rest = here l (is_earlier r (now_of l)) refl (ap (λ o. or_else o (when (is_earlier r (now_of l)) l)) (sym e) ∙ h) (none_then r ms k.1 e)
    by (Some x) e h rest = kept_on l (rest (e ∙ (ap (λ o. or_else o (when (is_earlier r (now_of l)) l)) (sym e) ∙ h)))

last_now : (r : Run) (ms : List Mark) → last_passing (is_earlier r) (runs_of ms) ≡ option_map now_of (last_passing (λ m. is_earlier r (now_of m)) ms)
last_now r [] = refl
last_now r (m ∷ ms) = ap (λ o. or_else o (when (is_earlier r (now_of m)) (now_of m))) (last_now r ms) ∙ both (last_passing (λ m. is_earlier r (now_of m)) ms) (is_earlier r (now_of m))
  where
    both : (o : Option Mark) (b : Bool) → or_else (option_map now_of o) (when b (now_of m)) ≡ option_map now_of (or_else o (when b m))
    both (Some x) b = refl
    both None true = refl
    both None false = refl

get_mark : (ms : List Mark) (n : ℕ) (r : Run) → slice_get (runs_of ms) n ≡ Some r → (m : Mark) × (slice_get ms n ≡ Some m) × (now_of m ≡ r)
get_mark [] n r g = absurd (let c : ◌≡◌ {A = Option Run} None (Some r) = g in cc)
get_mark (m ∷ ms) zero r g = let e : now_of m ≡ r = cc in (m, refl, e)
get_mark (m ∷ ms) (suc n) r g = get_mark ms n r g

pub past_then : (ms : List Mark) (n : ℕ) (r : Run) → AllByRecursion KeepsKey ms → rises run_before (runs_of ms) ≡ true → slice_get (runs_of ms) n ≡ Some r → follows_touched r n ms ≡ false
    → last_passing (is_earlier r) (base_of ms) ≡ last_passing (is_earlier r) (runs_of ms)
past_then ms n r k h g u =
    let m = get_mark ms n r g in
    by (last_passing (λ m. is_earlier r (now_of m)) ms) refl (ap (λ o. unwrap_or (option_map is_touched o) false) (past now_of ms n m.0 r (marks_rise ms h) m.1 m.2) ∙ u)
  where
    by : (o : Option Mark) → last_passing (λ m. is_earlier r (now_of m)) ms ≡ o → unwrap_or (option_map is_touched (last_passing (λ m. is_earlier r (now_of m)) ms)) false ≡ false
        → last_passing (is_earlier r) (base_of ms) ≡ last_passing (is_earlier r) (runs_of ms)
    by None e f = none_then r ms k e ∙ sym (last_now r ms ∙ ap (option_map now_of) e)
    by (Some m) e f = some_then r ms m k e (ap (λ o. unwrap_or (option_map is_touched o) false) (sym e) ∙ f) ∙ sym (last_now r ms ∙ ap (option_map now_of) e)

pub past_over : (ms : List Mark) (a b : List Run) (n : ℕ) (r : Run) → Over ms a b → rises run_before b ≡ true → slice_get b n ≡ Some r → follows_touched r n ms ≡ false → last_passing (is_earlier r) a ≡ last_passing (is_earlier r) b
past_over ms a b n r h rise g u =
    ap (last_passing (is_earlier r)) (sym h.base) ∙ past_then ms n r h.keys (ap (rises run_before) h.runs ∙ rise) (ap (λ rs. slice_get rs n) h.runs ∙ g) u ∙ ap (last_passing (is_earlier r)) h.runs
