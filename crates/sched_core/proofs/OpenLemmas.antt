-- A try without an end is found among the runs that have one.
use Rattle.std.proofs.Common.{◌≡◌, ◌∙◌, refl, sym, ap, ℕ, zero, suc, ◌+◌, ◌<◌, List, [], ◌∷◌, ◌++◌, Bool, false, ◌&&◌, ◌==◌, cond, find, filter, flat_map, length, take, Option, Some, None, slice_get, get_or, arith}
use Rattle.std.specs.List.{list_any}
use Rattle.std.specs.Option.{option_to_list}
use Rattle.instance_machine.specs.Instances.{InstanceValue}
use Rattle.instance_machine.specs.declared.tries.Try.{Try}
use Rattle.sched_state.specs.declared.runs.Run.{Run}
use Rattle.sched_state.proofs.OrderLemmas.{or_left, or_right}
use Rattle.sched_model.specs.Causes.{open_try}
use Rattle.sched_model.specs.Schedule.{Schedule}
use Rattle.sched_model.specs.States.{is_open}
use Rattle.sched_laws.proofs.DecisionLemmas.{by_bool}
use Rattle.run_lists.specs.Positions.{positions_where, stands}
use Rattle.run_lists.specs.declared.positions.Standing.TheVariants.{InFlight}
use Rattle.sched_settling.specs.Touched.{runs_at}
use Rattle.sched_core.proofs.StandingLemmas.{runs_standing}
use Rattle.sched_core.specs.Finding.{tries_in}
use Rattle.sched_core.proofs.FindLemmas.{find_first, find_join, none_back, none_front}

-- it has no end and this serial
abbrev pub is_sought : ℕ → Try → Bool
is_sought serial t = is_open t && t.serial == serial

-- ---- what a search through lists of tries finds
by_option : {X C : Type 0} (o : Option X) → (o ≡ None → C) → ((x : X) → o ≡ Some x → C) → C
by_option {X} {C} o f g = elim o as (λ p. o ≡ p → C) [ None ↦ λ e. f e | Some x ↦ λ e. g x e ] refl

-- where those of the other runs are none, what is found among chosen runs is what is found among all
pub found_alike : (p : Run → Bool) (serial : ℕ) (rs : List Run) → ((r : Run) (n : ℕ) → slice_get rs n ≡ Some r → p r ≡ false → find (is_sought serial) (tries_in r) ≡ None)
    → find (is_sought serial) (flat_map tries_in rs) ≡ find (is_sought serial) (flat_map tries_in (filter p rs))
found_alike p serial [] h = refl
found_alike p serial (r ∷ rs) h =
    let rest = found_alike p serial rs (λ q n e off. h q (suc n) e off) in
    by_bool {C = find (is_sought serial) (tries_in r ++ flat_map tries_in rs) ≡ find (is_sought serial) (flat_map tries_in (filter p (r ∷ rs)))} (p r)
    (λ on. by_option {C = find (is_sought serial) (tries_in r ++ flat_map tries_in rs) ≡ find (is_sought serial) (flat_map tries_in (filter p (r ∷ rs)))} (find (is_sought serial) (tries_in r))
    (λ none.
    find_join (is_sought serial) (tries_in r) (flat_map tries_in rs) none
    ∙ (rest ∙ (sym (find_join (is_sought serial) (tries_in r) (flat_map tries_in (filter p rs)) none) ∙ sym (ap (λ b. find (is_sought serial) (flat_map tries_in (cond b (r ∷ filter p rs) (filter p rs)))) on))))
    (λ u some.
    find_first (is_sought serial) (tries_in r) (flat_map tries_in rs) u some
    ∙ (sym (find_first (is_sought serial) (tries_in r) (flat_map tries_in (filter p rs)) u some) ∙ sym (ap (λ b. find (is_sought serial) (flat_map tries_in (cond b (r ∷ filter p rs) (filter p rs)))) on))))
    (λ off. find_join (is_sought serial) (tries_in r) (flat_map tries_in rs) (h r 0 refl off) ∙ (rest ∙ sym (ap (λ b. find (is_sought serial) (flat_map tries_in (cond b (r ∷ filter p rs) (filter p rs)))) off)))

-- ---- a run without open tries has none
none_open : (serial : ℕ) (ts : List Try) → list_any is_open ts ≡ false → find (is_sought serial) ts ≡ None
none_open serial [] h = refl
none_open serial (t ∷ ts) h =
    let off : is_sought serial t ≡ false = ap (λ b. b && t.serial == serial) (or_left (is_open t) _ h) in
    ap (λ b. cond b (Some t) (find (is_sought serial) ts)) off ∙ none_open serial ts (or_right (is_open t) _ h)

none_in : (serial : ℕ) (is : List InstanceValue) → list_any (λ (i : InstanceValue). list_any is_open i.tries) is ≡ false → find (is_sought serial) (flat_map (λ (i : InstanceValue). i.tries) is) ≡ None
none_in serial [] h = refl
none_in serial (i ∷ is) h =
    find_join (is_sought serial) i.tries (flat_map (λ (j : InstanceValue). j.tries) is) (none_open serial i.tries (or_left (list_any is_open i.tries) _ h))
    ∙ none_in serial is (or_right (list_any is_open i.tries) _ h)

-- ---- a search among the runs at positions
skipped : (serial : ℕ) (o : Option Run) (xs ys : List Run) → find (is_sought serial) (flat_map tries_in (option_to_list o ++ xs)) ≡ None
    → find (is_sought serial) (flat_map tries_in (option_to_list o ++ ys)) ≡ find (is_sought serial) (flat_map tries_in ys)
skipped serial None xs ys e = refl
skipped serial (Some r) xs ys e = find_join (is_sought serial) (tries_in r) (flat_map tries_in ys) (none_front (is_sought serial) (tries_in r) (flat_map tries_in xs) e)

none_later : (serial : ℕ) (o : Option Run) (xs : List Run) → find (is_sought serial) (flat_map tries_in (option_to_list o ++ xs)) ≡ None → find (is_sought serial) (flat_map tries_in xs) ≡ None
none_later serial None xs e = e
none_later serial (Some r) xs e = none_back (is_sought serial) (tries_in r) (flat_map tries_in xs) e

-- the first positions have none, and the run at the next one has it
pub found_next : (serial : ℕ) (rs : List Run) (ps : List ℕ) (i : ℕ) (r : Run) (t : Try) → find (is_sought serial) (flat_map tries_in (runs_at rs (take i ps))) ≡ None → i < length ps → slice_get rs (get_or ps i 0) ≡ Some r
    → find (is_sought serial) (tries_in r) ≡ Some t → find (is_sought serial) (flat_map tries_in (runs_at rs ps)) ≡ Some t
found_next serial rs [] i r t none low there here = absurd (omega (arith, low))
found_next serial rs (p ∷ ps) zero r t none low there here =
    ap (λ (o : Option Run). find (is_sought serial) (flat_map tries_in (option_to_list o ++ runs_at rs ps))) there ∙ find_first (is_sought serial) (tries_in r) (flat_map tries_in (runs_at rs ps)) t here
found_next serial rs (p ∷ ps) (suc i) r t none low there here =
    skipped serial (slice_get rs p) (runs_at rs (take i ps)) (runs_at rs ps) none
    ∙ found_next serial rs ps i r t (none_later serial (slice_get rs p) (runs_at rs (take i ps)) none) (omega (arith, low)) there here

-- and where that has none either
missed : (serial : ℕ) (rs : List Run) (ps : List ℕ) (i : ℕ) (r : Run) → find (is_sought serial) (flat_map tries_in (runs_at rs (take i ps))) ≡ None → i < length ps → slice_get rs (get_or ps i 0) ≡ Some r
    → find (is_sought serial) (tries_in r) ≡ None → find (is_sought serial) (flat_map tries_in (runs_at rs (take (suc i) ps))) ≡ None
missed serial rs [] i r none low there here = absurd (omega (arith, low))
missed serial rs (p ∷ ps) zero r none low there here =
    ap (λ (o : Option Run). find (is_sought serial) (flat_map tries_in (option_to_list o ++ []))) there ∙ find_join (is_sought serial) (tries_in r) [] here
missed serial rs (p ∷ ps) (suc i) r none low there here =
    skipped serial (slice_get rs p) (runs_at rs (take i ps)) (runs_at rs (take (suc i) ps)) none
    ∙ missed serial rs ps i r (none_later serial (slice_get rs p) (runs_at rs (take i ps)) none) (omega (arith, low)) there here

pub missed_next : (serial : ℕ) (rs : List Run) (ps : List ℕ) (i : ℕ) (r : Run) → find (is_sought serial) (flat_map tries_in (runs_at rs (take i ps))) ≡ None → i < length ps → slice_get rs (get_or ps i 0) ≡ Some r
    → find (is_sought serial) (tries_in r) ≡ None → find (is_sought serial) (flat_map tries_in (runs_at rs (take (i + 1) ps))) ≡ None
missed_next serial rs ps i r none low there here = let e : i + 1 ≡ suc i = omega arith in rw e (missed serial rs ps i r none low there here)

-- what is found among the runs that have a try in flight is what is found among all
pub found_in_flight : (a : Schedule) (serial : ℕ) (rs : List Run) (ps : List ℕ) (o : Option Try) → rs ≡ a.runs → ps ≡ positions_where (stands InFlight) rs → o ≡ find (is_sought serial) (flat_map tries_in (runs_at rs ps)) → o ≡ open_try a serial
found_in_flight a serial rs ps o runs at found =
    found
    ∙ (ap (λ (qs : List Run). find (is_sought serial) (flat_map tries_in qs)) (runs_standing (stands InFlight) rs ps at)
    ∙ (sym (found_alike (stands InFlight) serial rs (λ r n there off. none_in serial r.instances off)) ∙ ap (λ (qs : List Run). find (is_sought serial) (flat_map tries_in qs)) runs))
