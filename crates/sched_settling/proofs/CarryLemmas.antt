-- Touched runs by position, and lines that are carried over.
use Rattle.std.proofs.Common.{◌≡◌, ◌∙◌, refl, sym, ap, subst, ℕ, zero, suc, ◌+◌, ◌-◌, ◌<◌, List, [], ◌∷◌, ◌++◌, Bool, true, false, ◌&&◌, ◌||◌, cond, length, map, filter, take, set, slice_get, get_or, nat_lt, nat_eq, count_by, Option, Some, None, option_and_then, true≢false, arith, append_assoc}
use Rattle.std.specs.Option.{option_to_list}
use Rattle.std.specs.List.{list_all}
use Rattle.std.specs.Ordering.{nat_cmp, is_eq, ordering_then}
use Rattle.std.proofs.lemmas.Bool.{eqb-true, eq-eqb, ltb-true, lt-ltb, and_from, or_left, or_right}
use Rattle.std.proofs.lemmas.List.{take_more}
use Rattle.std.proofs.lemmas.List.Sums.{sum_by-append, sum_by-cons}
use Rattle.std.proofs.lemmas.List.Elements.{filter-append}
use Rattle.std.proofs.lemmas.Option.{slice_get_within}
use Rattle.sched_state.specs.Lists.{same, name_cmp}
use Rattle.sched_state.specs.declared.runs.Run.{Run}
use Rattle.sched_state.proofs.NameLemmas.{same_itself}
use Rattle.sched_state.proofs.OrderLemmas.{and_left, and_right, tie_then, nat_tie, less_no_tie}
use Rattle.sched_model.specs.Lists.{rises}
use Rattle.sched_model.specs.Schedule.{Schedule, run_before, is_at, is_queued, is_running}
use Rattle.sched_laws.proofs.RunLemmas.{map_append}
use Rattle.sched_laws.proofs.DecisionLemmas.{by_bool}
use Rattle.std.proofs.lemmas.Map.Text.{is_eq-slice_cmp}
use Rattle.sched_settling.specs.Marks.{CoversRuns, are_within, id_before, ids_of, one_fewer, date_at, kept_dates, IsLine, IsCountedDown}
use Rattle.sched_model.specs.States.{active_runs}
use Rattle.dag_check.specs.Orders.{is_in}
use Rattle.sched_settling.proofs.BeforeLemmas.{earlier_is}
use Rattle.sched_settling.proofs.TouchedLemmas.{counted_over, line_over, touched_decisions, touched_ends}
use Rattle.sched_laws.specs.Stages.{IsOrdered, CoversEnds}
use Rattle.sched_settling.specs.Touched.{Mark, Kept, Changed, Added, Over, is_active, touched_of, replaced_of, positions_of, runs_at, bases_at, with_key, dates_queued, IsCountedIn, IsCountedOff, IsRunCounted, EachLine, AreFresh, AreRecounted, IsCarried, over_runs, is_marked, is_near, IsTouched}
use Rattle.sched_settling.specs.declared.lines.GraphRuns.{GraphRuns}
use Rattle.sched_settling.proofs.AmongLemmas.{ids_set, line_id, lines_differ, same_flips}
use Rattle.sched_settling.proofs.LineLemmas.{same_dates, same_within, same_both, set_there, set_apart, queued_run, run_date}
use Rattle.sched_laws.proofs.ListLemmas.{all_get}

-- ---- the touched runs
runs_shift : (s : Run) (b : List Run) (ps : List ℕ) → runs_at (s ∷ b) (map suc ps) ≡ runs_at b ps
runs_shift s b [] = refl
runs_shift s b (p ∷ ps) = ap (λ rs. option_to_list (slice_get b p) ++ rs) (runs_shift s b ps)

pub touched_runs : (ms : List Mark) (a b : List Run) → Over ms a b → runs_at b (positions_of ms) ≡ touched_of ms b
touched_runs [] [] [] o = refl
touched_runs [] [] (s ∷ b) o = absurd o
touched_runs [] (r ∷ a) b o = absurd o
touched_runs (Kept ∷ ms) [] b o = absurd o
touched_runs (Kept ∷ ms) (r ∷ a) [] o = absurd o
touched_runs (Kept ∷ ms) (r ∷ a) (s ∷ b) o = runs_shift s b (positions_of ms) ∙ touched_runs ms a b o.1
touched_runs (Changed ∷ ms) [] b o = absurd o
touched_runs (Changed ∷ ms) (r ∷ a) [] o = absurd o
touched_runs (Changed ∷ ms) (r ∷ a) (s ∷ b) o = ap (λ rs. s ∷ rs) (runs_shift s b (positions_of ms) ∙ touched_runs ms a b o.1.1)
touched_runs (Added ∷ ms) a [] o = absurd o
touched_runs (Added ∷ ms) a (s ∷ b) o = ap (λ rs. s ∷ rs) (runs_shift s b (positions_of ms) ∙ touched_runs ms a b o)

-- ---- the runs before, by key
at_tie : (s r : Run) → is_eq (ordering_then (name_cmp s.graph r.graph) (nat_cmp s.logical r.logical)) ≡ (same s.graph r.graph && nat_eq s.logical r.logical)
at_tie s r =
    tie_then (name_cmp s.graph r.graph) (nat_cmp s.logical r.logical)
    ∙ (ap (λ b. b && is_eq (nat_cmp s.logical r.logical)) (is_eq-slice_cmp s.graph r.graph) ∙ ap (λ b. same s.graph r.graph && b) (nat_tie s.logical r.logical))

-- runs that stand in order have different keys
key_apart : (s r : Run) → run_before s r ≡ true → is_at r.graph r.logical s ≡ false
key_apart s r e = sym (at_tie s r) ∙ less_no_tie (ordering_then (name_cmp s.graph r.graph) (nat_cmp s.logical r.logical)) e

eq_flips : (x y : ℕ) → nat_eq x y ≡ nat_eq y x
eq_flips x y = by_bool {C = nat_eq x y ≡ nat_eq y x} (nat_eq x y)
    (λ e. let i : y ≡ x = sym (eqb-true x y e) in e ∙ sym (eq-eqb y x i))
    (λ e. by_bool {C = nat_eq x y ≡ nat_eq y x} (nat_eq y x)
    (λ f. let i : x ≡ y = sym (eqb-true y x f) in absurd (true≢false (sym (eq-eqb x y i) ∙ e)))
    (λ f. e ∙ sym f))

key_after : (s r : Run) → run_before s r ≡ true → is_at s.graph s.logical r ≡ false
key_after s r e =
    ap (λ b. b && nat_eq r.logical s.logical) (same_flips r.graph s.graph) ∙ (ap (λ b. same s.graph r.graph && b) (eq_flips r.logical s.logical) ∙ key_apart s r e)

-- a run with the key of one that stands before others stands before them
before_by : (r s x : Run) → s.graph ≡ r.graph → s.logical ≡ r.logical → run_before s x ≡ true → run_before r x ≡ true
before_by r s x e f h =
    subst (λ (d : ℕ). run_before (record r { logical = d }) x ≡ true) f (subst (λ (g : List ℕ). run_before (record r { graph = g; logical = s.logical }) x ≡ true) e h)

before_of : (x r s : Run) → s.graph ≡ r.graph → s.logical ≡ r.logical → run_before x s ≡ true → run_before x r ≡ true
before_of x r s e f h =
    subst (λ (d : ℕ). run_before x (record r { logical = d }) ≡ true) f (subst (λ (g : List ℕ). run_before x (record r { graph = g; logical = s.logical }) ≡ true) e h)

over_after : (ms : List Mark) (a b : List Run) (x : Run) → Over ms a b → list_all (run_before x) b ≡ true → list_all (run_before x) a ≡ true
over_after [] [] [] x o h = refl
over_after [] [] (s ∷ b) x o h = absurd o
over_after [] (r ∷ a) b x o h = absurd o
over_after (Kept ∷ ms) [] b x o h = absurd o
over_after (Kept ∷ ms) (r ∷ a) [] x o h = absurd o
over_after (Kept ∷ ms) (r ∷ a) (s ∷ b) x o h =
    and_from (run_before x r) _ (ap (run_before x) (sym o.0) ∙ and_left _ _ h) (over_after ms a b x o.1 (and_right (run_before x s) _ h))
over_after (Changed ∷ ms) [] b x o h = absurd o
over_after (Changed ∷ ms) (r ∷ a) [] x o h = absurd o
over_after (Changed ∷ ms) (r ∷ a) (s ∷ b) x o h =
    and_from (run_before x r) _ (before_of x r s o.0 o.1.0 (and_left _ _ h)) (over_after ms a b x o.1.1 (and_right (run_before x s) _ h))
over_after (Added ∷ ms) a [] x o h = absurd o
over_after (Added ∷ ms) a (s ∷ b) x o h = over_after ms a b x o (and_right (run_before x s) _ h)

no_key : (s : Run) (a : List Run) → list_all (run_before s) a ≡ true → with_key a s ≡ None
no_key s [] h = refl
no_key s (r ∷ a) h = ap (λ b. cond b (Some r) (with_key a s)) (key_after s r (and_left _ _ h)) ∙ no_key s a (and_right (run_before s r) _ h)

-- the keys of later runs are not that of the first
bases_skip : (r s : Run) (a b : List Run) (ps : List ℕ) → list_all (run_before r) b ≡ true → bases_at (r ∷ a) (s ∷ b) (map suc ps) ≡ bases_at a b ps
bases_skip r s a b [] h = refl
bases_skip r s a b (p ∷ ps) h = elim (slice_get b p) as (λ o. slice_get b p ≡ o → option_to_list (option_and_then (with_key (r ∷ a)) o) ++ bases_at (r ∷ a) (s ∷ b) (map suc ps) ≡ option_to_list (option_and_then (with_key a) o) ++ bases_at a b ps) [
  | None ↦ λ e. bases_skip r s a b ps h
  | Some x ↦ λ e.
      let apart : is_at x.graph x.logical r ≡ false = key_apart r x (all_get (run_before r) b p x h e) in
      ap (λ c. option_to_list (cond c (Some r) (with_key a x)) ++ bases_at (r ∷ a) (s ∷ b) (map suc ps)) apart ∙ ap (λ rs. option_to_list (with_key a x) ++ rs) (bases_skip r s a b ps h)
] refl

bases_new : (s : Run) (a b : List Run) (ps : List ℕ) → bases_at a (s ∷ b) (map suc ps) ≡ bases_at a b ps
bases_new s a b [] = refl
bases_new s a b (p ∷ ps) = ap (λ rs. option_to_list (option_and_then (with_key a) (slice_get b p)) ++ rs) (bases_new s a b ps)

all_by : (p q : Run → Bool) → ((x : Run) → p x ≡ true → q x ≡ true) → (xs : List Run) → list_all p xs ≡ true → list_all q xs ≡ true
all_by p q f [] h = refl
all_by p q f (x ∷ xs) h = and_from (q x) _ (f x (and_left _ _ h)) (all_by p q f xs (and_right (p x) _ h))

key_here : (r s : Run) → s.graph ≡ r.graph → s.logical ≡ r.logical → is_at s.graph s.logical r ≡ true
key_here r s e f = and_from (same r.graph s.graph) _ (ap (same r.graph) e ∙ same_itself r.graph) (eq-eqb r.logical s.logical (sym f))

pub replaced_runs : (ms : List Mark) (a b : List Run) → Over ms a b → rises run_before b ≡ true → bases_at a b (positions_of ms) ≡ replaced_of ms a
replaced_runs [] [] [] o h = refl
replaced_runs [] [] (s ∷ b) o h = absurd o
replaced_runs [] (r ∷ a) b o h = absurd o
replaced_runs (Kept ∷ ms) [] b o h = absurd o
replaced_runs (Kept ∷ ms) (r ∷ a) [] o h = absurd o
replaced_runs (Kept ∷ ms) (r ∷ a) (s ∷ b) o h =
    bases_skip r s a b (positions_of ms) (ap (λ (x : Run). list_all (run_before x) b) (sym o.0) ∙ and_left _ _ h)
    ∙ replaced_runs ms a b o.1 (and_right (list_all (run_before s) b) _ h)
replaced_runs (Changed ∷ ms) [] b o h = absurd o
replaced_runs (Changed ∷ ms) (r ∷ a) [] o h = absurd o
replaced_runs (Changed ∷ ms) (r ∷ a) (s ∷ b) o h =
    ap (λ c. option_to_list (cond c (Some r) (with_key a s)) ++ bases_at (r ∷ a) (s ∷ b) (map suc (positions_of ms))) (key_here r s o.0 o.1.0)
    ∙ ap (λ rs. r ∷ rs) (bases_skip r s a b (positions_of ms) (all_by (run_before s) (run_before r) (λ x. before_by r s x o.0 o.1.0) b (and_left _ _ h))
    ∙ replaced_runs ms a b o.1.1 (and_right (list_all (run_before s) b) _ h))
replaced_runs (Added ∷ ms) a [] o h = absurd o
replaced_runs (Added ∷ ms) a (s ∷ b) o h =
    ap (λ c. option_to_list c ++ bases_at a (s ∷ b) (map suc (positions_of ms))) (no_key s a (over_after ms a b s o (and_left _ _ h)))
    ∙ (bases_new s a b (positions_of ms) ∙ replaced_runs ms a b o (and_right (list_all (run_before s) b) _ h))

-- ---- counting in
runs_join : (b : List Run) (ps qs : List ℕ) → runs_at b (ps ++ qs) ≡ runs_at b ps ++ runs_at b qs
runs_join b [] qs = refl
runs_join b (p ∷ ps) qs = ap (λ rs. option_to_list (slice_get b p) ++ rs) (runs_join b ps qs) ∙ sym (append_assoc (option_to_list (slice_get b p)) (runs_at b ps) (runs_at b qs))

pub runs_more : (b : List Run) (ps : List ℕ) (i : ℕ) (r : Run) → i < length ps → slice_get b (get_or ps i 0) ≡ Some r → runs_at b (take (i + 1) ps) ≡ runs_at b (take i ps) ++ r ∷ []
runs_more b ps i r l e = ap (runs_at b) (take_more ps i 0 l) ∙ (runs_join b (take i ps) (get_or ps i 0 ∷ []) ∙ ap (λ o. runs_at b (take i ps) ++ (option_to_list o ++ [])) e)

dates_join : (id : List ℕ) (rs ss : List Run) → dates_queued id (rs ++ ss) ≡ dates_queued id rs ++ dates_queued id ss
dates_join id rs ss = ap (map (λ (r : Run). r.logical)) (filter-append (λ (r : Run). same r.graph id && is_queued r.phase) rs ss) ∙ map_append (λ (r : Run). r.logical) (filter (λ (r : Run). same r.graph id && is_queued r.phase) rs) (filter (λ (r : Run). same r.graph id && is_queued r.phase) ss)

pub in_more_runs : (id : List ℕ) (rs : List Run) (r : Run) (l m n : GraphRuns) → IsCountedIn id rs l m → IsCountedIn id (r ∷ []) m n → IsCountedIn id (rs ++ r ∷ []) l n
in_more_runs id rs r l m n s t = record {
  active =
      let both : count_by (is_active id) (rs ++ r ∷ []) ≡ count_by (is_active id) rs + count_by (is_active id) (r ∷ []) = sum_by-append (λ x. cond (is_active id x) 1 0) rs (r ∷ []) in
      let one : m.active ≡ l.active + count_by (is_active id) rs = s.active in
      let two : n.active ≡ m.active + count_by (is_active id) (r ∷ []) = t.active in
      omega arith;
  runs = t.runs ∙ s.runs;
  kept = t.kept ∙ s.kept;
  from = t.from ∙ s.from;
  touched = t.touched ∙ (ap (λ xs. xs ++ dates_queued id (r ∷ [])) s.touched ∙ (append_assoc l.touched.items (dates_queued id rs) (dates_queued id (r ∷ [])) ∙ ap (λ xs. l.touched.items ++ xs) (sym (dates_join id rs (r ∷ [])))));
}

count_one_run : (id : List ℕ) (r : Run) → count_by (is_active id) (r ∷ []) ≡ cond (same r.graph id && is_running r.phase) 1 0
count_one_run id r = let e = sum_by-cons (λ (x : Run). cond (is_active id x) 1 0) r [] in omega (arith, e)

dates_one : (id : List ℕ) (r : Run) → dates_queued id (r ∷ []) ≡ cond (same r.graph id && is_queued r.phase) (r.logical ∷ []) []
dates_one id r = elim (same r.graph id && is_queued r.phase) as (λ b. map (λ (x : Run). x.logical) (cond b (r ∷ []) []) ≡ cond b (r.logical ∷ []) []) [ true ↦ refl | false ↦ refl ]

-- of the run's graph, and of another
pub counted_same : (id : List ℕ) (r : Run) (l m : GraphRuns) → same r.graph id ≡ true → IsRunCounted r l m → IsCountedIn id (r ∷ []) l m
counted_same id r l m e s = record {
  active = s.active ∙ ap (λ k. l.active + k) (ap (λ b. cond (b && is_running r.phase) 1 0) (sym e) ∙ sym (count_one_run id r));
  runs = s.runs;
  kept = s.kept;
  from = s.from;
  touched = s.touched ∙ ap (λ xs. l.touched.items ++ xs) (ap (λ b. cond (b && is_queued r.phase) (r.logical ∷ []) []) (sym e) ∙ sym (dates_one id r));
}

pub append_none : (xs : List ℕ) → xs ++ [] ≡ xs
append_none [] = refl
append_none (x ∷ xs) = ap (λ ys. x ∷ ys) (append_none xs)

pub counted_other : (id : List ℕ) (r : Run) (l : GraphRuns) → same r.graph id ≡ false → IsCountedIn id (r ∷ []) l l
counted_other id r l e = record {
  active = let c : count_by (is_active id) (r ∷ []) ≡ 0 = count_one_run id r ∙ ap (λ b. cond (b && is_running r.phase) 1 0) e in omega (arith, c);
  runs = refl;
  kept = refl;
  from = refl;
  touched = sym (ap (λ xs. l.touched.items ++ xs) (dates_one id r ∙ ap (λ b. cond (b && is_queued r.phase) (r.logical ∷ []) []) e) ∙ append_none l.touched.items);
}

pub counted_first : (id : List ℕ) (l : GraphRuns) → IsCountedIn id [] l l
counted_first id l = record { active = let e : l.active ≡ l.active + 0 = omega arith in e; runs = refl; kept = refl; from = refl; touched = sym (append_none l.touched.items) }

-- ---- counting off
bases_join : (a b : List Run) (ps qs : List ℕ) → bases_at a b (ps ++ qs) ≡ bases_at a b ps ++ bases_at a b qs
bases_join a b [] qs = refl
bases_join a b (p ∷ ps) qs =
    ap (λ rs. option_to_list (option_and_then (with_key a) (slice_get b p)) ++ rs) (bases_join a b ps qs)
    ∙ sym (append_assoc (option_to_list (option_and_then (with_key a) (slice_get b p))) (bases_at a b ps) (bases_at a b qs))

runs_append_none : (xs : List Run) → xs ++ [] ≡ xs
runs_append_none [] = refl
runs_append_none (x ∷ xs) = ap (λ ys. x ∷ ys) (runs_append_none xs)

pub bases_more : (a b : List Run) (ps : List ℕ) (i : ℕ) (r : Run) → i < length ps → slice_get b (get_or ps i 0) ≡ Some r → bases_at a b (take (i + 1) ps) ≡ bases_at a b (take i ps) ++ option_to_list (with_key a r)
bases_more a b ps i r l e =
    ap (bases_at a b) (take_more ps i 0 l) ∙ (bases_join a b (take i ps) (get_or ps i 0 ∷ [])
    ∙ ap (λ xs. bases_at a b (take i ps) ++ xs) (runs_append_none (option_to_list (option_and_then (with_key a) (slice_get b (get_or ps i 0)))) ∙ ap (λ o. option_to_list (option_and_then (with_key a) o)) e))

pub off_more_runs : (id : List ℕ) (rs ss : List Run) (l m n : GraphRuns) → IsCountedOff id rs l m → IsCountedOff id ss m n → IsCountedOff id (rs ++ ss) l n
off_more_runs id rs ss l m n s t = record {
  active =
      let both : count_by (is_active id) (rs ++ ss) ≡ count_by (is_active id) rs + count_by (is_active id) ss = sum_by-append (λ x. cond (is_active id x) 1 0) rs ss in
      let one : m.active ≡ l.active - count_by (is_active id) rs = s.active in
      let two : n.active ≡ m.active - count_by (is_active id) ss = t.active in
      omega arith;
  runs = t.runs ∙ s.runs;
  kept = t.kept ∙ s.kept;
  from = t.from ∙ s.from;
  touched = t.touched ∙ s.touched;
}

pub off_none : (id : List ℕ) (l : GraphRuns) → IsCountedOff id [] l l
off_none id l = record { active = let e : l.active ≡ l.active - 0 = omega arith in e; runs = refl; kept = refl; from = refl; touched = refl }

-- a run that was not running counts for nothing
pub off_idle : (id : List ℕ) (r : Run) (l : GraphRuns) → is_running r.phase ≡ false → IsCountedOff id (r ∷ []) l l
off_idle id r l e = record {
  active =
      let off : (same r.graph id && is_running r.phase) ≡ false = by_bool {C = (same r.graph id && is_running r.phase) ≡ false} (same r.graph id) (λ f. rw (f, e) refl) (λ f. rw f refl) in
      let c : count_by (is_active id) (r ∷ []) ≡ 0 = count_one_run id r ∙ ap (λ b. cond b 1 0) off in
      omega (arith, c);
  runs = refl;
  kept = refl;
  from = refl;
  touched = refl;
}

pub off_one : (id : List ℕ) (r : Run) (l : GraphRuns) → is_running r.phase ≡ true → IsCountedOff id (r ∷ []) l (cond (same r.graph id) (one_fewer l) l)
off_one id r l e = by_bool {C = IsCountedOff id (r ∷ []) l (cond (same r.graph id) (one_fewer l) l)} (same r.graph id)
    (λ f.
    let c : count_by (is_active id) (r ∷ []) ≡ 1 = count_one_run id r ∙ (ap (λ b. cond (b && is_running r.phase) 1 0) f ∙ ap (λ b. cond b 1 0) e) in
    rw f (record { active = omega (arith, c); runs = refl; kept = refl; from = refl; touched = refl }))
    (λ f.
    let c : count_by (is_active id) (r ∷ []) ≡ 0 = count_one_run id r ∙ ap (λ b. cond (b && is_running r.phase) 1 0) f in
    rw f (record { active = omega (arith, c); runs = refl; kept = refl; from = refl; touched = refl }))

-- ---- all lines
pub each_then : (P Q S : List ℕ → GraphRuns → GraphRuns → Type 0) → ((id : List ℕ) (l m n : GraphRuns) → P id l m → Q id m n → S id l n) → (ls ms ns : List GraphRuns) → EachLine P ls ms → EachLine Q ms ns → EachLine S ls ns
each_then P Q S f ls ms ns s t = (
  t.0 ∙ s.0,
  λ i n x.
      let u = t.1 i n x in
      let v = s.1 i u.0 u.1.0 in
      (v.0, (v.1.0, (u.1.1.0 ∙ v.1.1.0, f (v.0).id.now v.0 u.0 n v.1.1.1 (subst (λ (j : List ℕ). Q j u.0 n) v.1.1.0 u.1.1.1)))),
)

pub each_same : (P : List ℕ → GraphRuns → GraphRuns → Type 0) → (ls : List GraphRuns) → ((n : ℕ) (l : GraphRuns) → slice_get ls n ≡ Some l → P l.id.now l l) → EachLine P ls ls
each_same P ls f = (refl, λ n m x. (m, (x, (refl, f n m x))))

-- one line is another
pub each_set : (P : List ℕ → GraphRuns → GraphRuns → Type 0) → (ls : List GraphRuns) (p : ℕ) (l m : GraphRuns) → rises id_before (ids_of ls) ≡ true → slice_get ls p ≡ Some l → m.id.now ≡ l.id.now → P l.id.now l m
    → ((k : GraphRuns) → same l.id.now k.id.now ≡ false → P k.id.now k k) → EachLine P ls (set ls p m)
each_set P ls p l m r f named here others =
    let inside : p < length ls = slice_get_within ls p l f in (
      ids_set ls p l m f named,
      λ i n x. by_bool {C = (k : GraphRuns) × ((slice_get ls i ≡ Some k) × ((n.id.now ≡ k.id.now) × P k.id.now k n))} (nat_eq i p)
          (λ u.
          let j : i ≡ p = eqb-true i p u in
          let c : ◌≡◌ {A = Option GraphRuns} (Some m) (Some n) = sym (set_there ls p m inside) ∙ (ap (slice_get (set ls p m)) (sym j) ∙ x) in
          let n_is : m ≡ n = cc in
          (l, (ap (slice_get ls) j ∙ f, (ap line_id (sym n_is) ∙ named, subst (λ (z : GraphRuns). P l.id.now l z) n_is here))))
          (λ u.
          let old : slice_get ls i ≡ Some n = sym (set_apart ls p i m u) ∙ x in
          (n, (old, (refl, others n (lines_differ ls p i l n r f old u))))),
    )

pub off_each : (r : Run) (ls ms : List GraphRuns) → is_running r.phase ≡ true → IsCountedDown r.graph ls ms → EachLine (λ id. IsCountedOff id (r ∷ [])) ls ms
off_each r ls ms e s = (
  s.ids,
  λ g m x.
      let u = s.each g m x in
      (u.0, (u.1.0, (ap line_id u.1.1 ∙ fewer_id (same r.graph (u.0).id.now) u.0, subst (IsCountedOff (u.0).id.now (r ∷ []) u.0) (sym u.1.1) (off_one (u.0).id.now r u.0 e)))),
)
  where
    fewer_id : (b : Bool) (l : GraphRuns) → line_id (cond b (one_fewer l) l) ≡ l.id.now
    fewer_id true l = refl
    fewer_id false l = refl

-- ---- the lines of the draft
same_all : (p : Run → Bool) (ms : List Mark) (b : List Run) → list_all p b ≡ true → list_all p (touched_of ms b) ≡ true
same_all p [] b h = refl
same_all p (Kept ∷ ms) [] h = refl
same_all p (Changed ∷ ms) [] h = refl
same_all p (Added ∷ ms) [] h = refl
same_all p (Kept ∷ ms) (s ∷ b) h = same_all p ms b (and_right (p s) _ h)
same_all p (Changed ∷ ms) (s ∷ b) h = and_from (p s) _ (and_left _ _ h) (same_all p ms b (and_right (p s) _ h))
same_all p (Added ∷ ms) (s ∷ b) h = and_from (p s) _ (and_left _ _ h) (same_all p ms b (and_right (p s) _ h))

touched_rise : (ms : List Mark) (b : List Run) → rises run_before b ≡ true → rises run_before (touched_of ms b) ≡ true
touched_rise [] b h = refl
touched_rise (Kept ∷ ms) [] h = refl
touched_rise (Changed ∷ ms) [] h = refl
touched_rise (Added ∷ ms) [] h = refl
touched_rise (Kept ∷ ms) (s ∷ b) h = touched_rise ms b (and_right (list_all (run_before s) b) _ h)
touched_rise (Changed ∷ ms) (s ∷ b) h =
    and_from (list_all (run_before s) (touched_of ms b)) _ (same_all (run_before s) ms b (and_left _ _ h)) (touched_rise ms b (and_right (list_all (run_before s) b) _ h))
touched_rise (Added ∷ ms) (s ∷ b) h =
    and_from (list_all (run_before s) (touched_of ms b)) _ (same_all (run_before s) ms b (and_left _ _ h)) (touched_rise ms b (and_right (list_all (run_before s) b) _ h))

dates_above : (id : List ℕ) (r : Run) (rs : List Run) → same r.graph id ≡ true → list_all (run_before r) rs ≡ true → list_all (nat_lt r.logical) (dates_queued id rs) ≡ true
dates_above id r [] e h = refl
dates_above id r (x ∷ rs) e h =
    let rest : list_all (nat_lt r.logical) (dates_queued id rs) ≡ true = dates_above id r rs e (and_right (run_before r x) _ h) in
    by_bool {C = list_all (nat_lt r.logical) (map (λ (y : Run). y.logical) (cond (same x.graph id && is_queued x.phase) (x ∷ filter (λ (y : Run). same y.graph id && is_queued y.phase) rs) (filter (λ (y : Run). same y.graph id && is_queued y.phase) rs))) ≡ true} (same x.graph id && is_queued x.phase)
    (λ f.
    let both : same r.graph x.graph ≡ true = same_both r.graph x.graph id e (and_left _ _ f) in
    let low : nat_lt r.logical x.logical ≡ true = and_right (same r.graph x.graph) _ (earlier_is x r (and_left _ _ h) ∙ both) in
    rw f (and_from (nat_lt r.logical x.logical) _ low rest))
    (λ f. rw f rest)

pub dates_rise_too : (id : List ℕ) (rs : List Run) → rises run_before rs ≡ true → rises nat_lt (dates_queued id rs) ≡ true
dates_rise_too id [] h = refl
dates_rise_too id (r ∷ rs) h =
    let rest : rises nat_lt (dates_queued id rs) ≡ true = dates_rise_too id rs (and_right (list_all (run_before r) rs) _ h) in
    by_bool {C = rises nat_lt (map (λ (y : Run). y.logical) (cond (same r.graph id && is_queued r.phase) (r ∷ filter (λ (y : Run). same y.graph id && is_queued y.phase) rs) (filter (λ (y : Run). same y.graph id && is_queued y.phase) rs))) ≡ true} (same r.graph id && is_queued r.phase)
    (λ f. rw f (and_from (list_all (nat_lt r.logical) (dates_queued id rs)) _ (dates_above id r rs (and_left _ _ f) (and_left _ _ h)) rest))
    (λ f. rw f rest)

pub in_at : (id : List ℕ) (rs : List Run) (n : ℕ) (r : Run) → slice_get rs n ≡ Some r → (same r.graph id && is_queued r.phase) ≡ true → is_in (dates_queued id rs) r.logical ≡ true
in_at id [] n r e f = absurd (let c : ◌≡◌ {A = Option Run} None (Some r) = e in cc)
in_at id (x ∷ rs) zero r e f =
    let c : ◌≡◌ {A = Option Run} (Some x) (Some r) = e in
    let i : x ≡ r = cc in
    let g : (same x.graph id && is_queued x.phase) ≡ true = subst (λ (y : Run). (same y.graph id && is_queued y.phase) ≡ true) (sym i) f in
    rw g (or_left (nat_eq x.logical r.logical) _ (eq-eqb x.logical r.logical (ap (λ (y : Run). y.logical) i)))
in_at id (x ∷ rs) (suc n) r e f =
    let rest : is_in (dates_queued id rs) r.logical ≡ true = in_at id rs n r e f in
    by_bool {C = is_in (map (λ (y : Run). y.logical) (cond (same x.graph id && is_queued x.phase) (x ∷ filter (λ (y : Run). same y.graph id && is_queued y.phase) rs) (filter (λ (y : Run). same y.graph id && is_queued y.phase) rs))) r.logical ≡ true} (same x.graph id && is_queued x.phase)
    (λ g. rw g (or_right (nat_eq x.logical r.logical) _ rest))
    (λ g. rw g rest)

pub touched_has : (ms : List Mark) (b : List Run) (n : ℕ) (r : Run) → is_marked ms n ≡ true → slice_get b n ≡ Some r → (k : ℕ) × (slice_get (touched_of ms b) k ≡ Some r)
touched_has [] b n r m e = absurd (true≢false (sym m))
touched_has (x ∷ ms) [] n r m e = absurd (let c : ◌≡◌ {A = Option Run} None (Some r) = e in cc)
touched_has (Kept ∷ ms) (s ∷ b) zero r m e = absurd (true≢false (sym m))
touched_has (Changed ∷ ms) (s ∷ b) zero r m e = (0, e)
touched_has (Added ∷ ms) (s ∷ b) zero r m e = (0, e)
touched_has (Kept ∷ ms) (s ∷ b) (suc n) r m e = touched_has ms b n r m e
touched_has (Changed ∷ ms) (s ∷ b) (suc n) r m e = let t = touched_has ms b n r m e in (suc t.0, t.1)
touched_has (Added ∷ ms) (s ∷ b) (suc n) r m e = let t = touched_has ms b n r m e in (suc t.0, t.1)

carried_count : (nb na new old l m n : ℕ) → nb + old ≡ na + new → l ≡ na → m ≡ l + new → n ≡ m - old → n + old ≡ l + new
carried_count nb na new old l m n e f g h = omega arith

only_kept : (b : Bool) → (b || false) ≡ true → b ≡ true
only_kept true e = refl
only_kept false e = e

pub carried : (a b : Schedule) (ms : List Mark) (id : List ℕ) (l m n : GraphRuns) → rises run_before b.runs ≡ true → Over ms a.runs b.runs → IsLine a id l → l.touched.items ≡ [] → IsCountedIn id (touched_of ms b.runs) l m → IsCountedOff id (replaced_of ms a.runs) m n
    → IsCarried a b ms id l n
carried a b ms id l m n h o s fresh t u =
    let dates : n.touched.items ≡ dates_queued id (touched_of ms b.runs) = u.touched ∙ (t.touched ∙ ap (λ xs. xs ++ dates_queued id (touched_of ms b.runs)) fresh) in
    let left : kept_dates n ≡ kept_dates l = same_dates l n (u.runs ∙ t.runs) (u.kept ∙ t.kept) (u.from ∙ t.from) in
    record {
      active =
          let count = counted_over (is_active id) ms a.runs b.runs o in
          let was : l.active ≡ active_runs a id = s.active in
          let one : m.active ≡ l.active + count_by (is_active id) (touched_of ms b.runs) = t.active in
          let two : n.active ≡ m.active - count_by (is_active id) (replaced_of ms a.runs) = u.active in
          carried_count (active_runs b id) (active_runs a id) (count_by (is_active id) (touched_of ms b.runs)) (count_by (is_active id) (replaced_of ms a.runs)) l.active m.active n.active count was one two;
      rise = record {
        within = same_within l n (u.runs ∙ t.runs) (u.kept ∙ t.kept) (u.from ∙ t.from) s.queue.rise.within;
        kept = ap (rises nat_lt) left ∙ s.queue.rise.kept;
        touched = ap (rises nat_lt) dates ∙ dates_rise_too id (touched_of ms b.runs) (touched_rise ms b.runs h);
      };
      kept = λ d w.
          ap (λ xs. is_in xs d || is_in n.touched.items d) left
          ∙ or_left (is_in (kept_dates l) d) (is_in n.touched.items d) (only_kept (is_in (kept_dates l) d) (ap (λ xs. is_in (kept_dates l) d || is_in xs d) (sym fresh) ∙ w));
      touched = λ k g f.
          let v = queued_run b id k f in
          let e = touched_has ms b.runs k v.run g v.there in
          ap (λ xs. is_in xs (date_at b k)) dates
          ∙ (ap (is_in (dates_queued id (touched_of ms b.runs))) (run_date b k v.run v.there)
          ∙ in_at id (touched_of ms b.runs) e.0 v.run e.1 (and_from (same (v.run).graph id) _ v.of v.queued));
    }

pub carried_lines : (b : Schedule) (rs : List Run) (ms : List Mark) (ls ks ns : List GraphRuns) → rises run_before b.runs ≡ true → Over ms rs b.runs → AreFresh (over_runs b rs) ls
    → EachLine (λ id. IsCountedIn id (touched_of ms b.runs)) ls ks → EachLine (λ id. IsCountedOff id (replaced_of ms rs)) ks ns → AreRecounted b ls ns
carried_lines b rs ms ls ks ns h o fresh t u = record {
  ids = u.0 ∙ t.0;
  each = λ n k x.
      let v = u.1 n k x in
      let w = t.1 n v.0 v.1.0 in
      let id : List ℕ = (w.0).id.now in
      let was = fresh n w.0 w.1.0 in
      let off : IsCountedOff id (replaced_of ms rs) v.0 k = subst (λ (j : List ℕ). IsCountedOff j (replaced_of ms rs) v.0 k) w.1.1.0 v.1.1.1 in
      subst (λ (j : List ℕ). IsLine b j k) (sym (v.1.1.0 ∙ w.1.1.0))
      (line_over (over_runs b rs) b ms id w.0 k o was.0 (carried (over_runs b rs) b ms id w.0 v.0 k h o was.0 was.1 w.1.1.1 off));
}

-- ---- the positions of marks
suc_eq : (m n : ℕ) → nat_eq (suc m) (suc n) ≡ nat_eq m n
suc_eq m n = by_bool {C = nat_eq (suc m) (suc n) ≡ nat_eq m n} (nat_eq m n)
    (λ e. eq-eqb (suc m) (suc n) (ap suc (eqb-true m n e)) ∙ sym e)
    (λ e. by_bool {C = nat_eq (suc m) (suc n) ≡ nat_eq m n} (nat_eq (suc m) (suc n))
    (λ f. let i : suc m ≡ suc n = eqb-true (suc m) (suc n) f in let j : m ≡ n = omega arith in absurd (true≢false (sym (eq-eqb m n j) ∙ e)))
    (λ f. f ∙ sym e))

suc_lt : (m n : ℕ) → nat_lt m n ≡ true → nat_lt (suc m) (suc n) ≡ true
suc_lt m n e = let l : m < n = ltb-true m n e in let k : suc m < suc n = omega arith in lt-ltb (suc m) (suc n) k

in_suc : (ps : List ℕ) (n : ℕ) → is_in (map suc ps) (suc n) ≡ is_in ps n
in_suc [] n = refl
in_suc (p ∷ ps) n = ap (λ b. b || is_in (map suc ps) (suc n)) (suc_eq p n) ∙ ap (λ b. nat_eq p n || b) (in_suc ps n)

zero_suc : (p : ℕ) → nat_eq (suc p) 0 ≡ false
zero_suc p = by_bool {C = nat_eq (suc p) 0 ≡ false} (nat_eq (suc p) 0) (λ e. let i : suc p ≡ 0 = eqb-true (suc p) 0 e in absurd (omega arith)) (λ e. e)

in_zero : (ps : List ℕ) → is_in (map suc ps) 0 ≡ false
in_zero [] = refl
in_zero (p ∷ ps) = ap (λ b. b || is_in (map suc ps) 0) (zero_suc p) ∙ in_zero ps

zero_in : (ps : List ℕ) → is_in (0 ∷ ps) 0 ≡ true
zero_in ps = or_left (nat_eq 0 0) (is_in ps 0) (eq-eqb 0 0 refl)

zero_out : (n : ℕ) (ps : List ℕ) → is_in (0 ∷ ps) (suc n) ≡ is_in ps (suc n)
zero_out n ps = ap (λ b. b || is_in ps (suc n)) (eq_flips 0 (suc n) ∙ zero_suc n)

pub positions_in : (ms : List Mark) (n : ℕ) → is_in (positions_of ms) n ≡ is_marked ms n
positions_in [] n = refl
positions_in (Kept ∷ ms) zero = in_zero (positions_of ms)
positions_in (Changed ∷ ms) zero = zero_in (map suc (positions_of ms))
positions_in (Added ∷ ms) zero = zero_in (map suc (positions_of ms))
positions_in (Kept ∷ ms) (suc n) = in_suc (positions_of ms) n ∙ positions_in ms n
positions_in (Changed ∷ ms) (suc n) = zero_out n (map suc (positions_of ms)) ∙ (in_suc (positions_of ms) n ∙ positions_in ms n)
positions_in (Added ∷ ms) (suc n) = zero_out n (map suc (positions_of ms)) ∙ (in_suc (positions_of ms) n ∙ positions_in ms n)

all_suc : (n : ℕ) (ps : List ℕ) → list_all (nat_lt n) ps ≡ true → list_all (nat_lt (suc n)) (map suc ps) ≡ true
all_suc n [] h = refl
all_suc n (p ∷ ps) h = and_from (nat_lt (suc n) (suc p)) _ (suc_lt n p (and_left _ _ h)) (all_suc n ps (and_right (nat_lt n p) _ h))

suc_rises : (ps : List ℕ) → rises nat_lt ps ≡ true → rises nat_lt (map suc ps) ≡ true
suc_rises [] h = refl
suc_rises (p ∷ ps) h = and_from (list_all (nat_lt (suc p)) (map suc ps)) _ (all_suc p ps (and_left _ _ h)) (suc_rises ps (and_right (list_all (nat_lt p) ps) _ h))

above_zero : (ps : List ℕ) → list_all (nat_lt 0) (map suc ps) ≡ true
above_zero [] = refl
above_zero (p ∷ ps) = let l : 0 < suc p = omega arith in and_from (nat_lt 0 (suc p)) _ (lt-ltb 0 (suc p) l) (above_zero ps)

pub positions_rise : (ms : List Mark) → rises nat_lt (positions_of ms) ≡ true
positions_rise [] = refl
positions_rise (Kept ∷ ms) = suc_rises (positions_of ms) (positions_rise ms)
positions_rise (Changed ∷ ms) = and_from (list_all (nat_lt 0) (map suc (positions_of ms))) _ (above_zero (positions_of ms)) (suc_rises (positions_of ms) (positions_rise ms))
positions_rise (Added ∷ ms) = and_from (list_all (nat_lt 0) (map suc (positions_of ms))) _ (above_zero (positions_of ms)) (suc_rises (positions_of ms) (positions_rise ms))

suc_within : (n : ℕ) (ps : List ℕ) → are_within n ps ≡ true → are_within (suc n) (map suc ps) ≡ true
suc_within n [] h = refl
suc_within n (p ∷ ps) h = and_from (nat_lt (suc p) (suc n)) _ (suc_lt p n (and_left _ _ h)) (suc_within n ps (and_right (nat_lt p n) _ h))

zero_within : (n : ℕ) (ps : List ℕ) → are_within (suc n) ps ≡ true → are_within (suc n) (0 ∷ ps) ≡ true
zero_within n ps h = let l : 0 < suc n = omega arith in and_from (nat_lt 0 (suc n)) _ (lt-ltb 0 (suc n) l) h

pub positions_within : (ms : List Mark) (a b : List Run) → Over ms a b → are_within (length b) (positions_of ms) ≡ true
positions_within [] [] [] o = refl
positions_within [] [] (s ∷ b) o = absurd o
positions_within [] (r ∷ a) b o = absurd o
positions_within (Kept ∷ ms) [] b o = absurd o
positions_within (Kept ∷ ms) (r ∷ a) [] o = absurd o
positions_within (Kept ∷ ms) (r ∷ a) (s ∷ b) o = suc_within (length b) (positions_of ms) (positions_within ms a b o.1)
positions_within (Changed ∷ ms) [] b o = absurd o
positions_within (Changed ∷ ms) (r ∷ a) [] o = absurd o
positions_within (Changed ∷ ms) (r ∷ a) (s ∷ b) o = zero_within (length b) (map suc (positions_of ms)) (suc_within (length b) (positions_of ms) (positions_within ms a b o.1.1))
positions_within (Added ∷ ms) a [] o = absurd o
positions_within (Added ∷ ms) a (s ∷ b) o = zero_within (length b) (map suc (positions_of ms)) (suc_within (length b) (positions_of ms) (positions_within ms a b o))

near_by : (f g : ℕ → Bool) → ((n : ℕ) → f n ≡ g n) → (n : ℕ) → is_near f n ≡ is_near g n
near_by f g h zero = h 0
near_by f g h (suc n) = ap (λ b. b || f n) (h (suc n)) ∙ ap (λ b. g (suc n) || b) (h n)

pub touch_rises : (rs : List Run) (ps : List ℕ) (b : Schedule) → IsTouched rs ps b → rises nat_lt ps ≡ true
touch_rises rs ps b t = ap (rises nat_lt) t.positions ∙ positions_rise t.marks

pub touch_within : (rs : List Run) (ps : List ℕ) (b : Schedule) → IsTouched rs ps b → are_within (length b.runs) ps ≡ true
touch_within rs ps b t = ap (are_within (length b.runs)) t.positions ∙ positions_within t.marks rs b.runs t.over

pub touch_runs : (rs : List Run) (ps : List ℕ) (b : Schedule) → IsOrdered b → IsTouched rs ps b → CoversRuns (is_near (is_in ps)) b
touch_runs rs ps b h t n p j e =
    let o : Over t.marks (t.base).runs b.runs = subst (λ xs. Over t.marks xs b.runs) (sym t.runs) t.over in
    near_by (is_in ps) (is_marked t.marks) (λ k. ap (λ xs. is_in xs k) t.positions ∙ positions_in t.marks k) n ∙ touched_decisions t.base b t.marks t.still t.ordered h o t.dags n p j e

pub touch_ends : (rs : List Run) (ps : List ℕ) (b : Schedule) → IsTouched rs ps b → CoversEnds (is_in ps) b
touch_ends rs ps b t n r q e f =
    let o : Over t.marks (t.base).runs b.runs = subst (λ xs. Over t.marks xs b.runs) (sym t.runs) t.over in
    (ap (λ xs. is_in xs n) t.positions ∙ positions_in t.marks n) ∙ touched_ends t.base b t.marks t.still o t.dags n r q e f
