-- Over a schedule in which no move is possible.
use Rattle.std.proofs.Common.{◌≡◌, ◌∙◌, refl, sym, ap, ℕ, zero, suc, ◌+◌, ◌<◌, ◌≤◌, List, [], ◌∷◌, Bool, true, false, ◌&&◌, ◌||◌, cond, length, slice_get, nat_lt, nat_eq, count_by, Option, Some, None, option_map, option_and_then, unwrap_or, true≢false, arith}
use Rattle.std.specs.List.{list_all, list_any, range_with_len}
use Rattle.std.proofs.lemmas.Bool.{eqb-true, eq-eqb, ltb-true, lt-ltb, and_from, or_left, or_right}
use Rattle.std.proofs.lemmas.Option.{slice_get_within}
use Rattle.graph_file.specs.Lists.{when}
use Rattle.graph_file.proofs.ListLemmas.{first_none, mapped_none}
use Rattle.dag_check.specs.Graphs.{Dag}
use Rattle.dag_check.specs.Orders.{is_in}
use Rattle.trigger_rules.specs.States.{is_finished, is_bad}
use Rattle.instance_machine.specs.Instances.{InstanceValue}
use Rattle.instance_machine.specs.States.{state_of}
use Rattle.sched_state.specs.Lists.{first_change}
use Rattle.sched_state.specs.declared.runs.Run.{Run}
use Rattle.sched_state.specs.declared.runs.RunPhase.TheVariants as phase
use Rattle.sched_state.proofs.OrderLemmas.{and_left, and_right}
use Rattle.sched_model.specs.Lists.{rises, zip_with, map_places}
use Rattle.sched_model.specs.Schedule.{Schedule, dag_named, is_running}
use Rattle.sched_model.specs.States.{previous}
use Rattle.sched_model.specs.Settle.{move, finish_run, is_leaf, start_run}
use Rattle.sched_laws.specs.Sweep.{decide_one, decision, decision_in}
use Rattle.sched_laws.specs.Stages.{finish_one, start_one, IsOrdered, CoversEnds}
use Rattle.sched_laws.proofs.DecisionLemmas.{by_bool}
use Rattle.sched_laws.proofs.StageLemmas.{move_of, no_decision_at}
use Rattle.std.proofs.lemmas.List.Sums.{sum_by-cons}
use Rattle.sched_model.specs.States.{active_runs}
use Rattle.sched_settling.specs.declared.lines.GraphRuns.{GraphRuns}
use Rattle.sched_draft.specs.Drafts.{SameDags}
use Rattle.sched_settling.specs.Touched.{IsCarried, is_active}
use Rattle.sched_settling.specs.Marks.{IsLine, date_at, is_waiting, is_queued_at, is_queued_run, CoversRuns, IsCovered, are_within, with_next, before_in, before_at}
use Rattle.sched_settling.specs.Touched.{Mark, Kept, Changed, Added, Over, touched_of, replaced_of, is_marked, is_near, near_marks}
use Rattle.sched_settling.proofs.BeforeLemmas.{before_is, decision_same}
use Rattle.sched_settling.proofs.MarkLemmas.{next_above, next_over, next_up, next_in_all, more_keeps, more_in}
use Rattle.sched_settling.proofs.StageLemmas.{quiet_each}

-- ---- where a run that is kept stood
pub base_at : List Mark → ℕ → ℕ
base_at [] n = n
base_at (m ∷ ms) zero = 0
base_at (Kept ∷ ms) (suc n) = suc (base_at ms n)
base_at (Changed ∷ ms) (suc n) = suc (base_at ms n)
base_at (Added ∷ ms) (suc n) = base_at ms n

base_first : (ms : List Mark) → base_at ms 0 ≡ 0
unfolding base_at
base_first [] = refl
base_first (m ∷ ms) = refl

base_next : (ms : List Mark) (n : ℕ) → is_marked ms n ≡ false → base_at ms (suc n) ≡ suc (base_at ms n)
unfolding base_at
base_next [] n e = refl
base_next (Kept ∷ ms) zero e = ap suc (base_first ms)
base_next (Changed ∷ ms) zero e = absurd (true≢false e)
base_next (Added ∷ ms) zero e = absurd (true≢false e)
base_next (Kept ∷ ms) (suc n) e = ap suc (base_next ms n e)
base_next (Changed ∷ ms) (suc n) e = ap suc (base_next ms n e)
base_next (Added ∷ ms) (suc n) e = base_next ms n e

pub kept_at : (ms : List Mark) (a b : List Run) (n : ℕ) → Over ms a b → is_marked ms n ≡ false → slice_get a (base_at ms n) ≡ slice_get b n
unfolding base_at
kept_at [] [] [] n o e = refl
kept_at [] [] (s ∷ b) n o e = absurd o
kept_at [] (r ∷ a) b n o e = absurd o
kept_at (Kept ∷ ms) [] b n o e = absurd o
kept_at (Kept ∷ ms) (r ∷ a) [] n o e = absurd o
kept_at (Kept ∷ ms) (r ∷ a) (s ∷ b) zero o e = ap (λ x. Some x) (sym o.0)
kept_at (Kept ∷ ms) (r ∷ a) (s ∷ b) (suc n) o e = kept_at ms a b n o.1 e
kept_at (Changed ∷ ms) [] b n o e = absurd o
kept_at (Changed ∷ ms) (r ∷ a) [] n o e = absurd o
kept_at (Changed ∷ ms) (r ∷ a) (s ∷ b) zero o e = absurd (true≢false e)
kept_at (Changed ∷ ms) (r ∷ a) (s ∷ b) (suc n) o e = kept_at ms a b n o.1.1 e
kept_at (Added ∷ ms) a [] n o e = absurd o
kept_at (Added ∷ ms) a (s ∷ b) zero o e = absurd (true≢false e)
kept_at (Added ∷ ms) a (s ∷ b) (suc n) o e = kept_at ms a b n o e

none_left : (b c : Bool) → (b || c) ≡ false → b ≡ false
none_left true c e = absurd (true≢false e)
none_left false c e = refl

none_right : (b c : Bool) → (b || c) ≡ false → c ≡ false
none_right true c e = absurd (true≢false e)
none_right false c e = e

-- neither the run nor that before it is touched
far : (ms : List Mark) (n : ℕ) → is_near (is_marked ms) n ≡ false → is_marked ms n ≡ false
far ms zero e = e
far ms (suc n) e = none_left (is_marked ms (suc n)) (is_marked ms n) e

before_kept : (ms : List Mark) (a b : List Run) (n : ℕ) (r : Run) → Over ms a b → is_near (is_marked ms) n ≡ false → before_at b n r ≡ before_at a (base_at ms n) r
before_kept ms a b zero r o e = ap (λ i. before_at a i r) (sym (base_first ms))
before_kept ms a b (suc n) r o e =
    let f : is_marked ms n ≡ false = none_right (is_marked ms (suc n)) (is_marked ms n) e in
    ap (before_in r) (sym (kept_at ms a b n o f)) ∙ ap (λ i. before_at a i r) (sym (base_next ms n f))

-- ---- no move
no_decide : (a : Schedule) → move a ≡ None → decide_one a ≡ None
no_decide a e = (first_none (decide_one a) (finish_one a ∷ start_one a ∷ []) (sym (move_of a) ∙ e)).0

no_finish : (a : Schedule) → move a ≡ None → finish_one a ≡ None
no_finish a e = (first_none (finish_one a) (start_one a ∷ []) (first_none (decide_one a) (finish_one a ∷ start_one a ∷ []) (sym (move_of a) ∙ e)).1).0

pub no_start : (a : Schedule) → move a ≡ None → (n : ℕ) (r : Run) → slice_get a.runs n ≡ Some r → start_run a r ≡ None
no_start a e n r there =
    let starts : start_one a ≡ None = (first_none (start_one a) [] (first_none (finish_one a) (start_one a ∷ []) (first_none (decide_one a) (finish_one a ∷ start_one a ∷ []) (sym (move_of a) ∙ e)).1).1).0 in
    quiet_each (start_run a) 0 n a.runs r (mapped_none (λ rs. record a { runs = rs }) (first_change (start_run a) a.runs) starts) there

pub touched_decisions : (a b : Schedule) (ms : List Mark) → move a ≡ None → IsOrdered a → IsOrdered b → Over ms a.runs b.runs → SameDags a b → CoversRuns (is_near (is_marked ms)) b
touched_decisions a b ms still s t o d n q j e = by_bool {C = is_near (is_marked ms) n ≡ true} (is_near (is_marked ms) n) (λ f. f)
    (λ f. elim (slice_get b.runs n) as (λ x. slice_get b.runs n ≡ x → is_near (is_marked ms) n ≡ true) [
      | None ↦ λ g. absurd (let c : ◌≡◌ {A = Option InstanceValue} None (Some j) = sym (ap (option_and_then (decision_in b q)) g) ∙ e in cc)
      | Some r ↦ λ g.
          let m : ℕ = base_at ms n in
          let there : slice_get a.runs m ≡ Some r = kept_at ms a.runs b.runs n o (far ms n f) ∙ g in
          let past : previous b r ≡ previous a r = before_is b.runs n r t.runs g ∙ (before_kept ms a.runs b.runs n r o f ∙ sym (before_is a.runs m r s.runs there)) in
          let same : decision b n q ≡ decision a m q = ap (option_and_then (decision_in b q)) g ∙ (decision_same a b r q (d n r g) past ∙ sym (ap (option_and_then (decision_in a q)) there)) in
          absurd (let c : ◌≡◌ {A = Option InstanceValue} None (Some j) = sym (no_decision_at a (no_decide a still) m q) ∙ (sym same ∙ e) in cc)
    ] refl)

end_same : (a b : Schedule) (r : Run) → dag_named b r.graph ≡ dag_named a r.graph → finish_run b r ≡ finish_run a r
end_same a b r e = ap (λ (g : Dag). when (is_running r.phase && list_all is_finished (zip_with state_of g.tasks r.instances))
    (record r { phase = cond (list_any (λ x. x) (map_places (λ p s. is_bad s && is_leaf g p) 0 (zip_with state_of g.tasks r.instances))) phase.Failed phase.Success })) e

pub touched_ends : (a b : Schedule) (ms : List Mark) → move a ≡ None → Over ms a.runs b.runs → SameDags a b → CoversEnds (is_marked ms) b
touched_ends a b ms still o d n r q e f = by_bool {C = is_marked ms n ≡ true} (is_marked ms n) (λ g. g)
    (λ g.
    let none : finish_run a r ≡ None = quiet_each (finish_run a) 0 (base_at ms n) a.runs r (mapped_none (λ rs. record a { runs = rs }) (first_change (finish_run a) a.runs) (no_finish a still)) (kept_at ms a.runs b.runs n o g ∙ e) in
    absurd (let c : ◌≡◌ {A = Option Run} None (Some q) = sym none ∙ (sym (end_same a b r (d n r e)) ∙ f) in cc))

-- ---- lines
-- of runs that are counted by a test, those that are not touched are as many before and after
pub counted_over : (p : Run → Bool) (ms : List Mark) (a b : List Run) → Over ms a b → count_by p b + count_by p (replaced_of ms a) ≡ count_by p a + count_by p (touched_of ms b)
counted_over p [] [] [] o = refl
counted_over p [] [] (s ∷ b) o = absurd o
counted_over p [] (r ∷ a) b o = absurd o
counted_over p (Kept ∷ ms) [] b o = absurd o
counted_over p (Kept ∷ ms) (r ∷ a) [] o = absurd o
counted_over p (Kept ∷ ms) (r ∷ a) (s ∷ b) o =
    let ih : count_by p b + count_by p (replaced_of ms a) ≡ count_by p a + count_by p (touched_of ms b) = counted_over p ms a b o.1 in
    let before = sum_by-cons (λ (x : Run). cond (p x) 1 0) r a in
    let after = sum_by-cons (λ (x : Run). cond (p x) 1 0) s b in
    let same : ◌≡◌ {A = ℕ} (cond (p s) 1 0) (cond (p r) 1 0) = ap (λ x. cond (p x) 1 0) o.0 in
    omega (arith, ih, before, after, same)
counted_over p (Changed ∷ ms) [] b o = absurd o
counted_over p (Changed ∷ ms) (r ∷ a) [] o = absurd o
counted_over p (Changed ∷ ms) (r ∷ a) (s ∷ b) o =
    let ih : count_by p b + count_by p (replaced_of ms a) ≡ count_by p a + count_by p (touched_of ms b) = counted_over p ms a b o.1.1 in
    let before = sum_by-cons (λ (x : Run). cond (p x) 1 0) r a in
    let after = sum_by-cons (λ (x : Run). cond (p x) 1 0) s b in
    let old = sum_by-cons (λ (x : Run). cond (p x) 1 0) r (replaced_of ms a) in
    let new = sum_by-cons (λ (x : Run). cond (p x) 1 0) s (touched_of ms b) in
    omega (arith, ih, before, after, old, new)
counted_over p (Added ∷ ms) a [] o = absurd o
counted_over p (Added ∷ ms) a (s ∷ b) o =
    let ih : count_by p b + count_by p (replaced_of ms a) ≡ count_by p a + count_by p (touched_of ms b) = counted_over p ms a b o in
    let after = sum_by-cons (λ (x : Run). cond (p x) 1 0) s b in
    let new = sum_by-cons (λ (x : Run). cond (p x) 1 0) s (touched_of ms b) in
    omega (arith, ih, after, new)

-- a line that is carried over from before the touch
pub line_over : (a b : Schedule) (ms : List Mark) (id : List ℕ) (l m : GraphRuns) → Over ms a.runs b.runs → IsLine a id l → IsCarried a b ms id l m → IsLine b id m
line_over a b ms id l m o s c = record {
  active =
      let count : active_runs b id + count_by (is_active id) (replaced_of ms a.runs) ≡ active_runs a id + count_by (is_active id) (touched_of ms b.runs) = counted_over (is_active id) ms a.runs b.runs o in
      let was : l.active ≡ active_runs a id = s.active in
      let now : m.active + count_by (is_active id) (replaced_of ms a.runs) ≡ l.active + count_by (is_active id) (touched_of ms b.runs) = c.active in
      omega arith;
  queue = record {
    rise = c.rise;
    queued = λ n f. by_bool {C = is_waiting m (date_at b n) ≡ true} (is_marked ms n)
        (λ g. or_right _ _ (c.touched n g f))
        (λ g.
        let e : slice_get a.runs (base_at ms n) ≡ slice_get b.runs n = kept_at ms a.runs b.runs n o g in
        let queued : is_queued_at a id (base_at ms n) ≡ true = ap (is_queued_run id) e ∙ f in
        let date : date_at b n ≡ date_at a (base_at ms n) = ap (λ (x : Option Run). unwrap_or (option_map (λ (r : Run). r.logical) x) 0) (sym e) in
        ap (is_waiting m) date ∙ c.kept (date_at a (base_at ms n)) (s.queue.queued (base_at ms n) queued));
  };
}

-- ---- the positions to look at
near_above : (n x : ℕ) (ps : List ℕ) → list_all (nat_lt x) ps ≡ true → list_all (nat_lt x) (near_marks n ps) ≡ true
near_above n x [] h = refl
near_above n x (p ∷ ps) h =
    let l : x < p = ltb-true x p (and_left _ _ h) in
    and_from (nat_lt x p) _ (and_left _ _ h) (next_over n x (p + 1) (near_marks n ps) (omega arith) (near_above n x ps (and_right (nat_lt x p) _ h)))

pub near_rises : (n : ℕ) (ps : List ℕ) → rises nat_lt ps ≡ true → rises nat_lt (near_marks n ps) ≡ true
near_rises n [] h = refl
near_rises n (p ∷ ps) h =
    let above : list_all (nat_lt p) (near_marks n ps) ≡ true = near_above n p ps (and_left _ _ h) in
    let rest : rises nat_lt (near_marks n ps) ≡ true = near_rises n ps (and_right (list_all (nat_lt p) ps) _ h) in
    and_from (list_all (nat_lt p) (with_next n (p + 1) (near_marks n ps))) _ (next_above n p (near_marks n ps) above) (next_up n p (near_marks n ps) (and_from (list_all (nat_lt p) (near_marks n ps)) _ above rest))

pub near_within : (n : ℕ) (ps : List ℕ) → are_within n ps ≡ true → are_within n (near_marks n ps) ≡ true
near_within n [] h = refl
near_within n (p ∷ ps) h = and_from (nat_lt p n) _ (and_left _ _ h) (next_in_all n (p + 1) (near_marks n ps) (near_within n ps (and_right (nat_lt p n) _ h)))

marks_keep : (n : ℕ) (ps : List ℕ) (m : ℕ) → is_in ps m ≡ true → is_in (near_marks n ps) m ≡ true
marks_keep n [] m e = absurd (true≢false (sym e))
marks_keep n (p ∷ ps) m e = by_bool {C = (nat_eq p m || is_in (with_next n (p + 1) (near_marks n ps)) m) ≡ true} (nat_eq p m)
    (λ f. or_left (nat_eq p m) _ f)
    (λ f. or_right (nat_eq p m) _ (more_keeps n (p + 1) (near_marks n ps) m (marks_keep n ps m (sym (ap (λ b. b || is_in ps m) f) ∙ e))))

marks_follow : (n : ℕ) (ps : List ℕ) (m : ℕ) → suc m < n → is_in ps m ≡ true → is_in (near_marks n ps) (suc m) ≡ true
marks_follow n [] m l e = absurd (true≢false (sym e))
marks_follow n (p ∷ ps) m l e = by_bool {C = (nat_eq p (suc m) || is_in (with_next n (p + 1) (near_marks n ps)) (suc m)) ≡ true} (nat_eq p m)
    (λ f.
    let i : p ≡ m = eqb-true p m f in
    let j : suc m ≡ p + 1 = omega arith in
    let k : p + 1 < n = omega arith in
    or_right (nat_eq p (suc m)) _ (ap (is_in (with_next n (p + 1) (near_marks n ps))) j ∙ more_in n (p + 1) (near_marks n ps) k))
    (λ f. or_right (nat_eq p (suc m)) _ (more_keeps n (p + 1) (near_marks n ps) (suc m) (marks_follow n ps m l (sym (ap (λ b. b || is_in ps m) f) ∙ e))))

near_in : (n : ℕ) (ps : List ℕ) (m : ℕ) → m < n → is_near (is_in ps) m ≡ true → is_in (near_marks n ps) m ≡ true
near_in n ps zero l e = marks_keep n ps 0 e
near_in n ps (suc m) l e = by_bool {C = is_in (near_marks n ps) (suc m) ≡ true} (is_in ps (suc m))
    (λ f. marks_keep n ps (suc m) f)
    (λ f. marks_follow n ps m l (sym (ap (λ b. b || is_in ps m) f) ∙ e))

pub marks_cover : (a : Schedule) (ps : List ℕ) → rises nat_lt ps ≡ true → are_within (length a.runs) ps ≡ true → CoversRuns (is_near (is_in ps)) a → CoversEnds (is_in ps) a → IsCovered (near_marks (length a.runs) ps) a
marks_cover a ps up fits ds es = record {
  rising = near_rises (length a.runs) ps up;
  within = near_within (length a.runs) ps fits;
  decisions = λ m q j e. elim (slice_get a.runs m) as (λ x. slice_get a.runs m ≡ x → is_in (near_marks (length a.runs) ps) m ≡ true) [
    | None ↦ λ g. absurd (let c : ◌≡◌ {A = Option InstanceValue} None (Some j) = sym (ap (option_and_then (decision_in a q)) g) ∙ e in cc)
    | Some r ↦ λ g. near_in (length a.runs) ps m (slice_get_within a.runs m r g) (ds m q j e)
  ] refl;
  endings = λ m r q e f. marks_keep (length a.runs) ps m (es m r q e f);
}

-- ---- every run
every_in : (k i m : ℕ) → m < k → is_in (range_with_len i k) (i + m) ≡ true
every_in zero i m l = absurd (omega arith)
every_in (suc k) i zero l = let e : i ≡ i + 0 = omega arith in or_left (nat_eq i (i + 0)) _ (eq-eqb i (i + 0) e)
every_in (suc k) i (suc m) l =
    let e : i + suc m ≡ (i + 1) + m = omega arith in
    or_right (nat_eq i (i + suc m)) _ (ap (is_in (range_with_len (i + 1) k)) e ∙ every_in k (i + 1) m (omega arith))

every_above : (k i x : ℕ) → x < i → list_all (nat_lt x) (range_with_len i k) ≡ true
every_above zero i x l = refl
every_above (suc k) i x l = and_from (nat_lt x i) _ (lt-ltb x i l) (every_above k (i + 1) x (omega arith))

every_rises : (k i : ℕ) → rises nat_lt (range_with_len i k) ≡ true
every_rises zero i = refl
every_rises (suc k) i = and_from (list_all (nat_lt i) (range_with_len (i + 1) k)) _ (every_above k (i + 1) i (omega arith)) (every_rises k (i + 1))

every_within : (k i n : ℕ) → i + k ≤ n → are_within n (range_with_len i k) ≡ true
every_within zero i n l = refl
every_within (suc k) i n l = let low : i < n = omega arith in and_from (nat_lt i n) _ (lt-ltb i n low) (every_within k (i + 1) n (omega arith))

any_run : (n m : ℕ) → m < n → is_in (range_with_len 0 n) m ≡ true
any_run n m l = let e : m ≡ 0 + m = omega arith in ap (is_in (range_with_len 0 n)) e ∙ every_in n 0 m l

-- where all runs are marked
pub every_covers : (a : Schedule) → IsCovered (range_with_len 0 (length a.runs)) a
every_covers a = record {
  rising = every_rises (length a.runs) 0;
  within = every_within (length a.runs) 0 (length a.runs) (omega arith);
  decisions = λ m q j e. elim (slice_get a.runs m) as (λ x. slice_get a.runs m ≡ x → is_in (range_with_len 0 (length a.runs)) m ≡ true) [
    | None ↦ λ g. absurd (let c : ◌≡◌ {A = Option InstanceValue} None (Some j) = sym (ap (option_and_then (decision_in a q)) g) ∙ e in cc)
    | Some r ↦ λ g. any_run (length a.runs) m (slice_get_within a.runs m r g)
  ] refl;
  endings = λ m r q e f. any_run (length a.runs) m (slice_get_within a.runs m r e);
}
