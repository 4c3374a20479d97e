-- Each serial from the old next one to below the new one is that of one try, and so of one job that is handed out.
use Rattle.std.proofs.Common.{◌≡◌, ◌∙◌, refl, sym, ap, subst, ℕ, zero, suc, ◌+◌, ◌-◌, ◌<◌, ◌≤◌, List, [], ◌∷◌, ◌++◌, Bool, true, false, ◌||◌, ◌==◌, cond, filter, flat_map, map, Option, Some, None, slice_get, arith, nat_lt, true≢false, zip}
use Rattle.std.specs.List.{list_all, enumerate_from, range_with_len}
use Rattle.std.proofs.lemmas.Bool.{eq-eqb, eqb-true, ltb-true, ltb-false}
use Rattle.graph_file.specs.declared.task_specs.TaskSpec.{TaskSpec}
use Rattle.dag_check.specs.Orders.{is_in, repeated}
use Rattle.sched_model.specs.instance_machine.Instances.{InstanceValue}
use Rattle.sched_model.specs.instance_machine.declared.tries.Try.{Try}
use Rattle.sched_model.specs.sched_state.Lists.{repeat}
use Rattle.sched_model.specs.sched_state.declared.jobs.Job.{Job}
use Rattle.sched_model.specs.sched_state.declared.runs.Run.{Run}
use Rattle.sched_model.proofs.sched_state.OrderLemmas.{and_left, and_right, or_left, or_right, not_false}
use Rattle.sched_model.proofs.sched_state.RepeatLemmas.{repeat_done, repeat_more}
use Rattle.sched_model.specs.Changes.{advance}
use Rattle.sched_model.specs.Clearing.{pairs_of}
use Rattle.sched_model.specs.Handout.{Offer, hand, hand_one, hand_out, best_offer, serials_left}
use Rattle.sched_model.specs.Jobs.{job_of, jobs_of, all_jobs, job_at, handed}
use Rattle.sched_model.specs.Lists.{all_pairs}
use Rattle.sched_model.specs.NamedRuns.{NamedRun, add_runs}
use Rattle.sched_model.specs.Schedule.{Schedule, dag_among}
use Rattle.sched_model.specs.Settle.{move, move_runs, with_runs, settle, moves_left}
use Rattle.sched_model.specs.Sound.{IsSound, is_sound_in, is_sound_run, serials_of}
use Rattle.sched_laws.specs.Offered.{IsEligible}
use Rattle.sched_laws.proofs.HandLemmas.{best_eligible}
use Rattle.sched_laws.proofs.RunLemmas.{serials_in, run_serials, listed, serials_listed, map_append, pairs_of_run}
use Rattle.sched_laws.proofs.SettleLemmas.{map_some}
use Rattle.sched_laws.proofs.SoundLemmas.{hand_spliced}

-- ---- the next serial
turns_next : (n : ℕ) (a : Schedule) → (repeat n move a).next ≡ a.next
turns_next zero a = refl
turns_next (suc n) a = elim (move a) as (λ o. move a ≡ o → (repeat (suc n) move a).next ≡ a.next) [
  | None ↦ λ e. ap (λ (b : Schedule). b.next) (repeat_done (suc n) move a e)
  | Some b ↦ λ e.
      let t = map_some (with_runs a) (move_runs a) b e in
      ap (λ (c : Schedule). c.next) (repeat_more n move a b e) ∙ (turns_next n b ∙ ap (λ (c : Schedule). c.next) (sym t.2))
] refl

pub settle_next : (a : Schedule) → (settle a).next ≡ a.next
settle_next a = turns_next (moves_left a) a

hands_next : (n : ℕ) (a : Schedule) → a.next ≤ (repeat n hand_one a).next
hands_next zero a = omega arith
hands_next (suc n) a = elim (hand_one a) as (λ o. hand_one a ≡ o → a.next ≤ (repeat (suc n) hand_one a).next) [
  | None ↦ λ e. subst (λ (b : Schedule). a.next ≤ b.next) (sym (repeat_done (suc n) hand_one a e)) (omega arith)
  | Some b ↦ λ e.
      let t = map_some (hand a) (best_offer a) b e in
      let one : a.next + 1 ≡ b.next = ap (λ (c : Schedule). c.next) t.2 in
      let ih : b.next ≤ (repeat n hand_one b).next = hands_next n b in
      subst (λ (c : Schedule). a.next ≤ c.next) (sym (repeat_more n hand_one a b e)) (omega arith)
] refl

pub out_next : (a : Schedule) → a.next ≤ (hand_out a).next
out_next a = hands_next (serials_left a) a

-- ---- each serial is used
-- the serials from low to below the next one are those of tries
abbrev pub AllUsed : ℕ → Schedule → Type 0
AllUsed low a = (s : ℕ) → low ≤ s → s < a.next → is_in (serials_of a) s ≡ true

front_or : (b c : Bool) → c ≡ true → (b || c) ≡ true
front_or true c e = refl
front_or false c e = e

put_in : (s : ℕ) (ls rs : List ℕ) → is_in (ls ++ s ∷ rs) s ≡ true
put_in s [] rs = rw (eq-eqb s s refl) refl
put_in s (l ∷ ls) rs = front_or (l == s) _ (put_in s ls rs)

still_in : (s x : ℕ) (ls rs : List ℕ) → is_in (ls ++ rs) s ≡ true → is_in (ls ++ x ∷ rs) s ≡ true
still_in s x [] rs e = front_or (x == s) _ e
still_in s x (l ∷ ls) rs e = elim (l == s) as (λ b. (b || is_in (ls ++ rs) s) ≡ true → (b || is_in (ls ++ x ∷ rs) s) ≡ true) [
  | true ↦ λ f. refl
  | false ↦ λ f. still_in s x ls rs f
] e

below_other : (m n : ℕ) → m < n + 1 → (m ≡ n → ⊥) → m < n
below_other m n l d = elim (nat_lt m n) as (λ b. nat_lt m n ≡ b → m < n) [
  | true ↦ λ e. ltb-true m n e
  | false ↦ λ e. let least : n ≤ m = ltb-false m n e in absurd (d (omega (arith, l, least)))
] refl

hand_used : (a : Schedule) (o : Offer) (low : ℕ) → IsEligible a o → AllUsed low a → AllUsed low (hand a o)
hand_used a o low h used s from below =
    let p = hand_spliced a o h in
    elim (s == a.next) as (λ b. (s == a.next) ≡ b → is_in (serials_of (hand a o)) s ≡ true) [
      | true ↦ λ e. ap (λ xs. is_in xs s) p.is ∙ subst (λ (x : ℕ). is_in (p.left ++ x ∷ p.right) s ≡ true) (eqb-true s a.next e) (put_in s p.left p.right)
      | false ↦ λ e.
          let other : s ≡ a.next → ⊥ = λ f. true≢false (sym (eq-eqb s a.next f) ∙ e) in
          let before : s < a.next = below_other s a.next below other in
          ap (λ xs. is_in xs s) p.is ∙ still_in s a.next p.left p.right (ap (λ xs. is_in xs s) (sym p.was) ∙ used s from before)
    ] refl

hands_used : (n : ℕ) (a : Schedule) (low : ℕ) → AllUsed low a → AllUsed low (repeat n hand_one a)
hands_used zero a low used = used
hands_used (suc n) a low used = elim (hand_one a) as (λ o. hand_one a ≡ o → AllUsed low (repeat (suc n) hand_one a)) [
  | None ↦ λ e. subst (AllUsed low) (sym (repeat_done (suc n) hand_one a e)) used
  | Some b ↦ λ e.
      let t = map_some (hand a) (best_offer a) b e in
      let now : AllUsed low b = subst (AllUsed low) t.2 (hand_used a t.0 low (best_eligible a t.0 t.1).0 used) in
      subst (AllUsed low) (sym (repeat_more n hand_one a b e)) (hands_used n b low now)
] refl

pub out_used : (a : Schedule) → AllUsed a.next (hand_out a)
out_used a = hands_used (serials_left a) a a.next (λ s from below. absurd (omega (arith, from, below)))

-- ---- the jobs are those of the tries
numbered : (r : Run) (t : TaskSpec) (n : ℕ) (ts : List Try) → map (λ (j : Job). j.serial) (map (job_of r t) (enumerate_from n ts)) ≡ map (λ (u : Try). u.serial) ts
numbered r t n [] = refl
numbered r t n (u ∷ ts) = ap (λ xs. u.serial ∷ xs) (numbered r t (n + 1) ts)

paired : (p : TaskSpec → InstanceValue → Bool) (r : Run) (ts : List TaskSpec) (is : List InstanceValue) → all_pairs p ts is ≡ true → map (λ (j : Job). j.serial) (flat_map (jobs_of r) (zip ts is)) ≡ flat_map serials_in is
paired p r [] [] e = refl
paired p r [] (i ∷ is) e = absurd (true≢false (sym e))
paired p r (t ∷ ts) [] e = refl
paired p r (t ∷ ts) (i ∷ is) e =
    map_append (λ (j : Job). j.serial) (jobs_of r (t, i)) (flat_map (jobs_of r) (zip ts is))
    ∙ (ap (λ xs. xs ++ map (λ (j : Job). j.serial) (flat_map (jobs_of r) (zip ts is))) (numbered r t 1 i.tries)
    ∙ ap (λ xs. serials_in i ++ xs) (paired p r ts is (and_right (p t i) _ e)))

listed_jobs : (a : Schedule) (rs : List Run) → list_all (is_sound_run a.graphs) rs ≡ true → map (λ (j : Job). j.serial) (flat_map (λ r. flat_map (jobs_of r) (pairs_of a r)) rs) ≡ listed rs
listed_jobs a [] e = refl
listed_jobs a (r ∷ rs) e =
    map_append (λ (j : Job). j.serial) (flat_map (jobs_of r) (pairs_of a r)) (flat_map (λ q. flat_map (jobs_of q) (pairs_of a q)) rs)
    ∙ (ap (λ xs. xs ++ map (λ (j : Job). j.serial) (flat_map (λ q. flat_map (jobs_of q) (pairs_of a q)) rs))
    (paired (is_sound_in r.phase) r (dag_among a.graphs r.graph).tasks r.instances (pairs_of_run a.graphs r (and_left _ _ e)))
    ∙ ap (λ xs. run_serials r ++ xs) (listed_jobs a rs (and_right (is_sound_run a.graphs r) _ e)))

jobs_serials : (a : Schedule) → IsSound a → map (λ (j : Job). j.serial) (all_jobs a) ≡ serials_of a
jobs_serials a s = listed_jobs a a.runs s.runs ∙ sym (serials_listed a)

-- ---- one job for each serial
filter_serial : (s : ℕ) (js : List Job) → map (λ (j : Job). j.serial) (filter (λ (j : Job). j.serial == s) js) ≡ filter (λ x. x == s) (map (λ (j : Job). j.serial) js)
filter_serial s [] = refl
filter_serial s (j ∷ js) = elim (j.serial == s) as (λ b. map (λ (k : Job). k.serial) (cond b (j ∷ filter (λ (k : Job). k.serial == s) js) (filter (λ (k : Job). k.serial == s) js)) ≡ cond b (j.serial ∷ filter (λ x. x == s) (map (λ (k : Job). k.serial) js)) (filter (λ x. x == s) (map (λ (k : Job). k.serial) js))) [
  | true ↦ ap (λ xs. j.serial ∷ xs) (filter_serial s js)
  | false ↦ filter_serial s js
]

none_in : (s : ℕ) (xs : List ℕ) → is_in xs s ≡ false → filter (λ x. x == s) xs ≡ []
none_in s [] e = refl
none_in s (x ∷ xs) e = rw (or_left (x == s) _ e, filter) (none_in s xs (or_right (x == s) _ e))

once_in : (s : ℕ) (xs : List ℕ) → repeated xs ≡ false → is_in xs s ≡ true → filter (λ x. x == s) xs ≡ s ∷ []
once_in s [] d e = absurd (true≢false (sym e))
once_in s (x ∷ xs) d e = elim (x == s) as (λ b. (x == s) ≡ b → (b || is_in xs s) ≡ true → cond b (x ∷ filter (λ y. y == s) xs) (filter (λ y. y == s) xs) ≡ s ∷ []) [
  | true ↦ λ f g.
      let is : x ≡ s = eqb-true x s f in
      ap (λ ys. x ∷ ys) (none_in s xs (ap (is_in xs) (sym is) ∙ or_left (is_in xs x) _ d)) ∙ ap (λ z. z ∷ []) is
  | false ↦ λ f g. once_in s xs (or_right (is_in xs x) _ d) g
] refl e

one_job : (a : Schedule) (s : ℕ) → IsSound a → is_in (serials_of a) s ≡ true → map (λ (j : Job). j.serial) (job_at a s) ≡ s ∷ []
one_job a s h e = filter_serial s (all_jobs a) ∙ (ap (filter (λ x. x == s)) (jobs_serials a h) ∙ once_in s (serials_of a) (not_false _ h.serials_once) e)

each_once : (a : Schedule) (low n : ℕ) → IsSound a → ((s : ℕ) → low ≤ s → s < low + n → is_in (serials_of a) s ≡ true)
    → map (λ (j : Job). j.serial) (flat_map (job_at a) (range_with_len low n)) ≡ range_with_len low n
each_once a low zero h used = refl
each_once a low (suc n) h used =
    map_append (λ (j : Job). j.serial) (job_at a low) (flat_map (job_at a) (range_with_len (low + 1) n))
    ∙ (ap (λ xs. xs ++ map (λ (j : Job). j.serial) (flat_map (job_at a) (range_with_len (low + 1) n))) (one_job a low h (used low (omega arith) (omega arith)))
    ∙ ap (λ xs. low ∷ xs) (each_once a (low + 1) n h (λ s from below. used s (omega (arith, from)) (omega (arith, below)))))

-- what is handed out from a schedule with the same next serial as another
pub handed_serials : (a c : Schedule) → c.next ≡ a.next → IsSound (hand_out c) → map (λ (j : Job). j.serial) (handed a (hand_out c)) ≡ range_with_len a.next ((hand_out c).next - a.next)
handed_serials a c same h =
    let b : Schedule = hand_out c in
    let rise : c.next ≤ b.next = out_next c in
    each_once b a.next (b.next - a.next) h (λ k from below. out_used c k (omega (arith, from, same)) (omega (arith, below, same, rise)))

pub advance_serials : (ns : List NamedRun) (a c : Schedule) → c.next ≡ a.next → IsSound (advance ns c) → map (λ (j : Job). j.serial) (handed a (advance ns c)) ≡ range_with_len a.next ((advance ns c).next - a.next)
advance_serials ns a c same h = handed_serials a (settle (add_runs ns c)) (settle_next (add_runs ns c) ∙ same) h

pub advance_next : (ns : List NamedRun) (a : Schedule) → a.next ≤ (advance ns a).next
advance_next ns a =
    let kept : (settle (add_runs ns a)).next ≡ a.next = settle_next (add_runs ns a) in
    let rise = out_next (settle (add_runs ns a)) in
    omega (arith, kept, rise)

-- ---- numbers in a row
pub range_on : (low m n : ℕ) → range_with_len low m ++ range_with_len (low + m) n ≡ range_with_len low (m + n)
range_on low zero n =
    let z : low + 0 ≡ low = omega arith in
    let y : n ≡ 0 + n = omega arith in
    ap (λ k. range_with_len k n) z ∙ ap (range_with_len low) y
range_on low (suc m) n =
    let z : low + suc m ≡ (low + 1) + m = omega arith in
    let y : suc (m + n) ≡ suc m + n = omega arith in
    ap (λ xs. low ∷ xs) (ap (λ k. range_with_len (low + 1) m ++ range_with_len k n) z ∙ range_on (low + 1) m n) ∙ ap (range_with_len low) y

pub range_get : (low n i s : ℕ) → slice_get (range_with_len low n) i ≡ Some s → s ≡ low + i
range_get low zero i s e = absurd (let c : ◌≡◌ {A = Option ℕ} None (Some s) = e in cc)
range_get low (suc n) zero s e = let c : ◌≡◌ {A = Option ℕ} (Some low) (Some s) = e in let is : low ≡ s = cc in omega (arith, is)
range_get low (suc n) (suc i) s e = let ih = range_get (low + 1) n i s e in omega (arith, ih)
