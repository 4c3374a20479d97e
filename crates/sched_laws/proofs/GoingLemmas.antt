-- Each try that is there goes on: in its run and its instance, at its position.
use Rattle.std.proofs.Common.{◌≡◌, ◌∙◌, refl, sym, ap, subst, ℕ, zero, suc, List, [], ◌∷◌, ◌++◌, Bool, true, false, ◌||◌, ◌==◌, if◌then◌else◌, cond, map, Option, Some, None, option_map, option_and_then, slice_get, unwrap_or}
use Rattle.std.specs.List.{list_any}
use Rattle.std.proofs.lemmas.Bool.{or_left, or_right}
use Rattle.std.proofs.lemmas.Option.{slice_get-map}
use Rattle.sched_model.specs.instance_machine.Instances.{InstanceValue, map_tries}
use Rattle.sched_model.specs.instance_machine.Reports.{report_try, reported_try, lost_if, lost_try}
use Rattle.sched_model.specs.instance_machine.declared.tries.Try.{Try}
use Rattle.sched_model.specs.instance_machine.declared.tries.End.{End}
use Rattle.sched_model.specs.instance_machine.declared.tries.Stage.{Stage}
use Rattle.sched_model.specs.instance_machine.declared.tries.Stage.TheVariants.{Started, Ended}
use Rattle.sched_model.specs.instance_machine.declared.tries.Outcome.TheVariants.{Success, Failed, Skipped, Lost}
use Rattle.sched_model.specs.sched_state.Lists.{same}
use Rattle.sched_model.specs.sched_state.declared.runs.Run.{Run}
use Rattle.sched_model.proofs.sched_state.OrderLemmas.{and_left}
use Rattle.sched_model.specs.Changes.{advance, map_tries_of, map_all_tries}
use Rattle.sched_model.specs.trigger_rules.declared.verdicts.Verdict.{Verdict}
use Rattle.sched_model.specs.Clearing.{Selection, clear, set_run, set_named, place_of}
use Rattle.sched_model.specs.Handout.{new_try, with_try, in_instance, hand, hand_one, best_offer, serials_left}
use Rattle.sched_model.specs.Lists.{at}
use Rattle.sched_model.specs.NamedRuns.{NamedRun, add_runs}
use Rattle.sched_model.specs.Schedule.{Schedule, is_at, dag_named, has_runs}
use Rattle.sched_model.specs.Settle.{move, move_runs, with_runs, settle, moves_left}
use Rattle.sched_model.specs.Sound.{IsSound, are_new}
use Rattle.sched_laws.specs.Runs.{named_as}
use Rattle.sched_laws.specs.Tries.{IsLaterTry, run_at, try_in, try_at, try_of}
use Rattle.sched_laws.proofs.ClearLemmas.{all_keys, all_tries}
use Rattle.sched_laws.proofs.OnwardLemmas.{IsOnward, AllBy, by_still, by_further, by_first, by_at, by_turns, by_added}
use Rattle.sched_laws.proofs.RunLemmas.{try_lists, move_kin}
use Rattle.sched_laws.proofs.SettleLemmas.{map_some}

-- ---- a try
pub goes_still : (t : Try) → IsLaterTry t t
goes_still t = record { serial = refl; slots = refl; started = λ m e. e; ended = λ x e. e }

pub goes_further : (t u v : Try) → IsLaterTry t u → IsLaterTry u v → IsLaterTry t v
goes_further t u v f g = record {
  serial = g.serial ∙ f.serial;
  slots = g.slots ∙ f.slots;
  started = λ m e. g.started m (f.started m e);
  ended = λ x e. g.ended x (f.ended x e);
}

abbrev made_try : ℕ → ℕ → Option ℕ → Option End → Try
made_try s k b e = record { serial = s; slots = k; started = b; ended = e }

-- what has not begun, or has not ended
begins : (s k now : ℕ) → IsLaterTry (made_try s k None None) (made_try s k (Some now) None)
begins s k now = record {
  serial = refl;
  slots = refl;
  started = λ m e. absurd (let c : ◌≡◌ {A = Option ℕ} None (Some m) = e in cc);
  ended = λ x e. absurd (let c : ◌≡◌ {A = Option End} None (Some x) = e in cc);
}

ends : (s k : ℕ) (b : Option ℕ) (y : End) → IsLaterTry (made_try s k b None) (made_try s k b (Some y))
ends s k b y = record {
  serial = refl;
  slots = refl;
  started = λ m e. e;
  ended = λ x e. absurd (let c : ◌≡◌ {A = Option End} None (Some x) = e in cc);
}

reports : (stage : Stage) (now s k : ℕ) (b : Option ℕ) (e : Option End) → IsLaterTry (made_try s k b e) (unwrap_or (report_try stage now (made_try s k b e)) (made_try s k b e))
reports stage now s k b (Some x) = goes_still (made_try s k b (Some x))
reports Started now s k None None = begins s k now
reports Started now s k (Some m) None = goes_still (made_try s k (Some m) None)
reports (Ended o) now s k None None = goes_still (made_try s k None None)
reports (Ended Success) now s k (Some m) None = ends s k (Some m) (record { moment = now; outcome = Success })
reports (Ended Failed) now s k (Some m) None = ends s k (Some m) (record { moment = now; outcome = Failed })
reports (Ended Skipped) now s k (Some m) None = ends s k (Some m) (record { moment = now; outcome = Skipped })
reports (Ended Lost) now s k (Some m) None = goes_still (made_try s k (Some m) None)

goes_if : (b : Bool) (t u : Try) → IsLaterTry t u → IsLaterTry t (if b then u else t)
goes_if true t u g = g
goes_if false t u g = goes_still t

pub report_goes : (serial : ℕ) (stage : Stage) (now : ℕ) (t : Try) → IsLaterTry t (reported_try serial stage now t)
report_goes serial stage now t = goes_if (t.serial == serial) t (unwrap_or (report_try stage now t) t) (reports stage now t.serial t.slots t.started t.ended)

lost_goes_if : (now s k : ℕ) (b : Option ℕ) (e : Option End) → IsLaterTry (made_try s k b e) (lost_if now e (made_try s k b e))
lost_goes_if now s k b None = ends s k b (record { moment = now; outcome = Lost })
lost_goes_if now s k b (Some x) = goes_still (made_try s k b (Some x))

pub lost_goes : (now : ℕ) (t : Try) → IsLaterTry t (lost_try now t)
lost_goes now t = lost_goes_if now t.serial t.slots t.started t.ended

-- ---- a run
-- q stands where r stood, and each try goes on
pub record RunGoesOn (r q : Run) : Type 0 where
  pub named : named_as q ≡ named_as r
  pub tries : (p n : ℕ) (t : Try) → try_in p n r ≡ Some t → (u : Try) × (try_in p n q ≡ Some u) × IsLaterTry t u

run_still : (r : Run) → RunGoesOn r r
run_still r = record { named = refl; tries = λ p n t e. (t, e, goes_still t) }

run_further : (r q w : Run) → RunGoesOn r q → RunGoesOn q w → RunGoesOn r w
run_further r q w f g = record {
  named = g.named ∙ f.named;
  tries = λ p n t e.
      let u = f.tries p n t e in
      let v = g.tries p n u.0 u.1 in
      (v.0, v.1, goes_further t u.0 v.0 u.2 v.2);
}

-- where the tries are the same
in_lists : (p n : ℕ) (r : Run) → try_in p n r ≡ option_and_then (λ (ts : List Try). slice_get ts n) (slice_get (try_lists r) p)
in_lists p n r = of_option (slice_get r.instances p) ∙ ap (option_and_then (λ (ts : List Try). slice_get ts n)) (sym (slice_get-map (λ (i : InstanceValue). i.tries) r.instances p))
  where
    of_option : (o : Option InstanceValue) → option_and_then (λ (i : InstanceValue). slice_get i.tries n) o ≡ option_and_then (λ (ts : List Try). slice_get ts n) (option_map (λ (i : InstanceValue). i.tries) o)
    of_option None = refl
    of_option (Some i) = refl

same_tries : (r q : Run) → named_as q ≡ named_as r → try_lists q ≡ try_lists r → RunGoesOn r q
same_tries r q e f = record {
  named = e;
  tries = λ p n t g. (t, in_lists p n q ∙ (ap (λ (ls : List (List Try)). option_and_then (λ (ts : List Try). slice_get ts n) (slice_get ls p)) f ∙ (sym (in_lists p n r) ∙ g)), goes_still t);
}

-- where each try is changed
mapped_get : (f : Try → Try) (p n : ℕ) (r : Run) → try_in p n (map_tries_of f r) ≡ option_map f (try_in p n r)
mapped_get f p n r = ap (option_and_then (λ (i : InstanceValue). slice_get i.tries n)) (slice_get-map (map_tries f) r.instances p) ∙ of_option (slice_get r.instances p)
  where
    of_option : (o : Option InstanceValue) → option_and_then (λ (i : InstanceValue). slice_get i.tries n) (option_map (map_tries f) o) ≡ option_map f (option_and_then (λ (i : InstanceValue). slice_get i.tries n) o)
    of_option None = refl
    of_option (Some i) = slice_get-map f i.tries n

changed_tries : (f : Try → Try) → ((t : Try) → IsLaterTry t (f t)) → (r : Run) → RunGoesOn r (map_tries_of f r)
changed_tries f h r = record { named = refl; tries = λ p n t e. (f t, mapped_get f p n r ∙ ap (option_map f) e, h t) }

-- where one instance gets a further try
get_front : {X : Type 0} (xs ys : List X) (n : ℕ) (x : X) → slice_get xs n ≡ Some x → slice_get (xs ++ ys) n ≡ Some x
get_front {X} [] ys n x e = absurd (let c : ◌≡◌ {A = Option X} None (Some x) = e in cc)
get_front (z ∷ xs) ys zero x e = e
get_front (z ∷ xs) ys (suc n) x e = get_front xs ys n x e

handed_get : (v : Try) (k : ℕ) (is : List InstanceValue) (p n : ℕ) (t : Try) → option_and_then (λ (i : InstanceValue). slice_get i.tries n) (slice_get is p) ≡ Some t
    → option_and_then (λ (i : InstanceValue). slice_get i.tries n) (slice_get (at (with_try v) k is) p) ≡ Some t
handed_get v k [] p n t e = e
handed_get v zero (i ∷ is) zero n t e = get_front i.tries (v ∷ []) n t e
handed_get v zero (i ∷ is) (suc p) n t e = e
handed_get v (suc k) (i ∷ is) zero n t e = e
handed_get v (suc k) (i ∷ is) (suc p) n t e = handed_get v k is p n t e

handed_try : (v : Try) (k : ℕ) (r : Run) → RunGoesOn r (in_instance (with_try v) k r)
handed_try v k r = record { named = refl; tries = λ p n t e. (t, handed_get v k r.instances p n t e, goes_still t) }

-- ---- the runs of a schedule
abbrev pub AllGoOn : List Run → List Run → Type 0
AllGoOn rs qs = AllBy RunGoesOn rs qs

run_onward : IsOnward RunGoesOn
run_onward = record { still = run_still; further = run_further; named = λ r q g. g.named }

pub all_still : (rs : List Run) → AllGoOn rs rs
all_still rs = by_still RunGoesOn run_onward rs

pub all_further : (rs qs ws : List Run) → AllGoOn rs qs → AllGoOn qs ws → AllGoOn rs ws
all_further rs qs ws f g = by_further RunGoesOn run_onward rs qs ws f g

-- one run after another
first_goes : (r q : Run) (rs qs : List Run) → RunGoesOn r q → AllGoOn rs qs → AllGoOn (r ∷ rs) (q ∷ qs)
first_goes r q rs qs g h = by_first RunGoesOn run_onward r q rs qs g h

heads_are : {Y : Type 0} (x y : Y) (xs ys : List Y) → x ∷ xs ≡ y ∷ ys → (x ≡ y) × (xs ≡ ys)
heads_are x y xs ys e = (cc, cc)

pub lists_go : (rs qs : List Run) → map named_as qs ≡ map named_as rs → map try_lists qs ≡ map try_lists rs → AllGoOn rs qs
lists_go [] [] e f = all_still []
lists_go [] (q ∷ qs) e f = absurd (let c : ◌≡◌ {A = List NamedRun} (named_as q ∷ map named_as qs) [] = e in cc)
lists_go (r ∷ rs) [] e f = absurd (let c : ◌≡◌ {A = List NamedRun} [] (named_as r ∷ map named_as rs) = e in cc)
lists_go (r ∷ rs) (q ∷ qs) e f =
    let names = heads_are (named_as q) (named_as r) (map named_as qs) (map named_as rs) e in
    let tries = heads_are (try_lists q) (try_lists r) (map try_lists qs) (map try_lists rs) f in
    first_goes r q rs qs (same_tries r q names.0 tries.0) (lists_go rs qs names.1 tries.1)

each_goes : (f : Run → Run) → ((r : Run) → RunGoesOn r (f r)) → (rs : List Run) → AllGoOn rs (map f rs)
each_goes f h [] = all_still []
each_goes f h (r ∷ rs) = first_goes r (f r) rs (map f rs) (h r) (each_goes f h rs)

-- ---- the changes of events
pub tries_go : (f : Try → Try) → ((t : Try) → IsLaterTry t (f t)) → (a : Schedule) → AllGoOn a.runs (map_all_tries f a).runs
tries_go f h a = each_goes (map_tries_of f) (changed_tries f h) a.runs

pub set_goes : (v : Option Verdict) (named : Selection) (a : Schedule) → IsSound a → AllGoOn a.runs (set_named v named a).runs
set_goes v named a s = lists_go a.runs (map (set_run v a named) a.runs) (all_keys v a named a.runs) (all_tries v a named a.runs s.runs)

pub clear_goes : (named : Selection) (a : Schedule) → IsSound a → AllGoOn a.runs (clear named a).runs
clear_goes named a s = set_goes None named a s

-- ---- moves and hand-outs
-- nothing more is said of the schedules between
abbrev NoMore : Schedule → Type 0
NoMore a = Unit {0}

move_goes : (a b : Schedule) → NoMore a → move a ≡ Some b → NoMore b × AllGoOn a.runs b.runs
move_goes a b i e =
    let t = map_some (with_runs a) (move_runs a) b e in
    let k = move_kin a t.0 t.1 in
    (tt, subst (λ (c : Schedule). AllGoOn a.runs c.runs) t.2 (lists_go a.runs t.0 k.keys k.tries))

hand_goes : (a b : Schedule) → NoMore a → hand_one a ≡ Some b → NoMore b × AllGoOn a.runs b.runs
hand_goes a b i e =
    let t = map_some (hand a) (best_offer a) b e in
    let v : Try = new_try a.next t.0.slots in
    (tt, subst (λ (c : Schedule). AllGoOn a.runs c.runs) t.2 (by_at RunGoesOn run_onward (in_instance (with_try v) t.0.place) t.0.run a.runs (λ r f. handed_try v t.0.place r)))

pub advance_goes : (ns : List NamedRun) (a : Schedule) → are_new a ns ≡ true → AllGoOn a.runs (advance ns a).runs
advance_goes ns a e =
    let b : Schedule = add_runs ns a in
    let moved = by_turns RunGoesOn run_onward NoMore move move_goes (moves_left b) b tt in
    let handed = by_turns RunGoesOn run_onward NoMore hand_one hand_goes (serials_left (settle b)) (settle b) tt in
    by_further RunGoesOn run_onward a.runs b.runs (advance ns a).runs (by_added RunGoesOn run_onward ns a e)
    (by_further RunGoesOn run_onward b.runs (settle b).runs (advance ns a).runs moved.1 handed.1)

-- ---- a try
pub try_goes : (a b : Schedule) → AllGoOn a.runs b.runs → (id : List ℕ) (date p n : ℕ) (t : Try) → try_at a id date p n ≡ Some t → (u : Try) × (try_at b id date p n ≡ Some u) × IsLaterTry t u
try_goes a b h id date p n t e = elim (run_at id date a.runs) as (λ o. run_at id date a.runs ≡ o → option_and_then (try_in p n) o ≡ Some t → (u : Try) × (try_at b id date p n ≡ Some u) × IsLaterTry t u) [
  | None ↦ λ f g. absurd (let c : ◌≡◌ {A = Option Try} None (Some t) = g in cc)
  | Some r ↦ λ f g.
      let q = h id date r f in
      let goes = q.2 in
      let u = goes.tries p n t g in
      (u.0, ap (option_and_then (try_in p n)) q.1 ∙ u.1, u.2)
] refl e

-- ---- a try by the id of its task
pub run_there : (id : List ℕ) (date : ℕ) (rs : List Run) (r : Run) → run_at id date rs ≡ Some r → list_any (λ (q : Run). same q.graph id) rs ≡ true
run_there id date [] r e = absurd (let c : ◌≡◌ {A = Option Run} None (Some r) = e in cc)
run_there id date (q ∷ qs) r e = elim (is_at id date q) as (λ b. is_at id date q ≡ b → cond b (Some q) (run_at id date qs) ≡ Some r → (same q.graph id || list_any (λ (w : Run). same w.graph id) qs) ≡ true) [
  | true ↦ λ f g. or_left (same q.graph id) _ (and_left (same q.graph id) (q.logical == date) f)
  | false ↦ λ f g. or_right (same q.graph id) _ (run_there id date qs r g)
] refl e

-- the graph of a try has a run
try_run : (a : Schedule) (id : List ℕ) (date p n : ℕ) (t : Try) → try_at a id date p n ≡ Some t → has_runs a id ≡ true
try_run a id date p n t e = elim (run_at id date a.runs) as (λ o. run_at id date a.runs ≡ o → option_and_then (try_in p n) o ≡ Some t → has_runs a id ≡ true) [
  | None ↦ λ f g. absurd (let c : ◌≡◌ {A = Option Try} None (Some t) = g in cc)
  | Some r ↦ λ f g. run_there id date a.runs r f
] refl e

-- where a graph that has runs keeps its tasks
pub task_goes : (a b : Schedule) → AllGoOn a.runs b.runs → (id : List ℕ) → (has_runs a id ≡ true → (dag_named b id).tasks ≡ (dag_named a id).tasks) → (date : ℕ) (task : List ℕ) (n : ℕ) (t : Try) → try_of a id date task n ≡ Some t
    → (u : Try) × (try_of b id date task n ≡ Some u) × IsLaterTry t u
task_goes a b h id tasks date task n t e = elim (place_of (dag_named a id).tasks task) as (λ o. place_of (dag_named a id).tasks task ≡ o → option_and_then (λ (p : ℕ). try_at a id date p n) o ≡ Some t → (u : Try) × (try_of b id date task n ≡ Some u) × IsLaterTry t u) [
  | None ↦ λ f g. absurd (let c : ◌≡◌ {A = Option Try} None (Some t) = g in cc)
  | Some p ↦ λ f g.
      let u = try_goes a b h id date p n t g in
      let place : place_of (dag_named b id).tasks task ≡ Some p = ap (λ ts. place_of ts task) (tasks (try_run a id date p n t g)) ∙ f in
      (u.0, ap (option_and_then (λ (q : ℕ). try_at b id date q n)) place ∙ u.1, u.2)
] refl e
