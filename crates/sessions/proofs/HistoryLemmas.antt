-- Histories, one after another.
use Rattle.std.proofs.Common.{◌≡◌, ◌∙◌, ℕ, ◌+◌, ◌-◌, ◌^◌, min, zero, suc, Bool, true, false, true≢false, ◌||◌, List, [], ◌∷◌, ◌++◌, length, map, All, refl, sym, ap, subst, arith, append_assoc, append-nil}
use Rattle.std.proofs.lemmas.Grind.{flat_map-append}
use Rattle.std.proofs.lemmas.List.{map-append}
use Rattle.std.proofs.lemmas.List.Elements.{All-append, All-cons, All-nil, All-head, All-tail}
use Rattle.ruled_dispatch.specs.declared.items.JobOrStop.{JobOrStop}
use Rattle.ruled_dispatch.specs.declared.items.WorkerReport.{WorkerReport}
use Rattle.sched_events.specs.Steps.{step, steps, answer_to, handed_along}
use Rattle.sched_events.specs.declared.events.Event.{Event}
use Rattle.sched_events.proofs.StepLemmas.{steps_parts}
use Rattle.sched_model.specs.Schedule.{Schedule}
use Rattle.sessions.specs.History.{accepted, events_in, is_polled, is_reported, is_restarted, looks, readings_by, readings_in, tried_at_end, tried_by, ArePolled, AreReported, AreRight, NoneThere, Reported, Restarted, Step, Told, Looked, Asked}
use Rattle.sessions.specs.Runs.{more, Works}
use Rattle.sessions.specs.Executors.{one_more, AsksNothing, ExecutorValue, has_heard, has_sent, IsSameExecutor}
use Rattle.director.specs.Leaves.{tried_behind}
use Rattle.director.proofs.LeaveLemmas.{behind_behind}

-- ---- lists of steps
pub accepted_append : (h k : List Step) → accepted (h ++ k) ≡ accepted h ++ accepted k
accepted_append h k = flat_map-append events_in h k

pub right_append : (h k : List Step) (a : Schedule) → AreRight h a → AreRight k (steps (accepted h) a) → AreRight (h ++ k) a
right_append [] k a one two = two
right_append (x ∷ xs) k a one two = (one.0, right_append xs k (steps (events_in x) a) one.1 (subst (AreRight k) (steps_parts (events_in x) (accepted xs) a) two))

pub handed_append : (es fs : List Event) (a : Schedule) → handed_along (es ++ fs) a ≡ handed_along es a ++ handed_along fs (steps es a)
handed_append [] fs a = refl
handed_append (e ∷ es) fs a =
    ap (λ l. (answer_to e a).jobs ++ l) (handed_append es fs (step e a)) ∙ sym (append_assoc (answer_to e a).jobs (handed_along es (step e a)) (handed_along fs (steps es (step e a))))

pub readings_append : (h k : List Step) → readings_in (h ++ k) ≡ readings_in h ++ readings_in k
readings_append h k = flat_map-append readings_by h k

-- ---- kinds of steps
unread : (x : Step) → is_polled x ≡ true → readings_by x ≡ []
unread (Reported waited t faults came) is = refl
unread NoneThere is = refl
unread (Looked b) is = refl
unread (Restarted lanes faults came) is = refl
unread (Told e came) is = refl
unread (Asked b reading) is = absurd (true≢false (sym is))

pub polled_unread : (h : List Step) → All (λ x. is_polled x ≡ true) h → readings_in h ≡ []
polled_unread [] are = refl
polled_unread (x ∷ xs) are = ap (λ l. l ++ readings_in xs) (unread x (All-head (λ (y : Step). is_polled y ≡ true) x xs are)) ∙ polled_unread xs (All-tail (λ (y : Step). is_polled y ≡ true) x xs are)

unheard : (x : Step) → is_reported x ≡ true → readings_by x ≡ []
unheard (Reported waited t faults came) is = refl
unheard NoneThere is = refl
unheard (Looked b) is = refl
unheard (Restarted lanes faults came) is = refl
unheard (Told e came) is = refl
unheard (Asked b reading) is = absurd (true≢false (sym is))

pub reported_unread : (h : List Step) → AreReported h → readings_in h ≡ []
reported_unread [] are = refl
reported_unread (x ∷ xs) are = ap (λ l. l ++ readings_in xs) (unheard x (All-head (λ (y : Step). is_reported y ≡ true) x xs are)) ∙ reported_unread xs (All-tail (λ (y : Step). is_reported y ≡ true) x xs are)

polled_is_reported : (x : Step) → is_polled x ≡ true → is_reported x ≡ true
polled_is_reported (Reported waited t faults came) is = refl
polled_is_reported NoneThere is = is
polled_is_reported (Looked b) is = is
polled_is_reported (Restarted lanes faults came) is = is
polled_is_reported (Told e came) is = is
polled_is_reported (Asked b reading) is = is

reported_is_later : (x : Step) → is_reported x ≡ true → is_restarted x ≡ false
reported_is_later (Reported waited t faults came) is = refl
reported_is_later NoneThere is = refl
reported_is_later (Looked b) is = refl
reported_is_later (Restarted lanes faults came) is = absurd (true≢false (sym is))
reported_is_later (Told e came) is = refl
reported_is_later (Asked b reading) is = refl

pub polled_reported : (h : List Step) → All (λ x. is_polled x ≡ true) h → AreReported h
polled_reported [] are = All-nil (λ (y : Step). is_reported y ≡ true)
polled_reported (x ∷ xs) are =
    All-cons (λ (y : Step). is_reported y ≡ true) x xs (polled_is_reported x (All-head (λ (y : Step). is_polled y ≡ true) x xs are)) (polled_reported xs (All-tail (λ (y : Step). is_polled y ≡ true) x xs are))

pub reported_later : (h : List Step) → AreReported h → All (λ x. is_restarted x ≡ false) h
reported_later [] are = All-nil (λ (y : Step). is_restarted y ≡ false)
reported_later (x ∷ xs) are =
    All-cons (λ (y : Step). is_restarted y ≡ false) x xs (reported_is_later x (All-head (λ (y : Step). is_reported y ≡ true) x xs are)) (reported_later xs (All-tail (λ (y : Step). is_reported y ≡ true) x xs are))

-- one step more that is no restart
pub later_more : (h : List Step) (x : Step) → is_restarted x ≡ false → All (λ x. is_restarted x ≡ false) h → All (λ x. is_restarted x ≡ false) (h ++ x ∷ [])
later_more h x is are = All-append (λ (y : Step). is_restarted y ≡ false) h (x ∷ []) are (All-cons (λ (y : Step). is_restarted y ≡ false) x [] is (All-nil (λ (y : Step). is_restarted y ≡ false)))

pub polls_later : (h : List Step) → ArePolled h → All (λ x. is_restarted x ≡ false) h
polls_later h polled = subst (All (λ x. is_restarted x ≡ false)) (sym polled.2) (later_more polled.0 NoneThere refl (reported_later polled.0 (polled_reported polled.0 polled.1)))

pub polls_unread : (h : List Step) → ArePolled h → readings_in h ≡ []
polls_unread h polled = ap readings_in polled.2 ∙ readings_append polled.0 (NoneThere ∷ []) ∙ ap (λ l. l ++ readings_in (NoneThere ∷ [])) (polled_unread polled.0 polled.1)

pub looks_unread : (times : ℕ) (b : Schedule) → readings_in (looks times b) ≡ []
looks_unread zero b = refl
looks_unread (suc n) b = looks_unread n b

pub looks_later : (times : ℕ) (b : Schedule) → All (λ x. is_restarted x ≡ false) (looks times b)
looks_later zero b = All-nil (λ (y : Step). is_restarted y ≡ false)
looks_later (suc n) b = All-cons (λ (y : Step). is_restarted y ≡ false) (Looked b) (looks n b) refl (looks_later n b)

-- ---- counts
pub same_more : (k m n : ℕ) → k ≡ m → more k n ≡ more m n
same_more k m n e = ap (λ (i : ℕ). more i n) e

capped_then : (j k n : ℕ) → min (min (n + suc j) (2 ^ 64 - 1) + suc k) (2 ^ 64 - 1) ≡ min (n + suc (j + suc k)) (2 ^ 64 - 1)
capped_then j k n = omega arith

pub more_then : (j k n : ℕ) → more k (more j n) ≡ more (j + k) n
more_then zero k n = same_more k (0 + k) n (omega arith)
more_then (suc j) zero n = same_more (suc j) (suc j + 0) n (omega arith)
more_then (suc j) (suc k) n = capped_then j k n ∙ same_more (suc (j + suc k)) (suc j + suc k) n (omega arith)

pub or_assoc : (a b c : Bool) → ((a || b) || c) ≡ (a || (b || c))
or_assoc true b c = refl
or_assoc false b c = refl

pub or_false : (a : Bool) → a ≡ (a || false)
or_false true = refl
or_false false = refl

-- ---- what was tried and not accepted
behind_nothing : (es later : List Event) → later ≡ tried_behind es [] later
behind_nothing [] later = refl
behind_nothing (e ∷ es) later = refl

pub tried_append : (h k : List Step) → tried_at_end (h ++ k) ≡ tried_behind (accepted k) (tried_at_end h) (tried_at_end k)
tried_append [] k = behind_nothing (accepted k) (tried_at_end k)
tried_append (x ∷ xs) k =
    ap (λ (es : List Event). tried_behind es (tried_by x) (tried_at_end (xs ++ k))) (accepted_append xs k)
    ∙ ap (tried_behind (accepted xs ++ accepted k) (tried_by x)) (tried_append xs k)
    ∙ behind_behind (accepted xs) (accepted k) (tried_by x) (tried_at_end xs) (tried_at_end k)

-- ---- the executor
pub same_itself : (s : ExecutorValue) → IsSameExecutor s s
same_itself s = record { lanes = refl; workers = λ count h. h }

same_then : (s t u : ExecutorValue) → IsSameExecutor s t → IsSameExecutor t u → IsSameExecutor s u
same_then s t u one two = record { lanes = two.lanes ∙ one.lanes; workers = λ count h. two.workers count (one.workers count h) }

pub works_then : (xs ys : List JobOrStop) (rs ts : List WorkerReport) (i j k m : ℕ) (s t u : ExecutorValue) → Works xs rs i k s t → Works ys ts j m t u → Works (xs ++ ys) (rs ++ ts) (i + j) (k + m) s u
works_then xs ys rs ts i j k m s t u one two = record {
  sent = two.sent ∙ ap (λ l. l ++ ys) one.sent ∙ append_assoc (has_sent s) xs ys;
  heard = two.heard ∙ ap (λ l. l ++ ts) one.heard ∙ append_assoc (has_heard s) rs ts;
  nones = two.nones ∙ ap (more j) one.nones ∙ more_then i j s.nones;
  waits = two.waits ∙ ap (more m) one.waits ∙ more_then k m s.waits;
  same = same_then s t u one.same two.same;
}

pub works_same : (xs ys : List JobOrStop) (rs ts : List WorkerReport) (i j k m : ℕ) (s t : ExecutorValue) → xs ≡ ys → rs ≡ ts → i ≡ j → k ≡ m → Works xs rs i k s t → Works ys ts j m s t
works_same xs ys rs ts i j k m s t x r p w was = record {
  sent = was.sent ∙ ap (λ l. has_sent s ++ l) x;
  heard = was.heard ∙ ap (λ l. has_heard s ++ l) r;
  nones = was.nones ∙ same_more i j s.nones p;
  waits = was.waits ∙ same_more k m s.waits w;
  same = was.same;
}

pub works_idle : (s : ExecutorValue) → Works [] [] 0 0 s s
works_idle s = record {
  sent = sym (append-nil (has_sent s));
  heard = sym (append-nil (has_heard s));
  nones = refl;
  waits = refl;
  same = same_itself s;
}

-- jobs were sent; no report was there; one was heard, and so often one was waited for
pub works_posted : {jobs : List JobOrStop} {s t : ExecutorValue} → has_sent t ≡ has_sent s ++ jobs → AsksNothing s t → IsSameExecutor s t → Works jobs [] 0 0 s t
works_posted {jobs} {s} {t} sent asks same = record {
  sent = sent;
  heard = asks.heard ∙ sym (append-nil (has_heard s));
  nones = asks.nones;
  waits = asks.waits;
  same = same;
}

pub works_none : {s t : ExecutorValue} → has_heard t ≡ has_heard s → t.nones ≡ one_more s.nones → t.waits ≡ s.waits → has_sent t ≡ has_sent s → IsSameExecutor s t → Works [] [] 1 0 s t
works_none {s} {t} heard nones waits sent same = record {
  sent = sent ∙ sym (append-nil (has_sent s));
  heard = heard ∙ sym (append-nil (has_heard s));
  nones = nones;
  waits = waits;
  same = same;
}

pub works_heard : (sleeps : ℕ) {told : WorkerReport} {s t : ExecutorValue} → has_heard t ≡ has_heard s ++ told ∷ [] → t.nones ≡ s.nones → t.waits ≡ more sleeps s.waits → has_sent t ≡ has_sent s → IsSameExecutor s t
    → Works [] (told ∷ []) 0 sleeps s t
works_heard sleeps {told} {s} {t} heard nones waits sent same = record {
  sent = sent ∙ sym (append-nil (has_sent s));
  heard = heard;
  nones = nones;
  waits = waits;
  same = same;
}
