-- What a history says of its events.
use Rattle.std.proofs.Common.{◌≡◌, ◌∙◌, ℕ, ◌+◌, ◌<◌, Bool, true, false, true≢false, ◌||◌, cond, List, [], ◌∷◌, ◌++◌, length, map, All, None, Result, Ok, Err, OnErr, refl, sym, ap, subst, arith, append_assoc, append-nil, length-append}
use Rattle.std.specs.Prelude.{sum_by}
use Rattle.std.proofs.lemmas.Grind.{flat_map-append}
use Rattle.std.proofs.lemmas.List.{map-append}
use Rattle.std.proofs.lemmas.List.Sums.{sum_by-append, sum_by-cons}
use Rattle.std.proofs.lemmas.List.Elements.{All-append, All-cons, All-nil, All-head, All-tail}
use Rattle.ruled_dispatch.specs.declared.items.Report.{Report as WorkReport}
use Rattle.ruled_dispatch.specs.declared.items.WorkerReport.{WorkerReport}
use Rattle.sched_events.specs.Steps.{step, steps, answer_to, AreAccepted}
use Rattle.sched_events.specs.declared.answers.Answer.{Answer}
use Rattle.sched_events.specs.declared.events.Event.{Event}
use Rattle.sched_events.specs.declared.events.Event.TheVariants.{Report, Restart}
use Rattle.sched_events.proofs.StepLemmas.{steps_parts}
use Rattle.sched_model.specs.Schedule.{Schedule}
use Rattle.director.specs.Faults.{IsFaultOfStore}
use Rattle.director.specs.Leaves.{accepted_in}
use Rattle.director.specs.declared.faults.Fault.{Fault}
use Rattle.minutes.specs.Minutes.{along, answered, answered_part, is_of_line, is_restart, report_part, reports_in, BeginWithRestart}
use Rattle.sessions.specs.History.{accepted, any_missed, events_in, heard_by, heard_in, is_missed, is_polled, is_restarted, missed_by, missed_in, nones_by, nones_in, told_by, told_in, tries_in, waits_by, waits_in, ArePolled, AreRight, CameTo, IsRight, Asked, Looked, NoneThere, Reported, Restarted, Step, Told}

-- ---- each was accepted
accepted_parts : (es fs : List Event) (a : Schedule) → AreAccepted es a → AreAccepted fs (steps es a) → AreAccepted (es ++ fs) a
accepted_parts [] fs a one two = two
accepted_parts (e ∷ es) fs a one two = (one.0, one.1, accepted_parts es fs (step e a) one.2 two)

came_accepted : (e : Event) (came : Result Answer Fault) (a : Schedule) → CameTo a e came → AreAccepted (accepted_in e came) a
came_accepted e (Ok answer) a h = (h.0, h.1, tt)
came_accepted e (Err fault) a h = tt

accepted_one : (x : Step) (a : Schedule) → IsRight x a → AreAccepted (events_in x) a
accepted_one (Restarted lanes faults came) a h = came_accepted (Restart lanes) came a h.0
accepted_one (Told e came) a h = came_accepted e came a h.1
accepted_one (Reported waited t faults came) a h = came_accepted (Report t.report.serial t.report.stage) came a h.0
accepted_one NoneThere a h = tt
accepted_one (Looked b) a h = tt
accepted_one (Asked b reading) a h = tt

pub right_accepted : (h : List Step) (a : Schedule) → AreRight h a → AreAccepted (accepted h) a
right_accepted [] a right = tt
right_accepted (x ∷ xs) a right = accepted_parts (events_in x) (accepted xs) a (accepted_one x a right.0) (right_accepted xs (steps (events_in x) a) right.1)

-- ---- those of lines were told
along_parts : {B : Type 0} (f : Event → Schedule → List B) (es fs : List Event) (a : Schedule) → along f (es ++ fs) a ≡ along f es a ++ along f fs (steps es a)
along_parts f [] fs a = refl
along_parts f (e ∷ es) fs a = ap (λ l. f e a ++ l) (along_parts f es fs (step e a)) ∙ sym (append_assoc (f e a) (along f es (step e a)) (along f fs (steps es (step e a))))

line_answered : (e : Event) (a : Schedule) → is_of_line e ≡ true → answered (e ∷ []) a ≡ (e, answer_to e a) ∷ []
line_answered e a is = ap (λ b. let here : List (Event × Answer) = cond b ((e, answer_to e a) ∷ []) [] in here ++ []) is

answered_one : (x : Step) (a : Schedule) → IsRight x a → answered (events_in x) a ≡ told_by x
answered_one (Restarted lanes faults (Ok answer)) a h = refl
answered_one (Restarted lanes faults (Err fault)) a h = refl
answered_one (Told e (Ok answer)) a h = line_answered e a h.0 ∙ ap (λ (w : Answer). (e, w) ∷ []) (sym h.1.2)
answered_one (Told e (Err fault)) a h = refl
answered_one (Reported waited t faults (Ok answer)) a h = refl
answered_one (Reported waited t faults (Err fault)) a h = refl
answered_one NoneThere a h = refl
answered_one (Looked b) a h = refl
answered_one (Asked b reading) a h = refl

pub right_answered : (h : List Step) (a : Schedule) → AreRight h a → answered (accepted h) a ≡ told_in h
right_answered [] a right = refl
right_answered (x ∷ xs) a right =
    along_parts answered_part (events_in x) (accepted xs) a ∙ ap (λ l. l ++ answered (accepted xs) (steps (events_in x) a)) (answered_one x a right.0)
    ∙ ap (λ l. told_by x ++ l) (right_answered xs (steps (events_in x) a) right.1)

-- ---- the reports among them were heard
line_reports : (e : Event) → is_of_line e ≡ true → report_part e ≡ []
line_reports (Report serial stage) is = absurd (true≢false (sym is))
line_reports _ is = refl

-- none of a line is a report
told_reports : (e : Event) (came : Result Answer Fault) → is_of_line e ≡ true → reports_in (accepted_in e came) ≡ []
told_reports e (Ok answer) is = ap (λ l. l ++ []) (line_reports e is)
told_reports e (Err fault) is = refl

heard_one : (x : Step) (a : Schedule) (weight : WorkReport → ℕ) → IsRight x a
    → sum_by weight (map (λ (t : WorkerReport). t.report) (heard_by x)) ≡ sum_by weight (reports_in (events_in x)) + sum_by weight (missed_by x)
heard_one (Restarted lanes faults (Ok answer)) a weight h = refl
heard_one (Restarted lanes faults (Err fault)) a weight h = refl
heard_one (Told e came) a weight h = ap (λ (l : List WorkReport). sum_by weight l + 0) (sym (told_reports e came h.0))
heard_one (Reported waited t faults (Ok answer)) a weight h = omega arith
heard_one (Reported waited t faults (Err fault)) a weight h = omega arith
heard_one NoneThere a weight h = refl
heard_one (Looked b) a weight h = refl
heard_one (Asked b reading) a weight h = refl

pub right_heard : (h : List Step) (a : Schedule) (weight : WorkReport → ℕ) → AreRight h a
    → sum_by weight (map (λ (t : WorkerReport). t.report) (heard_in h)) ≡ sum_by weight (reports_in (accepted h)) + sum_by weight (missed_in h)
right_heard [] a weight right = refl
right_heard (x ∷ xs) a weight right =
    let one : sum_by weight (map (λ (t : WorkerReport). t.report) (heard_by x)) ≡ sum_by weight (reports_in (events_in x)) + sum_by weight (missed_by x) = heard_one x a weight right.0 in
    let rest : sum_by weight (map (λ (t : WorkerReport). t.report) (heard_in xs)) ≡ sum_by weight (reports_in (accepted xs)) + sum_by weight (missed_in xs) = right_heard xs (steps (events_in x) a) weight right.1 in
    let heard : sum_by weight (map (λ (t : WorkerReport). t.report) (heard_by x ++ heard_in xs)) ≡ sum_by weight (map (λ (t : WorkerReport). t.report) (heard_by x)) + sum_by weight (map (λ (t : WorkerReport). t.report) (heard_in xs)) =
    ap (sum_by weight) (map-append (λ (t : WorkerReport). t.report) (heard_by x) (heard_in xs)) ∙ sum_by-append weight (map (λ (t : WorkerReport). t.report) (heard_by x)) (map (λ (t : WorkerReport). t.report) (heard_in xs)) in
    let said : sum_by weight (reports_in (events_in x ++ accepted xs)) ≡ sum_by weight (reports_in (events_in x)) + sum_by weight (reports_in (accepted xs)) =
    ap (sum_by weight) (flat_map-append report_part (events_in x) (accepted xs)) ∙ sum_by-append weight (reports_in (events_in x)) (reports_in (accepted xs)) in
    let missed : sum_by weight (missed_by x ++ missed_in xs) ≡ sum_by weight (missed_by x) + sum_by weight (missed_in xs) = sum_by-append weight (missed_by x) (missed_in xs) in
    omega arith

or_left : (a b : Bool) → (a || b) ≡ false → a ≡ false
or_left false b is = refl
or_left true b is = is

or_right : (a b : Bool) → (a || b) ≡ false → b ≡ false
or_right false b is = is
or_right true b is = absurd (true≢false is)

ordered_one : (x : Step) (a : Schedule) → IsRight x a → is_missed x ≡ false → map (λ (t : WorkerReport). t.report) (heard_by x) ≡ reports_in (events_in x)
ordered_one (Restarted lanes faults (Ok answer)) a h is = refl
ordered_one (Restarted lanes faults (Err fault)) a h is = refl
ordered_one (Told e came) a h is = sym (told_reports e came h.0)
ordered_one (Reported waited t faults (Ok answer)) a h is = refl
ordered_one (Reported waited t faults (Err fault)) a h is = absurd (true≢false is)
ordered_one NoneThere a h is = refl
ordered_one (Looked b) a h is = refl
ordered_one (Asked b reading) a h is = refl

pub right_ordered : (h : List Step) (a : Schedule) → AreRight h a → any_missed h ≡ false → map (λ (t : WorkerReport). t.report) (heard_in h) ≡ reports_in (accepted h)
right_ordered [] a right is = refl
right_ordered (x ∷ xs) a right is =
    map-append (λ (t : WorkerReport). t.report) (heard_by x) (heard_in xs)
    ∙ ap (λ l. l ++ map (λ (t : WorkerReport). t.report) (heard_in xs)) (ordered_one x a right.0 (or_left (is_missed x) (any_missed xs) is))
    ∙ ap (λ l. reports_in (events_in x) ++ l) (right_ordered xs (steps (events_in x) a) right.1 (or_right (is_missed x) (any_missed xs) is))
    ∙ sym (flat_map-append report_part (events_in x) (accepted xs))

pub any_is_missed : (h : List Step) → any_missed h ≡ true → 0 < length (missed_in h)
any_is_missed [] is = absurd (true≢false (sym is))
any_is_missed (Reported waited t faults (Err fault) ∷ xs) is = omega arith
any_is_missed (Reported waited t faults (Ok answer) ∷ xs) is = any_is_missed xs is
any_is_missed (Restarted lanes faults came ∷ xs) is = any_is_missed xs is
any_is_missed (Told e came ∷ xs) is = any_is_missed xs is
any_is_missed (NoneThere ∷ xs) is = any_is_missed xs is
any_is_missed (Looked b ∷ xs) is = any_is_missed xs is
any_is_missed (Asked b reading ∷ xs) is = any_is_missed xs is

-- ---- the restart is the first
line_later : (e : Event) → is_of_line e ≡ true → is_restart e ≡ false
line_later (Restart lanes) is = absurd (true≢false (sym is))
line_later _ is = refl

came_later : (e : Event) (came : Result Answer Fault) → is_restart e ≡ false → All (λ y. is_restart y ≡ false) (accepted_in e came)
came_later e (Ok answer) is = All-cons (λ (y : Event). is_restart y ≡ false) e [] is (All-nil (λ (y : Event). is_restart y ≡ false))
came_later e (Err fault) is = All-nil (λ (y : Event). is_restart y ≡ false)

later_one : (x : Step) (a : Schedule) → IsRight x a → is_restarted x ≡ false → All (λ y. is_restart y ≡ false) (events_in x)
later_one (Restarted lanes faults came) a h is = absurd (true≢false is)
later_one (Told e came) a h is = came_later e came (line_later e h.0)
later_one (Reported waited t faults came) a h is = came_later (Report t.report.serial t.report.stage) came refl
later_one NoneThere a h is = All-nil (λ (y : Event). is_restart y ≡ false)
later_one (Looked b) a h is = All-nil (λ (y : Event). is_restart y ≡ false)
later_one (Asked b reading) a h is = All-nil (λ (y : Event). is_restart y ≡ false)

right_later : (h : List Step) (a : Schedule) → AreRight h a → All (λ x. is_restarted x ≡ false) h → All (λ y. is_restart y ≡ false) (accepted h)
right_later [] a right are = All-nil (λ (y : Event). is_restart y ≡ false)
right_later (x ∷ xs) a right are =
    All-append (λ (y : Event). is_restart y ≡ false) (events_in x) (accepted xs) (later_one x a right.0 (All-head (λ (y : Step). is_restarted y ≡ false) x xs are))
    (right_later xs (steps (events_in x) a) right.1 (All-tail (λ (y : Step). is_restarted y ≡ false) x xs are))

pub right_begun : (lanes : ℕ) (faults : List Fault) (came : Result Answer Fault) (h : List Step) (a : Schedule) → AreRight (Restarted lanes faults came ∷ h) a → OnErr came (h ≡ []) → All (λ x. is_restarted x ≡ false) h
    → BeginWithRestart lanes (accepted (Restarted lanes faults came ∷ h))
right_begun lanes faults (Ok answer) h a right none are = (refl, right_later h (steps (Restart lanes ∷ []) a) right.1 are)
right_begun lanes faults (Err fault) h a right none are = subst (λ (k : List Step). BeginWithRestart lanes (accepted k)) (sym none) tt

-- ---- in parts
pub right_apart : (h k : List Step) (a : Schedule) → AreRight (h ++ k) a → AreRight h a × AreRight k (steps (accepted h) a)
right_apart [] k a right = (tt, right)
right_apart (x ∷ xs) k a right =
    let rest = right_apart xs k (steps (events_in x) a) right.1 in
    ((right.0, rest.0), subst (AreRight k) (sym (steps_parts (events_in x) (accepted xs) a)) rest.1)

-- ---- counts
polled_nones : (x : Step) → is_polled x ≡ true → nones_by x ≡ 0
polled_nones (Reported waited t faults came) is = refl
polled_nones NoneThere is = absurd (true≢false (sym is))
polled_nones (Looked b) is = refl
polled_nones (Restarted lanes faults came) is = refl
polled_nones (Told e came) is = refl
polled_nones (Asked b reading) is = refl

polled_waits : (x : Step) → is_polled x ≡ true → waits_by x ≡ 0
polled_waits (Reported false t faults came) is = refl
polled_waits (Reported true t faults came) is = absurd (true≢false (sym is))
polled_waits NoneThere is = refl
polled_waits (Looked b) is = refl
polled_waits (Restarted lanes faults came) is = refl
polled_waits (Told e came) is = refl
polled_waits (Asked b reading) is = refl

-- what is nothing of each is nothing of all
sum_none : (f : Step → ℕ) → ((x : Step) → is_polled x ≡ true → f x ≡ 0) → (h : List Step) → All (λ x. is_polled x ≡ true) h → sum_by f h ≡ 0
sum_none f each [] are = refl
sum_none f each (x ∷ xs) are =
    let one : f x ≡ 0 = each x (All-head (λ (y : Step). is_polled y ≡ true) x xs are) in
    let rest : sum_by f xs ≡ 0 = sum_none f each xs (All-tail (λ (y : Step). is_polled y ≡ true) x xs are) in
    omega (arith, sum_by-cons f x xs)

pub polled_counts : (h : List Step) → ArePolled h → (nones_in h ≡ 1) × (waits_in h ≡ 0)
polled_counts h polled =
    let nones : sum_by nones_by polled.0 ≡ 0 = sum_none nones_by polled_nones polled.0 polled.1 in
    let waits : sum_by waits_by polled.0 ≡ 0 = sum_none waits_by polled_waits polled.0 polled.1 in
    let one : sum_by nones_by (NoneThere ∷ []) ≡ 1 = refl in
    let none : sum_by waits_by (NoneThere ∷ []) ≡ 0 = refl in
    let all_nones : nones_in h ≡ sum_by nones_by polled.0 + sum_by nones_by (NoneThere ∷ []) = ap (sum_by nones_by) polled.2 ∙ sum_by-append nones_by polled.0 (NoneThere ∷ []) in
    let all_waits : waits_in h ≡ sum_by waits_by polled.0 + sum_by waits_by (NoneThere ∷ []) = ap (sum_by waits_by) polled.2 ∙ sum_by-append waits_by polled.0 (NoneThere ∷ []) in
    (omega arith, omega arith)

pub report_thrice : (waited : Bool) (t : WorkerReport) (faults : List Fault) (fault : Fault) (a : Schedule) → IsRight (Reported waited t faults (Err fault)) a → IsFaultOfStore fault
    → tries_in (Reported waited t faults (Err fault) ∷ []) ≡ 3
report_thrice waited t faults fault a right stores = let two : length faults ≡ 2 = right.1.2 stores in omega arith
