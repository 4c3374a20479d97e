-- Minutes that grow by an event.
use Rattle.std.proofs.Common.{◌≡◌, ◌∙◌, ℕ, ◌<◌, true, false, cond, List, [], ◌∷◌, ◌++◌, length, map, None, refl, sym, ap, arith, append_assoc, append-nil}
use Rattle.std.proofs.lemmas.List.Elements.{All-append, All-cons, All-nil}
use Rattle.sched_events.specs.Causes.{refused}
use Rattle.sched_events.specs.Events.{IsInRange}
use Rattle.sched_events.specs.Steps.{step, steps, answer_to, handed_along, AreAccepted}
use Rattle.sched_events.specs.declared.answers.Answer.{Answer}
use Rattle.sched_events.specs.declared.events.Event.{Event}
use Rattle.sched_model.specs.Schedule.{Schedule}
use Rattle.minutes.specs.Minutes.{along, answered, is_of_line, is_restart, of_lines, report_part, reports_in, BeginWithRestart}

pub steps_more : (es : List Event) (e : Event) (a : Schedule) → steps (es ++ e ∷ []) a ≡ step e (steps es a)
steps_more [] e a = refl
steps_more (x ∷ xs) e a = steps_more xs e (step x a)

pub accepted_more : (es : List Event) (e : Event) (a : Schedule) → AreAccepted es a → IsInRange e → refused (steps es a) e ≡ None → AreAccepted (es ++ e ∷ []) a
accepted_more [] e a before ranged accepted = (ranged, accepted, tt)
accepted_more (x ∷ xs) e a before ranged accepted = (before.0, before.1, accepted_more xs e (step x a) before.2 ranged accepted)

-- what is said along a list grows by what is said of the last event
pub along_more : {B : Type 0} (f : Event → Schedule → List B) (es : List Event) (e : Event) (a : Schedule) → along f (es ++ e ∷ []) a ≡ along f es a ++ f e (steps es a)
along_more f [] e a = append-nil (f e a)
along_more f (x ∷ xs) e a = ap (λ l. f x a ++ l) (along_more f xs e (step x a)) ∙ sym (append_assoc (f x a) (along f xs (step x a)) (f e (steps xs (step x a))))

pub handed_more : (es : List Event) (e : Event) (a : Schedule) → handed_along (es ++ e ∷ []) a ≡ handed_along es a ++ (answer_to e (steps es a)).jobs
handed_more [] e a = append-nil (answer_to e a).jobs
handed_more (x ∷ xs) e a =
    ap (λ l. (answer_to x a).jobs ++ l) (handed_more xs e (step x a)) ∙ sym (append_assoc (answer_to x a).jobs (handed_along xs (step x a)) (answer_to e (steps xs (step x a))).jobs)

pub reports_more : (es : List Event) (e : Event) → reports_in (es ++ e ∷ []) ≡ reports_in es ++ report_part e
reports_more [] e = append-nil (report_part e)
reports_more (x ∷ xs) e = ap (λ l. report_part x ++ l) (reports_more xs e) ∙ sym (append_assoc (report_part x) (reports_in xs) (report_part e))

pub begun_more : (lanes : ℕ) (es : List Event) (e : Event) → 0 < length es → is_restart e ≡ false → BeginWithRestart lanes es → BeginWithRestart lanes (es ++ e ∷ [])
begun_more lanes [] e some later begun = absurd (omega arith)
begun_more lanes (x ∷ xs) e some later begun =
    (begun.0, All-append (λ (y : Event). is_restart y ≡ false) xs (e ∷ []) begun.1 (All-cons (λ (y : Event). is_restart y ≡ false) e [] later (All-nil (λ (y : Event). is_restart y ≡ false))))

-- the events among those that are answered
pub answered_lines : (es : List Event) (a : Schedule) → map (λ p. p.0) (answered es a) ≡ of_lines es
answered_lines [] a = refl
answered_lines (e ∷ es) a = elim (is_of_line e) as (λ b. (let here : List (Event × Answer) = cond b ((e, answer_to e a) ∷ []) [] in map (λ p. p.0) (here ++ answered es (step e a)) ≡ cond b (e ∷ of_lines es) (of_lines es))) [
  | true ↦ ap (λ l. e ∷ l) (answered_lines es (step e a))
  | false ↦ answered_lines es (step e a)
]
