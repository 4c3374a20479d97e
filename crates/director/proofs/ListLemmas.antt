-- Lists of events, each answered.
use Rattle.std.proofs.Common.{◌≡◌, ◌∙◌, ℕ, ◌+◌, ◌<◌, ◌≤◌, inl, inr, List, [], ◌∷◌, ◌++◌, take, length, get_or, Result, Ok, Err, IfOk, IfErr, OnErr, IsTrue, refl, sym, ap, subst, arith}
use Rattle.std.proofs.lemmas.List.{take_more}
use Rattle.std.specs.Prelude.{⊤}
use Rattle.sqlite.specs.State.{State, HasCleanDisk, Survives}
use Rattle.sqlite.specs.Tree.{Trees}
use Rattle.sqlite.proofs.StateLemmas.{survives_then, survives_weaker}
use Rattle.meta_store.specs.Stores.{CommitsBy, IsAsBefore}
use Rattle.meta_store.specs.Transactions.{Transacts, Undone}
use Rattle.sched_model.specs.Schedule.{Schedule}
use Rattle.sched_events.specs.Outcomes.{IsStepped}
use Rattle.sched_events.specs.Steps.{steps, AreAccepted}
use Rattle.sched_events.specs.declared.answers.Answer.{Answer}
use Rattle.sched_events.specs.declared.events.Event.{Event}
use Rattle.director.specs.Directors.{Keeps, Follows, StaysOpen, StepsIn}
use Rattle.director.specs.Faults.{IsFaultOf}
use Rattle.director.specs.Lists.{IsOutcome, Answers, accepted}
use Rattle.director.specs.declared.faults.Fault.{Fault}

push : (a m b : Schedule) (es : List Event) (rs : List (Result Answer Fault)) (e : Event) (r : Result Answer Fault) → Answers a es rs m → IsOutcome m e r b → Answers a (es ++ e ∷ []) (rs ++ r ∷ []) b
push a m b [] [] e r h o = (b, subst (λ (k : Schedule). IsOutcome k e r b) h o, refl)
push a m b (x ∷ es) (y ∷ rs) e r h o = (h.0, h.1, push h.0 m b es rs e r h.2 o)
push a m b [] (y ∷ rs) e r h o = absurd h
push a m b (x ∷ es) [] e r h o = absurd h

-- one event more is answered
pub answers_more : (a m b : Schedule) (es : List Event) (rs : List (Result Answer Fault)) (i : ℕ) (e : Event) (r : Result Answer Fault) → i < length es → e ≡ get_or es i e → Answers a (take i es) rs m → IsOutcome m e r b
    → Answers a (take (i + 1) es) (rs ++ r ∷ []) b
answers_more a m b es rs i e r inside is h o =
    subst (λ (xs : List Event). Answers a xs (rs ++ r ∷ []) b)
    (sym (take_more es i e inside ∙ ap (λ (x : Event). take i es ++ x ∷ []) (sym is)))
    (push a m b (take i es) rs e r h o)

-- the same over a list that is equal
pub answers_here : (a m b : Schedule) (es ys : List Event) (rs : List (Result Answer Fault)) (i : ℕ) (e : Event) (r : Result Answer Fault) → ys ≡ es → i < length ys → e ≡ get_or ys i e → Answers a (take i es) rs m
    → IsOutcome m e r b → Answers a (take (i + 1) es) (rs ++ r ∷ []) b
answers_here a m b es ys rs i e r same inside is h o =
    answers_more a m b es rs i e r (subst (λ (xs : List Event). i < length xs) same inside) (subst (λ (xs : List Event). e ≡ get_or xs i e) same is) h o

pub answers_step : (a b : Schedule) (es : List Event) (rs : List (Result Answer Fault)) → Answers a es rs b → b ≡ steps (accepted es rs) a
answers_step a b [] [] h = h
answers_step a b (e ∷ es) (Ok w ∷ rs) h = answers_step h.0 b es rs h.2 ∙ ap (steps (accepted es rs)) h.1.after
answers_step a b (e ∷ es) (Err f ∷ rs) h = answers_step h.0 b es rs h.2 ∙ ap (steps (accepted es rs)) h.1.1
answers_step a b [] (r ∷ rs) h = absurd h
answers_step a b (e ∷ es) [] h = absurd h

pub answers_accept : (a b : Schedule) (es : List Event) (rs : List (Result Answer Fault)) → Answers a es rs b → AreAccepted (accepted es rs) a
answers_accept a b [] [] h = tt
answers_accept a b (e ∷ es) (Ok w ∷ rs) h = (h.1.ranged, h.1.accepted, subst (AreAccepted (accepted es rs)) h.1.after (answers_accept h.0 b es rs h.2))
answers_accept a b (e ∷ es) (Err f ∷ rs) h = subst (AreAccepted (accepted es rs)) h.1.1 (answers_accept h.0 b es rs h.2)
answers_accept a b [] (r ∷ rs) h = absurd h
answers_accept a b (e ∷ es) [] h = absurd h

-- ---- one event
pub outcome_is : (a : Schedule) (e : Event) (r : Result Answer Fault) (b : Schedule) → IfOk r (IsStepped a e b) → OnErr r (b ≡ a) → IfErr r (IsFaultOf a e) → IsOutcome a e r b
outcome_is a e (Ok w) b stepped same fault = stepped
outcome_is a e (Err f) b stepped same fault = (fault, same)

-- ---- the record follows the schedule
pub survives_itself : {P : Trees → Type 0} (s : State) → Survives s s P
survives_itself s = record { clean = omega arith; shield = λ h. h; counts = omega arith; limit = refl; closes = λ _ h. inl h; crash = λ _ _ h. inl h }

-- a call that changed nothing, of which a crash leaves what it could
pub nothing_done : (C : Trees → Type 0) (s : State) → Undone IsAsBefore C s s
nothing_done C s = record { kept = λ _ _. (refl, refl); was_open = λ _ h. h; crash = survives_itself s }

pub follows_itself : (a : Schedule) (s : State) → Follows a s a s
follows_itself a s = record {
  survives = survives_itself s;
  was_open = λ _ h. h;
  stored = λ _ _ h. h;
}

pub was_clean : (a b : Schedule) (s t : State) → Follows a s b t → HasCleanDisk t → HasCleanDisk s
was_clean a b s t follows clean = omega (arith, follows.survives.clean, clean)

pub follows_then : (a b c : Schedule) (s t u : State) → Follows a s b t → Follows b t c u → Follows a s c u
follows_then a b c s t u one two = record {
  survives = survives_then s t u (λ _. ⊤) (λ _. ⊤) (λ _. ⊤) (λ _ _ h. h) (λ _ _ h. h) one.survives two.survives;
  was_open = λ h is_open. one.was_open (was_clean b c t u two h) (two.was_open h is_open);
  stored = λ h is_open keeps. two.stored h is_open (one.stored (was_clean b c t u two h) (two.was_open h is_open) keeps);
}

-- one that was open before, with no fewer faults than an earlier one
pub stays_open : (a b : Schedule) (first s t : State) → first.faults ≤ s.faults → (HasCleanDisk s → IsTrue s.is_open) → Follows a s b t → StaysOpen first t
stays_open a b first s t more was_open follows clean = elim (follows.survives.closes clean (was_open (was_clean a b s t follows clean))) [
  | inl still ↦ inl still
  | inr fault ↦ inr (omega (arith, more, fault))
]

-- over one event
pub follows_step : (a b : Schedule) (e : Event) (r : Result Answer Fault) (s t : State) → Transacts (StepsIn e a) s t r → IsOutcome a e r b → Follows a s b t
follows_step a b e (Ok w) s t made stepped = record {
  survives = survives_weaker s t (CommitsBy (StepsIn e a) s) (λ _. ⊤) (λ _ _ _. tt) made.crash;
  was_open = λ h is_open. (made.is_open h).0;
  stored = λ h is_open keeps. subst (λ (x : Schedule). Keeps x t.now) (sym stepped.after) (made.stored h keeps).0;
}
follows_step a b e (Err f) s t made refused = record {
  survives = survives_weaker s t (CommitsBy (StepsIn e a) s) (λ _. ⊤) (λ _ _ _. tt) made.crash;
  was_open = made.was_open;
  stored = λ h is_open keeps. subst (λ (x : Schedule). Keeps x t.now) (sym refused.1) (subst (Keeps a) (sym (made.kept h is_open).0) keeps);
}
