-- One event, done to a schedule and to its record.
use Rattle.std.proofs.Common.{◌≡◌, ◌∙◌, None, inl, inr, sym, subst, Result, Ok, Err, IfOk, IfErr, OnOk}
use Rattle.std.specs.Result.{IsErrAnd}
use Rattle.std.proofs.lemmas.Result.{err_from_is_err_and}
use Rattle.meta_store.specs.Faults.{IsOfSqlite}
use Rattle.meta_store.specs.Schedules.{IsPlanned, Planned}
use Rattle.meta_store.specs.declared.faults.StoreFault.{StoreFault}
use Rattle.meta_store.specs.declared.faults.StoreFault.TheVariants as store
use Rattle.sched_events.specs.Causes.{refused}
use Rattle.sched_events.specs.Events.{IsInRange}
use Rattle.sched_events.specs.Outcomes.{IsStepped}
use Rattle.sched_events.specs.Promises.{KeepsPromises}
use Rattle.sched_events.specs.SettledAndSound.{IsSoundAndSaid}
use Rattle.sched_events.specs.Steps.{step}
use Rattle.sched_events.specs.declared.answers.Answer.{Answer}
use Rattle.sched_events.specs.declared.events.Event.{Event}
use Rattle.sched_model.specs.Schedule.{Schedule}
use Rattle.director.specs.Faults.{IsOfStore, IsFaultOf, IsFaultOfStore, IsRefused}
use Rattle.director.specs.declared.faults.Fault.{Fault}
use Rattle.director.specs.declared.faults.Fault.TheVariants.{Refused, Store, Memory}

-- ---- faults
-- the fault that a fault of the store is
of_store : (s : StoreFault) (f : Fault) → IsOfSqlite s → IsOfStore s f → IsFaultOfStore f
of_store s f (inl memory) (inl (m, is)) = subst IsFaultOfStore (sym is) tt
of_store s f (inl memory) (inr (other, is)) = absurd (other memory)
of_store s f (inr (error, not_memory, refused)) (inl (m, is)) = absurd (let g : store.Refused error ≡ store.Memory = sym refused ∙ m in cc)
of_store s f (inr (error, not_memory, refused)) (inr (other, is)) = subst IsFaultOfStore (sym is) (error, not_memory, refused)

pub store_fails : {T : Type 0} (s : StoreFault) (r : Result T Fault) → IsOfSqlite s → IsErrAnd r (IsOfStore s) → IfErr r IsFaultOfStore
store_fails {T} s r of told =
    let p = err_from_is_err_and r told in
    subst (λ (x : Result T Fault). IfErr x IsFaultOfStore) (sym p.1) (of_store s p.0 of p.2)

-- what stands against the step of an event, where it was planned
pub stands_against : {T : Type 0} (a : Schedule) (e : Event) (r : Result T Fault) → refused a e ≡ None → IfErr r IsFaultOfStore → IfErr r (IsFaultOf a e)
stands_against a e (Ok x) none h = tt
stands_against a e (Err (Refused f)) none h = absurd h
stands_against a e (Err (Store f)) none h = (none, h)
stands_against a e (Err Memory) none h = tt

-- it is no refusal of the event
pub is_no_refusal : {T : Type 0} (P : Type 0) (r : Result T Fault) → IfErr r IsFaultOfStore → IfErr r (λ f. IsRefused f → P)
is_no_refusal P (Ok x) h = tt
is_no_refusal P (Err (Refused f)) h = absurd h
is_no_refusal P (Err (Store f)) h = λ never. absurd never
is_no_refusal P (Err Memory) h = λ never. absurd never

-- ---- a planned change that was kept
pub is_stepped : (a b : Schedule) (e : Event) (c : Planned) (r : Result Answer Fault) → IsPlanned a e c → IfOk r (λ (x : Answer). x ≡ c.answer) → OnOk r (b ≡ c.after) → IfOk r (IsStepped a e b)
is_stepped a b e c (Ok x) planned answer after = record { ranged = planned.ranged; accepted = planned.accepted; after = after ∙ planned.after; answer = answer ∙ planned.answer }
is_stepped a b e c (Err f) planned answer after = tt

pub keeps_promises : (a b : Schedule) (e : Event) (c : Planned) (r : Result Answer Fault) → IsPlanned a e c → IsSoundAndSaid a → OnOk r (b ≡ c.after)
    → (IsInRange e → refused a e ≡ None → IsSoundAndSaid a → KeepsPromises e a (step e a)) → OnOk r (KeepsPromises e a b)
keeps_promises a b e c (Ok x) planned sound after law = subst (KeepsPromises e a) (sym (after ∙ planned.after)) (law planned.ranged planned.accepted sound)
keeps_promises a b e c (Err f) planned sound after law = tt
