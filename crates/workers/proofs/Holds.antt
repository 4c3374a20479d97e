-- A hold that was entered last is the one that is left, and the others stay.
use Rattle.std.proofs.Common.{◌≡◌, ℕ, zero, suc, ◌<◌, ◌==◌, ◌||◌, not, Bool, true, false, true≢false, List, [], ◌∷◌, ◌++◌, length, get_or, cond, eq-eqb, sym, refl, ap, ◌∙◌, subst, arith}
use Rattle.std.specs.List.{Contains}
use Rattle.sched_state.specs.declared.jobs.Job.{Job}
use Rattle.slot_desk.specs.declared.holds.Hold.{Hold}
use Rattle.slot_desk.specs.Holds.{has_serial, without}
use Rattle.workers.specs.Logs.{hold_of}

or_left : (a b : Bool) → (a || b) ≡ false → a ≡ false
or_left true b e = e
or_left false b e = refl

or_right : (a b : Bool) → (a || b) ≡ false → b ≡ false
or_right true b e = absurd (true≢false e)
or_right false b e = e

kept : (b : Bool) (x : Hold) (rest : List Hold) → b ≡ false → cond (not b) (x ∷ rest) rest ≡ x ∷ rest
kept true x rest e = absurd (true≢false e)
kept false x rest e = refl

dropped : (b : Bool) (x : Hold) (rest : List Hold) → b ≡ true → cond (not b) (x ∷ rest) rest ≡ rest
dropped true x rest e = refl
dropped false x rest e = absurd (true≢false (sym e))

-- what is left is what was there before it was entered
without_last : (s : ℕ) (hs : List Hold) (h : Hold) → has_serial s hs ≡ false → h.serial ≡ s → without s (hs ++ h ∷ []) ≡ hs
without_last s [] h new is = dropped (h.serial == s) h [] (eq-eqb h.serial s is)
without_last s (x ∷ xs) h new is =
    kept (x.serial == s) x (without s (xs ++ h ∷ [])) (or_left (x.serial == s) (has_serial s xs) new)
    ∙ ap (λ (t : List Hold). x ∷ t) (without_last s xs h (or_right (x.serial == s) (has_serial s xs) new) is)

at : (s : ℕ) (hs : List Hold) (h d : Hold) (k : ℕ) → has_serial s hs ≡ false → k < length (hs ++ h ∷ []) → (get_or (hs ++ h ∷ []) k d).serial ≡ s → get_or (hs ++ h ∷ []) k d ≡ h
at s [] h d zero new below is = refl
at s [] h d (suc k) new below is = absurd (omega arith)
at s (x ∷ xs) h d zero new below is = absurd (true≢false (sym (eq-eqb x.serial s is) ∙ or_left (x.serial == s) (has_serial s xs) new))
at s (x ∷ xs) h d (suc k) new below is = at s xs h d k (or_right (x.serial == s) (has_serial s xs) new) (omega arith) is

-- it is the one of its serial
is_last : (s : ℕ) (hs : List Hold) (h out : Hold) → has_serial s hs ≡ false → Contains (hs ++ h ∷ []) out → out.serial ≡ s → out ≡ h
is_last s hs h out new there is = sym there.2 ∙ at s hs h out there.0 new there.1 (ap (λ (x : Hold). x.serial) there.2 ∙ is)

-- Of a job that is named otherwise on its way: what was left of it is what it takes, and the share is what it was.
pub there_and_gone : {held first entered performed last : List Hold} {job started done : Job} {out : Hold}
    → first ≡ held → started ≡ job → done ≡ job → entered ≡ first ++ hold_of started ∷ [] → has_serial started.serial first ≡ false → performed ≡ entered
    → out.serial ≡ done.serial → Contains performed out → last ≡ without done.serial performed
    → (last ≡ held) × (out ≡ hold_of job)
there_and_gone {held} {first} {entered} {performed} {last} {job} {started} {done} {out} is_first is_started is_done enters is_new same serial there leaves =
    let new : has_serial job.serial held ≡ false = ap (λ (j : Job). has_serial j.serial held) (sym is_started) ∙ ap (has_serial started.serial) (sym is_first) ∙ is_new in
    let has : performed ≡ held ++ hold_of job ∷ [] = same ∙ enters ∙ ap (λ (hs : List Hold). hs ++ hold_of started ∷ []) is_first ∙ ap (λ (j : Job). held ++ hold_of j ∷ []) is_started in (
      leaves ∙ ap (λ (j : Job). without j.serial performed) is_done ∙ ap (without job.serial) has ∙ without_last job.serial held (hold_of job) new refl,
      is_last job.serial held (hold_of job) out new (subst (λ (hs : List Hold). Contains hs out) has there) (serial ∙ ap (λ (j : Job). j.serial) is_done),
    )
