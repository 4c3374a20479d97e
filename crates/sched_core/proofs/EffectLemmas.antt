-- What the effect of a change makes of a schedule that is held.
use Rattle.std.proofs.Common.{◌≡◌, ◌∙◌, refl, sym, ap, subst, Bool, true, Option, Some, None}
use Rattle.sched_model.specs.Changes.{set_paused}
use Rattle.sched_model.specs.Handout.{hand_out}
use Rattle.sched_model.specs.Schedule.{Schedule}
use Rattle.sched_model.specs.Settle.{settle}
use Rattle.sched_model.specs.States.{open_tries}
use Rattle.sched_model.specs.Jobs.{handed}
use Rattle.sched_laws.proofs.BesideLemmas.{load_beside, no_runs_after, load_handed}
use Rattle.sched_laws.proofs.HandOutLemmas.{hand_still}
use Rattle.sched_laws.proofs.LoadLemmas.{load_open, load_still, load_no_hand}
use Rattle.sched_laws.proofs.OccupyingLemmas.{open_paused}
use Rattle.sched_laws.proofs.PauseLemmas.{pause_still, pause_no_hand}
use Rattle.sched_laws.proofs.SettleLemmas.{settle_still}
use Rattle.sched_events.specs.SettledAndSound.{IsSoundAndSaid, IsSettled}
use Rattle.sched_events.specs.declared.answers.Answer.{Answer}
use Rattle.sched_handout.specs.declared.occupied.Occupied.{Occupied}
use Rattle.sched_core.specs.Books.{IsHeldWith}
use Rattle.sched_core.specs.Changes.{Planned}
use Rattle.sched_core.specs.Plans.{no_runs}
use Rattle.sched_core.specs.Effects.{with_change, with_rest, applied, numbers_after, KeepsHold, IsQuiet}
use Rattle.sched_core.specs.Inside.{IsOver, IsLast, LeavesDags, completed}
use Rattle.sched_core.specs.declared.changes.Effect.{Effect}
use Rattle.sched_core.specs.declared.changes.Rest.{Rest}
use Rattle.sched_core.specs.declared.changes.GraphChange.{GraphChange}
use Rattle.std.specs.Global.{Vec}
use Rattle.sched_ready.specs.declared.patches.Patch.{Patch}
use Rattle.sched_core.specs.declared.changes.GraphChange.TheVariants as graphs
use Rattle.sched_core.proofs.BookLemmas.{quiet_held}
use Rattle.sched_core.proofs.PlanLemmas.{no_jobs}

-- what an effect keeps, where it is this one and the schedule this
pub done_held : (e f : Effect) (a b : Schedule) (t : Occupied) (was : Bool) → KeepsHold e a → e ≡ f → a ≡ b → IsHeldWith was b t → IsHeldWith true (applied f b) (numbers_after f.rest t)
done_held e f a b t was keeps is there held = subst (λ (g : Effect). KeepsHold g b) is (subst (KeepsHold e) there keeps) t was held

-- the graphs are those that the change makes
pub rest_graphs : (o : Option Rest) (a : Schedule) → (with_rest o a).graphs ≡ a.graphs
rest_graphs None a = refl
rest_graphs (Some n) a = refl

-- ---- changes that enable nothing
pub quiet_settled : (g : GraphChange) (a : Schedule) → IsQuiet g a → IsSettled a → IsSettled (with_change g a)
quiet_settled graphs.Same a quiet still = still
quiet_settled (graphs.Replace graph shelves) a quiet still = absurd quiet
quiet_settled (graphs.Load text dag shelf dates) a quiet still = record { settled = load_still text dag a quiet still.settled; handed = load_no_hand text dag a quiet still.handed }
quiet_settled (graphs.Pause id paused) a quiet still =
    subst (λ (p : Bool). IsSettled (set_paused id p a)) (sym quiet) (record { settled = pause_still id a still.settled; handed = pause_no_hand id a still.handed })

quiet_open : (g : GraphChange) (a : Schedule) → IsQuiet g a → open_tries (with_change g a) ≡ open_tries a
quiet_open graphs.Same a quiet = refl
quiet_open (graphs.Load text dag shelf dates) a quiet = load_open text dag a quiet
quiet_open (graphs.Pause id paused) a quiet = open_paused id paused a
quiet_open (graphs.Replace graph shelves) a quiet = absurd quiet

pub quiet_keeps : (g : GraphChange) (ps : Vec Patch) (a : Schedule) → IsSoundAndSaid (with_change g a) → IsQuiet g a → IsSettled a → KeepsHold (record { graphs = g; patches = ps; rest = None }) a
quiet_keeps g ps a sound quiet still t was held = quiet_held a (with_change g a) t was sound (quiet_settled g a quiet still) (quiet_open g a quiet) refl held

-- nothing follows of them in a schedule that is settled
pub quiet_step : (g : GraphChange) (a : Schedule) → IsQuiet g a → IsSettled a → hand_out (settle (with_change g a)) ≡ with_change g a
quiet_step g a quiet still =
    let b : Schedule = with_change g a in
    let after = quiet_settled g a quiet still in
    ap hand_out (settle_still b after.settled) ∙ hand_still b after.handed

-- and in any they may be made last
pub quiet_last : (g : GraphChange) (a : Schedule) → IsQuiet g a → IsLast g a
quiet_last graphs.Same a quiet = tt
quiet_last (graphs.Load text dag shelf dates) a quiet = quiet
quiet_last (graphs.Pause id paused) a quiet = tt
quiet_last (graphs.Replace graph shelves) a quiet = tt

-- and then too
pub quiet_after : (g : GraphChange) (a : Schedule) → IsQuiet g a → IsLast g (with_change g a)
quiet_after graphs.Same a quiet = tt
quiet_after (graphs.Load text dag shelf dates) a quiet = quiet
quiet_after (graphs.Pause id paused) a quiet = tt
quiet_after (graphs.Replace graph shelves) a quiet = tt

-- no graph with runs gets other tasks
pub quiet_leaves : (g : GraphChange) (a : Schedule) → IsQuiet g a → LeavesDags g
quiet_leaves graphs.Same a quiet = tt
quiet_leaves (graphs.Load text dag shelf dates) a quiet = tt
quiet_leaves (graphs.Pause id paused) a quiet = tt
quiet_leaves (graphs.Replace graph shelves) a quiet = quiet

pub completed_last : (g : GraphChange) (b : Schedule) → IsLast g b → IsLast g (completed g b)
completed_last graphs.Same b last = tt
completed_last (graphs.Load text dag shelf dates) b last = last
completed_last (graphs.Pause id paused) b last = tt
completed_last (graphs.Replace graph shelves) b last = tt

pub made_last : (g : GraphChange) (a : Schedule) → IsQuiet g a → IsOver g a a → completed g (hand_out (settle a)) ≡ hand_out (settle (with_change g a))
made_last graphs.Same a quiet over = refl
made_last (graphs.Load text dag shelf dates) a quiet over = sym (load_beside text dag a quiet)
made_last (graphs.Replace graph shelves) a quiet over = absurd quiet
made_last (graphs.Pause id paused) a quiet over = ap (λ gs. let b : Schedule = record a { graphs = gs } in hand_out (settle b)) over.graphs

-- so a quiet change is what the change and what follows of it are, with no try handed out
pub quiet_whole : (g : GraphChange) (a : Schedule) (c : Planned) → IsQuiet g a → IsSettled a → c ≡ record { before = a; after = with_change g a; answer = no_runs }
    → c ≡ record { before = a; after = hand_out (settle (with_change g a)); answer = record no_runs { jobs = handed a (hand_out (settle (with_change g a))) } }
quiet_whole g a c quiet still is =
    let b : Schedule = with_change g a in
    let e = quiet_step g a quiet still in
    is
    ∙ (ap (λ js. let p : Planned = record { before = a; after = b; answer = record no_runs { jobs = js } } in p) (sym (no_jobs a b refl))
    ∙ ap (λ (s : Schedule). let p : Planned = record { before = a; after = s; answer = record no_runs { jobs = handed a s } } in p) (sym e))

-- ---- changes that are made last
last_jobs : (g : GraphChange) (a b : Schedule) → IsLast g b → handed a (completed g (hand_out (settle b))) ≡ handed a (hand_out (settle b))
last_jobs graphs.Same a b last = refl
last_jobs (graphs.Load text dag shelf dates) a b last = load_handed text dag a (hand_out (settle b)) (no_runs_after b dag.spec.dag_id ∙ last)
last_jobs (graphs.Pause id paused) a b last = refl
last_jobs (graphs.Replace graph shelves) a b last = refl

pub last_whole : (g : GraphChange) (a d : Schedule) (answer : Answer) (c : Planned) → IsQuiet g a → IsOver g a a → d ≡ a → answer ≡ no_runs
    → c ≡ record { before = a; after = completed g (hand_out (settle d)); answer = record answer { jobs = handed a (hand_out (settle d)) } }
    → c ≡ record { before = a; after = hand_out (settle (with_change g a)); answer = record no_runs { jobs = handed a (hand_out (settle (with_change g a))) } }
last_whole g a d answer c quiet over draft quiet_answer is =
    is
    ∙ (ap (λ (s : Schedule). let p : Planned = record { before = a; after = completed g (hand_out (settle s)); answer = record answer { jobs = handed a (hand_out (settle s)) } } in p) draft
    ∙ (ap (λ (q : Answer). let p : Planned = record { before = a; after = completed g (hand_out (settle a)); answer = record q { jobs = handed a (hand_out (settle a)) } } in p) quiet_answer
    ∙ (ap (λ js. let p : Planned = record { before = a; after = completed g (hand_out (settle a)); answer = record no_runs { jobs = js } } in p) (sym (last_jobs g a a (quiet_last g a quiet)))
    ∙ ap (λ (s : Schedule). let p : Planned = record { before = a; after = s; answer = record no_runs { jobs = handed a s } } in p) (made_last g a quiet over))))
