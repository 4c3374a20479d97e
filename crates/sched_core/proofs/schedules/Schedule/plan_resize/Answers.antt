use Rattle.std.proofs.Common.{◌≡◌, ◌∙◌, refl, sym, ap, subst, inl, inr, true, false, not, length, nat_le, Err, arith}
use Rattle.std.proofs.lemmas.Bool.Decides.{nat_tests}
use Rattle.std.proofs.lemmas.Result.{err_from_is_err_and}
use Rattle.std.proofs.lemmas.Bool.{and_from}
use Rattle.graph_file.specs.Names.{is_name}
use Rattle.pool_book.specs.Limits.{pool_limit}
use Rattle.pool_book.specs.Pools.{Entries, resized}
use Rattle.sched_model.specs.Changes.{new_pool}
use Rattle.sched_model.specs.Schedule.{Schedule}
use Rattle.sched_model.specs.Sound.{is_sound_pool}
use Rattle.sched_events.specs.SettledAndSound.{IsSoundAndSaid}
use Rattle.sched_events.specs.declared.events.Event.TheVariants.{Resize}
use Rattle.sched_draft.specs.Books.{pools_in, IsBookOf}
use Rattle.sched_core.specs.Changes.{ScheduleValue}
use Rattle.sched_core.proofs.BookLemmas.{resized_taken}
use Rattle.sched_core.specs.Inside.{over}
use Rattle.sched_core.specs.Plans.{no_runs}
use Rattle.sched_core.proofs.PlanLemmas.{IsDraftOf, draft_sound, draft_kept, draft_planned}
use Rattle.sched_core.proofs.ResizeLemmas.{known_by, too_many, HasPlace, known_place, new_place, resize_accepted, memory_alone, over_is}
use Rattle.sched_core.proofs.schedules.Schedule.plan_resize.Goals.{else-is_none-via-then-is_none+else-pools-len, else-is_none-via-else-is_none}
use Rattle.sched_core.proofs.schedules.Schedule.plan_resize.Goals.{In_ok-name, In_ok-resize}
use Rattle.sched_core.proofs.schedules.Schedule.plan_resize.Goals as goal

pub returns-then-pools-len-clause-refused : goal.returns-then-pools-len-clause-refused
returns-then-pools-len-clause-refused c =
    let a : Schedule = c.args.self.now.content in
    let es : Entries = c.self.inside.occupied.pools.pools in
    let pools : pools_in es ≡ a.pools = ap (λ (h : ScheduleValue). h.content.pools) c.self.view_is in
    let unknown = known_by a es c.args.name.now c.size.result c.is_none.result pools c.size.ensures c.is_none.ensures ∙ ap not c.if-is_none.true in
    let limit = ap (λ (h : ScheduleValue). h.content.limits.pools) c.self.view_is in
    inr (record { first = too_many a es c.args.name.now c.args.size pools unknown (omega (arith, limit, c.pools.ensures.value, c.len.ensures.len, c.if-pools-len.true)); shown = tt })

-- the pool is there, or there is a place for it
placed : (c : In_ok-name) → HasPlace c.args.self.now.content c.self.inside.occupied.pools.pools c.args.name.now
placed c =
    let a : Schedule = c.args.self.now.content in
    let es : Entries = c.self.inside.occupied.pools.pools in
    let pools : pools_in es ≡ a.pools = ap (λ (h : ScheduleValue). h.content.pools) c.self.view_is in
    elim c.else-is_none.branch [
      | else-is_none-via-then-is_none+else-pools-len w ↦
          let few : nat_le a.limits.pools (length es) ≡ false = grind (arith, nat_tests, w.pools.ensures.value, w.len.ensures.len, w.if-pools-len.false, ap (λ (h : ScheduleValue). h.content.limits.pools) c.self.view_is) in
          let high : nat_le pool_limit (length es) ≡ false = grind (arith, nat_tests, w.pools.ensures.high, w.len.ensures.len, w.if-pools-len.false) in
          new_place a es c.args.name.now pools few high
      | else-is_none-via-else-is_none w ↦
          known_place a es c.args.name.now pools (known_by a es c.args.name.now c.size.result c.is_none.result pools c.size.ensures c.is_none.ensures ∙ ap not w.if-is_none.false)
    ]

-- the schedule over the pools of the new size
drafted : (c : In_ok-resize) → HasPlace c.args.self.now.content c.self.inside.occupied.pools.pools c.args.name.now → IsDraftOf (Resize c.args.name.now c.args.size) c.args.self.now.content (over c.resize.new.self.pools c.args.self.now.content)
drafted c place =
    let a : Schedule = c.args.self.now.content in
    let es : Entries = c.self.inside.occupied.pools.pools in
    let pools : pools_in es ≡ a.pools = ap (λ (h : ScheduleValue). h.content.pools) c.self.view_is in
    let kept : IsSoundAndSaid a = subst (λ (h : ScheduleValue). IsSoundAndSaid h.content) c.self.view_is c.self.invariant.held.kept in
    let short : nat_le c.args.size 1000000 ≡ true = grind (arith, nat_tests, c.get-size.ensures.value, c.get-size.ensures.high) in
    let ranged : is_sound_pool (new_pool c.args.name.now c.args.size) ≡ true = and_from _ _ (ap is_name (sym c.as_str-name.ensures.text) ∙ c.as_str-name.ensures.name) short in
    record {
      ranged = ranged;
      accepted = resize_accepted a es c.args.name.now c.args.size place;
      kept = kept;
      is = over_is a es c.in_ok-pools.pools.pools c.resize.new.self.pools c.args.name.now c.in_ok-name.name c.args.size pools kept.sound.pools_by_name c.in_ok-pools.ensures c.in_ok-name.ensures c.in_ok-resize.ensures.pools;
    }

pub returns-in_err-resize-clause-refused : goal.returns-in_err-resize-clause-refused
returns-in_err-resize-clause-refused c =
    let a : Schedule = c.args.self.now.content in
    let es : Entries = c.self.inside.occupied.pools.pools in
    let place : HasPlace a es c.args.name.now = placed (goal.at.returns-in_err-resize-clause-refused c).In_ok-name in
    let memory = memory_alone a es c.in_ok-pools.pools.pools c.args.name.now c.in_ok-name.name c.in_err-resize.field-0.0 place c.in_ok-pools.ensures c.in_ok-name.ensures (λ e. c.in_err-resize.ensures.too_many.0 (ap (λ f. Err f) e)) in
    let shown = err_from_is_err_and c.from_residual-in_err-resize.result c.from_residual-in_err-resize.ensures.1 in
    rw shown.1 (inl (shown.2 ∙ memory))

pub over-requires-clause-sound : goal.over-requires-clause-sound
over-requires-clause-sound c = draft_sound (let at = goal.at.over-requires-clause-sound c in drafted at.In_ok-resize (placed at.In_ok-name))

pub over-requires-clause-kept : goal.over-requires-clause-kept
over-requires-clause-kept c = draft_kept (let at = goal.at.over-requires-clause-kept c in drafted at.In_ok-resize (placed at.In_ok-name))

pub over-requires-clause-book : goal.over-requires-clause-book
over-requires-clause-book c =
    let a : Schedule = c.args.self.now.content in
    let es : Entries = c.self.inside.occupied.pools.pools in
    let kept : IsSoundAndSaid a = subst (λ (h : ScheduleValue). IsSoundAndSaid h.content) c.self.view_is c.self.invariant.held.kept in
    let book : IsBookOf a es = subst (λ (h : ScheduleValue). IsBookOf h.content es) c.self.view_is c.self.invariant.held.occupied.pools in
    let is : c.resize.new.self.pools ≡ resized c.args.name.now c.args.size es =
    c.in_ok-resize.ensures.pools ∙ (ap (λ n. resized n c.args.size c.in_ok-pools.pools.pools) c.in_ok-name.ensures ∙ ap (resized c.args.name.now c.args.size) c.in_ok-pools.ensures) in
    record { pools = refl; taken = resized_taken a c.args.name.now c.args.size es c.resize.new.self.pools kept.sound book is }

pub returns-clause-accepted : goal.returns-clause-accepted
returns-clause-accepted c = draft_planned no_runs c.in_ok-over.field-0 (let at = goal.at.returns-clause-accepted c in drafted at.In_ok-resize (placed at.In_ok-name)) refl c.in_ok-over.ensures
