use Rattle.std.proofs.Common.{◌≡◌, ◌∙◌, ap, sym, true, false, Option, Some}
use Rattle.std.proofs.lemmas.Option.{slice_get_within}
use Rattle.sched_state.specs.declared.runs.Run.{Run}
use Rattle.sched_model.specs.Schedule.{Schedule, is_queued}
use Rattle.sched_settling.proofs.LineLemmas.{queued_here, not_queued_here, run_at, no_run_on}
use Rattle.sched_settling.proofs.starting.queued_on.Goals as goal

pub run-requires : goal.run-requires
run-requires c =
    let t = run_at c.args.draft.now.content c.args.id.now c.args.date c.in-Some.position c.in-Some.ensures in
    slice_get_within c.args.draft.now.content.runs c.in-Some.position t.run t.run_is

pub returns-in_default : goal.returns-in_default
returns-in_default c = no_run_on c.args.draft.now.content c.args.id.now c.args.date c.in_default.ensures

pub returns-then-is_queued : goal.returns-then-is_queued
returns-then-is_queued c =
    let a : Schedule = c.args.draft.now.content in
    let t = run_at a c.args.id.now c.args.date c.in-Some.position c.in-Some.ensures in
    let q : Run = c.run.result.now in
    let is : q ≡ t.run = let both : ◌≡◌ {A = Option Run} (Some q) (Some t.run) = sym c.run.ensures ∙ t.run_is in cc in
    let phase : is_queued (t.run).phase ≡ true = ap (λ (r : Run). is_queued r.phase) (sym is) ∙ sym c.if-is_queued.ensures in
    queued_here a c.args.id.now c.args.date c.in-Some.position t phase

pub returns-else-is_queued : goal.returns-else-is_queued
returns-else-is_queued c =
    let a : Schedule = c.args.draft.now.content in
    let t = run_at a c.args.id.now c.args.date c.in-Some.position c.in-Some.ensures in
    let q : Run = c.run.result.now in
    let is : q ≡ t.run = let both : ◌≡◌ {A = Option Run} (Some q) (Some t.run) = sym c.run.ensures ∙ t.run_is in cc in
    let phase : is_queued (t.run).phase ≡ false = ap (λ (r : Run). is_queued r.phase) (sym is) ∙ sym c.if-is_queued.ensures in
    not_queued_here a c.args.id.now c.args.date c.in-Some.position t c.requires phase
