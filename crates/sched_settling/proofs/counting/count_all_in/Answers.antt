use Rattle.std.proofs.Common.{◌≡◌, ◌∙◌, ◌∷◌, [], ◌++◌, ℕ, List, ap, sym, subst, length, take, slice_get, Some, get_or}
use Rattle.std.proofs.lemmas.List.{take_all}
use Rattle.sched_state.specs.declared.runs.Run.{Run}
use Rattle.sched_model.specs.Schedule.{Schedule}
use Rattle.sched_model.specs.Lists.{rises}
use Rattle.sched_settling.specs.Marks.{id_before}
use Rattle.sched_settling.specs.Touched.{EachLine, IsCountedIn, runs_at}
use Rattle.sched_settling.proofs.MarkLemmas.{within_at}
use Rattle.sched_settling.proofs.CarryLemmas.{each_then, each_same, counted_first, in_more_runs, runs_more}
use Rattle.sched_settling.proofs.counting.count_all_in.Goals as goal

pub loop-position-init : goal.loop-position-init
loop-position-init c = each_same (λ id. IsCountedIn id []) c.args.lines.now.items (λ n k y. counted_first k.id.now k)

pub run-requires : goal.run-requires
run-requires c = within_at (length c.args.draft.now.content.runs) c.args.touched.now c.loop-position.position-index c.requires.within c.loop-position-test.true

pub count_in-requires : goal.count_in-requires
count_in-requires c = ap (rises id_before) (c.loop-position.invariant).0 ∙ c.requires.rising

pub loop-position-preserved : goal.loop-position-preserved
loop-position-preserved c =
    let a : Schedule = c.args.draft.now.content in
    let i : ℕ = c.loop-position.position-index in
    let ps : List ℕ = c.args.touched.now in
    let r : Run = c.run.result.now in
    let there : slice_get a.runs (get_or ps i 0) ≡ Some r = c.run.ensures in
    let counted : EachLine (λ id. IsCountedIn id (r ∷ [])) c.loop-position.lines.items c.count_in.new.lines.items = c.in_ok-count_in.ensures in
    subst (λ (rs : List Run). EachLine (λ id. IsCountedIn id rs) c.args.lines.now.items c.count_in.new.lines.items) (sym (runs_more a.runs ps i r c.loop-position-test.true there))
    (each_then (λ id. IsCountedIn id (runs_at a.runs (take i ps))) (λ id. IsCountedIn id (r ∷ [])) (λ id. IsCountedIn id (runs_at a.runs (take i ps) ++ r ∷ []))
    (λ id l m n s t. in_more_runs id (runs_at a.runs (take i ps)) r l m n s t) c.args.lines.now.items c.loop-position.lines.items c.count_in.new.lines.items c.loop-position.invariant counted)

pub returns : goal.returns
returns c =
    let a : Schedule = c.args.draft.now.content in
    subst (λ (ps : List ℕ). EachLine (λ id. IsCountedIn id (runs_at a.runs ps)) c.args.lines.now.items c.loop-position.lines.items)
    (take_all c.loop-position.position-index c.args.touched.now c.loop-position-test.false) c.loop-position.invariant
