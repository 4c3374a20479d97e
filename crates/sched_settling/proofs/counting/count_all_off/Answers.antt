use Rattle.std.proofs.Common.{◌≡◌, ◌∙◌, ◌<◌, [], ◌++◌, ℕ, List, ap, sym, subst, length, take, slice_get, Some, get_or}
use Rattle.std.specs.Option.{option_to_list}
use Rattle.std.proofs.lemmas.List.{take_all}
use Rattle.sched_state.specs.declared.runs.Run.{Run}
use Rattle.sched_state.proofs.ElementLemmas.{element_at}
use Rattle.sched_model.specs.Schedule.{Schedule}
use Rattle.sched_model.specs.Lists.{rises}
use Rattle.sched_settling.specs.Marks.{id_before}
use Rattle.sched_settling.specs.Touched.{EachLine, IsCountedOff, bases_at, with_key}
use Rattle.sched_settling.proofs.MarkLemmas.{within_at}
use Rattle.sched_settling.proofs.CarryLemmas.{each_then, each_same, off_none, off_more_runs, bases_more}
use Rattle.sched_settling.proofs.counting.count_all_off.Goals as goal

pub loop-position-init : goal.loop-position-init
loop-position-init c = each_same (λ id. IsCountedOff id []) c.args.lines.now.items (λ n k y. off_none k.id.now k)

pub count_off-requires-clause-within : goal.count_off-requires-clause-within
count_off-requires-clause-within c = within_at (length c.args.draft.now.content.runs) c.args.touched.now c.loop-position.position-index c.requires.within c.loop-position-test.true

pub count_off-requires-clause-rising : goal.count_off-requires-clause-rising
count_off-requires-clause-rising c = ap (rises id_before) (c.loop-position.invariant).0 ∙ c.requires.rising

pub loop-position-preserved : goal.loop-position-preserved
loop-position-preserved c =
    let a : Schedule = c.args.draft.now.content in
    let b : List Run = c.args.draft.now.base.runs in
    let i : ℕ = c.loop-position.position-index in
    let ps : List ℕ = c.args.touched.now in
    let inside : get_or ps i 0 < length a.runs = within_at (length a.runs) ps i c.requires.within c.loop-position-test.true in
    let t = element_at a.runs (get_or ps i 0) inside in
    let r : Run = t.0 in
    let there : slice_get a.runs (get_or ps i 0) ≡ Some r = t.1 in
    let counted : EachLine (λ id. IsCountedOff id (option_to_list (with_key b r))) c.loop-position.lines.items c.count_off.new.lines.items = c.count_off.ensures r there in
    subst (λ (rs : List Run). EachLine (λ id. IsCountedOff id rs) c.args.lines.now.items c.count_off.new.lines.items) (sym (bases_more b a.runs ps i r c.loop-position-test.true there))
    (each_then (λ id. IsCountedOff id (bases_at b a.runs (take i ps))) (λ id. IsCountedOff id (option_to_list (with_key b r))) (λ id. IsCountedOff id (bases_at b a.runs (take i ps) ++ option_to_list (with_key b r)))
    (λ id l m n s t. off_more_runs id (bases_at b a.runs (take i ps)) (option_to_list (with_key b r)) l m n s t) c.args.lines.now.items c.loop-position.lines.items c.count_off.new.lines.items c.loop-position.invariant counted)

pub returns : goal.returns
returns c =
    let a : Schedule = c.args.draft.now.content in
    subst (λ (ps : List ℕ). EachLine (λ id. IsCountedOff id (bases_at c.args.draft.now.base.runs a.runs ps)) c.args.lines.now.items c.loop-position.lines.items)
    (take_all c.loop-position.position-index c.args.touched.now c.loop-position-test.false) c.loop-position.invariant
