use Rattle.std.proofs.Common.{ap, ◌∙◌, ℕ, List, flat_map, slice_index_or}
use Rattle.std.proofs.lemmas.List.{take_all}
use Rattle.std.proofs.lemmas.Option.{slice_get-get_or}
use Rattle.sched_draft.proofs.run_lists.PickLemmas.{picked}
use Rattle.sched_state.specs.declared.runs.Run.{Run}
use Rattle.record_writing.proofs.TouchedLemmas.{touched_within, run_lacked, runs_by_touched}
use Rattle.record_writing.proofs.runs.runs_lacked.Goals as goal

pub run-run-requires : goal.run-run-requires
run-run-requires c =
    let ns : List ℕ = c.args.touched.now in
    let k : ℕ = c.loop-position.position-index in
    touched_within ns c.args.draft.now.base.runs c.args.draft.now.content.runs k (slice_index_or ns k 0) c.requires.touched (slice_get-get_or ns k 0 c.loop-position-test.true)

pub returns : goal.returns
returns c =
    let a : List Run = c.args.draft.now.base.runs in
    let b : List Run = c.args.draft.now.content.runs in
    c.loop-position.invariant
    ∙ ap (λ (ns : List ℕ). flat_map (run_lacked a) (picked b ns)) (take_all c.loop-position.position-index c.args.touched.now c.loop-position-test.false)
    ∙ runs_by_touched c.args.touched.now a b c.requires.touched
