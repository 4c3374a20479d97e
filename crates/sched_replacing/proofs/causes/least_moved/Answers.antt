use Rattle.std.proofs.Common.{◌∙◌, ap}
use Rattle.graph_file.specs.declared.graph_specs.GraphSpec.{GraphSpec}
use Rattle.sched_model.specs.Causes.{least_in_flight}
use Rattle.sched_model.specs.Clearing.{Selection}
use Rattle.sched_model.specs.Schedule.{Schedule}
use Rattle.sched_clearing.specs.Selections.{placed_by}
use Rattle.sched_replacing.proofs.MovedLemmas.{moved_is}
use Rattle.sched_replacing.proofs.causes.least_moved.Goals as goal

pub returns : goal.returns
returns c =
    let a : Schedule = c.args.draft.now.content in
    c.least_in_flight.ensures
    ∙ (ap (λ (named : Selection). least_in_flight a named)
    (c.named_by_places-selection.ensures ∙ (ap (λ (s : GraphSpec). placed_by s.dag_id c.in_ok-marks.marks.items) c.spec.ensures.spec ∙ ap (placed_by c.args.new.now.spec.dag_id) c.in_ok-marks.ensures))
    ∙ moved_is a c.args.old.now c.args.new.now c.requires.old)
