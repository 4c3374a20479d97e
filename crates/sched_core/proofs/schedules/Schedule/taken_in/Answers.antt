use Rattle.std.proofs.Common.{◌≡◌, ◌∙◌, ap, subst, sym, List, ℕ}
use Rattle.std.proofs.lemmas.Result.{IfOk-weaker}
use Rattle.sched_model.specs.Changes.{load_graph}
use Rattle.sched_model.specs.Schedule.{Schedule}
use Rattle.sched_events.specs.SettledAndSound.{IsSoundAndSaid}
use Rattle.sched_model.specs.Handout.{hand_out}
use Rattle.sched_model.specs.Jobs.{handed}
use Rattle.sched_model.specs.Settle.{settle}
use Rattle.sched_core.specs.Changes.{Planned}
use Rattle.sched_core.specs.Plans.{no_runs}
use Rattle.sched_core.proofs.schedules.Schedule.taken_in.Goals as goal

pub graph_change-requires-clause-sound : goal.graph_change-requires-clause-sound
graph_change-requires-clause-sound c = subst (λ (t : List ℕ). IsSoundAndSaid (load_graph t c.args.dag c.args.self.now.content)) (sym c.in_ok-text.ensures) c.requires.sound

pub returns : goal.returns
returns c =
    let a : Schedule = c.args.self.now.content in
    IfOk-weaker c.graph_change.result
    (λ (change : Planned). let s : Schedule = load_graph c.in_ok-text.text c.args.dag a in change ≡ record { before = a; after = hand_out (settle s); answer = record no_runs { jobs = handed a (hand_out (settle s)) } })
    (λ (change : Planned). let s : Schedule = load_graph c.args.text.now c.args.dag a in change ≡ record { before = a; after = hand_out (settle s); answer = record no_runs { jobs = handed a (hand_out (settle s)) } })
    (λ change k. k ∙ ap (λ (t : List ℕ). let s : Schedule = load_graph t c.args.dag a in let p : Planned = record { before = a; after = hand_out (settle s); answer = record no_runs { jobs = handed a (hand_out (settle s)) } } in p) c.in_ok-text.ensures)
    c.graph_change.ensures
