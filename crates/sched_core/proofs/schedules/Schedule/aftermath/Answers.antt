use Rattle.std.proofs.Common.{◌≡◌, ◌∙◌, ◌-◌, inr, refl, sym, ap, subst, List, true, flat_map}
use Rattle.std.specs.List.{range_with_len}
use Rattle.graph_file.specs.declared.graph_specs.GraphSpec.{GraphSpec}
use Rattle.sched_state.specs.declared.graphs.LoadedGraph.{LoadedGraph}
use Rattle.sched_model.specs.Handout.{hand_out}
use Rattle.sched_model.specs.Jobs.{handed, job_at}
use Rattle.sched_model.specs.Schedule.{Schedule}
use Rattle.sched_model.specs.Settle.{settle}
use Rattle.sched_model.specs.Sound.{IsSound}
use Rattle.sched_laws.proofs.SoundLemmas.{settle_sound}
use Rattle.sched_laws.proofs.SweepLemmas.{sound_ordered}
use Rattle.sched_draft.specs.Drafts.{DraftValue}
use Rattle.sched_events.proofs.StepLemmas.{out_graphs, settle_graphs, without_settled}
use Rattle.sched_handout.specs.Noted.{NoneFrom}
use Rattle.sched_handout.specs.Occupied.{AreOccupied}
use Rattle.sched_ready.specs.Held.{AreShelvesOf}
use Rattle.sched_handout.specs.declared.occupied.Occupied.{Occupied}
use Rattle.sched_handout.proofs.JobLemmas.{sound_none}
use Rattle.sched_core.specs.Books.{IsCounted, IsHeldWith}
use Rattle.sched_core.specs.Changes.{ScheduleValue}
use Rattle.sched_core.specs.Inside.{IsOver}
use Rattle.sched_core.specs.Replaced.{OwnsRunsOf, with_other_graph}
use Rattle.sched_core.specs.declared.changes.GraphChange.TheVariants as graphs
use Rattle.sched_core.proofs.FinishLemmas.{closed_effect, closed_is, finished_held, finished_over, settled_next, settled_occupied}
use Rattle.sched_core.proofs.ReplacingLemmas.{counted_alike, occupied_alike}
use Rattle.sched_core.proofs.schedules.Schedule.aftermath.Goals.{In_ok-settle, In_ok-jobs}
use Rattle.sched_core.proofs.schedules.Schedule.aftermath.Goals as goal

-- what the draft has, step by step
settled : (c : In_ok-settle) → c.settle.new.draft.content ≡ settle (with_other_graph c.args.graph.now c.args.self.now.content)
settled c = c.in_ok-settle.ensures.settled ∙ ap settle c.in_ok-draft.ensures.content

handed_out : (c : In_ok-jobs) → c.settle.new.draft.content ≡ settle (with_other_graph c.args.graph.now c.args.self.now.content) → c.hand_out.new.draft.content ≡ hand_out (settle (with_other_graph c.args.graph.now c.args.self.now.content))
handed_out c is = c.in_ok-jobs.ensures.draft ∙ ap hand_out is

pub settle-requires : goal.settle-requires
settle-requires c =
    let sound : IsSound c.in_ok-draft.draft.content = subst IsSound (sym c.in_ok-draft.ensures.content) c.requires.sound in
    record { ordered = sound_ordered c.in_ok-draft.draft.content sound; graphs = sound.graphs_by_id }

-- the shelves are made of what is settled, and of what is handed out
pub shelves_of-requires : goal.shelves_of-requires
shelves_of-requires c =
    let b : Schedule = with_other_graph c.args.graph.now c.args.self.now.content in
    subst IsSound (sym (settled (goal.at.shelves_of-requires c).In_ok-settle)) (settle_sound b c.requires.sound)

pub hand_out-requires-clause-sound : goal.hand_out-requires-clause-sound
hand_out-requires-clause-sound c =
    let b : Schedule = with_other_graph c.args.graph.now c.args.self.now.content in
    subst IsSound (sym (settled (goal.at.hand_out-requires-clause-sound c).In_ok-settle)) (settle_sound b c.requires.sound)

pub hand_out-requires-clause-shelves : goal.hand_out-requires-clause-shelves
hand_out-requires-clause-shelves c =
    let d : DraftValue = c.settle.new.draft in
    inr (subst (AreShelvesOf d.content.now d.content.graphs d.content.runs) (sym c.as_slice.ensures.value) c.in_ok-before.ensures)

pub shelves_of-requires-2 : goal.shelves_of-requires-2
shelves_of-requires-2 c =
    let b : Schedule = with_other_graph c.args.graph.now c.args.self.now.content in
    let at = goal.at.shelves_of-requires-2 c in
    let end = c.in_ok-own_runs_of.ensures.content ∙ handed_out at.In_ok-jobs (settled at.In_ok-settle) in
    subst IsSound (sym end) (without_settled (hand_out (settle b)) c.requires.kept).sound

pub hand_out-requires-clause-taken : goal.hand_out-requires-clause-taken
hand_out-requires-clause-taken c =
    let a : Schedule = c.args.self.now.content in
    let b : Schedule = with_other_graph c.args.graph.now a in
    let t : Occupied = c.in_ok-occupied.occupied in
    let before : AreOccupied a c.self.inside.occupied = subst (λ (h : ScheduleValue). AreOccupied h.content c.self.inside.occupied) c.self.view_is c.self.invariant.held.occupied in
    let numbers : AreOccupied b t = occupied_alike a b c.self.inside.occupied t c.requires.taken refl c.in_ok-occupied.ensures.in_flight c.in_ok-occupied.ensures.pools c.in_ok-occupied.ensures.active before in
    subst (λ (s : Schedule). AreOccupied s t) (sym (settled (goal.at.hand_out-requires-clause-taken c).In_ok-settle)) (settled_occupied b t numbers)

pub hand_out-requires-clause-serials : goal.hand_out-requires-clause-serials
hand_out-requires-clause-serials c =
    let b : Schedule = with_other_graph c.args.graph.now c.args.self.now.content in
    subst NoneFrom (sym (settled (goal.at.hand_out-requires-clause-serials c).In_ok-settle)) (sound_none (settle b) (settle_sound b c.requires.sound))

pub own_runs_of-requires : goal.own_runs_of-requires
own_runs_of-requires c =
    let b : Schedule = with_other_graph c.args.graph.now c.args.self.now.content in
    let at = goal.at.own_runs_of-requires c in
    let sound : IsSound c.hand_out.new.draft.content = subst IsSound (sym (handed_out at.In_ok-jobs (settled at.In_ok-settle))) (without_settled (hand_out (settle b)) c.requires.kept).sound in
    sound.runs_by_key

pub rows_replaced-requires-clause-based : goal.rows_replaced-requires-clause-based
rows_replaced-requires-clause-based c = c.in_ok-own_runs_of.ensures.base ∙ (c.in_ok-jobs.ensures.base ∙ (c.in_ok-settle.ensures.base ∙ c.in_ok-draft.ensures.base))

pub rows_replaced-requires-clause-graphs : goal.rows_replaced-requires-clause-graphs
rows_replaced-requires-clause-graphs c =
    let b : Schedule = with_other_graph c.args.graph.now c.args.self.now.content in
    let at = goal.at.rows_replaced-requires-clause-graphs c in
    let end = c.in_ok-own_runs_of.ensures.content ∙ handed_out at.In_ok-jobs (settled at.In_ok-settle) in
    ap (λ (s : Schedule). s.graphs) end ∙ (out_graphs (settle b) ∙ settle_graphs b)

pub rows_replaced-requires-clause-own : goal.rows_replaced-requires-clause-own
rows_replaced-requires-clause-own c =
    let d : DraftValue = c.own_runs_of.new.draft in
    subst (λ (s : GraphSpec). OwnsRunsOf s.dag_id d.content.runs d) c.spec.ensures.spec
    (subst (λ (s : Schedule). OwnsRunsOf c.spec.result.now.dag_id s.runs d) (sym c.in_ok-own_runs_of.ensures.content) c.in_ok-own_runs_of.ensures.own)

pub rows_replaced-requires-clause-sound : goal.rows_replaced-requires-clause-sound
rows_replaced-requires-clause-sound c =
    let b : Schedule = with_other_graph c.args.graph.now c.args.self.now.content in
    let at = goal.at.rows_replaced-requires-clause-sound c in
    let end = c.in_ok-own_runs_of.ensures.content ∙ handed_out at.In_ok-jobs (settled at.In_ok-settle) in
    subst IsSound (sym end) (without_settled (hand_out (settle b)) c.requires.kept).sound

pub rest_of-requires : goal.rest_of-requires
rest_of-requires c = subst (λ (s : Schedule). AreOccupied s c.hand_out.new.taken) (sym c.in_ok-own_runs_of.ensures.content) c.in_ok-jobs.ensures.taken

pub returns : goal.returns
returns c =
    let a : Schedule = c.args.self.now.content in
    let k : LoadedGraph = c.args.graph.now in
    let b : Schedule = with_other_graph k a in
    let e : Schedule = hand_out (settle b) in
    let d : DraftValue = c.own_runs_of.new.draft in
    let t : Occupied = c.hand_out.new.taken in
    let at = goal.at.returns c in
    let moved : c.settle.new.draft.content ≡ settle b = settled at.In_ok-settle in
    let out : c.hand_out.new.draft.content ≡ e = handed_out at.In_ok-jobs moved in
    let end : d.content ≡ e = c.in_ok-own_runs_of.ensures.content ∙ out in
    let base : d.base ≡ a = c.in_ok-own_runs_of.ensures.base ∙ (c.in_ok-jobs.ensures.base ∙ (c.in_ok-settle.ensures.base ∙ c.in_ok-draft.ensures.base)) in
    let numbers : AreOccupied e t = subst (λ (s : Schedule). AreOccupied s t) out c.in_ok-jobs.ensures.taken in
    let counted : IsCounted b = counted_alike a b c.requires.taken (subst (λ (h : ScheduleValue). IsCounted h.content) c.self.view_is c.self.invariant.held.counted) in
    let start : IsOver (graphs.Replace k c.in_ok-shelves.shelves) a b = record { limits = refl; graphs = refl } in
    let over : IsOver (graphs.Replace k c.in_ok-shelves.shelves) a d.content = subst (IsOver (graphs.Replace k c.in_ok-shelves.shelves) a) (sym end) (finished_over (graphs.Replace k c.in_ok-shelves.shelves) a b start) in
    let due = subst (λ (gs : List LoadedGraph). AreShelvesOf d.content.now gs d.content.runs c.in_ok-shelves.shelves.items) over.graphs c.in_ok-shelves.ensures in
    record {
      effect = closed_effect (graphs.Replace k c.in_ok-shelves.shelves) a d t c.rest_of.result c.new.result c.in_ok-rows.rows base over c.rest_of.ensures tt tt
          (subst (λ (s : Schedule). IsHeldWith true s t) (sym end) (finished_held (graphs.Replace k c.in_ok-shelves.shelves) b t c.requires.sound counted tt c.requires.kept numbers)) c.in_ok-rows.ensures (λ ss h. due);
      after = closed_is (graphs.Replace k c.in_ok-shelves.shelves) a d t c.rest_of.result c.new.result base over c.rest_of.ensures ∙ end;
      jobs = c.in_ok-jobs.ensures.jobs
          ∙ (ap (λ (s : Schedule). handed s c.hand_out.new.draft.content) moved
          ∙ (ap (handed (settle b)) out ∙ ap (λ n. flat_map (job_at e) (range_with_len n (e.next - n))) (settled_next b)));
    }
