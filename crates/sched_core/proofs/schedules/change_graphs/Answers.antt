use Rattle.std.proofs.Common.{List, sym, subst}
use Rattle.sched_state.specs.declared.graphs.LoadedGraph.{LoadedGraph}
use Rattle.sched_ready.specs.Held.{AreShelvesOf}
use Rattle.sched_creation.specs.Dates.{HaveDates}
use Rattle.sched_core.specs.Inside.{IsLast}
use Rattle.sched_core.specs.declared.changes.GraphChange.{GraphChange}
use Rattle.sched_core.proofs.DateLemmas.{dates_other, dates_paused}
use Rattle.sched_core.specs.Effects.{HoldsAfter}
use Rattle.sched_core.proofs.ShelfLemmas.{shelves_paused}
use Rattle.sched_core.proofs.schedules.change_graphs.Goals as goal

pub returns-in-Same-clause-shelves : goal.returns-in-Same-clause-shelves
returns-in-Same-clause-shelves c a h last = subst (λ (g : GraphChange). HoldsAfter g a.now c.args.graphs.now.items a.runs c.args.shelves.now.items) c.in-Same.is h

pub returns-in-Load-clause-shelves : goal.returns-in-Load-clause-shelves
returns-in-Load-clause-shelves c a h last =
    c.take_in.ensures.shelves a (subst (λ (g : GraphChange). HoldsAfter g a.now c.args.graphs.now.items a.runs c.args.shelves.now.items) c.in-Load.is h) (subst (λ (g : GraphChange). IsLast g a) c.in-Load.is last)

pub returns-in-Pause-clause-shelves : goal.returns-in-Pause-clause-shelves
returns-in-Pause-clause-shelves c a h last =
    subst (λ (gs : List LoadedGraph). AreShelvesOf a.now gs a.runs c.args.shelves.now.items) (sym c.set_paused.ensures)
    (shelves_paused c.in-Pause.id c.in-Pause.paused a.now c.args.graphs.now.items a.runs c.args.shelves.now.items (subst (λ (g : GraphChange). HoldsAfter g a.now c.args.graphs.now.items a.runs c.args.shelves.now.items) c.in-Pause.is h))

pub returns-in-Replace-clause-shelves : goal.returns-in-Replace-clause-shelves
returns-in-Replace-clause-shelves c a h last =
    subst (λ (gs : List LoadedGraph). AreShelvesOf a.now gs a.runs c.in-Replace.others.items) (sym c.put_other.ensures)
    (subst (λ (g : GraphChange). HoldsAfter g a.now c.args.graphs.now.items a.runs c.args.shelves.now.items) c.in-Replace.is h)

pub returns-in-Pause-clause-dates : goal.returns-in-Pause-clause-dates
returns-in-Pause-clause-dates c a h last =
    subst (λ (gs : List LoadedGraph). HaveDates gs a.runs c.args.dates.now.items) (sym c.set_paused.ensures) (dates_paused c.in-Pause.id c.in-Pause.paused c.args.graphs.now.items a.runs c.args.dates.now.items h)

pub returns-in-Load-clause-dates : goal.returns-in-Load-clause-dates
returns-in-Load-clause-dates c a h last = c.take_in.ensures.dates a h (subst (λ (g : GraphChange). IsLast g a) c.in-Load.is last)

pub returns-in-Replace-clause-dates : goal.returns-in-Replace-clause-dates
returns-in-Replace-clause-dates c a h last =
    subst (λ (gs : List LoadedGraph). HaveDates gs a.runs c.args.dates.now.items) (sym c.put_other.ensures) (dates_other c.in-Replace.graph c.args.graphs.now.items a.runs c.args.dates.now.items h)
