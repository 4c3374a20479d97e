use Rattle.std.proofs.Common.{rules, ◌≡◌, refl, sym, subst, ℕ, List, [], Option, Some, None}
use Rattle.run_planner.specs.Index.{Index}
use Rattle.sched_state.specs.declared.graphs.LoadedGraph.{LoadedGraph}
use Rattle.sched_state.specs.declared.runs.Run.{Run}
use Rattle.sched_creation.specs.Dates.{HaveDates}
use Rattle.sched_ready.specs.Held.{AreShelvesOf}
use Rattle.sched_ready.specs.Shelves.{ShelfValue}
use Rattle.sched_core.proofs.schedules.Schedule.new.Goals as goal

no_graph : (n : ℕ) (g : LoadedGraph) → ◌≡◌ {A = Option LoadedGraph} None (Some g) → ⊥
no_graph n g e = cc

-- no graph has no shelf
no_shelves : (now : ℕ) (gs : List LoadedGraph) (rs : List Run) (ss : List ShelfValue) → gs ≡ [] → ss ≡ [] → AreShelvesOf now gs rs ss
no_shelves now gs rs ss e f = subst (λ (ks : List LoadedGraph). AreShelvesOf now ks rs ss) (sym e) (subst (AreShelvesOf now [] rs) (sym f) (record {
  fit = record { long = refl; fits = λ n g s there here. absurd (no_graph n g there) };
  held = λ n p g s t q there here task queue. absurd (no_graph n g there);
}))

-- and no dates
no_dates : (gs : List LoadedGraph) (rs : List Run) (xs : List Index) → gs ≡ [] → xs ≡ [] → HaveDates gs rs xs
no_dates gs rs xs e f = subst (λ (ks : List LoadedGraph). HaveDates ks rs xs) (sym e) (subst (HaveDates [] rs) (sym f) (record { long = refl; each = λ n g x there now d. absurd (no_graph n g there) }))

pub invariant_of-result : goal.invariant_of-result
invariant_of-result c = record {
  held = search rules;
  shelves = no_shelves _ c.new.result.items c.new-5.result.runs c.new-2.result.items c.new.ensures.items c.new-2.ensures.items;
  dates = no_dates c.new.result.items c.new-5.result.runs c.new-3.result.items c.new.ensures.items c.new-3.ensures.items;
}
