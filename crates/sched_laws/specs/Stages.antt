-- The stages of settling: all decisions, all ends, one start, and again.
use Rattle.sched_model.specs.Sound.{is_sound_row}
use Rattle.dag_check.specs.Graphs.{Dag}
use Rattle.std.specs.Prelude.{◌≡◌, ◌<◌, ◌||◌, Bool, true, nat_eq, slice_get, ℕ, map, Option, Some, None, option_map, unwrap_or, List}
use Rattle.std.specs.List.{list_all}
use Rattle.sched_model.specs.sched_state.declared.runs.RunPhase.{RunPhase}
use Rattle.sched_model.specs.sched_state.declared.runs.RunPhase.TheVariants as phase
use Rattle.sched_model.specs.sched_state.Lists.{same, first_change}
use Rattle.sched_model.specs.Lists.{at, rises, map_places}
use Rattle.sched_model.specs.Schedule.{Schedule, run_before}
pub use Rattle.sched_model.specs.Schedule.{in_phase}
use Rattle.sched_model.specs.sched_state.declared.runs.Run.{Run}
use Rattle.sched_model.specs.sched_state.declared.graphs.LoadedGraph.{LoadedGraph}
use Rattle.sched_model.specs.Settle.{settle, finish_run, start_run, with_runs}
use Rattle.sched_laws.specs.Sweep.{decide_one}

-- the first end, or the first start, alone
abbrev pub finish_one : Schedule → Option Schedule
finish_one a = option_map (with_runs a) (first_change (finish_run a) a.runs)

abbrev pub start_one : Schedule → Option Schedule
start_one a = option_map (with_runs a) (first_change (start_run a) a.runs)

-- the run, ended if it can be
abbrev pub ended_run : Schedule → Run → Run
ended_run a r = unwrap_or (finish_run a r) r

abbrev pub finish_every : Schedule → Schedule
finish_every a = record a { runs = map (ended_run a) a.runs }

-- the run at the position is in this phase
abbrev pub phase_at : RunPhase → ℕ → Schedule → Schedule
phase_at ph n a = record a { runs = at (in_phase ph) n a.runs }

-- b is reached from a by moves, and no decision and no end is possible in it
pub record AllEnded (a b : Schedule) : Type 0 where
  pub settles : settle a ≡ settle b
  pub decided : decide_one b ≡ None
  pub ended : finish_one b ≡ None

-- b is a with the first run that can start started, that at position n
pub record Started (a : Schedule) (n : ℕ) (b : Schedule) : Type 0 where
  pub run : Run
  pub run_is : slice_get a.runs n ≡ Some run
  pub starts : start_run a run ≡ Some (in_phase phase.Running run)
  pub first : (m : ℕ) (r : Run) → m < n → slice_get a.runs m ≡ Some r → start_run a r ≡ None
  pub after : b ≡ phase_at phase.Running n a

-- the runs that can end, or start, are marked
abbrev pub CoversEnds : (ℕ → Bool) → Schedule → Type 0
CoversEnds marked a = (m : ℕ) (r q : Run) → slice_get a.runs m ≡ Some r → finish_run a r ≡ Some q → marked m ≡ true

abbrev pub CoversStarts : (List ℕ → Bool) → Schedule → Type 0
CoversStarts marked a = (m : ℕ) (r q : Run) → slice_get a.runs m ≡ Some r → start_run a r ≡ Some q → marked r.graph ≡ true

-- with this run, or this graph
abbrev pub also_run : ℕ → (ℕ → Bool) → ℕ → Bool
also_run n marked m = marked m || nat_eq m n

abbrev pub also_graph : List ℕ → (List ℕ → Bool) → List ℕ → Bool
also_graph g marked h = marked h || same g h

-- each upstream of a place stands at a lower one
abbrev pub leads_down : Dag → Bool
leads_down g = list_all (λ b. b) (map_places is_sound_row 0 g.upstreams)

-- the runs stand in the order of their keys, and each edge of a graph leads from a lower place to a higher one
pub record IsOrdered (a : Schedule) : Type 0 where
  pub runs : rises run_before a.runs ≡ true
  pub graphs : list_all (λ (g : LoadedGraph). leads_down g.dag) a.graphs ≡ true
