-- The rows that a schedule lacks after an effect.
use Rattle.std.proofs.Common.{◌≡◌, refl, sym, ap, subst, ◌∙◌, zero, suc, ℤ, List, [], ◌∷◌, ◌++◌, true, map, flat_map, Option, Some, None}
use Rattle.std.specs.List.{zip}
use Rattle.std.proofs.lemmas.Bool.{and_from}
use Rattle.dag_check.specs.Graphs.{Dag}
use Rattle.dag_check.specs.Names.{ids_of, repeats}
use Rattle.record_rows.specs.Rows.{MetaRow, PoolRow, DagRow, DagLimitRow, RunRow, InstanceRow, AttemptRow}
use Rattle.sched_state.specs.declared.graphs.LoadedGraph.{LoadedGraph}
use Rattle.sched_state.specs.declared.runs.Run.{Run}
use Rattle.sched_state.proofs.NameLemmas.{same_itself}
use Rattle.sched_model.specs.Lists.{rises}
use Rattle.sched_model.specs.Schedule.{Schedule, dag_among, run_before}
use Rattle.sched_model.specs.Sound.{IsSound}
use Rattle.sched_model.specs.Tables.{tables, dag_row, limit_row, instance_row, instance_rows, attempt_rows, sort_by, task_before, serial_before}
use Rattle.sched_model.specs.Changes.{with_graph}
use Rattle.sched_model.specs.Handout.{hand_out}
use Rattle.sched_model.specs.Settle.{settle}
use Rattle.sched_laws.proofs.AlikeLemmas.{AllDags}
use Rattle.sched_laws.proofs.BesideLemmas.{no_runs_after}
use Rattle.sched_laws.proofs.LoadLemmas.{found_after, dags_found}
use Rattle.sched_laws.proofs.PauseLemmas.{same_dag_paused}
use Rattle.record_restoring.specs.record_rules.Between.{lacked}
use Rattle.record_restoring.proofs.record_rules.NumberLemmas.{number_itself}
use Rattle.record_writing.specs.record_rules.Changes.{rows_between, same_meta_row, same_pool_row, same_dag_row, same_dag_limit_row, same_run_row, same_instance_row, same_attempt_row}
use Rattle.record_writing.specs.record_rules.Cells.{same_if}
use Rattle.record_writing.specs.Before.{AreNamedAlike}
use Rattle.record_writing.specs.Ranges.{FitsTables}
use Rattle.record_writing.proofs.LackedLemmas.{lacked_itself}
use Rattle.sched_draft.specs.Drafts.{HaveSameDags, SameDags}
use Rattle.record_writing.proofs.FitLemmas.{fits_tables}
use Rattle.record_writing.proofs.PremiseLemmas.{other_alike, pause_alike}
use Rattle.sched_core.specs.Effects.{changed, IsQuiet}
use Rattle.sched_core.specs.Inside.{IsOver, IsLast, LeavesDags, drafted, completed}
use Rattle.sched_core.specs.declared.changes.GraphChange.{GraphChange}
use Rattle.sched_core.specs.declared.changes.GraphChange.TheVariants as graphs

-- ---- rows of one run, over graphs that say the same of it
instances_over : (a : Schedule) (hs : List LoadedGraph) (rs : List Run) → HaveSameDags a.graphs hs rs → flat_map (instance_rows (record a { graphs = hs })) rs ≡ flat_map (instance_rows a) rs
instances_over a hs [] h = refl
instances_over a hs (r ∷ rs) h =
    ap (λ (d : Dag). sort_by task_before (map (instance_row r) (zip d.tasks r.instances)) ++ flat_map (instance_rows (record a { graphs = hs })) rs) (h zero r refl)
    ∙ ap (λ (xs : List InstanceRow). instance_rows a r ++ xs) (instances_over a hs rs (λ n q e. h (suc n) q e))

abbrev tries_over : List LoadedGraph → Run → List AttemptRow
tries_over gs r = flat_map (attempt_rows r) (zip (dag_among gs r.graph).tasks r.instances)

attempts_over : (gs hs : List LoadedGraph) (rs : List Run) → HaveSameDags gs hs rs → flat_map (tries_over hs) rs ≡ flat_map (tries_over gs) rs
attempts_over gs hs [] h = refl
attempts_over gs hs (r ∷ rs) h =
    ap (λ (d : Dag). flat_map (attempt_rows r) (zip d.tasks r.instances) ++ flat_map (tries_over hs) rs) (h zero r refl)
    ∙ ap (λ (xs : List AttemptRow). tries_over gs r ++ xs) (attempts_over gs hs rs (λ n q e. h (suc n) q e))

-- ---- the tables of a schedule over such graphs
pub same_instances : (a : Schedule) (hs : List LoadedGraph) → HaveSameDags a.graphs hs a.runs → (tables (record a { graphs = hs })).instances ≡ (tables a).instances
same_instances a hs h = instances_over a hs a.runs h

pub same_attempts : (a : Schedule) (hs : List LoadedGraph) → HaveSameDags a.graphs hs a.runs → (tables (record a { graphs = hs })).attempts ≡ (tables a).attempts
same_attempts a hs h = ap (sort_by serial_before) (attempts_over a.graphs hs a.runs h)

-- a schedule fits the columns over the graphs of before where it does over the others
pub fits_over : (a : Schedule) (hs : List LoadedGraph) → HaveSameDags a.graphs hs a.runs → FitsTables (record a { graphs = hs }) → FitsTables a
fits_over a hs h f = record {
  next = f.next;
  runs = f.runs;
  attempts = ap (rises serial_before) (sym (same_attempts a hs h)) ∙ f.attempts;
  tasks = λ n r e. ap (λ (d : Dag). repeats (ids_of d.tasks)) (sym (h n r e)) ∙ f.tasks n r e;
}

-- ---- rows that are equal to themselves
meta_itself : (x : MetaRow) → same_meta_row x x ≡ true
meta_itself x = and_from _ _ (number_itself x.one) (and_from _ _ (number_itself x.version) (and_from _ _ (number_itself x.now) (and_from _ _ (number_itself x.next_serial) (number_itself x.lanes))))

pool_itself : (x : PoolRow) → same_pool_row x x ≡ true
pool_itself x = and_from _ _ (same_itself x.name) (number_itself x.size)

run_itself : (x : RunRow) → same_run_row x x ≡ true
run_itself x = and_from _ _ (same_itself x.dag_id) (and_from _ _ (number_itself x.logical) (and_from _ _ (number_itself x.data_start) (and_from _ _ (number_itself x.data_end) (and_from _ _ (number_itself x.kind) (number_itself x.phase)))))

instance_itself : (x : InstanceRow) → same_instance_row x x ≡ true
instance_itself x = and_from _ _ (same_itself x.dag_id) (and_from _ _ (number_itself x.logical) (and_from _ _ (same_itself x.task_id) (and_from _ _ (number_itself x.verdict) (number_itself x.since))))

if_itself : (o : Option ℤ) → same_if o o ≡ true
if_itself None = refl
if_itself (Some x) = number_itself x

attempt_itself : (x : AttemptRow) → same_attempt_row x x ≡ true
attempt_itself x = and_from _ _ (number_itself x.serial) (and_from _ _ (same_itself x.dag_id) (and_from _ _ (number_itself x.logical) (and_from _ _ (same_itself x.task_id) (and_from _ _ (number_itself x.try_number)
    (and_from _ _ (number_itself x.slots) (and_from _ _ (if_itself x.started) (and_from _ _ (if_itself x.ended) (if_itself x.outcome))))))))

-- ---- all rows
-- these are the rows of graphs and of bounds that those lack
pub record AreRowsOf (gs hs : List LoadedGraph) (ds : List DagRow) (ls : List DagLimitRow) : Type 0 where
  pub dags : ds ≡ lacked same_dag_row (map dag_row gs) (map dag_row hs)
  pub limits : ls ≡ lacked same_dag_limit_row (map limit_row gs) (map limit_row hs)

-- where the rest stays, these rows alone differ
pub quiet_rows : (a : Schedule) (hs : List LoadedGraph) (ds : List DagRow) (ls : List DagLimitRow) → HaveSameDags a.graphs hs a.runs → AreRowsOf a.graphs hs ds ls
    → record { metas = []; pools = []; dags = ds; dag_limits = ls; runs = []; instances = []; attempts = [] } ≡ rows_between a (record a { graphs = hs })
quiet_rows a hs ds ls h e =
    let ms = lacked_itself same_meta_row meta_itself (tables a).metas in
    let ps = lacked_itself same_pool_row pool_itself (tables a).pools in
    let rs = lacked_itself same_run_row run_itself (tables a).runs in
    let is : lacked same_instance_row (tables a).instances (tables (record a { graphs = hs })).instances ≡ [] =
    ap (lacked same_instance_row (tables a).instances) (same_instances a hs h) ∙ lacked_itself same_instance_row instance_itself (tables a).instances in
    let ts : lacked same_attempt_row (tables a).attempts (tables (record a { graphs = hs })).attempts ≡ [] =
    ap (lacked same_attempt_row (tables a).attempts) (same_attempts a hs h) ∙ lacked_itself same_attempt_row attempt_itself (tables a).attempts in
    let d = e.dags in
    let l = e.limits in
    λ i. record { metas = sym ms i; pools = sym ps i; dags = d i; dag_limits = l i; runs = sym rs i; instances = sym is i; attempts = sym ts i }

-- else those that differ over the graphs of before, and these rows
pub rest_rows : (a b : Schedule) (hs : List LoadedGraph) (ds : List DagRow) (ls : List DagLimitRow) → HaveSameDags b.graphs hs b.runs → AreRowsOf a.graphs hs ds ls
    → record (rows_between a b) { dags = ds; dag_limits = ls } ≡ rows_between a (record b { graphs = hs })
rest_rows a b hs ds ls h e =
    let is = ap (lacked same_instance_row (tables a).instances) (same_instances b hs h) in
    let ts = ap (lacked same_attempt_row (tables a).attempts) (same_attempts b hs h) in
    let d = e.dags in
    let l = e.limits in
    λ i. record {
      metas = (rows_between a b).metas;
      pools = (rows_between a b).pools;
      dags = d i;
      dag_limits = l i;
      runs = (rows_between a b).runs;
      instances = sym is i;
      attempts = sym ts i;
    }

-- ---- changes of graphs that leave those of the runs
each_dag : (gs hs : List LoadedGraph) (rs : List Run) → AllDags gs hs rs → HaveSameDags gs hs rs
each_dag gs hs [] all n r e = absurd (let c : ◌≡◌ {A = Option Run} None (Some r) = e in cc)
each_dag gs hs (q ∷ rs) all zero r e = let c : ◌≡◌ {A = Option Run} (Some q) (Some r) = e in let k : q ≡ r = cc in subst (λ (p : Run). dag_among hs p.graph ≡ dag_among gs p.graph) k all.0
each_dag gs hs (q ∷ rs) all (suc n) r e = each_dag gs hs rs all.1 n r e

pub alike_dags : (g : GraphChange) (gs : List LoadedGraph) (b : Schedule) → IsQuiet g b → HaveSameDags gs (changed g gs) b.runs
alike_dags graphs.Same gs b quiet = λ n r e. refl
alike_dags (graphs.Load text dag shelf dates) gs b quiet = each_dag gs (with_graph text dag gs) b.runs (dags_found gs (with_graph text dag gs) b.runs (found_after text dag gs b.runs quiet))
alike_dags (graphs.Pause id paused) gs b quiet = λ n r e. same_dag_paused id paused gs r.graph
alike_dags (graphs.Replace graph shelves) gs b quiet = absurd quiet

pub last_after : (g : GraphChange) (b : Schedule) → IsLast g b → IsLast g (hand_out (settle b))
last_after graphs.Same b last = tt
last_after (graphs.Load text dag shelf dates) b last = no_runs_after b dag.spec.dag_id ∙ last
last_after (graphs.Pause id paused) b last = tt
last_after (graphs.Replace graph shelves) b last = tt

-- ---- a draft, and what it is made into
drafted_dags : (g : GraphChange) (gs : List LoadedGraph) (rs : List Run) → LeavesDags g → HaveSameDags gs (drafted g gs) rs
drafted_dags graphs.Same gs rs leaves = λ n r e. refl
drafted_dags (graphs.Load text dag shelf dates) gs rs leaves = λ n r e. refl
drafted_dags (graphs.Pause id paused) gs rs leaves = λ n r e. same_dag_paused id paused gs r.graph
drafted_dags (graphs.Replace graph shelves) gs rs leaves = absurd leaves

-- at each place a graph of the same id
drafted_ids : (g : GraphChange) (gs : List LoadedGraph) → AreNamedAlike gs (drafted g gs)
drafted_ids graphs.Same gs = refl
drafted_ids (graphs.Load text dag shelf dates) gs = refl
drafted_ids (graphs.Pause id paused) gs = pause_alike (Some id) paused gs
drafted_ids (graphs.Replace graph shelves) gs = other_alike (Some graph) gs

pub draft_ids : (g : GraphChange) (a d : Schedule) → IsOver g a d → AreNamedAlike a.graphs d.graphs
draft_ids g a d over = subst (AreNamedAlike a.graphs) (sym over.graphs) (drafted_ids g a.graphs)

drafted_alike : (g : GraphChange) (gs : List LoadedGraph) (b : Schedule) → IsLast g b → HaveSameDags (drafted g gs) (changed g gs) b.runs
drafted_alike graphs.Same gs b last = λ n r e. refl
drafted_alike (graphs.Load text dag shelf dates) gs b last = alike_dags (graphs.Load text dag shelf dates) gs b last
drafted_alike (graphs.Pause id paused) gs b last = λ n r e. refl
drafted_alike (graphs.Replace graph shelves) gs b last = λ n r e. refl

completed_over : (g : GraphChange) (a d : Schedule) → IsOver g a d → completed g d ≡ record d { graphs = changed g a.graphs }
completed_over graphs.Same a d over = ap (λ gs. record d { graphs = gs }) over.graphs
completed_over (graphs.Load text dag shelf dates) a d over = ap (λ gs. record d { graphs = with_graph text dag gs }) over.graphs
completed_over (graphs.Pause id paused) a d over = ap (λ gs. record d { graphs = gs }) over.graphs
completed_over (graphs.Replace graph shelves) a d over = ap (λ gs. record d { graphs = gs }) over.graphs

pub draft_dags : (g : GraphChange) (a d : Schedule) → LeavesDags g → IsOver g a d → SameDags a d
draft_dags g a d leaves over = subst (λ (gs : List LoadedGraph). HaveSameDags a.graphs gs d.runs) (sym over.graphs) (drafted_dags g a.graphs d.runs leaves)

draft_alike : (g : GraphChange) (a d : Schedule) → IsOver g a d → IsLast g d → HaveSameDags d.graphs (changed g a.graphs) d.runs
draft_alike g a d over last = subst (λ (gs : List LoadedGraph). HaveSameDags gs (changed g a.graphs) d.runs) (sym over.graphs) (drafted_alike g a.graphs d last)

pub draft_order : (g : GraphChange) (a d : Schedule) → IsOver g a d → IsSound (completed g d) → rises run_before d.runs ≡ true
draft_order g a d over sound = subst (λ (s : Schedule). rises run_before s.runs ≡ true) (completed_over g a d over) sound.runs_by_key

pub draft_fits : (g : GraphChange) (a d : Schedule) → IsOver g a d → IsLast g d → IsSound (completed g d) → FitsTables d
draft_fits g a d over last sound = fits_over d (changed g a.graphs) (draft_alike g a d over last) (subst FitsTables (completed_over g a d over) (fits_tables (completed g d) sound))

pub draft_rows : (g : GraphChange) (a d : Schedule) (ds : List DagRow) (ls : List DagLimitRow) → IsOver g a d → IsLast g d → AreRowsOf a.graphs (changed g a.graphs) ds ls
    → record (rows_between a d) { dags = ds; dag_limits = ls } ≡ rows_between a (completed g d)
draft_rows g a d ds ls over last e = rest_rows a d (changed g a.graphs) ds ls (draft_alike g a d over last) e ∙ ap (rows_between a) (sym (completed_over g a d over))
