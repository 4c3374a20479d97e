-- Where runs can start in what is made of a schedule in which no move is possible.
use Rattle.std.proofs.Common.{◌≡◌, ◌∙◌, refl, sym, ap, subst, ℕ, zero, suc, ◌+◌, List, [], ◌∷◌, ◌++◌, Bool, true, false, not, ◌&&◌, cond, count_by, slice_get, nat_lt, Option, Some, None, option_map, unwrap_or, true≢false, arith}
use Rattle.std.specs.List.{list_all}
use Rattle.std.proofs.lemmas.Bool.{and_from}
use Rattle.std.proofs.lemmas.List.Sums.{sum_by-cons}
use Rattle.graph_file.specs.Lists.{when}
use Rattle.sched_state.specs.Lists.{same}
use Rattle.sched_state.specs.declared.graphs.LoadedGraph.{LoadedGraph}
use Rattle.sched_state.specs.declared.runs.Run.{Run}
use Rattle.sched_state.specs.declared.runs.RunPhase.TheVariants.{Running}
use Rattle.sched_state.proofs.NameLemmas.{same_is, same_itself}
use Rattle.sched_state.proofs.OrderLemmas.{and_left, and_right, not_false}
use Rattle.sched_model.specs.Schedule.{Schedule, graph_among, graph_named, is_queued, is_running, no_dag}
use Rattle.sched_model.specs.Settle.{can_start, move, start_run}
use Rattle.sched_model.specs.States.{active_runs}
use Rattle.sched_laws.specs.Stages.{CoversStarts}
use Rattle.sched_laws.proofs.DecisionLemmas.{by_bool}
use Rattle.sched_laws.proofs.SettleLemmas.{when_some}
use Rattle.sched_settling.specs.Marks.{HasLineOf, has_line, ids_of}
use Rattle.sched_settling.specs.Touched.{AreFresh, HaveLinesOf, Mark, Kept, Changed, Added, Over, is_active, is_marked, replaced_of, touched_of}
use Rattle.sched_settling.specs.declared.lines.GraphRuns.{GraphRuns}
use Rattle.sched_settling.proofs.AmongLemmas.{among, all_from}
use Rattle.sched_settling.proofs.CarryLemmas.{touched_has}
use Rattle.sched_settling.proofs.LineLemmas.{start_place}
use Rattle.sched_settling.proofs.TouchedLemmas.{base_at, counted_over, kept_at, no_start}

-- what holds of the graphs of all touched runs holds of those of the runs that were there for them
replaced_all : (q : List ℕ → Bool) (ms : List Mark) (a b : List Run) → Over ms a b → list_all (λ (s : Run). q s.graph) (touched_of ms b) ≡ true → list_all (λ (s : Run). q s.graph) (replaced_of ms a) ≡ true
replaced_all q [] [] [] o h = refl
replaced_all q [] [] (s ∷ b) o h = absurd o
replaced_all q [] (r ∷ a) b o h = absurd o
replaced_all q (Kept ∷ ms) [] b o h = absurd o
replaced_all q (Kept ∷ ms) (r ∷ a) [] o h = absurd o
replaced_all q (Kept ∷ ms) (r ∷ a) (s ∷ b) o h = replaced_all q ms a b o.1 h
replaced_all q (Changed ∷ ms) [] b o h = absurd o
replaced_all q (Changed ∷ ms) (r ∷ a) [] o h = absurd o
replaced_all q (Changed ∷ ms) (r ∷ a) (s ∷ b) o h = and_from (q r.graph) _ (ap q (sym o.0) ∙ and_left _ _ h) (replaced_all q ms a b o.1.1 (and_right (q s.graph) _ h))
replaced_all q (Added ∷ ms) a [] o h = absurd o
replaced_all q (Added ∷ ms) a (s ∷ b) o h = replaced_all q ms a b o (and_right (q s.graph) _ h)

-- runs of other graphs count for nothing
none_active : (id : List ℕ) (rs : List Run) → list_all (λ (s : Run). not (same s.graph id)) rs ≡ true → count_by (is_active id) rs ≡ 0
none_active id [] h = refl
none_active id (r ∷ rs) h =
    let off : same r.graph id ≡ false = not_false (same r.graph id) (and_left _ _ h) in
    let one : ◌≡◌ {A = ℕ} (cond (is_active id r) 1 0) 0 = ap (λ b. cond (b && is_running r.phase) 1 0) off in
    let rest : count_by (is_active id) rs ≡ 0 = none_active id rs (and_right (not (same r.graph id)) _ h) in
    let all = sum_by-cons (λ (x : Run). cond (is_active id x) 1 0) r rs in
    omega (arith, all, one, rest)

-- whether a run can start, by the graphs and the count of its graph's running runs
abbrev can_with : List LoadedGraph → ℕ → Run → Bool
can_with gs n r =
    is_queued r.phase && (not (unwrap_or (option_map (λ (g : LoadedGraph). g.paused) (graph_among gs r.graph)) false) && nat_lt n (unwrap_or (option_map (λ (g : LoadedGraph). g.dag) (graph_among gs r.graph)) no_dag).spec.max_active_runs)

-- a run that can start is of the graph of a touched run
pub touched_startings : (a b : Schedule) (ms : List Mark) (marked : List ℕ → Bool) → move a ≡ None → Over ms a.runs b.runs → b.graphs ≡ a.graphs
    → ((k : ℕ) (s : Run) → slice_get (touched_of ms b.runs) k ≡ Some s → (g : LoadedGraph) → graph_named b s.graph ≡ Some g → marked s.graph ≡ true) → CoversStarts marked b
touched_startings a b ms marked still o graphs all n r q there f = by_bool {C = marked r.graph ≡ true} (marked r.graph)
    (λ yes. yes)
    (λ off. absurd (
    let can : can_start b r ≡ true = (when_some (can_start b r) (record r { phase = Running }) q f).0 in
    let place = start_place b r can in
    let none : (k : ℕ) (s : Run) → slice_get (touched_of ms b.runs) k ≡ Some s → same s.graph r.graph ≡ false =
    λ k s e. by_bool {C = same s.graph r.graph ≡ false} (same s.graph r.graph)
    (λ g. let i : s.graph ≡ r.graph = same_is s.graph r.graph g in absurd (true≢false (sym (all k s e place.graph (ap (graph_named b) i ∙ place.found)) ∙ (ap marked i ∙ off))))
    (λ g. g) in
    let apart : list_all (λ (s : Run). not (same s.graph r.graph)) (touched_of ms b.runs) ≡ true = all_from (λ (s : Run). not (same s.graph r.graph)) (touched_of ms b.runs) (λ k s e. ap not (none k s e)) in
    let kept : is_marked ms n ≡ false = by_bool {C = is_marked ms n ≡ false} (is_marked ms n)
    (λ g. let t = touched_has ms b.runs n r g there in absurd (true≢false (sym (same_itself r.graph) ∙ none t.0 r t.1)))
    (λ g. g) in
    let new : count_by (is_active r.graph) (touched_of ms b.runs) ≡ 0 = none_active r.graph (touched_of ms b.runs) apart in
    let old : count_by (is_active r.graph) (replaced_of ms a.runs) ≡ 0 = none_active r.graph (replaced_of ms a.runs) (replaced_all (λ i. not (same i r.graph)) ms a.runs b.runs o apart) in
    let count = counted_over (is_active r.graph) ms a.runs b.runs o in
    let active : active_runs a r.graph ≡ active_runs b r.graph = omega (arith, count, new, old) in
    let was : can_start a r ≡ true = ap (λ k. can_with a.graphs k r) active ∙ (ap (λ gs. can_with gs (active_runs b r.graph) r) (sym graphs) ∙ can) in
    let quiet : start_run a r ≡ None = no_start a still (base_at ms n) r (kept_at ms a.runs b.runs n o kept ∙ there) in
    let c : ◌≡◌ {A = Option Run} (Some (record r { phase = Running })) None = sym (ap (λ x. when x (record r { phase = Running })) was) ∙ quiet in
    cc))

-- where there is a line of the graph of each touched run
pub these_startings : (a b : Schedule) (ms : List Mark) (ls ks : List GraphRuns) → move a ≡ None → Over ms a.runs b.runs → b.graphs ≡ a.graphs → ids_of ks ≡ ids_of ls → HaveLinesOf b (touched_of ms b.runs) ls → CoversStarts (has_line ks) b
these_startings a b ms ls ks still o graphs ids all =
    touched_startings a b ms (has_line ks) still o graphs (λ k s e g named. ap (λ js. among js s.graph) ids ∙ all k s e g named)

-- ---- lines that are made one after another
pub none_fresh : (a : Schedule) (ls : List GraphRuns) → ls ≡ [] → AreFresh a ls
none_fresh a ls empty n l e = absurd (let c : ◌≡◌ {A = Option GraphRuns} None (Some l) = sym (ap (λ (ks : List GraphRuns). slice_get ks n) empty) ∙ e in cc)

-- of one run more
pub more_lines : (a : Schedule) (rs : List Run) (r : Run) (ls ms : List GraphRuns) → HaveLinesOf a rs ls → ((i : List ℕ) → has_line ls i ≡ true → has_line ms i ≡ true) → HasLineOf a r.graph ms → HaveLinesOf a (rs ++ r ∷ []) ms
more_lines a [] r ls ms all kept here zero q e = let c : ◌≡◌ {A = Option Run} (Some r) (Some q) = e in let is : r ≡ q = cc in subst (λ (x : Run). HasLineOf a x.graph ms) is here
more_lines a [] r ls ms all kept here (suc n) q e = absurd (let c : ◌≡◌ {A = Option Run} None (Some q) = e in cc)
more_lines a (x ∷ rs) r ls ms all kept here zero q e = λ g named. kept q.graph (all 0 q e g named)
more_lines a (x ∷ rs) r ls ms all kept here (suc n) q e = more_lines a rs r ls ms (λ k p f. all (suc k) p f) kept here n q e
