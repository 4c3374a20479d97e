-- The rows of graphs and of their bounds that a change of them makes differ.
use Rattle.std.proofs.Common.{◌≡◌, refl, ap, subst, ◌∙◌, ℕ, zero, suc, List, [], ◌∷◌, Bool, true, false, not, cond, map, filter, None, Some, slice_get, pos, option_map, unwrap_or}
use Rattle.std.specs.List.{list_any}
use Rattle.std.proofs.lemmas.Bool.{and_from}
use Rattle.dag_check.specs.Graphs.{Dag}
use Rattle.record_rows.specs.Rows.{DagRow, DagLimitRow}
use Rattle.sched_state.specs.Lists.{same, insert_by}
use Rattle.sched_state.specs.declared.graphs.LoadedGraph.{LoadedGraph}
use Rattle.sched_state.proofs.NameLemmas.{same_itself, same_is}
use Rattle.sched_model.specs.Changes.{pause_graph, reloaded, taken_in, with_text, new_graph, with_graph}
use Rattle.sched_model.specs.Lists.{rises}
use Rattle.sched_model.specs.Schedule.{graph_before, graph_among}
use Rattle.sched_model.specs.Tables.{dag_row, limit_row, flag_code}
use Rattle.sched_laws.proofs.GraphLemmas.{reloaded_other, flip_same}
use Rattle.sched_laws.proofs.LoadLemmas.{before_apart, reloaded_named}
use Rattle.record_restoring.specs.record_rules.Between.{lacked}
use Rattle.record_restoring.proofs.record_rules.ListLemmas.{once_rising}
use Rattle.record_restoring.proofs.record_rules.MemberLemmas.{map_get}
use Rattle.record_restoring.proofs.record_rules.NumberLemmas.{number_itself}
use Rattle.record_writing.specs.record_rules.Changes.{same_dag_row, same_dag_limit_row}
use Rattle.record_writing.proofs.KeyLemmas.{any_get, found_by}
use Rattle.record_writing.proofs.CollectLemmas.{lacked_there}
use Rattle.sched_draft.proofs.SearchLemmas.{unfound}
use Rattle.sched_core.specs.Inside.{taken_among}
use Rattle.sched_draft.specs.Parts.{replaced_with, with_other}
use Rattle.sched_core.proofs.OtherLemmas.{other_apart, other_named}

pub row_itself : (x : DagRow) → same_dag_row x x ≡ true
row_itself x = and_from _ _ (same_itself x.dag_id) (and_from _ _ (same_itself x.body) (number_itself x.paused))

pub limit_itself : (x : DagLimitRow) → same_dag_limit_row x x ≡ true
limit_itself x = and_from _ _ (same_itself x.dag_id) (number_itself x.max_active_tasks)

-- one graph has an id
one_named : (gs : List LoadedGraph) (id : List ℕ) (g : LoadedGraph) → rises graph_before gs ≡ true → graph_among gs id ≡ Some g → filter (λ (h : LoadedGraph). same h.dag.spec.dag_id id) gs ≡ g ∷ []
one_named gs id g s e =
    let f = found_by (λ (h : LoadedGraph). same h.dag.spec.dag_id id) gs g e in
    let q : g.dag.spec.dag_id ≡ id = same_is g.dag.spec.dag_id id f.2 in
    subst (λ (n : List ℕ). filter (λ (h : LoadedGraph). same h.dag.spec.dag_id n) gs ≡ g ∷ []) q
    (once_rising graph_before (λ (x y : LoadedGraph). same y.dag.spec.dag_id x.dag.spec.dag_id) (λ x. same_itself x.dag.spec.dag_id)
    (λ u v b. flip_same u.dag.spec.dag_id v.dag.spec.dag_id (before_apart u v b)) (λ u v b. before_apart u v b) gs f.0 g s f.1)

none_named : (gs : List LoadedGraph) (p : LoadedGraph → Bool) → ((n : ℕ) (g : LoadedGraph) → slice_get gs n ≡ Some g → p g ≡ false) → filter p gs ≡ []
none_named [] p h = refl
none_named (g ∷ gs) p h = ap (λ b. cond b (g ∷ filter p gs) (filter p gs)) (h zero g refl) ∙ none_named gs p (λ n k e. h (suc n) k e)

other_pause : (id : List ℕ) (paused : Bool) (h : LoadedGraph) → same h.dag.spec.dag_id id ≡ false → pause_graph id paused h ≡ h
other_pause id paused h k = ap (λ (b : Bool). cond b (record h { paused = paused }) h) k

-- ---- rows of graphs of one kind, of which each is told from others
module _ {R : Type 0} (told : R → R → Bool) (row : LoadedGraph → R) (itself : (x : R) → told x x ≡ true) where
  -- each of them has its row among theirs
  own_row : (gs : List LoadedGraph) (n : ℕ) (g : LoadedGraph) → slice_get gs n ≡ Some g → list_any (told (row g)) (map row gs) ≡ true
  own_row gs n g e = any_get (told (row g)) (map row gs) n (row g) (map_get row gs n g e) (itself (row g))

  -- a change of those that pass a test
  changed_alone : (all : List R) (f : LoadedGraph → LoadedGraph) (p : LoadedGraph → Bool) → ((g : LoadedGraph) → p g ≡ false → f g ≡ g) → (gs : List LoadedGraph)
      → ((n : ℕ) (g : LoadedGraph) → slice_get gs n ≡ Some g → list_any (told (row g)) all ≡ true) → lacked told all (map row (map f gs)) ≡ lacked told all (map row (map f (filter p gs)))
  changed_alone all f p h [] holds = refl
  changed_alone all f p h (g ∷ gs) holds =
      let rest : lacked told all (map row (map f gs)) ≡ lacked told all (map row (map f (filter p gs))) = changed_alone all f p h gs (λ n k e. holds (suc n) k e) in
      elim (p g) as (λ b. p g ≡ b → lacked told all (map row (map f (g ∷ gs))) ≡ lacked told all (map row (map f (cond b (g ∷ filter p gs) (filter p gs))))) [
        | true ↦ λ e. ap (λ (zs : List R). cond (not (list_any (told (row (f g))) all)) (row (f g) ∷ zs) zs) rest
        | false ↦ λ e. lacked_there told all (row (f g)) (map row (map f gs)) (ap (λ (k : LoadedGraph). list_any (told (row k)) all) (h g e) ∙ holds zero g refl) ∙ rest
      ] refl

  -- a change of one graph
  loaded_row : (gs : List LoadedGraph) (text : List ℕ) (dag : Dag) (g : LoadedGraph) → rises graph_before gs ≡ true → graph_among gs dag.spec.dag_id ≡ Some g
      → lacked told (map row gs) (map row (map (reloaded text dag) gs)) ≡ lacked told (map row gs) (row (with_text text dag g) ∷ [])
  loaded_row gs text dag g s e =
      let p : LoadedGraph → Bool = λ h. same h.dag.spec.dag_id dag.spec.dag_id in
      let f = found_by p gs g e in
      changed_alone (map row gs) (reloaded text dag) p (λ h k. reloaded_other text dag h k) gs (own_row gs)
      ∙ ap (λ hs. lacked told (map row gs) (map row (map (reloaded text dag) hs))) (one_named gs dag.spec.dag_id g s e)
      ∙ ap (λ h. lacked told (map row gs) (row h ∷ [])) (reloaded_named text dag g f.2)

  pub paused_one : (gs : List LoadedGraph) (id : List ℕ) (paused : Bool) (g : LoadedGraph) → rises graph_before gs ≡ true → graph_among gs id ≡ Some g
      → lacked told (map row gs) (map row (map (pause_graph id paused) gs)) ≡ lacked told (map row gs) (row (record g { paused = paused }) ∷ [])
  paused_one gs id paused g s e =
      let p : LoadedGraph → Bool = λ h. same h.dag.spec.dag_id id in
      let f = found_by p gs g e in
      changed_alone (map row gs) (pause_graph id paused) p (other_pause id paused) gs (own_row gs)
      ∙ ap (λ hs. lacked told (map row gs) (map row (map (pause_graph id paused) hs))) (one_named gs id g s e)
      ∙ ap (λ (b : Bool). lacked told (map row gs) (row (cond b (record g { paused = paused }) g) ∷ [])) f.2

  pub paused_none : (gs : List LoadedGraph) (id : List ℕ) (paused : Bool) → graph_among gs id ≡ None → lacked told (map row gs) (map row (map (pause_graph id paused) gs)) ≡ []
  paused_none gs id paused e =
      let p : LoadedGraph → Bool = λ h. same h.dag.spec.dag_id id in
      changed_alone (map row gs) (pause_graph id paused) p (other_pause id paused) gs (own_row gs)
      ∙ ap (λ hs. lacked told (map row gs) (map row (map (pause_graph id paused) hs))) (none_named gs p (unfound p gs e))

  -- another graph in the place of one
  pub other_one : (gs : List LoadedGraph) (k g : LoadedGraph) → rises graph_before gs ≡ true → graph_among gs k.dag.spec.dag_id ≡ Some g
      → lacked told (map row gs) (map row (with_other (Some k) gs)) ≡ lacked told (map row gs) (row k ∷ [])
  other_one gs k g s e =
      let p : LoadedGraph → Bool = λ h. same h.dag.spec.dag_id k.dag.spec.dag_id in
      let f = found_by p gs g e in
      changed_alone (map row gs) (replaced_with (Some k)) p (λ h a. other_apart k h a) gs (own_row gs)
      ∙ ap (λ hs. lacked told (map row gs) (map row (map (replaced_with (Some k)) hs))) (one_named gs k.dag.spec.dag_id g s e)
      ∙ ap (λ h. lacked told (map row gs) (row h ∷ [])) (other_named k g f.2)

  pub other_none : (gs : List LoadedGraph) (k : LoadedGraph) → graph_among gs k.dag.spec.dag_id ≡ None → lacked told (map row gs) (map row (with_other (Some k) gs)) ≡ []
  other_none gs k e =
      let p : LoadedGraph → Bool = λ h. same h.dag.spec.dag_id k.dag.spec.dag_id in
      changed_alone (map row gs) (replaced_with (Some k)) p (λ h a. other_apart k h a) gs (own_row gs)
      ∙ ap (λ hs. lacked told (map row gs) (map row (map (replaced_with (Some k)) hs))) (none_named gs p (unfound p gs e))

  -- graphs that stay
  same_rows : (all : List R) (gs : List LoadedGraph) → ((n : ℕ) (g : LoadedGraph) → slice_get gs n ≡ Some g → list_any (told (row g)) all ≡ true) → lacked told all (map row gs) ≡ []
  same_rows all [] holds = refl
  same_rows all (g ∷ gs) holds = lacked_there told all (row g) (map row gs) (holds zero g refl) ∙ same_rows all gs (λ n k e. holds (suc n) k e)

  pub no_rows : (gs : List LoadedGraph) → lacked told (map row gs) (map row gs) ≡ []
  no_rows gs = same_rows (map row gs) gs (own_row gs)

  -- a graph that is put in
  put_in : (all : List R) (x : LoadedGraph) (gs : List LoadedGraph) → ((n : ℕ) (g : LoadedGraph) → slice_get gs n ≡ Some g → list_any (told (row g)) all ≡ true)
      → lacked told all (map row (insert_by graph_before x gs)) ≡ lacked told all (row x ∷ [])
  put_in all x [] holds = refl
  put_in all x (g ∷ gs) holds = elim (graph_before x g) as (λ b. lacked told all (map row (elim b as (λ c. List LoadedGraph) [ true ↦ x ∷ g ∷ gs | false ↦ g ∷ insert_by graph_before x gs ])) ≡ lacked told all (row x ∷ [])) [
    | true ↦ ap (λ (zs : List R). cond (not (list_any (told (row x)) all)) (row x ∷ zs) zs) (same_rows all (g ∷ gs) holds)
    | false ↦ lacked_there told all (row g) (map row (insert_by graph_before x gs)) (holds zero g refl) ∙ put_in all x gs (λ n k e. holds (suc n) k e)
  ]

  -- a text is taken in
  pub text_row : (gs : List LoadedGraph) (text : List ℕ) (dag : Dag) → rises graph_before gs ≡ true
      → lacked told (map row gs) (map row (with_graph text dag gs)) ≡ lacked told (map row gs) (row (taken_among text dag (graph_among gs dag.spec.dag_id)) ∷ [])
  text_row gs text dag s =
      elim (graph_among gs dag.spec.dag_id) as (λ o. graph_among gs dag.spec.dag_id ≡ o → lacked told (map row gs) (map row (elim o as (λ p. List LoadedGraph) [
        | Some g ↦ map (reloaded text dag) gs
        | None ↦ insert_by graph_before (new_graph text dag) gs
      ])) ≡ lacked told (map row gs) (row (taken_among text dag o) ∷ [])) [
        | Some g ↦ λ e. loaded_row gs text dag g s e
        | None ↦ λ e. put_in (map row gs) (new_graph text dag) gs (own_row gs)
      ] refl

-- ---- the rows of a graph that takes a text in
abbrev pub paused_among : List LoadedGraph → List ℕ → Bool
paused_among gs id = unwrap_or (option_map (λ (g : LoadedGraph). g.paused) (graph_among gs id)) false

text_parts : (text : List ℕ) (dag : Dag) (g : LoadedGraph) → same g.dag.spec.dag_id dag.spec.dag_id ≡ true
    → (dag_row (with_text text dag g) ≡ record { dag_id = dag.spec.dag_id; body = text; paused = pos (flag_code g.paused) }) × ((with_text text dag g).dag.spec.dag_id ≡ dag.spec.dag_id)
text_parts text dag g named =
    elim (same g.text text) as (λ b. same g.text text ≡ b → (let h : LoadedGraph = cond b g (taken_in text dag g) in
    (dag_row h ≡ record { dag_id = dag.spec.dag_id; body = text; paused = pos (flag_code g.paused) }) × (h.dag.spec.dag_id ≡ dag.spec.dag_id))) [
      | true ↦ λ e.
          let id_is : g.dag.spec.dag_id ≡ dag.spec.dag_id = same_is g.dag.spec.dag_id dag.spec.dag_id named in (
            ap (λ (n : List ℕ). let r : DagRow = record { dag_id = n; body = g.text; paused = pos (flag_code g.paused) } in r) id_is
                ∙ ap (λ (t : List ℕ). let r : DagRow = record { dag_id = dag.spec.dag_id; body = t; paused = pos (flag_code g.paused) } in r) (same_is g.text text e),
            id_is,
          )
      | false ↦ λ e. (refl, refl)
    ] refl

pub taken_parts : (gs : List LoadedGraph) (text : List ℕ) (dag : Dag)
    → (let h : LoadedGraph = taken_among text dag (graph_among gs dag.spec.dag_id) in
    (dag_row h ≡ record { dag_id = dag.spec.dag_id; body = text; paused = pos (flag_code (paused_among gs dag.spec.dag_id)) }) × (h.dag.spec.dag_id ≡ dag.spec.dag_id))
taken_parts gs text dag =
    elim (graph_among gs dag.spec.dag_id) as (λ o. graph_among gs dag.spec.dag_id ≡ o → (let h : LoadedGraph = taken_among text dag o in
    (dag_row h ≡ record { dag_id = dag.spec.dag_id; body = text; paused = pos (flag_code (unwrap_or (option_map (λ (g : LoadedGraph). g.paused) o) false)) }) × (h.dag.spec.dag_id ≡ dag.spec.dag_id))) [
      | Some g ↦ λ e. text_parts text dag g (found_by (λ (h : LoadedGraph). same h.dag.spec.dag_id dag.spec.dag_id) gs g e).2
      | None ↦ λ e. (refl, refl)
    ] refl

pub dag_text_row : (gs : List LoadedGraph) (text : List ℕ) (dag : Dag) → rises graph_before gs ≡ true
    → lacked same_dag_row (map dag_row gs) (map dag_row (with_graph text dag gs)) ≡ lacked same_dag_row (map dag_row gs) (record { dag_id = dag.spec.dag_id; body = text; paused = pos (flag_code (paused_among gs dag.spec.dag_id)) } ∷ [])
dag_text_row gs text dag s = text_row same_dag_row dag_row row_itself gs text dag s ∙ ap (λ (r : DagRow). lacked same_dag_row (map dag_row gs) (r ∷ [])) (taken_parts gs text dag).0

pub limit_text_row : (gs : List LoadedGraph) (text : List ℕ) (dag : Dag) → rises graph_before gs ≡ true
    → lacked same_dag_limit_row (map limit_row gs) (map limit_row (with_graph text dag gs))
    ≡ lacked same_dag_limit_row (map limit_row gs) (record { dag_id = dag.spec.dag_id; max_active_tasks = pos (taken_among text dag (graph_among gs dag.spec.dag_id)).max_active_tasks } ∷ [])
limit_text_row gs text dag s =
    text_row same_dag_limit_row limit_row limit_itself gs text dag s
    ∙ ap (λ (n : List ℕ). lacked same_dag_limit_row (map limit_row gs) (record { dag_id = n; max_active_tasks = pos (taken_among text dag (graph_among gs dag.spec.dag_id)).max_active_tasks } ∷ [])) (taken_parts gs text dag).1

-- ---- the rows of a graph that is paused or not
pub paused_row : (gs : List LoadedGraph) (id : List ℕ) (paused : Bool) (g : LoadedGraph) → rises graph_before gs ≡ true → graph_among gs id ≡ Some g
    → lacked same_dag_row (map dag_row gs) (map dag_row (map (pause_graph id paused) gs)) ≡ lacked same_dag_row (map dag_row gs) (record { dag_id = id; body = g.text; paused = pos (flag_code paused) } ∷ [])
paused_row gs id paused g s e =
    let named : g.dag.spec.dag_id ≡ id = same_is g.dag.spec.dag_id id (found_by (λ (h : LoadedGraph). same h.dag.spec.dag_id id) gs g e).2 in
    paused_one same_dag_row dag_row row_itself gs id paused g s e
    ∙ ap (λ (n : List ℕ). lacked same_dag_row (map dag_row gs) (record { dag_id = n; body = g.text; paused = pos (flag_code paused) } ∷ [])) named

paused_limit : (id : List ℕ) (paused : Bool) (g : LoadedGraph) → limit_row (pause_graph id paused g) ≡ limit_row g
paused_limit id paused g = elim (same g.dag.spec.dag_id id) as (λ b. limit_row (cond b (record g { paused = paused }) g) ≡ limit_row g) [ true ↦ refl | false ↦ refl ]

-- a pause leaves the bounds
pub paused_limits : (id : List ℕ) (paused : Bool) (gs : List LoadedGraph) → map limit_row (map (pause_graph id paused) gs) ≡ map limit_row gs
paused_limits id paused [] = refl
paused_limits id paused (g ∷ gs) = ap (λ r. r ∷ map limit_row (map (pause_graph id paused) gs)) (paused_limit id paused g) ∙ ap (λ rs. limit_row g ∷ rs) (paused_limits id paused gs)
