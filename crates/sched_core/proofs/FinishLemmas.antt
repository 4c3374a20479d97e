-- A draft that is settled and handed out stays over the same limits and graphs, and its numbers are true.
use Rattle.std.proofs.Common.{◌≡◌, ◌∙◌, refl, sym, ap, subst, ℕ, ◌≤◌, List, Some, true, arith}
use Rattle.sched_state.specs.Limits.{Bounds}
use Rattle.sched_state.specs.declared.graphs.LoadedGraph.{LoadedGraph}
use Rattle.sched_state.specs.declared.runs.Run.{Run}
use Rattle.sched_model.specs.Schedule.{Schedule, Pool}
use Rattle.sched_model.specs.Settle.{move, move_runs, with_runs, moves_left, settle}
use Rattle.sched_model.specs.Handout.{hand, hand_one, best_offer, serials_left, hand_out}
use Rattle.sched_laws.proofs.SettleLemmas.{map_some}
use Rattle.sched_laws.proofs.BesideLemmas.{no_runs_after}
use Rattle.sched_laws.proofs.LoadLemmas.{load_open}
use Rattle.sched_events.proofs.StepLemmas.{repeat_keeps, settle_graphs, out_graphs, without_settled}
use Rattle.sched_model.specs.Sound.{IsSound}
use Rattle.sched_draft.specs.Books.{pools_in}
use Rattle.sched_draft.specs.Drafts.{DraftValue}
use Rattle.run_lists.specs.Edits.{AreEditsOf, edited}
use Rattle.record_rows.specs.Rows.{Rows}
use Rattle.record_writing.specs.record_rules.Changes.{rows_between}
use Rattle.sched_events.specs.SettledAndSound.{IsSettledAndSound}
use Rattle.sched_handout.specs.Occupied.{AreOccupied}
use Rattle.sched_handout.specs.declared.occupied.Occupied.{Occupied}
use Rattle.sched_core.specs.Books.{IsCounted, IsHeldWith}
use Rattle.sched_core.proofs.BookLemmas.{counted_same, end_counted, occupied_as}
use Rattle.sched_laws.proofs.SlotLemmas.{open_settled}
use Rattle.sched_core.specs.Inside.{IsOver, IsLast, drafted, completed}
use Rattle.sched_core.proofs.EffectLemmas.{completed_last}
use Rattle.sched_core.specs.Effects.{changed, applied, with_rest, HoldsAfter, IsEffect, IsRestOf, IsFitted}
use Rattle.sched_core.specs.declared.changes.Rest.{Rest}
use Rattle.std.specs.Global.{Vec}
use Rattle.sched_ready.specs.Patched.{patched}
use Rattle.sched_ready.specs.declared.patches.Patch.{Patch}
use Rattle.sched_ready.specs.Held.{AreShelvesOf}
use Rattle.sched_ready.specs.Shelves.{ShelfValue}
use Rattle.sched_core.specs.declared.changes.GraphChange.{GraphChange}
use Rattle.sched_core.specs.declared.changes.GraphChange.TheVariants as graphs
use Rattle.sched_model.specs.States.{open_tries}

move_limits : (a b : Schedule) → move a ≡ Some b → b.limits ≡ a.limits
move_limits a b e = let t = map_some (with_runs a) (move_runs a) b e in ap (λ (c : Schedule). c.limits) (sym t.2)

hand_limits : (a b : Schedule) → hand_one a ≡ Some b → b.limits ≡ a.limits
hand_limits a b e = let t = map_some (hand a) (best_offer a) b e in ap (λ (c : Schedule). c.limits) (sym t.2)

finished_limits : (b : Schedule) → (hand_out (settle b)).limits ≡ b.limits
finished_limits b =
    repeat_keeps (λ (c : Schedule). c.limits) hand_one hand_limits (serials_left (settle b)) (settle b) ∙ repeat_keeps (λ (c : Schedule). c.limits) move move_limits (moves_left b) b

-- with a text that is taken in last
completed_by : (g : GraphChange) (a : Schedule) (qs : List Pool) (now lanes next : ℕ) (runs : List Run)
    → record a { graphs = changed g a.graphs; pools = qs; now = now; lanes = lanes; next = next; runs = runs } ≡ completed g (record a { graphs = drafted g a.graphs; pools = qs; now = now; lanes = lanes; next = next; runs = runs })
completed_by graphs.Same a qs now lanes next runs = refl
completed_by (graphs.Load text dag shelf dates) a qs now lanes next runs = refl
completed_by (graphs.Pause id paused) a qs now lanes next runs = refl
completed_by (graphs.Replace graph shelves) a qs now lanes next runs = refl

completed_open : (g : GraphChange) (b : Schedule) → IsLast g b → open_tries (completed g (hand_out (settle b))) ≡ open_tries (hand_out (settle b))
completed_open graphs.Same b last = refl
completed_open (graphs.Load text dag shelf dates) b last = load_open text dag (hand_out (settle b)) (no_runs_after b dag.spec.dag_id ∙ last)
completed_open (graphs.Pause id paused) b last = refl
completed_open (graphs.Replace graph shelves) b last = refl

completed_pools : (g : GraphChange) (b : Schedule) → (completed g b).pools ≡ b.pools
completed_pools graphs.Same b = refl
completed_pools (graphs.Load text dag shelf dates) b = refl
completed_pools (graphs.Pause id paused) b = refl
completed_pools (graphs.Replace graph shelves) b = refl

-- settling leaves the next serial
move_next : (a b : Schedule) → move a ≡ Some b → b.next ≡ a.next
move_next a b e = let t = map_some (with_runs a) (move_runs a) b e in ap (λ (c : Schedule). c.next) (sym t.2)

pub settled_next : (b : Schedule) → (settle b).next ≡ b.next
settled_next b = repeat_keeps (λ (c : Schedule). c.next) move move_next (moves_left b) b

-- and the numbers
move_pools : (a b : Schedule) → move a ≡ Some b → b.pools ≡ a.pools
move_pools a b e = let t = map_some (with_runs a) (move_runs a) b e in ap (λ (c : Schedule). c.pools) (sym t.2)

pub settled_occupied : (b : Schedule) (t : Occupied) → AreOccupied b t → AreOccupied (settle b) t
settled_occupied b t h = occupied_as b (settle b) t t (open_settled b) (repeat_keeps (λ (c : Schedule). c.pools) move move_pools (moves_left b) b) refl refl refl h

-- and those of the hand-outs are true of what is completed
pub finished_held : (g : GraphChange) (b : Schedule) (t : Occupied) → IsSound b → IsCounted b → IsLast g b → IsSettledAndSound (completed g (hand_out (settle b))) → AreOccupied (hand_out (settle b)) t
    → IsHeldWith true (completed g (hand_out (settle b))) t
finished_held g b t sound counted last kept numbers =
    let end : Schedule = hand_out (settle b) in
    let tries = completed_open g b last in
    record {
      kept = without_settled (completed g end) kept;
      settled = λ known. record { settled = kept.settled; handed = kept.handed };
      counted = counted_same end (completed g end) tries (end_counted b sound counted);
      occupied = occupied_as end (completed g end) t t tries (completed_pools g end) refl refl refl numbers;
    }

pub finished_over : (g : GraphChange) (a b : Schedule) → IsOver g a b → IsOver g a (hand_out (settle b))
finished_over g a b over = record { limits = finished_limits b ∙ over.limits; graphs = out_graphs (settle b) ∙ (settle_graphs b ∙ over.graphs) }

pub settled_over : (g : GraphChange) (a b : Schedule) → IsOver g a b → IsOver g a (settle b)
settled_over g a b over = record { limits = repeat_keeps (λ (c : Schedule). c.limits) move move_limits (moves_left b) b ∙ over.limits; graphs = settle_graphs b ∙ over.graphs }

-- neither settling nor hand-outs move the clock
move_now : (a b : Schedule) → move a ≡ Some b → b.now ≡ a.now
move_now a b e = let t = map_some (with_runs a) (move_runs a) b e in ap (λ (c : Schedule). c.now) (sym t.2)

hand_now : (a b : Schedule) → hand_one a ≡ Some b → b.now ≡ a.now
hand_now a b e = let t = map_some (hand a) (best_offer a) b e in ap (λ (c : Schedule). c.now) (sym t.2)

pub settled_later : (a b : Schedule) → a.now ≤ b.now → a.now ≤ (settle b).now
settled_later a b l = let e : (settle b).now ≡ b.now = repeat_keeps (λ (c : Schedule). c.now) move move_now (moves_left b) b in omega (arith, e, l)

pub finished_later : (a b : Schedule) → a.now ≤ b.now → a.now ≤ (hand_out (settle b)).now
finished_later a b l = let e : (hand_out (settle b)).now ≡ (settle b).now = repeat_keeps (λ (c : Schedule). c.now) hand_one hand_now (serials_left (settle b)) (settle b) in let k = settled_later a b l in omega (arith, e, k)

-- ---- what is left of a draft
-- with it the graphs are changed and the rest is the draft's
pub closed_is : (g : GraphChange) (a : Schedule) (d : DraftValue) (t : Occupied) (n : Rest) (ps : Vec Patch) → d.base ≡ a → IsOver g a d.content → IsRestOf d t n → applied (record { graphs = g; patches = ps; rest = Some n }) a ≡ completed g d.content
closed_is g a d t n ps base over rest =
    let b : Schedule = d.content in
    completed_by g a (pools_in n.occupied.pools.pools) n.clock n.lanes n.serial (edited n.edits a.runs)
    ∙ ap (completed g)
    (ap (λ (l : Bounds). with_rest (Some n) (record a { limits = l; graphs = drafted g a.graphs })) (sym over.limits)
    ∙ (ap (λ (gs : List LoadedGraph). with_rest (Some n) (record a { limits = b.limits; graphs = gs })) (sym over.graphs)
    ∙ (ap (λ (s : Schedule). with_rest (Some n) (record s { limits = b.limits; graphs = b.graphs })) (sym base) ∙ rest.made)))

-- a text that is taken in last leaves the clock and the runs
completed_due : (g : GraphChange) (b : Schedule) (P : ℕ → List Run → Type 0) → P b.now b.runs → P (completed g b).now (completed g b).runs
completed_due graphs.Same b P h = h
completed_due (graphs.Load text dag shelf dates) b P h = h
completed_due (graphs.Pause id paused) b P h = h
completed_due (graphs.Replace graph shelves) b P h = h

-- and it is an effect, with the rows that then differ
pub closed_effect : (g : GraphChange) (a : Schedule) (d : DraftValue) (t : Occupied) (n : Rest) (ps : Vec Patch) (rows : Rows) → d.base ≡ a → IsOver g a d.content → IsRestOf d t n → IsFitted g → IsLast g d.content
    → IsHeldWith true (completed g d.content) t → rows ≡ rows_between a (completed g d.content)
    → ((ss : List ShelfValue) → AreShelvesOf a.now a.graphs a.runs ss → HoldsAfter g d.content.now a.graphs d.content.runs (patched ps.items ss))
    → IsEffect (record { graphs = g; patches = ps; rest = Some n }) rows a
closed_effect g a d t n ps rows base over rest fitted last held rows_are shelves =
    let is = closed_is g a d t n ps base over rest in
    record {
      keeps = λ numbers was before. subst (IsHeldWith true (applied (record { graphs = g; patches = ps; rest = Some n }) a)) (sym rest.numbers) (subst (λ (s : Schedule). IsHeldWith true s t) (sym is) held);
      shelves = λ ss h. subst (λ (s : Schedule). HoldsAfter g s.now a.graphs s.runs (patched ps.items ss)) (sym is) (completed_due g d.content (λ now rs. HoldsAfter g now a.graphs rs (patched ps.items ss)) (shelves ss h));
      fitted = fitted;
      last = subst (IsLast g) (sym is) (completed_last g d.content last);
      edits = subst (λ (s : Schedule). AreEditsOf s.runs n.edits) base rest.edits;
      rows_are = rows_are ∙ ap (rows_between a) (sym is);
    }
