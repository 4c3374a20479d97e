-- The choice among what stands on shelves.
use Rattle.std.specs.Prelude.{◌≡◌, ℕ, zero, suc, ◌+◌, ◌<◌, ◌==◌, Bool, true, false, ◌&&◌, ◌||◌, ◌⊎◌, List, [], ◌∷◌, length, Option, Some, None, slice_get, nat_le, nat_lt}
use Rattle.std.specs.List.{list_any}
use Rattle.dag_check.specs.Graphs.{Dag, task_of}
use Rattle.dag_check.specs.Orders.{is_in}
use Rattle.pool_book.specs.Ranks.{RankParts, rank_cmp}
use Rattle.sched_model.specs.Handout.{Offer, fits, last_serial, rank_parts, ranks_before}
use Rattle.sched_model.specs.Schedule.{Schedule, bound_of, dag_named, is_paused, size_of}
use Rattle.sched_model.specs.States.{active_tries, in_flight, occupied}
use Rattle.sched_state.specs.Lists.{is_less, same}
use Rattle.sched_state.specs.declared.graphs.LoadedGraph.{LoadedGraph}
use Rattle.sched_laws.specs.Offered.{IsEligible}
use Rattle.sched_ready.specs.Due.{is_found}
use Rattle.sched_draft.specs.Drafts.{DraftValue}
use Rattle.sched_ready.specs.Held.{AreShelvesOf, IsLater, WeighTasks}
use Rattle.sched_ready.specs.Shelves.{ShelfValue}
use Rattle.sched_ready.specs.declared.leading.First.{First}
use Rattle.sched_ready.specs.declared.queues.Queue.{Queue}
use Rattle.sched_handout.specs.Candidates.{positions}
use Rattle.sched_handout.specs.declared.candidates.Candidate.{Candidate}
use Rattle.sched_handout.specs.declared.shelving.Best.{Best}

-- the graph with the id stands at the position
pub record IsGraphAt (gs : List LoadedGraph) (n : ℕ) (id : List ℕ) : Type 0 where
  pub loaded : LoadedGraph
  pub there : slice_get gs n ≡ Some loaded
  pub named : same loaded.dag.spec.dag_id id ≡ true

-- the pool has room for the slots, a lane is free, a serial is left, and the graph may have one more try
abbrev pub fits_with : Schedule → List ℕ → List ℕ → ℕ → Bool
fits_with a id pool slots = nat_le (occupied a pool + slots) (size_of a pool) && ((nat_lt (in_flight a) a.lanes && nat_le a.next last_serial) && nat_lt (active_tries a id) (bound_of a id))

-- the graph with the id of this one stands at the position, and its bound is the one that stands there
pub record IsBoundAt (a : Schedule) (n : ℕ) (g : Dag) : Type 0 where
  pub loaded : IsGraphAt a.graphs n g.spec.dag_id
  pub bound : bound_of a g.spec.dag_id ≡ loaded.loaded.max_active_tasks

-- it is this graph, with its weights, and not paused
pub record IsLoaded (a : Schedule) (n : ℕ) (g : Dag) (ws : List ℕ) : Type 0 where
  pub at : IsBoundAt a n g
  pub dag : g ≡ dag_named a g.spec.dag_id
  pub unpaused : is_paused a g.spec.dag_id ≡ false
  pub weights : WeighTasks g ws

-- a task stands at the place, and offers of it fit
pub record IsFitting (a : Schedule) (g : Dag) (p : ℕ) : Type 0 where
  pub within : p < length g.tasks
  pub fits : fits_with a g.spec.dag_id (task_of g p).pool (task_of g p).pool_slots ≡ true

-- the offer is of the graph and the place, and of one of the dates
abbrev pub stands_among : List ℕ → ℕ → List ℕ → Offer → Bool
stands_among id p dates x = same x.graph id && (x.place == p && is_in dates x.logical)

-- the offer is of the graph and the place, at a date that waits for a moment that has come
abbrev pub stands_waiting : ℕ → List ℕ → ℕ → List (ℕ × ℕ) → Offer → Bool
stands_waiting now id p pairs x = same x.graph id && (x.place == p && list_any (λ (w : ℕ × ℕ). nat_le w.0 now && w.1 == x.logical) pairs)

-- the offer is of the graph and the place, and its date is found in the queue
abbrev pub stands_found : ℕ → List ℕ → ℕ → Queue → Offer → Bool
stands_found now id p q x = stands_among id p q.ready.keys x || stands_waiting now id p q.waiting.keys x

-- nothing is offered of the graph and the place at these dates
abbrev pub NoneAmong : Schedule → List ℕ → ℕ → List ℕ → Type 0
NoneAmong a id p dates = (x : Offer) → IsEligible a x → stands_among id p dates x ≡ false

-- what is offered of the graph and the place at the date
abbrev pub IsOfferOf : Schedule → List ℕ → ℕ → ℕ → Option Offer → Type 0
IsOfferOf a id p date None = NoneAmong a id p (date ∷ [])
IsOfferOf a id p date (Some o) = IsEligible a o × (stands_among id p (date ∷ []) o ≡ true)

-- what was chosen ranks before what has these parts
abbrev pub is_behind : RankParts → Option Best → Bool
is_behind parts None = false
is_behind parts (Some b) = is_less (rank_cmp (rank_parts b.offer) parts)

-- it fits, and of the offers of which P holds none that fits ranks before it; its graph stands where is said
pub record IsBest (P : Offer → Bool) (a : Schedule) (b : Best) : Type 0 where
  pub eligible : IsEligible a b.offer
  pub fitting : fits a b.offer ≡ true
  pub first : (x : Offer) → IsEligible a x → P x ≡ true → fits a x ≡ true → ranks_before x b.offer ≡ false
  pub placed : IsGraphAt a.graphs b.graph b.offer.graph

-- of the offers of which P holds it is the first in rank that fits; it may be another that fits
abbrev pub IsBestOf : (Offer → Bool) → Schedule → Option Best → Type 0
IsBestOf P a None = (x : Offer) → IsEligible a x → P x ≡ true → fits a x ≡ false
IsBestOf P a (Some b) = IsBest P a b

-- ---- shelves
-- the queue, where there is one, has the date
abbrev pub is_found_if : ℕ → Option Queue → ℕ → Bool
is_found_if now None date = false
is_found_if now (Some q) date = is_found now q date

abbrev pub is_kind : ℕ → Option ℕ → Bool
is_kind kind None = false
is_kind kind (Some k) = k == kind

-- the offer is of the graph, and its date is found at its place of the shelf
abbrev pub stands_on : ℕ → List ℕ → ShelfValue → Offer → Bool
stands_on now id s x = same x.graph id && is_found_if now (slice_get s.queues x.place) x.logical

-- and its place is of the kind
abbrev pub stands_of : ℕ → List ℕ → ShelfValue → ℕ → Offer → Bool
stands_of now id s kind x = is_kind kind (slice_get s.kinds x.place) && stands_on now id s x

-- and before this place
abbrev pub stands_before : ℕ → List ℕ → ShelfValue → ℕ → ℕ → Offer → Bool
stands_before now id s kind n x = nat_lt x.place n && stands_of now id s kind x

-- its place is of one of the kinds before this one
abbrev pub is_kind_before : ℕ → Option ℕ → Bool
is_kind_before kind None = false
is_kind_before kind (Some k) = nat_lt k kind

abbrev pub stands_of_first : ℕ → List ℕ → ShelfValue → ℕ → Offer → Bool
stands_of_first now id s kind x = is_kind_before kind (slice_get s.kinds x.place) && stands_on now id s x

-- it stands on the shelf of the graph
abbrev pub stands_at : ℕ → Option LoadedGraph → Option ShelfValue → Offer → Bool
stands_at now None s x = false
stands_at now (Some g) None x = false
stands_at now (Some g) (Some s) x = stands_on now g.dag.spec.dag_id s x

-- on one of the first shelves
abbrev pub stands_on_first : ℕ → List LoadedGraph → List ShelfValue → ℕ → Offer → Bool
stands_on_first now gs ss zero x = false
stands_on_first now gs ss (suc n) x = stands_on_first now gs ss n x || stands_at now (slice_get gs n) (slice_get ss n) x

-- on the shelf of this graph, where there is one
abbrev pub stands_there : ℕ → List LoadedGraph → List ShelfValue → Option ℕ → Offer → Bool
stands_there now gs ss None x = false
stands_there now gs ss (Some n) x = stands_at now (slice_get gs n) (slice_get ss n) x

-- what was chosen ranks before all that the bound leads, of the graph at the position
abbrev pub is_first_behind : Option First → ℕ → Option Best → Bool
is_first_behind None n best = true
is_first_behind (Some f) n None = false
is_first_behind (Some f) n (Some b) =
    nat_lt f.weight b.offer.weight || (f.weight == b.offer.weight && (nat_lt b.offer.logical f.logical || (b.offer.logical == f.logical && nat_lt b.graph n)))

-- no moment has come
abbrev pub is_ahead : ℕ → Option ℕ → Bool
is_ahead now None = true
is_ahead now (Some m) = nat_lt now m

-- each eligible offer is of a candidate's run, or stands on a shelf
abbrev pub Covers : List ShelfValue → List Candidate → Schedule → Type 0
Covers ss cs a = (x : Offer) → IsEligible a x → (is_in (positions cs) x.run || stands_on_first a.now a.graphs ss (length ss) x) ≡ true

-- the shelves are those of the schedule under the draft, or of the draft itself
abbrev pub Serve : List ShelfValue → DraftValue → Type 0
Serve ss d = (AreShelvesOf d.base.now d.base.graphs d.base.runs ss × IsLater d.base d.content) ⊎ AreShelvesOf d.content.now d.content.graphs d.content.runs ss
