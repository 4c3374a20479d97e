-- What is ready of one graph, by place.
use Rattle.std.specs.Prelude.{◌≡◌, ℕ, ◌<◌, true, List, [], length, Option, Some, slice_get}
use Rattle.dag_check.specs.Orders.{is_in}
use Rattle.sched_ready.specs.Leading.{IsLeast, IsLedOn, IsShaped, IsSoonestOn, LeadsOn, everywhere, is_led}
use Rattle.sched_ready.specs.declared.leading.First.{First}
use Rattle.sched_ready.specs.declared.queues.Queue.{Queue}

-- by place the weights, the kinds and the queues; of each kind a place of it
pub record ShelfValue : Type 0 where
  pub weights : List ℕ
  pub kinds : List ℕ
  pub samples : List ℕ
  pub queues : List Queue

-- what a shelf keeps: the bounds are right for all places, there is one for each kind, and none of them ranks before the least
pub record Leads (s : ShelfValue) (fs : List (Option First)) (soonest : Option ℕ) (bound : Option First) : Type 0 where
  pub samples : length s.samples ≡ length fs
  pub shaped : IsShaped s.weights s.kinds s.queues fs
  pub bounds : LeadsOn everywhere s.weights s.kinds s.queues fs soonest
  pub least : IsLeast fs bound

abbrev pub shelf_value : List ℕ → List ℕ → List ℕ → List Queue → ShelfValue
shelf_value ws ks ps qs = record { weights = ws; kinds = ks; samples = ps; queues = qs }

-- no ready date of the kind ranks before the bound
abbrev pub IsLedBy : ShelfValue → ℕ → Option First → Type 0
IsLedBy s kind first = IsLedOn everywhere s.weights s.kinds s.queues kind first

-- no ready date of the shelf ranks before the bound
abbrev pub IsLed : ShelfValue → Option First → Type 0
IsLed s first = (n w d : ℕ) (q : Queue) → slice_get s.weights n ≡ Some w → slice_get s.queues n ≡ Some q → is_in q.ready.keys d ≡ true → is_led w d first ≡ true

-- no moment that waits is before the bound
abbrev pub IsSoonest : ShelfValue → Option ℕ → Type 0
IsSoonest s soonest = IsSoonestOn everywhere s.queues soonest

-- each place has a queue, a weight and one of the kinds
pub record HasKinds (s : ShelfValue) : Type 0 where
  pub weights : length s.weights ≡ length s.queues
  pub kinds : length s.kinds ≡ length s.queues
  pub each : (n k : ℕ) → slice_get s.kinds n ≡ Some k → k < length s.samples

-- nothing stands in the queue
pub record IsEmpty (q : Queue) : Type 0 where
  pub ready : q.ready.keys ≡ []
  pub waiting : q.waiting.keys ≡ []

abbrev pub AreEmpty : List Queue → Type 0
AreEmpty qs = (p : ℕ) (q : Queue) → slice_get qs p ≡ Some q → IsEmpty q

abbrev pub AreAllEmpty : List ShelfValue → Type 0
AreAllEmpty ss = (n : ℕ) (s : ShelfValue) → slice_get ss n ≡ Some s → AreEmpty s.queues
