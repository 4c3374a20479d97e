-- What is true of each schedule that is held.
use Rattle.std.specs.Prelude.{◌≡◌, None}
use Rattle.sched_laws.specs.sched_model.Schedule.{Schedule}
use Rattle.sched_laws.specs.sched_model.Settle.{move}
use Rattle.sched_laws.specs.sched_model.Handout.{hand_one}
use Rattle.sched_laws.specs.sched_model.Sound.{IsSound, AllSay}

-- it is sound, and its graphs are what their texts say: so much is asked of a record that is read
pub record IsSoundAndSaid (a : Schedule) : Type 0 where
  pub sound : IsSound a
  pub said : AllSay a.graphs

-- neither a move nor a hand-out is possible
pub record IsSettled (a : Schedule) : Type 0 where
  pub settled : move a ≡ None
  pub handed : hand_one a ≡ None

-- all of it: so each event leaves the schedule
pub record IsSettledAndSound (a : Schedule) : Type 0 where
  pub sound : IsSound a
  pub said : AllSay a.graphs
  pub settled : move a ≡ None
  pub handed : hand_one a ≡ None
