-- What a listed clock gave.
use Rattle.std.specs.Prelude.{◌≡◌, ℕ, List, [], ◌++◌, flat_map}
use Rattle.std.proofs.Common.{sym, append-nil}
use Rattle.sched_model.specs.Schedule.{Schedule}
use Rattle.sessions.specs.Readings.{Reading, moment_read}
use Rattle.worked_scripts.specs.declared.listed_clock.ListedClock.{ListedClock}

-- the moments that a clock gave
abbrev pub given_of : ListedClock → List ℕ
given_of c = c.given.items

-- from one state of it to another it gave the moments of these readings
abbrev pub Gives : ListedClock → List (Schedule × Reading) → ListedClock → Type 0
Gives c readings later = given_of later ≡ given_of c ++ flat_map (λ r. moment_read r.1) readings

pub gives_none : (c : ListedClock) → Gives c [] c
gives_none c = sym (append-nil (given_of c))
