-- What a clock gives when it is asked.
use Rattle.std.specs.Prelude.{ℕ, List, [], ◌∷◌, flat_map, Result, Ok, Err}
use Rattle.sessions.specs.declared.clocks.ClockFault.{ClockFault}

-- the moment that it is, or why there is none
abbrev pub Reading : Type 0
Reading = Result ℕ ClockFault

-- the moment that was read, if one was, and those of several readings
abbrev pub moment_read : Reading → List ℕ
moment_read (Ok moment) = moment ∷ []
moment_read (Err fault) = []

abbrev pub moments_in : List Reading → List ℕ
moments_in readings = flat_map moment_read readings
