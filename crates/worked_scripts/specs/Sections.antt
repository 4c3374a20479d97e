-- How a script is run.
use Rattle.std.specs.Prelude.{◌≤◌}
use Rattle.worked_scripts.specs.declared.sections.Kind.{Kind}
use Rattle.worked_scripts.specs.declared.sections.Kind.TheVariants.{Lanes, Workers, Logged, Told, Stops, Long, Tasks, Single, Events, Memory}

-- with no more lanes and no more workers than there may be
abbrev pub IsWithin : Kind → Type 0
IsWithin (Lanes lanes) = lanes ≤ 64
IsWithin (Workers workers) = workers ≤ 16
IsWithin Logged = Unit {0}
IsWithin Told = Unit {0}
IsWithin (Stops part) = Unit {0}
IsWithin (Long count) = Unit {0}
IsWithin (Tasks count) = Unit {0}
IsWithin Single = Unit {0}
IsWithin Events = Unit {0}
IsWithin Memory = Unit {0}
